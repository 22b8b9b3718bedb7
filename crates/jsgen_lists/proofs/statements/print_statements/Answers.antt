use Rattle.std.proofs.Common.{map, refl}
use Rattle.jsgen_tree.specs.Tree.{trees}
use Rattle.jsgen_model.specs.Spell.{spell_statements}
use Rattle.jsgen_printer.proofs.Turns.{turn, left_as, done}
use Rattle.jsgen_lists.proofs.Turns.{items_left, none_left}
use Rattle.jsgen_lists.proofs.statements.print_statements.Goals as goal

pub loop-statement-preserved : goal.loop-statement-preserved
loop-statement-preserved g l =
    let items = λ (ss : _). spell_statements (trees (map g.S.PrintStatement.plain ss)) in
    let left = left_as (items_left items l.args.statements.now l.loop-statement.statement-index l.statement-item.result l.loop-statement-test.true l.statement-item.is) l.loop-statement.invariant in
    turn (turn (turn left (rw l.start.ensures at l.print_orphans.ensures)) l.print_due_semicolon.ensures) (rw l.among_statements.ensures at l.print_statement.ensures)

pub returns : goal.returns
returns g l =
    let items = λ (ss : _). spell_statements (trees (map g.S.PrintStatement.plain ss)) in
    done (λ pen. refl) (left_as (none_left items l.args.statements.now l.loop-statement.statement-index l.loop-statement-test.false) l.loop-statement.invariant)
