use Rattle.std.proofs.Common.{map, refl}
use Rattle.jsgen_tree.specs.Tree.{trees}
use Rattle.jsgen_model.specs.Spell.{spell_cases}
use Rattle.jsgen_printer.proofs.Turns.{turn, left_as, done}
use Rattle.jsgen_lists.proofs.Turns.{items_left, none_left}
use Rattle.jsgen_lists.proofs.cases.print_cases.Goals as goal

pub loop-case-preserved : goal.loop-case-preserved
loop-case-preserved g l =
    let items = λ (ms : _). spell_cases (trees (map g.L.PrintMember.plain ms)) in
    let left = left_as (items_left items l.args.cases.now l.loop-case.case-index l.case-item.result l.loop-case-test.true l.case-item.is) l.loop-case.invariant in
    turn (turn left l.print_due_semicolon.ensures) (rw l.among_statements.ensures at l.print_member.ensures)

pub returns : goal.returns
returns g l =
    let items = λ (ms : _). spell_cases (trees (map g.L.PrintMember.plain ms)) in
    done (λ pen. refl) (left_as (none_left items l.args.cases.now l.loop-case.case-index l.loop-case-test.false) l.loop-case.invariant)
