use Rattle.std.proofs.Common.{map, refl}
use Rattle.jsgen_tree.specs.Tree.{trees}
use Rattle.jsgen_model.specs.Spell.{spell_behind_first}
use Rattle.jsgen_printer.proofs.Turns.{turn, left_as, done}
use Rattle.jsgen_lists.proofs.Turns.{items_left, none_left}
use Rattle.jsgen_lists.proofs.arguments.print_behind_first.Goals as goal

pub loop-argument-preserved : goal.loop-argument-preserved
loop-argument-preserved g l =
    let items = λ (es : _). spell_behind_first l.loop-argument.quoted (trees (map g.L.PrintArgument.plain es)) l.args.place in
    let left = left_as (items_left items l.args.arguments.now l.loop-argument.argument-index l.argument-item.result l.loop-argument-test.true l.argument-item.is) l.loop-argument.invariant in
    turn (turn (turn left l.print_comma.ensures) l.print_before_other.ensures) (rw l.quoted_plainly.ensures at l.print_argument.ensures)

pub returns : goal.returns
returns g l =
    let items = λ (es : _). spell_behind_first l.loop-argument.quoted (trees (map g.L.PrintArgument.plain es)) l.args.place in
    done (λ pen. refl) (left_as (none_left items l.args.arguments.now l.loop-argument.argument-index l.loop-argument-test.false) l.loop-argument.invariant)
