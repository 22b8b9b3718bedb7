use Rattle.std.proofs.Common.{map, refl}
use Rattle.jsgen_tree.specs.Tree.{trees}
use Rattle.jsgen_model.specs.Spell.{spell_elements_of_class}
use Rattle.jsgen_printer.proofs.Turns.{turn, left_as, done}
use Rattle.jsgen_lists.proofs.Turns.{items_left, none_left}
use Rattle.jsgen_lists.proofs.elements_of_class.print_elements_of_class.Goals as goal

pub loop-member-preserved : goal.loop-member-preserved
loop-member-preserved g l =
    let items = λ (ms : _). spell_elements_of_class (trees (map g.L.PrintMember.plain ms)) l.args.place in
    let left = left_as (items_left items l.args.members.now l.loop-member.member-index l.member-item.result l.loop-member-test.true l.member-item.is) l.loop-member.invariant in
    turn (turn left l.print_due_semicolon.ensures) l.print_member.ensures

pub returns : goal.returns
returns g l =
    let items = λ (ms : _). spell_elements_of_class (trees (map g.L.PrintMember.plain ms)) l.args.place in
    done (λ pen. refl) (left_as (none_left items l.args.members.now l.loop-member.member-index l.loop-member-test.false) l.loop-member.invariant)
