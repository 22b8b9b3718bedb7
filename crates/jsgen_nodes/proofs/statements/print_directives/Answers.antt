use Rattle.std.proofs.Common.{map, refl}
use Rattle.jsgen_tree.specs.Tree.{trees}
use Rattle.jsgen_tree.specs.Rows.{directive_row}
use Rattle.jsgen_model.specs.Spell.{spell_directives}
use Rattle.jsgen_printer.proofs.Turns.{turn, left_as, done}
use Rattle.jsgen_lists.proofs.Turns.{items_left, none_left}
use Rattle.jsgen_nodes.proofs.statements.print_directives.Goals as goal

pub loop-directive-preserved : goal.loop-directive-preserved
loop-directive-preserved l =
    let items = λ (ds : _). spell_directives (trees (map directive_row ds)) in
    let left = left_as (items_left items l.args.directives.now l.loop-directive.directive-index l.directive-item.result l.loop-directive-test.true l.directive-item.is) l.loop-directive.invariant in
    turn left l.print_directive.ensures

pub returns : goal.returns
returns l =
    let items = λ (ds : _). spell_directives (trees (map directive_row ds)) in
    done (λ pen. refl) (left_as (none_left items l.args.directives.now l.loop-directive.directive-index l.loop-directive-test.false) l.loop-directive.invariant)
