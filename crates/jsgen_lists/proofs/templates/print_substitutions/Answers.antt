use Rattle.std.proofs.Common.{map, refl, ap, sym, drop, ◌+◌}
use Rattle.jsgen_tree.specs.Rows.{template_element_row}
use Rattle.jsgen_tree.specs.Tree.{trees}
use Rattle.jsgen_model.specs.Spell.{spell_substitutions}
use Rattle.jsgen_printer.proofs.Turns.{turn, left_as, done}
use Rattle.jsgen_lists.proofs.Turns.{items_left, none_left, left_grouped}
use Rattle.jsgen_lists.proofs.templates.print_substitutions.Goals as goal

pub loop-expression-preserved : goal.loop-expression-preserved
loop-expression-preserved g l =
    let each = λ (es : _). trees (map g.L.PrintSubstitution.plain es) in
    let items = λ (es : _). spell_substitutions l.args.tagged (each es) (trees (map template_element_row l.loop-expression.left.now)) in
    let left = left_as (items_left items l.args.expressions.now l.loop-expression.expression-index l.expression-item.result l.loop-expression-test.true l.expression-item.is) l.loop-expression.invariant in
    left_as (ap (λ ps. spell_substitutions l.args.tagged (each (drop (l.loop-expression.expression-index + 1) l.args.expressions.now)) ps) (sym l.other_pieces-left.ensures))
    (turn (turn (left_grouped _ (λ pen. refl) left) l.print_substitution.ensures) l.print_further_piece.ensures)

pub returns : goal.returns
returns g l =
    let items = λ (es : _). spell_substitutions l.args.tagged (trees (map g.L.PrintSubstitution.plain es)) (trees (map template_element_row l.loop-expression.left.now)) in
    done (λ pen. refl) (left_as (none_left items l.args.expressions.now l.loop-expression.expression-index l.loop-expression-test.false) l.loop-expression.invariant)
