use Rattle.std.proofs.Common.{◌∙◌, ap}
use Rattle.jsgen_tree.specs.Tree.{span_of}
use Rattle.jsgen_tree.specs.Plain.{node_plain}
use Rattle.jsgen_tree.specs.Rows.{expression_plain}
use Rattle.jsgen_tree.specs.declared.types.NodeSet.TheVariants as sets
use Rattle.jsgen_tree.proofs.Knot.{plain_expression, expression_spans}
use Rattle.jsgen_check.proofs.Bare.{expression_unbound, own_fits}
use Rattle.jsgen_check.proofs.Steps.{broken, found, kept, two_rules}
use Rattle.jsgen_check.proofs.check_place_alone.Goals as goal

pub returns-in_err-check_set : goal.returns-in_err-check_set
returns-in_err-check_set c =
    let span = expression_spans c.args.expression.now ∙ ap span_of (plain_expression c.args.expression.now) in
    let fits = own_fits sets.Expression (expression_plain node_plain c.args.expression.now) (expression_unbound node_plain c.args.expression.now) in
    broken c.from_residual.ensures.1 (two_rules _ _ (found _ ((rw (c.node_type.ensures, c.expression_fits_kind-fits_kind.ensures, c.span-start.ensures, span) at c.in_err-check_set.ensures) ∙ fits)))

pub returns-in_err-check_no_optional_link : goal.returns-in_err-check_no_optional_link
returns-in_err-check_no_optional_link c =
    let span = expression_spans c.args.expression.now ∙ ap span_of (plain_expression c.args.expression.now) in
    let fits = own_fits sets.Expression (expression_plain node_plain c.args.expression.now) (expression_unbound node_plain c.args.expression.now) in
    broken c.from_residual-in_err-check_no_optional_link.ensures.1 (two_rules _ _ (kept ((rw (c.node_type.ensures, c.expression_fits_kind-fits_kind.ensures, c.span-start.ensures, span) at c.in_ok-check_set.ensures) ∙ fits)
    (two_rules _ _ (found _ (rw (c.expression_has_optional_link.ensures, c.span-start.ensures, span) at c.in_err-check_no_optional_link.ensures)))))

pub returns : goal.returns
returns c =
    let span = expression_spans c.args.expression.now ∙ ap span_of (plain_expression c.args.expression.now) in
    let fits = own_fits sets.Expression (expression_plain node_plain c.args.expression.now) (expression_unbound node_plain c.args.expression.now) in
    two_rules _ _ (kept ((rw (c.node_type.ensures, c.expression_fits_kind-fits_kind.ensures, c.span-start.ensures, span) at c.in_ok-check_set.ensures) ∙ fits)
    (two_rules _ _ (kept (rw (c.expression_has_optional_link.ensures, c.span-start.ensures, span) at c.in_ok-check_no_optional_link.ensures) (rw (c.expression_has_uncooked.ensures, c.span-start.ensures, span) at c.check_no_uncooked.ensures))))
