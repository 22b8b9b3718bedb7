use Rattle.std.proofs.Common.{◌∙◌, ap, false}
use Rattle.std.proofs.lemmas.Str.{chars-nil}
use Rattle.jsgen_tree.specs.Options.{options_plain}
use Rattle.jsgen_tree.specs.Rows.{expression_plain}
use Rattle.jsgen_tree.specs.Plain.{node_plain}
use Rattle.jsgen_tree.specs.Tree.{span_of}
use Rattle.jsgen_tree.proofs.Knot.{plain_expression, expression_spans}
use Rattle.jsgen_model.specs.Valid.{at_top}
use Rattle.jsgen_check.specs.Verdict.{tables_of, surroundings_plain}
use Rattle.jsgen_check.proofs.Alone.{of_expression}
use Rattle.jsgen_check.proofs.check_expression.Goals as goal

pub returns : goal.returns
unfolding surroundings_plain
returns c =
    let options = options_plain c.args.options.now in
    let tables = tables_of c.args.scoping c.args.private in
    let span = expression_spans c.args.expression.now ∙ ap span_of (plain_expression c.args.expression.now) in
    let same = ap (λ x. at_top options tables x false) chars-nil in
    of_expression _ options tables _ (expression_plain node_plain c.args.expression.now) same (c.span.ensures ∙ span) c.check_top.ensures c.check_alone-found.ensures
