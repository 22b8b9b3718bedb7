-- Generated from tools/nodes/table.txt; edit that and run tools/nodes/generate.
-- What this part prints is printed as it is elsewhere, and what it doesn't is in a later one.
use Rattle.jsgen_nodes.proofs.Parts.{expression_past_5}
use Rattle.jsgen_nodes.proofs.sets.print_expression_in_templates.Goals as goal

pub returns-in-TemplateLiteral : goal.returns-in-TemplateLiteral
returns-in-TemplateLiteral g c = rw c.in-TemplateLiteral.is (rw c.deref.ensures at c.print_template_literal.ensures)

pub returns-in-TaggedTemplateExpression : goal.returns-in-TaggedTemplateExpression
returns-in-TaggedTemplateExpression g c = rw c.in-TaggedTemplateExpression.is (rw c.deref-in-TaggedTemplateExpression.ensures at c.print_tagged_template_expression.ensures)

pub returns-in-ImportExpression : goal.returns-in-ImportExpression
returns-in-ImportExpression g c = rw c.in-ImportExpression.is (rw c.deref-in-ImportExpression.ensures at c.print_import_expression.ensures)

pub returns-in_default : goal.returns-in_default
returns-in_default g c = c.print_expression_in_classes.ensures

pub print_expression_in_classes-requires : goal.print_expression_in_classes-requires
print_expression_in_classes-requires g c = expression_past_5 c.args.node.now c.requires c.in_default.not-TemplateLiteral c.in_default.not-TaggedTemplateExpression c.in_default.not-ImportExpression
