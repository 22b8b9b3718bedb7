-- Generated from tools/nodes/table.txt; edit that and run tools/nodes/generate.
-- Each set's own lemma.
use Rattle.std.proofs.Common.{rules}
use Rattle.jsgen_tree.proofs.Knot.{expression_spans, assignment_target_spans, declaration_spans, statement_spans, binding_pattern_spans, class_element_spans}
use Rattle.jsgen_tree.proofs.span.NodeGetSpan.+node_span.Goals as goal

pub returns-in-Expression : goal.returns-in-Expression
returns-in-Expression t c = search (rules, expression_spans)

pub returns-in-AssignmentTarget : goal.returns-in-AssignmentTarget
returns-in-AssignmentTarget t c = search (rules, assignment_target_spans)

pub returns-in-Declaration : goal.returns-in-Declaration
returns-in-Declaration t c = search (rules, declaration_spans)

pub returns-in-Statement : goal.returns-in-Statement
returns-in-Statement t c = search (rules, statement_spans)

pub returns-in-BindingPattern : goal.returns-in-BindingPattern
returns-in-BindingPattern t c = search (rules, binding_pattern_spans)

pub returns-in-ClassElement : goal.returns-in-ClassElement
returns-in-ClassElement t c = search (rules, class_element_spans)
