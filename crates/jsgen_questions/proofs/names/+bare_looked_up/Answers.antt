use Rattle.std.proofs.Common.{rules}
use Rattle.jsgen_tree.proofs.Knot.{plain_expression, plain_assignment_target, plain_declaration, plain_binding_pattern, plain_statement, plain_class_element}
use Rattle.jsgen_questions.proofs.names.+bare_looked_up.Goals as goal

pub returns-in-IdentifierReference-clause-reference : goal.returns-in-IdentifierReference-clause-reference
returns-in-IdentifierReference-clause-reference t c = search (rules, plain_expression)

pub returns-in_default-clause-reference : goal.returns-in_default-clause-reference
returns-in_default-clause-reference t c = search (rules, plain_expression)

pub returns-in-IdentifierReference-target-clause-reference : goal.returns-in-IdentifierReference-target-clause-reference
returns-in-IdentifierReference-target-clause-reference t c = search (rules, plain_assignment_target)

pub returns-in_default-target-clause-reference : goal.returns-in_default-target-clause-reference
returns-in_default-target-clause-reference t c = search (rules, plain_assignment_target)

pub returns-in-Declaration-statement-clause-reference : goal.returns-in-Declaration-statement-clause-reference
returns-in-Declaration-statement-clause-reference t c = search (rules, plain_statement)

pub returns-in_default-statement-clause-reference : goal.returns-in_default-statement-clause-reference
returns-in_default-statement-clause-reference t c = search (rules, plain_statement)

pub returns-in-Declaration-clause-reference : goal.returns-in-Declaration-clause-reference
returns-in-Declaration-clause-reference t c = search (rules, plain_declaration)

pub returns-in-BindingPattern-clause-reference : goal.returns-in-BindingPattern-clause-reference
returns-in-BindingPattern-clause-reference t c = search (rules, plain_binding_pattern)

pub returns-in-IdentifierReference-clause-target : goal.returns-in-IdentifierReference-clause-target
returns-in-IdentifierReference-clause-target t c = search (rules, plain_expression)

pub returns-in_default-clause-target : goal.returns-in_default-clause-target
returns-in_default-clause-target t c = search (rules, plain_expression)

pub returns-in-IdentifierReference-target-clause-target : goal.returns-in-IdentifierReference-target-clause-target
returns-in-IdentifierReference-target-clause-target t c = search (rules, plain_assignment_target)

pub returns-in_default-target-clause-target : goal.returns-in_default-target-clause-target
returns-in_default-target-clause-target t c = search (rules, plain_assignment_target)

pub returns-in-Declaration-statement-clause-target : goal.returns-in-Declaration-statement-clause-target
returns-in-Declaration-statement-clause-target t c = search (rules, plain_statement)

pub returns-in_default-statement-clause-target : goal.returns-in_default-statement-clause-target
returns-in_default-statement-clause-target t c = search (rules, plain_statement)

pub returns-in-Declaration-clause-target : goal.returns-in-Declaration-clause-target
returns-in-Declaration-clause-target t c = search (rules, plain_declaration)

pub returns-in-BindingPattern-clause-target : goal.returns-in-BindingPattern-clause-target
returns-in-BindingPattern-clause-target t c = search (rules, plain_binding_pattern)

pub returns-in-ClassElement-clause-reference : goal.returns-in-ClassElement-clause-reference
returns-in-ClassElement-clause-reference t c = search (rules, plain_class_element)

pub returns-in-ClassElement-clause-target : goal.returns-in-ClassElement-clause-target
returns-in-ClassElement-clause-target t c = search (rules, plain_class_element)
