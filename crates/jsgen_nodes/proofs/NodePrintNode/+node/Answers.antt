use Rattle.std.proofs.Common.{rules, sym}
use Rattle.jsgen_tree.proofs.Knot.{plain_expression, plain_statement, plain_declaration, plain_binding_pattern, plain_class_element, plain_assignment_target}
use Rattle.jsgen_printer.proofs.Sequence.{nothing_laid}
use Rattle.jsgen_nodes.proofs.Elsewhere.{no_expression_method, no_target_method, no_declaration_method, no_statement_method, no_expression_words, no_target_words, no_declaration_words, no_statement_words}
use Rattle.jsgen_nodes.proofs.NodePrintNode.+node.Goals as goal

pub print-returns-in-Expression : goal.print-returns-in-Expression
print-returns-in-Expression t c = rw (c.in-Expression.is, plain_expression c.in-Expression.node) c.print_expression.ensures

pub print-returns-in-AssignmentTarget : goal.print-returns-in-AssignmentTarget
print-returns-in-AssignmentTarget t c = rw (c.in-AssignmentTarget.is, plain_assignment_target c.in-AssignmentTarget.node) c.print_assignment_target.ensures

pub print-returns-in-Statement : goal.print-returns-in-Statement
print-returns-in-Statement t c = rw (c.in-Statement.is, plain_statement c.in-Statement.node) c.print_statement.ensures

pub print-returns-in-Declaration : goal.print-returns-in-Declaration
print-returns-in-Declaration t c = rw (c.in-Declaration.is, plain_declaration c.in-Declaration.node) c.print_declaration.ensures

pub print-returns-in-BindingPattern : goal.print-returns-in-BindingPattern
print-returns-in-BindingPattern t c = rw (c.in-BindingPattern.is, plain_binding_pattern c.in-BindingPattern.node) c.print_binding_pattern.ensures

pub print_as_method-returns-in-Function : goal.print_as_method-returns-in-Function
print_as_method-returns-in-Function t c = rw (c.in-Expression.is, plain_expression c.in-Expression.expression, c.in-Function.is) (rw c.deref.ensures at c.print_behind_name.ensures)

pub print_as_method-returns-in_default : goal.print_as_method-returns-in_default
print_as_method-returns-in_default t c = rw (c.in-Expression.is, plain_expression c.in-Expression.expression, sym (no_expression_method c.in-Expression.expression c.args.place c.in_default.not-Function)) (nothing_laid c.args.p.now)

pub print_as_method-returns-in-AssignmentTarget : goal.print_as_method-returns-in-AssignmentTarget
print_as_method-returns-in-AssignmentTarget t c = rw (c.in-AssignmentTarget.is, plain_assignment_target c.in-AssignmentTarget.field-0, sym (no_target_method c.in-AssignmentTarget.field-0 c.args.place)) (nothing_laid c.args.p.now)

pub print_as_method-returns-in-Declaration-statement : goal.print_as_method-returns-in-Declaration-statement
print_as_method-returns-in-Declaration-statement t c = search (rules, plain_statement)

pub print_as_method-returns-in_default-statement : goal.print_as_method-returns-in_default-statement
print_as_method-returns-in_default-statement t c = rw (c.in-Statement.is, plain_statement c.in-Statement.statement, sym (no_statement_method c.in-Statement.statement c.args.place c.in_default-statement.not-Declaration)) (nothing_laid c.args.p.now)

pub print_as_method-returns-in-Function-declaration : goal.print_as_method-returns-in-Function-declaration
print_as_method-returns-in-Function-declaration t c = rw (c.in-Declaration.is, plain_declaration c.in-Declaration.declaration, c.in-Function-declaration.is) (rw c.deref-in-Function-declaration.ensures at c.print_behind_name-in-Function-declaration.ensures)

pub print_as_method-returns-in_default-declaration : goal.print_as_method-returns-in_default-declaration
print_as_method-returns-in_default-declaration t c = rw (c.in-Declaration.is, plain_declaration c.in-Declaration.declaration, sym (no_declaration_method c.in-Declaration.declaration c.args.place c.in_default-declaration.not-Function)) (nothing_laid c.args.p.now)

pub print_as_method-returns-in-BindingPattern : goal.print_as_method-returns-in-BindingPattern
print_as_method-returns-in-BindingPattern t c = search (rules, plain_binding_pattern)

pub print-returns-in-ClassElement : goal.print-returns-in-ClassElement
print-returns-in-ClassElement t c = rw (c.in-ClassElement.is, plain_class_element c.in-ClassElement.node) c.print_class_element.ensures

pub print_as_method-returns-in-ClassElement : goal.print_as_method-returns-in-ClassElement
print_as_method-returns-in-ClassElement t c = search (rules, plain_class_element)

pub is_key_of_exports-returns-in-ComputedMemberExpression : goal.is_key_of_exports-returns-in-ComputedMemberExpression
is_key_of_exports-returns-in-ComputedMemberExpression t c = search (rules, plain_expression)

pub is_key_of_exports-returns-in_default : goal.is_key_of_exports-returns-in_default
is_key_of_exports-returns-in_default t c = search (rules, plain_expression)

pub is_key_of_exports-returns-in-AssignmentTarget : goal.is_key_of_exports-returns-in-AssignmentTarget
is_key_of_exports-returns-in-AssignmentTarget t c = search (rules, plain_assignment_target)

pub is_key_of_exports-returns-in-Declaration-statement : goal.is_key_of_exports-returns-in-Declaration-statement
is_key_of_exports-returns-in-Declaration-statement t c = search (rules, plain_statement)

pub is_key_of_exports-returns-in_default-statement : goal.is_key_of_exports-returns-in_default-statement
is_key_of_exports-returns-in_default-statement t c = search (rules, plain_statement)

pub is_key_of_exports-returns-in-Declaration : goal.is_key_of_exports-returns-in-Declaration
is_key_of_exports-returns-in-Declaration t c = search (rules, plain_declaration)

pub is_key_of_exports-returns-in-BindingPattern : goal.is_key_of_exports-returns-in-BindingPattern
is_key_of_exports-returns-in-BindingPattern t c = search (rules, plain_binding_pattern)

pub is_key_of_exports-returns-in-ClassElement : goal.is_key_of_exports-returns-in-ClassElement
is_key_of_exports-returns-in-ClassElement t c = search (rules, plain_class_element)

pub print_method_words-returns-in-Function : goal.print_method_words-returns-in-Function
print_method_words-returns-in-Function t c = rw (c.in-Expression.is, plain_expression c.in-Expression.expression, c.in-Function.is) (rw c.deref.ensures at c.print_method_words.ensures)

pub print_method_words-returns-in_default : goal.print_method_words-returns-in_default
print_method_words-returns-in_default t c = rw (c.in-Expression.is, plain_expression c.in-Expression.expression, sym (no_expression_words c.in-Expression.expression c.in_default.not-Function)) (nothing_laid c.args.p.now)

pub print_method_words-returns-in-AssignmentTarget : goal.print_method_words-returns-in-AssignmentTarget
print_method_words-returns-in-AssignmentTarget t c = rw (c.in-AssignmentTarget.is, plain_assignment_target c.in-AssignmentTarget.field-0, sym (no_target_words c.in-AssignmentTarget.field-0)) (nothing_laid c.args.p.now)

pub print_method_words-returns-in-Declaration-statement : goal.print_method_words-returns-in-Declaration-statement
print_method_words-returns-in-Declaration-statement t c = search (rules, plain_statement)

pub print_method_words-returns-in_default-statement : goal.print_method_words-returns-in_default-statement
print_method_words-returns-in_default-statement t c = rw (c.in-Statement.is, plain_statement c.in-Statement.statement, sym (no_statement_words c.in-Statement.statement c.in_default-statement.not-Declaration)) (nothing_laid c.args.p.now)

pub print_method_words-returns-in-Function-declaration : goal.print_method_words-returns-in-Function-declaration
print_method_words-returns-in-Function-declaration t c = rw (c.in-Declaration.is, plain_declaration c.in-Declaration.declaration, c.in-Function-declaration.is) (rw c.deref-in-Function-declaration.ensures at c.print_method_words-in-Function-declaration.ensures)

pub print_method_words-returns-in_default-declaration : goal.print_method_words-returns-in_default-declaration
print_method_words-returns-in_default-declaration t c = rw (c.in-Declaration.is, plain_declaration c.in-Declaration.declaration, sym (no_declaration_words c.in-Declaration.declaration c.in_default-declaration.not-Function)) (nothing_laid c.args.p.now)

pub print_method_words-returns-in-BindingPattern : goal.print_method_words-returns-in-BindingPattern
print_method_words-returns-in-BindingPattern t c = search (rules, plain_binding_pattern)

pub print_method_words-returns-in-ClassElement : goal.print_method_words-returns-in-ClassElement
print_method_words-returns-in-ClassElement t c = search (rules, plain_class_element)
