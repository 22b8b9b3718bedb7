use Rattle.jsgen_nodes.proofs.modules.print_export_default_declaration_kind.Goals as goal

pub returns-in-Function : goal.returns-in-Function
returns-in-Function g c = rw c.in-Function.is (rw c.deref.ensures at c.print_exported_function.ensures)

pub returns-in-Class : goal.returns-in-Class
returns-in-Class g c = rw c.in-Class.is (rw c.deref-in-Class.ensures at c.print_exported_class.ensures)

pub returns-in-Expression : goal.returns-in-Expression
returns-in-Expression g c = rw c.in-Expression.is (rw c.deref-in-Expression.ensures at (rw c.get.ensures at c.print_exported_expression.ensures))
