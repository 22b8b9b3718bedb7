use Rattle.jsgen_nodes.proofs.functions.print_arrow_function_body.Goals as goal

pub returns-in-FunctionBody : goal.returns-in-FunctionBody
returns-in-FunctionBody g c = rw (c.in-FunctionBody.is, ← c.deref.ensures) c.print_function_body.ensures

pub returns-in-Expression : goal.returns-in-Expression
returns-in-Expression g c = rw c.in-Expression.is (rw (c.get.ensures, c.deref-in-Expression.ensures) at c.print.ensures)
