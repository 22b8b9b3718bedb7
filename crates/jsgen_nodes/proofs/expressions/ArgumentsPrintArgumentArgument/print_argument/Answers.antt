use Rattle.jsgen_nodes.proofs.expressions.ArgumentsPrintArgumentArgument.print_argument.Goals as goal

pub returns-in-SpreadElement : goal.returns-in-SpreadElement
returns-in-SpreadElement g c = rw (c.in-SpreadElement.is, ← c.deref.ensures) c.print_spread_element.ensures

pub returns-in-Expression : goal.returns-in-Expression
returns-in-Expression g c = rw c.in-Expression.is (rw (c.get.ensures, c.deref-in-Expression.ensures) at c.print.ensures)
