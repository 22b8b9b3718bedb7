use Rattle.jsgen_printer.proofs.printer.Printer.unary_stands_apart.Goals as goal

pub returns-in-UnaryPlus : goal.returns-in-UnaryPlus
returns-in-UnaryPlus c = rw c.in-UnaryPlus.is assumption

pub returns-in-UnaryNegation : goal.returns-in-UnaryNegation
returns-in-UnaryNegation c = rw c.in-UnaryNegation.is assumption
