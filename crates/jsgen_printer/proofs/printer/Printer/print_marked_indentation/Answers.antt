use Rattle.std.proofs.Common.{ap, sym, ◌∙◌}
use Rattle.jsgen_model.specs.Items.{indentation, marked_indentation}
use Rattle.jsgen_model.specs.Lay.{lay, mark_behind}
use Rattle.jsgen_printer.specs.Printer.{pen_of}
use Rattle.jsgen_printer.proofs.Sequence.{goes_laid, items_go, ◌⨾◌}
use Rattle.jsgen_printer.proofs.printer.Printer.print_marked_indentation.Goals as goal

pub returns-then-may_be_indented : goal.returns-then-may_be_indented
returns-then-may_be_indented c = goes_laid (marked_indentation c.args.always c.args.span) (ap (λ b. mark_behind b c.args.span (lay indentation (pen_of c.args.self.now))) (sym c.if-may_be_indented.true ∙ c.may_be_indented-may_be_indented.ensures)) (items_go (c.print_indentation.ensures ⨾ c.print_mark.ensures))

pub returns-else-may_be_indented : goal.returns-else-may_be_indented
returns-else-may_be_indented c = goes_laid (marked_indentation c.args.always c.args.span) (ap (λ b. mark_behind b c.args.span (lay indentation (pen_of c.args.self.now))) (sym c.if-may_be_indented.false ∙ c.may_be_indented-may_be_indented.ensures)) (items_go c.print_indentation.ensures)
