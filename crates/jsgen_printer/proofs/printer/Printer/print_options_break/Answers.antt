use Rattle.std.proofs.Common.{ap, sym, if◌then◌else◌}
use Rattle.jsgen_model.specs.Groups.{on_a_line, unless_on_line}
use Rattle.jsgen_model.specs.Items.{line_break, import_options}
use Rattle.jsgen_printer.specs.Printer.{pen_of}
use Rattle.jsgen_printer.proofs.Comments.{here_adds}
use Rattle.jsgen_printer.proofs.Prefixes.{prefix_append}
use Rattle.jsgen_printer.proofs.Sequence.{goes_laid, goes_then, items_go}
use Rattle.jsgen_printer.proofs.printer.Printer.print_options_break.Goals as goal

pub returns-then-self : goal.returns-then-self
unfolding pen_of
returns-then-self c =
    goes_laid (line_break import_options)
    (ap (λ b. if b then on_a_line import_options (pen_of c.args.self.now) else unless_on_line import_options (pen_of c.args.self.now)) (sym c.if-self.true))
    (goes_then (λ p. prefix_append p.code _) (λ p. (here_adds p).text) (items_go c.print_soft_line.ensures) (items_go c.print_indentation.ensures))
