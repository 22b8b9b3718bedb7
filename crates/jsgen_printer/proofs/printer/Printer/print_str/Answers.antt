use Rattle.jsgen_printer.specs.Printer.{pen_of}
use Rattle.jsgen_printer.proofs.Attempts.{went_on}
use Rattle.jsgen_printer.proofs.Texts.{appended_text}
use Rattle.jsgen_printer.proofs.printer.Printer.print_str.Goals as goal

pub returns-in-Ok : goal.returns-in-Ok
unfolding pen_of
returns-in-Ok c =
    let more = appended_text c.args.self.now.code c.print_str.new.self c.args.text.now c.in-Ok.ensures.appended in
    went_on c.if-self.false c.if-self.false (cc)
