use Rattle.std.proofs.Common.{refl}
use Rattle.std.specs.Str.{chars}
use Rattle.jsgen_syntax.specs.Raw.{template_text}
use Rattle.jsgen_printer.specs.Printer.{pen_of}
use Rattle.jsgen_printer.proofs.Attempts.{went_on, ran_out}
use Rattle.jsgen_printer.proofs.Texts.{appended_chars, stopped_chars}
use Rattle.jsgen_printer.proofs.printer.Printer.print_piece.Goals as goal

pub returns-in-Ok : goal.returns-in-Ok
unfolding pen_of
returns-in-Ok c =
    let more = appended_chars c.args.self.now.code c.print_template_quasi_raw.new.code (template_text c.args.tagged c.args.self.now.minify c.args.self.now.ascii_only (chars c.args.raw.now)) c.in-Ok.ensures.appended in
    went_on c.if-self.false c.if-self.false (cc)

pub returns-in-Err : goal.returns-in-Err
unfolding pen_of
returns-in-Err c =
    let s = stopped_chars c.args.self.now.code c.print_template_quasi_raw.new.code (template_text c.args.tagged c.args.self.now.minify c.args.self.now.ascii_only (chars c.args.raw.now)) c.in-Err.ensures.err in
    ran_out c.if-self.false refl s.0 s.1
