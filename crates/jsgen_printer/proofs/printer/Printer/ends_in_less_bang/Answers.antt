use Rattle.std.proofs.Common.{◌∙◌}
use Rattle.jsgen_syntax.specs.Buffer.{buffer_bytes}
use Rattle.jsgen_printer.specs.Printer.{pen_of}
use Rattle.jsgen_printer.proofs.Texts.{code_is_text}
use Rattle.jsgen_printer.proofs.Bangs.{ends_by_bytes}
use Rattle.jsgen_printer.proofs.printer.Printer.ends_in_less_bang.Goals as goal

pub returns : goal.returns
unfolding pen_of
returns c =
    let code = c.args.self.now.code in
    (rw c.as_bytes.ensures at c.ends_with.ensures.value) ∙ ends_by_bytes (buffer_bytes code) (code_is_text code)
