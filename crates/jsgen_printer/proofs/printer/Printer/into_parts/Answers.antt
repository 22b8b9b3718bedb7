use Rattle.std.proofs.Common.{sym, ◌∙◌}
use Rattle.std.proofs.lemmas.Str.{encodes-chars}
use Rattle.jsgen_syntax.specs.Buffer.{buffer_bytes}
use Rattle.jsgen_printer.specs.Printer.{pen_of}
use Rattle.jsgen_printer.proofs.Texts.{code_is_text}
use Rattle.jsgen_printer.proofs.printer.Printer.into_parts.Goals as goal

pub returns-clause-text : goal.returns-clause-text
unfolding pen_of
returns-clause-text c = c.into_string.ensures ∙ sym (encodes-chars (buffer_bytes c.args.self.code) (code_is_text c.args.self.code))
