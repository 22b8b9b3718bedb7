use Rattle.std.proofs.Common.{false, ap, sym, ◌∙◌}
use Rattle.std.specs.Option.{option_map_or}
use Rattle.jsgen_syntax.specs.Buffer.{buffer_bytes}
use Rattle.jsgen_model.specs.Marks.{closes_link}
use Rattle.jsgen_printer.specs.Printer.{pen_of}
use Rattle.jsgen_printer.proofs.Marked.{link_by_byte}
use Rattle.jsgen_printer.proofs.Texts.{code_is_text}
use Rattle.jsgen_printer.proofs.printer.Printer.ends_in_link.Goals as goal

pub returns-in-Some : goal.returns-in-Some
unfolding pen_of
returns-in-Some c =
    let code = c.args.self.now.code in
    c.closes_link.ensures ∙ ap (λ o. option_map_or closes_link o false) (sym c.in-Some.is ∙ c.last_byte.ensures) ∙ link_by_byte (buffer_bytes code) (code_is_text code)

pub returns-in-None : goal.returns-in-None
unfolding pen_of
returns-in-None c =
    let code = c.args.self.now.code in
    ap (λ o. option_map_or closes_link o false) (sym c.in-None.is ∙ c.last_byte.ensures) ∙ link_by_byte (buffer_bytes code) (code_is_text code)
