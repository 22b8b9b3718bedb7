use Rattle.std.proofs.Common.{false, ap, sym, ◌∙◌}
use Rattle.std.specs.Option.{option_map_or}
use Rattle.std.specs.Str.{chars}
use Rattle.jsgen_syntax.specs.Buffer.{buffer_bytes}
use Rattle.jsgen_model.specs.Layout.{is_barred_before}
use Rattle.jsgen_printer.specs.Printer.{pen_of}
use Rattle.jsgen_printer.proofs.Patterns.{joins_by_byte}
use Rattle.jsgen_printer.proofs.Texts.{code_is_text}
use Rattle.jsgen_printer.proofs.printer.Printer.joins_pattern.Goals as goal

pub returns-in-Some : goal.returns-in-Some
unfolding pen_of
returns-in-Some c =
    let code = c.args.self.now.code in
    let pattern = chars c.args.pattern.now in
    c.is_barred_before.ensures ∙ ap (λ o. option_map_or (is_barred_before pattern) o false) (sym c.in-Some.is ∙ c.last_byte.ensures) ∙ joins_by_byte pattern (buffer_bytes code) (code_is_text code)

pub returns-in-None : goal.returns-in-None
unfolding pen_of
returns-in-None c =
    let code = c.args.self.now.code in
    let pattern = chars c.args.pattern.now in
    ap (λ o. option_map_or (is_barred_before pattern) o false) (sym c.in-None.is ∙ c.last_byte.ensures) ∙ joins_by_byte pattern (buffer_bytes code) (code_is_text code)
