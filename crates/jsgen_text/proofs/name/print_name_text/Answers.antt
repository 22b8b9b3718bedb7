use Rattle.std.proofs.Common.{◌++◌, ◌&&◌, ap, sym, ◌∙◌}
use Rattle.std.specs.List.{list_any}
use Rattle.std.specs.Str.{chars}
use Rattle.jsgen_syntax.specs.Buffer.{buffer_bytes}
use Rattle.jsgen_syntax.specs.Escapes.{is_past_ascii, name_text}
use Rattle.jsgen_text.proofs.RawTexts.{name_same, past_bytes, text_same}
use Rattle.jsgen_text.proofs.name.print_name_text.Goals as goal

pub returns-in_ok-print_name_escaped-clause-escapes : goal.returns-in_ok-print_name_escaped-clause-escapes
returns-in_ok-print_name_escaped-clause-escapes c =
    c.holds_past_ascii.ensures ∙ (ap (list_any is_past_ascii) c.as_bytes.ensures.value ∙ (past_bytes c.args.s.now c.utf8.s ∙ sym (ap (λ b. b && list_any is_past_ascii (chars c.args.s.now)) c.if-ascii_only.true)))

pub returns-in_ok-print_str-clause-appended : goal.returns-in_ok-print_str-clause-appended
returns-in_ok-print_str-clause-appended c =
    let same = ap (λ b. name_text b (chars c.args.s.now)) c.if-ascii_only.false ∙ name_same (chars c.args.s.now) in
    c.in_ok-print_str.ensures.appended ∙ ap (λ x. buffer_bytes c.args.code.now ++ x) (text_same c.args.s.now (name_text c.args.ascii_only (chars c.args.s.now)) c.utf8.s same)
