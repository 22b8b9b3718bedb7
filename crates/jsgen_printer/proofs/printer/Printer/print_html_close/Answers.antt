use Rattle.std.proofs.Common.{◌≡◌, true, codes, refl, sym, ◌∙◌}
use Rattle.std.specs.Str.{chars}
use Rattle.jsgen_model.specs.Groups.{is_mid_line, html_close}
use Rattle.jsgen_printer.specs.Printer.{pen_of}
use Rattle.jsgen_printer.proofs.Prefixes.{prefix_append}
use Rattle.jsgen_printer.proofs.Sequence.{goes_as, goes_then}
use Rattle.jsgen_printer.proofs.Texts.{ascii_chars}
use Rattle.jsgen_printer.proofs.printer.Printer.print_html_close.Goals as goal

pub returns-then-is_mid_line : goal.returns-then-is_mid_line
returns-then-is_mid_line c =
    let pen = pen_of c.args.self.now in
    let middle : is_mid_line pen.code ≡ true = sym c.is_mid_line.ensures ∙ c.if-is_mid_line.true in
    goes_as (λ p. html_close (is_mid_line p.code) (chars c.args.text.now) p) (rw (c.behind_three.ensures, ascii_chars (codes "//") refl, middle) refl) (goes_then (λ p. prefix_append p.code _) (λ p. prefix_append p.code _) c.print_str.ensures c.print_tag_free.ensures)
