use Rattle.std.proofs.Common.{◌≡◌, codes, refl, ◌∙◌}
use Rattle.std.specs.Str.{chars, skip_leading_whitespace}
use Rattle.std.proofs.lemmas.Str.Pattern.{starts_text, ends_text}
use Rattle.jsgen_model.specs.Groups.{opens_block, closes_block, block_line}
use Rattle.jsgen_printer.proofs.Comments.{indented_if_adds}
use Rattle.jsgen_printer.proofs.Lines.{opens_by_bytes, closes_by_bytes, trimmed_chars, same_not}
use Rattle.jsgen_printer.proofs.Prefixes.{prefix_append, more_prefix}
use Rattle.jsgen_printer.proofs.Sequence.{goes_as, goes_then}
use Rattle.jsgen_printer.proofs.Texts.{ascii_chars}
use Rattle.jsgen_printer.proofs.printer.Printer.print_block_line.Goals as goal

pub returns : goal.returns
returns c =
    let line = c.args.line.now in
    let opens : c.starts_with.result ≡ opens_block (chars line) = starts_text c.starts_with.result (codes "/*") line c.starts_with.ensures.cases ∙ opens_by_bytes line c.utf8.line in
    let closes : c.ends_with.result ≡ closes_block (chars line) = ends_text c.ends_with.result (codes "*/") line c.ends_with.ensures.cases ∙ closes_by_bytes line c.utf8.line in
    let text : chars c.trim_start.result.now ≡ skip_leading_whitespace (chars line) = trimmed_chars line c.trim_start.result.now c.trim_start.utf8 c.trim_start.ensures.trim in
    goes_as (block_line (chars line)) (rw (opens, closes, text, ascii_chars (codes "\n") refl, same_not (opens_block (chars line)), same_not (closes_block (chars line))) refl)
    (goes_then (λ pen. more_prefix _ (indented_if_adds _ pen).text) (λ pen. prefix_append pen.code _) (goes_then (λ pen. (indented_if_adds _ pen).text) (λ pen. prefix_append pen.code _) c.print_indentation_where.ensures c.print_tag_free.ensures) c.print_if.ensures)
