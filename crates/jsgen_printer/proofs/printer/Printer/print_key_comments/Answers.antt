use Rattle.std.proofs.Common.{codes, refl, ap, sym, ◌∙◌, false}
use Rattle.jsgen_model.specs.Groups.{group, group_at, without_group, behind_group, printed_if}
use Rattle.jsgen_model.specs.Items.{comments, with_key_annotation}
use Rattle.jsgen_model.specs.Layout.{white_if}
use Rattle.jsgen_printer.specs.Printer.{pen_of}
use Rattle.jsgen_printer.proofs.Comments.{group_adds, behind_group_adds}
use Rattle.jsgen_printer.proofs.Prefixes.{prefix_append, prefix_of_prefix}
use Rattle.jsgen_printer.proofs.Sequence.{goes_laid, goes_then}
use Rattle.jsgen_printer.proofs.Texts.{ascii_chars}
use Rattle.jsgen_printer.proofs.printer.Printer.print_key_comments.Goals as goal

pub returns-then-has_key_annotation : goal.returns-then-has_key_annotation
returns-then-has_key_annotation c =
    let pen = pen_of c.args.self.now in
    let o = c.args.offset in
    goes_laid (comments with_key_annotation o)
    (ap (λ t. behind_group with_key_annotation (group false (group_at o pen) (without_group o (white_if c.code_ends_in-is_behind_slash.result t pen)))) (ascii_chars (codes " ") refl)
    ∙ (ap (λ b. behind_group with_key_annotation (group false (group_at o pen) (without_group o (white_if b (codes " ") pen)))) c.code_ends_in-is_behind_slash.ensures
    ∙ ap (λ t. printed_if t with_key_annotation o pen) (sym c.if-has_key_annotation.true ∙ c.has_key_annotation.ensures)))
    (goes_then (λ p. prefix_of_prefix (prefix_append p.code _) (group_adds false (group_at o p) (without_group o (white_if c.code_ends_in-is_behind_slash.result _ p))).text) (λ p. (behind_group_adds with_key_annotation p).text)
    (goes_then (λ p. prefix_append p.code _) (λ p. (group_adds false (group_at o p) (without_group o p)).text) c.print_white_if.ensures c.print_taken.ensures) c.print_due.ensures)
