use Rattle.std.proofs.Common.{ℕ, Bool, true, false, is_some, if◌then◌else◌, [], ap, sym, ◌∙◌, option_map}
use Rattle.std.specs.Option.{option_to_list}
use Rattle.jsgen_comments.specs.Plain.{annotation_of}
use Rattle.jsgen_model.specs.Groups.{annotation_by, comment_written, fitting_at, without_annotation}
use Rattle.jsgen_model.specs.Layout.{Pen, written, other_end}
use Rattle.jsgen_model.specs.Printing.{IsPrefix}
use Rattle.jsgen_printer.specs.Printer.{pen_of, one_plain}
use Rattle.jsgen_printer.proofs.Comments.{comment_adds}
use Rattle.jsgen_printer.proofs.Prefixes.{prefix_append, whole_prefix}
use Rattle.jsgen_printer.proofs.Sequence.{goes_as, goes_then}
use Rattle.jsgen_printer.proofs.printer.Printer.print_annotation_text.Goals as goal

left : (taken : Bool) (o : ℕ) (pen : Pen) → IsPrefix pen.code (if taken then without_annotation o pen else pen).code
left true o pen = whole_prefix pen.code
left false o pen = whole_prefix pen.code

pub returns-in-Some : goal.returns-in-Some
returns-in-Some c =
    let pen = pen_of c.args.self.now in
    let o = c.args.offset in
    let kind = annotation_of c.args.kind in
    let own = one_plain c.in-Some.own in
    goes_as (λ p. annotation_by (fitting_at c.args.ends kind o p) kind o p)
    (ap (λ r. comment_written own (if is_some r then without_annotation o pen else pen)) c.in-Some.is
    ∙ ap (λ cs. annotation_by cs kind o pen) (ap (λ r. option_to_list (option_map one_plain r)) (sym c.in-Some.is) ∙ c.take_annotation.ensures.found))
    (goes_then (λ p. left (is_some c.take_annotation.result) o p) (λ p. (comment_adds own p).text) c.take_annotation.ensures.goes c.print_comment.ensures)

pub returns-in-None : goal.returns-in-None
returns-in-None c =
    let pen = pen_of c.args.self.now in
    let o = c.args.offset in
    let kind = annotation_of c.args.kind in
    goes_as (λ p. annotation_by (fitting_at c.args.ends kind o p) kind o p)
    (ap (λ t. written t other_end (if is_some c.take_annotation.result then without_annotation o pen else pen)) c.annotation_text.ensures
    ∙ (ap (λ r. annotation_by [] kind o (if is_some r then without_annotation o pen else pen)) c.in-None.is
    ∙ ap (λ cs. annotation_by cs kind o pen) (ap (λ r. option_to_list (option_map one_plain r)) (sym c.in-None.is) ∙ c.take_annotation.ensures.found)))
    (goes_then (λ p. left (is_some c.take_annotation.result) o p) (λ p. prefix_append p.code _) c.take_annotation.ensures.goes c.print_str.ensures)
