use Rattle.std.proofs.Common.{◌≡◌, Some, map, ap, sym, ◌∙◌}
use Rattle.std.specs.Option.{option_copied}
use Rattle.jsgen_map.specs.Marks as marks
use Rattle.jsgen_map.specs.Marks.{last_offset, unless_last, is_last}
use Rattle.jsgen_map.specs.Plain.{mark_plain}
use Rattle.jsgen_model.specs.Layout.{Pen}
use Rattle.jsgen_printer.specs.Printer.{pen_of, marks_plain, source_plain}
use Rattle.jsgen_printer.proofs.Attempts.{went_on}
use Rattle.jsgen_printer.proofs.Pushed.{mark_laid, code_size}
use Rattle.jsgen_printer.proofs.printer.Printer.add_mark.Goals as goal

pub returns-in-Ok : goal.returns-in-Ok
unfolding pen_of
returns-in-Ok c =
    let old = c.args.self.now in
    let pen : Pen = pen_of old in
    let there : Some c.in-Some.marks ≡ old.marks = sym c.in-Some.is in
    let new = c.add.new.self in
    let called = option_copied c.args.name in
    let mark : marks.Mark = record { bytes = c.len-bytes.result; offset = c.args.offset; name = called } in
    let last = c.in-Some.marks.last in
    let source : Some new.source.now ≡ source_plain old.marks = ap (λ s. Some s.now) c.in-Ok.ensures.source ∙ ap source_plain there in
    let its : last ≡ last_offset (marks_plain old.marks) = c.in-Some.marks.is_its ∙ ap (λ o. last_offset (marks_plain o)) there in
    let added : map mark_plain new.list.items ≡ unless_last (is_last last c.args.offset) mark (marks_plain old.marks) = c.in-Ok.ensures.added ∙ ap (λ o. unless_last (is_last last c.args.offset) mark (marks_plain o)) there in
    went_on c.if-self.false c.if-self.false (mark_laid pen (Some new.source.now) (map mark_plain new.list.items) c.len-bytes.result c.args.offset called last source (c.len-bytes.ensures ∙ code_size old.code) its added)
