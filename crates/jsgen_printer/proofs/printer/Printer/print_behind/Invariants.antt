use Rattle.std.proofs.Common.{map, drop}
use Rattle.jsgen_comments.specs.Plain.{comment_plain}
use Rattle.jsgen_model.specs.Groups.{behind_comment}
use Rattle.jsgen_printer.proofs.Onward.{Onward}
use Rattle.jsgen_printer.proofs.printer.Printer.print_behind.Given as goal

abbrev pub invariant-loop-comment : goal.invariant-loop-comment
invariant-loop-comment l = Onward l.initial.self l.self (behind_comment l.ended (comment_plain l.source l.last) (map (comment_plain l.source) (drop l.comment-index l.others))) (behind_comment l.ended (comment_plain l.source l.fn.first) (map (comment_plain l.source) l.others))
