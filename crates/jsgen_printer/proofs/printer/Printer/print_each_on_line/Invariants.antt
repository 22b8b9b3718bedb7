use Rattle.std.proofs.Common.{map, drop}
use Rattle.jsgen_comments.specs.Plain.{comment_plain}
use Rattle.jsgen_model.specs.Groups.{each_on_line}
use Rattle.jsgen_printer.proofs.Onward.{Onward}
use Rattle.jsgen_printer.proofs.printer.Printer.print_each_on_line.Given as goal

abbrev pub invariant-loop-comment : goal.invariant-loop-comment
invariant-loop-comment l = Onward l.initial.self l.self (each_on_line (map (comment_plain l.source) (drop l.comment-index l.comments))) (each_on_line (map (comment_plain l.source) l.comments))
