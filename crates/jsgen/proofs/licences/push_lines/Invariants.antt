use Rattle.std.proofs.Common.{◌≡◌, ◌++◌, flat_map, string_bytes, take}
use Rattle.jsgen.proofs.LegalLines.{line_of_comment}
use Rattle.jsgen.proofs.licences.push_lines.Given as goal

abbrev pub invariant-loop-comment : goal.invariant-loop-comment
invariant-loop-comment l = string_bytes l.lines ≡ string_bytes l.fn.lines ++ flat_map line_of_comment (take l.comment-index l.comments)
