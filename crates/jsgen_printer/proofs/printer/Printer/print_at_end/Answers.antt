use Rattle.std.proofs.Common.{map}
use Rattle.jsgen_comments.specs.Plain.{comment_plain}
use Rattle.jsgen_printer.proofs.Comments.{each_adds}
use Rattle.jsgen_printer.proofs.Prefixes.{prefix_append, whole_prefix}
use Rattle.jsgen_printer.proofs.Sequence.{goes_then}
use Rattle.jsgen_printer.proofs.printer.Printer.print_at_end.Goals as goal

pub returns : goal.returns
returns c = goes_then (λ pen. prefix_append pen.code _) (λ pen. (each_adds (map (comment_plain c.args.source.now) c.args.comments.now) pen).text) (goes_then (λ pen. prefix_append pen.code _) (λ pen. whole_prefix pen.code) c.print_line_end.ensures c.drop_pending_space.ensures) c.print_each.ensures
