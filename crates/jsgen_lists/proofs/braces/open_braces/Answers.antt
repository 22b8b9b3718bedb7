use Rattle.std.proofs.Common.{refl}
use Rattle.jsgen_model.specs.Punctuator.{Brace, opening}
use Rattle.jsgen_model.specs.Items.{soft_line, mark}
use Rattle.jsgen_model.specs.Layout.{written, other_end}
use Rattle.jsgen_printer.proofs.Prefixes.{whole_prefix, prefix_append}
use Rattle.jsgen_printer.proofs.Appends.{layout_appends, layout_more}
use Rattle.jsgen_printer.proofs.Sequence.{items_go, goes_then, goes_as}
use Rattle.jsgen_lists.specs.Lists.{braces_opened}
use Rattle.jsgen_lists.proofs.Braced.{opening_appends}
use Rattle.jsgen_lists.proofs.braces.open_braces.Goals as goal

pub returns-clause-pen : goal.returns-clause-pen
returns-clause-pen c = goes_as (braces_opened c.args.span) refl (goes_then (λ pen. whole_prefix pen.code) (opening_appends c.args.span) c.deepen-depth.ensures.pen (goes_then (λ pen. layout_appends (mark c.args.span) pen) (λ pen. layout_more soft_line (written (opening Brace) other_end pen) (prefix_append pen.code (opening Brace))) (items_go c.print_mark.ensures) (goes_then (λ pen. prefix_append pen.code (opening Brace)) (λ pen. layout_appends soft_line pen) c.print_opening.ensures (items_go c.print_soft_line.ensures))))
