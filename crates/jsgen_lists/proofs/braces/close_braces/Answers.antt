use Rattle.jsgen_model.specs.Punctuator.{Brace, closing}
use Rattle.jsgen_model.specs.Items.{◌⊕◌, indentation, drop_semicolon, end_mark}
use Rattle.jsgen_printer.specs.Printer.{at_depth}
use Rattle.jsgen_printer.proofs.Prefixes.{whole_prefix, prefix_append, more_prefix}
use Rattle.jsgen_printer.proofs.Appends.{layout_appends}
use Rattle.jsgen_printer.proofs.Sequence.{◌⨾◌, items_go, goes_then}
use Rattle.jsgen_lists.proofs.braces.close_braces.Goals as goal

pub returns : goal.returns
returns c =
    let last = indentation ⊕ end_mark c.args.span in
    goes_then (λ pen. more_prefix (closing Brace) (layout_appends last (at_depth c.args.depth pen))) (λ pen. layout_appends drop_semicolon pen) (goes_then (λ pen. layout_appends last (at_depth c.args.depth pen)) (λ pen. prefix_append pen.code (closing Brace)) (goes_then (λ pen. whole_prefix pen.code) (λ pen. layout_appends last pen) c.set_depth.ensures.goes (items_go (c.print_indentation.ensures ⨾ c.print_end_mark.ensures))) c.print_closing.ensures) (items_go c.drop_semicolon.ensures.lays)
