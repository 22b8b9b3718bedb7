use Rattle.std.proofs.Common.{map, ◌||◌, sym, ap, ◌∙◌}
use Rattle.jsgen_model.specs.Groups.{are_lined}
use Rattle.jsgen_model.specs.Items.{of_call}
use Rattle.jsgen_model.specs.Spell.{starts_of}
use Rattle.jsgen_tree.specs.Tree.{trees}
use Rattle.jsgen_printer.specs.Printer.{pen_of}
use Rattle.jsgen_printer.proofs.Commented.{lined_laid}
use Rattle.jsgen_printer.proofs.Sequence.{◌⨾◌}
use Rattle.jsgen_lists.proofs.arguments.print_argument_lines.Goals as goal

pub returns : goal.returns
returns g c =
    let starts = starts_of (trees (map g.L.PrintArgument.plain c.args.arguments.now)) in
    let end = c.args.span.end in
    let lines = of_call (c.args.quotes.first || c.args.quotes.second) in
    let is = c.lines_of-lines.ensures in
    let around = c.open_arguments-around.ensures in
    lined_laid lines starts end c.open_arguments-around.result.lined c.open_arguments-around.result.depth c.open_arguments-around.result.outer
    (around.lined ∙ (c.are_lined-lined.ensures ∙ ap (λ l. are_lined l starts end (pen_of c.args.p.now)) is)) around.depth around.outer
    (rw (sym around.lined) at around.goes) c.print_first.ensures (rw is at c.close_arguments.ensures)
    ⨾ c.print_end_mark.ensures
