use Rattle.std.proofs.Common.{◌∷◌, option_map, sym, ◌∙◌}
use Rattle.jsgen_tree.specs.Rows.{in_expression}
use Rattle.jsgen_tree.specs.Tree.{optional, span_of}
use Rattle.jsgen_model.specs.Items.{of_import}
use Rattle.jsgen_model.specs.Punctuator.{Round}
use Rattle.jsgen_model.specs.Spell.{starts_if}
use Rattle.jsgen_printer.proofs.Commented.{lined_laid}
use Rattle.jsgen_printer.proofs.Sequence.{in_brackets_laid}
use Rattle.jsgen_nodes.proofs.templates.print_imported.Goals as goal

pub returns : goal.returns
returns g c =
    let node = c.args.node.now in
    let plain = in_expression g.N.PrintNode.plain in
    let starts = (span_of (plain node.source)).start ∷ starts_if (optional (option_map plain node.options)) in
    let around = c.open_arguments-around.ensures in
    in_brackets_laid Round c.print_opening.ensures
    (lined_laid of_import starts node.span.end c.open_arguments-around.result.lined c.open_arguments-around.result.depth c.open_arguments-around.result.outer
    (around.lined ∙ c.is_lined-lined.ensures) around.depth around.outer
    (rw (sym around.lined) at around.goes) c.print_source_and_options.ensures c.close_arguments.ensures)
    c.print_closing.ensures
