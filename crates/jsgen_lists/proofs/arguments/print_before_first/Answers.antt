use Rattle.std.proofs.Common.{refl, sym, ◌∙◌}
use Rattle.jsgen_model.specs.Groups.{broken_at}
use Rattle.jsgen_model.specs.Items.{first_argument}
use Rattle.jsgen_tree.specs.Tree.{span_of}
use Rattle.jsgen_printer.proofs.Commented.{broken_laid, unbroken_laid}
use Rattle.jsgen_printer.proofs.Sequence.{nothing_laid}
use Rattle.jsgen_lists.proofs.arguments.print_before_first.Goals as goal

pub returns-then-is_lined : goal.returns-then-is_lined
returns-then-is_lined g c =
    let start = (span_of (g.L.PrintArgument.plain c.args.argument.now)).start in
    broken_laid (first_argument start) (broken_at start) (sym c.is_lined.ensures ∙ c.if-is_lined.true) refl (rw c.span.ensures at c.print_line_break.ensures)

pub returns-else-is_lined : goal.returns-else-is_lined
returns-else-is_lined g c =
    let start = (span_of (g.L.PrintArgument.plain c.args.argument.now)).start in
    unbroken_laid (first_argument start) (sym c.is_lined.ensures ∙ c.if-is_lined.false) refl (nothing_laid _)
