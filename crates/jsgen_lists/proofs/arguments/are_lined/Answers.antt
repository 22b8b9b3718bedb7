use Rattle.std.proofs.Common.{map, sym, ◌∙◌}
use Rattle.jsgen_tree.specs.Tree.{trees}
use Rattle.jsgen_model.specs.Spell.{starts_of}
use Rattle.jsgen_printer.specs.Printer.{pen_of, lines_of}
use Rattle.jsgen_lists.proofs.Lined.{not_lined}
use Rattle.jsgen_lists.proofs.arguments.are_lined.Goals as goal

pub returns-else-keeps_comments : goal.returns-else-keeps_comments
returns-else-keeps_comments g c =
    c.if-keeps_comments.false ∙ sym (not_lined (lines_of c.args.lines) (starts_of (trees (map g.L.PrintArgument.plain c.args.arguments.now))) c.args.end (pen_of c.args.p.now) (c.keeps_comments.ensures c.if-keeps_comments.false))
