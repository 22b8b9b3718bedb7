use Rattle.std.proofs.Common.{◌≡◌, Bool, true, false, Option, Some, None, codes, if◌then◌else◌, refl}
use Rattle.std.proofs.lemmas.Bool.{both_ways}
use Rattle.jsgen_tree.specs.Tree.{type_of}
use Rattle.jsgen_tree.specs.Inside.{looked_up_in}
use Rattle.jsgen_tree.specs.Named.{Named, as_written}
use Rattle.jsgen_tree.specs.Rows.{in_for_statement_left}
use Rattle.jsgen_model.specs.Punctuator.{Round}
use Rattle.jsgen_model.specs.Items.{Items, brackets}
use Rattle.jsgen_model.specs.Spell.{spell, left_place, apart_from_of}
use Rattle.jsgen_printer.specs.Printer.{pen_of}
use Rattle.jsgen_printer.specs.Steps.{Lays}
use Rattle.jsgen_printer.specs.declared.printer.Printer.{Printer}
use Rattle.jsgen_printer.proofs.Sequence.{where_same_laid}
use Rattle.jsgen_nodes.specs.Keys.{is_said}
use Rattle.jsgen_nodes.proofs.loops.print_apart_from_of.Goals as goal

-- in parentheses where the name is printed as `async`
apart : {a b : Printer} (o : Option Named) (items : Items) (said : Bool) → said ≡ is_said (pen_of a).style.tables o (codes "async") → Lays a b (if said then brackets Round items else items) → Lays a b (apart_from_of o items)
apart None items true e h = absurd (both_ways true e refl)
apart None items false e h = h
apart {a} (Some n) items said e h = where_same_laid n (as_written (codes "async")) (brackets Round items) items said e h

pub returns-then-is_async : goal.returns-then-is_async
returns-then-is_async g c =
    let left = in_for_statement_left g.N.PrintNode.plain c.args.left.now in
    apart (looked_up_in left) (spell left (left_place (type_of left))) c.is_async.result c.is_async.ensures (rw c.if-is_async.true c.print_left_in_parentheses.ensures)

pub returns-else-is_async : goal.returns-else-is_async
returns-else-is_async g c =
    let left = in_for_statement_left g.N.PrintNode.plain c.args.left.now in
    apart (looked_up_in left) (spell left (left_place (type_of left))) c.is_async.result c.is_async.ensures (rw c.if-is_async.false c.print_left.ensures)
