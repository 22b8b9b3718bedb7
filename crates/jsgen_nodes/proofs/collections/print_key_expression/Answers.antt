use Rattle.std.proofs.Common.{sym}
use Rattle.jsgen_printer.proofs.Sequence.{◌⨾◌}
use Rattle.jsgen_tree.specs.Rows.{in_expression}
use Rattle.jsgen_model.specs.Spell.{spell}
use Rattle.jsgen_nodes.proofs.Keys.{key_by_string}
use Rattle.jsgen_nodes.proofs.collections.print_key_expression.Goals as goal

pub returns-in-Some : goal.returns-in-Some
returns-in-Some g c =
    let key = in_expression g.N.PrintNode.plain c.args.key.now in
    let items = spell key c.args.place in
    rw (sym (key_by_string key items), sym (rw c.get.ensures at c.in-Some.ensures)) ((rw (c.span-span.ensures, c.get-in-Some.ensures) at c.print_key_comments.ensures) ⨾ ((rw (c.span-span.ensures, c.get-in-Some.ensures) at c.print_mark.ensures) ⨾ c.print_string.ensures))

pub returns-in-None : goal.returns-in-None
returns-in-None g c =
    let key = in_expression g.N.PrintNode.plain c.args.key.now in
    let items = spell key c.args.place in
    rw (sym (key_by_string key items), sym (rw c.get.ensures at c.in-None.ensures)) (rw c.get-in-None.ensures at c.print.ensures)
