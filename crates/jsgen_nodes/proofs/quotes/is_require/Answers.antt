use Rattle.std.proofs.Common.{◌≡◌, map, codes, refl}
use Rattle.jsgen_tree.specs.Tree.{trees}
use Rattle.jsgen_tree.specs.Rows.{in_argument}
use Rattle.jsgen_model.specs.Quotes.{is_named}
use Rattle.jsgen_printer.proofs.Texts.{ascii_chars}
use Rattle.jsgen_nodes.proofs.quotes.is_require.Goals as goal

pub returns : goal.returns
returns g c =
    let callee = g.N.PrintNode.plain c.args.call.now.callee.node in
    let names : c.is_named.result ≡ is_named (codes "require") callee = rw (c.get.ensures, ascii_chars (codes "require") refl) at c.is_named.ensures in
    c.is_require_call.ensures callee (trees (map (in_argument g.N.PrintNode.plain) c.args.call.now.arguments.items)) names (rw c.deref.ensures.value at c.is_one_string.ensures)
