use Rattle.std.proofs.Common.{◌≡◌, codes, refl, sym}
use Rattle.jsgen_model.specs.Quotes.{is_named, is_member_of}
use Rattle.jsgen_printer.proofs.Texts.{ascii_chars}
use Rattle.jsgen_nodes.proofs.quotes.is_exports.Goals as goal

pub returns-then-is_named : goal.returns-then-is_named
returns-then-is_named g c =
    let node = g.N.PrintNode.plain c.args.node.now in
    let first : c.is_named.result ≡ is_named (codes "exports") node = rw (ascii_chars (codes "exports") refl) at c.is_named.ensures in
    rw (sym first, c.if-is_named.true) refl

pub returns-else-is_named : goal.returns-else-is_named
returns-else-is_named g c =
    let node = g.N.PrintNode.plain c.args.node.now in
    let first : c.is_named.result ≡ is_named (codes "exports") node = rw (ascii_chars (codes "exports") refl) at c.is_named.ensures in
    let second : c.is_member.result ≡ is_member_of (codes "module") (codes "exports") node = rw (ascii_chars (codes "module") refl, ascii_chars (codes "exports") refl) at c.is_member.ensures in
    rw (sym first, c.if-is_named.false) second
