use Rattle.std.proofs.Common.{◌≡◌, codes, refl, sym}
use Rattle.jsgen_model.specs.Quotes.{is_member_of}
use Rattle.jsgen_printer.proofs.Texts.{ascii_chars}
use Rattle.jsgen_nodes.proofs.quotes.defines_property.Goals as goal

pub returns-then-is_member : goal.returns-then-is_member
returns-then-is_member g c =
    let callee = g.N.PrintNode.plain c.args.callee.now in
    let first : c.is_member.result ≡ is_member_of (codes "Object") (codes "defineProperty") callee = rw (ascii_chars (codes "Object") refl, ascii_chars (codes "defineProperty") refl) at c.is_member.ensures in
    rw (sym first, c.if-is_member.true) refl

pub returns-else-is_member : goal.returns-else-is_member
returns-else-is_member g c =
    let callee = g.N.PrintNode.plain c.args.callee.now in
    let first : c.is_member.result ≡ is_member_of (codes "Object") (codes "defineProperty") callee = rw (ascii_chars (codes "Object") refl, ascii_chars (codes "defineProperty") refl) at c.is_member.ensures in
    let second : c.is_member-else-is_member.result ≡ is_member_of (codes "Reflect") (codes "defineProperty") callee = rw (ascii_chars (codes "Reflect") refl, ascii_chars (codes "defineProperty") refl) at c.is_member-else-is_member.ensures in
    rw (sym first, c.if-is_member.false) second
