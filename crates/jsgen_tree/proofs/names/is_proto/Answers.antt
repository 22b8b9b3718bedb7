use Rattle.std.proofs.Common.{codes, bytes_eq, refl, sym, ap, ◌∙◌}
use Rattle.std.specs.Str.{chars, IsUtf8}
use Rattle.std.proofs.Math.Utf8.{encode}
use Rattle.std.proofs.lemmas.Str.{chars_from_encodes}
use Rattle.jsgen_tree.proofs.Texts.{same_characters}
use Rattle.jsgen_tree.proofs.names.is_proto.Goals as goal

proto_utf8 : IsUtf8 (codes "__proto__")
unfolding encode
proto_utf8 = (codes "__proto__", (refl, refl))

pub returns : goal.returns
unfolding encode proto_utf8
returns c = c.eq.ensures ∙ (sym (same_characters c.args.name.now (codes "__proto__") c.utf8.name proto_utf8) ∙ ap (λ k. bytes_eq (chars c.args.name.now) k) (sym (chars_from_encodes (codes "__proto__") (codes "__proto__") proto_utf8 proto_utf8.1.1)))
