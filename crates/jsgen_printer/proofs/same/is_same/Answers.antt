use Rattle.std.proofs.Common.{bytes_eq, ap, sym, ◌∙◌}
use Rattle.std.proofs.lemmas.Str.{encodes-chars}
use Rattle.jsgen_tree.proofs.Texts.{same_characters}
use Rattle.jsgen_printer.proofs.same.is_same.Goals as goal

pub returns-clause-characters : goal.returns-clause-characters
returns-clause-characters c = c.eq.ensures ∙ sym (same_characters c.args.a.now c.args.b.now c.utf8.a c.utf8.b)

pub returns-clause-bytes : goal.returns-clause-bytes
returns-clause-bytes c = c.eq.ensures ∙ ap (bytes_eq c.args.a.now) (sym (encodes-chars c.args.b.now c.utf8.b))
