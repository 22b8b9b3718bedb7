use Rattle.std.proofs.Common.{nat_lt, ap, sym, ◌∙◌}
use Rattle.std.proofs.lemmas.List.{length-map}
use Rattle.jsgen_tree.specs.Characters.{characters}
use Rattle.jsgen_rules.proofs.names.has_symbol.Goals as goal

pub returns : goal.returns
returns c = ap (λ n. nat_lt c.args.symbol n) (c.len.ensures ∙ (c.args.scoping.now.symbols.ok.0 ∙ sym (length-map c.args.scoping.now.symbols.items characters)))
