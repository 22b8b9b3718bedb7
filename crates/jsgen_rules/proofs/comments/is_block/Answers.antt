use Rattle.std.proofs.Common.{◌≡◌, List, ℕ, Bool, false, not, ◌&&◌, if◌then◌else◌, ◌∷◌, [], Option, Bor, sym, ap, ◌∙◌}
use Rattle.std.specs.Option.{option_map_or}
use Rattle.std.specs.Str.{chars}
use Rattle.jsgen_model.specs.Tokens.{has_line_end}
use Rattle.jsgen_model.specs.Valid.{begins_with_mark, ends_at_close}
use Rattle.jsgen_rules.proofs.Marks.{block_mark}
use Rattle.jsgen_rules.proofs.comments.is_block.Goals as goal

abbrev block : Bool → List ℕ → Bool
block is_multiline rest = (if is_multiline then has_line_end rest else not (has_line_end rest)) && ends_at_close rest

abbrev or_none : Bool → Option (Bor (List ℕ)) → Bool
or_none is_multiline r = option_map_or (λ (rest : Bor (List ℕ)). block is_multiline (chars rest.now)) r false

of_mark : (is_multiline : Bool) (cs : List ℕ) (r : Option (Bor (List ℕ))) → begins_with_mark (chars (47 ∷ 42 ∷ [])) (block is_multiline) cs ≡ or_none is_multiline r → begins_with_mark (47 ∷ 42 ∷ []) (block is_multiline) cs ≡ or_none is_multiline r
of_mark is_multiline cs r h = ap (λ m. begins_with_mark m (block is_multiline) cs) (sym block_mark) ∙ h

pub returns-in-Some : goal.returns-in-Some
returns-in-Some c =
    let m = c.args.is_multiline in
    c.ends_block.ensures ∙ sym (of_mark m (chars c.args.text.now) c.behind.result (c.behind.ensures (block m)) ∙ ap (or_none m) c.in-Some.is)

pub returns-in-None : goal.returns-in-None
returns-in-None c =
    let m = c.args.is_multiline in
    sym (of_mark m (chars c.args.text.now) c.behind.result (c.behind.ensures (block m)) ∙ ap (or_none m) c.in-None.is)
