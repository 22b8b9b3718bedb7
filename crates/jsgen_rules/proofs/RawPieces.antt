-- The machine tells which texts are raw.
use Rattle.std.proofs.Common.{◌≡◌, ℕ, Bool, true, false, not, cond, ◌&&◌, ◌||◌, ◌==◌, List, [], ◌∷◌, refl}
use Rattle.jsgen_syntax.specs.Escapes.{begins_with}
use Rattle.jsgen_model.specs.Templates.{is_raw, is_escaped}
use Rattle.jsgen_rules.specs.declared.templates.Raw.TheVariants as raws
use Rattle.jsgen_rules.specs.Pieces.{may_end, in_characters, run}

dead : (cs : List ℕ) → may_end (run raws.Dead cs) ≡ false
dead [] = refl
dead (c ∷ cs) = dead cs

-- from each state the rest of a raw text is told
record Tells (cs : List ℕ) : Type 0 where
  characters : may_end (run raws.Characters cs) ≡ is_raw cs
  dollar : may_end (run raws.Dollar cs) ≡ (not (begins_with 123 cs) && is_raw cs)
  escape : may_end (run raws.Escape cs) ≡ is_escaped cs

one_character : (c : ℕ) (cs : List ℕ) → Tells cs → may_end (run (in_characters c) cs) ≡ is_raw (c ∷ cs)
one_character c cs t = by (c == 92) (c == 13) (c == 96) (c == 36)
  where
    by : (backslash return backtick dollar : Bool) → may_end (run (cond backslash raws.Escape (cond (return || backtick) raws.Dead (cond dollar raws.Dollar raws.Characters))) cs) ≡ cond backslash (is_escaped cs) (not return && (not backtick && (not (dollar && begins_with 123 cs) && is_raw cs)))
    by true return backtick dollar = t.escape
    by false true backtick dollar = dead cs
    by false false true dollar = dead cs
    by false false false true = t.dollar
    by false false false false = t.characters

behind_dollar : (c : ℕ) (cs : List ℕ) → Tells cs → may_end (run (cond (c == 123) raws.Dead (in_characters c)) cs) ≡ (not (c == 123) && is_raw (c ∷ cs))
behind_dollar c cs t = by (c == 123)
  where
    by : (brace : Bool) → may_end (run (cond brace raws.Dead (in_characters c)) cs) ≡ (not brace && is_raw (c ∷ cs))
    by true = dead cs
    by false = one_character c cs t

behind_backslash : (c : ℕ) (cs : List ℕ) → Tells cs → may_end (run (cond (c == 13) raws.Dead raws.Characters) cs) ≡ (not (c == 13) && is_raw cs)
behind_backslash c cs t = by (c == 13)
  where
    by : (return : Bool) → may_end (run (cond return raws.Dead raws.Characters) cs) ≡ (not return && is_raw cs)
    by true = dead cs
    by false = t.characters

tells : (cs : List ℕ) → Tells cs
tells [] = record { characters = refl; dollar = refl; escape = refl }
tells (c ∷ cs) = let t = tells cs in record { characters = one_character c cs t; dollar = behind_dollar c cs t; escape = behind_backslash c cs t }

pub ends_raw : (cs : List ℕ) → may_end (run raws.Characters cs) ≡ is_raw cs
ends_raw cs = (tells cs).characters
