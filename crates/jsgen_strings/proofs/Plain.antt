-- A run of plain characters is printed as it is.
use Rattle.std.proofs.Common.{◌≡◌, ℕ, ◌<◌, Bool, true, false, not, nat_lt, nat_le, ◌&&◌, ◌||◌, ◌==◌, List, [], ◌∷◌, ◌++◌, length, refl, ap, ◌∙◌, subst, arith}
use Rattle.std.specs.List.{list_all}
use Rattle.std.specs.Str.{chars}
use lib.Utf8.{encodes}
use Rattle.std.proofs.lemmas.Bool.{and_parts, and_from, or_parts, not-true, ltb-true, leb-true, le-ltb}
use Rattle.std.proofs.lemmas.Str.{encodes-append}
use Rattle.jsgen_strings.specs.Points.{ArePoints, is_plain, are_ascii}
use Rattle.jsgen_strings.proofs.Ascii.{encodes_ascii}
use Rattle.jsgen_strings.proofs.Looks.{low_first}

-- what plain says
pub record IsPlain (c : ℕ) : Type 0 where
  pub no_control : nat_lt c 32 ≡ false
  pub ascii : nat_lt c 128 ≡ true
  pub no_double : (c == 34) ≡ false
  pub no_dollar : (c == 36) ≡ false
  pub no_single : (c == 39) ≡ false
  pub no_slash : (c == 47) ≡ false
  pub no_less : (c == 60) ≡ false
  pub no_backslash : (c == 92) ≡ false
  pub no_backtick : (c == 96) ≡ false

pub plain_facts : (c : ℕ) → is_plain c ≡ true → IsPlain c
plain_facts c h =
    let a = and_parts (nat_le 32 c && nat_lt c 128) (not ((c == 34) || (c == 36) || (c == 39) || (c == 47) || (c == 60) || (c == 92) || (c == 96))) h in
    let b = and_parts (nat_le 32 c) (nat_lt c 128) a.0 in
    let n = or_parts ((c == 34) || (c == 36) || (c == 39) || (c == 47) || (c == 60) || (c == 92)) (c == 96) (not-true _ a.1) in
    let m = or_parts ((c == 34) || (c == 36) || (c == 39) || (c == 47) || (c == 60)) (c == 92) n.0 in
    let k = or_parts ((c == 34) || (c == 36) || (c == 39) || (c == 47)) (c == 60) m.0 in
    let j = or_parts ((c == 34) || (c == 36) || (c == 39)) (c == 47) k.0 in
    let i = or_parts ((c == 34) || (c == 36)) (c == 39) j.0 in
    let g = or_parts (c == 34) (c == 36) i.0 in
    record { no_control = le-ltb c 32 (leb-true 32 c b.0); ascii = b.1; no_double = g.0; no_dollar = g.1; no_single = i.1; no_slash = j.1; no_less = k.1; no_backslash = m.1; no_backtick = n.1 }

abbrev pub are_plain : List ℕ → Bool
are_plain run = list_all is_plain run

pub plain_ascii : (run : List ℕ) → are_plain run ≡ true → are_ascii run ≡ true
plain_ascii [] h = refl
plain_ascii (c ∷ run) h = let k = and_parts (is_plain c) (are_plain run) h in and_from (nat_lt c 128) (are_ascii run) (plain_facts c k.0).ascii (plain_ascii run k.1)

-- the characters behind a run
pub record Behind (bytes run behind : List ℕ) : Type 0 where
  pub are : chars bytes ≡ run ++ chars behind
  pub points : ArePoints behind

pub behind_run : (bytes run behind : List ℕ) → are_plain run ≡ true → ArePoints bytes → bytes ≡ run ++ behind → Behind bytes run behind
behind_run bytes [] behind h p e = record { are = ap chars e; points = subst ArePoints e p }
behind_run bytes (c ∷ run) behind h p e =
    let k = and_parts (is_plain c) (are_plain run) h in
    let l = low_first bytes c (run ++ behind) p e (ltb-true c 128 (plain_facts c k.0).ascii) in
    let r = behind_run (run ++ behind) run behind k.1 l.points refl in
    record { are = l.are ∙ ap (λ x. c ∷ x) r.are; points = r.points }

-- A text that is printed from a state on: plain characters as they are, and they lead to one state
module _ {S : Type 0} (text : S → List ℕ → List ℕ) (calm : S) (step : (s : S) (c : ℕ) (cs : List ℕ) → is_plain c ≡ true → text s (c ∷ cs) ≡ c ∷ text calm cs) where
  run_text : (run cs : List ℕ) → are_plain run ≡ true → text calm (run ++ cs) ≡ run ++ text calm cs
  run_text [] cs h = refl
  run_text (c ∷ run) cs h =
      let k = and_parts (is_plain c) (are_plain run) h in
      step calm c (run ++ cs) k.0 ∙ ap (λ x. c ∷ x) (run_text run cs k.1)

  first_run : (s : S) (run cs : List ℕ) → are_plain run ≡ true → 0 < length run → text s (run ++ cs) ≡ run ++ text calm cs
  first_run s [] cs h l = absurd (omega arith)
  first_run s (c ∷ run) cs h l =
      let k = and_parts (is_plain c) (are_plain run) h in
      step s c (run ++ cs) k.0 ∙ ap (λ x. c ∷ x) (run_text run cs k.1)

  -- in bytes
  pub run_bytes : (s : S) (bytes run behind : List ℕ) → are_plain run ≡ true → 0 < length run → ArePoints bytes → bytes ≡ run ++ behind → encodes (text s (chars bytes)) ≡ run ++ encodes (text calm (chars behind))
  run_bytes s bytes run behind h l p e =
      let b = behind_run bytes run behind h p e in
      ap (λ x. encodes (text s x)) b.are
      ∙ (ap encodes (first_run s run (chars behind) h l)
      ∙ (encodes-append run (text calm (chars behind))
      ∙ ap (λ x. x ++ encodes (text calm (chars behind))) (encodes_ascii run (plain_ascii run h))))
