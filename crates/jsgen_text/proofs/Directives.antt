-- A directive's text, character by character.
use Rattle.std.proofs.Common.{◌≡◌, ℕ, Bool, true, false, not, cond, ◌&&◌, ◌==◌, Option, Some, None, List, ◌∷◌, length, drop, refl, if◌then◌else◌, arith}
use Rattle.std.proofs.lemmas.List.{at_drop_all}
use Rattle.jsgen_syntax.specs.declared.quote.Quote.{Quote}
use Rattle.jsgen_syntax.specs.declared.quote.Quote.TheVariants.{Single, Double}
use Rattle.jsgen_syntax.specs.Raw.{first_quote, quote_beside}

abbrev pub chosen : Bool → ℕ → Option Quote
chosen escaped c = if not escaped && (c == 39) then Some Double else (if not escaped && (c == 34) then Some Single else None)

module _ (wanted : Quote) (escaped : Bool) (c : ℕ) (rest : List ℕ) where
  pub quote_chosen : (q : Quote) → chosen escaped c ≡ Some q → quote_beside wanted (first_quote escaped (c ∷ rest)) ≡ q
  unfolding first_quote
  quote_chosen q e = by (not escaped && (c == 39)) (not escaped && (c == 34)) e
    where
      by : (a b : Bool) → cond a (Some Double) (cond b (Some Single) None) ≡ Some q → quote_beside wanted (cond a (Some Single) (cond b (Some Double) (first_quote ((c == 92) && not escaped) rest))) ≡ q
      by true b k = cc
      by false true k = cc
      by false false k = cc

  pub quote_later : chosen escaped c ≡ None → quote_beside wanted (first_quote escaped (c ∷ rest)) ≡ quote_beside wanted (first_quote ((c == 92) && not escaped) rest)
  unfolding first_quote
  quote_later e = by (not escaped && (c == 39)) (not escaped && (c == 34)) e
    where
      by : (a b : Bool) → cond a (Some Double) (cond b (Some Single) None) ≡ None → quote_beside wanted (cond a (Some Single) (cond b (Some Double) (first_quote ((c == 92) && not escaped) rest))) ≡ quote_beside wanted (first_quote ((c == 92) && not escaped) rest)
      by true b k = cc
      by false true k = cc
      by false false k = refl

pub quote_end : (wanted : Quote) (escaped : Bool) (cs : List ℕ) (n : ℕ) → n ≡ length cs → quote_beside wanted (first_quote escaped (drop n cs)) ≡ quote_beside wanted None
unfolding first_quote
quote_end wanted escaped cs n e = at_drop_all (λ l. quote_beside wanted (first_quote escaped l)) cs n (omega arith)
