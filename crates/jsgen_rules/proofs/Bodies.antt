-- The machines tell what they should.
use Rattle.std.proofs.Common.{◌≡◌, ℕ, Bool, true, false, not, cond, ◌&&◌, ◌||◌, ◌==◌, List, [], ◌∷◌, refl}
use Rattle.std.specs.List.{list_any}
use Rattle.jsgen_model.specs.RegularExpressions.{are_characters, is_escape, is_class, is_escape_in_class, is_body, comes_twice}
use Rattle.jsgen_model.specs.Tokens.{is_line_terminator}
use Rattle.jsgen_rules.specs.declared.regular_expressions.Body.{Body}
use Rattle.jsgen_rules.specs.declared.regular_expressions.Body.TheVariants as bodies
use Rattle.jsgen_rules.specs.declared.regular_expressions.Count.TheVariants as counts
use Rattle.jsgen_rules.specs.Bodies.{may_end, in_characters, in_class, run, is_twice, count}

dead : (cs : List ℕ) → may_end (run bodies.Dead cs) ≡ false
dead [] = refl
dead (c ∷ cs) = by (is_line_terminator c) (dead cs)
  where
    by : (ends : Bool) → may_end (run bodies.Dead cs) ≡ false → may_end (run (cond ends bodies.Dead bodies.Dead) cs) ≡ false
    by true h = h
    by false h = h

-- from each state the rest of a body is told
record Tells (cs : List ℕ) : Type 0 where
  characters : may_end (run bodies.Characters cs) ≡ are_characters cs
  escape : may_end (run bodies.Escape cs) ≡ is_escape cs
  class : may_end (run bodies.Class cs) ≡ is_class cs
  escape_in_class : may_end (run bodies.ClassEscape cs) ≡ is_escape_in_class cs

one_character : (c : ℕ) (cs : List ℕ) → Tells cs → may_end (run (in_characters c) cs) ≡ cond (c == 92) (is_escape cs) (cond (c == 91) (is_class cs) (not (c == 47) && are_characters cs))
one_character c cs t = by (c == 92) (c == 91) (c == 47)
  where
    by : (backslash bracket slash : Bool) → may_end (run (cond backslash bodies.Escape (cond bracket bodies.Class (cond slash bodies.Dead bodies.Characters))) cs) ≡ cond backslash (is_escape cs) (cond bracket (is_class cs) (not slash && are_characters cs))
    by true bracket slash = t.escape
    by false true slash = t.class
    by false false true = dead cs
    by false false false = t.characters

one_in_class : (c : ℕ) (cs : List ℕ) → Tells cs → may_end (run (in_class c) cs) ≡ cond (c == 92) (is_escape_in_class cs) (cond (c == 93) (are_characters cs) (is_class cs))
one_in_class c cs t = by (c == 92) (c == 93)
  where
    by : (backslash bracket : Bool) → may_end (run (cond backslash bodies.ClassEscape (cond bracket bodies.Characters bodies.Class)) cs) ≡ cond backslash (is_escape_in_class cs) (cond bracket (are_characters cs) (is_class cs))
    by true bracket = t.escape_in_class
    by false true = t.characters
    by false false = t.class

-- no state goes on behind a line's end
unless_ended : (c : ℕ) (cs : List ℕ) (state : Body) (told : Bool) → may_end (run state cs) ≡ told → may_end (run (cond (is_line_terminator c) bodies.Dead state) cs) ≡ (not (is_line_terminator c) && told)
unless_ended c cs state told h = by (is_line_terminator c)
  where
    by : (ends : Bool) → may_end (run (cond ends bodies.Dead state) cs) ≡ (not ends && told)
    by true = dead cs
    by false = h

tells : (cs : List ℕ) → Tells cs
tells [] = record { characters = refl; escape = refl; class = refl; escape_in_class = refl }
tells (c ∷ cs) =
    let t = tells cs in
    record {
      characters = unless_ended c cs (in_characters c) _ (one_character c cs t);
      escape = unless_ended c cs bodies.Characters _ t.characters;
      class = unless_ended c cs (in_class c) _ (one_in_class c cs t);
      escape_in_class = unless_ended c cs bodies.Class _ t.class;
    }

pub ends_body : (cs : List ℕ) → may_end (run bodies.Start cs) ≡ is_body cs
ends_body [] = refl
ends_body (c ∷ cs) = by (is_line_terminator c) (c == 42)
  where
    rest : Bool
    rest = cond (c == 92) (is_escape cs) (cond (c == 91) (is_class cs) (not (c == 47) && are_characters cs))

    by : (ends star : Bool) → may_end (run (cond ends bodies.Dead (cond star bodies.Dead (in_characters c))) cs) ≡ (not star && (not ends && rest))
    by true true = dead cs
    by true false = dead cs
    by false true = dead cs
    by false false = one_character c cs (tells cs)

twice : (letter : ℕ) (cs : List ℕ) → is_twice (count counts.Twice letter cs) ≡ true
twice letter [] = refl
twice letter (c ∷ cs) = twice letter cs

once : (letter : ℕ) (cs : List ℕ) → is_twice (count counts.Once letter cs) ≡ list_any (λ d. d == letter) cs
once letter [] = refl
once letter (c ∷ cs) = by (c == letter) (once letter cs)
  where
    by : (comes : Bool) → is_twice (count counts.Once letter cs) ≡ list_any (λ d. d == letter) cs → is_twice (count (cond comes counts.Twice counts.Once) letter cs) ≡ (comes || list_any (λ d. d == letter) cs)
    by true h = twice letter cs
    by false h = h

pub counts_twice : (letter : ℕ) (cs : List ℕ) → is_twice (count counts.Never letter cs) ≡ comes_twice letter cs
counts_twice letter [] = refl
counts_twice letter (c ∷ cs) = by (c == letter) (counts_twice letter cs)
  where
    by : (comes : Bool) → is_twice (count counts.Never letter cs) ≡ comes_twice letter cs → is_twice (count (cond comes counts.Once counts.Never) letter cs) ≡ cond comes (list_any (λ d. d == letter) cs) (comes_twice letter cs)
    by true h = once letter cs
    by false h = h
