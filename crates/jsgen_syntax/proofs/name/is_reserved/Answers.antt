use Rattle.std.proofs.Common.{◌≡◌, ℕ, Bool, true, false, ◌||◌, eqb, length, List, [], ◌∷◌, refl, sym, ◌∙◌, arith}
use Rattle.std.specs.List.{filter, list_all}
use Rattle.std.specs.Str.{bytes_eq}
use Rattle.std.proofs.lemmas.Bool.Decides.{nat_tests}
use Rattle.std.proofs.lemmas.Bool.{and_parts}
use Rattle.jsgen_syntax.specs.Name.{is_among, is_reserved, reserved_words}
use Rattle.jsgen_syntax.proofs.name.is_reserved.Goals as goal

-- texts of two lengths differ
other_len : (word text : List ℕ) → eqb (length word) (length text) ≡ false → bytes_eq word text ≡ false
other_len [] [] h = h
other_len [] (y ∷ ys) h = refl
other_len (x ∷ xs) [] h = refl
other_len (x ∷ xs) (y ∷ ys) h =
    let shorter : eqb (length xs) (length ys) ≡ false = grind (arith, nat_tests) in
    let e = other_len xs ys shorter in
    grind (arith, nat_tests)

-- only words of the text's length can be the text
same_len : (text : List ℕ) (words : List (List ℕ)) (n : ℕ) → length text ≡ n → is_among text words ≡ is_among text (filter (λ word. eqb (length word) n) words)
same_len text [] n h = refl
same_len text (word ∷ words) n h =
    let e = same_len text words n h in
    grind (arith, nat_tests, other_len word text)

-- a text whose length fails a test that all the words' lengths pass isn't among them
no_len : (p : ℕ → Bool) (text : List ℕ) (words : List (List ℕ)) → list_all (λ word. p (length word)) words ≡ true → p (length text) ≡ false → is_among text words ≡ false
no_len p text [] h e = refl
no_len p text (word ∷ words) h e =
    let parts = and_parts (p (length word)) (list_all (λ w. p (length w)) words) h in
    let rest = no_len p text words parts.1 e in
    let other : eqb (length word) (length text) ≡ false = grind (arith, nat_tests) in
    grind (arith, nat_tests, other_len word text)

-- the lengths of the reserved words
abbrev is_word_length : ℕ → Bool
is_word_length n = eqb n 2 || eqb n 3 || eqb n 4 || eqb n 5 || eqb n 6 || eqb n 7 || eqb n 8 || eqb n 10

-- of the reserved words only those of the text's length matter
at_len : (text : List ℕ) (n : ℕ) → length text ≡ n → is_reserved text ≡ is_among text (filter (λ word. eqb (length word) n) reserved_words)
unfolding is_reserved
at_len text n h = same_len text reserved_words n h

pub returns-in-2 : goal.returns-in-2
returns-in-2 c = c.contains.ensures.value ∙ sym (at_len c.args.s.now 2 c.in-2.is)

pub returns-in-3 : goal.returns-in-3
returns-in-3 c = c.contains-in-3.ensures.value ∙ sym (at_len c.args.s.now 3 c.in-3.is)

pub returns-in-4 : goal.returns-in-4
returns-in-4 c = c.contains-in-4.ensures.value ∙ sym (at_len c.args.s.now 4 c.in-4.is)

pub returns-in-5 : goal.returns-in-5
returns-in-5 c = c.contains-in-5.ensures.value ∙ sym (at_len c.args.s.now 5 c.in-5.is)

pub returns-in-6 : goal.returns-in-6
returns-in-6 c = c.contains-in-6.ensures.value ∙ sym (at_len c.args.s.now 6 c.in-6.is)

pub returns-in-7 : goal.returns-in-7
returns-in-7 c = c.contains-in-7.ensures.value ∙ sym (at_len c.args.s.now 7 c.in-7.is)

pub returns-in-8 : goal.returns-in-8
returns-in-8 c = c.contains-in-8.ensures.value ∙ sym (at_len c.args.s.now 8 c.in-8.is)

pub returns-in-10 : goal.returns-in-10
returns-in-10 c = c.contains-in-10.ensures.value ∙ sym (at_len c.args.s.now 10 c.in-10.is)

pub returns-in_default : goal.returns-in_default
unfolding is_reserved
returns-in_default c =
    let other : is_word_length (length c.args.s.now) ≡ false = grind (arith, nat_tests) in
    sym (no_len is_word_length c.args.s.now reserved_words refl other)
