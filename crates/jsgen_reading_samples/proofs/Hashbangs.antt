-- Texts with a hashbang, at their front and elsewhere.
use Rattle.std.proofs.Common.{◌≡◌, ℕ, Bool, true, false, ◌||◌, ◌==◌, List, [], ◌∷◌, ◌++◌, Some, None, inl, inr, codes, refl, sym, ap, ◌∙◌, subst}
use Rattle.std.specs.List.{list_all, list_any}
use Rattle.std.proofs.lemmas.Bool.{both_ways, and_parts}
use Rattle.unicode_ident.proofs.Computing.{unicode_ident}
use Rattle.jsgen_syntax.specs.Escapes.{word_value}
use Rattle.jsgen_syntax.specs.Strings.{string_value}
use Rattle.jsgen_syntax.specs.declared.quote.Quote.TheVariants.{Double}
use Rattle.jsgen_tree.specs.Tree.{no_trees, more}
use Rattle.jsgen_model.specs.Punctuator.{Bracket, semicolon, Round, Square, Brace, opening, closing}
use Rattle.jsgen_model.specs.Tokens.{Tokens, done, piece, group, Piece, Word, Number, Quoted, Sign, Beyond, Special, Private, Pattern, Whole, Head, Middle, Tail, special_text, piece_text, is_spelled, is_plain_piece, is_blank, has_line_end, ends_before, longer_stands, AreTokensAfter, AreTokensOf}
use Rattle.jsgen_model.specs.Grammar as grammar
use Rattle.jsgen_token_laws.proofs.OneList.{starts_piece, begins, one_piece, starts_no_blank}
use Rattle.jsgen_token_laws.proofs.Words.{begins_word, word_begins}
use Rattle.jsgen_reading_samples.specs.Hashbangs.{IsReadBehind, HasNoTokens}
use Rattle.jsgen_reading_samples.specs.Hashbangs as hashbangs
use Rattle.jsgen_reading_samples.specs.ReadPatterns as samples
use Rattle.jsgen_reading_samples.proofs.Written.{sign}
use Rattle.jsgen_reading_samples.proofs.Parts.{of_member, related, valued, item, value_a, free_a}

-- ---- with one

pub before_directive : IsReadBehind (codes "/usr/bin/env node") (codes "#!/usr/bin/env node\n\"use strict\";\na;") (hashbangs.behind (codes "/usr/bin/env node") (more (hashbangs.directive_of (codes "use strict")) no_trees) (more (samples.statement_of samples.a) no_trees))
unfolding unicode_ident longer_stands word_value string_value
before_directive = (
  piece true (Quoted Double (codes "use strict")) (sign semicolon (piece true (Word (codes "a")) (sign semicolon done))),
  (
    codes "\n\"use strict\";\na;",
    record { no_line_end = refl; scalars = refl; text_is = refl; ends = inr refl },
    (codes "\n", codes ";\na;", refl, refl, refl, refl, refl, ([], codes "\na;", refl, refl, refl, refl, refl, (codes "\n", codes ";", refl, refl, refl, refl, refl, ([], [], refl, refl, refl, refl, refl, refl)))),
  ),
  grammar.behind_hashbang (grammar.a_module (grammar.a_module_directive {q = Double} {w = codes "use strict"} {us = codes "use strict"} refl refl (grammar.module_items refl (grammar.last_module_item (grammar.a_module_statement (item {a = piece true (Word (codes "a")) done} refl (grammar.an_assignment (valued (related (of_member (grammar.a_primary (grammar.a_reference value_a free_a)))))))))))),
)

pub alone : IsReadBehind [] (codes "#!") (hashbangs.behind [] no_trees no_trees)
alone = (done, ([], record { no_line_end = refl; scalars = refl; text_is = refl; ends = inl refl }, refl), grammar.behind_hashbang (grammar.a_module (grammar.module_items refl grammar.no_module_item)))

-- ---- no token begins with `#!`

-- what a token that isn't plain begins with
abbrev begins_special : ℕ → Bool
begins_special c = list_any (λ d. c == d) (codes "#/`}")

special_begins : (s : Special) (x : List ℕ) → (d : ℕ) × (y : List ℕ) × (special_text s ++ x ≡ d ∷ y) × (begins_special d ≡ true)
special_begins (Private w) x = (35, w ++ x, refl, refl)
special_begins (Pattern w flags) x = (47, (w ++ 47 ∷ flags) ++ x, refl, refl)
special_begins (Whole w) x = (96, (w ++ 96 ∷ []) ++ x, refl, refl)
special_begins (Head w) x = (96, (w ++ codes "${") ++ x, refl, refl)
special_begins (Middle w) x = (125, (w ++ codes "${") ++ x, refl, refl)
special_begins (Tail w) x = (125, (w ++ 96 ∷ []) ++ x, refl, refl)

heads : (c d : ℕ) (x y : List ℕ) → c ∷ x ≡ d ∷ y → d ≡ c
heads c d x y e = cc

hash_alone : (d : ℕ) (x t : List ℕ) → (d == 35) ≡ false → 35 ∷ t ≡ d ∷ x → ⊥
hash_alone d x t n e = both_ways (d == 35) n (subst (λ c. (c == 35) ≡ true) (sym (heads 35 d t x e)) refl)

no_special_at : (c : ℕ) → begins_special c ≡ false → (s : Special) (x t : List ℕ) → c ∷ t ≡ special_text s ++ x → ⊥
no_special_at c b s x t e = let k = special_begins s x in both_ways (begins_special c) b (subst (λ d. begins_special d ≡ true) (heads c k.0 t k.1 (e ∙ k.2)) k.3)

no_plain_at : (c : ℕ) → ((p : Piece) → starts_piece p c ≡ true → ⊥) → (p : Piece) (x t : List ℕ) → is_plain_piece p ≡ true → is_spelled p ≡ true → c ∷ t ≡ piece_text p ++ x → ⊥
no_plain_at c n p x t i h e = let k = begins p i h in n p (subst (λ d. starts_piece p d ≡ true) (heads c k.head t (k.tail ++ x) (e ∙ ap (λ y. y ++ x) k.text)) k.starts)

no_piece_at : (c : ℕ) → ((p : Piece) → starts_piece p c ≡ true → ⊥) → begins_special c ≡ false → (p : Piece) (x t : List ℕ) → is_spelled p ≡ true → c ∷ t ≡ piece_text p ++ x → ⊥
no_piece_at c n b (Beyond s) x t h e = no_special_at c b s x t e
no_piece_at c n b p x t h e = no_plain_at c n p x t refl h e

-- a hash begins nothing but a private name, of which no `!` is part
no_start_at_hash : (p : Piece) → starts_piece p 35 ≡ true → ⊥
unfolding starts_piece unicode_ident
no_start_at_hash (Word w) h = both_ways false refl h
no_start_at_hash (Number w) h = both_ways false refl h
no_start_at_hash (Quoted q w) h = both_ways false refl h
no_start_at_hash (Sign s) h = both_ways false refl h
no_start_at_hash (Beyond s) h = both_ways false refl h

no_word_at_mark : begins_word 33 ≡ false
unfolding unicode_ident
no_word_at_mark = refl

no_piece_at_hashbang : (p : Piece) (x r : List ℕ) → is_spelled p ≡ true → 35 ∷ (33 ∷ r) ≡ piece_text p ++ x → ⊥
no_piece_at_hashbang (Beyond (Private w)) x r h e =
    let k = word_begins w h in
    let f : 33 ∷ r ≡ w ++ x = cc in
    both_ways (begins_word 33) no_word_at_mark (subst (λ d. begins_word d ≡ true) (heads 33 k.head r (k.tail ++ x) (f ∙ ap (λ y. y ++ x) k.text)) k.starts)
no_piece_at_hashbang (Beyond (Pattern w flags)) x r h e = hash_alone 47 _ _ refl e
no_piece_at_hashbang (Beyond (Whole w)) x r h e = hash_alone 96 _ _ refl e
no_piece_at_hashbang (Beyond (Head w)) x r h e = hash_alone 96 _ _ refl e
no_piece_at_hashbang (Beyond (Middle w)) x r h e = hash_alone 125 _ _ refl e
no_piece_at_hashbang (Beyond (Tail w)) x r h e = hash_alone 125 _ _ refl e
no_piece_at_hashbang p x r h e = no_plain_at 35 no_start_at_hash p x (33 ∷ r) refl h e

-- ---- the first token of a text

-- it is a piece, behind which the rest has tokens
record First (text : List ℕ) : Type 0 where
  pub token : Piece
  pub rest : List ℕ
  pub others : Tokens
  pub spelled : is_spelled token ≡ true
  pub ends : ends_before token rest ≡ true
  pub cut : text ≡ piece_text token ++ rest
  pub tokens : AreTokensAfter false rest others

-- a gap doesn't begin with what is no blank
no_gap : (c d : ℕ) (gap x t : List ℕ) → is_blank c ≡ false → list_all is_blank (d ∷ gap) ≡ true → c ∷ t ≡ (d ∷ gap) ++ x → ⊥
no_gap c d gap x t n h e = both_ways (is_blank c) n (subst (λ b. is_blank b ≡ true) (sym (heads d c (gap ++ x) t (sym e))) (and_parts (is_blank d) (list_all is_blank gap) h).0)

abbrev is_opening : ℕ → Bool
is_opening c = list_any (λ d. c == d) (codes "([{")

no_bracket : (c : ℕ) (b : Bracket) (x t : List ℕ) → is_opening c ≡ false → c ∷ t ≡ opening b ++ x → ⊥
no_bracket c Round x t n e = both_ways (is_opening c) n (subst (λ d. is_opening d ≡ true) (heads c 40 t x e) refl)
no_bracket c Square x t n e = both_ways (is_opening c) n (subst (λ d. is_opening d ≡ true) (heads c 91 t x e) refl)
no_bracket c Brace x t n e = both_ways (is_opening c) n (subst (λ d. is_opening d ≡ true) (heads c 123 t x e) refl)

first : (line : Bool) (c : ℕ) (t : List ℕ) (ts : Tokens) → is_blank c ≡ false → is_opening c ≡ false → AreTokensAfter line (c ∷ t) ts → First (c ∷ t)
first line c t done n o h = absurd (both_ways (is_blank c) n (and_parts (is_blank c) (list_all is_blank t) h).0)
first line c t (piece m p us) n o ([], rest, b, k, s, d, e, h) = record { token = p; rest = rest; others = us; spelled = s; ends = d; cut = e; tokens = h }
first line c t (piece m p us) n o (d ∷ gap, rest, b, k, s, f, e, h) = absurd (no_gap c d gap (piece_text p ++ rest) t n b e)
first line c t (group m a gs us) n o ([], inner, rest, b, k, e, i, h) = absurd (no_bracket c a _ t o e)
first line c t (group m a gs us) n o (d ∷ gap, inner, rest, b, k, e, i, h) = absurd (no_gap c d gap (opening a ++ (inner ++ (closing a ++ rest))) t n b e)

pub never_without : (rest : List ℕ) (ts : Tokens) → AreTokensOf (codes "#!" ++ rest) ts → ⊥
never_without rest ts h = let f = first false 35 (33 ∷ rest) ts refl refl h in no_piece_at_hashbang f.token f.rest rest f.spelled f.cut

-- a plain token that ends there is the first
behind_token : (q : Piece) (line : Bool) (c : ℕ) (t y : List ℕ) (ts : Tokens) → is_blank c ≡ false → is_opening c ≡ false → begins_special c ≡ false → is_plain_piece q ≡ true → is_spelled q ≡ true → ends_before q y ≡ true → c ∷ t ≡ piece_text q ++ y → AreTokensAfter line (c ∷ t) ts → (us : Tokens) × AreTokensAfter false y us
behind_token q line c t y ts n o b i s e k h = let f = first line c t ts n o h in by f.token f.rest f.others f.spelled f.ends f.cut f.tokens
  where
    plainly : (p : Piece) (rest : List ℕ) (us : Tokens) → is_plain_piece p ≡ true → is_spelled p ≡ true → ends_before p rest ≡ true → c ∷ t ≡ piece_text p ++ rest → AreTokensAfter false rest us → (us : Tokens) × AreTokensAfter false y us
    plainly p rest us j g d l m = (us, subst (λ x. AreTokensAfter false x us) (one_piece p q rest y j i g s d e (sym l ∙ k)).1 m)

    by : (p : Piece) (rest : List ℕ) (us : Tokens) → is_spelled p ≡ true → ends_before p rest ≡ true → c ∷ t ≡ piece_text p ++ rest → AreTokensAfter false rest us → (us : Tokens) × AreTokensAfter false y us
    by (Beyond x) rest us g d l m = absurd (no_special_at c b x rest t l)
    by p rest us g d l m = plainly p rest us refl g d l m

-- ---- a hashbang elsewhere

no_start_at_space : (p : Piece) → starts_piece p 32 ≡ true → ⊥
no_start_at_space p h = both_ways (is_blank 32) (starts_no_blank p 32 h) refl

-- it ends no line
marked : (line : Bool) (d : ℕ) (gap x t : List ℕ) (m : Bool) → 32 ∷ t ≡ (d ∷ gap) ++ x → m ≡ (line || has_line_end (d ∷ gap)) → m ≡ (line || has_line_end gap)
marked line d gap x t m e h = subst (λ c. m ≡ (line || has_line_end (c ∷ gap))) (heads 32 d t (gap ++ x) e) h

behind_space : (line : Bool) (t : List ℕ) (ts : Tokens) → AreTokensAfter line (32 ∷ t) ts → AreTokensAfter line t ts
behind_space line t done h = (and_parts (is_blank 32) (list_all is_blank t) h).1
behind_space line t (piece m p us) ([], rest, b, k, s, d, e, h) = absurd (no_piece_at 32 no_start_at_space refl p rest t s e)
behind_space line t (piece m p us) (d ∷ gap, rest, b, k, s, f, e, h) = (gap, rest, (and_parts (is_blank d) (list_all is_blank gap) b).1, marked line d gap (piece_text p ++ rest) t m e k, s, f, cc, h)
behind_space line t (group m a gs us) ([], inner, rest, b, k, e, i, h) = absurd (no_bracket 32 a _ t refl e)
behind_space line t (group m a gs us) (d ∷ gap, inner, rest, b, k, e, i, h) = (gap, inner, rest, (and_parts (is_blank d) (list_all is_blank gap) b).1, marked line d gap (opening a ++ (inner ++ (closing a ++ rest))) t m e k, cc, i, h)

pub behind_blank : HasNoTokens (codes " #!x")
behind_blank None ts h = never_without (codes "x") ts (behind_space false (codes "#!x") ts h)
behind_blank (Some value) ts h = hash_alone 32 _ _ refl (sym h.1.text_is)

pub behind_statement : HasNoTokens (codes "a;#!x")
unfolding unicode_ident longer_stands word_value
behind_statement None ts h =
    let k = behind_token (Word (codes "a")) false 97 (codes ";#!x") (codes ";#!x") ts refl refl refl refl refl refl refl h in
    let l = behind_token (Sign semicolon) false 59 (codes "#!x") (codes "#!x") k.0 refl refl refl refl refl refl refl k.1 in
    never_without (codes "x") l.0 l.1
behind_statement (Some value) ts h = hash_alone 97 _ _ refl (sym h.1.text_is)
