-- Rows of plain tokens.
use Rattle.std.proofs.Common.{◌≡◌, ℕ, Bool, true, false, ◌==◌, List, ◌++◌, codes, refl, sym, ap, ◌∙◌}
use Rattle.std.specs.List.{list_any}
use Rattle.std.proofs.lemmas.Bool.{both_ways, and_from, and_parts, or_parts, or_right}
use Rattle.std.proofs.lemmas.List.Folds.{list_any-append}
use Rattle.jsgen_model.specs.Punctuator.{opening, closing}
use Rattle.jsgen_model.specs.Tokens.{Tokens, done, piece, group, ◌⧺◌, Piece, Word, Number, Quoted, Sign, Beyond, Special, Private, Pattern, Whole, Head, Middle, Tail, special_text, piece_text, is_plain_piece, are_plain, AreTokensAfter, AreTokensOf}

-- two rows of plain tokens one after the other
pub plain_then : (a b : Tokens) → are_plain a ≡ true → are_plain b ≡ true → are_plain (a ⧺ b) ≡ true
plain_then done b g h = h
plain_then (piece m p ts) b g h = let k = and_parts (is_plain_piece p) (are_plain ts) g in and_from (is_plain_piece p) (are_plain (ts ⧺ b)) k.0 (plain_then ts b k.1 h)
plain_then (group m k gs ts) b g h = let i = and_parts (are_plain gs) (are_plain ts) g in and_from (are_plain gs) (are_plain (ts ⧺ b)) i.0 (plain_then ts b i.1 h)

-- ---- texts that have no other tokens

-- each token that isn't plain has one of these characters
abbrev pub marks_special : ℕ → Bool
marks_special c = list_any (λ d. c == d) (codes "#/`$")

any_behind : (f : ℕ → Bool) (a b : List ℕ) → list_any f b ≡ true → list_any f (a ++ b) ≡ true
any_behind f a b h = list_any-append f a b ∙ or_right (list_any f a) (list_any f b) h

none_in_parts : (f : ℕ → Bool) (a b : List ℕ) → list_any f (a ++ b) ≡ false → (list_any f a ≡ false) × (list_any f b ≡ false)
none_in_parts f a b h = or_parts (list_any f a) (list_any f b) (sym (list_any-append f a b) ∙ h)

special_marked : (s : Special) → list_any marks_special (special_text s) ≡ true
special_marked (Private w) = refl
special_marked (Pattern w flags) = refl
special_marked (Whole w) = refl
special_marked (Head w) = refl
special_marked (Middle w) = any_behind marks_special w (codes "${") refl
special_marked (Tail w) = any_behind marks_special w (codes "`") refl

unmarked_plain : (p : Piece) → list_any marks_special (piece_text p) ≡ false → is_plain_piece p ≡ true
unmarked_plain (Word w) h = refl
unmarked_plain (Number w) h = refl
unmarked_plain (Quoted q w) h = refl
unmarked_plain (Sign s) h = refl
unmarked_plain (Beyond s) h = absurd (both_ways (list_any marks_special (special_text s)) h (special_marked s))

plain_after : (ts : Tokens) (line : Bool) (text : List ℕ) → list_any marks_special text ≡ false → AreTokensAfter line text ts → are_plain ts ≡ true
plain_after done line text e h = refl
plain_after (piece m p ts) line text e h =
    let k = none_in_parts marks_special h.0 (piece_text p ++ h.1) (ap (list_any marks_special) (sym h.6) ∙ e) in
    let l = none_in_parts marks_special (piece_text p) h.1 k.1 in
    and_from (is_plain_piece p) (are_plain ts) (unmarked_plain p l.0) (plain_after ts false h.1 l.1 h.7)
plain_after (group m b gs ts) line text e h =
    let k = none_in_parts marks_special h.0 (opening b ++ (h.1 ++ (closing b ++ h.2))) (ap (list_any marks_special) (sym h.5) ∙ e) in
    let i = none_in_parts marks_special h.1 (closing b ++ h.2) (none_in_parts marks_special (opening b) (h.1 ++ (closing b ++ h.2)) k.1).1 in
    and_from (are_plain gs) (are_plain ts) (plain_after gs false h.1 i.0 h.6) (plain_after ts false h.2 (none_in_parts marks_special (closing b) h.2 i.1).1 h.7)

-- a text without these characters has plain tokens alone
pub unmarked_tokens : (text : List ℕ) (ts : Tokens) → list_any marks_special text ≡ false → AreTokensOf text ts → are_plain ts ≡ true
unmarked_tokens text ts e h = plain_after ts false text e h
