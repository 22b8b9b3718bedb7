-- What a name that a module may use isn't.
use Rattle.std.proofs.Common.{◌≡◌, ℕ, Bool, true, false, not, ◌&&◌, codes, Some, List, refl, sym, ap, ◌∙◌, subst, encode_utf8_all, bytes_eq}
use Rattle.std.proofs.Math.Utf8.{encode}
use Rattle.std.proofs.lemmas.Bool.{both_ways, false_from_ne_true, or_from, and_parts, and_from, and_right, and_left, not-true}
use Rattle.std.proofs.lemmas.Slice.Eq.{bytes_eq-Decides}
use Rattle.std.proofs.lemmas.Option.{same_Some}
use Rattle.jsgen_syntax.specs.Escapes.{word_value}
use Rattle.jsgen_syntax.specs.Name.{spells_name, is_reserved, is_strict_reserved, is_free_name}
use Rattle.jsgen_model.specs.Tokens.{Tokens, done, piece, Word}
use Rattle.jsgen_model.specs.Layout.{Start}
use Rattle.jsgen_model.specs.Grammar.{is_word, on_same_line, starts_in_square, starts_declaration, may_precede_of}
use Rattle.jsgen_row_laws.proofs.Good.{may_begin, begins_all}

-- a free name is a name in neither list
record Free (w : List ℕ) : Type 0 where
  named : spells_name w ≡ true
  unreserved : is_reserved (encode_utf8_all w) ≡ false
  unreserved_in_strict : is_strict_reserved (encode_utf8_all w) ≡ false

free : (w : List ℕ) → is_free_name w ≡ true → Free w
free w h =
    let k = and_parts (spells_name w && not (is_reserved (encode_utf8_all w))) (not (is_strict_reserved (encode_utf8_all w))) h in
    let j = and_parts (spells_name w) (not (is_reserved (encode_utf8_all w))) k.0 in
    record { named = j.0; unreserved = not-true (is_reserved (encode_utf8_all w)) j.1; unreserved_in_strict = not-true (is_strict_reserved (encode_utf8_all w)) k.1 }

pub free_spelled : (w : List ℕ) → is_free_name w ≡ true → spells_name w ≡ true
free_spelled w h = (free w h).named

-- it is no reserved word
no_reserved : (w x : List ℕ) → is_reserved (encode_utf8_all w) ≡ false → is_reserved (encode_utf8_all x) ≡ true → bytes_eq w x ≡ false
no_reserved w x f r = false_from_ne_true (bytes_eq w x) (λ e. both_ways (is_reserved (encode_utf8_all x)) (subst (λ y. is_reserved (encode_utf8_all y) ≡ false) ((bytes_eq-Decides w x).0 e) f) r)

no_strict : (w x : List ℕ) → is_strict_reserved (encode_utf8_all w) ≡ false → is_strict_reserved (encode_utf8_all x) ≡ true → bytes_eq w x ≡ false
no_strict w x f r = false_from_ne_true (bytes_eq w x) (λ e. both_ways (is_strict_reserved (encode_utf8_all x)) (subst (λ y. is_strict_reserved (encode_utf8_all y) ≡ false) ((bytes_eq-Decides w x).0 e) f) r)

-- no keyword is printed for it, since a keyword stands for itself
no_keyword : (w v k : List ℕ) → word_value w ≡ Some v → word_value k ≡ Some k → (bytes_eq v k ≡ false) → bytes_eq w k ≡ false
no_keyword w v k e f n = false_from_ne_true (bytes_eq w k) (λ h. both_ways (bytes_eq v k) n ((bytes_eq-Decides v k).1 (same_Some v k (sym e ∙ (ap word_value ((bytes_eq-Decides w k).0 h) ∙ f)))))

-- nor is `let`
pub free_no_let : (w v : List ℕ) → word_value w ≡ Some v → is_free_name v ≡ true → bytes_eq w (codes "let") ≡ false
unfolding is_strict_reserved encode word_value
free_no_let w v e h = no_keyword w v (codes "let") e refl (no_strict v (codes "let") (free v h).unreserved_in_strict refl)

-- nor `function`
pub free_no_function : (w v : List ℕ) → word_value w ≡ Some v → is_free_name v ≡ true → bytes_eq w (codes "function") ≡ false
unfolding is_reserved encode word_value
free_no_function w v e h = no_keyword w v (codes "function") e refl (no_reserved v (codes "function") (free v h).unreserved refl)

-- and no declaration begins with its word, where no `function` follows
pub free_starts_none : (w v : List ℕ) (ts : Tokens) → word_value w ≡ Some v → is_free_name v ≡ true → is_word (codes "function") ts ≡ false → starts_declaration w ts ≡ false
unfolding is_reserved is_strict_reserved encode word_value
free_starts_none w v ts e h n =
    let k = free v h in
    or_from _ _ (or_from _ _ (or_from _ _ (free_no_function w v e h) (no_keyword w v (codes "class") e refl (no_reserved v (codes "class") k.unreserved refl)))
    (and_left _ (on_same_line ts) (and_right (bytes_eq w (codes "async")) (is_word (codes "function") ts) n)))
    (and_left (bytes_eq w (codes "let")) (starts_in_square ts) (free_no_let w v e h))

-- nor does one begin with `async` there
pub async_starts_none : (ts : Tokens) → is_word (codes "function") ts ≡ false → starts_declaration (codes "async") ts ≡ false
async_starts_none ts n = or_from _ _ (or_from _ _ (or_from _ _ refl refl) (and_left _ (on_same_line ts) n)) refl

-- a name that isn't `async` may stand alone before `of`
pub free_precedes_of : (mark : Bool) (w v : List ℕ) → word_value w ≡ Some v → is_free_name v ≡ true → bytes_eq v (codes "async") ≡ false → may_precede_of (piece mark (Word w) done) ≡ true
unfolding encode word_value
free_precedes_of mark w v e h n = and_from (not (bytes_eq w (codes "let"))) (not (bytes_eq w (codes "async"))) (ap not (free_no_let w v e h)) (ap not (no_keyword w v (codes "async") e refl n))

-- it begins a statement and what else may begin so, where no `function` follows
pub name_begins : (start : Start) (line : Bool) (w v : List ℕ) (b : Tokens) → word_value w ≡ Some v → is_free_name v ≡ true → is_word (codes "function") b ≡ false → may_begin start (piece line (Word w) b) ≡ true
name_begins start line w v b e h n = begins_all start (piece line (Word w) b) (ap not (free_starts_none w v b e h n))
