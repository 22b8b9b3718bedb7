-- The last byte and the last character of a text agree on what answers one way for all but ASCII, such as whether they go in a word.
use Rattle.std.proofs.Common.{◌≡◌, ℕ, ◌-◌, ◌≤◌, ◌<◌, Bool, true, false, cond, nat_lt, nat_le, ◌||◌, ◌==◌, ◌+◌, ◌/◌, ◌%◌, ◌⊎◌, inl, inr, Option, Some, None, List, [], ◌∷◌, ◌++◌, length, refl, sym, ap, ◌∙◌, arith}
use Rattle.std.specs.Char.{is_ascii_alphanumeric}
use Rattle.std.specs.List.{last_or, slice_get}
use Rattle.std.specs.Option.{option_map}
use Rattle.std.specs.Str.{IsUtf8, chars}
use Rattle.std.proofs.Math.Utf8.{encode, encodes}
use Rattle.std.proofs.lemmas.Bool.{cases_lt, lt-ltb, le-ltb, le-leb, or_right}
use Rattle.std.proofs.lemmas.Str.{encodes-chars}
use Rattle.jsgen_syntax.specs.Name.{goes_in_word}

-- the last item, found by its place
slice_get_last : (x : ℕ) (xs : List ℕ) → slice_get (x ∷ xs) (length xs) ≡ last_or (Some x) xs
slice_get_last x [] = refl
slice_get_last x (y ∷ ys) = slice_get_last y ys

-- the last item of two lists in a row
last_of_append : (o : Option ℕ) (xs ys : List ℕ) → last_or o (xs ++ ys) ≡ last_or (last_or o xs) ys
last_of_append o [] ys = refl
last_of_append o (x ∷ xs) ys = last_of_append (Some x) xs ys

-- all but ASCII goes in a word
goes_past_ascii : (c : ℕ) → 128 ≤ c → goes_in_word c ≡ true
goes_past_ascii c h = or_right (is_ascii_alphanumeric c || (c == 95) || (c == 36)) (nat_le 128 c) (le-leb 128 c h)

-- the last byte of a character
last_byte : (o : Option ℕ) (c : ℕ) → last_or o (encode c) ≡ Some (cond (nat_lt c 128) c (128 + c % 64))
unfolding encode
last_byte o c = by (nat_lt c 128) (nat_lt c 2048) (nat_lt c 65536)
  where
    by : (x y z : Bool) → last_or o (cond x (c ∷ []) (cond y ((192 + c / 64) ∷ (128 + c % 64) ∷ []) (cond z ((224 + c / 4096) ∷ (128 + c / 64 % 64) ∷ (128 + c % 64) ∷ []) ((240 + c / 262144) ∷ (128 + c / 4096 % 64) ∷ (128 + c / 64 % 64) ∷ (128 + c % 64) ∷ [])))) ≡ Some (cond x c (128 + c % 64))
    by true y z = refl
    by false true z = refl
    by false false true = refl
    by false false false = refl

-- a test that answers one way for all but ASCII holds of a character just where it holds of its last byte
last_byte_passes : (f : ℕ → Bool) (past : Bool) → ((c : ℕ) → 128 ≤ c → f c ≡ past) → (o : Option ℕ) (c : ℕ) → option_map f (last_or o (encode c)) ≡ Some (f c)
last_byte_passes f past same o c = ap (option_map f) (last_byte o c) ∙ by (cases_lt c 128)
  where
    by : (c < 128) ⊎ (128 ≤ c) → option_map f (Some (cond (nat_lt c 128) c (128 + c % 64))) ≡ Some (f c)
    by (inl h) = rw (lt-ltb c 128 h) refl
    by (inr h) = rw (le-ltb c 128 h, same c h, same (128 + c % 64) (omega arith)) refl

-- the same of a whole text, and of what stood before it where the text is empty
last_passes_from : (f : ℕ → Bool) (past : Bool) → ((c : ℕ) → 128 ≤ c → f c ≡ past) → (o p : Option ℕ) (cs : List ℕ) → option_map f o ≡ option_map f p → option_map f (last_or o (encodes cs)) ≡ option_map f (last_or p cs)
last_passes_from f past same o p [] h = h
last_passes_from f past same o p (c ∷ cs) h =
    ap (option_map f) (last_of_append o (encode c) (encodes cs)) ∙ last_passes_from f past same (last_or o (encode c)) (Some c) cs (last_byte_passes f past same o c)

-- the item at the last place
slice_get_end : (bs : List ℕ) → slice_get bs (length bs - 1) ≡ last_or None bs
slice_get_end [] = refl
slice_get_end (b ∷ bs) =
    let e : length (b ∷ bs) - 1 ≡ length bs = omega arith in
    rw e (slice_get_last b bs)

-- such a test holds of the last byte of a text just where it holds of its last character
pub last_passes : (f : ℕ → Bool) (past : Bool) → ((c : ℕ) → 128 ≤ c → f c ≡ past) → (bs : List ℕ) → IsUtf8 bs → option_map f (slice_get bs (length bs - 1)) ≡ option_map f (last_or None (chars bs))
last_passes f past same bs u =
    ap (option_map f) (slice_get_end bs ∙ ap (last_or None) (sym (encodes-chars bs u))) ∙ last_passes_from f past same None None (chars bs) refl

-- the last byte of a text goes in a word just where its last character does
pub last_goes_in_word : (bs : List ℕ) → IsUtf8 bs → option_map goes_in_word (slice_get bs (length bs - 1)) ≡ option_map goes_in_word (last_or None (chars bs))
last_goes_in_word bs u = last_passes goes_in_word true goes_past_ascii bs u
