-- What a line of a comment begins and ends in, and what the line so far holds, by bytes.
use Rattle.std.proofs.Common.{◌≡◌, ℕ, ◌+◌, ◌-◌, ◌/◌, ◌%◌, ◌≤◌, ◌<◌, ◌⊎◌, inl, inr, Bool, true, false, cond, nat_lt, ◌&&◌, ◌==◌, if◌then◌else◌, Option, Some, None, List, [], ◌∷◌, ◌++◌, length, codes, refl, sym, ap, ◌∙◌, arith, not}
use Rattle.std.specs.Prelude as words
use Rattle.std.specs.List.{slice_get, starts_with, ends_with, filter, last_or}
use Rattle.std.specs.Option.{option_map, option_map_or}
use Rattle.std.specs.Str.{IsUtf8, chars, trim_start, skip_leading_whitespace}
use Rattle.std.proofs.Math.Utf8.{encode, encodes}
use Rattle.std.proofs.lemmas.Bool.{cases_lt, lt-ltb, le-ltb}
use Rattle.std.proofs.lemmas.Bool.Decides.{nat_tests}
use Rattle.std.proofs.lemmas.Str.{encodes-chars, chars_from_encodes}
use Rattle.jsgen_syntax.proofs.Last.{last_passes}
use Rattle.jsgen_comments.specs.Plain.{first_of}
use Rattle.jsgen_model.specs.Groups.{opens_block, closes_block, is_dark, is_mid_line, on_new_line, at_line_start}
use Rattle.jsgen_model.specs.Layout.{Pen}
use Rattle.jsgen_printer.proofs.Bangs.{ends_in_two, two_by_bytes, same_test, and_true, and_false, past, high}
use Rattle.jsgen_printer.proofs.Patterns.{map_or, no_sign}

-- ---- the last character

past_ascii : (d : ℕ) → d < 128 → (c : ℕ) → 128 ≤ c → (c == d) ≡ false
past_ascii d h c k = no_sign c d k (omega arith)

last_is : (d : ℕ) (bs : List ℕ) → d < 128 → IsUtf8 bs → option_map (λ c. c == d) (slice_get bs (length bs - 1)) ≡ option_map (λ c. c == d) (last_or None (chars bs))
last_is d bs h u = last_passes (λ c. c == d) false (past_ascii d h) bs u

-- it is this one of ASCII
pub ends_by_byte : (d : ℕ) (bs : List ℕ) → d < 128 → IsUtf8 bs → option_map_or (λ c. c == d) (slice_get bs (length bs - 1)) false ≡ option_map_or (λ c. c == d) (last_or None (chars bs)) false
ends_by_byte d bs h u = map_or (λ c. c == d) _ _ (last_is d bs h u)

same_start : (o p : Option ℕ) → option_map (λ c. c == 10) o ≡ option_map (λ c. c == 10) p → at_line_start o ≡ at_line_start p
same_start None None h = refl
same_start (Some x) (Some y) h = cc
same_start None (Some y) h = cc
same_start (Some x) None h = cc

-- it ends a line
pub start_by_byte : (bs : List ℕ) → IsUtf8 bs → at_line_start (slice_get bs (length bs - 1)) ≡ at_line_start (last_or None (chars bs))
start_by_byte bs u = same_start _ _ (last_is 10 bs (omega arith) u)

same_line : (o p : Option ℕ) (pen : Pen) → option_map (λ c. c == 10) o ≡ option_map (λ c. c == 10) p → option_map (λ c. c == 9) o ≡ option_map (λ c. c == 9) p → on_new_line o pen ≡ on_new_line p pen
same_line None None pen h k = refl
same_line (Some x) (Some y) pen h k =
    let line : (x == 10) ≡ (y == 10) = cc in
    let tab : (x == 9) ≡ (y == 9) = cc in
    rw (line, tab) refl
same_line None (Some y) pen h k = cc
same_line (Some x) None pen h k = cc

-- what leads to a line of its own depends on it
pub line_by_byte : (bs : List ℕ) (pen : Pen) → IsUtf8 bs → on_new_line (slice_get bs (length bs - 1)) pen ≡ on_new_line (last_or None (chars bs)) pen
line_by_byte bs pen u = same_line _ _ pen (last_is 10 bs (omega arith) u) (last_is 9 bs (omega arith) u)

-- ---- what a line begins and ends in

closes_so : (cs : List ℕ) → ends_in_two 42 47 cs ≡ closes_block cs
closes_so [] = refl
closes_so (c ∷ []) = refl
closes_so (c ∷ d ∷ []) = refl
closes_so (c ∷ d ∷ e ∷ cs) = closes_so (d ∷ e ∷ cs)

pub closes_by_bytes : (bs : List ℕ) → IsUtf8 bs → ends_with (λ x y. x == y) bs (codes "*/") ≡ closes_block (chars bs)
closes_by_bytes bs u = two_by_bytes 42 47 bs (omega arith) (omega arith) u ∙ closes_so (chars bs)

abbrev first_is : ℕ → (List ℕ → Bool) → List ℕ → Bool
first_is a f [] = false
first_is a f (b ∷ bs) = (a == b) && f bs

begins_so : (a b : ℕ) (bs : List ℕ) → starts_with (λ x y. x == y) bs (a ∷ b ∷ []) ≡ first_is a (first_is b (λ _. true)) bs
begins_so a b [] = refl
begins_so a b (c ∷ []) = refl
begins_so a b (c ∷ d ∷ bs) = refl

not_first : (a n : ℕ) (t : Bool) → a < 128 → 128 ≤ n → ((a == n) && t) ≡ false
not_first a n t k h = ap (λ b. b && t) (same_test n a ∙ past a n k h)

-- a character of ASCII is the first one just where its byte is
first_by_byte : (a c : ℕ) (f g : List ℕ → Bool) (cs : List ℕ) → a < 128 → f (encodes cs) ≡ g cs → first_is a f (encode c ++ encodes cs) ≡ ((c == a) && g cs)
unfolding encode
first_by_byte a c f g cs k e = by (cases_lt c 128)
  where
    long : (y z : Bool) → first_is a f (cond y ((192 + c / 64) ∷ (128 + c % 64) ∷ []) (cond z ((224 + c / 4096) ∷ (128 + c / 64 % 64) ∷ (128 + c % 64) ∷ []) ((240 + c / 262144) ∷ (128 + c / 4096 % 64) ∷ (128 + c / 64 % 64) ∷ (128 + c % 64) ∷ [])) ++ encodes cs) ≡ false
    long true z = not_first a (192 + c / 64) _ k (omega arith)
    long false true = not_first a (224 + c / 4096) _ k (omega arith)
    long false false = not_first a (240 + c / 262144) _ k (omega arith)

    by : (c < 128) ⊎ (128 ≤ c) → first_is a f (encode c ++ encodes cs) ≡ ((c == a) && g cs)
    by (inl h) = rw (lt-ltb c 128 h) (ap (λ t. t && f (encodes cs)) (same_test c a) ∙ ap (λ t. (c == a) && t) e)
    by (inr h) = rw (le-ltb c 128 h) (long (nat_lt c 2048) (nat_lt c 65536)) ∙ sym (ap (λ t. t && g cs) (past a c k h))

abbrev star_first : List ℕ → Bool
star_first [] = false
star_first (c ∷ cs) = (c == 42) && true

star_by_byte : (cs : List ℕ) → first_is 42 (λ _. true) (encodes cs) ≡ star_first cs
star_by_byte [] = refl
star_by_byte (c ∷ cs) = first_by_byte 42 c (λ _. true) (λ _. true) cs (omega arith) refl

opens_so : (cs : List ℕ) → first_is 47 (first_is 42 (λ _. true)) (encodes cs) ≡ opens_block cs
opens_so [] = refl
opens_so (c ∷ []) = first_by_byte 47 c (first_is 42 (λ _. true)) star_first [] (omega arith) (star_by_byte []) ∙ and_false (c == 47)
opens_so (c ∷ d ∷ cs) = first_by_byte 47 c (first_is 42 (λ _. true)) star_first (d ∷ cs) (omega arith) (star_by_byte (d ∷ cs)) ∙ ap (λ t. (c == 47) && t) (and_true (d == 42))

pub opens_by_bytes : (bs : List ℕ) → IsUtf8 bs → starts_with (λ x y. x == y) bs (codes "/*") ≡ opens_block (chars bs)
opens_by_bytes bs u = begins_so 47 42 bs ∙ (ap (first_is 47 (first_is 42 (λ _. true))) (sym (encodes-chars bs u)) ∙ opens_so (chars bs))

-- without the white space that it begins with
pub trimmed_chars : (bs t : List ℕ) → IsUtf8 t → t ≡ trim_start bs → chars t ≡ skip_leading_whitespace (chars bs)
unfolding trim_start
trimmed_chars bs t u e = sym (chars_from_encodes (skip_leading_whitespace (chars bs)) t u (sym e))

-- ---- what the line so far holds

-- behind a character: whether the line holds more than blanks
abbrev pub mid_behind : Bool → ℕ → Bool
mid_behind m c = if is_dark c then not (c == 10) else m

abbrev pub mid : Bool → List ℕ → Bool
mid m [] = m
mid m (c ∷ cs) = mid (mid_behind m c) cs

mid_append : (m : Bool) (xs ys : List ℕ) → mid m (xs ++ ys) ≡ mid (mid m xs) ys
mid_append m [] ys = refl
mid_append m (x ∷ xs) ys = mid_append (mid_behind m x) xs ys

mid_so : (o : Option ℕ) (m : Bool) (cs : List ℕ) → m ≡ option_map_or (λ c. not (c == 10)) o false → mid m cs ≡ option_map_or (λ c. not (c == 10)) (last_or o (filter is_dark cs)) false
mid_so o m [] h = h
mid_so o m (c ∷ cs) h = by (is_dark c) (mid_so (Some c) (not (c == 10)) cs refl) (mid_so o m cs h)
  where
    by : (b : Bool) → mid (not (c == 10)) cs ≡ option_map_or (λ c. not (c == 10)) (last_or (Some c) (filter is_dark cs)) false → mid m cs ≡ option_map_or (λ c. not (c == 10)) (last_or o (filter is_dark cs)) false → mid (if b then not (c == 10) else m) cs ≡ option_map_or (λ c. not (c == 10)) (last_or o (cond b (c ∷ filter is_dark cs) (filter is_dark cs))) false
    by true dark blank = dark
    by false dark blank = blank

mid_past : (m : Bool) (n : ℕ) → 128 ≤ n → mid_behind m n ≡ true
mid_past m n h = rw (past 32 n (omega arith) h, past 9 n (omega arith) h, past 10 n (omega arith) h) refl

mid_character : (m : Bool) (c : ℕ) → mid m (encode c) ≡ mid_behind m c
unfolding encode
mid_character m c = by (cases_lt c 128)
  where
    long : (y z : Bool) → mid m (cond y ((192 + c / 64) ∷ (128 + c % 64) ∷ []) (cond z ((224 + c / 4096) ∷ (128 + c / 64 % 64) ∷ (128 + c % 64) ∷ []) ((240 + c / 262144) ∷ (128 + c / 4096 % 64) ∷ (128 + c / 64 % 64) ∷ (128 + c % 64) ∷ []))) ≡ true
    long true z = mid_past (mid_behind m (192 + c / 64)) (128 + c % 64) (high c)
    long false true = mid_past (mid_behind (mid_behind m (224 + c / 4096)) (128 + c / 64 % 64)) (128 + c % 64) (high c)
    long false false = mid_past (mid_behind (mid_behind (mid_behind m (240 + c / 262144)) (128 + c / 4096 % 64)) (128 + c / 64 % 64)) (128 + c % 64) (high c)

    by : (c < 128) ⊎ (128 ≤ c) → mid m (encode c) ≡ mid_behind m c
    by (inl h) = rw (lt-ltb c 128 h) refl
    by (inr h) = rw (le-ltb c 128 h) (long (nat_lt c 2048) (nat_lt c 65536)) ∙ sym (mid_past m c h)

mid_text : (m : Bool) (cs : List ℕ) → mid m (encodes cs) ≡ mid m cs
mid_text m [] = refl
mid_text m (c ∷ cs) = mid_append m (encode c) (encodes cs) ∙ (ap (λ t. mid t (encodes cs)) (mid_character m c) ∙ mid_text (mid_behind m c) cs)

pub mid_by_bytes : (bs : List ℕ) → IsUtf8 bs → mid false bs ≡ is_mid_line (chars bs)
mid_by_bytes bs u = ap (mid false) (sym (encodes-chars bs u)) ∙ (mid_text false (chars bs) ∙ mid_so None false (chars bs) refl)

-- the last byte tells, unless it is a blank
pub mid_last : (xs ys : List ℕ) (b : ℕ) → xs ≡ ys ++ (b ∷ []) → mid false xs ≡ mid_behind (mid false ys) b
mid_last xs ys b e = ap (mid false) e ∙ mid_append false ys (b ∷ [])

pub dark_last : (m : Bool) (b : ℕ) → (b ≡ 32 → ⊥) → (b ≡ 9 → ⊥) → mid_behind m b ≡ not (b == 10)
dark_last m b h k =
    let space : (b == 32) ≡ false = grind (arith, nat_tests, h) in
    let tab : (b == 9) ≡ false = grind (arith, nat_tests, k) in
    rw (space, tab) refl

pub space_last : (m : Bool) (b : ℕ) → b ≡ 32 → mid_behind m b ≡ m
space_last m b h = rw h refl

pub tab_last : (m : Bool) (b : ℕ) → b ≡ 9 → mid_behind m b ≡ m
tab_last m b h = rw h refl

pub none_mid : (xs : List ℕ) → length xs ≡ 0 → false ≡ mid false xs
none_mid [] h = refl
none_mid (x ∷ xs) h = absurd (omega arith)

-- what code and definitions say the same
pub same_not : (b : Bool) → words.not b ≡ not b
same_not true = refl
same_not false = refl

-- ---- lines

-- of some lines the first and the others
abbrev lines_there : Option (List ℕ × List (List ℕ)) → List (List ℕ)
lines_there None = []
lines_there (Some p) = p.0 ∷ p.1

all_there : (ls : List (List ℕ)) → lines_there (first_of ls) ≡ ls
all_there [] = refl
all_there (l ∷ ls) = refl

pub first_there : (ls : List (List ℕ)) (l : List ℕ) (more : List (List ℕ)) → Some (l, more) ≡ first_of ls → ls ≡ l ∷ more
first_there ls l more h = sym (ap lines_there h ∙ all_there ls)

pub none_there : (ls : List (List ℕ)) → None ≡ first_of ls → ls ≡ []
none_there ls h = sym (ap lines_there h ∙ all_there ls)
