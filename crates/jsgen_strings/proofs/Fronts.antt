-- The first code point of some, from their bytes.
use Rattle.std.proofs.Common.{◌≡◌, ℕ, ◌+◌, ◌/◌, ◌%◌, ◌≤◌, ◌<◌, true, cond, nat_lt, ◌⊎◌, inl, inr, List, [], ◌∷◌, ◌++◌, length, get_or, take, drop, refl, sym, ap, ap₂, ◌∙◌, subst, arith, length-append, take_at, drop_at}
use Rattle.std.specs.List.{list_all}
use Rattle.std.specs.Str.{chars, continuation_len}
use lib.Utf8.{encode, encodes}
use Rattle.std.proofs.lemmas.Bool.{and_parts, cases_lt, lt-ltb, le-ltb, ltb-true}
use Rattle.jsgen_syntax.proofs.Wtf8.{encode_one, encode_two, encode_three, encode_four, chars_encodes}
use Rattle.jsgen_strings.specs.Points.{is_point, ArePoints, first_point}

-- a code point at the front of the bytes
pub record Front (bytes : List ℕ) : Type 0 where
  pub code : ℕ
  pub behind : List ℕ
  pub whole : bytes ≡ encode code ++ behind
  pub are : chars bytes ≡ code ∷ chars behind
  pub bound : code < 0x11_0000
  pub points : ArePoints behind

front_of : (bytes cs : List ℕ) → chars bytes ≡ cs → encodes cs ≡ bytes → list_all is_point cs ≡ true → 0 < length bytes → Front bytes
front_of bytes [] e f g l = absurd (let k = ap length f in omega arith)
front_of bytes (c ∷ cs) e f g l =
    let k = and_parts (is_point c) (list_all is_point cs) g in
    let behind : chars (encodes cs) ≡ cs = chars_encodes cs in
    record {
      code = c;
      behind = encodes cs;
      whole = sym f;
      are = e ∙ ap (λ x. c ∷ x) (sym behind);
      bound = ltb-true c 0x11_0000 k.0;
      points = (ap encodes behind, ap (list_all is_point) behind ∙ k.1);
    }

pub front : (bytes : List ℕ) → ArePoints bytes → 0 < length bytes → Front bytes
front bytes p l = front_of bytes (chars bytes) refl p.0 p.1 l

-- ---- its bytes

pub record One (bytes : List ℕ) (c : ℕ) : Type 0 where
  pub size : length (encode c) ≡ 1
  pub first : get_or bytes 0 0 ≡ c
  pub high : c < 0x80

pub record Two (bytes : List ℕ) (c : ℕ) : Type 0 where
  pub long : 2 ≤ length bytes
  pub size : length (encode c) ≡ 2
  pub first : get_or bytes 0 0 ≡ 192 + c / 64
  pub second : get_or bytes 1 0 ≡ 128 + c % 64
  pub low : 0x80 ≤ c
  pub high : c < 0x800

pub record Three (bytes : List ℕ) (c : ℕ) : Type 0 where
  pub long : 3 ≤ length bytes
  pub size : length (encode c) ≡ 3
  pub first : get_or bytes 0 0 ≡ 224 + c / 4096
  pub second : get_or bytes 1 0 ≡ 128 + c / 64 % 64
  pub third : get_or bytes 2 0 ≡ 128 + c % 64
  pub low : 0x800 ≤ c
  pub high : c < 0x1_0000

pub record Four (bytes : List ℕ) (c : ℕ) : Type 0 where
  pub long : 4 ≤ length bytes
  pub size : length (encode c) ≡ 4
  pub first : get_or bytes 0 0 ≡ 240 + c / 262144
  pub second : get_or bytes 1 0 ≡ 128 + c / 4096 % 64
  pub third : get_or bytes 2 0 ≡ 128 + c / 64 % 64
  pub fourth : get_or bytes 3 0 ≡ 128 + c % 64
  pub low : 0x1_0000 ≤ c

abbrev Shape : List ℕ → ℕ → Type 0
Shape bytes c = One bytes c ⊎ (Two bytes c ⊎ (Three bytes c ⊎ Four bytes c))

shape_two : (c : ℕ) (rest : List ℕ) → 0x80 ≤ c → c < 0x800 → Two (((192 + c / 64) ∷ (128 + c % 64) ∷ []) ++ rest) c
shape_two c rest h l = record { long = omega arith; size = ap length (encode_two c h l); first = refl; second = refl; low = h; high = l }

shape_three : (c : ℕ) (rest : List ℕ) → 0x800 ≤ c → c < 0x1_0000 → Three (((224 + c / 4096) ∷ (128 + c / 64 % 64) ∷ (128 + c % 64) ∷ []) ++ rest) c
shape_three c rest h l = record { long = omega arith; size = ap length (encode_three c h l); first = refl; second = refl; third = refl; low = h; high = l }

shape_four : (c : ℕ) (rest : List ℕ) → 0x1_0000 ≤ c → Four (((240 + c / 262144) ∷ (128 + c / 4096 % 64) ∷ (128 + c / 64 % 64) ∷ (128 + c % 64) ∷ []) ++ rest) c
shape_four c rest h = record { long = omega arith; size = ap length (encode_four c h); first = refl; second = refl; third = refl; fourth = refl; low = h }

shape : (bytes : List ℕ) (f : Front bytes) → Shape bytes f.code
shape bytes f = by (cases_lt f.code 0x80) (cases_lt f.code 0x800) (cases_lt f.code 0x1_0000)
  where
    at : (text : List ℕ) → encode f.code ≡ text → bytes ≡ text ++ f.behind
    at text e = f.whole ∙ ap (λ x. x ++ f.behind) e

    by : (f.code < 0x80) ⊎ (0x80 ≤ f.code) → (f.code < 0x800) ⊎ (0x800 ≤ f.code) → (f.code < 0x1_0000) ⊎ (0x1_0000 ≤ f.code) → Shape bytes f.code
    by (inl h) k m = inl (record { size = ap length (encode_one f.code h); first = ap (λ x. get_or x 0 0) (at (f.code ∷ []) (encode_one f.code h)); high = h })
    by (inr h) (inl l) m = inr (inl (subst (λ x. Two x f.code) (sym (at _ (encode_two f.code h l))) (shape_two f.code f.behind h l)))
    by (inr h) (inr l) (inl m) = inr (inr (inl (subst (λ x. Three x f.code) (sym (at _ (encode_three f.code l m))) (shape_three f.code f.behind l m))))
    by (inr h) (inr l) (inr m) = inr (inr (inr (subst (λ x. Four x f.code) (sym (at _ (encode_four f.code m))) (shape_four f.code f.behind m))))

pub is_one : (bytes : List ℕ) (f : Front bytes) → get_or bytes 0 0 < 128 → One bytes f.code
is_one bytes f h = by (shape bytes f)
  where
    by : Shape bytes f.code → One bytes f.code
    by (inl s) = s
    by (inr (inl s)) = absurd (omega arith)
    by (inr (inr (inl s))) = absurd (omega arith)
    by (inr (inr (inr s))) = absurd (omega arith)

pub is_two : (bytes : List ℕ) (f : Front bytes) → 128 ≤ get_or bytes 0 0 → get_or bytes 0 0 < 224 → Two bytes f.code
is_two bytes f h l = by (shape bytes f)
  where
    by : Shape bytes f.code → Two bytes f.code
    by (inl s) = absurd (omega arith)
    by (inr (inl s)) = s
    by (inr (inr (inl s))) = absurd (omega arith)
    by (inr (inr (inr s))) = absurd (omega arith)

pub is_three : (bytes : List ℕ) (f : Front bytes) → 224 ≤ get_or bytes 0 0 → get_or bytes 0 0 < 240 → Three bytes f.code
is_three bytes f h l = by (shape bytes f)
  where
    by : Shape bytes f.code → Three bytes f.code
    by (inl s) = absurd (omega arith)
    by (inr (inl s)) = absurd (omega arith)
    by (inr (inr (inl s))) = s
    by (inr (inr (inr s))) = absurd (omega arith)

pub is_four : (bytes : List ℕ) (f : Front bytes) → 240 ≤ get_or bytes 0 0 → Four bytes f.code
is_four bytes f h = by (shape bytes f)
  where
    by : Shape bytes f.code → Four bytes f.code
    by (inl s) = absurd (omega arith)
    by (inr (inl s)) = absurd (omega arith)
    by (inr (inr (inl s))) = absurd (omega arith)
    by (inr (inr (inr s))) = s

-- what a step over the bytes needs: where the first is past ASCII, there is a second, and from U+0800 on a third
pub record More (bytes : List ℕ) : Type 0 where
  pub second : 1 < length bytes
  pub first_from : 192 ≤ get_or bytes 0 0
  pub second_from : 128 ≤ get_or bytes 1 0

pub at_least_two : (bytes : List ℕ) (f : Front bytes) → 128 ≤ get_or bytes 0 0 → More bytes
at_least_two bytes f h = by (shape bytes f)
  where
    by : Shape bytes f.code → More bytes
    by (inl s) = absurd (omega arith)
    by (inr (inl s)) = record { second = omega arith; first_from = omega arith; second_from = omega arith }
    by (inr (inr (inl s))) = record { second = omega arith; first_from = omega arith; second_from = omega arith }
    by (inr (inr (inr s))) = record { second = omega arith; first_from = omega arith; second_from = omega arith }

pub record EvenMore (bytes : List ℕ) : Type 0 where
  pub third : 2 < length bytes
  pub third_from : 128 ≤ get_or bytes 2 0

pub at_least_three : (bytes : List ℕ) (f : Front bytes) → 224 ≤ get_or bytes 0 0 → EvenMore bytes
at_least_three bytes f h = by (shape bytes f)
  where
    by : Shape bytes f.code → EvenMore bytes
    by (inl s) = absurd (omega arith)
    by (inr (inl s)) = absurd (omega arith)
    by (inr (inr (inl s))) = record { third = omega arith; third_from = omega arith }
    by (inr (inr (inr s))) = record { third = omega arith; third_from = omega arith }

pub first_is : (bytes : List ℕ) (f : Front bytes) → f.code ≡ first_point (chars bytes)
first_is bytes f = sym (ap first_point f.are)

pub size_is : (bytes : List ℕ) (f : Front bytes) → length (encode f.code) ≡ continuation_len (get_or bytes 0 0) + 1
size_is bytes f = by (shape bytes f)
  where
    by : Shape bytes f.code → length (encode f.code) ≡ continuation_len (get_or bytes 0 0) + 1
    by (inl s) = let l : get_or bytes 0 0 < 128 = omega arith in s.size ∙ sym (ap (λ b. cond b 0 (cond (nat_lt (get_or bytes 0 0) 224) 1 (cond (nat_lt (get_or bytes 0 0) 240) 2 3)) + 1) (lt-ltb (get_or bytes 0 0) 128 l))
    by (inr (inl s)) = let h : 128 ≤ get_or bytes 0 0 = omega arith in let l : get_or bytes 0 0 < 224 = omega arith in s.size ∙ sym (rw (le-ltb (get_or bytes 0 0) 128 h, lt-ltb (get_or bytes 0 0) 224 l) refl)
    by (inr (inr (inl s))) = let h : 128 ≤ get_or bytes 0 0 = omega arith in let l : 224 ≤ get_or bytes 0 0 = omega arith in let m : get_or bytes 0 0 < 240 = omega arith in s.size ∙ sym (rw (le-ltb (get_or bytes 0 0) 128 h, le-ltb (get_or bytes 0 0) 224 l, lt-ltb (get_or bytes 0 0) 240 m) refl)
    by (inr (inr (inr s))) = let h : 128 ≤ get_or bytes 0 0 = omega arith in let l : 224 ≤ get_or bytes 0 0 = omega arith in let m : 240 ≤ get_or bytes 0 0 = omega arith in s.size ∙ sym (rw (le-ltb (get_or bytes 0 0) 128 h, le-ltb (get_or bytes 0 0) 224 l, le-ltb (get_or bytes 0 0) 240 m) refl)

-- cut behind it
pub front_taken : (bytes : List ℕ) (f : Front bytes) (n : ℕ) → n ≡ continuation_len (get_or bytes 0 0) + 1 → (take n bytes ≡ encode f.code) × (drop n bytes ≡ f.behind)
front_taken bytes f n e =
    let k : length (encode f.code) ≡ n = size_is bytes f ∙ sym e in
    (ap (take n) f.whole ∙ take_at (encode f.code) f.behind n k, ap (drop n) f.whole ∙ drop_at (encode f.code) f.behind n k)

pub front_within : (bytes : List ℕ) (f : Front bytes) (n : ℕ) → n ≡ continuation_len (get_or bytes 0 0) + 1 → n ≤ length bytes
front_within bytes f n e =
    let k = size_is bytes f in
    let m = ap length f.whole in
    omega (arith, length-append (encode f.code) f.behind)

pub record Taken (bytes : List ℕ) (code : ℕ) (text behind : List ℕ) : Type 0 where
  pub are : chars bytes ≡ code ∷ chars behind
  pub text_is : text ≡ encode code
  pub points : ArePoints behind

pub taken : (bytes text behind : List ℕ) (n code : ℕ) → ArePoints bytes → 0 < length bytes → n ≡ continuation_len (get_or bytes 0 0) + 1 → code ≡ first_point (chars bytes) → text ≡ take n bytes → behind ≡ drop n bytes → Taken bytes code text behind
taken bytes text behind n code p l e c t b =
    let f = front bytes p l in
    let k : f.code ≡ code = first_is bytes f ∙ sym c in
    let m = front_taken bytes f n e in
    let d : f.behind ≡ behind = sym (b ∙ m.1) in
    record {
      are = f.are ∙ ap₂ (λ x y. x ∷ chars y) k d;
      text_is = t ∙ (m.0 ∙ ap encode k);
      points = subst ArePoints d f.points;
    }
