-- What the machine tells of numbers: what may stand behind one, and how one begins and ends.
use Rattle.std.proofs.Common.{None, ◌&&◌, ◌≡◌, ℕ, ◌<◌, ◌≤◌, Bool, true, false, not, nat_lt, ◌==◌, ◌⊎◌, inl, inr, Option, Some, List, [], ◌∷◌, ◌++◌, codes, refl, sym, ap, ◌∙◌}
use Rattle.std.specs.Char.{is_ascii_digit, is_ascii_alphanumeric}
use Rattle.std.specs.List.{list_all, last_or}
use Rattle.std.specs.Option.{option_map_or}
use Rattle.std.proofs.Math.Bool.{or-false, and_assoc}
use Rattle.std.proofs.lemmas.Bool.{both_ways, and_parts, and_from, cases_lt, lt-ltb, not-true, or_cases}
use Rattle.jsgen_syntax.specs.Escapes.{begins}
use Rattle.jsgen_model.specs.Numbers.{spells_number, spells_whole, takes_no_dot, ends_in, is_raw_number}
use Rattle.jsgen_model.proofs.NumberKinds.{Kind, nought, one, to_seven, to_nine, letter_b, letter_e, small_n, letter_o, letter_x, underscore, full_stop, plus_or_minus, other, kind, sample, passes, agree, no_dot_mark, a_zero, is_any, in_number, is_outside, outside, sign_kind, is_letter_or_digit, letter_or_digit, past_kind, is_decimal, decimal_kind, dot_kind, dot_passes, an_end, of_kind}
use Rattle.jsgen_model.proofs.NumberStates.{two, eight, sixteen, State, start, zero, integer, integer_due, dotted, fraction, fraction_due, exponent_mark, exponent, exponent_due, digits, digits_due, suffixed, dead, accepts, is_raw, if_digit, is_digit_of, step, run}
use Rattle.jsgen_model.proofs.NumberMachine.{number_runs}

-- ---- runs

pub run_append : (s : State) (v w : List ℕ) → run s (v ++ w) ≡ run (run s v) w
run_append s [] w = refl
run_append s (c ∷ v) w = run_append (step s (kind c)) v w

pub dead_stays : (w : List ℕ) → run dead w ≡ dead
dead_stays [] = refl
dead_stays (c ∷ w) = dead_stays w

none_behind_dead : (w : List ℕ) (c : ℕ) (p : List ℕ) → step (run start w) (kind c) ≡ dead → spells_number (w ++ (c ∷ p)) ≡ false
none_behind_dead w c p e = number_runs (w ++ (c ∷ p)) ∙ ap accepts (run_append start w (c ∷ p) ∙ (ap (λ s. run s p) e ∙ dead_stays p))

-- ---- characters that are in no number

other_dead : (s : State) → step s other ≡ dead
other_dead (digits two) = refl
other_dead (digits eight) = refl
other_dead (digits sixteen) = refl
other_dead (digits_due two) = refl
other_dead (digits_due eight) = refl
other_dead (digits_due sixteen) = refl
other_dead s = refl

-- `+` and `-` go on behind an `e` alone
sign_dead : (s : State) → accepts s ≡ true → step s plus_or_minus ≡ dead
sign_dead exponent_mark h = absurd (both_ways false refl h)
sign_dead (digits two) h = refl
sign_dead (digits eight) h = refl
sign_dead (digits sixteen) h = refl
sign_dead (digits_due r) h = absurd (both_ways false refl h)
sign_dead s h = refl

outside_dead : (s : State) (k : Kind) → accepts s ≡ true → is_outside k ≡ true → step s k ≡ dead
outside_dead s plus_or_minus h o = sign_dead s h
outside_dead s other h o = other_dead s
outside_dead s k h o = absurd (both_ways false refl o)

pub none_with : (w : List ℕ) (c : ℕ) (p : List ℕ) → in_number c ≡ false → is_any (codes "+-") c ≡ false → spells_number (w ++ (c ∷ p)) ≡ false
none_with w c p h s = none_behind_dead w c p (ap (step (run start w)) (sign_kind c s (outside c h)) ∙ other_dead (run start w))

accepted : (w : List ℕ) → spells_number w ≡ true → accepts (run start w) ≡ true
accepted w h = sym (number_runs w) ∙ h

pub none_further : (w : List ℕ) (c : ℕ) (p : List ℕ) → spells_number w ≡ true → in_number c ≡ false → spells_number (w ++ (c ∷ p)) ≡ false
none_further w c p h n = none_behind_dead w c p (outside_dead (run start w) (kind c) (accepted w h) (outside c n))

-- ---- whole numbers

more_digits : (w : List ℕ) → list_all is_ascii_digit w ≡ true → run integer w ≡ integer
more_digits [] h = refl
more_digits (c ∷ w) h = let k = and_parts (is_ascii_digit c) (list_all is_ascii_digit w) h in by (kind c) (sym (decimal_kind c) ∙ k.0) (more_digits w k.1)
  where
    by : (k : Kind) → is_decimal k ≡ true → run integer w ≡ integer → run (step integer k) w ≡ integer
    by nought d e = e
    by one d e = e
    by to_seven d e = e
    by to_nine d e = e
    by k d e = absurd (both_ways false refl d)

first_digit : (c : ℕ) → is_ascii_digit c ≡ true → (c == 48) ≡ false → step start (kind c) ≡ integer
first_digit c h z = by (kind c) (sym (decimal_kind c) ∙ h) (sym (agree a_zero c) ∙ (or-false (c == 48) ∙ z))
  where
    by : (k : Kind) → is_decimal k ≡ true → passes a_zero (sample k) ≡ false → step start k ≡ integer
    by nought d e = absurd (both_ways true e refl)
    by one d e = refl
    by to_seven d e = refl
    by to_nine d e = refl
    by k d e = absurd (both_ways false refl d)

whole_runs : (w : List ℕ) → spells_whole w ≡ true → (run start w ≡ zero) ⊎ (run start w ≡ integer)
unfolding kind
whole_runs [] h = absurd (both_ways false refl h)
whole_runs (c ∷ []) h = by (c == 48) refl
  where
    by : (b : Bool) → (c == 48) ≡ b → (step start (kind c) ≡ zero) ⊎ (step start (kind c) ≡ integer)
    by true e = inl (rw e refl)
    by false e = inr (first_digit c h e)
whole_runs (c ∷ d ∷ ds) h =
    let k = and_parts (not (c == 48)) (list_all is_ascii_digit (c ∷ d ∷ ds)) h in
    let j = and_parts (is_ascii_digit c) (list_all is_ascii_digit (d ∷ ds)) k.1 in
    inr (ap (λ s. run s (d ∷ ds)) (first_digit c j.0 (not-true (c == 48) k.0)) ∙ more_digits (d ∷ ds) j.1)

pub whole_number : (w : List ℕ) → spells_whole w ≡ true → spells_number w ≡ true
whole_number w h = number_runs w ∙ by (whole_runs w h)
  where
    by : (run start w ≡ zero) ⊎ (run start w ≡ integer) → accepts (run start w) ≡ true
    by (inl e) = ap accepts e
    by (inr e) = ap accepts e

-- ---- big integers

big_runs : (w : List ℕ) → spells_whole w ≡ true → run start (w ++ codes "n") ≡ suffixed
unfolding kind
big_runs w h = run_append start w (codes "n") ∙ by (whole_runs w h)
  where
    by : (run start w ≡ zero) ⊎ (run start w ≡ integer) → step (run start w) small_n ≡ suffixed
    by (inl e) = ap (λ s. step s small_n) e
    by (inr e) = ap (λ s. step s small_n) e

pub big_number : (w : List ℕ) → spells_whole w ≡ true → spells_number (w ++ codes "n") ≡ true
big_number w h = number_runs (w ++ codes "n") ∙ ap accepts (big_runs w h)

-- ---- a dot behind a number

-- no dot goes on with it
abbrev pub BarsDot : List ℕ → Type 0
BarsDot w = (p : List ℕ) → spells_number (w ++ (46 ∷ p)) ≡ false

pub big_bars_dot : (w : List ℕ) → spells_whole w ≡ true → BarsDot (w ++ codes "n")
big_bars_dot w h p = none_behind_dead (w ++ codes "n") 46 p (ap (λ s. step s (kind 46)) (big_runs w h))

-- a dot, an exponent or a prefix was taken
is_past : State → Bool
is_past start = false
is_past zero = false
is_past integer = false
is_past integer_due = false
is_past s = true

past_digit : (b : Bool) (s : State) → is_past s ≡ true → is_past (if_digit b s) ≡ true
unfolding is_past
past_digit true s h = h
past_digit false s h = refl

past_stays : (s : State) (k : Kind) → is_past s ≡ true → is_past (step s k) ≡ true
unfolding is_past
past_stays dotted letter_e h = refl
past_stays dotted k h = past_digit (is_decimal k) fraction refl
past_stays fraction underscore h = refl
past_stays fraction letter_e h = refl
past_stays fraction k h = past_digit (is_decimal k) fraction refl
past_stays fraction_due k h = past_digit (is_decimal k) fraction refl
past_stays exponent_mark plus_or_minus h = refl
past_stays exponent_mark k h = past_digit (is_decimal k) exponent refl
past_stays exponent underscore h = refl
past_stays exponent k h = past_digit (is_decimal k) exponent refl
past_stays exponent_due k h = past_digit (is_decimal k) exponent refl
past_stays (digits r) underscore h = refl
past_stays (digits r) small_n h = refl
past_stays (digits r) k h = past_digit (is_digit_of r k) (digits r) refl
past_stays (digits_due r) k h = past_digit (is_digit_of r k) (digits r) refl
past_stays suffixed k h = refl
past_stays dead k h = refl
past_stays s k h = absurd (both_ways false refl h)

past_run : (s : State) (w : List ℕ) → is_past s ≡ true → is_past (run s w) ≡ true
past_run s [] h = h
past_run s (c ∷ w) h = past_run (step s (kind c)) w (past_stays s (kind c) h)

abbrev is_mark : Kind → Bool
is_mark k = passes no_dot_mark (sample k)

-- it is taken with one of these characters
marked : (s : State) (k : Kind) → is_mark k ≡ true → is_past (step s k) ≡ true
unfolding is_past
marked start k h = from_start k h
  where
    from_start : (k : Kind) → is_mark k ≡ true → is_past (step start k) ≡ true
    from_start letter_b h = refl
    from_start letter_e h = refl
    from_start letter_o h = refl
    from_start letter_x h = refl
    from_start full_stop h = refl
    from_start k h = absurd (both_ways false refl h)
marked zero k h = from_zero k h
  where
    from_zero : (k : Kind) → is_mark k ≡ true → is_past (step zero k) ≡ true
    from_zero letter_b h = refl
    from_zero letter_e h = refl
    from_zero letter_o h = refl
    from_zero letter_x h = refl
    from_zero full_stop h = refl
    from_zero k h = absurd (both_ways false refl h)
marked integer k h = from_integer k h
  where
    from_integer : (k : Kind) → is_mark k ≡ true → is_past (step integer k) ≡ true
    from_integer letter_b h = refl
    from_integer letter_e h = refl
    from_integer letter_o h = refl
    from_integer letter_x h = refl
    from_integer full_stop h = refl
    from_integer k h = absurd (both_ways false refl h)
marked integer_due k h = behind_separator k h
  where
    behind_separator : (k : Kind) → is_mark k ≡ true → is_past (step integer_due k) ≡ true
    behind_separator letter_b h = refl
    behind_separator letter_e h = refl
    behind_separator letter_o h = refl
    behind_separator letter_x h = refl
    behind_separator full_stop h = refl
    behind_separator k h = absurd (both_ways false refl h)
marked s k h = past_stays s k refl

marked_run : (s : State) (w : List ℕ) → takes_no_dot w ≡ true → is_past (run s w) ≡ true
marked_run s [] h = absurd (both_ways false refl h)
marked_run s (c ∷ w) h = by (marked_run (step s (kind c)) w) (or_cases (passes no_dot_mark c) (takes_no_dot w) h)
  where
    by : (takes_no_dot w ≡ true → is_past (run (step s (kind c)) w) ≡ true) → (passes no_dot_mark c ≡ true) ⊎ (takes_no_dot w ≡ true) → is_past (run (step s (kind c)) w) ≡ true
    by f (inl e) = past_run (step s (kind c)) w (marked s (kind c) (sym (agree no_dot_mark c) ∙ e))
    by f (inr e) = f e

dot_dead : (s : State) → accepts s ≡ true → is_past s ≡ true → step s full_stop ≡ dead
unfolding is_past
dot_dead dotted h p = refl
dot_dead fraction h p = refl
dot_dead exponent h p = refl
dot_dead (digits two) h p = refl
dot_dead (digits eight) h p = refl
dot_dead (digits sixteen) h p = refl
dot_dead suffixed h p = refl
dot_dead zero h p = absurd (both_ways false refl p)
dot_dead integer h p = absurd (both_ways false refl p)
dot_dead s h p = absurd (both_ways false refl h)

pub marked_bars_dot : (w : List ℕ) → spells_number w ≡ true → takes_no_dot w ≡ true → BarsDot w
unfolding kind
marked_bars_dot w h t p = none_behind_dead w 46 p (dot_dead (run start w) (accepted w h) (marked_run start w t))

-- ---- how a number begins

pub data NumberFront (c : ℕ) (w : List ℕ) : Type 0 where
  a_digit : is_ascii_digit c ≡ true → NumberFront c w
  a_dot : (d : ℕ) (v : List ℕ) → c ≡ 46 → w ≡ d ∷ v → is_ascii_digit d ≡ true → NumberFront c w

fraction_front : (c : ℕ) (w : List ℕ) → c ≡ 46 → accepts (run fraction_due w) ≡ true → NumberFront c w
fraction_front c [] e h = absurd (both_ways false refl h)
fraction_front c (d ∷ v) e h = a_dot d v e refl (decimal_kind d ∙ by (is_decimal (kind d)) h)
  where
    by : (b : Bool) → accepts (run (if_digit b fraction) v) ≡ true → b ≡ true
    by true k = refl
    by false k = absurd (both_ways false refl (sym (ap accepts (dead_stays v)) ∙ k))

pub number_front : (c : ℕ) (w : List ℕ) → spells_number (c ∷ w) ≡ true → NumberFront c w
number_front c w h = by (kind c) refl (accepted (c ∷ w) h)
  where
    of_digit : (k : Kind) → kind c ≡ k → is_decimal k ≡ true → NumberFront c w
    of_digit k e d = a_digit (decimal_kind c ∙ (ap is_decimal e ∙ d))

    by : (k : Kind) → kind c ≡ k → accepts (run (step start k) w) ≡ true → NumberFront c w
    by nought e a = of_digit nought e refl
    by one e a = of_digit one e refl
    by to_seven e a = of_digit to_seven e refl
    by to_nine e a = of_digit to_nine e refl
    by full_stop e a = fraction_front c w (dot_kind c e) a
    by k e a = absurd (both_ways false refl (sym (ap accepts (dead_stays w)) ∙ a))

pub no_number : spells_number [] ≡ false
no_number = number_runs []

-- ---- how a number ends

no_separator_ends : (s : State) → accepts (step s underscore) ≡ false
no_separator_ends (digits r) = refl
no_separator_ends (digits_due two) = refl
no_separator_ends (digits_due eight) = refl
no_separator_ends (digits_due sixteen) = refl
no_separator_ends s = refl

no_sign_ends : (s : State) → accepts (step s plus_or_minus) ≡ false
no_sign_ends (digits two) = refl
no_sign_ends (digits eight) = refl
no_sign_ends (digits sixteen) = refl
no_sign_ends (digits_due two) = refl
no_sign_ends (digits_due eight) = refl
no_sign_ends (digits_due sixteen) = refl
no_sign_ends s = refl

last_kind : (s : State) (k : Kind) → accepts (step s k) ≡ true → (k ≡ full_stop) ⊎ (is_letter_or_digit k ≡ true)
last_kind s full_stop h = inl refl
last_kind s underscore h = absurd (both_ways (accepts (step s underscore)) (no_separator_ends s) h)
last_kind s plus_or_minus h = absurd (both_ways (accepts (step s plus_or_minus)) (no_sign_ends s) h)
last_kind s other h = absurd (both_ways (accepts (step s other)) (ap accepts (other_dead s)) h)
last_kind s k h = inr refl

-- a number ends in a letter or a digit, or in a dot
pub number_last : (f : ℕ → Bool) → ((c : ℕ) → is_ascii_alphanumeric c ≡ true → f c ≡ true) → (s : State) (o : Option ℕ) (c : ℕ) (w : List ℕ) → accepts (run s (c ∷ w)) ≡ true → option_map_or (is_any (codes ".")) (last_or o (c ∷ w)) false ≡ false → option_map_or f (last_or o (c ∷ w)) false ≡ true
number_last f g s o c (d ∷ w) h e = number_last f g (step s (kind c)) (Some c) d w h e
number_last f g s o c [] h e = by (last_kind s (kind c) h)
  where
    by : (kind c ≡ full_stop) ⊎ (is_letter_or_digit (kind c) ≡ true) → f c ≡ true
    by (inl k) = absurd (both_ways (is_any (codes ".") c) e (dot_passes c k))
    by (inr k) = g c (letter_or_digit c k)

-- a number that ends in no dot and no suffix
raw_step : (s : State) (k : Kind) → (not (passes an_end (sample k)) && accepts (step s k)) ≡ is_raw (step s k)
raw_step start nought = refl
raw_step start k = refl
raw_step zero nought = refl
raw_step zero k = refl
raw_step integer nought = refl
raw_step integer k = refl
raw_step integer_due nought = refl
raw_step integer_due k = refl
raw_step dotted nought = refl
raw_step dotted k = refl
raw_step fraction nought = refl
raw_step fraction k = refl
raw_step fraction_due nought = refl
raw_step fraction_due k = refl
raw_step exponent_mark nought = refl
raw_step exponent_mark k = refl
raw_step exponent nought = refl
raw_step exponent k = refl
raw_step exponent_due nought = refl
raw_step exponent_due k = refl
raw_step (digits two) nought = refl
raw_step (digits two) k = refl
raw_step (digits eight) nought = refl
raw_step (digits eight) k = refl
raw_step (digits sixteen) nought = refl
raw_step (digits sixteen) k = refl
raw_step (digits_due two) nought = refl
raw_step (digits_due two) k = refl
raw_step (digits_due eight) nought = refl
raw_step (digits_due eight) k = refl
raw_step (digits_due sixteen) nought = refl
raw_step (digits_due sixteen) k = refl
raw_step suffixed nought = refl
raw_step suffixed k = refl
raw_step dead nought = refl
raw_step dead k = refl

raw_last : (s : State) (o : Option ℕ) (c : ℕ) (w : List ℕ) → (not (option_map_or (is_any (codes ".n")) (last_or o (c ∷ w)) false) && accepts (run s (c ∷ w))) ≡ is_raw (run s (c ∷ w))
raw_last s o c (d ∷ w) = raw_last (step s (kind c)) (Some c) d w
raw_last s o c [] = of_kind (λ v k. (not (v an_end) && accepts (step s k)) ≡ is_raw (step s k)) c (raw_step s)

pub raw_runs : (w : List ℕ) → (begins is_ascii_digit w && is_raw (run start w)) ≡ is_raw_number w
unfolding is_raw_number
raw_runs [] = refl
raw_runs (c ∷ w) =
    ap (λ b. is_ascii_digit c && b) (sym (raw_last start None c w) ∙ ap (λ b. not (ends_in (codes ".n") (c ∷ w)) && b) (sym (number_runs (c ∷ w))))
    ∙ sym (and_assoc (is_ascii_digit c) (not (ends_in (codes ".n") (c ∷ w))) (spells_number (c ∷ w)))

-- ---- a number is of ASCII

pub ascii_number : (s : State) (w : List ℕ) → accepts (run s w) ≡ true → list_all (λ c. nat_lt c 128) w ≡ true
ascii_number s [] h = refl
ascii_number s (c ∷ w) h = and_from (nat_lt c 128) (list_all (λ d. nat_lt d 128) w) (by (cases_lt c 128)) (ascii_number (step s (kind c)) w h)
  where
    by : (c < 128) ⊎ (128 ≤ c) → nat_lt c 128 ≡ true
    by (inl l) = lt-ltb c 128 l
    by (inr l) = absurd (both_ways false refl (sym (ap accepts (ap (λ k. run (step s k) w) (past_kind c l) ∙ (ap (λ r. run r w) (other_dead s) ∙ dead_stays w))) ∙ h))
