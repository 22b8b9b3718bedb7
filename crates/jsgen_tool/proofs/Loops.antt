-- What the loops over devices keep, and how a call goes on from it.
use Rattle.std.proofs.Common.{◌≡◌, ℕ, ◌+◌, ◌-◌, ◌<◌, ◌≤◌, min, List, ◌++◌, length, take, drop, ap, ◌∙◌, subst, sym, slice_range, OnOk, OnErr, Result, Ok, Err, Some, None, true, false, is_err, arith, take-add, take-take, length-take, length-append, append_assoc, IfSome}
use Rattle.std.proofs.Math.Seq.{take-append-add}
use Rattle.std.proofs.lemmas.List.{take_min, take-append-le}
use Rattle.std.specs.Io.KnownBytes.{Appends, Consumes}
use Rattle.std.specs.declared.option.Option.{Option}
use Rattle.jsgen_device.specs.Device.{AppendsPart}
use Rattle.jsgen_tool.specs.Transfer.{limit}

-- the first bytes of the text are pushed, and no push failed
pub record PushedSoFar (old now : Option (List ℕ)) (before faults : ℕ) (text : List ℕ) (at : ℕ) : Type 0 where
  pub within : at ≤ length text
  pub pushed : Appends old now (take at text)
  pub kept : faults ≡ before

-- these bytes are read, and no pull failed
pub record ReadSoFar (old now : Option (List ℕ)) (before faults : ℕ) (bytes : List ℕ) : Type 0 where
  pub within : length bytes ≤ limit + 1
  pub read : Consumes old now bytes
  pub kept : faults ≡ before

-- a push that succeeds takes the pushed part on to the end of its piece
pub push_next : (old mid new : Option (List ℕ)) (text : List ℕ) (at end : ℕ) → at ≤ end → end ≤ length text →
    Appends old mid (take at text) → Appends mid new (slice_range text at end) → Appends old new (take end text)
push_next None mid new text at end le within done more = tt
push_next (Some xs) None new text at end le within done more = absurd done
push_next (Some xs) (Some ms) None text at end le within done more = absurd more
push_next (Some xs) (Some ms) (Some ys) text at end le within done more =
    let size : end ≡ at + (end - at) = omega arith in
    let parts : take end text ≡ take at text ++ slice_range text at end =
    ap (λ n. take n text) size ∙ take-add at (end - at) text in
    more ∙ ap (λ l. l ++ slice_range text at end) done ∙ append_assoc xs (take at text) (slice_range text at end)
    ∙ ap (λ l. xs ++ l) (sym parts)

-- one that fails leaves a first part of the text
pub push_part : (old mid new : Option (List ℕ)) (text : List ℕ) (at end : ℕ) → at ≤ end → end ≤ length text →
    Appends old mid (take at text) → AppendsPart mid new (slice_range text at end) → AppendsPart old new text
push_part None mid new text at end le within done more = (0, tt)
push_part (Some xs) None new text at end le within done more = absurd done
push_part (Some xs) (Some ms) None text at end le within done more = absurd more.1
push_part (Some xs) (Some ms) (Some ys) text at end le within done (n, more) =
    let piece : List ℕ = slice_range text at end in
    let k : ℕ = min n (length piece) in
    let same : take n piece ≡ take k (drop at text) =
    sym (take_min n piece) ∙ take-take k (end - at) (drop at text) (omega (arith, length-take (end - at) (drop at text))) in
    let parts : take (at + k) text ≡ take at text ++ take k (drop at text) = take-add at k text in (
      at + k,
      more ∙ ap (λ l. ms ++ l) same ∙ ap (λ l. l ++ take k (drop at text)) done
          ∙ append_assoc xs (take at text) (take k (drop at text)) ∙ ap (λ l. xs ++ l) (sym parts),
    )

-- what two reads take
pub read_next : (old mid new : Option (List ℕ)) (bytes more : List ℕ) → Consumes old mid bytes → Consumes mid new more →
    Consumes old new (bytes ++ more)
read_next None mid new bytes more a b = tt
read_next (Some xs) None new bytes more a b = absurd a
read_next (Some xs) (Some ms) None bytes more a b = absurd b
read_next (Some xs) (Some ms) (Some ys) bytes more a b = a ∙ ap (λ l. bytes ++ l) b ∙ sym (append_assoc bytes more ys)

-- a source from which more than the limit was read held more
pub longer : (held left : Option (List ℕ)) (bytes : List ℕ) → Consumes held left bytes → limit < length bytes → IfSome held (λ told. limit < length told)
longer None left bytes read past = tt
longer (Some told) None bytes read past = absurd read
longer (Some told) (Some left) bytes read past = omega (arith, ap length read, length-append bytes left)

-- two pushes in turn
pub then_all : {T E : Type 0} (old mid new : Option (List ℕ)) (a b : List ℕ) (r : Result T E) → Appends old mid a →
    OnOk r (Appends mid new b) → OnOk r (Appends old new (a ++ b))
then_all None mid new a b (Ok x) first second = tt
then_all (Some xs) None new a b (Ok x) first second = absurd first
then_all (Some xs) (Some ms) None a b (Ok x) first second = absurd second
then_all (Some xs) (Some ms) (Some ys) a b (Ok x) first second = second ∙ ap (λ l. l ++ b) first ∙ append_assoc xs a b
then_all old mid new a b (Err e) first second = tt

-- the first one whole, and the second one in part
pub then_part : {T E : Type 0} (old mid new : Option (List ℕ)) (a b : List ℕ) (r : Result T E) → Appends old mid a →
    OnErr r (AppendsPart mid new b) → OnErr r (AppendsPart old new (a ++ b))
then_part None mid new a b (Err e) first second = (0, tt)
then_part (Some xs) None new a b (Err e) first second = absurd first
then_part (Some xs) (Some ms) None a b (Err e) first second = absurd second.1
then_part (Some xs) (Some ms) (Some ys) a b (Err e) first (n, second) =
    (length a + n, second ∙ ap (λ l. l ++ take n b) first ∙ append_assoc xs a (take n b) ∙ ap (λ l. xs ++ l) (sym (take-append-add a b n)))
then_part old mid new a b (Ok x) first second = tt

-- the first one in part
pub first_part : (old new : Option (List ℕ)) (a b : List ℕ) → AppendsPart old new a → AppendsPart old new (a ++ b)
first_part old new a b (n, part) =
    let k : ℕ = min n (length a) in
    let same : take n a ≡ take k (a ++ b) = sym (take_min n a) ∙ sym (take-append-le k a b (omega arith)) in
    let P : List ℕ → Type 0 = λ bs. Appends old new bs in
    (k, subst P same part)

pub on_ok : {T E P : Type 0} (r : Result T E) → is_err r ≡ false → OnOk r P → P
on_ok (Ok x) e h = h
on_ok (Err x) e h = grind (arith, e)

pub on_err : {T E P : Type 0} (r : Result T E) → is_err r ≡ true → OnErr r P → P
on_err (Ok x) e h = grind (arith, e)
on_err (Err x) e h = h
