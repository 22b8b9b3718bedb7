-- What the steps of a row's function give.
use Rattle.std.proofs.Common.{◌≡◌, ◌∙◌, List, Result, Ok, Err, refl, sym, ap}
use Rattle.std.specs.Prelude.{⊤}
use Rattle.std.specs.Result.{IsErr, IsErrAnd}
use Rattle.jsgen_pool.specs.Pool.{Entry}
use Rattle.jsgen_fields.specs.declared.InputFault.{InputFault}
use Rattle.jsgen_fields.specs.declared.InputFault.TheVariants.{Memory}
use Rattle.jsgen_fields.specs.Values.{Same}
use Rattle.jsgen_fields.specs.Reads.{Gives, Read}
use Rattle.jsgen_fields.specs.Values.{after}

-- ---- two fields of which neither is given

pub first_of_two : {u : ⊤} (x y : Result ⊤ InputFault) → after x (λ nothing. y) ≡ Ok u → x ≡ Ok tt
first_of_two (Ok v) y e = refl
first_of_two (Err f) y e = cc

pub second_of_two : {u : ⊤} (x y : Result ⊤ InputFault) → after x (λ nothing. y) ≡ Ok u → y ≡ Ok tt
second_of_two (Ok v) y e = e
second_of_two (Err f) y e = cc

-- what is so where the first is refused, and where the second is, is so where one of them is
pub refused_of_two : {A : Type 0} {e : InputFault} (x y : Result ⊤ InputFault) → after x (λ nothing. y) ≡ Err e
    → (x ≡ Err e → A) → (x ≡ Ok tt → y ≡ Err e → A) → A
refused_of_two (Ok v) y h first second = second refl h
refused_of_two (Err f) y h first second = first h

-- ---- the last step

-- the node n is put in a box as m
abbrev Boxed : {X : Type 0} → X → X → Type 0
Boxed {X} n m = ◌≡◌ {A = Result X InputFault} (Ok n) (Ok m)

-- and the row r is made of that
pub gives_row : {T V X : Type 0} (plain : T → V) (r : Result T InputFault) (kept : List Entry) (row : X → V) (n m : X)
    → Boxed n m → Same plain r (Ok (row m)) → Gives plain r kept (Ok (row n, kept))
gives_row plain (Ok x) kept row n m e h = cc
gives_row plain (Err f) kept row n m e h = λ told. let q = h told in cc

-- and the row is of that
pub gives_node : {T V X : Type 0} (plain : T → V) (made : T) (kept : List Entry) (row : X → V) (n m : X)
    → Boxed n m → plain made ≡ row m → ◌≡◌ {A = Read V} (Ok (row n, kept)) (Ok (plain made, kept))
gives_node plain made kept row n m e h = cc

-- ---- what is held of what was read

pub gives_holding : {T X V : Type 0} (plain : T → X) (hold : X → V) (r : Result T InputFault) (kept : List Entry) (read : Read X) → Gives plain r kept read → Gives (λ t. hold (plain t)) r kept (after read (λ x. Ok (hold x.0, x.1)))
gives_holding plain hold (Ok x) kept read h = ap (λ q. after q (λ x. Ok (hold x.0, x.1))) h
gives_holding plain hold (Err f) kept read h = λ told. ap (λ q. after q (λ x. Ok (hold x.0, x.1))) (h told)

-- ---- the fault e of a step is handed on as the result r

pub handed_on : {T V : Type 0} (plain : T → V) (r : Result T InputFault) (e : InputFault) (meant : Result V InputFault)
    → IsErr r × IsErrAnd r (λ x. x ≡ e) → ((e ≡ Memory → ⊥) → meant ≡ Err e) → Same plain r meant
handed_on plain (Ok x) e meant h told = cc h.0
handed_on plain (Err x) e meant h told = λ other. told (λ is_memory. other (h.1 ∙ is_memory)) ∙ ap Err (sym h.1)
