-- The steps of a row's function, field by field.
use Rattle.std.proofs.Common.{◌≡◌, ◌∙◌, List, Result, Ok, Err, sym, ap, subst}
use Rattle.jsgen_pool.specs.Pool.{Entry}
use Rattle.jsgen_fields.specs.declared.InputFault.{InputFault}
use Rattle.jsgen_fields.specs.Values.{after}
use Rattle.jsgen_fields.specs.Reads.{Read, Gives}

-- what is after a fault is that fault
pub refused : {A B : Type 0} {x : Result A InputFault} {e : InputFault} (f : A → Result B InputFault) → x ≡ Err e → after x f ≡ Err e
refused f h = ap (λ s. after s f) h

-- what is after a value is what follows of it
pub passed : {A B : Type 0} {x : Result A InputFault} {a : A} {r : Result B InputFault} (f : A → Result B InputFault) → x ≡ Ok a → f a ≡ r → after x f ≡ r
passed f h i = ap (λ s. after s f) h ∙ i

pub gives_by : {T V : Type 0} {x y : Read V} (plain : T → V) (r : Result T InputFault) (kept : List Entry) → x ≡ y → Gives plain r kept y → Gives plain r kept x
gives_by plain r kept h i = subst (λ z. Gives plain r kept z) (sym h) i
