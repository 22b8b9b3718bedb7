-- What is read of a value that is an object.
use Rattle.std.proofs.Common.{◌≡◌, true, Option, Some, None, option_map, Result}
use Rattle.std.specs.Option.{is_some}
use Rattle.jsgen_fields.specs.declared.InputFault.{InputFault}
use Rattle.jsgen_fields.specs.Values.{after, or_fault}

-- x is the object as code has it
pub of_object : {X M B : Type 0} (f : X → M) (x : Option X) (o : Option M) (e : InputFault) (r s : Result B InputFault)
    → option_map f x ≡ o → is_some x ≡ true → r ≡ s → after (or_fault e o) (λ members. r) ≡ s
of_object f (Some x) o e r s h i j = rw (← h) j
of_object f None o e r s h i j = cc
