-- What a check answers about a list of faults.
use Rattle.std.specs.Prelude.{List, [], ◌∷◌, Result, Ok, Err}
use Rattle.jsgen_model.specs.declared.fault.TreeFault.{TreeFault}

-- Ok where there is none, else the first
unfoldable pub verdict : List TreeFault → Result (Unit {0}) TreeFault
verdict [] = Ok tt
verdict (f ∷ fs) = Err f
