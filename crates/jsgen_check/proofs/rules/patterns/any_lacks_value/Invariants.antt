use Rattle.std.proofs.Common.{◌≡◌, drop}
use Rattle.jsgen_check.proofs.Bare.{any_of}
use Rattle.jsgen_check.proofs.rules.patterns.any_lacks_value.Given as goal

-- of those before the declarator that is next none lacks a value
abbrev pub invariant-loop-declarator : goal.invariant-loop-declarator
invariant-loop-declarator g l = any_of g.T.TypeOf.plain (drop l.declarator-index l.declarators) ≡ any_of g.T.TypeOf.plain l.declarators
