use Rattle.std.proofs.Common.{◌≡◌, drop}
use Rattle.jsgen_check.proofs.Bare.{first_of}
use Rattle.jsgen_check.proofs.rules.patterns.lacking.Given as goal

-- of those before the declarator that is next none lacks a value
abbrev pub invariant-loop-declarator : goal.invariant-loop-declarator
invariant-loop-declarator g l = first_of g.T.TypeOf.plain l.span (drop l.declarator-index l.declarators) ≡ first_of g.T.TypeOf.plain l.span l.declarators
