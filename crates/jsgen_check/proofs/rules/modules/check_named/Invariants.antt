use Rattle.std.proofs.Common.{◌≡◌, drop}
use Rattle.jsgen_check.proofs.Specifiers.{all_named}
use Rattle.jsgen_check.proofs.rules.modules.check_named.Given as goal

-- all of those before the next one pass
abbrev pub invariant-loop-specifier : goal.invariant-loop-specifier
invariant-loop-specifier l = all_named (drop l.specifier-index l.specifiers) ≡ all_named l.specifiers
