use Rattle.std.proofs.Common.{◌≡◌, drop}
use Rattle.jsgen_check.proofs.Specifiers.{all_fit}
use Rattle.jsgen_check.proofs.rules.modules.check_exports.Given as goal

-- all of those before the next one pass
abbrev pub invariant-loop-specifier : goal.invariant-loop-specifier
invariant-loop-specifier l = all_fit l.has_source (drop l.specifier-index l.specifiers) ≡ all_fit l.has_source l.specifiers
