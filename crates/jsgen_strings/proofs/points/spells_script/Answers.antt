use Rattle.std.proofs.Common.{◌≡◌, rules}
use Rattle.jsgen_syntax.specs.Strings.{begins_script}
use Rattle.jsgen_strings.proofs.points.spells_script.Goals as goal

pub returns : goal.returns
returns c = let same : c.eq_ignore_ascii_case.result ≡ begins_script c.args.bytes.now = search rules in same
