use Rattle.std.proofs.Common.{Some, None, ◌∙◌, arith}
use Rattle.std.specs.Str.{chars}
use Rattle.std.proofs.lemmas.Str.Pattern.{strip_prefix_char}
use Rattle.jsgen_printer.proofs.Hashes.{same_behind_hash, no_hash}
use Rattle.jsgen_printer.proofs.same.is_behind_hash.Goals as goal

pub returns-in-Some : goal.returns-in-Some
returns-in-Some c = c.is_same.ensures.bytes ∙ same_behind_hash c.args.text.now c.in-Some.own.now (chars c.args.rest.now) (strip_prefix_char 35 c.args.text.now (Some c.in-Some.own) c.in-Some.ensures.cases (omega arith))

pub returns-in-None : goal.returns-in-None
returns-in-None c = no_hash c.args.text.now (chars c.args.rest.now) (strip_prefix_char 35 c.args.text.now None c.in-None.ensures.cases (omega arith))
