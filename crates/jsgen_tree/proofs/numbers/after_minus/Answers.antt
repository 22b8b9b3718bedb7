use Rattle.std.proofs.Common.{arith}
use Rattle.std.proofs.lemmas.Str.Pattern.{strip_prefix_char}
use Rattle.jsgen_tree.proofs.Texts.{minus_found}
use Rattle.jsgen_tree.proofs.numbers.after_minus.Goals as goal

pub returns : goal.returns
returns c = minus_found c.args.value.now _ c.utf8.value (strip_prefix_char 45 c.args.value.now _ c.strip_prefix.ensures.cases (omega arith))
