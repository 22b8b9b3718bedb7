use Rattle.std.proofs.Common.{arith}
use Rattle.std.proofs.lemmas.Grind.{common_steps}
use Rattle.jsgen_tree.specs.Plain.{node_plain}
use Rattle.jsgen_check.proofs.Declarators.{several_names}
use Rattle.jsgen_check.proofs.heads.is_one_name.Goals as goal

pub returns-in_default-2 : goal.returns-in_default-2
returns-in_default-2 c = several_names node_plain c.args.declarators.now c.in_default.len_at_least

pub returns-in-len1 : goal.returns-in-len1
returns-in-len1 c = grind (arith, common_steps)

pub returns-in_default : goal.returns-in_default
returns-in_default c = grind (arith, common_steps)
