use Rattle.std.proofs.Common.{Some, option_map, ap, ◌∙◌}
use Rattle.std.specs.Str.{chars}
use Rattle.jsgen_tree.specs.Characters.{characters}
use Rattle.jsgen_rules.proofs.Tables.{looked_up}
use Rattle.jsgen_rules.proofs.private.new_name_in.Goals as goal

pub returns-in-Some : goal.returns-in-Some
returns-in-Some c = ap (λ t. Some (chars t)) c.as_str.ensures.value ∙ (ap (option_map characters) c.in-Some.ensures.value ∙ looked_up c.args.name.now c.utf8.name c.args.class.now.entries)

pub returns-in-None : goal.returns-in-None
returns-in-None c = ap (option_map characters) c.in-None.ensures.value ∙ looked_up c.args.name.now c.utf8.name c.args.class.now.entries
