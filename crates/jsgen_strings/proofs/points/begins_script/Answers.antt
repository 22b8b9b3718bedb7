use Rattle.std.proofs.Common.{◌∙◌}
use Rattle.jsgen_strings.proofs.Looks.{script_bytes}
use Rattle.jsgen_strings.proofs.points.begins_script.Goals as goal

pub returns : goal.returns
returns c = c.spells_script.ensures ∙ script_bytes c.args.bytes.now c.requires
