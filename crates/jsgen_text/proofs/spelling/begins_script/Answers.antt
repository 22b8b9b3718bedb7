use Rattle.std.proofs.Common.{subst, sym}
use Rattle.jsgen_strings.specs.Points.{ArePoints}
use Rattle.jsgen_text.proofs.RawTexts.{points_of_text}
use Rattle.jsgen_text.proofs.spelling.begins_script.Goals as goal

pub begins_script-requires : goal.begins_script-requires
begins_script-requires c = subst ArePoints (sym c.as_bytes.ensures.value) (points_of_text c.args.text.now c.utf8.text)
