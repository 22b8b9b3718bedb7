use Rattle.jsgen_syntax.proofs.Strings.{escaped_value}
use Rattle.jsgen_text.proofs.laws.printed_literal_has_its_value.Goals as goal

pub returns : goal.returns
returns c = escaped_value
