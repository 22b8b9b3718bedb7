use Rattle.jsgen_text.proofs.AsciiTexts.{texts_ascii}
use Rattle.jsgen_text.proofs.laws.ascii_text_is_ascii.Goals as goal

pub returns : goal.returns
returns c = texts_ascii
