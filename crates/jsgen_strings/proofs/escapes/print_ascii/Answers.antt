use Rattle.jsgen_strings.proofs.Ascii.{utf8_ascii}
use Rattle.jsgen_strings.proofs.escapes.print_ascii.Goals as goal

pub from_utf8_unchecked-requires : goal.from_utf8_unchecked-requires
from_utf8_unchecked-requires c = utf8_ascii c.args.bytes.now c.requires
