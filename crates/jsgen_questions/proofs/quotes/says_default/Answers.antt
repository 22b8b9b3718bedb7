use Rattle.std.proofs.Common.{refl}
use Rattle.std.proofs.Math.Utf8.{encode}
use Rattle.std.specs.Str.{chars}
use Rattle.jsgen_syntax.specs.Wtf8.{joined_units}
use Rattle.jsgen_questions.proofs.quotes.says_default.Goals as goal

pub is_text-requires-clause-units : goal.is_text-requires-clause-units
unfolding chars
is_text-requires-clause-units c = refl

pub is_text-requires-clause-bytes : goal.is_text-requires-clause-bytes
unfolding joined_units encode
is_text-requires-clause-bytes c = refl

pub is_text-requires-else-is_text-clause-units : goal.is_text-requires-else-is_text-clause-units
unfolding chars
is_text-requires-else-is_text-clause-units c = refl

pub is_text-requires-else-is_text-clause-bytes : goal.is_text-requires-else-is_text-clause-bytes
unfolding joined_units encode
is_text-requires-else-is_text-clause-bytes c = refl
