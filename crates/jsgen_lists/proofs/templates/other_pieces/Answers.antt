use Rattle.std.proofs.Common.{refl}
use Rattle.std.proofs.lemmas.List.{nil_from_length}
use Rattle.jsgen_lists.proofs.templates.other_pieces.Goals as goal

pub returns-in-Some : goal.returns-in-Some
returns-in-Some c = rw c.in-Some.ensures.cases.0 refl

pub returns-in-None : goal.returns-in-None
returns-in-None c = rw (nil_from_length c.args.pieces.now c.in-None.ensures.cases) refl
