use Rattle.std.proofs.Common.{refl, sym}
use Rattle.jsgen_rules.specs.Verdict.{verdict}
use Rattle.jsgen_check.proofs.check_pieces.Goals as goal

pub returns-then-takes_uncooked : goal.returns-then-takes_uncooked
unfolding verdict
returns-then-takes_uncooked g c = rw (sym c.takes_uncooked.ensures, c.if-takes_uncooked.true) refl

pub returns-then-has_uncooked : goal.returns-then-has_uncooked
unfolding verdict
returns-then-has_uncooked g c =
    rw (sym c.takes_uncooked.ensures, c.if-takes_uncooked.false, sym c.has_uncooked.ensures, c.if-has_uncooked.true, c.start.ensures) refl

pub returns : goal.returns
unfolding verdict
returns g c = rw (sym c.takes_uncooked.ensures, c.if-takes_uncooked.false, sym c.has_uncooked.ensures, c.if-has_uncooked.false) refl
