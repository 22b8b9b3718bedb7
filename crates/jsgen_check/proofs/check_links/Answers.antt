use Rattle.std.proofs.Common.{refl, sym}
use Rattle.jsgen_rules.specs.Verdict.{verdict}
use Rattle.jsgen_check.proofs.check_links.Goals as goal

pub returns-then-takes_optional_link : goal.returns-then-takes_optional_link
unfolding verdict
returns-then-takes_optional_link g c = rw (sym c.takes_optional_link.ensures, c.if-takes_optional_link.true) refl

pub returns-then-has_optional_link : goal.returns-then-has_optional_link
unfolding verdict
returns-then-has_optional_link g c =
    rw (sym c.takes_optional_link.ensures, c.if-takes_optional_link.false, sym c.has_optional_link.ensures, c.if-has_optional_link.true, c.start.ensures) refl

pub returns : goal.returns
unfolding verdict
returns g c = rw (sym c.takes_optional_link.ensures, c.if-takes_optional_link.false, sym c.has_optional_link.ensures, c.if-has_optional_link.false) refl
