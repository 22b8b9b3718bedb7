use Rattle.jsgen_check.proofs.Steps.{broken, found, kept, two_rules}
use Rattle.jsgen_check.proofs.check_place.Goals as goal

pub returns-in_err-check_fits : goal.returns-in_err-check_fits
returns-in_err-check_fits g c = broken c.from_residual.ensures.1 (two_rules _ _ (found _ c.in_err-check_fits.ensures))

pub returns : goal.returns
returns g c = two_rules _ _ (kept c.in_ok-check_fits.ensures c.check_links_and_pieces.ensures)
