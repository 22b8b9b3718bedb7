use Rattle.jsgen_check.proofs.Steps.{broken, found, kept, two_rules}
use Rattle.jsgen_check.proofs.check_links_and_pieces.Goals as goal

pub returns-in_err-check_links : goal.returns-in_err-check_links
returns-in_err-check_links g c = broken c.from_residual.ensures.1 (two_rules _ _ (found _ c.in_err-check_links.ensures))

pub returns : goal.returns
returns g c = two_rules _ _ (kept c.in_ok-check_links.ensures c.check_pieces.ensures)
