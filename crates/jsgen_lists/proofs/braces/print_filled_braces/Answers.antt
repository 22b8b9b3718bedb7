use Rattle.jsgen_lists.proofs.Braced.{braces_laid}
use Rattle.jsgen_lists.proofs.braces.print_filled_braces.Goals as goal

pub returns : goal.returns
returns g c = braces_laid c.args.span c.open_braces-depth.result c.open_braces-depth.ensures.level c.open_braces-depth.ensures.pen c.print_statements_to.ensures c.close_braces.ensures
