use Rattle.jsgen_lists.proofs.Braced.{braces_laid}
use Rattle.jsgen_nodes.proofs.functions.print_filled_body.Goals as goal

pub returns : goal.returns
returns g c = braces_laid c.args.node.now.span c.open_braces-depth.result c.open_braces-depth.ensures.level c.open_braces-depth.ensures.pen c.print_inside.ensures c.close_braces.ensures
