use Rattle.jsgen_printer.proofs.Commented.{lined_case_laid}
use Rattle.jsgen_nodes.proofs.choices.print_only.Goals as goal

pub returns : goal.returns
returns g c = lined_case_laid _ c.args.end _ _ (rw (c.span-span.ensures) at c.begin_case-depth.ensures.level) (rw (c.lead_to.ensures, c.shape_of-shape.ensures, c.span-span.ensures) at c.begin_case-depth.ensures.goes) (rw c.shape_of-shape.ensures at c.print_led.ensures) c.end_case.ensures
