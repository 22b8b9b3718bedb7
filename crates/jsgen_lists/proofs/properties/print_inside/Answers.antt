use Rattle.std.proofs.Common.{refl, sym, ◌∙◌}
use Rattle.std.proofs.lemmas.Bool.{eqb-true}
use Rattle.std.proofs.lemmas.List.{nil_from_length}
use Rattle.jsgen_printer.proofs.Sequence.{nothing_laid, regrouped}
use Rattle.jsgen_lists.proofs.Lined.{lined_inside}
use Rattle.jsgen_lists.proofs.properties.print_inside.Goals as goal

pub returns-then-is_empty : goal.returns-then-is_empty
returns-then-is_empty g c = rw c.in-Some.ensures.cases.0 (rw (nil_from_length c.in-Some.others.now (eqb-true _ 0 (sym c.is_empty.ensures ∙ c.if-is_empty.true))) (regrouped (λ pen. refl) c.print_single.ensures))

pub returns-else-is_empty : goal.returns-else-is_empty
returns-else-is_empty g c = rw c.in-Some.ensures.cases.0 (regrouped (λ pen. lined_inside g.L.PrintProperty.plain c.in-Some.first.now c.in-Some.others.now c.args.place (sym c.is_empty.ensures ∙ c.if-is_empty.false) pen) c.print_on_lines.ensures)

pub returns-in-None : goal.returns-in-None
returns-in-None g c = rw (nil_from_length c.args.properties.now c.in-None.ensures.cases) (regrouped (λ pen. refl) (nothing_laid _))
