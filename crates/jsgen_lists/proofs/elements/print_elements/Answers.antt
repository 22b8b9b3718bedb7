use Rattle.std.proofs.Common.{map}
use Rattle.std.proofs.lemmas.List.{nil_from_length}
use Rattle.jsgen_printer.proofs.Sequence.{◌⨾◌, nothing_laid, regrouped}
use Rattle.jsgen_lists.proofs.Holes.{elements_first}
use Rattle.jsgen_lists.proofs.elements.print_elements.Goals as goal

pub returns-in-Some : goal.returns-in-Some
returns-in-Some g c =
    let plain = g.L.PrintElement.plain in
    rw c.in-Some.ensures.cases.0 (regrouped (elements_first c.args.lines (plain c.in-Some.first.now) (map plain c.in-Some.others.now) c.args.place) (c.print_element.ensures ⨾ c.print_more_elements.ensures))

pub returns-in-None : goal.returns-in-None
returns-in-None g c = rw (nil_from_length c.args.elements.now c.in-None.ensures.cases) (nothing_laid _)
