use Rattle.std.proofs.Common.{◌≡◌, ℕ, false, List, Option, Some, None, refl, ap}
use Rattle.jsgen_model.specs.Items.{link_mark}
use Rattle.jsgen_model.specs.Marks.{has_link_mark}
use Rattle.jsgen_model.specs.Lay.{marked_if}
use Rattle.jsgen_model.specs.Spell.{unmarked}
use Rattle.jsgen_printer.proofs.Sequence.{passed_over}
use Rattle.jsgen_inside.proofs.bodies.print_link_if.Goals as goal

-- the empty span has no mark
no_mark : (source : Option (List ℕ)) (code : List ℕ) → has_link_mark source unmarked code ≡ false
no_mark None code = refl
no_mark (Some source) code = refl

pub returns-then-test : goal.returns-then-test
returns-then-test c = rw c.if-test.true c.print_link_mark.ensures

pub returns-else-test : goal.returns-else-test
returns-else-test c = rw c.if-test.false (passed_over c.args.p.now (link_mark unmarked) (λ pen. ap (λ b. marked_if b unmarked.end None pen) (no_mark pen.style.source pen.code)))
