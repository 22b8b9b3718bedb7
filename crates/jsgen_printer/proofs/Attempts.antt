-- What becomes of a step that goes on with the code itself, or changes what matters behind it.
use Rattle.std.proofs.Common.{◌≡◌, true, false, sym, subst, ◌∙◌}
use Rattle.std.proofs.lemmas.Bool.{both_ways}
use Rattle.jsgen_model.specs.Layout.{Pen}
use Rattle.jsgen_model.specs.Printing.{IsPrefix}
use Rattle.jsgen_printer.specs.Printer.{pen_of}
use Rattle.jsgen_printer.specs.Steps.{has_failed, Ends, Goes}
use Rattle.jsgen_printer.specs.declared.printer.Printer.{Printer}

-- the code went on
pub went_on : {a b : Printer} {f : Pen → Pen} → has_failed a ≡ false → has_failed b ≡ false → pen_of b ≡ f (pen_of a) → Goes a b f
went_on {a} {b} {f} going still e = record {
  stays = λ stopped. absurd (both_ways (has_failed a) going stopped);
  goes = λ h. subst (λ failed. Ends failed (pen_of a) (pen_of b) (f (pen_of a))) (sym still) e;
}

-- memory ran out on the way
pub ran_out : {a b : Printer} {f : Pen → Pen} → has_failed a ≡ false → has_failed b ≡ true → IsPrefix (pen_of a).code (pen_of b).code → IsPrefix (pen_of b).code (f (pen_of a)).code → Goes a b f
ran_out {a} {b} {f} going stopped kept part = record {
  stays = λ h. absurd (both_ways (has_failed a) going h);
  goes = λ h. subst (λ failed. Ends failed (pen_of a) (pen_of b) (f (pen_of a))) (sym stopped) (record { kept = kept; part = part });
}

-- no memory was asked for
pub changed : {a b : Printer} {f : Pen → Pen} → has_failed b ≡ has_failed a → (pen_of b).code ≡ (pen_of a).code → pen_of b ≡ f (pen_of a) → Goes a b f
changed {a} {b} {f} same code e = record {
  stays = λ stopped. (same ∙ stopped, code);
  goes = λ going. subst (λ failed. Ends failed (pen_of a) (pen_of b) (f (pen_of a))) (sym (same ∙ going)) e;
}
