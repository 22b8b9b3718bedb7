-- Steps turn by turn: what is still to be done of a whole step.
use Rattle.std.proofs.Common.{◌≡◌, Bool, true, false, refl, ap, sym, subst, ◌∙◌}
use Rattle.std.proofs.lemmas.Bool.{both_ways}
use Rattle.jsgen_model.specs.Layout.{Pen}
use Rattle.jsgen_model.specs.Printing.{IsPrefix, Stops}
use Rattle.jsgen_printer.specs.Printer.{pen_of}
use Rattle.jsgen_printer.specs.Steps.{has_failed, Ends, Goes}
use Rattle.jsgen_printer.specs.declared.printer.Printer.{Printer}
use Rattle.jsgen_printer.proofs.Prefixes.{whole_prefix, prefix_of_prefix}
use Rattle.jsgen_printer.proofs.Sequence.{Appends}

-- where no step has failed, what is left gives the whole
abbrev Left : Bool → Pen → Pen → (Pen → Pen) → Pen → Type 0
Left false old at rest whole = IsPrefix old.code at.code × (rest at ≡ whole)
Left true old at rest whole = Stops old at whole

pub record Onward (old at : Printer) (rest whole : Pen → Pen) : Type 0 where
  pub stays : has_failed old ≡ true → (has_failed at ≡ true) × ((pen_of at).code ≡ (pen_of old).code)
  pub goes : has_failed old ≡ false → Left (has_failed at) (pen_of old) (pen_of at) rest (whole (pen_of old))

pub set_out : (p : Printer) (whole : Pen → Pen) → Onward p p whole whole
set_out p whole = record { stays = λ h. (h, refl); goes = λ going. subst (λ b. Left b (pen_of p) (pen_of p) whole (whole (pen_of p))) (sym going) (whole_prefix (pen_of p).code, refl) }

left_then : (fb fc : Bool) (pa pb pc : Pen) (f g h : Pen → Pen) (whole : Pen) → Appends g → Appends h → f pb ≡ h (g pb) → (fb ≡ true → (fc ≡ true) × (pc.code ≡ pb.code)) → (fb ≡ false → Ends fc pb pc (g pb)) → Left fb pa pb f whole → Left fc pa pc h whole
left_then true true pa pb pc f g h whole more rest e stays goes s = record { kept = subst (λ code. IsPrefix pa.code code) (sym (stays refl).1) s.kept; part = subst (λ code. IsPrefix code whole.code) (sym (stays refl).1) s.part }
left_then true false pa pb pc f g h whole more rest e stays goes s = absurd (both_ways true (sym (stays refl).0) refl)
left_then false false pa pb pc f g h whole more rest e stays goes s = let there = goes refl in (prefix_of_prefix s.0 (subst (λ p. IsPrefix pb.code p.code) (sym there) (more pb)), ap h there ∙ (sym e ∙ s.1))
left_then false true pa pb pc f g h whole more rest e stays goes s = let stopped = goes refl in record { kept = prefix_of_prefix s.0 stopped.kept; part = prefix_of_prefix stopped.part (subst (λ p. IsPrefix (g pb).code p.code) (sym e ∙ s.1) (rest (g pb))) }

-- one step of what is left
pub onward : {a b c : Printer} {f g whole : Pen → Pen} (h : Pen → Pen) → Appends g → Appends h → f (pen_of b) ≡ h (g (pen_of b)) → Onward a b f whole → Goes b c g → Onward a c h whole
onward {a} {b} {c} {f} {g} {whole} h more rest e s k = record {
  stays = λ stopped. let x = s.stays stopped in let y = k.stays x.0 in (y.0, y.1 ∙ x.1);
  goes = λ going. left_then (has_failed b) (has_failed c) (pen_of a) (pen_of b) (pen_of c) f g h (whole (pen_of a)) more rest e k.stays k.goes (s.goes going);
}

none_left : (fb : Bool) (pa pb : Pen) (rest : Pen → Pen) (whole : Pen) → rest pb ≡ pb → Left fb pa pb rest whole → Ends fb pa pb whole
none_left false pa pb rest whole e h = sym e ∙ h.1
none_left true pa pb rest whole e s = s

-- nothing is left
pub arrived : {a b : Printer} {rest whole : Pen → Pen} → rest (pen_of b) ≡ pen_of b → Onward a b rest whole → Goes a b whole
arrived {a} {b} {rest} {whole} e h = record {
  stays = h.stays;
  goes = λ going. none_left (has_failed b) (pen_of a) (pen_of b) rest (whole (pen_of a)) e (h.goes going);
}
