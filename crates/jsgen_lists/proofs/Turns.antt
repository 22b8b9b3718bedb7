-- Lists: what a turn leaves.
use Rattle.std.proofs.Common.{◌≡◌, ℕ, ◌+◌, ◌<◌, ◌≤◌, Bool, true, false, List, [], ◌∷◌, length, drop, refl, ap, sym, ◌∙◌}
use Rattle.std.proofs.Math.ListN.{get_or}
use Rattle.std.proofs.lemmas.List.{at_drop_more, at_drop_all}
use Rattle.jsgen_model.specs.Items.{Items}
use Rattle.jsgen_model.specs.Lay.{lay}
use Rattle.jsgen_model.specs.Layout.{Pen}
use Rattle.jsgen_printer.specs.Printer.{pen_of}
use Rattle.jsgen_printer.specs.Steps.{has_failed}
use Rattle.jsgen_printer.specs.declared.printer.Printer.{Printer}
use Rattle.jsgen_printer.proofs.Turns.{Towards}

-- the members left are the one of this turn and those behind it
pub items_left : {A : Type 0} (items : List A → Items) (xs : List A) (i : ℕ) (x : A) → i < length xs → x ≡ get_or xs i x → items (drop i xs) ≡ items (x ∷ drop (i + 1) xs)
items_left items xs i x h e = at_drop_more items xs i x h ∙ sym (ap (λ y. items (y ∷ drop (i + 1) xs)) e)

-- behind the last turn none is left
pub none_left : {A : Type 0} (items : List A → Items) (xs : List A) (i : ℕ) → length xs ≤ i → items (drop i xs) ≡ items []
none_left items xs i h = at_drop_all items xs i h

-- what is left, grouped otherwise
left_where : {a b : Printer} {rest whole : Items} (rest' : Items) (failed : Bool) → has_failed b ≡ failed → ((pen : Pen) → lay rest pen ≡ lay rest' pen) → Towards a b rest whole → Towards a b rest' whole
unfolding pen_of
left_where {a} {b} rest' false is e h = record { stays = h.stays; goes = λ going. rw is (let left = rw is at (h.goes going) in (left.0, sym (e (pen_of b)) ∙ left.1)) }
left_where rest' true is e h = record { stays = h.stays; goes = λ going. rw is (rw is at (h.goes going)) }

pub left_grouped : {a b : Printer} {rest whole : Items} (rest' : Items) → ((pen : Pen) → lay rest pen ≡ lay rest' pen) → Towards a b rest whole → Towards a b rest' whole
left_grouped {a} {b} rest' e h = left_where rest' (has_failed b) refl e h
