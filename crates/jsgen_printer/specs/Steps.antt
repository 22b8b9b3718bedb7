-- What a step of printing does: it goes on by some items, or memory runs out, and from then on nothing is added.
use Rattle.std.specs.Prelude.{◌≡◌, Bool, true, false}
use Rattle.jsgen_model.specs.Items.{Items}
use Rattle.jsgen_model.specs.Lay.{lay}
use Rattle.jsgen_model.specs.Layout.{Pen}
use Rattle.jsgen_model.specs.Printing.{Stops}
use Rattle.jsgen_printer.specs.Printer.{pen_of}
use Rattle.jsgen_printer.specs.declared.printer.Printer.{Printer}

-- memory ran out in an earlier step; the pen holds what had been printed by then
abbrev pub has_failed : Printer → Bool
has_failed p = p.has_failed

-- behind a step the pen is the whole; where memory ran out in it, the code stops on the way there
abbrev pub Ends : Bool → Pen → Pen → Pen → Type 0
Ends false old new whole = new ≡ whole
Ends true old new whole = Stops old new whole

-- a step that takes the pen to what the function gives of it; after want of memory no step adds anything
pub record Goes (old new : Printer) (f : Pen → Pen) : Type 0 where
  pub stays : has_failed old ≡ true → (has_failed new ≡ true) × ((pen_of new).code ≡ (pen_of old).code)
  pub goes : has_failed old ≡ false → Ends (has_failed new) (pen_of old) (pen_of new) (f (pen_of old))

-- a step that lays out items
pub record Lays (old new : Printer) (items : Items) : Type 0 where
  pub stays : has_failed old ≡ true → (has_failed new ≡ true) × ((pen_of new).code ≡ (pen_of old).code)
  pub goes : has_failed old ≡ false → Ends (has_failed new) (pen_of old) (pen_of new) (lay items (pen_of old))
