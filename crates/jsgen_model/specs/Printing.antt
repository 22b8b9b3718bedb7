-- What a printing step reaches, and what it leaves where memory runs out.
use Rattle.std.specs.Prelude.{◌≡◌, ℕ, List, ◌++◌, Result, Ok, Err}
use Rattle.jsgen_model.specs.Layout.{Pen}

-- the second text begins with the first
pub record IsPrefix (a b : List ℕ) : Type 0 where
  pub rest : List ℕ
  pub is : b ≡ a ++ rest

-- the code is the code before and some first characters of what the whole adds to it
pub record Stops (old new whole : Pen) : Type 0 where
  pub kept : IsPrefix old.code new.code
  pub part : IsPrefix new.code whole.code

-- on Ok the pen is the whole; after want of memory the code stops on the way from the code before to the whole's
abbrev pub Reaches : {T E : Type 0} → Result T E → Pen → Pen → Pen → Type 0
Reaches (Ok x) old new whole = new ≡ whole
Reaches (Err e) old new whole = Stops old new whole
