-- The names that stand in a program, and what each is printed as.
use Rattle.std.specs.Prelude.{ℕ, List, Option, Some, None, option_and_then, unwrap_or, slice_get}
use Rattle.jsgen_tree.specs.Job.{Scoping, Tables}

-- a name: printed as it is written, or looked up by the number of a reference, or by that of the symbol that it binds
pub data Named : Type 0 where
  as_written : List ℕ → Named
  looked_up : Option ℕ → List ℕ → Named
  bound : Option ℕ → List ℕ → Named

-- the symbol that a reference names, if it names one
abbrev pub symbol_of : Scoping → ℕ → Option ℕ
symbol_of scoping reference = option_and_then (λ entry. entry) (slice_get scoping.references reference)

-- the name in the table of the symbol with this number
abbrev pub symbol_name : Scoping → Option ℕ → Option (List ℕ)
symbol_name scoping None = None
symbol_name scoping (Some symbol) = slice_get scoping.symbols symbol

-- the name that the tables give
abbrev pub name_by : Scoping → Named → Option (List ℕ)
name_by scoping (as_written w) = None
name_by scoping (looked_up reference w) = symbol_name scoping (option_and_then (symbol_of scoping) reference)
name_by scoping (bound symbol w) = symbol_name scoping symbol

abbrev pub own_name : Named → List ℕ
own_name (as_written w) = w
own_name (looked_up reference w) = w
own_name (bound symbol w) = w

-- the name that is printed: the symbol's, where a table gives it, or else its own
abbrev pub printed_name : Tables → Named → List ℕ
printed_name tables name = unwrap_or (option_and_then (λ scoping. name_by scoping name) tables.scoping) (own_name name)
