-- What is asked for: a program, how it is printed, and the tables by which its names are printed.
use Rattle.std.specs.Prelude.{ℕ, List, Option, None}
use Rattle.jsgen_tree.specs.Options.{Options}
use Rattle.jsgen_tree.specs.Tree.{Tree}

-- the names of the symbols by their numbers, and for each reference the number of the symbol that it names, if it names one
pub record Scoping : Type 0 where
  pub symbols : List (List ℕ)
  pub references : List (Option ℕ)

-- the tables of names; those of private names are by the number of the class, each name with its new one
pub record Tables : Type 0 where
  pub scoping : Option Scoping
  pub private : Option (List (List (List ℕ × List ℕ)))

abbrev pub no_tables : Tables
no_tables = record { scoping = None; private = None }

pub record JobData : Type 0 where
  pub options : Options
  pub tables : Tables
  pub program : Tree
