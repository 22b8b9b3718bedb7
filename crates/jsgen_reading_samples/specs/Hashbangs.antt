-- Texts with a hashbang at their front, and texts with one elsewhere, which have no tokens, worked out by hand (12.5).
use Rattle.std.specs.Prelude.{ℕ, List, [], ◌∷◌, ◌++◌, Option, Some, codes}
use Rattle.jsgen_tree.specs.Atom.{units}
use Rattle.jsgen_tree.specs.Tree.{Tree, given, Trees, no_trees, more}
use Rattle.jsgen_tree.specs.Places.{bare}
use Rattle.jsgen_tree.specs.Nodes as tree
use Rattle.jsgen_model.specs.Tokens.{Tokens, AreTokensOf, AreTokensBehind}
use Rattle.jsgen_model.specs.Normal.{nothing_of}
use Rattle.jsgen_model.specs.Grammar.{ReadsProgram, hashbang_of}
use Rattle.jsgen_reading_samples.specs.ReadPatterns.{statement_of, a}

-- the text has tokens behind that hashbang, and with it they are read as this program
abbrev pub IsReadBehind : List ℕ → List ℕ → Tree → Type 0
IsReadBehind value source t = (ts : Tokens) × AreTokensBehind (Some value) source ts × ReadsProgram (Some value) ts t

abbrev pub directive_of : List ℕ → Tree
directive_of value = tree.directive (bare (units value ∷ []))

abbrev pub behind : List ℕ → Trees → Trees → Tree
behind value directives body = tree.program (nothing_of 4) no_trees (given (hashbang_of value)) directives body

-- neither behind a hashbang nor without one
abbrev pub HasNoTokens : List ℕ → Type 0
HasNoTokens source = (hashbang : Option (List ℕ)) (ts : Tokens) → AreTokensBehind hashbang source ts → ⊥

pub record Hashbangs : Type 0 where
  -- its line end is before the first token
  pub before_directive : IsReadBehind (codes "/usr/bin/env node") (codes "#!/usr/bin/env node\n\"use strict\";\na;") (behind (codes "/usr/bin/env node") (more (directive_of (codes "use strict")) no_trees) (more (statement_of a) no_trees))
  -- a text may have nothing else
  pub alone : IsReadBehind [] (codes "#!") (behind [] no_trees no_trees)
  -- what begins so has its hashbang, since no token begins so
  pub never_without : (rest : List ℕ) (ts : Tokens) → AreTokensOf (codes "#!" ++ rest) ts → ⊥
  -- nothing stands before it, not even a blank
  pub behind_blank : HasNoTokens (codes " #!x")
  pub behind_statement : HasNoTokens (codes "a;#!x")
