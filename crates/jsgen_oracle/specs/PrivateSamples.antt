-- Private names by the tables of the classes round them (ECMA-262, 12.7 and 13.3.2), worked out by hand.
use Rattle.std.specs.Prelude.{◌≡◌, ℕ, List, [], ◌∷◌, Some, None, false, codes}
use Rattle.jsgen_tree.specs.declared.classes.ClassKind.{ClassKind}
use Rattle.jsgen_tree.specs.declared.classes.ClassKind.TheVariants.{Declaration, Expression}
use Rattle.jsgen_tree.specs.Atom.{text, flag, class_form}
use Rattle.jsgen_tree.specs.Job.{Tables, no_tables}
use Rattle.jsgen_tree.specs.Nodes as tree
use Rattle.jsgen_tree.specs.Options.{minified_options}
use Rattle.jsgen_tree.specs.Places.{bare}
use Rattle.jsgen_tree.specs.Tree.{Tree, Maybe, absent, given, Trees, no_trees, more}
use Rattle.jsgen_place.specs.Place.{among_statements}
use Rattle.jsgen_model.specs.Layout.{layout, empty_pen, style_of}
use Rattle.jsgen_model.specs.Resolved.{after, resolved}
use Rattle.jsgen_model.specs.Spell.{spell}
use Rattle.jsgen_oracle.specs.FunctionSamples.{name_of}

-- ---- trees

abbrev pub private_of : List ℕ → Tree
private_of w = tree.private_identifier (bare (text w ∷ []))

abbrev pub field_of : Tree → Maybe → Tree
field_of key value = tree.property_definition (bare (flag false ∷ flag false ∷ flag false ∷ flag false ∷ [])) key value

abbrev pub class_of : ClassKind → Maybe → Maybe → Trees → Tree
class_of kind id heritage members = tree.class (bare (class_form kind ∷ [])) id heritage (tree.class_body (bare []) members)

abbrev pub member_of_this : List ℕ → Tree
member_of_this w = tree.private_member (bare (flag false ∷ [])) (tree.this_expression (bare [])) (private_of w)

-- `class A extends class { #a } { #b; f = class { #c = this.#d }; #e }`
abbrev pub nested : List ℕ → List ℕ → List ℕ → List ℕ → List ℕ → Tree
nested a b c d e = class_of Declaration (name_of (codes "A")) (given (class_of Expression absent absent (more (field_of (private_of a) absent) no_trees)))
    (more (field_of (private_of b) absent)
    (more (field_of (tree.identifier_name (bare (text (codes "f") ∷ []))) (given (class_of Expression absent absent (more (field_of (private_of c) (given (member_of_this d))) no_trees))))
    (more (field_of (private_of e) absent) no_trees)))

-- ---- what is printed

-- of what is extended x is p, of `A` x is q, of the class in it y is r
abbrev pub three_tables : Tables
three_tables = record { scoping = None; private = Some (((codes "x", codes "p") ∷ []) ∷ ((codes "x", codes "q") ∷ []) ∷ ((codes "y", codes "r") ∷ []) ∷ []) }

-- of `A` x is q, and no class behind it has a table
abbrev pub two_tables : Tables
two_tables = record { scoping = None; private = Some ([] ∷ ((codes "x", codes "q") ∷ []) ∷ []) }

abbrev pub printed_by : Tables → Tree → List ℕ
printed_by tables t = (layout (spell t among_statements) (empty_pen (style_of minified_options tables) 0)).code

pub record PrivateSamples : Type 0 where
  -- the classes are three: what is extended, `A`, and the one in it
  pub count : after (nested (codes "x") (codes "x") (codes "y") (codes "x") (codes "y")) 0 ≡ 3
  pub without_tables : printed_by no_tables (nested (codes "x") (codes "x") (codes "y") (codes "x") (codes "y")) ≡ codes "class A extends class{#x}{#x;f=class{#y=this.#x};#y}"
  pub by_tables : printed_by three_tables (nested (codes "x") (codes "x") (codes "y") (codes "x") (codes "y")) ≡ codes "class A extends class{#p}{#q;f=class{#r=this.#q};#y}"
  pub innermost : resolved three_tables [] 0 (nested (codes "x") (codes "x") (codes "y") (codes "x") (codes "y")) ≡ nested (codes "p") (codes "q") (codes "r") (codes "q") (codes "y")
  pub tables_end : resolved two_tables [] 0 (nested (codes "x") (codes "x") (codes "y") (codes "x") (codes "x")) ≡ nested (codes "x") (codes "q") (codes "y") (codes "q") (codes "q")
  -- of no class's table, and outside all classes
  pub unheld : resolved three_tables [] 0 (nested (codes "z") (codes "z") (codes "z") (codes "z") (codes "z")) ≡ nested (codes "z") (codes "z") (codes "z") (codes "z") (codes "z")
  pub outside : resolved three_tables [] 0 (member_of_this (codes "x")) ≡ member_of_this (codes "x")
