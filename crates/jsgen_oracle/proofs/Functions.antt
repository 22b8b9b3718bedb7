-- Functions that are neither `async` nor generators, as they are read.
use Rattle.std.proofs.Common.{◌≡◌, Bool, true, false, codes}
use Rattle.jsgen_tree.specs.Tree.{Tree, Maybe, absent, Trees, no_trees, more}
use Rattle.jsgen_tree.specs.Nodes as tree
use Rattle.jsgen_tree.specs.declared.collections.PropertyKind.TheVariants.{Init, Get, Set}
use Rattle.jsgen_tree.specs.declared.functions.FunctionKind.TheVariants as kinds
use Rattle.jsgen_model.specs.Punctuator.{arrow, Round, Brace}
use Rattle.jsgen_model.specs.Tokens.{Tokens, done, piece, group, ◌⧺◌, Word, Sign}
use Rattle.jsgen_model.specs.Grammar.{Allowed, Assignment, Primary, ReadsExpression, ReadsFunctionAs, ReadsArrowParameters, ReadsBody, ReadsItem, ReadsKey, ReadsParameter, ReadsParameters, ReadsProperty, arrow_values, in_arrow_body, in_body, in_parameters, method_of, starts_in_brace}
use Rattle.jsgen_model.specs.Grammar as grammar
use Rattle.jsgen_model.specs.Normal.{nothing_of, property_values}

pub read_function : {c : Allowed} {mark : Bool} {ts : Tokens} {t : Tree} → ReadsFunctionAs kinds.Expression true false false ts t → ReadsExpression c Primary (piece mark (Word (codes "function")) ts) t
read_function r = grammar.a_function (grammar.a_plain_function r)

pub read_declaration : {c : Allowed} {last mark : Bool} {ts : Tokens} {t : Tree} → ReadsFunctionAs kinds.Declaration false false false ts t → ReadsItem c last (piece mark (Word (codes "function")) ts) t
read_declaration r = grammar.a_function_declaration (grammar.a_plain_function r)

pub read_arrow : {c : Allowed} {ts a b : Tokens} {ps e : Tree} → ts ≡ a ⧺ piece false (Sign arrow) b → ReadsArrowParameters a ps → starts_in_brace b ≡ false → ReadsExpression (in_arrow_body false c) Assignment b e → ReadsExpression c Assignment ts (tree.arrow_function (arrow_values false) ps e)
read_arrow e r n s = grammar.an_arrow (grammar.an_arrow_function e r n s)

pub read_arrow_with_body : {c : Allowed} {ts a inside : Tokens} {ps : Tree} {ds ss : Trees} (mark : Bool) → ts ≡ a ⧺ piece false (Sign arrow) (group mark Brace inside done) → ReadsArrowParameters a ps → ReadsBody (in_body false false) true inside ds ss → ReadsExpression c Assignment ts (tree.arrow_function (arrow_values false) ps (tree.function_body (nothing_of 0) ds ss))
read_arrow_with_body m e r s = grammar.an_arrow (grammar.an_arrow_with_body m e r s)

pub read_method : {c : Allowed} {computed : Bool} {ts a head inside : Tokens} {k : Tree} {ps ds ss : Trees} {rest : Maybe} (next third : Bool) → ts ≡ a ⧺ group next Round head (group third Brace inside done) → ReadsKey c computed a k → ReadsParameters in_parameters head ps rest → ReadsBody (in_body false false) true inside ds ss → ReadsProperty c ts (tree.object_property (property_values Init true false computed) k (method_of false false ps rest ds ss))
read_method m n e k r s = grammar.a_method (grammar.a_plain_method (grammar.a_method_behind_words m n e (grammar.a_public_key k) r s))

pub read_getter : {c : Allowed} {computed mark : Bool} {ts a inside : Tokens} {k : Tree} {ds ss : Trees} (next third : Bool) → ts ≡ a ⧺ group next Round done (group third Brace inside done) → ReadsKey c computed a k → ReadsBody (in_body false false) true inside ds ss → ReadsProperty c (piece mark (Word (codes "get")) ts) (tree.object_property (property_values Get false false computed) k (method_of false false no_trees absent ds ss))
read_getter m n e k s = grammar.a_method (grammar.a_getter m n e (grammar.a_public_key k) s)

pub read_setter : {c : Allowed} {computed mark : Bool} {ts a head inside : Tokens} {k p : Tree} {ds ss : Trees} (next third : Bool) → ts ≡ a ⧺ group next Round head (group third Brace inside done) → ReadsKey c computed a k → ReadsParameter in_parameters head p → ReadsBody (in_body false false) true inside ds ss → ReadsProperty c (piece mark (Word (codes "set")) ts) (tree.object_property (property_values Set false false computed) k (method_of false false (more p no_trees) absent ds ss))
read_setter m n e k r s = grammar.a_method (grammar.a_setter m n e (grammar.a_public_key k) r s)
