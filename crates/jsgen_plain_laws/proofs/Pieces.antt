-- What productions have in common: operators, targets, the semicolon behind a statement, and the pieces of a template.
use Rattle.std.proofs.Common.{◌≡◌, Bool, true, false, Option, Some, None, refl, sym, ap, subst}
use Rattle.std.proofs.lemmas.Bool.{both_ways}
use Rattle.std.proofs.lemmas.Option.{same_Some}
use Rattle.jsgen_syntax.specs.declared.operator.BinaryOperator.{BinaryOperator}
use Rattle.jsgen_syntax.specs.declared.operator.BinaryOperator.TheVariants as operators
use Rattle.jsgen_syntax.specs.declared.operator.UnaryOperator.{UnaryOperator}
use Rattle.jsgen_syntax.specs.declared.operator.UnaryOperator.TheVariants as unary_operators
use Rattle.jsgen_tree.specs.Tree.{Tree, Trees, more}
use Rattle.jsgen_tree.specs.Nodes as tree
use Rattle.jsgen_model.specs.Punctuator.{semicolon}
use Rattle.jsgen_model.specs.Tokens.{Tokens, done, piece, Sign, is_plain_piece, are_plain}
use Rattle.jsgen_model.specs.Grammar.{Allowed, EndsBy, ReadsPieces, simple_target, operator_piece, unary_piece}
use Rattle.jsgen_model.specs.Grammar as grammar
use Rattle.jsgen_token_laws.proofs.Plain.{plain_then}
use Rattle.jsgen_plain_laws.proofs.Free.{Free, FreeTemplate}

pub operator_plain : (o : BinaryOperator) → is_plain_piece (operator_piece o) ≡ true
operator_plain operators.Equality = refl
operator_plain o = refl

pub unary_plain : (o : UnaryOperator) → is_plain_piece (unary_piece o) ≡ true
unary_plain unary_operators.UnaryPlus = refl
unary_plain o = refl

-- a target has what is left of it without its parentheses
pub target_free : (t u : Tree) → simple_target t ≡ Some u → Free u → Free t
target_free (tree.identifier_reference a) u e h = tt
target_free (tree.static_member a object property) u e h = subst Free (sym (same_Some _ u e)) h
target_free (tree.computed_member a object expression) u e h = subst Free (sym (same_Some _ u e)) h
target_free (tree.private_member a object field) u e h = subst Free (sym (same_Some _ u e)) h
target_free (tree.parenthesized a expression) u e h = (target_free expression u e h, tt)
target_free t u e h = absurd (none e)
  where
    none : None ≡ Some u → ⊥
    none f = both_ways true (ap is_none f) refl
      where
        is_none : Option Tree → Bool
        is_none None = true
        is_none (Some x) = false

pub plain_end : {last : Bool} {ts a : Tokens} → EndsBy last ts a → are_plain a ≡ true → are_plain ts ≡ true
plain_end {a = a} (grammar.a_semicolon mark e) h = subst (λ x. are_plain x ≡ true) (sym e) (plain_then a (piece mark (Sign semicolon) done) h refl)
plain_end grammar.the_brace h = h

-- a template of more than one piece is one of the trees of which nothing is said
pub no_pieces : {c : Allowed} {tagged : Bool} {ts : Tokens} (v : Tree) {qs es : Trees} → ReadsPieces c tagged ts qs es → FreeTemplate (more v qs) es → ⊥
no_pieces v (grammar.a_last_piece w mark e r h) f = f
no_pieces v (grammar.a_piece_between w mark e r h s) f = f
