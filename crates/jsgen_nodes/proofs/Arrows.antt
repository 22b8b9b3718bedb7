-- Arrow functions: parameters that are a name alone, and where a body begins.
use Rattle.std.proofs.Common.{◌≡◌, Box, Bool, true, false, Option, Some, None, option_map, List, [], ◌∷◌, map, sym, length, suc, ◌&&◌, not, is_some, is_none, refl, ap, ◌∙◌, Global, arith}
use Rattle.std.specs.Bool.{◌==◌}
use Rattle.std.proofs.lemmas.Bool.{eqb-true}
use Rattle.jsgen_tree.specs.Tree.{Tree, Maybe, absent, Atoms, more, trees, optional}
use Rattle.jsgen_tree.specs.Nodes as tree
use Rattle.jsgen_tree.specs.Rows.{formal_parameter_row, formal_parameter_rest_row, formal_parameters_row}
use Rattle.jsgen_tree.specs.declared.functions.FormalParameter.{FormalParameter}
use Rattle.jsgen_tree.specs.declared.functions.FormalParameterRest.{FormalParameterRest}
use Rattle.jsgen_tree.specs.declared.functions.FormalParameters.{FormalParameters}
use Rattle.jsgen_tree.specs.declared.types.NodeType.{NodeType}
use Rattle.jsgen_tree.specs.declared.types.NodeType.TheVariants as types
use Rattle.jsgen_model.specs.Items.{arrow_body_begins}
use Rattle.jsgen_model.specs.Spell.{is_name_alone, body_begins}
use Rattle.jsgen_questions.specs.Names.{is_name_parameter}

-- one parameter, a name, and none that takes the rest
one_alone : {A B : Type 0} (t : Tree) (f : A → Tree) (g : B → Tree) (xs : List A) (rest : Option B) (a : Atoms) → (is_name_parameter t && ((length xs == 0) && is_none rest)) ≡ is_name_alone (tree.formal_parameters a (more t (trees (map f xs))) (optional (option_map g rest)))
one_alone (tree.formal_parameter b (tree.binding_identifier i) absent) f g [] None a = refl
one_alone (tree.formal_parameter b (tree.binding_identifier i) absent) f g [] (Some y) a = refl
one_alone (tree.formal_parameter b (tree.binding_identifier i) absent) f g (x ∷ xs) rest a = go (length (x ∷ xs) == 0) refl
  where
    go : (e : Bool) → (length (x ∷ xs) == 0) ≡ e → ((length (x ∷ xs) == 0) && is_none rest) ≡ false
    go true h = absurd (omega (arith, eqb-true (suc (length xs)) 0 h))
    go false h = rw h refl
one_alone t f g xs rest a = refl

alone_or_not : {A B : Type 0} (f : A → Tree) (g : B → Tree) (x : A) (xs : List A) (rest : Option B) (a : Atoms) → (is_name_parameter (f x) && ((length xs == 0) && is_none rest)) ≡ is_name_alone (tree.formal_parameters a (trees (map f (x ∷ xs))) (optional (option_map g rest)))
alone_or_not f g x xs rest a = one_alone (f x) f g xs rest a

pub alone_there : {N : Type 0} (h : N → Tree) (ps : FormalParameters N) (x : FormalParameter N) (xs : List (FormalParameter N)) (test : Bool) → ps.items.items ≡ x ∷ xs → test ≡ (is_name_parameter (formal_parameter_row h x) && ((length xs == 0) && is_none ps.rest)) → test ≡ is_name_alone (formal_parameters_row h ps)
alone_there {N} h ps x xs test e t =
    let values : Atoms = record { span = ps.span; values = [] } in
    t ∙ alone_or_not (formal_parameter_row h) (λ (b : Box (FormalParameterRest N) Global). formal_parameter_rest_row h b.value) x xs ps.rest values ∙ ap (λ items. is_name_alone (tree.formal_parameters values (trees (map (formal_parameter_row h) items)) (optional (option_map (λ b. formal_parameter_rest_row h b.value) ps.rest)))) (sym e)

-- where there is no parameter
none_alone : {A : Type 0} (f : A → Tree) (xs : List A) (rest : Maybe) (a : Atoms) → length xs ≡ 0 → false ≡ is_name_alone (tree.formal_parameters a (trees (map f xs)) rest)
none_alone f [] rest a h = refl
none_alone f (x ∷ xs) rest a h = absurd (omega arith)

pub none_there : {N : Type 0} (h : N → Tree) (ps : FormalParameters N) → length ps.items.items ≡ 0 → false ≡ is_name_alone (formal_parameters_row h ps)
none_there h ps e = none_alone (formal_parameter_row h) ps.items.items (optional (option_map (λ b. formal_parameter_rest_row h b.value) ps.rest)) (record { span = ps.span; values = [] }) e

pub none_given : {A : Type 0} (r : Option A) (test : Bool) → is_some r ≡ not test → test ≡ is_none r
none_given None true h = refl
none_given None false h = cc
none_given (Some x) true h = cc
none_given (Some x) false h = refl

-- what is no body in braces begins behind the arrow
pub begins_else : (k : NodeType) → (k ≡ types.FunctionBody → ⊥) → arrow_body_begins ≡ body_begins k
begins_else types.FunctionBody no_body = absurd (no_body refl)
begins_else k no_body = refl
