-- Assignments: a target, a sign and what the target is given.
use Rattle.std.proofs.Common.{◌≡◌, Bool, true, false, Some, [], ◌∷◌, refl, sym, subst, ◌∙◌}
use Rattle.std.proofs.lemmas.Bool.{both_ways}
use Rattle.jsgen_syntax.specs.declared.operator.AssignmentOperator.{AssignmentOperator}
use Rattle.jsgen_syntax.specs.declared.operator.AssignmentOperator.TheVariants as operators
use Rattle.jsgen_syntax.specs.declared.precedence.Precedence.TheVariants as levels
use Rattle.jsgen_tree.specs.Job.{Tables}
use Rattle.jsgen_tree.specs.Atom.{assignment_operator}
use Rattle.jsgen_tree.specs.Tree.{Tree, Atoms, type_of}
use Rattle.jsgen_tree.specs.Sets.{is_simple_assignment_target}
use Rattle.jsgen_tree.specs.declared.types.NodeType.{NodeType}
use Rattle.jsgen_tree.specs.declared.types.NodeType.TheVariants as types
use Rattle.jsgen_tree.specs.Places.{bare}
use Rattle.jsgen_tree.specs.Values.{assignment_expression_operator}
use Rattle.jsgen_tree.specs.Nodes as tree
use Rattle.jsgen_model.specs.Tokens.{Tokens, done, piece, ◌⧺◌, Sign}
use Rattle.jsgen_model.specs.Items.{Items, ◌⊕◌, soft_space, wrapped, mark}
use Rattle.jsgen_model.specs.Layout.{Pen, layout}
use Rattle.jsgen_model.specs.Grammar.{Allowed, Level, ReadsExpression, with_in, assignment_sign, simple_target}
use Rattle.jsgen_model.specs.Grammar as grammar
use Rattle.jsgen_model.specs.Normal.{normal}
use Rattle.jsgen_model.specs.Renamed.{renamed}
use Rattle.jsgen_model.specs.Quotes.{is_key_of_exports}
use Rattle.jsgen_place.specs.declared.place.Place.{Place}
use Rattle.jsgen_place.specs.Place.{quoted_plainly, child, wraps, in_brackets}
use Rattle.jsgen_model.specs.Spell.{spell, assignment_items}
use Rattle.jsgen_model.specs.Operators.{assignment_item}
use Rattle.jsgen_token_laws.proofs.Last.{Last, After, line_of}
use Rattle.jsgen_token_laws.proofs.Writes.{Writes, wrote_both}
use Rattle.jsgen_token_laws.proofs.Steps.{Soft, soft_space_written}
use Rattle.jsgen_row_laws.proofs.Levels.{level_of, under, unwrapped}
use Rattle.jsgen_row_laws.proofs.Good.{Good, Printed, TargetPrinted, Between, begins_then, line_then, PrintedBy, good_wrapped, good_within}
use Rattle.jsgen_row_laws.proofs.Chains.{punctuator_between}

-- ---- the sign

pub assignment_between : {names : Tables} (o : AssignmentOperator) → Between names (assignment_item o) (Sign (assignment_sign o))
assignment_between operators.Assign = punctuator_between _ tt tt tt
assignment_between o = punctuator_between _ tt tt tt

-- ---- the whole

same_assignment : (o : AssignmentOperator) (u v x y : Tree) → normal u ≡ normal x → normal v ≡ normal y → tree.assignment (bare (assignment_operator o ∷ [])) (normal u) (normal v) ≡ tree.assignment (bare (assignment_operator o ∷ [])) (normal x) (normal y)
same_assignment o u v x y e f = λ i. tree.assignment (bare (assignment_operator o ∷ [])) (e i) (f i)

-- from the target, a blank, the sign, a blank and what the target is given
assignment_parts : {names : Tables} {c : Allowed} (a : Atoms) (t u : Tree) {level : Level} {p p1 p2 p3 p4 q : Pen} {l : Last} → let s = Sign (assignment_sign (assignment_expression_operator a)) in (g : Good names p l p1 (with_in c) level t) → simple_target g.tree ≡ Some g.tree → ReadsExpression (with_in c) grammar.LeftHandSide g.tokens g.tree
    → (b : Soft names p1 g.last p2) → Writes names p2 b.last p3 (After s) (piece (line_of b.last) s done) → (n : Soft names p3 (After s) p4) → Good names p4 n.last q c grammar.Assignment u → Good names p l q c grammar.Assignment (tree.assignment a t u)
assignment_parts {names} a t u {p = p} g simple left b w n h =
    let o : AssignmentOperator = assignment_expression_operator a in
    let others : Tokens = piece (line_of b.last) (Sign (assignment_sign o)) h.tokens in
    record {
      last = h.last;
      tokens = g.tokens ⧺ others;
      writes = wrote_both g.writes (wrote_both b.writes (wrote_both w (wrote_both n.writes h.writes)));
      operand = h.operand;
      semicolon = h.semicolon;
      begins = λ d e. begins_then p.start g.tokens others d g.begins refl;
      line = λ e. line_then g.tokens others (g.line e);
      tree = tree.assignment (bare (assignment_operator o ∷ [])) g.tree h.tree;
      reads = grammar.an_assignment_to o (line_of b.last) refl left simple h.reads refl;
      same = same_assignment o g.tree h.tree (renamed names t) (renamed names u) g.same h.same;
    }

-- what is given to a name or a member stands in parentheses by its place alone
wrapped_alone : (type : NodeType) → is_simple_assignment_target type ≡ true → (test : Bool) (items : Items) → assignment_items type test items ≡ wrapped test items
wrapped_alone types.IdentifierReference h test items = refl
wrapped_alone types.StaticMemberExpression h test items = refl
wrapped_alone types.ComputedMemberExpression h test items = refl
wrapped_alone types.PrivateFieldExpression h test items = refl
wrapped_alone type h test items = absurd (both_ways false refl h)

-- what is forbidden outside its parentheses stays forbidden in them
pub good_assignment : {names : Tables} (c : Allowed) (a : Atoms) (t u : Tree) → is_simple_assignment_target (type_of t) ≡ true → TargetPrinted names c t → Printed names c u → Printed names c (tree.assignment a t u)
good_assignment {names} c a t u s f h place = subst (λ i. PrintedBy names (under place c) (level_of place) i (tree.assignment a t u)) (sym (wrapped_alone (type_of t) s (wraps levels.Assign place) items)) (good_wrapped c place grammar.Assignment (wraps levels.Assign place) (λ w. items) (tree.assignment a t u)
    (λ d ts v r. grammar.an_assignment r) (λ e ts v r. unwrapped levels.Assign place e r) (λ v e p l z y k. good_within c place v (inner p l z y k)))
  where
    o : AssignmentOperator
    o = assignment_expression_operator a

    -- where the target stands
    at : Place
    at = quoted_plainly (is_key_of_exports t) (in_brackets levels.Comma)

    items : Items
    items = mark a.span ⊕ (spell t at ⊕ (soft_space ⊕ (assignment_item o ⊕ (soft_space ⊕ spell u (child levels.Comma place)))))

    inner : PrintedBy names (under place c) grammar.Assignment items (tree.assignment a t u)
    inner p l z y k =
        let p1 : Pen = layout (spell t at) p in
        let p2 : Pen = layout soft_space p1 in
        let p3 : Pen = layout (assignment_item o) p2 in
        let between = assignment_between o in
        let g = f at p l z y k in
        let b = soft_space_written p1 g.0.last g.0.writes.knows in
        let w = between.writes p2 b.last (b.operand g.0.operand) b.writes.knows in
        let n = soft_space_written p3 (After (Sign (assignment_sign o))) w.knows in
        let i = h (child levels.Comma place) (layout soft_space p3) n.last (n.semicolon ∙ (between.semicolon p2 ∙ (b.semicolon ∙ g.0.semicolon))) (n.ready between.ready) n.writes.knows in
        assignment_parts a t u g.0 g.1 g.3 b w n i
