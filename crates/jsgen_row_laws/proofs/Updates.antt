-- Updates: a simple target, and `++` or `--` before it or behind it.
use Rattle.std.proofs.Common.{◌≡◌, Bool, true, false, not, Some, [], ◌∷◌, refl, sym, ap, ◌∙◌, arith}
use Rattle.jsgen_syntax.specs.declared.span.Span.{Span}
use Rattle.jsgen_syntax.specs.declared.operator.UpdateOperator.{UpdateOperator}
use Rattle.jsgen_syntax.specs.declared.operator.UpdateOperator.TheVariants as operators
use Rattle.jsgen_syntax.specs.declared.precedence.Precedence.TheVariants as levels
use Rattle.jsgen_tree.specs.Job.{Tables}
use Rattle.jsgen_tree.specs.Atom.{update_operator, flag}
use Rattle.jsgen_tree.specs.Tree.{Tree, Atoms}
use Rattle.jsgen_tree.specs.Places.{bare}
use Rattle.jsgen_tree.specs.Values.{update_expression_operator, update_expression_prefix}
use Rattle.jsgen_tree.specs.Nodes as tree
use Rattle.jsgen_model.specs.Punctuator.{plus_plus, minus_minus}
use Rattle.jsgen_model.specs.Tokens.{done, piece, ◌⧺◌, Sign}
use Rattle.jsgen_model.specs.Items.{Items, wrapped}
use Rattle.jsgen_model.specs.Layout.{Pen, layout}
use Rattle.jsgen_model.specs.Grammar.{Allowed, Level, ReadsExpression, update_sign, simple_target}
use Rattle.jsgen_model.specs.Grammar as grammar
use Rattle.jsgen_model.specs.Normal.{normal}
use Rattle.jsgen_model.specs.Renamed.{renamed}
use Rattle.jsgen_place.specs.declared.place.Place.{Place}
use Rattle.jsgen_place.specs.Place.{within, child, wraps, update_level}
use Rattle.jsgen_model.specs.Spell.{spell, update_items, linked_items}
use Rattle.jsgen_model.specs.Operators.{update_item, marked}
use Rattle.jsgen_token_laws.proofs.Last.{Last, After, line_of, Operand, Ready, Knows}
use Rattle.jsgen_token_laws.proofs.Writes.{Writes, wrote_both}
use Rattle.jsgen_token_laws.proofs.Steps.{wrote_operator, wrote_increment, wrote_decrement}
use Rattle.jsgen_row_laws.proofs.Levels.{level_of, under, read_left, lifted, unwrapped}
use Rattle.jsgen_row_laws.proofs.Good.{Good, TargetPrinted, begins_then, line_then, good_wrapped, PrintedBy, begins_all}

-- ---- the sign

written_before : {names : Tables} (s : Span) (o : UpdateOperator) (p : Pen) (l : Last) → Knows names p l → Writes names p l (layout (marked s (update_item o)) p) (After (Sign (update_sign o))) (piece (line_of l) (Sign (update_sign o)) done)
written_before s operators.Increment p l k = wrote_increment p l k
written_before s operators.Decrement p l k = wrote_decrement p l k

written_behind : {names : Tables} (o : UpdateOperator) (p : Pen) (l : Last) → Operand l → Knows names p l → Writes names p l (layout (update_item o) p) (After (Sign (update_sign o))) (piece (line_of l) (Sign (update_sign o)) done)
written_behind operators.Increment p l i k = wrote_operator plus_plus p l tt i k
written_behind operators.Decrement p l i k = wrote_operator minus_minus p l tt i k

sign_semicolon : (o : UpdateOperator) (p : Pen) → (layout (update_item o) p).pending_semicolon ≡ p.pending_semicolon
sign_semicolon operators.Increment p = refl
sign_semicolon operators.Decrement p = refl

marked_semicolon : (s : Span) (o : UpdateOperator) (p : Pen) → (layout (marked s (update_item o)) p).pending_semicolon ≡ p.pending_semicolon
marked_semicolon s operators.Increment p = refl
marked_semicolon s operators.Decrement p = refl

sign_ready : (o : UpdateOperator) → Ready (After (Sign (update_sign o)))
sign_ready operators.Increment = tt
sign_ready operators.Decrement = tt

sign_operand : (o : UpdateOperator) → Operand (After (Sign (update_sign o)))
sign_operand operators.Increment = tt
sign_operand operators.Decrement = tt

same_update : (a : Atoms) (prefix : Bool) (u x : Tree) → update_expression_prefix a ≡ prefix → normal u ≡ normal x → normal (tree.update (bare (update_operator (update_expression_operator a) ∷ flag prefix ∷ [])) u) ≡ normal (tree.update a x)
same_update a prefix u x h e = λ i. tree.update (bare (update_operator (update_expression_operator a) ∷ flag (sym h i) ∷ [])) (e i)

-- ---- before the operand

before_parts : {names : Tables} {c : Allowed} (a : Atoms) (t : Tree) {p p1 q : Pen} {l : Last} → update_expression_prefix a ≡ true → let s = Sign (update_sign (update_expression_operator a)) in Writes names p l p1 (After s) (piece (line_of l) s done) → (g : Good names p1 (After s) q c grammar.Update t) → simple_target g.tree ≡ Some g.tree → Good names p l q c grammar.Update (tree.update a t)
before_parts {names} a t {p = p} {l = l} h w g simple =
    let o : UpdateOperator = update_expression_operator a in
    record {
      last = g.last;
      tokens = piece (line_of l) (Sign (update_sign o)) g.tokens;
      writes = wrote_both w g.writes;
      operand = g.operand;
      semicolon = g.semicolon;
      begins = λ d i. begins_all p.start (piece (line_of l) (Sign (update_sign o)) (g.tokens ⧺ d)) refl;
      line = λ i. ap not i;
      tree = tree.update (bare (update_operator o ∷ flag true ∷ [])) g.tree;
      reads = grammar.an_update_before o (grammar.an_update g.reads) simple;
      same = same_update a true g.tree (renamed names t) h g.same;
    }

-- ---- behind it

behind_parts : {names : Tables} {c : Allowed} (a : Atoms) (t : Tree) {level : Level} {p p1 q : Pen} {l : Last} → update_expression_prefix a ≡ false → let s = Sign (update_sign (update_expression_operator a)) in (g : Good names p l p1 c level t) → ReadsExpression c grammar.LeftHandSide g.tokens g.tree → simple_target g.tree ≡ Some g.tree → line_of g.last ≡ false → q.pending_semicolon ≡ false → Writes names p1 g.last q (After s) (piece (line_of g.last) s done) → Good names p l q c grammar.Update (tree.update a t)
behind_parts {names} a t {p = p} h g r simple one_line z w =
    let o : UpdateOperator = update_expression_operator a in
    record {
      last = After (Sign (update_sign o));
      tokens = g.tokens ⧺ piece (line_of g.last) (Sign (update_sign o)) done;
      writes = wrote_both g.writes w;
      operand = sign_operand o;
      semicolon = z;
      begins = λ d i. begins_then p.start g.tokens (piece (line_of g.last) (Sign (update_sign o)) done) d g.begins refl;
      line = λ e. line_then g.tokens (piece (line_of g.last) (Sign (update_sign o)) done) (g.line e);
      tree = tree.update (bare (update_operator o ∷ flag false ∷ [])) g.tree;
      reads = grammar.an_update_behind o (ap (λ b. g.tokens ⧺ piece b (Sign (update_sign o)) done) one_line) r simple;
      same = same_update a false g.tree (renamed names t) h g.same;
    }

-- ---- the whole

abbrev items_of : Atoms → Tree → Place → Bool → Bool → Items
items_of a t place prefix w = update_items a.span prefix (update_item (update_expression_operator a)) (linked_items t (spell t (child levels.Postfix (within w place)))) (spell t (child levels.Prefix (within w place)))

abbrev UpdateAt : Tables → Allowed → Atoms → Tree → Place → Bool → Type 0
UpdateAt names c a t place prefix = PrintedBy names (under place c) (level_of place) (wrapped (wraps (update_level prefix) place) (items_of a t place prefix (wraps (update_level prefix) place))) (tree.update a t)

update_before : {names : Tables} (c : Allowed) (a : Atoms) (t : Tree) → TargetPrinted names c t → update_expression_prefix a ≡ true → (place : Place) → UpdateAt names c a t place true
update_before {names} c a t f h place =
    good_wrapped c place grammar.Update (wraps levels.Prefix place) (items_of a t place true) (tree.update a t)
    (λ d ts u r. lifted false levels.Prefix levels.Lowest (omega arith) r) (λ e ts u r. unwrapped levels.Prefix place e (grammar.an_update r)) inner
  where
    inner : (v : Bool) → wraps levels.Prefix place ≡ v → PrintedBy names (under (within v place) c) grammar.Update (items_of a t place true v) (tree.update a t)
    inner v e p l z y k =
        let o : UpdateOperator = update_expression_operator a in
        let p1 : Pen = layout (marked a.span (update_item o)) p in
        let w = written_before a.span o p l k in
        let g = f (child levels.Prefix (within v place)) p1 (After (Sign (update_sign o))) (marked_semicolon a.span o p ∙ z) (sign_ready o) w.knows in
        before_parts a t h w g.0 g.1

update_behind : {names : Tables} (c : Allowed) (a : Atoms) (t : Tree) → TargetPrinted names c t → update_expression_prefix a ≡ false → (place : Place) → UpdateAt names c a t place false
update_behind {names} c a t f h place =
    good_wrapped c place grammar.Update (wraps levels.Postfix place) (items_of a t place false) (tree.update a t)
    (λ d ts u r. lifted false levels.Prefix levels.Lowest (omega arith) r) (λ e ts u r. unwrapped levels.Postfix place e r) inner
  where
    inner : (v : Bool) → wraps levels.Postfix place ≡ v → PrintedBy names (under (within v place) c) grammar.Update (items_of a t place false v) (tree.update a t)
    inner v e p l z y k =
        let o : UpdateOperator = update_expression_operator a in
        let at : Place = child levels.Postfix (within v place) in
        let p1 : Pen = layout (spell t at) p in
        let g = f at p l z y k in
        behind_parts a t h g.0 (read_left at.context.forbids_call g.0.reads) g.1 g.2 (sign_semicolon o p1 ∙ g.0.semicolon) (written_behind o p1 g.0.last g.0.operand g.0.writes.knows)

pub good_update : {names : Tables} (c : Allowed) (a : Atoms) (t : Tree) → TargetPrinted names c t → (place : Place) → UpdateAt names c a t place (update_expression_prefix a)
good_update {names} c a t f place = go (update_expression_prefix a) refl
  where
    go : (b : Bool) → update_expression_prefix a ≡ b → UpdateAt names c a t place b
    go true e = update_before c a t f e place
    go false e = update_behind c a t f e place
