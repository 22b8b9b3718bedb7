-- Arrow functions: the word `async` or none, parameters on its line, an arrow on their line, and an expression that begins with no brace.
use Rattle.std.proofs.Common.{◌≡◌, Bool, true, false, not, codes, refl, sym, ap, ◌∙◌, subst}
use Rattle.std.proofs.lemmas.Bool.{both_ways, or_parts}
use Rattle.jsgen_syntax.specs.declared.span.Span.{Span}
use Rattle.jsgen_syntax.specs.declared.precedence.Precedence.TheVariants as levels
use Rattle.jsgen_tree.specs.Job.{Tables}
use Rattle.jsgen_tree.specs.Tree.{Tree, Trees, Atoms, type_of}
use Rattle.jsgen_tree.specs.Values.{arrow_function_expression_is_async, arrow_function_expression_pife}
use Rattle.jsgen_tree.specs.Nodes as tree
use Rattle.jsgen_model.specs.Punctuator.{arrow, Brace}
use Rattle.jsgen_model.specs.Tokens.{Tokens, done, piece, group, ◌⧺◌, Word, Sign}
use Rattle.jsgen_model.specs.Items.{Items, nothing, ◌⊕◌, word, soft_space, punctuator, wrapped, arrow_body_begins, marked_word}
use Rattle.jsgen_model.specs.Layout.{Pen, arrow_body, layout}
use Rattle.jsgen_model.specs.Grammar.{Allowed, ReadsArrow, ReadsArrowParameters, in_arrow_body, in_body, arrow_values, is_word, starts_in_brace}
use Rattle.jsgen_model.specs.Grammar as grammar
use Rattle.jsgen_model.specs.Normal.{normal, nothing_of}
use Rattle.jsgen_model.specs.Renamed.{renamed}
use Rattle.jsgen_place.specs.declared.place.Place.{Place}
use Rattle.jsgen_place.specs.Place.{within, wraps, arrow_wraps, child}
use Rattle.jsgen_model.specs.Spell.{spell, items_if, parameter_items, body_begins, is_name_alone}
use Rattle.jsgen_token_laws.proofs.Characters.{letters_spelled}
use Rattle.jsgen_token_laws.proofs.Last.{Last, Open, After, line_of}
use Rattle.jsgen_token_laws.proofs.Writes.{Writes, wrote_both, then_assoc, then_done}
use Rattle.jsgen_token_laws.proofs.Steps.{Soft, no_soft, wrote_word, wrote_punctuator, soft_space_written}
use Rattle.jsgen_row_laws.proofs.Levels.{level_of, under, unwrapped}
use Rattle.jsgen_row_laws.proofs.Good.{GoodAs, Good, Printed, no_brace, begins_all, begins_then, line_then, good_at, good_wrapped, PrintedAs, PrintedBy}
use Rattle.jsgen_row_laws.proofs.Names.{free_no_function, async_starts_none}
use Rattle.jsgen_row_laws.proofs.Normals.{flag_again}
use Rattle.jsgen_row_laws.proofs.Parameters.{ArrowParametersOf, parameters_place}
use Rattle.jsgen_row_laws.proofs.Functions.{GoodBody, BodyOf}

same_arrow : (a : Atoms) (async : Bool) (u v x y : Tree) → arrow_function_expression_is_async a ≡ async → normal u ≡ normal x → normal v ≡ normal y → normal (tree.arrow_function (arrow_values async) u v) ≡ normal (tree.arrow_function a x y)
same_arrow a async u v x y h e f = let s = flag_again async ∙ sym h in λ i. tree.arrow_function (arrow_values (s i)) (e i) (f i)

-- what may begin the body begins with no brace
brace_barred : (ts : Tokens) → no_brace ts ≡ true → starts_in_brace ts ≡ false
brace_barred (group mark Brace inside ts) h = absurd (both_ways false refl h)
brace_barred ts h = refl

-- from the parameters, a blank, the arrow, a blank, what begins there and the body
arrow_parts : {names : Tables} {c : Allowed} {async : Bool} (a : Atoms) (t e : Tree) {p p1 p2 p3 p4 q : Pen} {l : Last} → arrow_function_expression_is_async a ≡ async → (g : GoodAs names ReadsArrowParameters p l p1 t) → line_of g.last ≡ false → (s : Soft names p1 g.last p2) → Writes names p2 s.last p3 (After (Sign arrow)) (piece (line_of s.last) (Sign arrow) done) → (n : Soft names p3 (After (Sign arrow)) p4) (m : Soft names p4 n.last (record p4 { start = arrow_body }))
    → Good names (record p4 { start = arrow_body }) m.last q (in_arrow_body async c) grammar.Assignment e → GoodAs names (ReadsArrow c async) p l q (tree.arrow_function a t e)
arrow_parts {names} {async = async} a t e {p = p} h g one_line s w n m i =
    let others : Tokens = piece (line_of s.last) (Sign arrow) i.tokens in
    record {
      last = i.last;
      tokens = g.tokens ⧺ others;
      writes = wrote_both g.writes (wrote_both s.writes (wrote_both w (wrote_both n.writes (wrote_both m.writes i.writes))));
      operand = i.operand;
      semicolon = i.semicolon;
      begins = λ d b. begins_then p.start g.tokens others d g.begins refl;
      line = λ b. line_then g.tokens others (g.line b);
      tree = tree.arrow_function (arrow_values async) g.tree i.tree;
      reads = grammar.an_arrow_function (ap (λ b. g.tokens ⧺ piece b (Sign arrow) i.tokens) (s.line one_line)) g.reads (brace_barred i.tokens (subst (λ ts. no_brace ts ≡ true) (then_done i.tokens) (i.begins done refl))) i.reads;
      same = same_arrow a async g.tree i.tree (renamed names t) (renamed names e) h g.same i.same;
    }

-- where an expression is the body, it begins behind the arrow
abbrev items_of : Tree → Tree → Place → Items → Bool → Items
items_of t e place begins w = parameter_items (is_name_alone t) (spell t (parameters_place place)) ⊕ (soft_space ⊕ (punctuator arrow ⊕ (soft_space ⊕ (begins ⊕ spell e (child levels.Comma (within w place))))))

-- ---- the word `async`

-- what an arrow function begins with is no `function`, whatever follows
parameters_begin : {ts : Tokens} {t : Tree} (d : Tokens) → ReadsArrowParameters ts t → is_word (codes "function") (ts ⧺ d) ≡ false
parameters_begin d (grammar.a_parameter_name {w} {v} e h) = free_no_function w v e h
parameters_begin d (grammar.grouped_parameters r) = refl

arrow_begins : {c : Allowed} {async : Bool} {ts : Tokens} {t : Tree} (d : Tokens) → ReadsArrow c async ts t → is_word (codes "function") (ts ⧺ d) ≡ false
arrow_begins d (grammar.an_arrow_function {a = a} {b = b} e r n s) = subst (λ x. is_word (codes "function") (x ⧺ d) ≡ false) (sym e) (subst (λ x. is_word (codes "function") x ≡ false) (sym (then_assoc a (piece false (Sign arrow) b) d)) (parameters_begin (piece false (Sign arrow) (b ⧺ d)) r))
arrow_begins d (grammar.an_arrow_with_body {a = a} {inside = inside} m e r s) = subst (λ x. is_word (codes "function") (x ⧺ d) ≡ false) (sym e) (subst (λ x. is_word (codes "function") x ≡ false) (sym (then_assoc a (piece false (Sign arrow) (group m Brace inside done)) d)) (parameters_begin (piece false (Sign arrow) (group m Brace inside d)) r))

-- behind the word, on its line
behind_word : {names : Tables} {c : Allowed} {p p1 q : Pen} {l m : Last} {t : Tree} → Writes names p l p1 m (piece (line_of l) (Word (codes "async")) done) → line_of m ≡ false → (g : GoodAs names (ReadsArrow c true) p1 m q t) → Good names p l q c grammar.Assignment t
behind_word {p = p} {l = l} w one_line g = record {
  last = g.last;
  tokens = piece (line_of l) (Word (codes "async")) g.tokens;
  writes = wrote_both w g.writes;
  operand = g.operand;
  semicolon = g.semicolon;
  begins = λ d b. begins_all p.start (piece (line_of l) (Word (codes "async")) (g.tokens ⧺ d)) (ap not (async_starts_none (g.tokens ⧺ d) (arrow_begins d g.reads)));
  line = λ e. ap not e;
  tree = g.tree;
  reads = grammar.an_async_arrow (g.line one_line) g.reads;
  same = g.same;
}

abbrev word_items : Span → Bool → Items
word_items s async = items_if async (marked_word s (codes "async") ⊕ soft_space)

with_word : {names : Tables} {c : Allowed} {t : Tree} (s : Span) (async : Bool) (items : Items) → PrintedAs names (ReadsArrow c async) items t → PrintedBy names c grammar.Assignment (word_items s async ⊕ items) t
with_word s false items f p l z y k = good_at (λ ts u r. grammar.an_arrow r) (f p l z y k)
with_word s true items f p l z y k =
    let p1 : Pen = layout (word (codes "async")) p in
    let o = wrote_word (codes "async") p l (letters_spelled 97 (codes "sync") refl) k in
    let n = soft_space_written p1 (After (Word (codes "async"))) o.knows in
    behind_word (wrote_both o n.writes) (n.line refl) (f (layout soft_space p1) n.last (n.semicolon ∙ z) (n.ready tt) n.writes.knows)

-- in parentheses or not, by whether it is `async`
abbrev worded : Span → Bool → Tree → Tree → Place → Items → Bool → Items
worded s async t e place begins w = wrapped w (word_items s async ⊕ items_of t e place begins w)

spelled_arrow : (a : Atoms) (async : Bool) (t e : Tree) (place : Place) (begins here : Items) (w : Bool) → arrow_function_expression_is_async a ≡ async → here ≡ begins → worded a.span async t e place begins w ≡ worded a.span (arrow_function_expression_is_async a) t e place here w
spelled_arrow a async t e place begins here w h m = λ i. worded a.span (sym h i) t e place (sym m i) w

-- from what is read of it within parentheses or without them
good_arrow : {names : Tables} (c : Allowed) (a : Atoms) (async : Bool) (t e : Tree) (begins here : Items) → arrow_function_expression_is_async a ≡ async → here ≡ begins → (place : Place) → ((v : Bool) → PrintedAs names (ReadsArrow (under (within v place) c) async) (items_of t e place begins v) (tree.arrow_function a t e)) → PrintedBy names (under place c) (level_of place) (worded a.span (arrow_function_expression_is_async a) t e place here (arrow_wraps (arrow_function_expression_pife a) place)) (tree.arrow_function a t e)
good_arrow {names} c a async t e begins here h m place f =
    let pife : Bool = arrow_function_expression_pife a in
    subst (λ x. PrintedBy names (under place c) (level_of place) x (tree.arrow_function a t e)) (spelled_arrow a async t e place begins here (arrow_wraps pife place) h m)
    (good_wrapped c place grammar.Assignment (arrow_wraps pife place) (λ v. word_items a.span async ⊕ items_of t e place begins v) (tree.arrow_function a t e)
    (λ d ts u r. grammar.an_assignment r) (λ n ts u r. unwrapped levels.Assign place (or_parts pife (wraps levels.Assign place) n).1 r) (λ v n. with_word a.span async (items_of t e place begins v) (f v)))

-- ---- with an expression

pub good_arrow_function : {names : Tables} {async : Bool} (c : Allowed) (a : Atoms) (t e : Tree) → arrow_function_expression_is_async a ≡ async → body_begins (type_of e) ≡ arrow_body_begins → ArrowParametersOf names t → Printed names (in_arrow_body async c) e → Printed names c (tree.arrow_function a t e)
good_arrow_function {names} {async} c a t e h m f body place = good_arrow c a async t e arrow_body_begins (body_begins (type_of e)) h m place inner
  where
    inner : (v : Bool) → PrintedAs names (ReadsArrow (under (within v place) c) async) (items_of t e place arrow_body_begins v) (tree.arrow_function a t e)
    inner v p l z y k =
        let p1 : Pen = layout (parameter_items (is_name_alone t) (spell t (parameters_place place))) p in
        let p2 : Pen = layout soft_space p1 in
        let p3 : Pen = layout (punctuator arrow) p2 in
        let p4 : Pen = layout soft_space p3 in
        let g = f place p l z y k in
        let s = soft_space_written p1 g.0.last g.0.writes.knows in
        let w = wrote_punctuator arrow p2 s.last tt tt (s.operand g.0.operand) s.writes.knows in
        let b = soft_space_written p3 (After (Sign arrow)) w.knows in
        let m = no_soft p4 (layout arrow_body_begins p4) b.last refl refl refl refl b.writes.knows in
        let i = body (child levels.Comma (within v place)) (layout arrow_body_begins p4) m.last (m.semicolon ∙ (b.semicolon ∙ (s.semicolon ∙ g.0.semicolon))) (m.ready (b.ready tt)) m.writes.knows in
        arrow_parts a t e h g.0 g.1 s w b m i

-- ---- with a body in braces

body_parts : {names : Tables} {c : Allowed} {async : Bool} (a : Atoms) (t u : Tree) {p p1 p2 p3 p4 q : Pen} {l : Last} → arrow_function_expression_is_async a ≡ async → (g : GoodAs names ReadsArrowParameters p l p1 t) → line_of g.last ≡ false → (s : Soft names p1 g.last p2) → Writes names p2 s.last p3 (After (Sign arrow)) (piece (line_of s.last) (Sign arrow) done) → (n : Soft names p3 (After (Sign arrow)) p4)
    → GoodBody names (in_body async false) p4 n.last q u → GoodAs names (ReadsArrow c async) p l q (tree.arrow_function a t u)
body_parts {names} {async = async} a t u {p = p} h g one_line s w n i =
    let others : Tokens = piece (line_of s.last) (Sign arrow) (group (line_of n.last) Brace i.tokens done) in
    record {
      last = Open false;
      tokens = g.tokens ⧺ others;
      writes = wrote_both g.writes (wrote_both s.writes (wrote_both w (wrote_both n.writes i.writes)));
      operand = tt;
      semicolon = i.semicolon;
      begins = λ d b. begins_then p.start g.tokens others d g.begins refl;
      line = λ b. line_then g.tokens others (g.line b);
      tree = tree.arrow_function (arrow_values async) g.tree (tree.function_body (nothing_of 0) i.directives i.statements);
      reads = grammar.an_arrow_with_body (line_of n.last) (ap (λ b. g.tokens ⧺ piece b (Sign arrow) (group (line_of n.last) Brace i.tokens done)) (s.line one_line)) g.reads i.reads;
      same = same_arrow a async g.tree (tree.function_body (nothing_of 0) i.directives i.statements) (renamed names t) (renamed names u) h g.same i.same;
    }

pub good_arrow_with_body : {names : Tables} {async : Bool} (c : Allowed) (a b : Atoms) (t : Tree) (ds ss : Trees) → arrow_function_expression_is_async a ≡ async → ArrowParametersOf names t → BodyOf names (in_body async false) (tree.function_body b ds ss) → Printed names c (tree.arrow_function a t (tree.function_body b ds ss))
good_arrow_with_body {names} {async} c a b t ds ss h f body place = good_arrow c a async t u nothing nothing h refl place inner
  where
    u : Tree
    u = tree.function_body b ds ss

    inner : (v : Bool) → PrintedAs names (ReadsArrow (under (within v place) c) async) (items_of t u place nothing v) (tree.arrow_function a t u)
    inner v p l z y k =
        let p1 : Pen = layout (parameter_items (is_name_alone t) (spell t (parameters_place place))) p in
        let p2 : Pen = layout soft_space p1 in
        let p3 : Pen = layout (punctuator arrow) p2 in
        let g = f place p l z y k in
        let s = soft_space_written p1 g.0.last g.0.writes.knows in
        let w = wrote_punctuator arrow p2 s.last tt tt (s.operand g.0.operand) s.writes.knows in
        let m = soft_space_written p3 (After (Sign arrow)) w.knows in
        let i = body (child levels.Comma (within v place)) (layout soft_space p3) m.last (m.semicolon ∙ (s.semicolon ∙ g.0.semicolon)) m.writes.knows in
        body_parts a t u h g.0 g.1 s w m i
