-- Which comments items leave none of: each statement of a program's own those at its start.
use Rattle.std.specs.Prelude.{⊤}
use Rattle.std.proofs.Common.{◌≡◌, ℕ, ◌+◌, ◌≤◌, Bool, true, false, ◌&&◌, ◌||◌, List, [], ◌∷◌, Option, Some, None, refl, sym, subst, arith}
use Rattle.std.proofs.lemmas.Bool.{both_ways}
use Rattle.jsgen_tree.specs.Tree.{Tree, Trees, no_trees, more, hole, type_of, span_of}
use Rattle.jsgen_tree.specs.Nodes as tree
use Rattle.jsgen_tree.specs.Values.{function_kind, function_pure, function_pife, class_kind}
use Rattle.jsgen_tree.specs.Inside.{has_name}
use Rattle.jsgen_tree.specs.Sets.{is_statement, is_directive}
use Rattle.jsgen_tree.specs.declared.types.NodeSet.TheVariants as sets
use Rattle.jsgen_tree.specs.declared.functions.FunctionKind.{FunctionKind}
use Rattle.jsgen_tree.specs.declared.functions.FunctionKind.TheVariants as function_kinds
use Rattle.jsgen_tree.specs.declared.classes.ClassKind.{ClassKind}
use Rattle.jsgen_tree.specs.declared.classes.ClassKind.TheVariants as class_kinds
use Rattle.jsgen_place.specs.Place.{among_statements}
use Rattle.jsgen_model.specs.Items.{Items, ◌⊕◌, comments, all_of_them, with_key_annotation, parentheses_unless_minified, orphans, due_semicolon, mark, marked_indentation, first_string, statement_end}
use Rattle.jsgen_model.specs.Comments.{Comment, Groups, are_any}
use Rattle.jsgen_model.specs.Groups.{group_at, without_group, printed_if}
use Rattle.jsgen_model.specs.Layout.{Pen}
use Rattle.jsgen_model.specs.Lay.{lay}
use Rattle.jsgen_model.specs.Plain.{is_formed}
use Rattle.jsgen_model.specs.Valid.{fits_kind, fits_place, as_function_kind}
use Rattle.jsgen_model.specs.Spell.{spell, spell_directives, spell_body, spell_statements, function_items, class_items, first_statement, unless_string, span_inside, string_statement}
use Rattle.jsgen_comment_laws.specs.Stand.{Waiting, one_if, count, is_before}
use Rattle.jsgen_comment_laws.proofs.Counts.{waiting_in, is_at, none_left, none_of_no_group}
use Rattle.jsgen_comment_laws.proofs.Writes.{writes_group}
use Rattle.jsgen_comment_laws.proofs.Stores.{Sound}
use Rattle.jsgen_comment_laws.proofs.Steps.{lay_goes}

-- ---- none at an offset

abbrev pub NoneAt : ℕ → Groups → Type 0
NoneAt o gs = (f : Waiting → Bool) → count (λ w. is_at o w && f w) (waiting_in gs) ≡ 0

pub record Takes (o : ℕ) (items : Items) : Type 0 where
  pub none : (p : Pen) → Sound p.store → NoneAt o (lay items p).store.groups

-- what is gone stays gone
pub stays_gone : (test : Waiting → Bool) (items : Items) (p : Pen) → Sound p.store → count test (waiting_in p.store.groups) ≡ 0 → count test (waiting_in (lay items p).store.groups) ≡ 0
stays_gone test items p h none = let all = (lay_goes items p h).all test in omega (arith, all, none)

pub takes_then : (o : ℕ) (a b : Items) → Takes o a → Takes o (a ⊕ b)
takes_then o a b t = record { none = λ p h f. stays_gone (λ w. is_at o w && f w) b (lay a p) (lay_goes a p h).sound (t.none p h f) }

no_any : (cs : List Comment) → are_any cs ≡ false → cs ≡ []
no_any [] e = refl
no_any (c ∷ cs) e = absurd (both_ways true e refl)

pub takes_comments : (o : ℕ) → Takes o (comments all_of_them o)
takes_comments o = record { none = λ p h. by p h (are_any (group_at o p)) refl }
  where
    by : (p : Pen) → Sound p.store → (b : Bool) → are_any (group_at o p) ≡ b → NoneAt o (printed_if b all_of_them o p).store.groups
    by p h true e f = subst (λ s. count (λ w. is_at o w && f w) (waiting_in s.groups) ≡ 0) (sym (writes_group false (group_at o p) (without_group o p)).adds.store) (none_left f o 0 p.store.groups h.groups)
    by p h false e f = none_of_no_group f o 0 p.store.groups h.groups (no_any (group_at o p) e)

takes_first : (o : ℕ) (items : Items) → Takes o (comments all_of_them o ⊕ items)
takes_first o items = takes_then o (comments all_of_them o) items (takes_comments o)

takes_word : (o : ℕ) (a b : Items) → Takes o ((comments all_of_them o ⊕ a) ⊕ b)
takes_word o a b = takes_then o (comments all_of_them o ⊕ a) b (takes_first o a)

-- ---- a statement

no_truth : false ≡ true → ⊥
no_truth e = both_ways false refl e

function_takes : (kind : FunctionKind) (pure pife named : Bool) (o : ℕ) (items : Items) → fits_place sets.ModuleItem kind named ≡ true → Takes o (function_items kind (record { pure = pure; pife = pife; place = among_statements; start = o }) items)
function_takes function_kinds.Declaration pure pife named o items e = takes_word o _ _
function_takes function_kinds.Expression pure pife named o items e = absurd (no_truth e)

class_takes : (kind : ClassKind) (named : Bool) (o : ℕ) (items : Items) → fits_place sets.ModuleItem (as_function_kind kind) named ≡ true → Takes o (class_items kind among_statements o items)
class_takes class_kinds.Declaration named o items e = takes_then o (comments all_of_them o) _ (takes_comments o)
class_takes class_kinds.Expression named o items e = absurd (no_truth e)

pub statement_takes : (t : Tree) → is_formed t ≡ true → is_statement (type_of t) ≡ true → fits_kind sets.ModuleItem t ≡ true → Takes (span_of t).start (spell t among_statements)
statement_takes (tree.block a body) f s k = takes_first a.span.start _
statement_takes (tree.if_statement a test consequent alternate) f s k = takes_word a.span.start _ _
statement_takes (tree.for_statement a init test update body) f s k = takes_first a.span.start _
statement_takes (tree.for_in_statement a left right body) f s k = takes_first a.span.start _
statement_takes (tree.for_of_statement a left right body) f s k = takes_first a.span.start _
statement_takes (tree.while_statement a test body) f s k = takes_first a.span.start _
statement_takes (tree.do_while_statement a body test) f s k = takes_first a.span.start _
statement_takes (tree.switch_statement a discriminant cases) f s k = takes_first a.span.start _
statement_takes (tree.try_statement a block handler finalizer) f s k = takes_first a.span.start _
statement_takes (tree.labeled_statement a label body) f s k = takes_first a.span.start _
statement_takes (tree.expression_statement a expression) f s k = takes_first a.span.start _
statement_takes (tree.empty_statement a) f s k = takes_first a.span.start _
statement_takes (tree.continue_statement a label) f s k = takes_first a.span.start _
statement_takes (tree.break_statement a label) f s k = takes_first a.span.start _
statement_takes (tree.return_statement a argument) f s k = takes_first a.span.start _
statement_takes (tree.throw_statement a argument) f s k = takes_first a.span.start _
statement_takes (tree.debugger_statement a) f s k = takes_first a.span.start _
statement_takes (tree.variable_declaration a declarations) f s k = takes_word a.span.start _ _
statement_takes (tree.function a id params body) f s k = function_takes (function_kind a) (function_pure a) (function_pife a) (has_name id) a.span.start _ k
statement_takes (tree.class a id heritage body) f s k = class_takes (class_kind a) (has_name id) a.span.start _ k
statement_takes (tree.import_declaration a specifiers source attributes) f s k = takes_word a.span.start _ _
statement_takes (tree.export_declaration a declaration) f s k = takes_word a.span.start _ _
statement_takes (tree.export_named_declaration a specifiers) f s k = takes_word a.span.start _ _
statement_takes (tree.export_from_declaration a specifiers source attributes) f s k = takes_word a.span.start _ _
statement_takes (tree.export_all_declaration a exported source attributes) f s k = takes_word a.span.start _ _
statement_takes (tree.export_default_declaration a declaration) f s k = takes_word a.span.start _ _
statement_takes t f s k = absurd (search no_truth)

first_takes : (t : Tree) → Takes (span_of t).start (spell t among_statements) → Takes (span_of t).start (first_statement t (spell t among_statements))
first_takes t h = by (string_statement t)
  where
    by : (units : Option (List ℕ)) → Takes (span_of t).start (unless_string (span_of t) (span_inside t) units (spell t among_statements))
    by None = h
    by (Some units) = takes_first (span_of t).start (marked_indentation true (span_of t) ⊕ (parentheses_unless_minified (comments with_key_annotation (span_inside t).start ⊕ (mark (span_inside t) ⊕ first_string units)) ⊕ statement_end))

directive_takes : (t : Tree) → is_formed t ≡ true → is_directive (type_of t) ≡ true → Takes (span_of t).start (spell t among_statements)
directive_takes (tree.directive a) f s = takes_first a.span.start _
directive_takes t f s = absurd (search no_truth)

-- ---- lists

abbrev pub NoneBefore : Trees → Groups → Type 0
NoneBefore ts gs = (f : Waiting → Bool) → count (λ w. is_before ts w && f w) (waiting_in gs) ≡ 0

abbrev pub TakesAll : Trees → Items → Type 0
TakesAll ts items = (p : Pen) → Sound p.store → NoneBefore ts (lay items p).store.groups

-- each may stand among the items of a module
abbrev pub AreStatements : Trees → Type 0
AreStatements no_trees = ⊤
AreStatements (more t ts) = ((is_formed t ≡ true) × ((is_statement (type_of t) ≡ true) × (fits_kind sets.ModuleItem t ≡ true))) × AreStatements ts
AreStatements (hole ts) = AreStatements ts

abbrev pub AreDirectives : Trees → Type 0
AreDirectives no_trees = ⊤
AreDirectives (more t ts) = ((is_formed t ≡ true) × (is_directive (type_of t) ≡ true)) × AreDirectives ts
AreDirectives (hole ts) = AreDirectives ts

-- of those that pass one test or another there are no more than of both together
pub count_either : (f g h : Waiting → Bool) (ws : List Waiting) → count (λ w. (f w || g w) && h w) ws ≤ count (λ w. f w && h w) ws + count (λ w. g w && h w) ws
count_either f g h [] = omega arith
count_either f g h (w ∷ ws) = by (f w) (g w) (h w) (count_either f g h ws)
  where
    by : (a b c : Bool) → count (λ v. (f v || g v) && h v) ws ≤ count (λ v. f v && h v) ws + count (λ v. g v && h v) ws → one_if ((a || b) && c) + count (λ v. (f v || g v) && h v) ws ≤ (one_if (a && c) + count (λ v. f v && h v) ws) + (one_if (b && c) + count (λ v. g v && h v) ws)
    by true true true rest = omega (arith, rest)
    by true true false rest = omega (arith, rest)
    by true false true rest = omega (arith, rest)
    by true false false rest = omega (arith, rest)
    by false true true rest = omega (arith, rest)
    by false true false rest = omega (arith, rest)
    by false false true rest = omega (arith, rest)
    by false false false rest = omega (arith, rest)

pub none_passes : (f : Waiting → Bool) (ws : List Waiting) → count (λ w. false && f w) ws ≡ 0
none_passes f [] = refl
none_passes f (w ∷ ws) = let rest = none_passes f ws in omega (arith, rest)

-- the first, and the others
both_taken : (t : Tree) (ts : Trees) (own others : Items) → Takes (span_of t).start own → TakesAll ts others → TakesAll (more t ts) (own ⊕ others)
both_taken t ts own others first rest p h f =
    let p1 : Pen = lay own p in
    let s = (lay_goes own p h).sound in
    let one = stays_gone (λ w. is_at (span_of t).start w && f w) others p1 s (first.none p h f) in
    let all = rest p1 s f in
    let most = count_either (is_at (span_of t).start) (is_before ts) f (waiting_in (lay others p1).store.groups) in
    omega (arith, one, all, most)

behind_orphans : (o : ℕ) (ts : Trees) (own others : Items) → TakesAll ts (own ⊕ others) → TakesAll ts (orphans o ⊕ (due_semicolon ⊕ (own ⊕ others)))
behind_orphans o ts own others h p s = h (lay due_semicolon (lay (orphans o) p)) (lay_goes due_semicolon (lay (orphans o) p) (lay_goes (orphans o) p s).sound).sound

statements_taken : (ts : Trees) → AreStatements ts → TakesAll ts (spell_statements ts)
statements_taken no_trees h = λ p s f. none_passes f (waiting_in p.store.groups)
statements_taken (more t ts) h = behind_orphans (span_of t).start (more t ts) (spell t among_statements) (spell_statements ts) (both_taken t ts (spell t among_statements) (spell_statements ts) (statement_takes t h.0.0 h.0.1.0 h.0.1.1) (statements_taken ts h.1))
statements_taken (hole ts) h = statements_taken ts h

pub body_taken : (ts : Trees) → AreStatements ts → TakesAll ts (spell_body ts)
body_taken no_trees h = λ p s f. none_passes f (waiting_in p.store.groups)
body_taken (more t ts) h =
    let own = first_statement t (spell t among_statements) in
    behind_orphans (span_of t).start (more t ts) own (spell_statements ts) (both_taken t ts own (spell_statements ts) (first_takes t (statement_takes t h.0.0 h.0.1.0 h.0.1.1)) (statements_taken ts h.1))
body_taken (hole ts) h = body_taken ts h

pub directives_taken : (ts : Trees) → AreDirectives ts → TakesAll ts (spell_directives ts)
directives_taken no_trees h = λ p s f. none_passes f (waiting_in p.store.groups)
directives_taken (more t ts) h = both_taken t ts (spell t among_statements) (spell_directives ts) (directive_takes t h.0.0 h.0.1) (directives_taken ts h.1)
directives_taken (hole ts) h = directives_taken ts h
