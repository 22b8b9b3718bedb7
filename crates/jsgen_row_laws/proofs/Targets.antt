-- Patterns that are given values: of elements and of properties, what takes the rest, defaults, and the assignment.
use Rattle.std.proofs.Common.{◌≡◌, Bool, true, false, ◌||◌, not, Some, [], ◌∷◌, refl, sym, ap, ◌∙◌, subst}
use Rattle.std.proofs.lemmas.Bool.{both_ways, or_parts}
use Rattle.jsgen_syntax.specs.declared.operator.AssignmentOperator.{AssignmentOperator}
use Rattle.jsgen_syntax.specs.declared.operator.AssignmentOperator.TheVariants as operators
use Rattle.jsgen_syntax.specs.declared.precedence.Precedence.TheVariants as levels
use Rattle.jsgen_tree.specs.Atom.{assignment_operator}
use Rattle.jsgen_model.specs.Quotes.{is_key_of_exports}
use Rattle.jsgen_tree.specs.Job.{Tables}
use Rattle.jsgen_tree.specs.Nodes as tree
use Rattle.jsgen_tree.specs.Places.{bare}
use Rattle.jsgen_tree.specs.Tree.{Tree, Maybe, given, Trees, no_trees, Atoms}
use Rattle.jsgen_tree.specs.Values.{assignment_expression_operator}
use Rattle.jsgen_model.specs.Punctuator.{Bracket, equal, ellipsis, opening, Round, Square, Brace}
use Rattle.jsgen_model.specs.Tokens.{Tokens, done, piece, group, ◌⧺◌, Sign}
use Rattle.jsgen_model.specs.Items.{Items, ◌⊕◌, punctuator, soft_space, wrapped, wrapped_at_start, mark, a_brace}
use Rattle.jsgen_model.specs.Layout.{Pen, Start, nowhere, statement, arrow_body, default_export, other_end, layout, written, written_if, unless_printed, is_barred}
use Rattle.jsgen_model.specs.Operators.{assignment_item}
use Rattle.jsgen_model.specs.Grammar.{Allowed, ReadsExpression, ReadsPattern, ReadsTarget, ReadsTargetElement, ReadsTargetElements, ReadsTargetProperties, ReadsTargetProperty, assignment_sign, simple_target, with_in}
use Rattle.jsgen_model.specs.Grammar as grammar
use Rattle.jsgen_model.specs.Normal.{nothing_of}
use Rattle.jsgen_place.specs.declared.place.Place.{Place}
use Rattle.jsgen_place.specs.Place.{quoted_plainly, child, wraps, in_brackets}
use Rattle.jsgen_model.specs.Spell.{spell}
use Rattle.jsgen_token_laws.proofs.Last.{Last, Open, After, line_of, Knows}
use Rattle.jsgen_token_laws.proofs.Writes.{Writes, wrote_both}
use Rattle.jsgen_token_laws.proofs.Steps.{Soft, within_brackets, brackets_written, soft_space_written}
use Rattle.jsgen_row_laws.proofs.Levels.{level_of, under, unwrapped}
use Rattle.jsgen_row_laws.proofs.Good.{Good, Printed, PrintedBy, PrintedFrom, TargetPrinted, may_begin, good_wrapped, good_within, wrapped_from}
use Rattle.jsgen_row_laws.proofs.Assignments.{assignment_between}
use Rattle.jsgen_row_laws.proofs.Stands.{SameTree}
use Rattle.jsgen_row_laws.proofs.Adds.{a_start, at_start, behind_operand, behind_token, Is, is, ◌⨟◌, ◌&◌, Adds, ◌⨾◌, read, at_token, at_any, at_operand, after_group, past, dots}
use Rattle.jsgen_row_laws.proofs.Parts.{Reads, operand_ends}
use Rattle.jsgen_row_laws.proofs.Rests.{Joins, Each, Every, IfGiven, elements, properties, elements_items, properties_items}
use Rattle.jsgen_row_laws.proofs.BoundPatterns.{valued}

-- ---- targets; within brackets `in` may stand

abbrev pub TargetOf : Tables → Allowed → Tree → Type 0
TargetOf names c t = Adds names at_start (Reads names (ReadsTarget (with_in c)) t) behind_operand (spell t (in_brackets levels.Comma))

-- a name or a member, which is read without parentheses
abbrev ReadsSimple : Allowed → Tokens → Tree → Type 0
ReadsSimple c ts t = ReadsExpression c grammar.LeftHandSide ts t × (simple_target t ≡ Some t)

simple_stretch : {names : Tables} {t : Tree} (c : Allowed) → TargetPrinted names c t → Adds names at_start (Reads names (ReadsSimple (with_in c)) t) behind_operand (spell t (in_brackets levels.Comma))
simple_stretch c f = record {
  from = λ p l z y k.
      let g = f (in_brackets levels.Comma) p l z (y a_start refl) k in
      record { last = g.0.last; tokens = g.0.tokens; writes = g.0.writes; ends = operand_ends g.0.last g.0.operand; semicolon = g.0.semicolon; holds = record { reading = g.0.tree; reads = (g.3, g.1); same = g.0.same } };
}

pub simple_target_of : {names : Tables} {t : Tree} (c : Allowed) → TargetPrinted names c t → TargetOf names c t
simple_target_of c f = read (λ ts r. record { reading = r.reading; reads = grammar.a_simple_target r.reads.0 r.reads.1; same = r.same }) (simple_stretch c f)

-- between two pens stands a pattern: brackets, with what they hold
pub record GoodPattern (names : Tables) (c : Allowed) (b : Bracket) (p : Pen) (l : Last) (q : Pen) (t : Tree) : Type 0 where
  pub inside : Tokens
  pub writes : Writes names p l q (Open false) (group (line_of l) b inside done)
  pub semicolon : q.pending_semicolon ≡ false
  pub reading : Tree
  pub reads : ReadsPattern c (group (line_of l) b inside done) reading
  pub same : SameTree names t reading

abbrev pub PatternOf : Tables → Allowed → Bracket → Tree → Type 0
PatternOf names c b t = (place : Place) (p : Pen) (l : Last) → p.pending_semicolon ≡ false → Knows names p l → GoodPattern names (with_in c) b p l (layout (spell t place) p) t

pattern_stretch : {names : Tables} {t : Tree} {b : Bracket} (c : Allowed) → PatternOf names c b t → Adds names at_start (Reads names (ReadsPattern (with_in c)) t) behind_token (spell t (in_brackets levels.Comma))
pattern_stretch {b = b} c f = record {
  from = λ p l z y k.
      let g = f (in_brackets levels.Comma) p l z k in
      record { last = Open false; tokens = group (line_of l) b g.inside done; writes = g.writes; ends = after_group; semicolon = g.semicolon; holds = record { reading = g.reading; reads = g.reads; same = g.same } };
}

pub pattern_of : {names : Tables} {t : Tree} {b : Bracket} (c : Allowed) → PatternOf names c b t → TargetOf names c t
pattern_of c f = at_operand (read (λ ts r. record { reading = r.reading; reads = grammar.a_target_pattern r.reads; same = r.same }) (pattern_stretch c f))

-- ---- an element, with a default or without one

abbrev pub ElementOf : Tables → Allowed → Tree → Type 0
ElementOf names c t = Adds names at_start (Reads names (ReadsTargetElement (with_in c)) t) behind_operand (spell t (in_brackets levels.Comma))

pub element_alone : {names : Tables} (c : Allowed) (t : Tree) → TargetOf names c t → ElementOf names c t
element_alone c t f = read (λ ts r. record { reading = r.reading; reads = grammar.a_target_alone r.reads; same = r.same }) f

read_simple_default : (names : Tables) (c : Allowed) (a : Atoms) (t v : Tree) {ts : Tokens} → (Reads names (ReadsSimple (with_in c)) t ⨟ (Is (Sign equal) ⨟ Reads names (ReadsExpression (with_in c) grammar.Assignment) v)) ts → Reads names (ReadsTargetElement (with_in c)) (tree.target_with_default a t v) ts
read_simple_default names c a t v (r & (is o & s)) = record { reading = tree.target_with_default (nothing_of 0) r.reading s.reading; reads = grammar.a_target_with_default o refl r.reads.0 r.reads.1 s.reads refl; same = λ i. tree.target_with_default (nothing_of 0) (r.same i) (s.same i) }

pub simple_with_default : {names : Tables} (c : Allowed) (a : Atoms) (t v : Tree) → TargetPrinted names c t → Printed names c v → ElementOf names c (tree.target_with_default a t v)
simple_with_default {names} c a t v f g = read (λ ts r. read_simple_default names c a t v r) (valued c v refl g (simple_stretch c f))

read_pattern_default : (names : Tables) (c : Allowed) (a : Atoms) (t v : Tree) {ts : Tokens} → (Reads names (ReadsPattern (with_in c)) t ⨟ (Is (Sign equal) ⨟ Reads names (ReadsExpression (with_in c) grammar.Assignment) v)) ts → Reads names (ReadsTargetElement (with_in c)) (tree.target_with_default a t v) ts
read_pattern_default names c a t v (r & (is o & s)) = record { reading = tree.target_with_default (nothing_of 0) r.reading s.reading; reads = grammar.a_pattern_with_default o refl r.reads s.reads; same = λ i. tree.target_with_default (nothing_of 0) (r.same i) (s.same i) }

pub pattern_with_default : {names : Tables} {b : Bracket} (c : Allowed) (a : Atoms) (t v : Tree) → PatternOf names c b t → Printed names c v → ElementOf names c (tree.target_with_default a t v)
pattern_with_default {names} c a t v f g = read (λ ts r. read_pattern_default names c a t v r) (valued c v refl g (pattern_stretch c f))

-- ---- elements, in brackets

abbrev RestElement : Allowed → Tokens → Tree → Type 0
RestElement c ts t = ReadsTargetElements (with_in c) ts no_trees (given t)

abbrev pub RestOf : Tables → Allowed → Maybe → Type 0
RestOf names c m = IfGiven names (RestElement c) (in_brackets levels.Comma) m

read_rest : (names : Tables) (c : Allowed) (a : Atoms) (t : Tree) {ts : Tokens} → (Is (Sign ellipsis) ⨟ Reads names (ReadsTarget (with_in c)) t) ts → Reads names (RestElement c) (tree.target_rest a t) ts
read_rest names c a t (is o & r) = record { reading = tree.target_rest (nothing_of 0) r.reading; reads = grammar.a_target_rest r.reads; same = λ i. tree.target_rest (nothing_of 0) (r.same i) }

pub rest_of : {names : Tables} (c : Allowed) (a : Atoms) (t : Tree) → TargetOf names c t → RestOf names c (given (tree.target_rest a t))
rest_of {names} c a t f = past (λ p. refl) (read (λ ts r. read_rest names c a t r) (dots refl ⨾ at_any refl f))

elements_join : (c : Allowed) → Joins (ReadsTargetElement (with_in c)) (RestElement c) (ReadsTargetElements (with_in c))
elements_join c = record { nothing_there = grammar.no_target_element; last = λ ts t r. grammar.last_target_element r; first = λ o a b t us r x y. grammar.first_target_element o refl x y; rest = λ ts t r. r }

abbrev pub ElementsOf : Tables → Allowed → Trees → Type 0
ElementsOf names c es = Each names (ReadsTargetElement (with_in c)) (in_brackets levels.Comma) es

pub good_array_target : {names : Tables} (c : Allowed) (a : Atoms) (es : Trees) (rest : Maybe) → ElementsOf names c es → RestOf names c rest → PatternOf names c Square (tree.array_target a es rest)
good_array_target c a es rest f g place p l z k =
    let p1 : Pen = written (opening Square) other_end p in
    let row = elements (ReadsTargetElement (with_in c)) (RestElement c) (ReadsTargetElements (with_in c)) (elements_join c) (λ o b us r x. grammar.a_target_elision x) (in_brackets levels.Comma) es rest f g in
    let x = (at_token row).from p1 (Open false) z after_group (within_brackets Square p l k) in
    record {
      inside = x.tokens;
      writes = brackets_written Square p (layout (elements_items es rest (in_brackets levels.Comma)) p1) l x.last x.tokens x.writes;
      semicolon = x.semicolon;
      reading = tree.array_target (nothing_of 0) x.holds.reading.0 x.holds.reading.1;
      reads = grammar.an_array_target x.holds.reads;
      same = λ i. tree.array_target (nothing_of 0) (x.holds.same.0 i) (x.holds.same.1 i);
    }

-- ---- properties, in braces

abbrev RestProperty : Allowed → Tokens → Tree → Type 0
RestProperty c ts t = ReadsTargetProperties (with_in c) ts no_trees (given t)

abbrev pub SimpleRestOf : Tables → Allowed → Maybe → Type 0
SimpleRestOf names c m = IfGiven names (RestProperty c) (in_brackets levels.Comma) m

read_simple_rest : (names : Tables) (c : Allowed) (a : Atoms) (t : Tree) {ts : Tokens} → (Is (Sign ellipsis) ⨟ Reads names (ReadsSimple (with_in c)) t) ts → Reads names (RestProperty c) (tree.target_rest a t) ts
read_simple_rest names c a t (is o & r) = record { reading = tree.target_rest (nothing_of 0) r.reading; reads = grammar.a_target_rest_property r.reads.0 r.reads.1; same = λ i. tree.target_rest (nothing_of 0) (r.same i) }

pub simple_rest_of : {names : Tables} (c : Allowed) (a : Atoms) (t : Tree) → TargetPrinted names c t → SimpleRestOf names c (given (tree.target_rest a t))
simple_rest_of {names} c a t f = past (λ p. refl) (read (λ ts r. read_simple_rest names c a t r) (dots refl ⨾ at_any refl (simple_stretch c f)))

properties_join : (c : Allowed) → Joins (ReadsTargetProperty (with_in c)) (RestProperty c) (ReadsTargetProperties (with_in c))
properties_join c = record { nothing_there = grammar.no_target_property; last = λ ts t r. grammar.last_target_property r; first = λ o a b t us r x y. grammar.first_target_property o refl x y; rest = λ ts t r. r }

abbrev pub PropertiesOf : Tables → Allowed → Trees → Type 0
PropertiesOf names c ps = Every names (ReadsTargetProperty (with_in c)) (in_brackets levels.Comma) ps

pub good_object_target : {names : Tables} (c : Allowed) (a : Atoms) (ps : Trees) (rest : Maybe) → PropertiesOf names c ps → SimpleRestOf names c rest → PatternOf names c Brace (tree.object_target a ps rest)
good_object_target c a ps rest f g place p l z k =
    let p1 : Pen = written (opening Brace) other_end p in
    let row = properties (ReadsTargetProperty (with_in c)) (RestProperty c) (ReadsTargetProperties (with_in c)) (properties_join c) (in_brackets levels.Comma) ps rest f g in
    let x = (at_token row).from p1 (Open false) z after_group (within_brackets Brace p l k) in
    record {
      inside = x.tokens;
      writes = brackets_written Brace p (layout (properties_items ps rest (in_brackets levels.Comma)) p1) l x.last x.tokens x.writes;
      semicolon = x.semicolon;
      reading = tree.object_target (nothing_of 0) x.holds.reading.0 x.holds.reading.1;
      reads = grammar.an_object_target x.holds.reads;
      same = λ i. tree.object_target (nothing_of 0) (x.holds.same.0 i) (x.holds.same.1 i);
    }

-- ---- the assignment

-- from the pattern, a blank, the sign, a blank and the value
pattern_parts : {names : Tables} {c : Allowed} {b : Bracket} (a : Atoms) (t u : Tree) {p p1 p2 p3 p4 q : Pen} {l : Last} → assignment_expression_operator a ≡ operators.Assign → ((line : Bool) (ts d : Tokens) → may_begin p.start (group line b ts d) ≡ true) → (g : GoodPattern names (with_in c) b p l p1 t) (x : Soft names p1 (Open false) p2) → Writes names p2 x.last p3 (After (Sign equal)) (piece (line_of x.last) (Sign equal) done) → (n : Soft names p3 (After (Sign equal)) p4) → Good names p4 n.last q c grammar.Assignment u
    → Good names p l q c grammar.Assignment (tree.assignment a t u)
pattern_parts {b = b} a t u {l = l} o starts g x w n h =
    let others : Tokens = piece (line_of x.last) (Sign equal) h.tokens in
    record {
      last = h.last;
      tokens = group (line_of l) b g.inside others;
      writes = wrote_both g.writes (wrote_both x.writes (wrote_both w (wrote_both n.writes h.writes)));
      operand = h.operand;
      semicolon = h.semicolon;
      begins = λ d e. starts (line_of l) g.inside (others ⧺ d);
      line = λ e. ap not e;
      tree = tree.assignment (bare (assignment_operator operators.Assign ∷ [])) g.reading h.tree;
      reads = grammar.an_assignment_to_pattern (line_of x.last) refl g.reads h.reads;
      same = λ i. tree.assignment (bare (assignment_operator (sym o i) ∷ [])) (g.same i) (h.same i);
    }

-- where the pattern stands
abbrev at_target : Tree → Place
at_target t = quoted_plainly (is_key_of_exports t) (in_brackets levels.Comma)

abbrev assigned_items : AssignmentOperator → Atoms → Tree → Tree → Place → Items
assigned_items o a t u place = mark a.span ⊕ (spell t (at_target t) ⊕ (soft_space ⊕ (assignment_item o ⊕ (soft_space ⊕ spell u (child levels.Comma place)))))

assigned_from : {names : Tables} {b : Bracket} (c : Allowed) (a : Atoms) (t u : Tree) (place : Place) (p : Pen) → assignment_expression_operator a ≡ operators.Assign → ((line : Bool) (ts d : Tokens) → may_begin p.start (group line b ts d) ≡ true) → PatternOf names (under place c) b t → Printed names c u → PrintedFrom p names (ReadsExpression (under place c) grammar.Assignment) (assigned_items operators.Assign a t u place) (tree.assignment a t u)
assigned_from c a t u place p o starts f h l z y k =
    let p1 : Pen = layout (spell t (at_target t)) p in
    let p2 : Pen = layout soft_space p1 in
    let p3 : Pen = layout (punctuator equal) p2 in
    let between = assignment_between operators.Assign in
    let g = f (at_target t) p l z k in
    let x = soft_space_written p1 (Open false) g.writes.knows in
    let w = between.writes p2 x.last (x.operand tt) x.writes.knows in
    let n = soft_space_written p3 (After (Sign equal)) w.knows in
    let i = h (child levels.Comma place) (layout soft_space p3) n.last (n.semicolon ∙ (between.semicolon p2 ∙ (x.semicolon ∙ g.semicolon))) (n.ready between.ready) n.writes.knows in
    pattern_parts a t u o starts g x w n i

square_begins : (start : Start) (line : Bool) (ts d : Tokens) → may_begin start (group line Square ts d) ≡ true
square_begins nowhere line ts d = refl
square_begins statement line ts d = refl
square_begins arrow_body line ts d = refl
square_begins default_export line ts d = refl

-- a pattern of elements may begin whatever begins
pub good_array_assignment : {names : Tables} (c : Allowed) (a a1 : Atoms) (es : Trees) (rest : Maybe) (u : Tree) → assignment_expression_operator a ≡ operators.Assign → PatternOf names c Square (tree.array_target a1 es rest) → Printed names c u → Printed names c (tree.assignment a (tree.array_target a1 es rest) u)
good_array_assignment {names} c a a1 es rest u o f h place = subst (λ x. PrintedBy names (under place c) (level_of place) (wrapped (wraps levels.Assign place) (assigned_items x a t u place)) (tree.assignment a t u)) (sym o)
    (good_wrapped c place grammar.Assignment (wraps levels.Assign place) (λ v. assigned_items operators.Assign a t u place) (tree.assignment a t u) (λ d ts v r. grammar.an_assignment r) (λ e ts v r. unwrapped levels.Assign place e r)
    (λ v e p l z y k. good_within c place v (assigned_from c a t u place p o (λ line ts d. square_begins p.start line ts d) f h l z y k)))
  where
    t : Tree
    t = tree.array_target a1 es rest

brace_may_begin : (v : Bool) (start : Start) → (v ≡ false → is_barred a_brace start ≡ false) → (line : Bool) (ts d : Tokens) → may_begin (unless_printed v start) (group line Brace ts d) ≡ true
brace_may_begin true start n line ts d = refl
brace_may_begin false nowhere n line ts d = refl
brace_may_begin false statement n line ts d = absurd (both_ways true (n refl) refl)
brace_may_begin false arrow_body n line ts d = absurd (both_ways true (n refl) refl)
brace_may_begin false default_export n line ts d = refl

-- one of properties stands in parentheses where its brace would begin a block or a body
pub good_object_assignment : {names : Tables} (c : Allowed) (a a1 : Atoms) (ps : Trees) (rest : Maybe) (u : Tree) → assignment_expression_operator a ≡ operators.Assign → PatternOf names c Brace (tree.object_target a1 ps rest) → Printed names c u → Printed names c (tree.assignment a (tree.object_target a1 ps rest) u)
good_object_assignment {names} c a a1 ps rest u o f h place = subst (λ x. PrintedBy names (under place c) (level_of place) (wrapped_at_start (wraps levels.Assign place) a_brace (assigned_items x a t u place)) (tree.assignment a t u)) (sym o) from_any
  where
    t : Tree
    t = tree.object_target a1 ps rest

    from_any : PrintedBy names (under place c) (level_of place) (wrapped_at_start (wraps levels.Assign place) a_brace (assigned_items operators.Assign a t u place)) (tree.assignment a t u)
    from_any p l z y k =
        let barred : Bool = is_barred a_brace p.start in
        wrapped_from c place grammar.Assignment (wraps levels.Assign place || barred) (λ v. assigned_items operators.Assign a t u place) (tree.assignment a t u) p (λ d ts v r. grammar.an_assignment r) (λ e ts v r. unwrapped levels.Assign place (or_parts (wraps levels.Assign place) barred e).0 r)
        (λ v e m x y1 k1. good_within c place v (assigned_from c a t u place (written_if v (opening Round) p) o (λ line ts d. brace_may_begin v p.start (λ i. (or_parts (wraps levels.Assign place) barred (e ∙ i)).1) line ts d) f h m x y1 k1)) l z y k
