-- `switch` and its cases.
use Rattle.std.proofs.Common.{◌≡◌, ℕ, Bool, true, false, codes, refl, sym, ap, ◌∙◌, subst}
use Rattle.jsgen_syntax.specs.declared.precedence.Precedence.TheVariants as levels
use Rattle.jsgen_syntax.specs.declared.span.Span.{Span}
use Rattle.jsgen_tree.specs.Job.{Tables}
use Rattle.jsgen_tree.specs.Tree.{Tree, absent, given, Trees, no_trees, more, Atoms, span_of}
use Rattle.jsgen_tree.specs.Nodes as tree
use Rattle.jsgen_model.specs.Punctuator.{colon, Round, Brace}
use Rattle.jsgen_model.specs.Tokens.{Tokens, done, piece, group, ◌⧺◌, Word, Sign}
use Rattle.jsgen_model.specs.Items.{Items, ◌⊕◌, word, punctuator, soft_space, soft_line, body_space, deeper, orphans}
use Rattle.jsgen_model.specs.Layout.{Pen, layout, led, deeper_level}
use Rattle.jsgen_model.specs.Grammar.{Allowed, ReadsItem, ReadsCase, ReadsCases, ReadsStatements, with_in}
use Rattle.jsgen_model.specs.Grammar as grammar
use Rattle.jsgen_model.specs.Normal.{nothing_of}
use Rattle.jsgen_place.specs.declared.place.Place.{Place}
use Rattle.jsgen_place.specs.Place.{among_statements, within_statement, in_brackets}
use Rattle.jsgen_model.specs.Spell.{spell, spell_only, spell_statements, spell_cases, braces, case_items, shape, body_items, lead_to, led_items}
use Rattle.jsgen_place.specs.declared.shape.Shape.{Shape}
use Rattle.jsgen_place.specs.declared.shape.Shape.TheVariants as shapes
use Rattle.jsgen_token_laws.proofs.Characters.{letters_spelled}
use Rattle.jsgen_token_laws.proofs.Last.{Last, Open, After, line_of}
use Rattle.jsgen_token_laws.proofs.Writes.{Writes, wrote_both, same_writes, then_assoc}
use Rattle.jsgen_token_laws.proofs.Steps.{wrote_word, wrote_punctuator, soft_space_written, soft_line_written}
use Rattle.jsgen_row_laws.proofs.Good.{Good, Printed}
use Rattle.jsgen_row_laws.proofs.Ends.{ends_itself}
use Rattle.jsgen_row_laws.proofs.Stands.{Stands, StandsAt, StatedAt, Stated, stated_among, Listed, SameTree, SameTrees, behind_tokens, behind_blank, before_blank, indented_line, item_since}
use Rattle.jsgen_row_laws.proofs.Rows.{JoinsRow, GivesRest, RowAt, statements_join, rest_none, rest_more, row_none, row_more, row_alone}
use Rattle.jsgen_row_laws.proofs.Blocks.{at_depth, braces_written}
use Rattle.jsgen_row_laws.proofs.Bodies.{EmptyAlone, body_blank, good_body}
use Rattle.jsgen_row_laws.proofs.Heads.{head_items, good_head}

-- ---- what stands behind the colon of a case

-- one level deeper
deeper_stands : {names : Tables} {X : Type 0} {R : Bool → Tokens → X → Type 0} {Same : X → Type 0} (items : Items) → StandsAt names R Same items → StandsAt names R Same (deeper items)
deeper_stands items f p l z y k =
    let p1 : Pen = record p { depth = deeper_level p.style.minified p.depth } in
    let q : Pen = layout items p1 in
    let g = f p1 l z y (at_depth p1.depth k) in
    record { last = g.last; tokens = g.tokens; writes = same_writes p (record q { depth = p.depth }) refl refl (at_depth p.depth g.writes.knows) g.writes; ready = g.ready; reading = g.reading; reads = g.reads; same = g.same }

abbrev pub ConsequentOf : Tables → Allowed → Trees → Type 0
ConsequentOf names c ss = (end : ℕ) → RowAt names c (case_items ss (spell_only end ss) (spell_statements ss ⊕ orphans end)) ss

-- on lines of their own
on_lines : {names : Tables} (c : Allowed) (ss : Trees) → RowAt names c (spell_statements ss) ss → RowAt names c (soft_line ⊕ deeper (spell_statements ss)) ss
on_lines c ss row = behind_blank soft_line (deeper (spell_statements ss)) soft_line_written (deeper_stands (spell_statements ss) row)

pub no_consequent : {names : Tables} (c : Allowed) → ConsequentOf names c no_trees
no_consequent c end = on_lines c no_trees (row_none (λ last. grammar.no_statement))

-- the one statement or declaration there, as a body
abbrev pub OnlyOf : Tables → Allowed → Tree → Type 0
OnlyOf names c t = (end : ℕ) → StandsAt names (ReadsItem c) (SameTree names t) (spell_only end (more t no_trees))

-- it is laid out as a body is
led_body : (s : Shape) (own : Span) (inner whole : Items) (p : Pen) → layout (body_items s inner whole) p ≡ layout (led_items s inner whole) (led (lead_to s own) p)
led_body shapes.Block own inner whole p = refl
led_body shapes.If own inner whole p = refl
led_body shapes.Empty own inner whole p = refl
led_body shapes.Other own inner whole p = refl

only_body : {names : Tables} (c : Allowed) (t : Tree) → StandsAt names (ReadsItem c) (SameTree names t) (body_items (shape t) (spell t within_statement) (spell t among_statements)) → OnlyOf names c t
only_body {names} c t f end p l z y k = subst (λ q. Stands names (ReadsItem c) (SameTree names t) p l q) (led_body (shape t) (span_of t) (spell t within_statement) (spell t among_statements) p) (f p l z y k)

pub only_statement : {names : Tables} (c : Allowed) (t : Tree) → EmptyAlone names t → Stated names c t → OnlyOf names c t
only_statement c t m f = only_body c t (λ p l z y k. item_since (good_body c t m f p l z y k))

pub only_declaration : {names : Tables} (c : Allowed) (t : Tree) → shape t ≡ shapes.Other → Listed names c t → OnlyOf names c t
only_declaration {names} c t h f = only_body c t (subst (λ s. StandsAt names (ReadsItem c) (SameTree names t) (body_items s (spell t within_statement) (spell t among_statements))) (sym h) (behind_blank body_space (spell t among_statements) body_blank f))

pub some_consequents : {names : Tables} (c : Allowed) (t : Tree) (ss : Trees) → OnlyOf names c t → (RowAt names c (spell_statements (more t ss)) (more t ss)) → ConsequentOf names c (more t ss)
some_consequents c t no_trees f row = λ end. row_alone (statements_join c) t (spell_only end (more t no_trees)) (f end)
some_consequents c t ss f row = λ end. on_lines c (more t ss) row

-- ---- cases

-- a case, where one without a test may come before it and behind it
abbrev ReadsAs : Allowed → Bool → Bool → Bool → Tokens → Tree → Type 0
ReadsAs c default rest last ts t = ReadsCase c last default rest ts t

abbrev pub CaseOf : Tables → Allowed → Bool → Bool → Tree → Type 0
CaseOf names c default rest t = StandsAt names (ReadsAs c default rest) (SameTree names t) (spell t among_statements)

case_parts : {names : Tables} (c : Allowed) (default : Bool) (a : Atoms) (t : Tree) (ss : Trees) (p p1 p2 p3 p4 q : Pen) (l m : Last) → Writes names p l p2 m (piece (line_of l) (Word (codes "case")) done) → (g : Good names p2 m p3 (with_in c) grammar.Expression t) → Writes names p3 g.last p4 (After (Sign colon)) (piece (line_of g.last) (Sign colon) done) → Stands names (ReadsStatements c) (SameTrees names ss) p4 (After (Sign colon)) q → Stands names (ReadsAs c default default) (SameTree names (tree.switch_case a (given t) ss)) p l q
case_parts c default a t ss p p1 p2 p3 p4 q l m w g o b =
    behind_tokens (piece (line_of l) (Word (codes "case")) (g.tokens ⧺ piece (line_of g.last) (Sign colon) done)) (λ us. tree.switch_case (nothing_of 0) (given g.tree) us) (wrote_both w (wrote_both g.writes o))
    (λ e ts us r. grammar.a_case (line_of g.last) (then_assoc g.tokens (piece (line_of g.last) (Sign colon) done) ts) g.reads r) (λ us s i. tree.switch_case (nothing_of 0) (given (g.same i)) (s i)) b

abbrev case_line : ℕ → Tree → Trees → Items
case_line end t ss = word (codes "case") ⊕ (soft_space ⊕ (spell t (in_brackets levels.Lowest) ⊕ (punctuator colon ⊕ case_items ss (spell_only end ss) (spell_statements ss ⊕ orphans end))))

case_read : {names : Tables} (c : Allowed) (default : Bool) (a : Atoms) (t : Tree) (ss : Trees) → Printed names c t → ConsequentOf names c ss → StandsAt names (ReadsAs c default default) (SameTree names (tree.switch_case a (given t) ss)) (case_line a.span.end t ss)
case_read c default a t ss f consequent p l z y k =
    let at : Place = in_brackets levels.Lowest in
    let p1 : Pen = layout (word (codes "case")) p in
    let p2 : Pen = layout soft_space p1 in
    let p3 : Pen = layout (spell t at) p2 in
    let p4 : Pen = layout (punctuator colon) p3 in
    let o = wrote_word (codes "case") p l (letters_spelled 99 (codes "ase") refl) k in
    let s = soft_space_written p1 (After (Word (codes "case"))) o.knows in
    let g = f at p2 s.last (s.semicolon ∙ z) (s.ready tt) s.writes.knows in
    let w = wrote_punctuator colon p3 g.last tt tt g.operand g.writes.knows in
    let b = consequent a.span.end p4 (After (Sign colon)) g.semicolon tt w.knows in
    case_parts c default a t ss p p1 p2 p3 p4 (layout (case_items ss (spell_only a.span.end ss) (spell_statements ss ⊕ orphans a.span.end)) p4) l s.last (wrote_both o s.writes) g w b

pub good_case : {names : Tables} (c : Allowed) (default : Bool) (a : Atoms) (t : Tree) (ss : Trees) → Printed names c t → ConsequentOf names c ss → CaseOf names c default default (tree.switch_case a (given t) ss)
good_case c default a t ss f consequent = indented_line (case_line a.span.end t ss) (case_read c default a t ss f consequent)

abbrev default_line : ℕ → Trees → Items
default_line end ss = word (codes "default") ⊕ (punctuator colon ⊕ case_items ss (spell_only end ss) (spell_statements ss ⊕ orphans end))

default_read : {names : Tables} (c : Allowed) (a : Atoms) (ss : Trees) → ConsequentOf names c ss → StandsAt names (ReadsAs c true false) (SameTree names (tree.switch_case a absent ss)) (default_line a.span.end ss)
default_read c a ss consequent p l z y k =
    let p1 : Pen = layout (word (codes "default")) p in
    let p2 : Pen = layout (punctuator colon) p1 in
    let o = wrote_word (codes "default") p l (letters_spelled 100 (codes "efault") refl) k in
    let w = wrote_punctuator colon p1 (After (Word (codes "default"))) tt tt tt o.knows in
    behind_tokens (piece (line_of l) (Word (codes "default")) (piece false (Sign colon) done)) (λ us. tree.switch_case (nothing_of 0) absent us) (wrote_both o w) (λ e ts us r. grammar.a_default r) (λ us s. ap (λ vs. tree.switch_case (nothing_of 0) absent vs) s) (consequent a.span.end p2 (After (Sign colon)) z tt w.knows)

pub good_default : {names : Tables} (c : Allowed) (a : Atoms) (ss : Trees) → ConsequentOf names c ss → CaseOf names c true false (tree.switch_case a absent ss)
good_default c a ss consequent = indented_line (default_line a.span.end ss) (default_read c a ss consequent)

-- ---- rows of cases

-- the last of their brace group
abbrev ReadsAll : Allowed → Bool → Bool → Tokens → Trees → Type 0
ReadsAll c default last ts us = last ≡ true → ReadsCases c default ts us

cases_join : (c : Allowed) (default rest : Bool) → JoinsRow (ReadsAs c default rest) (ReadsAll c rest) (ReadsAll c default)
cases_join c default rest = record {
  one = λ last ts t r h. grammar.last_case (subst (λ e. ReadsCase c e default rest ts t) h r);
  first = λ last a b t us r s h. grammar.first_case refl r (s h);
}

-- where one without a test may come, as a whole row, and as the rest of one, before which one might come or not
abbrev pub CasesOf : Tables → Allowed → Bool → Trees → Type 0
CasesOf names c default ts = StandsAt names (ReadsAll c default) (SameTrees names ts) (spell_cases ts) × ((before : Bool) → GivesRest names (ReadsAs c before default) (ReadsAll c before) (spell_cases ts) ts)

pub no_cases : {names : Tables} (c : Allowed) (default : Bool) → CasesOf names c default no_trees
no_cases c default = (row_none (λ last h. grammar.no_case), λ before. rest_none (cases_join c before default))

pub more_cases : {names : Tables} (c : Allowed) (default rest : Bool) (t : Tree) (ts : Trees) → CaseOf names c default rest t → CasesOf names c rest ts → CasesOf names c default (more t ts)
more_cases c default rest t ts f h =
    let others = h.1 default in (
      row_more t ts (spell t among_statements) (spell_cases ts) f others,
      λ before. rest_more (cases_join c before default) t ts (spell t among_statements) (spell_cases ts) f others,
    )

-- ---- the whole

switch_read : {names : Tables} (c : Allowed) (a : Atoms) (e : Tree) (cases : Trees) → Printed names c e → CasesOf names c true cases → StatedAt names c (tree.switch_statement a e cases) (head_items (codes "switch") e ⊕ (soft_space ⊕ braces a.span cases (spell_cases cases)))
switch_read c a e cases f rows p l z y k =
    let p1 : Pen = layout (head_items (codes "switch") e) p in
    let h = good_head (codes "switch") (letters_spelled 115 (codes "witch") refl) c e f p l z k in
    let s = soft_space_written p1 (Open false) h.writes.knows in
    let g = braces_written (λ x. grammar.no_case) a.span cases (spell_cases cases) rows.0 (layout soft_space p1) s.last (s.semicolon ∙ h.semicolon) s.writes.knows in
    record {
      last = Open false;
      tokens = piece (line_of l) (Word (codes "switch")) (group h.next Round h.tokens (group (line_of s.last) Brace g.tokens done));
      writes = wrote_both h.writes (wrote_both s.writes g.writes);
      ready = tt;
      reading = tree.switch_statement (nothing_of 0) h.reading g.reading;
      reads = ends_itself g.semicolon (λ last before_else n. grammar.a_switch h.reads (g.reads refl));
      same = λ i. tree.switch_statement (nothing_of 0) (h.same i) (g.same i);
    }

pub good_switch : {names : Tables} (c : Allowed) (a : Atoms) (e : Tree) (cases : Trees) → Printed names c e → CasesOf names c true cases → Stated names c (tree.switch_statement a e cases)
good_switch {names} c a e cases f rows = stated_among refl by
  where
    by : StatedAt names c (tree.switch_statement a e cases) (spell (tree.switch_statement a e cases) among_statements)
    by =
        let items : Items = head_items (codes "switch") e ⊕ (soft_space ⊕ braces a.span cases (spell_cases cases)) in
        indented_line (items ⊕ soft_line) (before_blank items soft_line (switch_read c a e cases f rows) soft_line_written)
