-- `if` and `else`.
use Rattle.std.proofs.Common.{◌≡◌, Bool, true, false, cond, codes, refl, sym, ap, ◌∙◌, subst}
use Rattle.std.proofs.lemmas.Bool.{both_ways}
use Rattle.jsgen_syntax.specs.declared.span.Span.{Span}
use Rattle.jsgen_syntax.specs.declared.precedence.Precedence.TheVariants as levels
use Rattle.jsgen_tree.specs.Job.{Tables}
use Rattle.jsgen_tree.specs.Inside.{ends_open}
use Rattle.jsgen_tree.specs.Tree.{Tree, absent, given, Trees, no_trees, more, Atoms, span_of}
use Rattle.jsgen_tree.specs.Nodes as tree
use Rattle.jsgen_model.specs.Punctuator.{semicolon, Round}
use Rattle.jsgen_model.specs.Tokens.{Tokens, done, piece, group, ◌⧺◌, Word}
use Rattle.jsgen_model.specs.Items.{Items, nothing, ◌⊕◌, word, punctuator, brackets, soft_space, soft_line, hard_space, body_space, due_semicolon}
use Rattle.jsgen_model.specs.Layout.{Pen, layout}
use Rattle.jsgen_model.specs.Grammar.{Allowed, ReadsExpression, ReadsStatement, with_in}
use Rattle.jsgen_model.specs.Grammar as grammar
use Rattle.jsgen_model.specs.Normal.{normal, normal_trees, unbraced, nothing_of}
use Rattle.jsgen_model.specs.Renamed.{renamed}
use Rattle.jsgen_place.specs.Place.{among_statements, within_statement, in_brackets}
use Rattle.jsgen_model.specs.Spellings.{Consequent}
use Rattle.jsgen_model.specs.Spell.{spell, filled_braces, shape, braces_end, body_end, consequent_items, body_items, alternate_items, spell_alternate}
use Rattle.jsgen_place.specs.declared.shape.Shape.{Shape}
use Rattle.jsgen_place.specs.declared.shape.Shape.TheVariants as shapes
use Rattle.jsgen_token_laws.proofs.Characters.{letters_spelled}
use Rattle.jsgen_token_laws.proofs.Last.{Last, Open, After, line_of, Knows}
use Rattle.jsgen_token_laws.proofs.Writes.{Writes, wrote_both, then_assoc}
use Rattle.jsgen_token_laws.proofs.Steps.{gap, wrote_word, soft_line_written, hard_space_written, indentation_written, no_gap}
use Rattle.jsgen_row_laws.proofs.Good.{Printed}
use Rattle.jsgen_row_laws.proofs.Ends.{Due, due_ends}
use Rattle.jsgen_row_laws.proofs.Stands.{Stands, StandsAt, BlankAt, ReadsClosed, StatedAt, goes_on, Stated, SameTree, stands_since, behind_tokens, behind_blank, before_blank, indented_line, listed_statement}
use Rattle.jsgen_row_laws.proofs.Rows.{RowAt, statements_join, row_alone}
use Rattle.jsgen_row_laws.proofs.Blocks.{block_of, filled_written}
use Rattle.jsgen_row_laws.proofs.Bodies.{good_semicolon, EmptyAlone, soft_blank, body_blank, good_body}
use Rattle.jsgen_row_laws.proofs.Heads.{GoodHead, head_items, good_head}

-- ---- blanks round a body

hard_blank : {names : Tables} → BlankAt names hard_space
hard_blank p l k = gap (hard_space_written p l k)

braces_end_blank : {names : Tables} (else_follows : Bool) → BlankAt names (braces_end else_follows)
braces_end_blank true = soft_blank
braces_end_blank false = soft_line_written

body_end_blank : {names : Tables} (else_follows : Bool) → BlankAt names (body_end else_follows)
body_end_blank true p l k = gap (indentation_written p l k)
body_end_blank false p l k = no_gap p p l refl refl refl refl k

-- ---- consequents

-- the normal form is that of the tree, but for braces
abbrev SameUnbraced : Tables → Tree → Tree → Type 0
SameUnbraced names t u = unbraced (normal u) ≡ unbraced (normal (renamed names t))

-- read before `else` where it follows
abbrev ConsequentAt : Tables → Allowed → Bool → Tree → Items → Type 0
ConsequentAt names c else_follows t items = StandsAt names (λ e ts u. ReadsStatement c e else_follows ts u) (SameUnbraced names t) items

unbraced_open : (t : Tree) → ends_open t ≡ true → unbraced t ≡ t
unbraced_open (tree.block a (more s no_trees)) h = absurd (both_ways false refl h)
unbraced_open t h = refl

-- a block round a statement that ends open has the statement's normal form
same_unbraced : (t : Tree) (us : Trees) → ends_open (normal t) ≡ true → normal_trees us ≡ more (normal t) no_trees → unbraced (normal (tree.block (nothing_of 0) us)) ≡ unbraced (normal t)
same_unbraced t us o e =
    ap (λ ts. unbraced (tree.block (nothing_of 0) ts)) e ∙ (ap (λ b. cond b (normal t) (tree.block (nothing_of 0) (more (normal t) no_trees))) o ∙ sym (unbraced_open (normal t) o))

added_braces : {names : Tables} (own : Span) (c : Allowed) (t : Tree) (else_follows : Bool) (whole : Items) → ends_open (normal (renamed names t)) ≡ true → RowAt names c whole (more t no_trees) → ConsequentAt names c else_follows t (filled_braces own whole)
added_braces {names} own c t e whole o row p l z y k =
    stands_since (λ last ts u s r. r e (λ h. refl)) (λ u s. s) (block_of false (λ us s. same_unbraced (renamed names t) us o s) (filled_written own whole row p l z k))

braced : (s : Shape) (c : Consequent) → consequent_items s true c ≡ soft_space ⊕ (filled_braces c.span c.whole ⊕ braces_end c.else_follows)
braced shapes.Block c = refl
braced s c = refl

good_consequent : {names : Tables} (c : Allowed) (t : Tree) (else_follows : Bool) → ends_open (normal (renamed names t)) ≡ ends_open t → EmptyAlone names t → Stated names c t → ConsequentAt names c else_follows t (consequent_items (shape t) (ends_open t) (record { span = span_of t; inner = spell t within_statement; whole = spell t among_statements; else_follows = else_follows }))
good_consequent {names} c t e n m f = by (ends_open t) refl
  where
    inner : Items
    inner = spell t within_statement

    whole : Items
    whole = spell t among_statements

    own : Consequent
    own = record { span = span_of t; inner = inner; whole = whole; else_follows = e }

    as_it_is : (items : Items) → ends_open t ≡ false → StatedAt names c t items → ConsequentAt names c e t items
    as_it_is items o g p l z y k = stands_since (λ last ts u s r. r e (λ h. o)) (λ u s. ap unbraced s) (g p l z y k)

    by_shape : (s : Shape) → shape t ≡ s → ends_open t ≡ false → ConsequentAt names c e t (consequent_items s false own)
    by_shape shapes.Block i o = behind_blank soft_space (inner ⊕ braces_end e) soft_blank (before_blank inner (braces_end e) (as_it_is inner o (f.within (ap goes_on i))) (braces_end_blank e))
    by_shape shapes.Empty i o =
        let g = before_blank (punctuator semicolon) soft_line (good_semicolon c (ends_open t) (sym (m i))) soft_line_written in
        before_blank (punctuator semicolon ⊕ soft_line) (body_end e) (as_it_is (punctuator semicolon ⊕ soft_line) o g) (body_end_blank e)
    by_shape s i o = behind_blank body_space (whole ⊕ body_end e) body_blank (before_blank whole (body_end e) (as_it_is whole o (f.among)) (body_end_blank e))

    by : (is_open : Bool) → ends_open t ≡ is_open → ConsequentAt names c e t (consequent_items (shape t) is_open own)
    by false o = by_shape (shape t) refl o
    by true o =
        subst (λ items. ConsequentAt names c e t items) (sym (braced (shape t) own))
        (behind_blank soft_space (filled_braces (span_of t) whole ⊕ braces_end e) soft_blank (before_blank (filled_braces (span_of t) whole) (braces_end e) (added_braces (span_of t) c t e whole (n ∙ o) (row_alone (statements_join c) t whole (listed_statement t f))) (braces_end_blank e)))

-- ---- alternates

good_alternate : {names : Tables} (c : Allowed) (t : Tree) → EmptyAlone names t → Stated names c t → StatedAt names c t (alternate_items (shape t) (spell t within_statement) (spell t among_statements))
good_alternate {names} c t m f = by_shape (shape t) refl
  where
    inner : Items
    inner = spell t within_statement

    whole : Items
    whole = spell t among_statements

    by_shape : (s : Shape) → shape t ≡ s → StatedAt names c t (alternate_items s inner whole)
    by_shape shapes.If i = behind_blank hard_space inner hard_blank (f.within (ap goes_on i))
    by_shape s i = subst (λ x. StatedAt names c t (body_items x inner whole)) i (good_body c t m f)

-- ---- `if`

if_reads : {c : Allowed} {last mark next : Bool} {test ts : Tokens} {t s : Tree} → ReadsExpression (with_in c) grammar.Expression test t → ReadsStatement c last false ts s → ReadsClosed c true last (piece mark (Word (codes "if")) (group next Round test ts)) (tree.if_statement (nothing_of 0) t s absent)
if_reads r s false n = grammar.an_if r s
if_reads r s true n = absurd (both_ways true (n refl) refl)

-- the test and the consequent, in front of what the alternate gives
abbrev if_items : Tree → Tree → Bool → Items → Items
if_items t s else_follows others = word (codes "if") ⊕ (soft_space ⊕ (brackets Round (spell t (in_brackets levels.Lowest)) ⊕ (consequent_items (shape s) (ends_open s) (record { span = span_of s; inner = spell s within_statement; whole = spell s among_statements; else_follows = else_follows }) ⊕ others)))

if_head : {names : Tables} (c : Allowed) (t : Tree) → Printed names c t → (p : Pen) (l : Last) → p.pending_semicolon ≡ false → Knows names p l → GoodHead names (codes "if") p l (layout (head_items (codes "if") t) p) c t
if_head = good_head (codes "if") (letters_spelled 105 (codes "f") refl)

pub good_if : {names : Tables} (c : Allowed) (a : Atoms) (t s : Tree) → Printed names c t → ends_open (normal (renamed names s)) ≡ ends_open s → EmptyAlone names s → Stated names c s → Stated names c (tree.if_statement a t s absent)
good_if {names} c a t s f n o g = record { among = indented_line (if_items t s false nothing) inside; within = λ h. inside }
  where
    inside : StatedAt names c (tree.if_statement a t s absent) (if_items t s false nothing)
    inside p l z y k =
        let h = if_head c t f p l z k in
        behind_tokens (piece (line_of l) (Word (codes "if")) (group h.next Round h.tokens done)) (λ u. tree.if_statement (nothing_of 0) h.reading u absent) h.writes (λ e ts u r. if_reads h.reads r) (λ u m i. tree.if_statement (nothing_of 0) (h.same i) (m i) absent)
        (good_consequent c s false n o g (layout (head_items (codes "if") t) p) (Open false) h.semicolon tt h.writes.knows)

-- ---- `else`

-- the head, the consequent with its end, and `else`
else_parts : {names : Tables} {p p1 p2 p3 p4 q : Pen} {l : Last} (c : Allowed) (a : Atoms) (t s u : Tree) → (h : GoodHead names (codes "if") p l p1 c t) (b : Stands names (λ e ts v. ReadsStatement c e true ts v) (SameUnbraced names s) p1 (Open false) p2) (d : Due names p2 b.last p3) → Writes names p3 d.last p4 (After (Word (codes "else"))) (piece (line_of d.last) (Word (codes "else")) done) → Stands names (ReadsClosed c (ends_open u)) (SameTree names u) p4 (After (Word (codes "else"))) q
    → Stands names (ReadsClosed c (ends_open u)) (SameTree names (tree.if_statement a t s (given u))) p l q
else_parts {l = l} c a t s u h b d o r =
    behind_tokens (piece (line_of l) (Word (codes "if")) (group h.next Round h.tokens ((b.tokens ⧺ d.tokens) ⧺ piece (line_of d.last) (Word (codes "else")) done))) (λ v. tree.if_statement (nothing_of 0) h.reading b.reading (given v)) (wrote_both h.writes (wrote_both (wrote_both b.writes d.writes) o))
    (λ e ts v x before_else n. grammar.an_if_with_else (line_of d.last) (then_assoc (b.tokens ⧺ d.tokens) (piece (line_of d.last) (Word (codes "else")) done) ts) h.reads (b.reads.read false (b.tokens ⧺ d.tokens) (d.ends b.tokens)) (x before_else n)) (λ v m i. tree.if_statement (nothing_of 0) (h.same i) (b.same i) (given (m i))) r

pub good_if_with_else : {names : Tables} (c : Allowed) (a : Atoms) (t s u : Tree) → Printed names c t → ends_open (normal (renamed names s)) ≡ ends_open s → EmptyAlone names s → Stated names c s → EmptyAlone names u → Stated names c u → Stated names c (tree.if_statement a t s (given u))
good_if_with_else {names} c a t s u f n m g w v = record { among = indented_line items inside; within = λ h. inside }
  where
    items : Items
    items = if_items t s true (spell_alternate (given u))

    inside : StatedAt names c (tree.if_statement a t s (given u)) items
    inside p l z y k =
        let p1 : Pen = layout (if_items t s true nothing) p in
        let p2 : Pen = layout due_semicolon p1 in
        let h = if_head c t f p l z k in
        let b = good_consequent c s true n m g (layout (head_items (codes "if") t) p) (Open false) h.semicolon tt h.writes.knows in
        let d = due_ends p1 b.last b.ready b.writes.knows in
        let o = wrote_word (codes "else") p2 d.last (letters_spelled 101 (codes "lse") refl) d.writes.knows in
        else_parts c a t s u h b d o (good_alternate c u w v (layout (word (codes "else")) p2) (After (Word (codes "else"))) d.semicolon tt o.knows)
