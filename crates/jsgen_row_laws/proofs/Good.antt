-- What is carried through the induction for expressions.
use Rattle.std.proofs.Common.{◌≡◌, Bool, true, false, not, Some, None, codes, refl, sym, ap, ◌∙◌, subst}
use Rattle.std.proofs.lemmas.Bool.{both_ways}
use Rattle.jsgen_tree.specs.Job.{Tables}
use Rattle.jsgen_tree.specs.Inside.{looked_up_in}
use Rattle.jsgen_tree.specs.Tree.{Tree}
use Rattle.jsgen_tree.specs.Nodes as tree
use Rattle.jsgen_place.specs.declared.place.Place.{Place}
use Rattle.jsgen_place.specs.Place.{within}
use Rattle.jsgen_model.specs.Punctuator.{plus_plus, minus_minus, Round, Brace, opening, closing}
use Rattle.jsgen_model.specs.Tokens.{Tokens, done, piece, group, ◌⧺◌, Piece, Word, Number, Quoted, Sign, Beyond}
use Rattle.jsgen_model.specs.Items.{Items, ◌⊕◌, soft_space, wrapped}
use Rattle.jsgen_model.specs.Layout.{Pen, Start, nowhere, statement, arrow_body, default_export, layout, written_if}
use Rattle.jsgen_model.specs.Grammar.{Allowed, Level, ReadsExpression, with_in, is_word, on_same_line, starts_statement, starts_declaration, simple_target}
use Rattle.jsgen_model.specs.Grammar as grammar
use Rattle.jsgen_model.specs.Normal.{normal, nothing_of}
use Rattle.jsgen_model.specs.Renamed.{renamed}
use Rattle.jsgen_model.specs.Spell.{spell}
use Rattle.jsgen_token_laws.proofs.Last.{Last, Open, After, line_of, Operand, Ready, Knows}
use Rattle.jsgen_token_laws.proofs.Writes.{Writes, wrote_both, wrote_and_none, then_assoc}
use Rattle.jsgen_token_laws.proofs.Steps.{Soft, soft_space_written, opened, unopened, parentheses_written}
use Rattle.jsgen_row_laws.proofs.Levels.{level_of, under, from_primary}
use Rattle.jsgen_row_laws.proofs.Freed.{freed}

abbrev pub no_brace : Tokens → Bool
no_brace (group mark Brace inside ts) = false
no_brace ts = true

abbrev pub no_declaration : Tokens → Bool
no_declaration (piece mark (Word w) ts) = not (starts_declaration w ts)
no_declaration ts = true

-- the tokens may begin what begins here
abbrev pub may_begin : Start → Tokens → Bool
may_begin nowhere ts = true
may_begin statement ts = starts_statement ts
may_begin arrow_body ts = no_brace ts
may_begin default_export ts = no_declaration ts

-- what may begin a statement may begin whatever begins
pub begins_all : (start : Start) (ts : Tokens) → starts_statement ts ≡ true → may_begin start ts ≡ true
begins_all nowhere ts h = refl
begins_all statement ts h = h
begins_all arrow_body (group mark Brace inside ts) h = absurd (both_ways false refl h)
begins_all arrow_body ts h = refl
begins_all default_export (piece mark (Word w) ts) h = h
begins_all default_export ts h = refl

-- Between two pens stands an expression that is read so, as a tree of the normal form that it has with its names as they are printed. No semicolon was due before, and none is after.
-- What begins at the first pen it may begin, whatever follows but the word `function`.
pub record GoodAs (names : Tables) (Reads : Tokens → Tree → Type 0) (p : Pen) (l : Last) (q : Pen) (t : Tree) : Type 0 where
  pub last : Last
  pub tokens : Tokens
  pub writes : Writes names p l q last tokens
  pub operand : Operand last
  pub semicolon : q.pending_semicolon ≡ false
  pub begins : (b : Tokens) → is_word (codes "function") b ≡ false → may_begin p.start (tokens ⧺ b) ≡ true
  pub line : line_of l ≡ false → on_same_line tokens ≡ true
  pub tree : Tree
  pub reads : Reads tokens tree
  pub same : normal tree ≡ normal (renamed names t)

-- one that is read at the level
abbrev pub Good : Tables → Pen → Last → Pen → Allowed → Level → Tree → Type 0
Good names p l q c level t = GoodAs names (ReadsExpression c level) p l q t

-- the items print it from this pen
abbrev pub PrintedFrom : Pen → Tables → (Tokens → Tree → Type 0) → Items → Tree → Type 0
PrintedFrom p names Reads items t = (l : Last) → p.pending_semicolon ≡ false → Ready l → Knows names p l → GoodAs names Reads p l (layout items p) t

-- from any pen
abbrev pub PrintedAs : Tables → (Tokens → Tree → Type 0) → Items → Tree → Type 0
PrintedAs names Reads items t = (p : Pen) → PrintedFrom p names Reads items t

-- from any pen, as one that is read at the level
abbrev pub PrintedBy : Tables → Allowed → Level → Items → Tree → Type 0
PrintedBy names c level items t = PrintedAs names (ReadsExpression c level) items t

-- at any place from any pen
abbrev pub Printed : Tables → Allowed → Tree → Type 0
Printed names c t = (place : Place) → PrintedBy names (under place c) (level_of place) (spell t place) t

-- the tokens are one word
abbrev pub is_word_alone : Tokens → Bool
is_word_alone (piece mark (Word w) done) = true
is_word_alone ts = false

-- Between two pens stands a simple target, which no line end follows; it is a left-hand side at any level, and one word only where it is a name.
abbrev pub TargetAt : Tables → Pen → Last → Pen → Allowed → Place → Tree → Type 0
TargetAt names p l q c place t = (g : Good names p l q (under place c) (level_of place) t) × (simple_target g.tree ≡ Some g.tree) × (line_of g.last ≡ false) × ReadsExpression (under place c) grammar.LeftHandSide g.tokens g.tree × (looked_up_in t ≡ None → is_word_alone g.tokens ≡ false)

abbrev pub TargetPrinted : Tables → Allowed → Tree → Type 0
TargetPrinted names c t = (place : Place) (p : Pen) (l : Last) → p.pending_semicolon ≡ false → Ready l → Knows names p l → TargetAt names p l (layout (spell t place) p) c place t

pub operand_ready : (l : Last) → Operand l → Ready l
operand_ready (Open line) o = tt
operand_ready (After (Word w)) o = tt
operand_ready (After (Number w)) o = tt
operand_ready (After (Quoted q w)) o = tt
operand_ready (After (Beyond s)) o = tt
operand_ready (After (Sign plus_plus)) o = tt
operand_ready (After (Sign minus_minus)) o = tt
operand_ready (After (Sign s)) o = absurd o

-- a row that begins on the same line does so whatever follows
pub line_then : (a b : Tokens) → on_same_line a ≡ true → on_same_line (a ⧺ b) ≡ true
line_then done b h = absurd (both_ways false refl h)
line_then (piece m p ts) b h = h
line_then (group m k gs ts) b h = h

-- what begins so does so whatever else follows
pub begins_then : (start : Start) (a rest d : Tokens) → ((b : Tokens) → is_word (codes "function") b ≡ false → may_begin start (a ⧺ b) ≡ true) → is_word (codes "function") (rest ⧺ d) ≡ false → may_begin start ((a ⧺ rest) ⧺ d) ≡ true
begins_then start a rest d h n = subst (λ ts. may_begin start ts ≡ true) (sym (then_assoc a rest d)) (h (rest ⧺ d) n)

-- the same text, read otherwise, for which the normal form may be needed
pub good_since : {names : Tables} {Reads Other : Tokens → Tree → Type 0} {p q : Pen} {l : Last} {t : Tree} → ((ts : Tokens) (u : Tree) → normal u ≡ normal (renamed names t) → Reads ts u → Other ts u) → GoodAs names Reads p l q t → GoodAs names Other p l q t
good_since lift g = record { last = g.last; tokens = g.tokens; writes = g.writes; operand = g.operand; semicolon = g.semicolon; begins = g.begins; line = g.line; tree = g.tree; reads = lift g.tokens g.tree g.same g.reads; same = g.same }

pub good_at : {names : Tables} {Reads Other : Tokens → Tree → Type 0} {p q : Pen} {l : Last} {t : Tree} → ((ts : Tokens) (u : Tree) → Reads ts u → Other ts u) → GoodAs names Reads p l q t → GoodAs names Other p l q t
good_at lift g = good_since (λ ts u e r. lift ts u r) g

-- nothing round an expression
abbrev pub unwritten_round : {names : Tables} {Reads : Tokens → Tree → Type 0} {p q : Pen} {l : Last} {t : Tree} → let p1 : Pen = written_if false (opening Round) p in (a : Soft names p l p1) → (g : GoodAs names Reads p1 a.last q t) → Soft names q g.last (written_if false (closing Round) q) → GoodAs names Reads p l (written_if false (closing Round) q) t
unwritten_round a g b = record {
  last = b.last;
  tokens = g.tokens;
  writes = wrote_and_none (wrote_both a.writes g.writes) b.writes;
  operand = b.operand g.operand;
  semicolon = b.semicolon ∙ g.semicolon;
  begins = g.begins;
  line = λ e. g.line (a.line e);
  tree = g.tree;
  reads = g.reads;
  same = g.same;
}

-- ---- parentheses

-- in parentheses an expression is read at every level
pub good_parentheses : {names : Tables} {t : Tree} (c : Allowed) (place : Place) (p q : Pen) (l : Last) → Good names (written_if true (opening Round) p) (Open false) q (with_in (under place c)) grammar.Expression t → Good names p l (written_if true (closing Round) q) (under place c) (level_of place) t
good_parentheses c place p q l g = record {
  last = Open false;
  tokens = group (line_of l) Round g.tokens done;
  writes = parentheses_written p q l g.last g.tokens g.writes;
  operand = tt;
  semicolon = g.semicolon;
  begins = λ b h. begins_all p.start (group (line_of l) Round g.tokens b) refl;
  line = λ e. ap not e;
  tree = tree.parenthesized (nothing_of 0) g.tree;
  reads = from_primary place (grammar.in_parentheses g.reads);
  same = g.same;
}

-- what is printed in parentheses that aren't written
pub unwrapped_from : {names : Tables} {Reads : Tokens → Tree → Type 0} {t : Tree} (items : Items) (p : Pen) → PrintedFrom (written_if false (opening Round) p) names Reads items t → PrintedFrom p names Reads (wrapped false items) t
unwrapped_from items p f l z y k =
    let a = unopened p l (opening Round) k in
    let g = f a.last (a.semicolon ∙ z) (a.ready y) a.writes.knows in
    unwritten_round a g (unopened (layout items (written_if false (opening Round) p)) g.last (closing Round) g.writes.knows)

-- An operation in parentheses where it has to be, from one pen. In them nothing is forbidden.
pub wrapped_from : {names : Tables} (c : Allowed) (place : Place) (own : Level) (w : Bool) (items : Bool → Items) (t : Tree) (p : Pen) → ((d : Allowed) (ts : Tokens) (u : Tree) → ReadsExpression d own ts u → ReadsExpression d grammar.Expression ts u) → (w ≡ false → (ts : Tokens) (u : Tree) → ReadsExpression (under place c) own ts u → ReadsExpression (under place c) (level_of place) ts u)
    → ((v : Bool) → w ≡ v → PrintedFrom (written_if v (opening Round) p) names (ReadsExpression (under (within v place) c) own) (items v) t) → PrintedFrom p names (ReadsExpression (under place c) (level_of place)) (wrapped w (items w)) t
wrapped_from {names} c place own w items t p top lift inner l z y k = go w refl
  where
    go : (v : Bool) → w ≡ v → Good names p l (layout (wrapped v (items v)) p) (under place c) (level_of place) t
    go true e = good_parentheses c place p (layout (items true) (written_if true (opening Round) p)) l (good_at (top (with_in (under place c))) (inner true e (Open false) z tt (opened p l k)))
    go false e = unwrapped_from (items false) p (λ m z y k. good_at (lift e) (inner false e m z y k)) l z y k

-- from any pen
pub good_wrapped : {names : Tables} (c : Allowed) (place : Place) (own : Level) (w : Bool) (items : Bool → Items) (t : Tree) → ((d : Allowed) (ts : Tokens) (u : Tree) → ReadsExpression d own ts u → ReadsExpression d grammar.Expression ts u) → (w ≡ false → (ts : Tokens) (u : Tree) → ReadsExpression (under place c) own ts u → ReadsExpression (under place c) (level_of place) ts u)
    → ((v : Bool) → w ≡ v → PrintedBy names (under (within v place) c) own (items v) t) → PrintedBy names (under place c) (level_of place) (wrapped w (items w)) t
good_wrapped c place own w items t top lift inner p = wrapped_from c place own w items t p top lift (λ v e. inner v e (written_if v (opening Round) p))

-- what is read where `in` may not stand is read where it may, as within parentheses
pub good_within : {names : Tables} {p q : Pen} {l : Last} {t : Tree} {level : Level} (c : Allowed) (place : Place) (v : Bool) → Good names p l q (under place c) level t → Good names p l q (under (within v place) c) level t
good_within c place true g = good_at (λ ts u r. freed r) g
good_within c place false g = g

-- ---- operators

-- the item writes this one token behind an operand, and an operand may follow
pub record Between (names : Tables) (item : Items) (x : Piece) : Type 0 where
  pub writes : (p : Pen) (l : Last) → Operand l → Knows names p l → Writes names p l (layout item p) (After x) (piece (line_of l) x done)
  pub semicolon : (p : Pen) → (layout item p).pending_semicolon ≡ p.pending_semicolon
  pub ready : Ready (After x)
  pub no_function : (line : Bool) (ts : Tokens) → is_word (codes "function") (piece line x ts) ≡ false

-- what has to be built from two operands and a token between
abbrev pub Joins : Tables → Piece → Allowed → Level → Level → Level → Tree → Tree → Tree → Type 0
Joins names x c gl gr g lt rt t = (a b : Tokens) (line : Bool) (u v : Tree) → ReadsExpression c gl a u → ReadsExpression c gr b v → normal u ≡ normal (renamed names lt) → normal v ≡ normal (renamed names rt) → (w : Tree) × ReadsExpression c g (a ⧺ piece line x b) w × (normal w ≡ normal (renamed names t))

-- from the left operand, a blank, the token, a blank and the right operand
infix_parts : {names : Tables} {item : Items} {x : Piece} {lt rt t : Tree} {c : Allowed} {gl gr g : Level} {p p1 p2 p3 p4 q : Pen} {l : Last} → Between names item x → Joins names x c gl gr g lt rt t → (a : Good names p l p1 c gl lt) (s : Soft names p1 a.last p2) → Writes names p2 s.last p3 (After x) (piece (line_of s.last) x done) → (n : Soft names p3 (After x) p4) → Good names p4 n.last q c gr rt → Good names p l q c g t
infix_parts {x = x} {p = p} between build a s o n b =
    let w = build a.tokens b.tokens (line_of s.last) a.tree b.tree a.reads b.reads a.same b.same in
    record {
      last = b.last;
      tokens = a.tokens ⧺ piece (line_of s.last) x b.tokens;
      writes = wrote_both a.writes (wrote_both s.writes (wrote_both o (wrote_both n.writes b.writes)));
      operand = b.operand;
      semicolon = b.semicolon;
      begins = λ d h. begins_then p.start a.tokens (piece (line_of s.last) x b.tokens) d a.begins (between.no_function (line_of s.last) (b.tokens ⧺ d));
      line = λ e. line_then a.tokens (piece (line_of s.last) x b.tokens) (a.line e);
      tree = w.0;
      reads = w.1;
      same = w.2;
    }

pub good_infix : {names : Tables} (item : Items) (x : Piece) (li ri : Items) (lt rt t : Tree) (c : Allowed) (gl gr g : Level) → Between names item x → Joins names x c gl gr g lt rt t → PrintedBy names c gl li lt → PrintedBy names c gr ri rt → PrintedBy names c g (li ⊕ (soft_space ⊕ (item ⊕ (soft_space ⊕ ri)))) t
good_infix item x li ri lt rt t c gl gr g between build left right p l z y k =
    let p1 : Pen = layout li p in
    let p2 : Pen = layout soft_space p1 in
    let p3 : Pen = layout item p2 in
    let a = left p l z y k in
    let s = soft_space_written p1 a.last a.writes.knows in
    let o = between.writes p2 s.last (s.operand a.operand) s.writes.knows in
    let n = soft_space_written p3 (After x) o.knows in
    let b = right (layout soft_space p3) n.last (n.semicolon ∙ (between.semicolon p2 ∙ (s.semicolon ∙ a.semicolon))) (n.ready between.ready) n.writes.knows in
    infix_parts between build a s o n b
