-- `try`, what handles what it throws, and what it does at last.
use Rattle.std.proofs.Common.{◌≡◌, ℕ, Bool, true, false, codes, List, refl, ap, ◌∙◌}
use Rattle.jsgen_syntax.specs.Name.{spells_name}
use Rattle.jsgen_syntax.specs.declared.precedence.Precedence.TheVariants as levels
use Rattle.jsgen_tree.specs.Job.{Tables}
use Rattle.jsgen_tree.specs.Tree.{Tree, Maybe, absent, given, Trees, Atoms}
use Rattle.jsgen_tree.specs.Nodes as tree
use Rattle.jsgen_model.specs.Punctuator.{Brace}
use Rattle.jsgen_model.specs.Tokens.{Tokens, done, piece, group, ◌⧺◌, Word}
use Rattle.jsgen_model.specs.Items.{Items, ◌⊕◌, word, soft_space, soft_line}
use Rattle.jsgen_model.specs.Layout.{Pen, layout}
use Rattle.jsgen_model.specs.Grammar.{Allowed, ReadsBinding, ReadsStatements, ReadsHandler, ReadsFinalizer, ReadsEndsOfTry, with_in}
use Rattle.jsgen_model.specs.Grammar as grammar
use Rattle.jsgen_model.specs.Normal.{normal, normal_maybe, nothing_of}
use Rattle.jsgen_model.specs.Renamed.{renamed, renamed_maybe}
use Rattle.jsgen_place.specs.declared.place.Place.{Place}
use Rattle.jsgen_place.specs.Place.{within_statement, child}
use Rattle.jsgen_model.specs.Spell.{spell, spell_statements, spell_if_given, spell_finalizer}
use Rattle.jsgen_token_laws.proofs.Characters.{letters_spelled}
use Rattle.jsgen_token_laws.proofs.Last.{Last, Open, After, line_of, Knows}
use Rattle.jsgen_token_laws.proofs.Writes.{Writes, wrote_both}
use Rattle.jsgen_token_laws.proofs.Steps.{wrote_word, soft_space_written, soft_line_written}
use Rattle.jsgen_row_laws.proofs.Ends.{ends_itself}
use Rattle.jsgen_row_laws.proofs.Stands.{StatedAt, Stated, stated_among, SameTree, before_blank, indented_line}
use Rattle.jsgen_row_laws.proofs.Rows.{RowAt}
use Rattle.jsgen_row_laws.proofs.Bindings.{Bound}
use Rattle.jsgen_row_laws.proofs.Blocks.{GoodBraces, block_written}
use Rattle.jsgen_row_laws.proofs.Parentheses.{InsideAt, headed}

-- Between two pens stand tokens that are read so, of which a brace is the last. No semicolon was due before, and none is after.
pub record Closed (names : Tables) {X : Type 0} (R : Tokens → X → Type 0) (Same : X → Type 0) (p : Pen) (l : Last) (q : Pen) : Type 0 where
  pub tokens : Tokens
  pub writes : Writes names p l q (Open false) tokens
  pub semicolon : q.pending_semicolon ≡ false
  pub reading : X
  pub reads : R tokens reading
  pub same : Same reading

abbrev pub ClosedAt : Tables → {X : Type 0} → (Tokens → X → Type 0) → (X → Type 0) → Items → Type 0
ClosedAt names R Same items = (p : Pen) (l : Last) → p.pending_semicolon ≡ false → Knows names p l → Closed names R Same p l (layout items p)

-- read otherwise
closed_since : {names : Tables} {X Y : Type 0} {R : Tokens → X → Type 0} {S : Tokens → Y → Type 0} {Same : X → Type 0} {Other : Y → Type 0} {p q : Pen} {l : Last} (whole : X → Y) → ((ts : Tokens) (x : X) → R ts x → S ts (whole x)) → ((x : X) → Same x → Other (whole x)) → Closed names R Same p l q → Closed names S Other p l q
closed_since whole f h g = record { tokens = g.tokens; writes = g.writes; semicolon = g.semicolon; reading = whole g.reading; reads = f g.tokens g.reading g.reads; same = h g.reading g.same }

-- ---- blocks, each behind a word

-- the statements of a block, with which it has the normal form of the tree
abbrev SameBlock : Tables → Tree → Trees → Type 0
SameBlock names t us = normal (tree.block (nothing_of 0) us) ≡ normal (renamed names t)

abbrev pub BlockOf : Tables → Allowed → Tree → Type 0
BlockOf names c t = (p : Pen) (l : Last) → p.pending_semicolon ≡ false → Knows names p l → GoodBraces names (ReadsStatements c) (SameBlock names t) p l (layout (spell t within_statement) p)

pub some_block : {names : Tables} (c : Allowed) (a : Atoms) (ss : Trees) → RowAt names c (spell_statements ss) ss → BlockOf names c (tree.block a ss)
some_block c a ss row p l z k =
    let g = block_written grammar.no_statement a.span ss (spell_statements ss) row p l z k in
    record { tokens = g.tokens; writes = g.writes; semicolon = g.semicolon; reading = g.reading; reads = g.reads; same = ap (λ ts. tree.block (nothing_of 0) ts) g.same }

-- what is written already, and a block behind a blank
block_behind : {names : Tables} {p q : Pen} {l m : Last} {a : Tokens} {X : Type 0} {R : Tokens → X → Type 0} {Same : X → Type 0} (c : Allowed) (t : Tree) (whole : Trees → X) → Writes names p l q m a → q.pending_semicolon ≡ false → ((next : Bool) (inside : Tokens) (us : Trees) → ReadsStatements c true inside us → R (a ⧺ group next Brace inside done) (whole us)) → ((us : Trees) → SameBlock names t us → Same (whole us)) → BlockOf names c t → Closed names R Same p l (layout (soft_space ⊕ spell t within_statement) q)
block_behind {q = q} {m = m} {a} c t whole w z f h block =
    let s = soft_space_written q m w.knows in
    let g = block (layout soft_space q) s.last (s.semicolon ∙ z) s.writes.knows in
    record {
      tokens = a ⧺ group (line_of s.last) Brace g.tokens done;
      writes = wrote_both w (wrote_both s.writes g.writes);
      semicolon = g.semicolon;
      reading = whole g.reading;
      reads = f (line_of s.last) g.tokens g.reading g.reads;
      same = h g.reading g.same;
    }

-- behind a word and the blank before it
worded_block : {names : Tables} {X : Type 0} {R : Tokens → X → Type 0} {Same : X → Type 0} (c : Allowed) (w : List ℕ) → spells_name w ≡ true → (t : Tree) (whole : Trees → X) → ((mark next : Bool) (inside : Tokens) (us : Trees) → ReadsStatements c true inside us → R (piece mark (Word w) (group next Brace inside done)) (whole us)) → ((us : Trees) → SameBlock names t us → Same (whole us)) → BlockOf names c t → ClosedAt names R Same (soft_space ⊕ (word w ⊕ (soft_space ⊕ spell t within_statement)))
worded_block c w n t whole f h block p l z k =
    let p1 : Pen = layout soft_space p in
    let s = soft_space_written p l k in
    let o = wrote_word w p1 s.last n s.writes.knows in
    block_behind c t whole (wrote_both s.writes o) (s.semicolon ∙ z) (λ next inside us r. f (line_of s.last) next inside us r) h block

-- ---- handlers and finalizers

abbrev pub HandlerOf : Tables → Allowed → Tree → Type 0
HandlerOf names c h = ClosedAt names (ReadsHandler c) (SameTree names h) (spell h within_statement)

abbrev pub FinalizerOf : Tables → Allowed → Tree → Type 0
FinalizerOf names c f = ClosedAt names (ReadsFinalizer c) (SameTree names f) (spell_finalizer (given f))

catch_spelled : spells_name (codes "catch") ≡ true
catch_spelled = letters_spelled 99 (codes "atch") refl

pub good_catch : {names : Tables} (c : Allowed) (a : Atoms) (t : Tree) → BlockOf names c t → HandlerOf names c (tree.catch_clause a absent t)
good_catch {names} c a t block =
    worded_block c (codes "catch") catch_spelled t (λ us. tree.catch_clause (nothing_of 0) absent (tree.block (nothing_of 0) us)) (λ mark next inside us r. grammar.a_catch r) (λ us s. ap (λ b. tree.catch_clause (nothing_of 0) absent b) s) block

-- the name of what is caught
caught : {names : Tables} (c : Allowed) (n : Tree) → Bound names c n → (place : Place) → InsideAt names (ReadsBinding (with_in c)) (SameTree names n) (spell n (child levels.Lowest within_statement))
caught c n f place p l z y k =
    let g = f (child levels.Lowest within_statement) p l z y k in
    record { last = g.last; tokens = g.tokens; writes = g.writes; semicolon = g.semicolon; reading = g.tree; reads = g.reads; same = g.same }

same_catch : (u n : Tree) (us : Trees) (t : Tree) → normal u ≡ normal n → normal (tree.block (nothing_of 0) us) ≡ normal t → tree.catch_clause (nothing_of 0) (given (normal u)) (normal (tree.block (nothing_of 0) us)) ≡ tree.catch_clause (nothing_of 0) (given (normal n)) (normal t)
same_catch u n us t e f = λ i. tree.catch_clause (nothing_of 0) (given (e i)) (f i)

pub good_catch_by_name : {names : Tables} (c : Allowed) (a : Atoms) (n t : Tree) → Bound names c n → BlockOf names c t → HandlerOf names c (tree.catch_clause a (given n) t)
good_catch_by_name {names} c a n t bound block p l z k =
    let at : Place = within_statement in
    let name : Items = spell n (child levels.Lowest at) in
    let p1 : Pen = layout soft_space p in
    let s = soft_space_written p l k in
    let h = headed (codes "catch") catch_spelled name (caught c n bound at) p1 s.last (s.semicolon ∙ z) s.writes.knows in
    block_behind c t (λ us. tree.catch_clause (nothing_of 0) (given h.reading) (tree.block (nothing_of 0) us)) (wrote_both s.writes h.writes) h.semicolon (λ next inside us r. grammar.a_catch_by_name h.reads r) (λ us e. same_catch h.reading (renamed names n) us (renamed names t) h.same e) block

pub good_finally : {names : Tables} (c : Allowed) (t : Tree) → BlockOf names c t → FinalizerOf names c t
good_finally c t block = worded_block c (codes "finally") (letters_spelled 102 (codes "inally") refl) t (λ us. tree.block (nothing_of 0) us) (λ mark next inside us r. grammar.a_finally r) (λ us s. s) block

-- ---- both, or one of them

abbrev ReadsEnds : Allowed → Tokens → Maybe × Maybe → Type 0
ReadsEnds c ts e = ReadsEndsOfTry c ts e.0 e.1

abbrev SameEnds : Tables → Maybe → Maybe → Maybe × Maybe → Type 0
SameEnds names handler finalizer e = (normal_maybe e.0 ≡ normal_maybe (renamed_maybe names handler)) × (normal_maybe e.1 ≡ normal_maybe (renamed_maybe names finalizer))

abbrev pub EndsOf : Tables → Allowed → Maybe → Maybe → Type 0
EndsOf names c handler finalizer = ClosedAt names (ReadsEnds c) (SameEnds names handler finalizer) (spell_if_given handler within_statement ⊕ spell_finalizer finalizer)

pub handler_alone : {names : Tables} (c : Allowed) (h : Tree) → HandlerOf names c h → EndsOf names c (given h) absent
handler_alone c h f p l z k = closed_since (λ u. (given u, absent)) (λ ts u r. grammar.a_handler r) (λ u s. (ap (λ x. given x) s, refl)) (f p l z k)

pub finalizer_alone : {names : Tables} (c : Allowed) (t : Tree) → FinalizerOf names c t → EndsOf names c absent (given t)
finalizer_alone c t f p l z k = closed_since (λ u. (absent, given u)) (λ ts u r. grammar.a_finalizer r) (λ u s. (refl, ap (λ x. given x) s)) (f p l z k)

pub handler_and_finalizer : {names : Tables} (c : Allowed) (h t : Tree) → HandlerOf names c h → FinalizerOf names c t → EndsOf names c (given h) (given t)
handler_and_finalizer c h t f g p l z k =
    let a = f p l z k in
    let b = g (layout (spell h within_statement) p) (Open false) a.semicolon a.writes.knows in
    record {
      tokens = a.tokens ⧺ b.tokens;
      writes = wrote_both a.writes b.writes;
      semicolon = b.semicolon;
      reading = (given a.reading, given b.reading);
      reads = grammar.a_handler_and_a_finalizer refl a.reads b.reads;
      same = (ap (λ x. given x) a.same, ap (λ x. given x) b.same);
    }

-- ---- the whole

same_try : (us : Trees) (t : Tree) (m n i j : Maybe) → normal (tree.block (nothing_of 0) us) ≡ normal t → normal_maybe m ≡ normal_maybe i → normal_maybe n ≡ normal_maybe j → tree.try_statement (nothing_of 0) (normal (tree.block (nothing_of 0) us)) (normal_maybe m) (normal_maybe n) ≡ tree.try_statement (nothing_of 0) (normal t) (normal_maybe i) (normal_maybe j)
same_try us t m n i j e f g = λ x. tree.try_statement (nothing_of 0) (e x) (f x) (g x)

abbrev try_items : Tree → Maybe → Maybe → Items
try_items t handler finalizer = word (codes "try") ⊕ (soft_space ⊕ (spell t within_statement ⊕ (spell_if_given handler within_statement ⊕ spell_finalizer finalizer)))

try_read : {names : Tables} (c : Allowed) (a : Atoms) (t : Tree) (handler finalizer : Maybe) → BlockOf names c t → EndsOf names c handler finalizer → StatedAt names c (tree.try_statement a t handler finalizer) (try_items t handler finalizer)
try_read {names} c a t handler finalizer block ends p l z y k =
    let p1 : Pen = layout (word (codes "try")) p in
    let p2 : Pen = layout soft_space p1 in
    let p3 : Pen = layout (spell t within_statement) p2 in
    let o = wrote_word (codes "try") p l (letters_spelled 116 (codes "ry") refl) k in
    let s = soft_space_written p1 (After (Word (codes "try"))) o.knows in
    let g = block p2 s.last (s.semicolon ∙ z) s.writes.knows in
    let e = ends p3 (Open false) g.semicolon g.writes.knows in
    record {
      last = Open false;
      tokens = piece (line_of l) (Word (codes "try")) (group (line_of s.last) Brace g.tokens e.tokens);
      writes = wrote_both o (wrote_both s.writes (wrote_both g.writes e.writes));
      ready = tt;
      reading = tree.try_statement (nothing_of 0) (tree.block (nothing_of 0) g.reading) e.reading.0 e.reading.1;
      reads = ends_itself e.semicolon (λ last before_else n. grammar.a_try g.reads e.reads);
      same = same_try g.reading (renamed names t) e.reading.0 e.reading.1 (renamed_maybe names handler) (renamed_maybe names finalizer) g.same e.same.0 e.same.1;
    }

pub good_try : {names : Tables} (c : Allowed) (a : Atoms) (t : Tree) (handler finalizer : Maybe) → BlockOf names c t → EndsOf names c handler finalizer → Stated names c (tree.try_statement a t handler finalizer)
good_try c a t handler finalizer block ends = stated_among refl (indented_line (try_items t handler finalizer ⊕ soft_line) (before_blank (try_items t handler finalizer) soft_line (try_read c a t handler finalizer block ends) soft_line_written))
