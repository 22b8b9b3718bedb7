-- Rows of statements and declarations, and of what else is spelled as they are.
use Rattle.std.proofs.Common.{◌≡◌, Bool, false, refl, sym, ◌∙◌, subst}
use Rattle.jsgen_tree.specs.Job.{Tables}
use Rattle.jsgen_tree.specs.Tree.{Tree, Trees, no_trees, more}
use Rattle.jsgen_model.specs.Tokens.{Tokens, done, ◌⧺◌}
use Rattle.jsgen_model.specs.Items.{Items, nothing, ◌⊕◌, due_semicolon}
use Rattle.jsgen_model.specs.Layout.{Pen, layout}
use Rattle.jsgen_model.specs.Grammar.{Allowed, ReadsItem, ReadsStatements}
use Rattle.jsgen_model.specs.Grammar as grammar
use Rattle.jsgen_model.specs.Normal.{normal_trees}
use Rattle.jsgen_model.specs.Renamed.{renamed, renamed_trees}
use Rattle.jsgen_token_laws.proofs.Last.{Last, Ready, Knows}
use Rattle.jsgen_token_laws.proofs.Writes.{Writes, wrote_none, wrote_both, then_assoc, then_done}
use Rattle.jsgen_token_laws.proofs.Steps.{gap, none_due}
use Rattle.jsgen_row_laws.proofs.Lists.{same_more}
use Rattle.jsgen_row_laws.proofs.Ends.{Ends, ends_itself, ends_since, ends_behind, Due, due_ends}
use Rattle.jsgen_row_laws.proofs.Stands.{Stands, StandsAt, SameTree, SameTrees, blank_before}

-- A row is one member, or a member, which has its end, and a row of others. What may stand behind a member may depend on it.
pub record JoinsRow (R : Bool → Tokens → Tree → Type 0) (Others L : Bool → Tokens → Trees → Type 0) : Type 0 where
  pub one : (last : Bool) (ts : Tokens) (t : Tree) → R last ts t → L last ts (more t no_trees)
  pub first : (last : Bool) (a b : Tokens) (t : Tree) (us : Trees) → R false a t → Others last b us → L last (a ⧺ b) (more t us)

-- behind what is read as a member stand more
pub record RestAs (names : Tables) (R : Bool → Tokens → Tree → Type 0) (L : Bool → Tokens → Trees → Type 0) (p : Pen) (l : Last) (q : Pen) (ss : Trees) : Type 0 where
  pub last : Last
  pub tokens : Tokens
  pub writes : Writes names p l q last tokens
  pub ready : Ready last
  pub trees : Trees
  pub reads : (a : Tokens) (s : Tree) → Ends (λ e ts. R e ts s) p.pending_semicolon a → Ends (λ e ts. L e ts (more s trees)) q.pending_semicolon (a ⧺ tokens)
  pub same : normal_trees trees ≡ normal_trees (renamed_trees names ss)

abbrev pub GivesRest : Tables → (Bool → Tokens → Tree → Type 0) → (Bool → Tokens → Trees → Type 0) → Items → Trees → Type 0
GivesRest names R L items ss = (p : Pen) (l : Last) → Ready l → Knows names p l → RestAs names R L p l (layout items p) ss

pub rest_none : {names : Tables} {R : Bool → Tokens → Tree → Type 0} {Others L : Bool → Tokens → Trees → Type 0} → JoinsRow R Others L → GivesRest names R L nothing no_trees
rest_none {L = L} j p l y k = record {
  last = l;
  tokens = done;
  writes = wrote_none p p l refl k;
  ready = y;
  trees = no_trees;
  reads = λ a s r. subst (λ ts. Ends (λ e us. L e us (more s no_trees)) p.pending_semicolon ts) (sym (then_done a)) (ends_since (λ e ts x. j.one e ts s x) r);
  same = refl;
}

-- a member, and what stands behind it
pub row_of : {names : Tables} {R : Bool → Tokens → Tree → Type 0} {L : Bool → Tokens → Trees → Type 0} {p q r : Pen} {l : Last} (t : Tree) (ss : Trees) → (g : Stands names R (SameTree names t) p l q) → RestAs names R L q g.last r ss → Stands names L (SameTrees names (more t ss)) p l r
row_of {names} t ss g r = record {
  last = r.last;
  tokens = g.tokens ⧺ r.tokens;
  writes = wrote_both g.writes r.writes;
  ready = r.ready;
  reading = more g.reading r.trees;
  reads = r.reads g.tokens g.reading g.reads;
  same = same_more g.reading (renamed names t) r.trees (renamed_trees names ss) g.same r.same;
}

pub rest_of : {names : Tables} {R : Bool → Tokens → Tree → Type 0} {Others L : Bool → Tokens → Trees → Type 0} {p q r : Pen} {l : Last} {ss : Trees} → JoinsRow R Others L → (d : Due names p l q) → Stands names Others (SameTrees names ss) q d.last r → RestAs names R L p l r ss
rest_of {L = L} {r = r} j d g = record {
  last = g.last;
  tokens = d.tokens ⧺ g.tokens;
  writes = wrote_both d.writes g.writes;
  ready = g.ready;
  trees = g.reading;
  reads = λ a s x. subst (λ ts. Ends (λ e us. L e us (more s g.reading)) r.pending_semicolon ts) (then_assoc a d.tokens g.tokens) (ends_behind (a ⧺ d.tokens) (λ e ts w. j.first e (a ⧺ d.tokens) ts s g.reading (x.read false (a ⧺ d.tokens) (d.ends a)) w) g.reads);
  same = g.same;
}

pub rest_more : {names : Tables} {R S : Bool → Tokens → Tree → Type 0} {Others L : Bool → Tokens → Trees → Type 0} → JoinsRow R Others L → (t : Tree) (ss : Trees) (items others : Items) → StandsAt names S (SameTree names t) items → GivesRest names S Others others ss → GivesRest names R L (due_semicolon ⊕ (items ⊕ others)) (more t ss)
rest_more j t ss items others f h p l y k =
    let p1 : Pen = layout due_semicolon p in
    let d = due_ends p l y k in
    let g = f p1 d.last d.semicolon d.ready d.writes.knows in
    rest_of j d (row_of t ss g (h (layout items p1) g.last g.ready g.writes.knows))

-- ---- whole rows, the empty one too

pub row_none : {names : Tables} {L : Bool → Tokens → Trees → Type 0} → ((last : Bool) → L last done no_trees) → StandsAt names L (SameTrees names no_trees) nothing
row_none n p l z y k = record {
  last = l;
  tokens = done;
  writes = wrote_none p p l refl k;
  ready = y;
  reading = no_trees;
  reads = ends_itself z n;
  same = refl;
}

pub row_more : {names : Tables} {R : Bool → Tokens → Tree → Type 0} {L : Bool → Tokens → Trees → Type 0} (t : Tree) (ss : Trees) (items others : Items) → StandsAt names R (SameTree names t) items → GivesRest names R L others ss → StandsAt names L (SameTrees names (more t ss)) (due_semicolon ⊕ (items ⊕ others))
row_more t ss items others f h p l z y k =
    let p1 : Pen = layout due_semicolon p in
    let n = none_due p l z k in
    let g = f p1 n.last (n.semicolon ∙ z) (n.ready y) n.writes.knows in
    blank_before (gap n) (row_of t ss g (h (layout items p1) g.last g.ready g.writes.knows))

-- one member alone
pub row_alone : {names : Tables} {R : Bool → Tokens → Tree → Type 0} {Others L : Bool → Tokens → Trees → Type 0} → JoinsRow R Others L → (t : Tree) (items : Items) → StandsAt names R (SameTree names t) items → StandsAt names L (SameTrees names (more t no_trees)) items
row_alone j t items f p l z y k =
    let g = f p l z y k in
    row_of t no_trees g (rest_none j (layout items p) g.last g.ready g.writes.knows)

-- ---- rows of statements and declarations

pub statements_join : (c : Allowed) → JoinsRow (ReadsItem c) (ReadsStatements c) (ReadsStatements c)
statements_join c = record { one = λ e ts t r. grammar.last_statement r; first = λ e a b t us r s. grammar.first_statement refl r s }

abbrev pub GoodRest : Tables → Pen → Last → Pen → Allowed → Trees → Type 0
GoodRest names p l q c ss = RestAs names (ReadsItem c) (ReadsStatements c) p l q ss

abbrev pub RestAt : Tables → Allowed → Items → Trees → Type 0
RestAt names c items ss = GivesRest names (ReadsItem c) (ReadsStatements c) items ss

abbrev pub RowAt : Tables → Allowed → Items → Trees → Type 0
RowAt names c items ss = StandsAt names (ReadsStatements c) (SameTrees names ss) items
