-- Lists with commas between their members, whatever the members are.
use Rattle.std.proofs.Common.{◌≡◌, Bool, false, refl, sym, subst, ◌∙◌}
use Rattle.jsgen_tree.specs.Job.{Tables}
use Rattle.jsgen_tree.specs.Tree.{Tree, Trees, no_trees, more}
use Rattle.jsgen_model.specs.Punctuator.{comma}
use Rattle.jsgen_model.specs.Tokens.{Tokens, done, piece, ◌⧺◌, Sign}
use Rattle.jsgen_model.specs.Items.{Items, nothing, ◌⊕◌, punctuator, soft_space}
use Rattle.jsgen_model.specs.Layout.{Pen, layout}
use Rattle.jsgen_model.specs.Normal.{normal, normal_trees}
use Rattle.jsgen_model.specs.Renamed.{renamed, renamed_trees}
use Rattle.jsgen_place.specs.declared.place.Place.{Place}
use Rattle.jsgen_model.specs.Spell.{spell, spell_list, spell_more}
use Rattle.jsgen_token_laws.proofs.Last.{Last, After, line_of, Operand, Begun, Knows}
use Rattle.jsgen_token_laws.proofs.Writes.{Writes, wrote_none, wrote_both, then_done}
use Rattle.jsgen_token_laws.proofs.Steps.{Soft, wrote_punctuator, soft_space_written}

-- between two pens stands a member, which is read so
pub record Element (names : Tables) (R : Tokens → Tree → Type 0) (p : Pen) (l : Last) (q : Pen) (t : Tree) : Type 0 where
  pub last : Last
  pub tokens : Tokens
  pub writes : Writes names p l q last tokens
  pub operand : Operand last
  pub semicolon : q.pending_semicolon ≡ false
  pub tree : Tree
  pub reads : R tokens tree
  pub same : normal tree ≡ normal (renamed names t)

-- between two pens stands a list
pub record Elements (names : Tables) (L : Tokens → Trees → Type 0) (p : Pen) (l : Last) (q : Pen) (ts : Trees) : Type 0 where
  pub last : Last
  pub tokens : Tokens
  pub writes : Writes names p l q last tokens
  pub operand : Operand last
  pub semicolon : q.pending_semicolon ≡ false
  pub trees : Trees
  pub reads : L tokens trees
  pub same : normal_trees trees ≡ normal_trees (renamed_trees names ts)

-- behind a member that is read stand more
pub record MoreElements (names : Tables) (R : Tokens → Tree → Type 0) (L : Tokens → Trees → Type 0) (p : Pen) (l : Last) (q : Pen) (ts : Trees) : Type 0 where
  pub last : Last
  pub tokens : Tokens
  pub writes : Writes names p l q last tokens
  pub operand : Operand last
  pub semicolon : q.pending_semicolon ≡ false
  pub trees : Trees
  pub reads : (a : Tokens) (t : Tree) → R a t → L (a ⧺ tokens) (more t trees)
  pub same : normal_trees trees ≡ normal_trees (renamed_trees names ts)

-- a list is one member, or a member, a comma and a list
abbrev pub JoinsOne : (Tokens → Tree → Type 0) → (Tokens → Trees → Type 0) → Type 0
JoinsOne R L = (ts : Tokens) (t : Tree) → R ts t → L ts (more t no_trees)

abbrev pub JoinsFirst : (Tokens → Tree → Type 0) → (Tokens → Trees → Type 0) → Type 0
JoinsFirst R L = (mark : Bool) (a b : Tokens) (t : Tree) (us : Trees) → R a t → L b us → L (a ⧺ piece mark (Sign comma) b) (more t us)

pub record Joins (R : Tokens → Tree → Type 0) (L : Tokens → Trees → Type 0) : Type 0 where
  pub one : JoinsOne R L
  pub first : JoinsFirst R L

-- these items give it from any pen
abbrev pub GivesElement : Tables → (Tokens → Tree → Type 0) → Items → Tree → Type 0
GivesElement names R items t = (p : Pen) (l : Last) → p.pending_semicolon ≡ false → Begun l → Knows names p l → Element names R p l (layout items p) t

abbrev pub GivesElements : Tables → (Tokens → Trees → Type 0) → Items → Trees → Type 0
GivesElements names L items ts = (p : Pen) (l : Last) → p.pending_semicolon ≡ false → Begun l → Knows names p l → Elements names L p l (layout items p) ts

abbrev pub GivesMore : Tables → (Tokens → Tree → Type 0) → (Tokens → Trees → Type 0) → Items → Trees → Type 0
GivesMore names R L items ts = (p : Pen) (l : Last) → p.pending_semicolon ≡ false → Operand l → Knows names p l → MoreElements names R L p l (layout items p) ts

-- printed at one place
abbrev pub ElementAt : Tables → (Tokens → Tree → Type 0) → Place → Tree → Type 0
ElementAt names R place t = GivesElement names R (spell t place) t

abbrev pub ElementsAt : Tables → (Tokens → Trees → Type 0) → Place → Trees → Type 0
ElementsAt names L place ts = GivesElements names L (spell_list ts place) ts

abbrev pub MoreAt : Tables → (Tokens → Tree → Type 0) → (Tokens → Trees → Type 0) → Place → Trees → Type 0
MoreAt names R L place ts = GivesMore names R L (spell_more ts place) ts

pub none_behind : {names : Tables} (R : Tokens → Tree → Type 0) (L : Tokens → Trees → Type 0) → JoinsOne R L → GivesMore names R L nothing no_trees
none_behind R L one p l z o k = record {
  last = l;
  tokens = done;
  writes = wrote_none p p l refl k;
  operand = o;
  semicolon = z;
  trees = no_trees;
  reads = λ a t r. subst (λ ts. L ts (more t no_trees)) (sym (then_done a)) (one a t r);
  same = refl;
}

pub same_more : (t u : Tree) (ts us : Trees) → normal t ≡ normal u → normal_trees ts ≡ normal_trees us → more (normal t) (normal_trees ts) ≡ more (normal u) (normal_trees us)
same_more t u ts us e f = λ i. more (e i) (f i)

more_parts : {names : Tables} (R : Tokens → Tree → Type 0) (L : Tokens → Trees → Type 0) → JoinsFirst R L → (t : Tree) (ts : Trees) (p p1 p2 p3 q : Pen) (l : Last) → Writes names p l p1 (After (Sign comma)) (piece (line_of l) (Sign comma) done) → (n : Soft names p1 (After (Sign comma)) p2) (g : Element names R p2 n.last p3 t) → MoreElements names R L p3 g.last q ts → MoreElements names R L p l q (more t ts)
more_parts {names} R L first t ts p p1 p2 p3 q l o n g m = record {
  last = m.last;
  tokens = piece (line_of l) (Sign comma) (g.tokens ⧺ m.tokens);
  writes = wrote_both o (wrote_both n.writes (wrote_both g.writes m.writes));
  operand = m.operand;
  semicolon = m.semicolon;
  trees = more g.tree m.trees;
  reads = λ a u r. first (line_of l) a (g.tokens ⧺ m.tokens) u (more g.tree m.trees) r (m.reads g.tokens g.tree g.reads);
  same = same_more g.tree (renamed names t) m.trees (renamed_trees names ts) g.same m.same;
}

pub one_behind : {names : Tables} (R : Tokens → Tree → Type 0) (L : Tokens → Trees → Type 0) → JoinsFirst R L → (t : Tree) (ts : Trees) (items others : Items) → GivesElement names R items t → GivesMore names R L others ts → GivesMore names R L (punctuator comma ⊕ (soft_space ⊕ (items ⊕ others))) (more t ts)
one_behind R L first t ts items others f h p l z o k =
    let p1 : Pen = layout (punctuator comma) p in
    let p2 : Pen = layout soft_space p1 in
    let p3 : Pen = layout items p2 in
    let w = wrote_punctuator comma p l tt tt o k in
    let n = soft_space_written p1 (After (Sign comma)) w.knows in
    let g = f p2 n.last (n.semicolon ∙ z) (n.begun tt) n.writes.knows in
    let m = h p3 g.last g.semicolon g.operand g.writes.knows in
    more_parts R L first t ts p p1 p2 p3 (layout others p3) l w n g m

pub first_and_others : {names : Tables} (R : Tokens → Tree → Type 0) (L : Tokens → Trees → Type 0) (t : Tree) (ts : Trees) (items others : Items) → GivesElement names R items t → GivesMore names R L others ts → GivesElements names L (items ⊕ others) (more t ts)
first_and_others {names} R L t ts items others f h p l z y k =
    let p1 : Pen = layout items p in
    let g = f p l z y k in
    let m = h p1 g.last g.semicolon g.operand g.writes.knows in
    record {
      last = m.last;
      tokens = g.tokens ⧺ m.tokens;
      writes = wrote_both g.writes m.writes;
      operand = m.operand;
      semicolon = m.semicolon;
      trees = more g.tree m.trees;
      reads = m.reads g.tokens g.tree g.reads;
      same = same_more g.tree (renamed names t) m.trees (renamed_trees names ts) g.same m.same;
    }

-- ---- at one place

pub no_more : {names : Tables} (R : Tokens → Tree → Type 0) (L : Tokens → Trees → Type 0) → Joins R L → (place : Place) → MoreAt names R L place no_trees
no_more R L j place = none_behind R L j.one

pub one_more : {names : Tables} (R : Tokens → Tree → Type 0) (L : Tokens → Trees → Type 0) → Joins R L → (place : Place) (t : Tree) (ts : Trees) → ElementAt names R place t → MoreAt names R L place ts → MoreAt names R L place (more t ts)
one_more R L j place t ts f h = one_behind R L j.first t ts (spell t place) (spell_more ts place) f h

pub whole_list : {names : Tables} (R : Tokens → Tree → Type 0) (L : Tokens → Trees → Type 0) (place : Place) (t : Tree) (ts : Trees) → ElementAt names R place t → MoreAt names R L place ts → ElementsAt names L place (more t ts)
whole_list R L place t ts f h = first_and_others R L t ts (spell t place) (spell_more ts place) f h
