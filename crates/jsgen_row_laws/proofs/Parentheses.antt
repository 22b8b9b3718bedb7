-- A word, what stands in parentheses behind it, and a statement behind both.
use Rattle.std.proofs.Common.{◌≡◌, ℕ, Bool, true, false, List, ◌∙◌}
use Rattle.jsgen_syntax.specs.Name.{spells_name}
use Rattle.jsgen_tree.specs.Job.{Tables}
use Rattle.jsgen_tree.specs.Tree.{Tree}
use Rattle.jsgen_model.specs.Punctuator.{Round, opening}
use Rattle.jsgen_model.specs.Tokens.{Tokens, done, piece, group, Word}
use Rattle.jsgen_model.specs.Items.{Items, ◌⊕◌, word, soft_space, brackets, indentation}
use Rattle.jsgen_model.specs.Layout.{Pen, other_end, layout, written}
use Rattle.jsgen_model.specs.Grammar.{Allowed, ReadsStatement}
use Rattle.jsgen_model.specs.Normal.{normal}
use Rattle.jsgen_model.specs.Renamed.{renamed}
use Rattle.jsgen_token_laws.proofs.Last.{Last, Open, After, line_of, Ready, Knows}
use Rattle.jsgen_token_laws.proofs.Writes.{Writes, wrote_both}
use Rattle.jsgen_token_laws.proofs.Steps.{wrote_word, soft_space_written, within_brackets, brackets_written}
use Rattle.jsgen_row_laws.proofs.Stands.{StandsAt, ReadsClosed, SameTree, behind_tokens, indented_line}

-- Between two pens stand tokens that are read so. No semicolon was due before, and none is after.
pub record Inside (names : Tables) {X : Type 0} (R : Tokens → X → Type 0) (Same : X → Type 0) (p : Pen) (l : Last) (q : Pen) : Type 0 where
  pub last : Last
  pub tokens : Tokens
  pub writes : Writes names p l q last tokens
  pub semicolon : q.pending_semicolon ≡ false
  pub reading : X
  pub reads : R tokens reading
  pub same : Same reading

-- these items are printed so from any pen
abbrev pub InsideAt : Tables → {X : Type 0} → (Tokens → X → Type 0) → (X → Type 0) → Items → Type 0
InsideAt names R Same items = (p : Pen) (l : Last) → p.pending_semicolon ≡ false → Ready l → Knows names p l → Inside names R Same p l (layout items p)

-- a word, and a group behind it
pub record Headed (names : Tables) (w : List ℕ) {X : Type 0} (R : Tokens → X → Type 0) (Same : X → Type 0) (p : Pen) (l : Last) (q : Pen) : Type 0 where
  pub next : Bool
  pub tokens : Tokens
  pub writes : Writes names p l q (Open false) (piece (line_of l) (Word w) (group next Round tokens done))
  pub semicolon : q.pending_semicolon ≡ false
  pub reading : X
  pub reads : R tokens reading
  pub same : Same reading

pub headed : {names : Tables} {X : Type 0} {R : Tokens → X → Type 0} {Same : X → Type 0} (w : List ℕ) → spells_name w ≡ true → (items : Items) → InsideAt names R Same items → (p : Pen) (l : Last) → p.pending_semicolon ≡ false → Knows names p l → Headed names w R Same p l (layout (word w ⊕ (soft_space ⊕ brackets Round items)) p)
headed w n items f p l z k =
    let p1 : Pen = layout (word w) p in
    let p2 : Pen = layout soft_space p1 in
    let p3 : Pen = written (opening Round) other_end p2 in
    let o = wrote_word w p l n k in
    let s = soft_space_written p1 (After (Word w)) o.knows in
    let a = f p3 (Open false) (s.semicolon ∙ z) tt (within_brackets Round p2 s.last s.writes.knows) in
    record {
      next = line_of s.last;
      tokens = a.tokens;
      writes = wrote_both o (wrote_both s.writes (brackets_written Round p2 (layout items p3) s.last a.last a.tokens a.writes));
      semicolon = a.semicolon;
      reading = a.reading;
      reads = a.reads;
      same = a.same;
    }

-- ---- and a statement

-- what is read in a head makes this of the statement behind it
abbrev pub ReadsHead : Allowed → List ℕ → Tokens → (Tree → Tree) → Type 0
ReadsHead c w head whole = (last before_else mark next : Bool) (ts : Tokens) (s : Tree) → ReadsStatement c last before_else ts s → ReadsStatement c last before_else (piece mark (Word w) (group next Round head ts)) (whole s)

-- with the normal form of what is made of the tree's own
abbrev pub SameHead : Tables → (Tree → Tree) → (Tree → Tree) → Type 0
SameHead names made whole = (u s : Tree) → normal u ≡ normal (renamed names s) → normal (whole u) ≡ normal (renamed names (made s))

-- a statement behind a head, which ends open where its body does
pub good_headed : {names : Tables} (c : Allowed) (w : List ℕ) → spells_name w ≡ true → (made : Tree → Tree) (s : Tree) (is_open : Bool) (items body : Items) → InsideAt names (ReadsHead c w) (SameHead names made) items → StandsAt names (ReadsClosed c is_open) (SameTree names s) body → StandsAt names (ReadsClosed c is_open) (SameTree names (made s)) (word w ⊕ (soft_space ⊕ (brackets Round items ⊕ body)))
good_headed c w n made s is_open items body f g p l z y k =
    let h = headed w n items f p l z k in
    behind_tokens (piece (line_of l) (Word w) (group h.next Round h.tokens done)) h.reading h.writes (λ e ts u r before_else b. h.reads e before_else (line_of l) h.next ts u (r before_else b)) (λ u e. h.same u s e)
    (g (layout (word w ⊕ (soft_space ⊕ brackets Round items)) p) (Open false) h.semicolon tt h.writes.knows)

pub headed_line : {names : Tables} (c : Allowed) (w : List ℕ) → spells_name w ≡ true → (made : Tree → Tree) (s : Tree) (is_open : Bool) (items body : Items) → InsideAt names (ReadsHead c w) (SameHead names made) items → StandsAt names (ReadsClosed c is_open) (SameTree names s) body → StandsAt names (ReadsClosed c is_open) (SameTree names (made s)) (indentation ⊕ (word w ⊕ (soft_space ⊕ (brackets Round items ⊕ body))))
headed_line c w n made s is_open items body f g = indented_line (word w ⊕ (soft_space ⊕ (brackets Round items ⊕ body))) (good_headed c w n made s is_open items body f g)
