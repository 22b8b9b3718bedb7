-- Braces round rows of statements, and blocks.
use Rattle.std.proofs.Common.{◌≡◌, ℕ, Bool, true, false, refl, ap, ◌∙◌}
use Rattle.jsgen_syntax.specs.declared.span.Span.{Span}
use Rattle.jsgen_tree.specs.Job.{Tables}
use Rattle.jsgen_tree.specs.Tree.{Tree, Trees, no_trees, more, hole, Atoms}
use Rattle.jsgen_tree.specs.Nodes as tree
use Rattle.jsgen_model.specs.Punctuator.{Brace, opening, closing}
use Rattle.jsgen_model.specs.Tokens.{Tokens, done, group}
use Rattle.jsgen_model.specs.Items.{Items, ◌⊕◌, soft_line, drop_semicolon}
use Rattle.jsgen_model.specs.Layout.{Pen, other_end, layout, written, deeper_level}
use Rattle.jsgen_model.specs.Grammar.{Allowed, ReadsStatements}
use Rattle.jsgen_model.specs.Grammar as grammar
use Rattle.jsgen_model.specs.Normal.{nothing_of}
use Rattle.jsgen_model.specs.Spell.{spell_statements, filled_braces, empty_braces, braces, block_braces}
use Rattle.jsgen_token_laws.proofs.Last.{Last, Open, line_of, Knows}
use Rattle.jsgen_token_laws.proofs.Writes.{Writes, wrote_none, wrote_both, wrote_and_none, same_writes}
use Rattle.jsgen_token_laws.proofs.Steps.{Gap, gap, soft_line_written, indentation_written, within_brackets, brackets_written}
use Rattle.jsgen_row_laws.proofs.Ends.{ends_itself, at_brace}
use Rattle.jsgen_row_laws.proofs.Stands.{Stands, StandsAt, BegunAt, begun_at, ReadsClosed, StatedAt, Stated, SameTrees, before_blank, indented_line}
use Rattle.jsgen_row_laws.proofs.Rows.{RowAt}

-- between two pens stands a brace group, and what is in it is read so
pub record GoodBraces (names : Tables) {X : Type 0} (R : Bool → Tokens → X → Type 0) (Same : X → Type 0) (p : Pen) (l : Last) (q : Pen) : Type 0 where
  pub tokens : Tokens
  pub writes : Writes names p l q (Open false) (group (line_of l) Brace tokens done)
  pub semicolon : q.pending_semicolon ≡ false
  pub reading : X
  pub reads : R true tokens reading
  pub same : Same reading

-- the depth doesn't matter
pub at_depth : {names : Tables} {p : Pen} {l : Last} (depth : ℕ) → Knows names p l → Knows names (record p { depth = depth }) l
at_depth depth k = record { indent = k.indent; tables = k.tables; ending = k.ending }

-- the semicolon that is left is dropped
pub dropped : {names : Tables} {p q : Pen} {l m : Last} {ts : Tokens} → Writes names p l q m ts → Writes names p l (layout drop_semicolon q) m ts
dropped {q = q} {m = m} w = wrote_and_none w (wrote_none q (layout drop_semicolon q) m refl (record { indent = w.knows.indent; tables = w.knows.tables; ending = w.knows.ending }))

-- from the line end behind the opening brace, what stands within, and the indentation before the closing one
filled_parts : {names : Tables} {X : Type 0} {R : Bool → Tokens → X → Type 0} {Same : X → Type 0} {p p2 p3 p4 p6 : Pen} {l : Last} (depth : ℕ) → (n : Gap names (written (opening Brace) other_end p) (Open false) p2) → p3.code ≡ p2.code → (g : Stands names R Same p3 n.last p4) → Gap names (record p4 { depth = depth }) g.last p6 → GoodBraces names R Same p l (layout drop_semicolon (written (closing Brace) other_end p6))
filled_parts {p = p} {p2} {p3} {p4} {p6} {l} depth n e g i = record {
  tokens = g.tokens;
  writes = dropped (brackets_written Brace p p6 l i.last g.tokens (wrote_both n.writes (wrote_and_none (same_writes p2 (record p4 { depth = depth }) e refl (at_depth depth g.writes.knows) g.writes) i.writes)));
  semicolon = refl;
  reading = g.reading;
  reads = g.reads.read true g.tokens (at_brace p4.pending_semicolon g.tokens);
  same = g.same;
}

-- round any items
pub filled_round : {names : Tables} {X : Type 0} {R : Bool → Tokens → X → Type 0} {Same : X → Type 0} (s : Span) (items : Items) → BegunAt names R Same items → (p : Pen) (l : Last) → p.pending_semicolon ≡ false → Knows names p l → GoodBraces names R Same p l (layout (filled_braces s items) p)
filled_round s items f p l z k =
    let p1 : Pen = written (opening Brace) other_end p in
    let p2 : Pen = layout soft_line p1 in
    let p3 : Pen = record p2 { depth = deeper_level p2.style.minified p2.depth } in
    let p4 : Pen = layout items p3 in
    let n = soft_line_written p1 (Open false) (within_brackets Brace p l k) in
    let g = f p3 n.last (n.semicolon ∙ z) (n.begun tt) (at_depth p3.depth n.writes.knows) in
    filled_parts p2.depth n refl g (gap (indentation_written (record p4 { depth = p2.depth }) g.last (at_depth p2.depth g.writes.knows)))

pub filled_written : {names : Tables} {X : Type 0} {R : Bool → Tokens → X → Type 0} {Same : X → Type 0} (s : Span) (items : Items) → StandsAt names R Same items → (p : Pen) (l : Last) → p.pending_semicolon ≡ false → Knows names p l → GoodBraces names R Same p l (layout (filled_braces s items) p)
filled_written s items f p l z k = filled_round s items (begun_at items f) p l z k

-- round nothing
pub empty_written : {names : Tables} {X : Type 0} {R : Bool → Tokens → X → Type 0} {Same : X → Type 0} (s : Span) (x : X) → R true done x → Same x → (p : Pen) (l : Last) → Knows names p l → GoodBraces names R Same p l (layout (empty_braces s) p)
empty_written s x n e p l k =
    let p1 : Pen = written (opening Brace) other_end p in
    record {
      tokens = done;
      writes = dropped (brackets_written Brace p p1 l (Open false) done (wrote_none p1 p1 (Open false) refl (within_brackets Brace p l k)));
      semicolon = refl;
      reading = x;
      reads = n;
      same = e;
    }

-- round any row, the empty one too
pub braces_round : {names : Tables} {R : Bool → Tokens → Trees → Type 0} → R true done no_trees → (s : Span) (ss : Trees) (items : Items) → BegunAt names R (SameTrees names ss) items → (p : Pen) (l : Last) → p.pending_semicolon ≡ false → Knows names p l → GoodBraces names R (SameTrees names ss) p l (layout (braces s ss items) p)
braces_round n s no_trees items row p l z k = empty_written s no_trees n refl p l k
braces_round n s (more t ss) items row p l z k = filled_round s items row p l z k
braces_round n s (hole ss) items row p l z k = filled_round s items row p l z k

pub braces_written : {names : Tables} {R : Bool → Tokens → Trees → Type 0} → R true done no_trees → (s : Span) (ss : Trees) (items : Items) → StandsAt names R (SameTrees names ss) items → (p : Pen) (l : Last) → p.pending_semicolon ≡ false → Knows names p l → GoodBraces names R (SameTrees names ss) p l (layout (braces s ss items) p)
braces_written n s ss items row p l z k = braces_round n s ss items (begun_at items row) p l z k

-- and round statements, where comments may stand too
pub block_written : {names : Tables} {R : Bool → Tokens → Trees → Type 0} → R true done no_trees → (s : Span) (ss : Trees) (items : Items) → StandsAt names R (SameTrees names ss) items → (p : Pen) (l : Last) → p.pending_semicolon ≡ false → Knows names p l → GoodBraces names R (SameTrees names ss) p l (layout (block_braces s ss items) p)
block_written n s no_trees items row p l z k = empty_written s no_trees n refl p l k
block_written n s (more t ss) items row p l z k = filled_written s items row p l z k
block_written n s (hole ss) items row p l z k = filled_written s items row p l z k

-- ---- blocks

-- the block is read whatever follows it
pub block_of : {names : Tables} {p q : Pen} {l : Last} {c : Allowed} {Same : Trees → Type 0} {Other : Tree → Type 0} (is_open : Bool) → ((ss : Trees) → Same ss → Other (tree.block (nothing_of 0) ss)) → GoodBraces names (ReadsStatements c) Same p l q → Stands names (ReadsClosed c is_open) Other p l q
block_of {l = l} is_open h g = record {
  last = Open false;
  tokens = group (line_of l) Brace g.tokens done;
  writes = g.writes;
  ready = tt;
  reading = tree.block (nothing_of 0) g.reading;
  reads = ends_itself g.semicolon (λ e before_else n. grammar.a_block g.reads);
  same = h g.reading g.same;
}

pub good_block : {names : Tables} (c : Allowed) (a : Atoms) (ss : Trees) → RowAt names c (spell_statements ss) ss → Stated names c (tree.block a ss)
good_block {names} c a ss row = record { among = indented_line (items ⊕ soft_line) (before_blank items soft_line alone soft_line_written); within = λ h. alone }
  where
    items : Items
    items = block_braces a.span ss (spell_statements ss)

    alone : StatedAt names c (tree.block a ss) items
    alone p l z y k = block_of false (λ us e. ap (λ ts. tree.block (nothing_of 0) ts) e) (block_written grammar.no_statement a.span ss (spell_statements ss) row p l z k)
