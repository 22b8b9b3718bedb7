-- Loops by `while`, and by `do`, whose body has its end before `while`.
use Rattle.std.proofs.Common.{◌≡◌, ℕ, Bool, true, false, codes, refl, sym, ap, ◌∙◌, subst}
use Rattle.std.proofs.lemmas.Bool.{both_ways}
use Rattle.jsgen_syntax.specs.declared.precedence.Precedence.TheVariants as levels
use Rattle.jsgen_tree.specs.declared.types.NodeType.TheVariants as types
use Rattle.jsgen_tree.specs.Job.{Tables}
use Rattle.jsgen_tree.specs.Inside.{ends_open}
use Rattle.jsgen_tree.specs.Tree.{Tree, node, no_trees, more, hole, Atoms, span_of}
use Rattle.jsgen_tree.specs.Nodes as tree
use Rattle.jsgen_model.specs.Punctuator.{Round, semicolon}
use Rattle.jsgen_model.specs.Tokens.{Tokens, done, piece, group, ◌⧺◌, Word}
use Rattle.jsgen_model.specs.Items.{Items, ◌⊕◌, word, brackets, punctuator, soft_space, soft_line, due_semicolon}
use Rattle.jsgen_model.specs.Layout.{Pen, layout, deeper_level}
use Rattle.jsgen_model.specs.Grammar.{Allowed, ReadsStatement}
use Rattle.jsgen_model.specs.Grammar as grammar
use Rattle.jsgen_model.specs.Normal.{nothing_of}
use Rattle.jsgen_place.specs.Place.{among_statements, within_statement, in_brackets}
use Rattle.jsgen_model.specs.Spell.{spell, shape, body_items, do_items}
use Rattle.jsgen_place.specs.declared.shape.Shape.{Shape}
use Rattle.jsgen_place.specs.declared.shape.Shape.TheVariants as shapes
use Rattle.jsgen_token_laws.proofs.Characters.{letters_spelled}
use Rattle.jsgen_token_laws.proofs.Last.{Last, Open, After, line_of, Ready, Knows}
use Rattle.jsgen_token_laws.proofs.Writes.{Writes, wrote_both, wrote_and_none, same_writes}
use Rattle.jsgen_token_laws.proofs.Steps.{Gap, gap, wrote_word, soft_space_written, soft_line_written, indentation_written}
use Rattle.jsgen_row_laws.proofs.Good.{Printed}
use Rattle.jsgen_row_laws.proofs.Ends.{Ended, Due, due_ends}
use Rattle.jsgen_row_laws.proofs.Stands.{Stands, Unended, UnendedAt, StatedAt, ReadsClosed, goes_on, Stated, stated_among, SameTree, behind_tokens, indented_line, whole_line}
use Rattle.jsgen_row_laws.proofs.Blocks.{at_depth}
use Rattle.jsgen_row_laws.proofs.Bodies.{EmptyAlone, good_semicolon, good_body}
use Rattle.jsgen_row_laws.proofs.Heads.{GoodHead, head_items, good_head}

while_head : {names : Tables} (c : Allowed) (t : Tree) → Printed names c t → (p : Pen) (l : Last) → p.pending_semicolon ≡ false → Knows names p l → GoodHead names (codes "while") p l (layout (head_items (codes "while") t) p) c t
while_head = good_head (codes "while") (letters_spelled 119 (codes "hile") refl)

-- ---- `while`

abbrev while_items : Tree → Tree → Items
while_items t s = word (codes "while") ⊕ (soft_space ⊕ (brackets Round (spell t (in_brackets levels.Lowest)) ⊕ body_items (shape s) (spell s within_statement) (spell s among_statements)))

pub good_while : {names : Tables} (c : Allowed) (a : Atoms) (t s : Tree) → Printed names c t → EmptyAlone names s → Stated names c s → Stated names c (tree.while_statement a t s)
good_while {names} c a t s f m g = stated_among refl (indented_line (while_items t s) inside)
  where
    inside : StatedAt names c (tree.while_statement a t s) (while_items t s)
    inside p l z y k =
        let h = while_head c t f p l z k in
        behind_tokens (piece (line_of l) (Word (codes "while")) (group h.next Round h.tokens done)) (λ u. tree.while_statement (nothing_of 0) h.reading u) h.writes (λ e ts u r before_else n. grammar.a_while h.reads (r before_else n)) (λ u m i. tree.while_statement (nothing_of 0) (h.same i) (m i))
        (good_body c s m g (layout (head_items (codes "while") t) p) (Open false) h.semicolon tt h.writes.knows)

-- ---- bodies with their end

-- between two pens stands a statement with its end, behind which no semicolon is due
record Finished (names : Tables) (c : Allowed) (t : Tree) (p : Pen) (l : Last) (q : Pen) : Type 0 where
  last : Last
  tokens : Tokens
  writes : Writes names p l q last tokens
  semicolon : q.pending_semicolon ≡ false
  reading : Tree
  reads : ReadsStatement c false false tokens reading
  same : SameTree names t reading

finished_itself : {names : Tables} {c : Allowed} {is_open : Bool} {t : Tree} {p q : Pen} {l : Last} → Stands names (ReadsClosed c is_open) (SameTree names t) p l q → q.pending_semicolon ≡ false → Finished names c t p l q
finished_itself g z = record {
  last = g.last;
  tokens = g.tokens;
  writes = g.writes;
  semicolon = z;
  reading = g.reading;
  reads = g.reads.read false g.tokens (subst (λ left. Ended left false g.tokens g.tokens) (sym z) refl) false (λ h. absurd (both_ways false refl h));
  same = g.same;
}

finished_due : {names : Tables} {c : Allowed} {is_open : Bool} {t : Tree} {p q r : Pen} {l : Last} → (g : Stands names (ReadsClosed c is_open) (SameTree names t) p l q) → Due names q g.last r → Finished names c t p l r
finished_due g d = record {
  last = d.last;
  tokens = g.tokens ⧺ d.tokens;
  writes = wrote_both g.writes d.writes;
  semicolon = d.semicolon;
  reading = g.reading;
  reads = g.reads.read false (g.tokens ⧺ d.tokens) (d.ends g.tokens) false (λ h. absurd (both_ways false refl h));
  same = g.same;
}

-- blanks before it, and behind it
finished_before : {names : Tables} {c : Allowed} {t : Tree} {p q r : Pen} {l : Last} → (n : Gap names p l q) → Finished names c t q n.last r → Finished names c t p l r
finished_before n g = record { last = g.last; tokens = g.tokens; writes = wrote_both n.writes g.writes; semicolon = g.semicolon; reading = g.reading; reads = g.reads; same = g.same }

finished_behind : {names : Tables} {c : Allowed} {t : Tree} {p q r : Pen} {l : Last} → (g : Finished names c t p l q) → Gap names q g.last r → Finished names c t p l r
finished_behind g n = record { last = n.last; tokens = g.tokens; writes = wrote_and_none g.writes n.writes; semicolon = n.semicolon ∙ g.semicolon; reading = g.reading; reads = g.reads; same = g.same }

-- at another depth
finished_deeper : {names : Tables} {c : Allowed} {t : Tree} {p p1 p2 : Pen} {l : Last} (depth : ℕ) → p1.code ≡ p.code → Finished names c t p1 l p2 → Finished names c t p l (record p2 { depth = depth })
finished_deeper {p = p} {p2 = p2} depth e g = record {
  last = g.last;
  tokens = g.tokens;
  writes = same_writes p (record p2 { depth = depth }) e refl (at_depth depth g.writes.knows) g.writes;
  semicolon = g.semicolon;
  reading = g.reading;
  reads = g.reads;
  same = g.same;
}

-- no semicolon is due behind a block
block_left : (t : Tree) → shape t ≡ shapes.Block → (p : Pen) → p.pending_semicolon ≡ false → (layout (spell t within_statement) p).pending_semicolon ≡ false
block_left (tree.block a no_trees) i p z = refl
block_left (tree.block a (more s ss)) i p z = refl
block_left (tree.block a (hole ss)) i p z = refl
block_left (node types.BlockStatement a slots) i p z = z
block_left t i p z = absurd (both_ways (is_block (shape t)) refl (ap is_block i))
  where
    is_block : Shape → Bool
    is_block shapes.Block = true
    is_block s = false

good_finished : {names : Tables} (c : Allowed) (t : Tree) → EmptyAlone names t → Stated names c t → (p : Pen) (l : Last) → p.pending_semicolon ≡ false → Ready l → Knows names p l → Finished names c t p l (layout (do_items (span_of t) (shape t) (spell t within_statement) (spell t among_statements)) p)
good_finished {names} c t m f p l z y k = by_shape (shape t) refl
  where
    inner : Items
    inner = spell t within_statement

    whole : Items
    whole = spell t among_statements

    by_shape : (s : Shape) → shape t ≡ s → Finished names c t p l (layout (do_items (span_of t) s inner whole) p)
    by_shape shapes.Block i =
        let p1 : Pen = layout soft_space p in
        let n = soft_space_written p l k in
        let g = f.within (ap goes_on i) p1 n.last (n.semicolon ∙ z) (n.ready y) n.writes.knows in
        let d : Finished names c t p1 n.last (layout inner p1) = finished_itself g (block_left t i p1 (n.semicolon ∙ z)) in
        finished_before (gap n) (finished_behind d (gap (soft_space_written (layout inner p1) d.last d.writes.knows)))
    by_shape shapes.Empty i =
        let p1 : Pen = layout (punctuator semicolon) p in
        let d : Finished names c t p l p1 = finished_itself (good_semicolon c (ends_open t) (sym (m i)) p l z y k) z in
        let n = finished_behind d (soft_line_written p1 d.last d.writes.knows) in
        finished_behind n (gap (indentation_written (layout soft_line p1) n.last n.writes.knows))
    by_shape s i =
        let p1 : Pen = layout soft_line p in
        let p2 : Pen = record p1 { depth = deeper_level p1.style.minified p1.depth } in
        let p3 : Pen = layout whole p2 in
        let p4 : Pen = record (layout due_semicolon p3) { depth = p1.depth } in
        let n = soft_line_written p l k in
        let g = f.among p2 n.last (n.semicolon ∙ z) (n.ready y) (at_depth p2.depth n.writes.knows) in
        let d : Finished names c t p1 n.last p4 = finished_deeper p1.depth refl (finished_due g (due_ends p3 g.last g.ready g.writes.knows)) in
        finished_before n (finished_behind d (gap (indentation_written p4 d.last d.writes.knows)))

-- ---- `do`

abbrev do_while_items : Tree → Tree → Items
do_while_items s t = word (codes "do") ⊕ (do_items (span_of s) (shape s) (spell s within_statement) (spell s among_statements) ⊕ head_items (codes "while") t)

do_while_parts : {names : Tables} {p p1 p2 q : Pen} {l : Last} (c : Allowed) (a : Atoms) (s t : Tree) → Writes names p l p1 (After (Word (codes "do"))) (piece (line_of l) (Word (codes "do")) done) → (b : Finished names c s p1 (After (Word (codes "do"))) p2) → GoodHead names (codes "while") p2 b.last q c t → Unended names (ReadsClosed c false) (SameTree names (tree.do_while_statement a s t)) p l q
do_while_parts {l = l} c a s t o b h = record {
  last = Open false;
  tokens = piece (line_of l) (Word (codes "do")) (b.tokens ⧺ piece (line_of b.last) (Word (codes "while")) (group h.next Round h.tokens done));
  writes = wrote_both o (wrote_both b.writes h.writes);
  ready = tt;
  semicolon = h.semicolon;
  reading = tree.do_while_statement (nothing_of 0) b.reading h.reading;
  reads = record { read = λ last ts e before_else n. grammar.a_do_while (line_of b.last) h.next e refl b.reads h.reads };
  same = λ i. tree.do_while_statement (nothing_of 0) (b.same i) (h.same i);
}

pub good_do_while : {names : Tables} (c : Allowed) (a : Atoms) (s t : Tree) → EmptyAlone names s → Stated names c s → Printed names c t → Stated names c (tree.do_while_statement a s t)
good_do_while {names} c a s t m f g = stated_among refl (whole_line (do_while_items s t) inside)
  where
    inside : UnendedAt names (ReadsClosed c false) (SameTree names (tree.do_while_statement a s t)) (do_while_items s t)
    inside p l z y k =
        let p1 : Pen = layout (word (codes "do")) p in
        let p2 : Pen = layout (do_items (span_of s) (shape s) (spell s within_statement) (spell s among_statements)) p1 in
        let o = wrote_word (codes "do") p l (letters_spelled 100 (codes "o") refl) k in
        let b = good_finished c s m f p1 (After (Word (codes "do"))) z tt o.knows in
        do_while_parts c a s t o b (while_head c t g p2 b.last b.semicolon b.writes.knows)
