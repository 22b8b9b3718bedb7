-- Sequences. A part that is a sequence itself is printed without parentheses, and so it is read as its own parts.
use Rattle.std.proofs.Common.{◌≡◌, Bool, false, refl, sym, ap, ◌∙◌, arith, subst₂}
use Rattle.jsgen_syntax.specs.declared.precedence.Precedence.TheVariants as levels
use Rattle.jsgen_tree.specs.Job.{Tables}
use Rattle.jsgen_tree.specs.Tree.{Tree, Trees, no_trees, more, Atoms}
use Rattle.jsgen_tree.specs.Nodes as tree
use Rattle.jsgen_model.specs.Punctuator.{comma}
use Rattle.jsgen_model.specs.Tokens.{Tokens, done, piece, ◌⧺◌, Sign}
use Rattle.jsgen_model.specs.Items.{Items, soft_space, punctuator}
use Rattle.jsgen_model.specs.Layout.{Pen, layout}
use Rattle.jsgen_model.specs.Grammar.{Allowed, Level, ReadsExpression, ReadsParts}
use Rattle.jsgen_model.specs.Grammar as grammar
use Rattle.jsgen_model.specs.Normal.{normal, normal_trees, nothing_of, joined, parts_of, flattened}
use Rattle.jsgen_model.specs.Renamed.{renamed, renamed_trees}
use Rattle.jsgen_place.specs.declared.place.Place.{Place}
use Rattle.jsgen_place.specs.Place.{child, with_calls, wraps}
use Rattle.jsgen_model.specs.Spell.{spell, spell_more, spell_list}
use Rattle.jsgen_token_laws.proofs.Last.{Last, After, line_of, Operand, Knows}
use Rattle.jsgen_token_laws.proofs.Writes.{Writes, wrote_both, then_assoc, wrote_none, then_done}
use Rattle.jsgen_token_laws.proofs.Steps.{Soft, wrote_punctuator, soft_space_written}
use Rattle.jsgen_row_laws.proofs.Levels.{number_of, operation_number, under, unwrapped}
use Rattle.jsgen_row_laws.proofs.Joined.{joined_nothing, joined_normal, flattened_joined}
use Rattle.jsgen_row_laws.proofs.Good.{Good, Printed, begins_then, line_then, PrintedBy, good_wrapped, good_within}

-- ---- parts that are read

-- parts, a comma and more parts
parts_then : {c : Allowed} {a b : Tokens} {us vs : Trees} (mark : Bool) → ReadsParts c a us → ReadsParts c b vs → ReadsParts c (a ⧺ piece mark (Sign comma) b) (joined us vs)
parts_then mark (grammar.last_part r) s = grammar.first_part mark refl r s
parts_then {b = b} mark (grammar.first_part {a = d} {b = f} m e r t) s = grammar.first_part m (ap (λ ts. ts ⧺ piece mark (Sign comma) b) e ∙ then_assoc d (piece m (Sign comma) f) (piece mark (Sign comma) b)) r (parts_then mark t s)

-- are a sequence
sequence_read : {c : Allowed} {a b : Tokens} {us vs : Trees} (mark : Bool) → ReadsParts c a us → ReadsParts c b vs → ReadsExpression c grammar.Expression (a ⧺ piece mark (Sign comma) b) (tree.sequence (nothing_of 0) (joined us vs))
sequence_read mark (grammar.last_part r) s = grammar.a_sequence mark refl r s
sequence_read {b = b} mark (grammar.first_part {a = d} {b = f} m e r t) s = grammar.a_sequence m (ap (λ ts. ts ⧺ piece mark (Sign comma) b) e ∙ then_assoc d (piece m (Sign comma) f) (piece mark (Sign comma) b)) r (parts_then mark t s)

-- what is read as an expression is read as the parts that it adds to a sequence
abbrev AsParts : Allowed → Tokens → Tree → Type 0
AsParts c ts u = (us : Trees) × ReadsParts c ts us × (parts_of (normal u) ≡ flattened (normal_trees us))

as_parts : {c : Allowed} {g : Level} {ts : Tokens} {u : Tree} → g ≡ grammar.Expression → ReadsExpression c g ts u → AsParts c ts u
as_parts {u = u} d (grammar.an_assignment r) = (more u no_trees, grammar.last_part r, sym (joined_nothing (parts_of (normal u))))
as_parts d (grammar.a_sequence {t = t} {us = us} m e r s) = (more t us, grammar.first_part m e r s, refl)
as_parts d (grammar.an_operation o m p h q s t) = absurd (omega (arith, operation_number o, ap number_of d))
as_parts d r = absurd (omega (arith, ap number_of d))

-- the normal form of parts of which the first ones are read so
flattened_more : (us vs : Trees) (x t : Tree) (ts : Trees) → parts_of (normal x) ≡ flattened (normal_trees us) → normal x ≡ normal t → flattened (normal_trees vs) ≡ flattened (normal_trees ts) → flattened (normal_trees (joined us vs)) ≡ flattened (normal_trees (more t ts))
flattened_more us vs x t ts e f g =
    let first : flattened (normal_trees us) ≡ parts_of (normal t) = sym e ∙ ap parts_of f in
    ap flattened (joined_normal us vs) ∙ (flattened_joined (normal_trees us) (normal_trees vs) ∙ (λ i. joined (first i) (g i)))

-- ---- parts that are printed

-- behind parts that are read stand more
pub record MoreParts (names : Tables) (p : Pen) (l : Last) (q : Pen) (c : Allowed) (ts : Trees) : Type 0 where
  pub last : Last
  pub tokens : Tokens
  pub writes : Writes names p l q last tokens
  pub operand : Operand last
  pub semicolon : q.pending_semicolon ≡ false
  pub trees : Trees
  pub reads : (a : Tokens) (us : Trees) → ReadsParts c a us → ReadsParts c (a ⧺ tokens) (joined us trees)
  pub same : flattened (normal_trees trees) ≡ flattened (normal_trees (renamed_trees names ts))

abbrev pub MorePartsAt : Tables → Allowed → Trees → Type 0
MorePartsAt names c ts = (place : Place) (p : Pen) (l : Last) → p.pending_semicolon ≡ false → Operand l → Knows names p l → MoreParts names p l (layout (spell_more ts (with_calls (child levels.Lowest place))) p) (under place c) ts

pub no_more_parts : {names : Tables} (c : Allowed) → MorePartsAt names c no_trees
no_more_parts c place p l z o k = record {
  last = l;
  tokens = done;
  writes = wrote_none p p l refl k;
  operand = o;
  semicolon = z;
  trees = no_trees;
  reads = λ a us r. subst₂ (λ ts vs. ReadsParts (under place c) ts vs) (sym (then_done a)) (sym (joined_nothing us)) r;
  same = refl;
}

more_parts : {names : Tables} {c : Allowed} (t : Tree) (ts : Trees) {p p1 p2 p3 q : Pen} {l : Last} → Writes names p l p1 (After (Sign comma)) (piece (line_of l) (Sign comma) done) → (n : Soft names p1 (After (Sign comma)) p2) (g : Good names p2 n.last p3 c grammar.Expression t) → MoreParts names p3 g.last q c ts → MoreParts names p l q c (more t ts)
more_parts {names} t ts {l = l} o n g m =
    let k = as_parts refl g.reads in
    record {
      last = m.last;
      tokens = piece (line_of l) (Sign comma) (g.tokens ⧺ m.tokens);
      writes = wrote_both o (wrote_both n.writes (wrote_both g.writes m.writes));
      operand = m.operand;
      semicolon = m.semicolon;
      trees = joined k.0 m.trees;
      reads = λ a us r. parts_then (line_of l) r (m.reads g.tokens k.0 k.1);
      same = flattened_more k.0 m.trees g.tree (renamed names t) (renamed_trees names ts) k.2 g.same m.same;
    }

pub one_more_part : {names : Tables} (c : Allowed) (t : Tree) (ts : Trees) → Printed names c t → MorePartsAt names c ts → MorePartsAt names c (more t ts)
one_more_part c t ts f h place p l z o k =
    let at : Place = with_calls (child levels.Lowest place) in
    let p1 : Pen = layout (punctuator comma) p in
    let p2 : Pen = layout soft_space p1 in
    let w = wrote_punctuator comma p l tt tt o k in
    let n = soft_space_written p1 (After (Sign comma)) w.knows in
    let g = f at p2 n.last (n.semicolon ∙ z) (n.ready tt) n.writes.knows in
    more_parts t ts w n g (h place (layout (spell t at) p2) g.last g.semicolon g.operand g.writes.knows)

-- ---- the whole

sequence_parts : {names : Tables} {c : Allowed} (a : Atoms) (t u : Tree) (ts : Trees) {p p1 p2 p3 p4 q : Pen} {l : Last} → (g : Good names p l p1 c grammar.Expression t) → Writes names p1 g.last p2 (After (Sign comma)) (piece (line_of g.last) (Sign comma) done) → (n : Soft names p2 (After (Sign comma)) p3) (h : Good names p3 n.last p4 c grammar.Expression u) → MoreParts names p4 h.last q c ts → Good names p l q c grammar.Expression (tree.sequence a (more t (more u ts)))
sequence_parts {names} a t u ts {p} g o n h m =
    let j = as_parts refl g.reads in
    let k = as_parts refl h.reads in
    let others : Tokens = piece (line_of g.last) (Sign comma) (h.tokens ⧺ m.tokens) in
    record {
      last = m.last;
      tokens = g.tokens ⧺ others;
      writes = wrote_both g.writes (wrote_both o (wrote_both n.writes (wrote_both h.writes m.writes)));
      operand = m.operand;
      semicolon = m.semicolon;
      begins = λ d e. begins_then p.start g.tokens others d g.begins refl;
      line = λ e. line_then g.tokens others (g.line e);
      tree = tree.sequence (nothing_of 0) (joined j.0 (joined k.0 m.trees));
      reads = sequence_read (line_of g.last) j.1 (m.reads h.tokens k.0 k.1);
      same = ap (λ us. tree.sequence (nothing_of 0) us) (flattened_more j.0 (joined k.0 m.trees) g.tree (renamed names t) (renamed_trees names (more u ts)) j.2 g.same (flattened_more k.0 m.trees h.tree (renamed names u) (renamed_trees names ts) k.2 h.same m.same));
    }

-- what is forbidden outside its parentheses stays forbidden in them
pub good_sequence : {names : Tables} (c : Allowed) (a : Atoms) (t u : Tree) (ts : Trees) → Printed names c t → Printed names c u → MorePartsAt names c ts → Printed names c (tree.sequence a (more t (more u ts)))
good_sequence {names} c a t u ts f g h place =
    good_wrapped c place grammar.Expression (wraps levels.Comma place) (λ w. items) (tree.sequence a (more t (more u ts)))
    (λ d ts u r. r) (λ e ts u r. unwrapped levels.Comma place e r) (λ v e p l z y k. good_within c place v (inner p l z y k))
  where
    at : Place
    at = with_calls (child levels.Lowest place)

    items : Items
    items = spell_list (more t (more u ts)) at

    inner : PrintedBy names (under place c) grammar.Expression items (tree.sequence a (more t (more u ts)))
    inner p l z y k =
        let p1 : Pen = layout (spell t at) p in
        let p2 : Pen = layout (punctuator comma) p1 in
        let p3 : Pen = layout soft_space p2 in
        let i = f at p l z y k in
        let o = wrote_punctuator comma p1 i.last tt tt i.operand i.writes.knows in
        let n = soft_space_written p2 (After (Sign comma)) o.knows in
        let j = g at p3 n.last (n.semicolon ∙ i.semicolon) (n.ready tt) n.writes.knows in
        sequence_parts a t u ts i o n j (h place (layout (spell u at) p3) j.last j.semicolon j.operand j.writes.knows)
