-- Lists in which members may be left out, on one line or each on a line of its own, whatever the members are.
use Rattle.std.proofs.Common.{◌≡◌, ℕ, Bool, true, false, refl, sym, ap, subst, ◌∙◌}
use Rattle.jsgen_tree.specs.Job.{Tables}
use Rattle.jsgen_tree.specs.Tree.{Tree, Trees, no_trees, more, hole, span_of}
use Rattle.jsgen_model.specs.Punctuator.{comma}
use Rattle.jsgen_model.specs.Tokens.{Tokens, done, piece, ◌⧺◌, Sign}
use Rattle.jsgen_model.specs.Items.{Items, ◌⊕◌, punctuator, deeper, soft_space, soft_line}
use Rattle.jsgen_model.specs.Layout.{Pen, layout, deeper_level}
use Rattle.jsgen_model.specs.Normal.{normal_trees}
use Rattle.jsgen_model.specs.Renamed.{renamed, renamed_trees}
use Rattle.jsgen_place.specs.declared.place.Place.{Place}
use Rattle.jsgen_model.specs.Spell.{spell, spell_elements, spell_more_elements, spell_properties, spell_more_properties, next_line, line_or_space, before_member, on_lines, ends_in_hole, comma_if, object_inside}
use Rattle.jsgen_token_laws.proofs.Last.{Last, After, line_of, Begun, Knows}
use Rattle.jsgen_token_laws.proofs.Writes.{Writes, wrote_none, wrote_both, wrote_and_none}
use Rattle.jsgen_token_laws.proofs.Steps.{Gap, gap, wrote_comma, soft_space_written, soft_line_written, indentation_written}
use Rattle.jsgen_row_laws.proofs.Lists.{ElementAt, same_more}

-- between two pens stands a list, and a bracket behind it
pub record Inside (names : Tables) (L : Tokens → Trees → Type 0) (p : Pen) (l : Last) (q : Pen) (ts : Trees) : Type 0 where
  pub last : Last
  pub tokens : Tokens
  pub writes : Writes names p l q last tokens
  pub semicolon : q.pending_semicolon ≡ false
  pub trees : Trees
  pub reads : L tokens trees
  pub same : normal_trees trees ≡ normal_trees (renamed_trees names ts)

-- items that give the list, from any pen at which a member may begin
abbrev pub InsideOf : Tables → (Tokens → Trees → Type 0) → Items → Trees → Type 0
InsideOf names L items ts = (p : Pen) (l : Last) → p.pending_semicolon ≡ false → Begun l → Knows names p l → Inside names L p l (layout items p) ts

-- a list at one place
abbrev pub InsideAt : Tables → (Tokens → Trees → Type 0) → Bool → Place → Trees → Type 0
InsideAt names L lines place ts = InsideOf names L (spell_elements lines ts place ⊕ comma_if (ends_in_hole ts)) ts

-- ---- blanks between members

-- one blank behind another
both_gaps : {names : Tables} {p q r : Pen} {l : Last} → (a : Gap names p l q) → Gap names q a.last r → Gap names p l r
both_gaps a b = record { last = b.last; writes = wrote_both a.writes b.writes; ready = λ y. b.ready (a.ready y); begun = λ y. b.begun (a.begun y); semicolon = b.semicolon ∙ a.semicolon }

next_line_written : {names : Tables} (p : Pen) (l : Last) → Knows names p l → Gap names p l (layout next_line p)
next_line_written p l k =
    let a = soft_line_written p l k in
    both_gaps a (gap (indentation_written (layout soft_line p) a.last a.writes.knows))

between_written : {names : Tables} (lines : Bool) (p : Pen) (l : Last) → Knows names p l → Gap names p l (layout (line_or_space lines) p)
between_written true p l k = next_line_written p l k
between_written false p l k = gap (soft_space_written p l k)

-- ---- members

pub nothing_inside : {names : Tables} (L : Tokens → Trees → Type 0) → L done no_trees → (lines : Bool) (place : Place) → InsideAt names L lines place no_trees
nothing_inside L r lines place p l z b k = record { last = l; tokens = done; writes = wrote_none p p l refl k; semicolon = z; trees = no_trees; reads = r; same = refl }

pub last_inside : {names : Tables} (R : Tokens → Tree → Type 0) (L : Tokens → Trees → Type 0) → ((ts : Tokens) (t : Tree) → R ts t → L ts (more t no_trees)) → (lines : Bool) (place : Place) (t : Tree) → ElementAt names R place t → InsideAt names L lines place (more t no_trees)
last_inside R L one lines place t f p l z b k =
    let g = f p l z b k in
    record { last = g.last; tokens = g.tokens; writes = g.writes; semicolon = g.semicolon; trees = more g.tree no_trees; reads = one g.tokens g.tree g.reads; same = ap (λ u. more u no_trees) g.same }

-- a member, its comma, a blank and the others
first_parts : {names : Tables} (R : Tokens → Tree → Type 0) (L : Tokens → Trees → Type 0) → ((mark : Bool) (a b : Tokens) (t : Tree) (us : Trees) → R a t → L b us → L (a ⧺ piece mark (Sign comma) b) (more t us)) → (lines : Bool) (place : Place) (t : Tree) (ts : Trees) (items : Items) → ElementAt names R place t → InsideOf names L items ts
    → (p : Pen) (l : Last) → p.pending_semicolon ≡ false → Begun l → Knows names p l → Inside names L p l (layout items (layout (line_or_space lines) (layout (punctuator comma) (layout (spell t place) p)))) (more t ts)
first_parts {names} R L join lines place t ts items f h p l z b k =
    let p1 : Pen = layout (spell t place) p in
    let p2 : Pen = layout (punctuator comma) p1 in
    let p3 : Pen = layout (line_or_space lines) p2 in
    let g = f p l z b k in
    let w = wrote_comma p1 g.last g.writes.knows in
    let n = between_written lines p2 (After (Sign comma)) w.knows in
    let r = h p3 n.last (n.semicolon ∙ g.semicolon) (n.begun tt) n.writes.knows in
    record {
      last = r.last;
      tokens = g.tokens ⧺ piece (line_of g.last) (Sign comma) r.tokens;
      writes = wrote_both g.writes (wrote_both w (wrote_both n.writes r.writes));
      semicolon = r.semicolon;
      trees = more g.tree r.trees;
      reads = join (line_of g.last) g.tokens r.tokens g.tree r.trees g.reads r.reads;
      same = same_more g.tree (renamed names t) r.trees (renamed_trees names ts) g.same r.same;
    }

-- before others
pub first_inside : {names : Tables} (R : Tokens → Tree → Type 0) (L : Tokens → Trees → Type 0) → ((ts : Tokens) (t : Tree) → R ts t → L ts (more t no_trees)) → ((mark : Bool) (a b : Tokens) (t : Tree) (us : Trees) → R a t → L b us → L (a ⧺ piece mark (Sign comma) b) (more t us)) → (lines : Bool) (place : Place) (t : Tree) (ts : Trees) → ElementAt names R place t → InsideAt names L lines place ts → InsideAt names L lines place (more t ts)
first_inside R L one join lines place t no_trees f h = last_inside R L one lines place t f
first_inside R L one join lines place t (more u us) f h = first_parts R L join lines place t (more u us) (spell_elements lines (more u us) place ⊕ comma_if (ends_in_hole (more u us))) f h
first_inside R L one join lines place t (hole us) f h = first_parts R L join lines place t (hole us) (spell_elements lines (hole us) place ⊕ comma_if (ends_in_hole (hole us))) f h

-- one that is left out: its comma, a blank and the others
hole_parts : {names : Tables} (L : Tokens → Trees → Type 0) → ((mark : Bool) (b : Tokens) (us : Trees) → L b us → L (piece mark (Sign comma) b) (hole us)) → (lines : Bool) (ts : Trees) (items : Items) → InsideOf names L items ts
    → (p : Pen) (l : Last) → p.pending_semicolon ≡ false → Begun l → Knows names p l → Inside names L p l (layout items (layout (line_or_space lines) (layout (punctuator comma) p))) (hole ts)
hole_parts L skip lines ts items h p l z b k =
    let p2 : Pen = layout (punctuator comma) p in
    let p3 : Pen = layout (line_or_space lines) p2 in
    let w = wrote_comma p l k in
    let n = between_written lines p2 (After (Sign comma)) w.knows in
    let r = h p3 n.last (n.semicolon ∙ z) (n.begun tt) n.writes.knows in
    record {
      last = r.last;
      tokens = piece (line_of l) (Sign comma) r.tokens;
      writes = wrote_both w (wrote_both n.writes r.writes);
      semicolon = r.semicolon;
      trees = hole r.trees;
      reads = skip (line_of l) r.tokens r.trees r.reads;
      same = ap (λ us. hole us) r.same;
    }

pub hole_inside : {names : Tables} (L : Tokens → Trees → Type 0) → L done no_trees → ((mark : Bool) (b : Tokens) (us : Trees) → L b us → L (piece mark (Sign comma) b) (hole us)) → (lines : Bool) (place : Place) (ts : Trees) → InsideAt names L lines place ts → InsideAt names L lines place (hole ts)
hole_inside L r skip lines place no_trees h p l z b k =
    let w = wrote_comma p l k in
    record { last = After (Sign comma); tokens = piece (line_of l) (Sign comma) done; writes = w; semicolon = z; trees = hole no_trees; reads = skip (line_of l) done no_trees r; same = refl }
hole_inside L r skip lines place (more u us) h p l z b k = hole_parts L skip lines (more u us) (spell_elements lines (more u us) place ⊕ comma_if (ends_in_hole (more u us))) h p l z b k
hole_inside L r skip lines place (hole us) h p l z b k = hole_parts L skip lines (hole us) (spell_elements lines (hole us) place ⊕ comma_if (ends_in_hole (hole us))) h p l z b k

-- ---- on lines of their own

-- the depth doesn't matter
at_depth : {names : Tables} {p : Pen} {l : Last} (depth : ℕ) → Knows names p l → Knows names (record p { depth = depth }) l
at_depth depth k = record { indent = k.indent; tables = k.tables; ending = k.ending }

-- behind a blank one level deeper, and before a line end
lined : {names : Tables} (L : Tokens → Trees → Type 0) (lines : Bool) (items : Items) (ts : Trees) → InsideOf names L items ts → InsideOf names L (deeper (line_or_space lines ⊕ items) ⊕ next_line) ts
lined L lines items ts f p l z b k =
    let p1 : Pen = record p { depth = deeper_level p.style.minified p.depth } in
    let p2 : Pen = layout (line_or_space lines) p1 in
    let p3 : Pen = layout items p2 in
    let p4 : Pen = record p3 { depth = p.depth } in
    let w = wrote_none p p1 l refl (at_depth p1.depth k) in
    let n = between_written lines p1 l w.knows in
    let g = f p2 n.last (n.semicolon ∙ z) (n.begun b) n.writes.knows in
    let v = wrote_none p3 p4 g.last refl (at_depth p.depth g.writes.knows) in
    let m = next_line_written p4 g.last v.knows in
    record {
      last = m.last;
      tokens = g.tokens;
      writes = wrote_and_none (wrote_both w (wrote_both n.writes g.writes)) (wrote_both v m.writes);
      semicolon = m.semicolon ∙ g.semicolon;
      trees = g.trees;
      reads = g.reads;
      same = g.same;
    }

-- or not
pub inside_lines : {names : Tables} (L : Tokens → Trees → Type 0) (lines : Bool) (items : Items) (ts : Trees) → InsideOf names L items ts → InsideOf names L (on_lines lines items) ts
inside_lines L true items ts f = lined L true items ts f
inside_lines L false items ts f = f

-- ---- in the braces of an object

-- behind a blank, and before a space
padded : {names : Tables} (L : Tokens → Trees → Type 0) (lines : Bool) (items : Items) (ts : Trees) → InsideOf names L items ts → InsideOf names L (line_or_space lines ⊕ (items ⊕ soft_space)) ts
padded L lines items ts f p l z b k =
    let p1 : Pen = layout (line_or_space lines) p in
    let p2 : Pen = layout items p1 in
    let a = between_written lines p l k in
    let g = f p1 a.last (a.semicolon ∙ z) (a.begun b) a.writes.knows in
    let s = soft_space_written p2 g.last g.writes.knows in
    record {
      last = s.last;
      tokens = g.tokens;
      writes = wrote_and_none (wrote_both a.writes g.writes) s.writes;
      semicolon = s.semicolon ∙ g.semicolon;
      trees = g.trees;
      reads = g.reads;
      same = g.same;
    }

-- one alone, and more than one; a blank stands before the first as before the others
abbrev braced : Bool → Trees → Items → Items
braced lines no_trees items = items
braced lines (more t no_trees) items = line_or_space lines ⊕ (items ⊕ soft_space)
braced lines (hole no_trees) items = line_or_space lines ⊕ (items ⊕ soft_space)
braced lines ts items = deeper (line_or_space lines ⊕ items) ⊕ next_line

inside_braced : {names : Tables} (L : Tokens → Trees → Type 0) (lines : Bool) (items : Items) (ts : Trees) → InsideOf names L items ts → InsideOf names L (braced lines ts items) ts
inside_braced L lines items no_trees f = f
inside_braced L lines items (more t no_trees) f = padded L lines items (more t no_trees) f
inside_braced L lines items (more t (more u us)) f = lined L lines items (more t (more u us)) f
inside_braced L lines items (more t (hole us)) f = lined L lines items (more t (hole us)) f
inside_braced L lines items (hole no_trees) f = padded L lines items (hole no_trees) f
inside_braced L lines items (hole (more u us)) f = lined L lines items (hole (more u us)) f
inside_braced L lines items (hole (hole us)) f = lined L lines items (hole (hole us)) f

-- the text has no comments before members
before_member_laid : (lines : Bool) (start : ℕ) (p : Pen) → layout (before_member lines start) p ≡ layout (line_or_space lines) p
before_member_laid true start p = refl
before_member_laid false start p = refl

more_laid : (lines : Bool) (place : Place) (ts : Trees) (p : Pen) → layout (spell_more_properties lines ts place) p ≡ layout (spell_more_elements lines ts place) p
more_laid lines place no_trees p = refl
more_laid lines place (more t ts) p =
    let p1 : Pen = layout (punctuator comma) p in
    ap (λ q. layout (spell_more_properties lines ts place) (layout (spell t place) q)) (before_member_laid lines (span_of t).start p1) ∙ more_laid lines place ts (layout (spell t place) (layout (line_or_space lines) p1))
more_laid lines place (hole ts) p = more_laid lines place ts (layout (line_or_space lines) (layout (punctuator comma) p))

-- the members of an object, and those of any list
abbrev pub members : Bool → Trees → Place → Items
members lines ts place = spell_properties lines ts place ⊕ comma_if (ends_in_hole ts)

abbrev elements : Bool → Trees → Place → Items
elements lines ts place = spell_elements lines ts place ⊕ comma_if (ends_in_hole ts)

first_laid : (lines : Bool) (place : Place) (t : Tree) (ts : Trees) (p : Pen) → layout (members lines (more t ts) place) p ≡ layout (elements lines (more t ts) place) (layout (line_or_space lines) p)
first_laid lines place t ts p =
    let laid = ap (λ q. layout (spell_more_properties lines ts place) (layout (spell t place) q)) (before_member_laid lines (span_of t).start p) ∙ more_laid lines place ts (layout (spell t place) (layout (line_or_space lines) p)) in
    ap (layout (comma_if (ends_in_hole (more t ts)))) laid

hole_laid : (lines : Bool) (place : Place) (ts : Trees) (p : Pen) → layout (members lines (hole ts) place) p ≡ layout (elements lines (hole ts) place) (layout (line_or_space lines) p)
hole_laid lines place ts p = ap (layout (comma_if (ends_in_hole (hole ts)))) (more_laid lines place ts (layout (line_or_space lines) p))

-- one level deeper
deeper_laid : (p q r : Pen) → q ≡ r → layout next_line (record q { depth = p.depth }) ≡ layout next_line (record r { depth = p.depth })
deeper_laid p q r e = ap {A = Pen} (λ s. layout next_line (record s { depth = p.depth })) e

braced_laid : (lines : Bool) (place : Place) (ts : Trees) (p : Pen) → layout (object_inside ts (members lines ts place)) p ≡ layout (braced lines ts (elements lines ts place)) p
braced_laid lines place no_trees p = refl
braced_laid lines place (more t no_trees) p = ap (layout soft_space) (first_laid lines place t no_trees p)
braced_laid lines place (more t (more u us)) p = deeper_laid p _ _ (first_laid lines place t (more u us) (record p { depth = deeper_level p.style.minified p.depth }))
braced_laid lines place (more t (hole us)) p = deeper_laid p _ _ (first_laid lines place t (hole us) (record p { depth = deeper_level p.style.minified p.depth }))
braced_laid lines place (hole no_trees) p = ap (layout soft_space) (hole_laid lines place no_trees p)
braced_laid lines place (hole (more u us)) p = deeper_laid p _ _ (hole_laid lines place (more u us) (record p { depth = deeper_level p.style.minified p.depth }))
braced_laid lines place (hole (hole us)) p = deeper_laid p _ _ (hole_laid lines place (hole us) (record p { depth = deeper_level p.style.minified p.depth }))

pub inside_braces : {names : Tables} (L : Tokens → Trees → Type 0) (lines : Bool) (place : Place) (ts : Trees) → InsideAt names L lines place ts → InsideOf names L (object_inside ts (members lines ts place)) ts
inside_braces {names} L lines place ts f p l z b k = subst (λ q. Inside names L p l q ts) (sym (braced_laid lines place ts p)) (inside_braced L lines (elements lines ts place) ts f p l z b k)
