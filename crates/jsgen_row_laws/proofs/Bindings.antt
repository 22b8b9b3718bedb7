-- Bindings, alone and with a value.
use Rattle.std.proofs.Common.{◌≡◌, ℕ, Bool, List, true, false, refl, ap, ◌∙◌}
use Rattle.jsgen_syntax.specs.declared.precedence.Precedence.TheVariants as levels
use Rattle.jsgen_syntax.specs.Escapes.{name_text}
use Rattle.jsgen_syntax.specs.Name.{is_free_name}
use Rattle.jsgen_syntax.proofs.Escapes.{word_text_value}
use Rattle.jsgen_tree.specs.Job.{Tables}
use Rattle.jsgen_tree.specs.Tree.{Tree, Maybe, absent, given, Atoms}
use Rattle.jsgen_tree.specs.Inside.{binding_named}
use Rattle.jsgen_tree.specs.Named.{printed_name}
use Rattle.jsgen_tree.specs.Nodes as tree
use Rattle.jsgen_model.specs.Punctuator.{equal}
use Rattle.jsgen_model.specs.Tokens.{Tokens, done, piece, ◌⧺◌, Word, Sign}
use Rattle.jsgen_model.specs.Items.{◌⊕◌, punctuator, soft_space}
use Rattle.jsgen_model.specs.Layout.{Pen, layout}
use Rattle.jsgen_model.specs.Grammar.{Allowed, ReadsBinding, ReadsExpression}
use Rattle.jsgen_model.specs.Grammar as grammar
use Rattle.jsgen_model.specs.Normal.{normal, normal_maybe, unnumbered}
use Rattle.jsgen_model.specs.Renamed.{renamed, renamed_maybe}
use Rattle.jsgen_place.specs.declared.place.Place.{Place}
use Rattle.jsgen_place.specs.Place.{child}
use Rattle.jsgen_model.specs.Spell.{spell, spell_value}
use Rattle.jsgen_token_laws.proofs.Last.{Last, After, line_of, Operand, Ready, begun_ready, Knows}
use Rattle.jsgen_token_laws.proofs.Writes.{Writes, wrote_both}
use Rattle.jsgen_token_laws.proofs.Steps.{Soft, wrote_name, wrote_punctuator, soft_space_written}
use Rattle.jsgen_row_laws.proofs.Levels.{under}
use Rattle.jsgen_row_laws.proofs.Names.{free_spelled}
use Rattle.jsgen_row_laws.proofs.Good.{Good, Printed}
use Rattle.jsgen_row_laws.proofs.Lists.{Element, GivesElement}

-- between two pens stands a binding
pub record GoodBinding (names : Tables) (p : Pen) (l : Last) (q : Pen) (c : Allowed) (t : Tree) : Type 0 where
  pub last : Last
  pub tokens : Tokens
  pub writes : Writes names p l q last tokens
  pub operand : Operand last
  pub semicolon : q.pending_semicolon ≡ false
  pub tree : Tree
  pub reads : ReadsBinding c tokens tree
  pub same : normal tree ≡ normal (renamed names t)

abbrev pub Bound : Tables → Allowed → Tree → Type 0
Bound names c t = (place : Place) (p : Pen) (l : Last) → p.pending_semicolon ≡ false → Ready l → Knows names p l → GoodBinding names p l (layout (spell t place) p) (under place c) t

pub good_bound_name : {names : Tables} (c : Allowed) (a : Atoms) → is_free_name (printed_name names (binding_named a)) ≡ true → Bound names c (tree.binding_identifier a)
good_bound_name {names} c a h place p l z y k =
    let v : List ℕ = printed_name names (binding_named a) in
    record {
      last = _;
      tokens = piece (line_of l) (Word (name_text p.style.ascii v)) done;
      writes = wrote_name (binding_named a) p l (free_spelled v h) k;
      operand = tt;
      semicolon = z;
      tree = tree.binding_identifier (unnumbered v);
      reads = grammar.a_bound_name (word_text_value p.style.ascii v (free_spelled v h)) h;
      same = refl;
    }

-- ---- with a value, or without one

-- the value is printed, where there is one
abbrev pub PrintedIfGiven : Tables → Allowed → Maybe → Type 0
PrintedIfGiven names c absent = Unit {0}
PrintedIfGiven names c (given t) = Printed names c t

-- what is made of a binding and its value has the normal form of what is printed, and is read so with a value
pub record Holds (names : Tables) (c : Allowed) (R : Tokens → Tree → Type 0) (made : Tree → Maybe → Tree) : Type 0 where
  pub reading : Tree → Maybe → Tree
  pub with_value : (mark : Bool) (a v : Tokens) (b e : Tree) → ReadsBinding c a b → ReadsExpression c grammar.Assignment v e → R (a ⧺ piece mark (Sign equal) v) (reading b (given e))
  pub same : (b u : Tree) (m n : Maybe) → normal b ≡ normal (renamed names u) → normal_maybe m ≡ normal_maybe (renamed_maybe names n) → normal (reading b m) ≡ normal (renamed names (made u n))

-- and without one where none is given
abbrev pub HoldsAlone : {names : Tables} {c : Allowed} {R : Tokens → Tree → Type 0} {made : Tree → Maybe → Tree} → Holds names c R made → Tree → Maybe → Type 0
HoldsAlone {names} {c} {R} h b absent = (ts : Tokens) (u : Tree) → ReadsBinding c ts u → normal u ≡ normal (renamed names b) → R ts (h.reading u absent)
HoldsAlone h b (given v) = Unit {0}

alone_parts : {names : Tables} {p q : Pen} {l : Last} {c : Allowed} (R : Tokens → Tree → Type 0) (made : Tree → Maybe → Tree) (b : Tree) → (h : Holds names c R made) → HoldsAlone h b absent → GoodBinding names p l q c b → Element names R p l q (made b absent)
alone_parts R made b h x g = record {
  last = g.last;
  tokens = g.tokens;
  writes = g.writes;
  operand = g.operand;
  semicolon = g.semicolon;
  tree = h.reading g.tree absent;
  reads = x g.tokens g.tree g.reads g.same;
  same = h.same g.tree b absent absent g.same refl;
}

-- from the binding, a blank, the sign, a blank and the value
value_parts : {names : Tables} {c : Allowed} (R : Tokens → Tree → Type 0) (made : Tree → Maybe → Tree) (b v : Tree) {p p1 p2 p3 p4 q : Pen} {l : Last} → Holds names c R made → (g : GoodBinding names p l p1 c b) (x : Soft names p1 g.last p2) → Writes names p2 x.last p3 (After (Sign equal)) (piece (line_of x.last) (Sign equal) done) → (n : Soft names p3 (After (Sign equal)) p4) → Good names p4 n.last q c grammar.Assignment v → Element names R p l q (made b (given v))
value_parts R made b v h g x o n e = record {
  last = e.last;
  tokens = g.tokens ⧺ piece (line_of x.last) (Sign equal) e.tokens;
  writes = wrote_both g.writes (wrote_both x.writes (wrote_both o (wrote_both n.writes e.writes)));
  operand = e.operand;
  semicolon = e.semicolon;
  tree = h.reading g.tree (given e.tree);
  reads = h.with_value (line_of x.last) g.tokens e.tokens g.tree e.tree g.reads e.reads;
  same = h.same g.tree b (given e.tree) (given v) g.same (ap (λ t. given t) e.same);
}

pub good_held : {names : Tables} (c : Allowed) (R : Tokens → Tree → Type 0) (made : Tree → Maybe → Tree) (b : Tree) (m : Maybe) (place : Place) → (h : Holds names (under place c) R made) → HoldsAlone h b m → Bound names c b → PrintedIfGiven names c m → GivesElement names R (spell b (child levels.Lowest place) ⊕ spell_value m (child levels.Comma place)) (made b m)
good_held c R made b absent place h x f v p l z y k = alone_parts R made b h x (f (child levels.Lowest place) p l z (begun_ready l y) k)
good_held c R made b (given t) place h w f v p l z y k =
    let p1 : Pen = layout (spell b (child levels.Lowest place)) p in
    let p2 : Pen = layout soft_space p1 in
    let p3 : Pen = layout (punctuator equal) p2 in
    let g = f (child levels.Lowest place) p l z (begun_ready l y) k in
    let x = soft_space_written p1 g.last g.writes.knows in
    let o = wrote_punctuator equal p2 x.last tt tt (x.operand g.operand) x.writes.knows in
    let n = soft_space_written p3 (After (Sign equal)) o.knows in
    let e = v (child levels.Comma place) (layout soft_space p3) n.last (n.semicolon ∙ (x.semicolon ∙ g.semicolon)) (n.ready tt) n.writes.knows in
    value_parts R made b t h g x o n e
