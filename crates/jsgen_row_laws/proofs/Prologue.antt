-- The directives of a body are read as such, and behind them its statements.
use Rattle.std.proofs.Common.{◌≡◌, ℕ, Bool, false, Some, List, [], ◌∷◌, refl, sym, ap, ◌∙◌}
use Rattle.jsgen_syntax.specs.Strings.{is_backtick, string_value}
use Rattle.jsgen_syntax.specs.Raw.{directive_text, directive_quote, directive_value}
use Rattle.jsgen_syntax.specs.declared.quote.Quote.{Quote}
use Rattle.jsgen_syntax.proofs.Raw.{directive_text_value, directive_quote_value, directive_quote_plain}
use Rattle.jsgen_tree.specs.Job.{Tables}
use Rattle.jsgen_tree.specs.Atom.{units}
use Rattle.jsgen_tree.specs.Tree.{Trees, no_trees, more, Atoms}
use Rattle.jsgen_tree.specs.Places.{bare}
use Rattle.jsgen_tree.specs.Values.{as_text, directive_directive}
use Rattle.jsgen_tree.specs.Nodes as tree
use Rattle.jsgen_model.specs.Punctuator.{semicolon}
use Rattle.jsgen_model.specs.Tokens.{Tokens, done, piece, ◌⧺◌, Quoted, Sign}
use Rattle.jsgen_model.specs.Items.{◌⊕◌, directive, punctuator, indentation}
use Rattle.jsgen_model.specs.Layout.{Pen, layout}
use Rattle.jsgen_model.specs.Grammar.{Allowed, ReadsBody}
use Rattle.jsgen_model.specs.Normal.{normal_trees, directive_units}
use Rattle.jsgen_model.specs.Renamed.{renamed_trees}
use Rattle.jsgen_place.specs.Place.{among_statements}
use Rattle.jsgen_model.specs.Spell.{spell, spell_directives, spell_body}
use Rattle.jsgen_token_laws.proofs.Last.{Last, After, line_of, Ready, Knows}
use Rattle.jsgen_token_laws.proofs.Writes.{Writes, wrote_none, wrote_both, wrote_and_none}
use Rattle.jsgen_token_laws.proofs.Steps.{wrote_quoted, wrote_semicolon, indentation_written, soft_line_written}
use Rattle.jsgen_row_laws.proofs.Families.{AreDirectives}
use Rattle.jsgen_row_laws.proofs.Families as family
use Rattle.jsgen_row_laws.proofs.Lists.{same_more}
use Rattle.jsgen_row_laws.proofs.Stands.{Stands, StandsAt, SameTrees, behind_tokens}
use Rattle.jsgen_row_laws.proofs.Directives.{JoinsBody, statements_body, BodyAsAt, BodyAt}

-- between two pens stand directives
pub record GoodDirectives (names : Tables) (B : Bool → Tokens → Trees → Trees → Type 0) (p : Pen) (l : Last) (q : Pen) (ds : Trees) : Type 0 where
  pub last : Last
  pub tokens : Tokens
  pub writes : Writes names p l q last tokens
  pub ready : Ready last
  pub semicolon : q.pending_semicolon ≡ false
  pub trees : Trees
  pub reads : (e : Bool) (ts : Tokens) (ss : Trees) → B e ts no_trees ss → B e (tokens ⧺ ts) trees ss
  pub same : normal_trees trees ≡ normal_trees (renamed_trees names ds)

-- one directive with its semicolon
record GoodDirective (names : Tables) (p : Pen) (l : Last) (q : Pen) (a : Atoms) : Type 0 where
  last : Last
  line : Bool
  quote : Quote
  text : List ℕ
  writes : Writes names p l q last (piece line (Quoted quote text) (piece false (Sign semicolon) done))
  ready : Ready last
  semicolon_left : q.pending_semicolon ≡ false
  plain : is_backtick quote ≡ false
  value : string_value quote text ≡ Some (directive_units (directive_directive a))

good_directive : {names : Tables} (a : Atoms) (us : List ℕ) → directive_value (as_text (directive_directive a)) ≡ Some us → directive_units (directive_directive a) ≡ us → (p : Pen) (l : Last) → p.pending_semicolon ≡ false → Ready l → Knows names p l → GoodDirective names p l (layout (spell (tree.directive a) among_statements) p) a
good_directive a us h e p l z y k =
    let raw : List ℕ = as_text (directive_directive a) in
    let p1 : Pen = layout indentation p in
    let p2 : Pen = layout (directive raw) p1 in
    let p3 : Pen = layout (punctuator semicolon) p2 in
    let q : Quote = directive_quote p1.style.quote raw in
    let w : List ℕ = directive_text p1.style.ascii raw in
    let b = directive_quote_plain p1.style.quote raw in
    let v : string_value q w ≡ Some us = directive_text_value q p1.style.ascii raw us b (directive_quote_value p1.style.quote raw us h) in
    let i = indentation_written p l k in
    let d = wrote_quoted q w us p1 p2 i.last v refl refl i.writes.knows in
    let s = wrote_semicolon p2 p3 (After (Quoted q w)) refl refl d.knows in
    let g = soft_line_written p3 (After (Sign semicolon)) s.knows in
    record {
      last = g.last;
      line = line_of i.last;
      quote = q;
      text = w;
      writes = wrote_both i.writes (wrote_both d (wrote_and_none s g.writes));
      ready = g.ready tt;
      semicolon_left = g.semicolon ∙ (i.semicolon ∙ z);
      plain = b;
      value = v ∙ ap Some (sym e);
    }

no_directives : {names : Tables} {B : Bool → Tokens → Trees → Trees → Type 0} (p : Pen) (l : Last) → p.pending_semicolon ≡ false → Ready l → Knows names p l → GoodDirectives names B p l p no_trees
no_directives p l z y k = record { last = l; tokens = done; writes = wrote_none p p l refl k; ready = y; semicolon = z; trees = no_trees; reads = λ e ts ss r. r; same = refl }

more_directives : {names : Tables} {L : Bool → Tokens → Trees → Type 0} {B : Bool → Tokens → Trees → Trees → Type 0} → JoinsBody L B → (a : Atoms) (ds : Trees) (p p1 q : Pen) (l : Last) → (d : GoodDirective names p l p1 a) → GoodDirectives names B p1 d.last q ds → GoodDirectives names B p l q (more (tree.directive a) ds)
more_directives {names} j a ds p p1 q l d g = record {
  last = g.last;
  tokens = piece d.line (Quoted d.quote d.text) (piece false (Sign semicolon) g.tokens);
  writes = wrote_both d.writes g.writes;
  ready = g.ready;
  semicolon = g.semicolon;
  trees = more (tree.directive (bare (units (directive_units (directive_directive a)) ∷ []))) g.trees;
  reads = λ e ts ss r. j.directive d.plain d.value (g.reads e ts ss r);
  same = same_more (tree.directive (bare (units (directive_units (directive_directive a)) ∷ []))) (tree.directive a) g.trees (renamed_trees names ds) refl g.same;
}

directives_written : {names : Tables} {L : Bool → Tokens → Trees → Type 0} {B : Bool → Tokens → Trees → Trees → Type 0} {ds : Trees} → JoinsBody L B → AreDirectives ds → (p : Pen) (l : Last) → p.pending_semicolon ≡ false → Ready l → Knows names p l → GoodDirectives names B p l (layout (spell_directives ds) p) ds
directives_written j family.no_directive p l z y k = no_directives p l z y k
directives_written j (family.first_directive {a} {ds} us h e v) p l z y k =
    let p1 : Pen = layout (spell (tree.directive a) among_statements) p in
    let d = good_directive a us h e p l z y k in
    more_directives j a ds p p1 (layout (spell_directives ds) p1) l d (directives_written j v p1 d.last d.semicolon_left d.ready d.writes.knows)

-- ---- bodies, of modules and of functions

-- directives, and a row
abbrev pub ReadsBothAs : (Bool → Tokens → Trees → Trees → Type 0) → Bool → Tokens → Trees × Trees → Type 0
ReadsBothAs B last ts b = B last ts b.0 b.1

-- directives, and statements
abbrev pub ReadsBoth : Allowed → Bool → Tokens → Trees × Trees → Type 0
ReadsBoth c last ts b = ReadsBothAs (ReadsBody c) last ts b

abbrev pub SameBoth : Tables → Trees → Trees → Trees × Trees → Type 0
SameBoth names ds ss b = (normal_trees b.0 ≡ normal_trees (renamed_trees names ds)) × (normal_trees b.1 ≡ normal_trees (renamed_trees names ss))

body_of : {names : Tables} {B : Bool → Tokens → Trees → Trees → Type 0} {p q r : Pen} {l : Last} (ds ss : Trees) → (g : GoodDirectives names B p l q ds) → Stands names (λ e ts us. B e ts no_trees us) (SameTrees names ss) q g.last r → Stands names (ReadsBothAs B) (SameBoth names ds ss) p l r
body_of ds ss g h = behind_tokens g.tokens (λ us. (g.trees, us)) g.writes (λ e ts us r. g.reads e ts us r) (λ us s. (g.same, s)) h

pub whole_body_as : {names : Tables} {L : Bool → Tokens → Trees → Type 0} {B : Bool → Tokens → Trees → Trees → Type 0} → JoinsBody L B → (ds ss : Trees) → AreDirectives ds → BodyAsAt names B (spell_body ss) ss → StandsAt names (ReadsBothAs B) (SameBoth names ds ss) (spell_directives ds ⊕ spell_body ss)
whole_body_as j ds ss v f p l z y k =
    let g = directives_written j v p l z y k in
    body_of ds ss g (f (layout (spell_directives ds) p) g.last g.semicolon g.ready g.writes.knows)

pub whole_body : {names : Tables} {c : Allowed} (ds ss : Trees) → AreDirectives ds → BodyAt names c (spell_body ss) ss → StandsAt names (ReadsBoth c) (SameBoth names ds ss) (spell_directives ds ⊕ spell_body ss)
whole_body {c = c} ds ss v f = whole_body_as (statements_body c) ds ss v f
