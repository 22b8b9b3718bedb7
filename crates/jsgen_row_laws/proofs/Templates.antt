-- Templates as expressions, alone and behind a tag.
use Rattle.std.proofs.Common.{◌≡◌, ℕ, Bool, true, false, not, ◌&&◌, codes, Option, Some, None, is_some, option_map, List, [], ◌∷◌, refl, sym, ap, ◌∙◌}
use Rattle.std.proofs.lemmas.Bool.{both_ways, and_from}
use Rattle.std.proofs.lemmas.Option.{same_Some}
use Rattle.jsgen_syntax.specs.Raw.{template_text}
use Rattle.jsgen_syntax.specs.Strings.{string_value}
use Rattle.jsgen_syntax.specs.declared.quote.Quote.TheVariants.{Backtick}
use Rattle.jsgen_tree.specs.Atom.{no_value, text, units}
use Rattle.jsgen_tree.specs.Job.{Tables}
use Rattle.jsgen_tree.specs.Nodes as tree
use Rattle.jsgen_tree.specs.Places.{bare}
use Rattle.jsgen_tree.specs.Tree.{Tree, Trees, no_trees, more, Atoms, span_of}
use Rattle.jsgen_tree.specs.Values.{template_element_raw}
use Rattle.jsgen_model.specs.Punctuator.{semicolon}
use Rattle.jsgen_model.specs.Tokens.{Tokens, done, piece, ◌⧺◌, Quoted, Sign, Beyond, Whole, Head, is_part}
use Rattle.jsgen_model.specs.Items.{◌⊕◌, template_part, head_part}
use Rattle.jsgen_model.specs.Layout.{Pen, layout}
use Rattle.jsgen_model.specs.Grammar.{Allowed, ReadsTemplate, cooked_piece, raw_piece, with_in, is_word, starts_with_directive}
use Rattle.jsgen_model.specs.Grammar as grammar
use Rattle.jsgen_model.specs.Normal.{normal_quasi, untagged, by_raw_text, or_none, nothing_of}
use Rattle.jsgen_model.specs.Renamed.{renamed}
use Rattle.jsgen_place.specs.declared.place.Place.{Place}
use Rattle.jsgen_place.specs.Place.{tag, tagged}
use Rattle.jsgen_model.specs.Spell.{spell, spell_substitutions, first_piece, opening_part}
use Rattle.jsgen_token_laws.proofs.Last.{Last, After, line_of, Ready, Knows}
use Rattle.jsgen_token_laws.proofs.Writes.{wrote_both}
use Rattle.jsgen_token_laws.proofs.Steps.{wrote_quoted}
use Rattle.jsgen_token_laws.proofs.Specials.{wrote_whole_template, wrote_head}
use Rattle.jsgen_token_laws.proofs.TemplateTexts.{piece_value, piece_is_part, tagged_text}
use Rattle.jsgen_row_laws.proofs.Levels.{level_of, under, left_hand_side, from_primary, from_left}
use Rattle.jsgen_row_laws.proofs.Confined.{is_left_level, confined}
use Rattle.jsgen_row_laws.proofs.Families.{IsPiece, IsInBackticks, a_piece, a_tagged_piece, a_piece_alone, a_parenthesized_piece}
use Rattle.jsgen_row_laws.proofs.Good.{Good, Printed, begins_all, begins_then, line_then}
use Rattle.jsgen_row_laws.proofs.Links.{linked_read}
use Rattle.jsgen_row_laws.proofs.Adds.{an_operand, behind_operand, behind_sign, ◌&◌, Says, Added, Adds, read, laid}
use Rattle.jsgen_row_laws.proofs.Parts.{operand_ends}
use Rattle.jsgen_row_laws.proofs.TemplateParts.{Fits, raw_of, head_ends, is_part_of, PiecesPrinted, FromHead, pieces, template}

-- ---- pieces

-- each fits: without a tag however it is shown, and behind one as it is shown there
pub fits : {names : Tables} {tagged : Bool} {q : Tree} → IsPiece tagged q → (shown : Bool) → (tagged && not shown) ≡ false → Fits names shown tagged q
fits (a_piece {a} {us} s h v e) shown n minified ascii = record {
  part = piece_is_part shown minified ascii (template_element_raw a) s h;
  piece = cooked_piece us;
  reads = ap (option_map cooked_piece) (piece_value shown minified ascii (template_element_raw a) us v);
  same = ap (λ o. tree.template_element (bare (no_value ∷ units (or_none o) ∷ []))) (sym e);
}
fits (a_tagged_piece {a} s h t) true n minified ascii = record {
  part = piece_is_part true minified ascii (template_element_raw a) s h;
  piece = raw_piece (template_text true minified ascii (template_element_raw a));
  reads = refl;
  same = ap (λ w. tree.template_element (bare (text w ∷ no_value ∷ []))) (tagged_text minified ascii (template_element_raw a) t);
}
fits (a_tagged_piece s h t) false n minified ascii = absurd (both_ways true n refl)

-- ---- without a tag

-- what is in backticks is no directive, whatever follows
in_backticks : (mark : Bool) (w : List ℕ) (r : Tokens) → starts_with_directive (piece mark (Quoted Backtick w) r) ≡ false
in_backticks mark w done = refl
in_backticks mark w (piece n (Sign semicolon) ts) = refl
in_backticks mark w r = refl

-- an expression that is read as no directive
pub record AloneAt (names : Tables) (p : Pen) (l : Last) (q : Pen) (c : Allowed) (place : Place) (t : Tree) : Type 0 where
  pub good : Good names p l q (under place c) (level_of place) t
  pub apart : (r : Tokens) → starts_with_directive (good.tokens ⧺ r) ≡ false

template_alone : {names : Tables} (c : Allowed) (a : Atoms) {q : Tree} → IsPiece false q → (place : Place) (p : Pen) (l : Last) → p.pending_semicolon ≡ false → Ready l → Knows names p l → let t : Tree = tree.template_literal a (more q no_trees) no_trees in AloneAt names p l (layout (spell t place) p) c place t
template_alone c a (a_piece {a = b} {us} s h v e) place p l z y k =
    let whole : Tree = tree.template_literal a (more (tree.template_element b) no_trees) no_trees in
    let t : List ℕ = template_text place.context.is_tagged p.style.minified p.style.ascii (template_element_raw b) in
    let valued : string_value Backtick t ≡ Some us = piece_value place.context.is_tagged p.style.minified p.style.ascii (template_element_raw b) us v in
    record {
      good = record {
        last = After (Quoted Backtick t);
        tokens = piece (line_of l) (Quoted Backtick t) done;
        writes = wrote_quoted Backtick t us p (layout (spell whole place) p) l valued refl refl k;
        operand = tt;
        semicolon = z;
        begins = λ d i. begins_all p.start (piece (line_of l) (Quoted Backtick t) d) refl;
        line = λ i. ap not i;
        tree = tree.string_literal (bare (units us ∷ []));
        reads = from_primary place (grammar.a_string valued);
        same = ap (λ o. tree.string_literal (bare (units (or_none o) ∷ []))) (sym e);
      };
      apart = λ r. in_backticks (line_of l) t r;
    }

pub good_template_alone : {names : Tables} (c : Allowed) (a : Atoms) {q : Tree} → IsPiece false q → Printed names c (tree.template_literal a (more q no_trees) no_trees)
good_template_alone c a h place p l z y k = (template_alone c a h place p l z y k).good

-- one in parentheses, which aren't printed, too
pub alone_printed : {names : Tables} (c : Allowed) {t : Tree} → IsInBackticks t → (place : Place) (p : Pen) (l : Last) → p.pending_semicolon ≡ false → Ready l → Knows names p l → AloneAt names p l (layout (spell t place) p) c place t
alone_printed c (a_piece_alone {a} h) place p l z y k = template_alone c a h place p l z y k
alone_printed c (a_parenthesized_piece h) place p l z y k =
    let x = alone_printed c h place p l z y k in
    let g = x.good in
    record { good = record { last = g.last; tokens = g.tokens; writes = g.writes; operand = g.operand; semicolon = g.semicolon; begins = g.begins; line = g.line; tree = g.tree; reads = g.reads; same = g.same }; apart = x.apart }

-- of more than one piece
pub good_template : {names : Tables} (c : Allowed) (a : Atoms) (q r : Tree) (qs es : Trees) → ((shown : Bool) → Fits names shown false q) → ((shown : Bool) → PiecesPrinted names c shown false (more r qs) es) → Printed names c (tree.template_literal a (more q (more r qs)) es)
good_template c a q r qs es f g place p l z y k =
    let shown : Bool = place.context.is_tagged in
    let t : List ℕ = template_text shown p.style.minified p.style.ascii (raw_of q) in
    let fit = f shown p.style.minified p.style.ascii in
    let o = wrote_head shown (span_of q) (raw_of q) p l fit.part k in
    let x = (pieces c shown false {d = behind_sign} refl (g shown)).from (layout (template_part head_part shown (span_of q) (raw_of q)) p) (After (Beyond (Head t))) z (head_ends t) o.knows in
    record {
      last = x.last;
      tokens = piece (line_of l) (Beyond (Head t)) x.tokens;
      writes = wrote_both o x.writes;
      operand = x.ends an_operand refl;
      semicolon = x.semicolon;
      begins = λ d i. begins_all p.start (piece (line_of l) (Beyond (Head t)) (x.tokens ⧺ d)) refl;
      line = λ i. ap not i;
      tree = tree.template_literal (nothing_of 0) (more fit.piece x.holds.reading.0) x.holds.reading.1;
      reads = from_primary place (grammar.a_template fit.reads x.holds.reads);
      same = λ i. untagged (more (fit.same i) (x.holds.same.0 i)) (x.holds.same.1 i);
    }

-- ---- behind a tag

-- read as the template behind a tag
abbrev pub Tagged : Tables → Allowed → Tree → Tokens → Type 0
Tagged names c q = Says (λ ts u. ReadsTemplate (with_in c) ts u) (λ u. normal_quasi u ≡ normal_quasi (renamed names q))

-- printed so
abbrev pub TemplateOf : Tables → Allowed → Tree → Type 0
TemplateOf names c q = (place : Place) → Adds names behind_operand (Tagged names c q) behind_operand (spell q (tagged place))

-- of one piece: a string spells its text, or none does
pub whole_template : {names : Tables} (c : Allowed) (a : Atoms) (q : Tree) → Fits names true true q → TemplateOf names c (tree.template_literal a (more q no_trees) no_trees)
whole_template {names} c a q f place = record { from = λ p l z y k. by p l z k (string_value Backtick (template_text true p.style.minified p.style.ascii (raw_of q))) refl }
  where
    whole : Tree
    whole = tree.template_literal a (more q no_trees) no_trees

    by : (p : Pen) (l : Last) → p.pending_semicolon ≡ false → Knows names p l → (o : Option (List ℕ)) → string_value Backtick (template_text true p.style.minified p.style.ascii (raw_of q)) ≡ o → Added names (Tagged names c whole) behind_operand p l (layout (spell whole (tagged place)) p)
    by p l z k (Some us) e =
        let t : List ℕ = template_text true p.style.minified p.style.ascii (raw_of q) in
        let fit = f p.style.minified p.style.ascii in
        record {
          last = After (Quoted Backtick t);
          tokens = piece (line_of l) (Quoted Backtick t) done;
          writes = wrote_quoted Backtick t us p (layout (spell whole (tagged place)) p) l e refl refl k;
          ends = operand_ends (After (Quoted Backtick t)) tt;
          semicolon = z;
          holds = record { reading = tree.template_literal (nothing_of 0) (more (raw_piece t) no_trees) no_trees; reads = grammar.a_template_of_a_string; same = ap (λ v. tree.template_literal (nothing_of 0) (more v no_trees) no_trees) (ap by_raw_text (same_Some (raw_piece t) fit.piece fit.reads) ∙ fit.same) };
        }
    by p l z k None e =
        let t : List ℕ = template_text true p.style.minified p.style.ascii (raw_of q) in
        let fit = f p.style.minified p.style.ascii in
        record {
          last = After (Beyond (Whole t));
          tokens = piece (line_of l) (Beyond (Whole t)) done;
          writes = wrote_whole_template true (span_of q) (raw_of q) p l (and_from (is_part t) (not (is_some (string_value Backtick t))) fit.part (ap (λ o. not (is_some o)) e)) k;
          ends = operand_ends (After (Beyond (Whole t))) tt;
          semicolon = z;
          holds = record { reading = tree.template_literal (nothing_of 0) (more (raw_piece t) no_trees) no_trees; reads = grammar.a_whole_template; same = ap (λ v. tree.template_literal (nothing_of 0) (more v no_trees) no_trees) (ap by_raw_text (same_Some (raw_piece t) fit.piece fit.reads) ∙ fit.same) };
        }

read_parts : (names : Tables) (c : Allowed) (a : Atoms) (q : Tree) (qs es : Trees) {ts : Tokens} → FromHead names c true q qs es ts → Tagged names c (tree.template_literal a (more q qs) es) ts
read_parts names c a q qs es (is_part_of w o f & r) = record {
  reading = tree.template_literal (nothing_of 0) (more (raw_piece w) r.reading.0) r.reading.1;
  reads = grammar.a_template_of_parts r.reads;
  same = λ i. tree.template_literal (nothing_of 0) (more ((ap by_raw_text (same_Some (raw_piece w) f.piece f.reads) ∙ f.same) i) (r.same.0 i)) (r.same.1 i);
}

pub template_of_parts : {names : Tables} (c : Allowed) (a : Atoms) (q r : Tree) (qs es : Trees) → Fits names true true q → PiecesPrinted names c true true (more r qs) es → TemplateOf names c (tree.template_literal a (more q (more r qs)) es)
template_of_parts {names} c a q r qs es f g place =
    laid (first_piece true opening_part (more q (more r qs)) ⊕ spell_substitutions true es (more r qs)) (spell (tree.template_literal a (more q (more r qs)) es) (tagged place)) (λ p e. refl)
    (read (λ ts x. read_parts names c a q (more r qs) es x) (template c true true q r qs es f g))

left_level : (no_call : Bool) → is_left_level (left_hand_side no_call) ≡ true
left_level true = refl
left_level false = refl

-- no token of a template is a word
no_function : {c : Allowed} {ts : Tokens} {t : Tree} → ReadsTemplate c ts t → (d : Tokens) → is_word (codes "function") (ts ⧺ d) ≡ false
no_function grammar.a_template_of_a_string d = refl
no_function grammar.a_whole_template d = refl
no_function (grammar.a_template_of_parts r) d = refl

pub good_tagged_template : {names : Tables} (c : Allowed) (a : Atoms) (t q : Tree) → Printed names c t → TemplateOf names c q → Printed names c (tree.tagged_template a t q)
good_tagged_template c a t q f h place p l z y k =
    let no_call : Bool = place.context.forbids_call in
    let g = f (tag place) p l z y k in
    let x = (h place).from (layout (spell t (tag place)) p) g.last g.semicolon (operand_ends g.last g.operand) g.writes.knows in
    record {
      last = x.last;
      tokens = g.tokens ⧺ x.tokens;
      writes = wrote_both g.writes x.writes;
      operand = x.ends an_operand refl;
      semicolon = x.semicolon;
      begins = λ d i. begins_then p.start g.tokens x.tokens d g.begins (no_function x.holds.reads d);
      line = λ i. line_then g.tokens x.tokens (g.line i);
      tree = tree.tagged_template (nothing_of 0) g.tree x.holds.reading;
      reads = from_left place (linked_read no_call (λ r. grammar.a_tagged_template refl x.holds.reads r) (λ r. grammar.a_tagged_template_of_call refl x.holds.reads r) (confined (not place.context.forbids_in) (left_level no_call) g.reads));
      same = λ i. tree.tagged_template (nothing_of 0) (g.same i) (x.holds.same i);
    }
