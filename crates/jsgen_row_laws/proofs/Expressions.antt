-- One lemma for each type of expression.
use Rattle.std.proofs.Common.{◌≡◌, ℕ, Bool, true, false, not, codes, Some, is_some, List, [], ◌∷◌, refl, sym, ap}
use Rattle.std.proofs.lemmas.Bool.{both_ways}
use Rattle.jsgen_syntax.specs.Escapes.{name_text, word_value}
use Rattle.jsgen_syntax.specs.Name.{spells_name, is_free_name}
use Rattle.jsgen_syntax.specs.Strings.{escaped, string_value}
use Rattle.jsgen_syntax.specs.Wtf8.{are_units}
use Rattle.jsgen_syntax.specs.declared.quote.Quote.{Quote}
use Rattle.jsgen_syntax.proofs.Escapes.{word_text_value}
use Rattle.jsgen_syntax.proofs.Strings.{escaped_value}
use Rattle.jsgen_tree.specs.Job.{Tables}
use Rattle.jsgen_model.specs.Punctuator.{dot}
use Rattle.jsgen_model.specs.Items.{string, word, member_dot}
use Rattle.jsgen_tree.specs.Atom.{units, flag}
use Rattle.jsgen_tree.specs.Tree.{Tree, Atoms}
use Rattle.jsgen_tree.specs.Inside.{reference_named}
use Rattle.jsgen_tree.specs.Named.{printed_name}
use Rattle.jsgen_tree.specs.Places.{bare}
use Rattle.jsgen_tree.specs.Values.{boolean_literal_value, string_literal_value}
use Rattle.jsgen_tree.specs.Nodes as tree
use Rattle.jsgen_model.specs.Tokens.{Tokens, done, piece, Word, Quoted, Sign}
use Rattle.jsgen_model.specs.Layout.{Pen, layout, chosen_quote}
use Rattle.jsgen_model.specs.Grammar.{Allowed, starts_statement}
use Rattle.jsgen_model.specs.Grammar as grammar
use Rattle.jsgen_model.specs.Normal.{nothing_of, unnumbered}
use Rattle.jsgen_model.specs.Spell.{truth_word}
use Rattle.jsgen_token_laws.proofs.Characters.{letters_spelled}
use Rattle.jsgen_token_laws.proofs.Last.{After, line_of}
use Rattle.jsgen_token_laws.proofs.Steps.{wrote_word, wrote_name, wrote_quoted, wrote_dot}
use Rattle.jsgen_row_laws.proofs.Levels.{from_primary, weaken_member, from_left}
use Rattle.jsgen_token_laws.proofs.Writes.{wrote_both}
use Rattle.jsgen_row_laws.proofs.Names.{free_spelled, name_begins}
use Rattle.jsgen_row_laws.proofs.Good.{Printed, TargetPrinted, begins_all}

-- ---- names and numbers

pub reference_target : {names : Tables} (c : Allowed) (a : Atoms) → is_free_name (printed_name names (reference_named a)) ≡ true → TargetPrinted names c (tree.identifier_reference a)
reference_target {names} c a h place p l z y k =
    let v : List ℕ = printed_name names (reference_named a) in
    let w : List ℕ = name_text p.style.ascii v in
    let e : word_value w ≡ Some v = word_text_value p.style.ascii v (free_spelled v h) in (
      record {
        last = After (Word w);
        tokens = piece (line_of l) (Word w) done;
        writes = wrote_name (reference_named a) p l (free_spelled v h) k;
        operand = tt;
        semicolon = z;
        begins = λ b n. name_begins p.start (line_of l) w v b e h n;
        line = λ g. ap not g;
        tree = tree.identifier_reference (unnumbered v);
        reads = from_primary place (grammar.a_reference e h);
        same = refl;
      },
      refl,
      refl,
      grammar.a_new (grammar.a_member (grammar.a_primary (grammar.a_reference e h))),
      λ n. absurd (both_ways false refl (ap is_some (sym n))),
    )

pub good_reference : {names : Tables} (c : Allowed) (a : Atoms) → is_free_name (printed_name names (reference_named a)) ≡ true → Printed names c (tree.identifier_reference a)
good_reference c a h place p l z y k = (reference_target c a h place p l z y k).0

pub good_this : {names : Tables} (c : Allowed) (a : Atoms) → Printed names c (tree.this_expression a)
good_this c a place p l z y k = record {
  last = _;
  tokens = piece (line_of l) (Word (codes "this")) done;
  writes = wrote_word (codes "this") p l (letters_spelled 116 (codes "his") refl) k;
  operand = tt;
  semicolon = z;
  begins = λ b n. begins_all p.start (piece (line_of l) (Word (codes "this")) b) refl;
  line = λ g. ap not g;
  tree = tree.this_expression (nothing_of 0);
  reads = from_primary place grammar.a_this;
  same = refl;
}

pub good_null : {names : Tables} (c : Allowed) (a : Atoms) → Printed names c (tree.null_literal a)
good_null c a place p l z y k = record {
  last = _;
  tokens = piece (line_of l) (Word (codes "null")) done;
  writes = wrote_word (codes "null") p l (letters_spelled 110 (codes "ull") refl) k;
  operand = tt;
  semicolon = z;
  begins = λ b n. begins_all p.start (piece (line_of l) (Word (codes "null")) b) refl;
  line = λ g. ap not g;
  tree = tree.null_literal (nothing_of 0);
  reads = from_primary place grammar.a_null;
  same = refl;
}

truth_begins : (line v : Bool) (b : Tokens) → starts_statement (piece line (Word (truth_word v)) b) ≡ true
truth_begins line true b = refl
truth_begins line false b = refl

truth_spelled : (v : Bool) → spells_name (truth_word v) ≡ true
truth_spelled true = letters_spelled 116 (codes "rue") refl
truth_spelled false = letters_spelled 102 (codes "alse") refl

truth_read : {c : Allowed} {mark : Bool} (v : Bool) → grammar.ReadsExpression c grammar.Primary (piece mark (Word (truth_word v)) done) (tree.boolean_literal (bare (flag v ∷ [])))
truth_read true = grammar.a_true
truth_read false = grammar.a_false

pub good_boolean : {names : Tables} (c : Allowed) (a : Atoms) → Printed names c (tree.boolean_literal a)
good_boolean c a place p l z y k = let v : Bool = boolean_literal_value a in record {
  last = _;
  tokens = piece (line_of l) (Word (truth_word v)) done;
  writes = wrote_word (truth_word v) p l (truth_spelled v) k;
  operand = tt;
  semicolon = z;
  begins = λ b n. begins_all p.start (piece (line_of l) (Word (truth_word v)) b) (truth_begins (line_of l) v b);
  line = λ g. ap not g;
  tree = tree.boolean_literal (bare (flag v ∷ []));
  reads = from_primary place (truth_read v);
  same = refl;
}

-- the meta property, three tokens
pub good_new_target : {names : Tables} (c : Allowed) (a : Atoms) → Printed names c (tree.new_target a)
good_new_target c a place p l z y k =
    let p1 : Pen = layout (word (codes "new")) p in
    let p2 : Pen = layout member_dot p1 in
    let w = wrote_word (codes "new") p l (letters_spelled 110 (codes "ew") refl) k in
    let d = wrote_dot p1 (After (Word (codes "new"))) tt w.knows in
    let t = wrote_word (codes "target") p2 (After (Sign dot)) (letters_spelled 116 (codes "arget") refl) d.knows in
    record {
      last = After (Word (codes "target"));
      tokens = piece (line_of l) (Word (codes "new")) (piece false (Sign dot) (piece false (Word (codes "target")) done));
      writes = wrote_both w (wrote_both d t);
      operand = tt;
      semicolon = z;
      begins = λ b n. begins_all p.start (piece (line_of l) (Word (codes "new")) (piece false (Sign dot) (piece false (Word (codes "target")) b))) refl;
      line = λ g. ap not g;
      tree = tree.new_target (nothing_of 0);
      reads = from_left place (weaken_member place.context.forbids_call grammar.a_new_target);
      same = refl;
    }

-- ---- strings

pub good_string : {names : Tables} (c : Allowed) (a : Atoms) → are_units (string_literal_value a) ≡ true → Printed names c (tree.string_literal a)
good_string c a h place p l z y k =
    let us : List ℕ = string_literal_value a in
    let backticks : Bool = not place.plain_quotes in
    let q : Quote = chosen_quote p.style backticks us in
    let w : List ℕ = escaped q p.style.ascii us in
    let e : string_value q w ≡ Some us = escaped_value q p.style.ascii us h in
    record {
      last = After (Quoted q w);
      tokens = piece (line_of l) (Quoted q w) done;
      writes = wrote_quoted q w us p (layout (string backticks us) p) l e refl refl k;
      operand = tt;
      semicolon = z;
      begins = λ b n. begins_all p.start (piece (line_of l) (Quoted q w) b) refl;
      line = λ g. ap not g;
      tree = tree.string_literal (bare (units us ∷ []));
      reads = from_primary place (grammar.a_string e);
      same = refl;
    }

-- ---- parentheses, which aren't printed

pub good_parenthesized : {names : Tables} (c : Allowed) (a : Atoms) (t : Tree) → Printed names c t → Printed names c (tree.parenthesized a t)
good_parenthesized c a t f place p l z y k =
    let g = f place p l z y k in
    record { last = g.last; tokens = g.tokens; writes = g.writes; operand = g.operand; semicolon = g.semicolon; begins = g.begins; line = g.line; tree = g.tree; reads = g.reads; same = g.same }
