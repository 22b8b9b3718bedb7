-- Private names, where the job's tables have none of them: members, tests of them, and keys of members of classes.
use Rattle.std.proofs.Common.{◌≡◌, ℕ, Bool, true, false, not, Some, None, List, codes, option_and_then, unwrap_or, refl, sym, ap, ◌∙◌, subst, arith}
use Rattle.std.proofs.lemmas.Bool.{or_parts}
use Rattle.jsgen_syntax.specs.Escapes.{name_text, word_value}
use Rattle.jsgen_syntax.specs.Name.{spells_name}
use Rattle.jsgen_syntax.specs.declared.operator.BinaryOperator.TheVariants as operators
use Rattle.jsgen_syntax.specs.declared.precedence.Precedence.TheVariants as levels
use Rattle.jsgen_syntax.specs.declared.span.Span.{Span}
use Rattle.jsgen_syntax.proofs.Escapes.{word_text_value}
use Rattle.jsgen_tree.specs.Job.{Tables}
use Rattle.jsgen_tree.specs.Nodes as tree
use Rattle.jsgen_tree.specs.Tree.{Tree, Atoms}
use Rattle.jsgen_tree.specs.Values.{private_identifier_name, private_field_expression_optional}
use Rattle.jsgen_model.specs.Private.{printed_private, private_name_by}
use Rattle.jsgen_model.specs.Punctuator.{dot, question_dot}
use Rattle.jsgen_model.specs.Tokens.{Tokens, done, piece, ◌⧺◌, Word, Sign, Beyond, Private}
use Rattle.jsgen_model.specs.Items.{Items, ◌⊕◌, member_dot, private_name, punctuator, word, hard_space}
use Rattle.jsgen_model.specs.Layout.{Pen, layout}
use Rattle.jsgen_model.specs.Grammar.{Allowed, ReadsExpression, ReadsChain}
use Rattle.jsgen_model.specs.Grammar as grammar
use Rattle.jsgen_model.specs.Normal.{nothing_of, link_values}
use Rattle.jsgen_place.specs.declared.place.Place.{Place}
use Rattle.jsgen_place.specs.Place.{within, linked, behind_private, wraps, is_forbidden, binary_wraps}
use Rattle.jsgen_model.specs.Spell.{spell, name_link}
use Rattle.jsgen_token_laws.proofs.Characters.{letters_spelled}
use Rattle.jsgen_token_laws.proofs.Last.{Last, After, line_of, Knows}
use Rattle.jsgen_token_laws.proofs.Writes.{Writes, wrote_both}
use Rattle.jsgen_token_laws.proofs.Steps.{wrote_dot, wrote_punctuator}
use Rattle.jsgen_token_laws.proofs.Specials.{wrote_private}
use Rattle.jsgen_row_laws.proofs.Levels.{under, read_left, lifted, unwrapped, from_left}
use Rattle.jsgen_row_laws.proofs.Freed.{freed}
use Rattle.jsgen_row_laws.proofs.Good.{GoodAs, Printed, PrintedBy, TargetAt, TargetPrinted, begins_all, begins_then, line_then, good_wrapped}
use Rattle.jsgen_row_laws.proofs.Links.{linked_read, with_name_behind}
use Rattle.jsgen_row_laws.proofs.OptionalChains.{ChainPrinted, BasePrinted, no_call, link_parts}
use Rattle.jsgen_row_laws.proofs.Operations.{stands_there}
use Rattle.jsgen_row_laws.proofs.Properties.{MemberKeyAt}
use Rattle.jsgen_row_laws.proofs.Adds.{an_operand, behind_operand, Is, is, ◌⨟◌, ◌&◌, Adds, ◌⨾◌, keyword, hard_spaced}
use Rattle.jsgen_row_laws.proofs.Parts.{Reads, expression, operand_ends}

-- ---- a private name alone

-- without tables of private names each is printed as it is
pub unrenamed_private : (names : Tables) (classes w : List ℕ) → names.private ≡ None → printed_private names classes w ≡ w
unrenamed_private names classes w e = ap (λ o. unwrap_or (option_and_then (λ all. private_name_by all classes w) o) w) e

abbrev Wrote : Tables → Span → List ℕ → Pen → Last → List ℕ → Type 0
Wrote names s v p l w = Writes names p l (layout (private_name s v) p) (After (Beyond (Private (name_text p.style.ascii w)))) (piece (line_of l) (Beyond (Private (name_text p.style.ascii w))) done)

pub wrote_private_name : {names : Tables} (s : Span) (v : List ℕ) (p : Pen) (l : Last) → names.private ≡ None → spells_name v ≡ true → Knows names p l → Wrote names s v p l v
wrote_private_name {names} s v p l e h k =
    let same : printed_private p.style.tables p.classes v ≡ v = ap (λ t. printed_private t p.classes v) k.tables ∙ unrenamed_private names p.classes v e in
    subst (λ w. Wrote names s v p l w) same (wrote_private s v p l (subst (λ w. spells_name w ≡ true) (sym same) h) k)

-- ---- members

pub private_target : {names : Tables} (c : Allowed) (a b : Atoms) (o : Tree) → names.private ≡ None → private_field_expression_optional a ≡ false → spells_name (private_identifier_name b) ≡ true → Printed names c o → TargetPrinted names c (tree.private_member a o (tree.private_identifier b))
private_target {names} c a b o e m h f place p l z y k =
    let v : List ℕ = private_identifier_name b in
    let p1 : Pen = layout (spell o (linked place)) p in
    let p2 : Pen = layout member_dot p1 in
    let w : List ℕ = name_text p2.style.ascii v in
    let x : word_value w ≡ Some v = word_text_value p2.style.ascii v h in
    let g = f (linked place) p l z y k in
    let d = wrote_dot p1 g.last g.operand g.writes.knows in
    let n = wrote_private_name b.span v p2 (After (Sign dot)) e h d.knows in
    let behind : Tokens = piece (line_of g.last) (Sign dot) (piece false (Beyond (Private w)) done) in
    let r = linked_read place.context.forbids_call (λ s. grammar.a_private_member w (line_of g.last) false refl x s) (λ s. grammar.a_private_member_of_call w (line_of g.last) false refl x s) g.reads in
    subst (λ optional. TargetAt names p l (layout (name_link optional ⊕ private_name b.span v) p1) c place (tree.private_member a o (tree.private_identifier b))) (sym m) (
      record {
        last = After (Beyond (Private w));
        tokens = g.tokens ⧺ behind;
        writes = wrote_both g.writes (wrote_both d n);
        operand = tt;
        semicolon = g.semicolon;
        begins = λ ts i. begins_then p.start g.tokens behind ts g.begins refl;
        line = λ i. line_then g.tokens behind (g.line i);
        tree = tree.private_member (link_values false) g.tree (grammar.private_name v);
        reads = from_left place r;
        same = λ i. tree.private_member (link_values (sym m i)) (g.same i) (grammar.private_name v);
      },
      refl,
      refl,
      read_left place.context.forbids_call r,
      λ i. with_name_behind g.tokens (line_of g.last) (piece false (Beyond (Private w)) done),
    )

pub good_private_member : {names : Tables} (c : Allowed) (a b : Atoms) (o : Tree) → names.private ≡ None → private_field_expression_optional a ≡ false → spells_name (private_identifier_name b) ≡ true → Printed names c o → Printed names c (tree.private_member a o (tree.private_identifier b))
good_private_member c a b o e m h f place p l z y k = (private_target c a b o e m h f place p l z y k).0

-- ---- in chains

abbrev PrivateAt : Tables → Allowed → Atoms → Atoms → Tree → Place → Pen → Last → Bool → Type 0
PrivateAt names c a b o place p l optional = GoodAs names (ReadsChain (under place c)) p l (layout (name_link optional ⊕ private_name b.span (private_identifier_name b)) (layout (spell o (linked place)) p)) (tree.private_member a o (tree.private_identifier b))

pub optional_private_member : {names : Tables} (c : Allowed) (a b : Atoms) (o : Tree) → names.private ≡ None → private_field_expression_optional a ≡ true → spells_name (private_identifier_name b) ≡ true → BasePrinted names c o → ChainPrinted names c (tree.private_member a o (tree.private_identifier b))
optional_private_member {names} c a b o e m h f place n p l z y k =
    let v : List ℕ = private_identifier_name b in
    let p1 : Pen = layout (spell o (linked place)) p in
    let p2 : Pen = layout (punctuator question_dot) p1 in
    let w : List ℕ = name_text p2.style.ascii v in
    let x : word_value w ≡ Some v = word_text_value p2.style.ascii v h in
    let g = f place (no_call place n) p l z y k in
    let d = wrote_punctuator question_dot p1 g.last tt tt g.operand g.writes.knows in
    subst (λ optional. PrivateAt names c a b o place p l optional) (sym m)
    (link_parts (piece (line_of g.last) (Sign question_dot) (piece false (Beyond (Private w)) done)) g (wrote_both d (wrote_private_name b.span v p2 (After (Sign question_dot)) e h d.knows)) tt g.semicolon (λ ts. refl)
    (grammar.an_optional_private_member w (line_of g.last) false refl x g.reads) (λ i. tree.private_member (link_values (sym m i)) (g.same i) (grammar.private_name v)))

pub further_private_member : {names : Tables} (c : Allowed) (a b : Atoms) (o : Tree) → names.private ≡ None → private_field_expression_optional a ≡ false → spells_name (private_identifier_name b) ≡ true → ChainPrinted names c o → ChainPrinted names c (tree.private_member a o (tree.private_identifier b))
further_private_member {names} c a b o e m h f place n p l z y k =
    let v : List ℕ = private_identifier_name b in
    let p1 : Pen = layout (spell o (linked place)) p in
    let p2 : Pen = layout member_dot p1 in
    let w : List ℕ = name_text p2.style.ascii v in
    let x : word_value w ≡ Some v = word_text_value p2.style.ascii v h in
    let g = f (linked place) (no_call place n) p l z y k in
    let d = wrote_dot p1 g.last g.operand g.writes.knows in
    subst (λ optional. PrivateAt names c a b o place p l optional) (sym m)
    (link_parts (piece (line_of g.last) (Sign dot) (piece false (Beyond (Private w)) done)) g (wrote_both d (wrote_private_name b.span v p2 (After (Sign dot)) e h d.knows)) tt g.semicolon (λ ts. refl)
    (grammar.a_further_private_member w (line_of g.last) false refl x g.reads) (λ i. tree.private_member (link_values (sym m i)) (g.same i) (grammar.private_name v)))

-- ---- a test whether an object has a private name

abbrev Tested : Tables → Allowed → Tree → Tokens → Type 0
Tested names c t = Is (Word (codes "in")) ⨟ Reads names (ReadsExpression (under behind_private c) grammar.Shift) t

-- where `in` may stand
read_test : (names : Tables) (c : Allowed) (q : Place) (a b : Atoms) (t : Tree) (w : List ℕ) (mark : Bool) → not q.context.forbids_in ≡ true → word_value w ≡ Some (private_identifier_name b) → {ts : Tokens} → Tested names c t ts → Reads names (ReadsExpression (under q c) grammar.Relational) (tree.private_in a (tree.private_identifier b) t) (piece mark (Beyond (Private w)) ts)
read_test names c q a b t w mark s x (◌&◌ {b = d} (is o) r) = record {
  reading = tree.private_in (nothing_of 0) (grammar.private_name (private_identifier_name b)) r.reading;
  reads = subst (λ k. ReadsExpression (record c { in_operator = k }) grammar.Relational (piece mark (Beyond (Private w)) (piece o (Word (codes "in")) d)) (tree.private_in (nothing_of 0) (grammar.private_name (private_identifier_name b)) r.reading)) (sym s) (grammar.a_private_test refl x (freed r.reads));
  same = ap (λ u. tree.private_in (nothing_of 0) (grammar.private_name (private_identifier_name b)) u) r.same;
}

abbrev behind_name : Tree → Items
behind_name t = hard_space ⊕ (word (codes "in") ⊕ (hard_space ⊕ spell t behind_private))

test_printed : {names : Tables} (c : Allowed) (q : Place) (a b : Atoms) (t : Tree) → names.private ≡ None → spells_name (private_identifier_name b) ≡ true → not q.context.forbids_in ≡ true → Printed names c t → PrintedBy names (under q c) grammar.Relational (private_name b.span (private_identifier_name b) ⊕ behind_name t) (tree.private_in a (tree.private_identifier b) t)
test_printed {names} c q a b t e h s f p l z y k =
    let v : List ℕ = private_identifier_name b in
    let w : List ℕ = name_text p.style.ascii v in
    let o = wrote_private_name b.span v p l e h k in
    let rest : Adds names behind_operand (Tested names c t) behind_operand (behind_name t) = hard_spaced (keyword (codes "in") (letters_spelled 105 (codes "n") refl) ⨾ hard_spaced (expression c refl f behind_private)) in
    let x = rest.from (layout (private_name b.span v) p) (After (Beyond (Private w))) z (λ n i. operand_ends (After (Beyond (Private w))) tt n i) o.knows in
    let r = read_test names c q a b t w (line_of l) s (word_text_value p.style.ascii v h) x.holds in
    record {
      last = x.last;
      tokens = piece (line_of l) (Beyond (Private w)) x.tokens;
      writes = wrote_both o x.writes;
      operand = x.ends an_operand refl;
      semicolon = x.semicolon;
      begins = λ d i. begins_all p.start (piece (line_of l) (Beyond (Private w)) (x.tokens ⧺ d)) refl;
      line = λ i. ap not i;
      tree = r.reading;
      reads = r.reads;
      same = r.same;
    }

pub good_private_test : {names : Tables} (c : Allowed) (a b : Atoms) (t : Tree) → names.private ≡ None → spells_name (private_identifier_name b) ≡ true → Printed names c t → Printed names c (tree.private_in a (tree.private_identifier b) t)
good_private_test {names} c a b t e h f place =
    good_wrapped c place grammar.Relational (binary_wraps operators.In place) (λ w. private_name b.span (private_identifier_name b) ⊕ behind_name t) (tree.private_in a (tree.private_identifier b) t)
    (λ d ts u r. lifted false levels.Equals levels.Lowest (omega arith) r) (λ i ts u r. unwrapped levels.Compare place (or_parts (wraps levels.Compare place) (is_forbidden operators.In place) i).0 r)
    (λ v i. test_printed c (within v place) a b t e h (stands_there operators.In c place v i) f)

-- ---- keys of members of classes

pub private_key : {names : Tables} (c : Allowed) (a : Atoms) → names.private ≡ None → spells_name (private_identifier_name a) ≡ true → MemberKeyAt names c true false (tree.private_identifier a)
private_key {names} c a e h p l z y k =
    let v : List ℕ = private_identifier_name a in
    let w : List ℕ = name_text p.style.ascii v in
    record {
      last = After (Beyond (Private w));
      tokens = piece (line_of l) (Beyond (Private w)) done;
      writes = wrote_private_name a.span v p l e h k;
      operand = tt;
      semicolon = z;
      line = λ i. ap not i;
      tree = grammar.private_name v;
      reads = grammar.a_private_key (word_text_value p.style.ascii v h);
      same = refl;
    }
