-- Templates by their parts, alone and behind a tag: what stands between two of them is an expression, and each part is a token.
use Rattle.std.proofs.Common.{◌≡◌, ℕ, Bool, true, false, Some, List, refl, ap}
use Rattle.jsgen_syntax.specs.Raw.{template_text}
use Rattle.jsgen_syntax.specs.declared.precedence.Precedence.TheVariants as levels
use Rattle.jsgen_tree.specs.Job.{Tables}
use Rattle.jsgen_tree.specs.Tree.{Tree, Trees, no_trees, more, span_of, atoms_of}
use Rattle.jsgen_tree.specs.Values.{template_element_raw}
use Rattle.jsgen_model.specs.Tokens.{Tokens, done, piece, Piece, Beyond, Head, Middle, Tail, is_part}
use Rattle.jsgen_model.specs.Items.{◌⊕◌, template_part, head_part, middle_part, tail_part}
use Rattle.jsgen_model.specs.Layout.{layout}
use Rattle.jsgen_model.specs.Grammar.{Allowed, ReadsExpression, ReadsPieces, read_piece, with_in}
use Rattle.jsgen_model.specs.Grammar as grammar
use Rattle.jsgen_model.specs.Normal.{normal_trees, by_value, by_values, by_raw_text, by_raw_texts}
use Rattle.jsgen_model.specs.Renamed.{renamed, renamed_trees}
use Rattle.jsgen_place.specs.Place.{in_brackets}
use Rattle.jsgen_model.specs.Spell.{spell, spell_substitutions, first_piece, opening_part}
use Rattle.jsgen_token_laws.proofs.Last.{After, line_of}
use Rattle.jsgen_token_laws.proofs.Specials.{wrote_head, wrote_middle, wrote_tail}
use Rattle.jsgen_row_laws.proofs.Good.{Printed}
use Rattle.jsgen_row_laws.proofs.Marks.{comments_laid}
use Rattle.jsgen_row_laws.proofs.Lists.{same_more}
use Rattle.jsgen_row_laws.proofs.Adds.{a_start, a_member, an_operand, a_line, End, is_good_for, behind_operand, behind_sign, Ends, no, ◌⨟◌, ◌&◌, Says, Adds, ◌⨾◌, read, laid}
use Rattle.jsgen_row_laws.proofs.Parts.{Reads, expression, operand_ends}

-- ---- pieces

-- what counts of a piece, behind a tag or without one
abbrev pub form : Bool → Tree → Tree
form true t = by_raw_text t
form false t = by_value t

abbrev pub forms : Bool → Trees → Trees
forms true ts = by_raw_texts ts
forms false ts = by_values ts

same_forms : (tagged : Bool) (t u : Tree) (ts us : Trees) → form tagged t ≡ form tagged u → forms tagged ts ≡ forms tagged us → forms tagged (more t ts) ≡ forms tagged (more u us)
same_forms true t u ts us e f = λ i. more (e i) (f i)
same_forms false t u ts us e f = λ i. more (e i) (f i)

no_others : (tagged : Bool) (t u : Tree) → form tagged t ≡ form tagged u → forms tagged (more t no_trees) ≡ forms tagged (more u no_trees)
no_others true t u e = λ i. more (e i) no_trees
no_others false t u e = λ i. more (e i) no_trees

abbrev pub raw_of : Tree → List ℕ
raw_of q = template_element_raw (atoms_of q)

-- a text of a piece is a part's, and is read as what counts of the piece
pub record FitsAs (names : Tables) (tagged : Bool) (q : Tree) (text : List ℕ) : Type 0 where
  pub part : is_part text ≡ true
  pub piece : Tree
  pub reads : read_piece tagged text ≡ Some piece
  pub same : form tagged piece ≡ form tagged (renamed names q)

-- and so is the one under any style; the first flag tells that it is printed as behind a tag
abbrev pub Fits : Tables → Bool → Bool → Tree → Type 0
Fits names shown tagged q = (minified ascii : Bool) → FitsAs names tagged q (template_text shown minified ascii (raw_of q))

-- a part of a template, whose text is read so
pub data IsPart (names : Tables) (part : List ℕ → Piece) (tagged : Bool) (q : Tree) : Tokens → Type 0 where
  is_part_of : (w : List ℕ) (o : Bool) → FitsAs names tagged q w → IsPart names part tagged q (piece o (part w) done)

abbrev the_head : List ℕ → Piece
the_head w = Beyond (Head w)

abbrev the_middle : List ℕ → Piece
the_middle w = Beyond (Middle w)

abbrev the_tail : List ℕ → Piece
the_tail w = Beyond (Tail w)

pub head_ends : (w : List ℕ) → Ends behind_sign (After (Beyond (Head w)))
head_ends w a_start h = tt
head_ends w a_member h = no h
head_ends w an_operand h = no h
head_ends w a_line h = refl

middle_ends : (w : List ℕ) → Ends behind_sign (After (Beyond (Middle w)))
middle_ends w a_start h = tt
middle_ends w a_member h = no h
middle_ends w an_operand h = no h
middle_ends w a_line h = refl

head : {names : Tables} {d : End} (shown tagged : Bool) (q : Tree) → Fits names shown tagged q → Adds names d (IsPart names the_head tagged q) behind_sign (template_part head_part shown (span_of q) (raw_of q))
head shown tagged q f = record { from = λ p l z y k. let t : List ℕ = template_text shown p.style.minified p.style.ascii (raw_of q) in let fit = f p.style.minified p.style.ascii in record { last = After (Beyond (Head t)); tokens = piece (line_of l) (Beyond (Head t)) done; writes = wrote_head shown (span_of q) (raw_of q) p l fit.part k; ends = head_ends t; semicolon = z; holds = is_part_of t (line_of l) fit } }

middle : {names : Tables} {d : End} (shown tagged : Bool) (q : Tree) → Fits names shown tagged q → Adds names d (IsPart names the_middle tagged q) behind_sign (template_part middle_part shown (span_of q) (raw_of q))
middle shown tagged q f = record { from = λ p l z y k. let t : List ℕ = template_text shown p.style.minified p.style.ascii (raw_of q) in let fit = f p.style.minified p.style.ascii in record { last = After (Beyond (Middle t)); tokens = piece (line_of l) (Beyond (Middle t)) done; writes = wrote_middle shown (span_of q) (raw_of q) p l fit.part k; ends = middle_ends t; semicolon = z; holds = is_part_of t (line_of l) fit } }

tail : {names : Tables} {d : End} (shown tagged : Bool) (q : Tree) → Fits names shown tagged q → Adds names d (IsPart names the_tail tagged q) behind_operand (template_part tail_part shown (span_of q) (raw_of q))
tail shown tagged q f = record { from = λ p l z y k. let t : List ℕ = template_text shown p.style.minified p.style.ascii (raw_of q) in let fit = f p.style.minified p.style.ascii in record { last = After (Beyond (Tail t)); tokens = piece (line_of l) (Beyond (Tail t)) done; writes = wrote_tail shown (span_of q) (raw_of q) p l fit.part k; ends = operand_ends (After (Beyond (Tail t))) tt; semicolon = z; holds = is_part_of t (line_of l) fit } }

-- ---- behind `${`: an expression, and the piece behind it, to the end

-- each piece fits, each expression is printed, and there are as many of the one as of the other
pub data PiecesPrinted (names : Tables) (c : Allowed) (shown tagged : Bool) : Trees → Trees → Type 0 where
  last_printed : {q e : Tree} → Fits names shown tagged q → Printed names c e → PiecesPrinted names c shown tagged (more q no_trees) (more e no_trees)
  printed_before : {q r e : Tree} {qs es : Trees} → Fits names shown tagged q → Printed names c e → PiecesPrinted names c shown tagged (more r qs) es → PiecesPrinted names c shown tagged (more q (more r qs)) (more e es)

-- pieces and expressions that are read, of these pieces and expressions
abbrev pub SamePieces : Tables → Bool → Trees → Trees → Trees × Trees → Type 0
SamePieces names tagged qs es x = (forms tagged x.0 ≡ forms tagged (renamed_trees names qs)) × (normal_trees x.1 ≡ normal_trees (renamed_trees names es))

abbrev pub Pieces : Tables → Allowed → Bool → Trees → Trees → Tokens → Type 0
Pieces names c tagged qs es = Says {X = Trees × Trees} (λ ts x. ReadsPieces (with_in c) tagged ts x.0 x.1) (SamePieces names tagged qs es)

read_last : (names : Tables) (c : Allowed) (tagged : Bool) (q e : Tree) {ts : Tokens} → (Reads names (ReadsExpression (with_in c) grammar.Expression) e ⨟ IsPart names the_tail tagged q) ts → Pieces names c tagged (more q no_trees) (more e no_trees) ts
read_last names c tagged q e (r & is_part_of w o f) = record { reading = (more f.piece no_trees, more r.reading no_trees); reads = grammar.a_last_piece w o refl r.reads f.reads; same = (no_others tagged f.piece (renamed names q) f.same, ap (λ u. more u no_trees) r.same) }

read_before : (names : Tables) (c : Allowed) (tagged : Bool) (q e : Tree) (qs es : Trees) {ts : Tokens} → (Reads names (ReadsExpression (with_in c) grammar.Expression) e ⨟ (IsPart names the_middle tagged q ⨟ Pieces names c tagged qs es)) ts → Pieces names c tagged (more q qs) (more e es) ts
read_before names c tagged q e qs es (r & (is_part_of w o f & s)) = record { reading = (more f.piece s.reading.0, more r.reading s.reading.1); reads = grammar.a_piece_between w o refl r.reads f.reads s.reads; same = (same_forms tagged f.piece (renamed names q) s.reading.0 (renamed_trees names qs) f.same s.same.0, same_more r.reading (renamed names e) s.reading.1 (renamed_trees names es) r.same s.same.1) }

pub pieces : {names : Tables} (c : Allowed) (shown tagged : Bool) {d : End} {qs es : Trees} → is_good_for d a_start ≡ true → PiecesPrinted names c shown tagged qs es → Adds names d (Pieces names c tagged qs es) behind_operand (spell_substitutions shown es qs)
pieces {names} c shown tagged h (last_printed {q} {e} fits f) = read (λ ts r. read_last names c tagged q e r) (laid (spell e (in_brackets levels.Lowest) ⊕ template_part tail_part shown (span_of q) (raw_of q)) (spell_substitutions shown (more e no_trees) (more q no_trees)) (λ p t. ap (λ x. layout (template_part tail_part shown (span_of q) (raw_of q)) (layout (spell e (in_brackets levels.Lowest)) x)) (comments_laid _ e p))
    (expression c h f (in_brackets levels.Lowest) ⨾ tail shown tagged q fits))
pieces {names} c shown tagged h (printed_before {q} {r} {e} {qs} {es} fits f rest) = read (λ ts x. read_before names c tagged q e (more r qs) es x) (laid (spell e (in_brackets levels.Lowest) ⊕ (template_part middle_part shown (span_of q) (raw_of q) ⊕ spell_substitutions shown es (more r qs))) (spell_substitutions shown (more e es) (more q (more r qs))) (λ p t. ap (λ x. layout (spell_substitutions shown es (more r qs)) (layout (template_part middle_part shown (span_of q) (raw_of q)) (layout (spell e (in_brackets levels.Lowest)) x))) (comments_laid _ e p))
    (expression c h f (in_brackets levels.Lowest) ⨾ (middle shown tagged q fits ⨾ pieces c shown tagged refl rest)))

-- ---- the whole, by itself and behind a tag

abbrev pub FromHead : Tables → Allowed → Bool → Tree → Trees → Trees → Tokens → Type 0
FromHead names c tagged q qs es = IsPart names the_head tagged q ⨟ Pieces names c tagged qs es

pub template : {names : Tables} {d : End} (c : Allowed) (shown tagged : Bool) (q r : Tree) (qs es : Trees) → Fits names shown tagged q → PiecesPrinted names c shown tagged (more r qs) es → Adds names d (FromHead names c tagged q (more r qs) es) behind_operand (first_piece shown opening_part (more q (more r qs)) ⊕ spell_substitutions shown es (more r qs))
template c shown tagged q r qs es fits f = head shown tagged q fits ⨾ pieces c shown tagged refl f
