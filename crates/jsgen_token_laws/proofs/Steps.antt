-- What each item of a layout writes.
use Rattle.std.proofs.Common.{◌≡◌, ℕ, zero, suc, ◌*◌, Bool, true, false, not, ◌||◌, ◌==◌, ◌⊎◌, inl, inr, Option, Some, is_some, unwrap_or, option_and_then, List, [], ◌∷◌, ◌++◌, codes, replicate, refl, sym, ap, ◌∙◌, subst, subst₂, append_assoc, append-nil, None}
use Rattle.std.specs.Char.{is_ascii_digit}
use Rattle.std.specs.List.{list_all, last_or}
use Rattle.std.proofs.lemmas.Bool.{both_ways, and_parts, and_from, or_from, or_cases, or_left, or_right, eqb-true, not-false}
use Rattle.jsgen_syntax.specs.Name.{spells_name, goes_in_word}
use Rattle.jsgen_syntax.specs.Strings.{quote_char, string_value}
use Rattle.jsgen_syntax.specs.Escapes.{name_text, has_escapes, begins}
use Rattle.jsgen_syntax.specs.declared.quote.Quote.{Quote}
use Rattle.std.specs.Option.{option_map_or}
use Rattle.jsgen_tree.specs.Job.{Scoping, Tables}
use Rattle.jsgen_tree.specs.Named.{Named, as_written, name_by, printed_name}
use Rattle.jsgen_model.proofs.NumberRuns.{BarsDot, whole_number, big_number, big_bars_dot, marked_bars_dot, number_last}
use Rattle.jsgen_model.proofs.NumberStates.{start}
use Rattle.jsgen_model.proofs.NumberMachine.{number_runs}
use Rattle.jsgen_token_laws.proofs.Literals.{whole_begins, whole_no_dot, big_begins, big_no_dot, raw_parts}
use Rattle.jsgen_token_laws.proofs.Numbers.{number_before_dot}
use Rattle.jsgen_model.specs.Punctuator.{Punctuator, Bracket, punctuator_text, plus, minus, star, dot, ellipsis, comma, semicolon, Round, opening, closing, plus_plus, minus_minus, slash}
use Rattle.jsgen_model.specs.Tokens.{longer_stands, Tokens, done, piece, group, Word, Number, Quoted, Sign, is_spelled, is_blank, is_line_terminator, has_line_end, Beyond}
use Rattle.jsgen_model.specs.Numbers.{spells_number, spells_whole, takes_no_dot, ends_in, is_raw_number}
use Rattle.jsgen_model.specs.Items.{member_dot, word, number, punctuator, operator, soft_space, soft_line, hard_space, body_space, indentation, due_semicolon, statement_begins, apart}
use Rattle.jsgen_model.specs.Layout.{Pen, Ending, other_end, operator_end, layout, with_name_written, written, written_if, white_if, text_if, ending_unless, is_apart, ends_in_escapes, name_ending, space_if, joins, dot_joins, indented, indent_or_space, at_indentation, end_statement, number_ending}
use Rattle.jsgen_token_laws.proofs.Characters.{goes_on_in_sign, ends_in_word_behind, all_goes, all_follow, last_behind, alphanumeric_goes}
use Rattle.jsgen_token_laws.proofs.Words.{word_begins, unescaped, name_spelled, spelled_name}
use Rattle.jsgen_token_laws.proofs.Last.{Last, Open, After, line_of, Clear, Operand, Ready, Begun, Remembers, Ended, is_indent, Knows, NoDot, word_ends, clear_apart, clear_dots, clear_star, clear_quote, clear_quoted, clear_space, clear_operator, clear_word, clear_digit, increment_clear, decrement_clear, EndedSign, special_ends}
use Rattle.jsgen_token_laws.proofs.Writes.{Writes, wrote_none, wrote_and_none, wrote_blank, wrote_piece, wrote_brackets}

-- ---- gaps

pub space_blank : (b : Bool) → list_all is_blank (space_if b) ≡ true
space_blank true = refl
space_blank false = refl

-- a space ends no line
pub space_mark : (b line : Bool) → line ≡ (line || has_line_end (space_if b))
space_mark true true = refl
space_mark true false = refl
space_mark false true = refl
space_mark false false = refl

-- ---- words and numbers

-- a word of this spelling, behind which the code is so
written_word : {names : Tables} (w : List ℕ) (p q : Pen) (l : Last) → is_spelled (Word w) ≡ true → q.code ≡ p.code ++ (space_if (is_apart p.ending p.code) ++ w) → Knows names p l → Knows names q (After (Word w)) → Writes names p l q (After (Word w)) (piece (line_of l) (Word w) done)
written_word w p q l h e k m =
    let b : Bool = is_apart p.ending p.code in
    let i = word_begins w h in
    wrote_piece p q l (space_if b) (Word w) (line_of l) (space_blank b) (space_mark b (line_of l)) h
    (λ r. subst (λ t. Clear l (space_if b ++ (t ++ r))) (sym i.text) (clear_word p.code p.ending l i.head (i.tail ++ r) k.ending i.starts)) e m

-- what ends in a name is apart from a word
ends_apart : (e : Ending) (code gap w : List ℕ) → spells_name w ≡ true → is_apart e (code ++ (gap ++ w)) ≡ true
ends_apart e code gap [] h = absurd (both_ways false refl h)
ends_apart e code gap (c ∷ w) h = or_right (ends_in_escapes e) _ (ends_in_word_behind code gap c w (all_goes (c ∷ w) h))

pub wrote_word : {names : Tables} (w : List ℕ) (p : Pen) (l : Last) → spells_name w ≡ true → Knows names p l → Writes names p l (layout (word w) p) (After (Word w)) (piece (line_of l) (Word w) done)
wrote_word w p l h k = written_word w p (layout (word w) p) l (spelled_name w h) refl k (record { indent = k.indent; tables = k.tables; ending = ends_apart other_end p.code (space_if (is_apart p.ending p.code)) w h })

-- a name may be printed with escapes
pub name_apart : (ascii : Bool) (code gap w : List ℕ) → spells_name w ≡ true → (b : Bool) → has_escapes ascii w ≡ b → is_apart (name_ending b) (code ++ (gap ++ name_text ascii w)) ≡ true
name_apart ascii code gap w h true e = refl
name_apart ascii code gap w h false e = subst (λ t. is_apart other_end (code ++ (gap ++ t)) ≡ true) (sym (unescaped ascii w e)) (ends_apart other_end code gap w h)

wrote_with_name : {names : Tables} (w : List ℕ) (p : Pen) (l : Last) → spells_name w ≡ true → Knows names p l → Writes names p l (with_name_written w p) (After (Word (name_text p.style.ascii w))) (piece (line_of l) (Word (name_text p.style.ascii w)) done)
wrote_with_name w p l h k = written_word (name_text p.style.ascii w) p (with_name_written w p) l (name_spelled p.style.ascii w h) refl k (record { indent = k.indent; tables = k.tables; ending = name_apart p.style.ascii p.code (space_if (is_apart p.ending p.code)) w h (has_escapes p.style.ascii w) refl })

-- a name, whatever its span
pub wrote_name : {names : Tables} (n : Named) (p : Pen) (l : Last) → spells_name (printed_name names n) ≡ true → Knows names p l → Writes names p l (with_name_written (printed_name p.style.tables n) p) (After (Word (name_text p.style.ascii (printed_name names n)))) (piece (line_of l) (Word (name_text p.style.ascii (printed_name names n))) done)
wrote_name {names} n p l h k =
    let w : List ℕ = name_text p.style.ascii (printed_name names n) in
    subst (λ tables. Writes names p l (with_name_written (printed_name tables n) p) (After (Word w)) (piece (line_of l) (Word w) done)) (sym k.tables) (wrote_with_name (printed_name names n) p l h k)

-- one that stands as it is written is printed so
pub printed_as_written : (names : Tables) (w : List ℕ) → printed_name names (as_written w) ≡ w
printed_as_written names w = go names.scoping
  where
    go : (o : Option Scoping) → unwrap_or (option_and_then (λ scoping. name_by scoping (as_written w)) o) w ≡ w
    go None = refl
    go (Some scoping) = refl

pub wrote_written_name : {names : Tables} (w : List ℕ) (p : Pen) (l : Last) → spells_name w ≡ true → Knows names p l → Writes names p l (with_name_written (printed_name p.style.tables (as_written w)) p) (After (Word (name_text p.style.ascii w))) (piece (line_of l) (Word (name_text p.style.ascii w)) done)
wrote_written_name {names} w p l h k =
    let e : printed_name names (as_written w) ≡ w = printed_as_written names w in
    subst (λ x. Writes names p l (with_name_written (printed_name p.style.tables (as_written w)) p) (After (Word (name_text p.style.ascii x))) (piece (line_of l) (Word (name_text p.style.ascii x)) done)) e (wrote_name (as_written w) p l (subst (λ x. spells_name x ≡ true) (sym e) h) k)

-- a number that doesn't end in a dot ends in a character of words
ends_apart_number : (e : Ending) (code gap : List ℕ) (c : ℕ) (w : List ℕ) → spells_number (c ∷ w) ≡ true → ends_in (codes ".") (c ∷ w) ≡ false → is_apart e (code ++ (gap ++ (c ∷ w))) ≡ true
ends_apart_number e code gap c w h d = or_right (ends_in_escapes e) _ (ap (λ o. option_map_or goes_in_word o false) (last_behind None code (gap ++ (c ∷ w)) ∙ last_behind (last_or None code) gap (c ∷ w)) ∙ number_last goes_in_word alphanumeric_goes start (last_or (last_or None code) gap) c w (sym (number_runs (c ∷ w)) ∙ h) d)

dot_flag : (b : Bool) (w : List ℕ) → (b ≡ false → BarsDot w) → (dot_joins (number_ending b) ≡ true) ⊎ BarsDot w
dot_flag true w h = inl refl
dot_flag false w h = inr (h refl)

-- a number that begins with a digit and doesn't end in a dot; where the flag doesn't hold, no dot goes on with it
pub wrote_number : {names : Tables} (flag : Bool) (w : List ℕ) (p : Pen) (l : Last) → spells_number w ≡ true → begins is_ascii_digit w ≡ true → ends_in (codes ".") w ≡ false → (flag ≡ false → BarsDot w) → Ready l → Knows names p l → Writes names p l (layout (number flag w) p) (After (Number w)) (piece (line_of l) (Number w) done)
wrote_number flag [] p l h d e f y k = absurd (both_ways false refl d)
wrote_number flag (c ∷ w) p l h d e f y k =
    let b : Bool = is_apart p.ending p.code in
    wrote_piece p (layout (number flag (c ∷ w)) p) l (space_if b) (Number (c ∷ w)) (line_of l) (space_blank b) (space_mark b (line_of l)) h
    (λ r. clear_digit p.code p.ending l c (w ++ r) k.ending y d) refl
    (record { indent = k.indent; tables = k.tables; ending = (ends_apart_number (number_ending flag) p.code (space_if b) c w h e, dot_flag flag (c ∷ w) f, h) })

-- a whole number, of which a dot behind it would be part
pub wrote_whole : {names : Tables} (w : List ℕ) (p : Pen) (l : Last) → spells_whole w ≡ true → Ready l → Knows names p l → Writes names p l (layout (number true w) p) (After (Number w)) (piece (line_of l) (Number w) done)
wrote_whole w p l h y k = wrote_number true w p l (whole_number w h) (whole_begins w h) (whole_no_dot w h) (λ e. absurd (both_ways true e refl)) y k

-- the text of a number
pub wrote_raw : {names : Tables} (w : List ℕ) (p : Pen) (l : Last) → is_raw_number w ≡ true → Ready l → Knows names p l → Writes names p l (layout (number (not (takes_no_dot w)) w) p) (After (Number w)) (piece (line_of l) (Number w) done)
wrote_raw w p l h y k = let r = raw_parts w h in wrote_number (not (takes_no_dot w)) w p l r.2 r.0 r.1 (λ e. marked_bars_dot w r.2 (not-false (takes_no_dot w) e)) y k

-- a whole number with the suffix of a big integer
pub wrote_big : {names : Tables} (w : List ℕ) (p : Pen) (l : Last) → spells_whole w ≡ true → Ready l → Knows names p l → Writes names p l (layout (number false (w ++ codes "n")) p) (After (Number (w ++ codes "n"))) (piece (line_of l) (Number (w ++ codes "n")) done)
wrote_big w p l h y k = wrote_number false (w ++ codes "n") p l (big_number w h) (big_begins w h) (big_no_dot w) (λ e. big_bars_dot w h) y k

-- ---- strings, behind anything

-- any spelling of a string
pub wrote_quoted : {names : Tables} (q : Quote) (w us : List ℕ) (p r : Pen) (l : Last) → string_value q w ≡ Some us → r.code ≡ p.code ++ (quote_char q ∷ (w ++ quote_char q ∷ [])) → r.style ≡ p.style → Knows names p l → Writes names p l r (After (Quoted q w)) (piece (line_of l) (Quoted q w) done)
wrote_quoted q w us p r l h e f k =
    wrote_piece p r l [] (Quoted q w) (line_of l) refl (space_mark false (line_of l)) (ap is_some h) (λ x. clear_quote q l _) e
    (record { indent = subst (λ s. is_indent s.indent ≡ true) (sym f) k.indent; tables = ap (λ s. s.tables) f ∙ k.tables; ending = tt })

-- ---- punctuators behind an operand

-- what is known of the code behind a sign
signed : (s : Punctuator) (e : Ending) (code gap : List ℕ) → Remembers s e → EndedSign (code ++ (gap ++ punctuator_text s)) e s
signed plus e code gap m = m
signed minus e code gap m = m
signed slash e code gap m = last_behind None code (gap ++ (47 ∷ [])) ∙ last_behind (last_or None code) gap (47 ∷ [])
signed s e code gap m = tt

pub wrote_punctuator : {names : Tables} (s : Punctuator) (p : Pen) (l : Last) → NoDot s → Remembers s other_end → Operand l → Knows names p l → Writes names p l (layout (punctuator s) p) (After (Sign s)) (piece (line_of l) (Sign s) done)
wrote_punctuator s p l i m o k = wrote_piece p (layout (punctuator s) p) l [] (Sign s) (line_of l) refl (space_mark false (line_of l)) refl (λ r. clear_operator s p.code p.ending l r i o k.ending) refl (record { indent = k.indent; tables = k.tables; ending = signed s other_end p.code [] m })

remembered : (s : Punctuator) → Remembers s (operator_end s)
remembered plus = refl
remembered minus = refl
remembered s = tt

spaced_operator : (s : Punctuator) (code : List ℕ) (e : Ending) (l : Last) (b : Bool) (r : List ℕ) → NoDot s → Operand l → Ended code e l → Clear l (space_if b ++ (punctuator_text s ++ r))
spaced_operator s code e l true r i o k = clear_space l (punctuator_text s ++ r)
spaced_operator s code e l false r i o k = clear_operator s code e l r i o k

pub wrote_operator : {names : Tables} (s : Punctuator) (p : Pen) (l : Last) → NoDot s → Operand l → Knows names p l → Writes names p l (layout (operator s) p) (After (Sign s)) (piece (line_of l) (Sign s) done)
wrote_operator s p l i o k =
    let b : Bool = joins p.ending p.code s in
    wrote_piece p (layout (operator s) p) l (space_if b) (Sign s) (line_of l) (space_blank b) (space_mark b (line_of l)) refl (λ r. spaced_operator s p.code p.ending l b r i o k.ending) refl (record { indent = k.indent; tables = k.tables; ending = signed s (operator_end s) p.code (space_if b) (remembered s) })

-- a semicolon may stand behind anything
pub wrote_semicolon : {names : Tables} (p q : Pen) (l : Last) → q.code ≡ p.code ++ codes ";" → q.style ≡ p.style → Knows names p l → Writes names p l q (After (Sign semicolon)) (piece (line_of l) (Sign semicolon) done)
wrote_semicolon p q l e f k = wrote_piece p q l [] (Sign semicolon) (line_of l) refl (space_mark false (line_of l)) refl (λ r. clear_apart l 59 r refl refl refl) e (record { indent = subst (λ s. is_indent s.indent ≡ true) (sym f) k.indent; tables = ap (λ s. s.tables) f ∙ k.tables; ending = tt })

-- a comma may stand behind anything
pub wrote_comma : {names : Tables} (p : Pen) (l : Last) → Knows names p l → Writes names p l (layout (punctuator comma) p) (After (Sign comma)) (piece (line_of l) (Sign comma) done)
wrote_comma p l k = wrote_piece p (layout (punctuator comma) p) l [] (Sign comma) (line_of l) refl (space_mark false (line_of l)) refl (λ r. clear_apart l 44 r refl refl refl) refl (record { indent = k.indent; tables = k.tables; ending = tt })

-- three dots, where a member of a list begins
pub wrote_dots : {names : Tables} (p : Pen) (l : Last) → Begun l → Knows names p l → Writes names p l (layout (punctuator ellipsis) p) (After (Sign ellipsis)) (piece (line_of l) (Sign ellipsis) done)
wrote_dots p l b k = wrote_piece p (layout (punctuator ellipsis) p) l [] (Sign ellipsis) (line_of l) refl (space_mark false (line_of l)) refl (λ r. clear_dots l r b) refl (record { indent = k.indent; tables = k.tables; ending = tt })

-- a star there
pub wrote_star : {names : Tables} (p : Pen) (l : Last) → Begun l → Knows names p l → Writes names p l (layout (punctuator star) p) (After (Sign star)) (piece (line_of l) (Sign star) done)
wrote_star p l b k = wrote_piece p (layout (punctuator star) p) l [] (Sign star) (line_of l) refl (space_mark false (line_of l)) refl (λ r. clear_star l r b) refl (record { indent = k.indent; tables = k.tables; ending = tt })

-- ---- blanks

-- blanks, or nothing
pub record Soft (names : Tables) (p : Pen) (l : Last) (q : Pen) : Type 0 where
  pub last : Last
  pub writes : Writes names p l q last done
  pub operand : Operand l → Operand last
  pub ready : Ready l → Ready last
  pub begun : Begun l → Begun last
  pub line : line_of l ≡ false → line_of last ≡ false
  pub semicolon : q.pending_semicolon ≡ p.pending_semicolon

-- the pen goes on with the same code
pub no_soft : {names : Tables} (p q : Pen) (l : Last) → q.code ≡ p.code → q.ending ≡ p.ending → q.style ≡ p.style → q.pending_semicolon ≡ p.pending_semicolon → Knows names p l → Soft names p l q
no_soft {names} p q l e f g h k = record { last = l; writes = wrote_none p q l e (knows_so l k.ending); operand = λ o. o; ready = λ y. y; begun = λ b. b; line = λ z. z; semicolon = h }
  where
    knows_so : (l : Last) → Ended p.code p.ending l → Knows names q l
    knows_so l z = record { indent = subst (λ s. is_indent s.indent ≡ true) (sym g) k.indent; tables = ap (λ s. s.tables) g ∙ k.tables; ending = subst₂ (λ x y. Ended x y l) (sym e) (sym f) z }

indent_cases : (c : ℕ) → is_indent c ≡ true → (c ≡ 32) ⊎ (c ≡ 9)
indent_cases c h = go (or_cases (c == 32) (c == 9) h)
  where
    go : ((c == 32) ≡ true) ⊎ ((c == 9) ≡ true) → (c ≡ 32) ⊎ (c ≡ 9)
    go (inl e) = inl (eqb-true c 32 e)
    go (inr e) = inr (eqb-true c 9 e)

-- spaces and tabs are blanks that end no line, and may stand anywhere
indent_blank : (c : ℕ) → is_indent c ≡ true → is_blank c ≡ true
indent_blank c h = or_left (is_indent c) (is_line_terminator c) h

indent_no_line : (c : ℕ) → is_indent c ≡ true → is_line_terminator c ≡ false
indent_no_line c h = go (indent_cases c h)
  where
    go : (c ≡ 32) ⊎ (c ≡ 9) → is_line_terminator c ≡ false
    go (inl e) = subst (λ x. is_line_terminator x ≡ false) (sym e) refl
    go (inr e) = subst (λ x. is_line_terminator x ≡ false) (sym e) refl

indents_no_line : (gap : List ℕ) → list_all is_indent gap ≡ true → has_line_end gap ≡ false
indents_no_line [] h = refl
indents_no_line (c ∷ gap) h = let k = and_parts (is_indent c) (list_all is_indent gap) h in or_from (is_line_terminator c) (has_line_end gap) (indent_no_line c k.0) (indents_no_line gap k.1)

clear_indent : (l : Last) (c : ℕ) (r : List ℕ) → is_indent c ≡ true → Clear l (c ∷ r)
clear_indent l c r h = go (indent_cases c h)
  where
    go : (c ≡ 32) ⊎ (c ≡ 9) → Clear l (c ∷ r)
    go (inl e) = subst (λ x. Clear l (x ∷ r)) (sym e) (clear_apart l 32 r refl refl refl)
    go (inr e) = subst (λ x. Clear l (x ∷ r)) (sym e) (clear_apart l 9 r refl refl refl)

indents : (n c : ℕ) → is_indent c ≡ true → list_all is_indent (replicate n c) ≡ true
indents zero c h = refl
indents (suc n) c h = and_from (is_indent c) (list_all is_indent (replicate n c)) h (indents n c h)

-- spaces or tabs
soft_blank : {names : Tables} (p q : Pen) (l : Last) (gap : List ℕ) → list_all is_indent gap ≡ true → ((r : List ℕ) → Clear l (gap ++ r)) → q.code ≡ p.code ++ gap → q.style ≡ p.style → q.pending_semicolon ≡ p.pending_semicolon → Knows names p l → Soft names p l q
soft_blank p q l gap h clear e f g k = record {
  last = Open (line_of l || has_line_end gap);
  writes = wrote_blank p q l gap (all_follow is_indent is_blank indent_blank gap h) clear e (record { indent = subst (λ s. is_indent s.indent ≡ true) (sym f) k.indent; tables = ap (λ s. s.tables) f ∙ k.tables; ending = tt });
  operand = λ o. tt;
  ready = λ y. tt;
  begun = λ b. tt;
  line = λ z. or_from (line_of l) (has_line_end gap) z (indents_no_line gap h);
  semicolon = g;
}

-- a space where the test holds
space_written : {names : Tables} (test : Bool) (p : Pen) (l : Last) → Knows names p l → Soft names p l (written_if test (codes " ") p)
space_written true p l k = soft_blank p (written_if true (codes " ") p) l (codes " ") refl (λ r. clear_space l r) refl refl refl k
space_written false p l k = no_soft p (written_if false (codes " ") p) l (append-nil p.code) refl refl refl k

pub soft_space_written : {names : Tables} (p : Pen) (l : Last) → Knows names p l → Soft names p l (layout soft_space p)
soft_space_written p l k = space_written (not p.style.minified) p l k

pub apart_written : {names : Tables} (p : Pen) (l : Last) → Knows names p l → Soft names p l (layout apart p)
apart_written {names} p l k = by (is_apart p.ending p.code)
  where
    by : (test : Bool) → Soft names p l (white_if test (codes " ") p)
    by true = soft_blank p (white_if true (codes " ") p) l (codes " ") refl (λ r. clear_space l r) refl refl refl k
    by false = no_soft p (white_if false (codes " ") p) l (append-nil p.code) refl refl refl k

pub indentation_written : {names : Tables} (p : Pen) (l : Last) → Knows names p l → Soft names p l (layout indentation p)
indentation_written {names} p l k = by_style p.style.minified
  where
    indented_so : (n : ℕ) → Soft names p l (indented (replicate n p.style.indent) p)
    indented_so zero = no_soft p p l refl refl refl refl k
    indented_so (suc n) = soft_blank p (indented (replicate (suc n) p.style.indent) p) l (replicate (suc n) p.style.indent) (indents (suc n) p.style.indent k.indent) (λ r. clear_indent l p.style.indent (replicate n p.style.indent ++ r) k.indent) refl refl refl k

    by_space : (b : Bool) → Soft names p l (indent_or_space b p)
    by_space true = soft_blank p (indent_or_space true p) l (codes " ") refl (λ r. clear_space l r) refl refl refl k
    by_space false = indented_so (p.depth * p.style.width)

    by_style : (b : Bool) → Soft names p l (at_indentation b p)
    by_style true = no_soft p p l refl refl refl refl k
    by_style false = by_space p.pending_space

pub begins_written : {names : Tables} (p : Pen) (l : Last) → Knows names p l → Soft names p l (layout statement_begins p)
begins_written p l k = no_soft p (layout statement_begins p) l refl refl refl refl k

pub hard_space_written : {names : Tables} (p : Pen) (l : Last) → Knows names p l → Soft names p l (layout hard_space p)
hard_space_written p l k = soft_blank p (layout hard_space p) l (codes " ") refl (λ r. clear_space l r) refl refl refl k

pub body_space_written : {names : Tables} (p : Pen) (l : Last) → Knows names p l → Soft names p l (layout body_space p)
body_space_written p l k = no_soft p (layout body_space p) l refl refl refl refl k

-- blanks that may end a line, or nothing
pub record Gap (names : Tables) (p : Pen) (l : Last) (q : Pen) : Type 0 where
  pub last : Last
  pub writes : Writes names p l q last done
  pub ready : Ready l → Ready last
  pub begun : Begun l → Begun last
  pub semicolon : q.pending_semicolon ≡ p.pending_semicolon

abbrev pub gap : {names : Tables} {p q : Pen} {l : Last} → Soft names p l q → Gap names p l q
gap s = record { last = s.last; writes = s.writes; ready = s.ready; begun = s.begun; semicolon = s.semicolon }

pub soft_line_written : {names : Tables} (p : Pen) (l : Last) → Knows names p l → Gap names p l (layout soft_line p)
soft_line_written {names} p l k = go p.style.minified
  where
    go : (b : Bool) → Gap names p l (written_if (not b) (codes "\n") p)
    go true = gap (no_soft p (written_if false (codes "\n") p) l (append-nil p.code) refl refl refl k)
    go false = record {
      last = Open (line_of l || has_line_end (codes "\n"));
      writes = wrote_blank p (written_if true (codes "\n") p) l (codes "\n") refl (λ r. clear_apart l 10 r refl refl refl) refl (record { indent = k.indent; tables = k.tables; ending = tt });
      ready = λ y. tt;
      begun = λ b. tt;
      semicolon = refl;
    }

-- the pen goes on with the same code
pub no_gap : {names : Tables} (p q : Pen) (l : Last) → q.code ≡ p.code → q.ending ≡ p.ending → q.style ≡ p.style → q.pending_semicolon ≡ p.pending_semicolon → Knows names p l → Gap names p l q
no_gap p q l e f g h k = gap (no_soft p q l e f g h k)

-- ---- semicolons

-- pretty, a statement ends in a semicolon and a line end
pub end_written : {names : Tables} (p : Pen) (l : Last) → Knows names p l → Writes names p l (end_statement false p) (Open true) (piece (line_of l) (Sign semicolon) done)
end_written p l k =
    let q : Pen = written (codes ";") other_end p in
    let s : Pen = end_statement false p in
    let a = wrote_semicolon p q l refl refl k in
    let b = wrote_blank q s (After (Sign semicolon)) (codes "\n") refl (λ r. clear_apart (After (Sign semicolon)) 10 r refl refl refl) (sym (append_assoc p.code (codes ";") (codes "\n"))) (record { indent = k.indent; tables = k.tables; ending = tt }) in
    wrote_and_none a b

-- minified, it is left
pub end_left : {names : Tables} (p : Pen) (l : Last) → Knows names p l → Writes names p l (end_statement true p) l done
end_left p l k = wrote_none p (end_statement true p) l refl (record { indent = k.indent; tables = k.tables; ending = k.ending })

pub due_written : {names : Tables} (p : Pen) (l : Last) → p.pending_semicolon ≡ true → Knows names p l → Writes names p l (layout due_semicolon p) (After (Sign semicolon)) (piece (line_of l) (Sign semicolon) done)
due_written p l e k = wrote_semicolon p (layout due_semicolon p) l (ap (λ b. p.code ++ text_if b (codes ";")) e) refl k

pub none_due : {names : Tables} (p : Pen) (l : Last) → p.pending_semicolon ≡ false → Knows names p l → Soft names p l (layout due_semicolon p)
none_due p l e k = no_soft p (layout due_semicolon p) l (ap (λ b. p.code ++ text_if b (codes ";")) e ∙ append-nil p.code) (ap (λ b. ending_unless b p.ending) e) refl (sym e) k

-- ---- parentheses

pub opened : {names : Tables} (p : Pen) (l : Last) → Knows names p l → Knows names (written_if true (opening Round) p) (Open false)
opened p l k = record { indent = k.indent; tables = k.tables; ending = tt }

pub parentheses_written : {names : Tables} (p q : Pen) (l m : Last) (ts : Tokens) → Writes names (written_if true (opening Round) p) (Open false) q m ts → Writes names p l (written_if true (closing Round) q) (Open false) (group (line_of l) Round ts done)
parentheses_written p q l m ts w = wrote_brackets Round p (written_if true (opening Round) p) q (written_if true (closing Round) q) l m ts refl refl (record { indent = w.knows.indent; tables = w.knows.tables; ending = tt }) w

-- brackets that are always there
pub within_brackets : {names : Tables} (b : Bracket) (p : Pen) (l : Last) → Knows names p l → Knows names (written (opening b) other_end p) (Open false)
within_brackets b p l k = record { indent = k.indent; tables = k.tables; ending = tt }

pub brackets_written : {names : Tables} (b : Bracket) (p q : Pen) (l m : Last) (ts : Tokens) → Writes names (written (opening b) other_end p) (Open false) q m ts → Writes names p l (written (closing b) other_end q) (Open false) (group (line_of l) b ts done)
brackets_written b p q l m ts w = wrote_brackets b p (written (opening b) other_end p) q (written (closing b) other_end q) l m ts refl refl (record { indent = w.knows.indent; tables = w.knows.tables; ending = tt }) w

-- where none are printed
pub unopened : {names : Tables} (p : Pen) (l : Last) → (text : List ℕ) → Knows names p l → Soft names p l (written_if false text p)
unopened p l text k = no_soft p (written_if false text p) l (append-nil p.code) refl refl refl k

-- ---- a sign before its operand, behind anything

abbrev NoPlus : Punctuator → Type 0
NoPlus plus = ⊥
NoPlus s = Unit {0}

abbrev NoMinus : Punctuator → Type 0
NoMinus minus = ⊥
NoMinus s = Unit {0}

plus_behind : (s : Punctuator) (r : List ℕ) → NoPlus s → Clear (After (Sign s)) (43 ∷ r)
unfolding longer_stands
plus_behind plus r n = absurd n
plus_behind s r n = refl

minus_behind : (s : Punctuator) (r : List ℕ) → NoMinus s → Clear (After (Sign s)) (45 ∷ r)
unfolding longer_stands
minus_behind minus r n = absurd n
minus_behind s r n = refl

pub spaced_or : (l : Last) (b : Bool) (r : List ℕ) → Clear l r → Clear l (space_if b ++ r)
spaced_or l true r h = clear_space l r
spaced_or l false r h = h

pub spaced_since : (l : Last) (b : Bool) (r : List ℕ) → b ≡ true → Clear l (space_if b ++ r)
spaced_since l true r e = clear_space l r
spaced_since l false r e = absurd (both_ways false refl e)

plus_clear : (code : List ℕ) (e : Ending) (l : Last) (r : List ℕ) → Ended code e l → Clear l (space_if (joins e code plus) ++ (43 ∷ r))
plus_clear code e (Open line) r k = tt
plus_clear code e (After (Word w)) r k = spaced_operator plus code e (After (Word w)) (joins e code plus) r tt tt k
plus_clear code e (After (Number w)) r k = spaced_operator plus code e (After (Number w)) (joins e code plus) r tt tt k
plus_clear code e (After (Quoted q w)) r k = clear_quoted q w (space_if (joins e code plus) ++ (43 ∷ r))
plus_clear code e (After (Beyond s)) r k = spaced_or (After (Beyond s)) (joins e code plus) (43 ∷ r) (special_ends s 43 r refl refl)
plus_clear code e (After (Sign plus)) r k = spaced_since (After (Sign plus)) (joins e code plus) (43 ∷ r) (ap (λ x. joins x code plus) k)
plus_clear code e (After (Sign s)) r k = spaced_or (After (Sign s)) (joins e code plus) (43 ∷ r) (plus_behind s r tt)

minus_clear : (code : List ℕ) (e : Ending) (l : Last) (r : List ℕ) → Ended code e l → Clear l (space_if (joins e code minus) ++ (45 ∷ r))
minus_clear code e (Open line) r k = tt
minus_clear code e (After (Word w)) r k = spaced_operator minus code e (After (Word w)) (joins e code minus) r tt tt k
minus_clear code e (After (Number w)) r k = spaced_operator minus code e (After (Number w)) (joins e code minus) r tt tt k
minus_clear code e (After (Quoted q w)) r k = clear_quoted q w (space_if (joins e code minus) ++ (45 ∷ r))
minus_clear code e (After (Beyond s)) r k = spaced_or (After (Beyond s)) (joins e code minus) (45 ∷ r) (special_ends s 45 r refl refl)
minus_clear code e (After (Sign minus)) r k = spaced_since (After (Sign minus)) (joins e code minus) (45 ∷ r) (ap (λ x. joins x code minus) k)
minus_clear code e (After (Sign s)) r k = spaced_or (After (Sign s)) (joins e code minus) (45 ∷ r) (minus_behind s r tt)

pub wrote_plus : {names : Tables} (p : Pen) (l : Last) → Knows names p l → Writes names p l (layout (operator plus) p) (After (Sign plus)) (piece (line_of l) (Sign plus) done)
wrote_plus p l k =
    let b : Bool = joins p.ending p.code plus in
    wrote_piece p (layout (operator plus) p) l (space_if b) (Sign plus) (line_of l) (space_blank b) (space_mark b (line_of l)) refl (λ r. plus_clear p.code p.ending l r k.ending) refl (record { indent = k.indent; tables = k.tables; ending = refl })

pub wrote_minus : {names : Tables} (p : Pen) (l : Last) → Knows names p l → Writes names p l (layout (operator minus) p) (After (Sign minus)) (piece (line_of l) (Sign minus) done)
wrote_minus p l k =
    let b : Bool = joins p.ending p.code minus in
    wrote_piece p (layout (operator minus) p) l (space_if b) (Sign minus) (line_of l) (space_blank b) (space_mark b (line_of l)) refl (λ r. minus_clear p.code p.ending l r k.ending) refl (record { indent = k.indent; tables = k.tables; ending = refl })

increment_apart : (code : List ℕ) (e : Ending) (l : Last) (r : List ℕ) → Ended code e l → Clear l (space_if (joins e code plus_plus) ++ (43 ∷ 43 ∷ r))
increment_apart code e (Open line) r k = tt
increment_apart code e (After (Word w)) r k = spaced_operator plus_plus code e (After (Word w)) (joins e code plus_plus) r tt tt k
increment_apart code e (After (Number w)) r k = spaced_operator plus_plus code e (After (Number w)) (joins e code plus_plus) r tt tt k
increment_apart code e (After (Quoted q w)) r k = clear_quoted q w (space_if (joins e code plus_plus) ++ (43 ∷ 43 ∷ r))
increment_apart code e (After (Beyond s)) r k = spaced_or (After (Beyond s)) (joins e code plus_plus) (43 ∷ 43 ∷ r) (special_ends s 43 (43 ∷ r) refl refl)
increment_apart code e (After (Sign plus)) r k = spaced_since (After (Sign plus)) (joins e code plus_plus) (43 ∷ 43 ∷ r) (ap (λ x. joins x code plus_plus) k)
increment_apart code e (After (Sign s)) r k = spaced_or (After (Sign s)) (joins e code plus_plus) (43 ∷ 43 ∷ r) (plus_behind s (43 ∷ r) tt)

decrement_apart : (code : List ℕ) (e : Ending) (l : Last) (r : List ℕ) → Ended code e l → Clear l (space_if (joins e code minus_minus) ++ (45 ∷ 45 ∷ r))
decrement_apart code e (Open line) r k = tt
decrement_apart code e (After (Word w)) r k = spaced_operator minus_minus code e (After (Word w)) (joins e code minus_minus) r tt tt k
decrement_apart code e (After (Number w)) r k = spaced_operator minus_minus code e (After (Number w)) (joins e code minus_minus) r tt tt k
decrement_apart code e (After (Quoted q w)) r k = clear_quoted q w (space_if (joins e code minus_minus) ++ (45 ∷ 45 ∷ r))
decrement_apart code e (After (Beyond s)) r k = spaced_or (After (Beyond s)) (joins e code minus_minus) (45 ∷ 45 ∷ r) (special_ends s 45 (45 ∷ r) refl refl)
decrement_apart code e (After (Sign minus)) r k = spaced_since (After (Sign minus)) (joins e code minus_minus) (45 ∷ 45 ∷ r) (ap (λ x. joins x code minus_minus) k)
decrement_apart code e (After (Sign s)) r k = spaced_or (After (Sign s)) (joins e code minus_minus) (45 ∷ 45 ∷ r) (minus_behind s (45 ∷ r) tt)

pub wrote_increment : {names : Tables} (p : Pen) (l : Last) → Knows names p l → Writes names p l (layout (operator plus_plus) p) (After (Sign plus_plus)) (piece (line_of l) (Sign plus_plus) done)
wrote_increment p l k =
    let b : Bool = joins p.ending p.code plus_plus in
    wrote_piece p (layout (operator plus_plus) p) l (space_if b) (Sign plus_plus) (line_of l) (space_blank b) (space_mark b (line_of l)) refl (λ r. increment_apart p.code p.ending l r k.ending) refl (record { indent = k.indent; tables = k.tables; ending = tt })

pub wrote_decrement : {names : Tables} (p : Pen) (l : Last) → Knows names p l → Writes names p l (layout (operator minus_minus) p) (After (Sign minus_minus)) (piece (line_of l) (Sign minus_minus) done)
wrote_decrement p l k =
    let b : Bool = joins p.ending p.code minus_minus in
    wrote_piece p (layout (operator minus_minus) p) l (space_if b) (Sign minus_minus) (line_of l) (space_blank b) (space_mark b (line_of l)) refl (λ r. decrement_apart p.code p.ending l r k.ending) refl (record { indent = k.indent; tables = k.tables; ending = tt })

-- a sign of one character, with which no other sign goes on
pub wrote_prefix : {names : Tables} (s : Punctuator) (c : ℕ) (p : Pen) (l : Last) → punctuator_text s ≡ c ∷ [] → goes_in_word c ≡ false → goes_on_in_sign c ≡ false → (c == 92) ≡ false → Knows names p l → Writes names p l (layout (operator s) p) (After (Sign s)) (piece (line_of l) (Sign s) done)
wrote_prefix s c p l e h g n k =
    let b : Bool = joins p.ending p.code s in
    wrote_piece p (layout (operator s) p) l (space_if b) (Sign s) (line_of l) (space_blank b) (space_mark b (line_of l)) refl
    (λ r. spaced_or l b (punctuator_text s ++ r) (subst (λ t. Clear l (t ++ r)) (sym e) (clear_apart l c r h g n))) refl (record { indent = k.indent; tables = k.tables; ending = signed s (operator_end s) p.code (space_if b) (remembered s) })

-- ---- the dot of a member, behind an operand

dot_apart : (l : Last) (e : Ending) (code : List ℕ) (r : List ℕ) → Operand l → Ended code e l → Clear l (space_if (dot_joins e) ++ (46 ∷ r))
dot_apart (Open line) e code r o k = tt
dot_apart (After (Word w)) e code r o k = spaced_or (After (Word w)) (dot_joins e) (46 ∷ r) (word_ends w 46 r refl refl)
dot_apart (After (Number w)) e code r o k = by k.1
  where
    by : (dot_joins e ≡ true) ⊎ BarsDot w → Clear (After (Number w)) (space_if (dot_joins e) ++ (46 ∷ r))
    by (inl j) = spaced_since (After (Number w)) (dot_joins e) (46 ∷ r) j
    by (inr b) = spaced_or (After (Number w)) (dot_joins e) (46 ∷ r) (number_before_dot w r b)
dot_apart (After (Quoted q w)) e code r o k = clear_quoted q w (space_if (dot_joins e) ++ (46 ∷ r))
dot_apart (After (Beyond s)) e code r o k = spaced_or (After (Beyond s)) (dot_joins e) (46 ∷ r) (special_ends s 46 r refl refl)
dot_apart (After (Sign plus_plus)) e code r o k = spaced_or (After (Sign plus_plus)) (dot_joins e) (46 ∷ r) (increment_clear 46 r)
dot_apart (After (Sign minus_minus)) e code r o k = spaced_or (After (Sign minus_minus)) (dot_joins e) (46 ∷ r) (decrement_clear 46 r)
dot_apart (After (Sign s)) e code r o k = absurd o

pub wrote_dot : {names : Tables} (p : Pen) (l : Last) → Operand l → Knows names p l → Writes names p l (layout member_dot p) (After (Sign dot)) (piece (line_of l) (Sign dot) done)
wrote_dot p l o k =
    let b : Bool = dot_joins p.ending in
    wrote_piece p (layout member_dot p) l (space_if b) (Sign dot) (line_of l) (space_blank b) (space_mark b (line_of l)) refl (λ r. dot_apart l p.ending p.code r o k.ending) refl (record { indent = k.indent; tables = k.tables; ending = tt })
