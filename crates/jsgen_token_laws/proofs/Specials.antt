-- What private names, regular expressions and the parts of templates write.
use Rattle.std.proofs.Common.{◌≡◌, ℕ, Bool, true, false, List, [], ◌∷◌, ◌++◌, refl, ap}
use Rattle.std.specs.Option.{option_map_or}
use Rattle.jsgen_syntax.specs.Name.{spells_name}
use Rattle.jsgen_syntax.specs.Escapes.{name_text, has_escapes}
use Rattle.jsgen_syntax.specs.Raw.{pattern_text, template_text}
use Rattle.jsgen_syntax.specs.declared.quote.Quote.TheVariants as quotes
use Rattle.jsgen_syntax.specs.declared.span.Span.{Span}
use Rattle.jsgen_tree.specs.Job.{Tables}
use Rattle.jsgen_model.specs.Private.{printed_private}
use Rattle.jsgen_model.specs.Punctuator.{slash, Brace, Punctuator}
use Rattle.jsgen_model.specs.Tokens.{done, piece, Word, Number, Quoted, Sign, Beyond, Private, Pattern, Head, Middle, Tail, is_special, is_part, longer_stands, Whole}
use Rattle.jsgen_model.specs.Items.{private_name, regular_expression, template_part, head_part, middle_part, tail_part, whole_part}
use Rattle.jsgen_model.specs.Layout.{Pen, Ending, layout, joins_pattern, is_barred_before, space_if}
use Rattle.jsgen_token_laws.proofs.Characters.{no_word_no_start, no_word_no_digit}
use Rattle.jsgen_token_laws.proofs.Numbers.{number_ends}
use Rattle.jsgen_token_laws.proofs.Words.{name_spelled}
use Rattle.jsgen_token_laws.proofs.Last.{Last, Open, After, line_of, Clear, Ended, Knows, word_ends, special_ends, clear_apart, clear_quote, clear_quoted, clear_closing}
use Rattle.jsgen_token_laws.proofs.Writes.{Writes, wrote_piece}
use Rattle.jsgen_token_laws.proofs.Steps.{name_apart, space_blank, space_mark, spaced_or, spaced_since}

-- ---- private names, behind anything

pub wrote_private : {names : Tables} (s : Span) (w : List ℕ) (p : Pen) (l : Last) → spells_name (printed_private p.style.tables p.classes w) ≡ true → Knows names p l
    → let n : List ℕ = printed_private p.style.tables p.classes w in Writes names p l (layout (private_name s w) p) (After (Beyond (Private (name_text p.style.ascii n)))) (piece (line_of l) (Beyond (Private (name_text p.style.ascii n))) done)
wrote_private s w p l h k =
    let n : List ℕ = printed_private p.style.tables p.classes w in
    wrote_piece p (layout (private_name s w) p) l [] (Beyond (Private (name_text p.style.ascii n))) (line_of l) refl (space_mark false (line_of l)) (name_spelled p.style.ascii n h)
    (λ r. clear_apart l 35 _ refl refl refl) refl
    (record { indent = k.indent; tables = k.tables; ending = name_apart p.style.ascii p.code (35 ∷ []) n h (has_escapes p.style.ascii n) refl })

-- ---- regular expressions, behind anything

-- no sign but that of a division goes on with a slash, and behind none but it a comment begins
clear_pattern : (w code : List ℕ) (e : Ending) (l : Last) (r : List ℕ) → Ended code e l → Clear l (space_if (joins_pattern code w) ++ (47 ∷ r))
unfolding longer_stands
clear_pattern w code e (Open line) r k = tt
clear_pattern w code e (After (Word v)) r k = spaced_or (After (Word v)) (joins_pattern code w) (47 ∷ r) (word_ends v 47 r refl refl)
clear_pattern w code e (After (Number v)) r k = spaced_or (After (Number v)) (joins_pattern code w) (47 ∷ r) (number_ends v 47 r k.2 (no_word_no_start 47 refl) (no_word_no_digit 47 refl) refl refl)
clear_pattern w code e (After (Quoted q v)) r k = clear_quoted q v (space_if (joins_pattern code w) ++ (47 ∷ r))
clear_pattern w code e (After (Beyond s)) r k = spaced_or (After (Beyond s)) (joins_pattern code w) (47 ∷ r) (special_ends s 47 r refl refl)
clear_pattern w code e (After (Sign slash)) r k = spaced_since (After (Sign slash)) (joins_pattern code w) (47 ∷ r) (ap (λ o. option_map_or (is_barred_before w) o false) k)
clear_pattern w code e (After (Sign s)) r k = spaced_or (After (Sign s)) (joins_pattern code w) (47 ∷ r) refl

pub wrote_pattern : {names : Tables} (w flags : List ℕ) (p : Pen) (l : Last) → is_special (Pattern (pattern_text p.style.ascii w) flags) ≡ true → Knows names p l
    → Writes names p l (layout (regular_expression w flags) p) (After (Beyond (Pattern (pattern_text p.style.ascii w) flags))) (piece (line_of l) (Beyond (Pattern (pattern_text p.style.ascii w) flags)) done)
wrote_pattern w flags p l h k =
    let b : Bool = joins_pattern p.code w in
    wrote_piece p (layout (regular_expression w flags) p) l (space_if b) (Beyond (Pattern (pattern_text p.style.ascii w) flags)) (line_of l) (space_blank b) (space_mark b (line_of l)) h
    (λ r. clear_pattern w p.code p.ending l _ k.ending) refl (record { indent = k.indent; tables = k.tables; ending = refl })

-- ---- parts of templates, behind anything

pub wrote_head : {names : Tables} (tagged : Bool) (s : Span) (w : List ℕ) (p : Pen) (l : Last) → is_part (template_text tagged p.style.minified p.style.ascii w) ≡ true → Knows names p l
    → let t : List ℕ = template_text tagged p.style.minified p.style.ascii w in Writes names p l (layout (template_part head_part tagged s w) p) (After (Beyond (Head t))) (piece (line_of l) (Beyond (Head t)) done)
wrote_head tagged s w p l h k =
    let t : List ℕ = template_text tagged p.style.minified p.style.ascii w in
    wrote_piece p (layout (template_part head_part tagged s w) p) l [] (Beyond (Head t)) (line_of l) refl (space_mark false (line_of l)) h (λ r. clear_quote quotes.Backtick l _) refl (record { indent = k.indent; tables = k.tables; ending = tt })

-- a whole one that no string spells
pub wrote_whole_template : {names : Tables} (tagged : Bool) (s : Span) (w : List ℕ) (p : Pen) (l : Last) → is_special (Whole (template_text tagged p.style.minified p.style.ascii w)) ≡ true → Knows names p l
    → let t : List ℕ = template_text tagged p.style.minified p.style.ascii w in Writes names p l (layout (template_part whole_part tagged s w) p) (After (Beyond (Whole t))) (piece (line_of l) (Beyond (Whole t)) done)
wrote_whole_template tagged s w p l h k =
    let t : List ℕ = template_text tagged p.style.minified p.style.ascii w in
    wrote_piece p (layout (template_part whole_part tagged s w) p) l [] (Beyond (Whole t)) (line_of l) refl (space_mark false (line_of l)) h (λ r. clear_quote quotes.Backtick l _) refl (record { indent = k.indent; tables = k.tables; ending = tt })

pub wrote_middle : {names : Tables} (tagged : Bool) (s : Span) (w : List ℕ) (p : Pen) (l : Last) → is_part (template_text tagged p.style.minified p.style.ascii w) ≡ true → Knows names p l
    → let t : List ℕ = template_text tagged p.style.minified p.style.ascii w in Writes names p l (layout (template_part middle_part tagged s w) p) (After (Beyond (Middle t))) (piece (line_of l) (Beyond (Middle t)) done)
wrote_middle tagged s w p l h k =
    let t : List ℕ = template_text tagged p.style.minified p.style.ascii w in
    wrote_piece p (layout (template_part middle_part tagged s w) p) l [] (Beyond (Middle t)) (line_of l) refl (space_mark false (line_of l)) h (λ r. clear_closing Brace l _) refl (record { indent = k.indent; tables = k.tables; ending = tt })

pub wrote_tail : {names : Tables} (tagged : Bool) (s : Span) (w : List ℕ) (p : Pen) (l : Last) → is_part (template_text tagged p.style.minified p.style.ascii w) ≡ true → Knows names p l
    → let t : List ℕ = template_text tagged p.style.minified p.style.ascii w in Writes names p l (layout (template_part tail_part tagged s w) p) (After (Beyond (Tail t))) (piece (line_of l) (Beyond (Tail t)) done)
wrote_tail tagged s w p l h k =
    let t : List ℕ = template_text tagged p.style.minified p.style.ascii w in
    wrote_piece p (layout (template_part tail_part tagged s w) p) l [] (Beyond (Tail t)) (line_of l) refl (space_mark false (line_of l)) h (λ r. clear_closing Brace l _) refl (record { indent = k.indent; tables = k.tables; ending = tt })
