-- Texts in bytes and in characters.
use Rattle.std.proofs.Common.{◌≡◌, ℕ, zero, suc, codes, ◌<◌, ◌≤◌, ◌-◌, Bool, true, false, nat_lt, Option, Some, None, List, [], ◌∷◌, ◌++◌, length, replicate, take, drop, refl, sym, ap, subst, ◌∙◌, append_assoc, append-nil, length-append, arith}
use Rattle.std.specs.List.{slice_get}
use Rattle.std.specs.Option.{option_map, option_map_or}
use Rattle.std.specs.Str.{chars, encode_utf8_all, IsAscii, IsUtf8}
use Rattle.std.proofs.Math.Seq.{take-append_seam, drop-append_seam}
use Rattle.std.proofs.lemmas.Bool.{and_parts, and_from}
use Rattle.std.proofs.lemmas.Bool.Decides.{nat_tests}
use Rattle.std.proofs.lemmas.Str.{chars-IsAscii, chars-append, chars_from_encodes, encodes-IsAscii, IsUtf8-drop, IsUtf8-string_bytes, IsCharBoundary-from_take}
use Rattle.std.proofs.lemmas.Str.Ascii.{IsAscii-nil, IsAscii-cons}
use Rattle.jsgen_syntax.proofs.Last.{last_goes_in_word}
use Rattle.jsgen_syntax.specs.Buffer.{buffer_bytes, indent_byte, indent_code, AppendsPrefix}
use Rattle.jsgen_syntax.specs.declared.buffer.CodeBuffer.{CodeBuffer}
use Rattle.jsgen_syntax.specs.declared.buffer.IndentChar.{IndentChar}
use Rattle.jsgen_syntax.specs.declared.buffer.IndentChar.TheVariants as indents
use Rattle.jsgen_syntax.specs.Name.{goes_in_word}
use Rattle.jsgen_syntax.specs.Escapes.{name_text, has_escapes}
use Rattle.jsgen_syntax.specs.Strings.{quote_char}
use Rattle.jsgen_syntax.specs.declared.quote.Quote.{Quote}
use Rattle.jsgen_syntax.specs.declared.quote.Quote.TheVariants as quotes
use Rattle.jsgen_syntax.specs.declared.quote.Quote.TheVariants.{Backtick}
use Rattle.jsgen_model.specs.Layout.{Pen, Ending, nowhere, written, written_if, white_if, indented, space_if, ends_in_word, name_ending}
use Rattle.jsgen_model.specs.Printing.{IsPrefix}
use Rattle.jsgen_printer.specs.Printer.{is_ascii, name_written}
use Rattle.jsgen_printer.proofs.Prefixes.{prefix_append, prefix_behind, first_bytes}

below : (b : ℕ) → nat_lt b 128 ≡ true → b < 128
below b h = grind (arith, nat_tests)

passes : (bs : List ℕ) → is_ascii bs ≡ true → IsAscii bs
passes [] h = IsAscii-nil
passes (b ∷ bs) h =
    let parts = and_parts (nat_lt b 128) (is_ascii bs) h in
    IsAscii-cons b bs (below b parts.0) (passes bs parts.1)

-- the characters of a text of ASCII are its bytes
pub ascii_chars : (bs : List ℕ) → is_ascii bs ≡ true → chars bs ≡ bs
ascii_chars bs h = chars-IsAscii bs (passes bs h)

map_or : (o : Option ℕ) (p : Option ℕ) → option_map goes_in_word o ≡ option_map goes_in_word p → option_map_or goes_in_word o false ≡ option_map_or goes_in_word p false
map_or None None h = refl
map_or (Some x) (Some y) h = cc
map_or None (Some y) h = cc
map_or (Some x) None h = cc

-- the last byte tells whether the characters end in a word
pub ends_by_byte : (bs : List ℕ) → IsUtf8 bs → option_map_or goes_in_word (slice_get bs (length bs - 1)) false ≡ ends_in_word (chars bs)
ends_by_byte bs u = map_or _ _ (last_goes_in_word bs u)

-- a space where the test holds, and the text
pub written_apart : (test : Bool) (t : List ℕ) (e : Ending) (pen : Pen) → written t e (written_if test (chars (codes " ")) pen) ≡ written (space_if test ++ t) e pen
written_apart true t e pen = rw (ascii_chars (codes " ") refl) (ap (λ code. record pen { code = code; ending = e; start = nowhere }) (append_assoc pen.code (codes " ") t))
written_apart false t e pen = ap (λ code. record pen { code = code ++ t; ending = e; start = nowhere }) (append-nil pen.code)

all_ascii : (n b : ℕ) → nat_lt b 128 ≡ true → is_ascii (replicate n b) ≡ true
all_ascii zero b h = refl
all_ascii (suc n) b h = rw h (all_ascii n b h)

-- indentation is ASCII
indent_ascii : (n : ℕ) (b : CodeBuffer) → is_ascii (replicate n (indent_byte b)) ≡ true
indent_ascii n b = all_ascii n (indent_byte b) (by b.indent)
  where
    by : (c : IndentChar) → nat_lt (indent_code c) 128 ≡ true
    by indents.Tab = refl
    by indents.Space = refl

pub indent_chars : (n : ℕ) (b : CodeBuffer) → chars (replicate n (indent_byte b)) ≡ replicate n (indent_byte b)
indent_chars n b = ascii_chars _ (indent_ascii n b)

pub indent_bytes : (n : ℕ) (b : CodeBuffer) → encode_utf8_all (replicate n (indent_byte b)) ≡ replicate n (indent_byte b)
indent_bytes n b = encodes-IsAscii _ (passes _ (indent_ascii n b))

-- indentation that isn't empty
pub indented_by : (xs : List ℕ) (pen : Pen) → (length xs ≡ 0 → ⊥) → indented xs pen ≡ white_if true xs pen
indented_by [] pen some = absurd (some refl)
indented_by (x ∷ xs) pen some = refl

pub indented_code : (xs : List ℕ) (pen : Pen) → (indented xs pen).code ≡ pen.code ++ xs
indented_code [] pen = sym (append-nil pen.code)
indented_code (x ∷ xs) pen = refl

-- ---- the code's characters

-- what is UTF-8 behind a text, where the whole is
behind_text : (before text : List ℕ) → IsUtf8 before → IsUtf8 (before ++ text) → IsUtf8 text
behind_text before text u v =
    let first : take (length before) (before ++ text) ≡ before = take-append_seam before text in
    let rest : drop (length before) (before ++ text) ≡ text = drop-append_seam before text in
    let fits : length before ≤ length (before ++ text) = omega (arith, length-append before text) in
    let cut = IsCharBoundary-from_take (before ++ text) (length before) v fits (subst IsUtf8 (sym first) u) in
    subst IsUtf8 rest (IsUtf8-drop (before ++ text) (length before) v cut)

-- the characters of what UTF-8 has for them
encoded_chars : (text : List ℕ) → IsUtf8 (encode_utf8_all text) → chars (encode_utf8_all text) ≡ text
encoded_chars text u = sym (chars_from_encodes text (encode_utf8_all text) u refl)

-- the code's bytes are a text
pub code_is_text : (b : CodeBuffer) → IsUtf8 (buffer_bytes b)
code_is_text b = IsUtf8-string_bytes b.text

-- bytes were appended that are a text
pub appended_text : (old new : CodeBuffer) (text : List ℕ) → buffer_bytes new ≡ buffer_bytes old ++ text → chars (buffer_bytes new) ≡ chars (buffer_bytes old) ++ chars text
appended_text old new text e = ap chars e ∙ chars-append (buffer_bytes old) text (code_is_text old)

-- characters were appended
pub appended_chars : (old new : CodeBuffer) (text : List ℕ) → buffer_bytes new ≡ buffer_bytes old ++ encode_utf8_all text → chars (buffer_bytes new) ≡ chars (buffer_bytes old) ++ text
appended_chars old new text e =
    let u = behind_text (buffer_bytes old) (encode_utf8_all text) (code_is_text old) (subst IsUtf8 e (code_is_text new)) in
    appended_text old new (encode_utf8_all text) e ∙ ap (λ t. chars (buffer_bytes old) ++ t) (encoded_chars text u)

-- some first bytes of characters were appended: the characters are those before and some first ones of these
pub stopped_chars : (old new : CodeBuffer) (text : List ℕ) → AppendsPrefix (buffer_bytes old) (buffer_bytes new) (encode_utf8_all text) → IsPrefix (chars (buffer_bytes old)) (chars (buffer_bytes new)) × IsPrefix (chars (buffer_bytes new)) (chars (buffer_bytes old) ++ text)
stopped_chars old new text a =
    let some = take a.0 (encode_utf8_all text) in
    let more = appended_text old new some a.1 in
    let u = behind_text (buffer_bytes old) some (code_is_text old) (subst IsUtf8 a.1 (code_is_text new)) in
    (rw more (prefix_append (chars (buffer_bytes old)) (chars some)), rw more (prefix_behind (chars (buffer_bytes old)) (first_bytes text a.0 u)))

quote_ascii : (q : Quote) → nat_lt (quote_char q) 128 ≡ true
quote_ascii quotes.Single = refl
quote_ascii quotes.Double = refl
quote_ascii quotes.Backtick = refl

pub quote_chars : (q : Quote) → chars (quote_char q ∷ []) ≡ quote_char q ∷ []
quote_chars q = ascii_chars (quote_char q ∷ []) (and_from (nat_lt (quote_char q) 128) true (quote_ascii q) refl)

-- ---- steps in a row

-- a space where the test holds, and a name
pub name_apart : (test : Bool) (w : List ℕ) (pen : Pen) → name_written w (written_if test (chars (codes " ")) pen) ≡ written (space_if test ++ name_text pen.style.ascii w) (name_ending (has_escapes pen.style.ascii w)) pen
name_apart true w pen = written_apart true (name_text pen.style.ascii w) (name_ending (has_escapes pen.style.ascii w)) pen
name_apart false w pen = written_apart false (name_text pen.style.ascii w) (name_ending (has_escapes pen.style.ascii w)) pen
