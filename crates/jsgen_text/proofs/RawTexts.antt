-- Raw texts and names, from their bytes on.
use Rattle.std.proofs.Common.{◌≡◌, ℕ, ◌≤◌, ◌<◌, Bool, true, false, not, cond, ◌&&◌, ◌||◌, ◌==◌, ◌⊎◌, inl, inr, List, [], ◌∷◌, ◌++◌, length, refl, sym, ap, ap₂, if◌then◌else◌, ◌∙◌, arith}
use Rattle.std.specs.List.{list_all, list_any}
use Rattle.std.specs.Str.{chars, IsUtf8}
use lib.Utf8.{encode, encodes, scalar, scalars}
use Rattle.std.proofs.lemmas.Bool.{and_parts, and_from, and_left, and_right, ltb-true, lt-ltb, lt-leb, le-leb, cases_lt}
use Rattle.std.proofs.lemmas.Str.{encodes-append, encodes-chars, scalars-chars, chars-nil}
use Rattle.jsgen_syntax.specs.declared.escape.NonAsciiEscape.TheVariants as modes
use Rattle.jsgen_syntax.specs.Escapes.{is_past_ascii, character_escape, name_character, name_text}
use Rattle.jsgen_syntax.specs.Raw.{Raw, raw_escape, is_left_out, tag_character, raw_character, raw_text_after, raw_text, tag_free, tag_free_after}
use Rattle.jsgen_syntax.specs.Strings.{begins_script}
use Rattle.jsgen_syntax.proofs.Bytes.{utf8_high}
use Rattle.jsgen_syntax.proofs.Wtf8.{encode_one, scalar_below}
use Rattle.jsgen_strings.specs.Points.{is_point, ArePoints, is_plain}
use Rattle.jsgen_strings.proofs.Plain.{IsPlain, plain_facts, are_plain, run_bytes}

-- ---- the bytes of a text

points_of_scalars : (cs : List ℕ) → scalars cs ≡ true → list_all is_point cs ≡ true
points_of_scalars [] h = refl
points_of_scalars (c ∷ cs) h =
    let k = and_parts (scalar c) (scalars cs) h in
    and_from (is_point c) (list_all is_point cs) (lt-ltb c 0x11_0000 (scalar_below c k.0)) (points_of_scalars cs k.1)

pub points_of_text : (s : List ℕ) → IsUtf8 s → ArePoints s
points_of_text s u = (encodes-chars s u, points_of_scalars (chars s) (scalars-chars s u))

pub scalars_of_text : (s : List ℕ) → IsUtf8 s → scalars (chars s) ≡ true
scalars_of_text s u = scalars-chars s u

-- of the first character and of those behind it
pub scalars_point : (bytes : List ℕ) (c : ℕ) (behind : List ℕ) → scalars (chars bytes) ≡ true → chars bytes ≡ c ∷ chars behind → (scalar c ≡ true) × (scalars (chars behind) ≡ true)
scalars_point bytes c behind h e = and_parts (scalar c) (scalars (chars behind)) (sym (ap scalars e) ∙ h)

scalars_behind : (xs ys : List ℕ) → scalars (xs ++ ys) ≡ true → scalars ys ≡ true
scalars_behind [] ys h = h
scalars_behind (x ∷ xs) ys h = scalars_behind xs ys (and_parts (scalar x) (scalars (xs ++ ys)) h).1

pub scalars_run : (bytes run behind : List ℕ) → scalars (chars bytes) ≡ true → chars bytes ≡ run ++ chars behind → scalars (chars behind) ≡ true
scalars_run bytes run behind h e = scalars_behind run (chars behind) (sym (ap scalars e) ∙ h)

plain_low : (c : ℕ) → IsPlain c → is_past_ascii c ≡ false
plain_low c p = lt-leb 128 c (ltb-true c 128 p.ascii)

-- ---- raw texts

-- whether a backslash escapes what stands next, and whether it may stand behind a `<`
abbrev State : Type 0
State = Bool × Bool

raw_plain : (raw : Raw) (s : State) (c : ℕ) (cs : List ℕ) → is_plain c ≡ true → raw_text_after raw s.0 s.1 (c ∷ cs) ≡ c ∷ raw_text_after raw false false cs
unfolding raw_text_after
raw_plain raw s c cs h =
    let p = plain_facts c h in
    ap (λ b. cond b (raw_escape raw.mode s.0 c) (if (c == 92) && not s.0 && is_left_out raw cs then [] else tag_character (raw.frees_tags && s.1) c cs) ++ raw_text_after raw ((c == 92) && not s.0) (c == 60) cs) (and_right raw.ascii (is_past_ascii c) (plain_low c p))
    ∙ (ap₂ (λ b l. (if b && not s.0 && is_left_out raw cs then [] else tag_character (raw.frees_tags && s.1) c cs) ++ raw_text_after raw (b && not s.0) l cs) p.no_backslash p.no_less
    ∙ ap (λ b. (if b then 92 ∷ c ∷ [] else c ∷ []) ++ raw_text_after raw false false cs) (and_left (raw.frees_tags && s.1 && (c == 47)) (begins_script cs) (and_right (raw.frees_tags && s.1) (c == 47) p.no_slash)))

pub raw_run : (raw : Raw) (escaped after_less : Bool) (bytes run behind : List ℕ) → are_plain run ≡ true → 0 < length run → ArePoints bytes → bytes ≡ run ++ behind → encodes (raw_text_after raw escaped after_less (chars bytes)) ≡ run ++ encodes (raw_text_after raw false false (chars behind))
raw_run raw escaped after_less bytes run behind h l p e = run_bytes (λ (s : State) cs. raw_text_after raw s.0 s.1 cs) (false, false) (raw_plain raw) (escaped, after_less) bytes run behind h l p e

pub raw_point : (raw : Raw) (escaped after_less : Bool) (bytes : List ℕ) (c : ℕ) (behind : List ℕ) (next : Bool) → chars bytes ≡ c ∷ chars behind → next ≡ ((c == 92) && not escaped) → encodes (raw_text_after raw escaped after_less (chars bytes)) ≡ encodes (raw_character raw escaped after_less c (chars behind)) ++ encodes (raw_text_after raw next (c == 60) (chars behind))
unfolding raw_text_after
raw_point raw escaped after_less bytes c behind next e n =
    ap (λ x. encodes (raw_text_after raw escaped after_less x)) e
    ∙ (encodes-append (raw_character raw escaped after_less c (chars behind)) (raw_text_after raw ((c == 92) && not escaped) (c == 60) (chars behind))
    ∙ ap (λ b. encodes (raw_character raw escaped after_less c (chars behind)) ++ encodes (raw_text_after raw b (c == 60) (chars behind))) (sym n))

pub raw_end : (raw : Raw) (escaped after_less : Bool) (bytes : List ℕ) → length bytes ≡ 0 → encodes (raw_text_after raw escaped after_less (chars bytes)) ≡ []
unfolding raw_text_after
raw_end raw escaped after_less [] e = ap (λ x. encodes (raw_text_after raw escaped after_less x)) chars-nil
raw_end raw escaped after_less (b ∷ bs) e = absurd (omega arith)

-- only `</script` is escaped
freed_after : (escaped after_less : Bool) (cs : List ℕ) → raw_text_after (record { mode = modes.TemplateRaw; ascii = false; drops_backslash = false; frees_tags = true }) escaped after_less cs ≡ tag_free_after after_less cs
unfolding raw_text_after tag_free_after
freed_after escaped after_less [] = refl
freed_after escaped after_less (c ∷ cs) =
    ap (λ b. (if b then [] else tag_character after_less c cs) ++ raw_text_after (record { mode = modes.TemplateRaw; ascii = false; drops_backslash = false; frees_tags = true }) ((c == 92) && not escaped) (c == 60) cs) (and_right ((c == 92) && not escaped) false refl)
    ∙ ap (λ x. tag_character after_less c cs ++ x) (freed_after ((c == 92) && not escaped) (c == 60) cs)

pub freed : (cs : List ℕ) → raw_text (record { mode = modes.TemplateRaw; ascii = false; drops_backslash = false; frees_tags = true }) cs ≡ tag_free cs
freed cs = freed_after false false cs

-- ---- names

name_plain : (s : Unit {0}) (c : ℕ) (cs : List ℕ) → is_plain c ≡ true → name_text true (c ∷ cs) ≡ c ∷ name_text true cs
name_plain s c cs h = ap (λ b. (if b then character_escape c else c ∷ []) ++ name_text true cs) (plain_low c (plain_facts c h))

pub name_run : (bytes run behind : List ℕ) → are_plain run ≡ true → 0 < length run → ArePoints bytes → bytes ≡ run ++ behind → encodes (name_text true (chars bytes)) ≡ run ++ encodes (name_text true (chars behind))
name_run bytes run behind h l p e = run_bytes (λ (s : Unit {0}) cs. name_text true cs) tt name_plain tt bytes run behind h l p e

pub name_point : (bytes : List ℕ) (c : ℕ) (behind : List ℕ) → chars bytes ≡ c ∷ chars behind → encodes (name_text true (chars bytes)) ≡ encodes (name_character true c) ++ encodes (name_text true (chars behind))
name_point bytes c behind e = ap (λ x. encodes (name_text true x)) e ∙ encodes-append (name_character true c) (name_text true (chars behind))

pub name_end : (bytes : List ℕ) → length bytes ≡ 0 → encodes (name_text true (chars bytes)) ≡ []
name_end [] e = ap (λ x. encodes (name_text true x)) chars-nil
name_end (b ∷ bs) e = absurd (omega arith)

-- without escapes
pub name_same : (cs : List ℕ) → name_text false cs ≡ cs
name_same [] = refl
name_same (c ∷ cs) = ap (λ x. c ∷ x) (name_same cs)

pub text_same : (s cs : List ℕ) → IsUtf8 s → cs ≡ chars s → s ≡ encodes cs
text_same s cs u e = sym (ap encodes e ∙ encodes-chars s u)

-- the bytes tell whether some character isn't ASCII
past_encoded : (cs : List ℕ) → list_any is_past_ascii (encodes cs) ≡ list_any is_past_ascii cs
past_encoded [] = refl
past_encoded (c ∷ cs) = by (cases_lt c 128) (past_encoded cs)
  where
    by : (c < 128) ⊎ (128 ≤ c) → list_any is_past_ascii (encodes cs) ≡ list_any is_past_ascii cs → list_any is_past_ascii (encode c ++ encodes cs) ≡ (is_past_ascii c || list_any is_past_ascii cs)
    by (inl l) i = ap (λ x. list_any is_past_ascii (x ++ encodes cs)) (encode_one c l) ∙ ap (λ b. is_past_ascii c || b) i
    by (inr l) i =
        let f = utf8_high c l in
        ap (λ x. list_any is_past_ascii (x ++ encodes cs)) f.is
        ∙ (ap (λ b. b || list_any is_past_ascii (f.tail ++ encodes cs)) (and_parts (is_past_ascii f.head) (list_all is_past_ascii f.tail) f.none).0
        ∙ sym (ap (λ b. b || list_any is_past_ascii cs) (le-leb 128 c l)))

pub past_bytes : (s : List ℕ) → IsUtf8 s → list_any is_past_ascii s ≡ list_any is_past_ascii (chars s)
past_bytes s u = ap (list_any is_past_ascii) (sym (encodes-chars s u)) ∙ past_encoded (chars s)
