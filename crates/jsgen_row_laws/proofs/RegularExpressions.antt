-- Regular expressions.
use Rattle.std.proofs.Common.{◌≡◌, ℕ, Bool, true, false, not, ◌&&◌, ◌==◌, ◌⊎◌, inl, inr, nat_lt, if◌then◌else◌, List, [], ◌∷◌, refl, sym, ap, ◌∙◌, subst, arith}
use lib.Utf8.{scalar, low_scalar}
use Rattle.std.specs.Char.{is_ascii_alphabetic}
use Rattle.std.specs.List.{list_all, list_any}
use Rattle.std.specs.Str.{all_scalars}
use Rattle.std.proofs.lemmas.Bool.{both_ways, and_parts, and_from, or_cases, eqb-true, ltb-true, lt-ltb}
use Rattle.jsgen_syntax.specs.Name.{continues_name}
use Rattle.jsgen_syntax.specs.Raw.{pattern_text}
use Rattle.jsgen_syntax.specs.declared.escape.NonAsciiEscape.TheVariants as modes
use Rattle.jsgen_syntax.proofs.Names.{starts_continues}
use Rattle.jsgen_syntax.proofs.Raw.{untouched}
use Rattle.jsgen_syntax.proofs.Wtf8.{scalar_below}
use Rattle.jsgen_strings.specs.Points.{are_ascii}
use Rattle.jsgen_text.proofs.AsciiTexts.{texts_ascii}
use Rattle.jsgen_tree.specs.Atom.{text}
use Rattle.jsgen_tree.specs.Nodes as tree
use Rattle.jsgen_tree.specs.Places.{bare}
use Rattle.jsgen_tree.specs.Tree.{Atoms}
use Rattle.jsgen_tree.specs.Values.{reg_exp_literal_pattern, reg_exp_literal_flags}
use Rattle.jsgen_tree.specs.Job.{Tables}
use Rattle.jsgen_model.specs.RegularExpressions.{is_body, is_flag, flag_letters, some_comes_twice, are_flags}
use Rattle.jsgen_model.specs.Tokens.{done, piece, Beyond, Pattern, is_special}
use Rattle.jsgen_model.specs.Grammar.{Allowed}
use Rattle.jsgen_model.specs.Grammar as grammar
use Rattle.jsgen_model.specs.Normal.{is_code_point, ascii_pattern}
use Rattle.jsgen_token_laws.proofs.Characters.{letter_starts}
use Rattle.jsgen_token_laws.proofs.Last.{line_of}
use Rattle.jsgen_token_laws.proofs.PatternTexts.{pattern_is_body}
use Rattle.jsgen_token_laws.proofs.Specials.{wrote_pattern}
use Rattle.jsgen_row_laws.proofs.Levels.{from_primary}
use Rattle.jsgen_row_laws.proofs.Good.{Printed, begins_all}
use Rattle.jsgen_row_laws.proofs.Patterns.{pattern_again}

-- ---- flags are letters, with which a name goes on

one_of_all : (p : ℕ → Bool) (letters : List ℕ) → list_all p letters ≡ true → (c : ℕ) → list_any (λ letter. c == letter) letters ≡ true → p c ≡ true
one_of_all p [] h c e = absurd (both_ways false refl e)
one_of_all p (letter ∷ letters) h c e =
    let k = and_parts (p letter) (list_all p letters) h in
    by (or_cases (c == letter) (list_any (λ d. c == d) letters) e) k.0 (one_of_all p letters k.1 c)
  where
    by : ((c == letter) ≡ true) ⊎ (list_any (λ d. c == d) letters ≡ true) → p letter ≡ true → (list_any (λ d. c == d) letters ≡ true → p c ≡ true) → p c ≡ true
    by (inl i) x y = subst (λ d. p d ≡ true) (sym (eqb-true c letter i)) x
    by (inr i) x y = y i

flags_go_on : (cs : List ℕ) → list_all is_flag cs ≡ true → list_all continues_name cs ≡ true
flags_go_on [] h = refl
flags_go_on (c ∷ cs) h =
    let k = and_parts (is_flag c) (list_all is_flag cs) h in
    and_from (continues_name c) (list_all continues_name cs) (starts_continues c (letter_starts c (one_of_all is_ascii_alphabetic flag_letters refl c k.0))) (flags_go_on cs k.1)

-- ---- the text of a pattern

ascii_scalars : (cs : List ℕ) → are_ascii cs ≡ true → all_scalars cs ≡ true
ascii_scalars [] h = refl
ascii_scalars (c ∷ cs) h =
    let k = and_parts (nat_lt c 128) (are_ascii cs) h in
    let low = ltb-true c 128 k.0 in
    and_from (scalar c) (all_scalars cs) (low_scalar c (omega arith)) (ascii_scalars cs k.1)

scalars_are_points : (cs : List ℕ) → all_scalars cs ≡ true → list_all is_code_point cs ≡ true
scalars_are_points [] h = refl
scalars_are_points (c ∷ cs) h =
    let k = and_parts (scalar c) (all_scalars cs) h in
    and_from (is_code_point c) (list_all is_code_point cs) (lt-ltb c 0x11_0000 (scalar_below c k.0)) (scalars_are_points cs k.1)

text_scalars : (ascii : Bool) (w : List ℕ) → all_scalars w ≡ true → all_scalars (pattern_text ascii w) ≡ true
text_scalars false w s = ap all_scalars (untouched modes.RegExp w) ∙ s
text_scalars true w s = ascii_scalars (pattern_text true w) (texts_ascii.pattern w (scalars_are_points w s))

-- its normal form is that of the pattern
same_pattern : (ascii : Bool) (w : List ℕ) → all_scalars w ≡ true → ascii_pattern (pattern_text ascii w) ≡ ascii_pattern w
same_pattern false w s = ap ascii_pattern (untouched modes.RegExp w)
same_pattern true w s =
    let e : ascii_pattern w ≡ pattern_text true w = ap (λ b. if b then pattern_text true w else w) (scalars_are_points w s) in
    ap ascii_pattern (sym e) ∙ pattern_again w

-- a body and flags are a token
pattern_token : (ascii : Bool) (w flags : List ℕ) → all_scalars w ≡ true → is_body w ≡ true → are_flags flags ≡ true → is_special (Pattern (pattern_text ascii w) flags) ≡ true
pattern_token ascii w flags s h f =
    let t : List ℕ = pattern_text ascii w in
    and_from (all_scalars t) (is_body t && list_all continues_name flags) (text_scalars ascii w s) (and_from (is_body t) (list_all continues_name flags) (pattern_is_body ascii w s h) (flags_go_on flags (and_parts (list_all is_flag flags) (not (some_comes_twice flags)) f).0))

-- ---- the whole

pub good_regular_expression : {names : Tables} (c : Allowed) (a : Atoms) → all_scalars (reg_exp_literal_pattern a) ≡ true → is_body (reg_exp_literal_pattern a) ≡ true → are_flags (reg_exp_literal_flags a) ≡ true → Printed names c (tree.reg_exp_literal a)
good_regular_expression c a s h f place p l z y k =
    let w : List ℕ = reg_exp_literal_pattern a in
    let t : List ℕ = pattern_text p.style.ascii w in
    let flags : List ℕ = reg_exp_literal_flags a in
    record {
      last = _;
      tokens = piece (line_of l) (Beyond (Pattern t flags)) done;
      writes = wrote_pattern w flags p l (pattern_token p.style.ascii w flags s h f) k;
      operand = tt;
      semicolon = z;
      begins = λ b n. begins_all p.start (piece (line_of l) (Beyond (Pattern t flags)) b) refl;
      line = λ g. ap not g;
      tree = tree.reg_exp_literal (bare (text t ∷ text flags ∷ []));
      reads = from_primary place grammar.a_regular_expression;
      same = ap (λ x. tree.reg_exp_literal (bare (text x ∷ text flags ∷ []))) (same_pattern p.style.ascii w s);
    }
