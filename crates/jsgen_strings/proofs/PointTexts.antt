-- The text of a code point, by how large it is.
use Rattle.std.proofs.Common.{◌≡◌, ℕ, ◌<◌, ◌≤◌, Bool, true, false, List, refl}
use Rattle.std.specs.Str.{encode_utf8_all}
use Rattle.std.proofs.lemmas.Bool.{lt-ltb, le-ltb}
use Rattle.jsgen_syntax.specs.Escapes.{lower_digit, unit_escape, character_escape}
use Rattle.jsgen_syntax.specs.Wtf8.{is_surrogate}
use Rattle.jsgen_syntax.specs.Strings.{ascii_text, control_text, past_ascii_text, point_text}
use Rattle.jsgen_syntax.specs.declared.quote.Quote.{Quote}

pub control_point : (q : Quote) (ascii after_less : Bool) (c : ℕ) (rest : List ℕ) → c < 32 → encode_utf8_all (control_text q c rest) ≡ encode_utf8_all (point_text q ascii after_less c rest)
control_point q ascii after_less c rest h = rw (lt-ltb c 32 h) refl

pub ascii_point : (q : Quote) (ascii after_less : Bool) (c : ℕ) (rest : List ℕ) → 32 ≤ c → c < 128 → encode_utf8_all (ascii_text q after_less c rest) ≡ encode_utf8_all (point_text q ascii after_less c rest)
ascii_point q ascii after_less c rest h k = rw (le-ltb c 32 h, lt-ltb c 128 k) refl

pub point_past_ascii : (q : Quote) (ascii after_less : Bool) (c : ℕ) (rest : List ℕ) → 32 ≤ c → 128 ≤ c → encode_utf8_all (past_ascii_text ascii c) ≡ encode_utf8_all (point_text q ascii after_less c rest)
point_past_ascii q ascii after_less c rest h k = rw (le-ltb c 32 h, le-ltb c 128 k) refl

pub surrogate_point : (ascii : Bool) (c : ℕ) → is_surrogate c ≡ true → encode_utf8_all (unit_escape lower_digit c) ≡ encode_utf8_all (past_ascii_text ascii c)
surrogate_point ascii c h = rw h refl

pub escaped_point : (ascii : Bool) (c : ℕ) → is_surrogate c ≡ false → ascii ≡ true → encode_utf8_all (character_escape c) ≡ encode_utf8_all (past_ascii_text ascii c)
escaped_point ascii c h k = rw (h, k) refl
