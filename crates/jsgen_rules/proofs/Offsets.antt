-- Where the text of a span begins and ends.
use Rattle.std.proofs.Common.{◌≡◌, ℕ, ◌-◌, ◌<◌, ◌≤◌, ◌⊎◌, inl, inr, true, List, [], take, drop, Option, Some, None, Bor, ap, ◌∙◌, arith}
use Rattle.std.specs.Option.{unwrap_or}
use Rattle.std.specs.Str.{chars, encode_utf8_all, IsUtf8}
use Rattle.std.specs.Str.Pattern.{GetsRange}
use Rattle.std.proofs.lemmas.Bool.{and_parts}
use Rattle.std.proofs.lemmas.Bool.Decides.{nat_tests}
use Rattle.std.proofs.lemmas.Str.{encodes-chars}
use Rattle.jsgen_syntax.specs.declared.span.Span.{Span}
use Rattle.jsgen_model.specs.Spans.{is_offset, spans_characters, text_at}
use Rattle.jsgen_model.proofs.Offsets.{at_boundary}

in_order : (a b : ℕ) → (a ≤ b) ⊎ (b < a)
in_order a b = grind (arith, nat_tests)

part : (bytes : List ℕ) (s : Span) (r : Option (Bor (List ℕ))) (none : Bor (List ℕ)) → GetsRange bytes s.start s.end r → none.now ≡ [] → spans_characters bytes s ≡ true → chars (unwrap_or r none).now ≡ text_at bytes s
part bytes s (Some x) none gets e h = ap chars gets.0
part bytes s None none gets e h = by (in_order s.start s.end)
  where
    nothing : s.end < s.start → 0 ≡ s.end - s.start
    nothing lt = omega (arith, lt)

    by : (s.start ≤ s.end) ⊎ (s.end < s.start) → chars none.now ≡ text_at bytes s
    by (inl le) = let ends = and_parts (is_offset bytes s.start) (is_offset bytes s.end) h in absurd (gets le (at_boundary bytes s.start ends.0) (at_boundary bytes s.end ends.1))
    by (inr lt) = ap chars (e ∙ ap (λ n. take n (drop s.start bytes)) (nothing lt))

pub part_of : (bytes : List ℕ) (s : Span) (r : Option (Bor (List ℕ))) (none : Bor (List ℕ)) → IsUtf8 bytes → GetsRange bytes s.start s.end r → none.now ≡ [] → spans_characters (encode_utf8_all (chars bytes)) s ≡ true → chars (unwrap_or r none).now ≡ text_at (encode_utf8_all (chars bytes)) s
part_of bytes s r none utf8 gets e h = rw (encodes-chars bytes utf8) (part bytes s r none gets e (rw (encodes-chars bytes utf8) at h))
