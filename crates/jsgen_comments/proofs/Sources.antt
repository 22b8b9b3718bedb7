-- What the source has at a span.
use Rattle.std.proofs.Common.{◌≡◌, ℕ, ◌≤◌, true, List, [], Option, Some, None, Bor, refl, ap, ◌∙◌}
use Rattle.std.specs.Option.{option_copied, unwrap_or}
use Rattle.std.specs.Str.{chars}
use Rattle.std.specs.Str.Pattern.{GetsRange}
use Rattle.std.proofs.lemmas.Bool.{and_parts, le-leb}
use Rattle.jsgen_syntax.specs.declared.span.Span.{Span}
use Rattle.jsgen_model.specs.Marks.{name_text_at}
use Rattle.jsgen_model.specs.Spans.{is_offset, spans_characters}
use Rattle.jsgen_model.proofs.Offsets.{at_boundary}

pub text_got : (source : List ℕ) (s : Span) (r : Option (Bor (List ℕ))) → GetsRange source s.start s.end r → s.start ≤ s.end → spans_characters source s ≡ true → option_copied r ≡ name_text_at source s
text_got source s (Some x) gets le h = rw (le-leb s.start s.end le, h) (ap (λ t. Some t) gets.0)
text_got source s None gets le h = let ends = and_parts (is_offset source s.start) (is_offset source s.end) h in absurd (gets le (at_boundary source s.start ends.0) (at_boundary source s.end ends.1))

or_nothing : (r : Option (Bor (List ℕ))) (none : Bor (List ℕ)) → none.now ≡ [] → (unwrap_or r none).now ≡ unwrap_or (option_copied r) []
or_nothing (Some x) none e = refl
or_nothing None none e = e

pub characters_got : (source : List ℕ) (s : Span) (r : Option (Bor (List ℕ))) (none : Bor (List ℕ)) → none.now ≡ [] → option_copied r ≡ name_text_at source s → chars (unwrap_or r none).now ≡ chars (unwrap_or (name_text_at source s) [])
characters_got source s r none e h = ap chars (or_nothing r none e ∙ ap (λ t. unwrap_or t []) h)
