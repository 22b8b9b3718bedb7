use Rattle.std.proofs.Common.{rules, tests, ◌≡◌, ◌++◌, refl}
use Rattle.std.specs.Char.{encode_utf8}
use Rattle.std.proofs.lemmas.Str.{chars_past_char, IsUtf8-past_char}
use Rattle.std.proofs.lemmas.Iterator.{YieldsList-from_chars}
use Rattle.std.proofs.lemmas.Iterator.Search.{all_from_yields_List}
use Rattle.jsgen_syntax.specs.Name.{continues_name}
use Rattle.jsgen_syntax.proofs.name.is_name.Goals as goal

pub returns-then-starts_name : goal.returns-then-starts_name
returns-then-starts_name c =
    let rest = c.next.new.self.rest.now in
    let cut : c.args.s.now ≡ encode_utf8 c.in-Some.first ++ rest = search rules in
    let split = chars_past_char _ _ _ c.utf8.s cut in
    let tail = all_from_yields_List continues_name _ _ c.all.result c.all.ensures.ran (YieldsList-from_chars rest (IsUtf8-past_char _ _ _ c.utf8.s cut) refl) (λ x b q k. search (rules, tests)) in
    rw (split, ← c.starts_name.ensures, c.if-starts_name.true) tail

pub returns-else-starts_name : goal.returns-else-starts_name
returns-else-starts_name c =
    let rest = c.next.new.self.rest.now in
    let cut : c.args.s.now ≡ encode_utf8 c.in-Some.first ++ rest = search rules in
    let split = chars_past_char _ _ _ c.utf8.s cut in
    rw (split, ← c.starts_name.ensures, c.if-starts_name.false) refl
