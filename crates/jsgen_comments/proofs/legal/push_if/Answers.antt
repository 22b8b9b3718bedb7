use Rattle.std.proofs.Common.{string_bytes, ap, ◌∙◌}
use Rattle.std.specs.Str.{chars}
use Rattle.std.proofs.lemmas.Str.{chars-append, IsUtf8-string_bytes}
use Rattle.jsgen_comments.proofs.legal.push_if.Goals as goal

pub returns-in_ok-push_str : goal.returns-in_ok-push_str
returns-in_ok-push_str c =
    let old = string_bytes c.args.tabbed.now in
    let text = c.args.text.now in
    let test = c.if-test.true in
    rw test (ap chars c.in_ok-push_str.ensures.bytes ∙ chars-append old text (IsUtf8-string_bytes c.args.tabbed.now))
