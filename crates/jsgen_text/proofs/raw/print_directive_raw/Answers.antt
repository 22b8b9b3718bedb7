use Rattle.std.proofs.Common.{ap, ◌∙◌}
use Rattle.std.specs.Str.{chars}
use Rattle.jsgen_syntax.specs.Raw.{directive_text}
use Rattle.jsgen_syntax.specs.declared.escape.NonAsciiEscape.TheVariants as modes
use Rattle.jsgen_syntax.proofs.Raw.{untouched}
use Rattle.jsgen_strings.proofs.Appending.{same_text}
use Rattle.jsgen_text.proofs.RawTexts.{text_same}
use Rattle.jsgen_text.proofs.raw.print_directive_raw.Goals as goal

pub returns-else-ascii_only-clause-appended : goal.returns-else-ascii_only-clause-appended
returns-else-ascii_only-clause-appended c =
    let cs = chars c.args.raw.now in
    let same = ap (λ b. directive_text b cs) c.if-ascii_only.false ∙ untouched modes.Directive cs in
    same_text _ _ _ _ _ (text_same c.args.raw.now (directive_text c.args.ascii_only cs) c.utf8.raw same) c.print_str.ensures.appended
