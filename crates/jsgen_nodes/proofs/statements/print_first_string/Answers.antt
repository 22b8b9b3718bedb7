use Rattle.std.proofs.Common.{ap, not}
use Rattle.jsgen_printer.proofs.Sequence.{◌⨾◌, unless_minified_laid}
use Rattle.jsgen_nodes.proofs.statements.print_first_string.Goals as goal

pub returns : goal.returns
returns c = unless_minified_laid _ (ap (λ b. not b) c.is_minified-wrap.ensures) c.print_opening_if.ensures (c.print_key_comments.ensures ⨾ (c.print_mark.ensures ⨾ c.print_first_string.ensures)) c.print_closing_if.ensures
