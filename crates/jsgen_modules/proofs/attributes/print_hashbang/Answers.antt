use Rattle.std.proofs.Common.{refl}
use Rattle.std.specs.Prelude.{codes}
use Rattle.jsgen_printer.proofs.Texts.{ascii_chars}
use Rattle.jsgen_printer.proofs.Sequence.{◌⨾◌}
use Rattle.jsgen_modules.proofs.attributes.print_hashbang.Goals as goal

pub returns : goal.returns
returns c = (rw (ascii_chars (codes "#!") refl) at c.print_literal.ensures) ⨾ ((rw c.as_str.ensures.value at c.print_literal-2.ensures) ⨾ (rw (ascii_chars (codes "\n") refl) at c.print_literal-3.ensures))
