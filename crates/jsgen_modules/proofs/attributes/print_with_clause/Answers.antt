use Rattle.jsgen_printer.proofs.Sequence.{◌⨾◌}
use Rattle.jsgen_modules.proofs.Words.{with_word_is_ascii}
use Rattle.jsgen_modules.proofs.attributes.print_with_clause.Goals as goal

pub print_word-requires : goal.print_word-requires
print_word-requires c = rw c.as_str.ensures (with_word_is_ascii c.args.node.now.keyword)

pub returns : goal.returns
returns c = c.print_mark.ensures ⨾ ((rw c.as_str.ensures at c.print_word.ensures) ⨾ (c.print_soft_space.ensures ⨾ (c.print_mark-2.ensures ⨾ (rw c.deref.ensures.value at c.print_spaced_braces.ensures))))
