-- The words that rows print are ASCII.
use Rattle.std.proofs.Common.{IsTrue, refl}
use Rattle.jsgen_tree.specs.declared.modules.WithKeyword.{WithKeyword}
use Rattle.jsgen_tree.specs.declared.modules.WithKeyword.TheVariants as keywords
use Rattle.jsgen_tree.specs.Words.{with_word}
use Rattle.jsgen_printer.specs.Printer.{is_ascii}

pub with_word_is_ascii : (w : WithKeyword) → IsTrue (is_ascii (with_word w))
with_word_is_ascii keywords.With = refl
