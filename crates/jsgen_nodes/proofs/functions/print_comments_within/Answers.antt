use Rattle.std.proofs.Common.{refl}
use Rattle.jsgen_printer.proofs.Sequence.{laid_there, nothing_laid}
use Rattle.jsgen_nodes.proofs.functions.print_comments_within.Goals as goal

pub returns-then-pife : goal.returns-then-pife
returns-then-pife c = rw c.if-pife.true c.print_comments_before.ensures

pub returns-else-pife : goal.returns-else-pife
returns-else-pife c = rw c.if-pife.false (laid_there (λ going. refl) (nothing_laid c.args.p.now))
