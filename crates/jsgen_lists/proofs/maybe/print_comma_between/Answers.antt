use Rattle.std.proofs.Common.{map}
use Rattle.jsgen_tree.specs.Tree.{trees}
use Rattle.jsgen_printer.proofs.Sequence.{nothing_laid}
use Rattle.jsgen_lists.proofs.Rest.{no_rest}
use Rattle.jsgen_lists.proofs.maybe.print_comma_between.Goals as goal

pub returns-in-Some : goal.returns-in-Some
returns-in-Some g c = rw c.in-Some.is (c.print_comma_behind.ensures _)

pub returns-in-None : goal.returns-in-None
returns-in-None g c = rw (c.in-None.is, no_rest (trees (map g.L.PrintMember.plain c.args.members.now))) (nothing_laid _)
