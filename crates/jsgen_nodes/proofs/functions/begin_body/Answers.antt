use Rattle.jsgen_printer.proofs.Sequence.{nothing_laid}
use Rattle.std.proofs.Common.{sym}
use Rattle.jsgen_nodes.proofs.Arrows.{begins_else}
use Rattle.jsgen_nodes.proofs.functions.begin_body.Goals as goal

pub returns-in-FunctionBody : goal.returns-in-FunctionBody
returns-in-FunctionBody c = rw c.in-FunctionBody.is (nothing_laid c.args.p.now)

pub returns-in_default : goal.returns-in_default
returns-in_default c = rw (sym (begins_else c.args.body c.in_default.not-FunctionBody)) c.begin_arrow_body.ensures.lays
