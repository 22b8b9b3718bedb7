use Rattle.std.proofs.Common.{refl, ap, sym, length, ◌∙◌}
use Rattle.jsgen_nodes.proofs.Arrows.{alone_there, none_there, none_given}
use Rattle.jsgen_nodes.proofs.functions.is_name_alone.Goals as goal

pub returns-then-is_empty : goal.returns-then-is_empty
returns-then-is_empty g c =
    alone_there g.N.PrintNode.plain c.args.parameters.now c.in-Some.first.now c.in-Some.others.now c.is_none.result (sym c.deref.ensures.value ∙ c.in-Some.ensures.cases.0) (rw (sym c.is_name.ensures, c.if-is_name.true, sym c.is_empty.ensures, c.if-is_empty.true) (none_given c.args.parameters.now.rest c.is_none.result c.is_none.ensures))

pub returns-else-is_empty : goal.returns-else-is_empty
returns-else-is_empty g c =
    alone_there g.N.PrintNode.plain c.args.parameters.now c.in-Some.first.now c.in-Some.others.now c.is_empty.result (sym c.deref.ensures.value ∙ c.in-Some.ensures.cases.0) (rw (sym c.is_name.ensures, c.if-is_name.true, sym c.is_empty.ensures, c.if-is_empty.false) refl)

pub returns-else-is_name : goal.returns-else-is_name
returns-else-is_name g c =
    alone_there g.N.PrintNode.plain c.args.parameters.now c.in-Some.first.now c.in-Some.others.now c.is_name.result (sym c.deref.ensures.value ∙ c.in-Some.ensures.cases.0) (rw (sym c.is_name.ensures, c.if-is_name.false) refl)

pub returns-in-None : goal.returns-in-None
returns-in-None g c = none_there g.N.PrintNode.plain c.args.parameters.now (ap length (sym c.deref.ensures.value) ∙ c.in-None.ensures.cases)
