use Rattle.jsgen_nodes.proofs.expressions.print_static_member_expression.Goals as goal

pub returns : goal.returns
returns g c = rw (c.linked.ensures, c.deref.ensures) at c.print_named_member.ensures
