use Rattle.jsgen_uses.proofs.build.member.Goals as goal

pub returns : goal.returns
returns c = rw (c.in_ok-new-2.ensures.ok, c.in_ok-new.ensures.ok, c.in_ok-name.ensures.ok) at c.nested.ensures
