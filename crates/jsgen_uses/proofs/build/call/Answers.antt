use Rattle.jsgen_uses.proofs.build.call.Goals as goal

pub returns : goal.returns
returns c =
    rw (c.in_ok-new.ensures.ok, c.in_ok-push-2.ensures.items, c.in_ok-push.ensures.items, c.new-arguments.ensures.items, c.in_ok-argument-2.ensures, c.in_ok-argument.ensures) at c.nested.ensures
