use Rattle.std.proofs.Common.{sym, subst}
use Rattle.jsgen_printer.proofs.Owned.{Changed, less}
use Rattle.jsgen_printer.proofs.owners.Owners.take_back.Goals as goal

pub returns-in_ok-insert-in-Some-outer : goal.returns-in_ok-insert-in-Some-outer
returns-in_ok-insert-in-Some-outer c = λ last held are.
    let changed = subst (λ o. Changed c.in-Some.last.name.now o c.args.self.now.owners c.insert.new.self) (sym c.in-Some-outer.is) c.in_ok-insert-in-Some-outer.ensures.updates in
    less c.args.self.now (record { owners = c.insert.new.self; held = c.pop.new.self }) c.in-Some.last last held c.in-Some.ensures.items changed are

pub returns-in-None : goal.returns-in-None
returns-in-None c = λ last held are.
    let changed = subst (λ o. Changed c.in-Some.last.name.now o c.args.self.now.owners c.remove.new.self) (sym c.in-None.is) c.remove.ensures.updates in
    less c.args.self.now (record { owners = c.remove.new.self; held = c.pop.new.self }) c.in-Some.last last held c.in-Some.ensures.items changed are
