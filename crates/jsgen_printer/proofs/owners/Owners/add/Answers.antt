use Rattle.jsgen_printer.proofs.Owned.{more}
use Rattle.jsgen_printer.proofs.owners.Owners.add.Goals as goal

pub returns : goal.returns
returns c = λ held are. more c.args.self.now (record { owners = c.insert.new.self; held = c.push.new.self }) (record { name = c.args.name; outer = c.in_ok-outer.outer }) c.args.class held c.in_ok-outer.ensures.updates c.in_ok-outer.ensures.old c.in_ok-push.ensures.items are
