use Rattle.std.proofs.Common.{true, ap, refl}
use Rattle.jsgen_model.specs.Comments.{orphans_below}
use Rattle.jsgen_model.specs.Groups.{group}
use Rattle.jsgen_model.specs.Items.{orphans}
use Rattle.jsgen_printer.specs.Printer.{pen_of}
use Rattle.jsgen_printer.proofs.Commented.{goes_there}
use Rattle.jsgen_printer.proofs.Comments.{group_adds}
use Rattle.jsgen_printer.proofs.Marked.{no_step}
use Rattle.jsgen_printer.proofs.Prefixes.{whole_prefix}
use Rattle.jsgen_printer.proofs.Sequence.{goes_laid, goes_then}
use Rattle.jsgen_printer.proofs.printer.Printer.print_orphans.Goals as goal

pub returns-in-Some : goal.returns-in-Some
returns-in-Some c =
    let cs = orphans_below c.args.offset (pen_of c.args.self.now).store in
    goes_laid (orphans c.args.offset) refl (goes_then (λ p. whole_prefix p.code) (λ p. (group_adds true cs p).text) c.take_orphans.ensures.goes
    (goes_there (group true cs) (λ going. ap (λ xs. group true xs (pen_of c.take_orphans.new.self)) (c.in-Some.ensures.group going)) c.print_group.ensures))

pub returns-in_default : goal.returns-in_default
returns-in_default c =
    let cs = orphans_below c.args.offset (pen_of c.args.self.now).store in
    let p = c.take_orphans.new.self in
    goes_laid (orphans c.args.offset) refl (goes_then (λ q. whole_prefix q.code) (λ q. (group_adds true cs q).text) c.take_orphans.ensures.goes
    (goes_there {f = λ pen. pen} (group true cs) (λ going. ap (λ xs. group true xs (pen_of p)) (c.in_default.ensures.group going)) (no_step p (λ pen. pen) refl)))
