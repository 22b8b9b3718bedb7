use Rattle.std.proofs.Common.{Some, reverse, sym, ap, ◌∙◌, subst}
use Rattle.std.specs.Option.{IfSome, option_and_then}
use Rattle.std.specs.Str.{chars}
use Rattle.jsgen_printer.specs.Owners.{AreOf, held_in}
use Rattle.jsgen_printer.proofs.Innermost.{innermost, new_name_in}
use Rattle.jsgen_printer.proofs.printer.classes.new_name.Goals as goal

pub returns-in-Some-owner : goal.returns-in-Some-owner
returns-in-Some-owner c =
    let held = held_in (Some c.args.mappings) (reverse c.args.classes.now) in
    let owner = c.owner.ensures held (subst (λ owners. IfSome owners (λ o. AreOf o held)) c.in-Some.is c.requires) in
    c.new_name_by.ensures ∙ sym (innermost c.args.mappings c.args.name.now c.utf8.name (reverse c.args.classes.now) ∙ ap (option_and_then (new_name_in c.args.mappings.now (chars c.args.name.now))) (sym owner ∙ c.in-Some-owner.is))

pub returns-in-None : goal.returns-in-None
returns-in-None c =
    let held = held_in (Some c.args.mappings) (reverse c.args.classes.now) in
    let owner = c.owner.ensures held (subst (λ owners. IfSome owners (λ o. AreOf o held)) c.in-Some.is c.requires) in
    sym (innermost c.args.mappings c.args.name.now c.utf8.name (reverse c.args.classes.now) ∙ ap (option_and_then (new_name_in c.args.mappings.now (chars c.args.name.now))) (sym owner ∙ c.in-None.is))
