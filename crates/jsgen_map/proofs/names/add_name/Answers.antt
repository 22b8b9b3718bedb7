use Rattle.std.proofs.Common.{◌∷◌, [], ◌++◌, sym, ap, ◌∙◌, arith}
use Rattle.std.specs.Option.{option_copied}
use Rattle.jsgen_map.specs.Names.{texts}
use Rattle.jsgen_map.proofs.NameList.{added, found}
use Rattle.jsgen_map.proofs.names.add_name.Goals as goal

pub returns-in-Some-clause-ok : goal.returns-in-Some-clause-ok
returns-in-Some-clause-ok c = λ numbers. found (texts c.args.names.now.items) c.args.name.now c.args.numbers.now.entries c.in-Some.number.now numbers (sym (c.in-Some.ensures.value ∙ numbers.each c.args.name.now))

pub returns-clause-ok : goal.returns-clause-ok
returns-clause-ok c = λ numbers.
    added c.args.names.now.items c.args.name c.push.new.self.items c.args.numbers.now c.insert.new.self c.len-number.result numbers
    (sym (numbers.each c.args.name.now) ∙ (sym c.get.ensures.value ∙ ap option_copied c.in_default.is))
    (c.in_ok-push.ensures.items ∙ ap (λ names. names ++ c.args.name ∷ []) c.in_ok-reserve.ensures.items)
    (omega arith)
    c.in_ok-insert.ensures.updates
