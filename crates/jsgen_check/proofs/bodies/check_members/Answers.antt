use Rattle.std.proofs.Common.{◌≡◌, sym, ◌∙◌}
use Rattle.jsgen_model.specs.Valid.{within_class}
use Rattle.jsgen_check.specs.Verdict.{surroundings_plain}
use Rattle.jsgen_check.proofs.Enclosing.{found_with, number_with, without_table}
use Rattle.jsgen_check.proofs.bodies.check_members.Goals as goal

pub returns-then-not-has_table : goal.returns-then-not-has_table
returns-then-not-has_table g c =
    let same = without_table c.args.around.now c.args.classes c.args.number (sym c.has_table.ensures ∙ c.if-not-has_table.true) in
    record { found = rw same at c.check_class_elements.ensures.found; number = rw same at c.check_class_elements.ensures.number }

pub returns : goal.returns
returns g c =
    let has = sym c.has_table.ensures ∙ c.if-not-has_table.false in
    record {
      found = found_with c.args.around.now c.args.classes c.args.number _ _ _ _ has c.within-class.ensures c.check_class_elements-2.ensures.found;
      number = number_with c.args.around.now c.args.classes c.args.number _ _ _ has c.within-class.ensures c.check_class_elements-2.ensures.number;
    }
