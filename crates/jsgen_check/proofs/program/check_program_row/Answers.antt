use Rattle.std.proofs.Common.{refl}
use Rattle.jsgen_check.proofs.Programs.{of_program}
use Rattle.jsgen_check.proofs.Steps.{then_maybe, then_many, none_behind, all_checked}
use Rattle.jsgen_check.proofs.program.check_program_row.Goals as goal

pub returns : goal.returns
returns g c =
    let found = of_program c.args.around.now g.N.CheckNode.plain c.args.node.now c.check_program_parts.ensures c.check_own-own.ensures (then_many refl c.higher-below.ensures (rw c.deref.ensures.value at c.check_comments-comments.ensures.found) (rw c.deref.ensures.value at c.check_comments-comments.ensures.number)
    (then_maybe refl c.higher-2.ensures c.check_optional_hashbang-hashbang.ensures.found c.check_optional_hashbang-hashbang.ensures.number
    (then_many refl c.higher.ensures (rw c.deref-2.ensures.value at c.check_directives-directives.ensures.found) (rw c.deref-2.ensures.value at c.check_directives-directives.ensures.number)
    (then_many refl (none_behind _) (rw c.deref-3.ensures.value at c.check_module_items-body.ensures.found) (rw c.deref-3.ensures.value at c.check_module_items-body.ensures.number) all_checked)))) in
    record { judges = found.1; told = found.0 }
