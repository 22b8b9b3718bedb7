use Rattle.std.proofs.Common.{not, ◌&&◌, refl, sym, ap, ◌∙◌}
use Rattle.std.proofs.lemmas.List.{append-nil}
use Rattle.jsgen_tree.specs.Rows.{binding_identifier_row, function_row}
use Rattle.jsgen_tree.specs.declared.types.NodeSet.TheVariants as sets
use Rattle.jsgen_tree.specs.declared.types.NodeType.TheVariants as types
use Rattle.jsgen_tree.proofs.Given.{name_given}
use Rattle.jsgen_model.specs.Valid.{fault_if, fits_place, may_stand}
use Rattle.jsgen_model.specs.declared.fault.TreeFault.TheVariants as faults
use Rattle.jsgen_rules.specs.Verdict.{verdict}
use Rattle.jsgen_check.proofs.Bare.{fit_faults, own_fits}
use Rattle.jsgen_check.proofs.kinds.check_function_place.Goals as goal

pub returns : goal.returns
returns g c =
    let named = name_given (λ b. binding_identifier_row b.value) c.args.node.now.id in
    (rw (c.function_fits-fits_kind.ensures, c.is_some.ensures) at c.check_set.ensures) ∙ (ap (λ n. verdict (fault_if (not (may_stand sets.Function types.Function && fits_place sets.Function c.args.node.now.kind n)) (faults.Place c.args.node.now.span.start))) (sym named) ∙ (own_fits sets.Function (function_row g.N.CheckNode.plain c.args.node.now) refl ∙ ap verdict (sym (append-nil (fit_faults sets.Function (function_row g.N.CheckNode.plain c.args.node.now))))))
