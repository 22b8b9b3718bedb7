use Rattle.std.proofs.Common.{◌≡◌, subst}
use Rattle.jsgen_tree.specs.Rows.{function_row}
use Rattle.jsgen_model.specs.Valid.{class_method_faults}
use Rattle.jsgen_rules.specs.Verdict.{verdict}
use Rattle.jsgen_check.proofs.Steps.{broken, found, kept, two_rules}
use Rattle.jsgen_check.proofs.rules.classes.check_method_definition_rules.Goals as goal

pub returns-in_err-check_member_key : goal.returns-in_err-check_member_key
returns-in_err-check_member_key g c = broken c.from_residual.ensures.1 (two_rules _ _ (found _ c.in_err-check_member_key.ensures))

pub returns : goal.returns
returns g c = two_rules _ _ (kept c.in_ok-check_member_key.ensures (subst (λ x. c.check_class_method.result ≡ verdict (class_method_faults c.args.node.now.kind (function_row g.N.CheckNode.plain x))) c.deref.ensures c.check_class_method.ensures))
