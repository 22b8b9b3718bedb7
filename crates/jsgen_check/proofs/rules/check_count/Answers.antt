use Rattle.std.proofs.Common.{refl, sym}
use Rattle.jsgen_tree.specs.Rows.{variable_declarator_row}
use Rattle.jsgen_rules.specs.Verdict.{verdict}
use Rattle.jsgen_check.proofs.Declarators.{declaration_faults-count}
use Rattle.jsgen_check.proofs.rules.check_count.Goals as goal

pub returns-then-is_empty : goal.returns-then-is_empty
unfolding verdict
returns-then-is_empty g c = rw (declaration_faults-count c.args.span (variable_declarator_row g.N.CheckNode.plain) c.args.declarators.now, sym c.is_empty.ensures, c.if-is_empty.true) refl

pub returns : goal.returns
unfolding verdict
returns g c = rw (declaration_faults-count c.args.span (variable_declarator_row g.N.CheckNode.plain) c.args.declarators.now, sym c.is_empty.ensures, c.if-is_empty.false) refl
