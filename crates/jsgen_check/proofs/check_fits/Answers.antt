use Rattle.std.proofs.Common.{ℕ, Err, sym, ap, ◌∙◌}
use Rattle.jsgen_model.specs.declared.fault.TreeFault.TheVariants as faults
use Rattle.jsgen_check.proofs.Bare.{stands_not, fits_not, it_fits}
use Rattle.jsgen_check.proofs.check_fits.Goals as goal

pub returns-then-not-may_stand : goal.returns-then-not-may_stand
returns-then-not-may_stand g c = ap (λ (start : ℕ). Err (faults.Place start)) c.start.ensures ∙ stands_not c.args.set (g.N.CheckNode.plain c.args.child.now) (sym (rw c.node_type.ensures at c.may_stand.ensures) ∙ c.if-not-may_stand.true)

pub returns-then-not-fits_kind : goal.returns-then-not-fits_kind
returns-then-not-fits_kind g c = ap (λ (start : ℕ). Err (faults.Place start)) c.unbound_start.ensures ∙ fits_not c.args.set (g.N.CheckNode.plain c.args.child.now) (sym (rw c.node_type.ensures at c.may_stand.ensures) ∙ c.if-not-may_stand.false) (sym c.fits_kind.ensures ∙ c.if-not-fits_kind.true)

pub returns : goal.returns
returns g c = it_fits c.args.set (g.N.CheckNode.plain c.args.child.now) (sym (rw c.node_type.ensures at c.may_stand.ensures) ∙ c.if-not-may_stand.false) (sym c.fits_kind.ensures ∙ c.if-not-fits_kind.false)
