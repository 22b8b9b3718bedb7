use Rattle.std.proofs.Common.{sym, ◌∙◌}
use Rattle.jsgen_check.proofs.Specifiers.{all_fit, broken_there, export_span, fit_both, fit_end, misfits, next}
use Rattle.jsgen_check.proofs.rules.modules.check_exports.Goals as goal

pub loop-specifier-preserved : goal.loop-specifier-preserved
loop-specifier-preserved c = next (all_fit c.args.has_source) (misfits c.args.has_source) export_span (fit_both c.args.has_source) c.args.specifiers.now c.loop-specifier.specifier-index c.specifier-item.result c.loop-specifier-test.true c.specifier-item.is (sym c.misfits.ensures ∙ c.if-misfits.false) c.loop-specifier.invariant

pub returns-then-misfits : goal.returns-then-misfits
returns-then-misfits c = broken_there (all_fit c.args.has_source) (misfits c.args.has_source) export_span (fit_both c.args.has_source) c.args.specifiers.now c.loop-specifier.specifier-index c.specifier-item.result c.loop-specifier-test.true c.specifier-item.is (sym c.misfits.ensures ∙ c.if-misfits.true) c.loop-specifier.invariant

pub returns : goal.returns
returns c = fit_end c.args.has_source c.args.specifiers.now c.loop-specifier.specifier-index c.loop-specifier-test.false c.loop-specifier.invariant
