use Rattle.std.proofs.Common.{sym, ap, Err, ◌∙◌}
use Rattle.jsgen_syntax.specs.declared.span.Span.{Span}
use Rattle.jsgen_model.specs.declared.fault.TreeFault.TheVariants as faults
use Rattle.jsgen_check.proofs.Specifiers.{all_named, broken_there, is_unnamed, named_both, named_end, next, own_span, specifier_span}
use Rattle.jsgen_check.proofs.rules.modules.check_named.Goals as goal

pub loop-specifier-preserved : goal.loop-specifier-preserved
loop-specifier-preserved c = next all_named is_unnamed specifier_span named_both c.args.specifiers.now c.loop-specifier.specifier-index c.specifier-item.result c.loop-specifier-test.true c.specifier-item.is (sym c.is_unnamed.ensures ∙ c.if-is_unnamed.false) c.loop-specifier.invariant

pub returns-then-is_unnamed : goal.returns-then-is_unnamed
returns-then-is_unnamed c = ap (λ (s : Span). Err (faults.Place s.start)) (c.span.ensures ∙ own_span c.specifier-item.result) ∙ broken_there all_named is_unnamed specifier_span named_both c.args.specifiers.now c.loop-specifier.specifier-index c.specifier-item.result c.loop-specifier-test.true c.specifier-item.is (sym c.is_unnamed.ensures ∙ c.if-is_unnamed.true) c.loop-specifier.invariant

pub returns : goal.returns
returns c = named_end c.args.specifiers.now c.loop-specifier.specifier-index c.loop-specifier-test.false c.loop-specifier.invariant
