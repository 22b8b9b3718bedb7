use Rattle.std.proofs.lemmas.List.{nil_from_length}
use Rattle.jsgen_printer.proofs.Sequence.{◌⨾◌}
use Rattle.jsgen_modules.proofs.imports.print_behind_default.Goals as goal

pub returns-in-ImportNamespaceSpecifier : goal.returns-in-ImportNamespaceSpecifier
returns-in-ImportNamespaceSpecifier c = rw (c.in-Some.ensures.cases.0, c.in-ImportNamespaceSpecifier.is) (c.print_comma.ensures ⨾ (c.print_soft_space.ensures ⨾ (rw c.deref.ensures at c.print_all.ensures)))

pub returns-in-ImportDefaultSpecifier : goal.returns-in-ImportDefaultSpecifier
returns-in-ImportDefaultSpecifier c = rw (c.in-Some.ensures.cases.0, c.in-ImportDefaultSpecifier.is) (c.print_comma-in-ImportDefaultSpecifier.ensures ⨾ (c.print_soft_space-in-ImportDefaultSpecifier.ensures ⨾ (rw (c.in-Some.ensures.cases.0, c.in-ImportDefaultSpecifier.is) at c.print_named.ensures)))

pub returns-in-ImportSpecifier : goal.returns-in-ImportSpecifier
returns-in-ImportSpecifier c = rw (c.in-Some.ensures.cases.0, c.in-ImportSpecifier.is) (c.print_comma-in-ImportSpecifier.ensures ⨾ (c.print_soft_space-in-ImportSpecifier.ensures ⨾ (rw (c.in-Some.ensures.cases.0, c.in-ImportSpecifier.is) at c.print_named-in-ImportSpecifier.ensures)))

pub returns-in-None : goal.returns-in-None
returns-in-None c = rw (nil_from_length c.args.specifiers.now c.in-None.ensures.cases) c.print_hard_space.ensures
