use Rattle.jsgen_check.proofs.sets.check_class_element_set.Goals as goal

pub returns-in-MethodDefinition : goal.returns-in-MethodDefinition
returns-in-MethodDefinition g c = rw (c.in-MethodDefinition.is, ← c.deref-in-MethodDefinition.ensures) c.check_method_definition.ensures
