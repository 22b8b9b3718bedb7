use Rattle.jsgen_nodes.proofs.collections.PropertiesPrintPropertyObjectPropertyKind.print_property.Goals as goal

pub returns-in-ObjectProperty : goal.returns-in-ObjectProperty
returns-in-ObjectProperty g c = rw (c.in-ObjectProperty.is, ← c.deref.ensures) c.print_object_property.ensures

pub returns-in-SpreadElement : goal.returns-in-SpreadElement
returns-in-SpreadElement g c = rw (c.in-SpreadElement.is, ← c.deref-in-SpreadElement.ensures) c.print_spread_element.ensures
