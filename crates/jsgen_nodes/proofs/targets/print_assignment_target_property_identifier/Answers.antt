use Rattle.std.proofs.Common.{sym}
use Rattle.jsgen_printer.proofs.Sequence.{◌⨾◌}
use Rattle.jsgen_syntax.specs.declared.precedence.Precedence.TheVariants.{Comma}
use Rattle.jsgen_place.specs.Place.{in_brackets}
use Rattle.jsgen_nodes.proofs.Said.{reference_alone}
use Rattle.jsgen_nodes.proofs.targets.print_assignment_target_property_identifier.Goals as goal

pub returns : goal.returns
returns g c = (rw (c.deref.ensures, sym (reference_alone c.args.node.now.binding.value (in_brackets Comma))) at c.print_own_or_renamed.ensures) ⨾ (rw c.in_brackets.ensures at c.print_value.ensures)
