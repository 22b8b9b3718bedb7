use Rattle.std.proofs.Common.{◌≡◌, length, reverse}
use Rattle.std.specs.Str.{chars}
use Rattle.jsgen_tree.specs.Scoping.{private_plain}
use Rattle.jsgen_model.specs.Private.{private_name_by}
use Rattle.jsgen_printer.proofs.printer.classes.searched_name.Given as goal

-- the classes left give the whole
abbrev pub invariant-classes : goal.invariant-classes
invariant-classes l = private_name_by (private_plain l.mappings) (reverse l.rest) (chars l.name) ≡ private_name_by (private_plain l.mappings) (reverse l.classes) (chars l.name)

abbrev pub decreases-classes : goal.decreases-classes
decreases-classes l = length l.rest
