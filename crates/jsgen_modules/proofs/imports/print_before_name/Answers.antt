use Rattle.std.specs.Prelude.{codes}
use Rattle.jsgen_tree.specs.Rows.{in_module_export_name, binding_identifier_row}
use Rattle.jsgen_place.specs.Place.{plainly}
use Rattle.jsgen_model.specs.Items.{◌⊕◌, soft_space, word}
use Rattle.jsgen_model.specs.Spell.{spell}
use Rattle.jsgen_printer.proofs.Sequence.{◌⨾◌, nothing_laid}
use Rattle.jsgen_modules.proofs.Same.{unless_same_laid}
use Rattle.jsgen_modules.proofs.imports.print_before_name.Goals as goal

pub returns-then-imports_as : goal.returns-then-imports_as
returns-then-imports_as c = unless_same_laid (in_module_export_name c.args.imported.now) (binding_identifier_row c.args.local.now) (spell (in_module_export_name c.args.imported.now) plainly ⊕ (soft_space ⊕ (word (codes "as") ⊕ soft_space))) c.imports_as.result c.imports_as.ensures (rw c.if-imports_as.true (nothing_laid c.args.p.now))

pub returns : goal.returns
returns c = unless_same_laid (in_module_export_name c.args.imported.now) (binding_identifier_row c.args.local.now) (spell (in_module_export_name c.args.imported.now) plainly ⊕ (soft_space ⊕ (word (codes "as") ⊕ soft_space))) c.imports_as.result c.imports_as.ensures (rw c.if-imports_as.false (c.print_module_export_name.ensures ⨾ (c.print_soft_space.ensures ⨾ (c.print_word.ensures ⨾ c.print_soft_space-2.ensures))))
