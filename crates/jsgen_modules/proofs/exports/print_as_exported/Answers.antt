use Rattle.jsgen_tree.specs.Rows.{in_module_export_name}
use Rattle.jsgen_place.specs.Place.{plainly}
use Rattle.jsgen_tree.specs.Tree.{span_of}
use Rattle.jsgen_model.specs.Items.{◌⊕◌, comments, then_space}
use Rattle.jsgen_model.specs.Spell.{spell, as_name}
use Rattle.jsgen_printer.proofs.Sequence.{◌⨾◌, nothing_laid}
use Rattle.jsgen_modules.proofs.Same.{unless_same_laid}
use Rattle.jsgen_modules.proofs.exports.print_as_exported.Goals as goal

pub returns-then-exports_as : goal.returns-then-exports_as
returns-then-exports_as c = unless_same_laid (in_module_export_name c.args.local.now) (in_module_export_name c.args.exported.now) (as_name (comments then_space (span_of (in_module_export_name c.args.exported.now)).start ⊕ spell (in_module_export_name c.args.exported.now) plainly)) c.exports_as.result c.exports_as.ensures (rw c.if-exports_as.true (nothing_laid c.args.p.now))

pub returns : goal.returns
returns c = unless_same_laid (in_module_export_name c.args.local.now) (in_module_export_name c.args.exported.now) (as_name (comments then_space (span_of (in_module_export_name c.args.exported.now)).start ⊕ spell (in_module_export_name c.args.exported.now) plainly)) c.exports_as.result c.exports_as.ensures (rw c.if-exports_as.false (c.print_soft_space.ensures ⨾ (c.print_word.ensures ⨾ (c.print_soft_space-2.ensures ⨾ (c.print_name_comments.ensures ⨾ c.print_module_export_name.ensures)))))
