-- Generated from tools/nodes/table.txt; edit that and run tools/nodes/generate.
-- What holds in the loop.
use Rattle.jsgen_tree.specs.Rows.{in_import_declaration_specifier}
use Rattle.jsgen_check.specs.Verdict.{surroundings_plain}
use Rattle.jsgen_check.proofs.Steps.{Left}
use Rattle.jsgen_tree.specs.declared.types.NodeSet.TheVariants as sets
use Rattle.jsgen_check.proofs.lists.check_import_declaration_specifiers.Given as goal

-- what is found so far, and of the nodes left, is what is found of all of them
abbrev pub invariant-loop-node : goal.invariant-loop-node
invariant-loop-node l = Left (surroundings_plain l.around l.classes) sets.ImportDeclarationSpecifier in_import_declaration_specifier l.nodes l.fn.next l.below l.next l.node-index
