-- Generated from tools/nodes/table.txt; edit that and run tools/nodes/generate.
-- The words that rows print are ASCII.
use Rattle.std.proofs.Common.{IsTrue, refl}
use Rattle.jsgen_tree.specs.declared.statements.VariableDeclarationKind.{VariableDeclarationKind}
use Rattle.jsgen_tree.specs.Words.{declaration_word}
use Rattle.jsgen_printer.specs.Printer.{is_ascii}
use Rattle.jsgen_tree.specs.declared.statements.VariableDeclarationKind.TheVariants as declaration_kinds

pub declaration_word_is_ascii : (w : VariableDeclarationKind) → IsTrue (is_ascii (declaration_word w))
declaration_word_is_ascii declaration_kinds.Const = refl
declaration_word_is_ascii declaration_kinds.Let = refl
declaration_word_is_ascii declaration_kinds.Var = refl
