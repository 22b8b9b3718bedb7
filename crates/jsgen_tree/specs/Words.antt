-- Generated from tools/nodes/table.txt; edit that and run tools/nodes/generate.
-- The spelling of the words that nodes hold.
use Rattle.std.specs.Prelude.{ℕ, List, codes}
use Rattle.jsgen_tree.specs.declared.statements.CommentKind.{CommentKind}
use Rattle.jsgen_tree.specs.declared.statements.CommentContent.{CommentContent}
use Rattle.jsgen_tree.specs.declared.statements.VariableDeclarationKind.{VariableDeclarationKind}
use Rattle.jsgen_tree.specs.declared.collections.PropertyKind.{PropertyKind}
use Rattle.jsgen_tree.specs.declared.functions.FunctionKind.{FunctionKind}
use Rattle.jsgen_tree.specs.declared.classes.ClassKind.{ClassKind}
use Rattle.jsgen_tree.specs.declared.classes.MethodDefinitionKind.{MethodDefinitionKind}
use Rattle.jsgen_tree.specs.declared.modules.ImportOrExportKind.{ImportOrExportKind}
use Rattle.jsgen_tree.specs.declared.modules.WithKeyword.{WithKeyword}
use Rattle.jsgen_tree.specs.declared.statements.CommentKind.TheVariants as kind_of_comments
use Rattle.jsgen_tree.specs.declared.statements.CommentContent.TheVariants as content_of_comments
use Rattle.jsgen_tree.specs.declared.statements.VariableDeclarationKind.TheVariants as declaration_kinds
use Rattle.jsgen_tree.specs.declared.collections.PropertyKind.TheVariants as property_kinds
use Rattle.jsgen_tree.specs.declared.functions.FunctionKind.TheVariants as kind_of_functions
use Rattle.jsgen_tree.specs.declared.classes.ClassKind.TheVariants as class_forms
use Rattle.jsgen_tree.specs.declared.classes.MethodDefinitionKind.TheVariants as kind_of_methods
use Rattle.jsgen_tree.specs.declared.modules.ImportOrExportKind.TheVariants as kind_of_imports
use Rattle.jsgen_tree.specs.declared.modules.WithKeyword.TheVariants as with_keywords

abbrev pub kind_of_comment_word : CommentKind → List ℕ
kind_of_comment_word kind_of_comments.Line = codes "line"
kind_of_comment_word kind_of_comments.SingleLineBlock = codes "block"
kind_of_comment_word kind_of_comments.MultiLineBlock = codes "multiline"
kind_of_comment_word kind_of_comments.HtmlOpen = codes "htmlopen"
kind_of_comment_word kind_of_comments.HtmlClose = codes "htmlclose"

abbrev pub content_of_comment_word : CommentContent → List ℕ
content_of_comment_word content_of_comments.Normal = codes "normal"
content_of_comment_word content_of_comments.Legal = codes "legal"
content_of_comment_word content_of_comments.Jsdoc = codes "jsdoc"
content_of_comment_word content_of_comments.JsdocLegal = codes "jsdoclegal"
content_of_comment_word content_of_comments.Pure = codes "pure"
content_of_comment_word content_of_comments.NoSideEffects = codes "nosideeffects"
content_of_comment_word content_of_comments.Webpack = codes "webpack"
content_of_comment_word content_of_comments.Vite = codes "vite"
content_of_comment_word content_of_comments.PropertyKey = codes "propertykey"
content_of_comment_word content_of_comments.CoverageIgnore = codes "coverage"
content_of_comment_word content_of_comments.CoverageIgnoreFile = codes "coveragefile"

abbrev pub declaration_word : VariableDeclarationKind → List ℕ
declaration_word declaration_kinds.Const = codes "const"
declaration_word declaration_kinds.Let = codes "let"
declaration_word declaration_kinds.Var = codes "var"

abbrev pub property_word : PropertyKind → List ℕ
property_word property_kinds.Init = codes "init"
property_word property_kinds.Get = codes "get"
property_word property_kinds.Set = codes "set"

abbrev pub function_word : FunctionKind → List ℕ
function_word kind_of_functions.Declaration = codes "declaration"
function_word kind_of_functions.Expression = codes "expression"

abbrev pub class_word : ClassKind → List ℕ
class_word class_forms.Declaration = codes "declaration"
class_word class_forms.Expression = codes "expression"

abbrev pub method_word : MethodDefinitionKind → List ℕ
method_word kind_of_methods.Constructor = codes "constructor"
method_word kind_of_methods.Method = codes "method"
method_word kind_of_methods.Get = codes "get"
method_word kind_of_methods.Set = codes "set"

abbrev pub import_word : ImportOrExportKind → List ℕ
import_word kind_of_imports.Value = codes "value"

abbrev pub with_word : WithKeyword → List ℕ
with_word with_keywords.With = codes "with"
