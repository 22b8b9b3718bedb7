-- Generated from tools/vectors/chosen.json; edit that and run tools/vectors/generate.
-- That they are read so: modules.
use Rattle.std.proofs.Common.{[], ◌∷◌, true, false, codes, refl}
use lib.Utf8.{encode}
use Rattle.unicode_ident.proofs.Computing.{unicode_ident}
use Rattle.jsgen_syntax.specs.Escapes.{word_value}
use Rattle.jsgen_syntax.specs.Name.{is_reserved, is_strict_reserved}
use Rattle.jsgen_syntax.specs.Strings.{string_value}
use Rattle.jsgen_syntax.specs.declared.quote.Quote.TheVariants.{Single, Double}
use Rattle.jsgen_tree.specs.declared.statements.VariableDeclarationKind.TheVariants.{Let, Var}
use Rattle.jsgen_tree.specs.declared.modules.WithKeyword.TheVariants as with_keywords
use Rattle.jsgen_tree.specs.Atom.{units, with_keyword}
use Rattle.jsgen_tree.specs.Tree.{absent, given, no_trees, more, no_list, listed}
use Rattle.jsgen_tree.specs.Places.{bare}
use Rattle.jsgen_tree.specs.Nodes as tree
use Rattle.jsgen_model.specs.Normal.{nothing_of, declared_as}
use Rattle.jsgen_model.specs.Punctuator.{star, comma, semicolon, colon, equal, Brace}
use Rattle.jsgen_model.specs.Tokens.{done, piece, group, Word, Quoted, longer_stands}
use Rattle.jsgen_model.specs.Grammar.{computed_values, of_values}
use Rattle.jsgen_model.specs.Grammar as grammar
use Rattle.jsgen_reading_vectors.specs.Reading.{IsRead, program_of, reference_of, name_of, key_of}
use Rattle.jsgen_reading_vectors.proofs.Written.{word, sign}
use Rattle.jsgen_reading_vectors.proofs.Levels.{primary_value}
use Rattle.jsgen_reading_vectors.proofs.Names.{free_a, free_as, free_async, free_b, free_c, free_d, free_from, free_of, value__u0061s, value__u0062, value_a, value_as, value_async, value_b, value_c, value_d, value_d_u0065fault, value_default, value_e, value_from, value_if, value_of, value_type}

pub import_alone : IsRead (codes "import \"x\";") (program_of no_trees (more (tree.import_declaration of_values no_list (tree.string_literal (bare (units (codes "x") ∷ []))) absent) no_trees))
unfolding unicode_ident longer_stands word_value string_value
import_alone = (
  word (codes "import") (piece false (Quoted Double (codes "x")) (sign semicolon done)),
  ([], codes " \"x\";", refl, refl, refl, refl, refl, (codes " ", codes ";", refl, refl, refl, refl, refl, ([], [], refl, refl, refl, refl, refl, refl))),
  grammar.a_module (grammar.module_items refl (grammar.last_module_item (grammar.an_import (grammar.a_semicolon {a = word (codes "import") (piece false (Quoted Double (codes "x")) done)} false refl) (grammar.an_import_alone (grammar.a_source refl refl))))),
)

pub imports_none : IsRead (codes "import {} from \"x\";") (program_of no_trees (more (tree.import_declaration of_values (listed no_trees) (tree.string_literal (bare (units (codes "x") ∷ []))) absent) no_trees))
unfolding unicode_ident longer_stands word_value string_value
imports_none = (
  word (codes "import") (group false Brace done (word (codes "from") (piece false (Quoted Double (codes "x")) (sign semicolon done)))),
  ([], codes " {} from \"x\";", refl, refl, refl, refl, refl, (codes " ", [], codes " from \"x\";", refl, refl, refl, refl, (codes " ", codes " \"x\";", refl, refl, refl, refl, refl, (codes " ", codes ";", refl, refl, refl, refl, refl, ([], [], refl, refl, refl, refl, refl, refl))))),
  grammar.a_module (grammar.module_items refl (grammar.last_module_item (grammar.an_import (grammar.a_semicolon {a = word (codes "import") (group false Brace done (word (codes "from") (piece false (Quoted Double (codes "x")) done)))} false refl) (grammar.an_import_of {a = group false Brace done done} false refl (grammar.named_imports (grammar.imports_in_braces grammar.no_specifier)) (grammar.a_source refl refl))))),
)

pub imports_named_by_words : IsRead (codes "import from, {as, as as of, from as async} from \"x\";") (program_of no_trees (more (tree.import_declaration of_values (listed (more (tree.import_default_specifier (nothing_of 0) (name_of (codes "from"))) (more (tree.import_specifier of_values (tree.string_literal (bare (units (codes "as") ∷ []))) (name_of (codes "as"))) (more (tree.import_specifier of_values (tree.string_literal (bare (units (codes "as") ∷ []))) (name_of (codes "of"))) (more (tree.import_specifier of_values (tree.string_literal (bare (units (codes "from") ∷ []))) (name_of (codes "async"))) no_trees))))) (tree.string_literal (bare (units (codes "x") ∷ []))) absent) no_trees))
unfolding unicode_ident longer_stands word_value string_value
imports_named_by_words = (
  word (codes "import") (word (codes "from") (sign comma (group false Brace (word (codes "as") (sign comma (word (codes "as") (word (codes "as") (word (codes "of") (sign comma (word (codes "from") (word (codes "as") (word (codes "async") done))))))))) (word (codes "from") (piece false (Quoted Double (codes "x")) (sign semicolon done)))))),
  ([], codes " from, {as, as as of, from as async} from \"x\";", refl, refl, refl, refl, refl, (codes " ", codes ", {as, as as of, from as async} from \"x\";", refl, refl, refl, refl, refl, ([], codes " {as, as as of, from as async} from \"x\";", refl, refl, refl, refl, refl, (codes " ", codes "as, as as of, from as async", codes " from \"x\";", refl, refl, refl, ([], codes ", as as of, from as async", refl, refl, refl, refl, refl, ([], codes " as as of, from as async", refl, refl, refl, refl, refl, (codes " ", codes " as of, from as async", refl, refl, refl, refl, refl, (codes " ", codes " of, from as async", refl, refl, refl, refl, refl, (codes " ", codes ", from as async", refl, refl, refl, refl, refl, ([], codes " from as async", refl, refl, refl, refl, refl, (codes " ", codes " as async", refl, refl, refl, refl, refl, (codes " ", codes " async", refl, refl, refl, refl, refl, (codes " ", [], refl, refl, refl, refl, refl, refl))))))))), (codes " ", codes " \"x\";", refl, refl, refl, refl, refl, (codes " ", codes ";", refl, refl, refl, refl, refl, ([], [], refl, refl, refl, refl, refl, refl))))))),
  grammar.a_module (grammar.module_items refl (grammar.last_module_item (grammar.an_import (grammar.a_semicolon {a = word (codes "import") (word (codes "from") (sign comma (group false Brace (word (codes "as") (sign comma (word (codes "as") (word (codes "as") (word (codes "of") (sign comma (word (codes "from") (word (codes "as") (word (codes "async") done))))))))) (word (codes "from") (piece false (Quoted Double (codes "x")) done)))))} false refl) (grammar.an_import_of {a = word (codes "from") (sign comma (group false Brace (word (codes "as") (sign comma (word (codes "as") (word (codes "as") (word (codes "of") (sign comma (word (codes "from") (word (codes "as") (word (codes "async") done))))))))) done))} false refl (grammar.a_default_and_others value_from free_from (grammar.imports_in_braces (grammar.first_specifier {a = word (codes "as") done} false refl (grammar.a_specifier value_as free_as) (grammar.first_specifier {a = word (codes "as") (word (codes "as") (word (codes "of") done))} false refl (grammar.a_specifier_as {a = word (codes "as") done} (codes "of") false false refl (grammar.a_word_name value_as) value_of free_of) (grammar.last_specifier (grammar.a_specifier_as {a = word (codes "from") done} (codes "async") false false refl (grammar.a_word_name value_from) value_async free_async)))))) (grammar.a_source refl refl))))),
)

pub default_and_names : IsRead (codes "import a, {b, default as c} from \"x\";") (program_of no_trees (more (tree.import_declaration of_values (listed (more (tree.import_default_specifier (nothing_of 0) (name_of (codes "a"))) (more (tree.import_specifier of_values (tree.string_literal (bare (units (codes "b") ∷ []))) (name_of (codes "b"))) (more (tree.import_specifier of_values (tree.string_literal (bare (units (codes "default") ∷ []))) (name_of (codes "c"))) no_trees)))) (tree.string_literal (bare (units (codes "x") ∷ []))) absent) no_trees))
unfolding unicode_ident longer_stands word_value string_value
default_and_names = (
  word (codes "import") (word (codes "a") (sign comma (group false Brace (word (codes "b") (sign comma (word (codes "default") (word (codes "as") (word (codes "c") done))))) (word (codes "from") (piece false (Quoted Double (codes "x")) (sign semicolon done)))))),
  ([], codes " a, {b, default as c} from \"x\";", refl, refl, refl, refl, refl, (codes " ", codes ", {b, default as c} from \"x\";", refl, refl, refl, refl, refl, ([], codes " {b, default as c} from \"x\";", refl, refl, refl, refl, refl, (codes " ", codes "b, default as c", codes " from \"x\";", refl, refl, refl, ([], codes ", default as c", refl, refl, refl, refl, refl, ([], codes " default as c", refl, refl, refl, refl, refl, (codes " ", codes " as c", refl, refl, refl, refl, refl, (codes " ", codes " c", refl, refl, refl, refl, refl, (codes " ", [], refl, refl, refl, refl, refl, refl))))), (codes " ", codes " \"x\";", refl, refl, refl, refl, refl, (codes " ", codes ";", refl, refl, refl, refl, refl, ([], [], refl, refl, refl, refl, refl, refl))))))),
  grammar.a_module (grammar.module_items refl (grammar.last_module_item (grammar.an_import (grammar.a_semicolon {a = word (codes "import") (word (codes "a") (sign comma (group false Brace (word (codes "b") (sign comma (word (codes "default") (word (codes "as") (word (codes "c") done))))) (word (codes "from") (piece false (Quoted Double (codes "x")) done)))))} false refl) (grammar.an_import_of {a = word (codes "a") (sign comma (group false Brace (word (codes "b") (sign comma (word (codes "default") (word (codes "as") (word (codes "c") done))))) done))} false refl (grammar.a_default_and_others value_a free_a (grammar.imports_in_braces (grammar.first_specifier {a = word (codes "b") done} false refl (grammar.a_specifier value_b free_b) (grammar.last_specifier (grammar.a_specifier_as {a = word (codes "default") done} (codes "c") false false refl (grammar.a_word_name value_default) value_c free_c))))) (grammar.a_source refl refl))))),
)

pub import_by_string : IsRead (codes "import {a as b, \"c\" as d} from \"x\";") (program_of no_trees (more (tree.import_declaration of_values (listed (more (tree.import_specifier of_values (tree.string_literal (bare (units (codes "a") ∷ []))) (name_of (codes "b"))) (more (tree.import_specifier of_values (tree.string_literal (bare (units (codes "c") ∷ []))) (name_of (codes "d"))) no_trees))) (tree.string_literal (bare (units (codes "x") ∷ []))) absent) no_trees))
unfolding unicode_ident longer_stands word_value string_value
import_by_string = (
  word (codes "import") (group false Brace (word (codes "a") (word (codes "as") (word (codes "b") (sign comma (piece false (Quoted Double (codes "c")) (word (codes "as") (word (codes "d") done))))))) (word (codes "from") (piece false (Quoted Double (codes "x")) (sign semicolon done)))),
  ([], codes " {a as b, \"c\" as d} from \"x\";", refl, refl, refl, refl, refl, (codes " ", codes "a as b, \"c\" as d", codes " from \"x\";", refl, refl, refl, ([], codes " as b, \"c\" as d", refl, refl, refl, refl, refl, (codes " ", codes " b, \"c\" as d", refl, refl, refl, refl, refl, (codes " ", codes ", \"c\" as d", refl, refl, refl, refl, refl, ([], codes " \"c\" as d", refl, refl, refl, refl, refl, (codes " ", codes " as d", refl, refl, refl, refl, refl, (codes " ", codes " d", refl, refl, refl, refl, refl, (codes " ", [], refl, refl, refl, refl, refl, refl))))))), (codes " ", codes " \"x\";", refl, refl, refl, refl, refl, (codes " ", codes ";", refl, refl, refl, refl, refl, ([], [], refl, refl, refl, refl, refl, refl))))),
  grammar.a_module (grammar.module_items refl (grammar.last_module_item (grammar.an_import (grammar.a_semicolon {a = word (codes "import") (group false Brace (word (codes "a") (word (codes "as") (word (codes "b") (sign comma (piece false (Quoted Double (codes "c")) (word (codes "as") (word (codes "d") done))))))) (word (codes "from") (piece false (Quoted Double (codes "x")) done)))} false refl) (grammar.an_import_of {a = group false Brace (word (codes "a") (word (codes "as") (word (codes "b") (sign comma (piece false (Quoted Double (codes "c")) (word (codes "as") (word (codes "d") done))))))) done} false refl (grammar.named_imports (grammar.imports_in_braces (grammar.first_specifier {a = word (codes "a") (word (codes "as") (word (codes "b") done))} false refl (grammar.a_specifier_as {a = word (codes "a") done} (codes "b") false false refl (grammar.a_word_name value_a) value_b free_b) (grammar.last_specifier (grammar.a_specifier_as {a = piece false (Quoted Double (codes "c")) done} (codes "d") false false refl (grammar.a_string_name refl refl) value_d free_d))))) (grammar.a_source refl refl))))),
)

pub import_by_escaped_words : IsRead (codes "import {d\\u0065fault as a, \\u0061s as \\u0062} from \"x\";") (program_of no_trees (more (tree.import_declaration of_values (listed (more (tree.import_specifier of_values (tree.string_literal (bare (units (codes "default") ∷ []))) (name_of (codes "a"))) (more (tree.import_specifier of_values (tree.string_literal (bare (units (codes "as") ∷ []))) (name_of (codes "b"))) no_trees))) (tree.string_literal (bare (units (codes "x") ∷ []))) absent) no_trees))
unfolding unicode_ident longer_stands word_value string_value
import_by_escaped_words = (
  word (codes "import") (group false Brace (word (codes "d\\u0065fault") (word (codes "as") (word (codes "a") (sign comma (word (codes "\\u0061s") (word (codes "as") (word (codes "\\u0062") done))))))) (word (codes "from") (piece false (Quoted Double (codes "x")) (sign semicolon done)))),
  ([], codes " {d\\u0065fault as a, \\u0061s as \\u0062} from \"x\";", refl, refl, refl, refl, refl, (codes " ", codes "d\\u0065fault as a, \\u0061s as \\u0062", codes " from \"x\";", refl, refl, refl, ([], codes " as a, \\u0061s as \\u0062", refl, refl, refl, refl, refl, (codes " ", codes " a, \\u0061s as \\u0062", refl, refl, refl, refl, refl, (codes " ", codes ", \\u0061s as \\u0062", refl, refl, refl, refl, refl, ([], codes " \\u0061s as \\u0062", refl, refl, refl, refl, refl, (codes " ", codes " as \\u0062", refl, refl, refl, refl, refl, (codes " ", codes " \\u0062", refl, refl, refl, refl, refl, (codes " ", [], refl, refl, refl, refl, refl, refl))))))), (codes " ", codes " \"x\";", refl, refl, refl, refl, refl, (codes " ", codes ";", refl, refl, refl, refl, refl, ([], [], refl, refl, refl, refl, refl, refl))))),
  grammar.a_module (grammar.module_items refl (grammar.last_module_item (grammar.an_import (grammar.a_semicolon {a = word (codes "import") (group false Brace (word (codes "d\\u0065fault") (word (codes "as") (word (codes "a") (sign comma (word (codes "\\u0061s") (word (codes "as") (word (codes "\\u0062") done))))))) (word (codes "from") (piece false (Quoted Double (codes "x")) done)))} false refl) (grammar.an_import_of {a = group false Brace (word (codes "d\\u0065fault") (word (codes "as") (word (codes "a") (sign comma (word (codes "\\u0061s") (word (codes "as") (word (codes "\\u0062") done))))))) done} false refl (grammar.named_imports (grammar.imports_in_braces (grammar.first_specifier {a = word (codes "d\\u0065fault") (word (codes "as") (word (codes "a") done))} false refl (grammar.a_specifier_as {a = word (codes "d\\u0065fault") done} (codes "a") false false refl (grammar.a_word_name value_d_u0065fault) value_a free_a) (grammar.last_specifier (grammar.a_specifier_as {a = word (codes "\\u0061s") done} (codes "\\u0062") false false refl (grammar.a_word_name value__u0061s) value__u0062 free_b))))) (grammar.a_source refl refl))))),
)

pub attributes : IsRead (codes "import a from \"x\" with {type: \"json\", \"k\": 'v',};") (program_of no_trees (more (tree.import_declaration of_values (listed (more (tree.import_default_specifier (nothing_of 0) (name_of (codes "a"))) no_trees)) (tree.string_literal (bare (units (codes "x") ∷ []))) (given (tree.with_clause (bare (with_keyword with_keywords.With ∷ [])) (more (tree.import_attribute (nothing_of 0) (key_of (codes "type")) (tree.string_literal (bare (units (codes "json") ∷ [])))) (more (tree.import_attribute (nothing_of 0) (tree.string_literal (bare (units (codes "k") ∷ []))) (tree.string_literal (bare (units (codes "v") ∷ [])))) no_trees))))) no_trees))
unfolding unicode_ident longer_stands word_value string_value
attributes = (
  word (codes "import") (word (codes "a") (word (codes "from") (piece false (Quoted Double (codes "x")) (word (codes "with") (group false Brace (word (codes "type") (sign colon (piece false (Quoted Double (codes "json")) (sign comma (piece false (Quoted Double (codes "k")) (sign colon (piece false (Quoted Single (codes "v")) (sign comma done)))))))) (sign semicolon done)))))),
  ([], codes " a from \"x\" with {type: \"json\", \"k\": 'v',};", refl, refl, refl, refl, refl, (codes " ", codes " from \"x\" with {type: \"json\", \"k\": 'v',};", refl, refl, refl, refl, refl, (codes " ", codes " \"x\" with {type: \"json\", \"k\": 'v',};", refl, refl, refl, refl, refl, (codes " ", codes " with {type: \"json\", \"k\": 'v',};", refl, refl, refl, refl, refl, (codes " ", codes " {type: \"json\", \"k\": 'v',};", refl, refl, refl, refl, refl, (codes " ", codes "type: \"json\", \"k\": 'v',", codes ";", refl, refl, refl, ([], codes ": \"json\", \"k\": 'v',", refl, refl, refl, refl, refl, ([], codes " \"json\", \"k\": 'v',", refl, refl, refl, refl, refl, (codes " ", codes ", \"k\": 'v',", refl, refl, refl, refl, refl, ([], codes " \"k\": 'v',", refl, refl, refl, refl, refl, (codes " ", codes ": 'v',", refl, refl, refl, refl, refl, ([], codes " 'v',", refl, refl, refl, refl, refl, (codes " ", codes ",", refl, refl, refl, refl, refl, ([], [], refl, refl, refl, refl, refl, refl)))))))), ([], [], refl, refl, refl, refl, refl, refl))))))),
  grammar.a_module (grammar.module_items refl (grammar.last_module_item (grammar.an_import (grammar.a_semicolon {a = word (codes "import") (word (codes "a") (word (codes "from") (piece false (Quoted Double (codes "x")) (word (codes "with") (group false Brace (word (codes "type") (sign colon (piece false (Quoted Double (codes "json")) (sign comma (piece false (Quoted Double (codes "k")) (sign colon (piece false (Quoted Single (codes "v")) (sign comma done)))))))) done)))))} false refl) (grammar.an_import_of {a = word (codes "a") done} false refl (grammar.a_default_import value_a free_a) (grammar.a_source_with refl refl (grammar.first_attribute {a = word (codes "type") (sign colon (piece false (Quoted Double (codes "json")) done))} false refl (grammar.an_attribute value_type refl refl) (grammar.first_attribute {a = piece false (Quoted Double (codes "k")) (sign colon (piece false (Quoted Single (codes "v")) done))} false refl (grammar.an_attribute_by_string refl refl refl refl) grammar.no_attribute))))))),
)

pub attributes_on_next_line : IsRead (codes "import \"x\"\nwith {a: \"b\"};") (program_of no_trees (more (tree.import_declaration of_values no_list (tree.string_literal (bare (units (codes "x") ∷ []))) (given (tree.with_clause (bare (with_keyword with_keywords.With ∷ [])) (more (tree.import_attribute (nothing_of 0) (key_of (codes "a")) (tree.string_literal (bare (units (codes "b") ∷ [])))) no_trees)))) no_trees))
unfolding unicode_ident longer_stands word_value string_value
attributes_on_next_line = (
  word (codes "import") (piece false (Quoted Double (codes "x")) (piece true (Word (codes "with")) (group false Brace (word (codes "a") (sign colon (piece false (Quoted Double (codes "b")) done))) (sign semicolon done)))),
  ([], codes " \"x\"\nwith {a: \"b\"};", refl, refl, refl, refl, refl, (codes " ", codes "\nwith {a: \"b\"};", refl, refl, refl, refl, refl, (codes "\n", codes " {a: \"b\"};", refl, refl, refl, refl, refl, (codes " ", codes "a: \"b\"", codes ";", refl, refl, refl, ([], codes ": \"b\"", refl, refl, refl, refl, refl, ([], codes " \"b\"", refl, refl, refl, refl, refl, (codes " ", [], refl, refl, refl, refl, refl, refl))), ([], [], refl, refl, refl, refl, refl, refl))))),
  grammar.a_module (grammar.module_items refl (grammar.last_module_item (grammar.an_import (grammar.a_semicolon {a = word (codes "import") (piece false (Quoted Double (codes "x")) (piece true (Word (codes "with")) (group false Brace (word (codes "a") (sign colon (piece false (Quoted Double (codes "b")) done))) done)))} false refl) (grammar.an_import_alone (grammar.a_source_with refl refl (grammar.last_attribute (grammar.an_attribute value_a refl refl))))))),
)

pub export_by_all_names : IsRead (codes "let a; export {a, a as if, a as default, a as \"b c\"};") (program_of no_trees (more (tree.variable_declaration (declared_as Let) (more (tree.variable_declarator (nothing_of 1) (name_of (codes "a")) absent) no_trees)) (more (tree.export_named_declaration of_values (more (tree.export_specifier of_values (tree.string_literal (bare (units (codes "a") ∷ []))) (tree.string_literal (bare (units (codes "a") ∷ [])))) (more (tree.export_specifier of_values (tree.string_literal (bare (units (codes "a") ∷ []))) (tree.string_literal (bare (units (codes "if") ∷ [])))) (more (tree.export_specifier of_values (tree.string_literal (bare (units (codes "a") ∷ []))) (tree.string_literal (bare (units (codes "default") ∷ [])))) (more (tree.export_specifier of_values (tree.string_literal (bare (units (codes "a") ∷ []))) (tree.string_literal (bare (units (codes "b c") ∷ [])))) no_trees))))) no_trees)))
unfolding unicode_ident longer_stands word_value is_reserved is_strict_reserved encode string_value
export_by_all_names = (
  word (codes "let") (word (codes "a") (sign semicolon (word (codes "export") (group false Brace (word (codes "a") (sign comma (word (codes "a") (word (codes "as") (word (codes "if") (sign comma (word (codes "a") (word (codes "as") (word (codes "default") (sign comma (word (codes "a") (word (codes "as") (piece false (Quoted Double (codes "b c")) done))))))))))))) (sign semicolon done))))),
  ([], codes " a; export {a, a as if, a as default, a as \"b c\"};", refl, refl, refl, refl, refl, (codes " ", codes "; export {a, a as if, a as default, a as \"b c\"};", refl, refl, refl, refl, refl, ([], codes " export {a, a as if, a as default, a as \"b c\"};", refl, refl, refl, refl, refl, (codes " ", codes " {a, a as if, a as default, a as \"b c\"};", refl, refl, refl, refl, refl, (codes " ", codes "a, a as if, a as default, a as \"b c\"", codes ";", refl, refl, refl, ([], codes ", a as if, a as default, a as \"b c\"", refl, refl, refl, refl, refl, ([], codes " a as if, a as default, a as \"b c\"", refl, refl, refl, refl, refl, (codes " ", codes " as if, a as default, a as \"b c\"", refl, refl, refl, refl, refl, (codes " ", codes " if, a as default, a as \"b c\"", refl, refl, refl, refl, refl, (codes " ", codes ", a as default, a as \"b c\"", refl, refl, refl, refl, refl, ([], codes " a as default, a as \"b c\"", refl, refl, refl, refl, refl, (codes " ", codes " as default, a as \"b c\"", refl, refl, refl, refl, refl, (codes " ", codes " default, a as \"b c\"", refl, refl, refl, refl, refl, (codes " ", codes ", a as \"b c\"", refl, refl, refl, refl, refl, ([], codes " a as \"b c\"", refl, refl, refl, refl, refl, (codes " ", codes " as \"b c\"", refl, refl, refl, refl, refl, (codes " ", codes " \"b c\"", refl, refl, refl, refl, refl, (codes " ", [], refl, refl, refl, refl, refl, refl))))))))))))), ([], [], refl, refl, refl, refl, refl, refl)))))),
  grammar.a_module (grammar.module_items refl (grammar.first_module_item {a = word (codes "let") (word (codes "a") (sign semicolon done))} refl (grammar.a_module_statement (grammar.a_declaration Let refl (grammar.a_semicolon {a = word (codes "let") (word (codes "a") done)} false refl) (grammar.some_variables (grammar.last_declarator (grammar.without_value value_a free_a))))) (grammar.last_module_item (grammar.an_export (grammar.exported_names (grammar.a_semicolon {a = group false Brace (word (codes "a") (sign comma (word (codes "a") (word (codes "as") (word (codes "if") (sign comma (word (codes "a") (word (codes "as") (word (codes "default") (sign comma (word (codes "a") (word (codes "as") (piece false (Quoted Double (codes "b c")) done))))))))))))) done} false refl) (grammar.first_exported {a = word (codes "a") done} false refl (grammar.an_exported_name (grammar.a_word_name value_a) refl) (grammar.first_exported {a = word (codes "a") (word (codes "as") (word (codes "if") done))} false refl (grammar.an_exported_name_as {a = word (codes "a") done} false refl (grammar.a_word_name value_a) refl (grammar.a_word_name value_if)) (grammar.first_exported {a = word (codes "a") (word (codes "as") (word (codes "default") done))} false refl (grammar.an_exported_name_as {a = word (codes "a") done} false refl (grammar.a_word_name value_a) refl (grammar.a_word_name value_default)) (grammar.last_exported (grammar.an_exported_name_as {a = word (codes "a") done} false refl (grammar.a_word_name value_a) refl (grammar.a_string_name refl refl))))))))))),
)

pub export_of_reserved_from : IsRead (codes "export {\"c\" as d, e as \"f g\", if, default as of} from \"x\";") (program_of no_trees (more (tree.export_from_declaration of_values (more (tree.export_specifier of_values (tree.string_literal (bare (units (codes "c") ∷ []))) (tree.string_literal (bare (units (codes "d") ∷ [])))) (more (tree.export_specifier of_values (tree.string_literal (bare (units (codes "e") ∷ []))) (tree.string_literal (bare (units (codes "f g") ∷ [])))) (more (tree.export_specifier of_values (tree.string_literal (bare (units (codes "if") ∷ []))) (tree.string_literal (bare (units (codes "if") ∷ [])))) (more (tree.export_specifier of_values (tree.string_literal (bare (units (codes "default") ∷ []))) (tree.string_literal (bare (units (codes "of") ∷ [])))) no_trees)))) (tree.string_literal (bare (units (codes "x") ∷ []))) absent) no_trees))
unfolding unicode_ident longer_stands word_value is_reserved is_strict_reserved encode string_value
export_of_reserved_from = (
  word (codes "export") (group false Brace (piece false (Quoted Double (codes "c")) (word (codes "as") (word (codes "d") (sign comma (word (codes "e") (word (codes "as") (piece false (Quoted Double (codes "f g")) (sign comma (word (codes "if") (sign comma (word (codes "default") (word (codes "as") (word (codes "of") done))))))))))))) (word (codes "from") (piece false (Quoted Double (codes "x")) (sign semicolon done)))),
  ([], codes " {\"c\" as d, e as \"f g\", if, default as of} from \"x\";", refl, refl, refl, refl, refl, (codes " ", codes "\"c\" as d, e as \"f g\", if, default as of", codes " from \"x\";", refl, refl, refl, ([], codes " as d, e as \"f g\", if, default as of", refl, refl, refl, refl, refl, (codes " ", codes " d, e as \"f g\", if, default as of", refl, refl, refl, refl, refl, (codes " ", codes ", e as \"f g\", if, default as of", refl, refl, refl, refl, refl, ([], codes " e as \"f g\", if, default as of", refl, refl, refl, refl, refl, (codes " ", codes " as \"f g\", if, default as of", refl, refl, refl, refl, refl, (codes " ", codes " \"f g\", if, default as of", refl, refl, refl, refl, refl, (codes " ", codes ", if, default as of", refl, refl, refl, refl, refl, ([], codes " if, default as of", refl, refl, refl, refl, refl, (codes " ", codes ", default as of", refl, refl, refl, refl, refl, ([], codes " default as of", refl, refl, refl, refl, refl, (codes " ", codes " as of", refl, refl, refl, refl, refl, (codes " ", codes " of", refl, refl, refl, refl, refl, (codes " ", [], refl, refl, refl, refl, refl, refl))))))))))))), (codes " ", codes " \"x\";", refl, refl, refl, refl, refl, (codes " ", codes ";", refl, refl, refl, refl, refl, ([], [], refl, refl, refl, refl, refl, refl))))),
  grammar.a_module (grammar.module_items refl (grammar.last_module_item (grammar.an_export (grammar.exported_names_from (grammar.a_semicolon {a = group false Brace (piece false (Quoted Double (codes "c")) (word (codes "as") (word (codes "d") (sign comma (word (codes "e") (word (codes "as") (piece false (Quoted Double (codes "f g")) (sign comma (word (codes "if") (sign comma (word (codes "default") (word (codes "as") (word (codes "of") done))))))))))))) (word (codes "from") (piece false (Quoted Double (codes "x")) done))} false refl) (grammar.first_exported {a = piece false (Quoted Double (codes "c")) (word (codes "as") (word (codes "d") done))} false refl (grammar.an_exported_name_as {a = piece false (Quoted Double (codes "c")) done} false refl (grammar.a_string_name refl refl) refl (grammar.a_word_name value_d)) (grammar.first_exported {a = word (codes "e") (word (codes "as") (piece false (Quoted Double (codes "f g")) done))} false refl (grammar.an_exported_name_as {a = word (codes "e") done} false refl (grammar.a_word_name value_e) refl (grammar.a_string_name refl refl)) (grammar.first_exported {a = word (codes "if") done} false refl (grammar.an_exported_name (grammar.a_word_name value_if) refl) (grammar.last_exported (grammar.an_exported_name_as {a = word (codes "default") done} false refl (grammar.a_word_name value_default) refl (grammar.a_word_name value_of)))))) (grammar.a_source refl refl))))),
)

pub export_all_as_default : IsRead (codes "export * as default from \"x\" with {a: \"b\"};") (program_of no_trees (more (tree.export_all_declaration of_values (given (tree.string_literal (bare (units (codes "default") ∷ [])))) (tree.string_literal (bare (units (codes "x") ∷ []))) (given (tree.with_clause (bare (with_keyword with_keywords.With ∷ [])) (more (tree.import_attribute (nothing_of 0) (key_of (codes "a")) (tree.string_literal (bare (units (codes "b") ∷ [])))) no_trees)))) no_trees))
unfolding unicode_ident longer_stands word_value string_value
export_all_as_default = (
  word (codes "export") (sign star (word (codes "as") (word (codes "default") (word (codes "from") (piece false (Quoted Double (codes "x")) (word (codes "with") (group false Brace (word (codes "a") (sign colon (piece false (Quoted Double (codes "b")) done))) (sign semicolon done)))))))),
  ([], codes " * as default from \"x\" with {a: \"b\"};", refl, refl, refl, refl, refl, (codes " ", codes " as default from \"x\" with {a: \"b\"};", refl, refl, refl, refl, refl, (codes " ", codes " default from \"x\" with {a: \"b\"};", refl, refl, refl, refl, refl, (codes " ", codes " from \"x\" with {a: \"b\"};", refl, refl, refl, refl, refl, (codes " ", codes " \"x\" with {a: \"b\"};", refl, refl, refl, refl, refl, (codes " ", codes " with {a: \"b\"};", refl, refl, refl, refl, refl, (codes " ", codes " {a: \"b\"};", refl, refl, refl, refl, refl, (codes " ", codes "a: \"b\"", codes ";", refl, refl, refl, ([], codes ": \"b\"", refl, refl, refl, refl, refl, ([], codes " \"b\"", refl, refl, refl, refl, refl, (codes " ", [], refl, refl, refl, refl, refl, refl))), ([], [], refl, refl, refl, refl, refl, refl))))))))),
  grammar.a_module (grammar.module_items refl (grammar.last_module_item (grammar.an_export (grammar.all_exported_as {a = word (codes "default") done} false false false (grammar.a_semicolon {a = sign star (word (codes "as") (word (codes "default") (word (codes "from") (piece false (Quoted Double (codes "x")) (word (codes "with") (group false Brace (word (codes "a") (sign colon (piece false (Quoted Double (codes "b")) done))) done))))))} false refl) refl (grammar.a_word_name value_default) (grammar.a_source_with refl refl (grammar.last_attribute (grammar.an_attribute value_a refl refl))))))),
)

pub export_of_pattern : IsRead (codes "export var a, {b} = c;") (program_of no_trees (more (tree.export_declaration (nothing_of 0) (tree.variable_declaration (declared_as Var) (more (tree.variable_declarator (nothing_of 1) (name_of (codes "a")) absent) (more (tree.variable_declarator (nothing_of 1) (tree.object_pattern (nothing_of 0) (more (tree.binding_property (computed_values false) (key_of (codes "b")) (name_of (codes "b"))) no_trees) absent) (given (reference_of (codes "c")))) no_trees)))) no_trees))
unfolding unicode_ident longer_stands word_value
export_of_pattern = (
  word (codes "export") (word (codes "var") (word (codes "a") (sign comma (group false Brace (word (codes "b") done) (sign equal (word (codes "c") (sign semicolon done))))))),
  ([], codes " var a, {b} = c;", refl, refl, refl, refl, refl, (codes " ", codes " a, {b} = c;", refl, refl, refl, refl, refl, (codes " ", codes ", {b} = c;", refl, refl, refl, refl, refl, ([], codes " {b} = c;", refl, refl, refl, refl, refl, (codes " ", codes "b", codes " = c;", refl, refl, refl, ([], [], refl, refl, refl, refl, refl, refl), (codes " ", codes " c;", refl, refl, refl, refl, refl, (codes " ", codes ";", refl, refl, refl, refl, refl, ([], [], refl, refl, refl, refl, refl, refl)))))))),
  grammar.a_module (grammar.module_items refl (grammar.last_module_item (grammar.an_export (grammar.an_exported_declaration (grammar.declared_variables Var (grammar.a_semicolon {a = word (codes "var") (word (codes "a") (sign comma (group false Brace (word (codes "b") done) (sign equal (word (codes "c") done)))))} false refl) (grammar.some_variables (grammar.first_declarator {a = word (codes "a") done} false refl (grammar.without_value value_a free_a) (grammar.last_declarator (grammar.with_value {a = group false Brace (word (codes "b") done) done} false refl (grammar.an_object_binding (grammar.last_binding_property (grammar.a_bound_shorthand value_b free_b))) (primary_value (grammar.a_reference value_c free_c))))))))))),
)
