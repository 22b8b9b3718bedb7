-- Calls and functions, without the parentheses that may stand round them.
use Rattle.std.specs.Prelude.{◌||◌, if◌then◌else◌}
use Rattle.jsgen_syntax.specs.declared.precedence.Precedence.TheVariants.{Lowest, Comma}
use Rattle.jsgen_tree.specs.Tree.{Tree, Maybe, span_of}
use Rattle.jsgen_tree.specs.Nodes as tree
use Rattle.jsgen_tree.specs.Values.{call_expression_optional, function_is_async, function_generator}
use Rattle.jsgen_place.specs.declared.place.Place.{Place}
use Rattle.jsgen_place.specs.Place.{in_brackets, child, called}
use Rattle.jsgen_model.specs.Punctuator.{Round}
use Rattle.jsgen_model.specs.Items.{Items, Manner, nothing, ◌⊕◌, brackets, comments, line_break, import_source}
use Rattle.jsgen_model.specs.Quotes.{is_require_call, is_definition_call}
use Rattle.jsgen_model.specs.Spell.{spell, is_marked_as_called, argument_items, spell_arguments, spell_behind_comma, spell_if_given, function_words, spell_method, bracket_link, linked_items}

-- from what is called on
abbrev pub from_callee : Tree → Place → Items
from_callee (tree.call a callee arguments) place =
    linked_items callee (spell callee (called place)) ⊕ bracket_link (call_expression_optional a)
    ⊕ brackets Round (argument_items (is_require_call callee arguments || is_definition_call callee arguments) arguments a.span
    (spell_arguments (is_require_call callee arguments) (is_definition_call callee arguments) arguments (in_brackets Comma)))
from_callee t place = nothing

-- the comments before what is in no parentheses
abbrev pub own_comments : Manner → Tree → Items
own_comments manner t = if is_marked_as_called t then nothing else comments manner (span_of t).start

-- what is imported, and how, behind what leads to it
abbrev pub imported_items : Tree → Maybe → Items
imported_items source options = line_break (import_source (span_of source).start) ⊕ spell source (in_brackets Comma) ⊕ spell_behind_comma options (in_brackets Comma)

-- a function from its word on; behind the name it is spelled as a method is
abbrev pub from_word : Tree → Place → Items
from_word (tree.function a id params body) place = function_words a.span (function_is_async a) (function_generator a) ⊕ spell_if_given id (child Lowest place) ⊕ spell_method (tree.function a id params body) place
from_word t place = nothing
