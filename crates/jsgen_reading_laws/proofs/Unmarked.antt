-- What a row puts round its children prints no annotation where these print none.
use Rattle.std.proofs.Common.{◌≡◌, ℕ, List, Bool, true, false, not, ◌&&◌, Option, Some, None, bytes_eq, refl, if◌then◌else◌}
use Rattle.std.proofs.lemmas.Bool.{both_ways}
use Rattle.jsgen_syntax.specs.declared.span.Span.{Span}
use Rattle.jsgen_syntax.specs.declared.operator.BinaryOperator.{BinaryOperator}
use Rattle.jsgen_syntax.specs.declared.operator.BinaryOperator.TheVariants as operators
use Rattle.jsgen_syntax.specs.declared.operator.LogicalOperator.{LogicalOperator}
use Rattle.jsgen_syntax.specs.declared.operator.LogicalOperator.TheVariants as logical_operators
use Rattle.jsgen_syntax.specs.declared.operator.UnaryOperator.{UnaryOperator}
use Rattle.jsgen_syntax.specs.declared.operator.UnaryOperator.TheVariants as unary_operators
use Rattle.jsgen_syntax.specs.declared.operator.UpdateOperator.{UpdateOperator}
use Rattle.jsgen_syntax.specs.declared.operator.UpdateOperator.TheVariants as update_operators
use Rattle.jsgen_syntax.specs.declared.operator.AssignmentOperator.{AssignmentOperator}
use Rattle.jsgen_syntax.specs.declared.operator.AssignmentOperator.TheVariants as assignment_operators
use Rattle.jsgen_syntax.specs.declared.precedence.Precedence.TheVariants.{Prefix}
use Rattle.jsgen_place.specs.declared.place.Place.{Place}
use Rattle.jsgen_place.specs.declared.shape.Shape.{Shape}
use Rattle.jsgen_place.specs.declared.shape.Shape.TheVariants as shapes
use Rattle.jsgen_place.specs.Place.{wraps}
use Rattle.jsgen_tree.specs.declared.collections.PropertyKind.{PropertyKind}
use Rattle.jsgen_tree.specs.declared.collections.PropertyKind.TheVariants as property_kinds
use Rattle.jsgen_tree.specs.declared.functions.FunctionKind.{FunctionKind}
use Rattle.jsgen_tree.specs.declared.functions.FunctionKind.TheVariants as function_kinds
use Rattle.jsgen_tree.specs.declared.classes.ClassKind.{ClassKind}
use Rattle.jsgen_tree.specs.declared.classes.ClassKind.TheVariants as class_kinds
use Rattle.jsgen_tree.specs.declared.classes.MethodDefinitionKind.{MethodDefinitionKind}
use Rattle.jsgen_tree.specs.declared.classes.MethodDefinitionKind.TheVariants as method_kinds
use Rattle.jsgen_tree.specs.declared.types.NodeType.{NodeType}
use Rattle.jsgen_tree.specs.declared.types.NodeType.TheVariants as types
use Rattle.jsgen_tree.specs.Everywhere.{Everywhere}
use Rattle.jsgen_tree.specs.Inside.{is_proto}
use Rattle.jsgen_tree.specs.Named.{Named}
use Rattle.jsgen_tree.specs.Nodes as tree
use Rattle.jsgen_tree.specs.Number.{NumericKind, Whole, Raw}
use Rattle.jsgen_tree.specs.Tree.{Tree, Maybe, absent, given, Trees, no_trees, more, hole, Atoms, span_of}
use Rattle.jsgen_tree.specs.Values.{numeric_literal_negative, function_kind, function_pure, function_is_async, function_generator, string_literal_value}
use Rattle.jsgen_model.specs.Items.{Items, Manner, TemplatePart, nothing, word, operator, comments}
use Rattle.jsgen_model.specs.Operators.{operator_item, logical_item, unary_sign, marked, behind_unary, update_item, assignment_item}
use Rattle.jsgen_model.specs.Spellings.{Consequent, FunctionStand}
use Rattle.jsgen_model.specs.Spell.{update_items, name_link, bracket_link, new_arguments, items_if, string_statement, unless_string, first_statement, braces, block_braces, block_items, braces_end, body_end, consequent_items, body_items, alternate_items, do_items, led_items, case_items, apart_from_of, before_of, line_or_space, on_lines, comma_if, comma_if_any, ends_in_hole, object_inside, before_member, is_marked_as_called, before_expression, key_text, key_items, items_unless, unless_said, before_value, before_bound, pattern_braces, behind_elements, accessor_word, method_or_property, signed, number_items, big_integer_items, parameter_items, function_items, function_words, method_words, body_braces, body_begins, comma_between, class_items, method_kind_word, own_or_renamed, before_target, assignment_items, first_piece, export_named, unless_named, unless_same, as_name, import_items, others_items, clause_items, spaced_braces, attribute_key, space_by, exported_end, default_items, span_inside, is_declared_function, is_pure_declaration}
use Rattle.jsgen_model.specs.Plain.{is_quiet_row}
use Rattle.jsgen_mark_laws.specs.Law.{PrintsNone}

-- where annotations are printed, none of the items prints one
abbrev pub Unannotated : Items → Type 0
Unannotated items = PrintsNone true items

-- ---- operators

pub operator_item_none : (o : BinaryOperator) → Unannotated (operator_item o)
operator_item_none operators.In = tt
operator_item_none o = tt

pub logical_item_none : (o : LogicalOperator) → Unannotated (logical_item o)
logical_item_none logical_operators.Or = tt
logical_item_none o = tt

pub unary_sign_none : (o : UnaryOperator) → Unannotated (unary_sign o)
unary_sign_none unary_operators.UnaryPlus = tt
unary_sign_none o = tt

pub behind_unary_none : (o : UnaryOperator) → Unannotated (behind_unary o)
behind_unary_none unary_operators.UnaryPlus = tt
behind_unary_none o = tt

pub update_item_none : (o : UpdateOperator) → Unannotated (update_item o)
update_item_none update_operators.Increment = tt
update_item_none o = tt

pub assignment_item_none : (o : AssignmentOperator) → Unannotated (assignment_item o)
assignment_item_none assignment_operators.Assign = tt
assignment_item_none o = tt

pub marked_none : (s : Span) (items : Items) → Unannotated items → Unannotated (marked s items)
marked_none s (word w) h = tt
marked_none s (operator p) h = tt
marked_none s items h = (tt, h)

pub update_items_none : (s : Span) (prefix : Bool) (item first last : Items) → Unannotated item → Unannotated first → Unannotated last → Unannotated (update_items s prefix item first last)
update_items_none s true item first last h j k = (marked_none s item h, k)
update_items_none s false item first last h j k = (tt, (j, h))

-- ---- links and calls

pub name_link_none : (optional : Bool) → Unannotated (name_link optional)
name_link_none true = tt
name_link_none false = tt

pub bracket_link_none : (optional : Bool) → Unannotated (bracket_link optional)
bracket_link_none true = tt
bracket_link_none false = tt

pub new_arguments_none : (needed : Bool) (items : Items) → Unannotated items → Unannotated (new_arguments needed items)
new_arguments_none true items h = h
new_arguments_none false items h = h

-- ---- statements

pub items_if_none : (test : Bool) (items : Items) → Unannotated items → Unannotated (items_if test items)
items_if_none true items h = h
items_if_none false items h = tt

unless_string_none : (line own : Span) (units : Option (List ℕ)) (items : Items) → Unannotated items → Unannotated (unless_string line own units items)
unless_string_none line own (Some units) items h = (tt, (tt, ((tt, (tt, tt)), tt)))
unless_string_none line own None items h = h

pub first_statement_none : (t : Tree) (items : Items) → Unannotated items → Unannotated (first_statement t items)
first_statement_none t items h = unless_string_none (span_of t) (span_inside t) (string_statement t) items h

pub braces_none : (s : Span) (ts : Trees) (items : Items) → Unannotated items → Unannotated (braces s ts items)
braces_none s no_trees items h = (tt, (tt, tt))
braces_none s ts items h = (tt, ((tt, (h, (tt, tt))), tt))

pub block_braces_none : (s : Span) (ts : Trees) (items : Items) → Unannotated items → Unannotated (block_braces s ts items)
block_braces_none s no_trees items h = (tt, ((tt, tt), tt))
block_braces_none s ts items h = (tt, ((tt, ((h, tt), (tt, tt))), tt))

pub block_items_none : (in_list : Bool) (items : Items) → Unannotated items → Unannotated (block_items in_list items)
block_items_none in_list items h = (items_if_none in_list _ tt, (h, items_if_none in_list _ tt))

braces_end_none : (else_follows : Bool) → Unannotated (braces_end else_follows)
braces_end_none true = tt
braces_end_none false = tt

body_end_none : (else_follows : Bool) → Unannotated (body_end else_follows)
body_end_none true = tt
body_end_none false = tt

pub consequent_items_none : (s : Shape) (open_end : Bool) (c : Consequent) → Unannotated c.inner → Unannotated c.whole → Unannotated (consequent_items s open_end c)
consequent_items_none shapes.Block false c h k = (tt, (h, braces_end_none c.else_follows))
consequent_items_none shapes.Empty false c h k = (tt, (tt, body_end_none c.else_follows))
consequent_items_none s false c h k = (tt, (k, body_end_none c.else_follows))
consequent_items_none s true c h k = (tt, ((tt, ((tt, (k, (tt, tt))), tt)), braces_end_none c.else_follows))

pub body_items_none : (s : Shape) (inner whole : Items) → Unannotated inner → Unannotated whole → Unannotated (body_items s inner whole)
body_items_none shapes.Block inner whole h k = (tt, (h, tt))
body_items_none shapes.Empty inner whole h k = (tt, tt)
body_items_none s inner whole h k = (tt, k)

pub alternate_items_none : (s : Shape) (inner whole : Items) → Unannotated inner → Unannotated whole → Unannotated (alternate_items s inner whole)
alternate_items_none shapes.If inner whole h k = (tt, h)
alternate_items_none s inner whole h k = body_items_none s inner whole h k

pub do_items_none : (own : Span) (s : Shape) (inner whole : Items) → Unannotated inner → Unannotated whole → Unannotated (do_items own s inner whole)
do_items_none own shapes.Block inner whole h k = (tt, (h, tt))
do_items_none own shapes.Empty inner whole h k = (tt, (tt, (tt, (tt, tt))))
do_items_none own s inner whole h k = (tt, ((k, tt), tt))

pub led_items_none : (s : Shape) (inner whole : Items) → Unannotated inner → Unannotated whole → Unannotated (led_items s inner whole)
led_items_none shapes.Block inner whole h k = (h, tt)
led_items_none shapes.Empty inner whole h k = (tt, tt)
led_items_none s inner whole h k = k

pub case_items_none : (ts : Trees) (only statements : Items) → Unannotated only → Unannotated statements → Unannotated (case_items ts only statements)
case_items_none (more t no_trees) only statements h k = h
case_items_none ts only statements h k = (tt, k)

apart_from_of_none : (named : Option Named) (items : Items) → Unannotated items → Unannotated (apart_from_of named items)
apart_from_of_none None items h = h
apart_from_of_none (Some n) items h = (h, h)

pub before_of_none : (awaits : Bool) (named : Option Named) (items : Items) → Unannotated items → Unannotated (before_of awaits named items)
before_of_none true named items h = h
before_of_none false named items h = apart_from_of_none named items h

-- ---- arrays and objects

pub line_or_space_none : (lines : Bool) → Unannotated (line_or_space lines)
line_or_space_none true = (tt, tt)
line_or_space_none false = tt

pub on_lines_none : (lines : Bool) (items : Items) → Unannotated items → Unannotated (on_lines lines items)
on_lines_none true items h = (((tt, tt), h), (tt, tt))
on_lines_none false items h = h

pub comma_if_none : (test : Bool) → Unannotated (comma_if test)
comma_if_none true = tt
comma_if_none false = tt

comma_if_any_none : (ts : Trees) → Unannotated (comma_if_any ts)
comma_if_any_none no_trees = tt
comma_if_any_none ts = (tt, tt)

pub object_inside_none : (ts : Trees) (items : Items) → Unannotated items → Unannotated (object_inside ts items)
object_inside_none no_trees items h = h
object_inside_none (more t no_trees) items h = (h, tt)
object_inside_none (hole no_trees) items h = (h, tt)
object_inside_none ts items h = (h, (tt, tt))

pub before_member_none : (lines : Bool) (start : ℕ) → Unannotated (before_member lines start)
before_member_none true start = tt
before_member_none false start = tt

-- one of two, either of which prints none
either_none : (test : Bool) (a b : Items) → Unannotated a → Unannotated b → Unannotated (if test then a else b)
either_none true a b h k = h
either_none false a b h k = k

pub before_expression_none : (manner : Manner) (t : Tree) → Unannotated (before_expression manner t)
before_expression_none manner (tree.parenthesized a expression) = (tt, before_expression_none manner expression)
before_expression_none manner t = either_none (is_marked_as_called t) nothing (comments manner (span_of t).start) tt tt

key_text_none : (key : Tree) (items : Items) → Unannotated items → Unannotated (key_text key items)
key_text_none (tree.string_literal a) items h = (tt, (tt, tt))
key_text_none key items h = h

pub key_items_none : (bracketed : Bool) (key : Tree) (items : Items) → Unannotated items → Unannotated (key_items bracketed key items)
key_items_none true key items h = key_text_none key items h
key_items_none false key items h = key_text_none key items h

items_unless_none : (test : Bool) (items : Items) → Unannotated items → Unannotated (items_unless test items)
items_unless_none true items h = tt
items_unless_none false items h = h

unless_said_none : (w : List ℕ) (value : Option Named) (items : Items) → Unannotated items → Unannotated (unless_said w value items)
unless_said_none w None items h = h
unless_said_none w (Some value) items h = (tt, h)

pub before_value_none : (shorthand : Bool) (w : Option (List ℕ)) (value : Option Named) (key : Items) → Unannotated key → Unannotated (before_value shorthand w value key)
before_value_none shorthand None value key h = (h, (tt, tt))
before_value_none shorthand (Some w) value key h =
    either_none (is_proto w) _ _ (items_unless_none shorthand _ (h, (tt, tt))) (unless_said_none w value _ (h, (tt, tt)))

pub before_bound_none : (w : Option (List ℕ)) (value : Option Named) (key : Items) → Unannotated key → Unannotated (before_bound w value key)
before_bound_none None value key h = (h, (tt, tt))
before_bound_none (Some w) value key h = unless_said_none w value _ (h, (tt, tt))

pub pattern_braces_none : (properties : Trees) (rest : Maybe) (items : Items) → Unannotated items → Unannotated (pattern_braces properties rest items)
pattern_braces_none no_trees absent items h = tt
pattern_braces_none properties rest items h = (tt, (h, tt))

pub behind_elements_none : (elements : Trees) (rest : Maybe) (items : Items) → Unannotated items → Unannotated (behind_elements elements rest items)
behind_elements_none elements absent items h = comma_if_none (ends_in_hole elements)
behind_elements_none elements (given rest) items h = (comma_if_any_none elements, h)

pub accessor_word_none : (kind : PropertyKind) → Unannotated (accessor_word kind)
accessor_word_none property_kinds.Init = tt
accessor_word_none property_kinds.Get = (tt, tt)
accessor_word_none property_kinds.Set = (tt, tt)

pub method_or_property_none : (is_method : Bool) (method property : Items) → Unannotated method → Unannotated property → Unannotated (method_or_property is_method method property)
method_or_property_none true method property h k = h
method_or_property_none false method property h k = k

-- ---- numbers

signed_none : (dot_is_its_own negative : Bool) (text : List ℕ) (place : Place) → Unannotated (signed dot_is_its_own negative text place)
signed_none dot_is_its_own true text place = (tt, tt)
signed_none dot_is_its_own false text place = tt

pub number_items_none : (kind : NumericKind) (a : Atoms) (place : Place) → Unannotated (number_items kind a place)
number_items_none Whole a place = signed_none _ (numeric_literal_negative a) _ place
number_items_none Raw a place = signed_none _ (numeric_literal_negative a) _ place

pub big_integer_items_none : (s : Span) (value : List ℕ) (digits : Option (List ℕ)) (place : Place) → Unannotated (big_integer_items s value digits place)
big_integer_items_none s value (Some digits) place = (items_if_none (wraps Prefix place) _ tt, (tt, tt))
big_integer_items_none s value None place = tt

-- ---- functions

-- what is not marked as pure has no annotation
pub unmarked_none : (pure : Bool) → not pure ≡ true → (pure && true) ≡ false
unmarked_none true h = absurd (both_ways false refl h)
unmarked_none false h = refl

-- nor has a declaration that is exported
pub declared_none : (t : Tree) → Everywhere is_quiet_row t → (is_pure_declaration t && true) ≡ false
declared_none (tree.function a id params body) h = both_none (is_declared_function (function_kind a)) (function_pure a) h.0
  where
    both_none : (declared pure : Bool) → not pure ≡ true → ((declared && pure) && true) ≡ false
    both_none true pure h = unmarked_none pure h
    both_none false pure h = refl
declared_none t h = refl

pub parameter_items_none : (is_name : Bool) (items : Items) → Unannotated items → Unannotated (parameter_items is_name items)
parameter_items_none true items h = h
parameter_items_none false items h = h

pub function_items_none : (kind : FunctionKind) (f : FunctionStand) (items : Items) → (f.pure && true) ≡ false → Unannotated items → Unannotated (function_items kind f items)
function_items_none function_kinds.Declaration f items e h = (items_if_none f.place.in_list _ (tt, e), block_items_none f.place.in_list items h)
function_items_none function_kinds.Expression f items e h = (e, (tt, h))

pub function_words_none : (s : Span) (is_async generator : Bool) → Unannotated (function_words s is_async generator)
function_words_none s is_async generator = (items_if_none is_async _ (tt, tt), (tt, items_if_none generator _ (tt, tt)))

pub method_words_none : (t : Tree) → Unannotated (method_words t)
method_words_none (tree.function a id params body) = (items_if_none (function_is_async a) _ (tt, tt), items_if_none (function_generator a) _ tt)
method_words_none t = tt

pub body_braces_none : (s : Span) (directives statements : Trees) (items : Items) → Unannotated items → Unannotated (body_braces s directives statements items)
body_braces_none s no_trees no_trees items h = (tt, ((tt, tt), tt))
body_braces_none s directives statements items h = (tt, ((tt, ((h, tt), (tt, tt))), tt))

pub body_begins_none : (type : NodeType) → Unannotated (body_begins type)
body_begins_none types.FunctionBody = tt
body_begins_none type = tt

pub comma_between_none : (items : Trees) (rest : Maybe) → Unannotated (comma_between items rest)
comma_between_none no_trees rest = tt
comma_between_none items absent = tt
comma_between_none items (given rest) = (tt, tt)

-- ---- classes

pub class_items_none : (kind : ClassKind) (place : Place) (start : ℕ) (items : Items) → Unannotated items → Unannotated (class_items kind place start items)
class_items_none class_kinds.Declaration place start items h = (items_if_none place.in_list _ tt, block_items_none place.in_list items h)
class_items_none class_kinds.Expression place start items h = h

pub method_kind_word_none : (kind : MethodDefinitionKind) → Unannotated (method_kind_word kind)
method_kind_word_none method_kinds.Get = (tt, tt)
method_kind_word_none method_kinds.Set = (tt, tt)
method_kind_word_none kind = tt

-- ---- targets

pub own_or_renamed_none : (named : Option Named) (items : Items) → Unannotated items → Unannotated (own_or_renamed named items)
own_or_renamed_none None items h = h
own_or_renamed_none (Some n) items h = (h, (tt, (tt, (tt, tt))))

pub before_target_none : (w : Option (List ℕ)) (named : Option Named) (key : Items) → Unannotated key → Unannotated (before_target w named key)
before_target_none (Some w) (Some n) key h = (h, h)
before_target_none w n key h = h

pub assignment_items_none : (type : NodeType) (test : Bool) (items : Items) → Unannotated items → Unannotated (assignment_items type test items)
assignment_items_none types.ObjectAssignmentTarget test items h = h
assignment_items_none type test items h = h

-- ---- templates

pub first_piece_none : (is_tagged : Bool) (part : Trees → TemplatePart) (pieces : Trees) → Unannotated (first_piece is_tagged part pieces)
first_piece_none is_tagged part no_trees = tt
first_piece_none is_tagged part (more piece pieces) = tt
first_piece_none is_tagged part (hole pieces) = tt

-- ---- imports and exports

unless_named_none : (m n : Option Named) (items : Items) → Unannotated items → Unannotated (unless_named m n items)
unless_named_none (Some m) (Some n) items h = (tt, h)
unless_named_none m n items h = h

pub unless_same_none : (t u : Tree) (items : Items) → Unannotated items → Unannotated (unless_same t u items)
unless_same_none (tree.string_literal a) (tree.string_literal b) items h = items_unless_none (bytes_eq (string_literal_value a) (string_literal_value b)) items h
unless_same_none t u items h = unless_named_none (export_named t) (export_named u) items h

pub import_items_none : (t local : Tree) (imported bound : Items) → Unannotated imported → Unannotated bound → Unannotated (import_items t local imported bound)
import_items_none (tree.string_literal a) local imported bound h k = (unless_same_none (tree.string_literal a) local _ (h, (tt, (tt, tt))), k)
import_items_none t local imported bound h k = (h, unless_same_none t local (as_name bound) (tt, (tt, (tt, k))))

pub others_items_none : (type : NodeType) (first every : Items) → Unannotated first → Unannotated every → Unannotated (others_items type first every)
others_items_none types.ImportNamespaceSpecifier first every h k = (h, tt)
others_items_none type first every h k = ((tt, (k, tt)), tt)

pub clause_items_none : (type : NodeType) (first behind others : Items) → Unannotated first → Unannotated behind → Unannotated others → Unannotated (clause_items type first behind others)
clause_items_none types.ImportDefaultSpecifier first behind others h j k = (tt, (h, j))
clause_items_none type first behind others h j k = (tt, k)

pub spaced_braces_none : (ts : Trees) (items : Items) → Unannotated items → Unannotated (spaced_braces ts items)
spaced_braces_none no_trees items h = tt
spaced_braces_none ts items h = (tt, (h, tt))

pub attribute_key_none : (key : Tree) (items : Items) → Unannotated items → Unannotated (attribute_key key items)
attribute_key_none (tree.identifier_name a) items h = tt
attribute_key_none key items h = h

pub space_by_none : (test : Bool) → Unannotated (space_by test)
space_by_none true = tt
space_by_none false = tt

pub exported_end_none : (type : NodeType) → Unannotated (exported_end type)
exported_end_none types.VariableDeclaration = tt
exported_end_none type = (tt, tt)

pub default_items_none : (declared : Bool) (declaration expression : Items) → Unannotated declaration → Unannotated expression → Unannotated (default_items declared declaration expression)
default_items_none true declaration expression h k = (h, tt)
default_items_none false declaration expression h k = (tt, (k, tt))
