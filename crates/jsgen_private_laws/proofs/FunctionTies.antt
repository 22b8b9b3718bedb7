-- The rows of functions, classes, properties, patterns and targets: what each is spelled by is settled where what is in it is.
use Rattle.std.proofs.Common.{◌≡◌, ℕ, suc, Bool, true, false, refl, sym, subst}
use Rattle.jsgen_syntax.specs.declared.precedence.Precedence.TheVariants.{Comma}
use Rattle.jsgen_tree.specs.Tree.{Tree, Atoms, Maybe, Trees, type_of}
use Rattle.jsgen_tree.specs.Nodes as tree
use Rattle.jsgen_tree.specs.Values.{object_property_kind, object_property_method, object_property_shorthand, object_property_computed, function_kind, function_is_async, function_generator, function_pure, function_pife, arrow_function_expression_is_async, arrow_function_expression_pife, binding_property_computed, class_kind, method_definition_kind, method_definition_computed, method_definition_is_static, property_definition_computed, property_definition_is_static, assignment_target_property_property_computed}
use Rattle.jsgen_tree.specs.Inside.{inside_parentheses, looked_up_in, bound_in, written_name_in, is_method}
use Rattle.jsgen_place.specs.declared.place.Place.{Place}
use Rattle.jsgen_place.specs.Place.{child, in_brackets, within, member, arrow_wraps}
use Rattle.jsgen_model.specs.Punctuator.{Round, Square, Brace, colon}
use Rattle.jsgen_model.specs.Items.{Items, ◌⊕◌, mark, soft_line, soft_space, punctuator, statement_end, before_it}
use Rattle.jsgen_model.specs.Resolved.{resolved, after, after_maybe, after_trees}
use Rattle.jsgen_model.specs.Spellings.{items_if, needs_brackets, key_items, before_value, before_bound, before_target, own_or_renamed, target_named, is_name_alone, parameter_items, is_function, body_begins}
use Rattle.jsgen_model.specs.Spell.{spell}
use Rattle.jsgen_private_laws.proofs.Same.{question_same, looked_up_in_same, bound_in_same, written_name_in_same}
use Rattle.jsgen_private_laws.proofs.SpelledQuestions.{needs_brackets_same, target_named_same, is_name_alone_same}
use Rattle.jsgen_private_laws.proofs.Settled.{Scope, inside}
use Rattle.jsgen_private_laws.proofs.Settles.{Settles, is_still, both, before, behind, becomes, wrapped_settles, brackets_settle, in_class_settles}
use Rattle.jsgen_private_laws.proofs.SettledHelpers.{plain_if, braces_settle, block_braces_settle, before_expression_settles}
use Rattle.jsgen_private_laws.proofs.SettledParts.{key_settles, before_value_settles, before_bound_settles, before_target_settles, own_or_renamed_settles, written_name_after, looked_up_after, pattern_settles, behind_elements_settle, comma_between_settles, accessor_still, property_settles, parameter_settles, function_settles, function_words_settle, method_words_settle, body_braces_settle, body_begins_still, class_settles, element_settles, method_kind_still}
use Rattle.jsgen_private_laws.proofs.Ties.{Tie, TieIfGiven, TieEach, TieMethod, by_type, given_settles, apart_settles, value_settles, behind_word_settles, heritage_settles, directives_settle, statements_settle, body_settles_whole, members_settle, list_settles, elements_settle}

-- ---- functions

pub formal_parameter_tie : (a : Atoms) (t : Tree) (m : Maybe) → Tie t → TieIfGiven m → Tie (tree.formal_parameter a t m)
formal_parameter_tie a t m e f s n place = before refl (both (e s n _) (value_settles m f s (after t n) _))

pub formal_parameter_rest_tie : (a : Atoms) (t : Tree) → Tie t → Tie (tree.formal_parameter_rest a t)
formal_parameter_rest_tie a t e s n place = before refl (before refl (e s n _))

pub formal_parameters_tie : (a : Atoms) (ts : Trees) (m : Maybe) → TieEach ts → TieIfGiven m → Tie (tree.formal_parameters a ts m)
formal_parameters_tie a ts m e f s n place = both (list_settles ts e s n place) (both (comma_between_settles n ts m) (given_settles m f s (after_trees ts n) place))

pub arrow_function_tie : (a : Atoms) (p b : Tree) → Tie p → Tie b → Tie (tree.arrow_function a p b)
arrow_function_tie a p b e f s n place =
    let m : ℕ = after p n in
    let p1 : Tree = resolved s.tables s.classes n p in
    let alone = sym (is_name_alone_same s.tables s.classes n p) in
    let inner : Place = child Comma (within true place) in
    let parameters = becomes (parameter_settles (is_name_alone p) (e s n inner)) (λ i. parameter_items (alone i) (spell p1 inner)) in
    let last = both (by_type m body_begins b (body_begins_still (type_of b))) (f s m (child Comma (within (arrow_wraps (arrow_function_expression_pife a) place) place))) in
    before refl (wrapped_settles _ (before refl (both (plain_if (arrow_function_expression_is_async a) _ refl) (both parameters (before refl (before refl (before refl last)))))))

pub function_tie : (a : Atoms) (id : Maybe) (p : Tree) (b : Maybe) → TieIfGiven id → Tie p → TieIfGiven b → Tie (tree.function a id p b)
function_tie a id p b e f g s n place =
    let m : ℕ = after_maybe id n in
    function_settles (function_kind a) (record { pure = function_pure a; pife = function_pife a; place = place; start = a.span.start }) (both (function_words_settle a.span (function_is_async a) (function_generator a)) (both (given_settles id e s n _) (both (brackets_settle Round (f s m _)) (apart_settles b g s (after p m) _))))

-- of a method, whose function has no name with a class in it
pub method_tie : (a : Atoms) (id : Maybe) (p : Tree) (b : Maybe) → ((n : ℕ) → after_maybe id n ≡ n) → Tie p → TieIfGiven b → TieMethod (tree.function a id p b)
method_tie a id p b h f g s n place = starts (h n) (both (brackets_settle Round (f s (after_maybe id n) _)) (apart_settles b g s (after p (after_maybe id n)) _))
  where
    starts : {k m : ℕ} {i j : Items} → k ≡ n → Settles s k i j m → Settles s n i j m
    starts {k} {m} {i} {j} e x = subst (λ c. Settles s c i j m) e x

pub function_body_tie : (a : Atoms) (ds ts : Trees) → TieEach ds → TieEach ts → Tie (tree.function_body a ds ts)
function_body_tie a ds ts e f s n place = body_braces_settle a.span ds ts (both (directives_settle ds e s n) (body_settles_whole ts f s (after_trees ds n)))

-- ---- classes

pub class_tie : (a : Atoms) (id heritage : Maybe) (b : Tree) → TieIfGiven id → TieIfGiven heritage → Tie b → Tie (tree.class a id heritage b)
class_tie a id heritage b e f g s n place =
    let m : ℕ = after_maybe id n in
    class_settles (class_kind a) place a.span.start (before refl (both (behind_word_settles id e s n _) (both (heritage_settles heritage f s m) (before refl (g s (after_maybe heritage m) _)))))

pub class_body_tie : (a : Atoms) (ts : Trees) → TieEach ts → Tie (tree.class_body a ts)
class_body_tie a ts e s n place = in_class_settles (braces_settle a.span ts (members_settle ts e (inside s n) (suc n) (member place)))

pub static_block_tie : (a : Atoms) (ts : Trees) → TieEach ts → Tie (tree.static_block a ts)
static_block_tie a ts e s n place = element_settles place.in_list a.span.start soft_line refl (before refl (before refl (block_braces_settle a.span ts (statements_settle ts e s n))))

pub method_definition_tie : (a : Atoms) (key value : Tree) → Tie key → TieMethod value → Tie (tree.method_definition a key value)
method_definition_tie a key value e f s n place =
    let m : ℕ = after key n in
    element_settles place.in_list a.span.start soft_line refl (before refl (both (plain_if (method_definition_is_static a) _ refl) (before (method_kind_still (method_definition_kind a)) (both (method_words_settle m value) (both (key_settles (method_definition_computed a) key (e s n _)) (f s m place))))))

pub property_definition_tie : (a : Atoms) (key : Tree) (value : Maybe) → Tie key → TieIfGiven value → Tie (tree.property_definition a key value)
property_definition_tie a key value e f s n place = element_settles place.in_list a.span.start statement_end refl (before refl (both (plain_if (property_definition_is_static a) _ refl) (both (key_settles (property_definition_computed a) key (e s n _)) (value_settles value f s (after key n) _))))

-- ---- properties

-- a key, in brackets where it needs them
key_tie : (computed : Bool) (key : Tree) → Tie key → (s : Scope) (n : ℕ) → Settles s n (key_items (needs_brackets computed key) key (spell key (in_brackets Comma))) (key_items (needs_brackets computed (resolved s.tables s.classes n key)) (resolved s.tables s.classes n key) (spell (resolved s.tables s.classes n key) (in_brackets Comma))) (after key n)
key_tie computed key e s n =
    let key1 : Tree = resolved s.tables s.classes n key in
    let needs = sym (needs_brackets_same s.tables s.classes computed n key) in
    becomes (key_settles (needs_brackets computed key) key (e s n (in_brackets Comma))) (λ i. key_items (needs i) key1 (spell key1 (in_brackets Comma)))

if_still : (b : Bool) (i : Items) → is_still i ≡ true → is_still (items_if b i) ≡ true
if_still true i h = h
if_still false i h = refl

pub object_property_tie : (a : Atoms) (key value : Tree) → Tie key → (is_method (object_property_kind a) (object_property_method a) ≡ true → TieMethod value) → (is_method (object_property_kind a) (object_property_method a) ≡ false → Tie value) → Tie (tree.object_property a key value)
object_property_tie a key value e f g s n place =
    let m : ℕ = after key n in
    let key1 : Tree = resolved s.tables s.classes n key in
    let value1 : Tree = resolved s.tables s.classes m value in
    let computed : Bool = object_property_computed a in
    let shorthand : Bool = object_property_shorthand a in
    let head = key_tie computed key e s n in
    let written = sym (written_name_in_same s.tables s.classes n key) in
    let said = sym (question_same s.tables s.classes looked_up_in (looked_up_in_same s.tables s.classes) m value) in
    let first = becomes (before_value_settles shorthand (written_name_in key) (looked_up_in (inside_parentheses value)) (written_name_after n key) head) (λ i. before_value shorthand (written i) (said i) (key_items (needs_brackets computed key1) key1 (spell key1 (in_brackets Comma)))) in
    both (by_type m (λ type. items_if (is_function type) (mark a.span)) value (if_still (is_function (type_of value)) (mark a.span) refl))
    (property_settles (is_method (object_property_kind a) (object_property_method a))
    (λ h. before (accessor_still (object_property_kind a)) (both (method_words_settle m value) (both head (f h s m place))))
    (λ h. both first (both (before_expression_settles before_it value) (g h s m (in_brackets Comma)))))

-- ---- patterns

pub binding_rest_tie : (a : Atoms) (t : Tree) → Tie t → Tie (tree.binding_rest_element a t)
binding_rest_tie a t e s n place = before refl (before refl (e s n _))

pub assignment_pattern_tie : (a : Atoms) (l r : Tree) → Tie l → Tie r → Tie (tree.assignment_pattern a l r)
assignment_pattern_tie a l r e f s n place = both (e s n _) (before refl (before refl (before refl (f s (after l n) _))))

pub array_pattern_tie : (a : Atoms) (ts : Trees) (m : Maybe) → TieEach ts → TieIfGiven m → Tie (tree.array_pattern a ts m)
array_pattern_tie a ts m e f s n place = before refl (brackets_settle Square (both (elements_settle false ts e s n _) (behind_elements_settle n ts m (given_settles m f s (after_trees ts n) _))))

pub object_pattern_tie : (a : Atoms) (ts : Trees) (m : Maybe) → TieEach ts → TieIfGiven m → Tie (tree.object_pattern a ts m)
object_pattern_tie a ts m e f s n place = before refl (pattern_settles ts m (both (list_settles ts e s n _) (both (comma_between_settles n ts m) (given_settles m f s (after_trees ts n) _))))

pub binding_property_tie : (a : Atoms) (key value : Tree) → Tie key → Tie value → Tie (tree.binding_property a key value)
binding_property_tie a key value e f s n place =
    let m : ℕ = after key n in
    let key1 : Tree = resolved s.tables s.classes n key in
    let computed : Bool = binding_property_computed a in
    let written = sym (written_name_in_same s.tables s.classes n key) in
    let said = sym (bound_in_same s.tables s.classes m value) in
    let first = becomes (before_bound_settles (written_name_in key) (bound_in value) (written_name_after n key) (key_tie computed key e s n)) (λ i. before_bound (written i) (said i) (key_items (needs_brackets computed key1) key1 (spell key1 (in_brackets Comma)))) in
    both first (f s m _)

-- ---- targets

pub target_with_default_tie : (a : Atoms) (l r : Tree) → Tie l → Tie r → Tie (tree.target_with_default a l r)
target_with_default_tie a l r e f s n place = both (e s n _) (before refl (before refl (before refl (f s (after l n) _))))

pub target_rest_tie : (a : Atoms) (t : Tree) → Tie t → Tie (tree.target_rest a t)
target_rest_tie a t e s n place = before refl (before refl (e s n _))

pub array_target_tie : (a : Atoms) (ts : Trees) (m : Maybe) → TieEach ts → TieIfGiven m → Tie (tree.array_target a ts m)
array_target_tie a ts m e f s n place = before refl (brackets_settle Square (both (elements_settle false ts e s n _) (behind_elements_settle n ts m (given_settles m f s (after_trees ts n) _))))

pub object_target_tie : (a : Atoms) (ts : Trees) (m : Maybe) → TieEach ts → TieIfGiven m → Tie (tree.object_target a ts m)
object_target_tie a ts m e f s n place = before refl (brackets_settle Brace (both (list_settles ts e s n _) (both (comma_between_settles n ts m) (given_settles m f s (after_trees ts n) _))))

pub target_identifier_tie : (a : Atoms) (t : Tree) (m : Maybe) → Tie t → TieIfGiven m → Tie (tree.target_property_identifier a t m)
target_identifier_tie a t m e f s n place =
    let t1 : Tree = resolved s.tables s.classes n t in
    let said = sym (looked_up_in_same s.tables s.classes n t) in
    both (becomes (own_or_renamed_settles (looked_up_in t) (looked_up_after n t) (e s n (in_brackets Comma))) (λ i. own_or_renamed (said i) (spell t1 (in_brackets Comma)))) (value_settles m f s (after t n) _)

pub target_property_tie : (a : Atoms) (key value : Tree) → Tie key → Tie value → Tie (tree.target_property a key value)
target_property_tie a key value e f s n place =
    let m : ℕ = after key n in
    let key1 : Tree = resolved s.tables s.classes n key in
    let computed : Bool = assignment_target_property_property_computed a in
    let written = sym (written_name_in_same s.tables s.classes n key) in
    let said = sym (target_named_same s.tables s.classes m value) in
    let head : Settles s n (key_items (needs_brackets computed key) key (spell key (in_brackets Comma)) ⊕ (punctuator colon ⊕ soft_space)) (key_items (needs_brackets computed key1) key1 (spell key1 (in_brackets Comma)) ⊕ (punctuator colon ⊕ soft_space)) m = behind (key_tie computed key e s n) refl in
    both (becomes (before_target_settles (written_name_in key) (target_named value) (written_name_after n key) head) (λ i. before_target (written i) (said i) (key_items (needs_brackets computed key1) key1 (spell key1 (in_brackets Comma)) ⊕ (punctuator colon ⊕ soft_space)))) (f s m _)
