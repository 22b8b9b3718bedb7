-- What rows are spelled with settles as what is in it does: keys, patterns, numbers, functions, classes, targets and modules.
use Rattle.std.proofs.Common.{◌≡◌, ℕ, List, Bool, true, false, not, if◌then◌else◌, Option, Some, None, decimal, codes, refl, sym, ap}
use Rattle.std.specs.Option.{is_some}
use Rattle.std.proofs.lemmas.Bool.{both_ways}
use Rattle.jsgen_syntax.specs.declared.span.Span.{Span}
use Rattle.jsgen_place.specs.declared.place.Place.{Place}
use Rattle.jsgen_place.specs.Place.{wraps}
use Rattle.jsgen_syntax.specs.declared.precedence.Precedence.TheVariants.{Prefix}
use Rattle.jsgen_tree.specs.declared.collections.PropertyKind.{PropertyKind}
use Rattle.jsgen_tree.specs.declared.collections.PropertyKind.TheVariants as property_kinds
use Rattle.jsgen_tree.specs.declared.functions.FunctionKind.{FunctionKind}
use Rattle.jsgen_tree.specs.declared.functions.FunctionKind.TheVariants as function_kinds
use Rattle.jsgen_tree.specs.declared.classes.ClassKind.{ClassKind}
use Rattle.jsgen_tree.specs.declared.classes.ClassKind.TheVariants as class_kinds
use Rattle.jsgen_tree.specs.declared.classes.MethodDefinitionKind.{MethodDefinitionKind}
use Rattle.jsgen_tree.specs.declared.classes.MethodDefinitionKind.TheVariants as method_kinds
use Rattle.jsgen_tree.specs.declared.types.NodeType.{NodeType}
use Rattle.jsgen_tree.specs.declared.types.NodeType.TheVariants as types
use Rattle.jsgen_tree.specs.Number.{NumericKind, Whole, Raw}
use Rattle.jsgen_tree.specs.Named.{Named}
use Rattle.jsgen_tree.specs.Tree.{Tree, Atoms, Maybe, absent, given, Trees, no_trees, more, hole}
use Rattle.jsgen_tree.specs.Nodes as tree
use Rattle.jsgen_tree.specs.Values.{numeric_literal_negative, numeric_literal_digits, numeric_literal_text, function_is_async, function_generator}
use Rattle.jsgen_tree.specs.Inside.{is_proto, written_name_in, looked_up_in}
use Rattle.jsgen_model.specs.Numbers.{takes_no_dot}
use Rattle.jsgen_model.specs.Punctuator.{Round, Square, Brace}
use Rattle.jsgen_model.specs.Items.{Items, ◌⊕◌, a_declaration, a_brace, brackets, soft_space, word}
use Rattle.jsgen_model.specs.Resolved.{resolved, resolved_maybe, resolved_trees, after, after_maybe, after_trees}
use Rattle.jsgen_model.specs.Spellings.{ends_in_hole, comma_if, comma_if_any, key_text, key_items, items_unless, unless_said, unless_short, before_value, before_bound, pattern_braces, behind_elements, accessor_word, method_or_property, signed, number_items, big_integer_items, parameter_items, FunctionStand, function_items, function_words, method_words, body_braces, body_begins, comma_between, class_items, element_end, element_items, method_kind_word, own_or_renamed, before_target, assignment_items, export_named, unless_named, unless_same, as_name, import_items, others_items, clause_items, spaced_braces, attribute_key, space_by, exported_end, default_items}
use Rattle.jsgen_private_laws.proofs.SpelledQuestions.{ends_in_hole_same, key_text_same, method_words_same, export_named_same, attribute_key_same}
use Rattle.jsgen_private_laws.proofs.Settled.{Scope}
use Rattle.jsgen_private_laws.proofs.Settles.{Settles, is_still, plain, both, before, behind, becomes, counts, brackets_settle, wrapped_settles, at_start_settles, parentheses_settle, left_out_settles, where_same_settles, held_settles}
use Rattle.jsgen_private_laws.proofs.SettledHelpers.{plain_if, filled_settles, block_settles, comma_if_still}

-- ---- keys: a string isn't printed by its own row, and counts no class

key_text_settles : {s : Scope} {n : ℕ} {i j : Items} (key : Tree) → Settles s n i j (after key n) → Settles s n (key_text key i) (key_text key j) (after key n)
key_text_settles (tree.string_literal a) e = plain refl
key_text_settles key e = e

pub key_settles : {s : Scope} {n : ℕ} {i j : Items} (b : Bool) (key : Tree) → Settles s n i j (after key n) → Settles s n (key_items b key i) (key_items b (resolved s.tables s.classes n key) j) (after key n)
key_settles {s} {n} {i} {j} true key e = becomes (brackets_settle Square (key_text_settles key e)) (ap (brackets Square) (sym (key_text_same s.tables s.classes n key j)))
key_settles {s} {n} {i} {j} false key e = becomes (key_text_settles key e) (sym (key_text_same s.tables s.classes n key j))

pub attribute_key_settles : {s : Scope} {n : ℕ} {i j : Items} (key : Tree) → Settles s n i j (after key n) → Settles s n (attribute_key key i) (attribute_key (resolved s.tables s.classes n key) j) (after key n)
attribute_key_settles {s} {n} {i} {j} key e = becomes (by key e) (sym (attribute_key_same s.tables s.classes n key j))
  where
    by : (t : Tree) → Settles s n i j (after t n) → Settles s n (attribute_key t i) (attribute_key t j) (after t n)
    by (tree.identifier_name a) f = plain refl
    by t f = f

-- ---- what is left out where a name says it

items_unless_settle : {s : Scope} {n m : ℕ} {i j : Items} (b : Bool) → m ≡ n → Settles s n i j m → Settles s n (items_unless b i) (items_unless b j) m
items_unless_settle true h e = counts (plain refl) (sym h)
items_unless_settle false h e = e

unless_said_settles : {s : Scope} {n m : ℕ} {i j : Items} (w : List ℕ) (value : Option Named) → m ≡ n → Settles s n i j m → Settles s n (unless_said w value i) (unless_said w value j) m
unless_said_settles w None h e = e
unless_said_settles w (Some v) h e = where_same_settles v _ (counts (plain refl) (sym h)) e

unless_short_settles : {s : Scope} {n m : ℕ} {i j : Items} (shorthand : Bool) (w : List ℕ) (value : Option Named) → m ≡ n → Settles s n i j m → Settles s n (unless_short shorthand w value i) (unless_short shorthand w value j) m
unless_short_settles {s} {n} {m} {i} {j} shorthand w value h e = by (is_proto w) (items_unless_settle shorthand h e) (unless_said_settles w value h e)
  where
    by : (b : Bool) → Settles s n (items_unless shorthand i) (items_unless shorthand j) m → Settles s n (unless_said w value i) (unless_said w value j) m → Settles s n (if b then items_unless shorthand i else unless_said w value i) (if b then items_unless shorthand j else unless_said w value j) m
    by true f g = f
    by false f g = g

-- a key that may be left out is a name, which counts no class
pub before_value_settles : {s : Scope} {n m : ℕ} {i j : Items} (shorthand : Bool) (o : Option (List ℕ)) (value : Option Named) → ((w : List ℕ) → o ≡ Some w → m ≡ n) → Settles s n i j m → Settles s n (before_value shorthand o value i) (before_value shorthand o value j) m
before_value_settles shorthand None value h e = behind e refl
before_value_settles shorthand (Some w) value h e = unless_short_settles shorthand w value (h w refl) (behind e refl)

pub before_bound_settles : {s : Scope} {n m : ℕ} {i j : Items} (o : Option (List ℕ)) (value : Option Named) → ((w : List ℕ) → o ≡ Some w → m ≡ n) → Settles s n i j m → Settles s n (before_bound o value i) (before_bound o value j) m
before_bound_settles None value h e = behind e refl
before_bound_settles (Some w) value h e = unless_said_settles w value (h w refl) (behind e refl)

pub before_target_settles : {s : Scope} {n m : ℕ} {i j : Items} (o : Option (List ℕ)) (value : Option Named) → ((w : List ℕ) → o ≡ Some w → m ≡ n) → Settles s n i j m → Settles s n (before_target o value i) (before_target o value j) m
before_target_settles None value h e = e
before_target_settles (Some w) None h e = e
before_target_settles (Some w) (Some k) h e = where_same_settles k _ (counts (left_out_settles (counts e (h w refl))) (sym (h w refl))) e

pub own_or_renamed_settles : {s : Scope} {n m : ℕ} {i j : Items} (o : Option Named) → ((k : Named) → o ≡ Some k → m ≡ n) → Settles s n i j m → Settles s n (own_or_renamed o i) (own_or_renamed o j) m
own_or_renamed_settles None h e = e
own_or_renamed_settles (Some k) h e = where_same_settles k _ e (counts (plain refl) (sym (h k refl)))

pub written_name_after : (n : ℕ) (t : Tree) (w : List ℕ) → written_name_in t ≡ Some w → after t n ≡ n
written_name_after n (tree.identifier_name a) w e = refl
written_name_after n t w e = absurd (both_ways false refl (ap is_some e))

pub looked_up_after : (n : ℕ) (t : Tree) (k : Named) → looked_up_in t ≡ Some k → after t n ≡ n
looked_up_after n (tree.identifier_reference a) k e = refl
looked_up_after n t k e = absurd (both_ways false refl (ap is_some e))

-- ---- patterns and targets

pub pattern_settles : {s : Scope} {n : ℕ} {i j : Items} (ts : Trees) (rest : Maybe) → Settles s n i j (after_maybe rest (after_trees ts n)) → Settles s n (pattern_braces ts rest i) (pattern_braces (resolved_trees s.tables s.classes n ts) (resolved_maybe s.tables s.classes (after_trees ts n) rest) j) (after_maybe rest (after_trees ts n))
pattern_settles no_trees absent e = plain refl
pattern_settles no_trees (given t) e = brackets_settle Brace (before refl (behind e refl))
pattern_settles (more t ts) rest e = brackets_settle Brace (before refl (behind e refl))
pattern_settles (hole ts) rest e = brackets_settle Brace (before refl (behind e refl))

comma_if_any_still : (ts : Trees) → is_still (comma_if_any ts) ≡ true
comma_if_any_still no_trees = refl
comma_if_any_still (more t ts) = refl
comma_if_any_still (hole ts) = refl

comma_if_any_same : (s : Scope) (n : ℕ) (ts : Trees) → comma_if_any (resolved_trees s.tables s.classes n ts) ≡ comma_if_any ts
comma_if_any_same s n no_trees = refl
comma_if_any_same s n (more t ts) = refl
comma_if_any_same s n (hole ts) = refl

pub behind_elements_settle : {s : Scope} {n : ℕ} {i j : Items} (first : ℕ) (ts : Trees) (rest : Maybe) → Settles s n i j (after_maybe rest n) → Settles s n (behind_elements ts rest i) (behind_elements (resolved_trees s.tables s.classes first ts) (resolved_maybe s.tables s.classes n rest) j) (after_maybe rest n)
behind_elements_settle {s} first ts absent e = becomes (plain (comma_if_still (ends_in_hole ts))) (ap comma_if (sym (ends_in_hole_same s.tables s.classes first ts)))
behind_elements_settle {s} {n} {i} {j} first ts (given rest) e = becomes (both (plain (comma_if_any_still ts)) e) (ap (λ x. x ⊕ j) (sym (comma_if_any_same s first ts)))

comma_between_still : (ts : Trees) (rest : Maybe) → is_still (comma_between ts rest) ≡ true
comma_between_still no_trees rest = refl
comma_between_still (more t ts) absent = refl
comma_between_still (more t ts) (given r) = refl
comma_between_still (hole ts) absent = refl
comma_between_still (hole ts) (given r) = refl

comma_between_same : (s : Scope) (first n : ℕ) (ts : Trees) (rest : Maybe) → comma_between (resolved_trees s.tables s.classes first ts) (resolved_maybe s.tables s.classes n rest) ≡ comma_between ts rest
comma_between_same s first n no_trees rest = refl
comma_between_same s first n (more t ts) absent = refl
comma_between_same s first n (more t ts) (given r) = refl
comma_between_same s first n (hole ts) absent = refl
comma_between_same s first n (hole ts) (given r) = refl

pub comma_between_settles : {s : Scope} {n : ℕ} (first : ℕ) (ts : Trees) (rest : Maybe) → Settles s n (comma_between ts rest) (comma_between (resolved_trees s.tables s.classes first ts) (resolved_maybe s.tables s.classes n rest)) n
comma_between_settles {s} {n} first ts rest = becomes (plain (comma_between_still ts rest)) (sym (comma_between_same s first n ts rest))

pub assignment_settles : {s : Scope} {n m : ℕ} {i j : Items} (type : NodeType) (test : Bool) → Settles s n i j m → Settles s n (assignment_items type test i) (assignment_items type test j) m
assignment_settles types.ObjectAssignmentTarget test e = at_start_settles test a_brace e
assignment_settles type test e = wrapped_settles test e

-- ---- properties

pub accessor_still : (kind : PropertyKind) → is_still (accessor_word kind) ≡ true
accessor_still property_kinds.Init = refl
accessor_still kind = refl

pub property_settles : {s : Scope} {n m : ℕ} {i j k l : Items} (b : Bool) → (b ≡ true → Settles s n i j m) → (b ≡ false → Settles s n k l m) → Settles s n (method_or_property b i k) (method_or_property b j l) m
property_settles true e f = e refl
property_settles false e f = f refl

-- ---- numbers

signed_still : (dot negative : Bool) (text : List ℕ) (place : Place) → is_still (signed dot negative text place) ≡ true
signed_still dot true text place = refl
signed_still dot false text place = refl

pub number_still : (kind : NumericKind) (a : Atoms) (place : Place) → is_still (number_items kind a place) ≡ true
number_still Whole a place = signed_still true (numeric_literal_negative a) (decimal (numeric_literal_digits a)) place
number_still Raw a place = signed_still (not (takes_no_dot (numeric_literal_text a))) (numeric_literal_negative a) (numeric_literal_text a) place

pub big_integer_settles : {s : Scope} {n : ℕ} (own : Span) (value : List ℕ) (digits : Option (List ℕ)) (place : Place) → Settles s n (big_integer_items own value digits place) (big_integer_items own value digits place) n
big_integer_settles own value (Some digits) place = both (plain_if (wraps Prefix place) _ refl) (plain refl)
big_integer_settles own value None place = plain refl

-- ---- functions

pub parameter_settles : {s : Scope} {n m : ℕ} {i j : Items} (b : Bool) → Settles s n i j m → Settles s n (parameter_items b i) (parameter_items b j) m
parameter_settles true e = parentheses_settle e
parameter_settles false e = brackets_settle Round e

pub function_settles : {s : Scope} {n m : ℕ} {i j : Items} (kind : FunctionKind) (f : FunctionStand) → Settles s n i j m → Settles s n (function_items kind f i) (function_items kind f j) m
function_settles function_kinds.Declaration f e = both (plain_if f.place.in_list _ refl) (block_settles f.place.in_list e)
function_settles function_kinds.Expression f e = before refl (at_start_settles f.pife a_declaration (before refl e))

pub function_words_settle : {s : Scope} {n : ℕ} (own : Span) (is_async generator : Bool) → Settles s n (function_words own is_async generator) (function_words own is_async generator) n
function_words_settle own is_async generator = both (plain_if is_async _ refl) (before refl (plain_if generator _ refl))

pub method_words_settle : {s : Scope} {n : ℕ} (k : ℕ) (t : Tree) → Settles s n (method_words t) (method_words (resolved s.tables s.classes k t)) n
method_words_settle {s} {n} k t = becomes (by t) (sym (method_words_same s.tables s.classes k t))
  where
    by : (u : Tree) → Settles s n (method_words u) (method_words u) n
    by (tree.function a id params body) = both (plain_if (function_is_async a) _ refl) (plain_if (function_generator a) _ refl)
    by u = plain refl

pub body_braces_settle : {s : Scope} {n : ℕ} {i j : Items} (own : Span) (ds ts : Trees) → Settles s n i j (after_trees ts (after_trees ds n)) → Settles s n (body_braces own ds ts i) (body_braces own (resolved_trees s.tables s.classes n ds) (resolved_trees s.tables s.classes (after_trees ds n) ts) j) (after_trees ts (after_trees ds n))
body_braces_settle own no_trees no_trees e = plain refl
body_braces_settle own no_trees (more t ts) e = filled_settles own (held_settles own.end (behind e refl))
body_braces_settle own no_trees (hole ts) e = filled_settles own (held_settles own.end (behind e refl))
body_braces_settle own (more d ds) ts e = filled_settles own (held_settles own.end (behind e refl))
body_braces_settle own (hole ds) ts e = filled_settles own (held_settles own.end (behind e refl))

pub body_begins_still : (type : NodeType) → is_still (body_begins type) ≡ true
body_begins_still types.FunctionBody = refl
body_begins_still type = refl

-- ---- classes

pub class_settles : {s : Scope} {n m : ℕ} {i j : Items} (kind : ClassKind) (place : Place) (start : ℕ) → Settles s n i j m → Settles s n (class_items kind place start i) (class_items kind place start j) m
class_settles class_kinds.Declaration place start e = both (plain_if place.in_list _ refl) (block_settles place.in_list e)
class_settles class_kinds.Expression place start e = at_start_settles false a_declaration e

pub element_end_still : (type : NodeType) → is_still (element_end type) ≡ true
element_end_still types.PropertyDefinition = refl
element_end_still type = refl

pub element_settles : {s : Scope} {n m : ℕ} {i j : Items} (in_list : Bool) (start : ℕ) (end : Items) → is_still end ≡ true → Settles s n i j m → Settles s n (element_items in_list start i end) (element_items in_list start j end) m
element_settles in_list start end h e = both (plain_if in_list _ refl) (both e (plain_if in_list end h))

pub method_kind_still : (kind : MethodDefinitionKind) → is_still (method_kind_word kind) ≡ true
method_kind_still method_kinds.Get = refl
method_kind_still kind = refl

-- ---- imports and exports

unless_named_settles : {s : Scope} {n m : ℕ} {i j : Items} (o p : Option Named) → m ≡ n → Settles s n i j m → Settles s n (unless_named o p i) (unless_named o p j) m
unless_named_settles None p h e = e
unless_named_settles (Some k) None h e = e
unless_named_settles (Some k) (Some l) h e = where_same_settles k l (counts (plain refl) (sym h)) e

unless_same_of_settles : {s : Scope} {n m : ℕ} {i j : Items} (t u : Tree) → m ≡ n → Settles s n i j m → Settles s n (unless_same t u i) (unless_same t u j) m
unless_same_of_settles (tree.string_literal a) (tree.string_literal b) h e = items_unless_settle _ h e
unless_same_of_settles t u h e = unless_named_settles (export_named t) (export_named u) h e

unless_same_same : (s : Scope) (k l : ℕ) (t u : Tree) (i : Items) → unless_same (resolved s.tables s.classes k t) (resolved s.tables s.classes l u) i ≡ unless_same t u i
unless_same_same s k l (tree.string_literal a) (tree.string_literal b) i = refl
unless_same_same s k l (tree.string_literal a) (tree.private_identifier b) i = refl
unless_same_same s k l (tree.string_literal a) (tree.class_body b ts) i = refl
unless_same_same s k l (tree.private_identifier a) u i = refl
unless_same_same s k l (tree.class_body a ts) u i = refl
unless_same_same s k l t u i = λ x. unless_named (export_named_same s.tables s.classes k t x) (export_named_same s.tables s.classes l u x) i

pub unless_same_settles : {s : Scope} {n m : ℕ} {i j : Items} (k l : ℕ) (t u : Tree) → m ≡ n → Settles s n i j m → Settles s n (unless_same t u i) (unless_same (resolved s.tables s.classes k t) (resolved s.tables s.classes l u) j) m
unless_same_settles {s} {n} {m} {i} {j} k l t u h e = becomes (unless_same_of_settles t u h e) (sym (unless_same_same s k l t u j))

-- what comes first or behind an import: the items of all where there may be more, and of the first alone
pub others_settle : {s : Scope} {n m : ℕ} {i j k l : Items} (type : NodeType) → (type ≡ types.ImportNamespaceSpecifier → Settles s n i j m) → Settles s n k l m → Settles s n (others_items type i k) (others_items type j l) m
others_settle types.ImportNamespaceSpecifier e f = behind (e refl) refl
others_settle type e f = behind (brackets_settle Brace (before refl (behind f refl))) refl

pub clause_settles : {s : Scope} {n m o : ℕ} {i j k l p q : Items} (type : NodeType) → Settles s n i j m → Settles s m k l o → Settles s n p q o → Settles s n (clause_items type i k p) (clause_items type j l q) o
clause_settles types.ImportDefaultSpecifier e f g = before refl (both e f)
clause_settles type e f g = before refl g

pub spaced_braces_settle : {s : Scope} {n : ℕ} {i j : Items} (ts : Trees) → Settles s n i j (after_trees ts n) → Settles s n (spaced_braces ts i) (spaced_braces (resolved_trees s.tables s.classes n ts) j) (after_trees ts n)
spaced_braces_settle no_trees e = plain refl
spaced_braces_settle (more t ts) e = brackets_settle Brace (before refl (behind e refl))
spaced_braces_settle (hole ts) e = brackets_settle Brace (before refl (behind e refl))

pub space_by_still : (b : Bool) → is_still (space_by b) ≡ true
space_by_still true = refl
space_by_still false = refl

pub exported_end_still : (type : NodeType) → is_still (exported_end type) ≡ true
exported_end_still types.VariableDeclaration = refl
exported_end_still type = refl

pub default_settles : {s : Scope} {n m : ℕ} {i j k l : Items} (b : Bool) → Settles s n i j m → Settles s n k l m → Settles s n (default_items b i k) (default_items b j l) m
default_settles true e f = behind e refl
default_settles false e f = before refl (behind f refl)

-- an import by its name: the name that is imported counts no class
pub import_settles : {s : Scope} {n m : ℕ} {i j k l : Items} (t local : Tree) → after t n ≡ n → m ≡ n → Settles s n i j n → Settles s n k l m → Settles s n (import_items t local i k) (import_items (resolved s.tables s.classes n t) (resolved s.tables s.classes (after t n) local) j l) m
import_settles {s} {n} {m} {i} {j} {k} {l} t local h g e f = becomes (by t) (sym (same t))
  where
    by : (u : Tree) → Settles s n (import_items u local i k) (import_items u local j l) m
    by (tree.string_literal a) = both (unless_same_of_settles (tree.string_literal a) local refl (behind e refl)) f
    by u = both e (unless_same_of_settles u local g (before refl (before refl (before refl f))))

    same : (u : Tree) → import_items (resolved s.tables s.classes n u) (resolved s.tables s.classes (after t n) local) j l ≡ import_items u local j l
    same (tree.string_literal a) = λ x. unless_same_same s n (after t n) (tree.string_literal a) local (j ⊕ (soft_space ⊕ (word (codes "as") ⊕ soft_space))) x ⊕ l
    same (tree.private_identifier a) = λ x. j ⊕ unless_same_same s n (after t n) (tree.private_identifier a) local (as_name l) x
    same (tree.class_body a ts) = λ x. j ⊕ unless_same_same s n (after t n) (tree.class_body a ts) local (as_name l) x
    same u = λ x. j ⊕ unless_same_same s n (after t n) u local (as_name l) x
