-- The rows of expressions: what each is spelled by is settled where what is in it is.
use Rattle.std.proofs.Common.{◌≡◌, ℕ, ◌∷◌, Bool, true, false, ◌||◌, refl, sym, ap}
use Rattle.std.specs.Prelude.{⊤}
use Rattle.std.proofs.lemmas.Bool.{both_ways}
use Rattle.jsgen_syntax.specs.Operator.{logical_level, logical_lower_level}
use Rattle.jsgen_syntax.specs.declared.precedence.Precedence.{Precedence}
use Rattle.jsgen_syntax.specs.declared.precedence.Precedence.TheVariants.{Comma, Assign, Postfix}
use Rattle.jsgen_syntax.specs.declared.operator.BinaryOperator.{BinaryOperator}
use Rattle.jsgen_syntax.specs.declared.operator.LogicalOperator.{LogicalOperator}
use Rattle.jsgen_tree.specs.Tree.{Tree, Atoms, Maybe, Trees, no_trees, more, hole, type_of, span_of}
use Rattle.jsgen_tree.specs.Nodes as tree
use Rattle.jsgen_tree.specs.Values.{binary_expression_operator, logical_expression_operator, static_member_expression_optional, computed_member_expression_optional, call_expression_optional, private_field_expression_optional, numeric_literal_kind, big_int_literal_value, update_expression_prefix, update_expression_operator, unary_expression_operator, yield_expression_delegate, assignment_expression_operator}
use Rattle.jsgen_tree.specs.Inside.{behind_minus}
use Rattle.jsgen_place.specs.declared.place.Place.{Place}
use Rattle.jsgen_place.specs.Place.{child, left_operand, in_brackets, quoted_plainly, is_at_link, wraps, within, binary_wraps, logical_wraps}
use Rattle.jsgen_model.specs.Punctuator.{Round, Square, Brace}
use Rattle.jsgen_model.specs.Items.{Items, ◌⊕◌, mark, soft_space, link_mark, in_lines, of_import, line_break, import_source, before_it, annotation_before_it}
use Rattle.jsgen_model.specs.Operators.{unary_sign, assignment_item}
use Rattle.jsgen_model.specs.Quotes.{is_require_call, is_definition_call, is_key_of_exports}
use Rattle.jsgen_model.specs.Resolved.{resolved, resolved_maybe, resolved_trees, after, after_trees}
use Rattle.jsgen_model.specs.Spellings.{right_level, span_if, any_given, argument_items, new_arguments, are_more, ends_in_hole, on_lines, comma_if, object_inside, assignment_items, starts_if, is_one, first_piece, other_pieces, opening_part, further_part}
use Rattle.jsgen_model.specs.Items.{TemplatePart}
use Rattle.jsgen_model.specs.Spell.{spell, spell_arguments, spell_elements, spell_properties, spell_behind_comma, spell_substitutions}
use Rattle.jsgen_private_laws.proofs.Same.{type_same, span_same}
use Rattle.jsgen_private_laws.proofs.SpelledQuestions.{is_export_mark_same, left_level_same, unmixed_same, is_require_call_same, is_definition_call_same, are_more_same, ends_in_hole_same, any_given_same, is_key_of_exports_same, starts_if_same}
use Rattle.jsgen_private_laws.proofs.Settled.{Scope}
use Rattle.jsgen_private_laws.proofs.Settles.{Settles, is_still, plain, both, before, behind, becomes, counts, wrapped_settles, brackets_settle, annotated_settles, commented_settles, in_lines_settle}
use Rattle.jsgen_private_laws.proofs.SettledHelpers.{plain_if, operator_still, logical_still, unary_still, behind_unary_still, update_item_still, assignment_item_still, marked_still, operation_settles, update_settles, name_link_still, bracket_link_still, linked_settles, arguments_settle, new_arguments_settle, before_expression_settles, on_lines_settle, comma_if_still, object_settles}
use Rattle.jsgen_private_laws.proofs.SettledParts.{assignment_settles, number_still, big_integer_settles}
use Rattle.jsgen_private_laws.proofs.Ties.{Tie, TieIfGiven, TieEach, by_span, apart_settles, behind_comma_settles, list_settles, all_arguments_settle, elements_settle, properties_settle}

-- ---- names and literals

pub private_tie : (a : Atoms) → Tie (tree.private_identifier a)
private_tie a s n place = record { is = refl; next = refl }

pub binding_tie : (a : Atoms) → Tie (tree.binding_identifier a)
binding_tie a s n place = plain refl

pub reference_tie : (a : Atoms) → Tie (tree.identifier_reference a)
reference_tie a s n place = plain refl

pub name_tie : (a : Atoms) → Tie (tree.identifier_name a)
name_tie a s n place = plain refl

pub boolean_tie : (a : Atoms) → Tie (tree.boolean_literal a)
boolean_tie a s n place = plain refl

pub number_tie : (a : Atoms) → Tie (tree.numeric_literal a)
number_tie a s n place = before refl (plain (number_still (numeric_literal_kind a) a place))

pub big_integer_tie : (a : Atoms) → Tie (tree.big_int_literal a)
big_integer_tie a s n place = big_integer_settles a.span (big_int_literal_value a) (behind_minus (big_int_literal_value a)) place

pub string_tie : (a : Atoms) → Tie (tree.string_literal a)
string_tie a s n place = plain refl

pub regular_expression_tie : (a : Atoms) → Tie (tree.reg_exp_literal a)
regular_expression_tie a s n place = plain refl

pub this_tie : (a : Atoms) → Tie (tree.this_expression a)
this_tie a s n place = plain refl

pub null_tie : (a : Atoms) → Tie (tree.null_literal a)
null_tie a s n place = plain refl

pub super_tie : (a : Atoms) → Tie (tree.super a)
super_tie a s n place = plain refl

pub new_target_tie : (a : Atoms) → Tie (tree.new_target a)
new_target_tie a s n place = plain refl

pub import_meta_tie : (a : Atoms) → Tie (tree.import_meta a)
import_meta_tie a s n place = plain refl

-- ---- operations

pub parenthesized_tie : (a : Atoms) (t : Tree) → Tie t → Tie (tree.parenthesized a t)
parenthesized_tie a t e s n place = both (e s n place) (by_span n (λ span. link_mark (span_if (is_at_link place) span)) t refl)

pub binary_tie : (a : Atoms) (l r : Tree) → Tie l → Tie r → Tie (tree.binary a l r)
binary_tie a l r e f s n place =
    let o : BinaryOperator = binary_expression_operator a in
    let w : Bool = binary_wraps o place in
    let m : ℕ = after l n in
    let l1 : Tree = resolved s.tables s.classes n l in
    let r1 : Tree = resolved s.tables s.classes m r in
    let left : Bool → Precedence → Place = λ mark level. quoted_plainly mark (left_operand level (within w place)) in
    let right : Bool → Place = λ mark. quoted_plainly mark (child (right_level o) (within w place)) in
    let marks = sym (is_export_mark_same s.tables s.classes n o l) in
    let level = sym (left_level_same s.tables s.classes n o l) in
    let other = sym (is_export_mark_same s.tables s.classes m o r) in
    operation_settles w (operator_still o) (becomes (e s n _) (λ i. spell l1 (left (marks i) (level i)))) (becomes (f s m _) (λ i. spell r1 (right (other i))))

pub logical_tie : (a : Atoms) (l r : Tree) → Tie l → Tie r → Tie (tree.logical a l r)
logical_tie a l r e f s n place =
    let o : LogicalOperator = logical_expression_operator a in
    let w : Bool = logical_wraps o place in
    let m : ℕ = after l n in
    let l1 : Tree = resolved s.tables s.classes n l in
    let r1 : Tree = resolved s.tables s.classes m r in
    let left = sym (unmixed_same s.tables s.classes n o l (logical_lower_level o)) in
    let right = sym (unmixed_same s.tables s.classes m o r (logical_level o)) in
    operation_settles w (logical_still o) (becomes (e s n _) (λ i. spell l1 (left_operand (left i) (within w place)))) (both (before_expression_settles annotation_before_it r) (becomes (f s m _) (λ i. spell r1 (child (right i) (within w place)))))

pub unary_tie : (a : Atoms) (t : Tree) → Tie t → Tie (tree.unary a t)
unary_tie a t e s n place = wrapped_settles _ (before (marked_still a.span (unary_sign (unary_expression_operator a)) (unary_still (unary_expression_operator a))) (before (behind_unary_still (unary_expression_operator a)) (e s n _)))

pub update_tie : (a : Atoms) (t : Tree) → Tie t → Tie (tree.update a t)
update_tie a t e s n place = wrapped_settles _ (update_settles a.span (update_expression_prefix a) _ (update_item_still (update_expression_operator a)) (linked_settles t (e s n _)) (e s n _))

pub await_tie : (a : Atoms) (t : Tree) → Tie t → Tie (tree.await_expression a t)
await_tie a t e s n place = wrapped_settles _ (before refl (before refl (e s n _)))

pub yield_tie : (a : Atoms) (m : Maybe) → TieIfGiven m → Tie (tree.yield_expression a m)
yield_tie a m e s n place = wrapped_settles _ (before refl (both (plain_if (yield_expression_delegate a) _ refl) (apart_settles m e s n _)))

pub conditional_tie : (a : Atoms) (t c u : Tree) → Tie t → Tie c → Tie u → Tie (tree.conditional a t c u)
conditional_tie a t c u e f g s n place =
    let m : ℕ = after t n in
    let last = both (before_expression_settles before_it u) (g s (after c m) _) in
    wrapped_settles _ (both (e s n _) (before refl (before refl (before refl (both (before_expression_settles annotation_before_it c) (both (f s m _) (before refl (before refl (before refl last)))))))))

pub sequence_tie : (a : Atoms) (ts : Trees) → TieEach ts → Tie (tree.sequence a ts)
sequence_tie a ts e s n place = wrapped_settles _ (list_settles ts e s n _)

pub spread_tie : (a : Atoms) (t : Tree) → Tie t → Tie (tree.spread a t)
spread_tie a t e s n place = before refl (before refl (e s n _))

pub assignment_tie : (a : Atoms) (l r : Tree) → Tie l → Tie r → Tie (tree.assignment a l r)
assignment_tie a l r e f s n place =
    let m : ℕ = after l n in
    let w : Bool = wraps Assign place in
    let l1 : Tree = resolved s.tables s.classes n l in
    let r1 : Tree = resolved s.tables s.classes m r in
    let key = sym (is_key_of_exports_same s.tables s.classes n l) in
    let type = sym (type_same s.tables s.classes n l) in
    let o : Items = assignment_item (assignment_expression_operator a) in
    let inner = before refl (both (e s n (quoted_plainly (is_key_of_exports l) (in_brackets Comma))) (before refl (before (assignment_item_still (assignment_expression_operator a)) (before refl (f s m (child Comma place)))))) in
    becomes (assignment_settles (type_of l) w inner) (λ i. assignment_items (type i) w (mark a.span ⊕ (spell l1 (quoted_plainly (key i) (in_brackets Comma)) ⊕ (soft_space ⊕ (o ⊕ (soft_space ⊕ spell r1 (child Comma place)))))))

-- ---- links and calls

pub static_member_tie : (a : Atoms) (o p : Tree) → Tie o → Tie p → Tie (tree.static_member a o p)
static_member_tie a o p e f s n place = both (linked_settles o (e s n _)) (before (name_link_still (static_member_expression_optional a)) (f s (after o n) _))

pub computed_member_tie : (a : Atoms) (o p : Tree) → Tie o → Tie p → Tie (tree.computed_member a o p)
computed_member_tie a o p e f s n place = both (linked_settles o (e s n _)) (before (bracket_link_still (computed_member_expression_optional a)) (brackets_settle Square (f s (after o n) _)))

pub private_member_tie : (a : Atoms) (o p : Tree) → Tie o → Tie p → Tie (tree.private_member a o p)
private_member_tie a o p e f s n place = both (linked_settles o (e s n _)) (before (name_link_still (private_field_expression_optional a)) (f s (after o n) _))

pub private_in_tie : (a : Atoms) (l r : Tree) → Tie l → Tie r → Tie (tree.private_in a l r)
private_in_tie a l r e f s n place = wrapped_settles _ (before refl (both (e s n _) (before refl (before refl (before refl (f s (after l n) _))))))

pub chain_tie : (a : Atoms) (t : Tree) → Tie t → Tie (tree.chain a t)
chain_tie a t e s n place = wrapped_settles _ (e s n _)

pub call_tie : (a : Atoms) (f : Tree) (ts : Trees) → Tie f → TieEach ts → Tie (tree.call a f ts)
call_tie a f ts e es s n place =
    let m : ℕ = after f n in
    let ts1 : Trees = resolved_trees s.tables s.classes m ts in
    let first = sym (is_require_call_same s.tables s.classes n m f ts) in
    let second = sym (is_definition_call_same s.tables s.classes n m f ts) in
    let list = all_arguments_settle (is_require_call f ts) (is_definition_call f ts) ts es s m (in_brackets Comma) in
    let inner = becomes (arguments_settle (is_require_call f ts || is_definition_call f ts) ts a.span list) (λ i. argument_items (first i || second i) ts1 a.span (spell_arguments (first i) (second i) ts1 (in_brackets Comma))) in
    annotated_settles _ (both (linked_settles f (e s n _)) (before (bracket_link_still (call_expression_optional a)) (brackets_settle Round inner)))

none_given : (ts : Trees) (w : Bool) (m : ℕ) → (any_given ts || w) ≡ false → after_trees ts m ≡ m
none_given no_trees w m h = refl
none_given (more t ts) w m h = absurd (both_ways true h refl)
none_given (hole ts) w m h = absurd (both_ways true h refl)

pub new_tie : (a : Atoms) (f : Tree) (ts : Trees) → Tie f → TieEach ts → Tie (tree.new_expression a f ts)
new_tie a f ts e es s n place =
    let m : ℕ = after f n in
    let w : Bool = wraps Postfix place in
    let ts1 : Trees = resolved_trees s.tables s.classes m ts in
    let given = sym (any_given_same s.tables s.classes m ts) in
    let list = all_arguments_settle false false ts es s m (in_brackets Comma) in
    let inner = becomes (new_arguments_settle (any_given ts || w) (none_given ts w m) (arguments_settle false ts a.span list)) (λ i. new_arguments (given i || w) (argument_items false ts1 a.span (spell_arguments false false ts1 (in_brackets Comma)))) in
    annotated_settles _ (before refl (before refl (both (e s n _) inner)))

pub import_call_tie : (a : Atoms) (t : Tree) (m : Maybe) → Tie t → TieIfGiven m → Tie (tree.import_call a t m)
import_call_tie a t m e f s n place =
    let t1 : Tree = resolved s.tables s.classes n t in
    let m1 : Maybe = resolved_maybe s.tables s.classes (after t n) m in
    let at = sym (span_same s.tables s.classes n t) in
    let options = sym (starts_if_same s.tables s.classes (after t n) m) in
    let inner = both (by_span n (λ span. line_break (import_source span.start)) t refl) (both (e s n _) (behind_comma_settles m f s (after t n) _)) in
    let lines = becomes (in_lines_settle of_import ((span_of t).start ∷ starts_if m) a.span.end inner) (λ i. in_lines of_import ((at i).start ∷ options i) a.span.end (line_break (import_source (span_of t1).start) ⊕ (spell t1 (in_brackets Comma) ⊕ spell_behind_comma m1 (in_brackets Comma)))) in
    wrapped_settles _ (before refl (brackets_settle Round lines))

-- ---- arrays and objects

pub array_tie : (a : Atoms) (ts : Trees) → TieEach ts → Tie (tree.array a ts)
array_tie a ts e s n place =
    let ts1 : Trees = resolved_trees s.tables s.classes n ts in
    let lines = sym (are_more_same s.tables s.classes 2 n ts) in
    let holes = sym (ends_in_hole_same s.tables s.classes n ts) in
    let inner = on_lines_settle (are_more 2 ts) (behind (elements_settle (are_more 2 ts) ts e s n (in_brackets Comma)) (comma_if_still (ends_in_hole ts))) in
    before refl (brackets_settle Square (behind (becomes inner (λ i. on_lines (lines i) (spell_elements (lines i) ts1 (in_brackets Comma) ⊕ comma_if (holes i)))) refl))

pub object_tie : (a : Atoms) (ts : Trees) → TieEach ts → Tie (tree.object_expression a ts)
object_tie a ts e s n place =
    let ts1 : Trees = resolved_trees s.tables s.classes n ts in
    let lines = sym (are_more_same s.tables s.classes 1 n ts) in
    let holes = sym (ends_in_hole_same s.tables s.classes n ts) in
    let inner = object_settles ts (behind (properties_settle (are_more 1 ts) ts e s n (in_brackets Comma)) (comma_if_still (ends_in_hole ts))) in
    commented_settles _ (before refl (brackets_settle Brace (behind (becomes inner (λ i. object_inside ts1 (spell_properties (lines i) ts1 (in_brackets Comma) ⊕ comma_if (holes i)))) refl)))

-- ---- templates, whose pieces hold text alone

abbrev pub ArePieces : Trees → Type 0
ArePieces no_trees = ⊤
ArePieces (more (tree.template_element a) ts) = ArePieces ts
ArePieces (more t ts) = ⊥
ArePieces (hole ts) = ⊥

pieces_same : (s : Scope) (n : ℕ) (ts : Trees) → ArePieces ts → resolved_trees s.tables s.classes n ts ≡ ts
pieces_same s n no_trees h = refl
pieces_same s n (more (tree.template_element a) ts) h = ap (λ us. more (tree.template_element a) us) (pieces_same s n ts h)
pieces_same s n (more t ts) h = absurd h
pieces_same s n (hole ts) h = absurd h

pieces_after : (n : ℕ) (ts : Trees) → ArePieces ts → after_trees ts n ≡ n
pieces_after n no_trees h = refl
pieces_after n (more (tree.template_element a) ts) h = pieces_after n ts h
pieces_after n (more t ts) h = absurd h
pieces_after n (hole ts) h = absurd h

first_piece_still : (tagged : Bool) (part : Trees → TemplatePart) (ts : Trees) → is_still (first_piece tagged part ts) ≡ true
first_piece_still tagged part no_trees = refl
first_piece_still tagged part (more t ts) = refl
first_piece_still tagged part (hole ts) = refl

substitutions_settle : (tagged : Bool) (ts pieces : Trees) → TieEach ts → (s : Scope) (n : ℕ) → Settles s n (spell_substitutions tagged ts pieces) (spell_substitutions tagged (resolved_trees s.tables s.classes n ts) pieces) (after_trees ts n)
substitutions_settle tagged no_trees pieces e s n = plain refl
substitutions_settle tagged (more t ts) pieces e s n = both (before_expression_settles before_it t) (both (e.0 s n _) (before (first_piece_still tagged further_part pieces) (substitutions_settle tagged ts (other_pieces pieces) e.1 s (after t n))))
substitutions_settle tagged (hole ts) pieces e s n = substitutions_settle tagged ts pieces e s n

pub template_tie : (a : Atoms) (qs ts : Trees) → ArePieces qs → TieEach ts → Tie (tree.template_literal a qs ts)
template_tie a qs ts h e s n place =
    let pieces = pieces_same s n qs h in
    let count = pieces_after n qs h in
    let tagged : Bool = place.context.is_tagged in
    let whole : Settles s n (spell (tree.template_literal a qs ts) place) (spell (tree.template_literal a qs (resolved_trees s.tables s.classes n ts)) place) (after_trees ts n) = both (plain_if (is_one qs) _ refl) (before refl (before (first_piece_still tagged opening_part qs) (substitutions_settle tagged ts (other_pieces qs) e s n))) in
    counts (becomes whole (sym (λ i. spell (tree.template_literal a (pieces i) (resolved_trees s.tables s.classes (count i) ts)) place))) (ap (after_trees ts) (sym count))

pub tagged_template_tie : (a : Atoms) (t q : Tree) → Tie t → Tie q → Tie (tree.tagged_template a t q)
tagged_template_tie a t q e f s n place = before refl (both (linked_settles t (e s n _)) (f s (after t n) _))
