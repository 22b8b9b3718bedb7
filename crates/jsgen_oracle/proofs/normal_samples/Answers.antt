use Rattle.std.proofs.Common.{◌≡◌, Bool, true, false, ◌&&◌, List, [], ◌∷◌, refl, sym, ap, ◌∙◌}
use Rattle.std.specs.Prelude.{not}
use Rattle.std.specs.Fmt.{digits}
use Rattle.std.specs.Str.{bytes_eq}
use Rattle.std.proofs.lemmas.Bool.{both_ways}
use Rattle.jsgen_syntax.specs.Strings.{string_value}
use Rattle.jsgen_syntax.specs.Operator.{binary_text, logical_text, unary_text, update_text, assignment_text}
use Rattle.jsgen_tree.specs.declared.collections.PropertyKind.{PropertyKind}
use Rattle.jsgen_tree.specs.declared.collections.PropertyKind.TheVariants.{Init, Get, Set}
use Rattle.jsgen_tree.specs.declared.functions.FunctionKind.{FunctionKind}
use Rattle.jsgen_tree.specs.declared.functions.FunctionKind.TheVariants.{Declaration, Expression}
use Rattle.jsgen_tree.specs.Atom.{Atom, no_value, text, units, flag, numeric_kind, declaration_kind, binary_operator, logical_operator, property_kind, unary_operator, update_operator, assignment_operator, kind_of_function, kind_of_import}
use Rattle.jsgen_tree.specs.Tree.{Tree, node, Slots, no_slots, one, maybe, many, Maybe, absent, given, Trees, no_trees, more, hole}
use Rattle.jsgen_model.specs.Grammar.{declaring}
use Rattle.jsgen_oracle.proofs.normal_samples.Goals as goal

-- ---- a test that tells values and shapes apart, and types of nodes by what they hold alone

abbrev is_as : Bool → Bool → Bool
is_as true b = b
is_as false b = not b

abbrev same_property : PropertyKind → PropertyKind → Bool
same_property Init Init = true
same_property Get Get = true
same_property Set Set = true
same_property k l = false

abbrev same_function : FunctionKind → FunctionKind → Bool
same_function Declaration Declaration = true
same_function Expression Expression = true
same_function k l = false

abbrev same_value : Atom → Atom → Bool
same_value (text s) (text t) = bytes_eq s t
same_value (units s) (units t) = bytes_eq s t
same_value (flag b) (flag d) = is_as b d
same_value (numeric_kind k) (numeric_kind l) = true
same_value (declaration_kind k) (declaration_kind l) = bytes_eq (declaring k) (declaring l)
same_value (binary_operator o) (binary_operator p) = bytes_eq (binary_text o) (binary_text p)
same_value (logical_operator o) (logical_operator p) = bytes_eq (logical_text o) (logical_text p)
same_value (unary_operator o) (unary_operator p) = bytes_eq (unary_text o) (unary_text p)
same_value (update_operator o) (update_operator p) = bytes_eq (update_text o) (update_text p)
same_value (assignment_operator o) (assignment_operator p) = bytes_eq (assignment_text o) (assignment_text p)
same_value (property_kind k) (property_kind l) = same_property k l
same_value (kind_of_function k) (kind_of_function l) = same_function k l
same_value (kind_of_import k) (kind_of_import l) = true
same_value no_value v = true
same_value v w = false

abbrev same_values : List Atom → List Atom → Bool
same_values [] [] = true
same_values (v ∷ vs) (w ∷ ws) = same_value v w && same_values vs ws
same_values vs ws = false

abbrev mutual
  same : Tree → Tree → Bool
  same (node type a slots) (node other b others) = same_values a.values b.values && same_slots slots others

  same_slots : Slots → Slots → Bool
  same_slots no_slots no_slots = true
  same_slots (one t s) (one u r) = same t u && same_slots s r
  same_slots (maybe m s) (maybe n r) = same_maybe m n && same_slots s r
  same_slots (many ts s) (many us r) = same_trees ts us && same_slots s r
  same_slots s r = false

  same_maybe : Maybe → Maybe → Bool
  same_maybe absent absent = true
  same_maybe (given t) (given u) = same t u
  same_maybe m n = false

  same_trees : Trees → Trees → Bool
  same_trees no_trees no_trees = true
  same_trees (more t ts) (more u us) = same t u && same_trees ts us
  same_trees (hole ts) (hole us) = same_trees ts us
  same_trees ts us = false

-- two trees of which the test tells one from the other, but not from itself
apart : (t u : Tree) → same t t ≡ true → same t u ≡ false → t ≡ u → ⊥
apart t u h n e = both_ways (same t u) (n) (sym (ap (same t) e) ∙ h)

pub returns : goal.returns
unfolding digits string_value
returns c = record {
  parentheses = refl;
  as_grouped = refl;
  grouped_otherwise = apart _ _ refl refl;
  span = refl;
  number_of_a_reference = refl;
  number_of_a_binding = refl;
  source_of_a_program = refl;
  pure_call = refl;
  pure_construction = refl;
  marks_of_an_arrow = refl;
  marks_of_a_function = refl;
  other_name = apart _ _ refl refl;
  name_or_number = apart _ _ refl refl;
  name_or_string = apart _ _ refl refl;
  other_string = apart _ _ refl refl;
  true_or_false = apart _ _ refl refl;
  null_or_this = λ e. absurd (cc);
  number_by_text = refl;
  other_text = apart _ _ refl refl;
  negative_number = refl;
  minus_before_negative = refl;
  negative_or_positive = apart _ _ refl refl;
  negative_big_integer = refl;
  big_or_not = apart _ _ refl refl;
  other_operator = apart _ _ refl refl;
  order_of_operands = apart _ _ refl refl;
  minus_of_a_power = apart _ _ refl refl;
  other_prefix = apart _ _ refl refl;
  before_or_behind = apart _ _ refl refl;
  up_or_down = apart _ _ refl refl;
  update_or_signs = apart _ _ refl refl;
  chain = refl;
  chain_of_four = refl;
  coalesced_chain = refl;
  sum_in_a_chain = refl;
  order_in_a_chain = apart _ _ refl refl;
  length_of_a_chain = apart _ _ refl refl;
  other_logical_operator = apart _ _ refl refl;
  two_logical_operators = apart _ _ refl refl;
  parts_of_a_sequence = refl;
  four_parts = refl;
  order_of_parts = apart _ _ refl refl;
  sequence_or_arguments = apart _ _ refl refl;
  order_of_choices = apart _ _ refl refl;
  choice_as_test = apart _ _ refl refl;
  order_of_assignment = apart _ _ refl refl;
  assignment_with_operator = apart _ _ refl refl;
  other_member = apart _ _ refl refl;
  element_or_member = apart _ _ refl refl;
  optional_link = apart _ _ refl refl;
  end_of_a_chain = apart _ _ refl refl;
  order_of_arguments = apart _ _ refl refl;
  construction_or_call = apart _ _ refl refl;
  constructed_call = apart _ _ refl refl;
  super_or_this = λ e. absurd (cc);
  spread_or_argument = apart _ _ refl refl;
  hole_or_none = apart _ _ refl refl;
  name_alone = refl;
  proto_alone = apart _ _ refl refl;
  method_called_proto = refl;
  computed_or_not = apart _ _ refl refl;
  key_or_string = apart _ _ refl refl;
  negative_key = refl;
  positive_key = apart _ _ refl refl;
  order_of_properties = apart _ _ refl refl;
  method_or_value = apart _ _ refl refl;
  accessor_as_method = refl;
  accessor_or_method = apart _ _ refl refl;
  getter_or_setter = apart _ _ refl refl;
  order_of_statements = apart _ _ refl refl;
  semicolon_or_nothing = apart _ _ refl refl;
  directive_by_value = refl;
  other_directive = apart _ _ refl refl;
  directive_or_statement = apart _ _ refl refl;
  value_or_none = apart _ _ refl refl;
  one_declaration_or_two = apart _ _ refl refl;
  const_or_let = apart _ _ refl refl;
  let_or_var = apart _ _ refl refl;
  block_or_statement = apart _ _ refl refl;
  alternate_or_none = apart _ _ refl refl;
  braces_before_else = refl;
  braces_round_if = refl;
  braces_round_last_if = refl;
  braces_round_for = refl;
  braces_round_for_in = refl;
  braces_round_for_of = refl;
  braces_round_while = refl;
  braces_round_label = refl;
  braces_within_braces = refl;
  braces_round_statement = apart _ _ refl refl;
  braces_round_whole_if = apart _ _ refl refl;
  braces_round_do = apart _ _ refl refl;
  braces_round_block = apart _ _ refl refl;
  braces_round_try = apart _ _ refl refl;
  two_braces = apart _ _ refl refl;
  two_in_braces = apart _ _ refl refl;
  braces_of_an_alternate = apart _ _ refl refl;
  braces_of_a_loop = apart _ _ refl refl;
  test_or_update = apart _ _ refl refl;
  for_or_while = apart _ _ refl refl;
  while_or_do = apart _ _ refl refl;
  keys_or_values = apart _ _ refl refl;
  assigned_or_declared = apart _ _ refl refl;
  awaited_or_not = apart _ _ refl refl;
  other_label = apart _ _ refl refl;
  jump_to_label = apart _ _ refl refl;
  break_or_continue = λ e. absurd (cc);
  thrown_or_not = λ e. absurd (cc);
  debugger_or_empty = λ e. absurd (cc);
  case_or_default = apart _ _ refl refl;
  statements_of_a_case = apart _ _ refl refl;
  handler_or_finalizer = apart _ _ refl refl;
  caught_or_not = apart _ _ refl refl;
  parameter_without_value = apart _ _ refl refl;
  parameter_or_rest = apart _ _ refl refl;
  body_or_object = apart _ _ refl refl;
  returned_or_body = apart _ _ refl refl;
  called_or_calling = apart _ _ refl refl;
  declaration_or_expression = apart _ _ refl refl;
  function_with_name = apart _ _ refl refl;
  function_or_arrow = apart _ _ refl refl;
  generator_or_not = apart _ _ refl refl;
  result_or_none = apart _ _ refl refl;
  return_or_nothing = apart _ _ refl refl;
  directive_in_body = apart _ _ refl refl;
  template_of_one_piece = refl;
  piece_by_value = refl;
  other_piece = apart _ _ refl refl;
  raw_text_behind_a_tag = apart _ _ refl refl;
  tagged_or_called = apart _ _ refl refl;
  name_of_an_import = refl;
  name_of_an_export = refl;
  other_name_of_an_export = apart _ _ refl refl;
  exported_by_text = refl;
  exported_or_passed_on = λ e. absurd (cc);
}
