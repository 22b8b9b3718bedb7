-- Generated from tools/nodes/table.txt; edit that and run tools/nodes/generate.
-- Each by its place in the table.
use Rattle.std.proofs.Common.{refl}
use Rattle.jsgen_tree.proofs.laws.fields_are_named.Goals as goal

pub returns : goal.returns
returns c = record {
  program = λ a. (refl, refl, refl, refl);
  comment = λ a. (refl, refl, refl, refl, refl, refl);
  directive = λ a. refl;
  variable_declaration = λ a. (refl, refl);
  variable_declarator = λ a. refl;
  binding_identifier = λ a. (refl, refl);
  identifier_reference = λ a. (refl, refl);
  boolean_literal = λ a. refl;
  numeric_literal = λ a. (refl, refl, refl, refl);
  big_int_literal = λ a. refl;
  string_literal = λ a. refl;
  reg_exp_literal = λ a. (refl, refl);
  binary_expression = λ a. refl;
  logical_expression = λ a. refl;
  identifier_name = λ a. refl;
  static_member_expression = λ a. refl;
  computed_member_expression = λ a. refl;
  call_expression = λ a. (refl, refl);
  object_property = λ a. (refl, refl, refl, refl);
  unary_expression = λ a. refl;
  update_expression = λ a. (refl, refl);
  new_expression = λ a. refl;
  assignment_expression = λ a. refl;
  formal_parameter = λ a. (refl, refl, refl);
  function = λ a. (refl, refl, refl, refl, refl, refl);
  arrow_function_expression = λ a. (refl, refl, refl);
  yield_expression = λ a. refl;
  template_element = λ a. (refl, refl);
  for_of_statement = λ a. refl;
  label_identifier = λ a. refl;
  binding_property = λ a. refl;
  assignment_target_property_property = λ a. refl;
  private_identifier = λ a. refl;
  private_field_expression = λ a. refl;
  class = λ a. (refl, refl, refl);
  method_definition = λ a. (refl, refl, refl, refl, refl, refl);
  property_definition = λ a. (refl, refl, refl, refl, refl, refl, refl, refl);
  hashbang = λ a. refl;
  import_declaration = λ a. refl;
  import_specifier = λ a. refl;
  with_clause = λ a. refl;
  export_named_declaration = λ a. refl;
  export_from_declaration = λ a. refl;
  export_specifier = λ a. refl;
  export_all_declaration = λ a. refl;
}
