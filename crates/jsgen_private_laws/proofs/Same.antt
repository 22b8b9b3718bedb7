-- What is asked of a tree has the same answer where its private names are written as they are printed: its type, its span, and what the questions of jsgen_tree look at.
use Rattle.std.proofs.Common.{◌≡◌, ℕ, List, Bool, true, false, cond, ◌||◌, is_some, refl, sym, ap, ◌∙◌}
use Rattle.std.specs.Option.{option_map}
use Rattle.jsgen_tree.specs.Job.{Tables}
use Rattle.jsgen_tree.specs.Tree.{Tree, Maybe, absent, given, type_of, span_of}
use Rattle.jsgen_tree.specs.Nodes as tree
use Rattle.jsgen_tree.specs.Inside.{ends_open, function_in, has_name, class_head_in, declared_kind, is_only_expression, inside_parentheses, IsInside, has_optional_link, reference_in, looked_up_in, bound_in, written_name_in, is_negative_number, is_negative_big_integer, is_negative}
use Rattle.jsgen_tree.specs.Values.{static_member_expression_optional, computed_member_expression_optional, call_expression_optional, private_field_expression_optional}
use Rattle.jsgen_model.specs.Resolved.{resolved, resolved_maybe}

module _ (tables : Tables) (classes : List ℕ) where
  pub type_same : (n : ℕ) (t : Tree) → type_of (resolved tables classes n t) ≡ type_of t
  type_same n (tree.private_identifier a) = refl
  type_same n (tree.class_body a ts) = refl
  type_same n t = refl

  pub span_same : (n : ℕ) (t : Tree) → span_of (resolved tables classes n t) ≡ span_of t
  span_same n (tree.private_identifier a) = refl
  span_same n (tree.class_body a ts) = refl
  span_same n t = refl

  -- ---- what stands within parentheses

  -- the same choice of the same two
  chosen_same : (n : ℕ) (b c : Bool) (x y u v : Tree) → b ≡ c → x ≡ resolved tables classes n y → u ≡ resolved tables classes n v → cond b x u ≡ resolved tables classes n (cond c y v)
  chosen_same n b true x y u v e f g = ap (λ d. cond d x u) e ∙ f
  chosen_same n b false x y u v e f g = ap (λ d. cond d x u) e ∙ g

  -- what stands there is found before and behind
  pub inside_parentheses_same : (n : ℕ) (t : Tree) → inside_parentheses (resolved tables classes n t) ≡ resolved tables classes n (inside_parentheses t)
  inside_parentheses_same n (tree.parenthesized a e) = chosen_same n _ _ _ _ (tree.parenthesized a (resolved tables classes n e)) (tree.parenthesized a e) (ap is_only_expression (type_same n e)) (inside_parentheses_same n e) refl
  inside_parentheses_same n (tree.private_identifier a) = refl
  inside_parentheses_same n (tree.class_body a ts) = refl
  inside_parentheses_same n t = refl

  -- so what has one answer for each tree has one for what stands there
  pub question_same : {A : Type 0} (question : Tree → A) → ((k : ℕ) (u : Tree) → question (resolved tables classes k u) ≡ question u) → (n : ℕ) (t : Tree) → question (inside_parentheses (resolved tables classes n t)) ≡ question (inside_parentheses t)
  question_same question same n t = ap question (inside_parentheses_same n t) ∙ same n (inside_parentheses t)

  pub inside_same : (n : ℕ) (outer inner : Tree) → IsInside outer inner → IsInside (resolved tables classes n outer) (resolved tables classes n inner)
  inside_same n outer inner i = (ap is_only_expression (type_same n outer) ∙ i.0, ap (resolved tables classes n) i.1 ∙ sym (inside_parentheses_same n outer))

  -- ---- statements, functions and classes

  pub ends_open_same : (n : ℕ) (t : Tree) → ends_open (resolved tables classes n t) ≡ ends_open t
  ends_open_same n (tree.if_statement a test consequent absent) = refl
  ends_open_same n (tree.if_statement a test consequent (given alternate)) = ends_open_same _ alternate
  ends_open_same n (tree.for_statement a init test update body) = ends_open_same _ body
  ends_open_same n (tree.for_in_statement a left right body) = ends_open_same _ body
  ends_open_same n (tree.for_of_statement a left right body) = ends_open_same _ body
  ends_open_same n (tree.while_statement a test body) = ends_open_same _ body
  ends_open_same n (tree.labeled_statement a label body) = ends_open_same _ body
  ends_open_same n (tree.private_identifier a) = refl
  ends_open_same n (tree.class_body a ts) = refl
  ends_open_same n t = refl

  pub function_in_same : (n : ℕ) (t : Tree) → function_in (resolved tables classes n t) ≡ option_map (resolved tables classes n) (function_in t)
  function_in_same n (tree.function a id params body) = refl
  function_in_same n (tree.private_identifier a) = refl
  function_in_same n (tree.class_body a ts) = refl
  function_in_same n t = refl

  pub is_function_same : (n : ℕ) (t : Tree) → is_some (function_in (resolved tables classes n t)) ≡ is_some (function_in t)
  is_function_same n (tree.function a id params body) = refl
  is_function_same n (tree.private_identifier a) = refl
  is_function_same n (tree.class_body a ts) = refl
  is_function_same n t = refl

  pub has_name_same : (n : ℕ) (m : Maybe) → has_name (resolved_maybe tables classes n m) ≡ has_name m
  has_name_same n absent = refl
  has_name_same n (given t) = refl

  pub class_head_same : (n : ℕ) (t : Tree) → class_head_in (resolved tables classes n t) ≡ class_head_in t
  class_head_same n (tree.class a absent heritage body) = refl
  class_head_same n (tree.class a (given id) heritage body) = refl
  class_head_same n (tree.private_identifier a) = refl
  class_head_same n (tree.class_body a ts) = refl
  class_head_same n t = refl

  pub declared_kind_same : (n : ℕ) (t : Tree) → declared_kind (resolved tables classes n t) ≡ declared_kind t
  declared_kind_same n (tree.variable_declaration a declarations) = refl
  declared_kind_same n (tree.private_identifier a) = refl
  declared_kind_same n (tree.class_body a ts) = refl
  declared_kind_same n t = refl

  pub has_optional_link_same : (n : ℕ) (t : Tree) → has_optional_link (resolved tables classes n t) ≡ has_optional_link t
  has_optional_link_same n (tree.static_member a object property) = ap (λ b. static_member_expression_optional a || b) (has_optional_link_same n object)
  has_optional_link_same n (tree.computed_member a object expression) = ap (λ b. computed_member_expression_optional a || b) (has_optional_link_same n object)
  has_optional_link_same n (tree.call a callee arguments) = ap (λ b. call_expression_optional a || b) (has_optional_link_same n callee)
  has_optional_link_same n (tree.private_member a object field) = ap (λ b. private_field_expression_optional a || b) (has_optional_link_same n object)
  has_optional_link_same n (tree.private_identifier a) = refl
  has_optional_link_same n (tree.class_body a ts) = refl
  has_optional_link_same n t = refl

  -- ---- names and numbers

  pub reference_in_same : (n : ℕ) (t : Tree) → reference_in (resolved tables classes n t) ≡ reference_in t
  reference_in_same n (tree.identifier_reference a) = refl
  reference_in_same n (tree.private_identifier a) = refl
  reference_in_same n (tree.class_body a ts) = refl
  reference_in_same n t = refl

  pub looked_up_in_same : (n : ℕ) (t : Tree) → looked_up_in (resolved tables classes n t) ≡ looked_up_in t
  looked_up_in_same n (tree.identifier_reference a) = refl
  looked_up_in_same n (tree.private_identifier a) = refl
  looked_up_in_same n (tree.class_body a ts) = refl
  looked_up_in_same n t = refl

  pub bound_in_same : (n : ℕ) (t : Tree) → bound_in (resolved tables classes n t) ≡ bound_in t
  bound_in_same n (tree.binding_identifier a) = refl
  bound_in_same n (tree.assignment_pattern a left right) = bound_in_same n left
  bound_in_same n (tree.private_identifier a) = refl
  bound_in_same n (tree.class_body a ts) = refl
  bound_in_same n t = refl

  pub written_name_in_same : (n : ℕ) (t : Tree) → written_name_in (resolved tables classes n t) ≡ written_name_in t
  written_name_in_same n (tree.identifier_name a) = refl
  written_name_in_same n (tree.private_identifier a) = refl
  written_name_in_same n (tree.class_body a ts) = refl
  written_name_in_same n t = refl

  pub is_negative_number_same : (n : ℕ) (t : Tree) → is_negative_number (resolved tables classes n t) ≡ is_negative_number t
  is_negative_number_same n (tree.numeric_literal a) = refl
  is_negative_number_same n (tree.private_identifier a) = refl
  is_negative_number_same n (tree.class_body a ts) = refl
  is_negative_number_same n t = refl

  pub is_negative_big_integer_same : (n : ℕ) (t : Tree) → is_negative_big_integer (resolved tables classes n t) ≡ is_negative_big_integer t
  is_negative_big_integer_same n (tree.big_int_literal a) = refl
  is_negative_big_integer_same n (tree.private_identifier a) = refl
  is_negative_big_integer_same n (tree.class_body a ts) = refl
  is_negative_big_integer_same n t = refl

  pub is_negative_same : (n : ℕ) (t : Tree) → is_negative (resolved tables classes n t) ≡ is_negative t
  is_negative_same n (tree.numeric_literal a) = refl
  is_negative_same n (tree.big_int_literal a) = refl
  is_negative_same n (tree.private_identifier a) = refl
  is_negative_same n (tree.class_body a ts) = refl
  is_negative_same n t = refl
