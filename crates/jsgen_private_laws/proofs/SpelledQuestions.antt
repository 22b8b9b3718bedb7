-- What the rows ask of the trees in them has the same answer where private names are written as they are printed.
use Rattle.std.proofs.Common.{◌≡◌, ℕ, suc, List, [], ◌∷◌, Bool, false, not, ◌&&◌, ◌||◌, if◌then◌else◌, codes, nat_lt, refl, ap}
use Rattle.std.specs.Option.{option_map_or}
use Rattle.std.specs.Str.{bytes_eq}
use Rattle.jsgen_syntax.specs.declared.precedence.Precedence.{Precedence}
use Rattle.jsgen_syntax.specs.declared.precedence.Precedence.TheVariants.{Exponentiation, Prefix, Call}
use Rattle.jsgen_syntax.specs.declared.operator.BinaryOperator.{BinaryOperator}
use Rattle.jsgen_syntax.specs.declared.operator.BinaryOperator.TheVariants as operators
use Rattle.jsgen_syntax.specs.declared.operator.LogicalOperator.{LogicalOperator}
use Rattle.jsgen_syntax.specs.declared.operator.LogicalOperator.TheVariants as logical_operators
use Rattle.jsgen_tree.specs.Job.{Tables}
use Rattle.jsgen_tree.specs.Tree.{Tree, Maybe, absent, given, Trees, no_trees, more, hole, MaybeTrees, no_list, listed, span_of}
use Rattle.jsgen_tree.specs.Nodes as tree
use Rattle.jsgen_tree.specs.Values.{static_member_expression_optional}
use Rattle.jsgen_tree.specs.Inside.{inside_parentheses}
use Rattle.jsgen_model.specs.Items.{Items, Manner, ◌⊕◌, comments}
use Rattle.jsgen_model.specs.Resolved.{resolved, resolved_maybe, resolved_trees, resolved_maybe_trees, after}
use Rattle.jsgen_model.specs.Spellings.{is_prefixed, mixes, left_level, unmixed, any_given, starts_of, string_in, string_statement, span_inside, shape_of_type, shape, is_given, count, are_more, ends_in_hole, is_marked_as_called, before_expression, key_text, needs_brackets, is_name_alone, method_words, target_named, is_one, export_named, attribute_key, is_empty_list, starts_if, is_declared, is_pure_declaration}
use Rattle.jsgen_model.specs.Quotes.{is_named, is_member_of, is_string, is_one_string, is_require_call, has_second_string, defines_property, is_definition_call, is_exports, is_key_of_exports, is_equality, says_default, is_export_mark}
use Rattle.jsgen_private_laws.proofs.Same.{type_same, span_same, question_same, reference_in_same, looked_up_in_same, written_name_in_same, is_negative_number_same}

module _ (tables : Tables) (classes : List ℕ) where
  -- ---- operands

  is_prefixed_of_same : (n : ℕ) (t : Tree) → is_prefixed (resolved tables classes n t) ≡ is_prefixed t
  is_prefixed_of_same n (tree.numeric_literal a) = refl
  is_prefixed_of_same n (tree.big_int_literal a) = refl
  is_prefixed_of_same n (tree.unary a argument) = refl
  is_prefixed_of_same n (tree.await_expression a argument) = refl
  is_prefixed_of_same n (tree.private_identifier a) = refl
  is_prefixed_of_same n (tree.class_body a ts) = refl
  is_prefixed_of_same n t = refl

  pub is_prefixed_same : (n : ℕ) (t : Tree) → is_prefixed (inside_parentheses (resolved tables classes n t)) ≡ is_prefixed (inside_parentheses t)
  is_prefixed_same n t = question_same tables classes is_prefixed is_prefixed_of_same n t

  pub left_level_same : (n : ℕ) (o : BinaryOperator) (t : Tree) → left_level o (resolved tables classes n t) ≡ left_level o t
  left_level_same n operators.Exponential t = ap (λ b. if b then Call else Exponentiation) (is_prefixed_same n t)
  left_level_same n o t = refl

  mixes_of_same : (n : ℕ) (t : Tree) → mixes (resolved tables classes n t) ≡ mixes t
  mixes_of_same n (tree.logical a left right) = refl
  mixes_of_same n (tree.private_identifier a) = refl
  mixes_of_same n (tree.class_body a ts) = refl
  mixes_of_same n t = refl

  pub unmixed_same : (n : ℕ) (o : LogicalOperator) (t : Tree) (level : Precedence) → unmixed o (resolved tables classes n t) level ≡ unmixed o t level
  unmixed_same n logical_operators.Coalesce t level = ap (λ b. if b then Prefix else level) (question_same tables classes mixes mixes_of_same n t)
  unmixed_same n o t level = refl

  -- ---- strings that are never in backticks

  says_default_of_same : (n : ℕ) (t : Tree) → says_default (resolved tables classes n t) ≡ says_default t
  says_default_of_same n (tree.string_literal a) = refl
  says_default_of_same n (tree.private_identifier a) = refl
  says_default_of_same n (tree.class_body a ts) = refl
  says_default_of_same n t = refl

  pub is_export_mark_same : (n : ℕ) (o : BinaryOperator) (t : Tree) → is_export_mark o (resolved tables classes n t) ≡ is_export_mark o t
  is_export_mark_same n o t = ap (λ b. is_equality o && b) (question_same tables classes says_default says_default_of_same n t)

  pub is_named_same : (name : List ℕ) (n : ℕ) (t : Tree) → is_named name (resolved tables classes n t) ≡ is_named name t
  is_named_same name n t = ap (λ o. option_map_or (λ w. bytes_eq w name) o false) (reference_in_same tables classes n t)

  pub is_member_of_same : (object name : List ℕ) (n : ℕ) (t : Tree) → is_member_of object name (resolved tables classes n t) ≡ is_member_of object name t
  is_member_of_same object name n (tree.static_member a o property) = λ i. not (static_member_expression_optional a) && (is_named_same object n o i && option_map_or (λ w. bytes_eq w name) (written_name_in_same tables classes (after o n) property i) false)
  is_member_of_same object name n (tree.private_identifier a) = refl
  is_member_of_same object name n (tree.class_body a ts) = refl
  is_member_of_same object name n t = refl

  pub is_string_same : (n : ℕ) (t : Tree) → is_string (resolved tables classes n t) ≡ is_string t
  is_string_same n (tree.string_literal a) = refl
  is_string_same n (tree.private_identifier a) = refl
  is_string_same n (tree.class_body a ts) = refl
  is_string_same n t = refl

  is_one_string_same : (n : ℕ) (ts : Trees) → is_one_string (resolved_trees tables classes n ts) ≡ is_one_string ts
  is_one_string_same n no_trees = refl
  is_one_string_same n (more t no_trees) = is_string_same n t
  is_one_string_same n (more t (more u us)) = refl
  is_one_string_same n (more t (hole us)) = refl
  is_one_string_same n (hole ts) = refl

  has_second_string_same : (n : ℕ) (ts : Trees) → has_second_string (resolved_trees tables classes n ts) ≡ has_second_string ts
  has_second_string_same n no_trees = refl
  has_second_string_same n (more t no_trees) = refl
  has_second_string_same n (more t (more u us)) = is_string_same (after t n) u
  has_second_string_same n (more t (hole us)) = refl
  has_second_string_same n (hole ts) = refl

  pub is_require_call_same : (n m : ℕ) (callee : Tree) (arguments : Trees) → is_require_call (resolved tables classes n callee) (resolved_trees tables classes m arguments) ≡ is_require_call callee arguments
  is_require_call_same n m callee arguments = λ i. is_named_same (codes "require") n callee i && is_one_string_same m arguments i

  defines_property_same : (n : ℕ) (t : Tree) → defines_property (resolved tables classes n t) ≡ defines_property t
  defines_property_same n t = λ i. is_member_of_same (codes "Object") (codes "defineProperty") n t i || is_member_of_same (codes "Reflect") (codes "defineProperty") n t i

  pub is_definition_call_same : (n m : ℕ) (callee : Tree) (arguments : Trees) → is_definition_call (resolved tables classes n callee) (resolved_trees tables classes m arguments) ≡ is_definition_call callee arguments
  is_definition_call_same n m callee arguments = λ i. defines_property_same n callee i && has_second_string_same m arguments i

  is_exports_same : (n : ℕ) (t : Tree) → is_exports (resolved tables classes n t) ≡ is_exports t
  is_exports_same n t = λ i. is_named_same (codes "exports") n t i || is_member_of_same (codes "module") (codes "exports") n t i

  pub is_key_of_exports_same : (n : ℕ) (t : Tree) → is_key_of_exports (resolved tables classes n t) ≡ is_key_of_exports t
  is_key_of_exports_same n (tree.computed_member a object key) = λ i. is_exports_same n object i && is_string_same (after object n) key i
  is_key_of_exports_same n (tree.private_identifier a) = refl
  is_key_of_exports_same n (tree.class_body a ts) = refl
  is_key_of_exports_same n t = refl

  -- ---- the first statement of a body

  string_in_same : (n : ℕ) (t : Tree) → string_in (resolved tables classes n t) ≡ string_in t
  string_in_same n (tree.string_literal a) = refl
  string_in_same n (tree.private_identifier a) = refl
  string_in_same n (tree.class_body a ts) = refl
  string_in_same n t = refl

  pub string_statement_same : (n : ℕ) (t : Tree) → string_statement (resolved tables classes n t) ≡ string_statement t
  string_statement_same n (tree.expression_statement a expression) = question_same tables classes string_in string_in_same n expression
  string_statement_same n (tree.private_identifier a) = refl
  string_statement_same n (tree.class_body a ts) = refl
  string_statement_same n t = refl

  pub span_inside_same : (n : ℕ) (t : Tree) → span_inside (resolved tables classes n t) ≡ span_inside t
  span_inside_same n (tree.expression_statement a expression) = question_same tables classes span_of (span_same tables classes) n expression
  span_inside_same n (tree.private_identifier a) = refl
  span_inside_same n (tree.class_body a ts) = refl
  span_inside_same n t = refl

  pub shape_same : (n : ℕ) (t : Tree) → shape (resolved tables classes n t) ≡ shape t
  shape_same n t = ap shape_of_type (type_same tables classes n t)

  -- ---- lists, and what may be left out

  pub is_given_same : (n : ℕ) (m : Maybe) → is_given (resolved_maybe tables classes n m) ≡ is_given m
  is_given_same n absent = refl
  is_given_same n (given t) = refl

  pub starts_if_same : (n : ℕ) (m : Maybe) → starts_if (resolved_maybe tables classes n m) ≡ starts_if m
  starts_if_same n absent = refl
  starts_if_same n (given t) = ap (λ s. s.start ∷ []) (span_same tables classes n t)

  pub any_given_same : (n : ℕ) (ts : Trees) → any_given (resolved_trees tables classes n ts) ≡ any_given ts
  any_given_same n no_trees = refl
  any_given_same n (more t ts) = refl
  any_given_same n (hole ts) = refl

  pub starts_of_same : (n : ℕ) (ts : Trees) → starts_of (resolved_trees tables classes n ts) ≡ starts_of ts
  starts_of_same n no_trees = refl
  starts_of_same n (more t ts) = λ i. (span_same tables classes n t i).start ∷ starts_of_same (after t n) ts i
  starts_of_same n (hole ts) = starts_of_same n ts

  count_same : (n : ℕ) (ts : Trees) → count (resolved_trees tables classes n ts) ≡ count ts
  count_same n no_trees = refl
  count_same n (more t ts) = ap suc (count_same (after t n) ts)
  count_same n (hole ts) = ap suc (count_same n ts)

  pub are_more_same : (k n : ℕ) (ts : Trees) → are_more k (resolved_trees tables classes n ts) ≡ are_more k ts
  are_more_same k n ts = ap (λ c. nat_lt k c) (count_same n ts)

  pub ends_in_hole_same : (n : ℕ) (ts : Trees) → ends_in_hole (resolved_trees tables classes n ts) ≡ ends_in_hole ts
  ends_in_hole_same n no_trees = refl
  ends_in_hole_same n (more t ts) = ends_in_hole_same (after t n) ts
  ends_in_hole_same n (hole no_trees) = refl
  ends_in_hole_same n (hole (more t ts)) = ends_in_hole_same n (more t ts)
  ends_in_hole_same n (hole (hole ts)) = ends_in_hole_same n (hole ts)

  pub is_one_same : (n : ℕ) (ts : Trees) → is_one (resolved_trees tables classes n ts) ≡ is_one ts
  is_one_same n no_trees = refl
  is_one_same n (more t no_trees) = refl
  is_one_same n (more t (more u us)) = refl
  is_one_same n (more t (hole us)) = refl
  is_one_same n (hole ts) = refl

  pub is_empty_list_same : (n : ℕ) (ts : MaybeTrees) → is_empty_list (resolved_maybe_trees tables classes n ts) ≡ is_empty_list ts
  is_empty_list_same n no_list = refl
  is_empty_list_same n (listed no_trees) = refl
  is_empty_list_same n (listed (more t ts)) = refl
  is_empty_list_same n (listed (hole ts)) = refl

  -- ---- comments before expressions

  pub is_marked_as_called_same : (n : ℕ) (t : Tree) → is_marked_as_called (resolved tables classes n t) ≡ is_marked_as_called t
  is_marked_as_called_same n (tree.function a id params body) = refl
  is_marked_as_called_same n (tree.arrow_function a params body) = refl
  is_marked_as_called_same n (tree.private_identifier a) = refl
  is_marked_as_called_same n (tree.class_body a ts) = refl
  is_marked_as_called_same n t = refl

  pub before_expression_same : (manner : Manner) (n : ℕ) (t : Tree) → before_expression manner (resolved tables classes n t) ≡ before_expression manner t
  before_expression_same manner n (tree.parenthesized a expression) = ap (λ i. comments manner a.span.start ⊕ i) (before_expression_same manner n expression)
  before_expression_same manner n (tree.function a id params body) = refl
  before_expression_same manner n (tree.arrow_function a params body) = refl
  before_expression_same manner n (tree.private_identifier a) = refl
  before_expression_same manner n (tree.class_body a ts) = refl
  before_expression_same manner n t = refl

  -- ---- keys and targets

  pub key_text_same : (n : ℕ) (t : Tree) (i : Items) → key_text (resolved tables classes n t) i ≡ key_text t i
  key_text_same n (tree.string_literal a) i = refl
  key_text_same n (tree.private_identifier a) i = refl
  key_text_same n (tree.class_body a ts) i = refl
  key_text_same n t i = refl

  pub needs_brackets_same : (computed : Bool) (n : ℕ) (t : Tree) → needs_brackets computed (resolved tables classes n t) ≡ needs_brackets computed t
  needs_brackets_same computed n t = ap (λ b. computed || b) (is_negative_number_same tables classes n t)

  pub attribute_key_same : (n : ℕ) (t : Tree) (i : Items) → attribute_key (resolved tables classes n t) i ≡ attribute_key t i
  attribute_key_same n (tree.identifier_name a) i = refl
  attribute_key_same n (tree.private_identifier a) i = refl
  attribute_key_same n (tree.class_body a ts) i = refl
  attribute_key_same n t i = refl

  pub target_named_same : (n : ℕ) (t : Tree) → target_named (resolved tables classes n t) ≡ target_named t
  target_named_same n (tree.target_with_default a binding init) = looked_up_in_same tables classes n binding
  target_named_same n (tree.identifier_reference a) = refl
  target_named_same n (tree.private_identifier a) = refl
  target_named_same n (tree.class_body a ts) = refl
  target_named_same n t = refl

  pub export_named_same : (n : ℕ) (t : Tree) → export_named (resolved tables classes n t) ≡ export_named t
  export_named_same n (tree.identifier_name a) = refl
  export_named_same n (tree.identifier_reference a) = refl
  export_named_same n (tree.binding_identifier a) = refl
  export_named_same n (tree.string_literal a) = refl
  export_named_same n (tree.private_identifier a) = refl
  export_named_same n (tree.class_body a ts) = refl
  export_named_same n t = refl

  -- ---- functions and declarations

  pub method_words_same : (n : ℕ) (t : Tree) → method_words (resolved tables classes n t) ≡ method_words t
  method_words_same n (tree.function a id params body) = refl
  method_words_same n (tree.private_identifier a) = refl
  method_words_same n (tree.class_body a ts) = refl
  method_words_same n t = refl

  pub is_declared_same : (n : ℕ) (t : Tree) → is_declared (resolved tables classes n t) ≡ is_declared t
  is_declared_same n (tree.function a id params body) = refl
  is_declared_same n (tree.class a id heritage body) = refl
  is_declared_same n (tree.private_identifier a) = refl
  is_declared_same n (tree.class_body a ts) = refl
  is_declared_same n t = refl

  pub is_pure_declaration_same : (n : ℕ) (t : Tree) → is_pure_declaration (resolved tables classes n t) ≡ is_pure_declaration t
  is_pure_declaration_same n (tree.function a id params body) = refl
  is_pure_declaration_same n (tree.private_identifier a) = refl
  is_pure_declaration_same n (tree.class_body a ts) = refl
  is_pure_declaration_same n t = refl

  -- a parameter that is a name
  pub is_name_alone_same : (n : ℕ) (t : Tree) → is_name_alone (resolved tables classes n t) ≡ is_name_alone t
  is_name_alone_same n (tree.formal_parameters a (more (tree.formal_parameter b (tree.binding_identifier i) absent) no_trees) absent) = refl
  is_name_alone_same n (tree.formal_parameters a (more (tree.formal_parameter b (tree.private_identifier i) m) ts) rest) = refl
  is_name_alone_same n (tree.formal_parameters a (more (tree.formal_parameter b (tree.class_body i us) m) ts) rest) = refl
  is_name_alone_same n (tree.formal_parameters a (more (tree.private_identifier b) ts) rest) = refl
  is_name_alone_same n (tree.formal_parameters a (more (tree.class_body b us) ts) rest) = refl
  is_name_alone_same n (tree.private_identifier a) = refl
  is_name_alone_same n (tree.class_body a ts) = refl
  is_name_alone_same n t = refl
