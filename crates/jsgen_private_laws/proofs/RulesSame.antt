-- What each rule asks of a node's children has the same answer where private names are resolved.
use Rattle.std.proofs.Common.{◌≡◌, ℕ, List, [], ◌++◌, Bool, true, false, not, ◌&&◌, ◌||◌, if◌then◌else◌, is_some, nat_lt, refl, ap}
use Rattle.std.specs.Option.{option_map_or}
use Rattle.jsgen_syntax.specs.declared.span.Span.{Span}
use Rattle.jsgen_syntax.specs.declared.operator.AssignmentOperator.{AssignmentOperator}
use Rattle.jsgen_tree.specs.declared.collections.PropertyKind.{PropertyKind}
use Rattle.jsgen_tree.specs.declared.collections.PropertyKind.TheVariants as property_kinds
use Rattle.jsgen_tree.specs.declared.classes.MethodDefinitionKind.{MethodDefinitionKind}
use Rattle.jsgen_tree.specs.declared.types.NodeSet.{NodeSet}
use Rattle.jsgen_tree.specs.Job.{Tables}
use Rattle.jsgen_tree.specs.Tree.{Tree, Maybe, absent, given, Trees, no_trees, more, hole, MaybeTrees, no_list, listed, span_of}
use Rattle.jsgen_tree.specs.Nodes as tree
use Rattle.jsgen_tree.specs.Sets.{is_expression}
use Rattle.jsgen_tree.specs.Values.{function_kind, function_is_async, function_generator, class_kind}
use Rattle.jsgen_tree.specs.Inside.{looked_up_in, is_proto}
use Rattle.jsgen_model.specs.Resolved.{resolved, resolved_maybe, resolved_trees, resolved_maybe_trees}
use Rattle.jsgen_model.specs.declared.fault.TreeFault.TheVariants as faults
use Rattle.jsgen_model.specs.Valid.{fault_if, template_faults, declaration_faults, sequence_faults, is_lexical_word, is_declaration, body_faults, alternate_faults, function_faults, yield_faults, fits_accessor, fits_words, fits_method, method_faults, switch_faults, try_faults, is_literal_key, may_be_key, key_faults, may_be_pattern_key, pattern_key_faults, is_private, may_be_member_key, member_key_faults, as_property, class_method_faults, named_faults, shorthand_faults, is_super, super_faults, chain_faults, target_faults, is_target_pattern, assigns_alone, assigned_faults, object_rest_faults, shorthand_name_faults, left_faults, is_binding_name, rest_faults, binds_nothing, unbound, init_faults, import_faults, passes_levels, indent_faults, may_stand, takes_optional_link, link_faults, has_uncooked, takes_uncooked, uncooked_faults, fits_place, as_function_kind, is_among_statements, fits_kind, misfit, set_faults}
use Rattle.jsgen_tree.specs.Options.{Options}
use Rattle.jsgen_private_laws.specs.Settled.{without_private}
use Rattle.jsgen_private_laws.proofs.Same.{type_same, span_same, is_function_same, has_name_same, class_head_same, declared_kind_same, has_optional_link_same, looked_up_in_same, written_name_in_same, is_negative_number_same, is_negative_big_integer_same, question_same}
use Rattle.jsgen_private_laws.proofs.ListsSame.{is_one_more_same, defaults_same, is_one_name_same, any_lacks_value_same, lacking_same, specifier_same, any_uncooked_same, height_same}

module _ (tables : Tables) (classes : List ℕ) where
  -- a fault at a child: the same test, and the same place
  at_place : (n : ℕ) (t : Tree) (b c : Bool) → b ≡ c → fault_if b (faults.Place (span_of (resolved tables classes n t)).start) ≡ fault_if c (faults.Place (span_of t).start)
  at_place n t b c e = let f = span_same tables classes n t in λ i. fault_if (e i) (faults.Place (f i).start)

  -- ---- statements

  pub declaration_same : (n : ℕ) (s : Span) (ts : Trees) → declaration_faults s (resolved_trees tables classes n ts) ≡ declaration_faults s ts
  declaration_same n s no_trees = refl
  declaration_same n s (more t ts) = refl
  declaration_same n s (hole ts) = refl

  pub sequence_same : (n : ℕ) (s : Span) (ts : Trees) → sequence_faults s (resolved_trees tables classes n ts) ≡ sequence_faults s ts
  sequence_same n s (more t (more u ts)) = refl
  sequence_same n s (more t no_trees) = refl
  sequence_same n s (more t (hole ts)) = refl
  sequence_same n s no_trees = refl
  sequence_same n s (hole ts) = refl

  is_declaration_same : (n : ℕ) (t : Tree) → is_declaration (resolved tables classes n t) ≡ is_declaration t
  is_declaration_same n t = let d = declared_kind_same tables classes n t in let f = is_function_same tables classes n t in let c = class_head_same tables classes n t in λ i. option_map_or is_lexical_word (d i) (f i || is_some (c i))

  pub body_same : (n : ℕ) (t : Tree) → body_faults (resolved tables classes n t) ≡ body_faults t
  body_same n t = at_place n t _ _ (is_declaration_same n t)

  pub alternate_same : (n : ℕ) (m : Maybe) → alternate_faults (resolved_maybe tables classes n m) ≡ alternate_faults m
  alternate_same n absent = refl
  alternate_same n (given t) = body_same n t

  pub switch_same : (n : ℕ) (s : Span) (ts : Trees) → switch_faults s (resolved_trees tables classes n ts) ≡ switch_faults s ts
  switch_same n s ts = ap (λ k. fault_if (nat_lt 1 k) (faults.Place s.start)) (defaults_same tables classes n ts)

  pub try_same : (n k : ℕ) (s : Span) (m o : Maybe) → try_faults s (resolved_maybe tables classes n m) (resolved_maybe tables classes k o) ≡ try_faults s m o
  try_same n k s absent absent = refl
  try_same n k s absent (given u) = refl
  try_same n k s (given t) o = refl

  -- ---- functions

  pub function_same : (n : ℕ) (s : Span) (m : Maybe) → function_faults s (resolved_maybe tables classes n m) ≡ function_faults s m
  function_same n s absent = refl
  function_same n s (given t) = refl

  pub yield_same : (n : ℕ) (may_yield delegate : Bool) (m : Maybe) (s : Span) → yield_faults may_yield delegate (resolved_maybe tables classes n m) s ≡ yield_faults may_yield delegate m s
  yield_same n may_yield delegate absent s = refl
  yield_same n may_yield delegate (given t) s = refl

  fits_accessor_same : (n : ℕ) (kind : PropertyKind) (t : Tree) → fits_accessor kind (resolved tables classes n t) ≡ fits_accessor kind t
  fits_accessor_same n property_kinds.Init t = refl
  fits_accessor_same n property_kinds.Get (tree.formal_parameters a no_trees absent) = refl
  fits_accessor_same n property_kinds.Get (tree.formal_parameters a no_trees (given r)) = refl
  fits_accessor_same n property_kinds.Get (tree.formal_parameters a (more p ts) m) = refl
  fits_accessor_same n property_kinds.Get (tree.formal_parameters a (hole ts) m) = refl
  fits_accessor_same n property_kinds.Get (tree.private_identifier a) = refl
  fits_accessor_same n property_kinds.Get (tree.class_body a body) = refl
  fits_accessor_same n property_kinds.Get t = refl
  fits_accessor_same n property_kinds.Set (tree.formal_parameters a no_trees m) = refl
  fits_accessor_same n property_kinds.Set (tree.formal_parameters a (hole ts) m) = refl
  fits_accessor_same n property_kinds.Set (tree.formal_parameters a (more p no_trees) absent) = refl
  fits_accessor_same n property_kinds.Set (tree.formal_parameters a (more p no_trees) (given r)) = refl
  fits_accessor_same n property_kinds.Set (tree.formal_parameters a (more p (more q ts)) m) = refl
  fits_accessor_same n property_kinds.Set (tree.formal_parameters a (more p (hole ts)) m) = refl
  fits_accessor_same n property_kinds.Set (tree.private_identifier a) = refl
  fits_accessor_same n property_kinds.Set (tree.class_body a body) = refl
  fits_accessor_same n property_kinds.Set t = refl

  fits_method_same : (n : ℕ) (kind : PropertyKind) (t : Tree) → fits_method kind (resolved tables classes n t) ≡ fits_method kind t
  fits_method_same n kind (tree.function a absent params body) = ap (λ b. b && fits_words kind (function_is_async a) (function_generator a)) (fits_accessor_same n kind params)
  fits_method_same n kind (tree.function a (given id) params body) = refl
  fits_method_same n kind (tree.private_identifier a) = refl
  fits_method_same n kind (tree.class_body a body) = refl
  fits_method_same n kind t = refl

  pub method_same : (n k : ℕ) (kind : PropertyKind) (computed : Bool) (key value : Tree) → method_faults kind computed (resolved tables classes n key) (resolved tables classes k value) ≡ method_faults kind computed key value
  method_same n k kind computed key value =
      let e = at_place n key _ _ (ap (λ b. not computed && b) (is_negative_number_same tables classes n key)) in
      let f = at_place k value _ _ (ap not (fits_method_same k kind value)) in
      λ i. e i ++ f i

  pub class_method_same : (n : ℕ) (kind : MethodDefinitionKind) (value : Tree) → class_method_faults kind (resolved tables classes n value) ≡ class_method_faults kind value
  class_method_same n kind value = at_place n value _ _ (ap not (fits_method_same n (as_property kind) value))

  -- ---- keys

  may_be_key_same : (n : ℕ) (computed : Bool) (key : Tree) → may_be_key computed (resolved tables classes n key) ≡ may_be_key computed key
  may_be_key_same n true key = ap is_expression (type_same tables classes n key)
  may_be_key_same n false key = let e = type_same tables classes n key in let f = is_negative_big_integer_same tables classes n key in λ i. is_literal_key (e i) && not (f i)

  pub key_same : (n : ℕ) (computed : Bool) (key : Tree) → key_faults computed (resolved tables classes n key) ≡ key_faults computed key
  key_same n computed key = at_place n key _ _ (ap not (may_be_key_same n computed key))

  may_be_pattern_key_same : (n : ℕ) (computed : Bool) (key : Tree) → may_be_pattern_key computed (resolved tables classes n key) ≡ may_be_pattern_key computed key
  may_be_pattern_key_same n true key = ap is_expression (type_same tables classes n key)
  may_be_pattern_key_same n false key = let e = may_be_key_same n false key in let f = is_negative_number_same tables classes n key in λ i. e i && not (f i)

  pub pattern_key_same : (n : ℕ) (computed : Bool) (key : Tree) → pattern_key_faults computed (resolved tables classes n key) ≡ pattern_key_faults computed key
  pattern_key_same n computed key = at_place n key _ _ (ap not (may_be_pattern_key_same n computed key))

  may_be_member_key_same : (n : ℕ) (computed : Bool) (key : Tree) → may_be_member_key computed (resolved tables classes n key) ≡ may_be_member_key computed key
  may_be_member_key_same n true key = ap is_expression (type_same tables classes n key)
  may_be_member_key_same n false key = let e = type_same tables classes n key in let f = may_be_pattern_key_same n false key in λ i. is_private (e i) || f i

  pub member_key_same : (n : ℕ) (computed : Bool) (key : Tree) → member_key_faults computed (resolved tables classes n key) ≡ member_key_faults computed key
  member_key_same n computed key = at_place n key _ _ (ap not (may_be_member_key_same n computed key))

  pub shorthand_same : (n k : ℕ) (names : Tables) (shorthand : Bool) (key value : Tree) → shorthand_faults (without_private names) shorthand (resolved tables classes n key) (resolved tables classes k value) ≡ shorthand_faults names shorthand key value
  shorthand_same n k names shorthand key value =
      let w = written_name_in_same tables classes n key in
      let s = span_same tables classes k value in
      let v = question_same tables classes looked_up_in (looked_up_in_same tables classes) k value in
      λ i. if shorthand && option_map_or is_proto (w i) false then named_faults names (s i) (v i) else []

  -- ---- links and targets

  pub super_same : (n : ℕ) (optional : Bool) (object : Tree) → super_faults optional (resolved tables classes n object) ≡ super_faults optional object
  super_same n optional object = at_place n object _ _ (ap (λ type. optional && is_super type) (type_same tables classes n object))

  pub chain_same : (n : ℕ) (s : Span) (element : Tree) → chain_faults s (resolved tables classes n element) ≡ chain_faults s element
  chain_same n s element = ap (λ b. fault_if (not b) (faults.Place s.start)) (has_optional_link_same tables classes n element)

  pub target_same : (n : ℕ) (target : Tree) → target_faults (resolved tables classes n target) ≡ target_faults target
  target_same n target = at_place n target _ _ (has_optional_link_same tables classes n target)

  pub assigned_same : (n : ℕ) (o : AssignmentOperator) (target : Tree) → assigned_faults o (resolved tables classes n target) ≡ assigned_faults o target
  assigned_same n o target = let e = has_optional_link_same tables classes n target in let f = type_same tables classes n target in at_place n target _ _ (λ i. e i || (not (assigns_alone o) && is_target_pattern (f i)))

  pub object_rest_same : (n : ℕ) (m : Maybe) → object_rest_faults (resolved_maybe tables classes n m) ≡ object_rest_faults m
  object_rest_same n absent = refl
  object_rest_same n (given (tree.target_rest a target)) = at_place n target _ _ (ap is_target_pattern (type_same tables classes n target))
  object_rest_same n (given (tree.private_identifier a)) = refl
  object_rest_same n (given (tree.class_body a body)) = refl
  object_rest_same n (given t) = refl

  pub shorthand_name_same : (n : ℕ) (t : Tree) → shorthand_name_faults (resolved tables classes n t) ≡ shorthand_name_faults t
  shorthand_name_same n (tree.identifier_reference a) = refl
  shorthand_name_same n (tree.private_identifier a) = refl
  shorthand_name_same n (tree.class_body a body) = refl
  shorthand_name_same n t = refl

  pub left_same : (n : ℕ) (t : Tree) → left_faults (resolved tables classes n t) ≡ left_faults t
  left_same n (tree.variable_declaration a declarations) = ap (λ b. fault_if (not b) (faults.Place a.span.start)) (is_one_name_same tables classes n declarations)
  left_same n (tree.private_identifier a) = refl
  left_same n (tree.class_body a body) = refl
  left_same n t = target_same n t

  -- ---- patterns

  pub rest_same : (n : ℕ) (m : Maybe) → rest_faults (resolved_maybe tables classes n m) ≡ rest_faults m
  rest_same n absent = refl
  rest_same n (given (tree.binding_rest_element a argument)) = at_place n argument _ _ (ap (λ type. not (is_binding_name type)) (type_same tables classes n argument))
  rest_same n (given (tree.private_identifier a)) = refl
  rest_same n (given (tree.class_body a body)) = refl
  rest_same n (given t) = refl

  binds_nothing_same : (n : ℕ) (t : Tree) → binds_nothing (resolved tables classes n t) ≡ binds_nothing t
  binds_nothing_same n (tree.variable_declaration a declarations) = any_lacks_value_same tables classes n declarations
  binds_nothing_same n (tree.private_identifier a) = refl
  binds_nothing_same n (tree.class_body a body) = refl
  binds_nothing_same n t = refl

  unbound_same : (n : ℕ) (t : Tree) → unbound (resolved tables classes n t) ≡ unbound t
  unbound_same n (tree.variable_declaration a declarations) = lacking_same tables classes n a.span declarations
  unbound_same n (tree.private_identifier a) = refl
  unbound_same n (tree.class_body a body) = refl
  unbound_same n t = span_same tables classes n t

  pub init_same : (n : ℕ) (m : Maybe) → init_faults (resolved_maybe tables classes n m) ≡ init_faults m
  init_same n absent = refl
  init_same n (given t) = let e = binds_nothing_same n t in let u = unbound_same n t in λ i. fault_if (e i) (faults.Place (u i).start)

  -- ---- templates, imports and exports

  pub template_same : (n m : ℕ) (s : Span) (qs es : Trees) → template_faults s (resolved_trees tables classes n qs) (resolved_trees tables classes m es) ≡ template_faults s qs es
  template_same n m s qs es = ap (λ b. fault_if (not b) (faults.Template s.start)) (is_one_more_same tables classes n m qs es)

  pub import_same : (n : ℕ) (ts : MaybeTrees) → import_faults (resolved_maybe_trees tables classes n ts) ≡ import_faults ts
  import_same n no_list = refl
  import_same n (listed ts) = specifier_same tables classes n ts

  pub indent_same : (n : ℕ) (options : Options) (t : Tree) → indent_faults options (resolved tables classes n t) ≡ indent_faults options t
  indent_same n options t = let h = height_same tables classes n t in let s = span_same tables classes n t in λ i. fault_if (if options.minify then false else passes_levels options (h i)) (faults.Indent (s i).start)

  -- ---- places

  link_same : (n : ℕ) (set : NodeSet) (t : Tree) → link_faults set (resolved tables classes n t) ≡ link_faults set t
  link_same n set t = at_place n t _ _ (ap (λ b. not (takes_optional_link set) && b) (has_optional_link_same tables classes n t))

  has_uncooked_same : (n : ℕ) (t : Tree) → has_uncooked (resolved tables classes n t) ≡ has_uncooked t
  has_uncooked_same n (tree.template_literal a quasis expressions) = any_uncooked_same tables classes n quasis
  has_uncooked_same n (tree.private_identifier a) = refl
  has_uncooked_same n (tree.class_body a body) = refl
  has_uncooked_same n t = refl

  uncooked_same : (n : ℕ) (set : NodeSet) (t : Tree) → uncooked_faults set (resolved tables classes n t) ≡ uncooked_faults set t
  uncooked_same n set t = let e = has_uncooked_same n t in let s = span_same tables classes n t in λ i. fault_if (not (takes_uncooked set) && e i) (faults.Template (s i).start)

  pub fits_kind_same : (n : ℕ) (set : NodeSet) (t : Tree) → fits_kind set (resolved tables classes n t) ≡ fits_kind set t
  fits_kind_same n set (tree.function a id params body) = ap (fits_place set (function_kind a)) (has_name_same tables classes n id)
  fits_kind_same n set (tree.class a id heritage body) = ap (fits_place set (as_function_kind (class_kind a))) (has_name_same tables classes n id)
  fits_kind_same n set (tree.variable_declaration a declarations) = ap (λ b. not (is_among_statements set && b)) (any_lacks_value_same tables classes n declarations)
  fits_kind_same n set (tree.private_identifier a) = refl
  fits_kind_same n set (tree.class_body a body) = refl
  fits_kind_same n set t = refl

  pub set_same : (n : ℕ) (set : NodeSet) (t : Tree) → set_faults set (resolved tables classes n t) ≡ set_faults set t
  set_same n set t =
      let e = type_same tables classes n t in
      let k = fits_kind_same n set t in
      let s = span_same tables classes n t in
      let b = unbound_same n t in
      let l = link_same n set t in
      let u = uncooked_same n set t in
      λ i. fault_if (not (may_stand set (e i) && k i)) (faults.Place (if may_stand set (e i) then b i else s i).start) ++ (l i ++ u i)
