-- The normal form keeps whether a tree has private names, regular expressions and templates.
use Rattle.std.proofs.Common.{◌≡◌, ℕ, Bool, true, false, ◌&&◌, cond, Option, Some, None, List, refl, sym, ap, ◌∙◌}
use Rattle.jsgen_syntax.specs.declared.operator.LogicalOperator.{LogicalOperator}
use Rattle.jsgen_tree.specs.Tree.{Tree, Atoms, node, Slots, no_slots, one, maybe, many, maybe_many, Maybe, absent, given, Trees, no_trees, more, hole, MaybeTrees, no_list, listed}
use Rattle.jsgen_tree.specs.Values.{logical_expression_operator, numeric_literal_kind, numeric_literal_negative, big_int_literal_value}
use Rattle.jsgen_tree.specs.Inside.{ends_open, behind_minus}
use Rattle.jsgen_tree.specs.Nodes as tree
use Rattle.jsgen_model.specs.Normal.{normal, normal_slots, normal_maybe, normal_trees, normal_maybe_trees, unbraced, minus_before, big_integer, by_text, number_text, chain, same_operator, joined, links, parts_of, flattened, nothing_of, untagged, by_values, by_its_text, maybe_by_its_text}
use Rattle.jsgen_model.specs.Renamed.{written_out}
use Rattle.jsgen_plain_laws.proofs.Free.{free, free_slots, free_maybe, free_trees, free_maybe_trees, free_template}

and_true : (b : Bool) → (b && true) ≡ b
and_true true = refl
and_true false = refl

and_assoc : (a b c : Bool) → ((a && b) && c) ≡ (a && (b && c))
and_assoc true b c = refl
and_assoc false b c = refl

-- ---- what the normal form of a row makes of its parts

joined_free : (a b : Trees) → free_trees (joined a b) ≡ (free_trees a && free_trees b)
joined_free no_trees b = refl
joined_free (more t a) b = ap (λ x. free t && x) (joined_free a b) ∙ sym (and_assoc (free t) (free_trees a) (free_trees b))
joined_free (hole a) b = joined_free a b

links_free : (o : LogicalOperator) (t : Tree) → free_trees (links o t) ≡ free t
links_free o (chain a operands) = go (same_operator o (logical_expression_operator a))
  where
    go : (b : Bool) → free_trees (cond b operands (more (chain a operands) no_trees)) ≡ (free_trees operands && true)
    go true = sym (and_true (free_trees operands))
    go false = and_true (free_trees operands && true)
links_free o t = and_true (free t)

parts_free : (t : Tree) → free_trees (parts_of t) ≡ free t
parts_free (tree.sequence a ts) = sym (and_true (free_trees ts))
parts_free t = and_true (free t)

flattened_free : (ts : Trees) → free_trees (flattened ts) ≡ free_trees ts
flattened_free no_trees = refl
flattened_free (more t ts) = let e = parts_free t in let f = flattened_free ts in joined_free (parts_of t) (flattened ts) ∙ (λ i. e i && f i)
flattened_free (hole ts) = flattened_free ts

unbraced_free : (t : Tree) → free (unbraced t) ≡ free t
unbraced_free (tree.block a (more s no_trees)) = go (ends_open s)
  where
    go : (b : Bool) → free (cond b s (tree.block a (more s no_trees))) ≡ ((free s && true) && true)
    go true = sym (and_true (free s && true) ∙ and_true (free s))
    go false = refl
unbraced_free t = refl

-- of templates the numbers of pieces and of expressions count
untagged_free : (qs es : Trees) → free (untagged (by_values qs) (normal_trees es)) ≡ free_template qs es
untagged_free no_trees no_trees = refl
untagged_free no_trees (more e es) = refl
untagged_free no_trees (hole es) = refl
untagged_free (more q no_trees) no_trees = refl
untagged_free (more q no_trees) (more e es) = refl
untagged_free (more q no_trees) (hole es) = refl
untagged_free (more q (more r qs)) es = refl
untagged_free (more q (hole qs)) es = refl
untagged_free (hole qs) no_trees = refl
untagged_free (hole qs) (more e es) = refl
untagged_free (hole qs) (hole es) = refl

pub written_free : (a : Atoms) (binding t : Tree) (init : Maybe) → free binding ≡ free t → free (written_out a binding t init) ≡ (free t && (free_maybe init && true))
written_free a (tree.identifier_reference b) t absent e = refl
written_free a (tree.identifier_reference b) t (given v) e = and_true (free t && (free v && true))
written_free a binding t init e = refl

text_free : (t : Tree) → free (by_its_text t) ≡ free t
text_free (tree.identifier_name a) = refl
text_free (tree.identifier_reference a) = refl
text_free t = refl

maybe_text_free : (m : Maybe) → free_maybe (maybe_by_its_text m) ≡ free_maybe m
maybe_text_free absent = refl
maybe_text_free (given t) = text_free t

-- ---- of each row

mutual
  pub kept : (t : Tree) → free (normal t) ≡ free t
  kept (tree.program a comments hashbang directives body) = let h = kept_maybe hashbang in let e = kept_trees directives in let f = kept_trees body in λ i. h i && (e i && f i)
  kept (tree.parenthesized a expression) = kept expression ∙ sym (and_true (free expression))
  kept (tree.numeric_literal a) = by (numeric_literal_negative a)
    where
      by : (b : Bool) → free (minus_before b (tree.numeric_literal (by_text (number_text (numeric_literal_kind a) a)))) ≡ true
      by true = refl
      by false = refl
  kept (tree.big_int_literal a) = by (behind_minus (big_int_literal_value a))
    where
      by : (o : Option (List ℕ)) → free (big_integer (big_int_literal_value a) o) ≡ true
      by None = refl
      by (Some w) = refl
  kept (tree.logical a left right) = let o : LogicalOperator = logical_expression_operator a in let e = links_free o (normal left) ∙ kept left in let f = links_free o (normal right) ∙ kept right in and_true _ ∙ (joined_free (links o (normal left)) (links o (normal right)) ∙ (λ i. e i && f i)) ∙ ap (λ x. free left && x) (sym (and_true (free right)))
  kept (tree.if_statement a test consequent alternate) = let e = kept test in let f = unbraced_free (normal consequent) ∙ kept consequent in let g = kept_maybe alternate in λ i. e i && (f i && (g i && true))
  kept (tree.sequence a expressions) = let e = flattened_free (normal_trees expressions) ∙ kept_trees expressions in λ i. e i && true
  kept (tree.private_identifier a) = refl
  kept (tree.hashbang a) = refl
  kept (tree.reg_exp_literal a) = refl
  kept (tree.tagged_template a tag quasi) = refl
  kept (tree.template_literal a quasis expressions) = untagged_free quasis expressions
  kept (tree.target_property_identifier a binding init) = let e = kept binding in let f = kept_maybe init in written_free (nothing_of 0) (normal binding) (normal binding) (normal_maybe init) refl ∙ (λ i. e i && (f i && true))
  kept (tree.import_specifier a imported local) = let e = text_free (normal imported) ∙ kept imported in let f = kept local in λ i. e i && (f i && true)
  kept (tree.export_specifier a local exported) = let e = text_free (normal local) ∙ kept local in let f = text_free (normal exported) ∙ kept exported in λ i. e i && (f i && true)
  kept (tree.export_all_declaration a exported source with_clause) = let e = maybe_text_free (normal_maybe exported) ∙ kept_maybe exported in let f = kept source in let g = kept_maybe with_clause in λ i. e i && (f i && (g i && true))
  -- generated from crates/jsgen_tree/specs/Nodes.antt: rows
  kept (tree.comment a) = kept_slots no_slots
  kept (tree.directive a) = kept_slots no_slots
  kept (tree.variable_declaration a declarations) = kept_slots (many declarations no_slots)
  kept (tree.variable_declarator a id init) = kept_slots (one id (maybe init no_slots))
  kept (tree.binding_identifier a) = kept_slots no_slots
  kept (tree.expression_statement a expression) = kept_slots (one expression no_slots)
  kept (tree.block a body) = kept_slots (many body no_slots)
  kept (tree.empty_statement a) = kept_slots no_slots
  kept (tree.identifier_reference a) = kept_slots no_slots
  kept (tree.this_expression a) = kept_slots no_slots
  kept (tree.null_literal a) = kept_slots no_slots
  kept (tree.boolean_literal a) = kept_slots no_slots
  kept (tree.string_literal a) = kept_slots no_slots
  kept (tree.binary a left right) = kept_slots (one left (one right no_slots))
  kept (tree.identifier_name a) = kept_slots no_slots
  kept (tree.static_member a object property) = kept_slots (one object (one property no_slots))
  kept (tree.computed_member a object expression) = kept_slots (one object (one expression no_slots))
  kept (tree.call a callee arguments) = kept_slots (one callee (many arguments no_slots))
  kept (tree.chain a expression) = kept_slots (one expression no_slots)
  kept (tree.spread a argument) = kept_slots (one argument no_slots)
  kept (tree.array a elements) = kept_slots (many elements no_slots)
  kept (tree.object_property a key value) = kept_slots (one key (one value no_slots))
  kept (tree.object_expression a properties) = kept_slots (many properties no_slots)
  kept (tree.unary a argument) = kept_slots (one argument no_slots)
  kept (tree.new_target a) = kept_slots no_slots
  kept (tree.update a argument) = kept_slots (one argument no_slots)
  kept (tree.new_expression a callee arguments) = kept_slots (one callee (many arguments no_slots))
  kept (tree.super a) = kept_slots no_slots
  kept (tree.import_meta a) = kept_slots no_slots
  kept (tree.conditional a test consequent alternate) = kept_slots (one test (one consequent (one alternate no_slots)))
  kept (tree.assignment a left right) = kept_slots (one left (one right no_slots))
  kept (tree.formal_parameter a pattern initializer) = kept_slots (one pattern (maybe initializer no_slots))
  kept (tree.formal_parameter_rest a argument) = kept_slots (one argument no_slots)
  kept (tree.formal_parameters a items rest) = kept_slots (many items (maybe rest no_slots))
  kept (tree.function a id params body) = kept_slots (maybe id (one params (maybe body no_slots)))
  kept (tree.function_body a directives statements) = kept_slots (many directives (many statements no_slots))
  kept (tree.arrow_function a params body) = kept_slots (one params (one body no_slots))
  kept (tree.await_expression a argument) = kept_slots (one argument no_slots)
  kept (tree.yield_expression a argument) = kept_slots (maybe argument no_slots)
  kept (tree.template_element a) = kept_slots no_slots
  kept (tree.import_call a source options) = kept_slots (one source (maybe options no_slots))
  kept (tree.for_statement a init test update_child body) = kept_slots (maybe init (maybe test (maybe update_child (one body no_slots))))
  kept (tree.for_in_statement a left right body) = kept_slots (one left (one right (one body no_slots)))
  kept (tree.for_of_statement a left right body) = kept_slots (one left (one right (one body no_slots)))
  kept (tree.while_statement a test body) = kept_slots (one test (one body no_slots))
  kept (tree.do_while_statement a body test) = kept_slots (one body (one test no_slots))
  kept (tree.label_identifier a) = kept_slots no_slots
  kept (tree.labeled_statement a label body) = kept_slots (one label (one body no_slots))
  kept (tree.continue_statement a label) = kept_slots (maybe label no_slots)
  kept (tree.break_statement a label) = kept_slots (maybe label no_slots)
  kept (tree.return_statement a argument) = kept_slots (maybe argument no_slots)
  kept (tree.throw_statement a argument) = kept_slots (one argument no_slots)
  kept (tree.debugger_statement a) = kept_slots no_slots
  kept (tree.switch_statement a discriminant cases) = kept_slots (one discriminant (many cases no_slots))
  kept (tree.switch_case a test consequent) = kept_slots (maybe test (many consequent no_slots))
  kept (tree.try_statement a block_child handler finalizer) = kept_slots (one block_child (maybe handler (maybe finalizer no_slots)))
  kept (tree.catch_clause a param body) = kept_slots (maybe param (one body no_slots))
  kept (tree.object_pattern a properties rest) = kept_slots (many properties (maybe rest no_slots))
  kept (tree.binding_property a key value) = kept_slots (one key (one value no_slots))
  kept (tree.binding_rest_element a argument) = kept_slots (one argument no_slots)
  kept (tree.array_pattern a elements rest) = kept_slots (many elements (maybe rest no_slots))
  kept (tree.assignment_pattern a left right) = kept_slots (one left (one right no_slots))
  kept (tree.array_target a elements rest) = kept_slots (many elements (maybe rest no_slots))
  kept (tree.object_target a properties rest) = kept_slots (many properties (maybe rest no_slots))
  kept (tree.target_with_default a binding init) = kept_slots (one binding (one init no_slots))
  kept (tree.target_property a name binding) = kept_slots (one name (one binding no_slots))
  kept (tree.target_rest a target) = kept_slots (one target no_slots)
  kept (tree.private_member a object field) = kept_slots (one object (one field no_slots))
  kept (tree.private_in a left right) = kept_slots (one left (one right no_slots))
  kept (tree.class a id heritage body) = kept_slots (maybe id (maybe heritage (one body no_slots)))
  kept (tree.class_body a body) = kept_slots (many body no_slots)
  kept (tree.static_block a body) = kept_slots (many body no_slots)
  kept (tree.method_definition a key value) = kept_slots (one key (one value no_slots))
  kept (tree.property_definition a key value) = kept_slots (one key (maybe value no_slots))
  kept (tree.import_declaration a specifiers source with_clause_child) = kept_slots (maybe_many specifiers (one source (maybe with_clause_child no_slots)))
  kept (tree.import_default_specifier a local) = kept_slots (one local no_slots)
  kept (tree.import_namespace_specifier a local) = kept_slots (one local no_slots)
  kept (tree.with_clause a entries) = kept_slots (many entries no_slots)
  kept (tree.import_attribute a key value) = kept_slots (one key (one value no_slots))
  kept (tree.export_declaration a declaration) = kept_slots (one declaration no_slots)
  kept (tree.export_named_declaration a specifiers) = kept_slots (many specifiers no_slots)
  kept (tree.export_from_declaration a specifiers source with_clause_child) = kept_slots (many specifiers (one source (maybe with_clause_child no_slots)))
  kept (tree.export_default_declaration a declaration) = kept_slots (one declaration no_slots)
  -- end of what is generated: rows
  kept (node type a slots) = kept_slots slots

  kept_slots : (s : Slots) → free_slots (normal_slots s) ≡ free_slots s
  kept_slots no_slots = refl
  kept_slots (one t s) = let e = kept t in let f = kept_slots s in λ i. e i && f i
  kept_slots (maybe m s) = let e = kept_maybe m in let f = kept_slots s in λ i. e i && f i
  kept_slots (many ts s) = let e = kept_trees ts in let f = kept_slots s in λ i. e i && f i
  kept_slots (maybe_many ts s) = let e = kept_maybe_trees ts in let f = kept_slots s in λ i. e i && f i

  kept_maybe : (m : Maybe) → free_maybe (normal_maybe m) ≡ free_maybe m
  kept_maybe absent = refl
  kept_maybe (given t) = kept t

  kept_trees : (ts : Trees) → free_trees (normal_trees ts) ≡ free_trees ts
  kept_trees no_trees = refl
  kept_trees (more t ts) = let e = kept t in let f = kept_trees ts in λ i. e i && f i
  kept_trees (hole ts) = kept_trees ts

  kept_maybe_trees : (ts : MaybeTrees) → free_maybe_trees (normal_maybe_trees ts) ≡ free_maybe_trees ts
  kept_maybe_trees no_list = refl
  kept_maybe_trees (listed ts) = kept_trees ts
