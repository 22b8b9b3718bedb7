-- What the rules ask of lists of children has the same answer where private names are resolved; and so has a tree's height.
use Rattle.std.proofs.Common.{◌≡◌, ℕ, suc, max, List, ◌++◌, Bool, false, not, ◌||◌, if◌then◌else◌, refl, ap}
use Rattle.jsgen_syntax.specs.declared.span.Span.{Span}
use Rattle.jsgen_tree.specs.declared.types.NodeType.{NodeType}
use Rattle.jsgen_tree.specs.Job.{Tables}
use Rattle.jsgen_tree.specs.Tree.{Tree, node, Slots, no_slots, one, maybe, many, maybe_many, Maybe, absent, given, Trees, no_trees, more, hole, MaybeTrees, no_list, listed}
use Rattle.jsgen_tree.specs.Nodes as tree
use Rattle.jsgen_model.specs.Private.{classes_within}
use Rattle.jsgen_model.specs.Resolved.{after, after_maybe, after_trees, after_maybe_trees, resolved, resolved_slots, resolved_maybe, resolved_trees, resolved_maybe_trees}
use Rattle.jsgen_model.specs.Valid.{is_one_more, defaults, is_one_name, is_binding_name, lacks_value, any_lacks_value, lacking, fault_if, misplaced_faults, is_named_import, behind_default_faults, specifier_faults, fits_source, export_faults, height, height_of_slots, height_if_given, greatest_height, height_if_listed, is_uncooked, any_uncooked}
use Rattle.jsgen_model.specs.declared.fault.TreeFault.TheVariants as faults
use Rattle.jsgen_private_laws.proofs.Same.{type_same, span_same}

module _ (tables : Tables) (classes : List ℕ) where
  pub is_one_more_same : (n m : ℕ) (qs es : Trees) → is_one_more (resolved_trees tables classes n qs) (resolved_trees tables classes m es) ≡ is_one_more qs es
  is_one_more_same n m no_trees es = refl
  is_one_more_same n m (hole qs) es = refl
  is_one_more_same n m (more q no_trees) no_trees = refl
  is_one_more_same n m (more q (more r qs)) no_trees = refl
  is_one_more_same n m (more q (hole qs)) no_trees = refl
  is_one_more_same n m (more q no_trees) (more e es) = refl
  is_one_more_same n m (more q (more r qs)) (more e es) = is_one_more_same _ _ (more r qs) es
  is_one_more_same n m (more q (hole qs)) (more e es) = refl
  is_one_more_same n m (more q no_trees) (hole es) = refl
  is_one_more_same n m (more q (more r qs)) (hole es) = refl
  is_one_more_same n m (more q (hole qs)) (hole es) = refl

  pub defaults_same : (n : ℕ) (ts : Trees) → defaults (resolved_trees tables classes n ts) ≡ defaults ts
  defaults_same n no_trees = refl
  defaults_same n (more (tree.switch_case a absent consequent) ts) = ap suc (defaults_same _ ts)
  defaults_same n (more (tree.switch_case a (given test) consequent) ts) = defaults_same _ ts
  defaults_same n (more (tree.private_identifier a) ts) = defaults_same _ ts
  defaults_same n (more (tree.class_body a body) ts) = defaults_same _ ts
  defaults_same n (more t ts) = defaults_same _ ts
  defaults_same n (hole ts) = defaults_same n ts

  pub is_one_name_same : (n : ℕ) (ts : Trees) → is_one_name (resolved_trees tables classes n ts) ≡ is_one_name ts
  is_one_name_same n (more (tree.variable_declarator a id absent) no_trees) = refl
  is_one_name_same n (more (tree.variable_declarator a id absent) (more t ts)) = refl
  is_one_name_same n (more (tree.variable_declarator a id absent) (hole ts)) = refl
  is_one_name_same n (more (tree.private_identifier a) ts) = refl
  is_one_name_same n (more (tree.class_body a body) ts) = refl
  is_one_name_same n ts = refl

  pub lacks_value_same : (n : ℕ) (t : Tree) → lacks_value (resolved tables classes n t) ≡ lacks_value t
  lacks_value_same n (tree.variable_declarator a id absent) = ap (λ type. not (is_binding_name type)) (type_same tables classes n id)
  lacks_value_same n (tree.private_identifier a) = refl
  lacks_value_same n (tree.class_body a body) = refl
  lacks_value_same n t = refl

  pub any_lacks_value_same : (n : ℕ) (ts : Trees) → any_lacks_value (resolved_trees tables classes n ts) ≡ any_lacks_value ts
  any_lacks_value_same n no_trees = refl
  any_lacks_value_same n (more t ts) = let e = lacks_value_same n t in let f = any_lacks_value_same (after t n) ts in λ i. e i || f i
  any_lacks_value_same n (hole ts) = any_lacks_value_same n ts

  pub lacking_same : (n : ℕ) (s : Span) (ts : Trees) → lacking s (resolved_trees tables classes n ts) ≡ lacking s ts
  lacking_same n s no_trees = refl
  lacking_same n s (more t ts) = let e = lacks_value_same n t in let g = span_same tables classes n t in let f = lacking_same (after t n) s ts in λ i. if e i then g i else f i
  lacking_same n s (hole ts) = lacking_same n s ts

  -- ---- imports and exports

  misplaced_same : (fits : NodeType → Bool) (n : ℕ) (ts : Trees) → misplaced_faults fits (resolved_trees tables classes n ts) ≡ misplaced_faults fits ts
  misplaced_same fits n no_trees = refl
  misplaced_same fits n (more t ts) = let e = type_same tables classes n t in let g = span_same tables classes n t in let f = misplaced_same fits (after t n) ts in λ i. fault_if (not (fits (e i))) (faults.Place (g i).start) ++ f i
  misplaced_same fits n (hole ts) = misplaced_same fits n ts

  behind_default_same : (n : ℕ) (ts : Trees) → behind_default_faults (resolved_trees tables classes n ts) ≡ behind_default_faults ts
  behind_default_same n no_trees = refl
  behind_default_same n (hole ts) = misplaced_same is_named_import n ts
  behind_default_same n (more (tree.import_namespace_specifier a local) ts) = misplaced_same (λ type. false) _ ts
  behind_default_same n (more (tree.private_identifier a) ts) = misplaced_same is_named_import n (more (tree.private_identifier a) ts)
  behind_default_same n (more (tree.class_body a body) ts) = misplaced_same is_named_import n (more (tree.class_body a body) ts)
  behind_default_same n (more t ts) = misplaced_same is_named_import n (more t ts)

  pub specifier_same : (n : ℕ) (ts : Trees) → specifier_faults (resolved_trees tables classes n ts) ≡ specifier_faults ts
  specifier_same n (more (tree.import_default_specifier a local) ts) = behind_default_same _ ts
  specifier_same n no_trees = refl
  specifier_same n (hole ts) = behind_default_same n (hole ts)
  specifier_same n (more (tree.private_identifier a) ts) = behind_default_same n (more (tree.private_identifier a) ts)
  specifier_same n (more (tree.class_body a body) ts) = behind_default_same n (more (tree.class_body a body) ts)
  specifier_same n (more t ts) = behind_default_same n (more t ts)

  pub export_same : (b : Bool) (n : ℕ) (ts : Trees) → export_faults b (resolved_trees tables classes n ts) ≡ export_faults b ts
  export_same b n no_trees = refl
  export_same b n (more (tree.export_specifier a local exported) ts) = let e = type_same tables classes n local in let f = export_same b _ ts in λ i. fault_if (not (fits_source b (e i))) (faults.Place a.span.start) ++ f i
  export_same b n (more (tree.private_identifier a) ts) = export_same b _ ts
  export_same b n (more (tree.class_body a body) ts) = export_same b _ ts
  export_same b n (more t ts) = export_same b _ ts
  export_same b n (hole ts) = export_same b n ts

  -- ---- pieces that stand for nothing

  is_uncooked_same : (n : ℕ) (t : Tree) → is_uncooked (resolved tables classes n t) ≡ is_uncooked t
  is_uncooked_same n (tree.template_element a) = refl
  is_uncooked_same n (tree.private_identifier a) = refl
  is_uncooked_same n (tree.class_body a body) = refl
  is_uncooked_same n t = refl

  pub any_uncooked_same : (n : ℕ) (ts : Trees) → any_uncooked (resolved_trees tables classes n ts) ≡ any_uncooked ts
  any_uncooked_same n no_trees = refl
  any_uncooked_same n (more t ts) = let e = is_uncooked_same n t in let f = any_uncooked_same (after t n) ts in λ i. e i || f i
  any_uncooked_same n (hole ts) = any_uncooked_same n ts

-- ---- heights

module _ (tables : Tables) where
  mutual
    pub height_same : (classes : List ℕ) (n : ℕ) (t : Tree) → height (resolved tables classes n t) ≡ height t
    height_same classes n (tree.private_identifier a) = refl
    height_same classes n (tree.class_body a body) = ap (λ k. suc (max k 0)) (greatest_height_same (classes_within tables n classes) (suc n) body)
    height_same classes n (node type a slots) = ap suc (height_of_slots_same classes n slots)

    height_of_slots_same : (classes : List ℕ) (n : ℕ) (slots : Slots) → height_of_slots (resolved_slots tables classes n slots) ≡ height_of_slots slots
    height_of_slots_same classes n no_slots = refl
    height_of_slots_same classes n (one t slots) = let e = height_same classes n t in let f = height_of_slots_same classes (after t n) slots in λ i. max (e i) (f i)
    height_of_slots_same classes n (maybe m slots) = let e = height_if_given_same classes n m in let f = height_of_slots_same classes (after_maybe m n) slots in λ i. max (e i) (f i)
    height_of_slots_same classes n (many ts slots) = let e = greatest_height_same classes n ts in let f = height_of_slots_same classes (after_trees ts n) slots in λ i. max (e i) (f i)
    height_of_slots_same classes n (maybe_many ts slots) = let e = height_if_listed_same classes n ts in let f = height_of_slots_same classes (after_maybe_trees ts n) slots in λ i. max (e i) (f i)

    height_if_given_same : (classes : List ℕ) (n : ℕ) (m : Maybe) → height_if_given (resolved_maybe tables classes n m) ≡ height_if_given m
    height_if_given_same classes n absent = refl
    height_if_given_same classes n (given t) = height_same classes n t

    greatest_height_same : (classes : List ℕ) (n : ℕ) (ts : Trees) → greatest_height (resolved_trees tables classes n ts) ≡ greatest_height ts
    greatest_height_same classes n no_trees = refl
    greatest_height_same classes n (more t ts) = let e = height_same classes n t in let f = greatest_height_same classes (after t n) ts in λ i. max (e i) (f i)
    greatest_height_same classes n (hole ts) = greatest_height_same classes n ts

    height_if_listed_same : (classes : List ℕ) (n : ℕ) (ts : MaybeTrees) → height_if_listed (resolved_maybe_trees tables classes n ts) ≡ height_if_listed ts
    height_if_listed_same classes n no_list = refl
    height_if_listed_same classes n (listed ts) = greatest_height_same classes n ts
