-- A core program is one where its private names are resolved, and a quiet one is quiet.
use Rattle.std.proofs.Common.{◌≡◌, ℕ, List, [], ◌∷◌, Bool, true, false, not, ◌&&◌, if◌then◌else◌, refl, ap, ◌∙◌}
use Rattle.jsgen_syntax.specs.Raw.{holds_close_tag}
use Rattle.jsgen_tree.specs.Job.{Tables}
use Rattle.jsgen_tree.specs.Tree.{Tree, node, Slots, no_slots, one, maybe, many, maybe_many, Trees, no_trees, more, hole, MaybeTrees, no_list, listed}
use Rattle.jsgen_tree.specs.Nodes as tree
use Rattle.jsgen_tree.specs.Values.{template_element_raw}
use Rattle.jsgen_tree.specs.Table.{Field, Presence, needed, may_be_absent, Sort, child, children, children_or_holes, maybe_children, is_value}
use Rattle.jsgen_tree.specs.Fields.{fields}
use Rattle.jsgen_tree.specs.Everywhere.{Everywhere}
use Rattle.jsgen_model.specs.Plain.{is_core_type, has_core_flags, keep_raw_texts, keeps_raw_texts, is_core_by_type, has_no_hole, has_no_hole_if_listed, fills_first_field, fills_fields, has_formed_values, is_formed, is_core_row, is_plain_by_type, is_plain_row, is_quiet_row}
use Rattle.jsgen_model.specs.Resolved.{after_trees, after_maybe_trees, resolved, resolved_slots, resolved_trees, resolved_maybe_trees}
use Rattle.jsgen_private_laws.proofs.Everywhere.{resolved_everywhere}

module _ (tables : Tables) (classes : List ℕ) where
  -- ---- raw texts behind a tag

  keep_raw_texts_same : (n : ℕ) (ts : Trees) → keep_raw_texts (resolved_trees tables classes n ts) ≡ keep_raw_texts ts
  keep_raw_texts_same n no_trees = refl
  keep_raw_texts_same n (more (tree.template_element a) ts) = ap (λ b. not (holds_close_tag (template_element_raw a)) && b) (keep_raw_texts_same _ ts)
  keep_raw_texts_same n (more (tree.private_identifier a) ts) = keep_raw_texts_same _ ts
  keep_raw_texts_same n (more (tree.class_body a body) ts) = keep_raw_texts_same _ ts
  keep_raw_texts_same n (more t ts) = keep_raw_texts_same _ ts
  keep_raw_texts_same n (hole ts) = keep_raw_texts_same n ts

  pub keeps_raw_texts_same : (n : ℕ) (t : Tree) → keeps_raw_texts (resolved tables classes n t) ≡ keeps_raw_texts t
  keeps_raw_texts_same n (tree.tagged_template a tag (tree.template_literal b quasis expressions)) = keep_raw_texts_same _ quasis
  keeps_raw_texts_same n (tree.tagged_template a tag (tree.private_identifier b)) = refl
  keeps_raw_texts_same n (tree.tagged_template a tag (tree.class_body b body)) = refl
  keeps_raw_texts_same n (tree.tagged_template a tag quasi) = refl
  keeps_raw_texts_same n (tree.private_identifier a) = refl
  keeps_raw_texts_same n (tree.class_body a body) = refl
  keeps_raw_texts_same n t = refl

  -- ---- types and flags

  pub core_by_type_same : (n : ℕ) (t : Tree) → is_core_by_type (resolved tables classes n t) ≡ is_core_by_type t
  core_by_type_same n (tree.private_identifier a) = refl
  core_by_type_same n (tree.class_body a body) = refl
  core_by_type_same n (node type a slots) = let e = keeps_raw_texts_same n (node type a slots) in λ i. e i && (is_core_type type && has_core_flags type a)

  pub plain_by_type_same : (n : ℕ) (t : Tree) → is_plain_by_type (resolved tables classes n t) ≡ is_plain_by_type t
  plain_by_type_same n (tree.private_identifier a) = refl
  plain_by_type_same n (tree.class_body a body) = refl
  plain_by_type_same n t = refl

  -- ---- holes

  pub has_no_hole_same : (n : ℕ) (ts : Trees) → has_no_hole (resolved_trees tables classes n ts) ≡ has_no_hole ts
  has_no_hole_same n no_trees = refl
  has_no_hole_same n (more t ts) = has_no_hole_same _ ts
  has_no_hole_same n (hole ts) = refl

  pub has_no_hole_if_listed_same : (n : ℕ) (ts : MaybeTrees) → has_no_hole_if_listed (resolved_maybe_trees tables classes n ts) ≡ has_no_hole_if_listed ts
  has_no_hole_if_listed_same n no_list = refl
  has_no_hole_if_listed_same n (listed ts) = has_no_hole_same n ts

  -- ---- the children of a row's fields

  first_same : (p : Presence) (s : Sort) (n : ℕ) (slots : Slots) (rest : Slots → Bool) → ((m : ℕ) (others : Slots) → rest (resolved_slots tables classes m others) ≡ rest others) → fills_first_field p s (resolved_slots tables classes n slots) rest ≡ fills_first_field p s slots rest
  first_same needed (child set) n (one t others) rest h = h _ others
  first_same may_be_absent (child set) n (maybe m others) rest h = h _ others
  first_same p (children set) n (many ts others) rest h = let e = h (after_trees ts n) others in let f = has_no_hole_same n ts in λ i. e i && f i
  first_same p (children_or_holes set) n (many ts others) rest h = h _ others
  first_same p (maybe_children set) n (maybe_many ts others) rest h = let e = h (after_maybe_trees ts n) others in let f = has_no_hole_if_listed_same n ts in λ i. e i && f i
  first_same p s n slots rest h = refl

  fill_same : (test : Bool) (fs : List Field) (n : ℕ) (slots : Slots) → fills_fields test fs (resolved_slots tables classes n slots) ≡ fills_fields test fs slots
  fill_same test [] n no_slots = refl
  fill_same test [] n (one t slots) = refl
  fill_same test [] n (maybe m slots) = refl
  fill_same test [] n (many ts slots) = refl
  fill_same test [] n (maybe_many ts slots) = refl
  fill_same test (f ∷ fs) n slots = by (f.is_read && not (is_value f.sort)) (fill_same test fs)
    where
      by : (b : Bool) → ((m : ℕ) (others : Slots) → fills_fields test fs (resolved_slots tables classes m others) ≡ fills_fields test fs others) → (if b then fills_first_field f.presence f.sort (resolved_slots tables classes n slots) (fills_fields test fs) else fills_fields test fs (resolved_slots tables classes n slots)) ≡ (if b then fills_first_field f.presence f.sort slots (fills_fields test fs) else fills_fields test fs slots)
      by true h = first_same f.presence f.sort n slots (fills_fields test fs) h
      by false h = h n slots

module _ (tables : Tables) where
  pub is_formed_same : (classes : List ℕ) (n : ℕ) (t : Tree) → is_formed (resolved tables classes n t) ≡ is_formed t
  is_formed_same classes n (tree.private_identifier a) = refl
  is_formed_same classes n (tree.class_body a body) = has_no_hole_same tables _ _ body
  is_formed_same classes n (node type a slots) = fill_same tables classes (has_formed_values type a) (fields type) n slots

  -- ---- rows and programs

  pub core_row_same : (classes : List ℕ) (n : ℕ) (t : Tree) → is_core_row (resolved tables classes n t) ≡ is_core_row t
  core_row_same classes n t = let e = core_by_type_same tables classes n t in let f = is_formed_same classes n t in λ i. e i && f i

  pub plain_row_same : (classes : List ℕ) (n : ℕ) (t : Tree) → is_plain_row (resolved tables classes n t) ≡ is_plain_row t
  plain_row_same classes n t = let e = plain_by_type_same tables classes n t in let f = is_formed_same classes n t in λ i. e i && f i

  pub quiet_row_same : (classes : List ℕ) (n : ℕ) (t : Tree) → is_quiet_row (resolved tables classes n t) ≡ is_quiet_row t
  quiet_row_same classes n (tree.comment a) = refl
  quiet_row_same classes n (tree.private_identifier a) = refl
  quiet_row_same classes n (tree.class_body a body) = refl
  quiet_row_same classes n t = refl

  pub core_same : (classes : List ℕ) (n : ℕ) (t : Tree) → Everywhere is_core_row t → Everywhere is_core_row (resolved tables classes n t)
  core_same = resolved_everywhere tables is_core_row (λ classes n t e. core_row_same classes n t ∙ e)

  pub plain_same : (classes : List ℕ) (n : ℕ) (t : Tree) → Everywhere is_plain_row t → Everywhere is_plain_row (resolved tables classes n t)
  plain_same = resolved_everywhere tables is_plain_row (λ classes n t e. plain_row_same classes n t ∙ e)

  pub quiet_same : (classes : List ℕ) (n : ℕ) (t : Tree) → Everywhere is_quiet_row t → Everywhere is_quiet_row (resolved tables classes n t)
  quiet_same = resolved_everywhere tables is_quiet_row (λ classes n t e. quiet_row_same classes n t ∙ e)
