-- Other names keep whether a tree has private names, hashbangs, regular expressions and templates.
use Rattle.std.proofs.Common.{◌≡◌, ◌&&◌, true, refl, sym, ◌∙◌}
use Rattle.jsgen_tree.specs.Tree.{Tree, node, Slots, no_slots, one, maybe, many, maybe_many, Maybe, absent, given, Trees, no_trees, more, hole, MaybeTrees, no_list, listed}
use Rattle.jsgen_tree.specs.Job.{Tables}
use Rattle.jsgen_tree.specs.Nodes as tree
use Rattle.jsgen_model.specs.Renamed.{renamed, renamed_slots, renamed_maybe, renamed_trees, renamed_maybe_trees}
use Rattle.jsgen_plain_laws.proofs.Free.{free, free_slots, free_maybe, free_trees, free_maybe_trees, free_template}
use Rattle.jsgen_plain_laws.proofs.Kept.{written_free}

named_template : (names : Tables) (qs es : Trees) → free_template (renamed_trees names qs) (renamed_trees names es) ≡ free_template qs es
named_template names no_trees es = refl
named_template names (hole qs) es = refl
named_template names (more q no_trees) no_trees = refl
named_template names (more q no_trees) (more e es) = refl
named_template names (more q no_trees) (hole es) = refl
named_template names (more q (more r qs)) es = refl
named_template names (more q (hole qs)) es = refl

mutual
  pub named_free : (names : Tables) (t : Tree) → free (renamed names t) ≡ free t
  named_free names (tree.identifier_reference a) = refl
  named_free names (tree.binding_identifier a) = refl
  named_free names (tree.private_identifier a) = refl
  named_free names (tree.hashbang a) = refl
  named_free names (tree.reg_exp_literal a) = refl
  named_free names (tree.tagged_template a tag quasi) = refl
  named_free names (tree.template_literal a quasis expressions) = named_template names quasis expressions
  named_free names (tree.target_property_identifier a binding init) = let e = named_free names binding in let f = named_maybe names init in written_free a binding (renamed names binding) (renamed_maybe names init) (sym e) ∙ (λ i. e i && (f i && true))
  named_free names (tree.program a comments hashbang directives body) = let h = named_maybe names hashbang in let e = named_trees names directives in let f = named_trees names body in λ i. h i && (e i && f i)
  named_free names (node type a slots) = named_slots names slots

  named_slots : (names : Tables) (s : Slots) → free_slots (renamed_slots names s) ≡ free_slots s
  named_slots names no_slots = refl
  named_slots names (one t s) = let e = named_free names t in let f = named_slots names s in λ i. e i && f i
  named_slots names (maybe m s) = let e = named_maybe names m in let f = named_slots names s in λ i. e i && f i
  named_slots names (many ts s) = let e = named_trees names ts in let f = named_slots names s in λ i. e i && f i
  named_slots names (maybe_many ts s) = let e = named_maybe_trees names ts in let f = named_slots names s in λ i. e i && f i

  named_maybe : (names : Tables) (m : Maybe) → free_maybe (renamed_maybe names m) ≡ free_maybe m
  named_maybe names absent = refl
  named_maybe names (given t) = named_free names t

  named_trees : (names : Tables) (ts : Trees) → free_trees (renamed_trees names ts) ≡ free_trees ts
  named_trees names no_trees = refl
  named_trees names (more t ts) = let e = named_free names t in let f = named_trees names ts in λ i. e i && f i
  named_trees names (hole ts) = named_trees names ts

  named_maybe_trees : (names : Tables) (ts : MaybeTrees) → free_maybe_trees (renamed_maybe_trees names ts) ≡ free_maybe_trees ts
  named_maybe_trees names no_list = refl
  named_maybe_trees names (listed ts) = named_trees names ts
