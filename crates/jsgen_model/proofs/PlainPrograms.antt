-- A program of which each node is plain by its type and flags is plain, and core where each is core; and what is plain is core.
use Rattle.std.proofs.Common.{◌≡◌, Bool, true, false, not, ◌&&◌, refl, sym, subst}
use Rattle.std.proofs.lemmas.Bool.{both_ways, and_from, and_parts}
use Rattle.jsgen_tree.specs.Tree.{Tree, node, Slots, no_slots, one, maybe, many, maybe_many, Maybe, absent, given, Trees, no_trees, more, hole, MaybeTrees, no_list, listed, Atoms}
use Rattle.jsgen_tree.specs.Everywhere.{Everywhere, EverywhereInSlots, EverywhereIfGiven, EverywhereInTrees, EverywhereIfListed}
use Rattle.jsgen_tree.specs.Plain.{node_plain, program_plain, layer}
use Rattle.jsgen_tree.specs.declared.types.NodeType.{NodeType}
use Rattle.jsgen_tree.specs.declared.types.NodeType.TheVariants as types
use Rattle.jsgen_tree.specs.declared.nodes.Node.{Node, map-Node}
use Rattle.jsgen_tree.specs.declared.nodes.Node.TheFolds.{ind-Node, fold-roll-Node}
use Rattle.jsgen_tree.specs.declared.statements.Program.{Program}
use Rattle.jsgen_model.specs.Plain.{IsCore, IsPlain, is_core_alone, is_core_by_type, is_core_row, is_core_type, keeps_raw_texts, has_core_flags, has_plain_flags, is_plain_by_type, is_plain_row, is_plain_type, is_formed, sets_core_flag}
use Rattle.jsgen_model.proofs.FormedRows.{IsFormed, no_hole, all_formed, if_given_formed, text_is_formed, module_kind}
use Rattle.jsgen_model.proofs.Programs.{layer_is_formed}

-- ---- the plain data of every program is formed

node_is_formed : (n : Node) → IsFormed (node_plain n)
unfolding node_plain
node_is_formed = ind-Node (λ n. IsFormed (node_plain n)) (λ x y is. subst IsFormed (sym (fold-roll-Node Tree layer x)) (subst (λ z. IsFormed (layer (map-Node Node Tree node_plain z))) is (layer_is_formed (λ e. e.0) (λ e. e.1) y)))

pub program_is_formed : (p : Program Node) → IsFormed (program_plain p)
program_is_formed p = (and_from _ _ (and_from _ _ (and_from _ _ (module_kind p.kind) (no_hole _ p.body.items)) (no_hole _ p.directives.items)) (no_hole _ p.comments.items), (all_formed _ (λ c. (refl, tt)) p.comments.items, (if_given_formed _ (λ b. (text_is_formed b.value.value, tt)) p.hashbang, (all_formed _ (λ d. (refl, tt)) p.directives.items, (all_formed _ (λ s. node_is_formed s.node) p.body.items, tt)))))

-- ---- what two tests say of each node, both say of it

module _ (f g : Tree → Bool) where
  mutual
    pub both_everywhere : (t : Tree) → Everywhere f t → Everywhere g t → Everywhere (λ u. f u && g u) t
    both_everywhere (node type a slots) p q = (and_from (f (node type a slots)) (g (node type a slots)) p.0 q.0, both_in_slots slots p.1 q.1)

    both_in_slots : (slots : Slots) → EverywhereInSlots f slots → EverywhereInSlots g slots → EverywhereInSlots (λ u. f u && g u) slots
    both_in_slots no_slots p q = tt
    both_in_slots (one t slots) p q = (both_everywhere t p.0 q.0, both_in_slots slots p.1 q.1)
    both_in_slots (maybe m slots) p q = (both_if_given m p.0 q.0, both_in_slots slots p.1 q.1)
    both_in_slots (many ts slots) p q = (both_in_trees ts p.0 q.0, both_in_slots slots p.1 q.1)
    both_in_slots (maybe_many ts slots) p q = (both_if_listed ts p.0 q.0, both_in_slots slots p.1 q.1)

    both_if_given : (m : Maybe) → EverywhereIfGiven f m → EverywhereIfGiven g m → EverywhereIfGiven (λ u. f u && g u) m
    both_if_given absent p q = tt
    both_if_given (given t) p q = both_everywhere t p q

    both_in_trees : (ts : Trees) → EverywhereInTrees f ts → EverywhereInTrees g ts → EverywhereInTrees (λ u. f u && g u) ts
    both_in_trees no_trees p q = tt
    both_in_trees (more t ts) p q = (both_everywhere t p.0 q.0, both_in_trees ts p.1 q.1)
    both_in_trees (hole ts) p q = both_in_trees ts p q

    both_if_listed : (ts : MaybeTrees) → EverywhereIfListed f ts → EverywhereIfListed g ts → EverywhereIfListed (λ u. f u && g u) ts
    both_if_listed no_list p q = tt
    both_if_listed (listed ts) p q = both_in_trees ts p q

-- ---- what one test says of each node, another says of it

module _ (f g : Tree → Bool) (h : (t : Tree) → f t ≡ true → g t ≡ true) where
  mutual
    pub passed_on : (t : Tree) → Everywhere f t → Everywhere g t
    passed_on (node type a slots) p = (h (node type a slots) p.0, passed_on_in_slots slots p.1)

    passed_on_in_slots : (slots : Slots) → EverywhereInSlots f slots → EverywhereInSlots g slots
    passed_on_in_slots no_slots p = tt
    passed_on_in_slots (one t slots) p = (passed_on t p.0, passed_on_in_slots slots p.1)
    passed_on_in_slots (maybe m slots) p = (passed_on_if_given m p.0, passed_on_in_slots slots p.1)
    passed_on_in_slots (many ts slots) p = (passed_on_in_trees ts p.0, passed_on_in_slots slots p.1)
    passed_on_in_slots (maybe_many ts slots) p = (passed_on_if_listed ts p.0, passed_on_in_slots slots p.1)

    passed_on_if_given : (m : Maybe) → EverywhereIfGiven f m → EverywhereIfGiven g m
    passed_on_if_given absent p = tt
    passed_on_if_given (given t) p = passed_on t p

    passed_on_in_trees : (ts : Trees) → EverywhereInTrees f ts → EverywhereInTrees g ts
    passed_on_in_trees no_trees p = tt
    passed_on_in_trees (more t ts) p = (passed_on t p.0, passed_on_in_trees ts p.1)
    passed_on_in_trees (hole ts) p = passed_on_in_trees ts p

    passed_on_if_listed : (ts : MaybeTrees) → EverywhereIfListed f ts → EverywhereIfListed g ts
    passed_on_if_listed no_list p = tt
    passed_on_if_listed (listed ts) p = passed_on_in_trees ts p

-- no plain node is a template behind a tag
plain_keeps : (type : NodeType) (a : Atoms) (slots : Slots) → is_plain_type type ≡ true → keeps_raw_texts (node type a slots) ≡ true
plain_keeps types.TaggedTemplateExpression a slots h = absurd (both_ways false refl h)
plain_keeps type a slots h = refl

plain_row_is_core : (t : Tree) → is_plain_row t ≡ true → is_core_row t ≡ true
plain_row_is_core (node type a slots) e =
    let p = and_parts (is_plain_by_type (node type a slots)) (is_formed (node type a slots)) e in
    let q = and_parts (is_plain_type type) (has_plain_flags type a) p.0 in
    and_from (is_core_by_type (node type a slots)) (is_formed (node type a slots)) (and_from (keeps_raw_texts (node type a slots)) (is_core_type type && has_core_flags type a) (plain_keeps type a slots q.0) (and_from (is_core_type type) (has_core_flags type a) (and_parts (is_core_type type) (not (is_core_alone type)) q.0).0 (and_parts (has_core_flags type a) (not (sets_core_flag type a)) q.1).0)) p.1

-- ---- the whole

pub plain_by_types : (p : Program Node) → Everywhere is_plain_by_type (program_plain p) → IsPlain (program_plain p)
plain_by_types p h = both_everywhere is_plain_by_type is_formed (program_plain p) h (program_is_formed p)

pub core_by_types : (p : Program Node) → Everywhere is_core_by_type (program_plain p) → IsCore (program_plain p)
core_by_types p h = both_everywhere is_core_by_type is_formed (program_plain p) h (program_is_formed p)

pub plain_is_core : (t : Tree) → IsPlain t → IsCore t
plain_is_core t p = passed_on is_plain_row is_core_row plain_row_is_core t p
