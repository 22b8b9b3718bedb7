-- Trees without private names, hashbangs, regular expressions and templates; a template of one piece without a tag is a string.
use Rattle.std.proofs.Common.{◌≡◌, Bool, true, false, ◌&&◌, refl}
use Rattle.std.proofs.lemmas.Bool.{both_ways, and_from, and_parts}
use Rattle.jsgen_tree.specs.Tree.{Tree, node, Slots, no_slots, one, maybe, many, maybe_many, Maybe, absent, given, Trees, no_trees, more, hole, MaybeTrees, no_list, listed}
use Rattle.jsgen_tree.specs.Everywhere.{Everywhere, EverywhereInSlots, EverywhereIfGiven, EverywhereInTrees, EverywhereIfListed}
use Rattle.jsgen_tree.specs.Nodes as tree
use Rattle.jsgen_model.specs.Plain.{is_plain_row}

-- ---- what is said of them; the comments of a program don't count

abbrev pub FreeTemplate : Trees → Trees → Type 0
FreeTemplate (more q no_trees) no_trees = Unit {0}
FreeTemplate qs es = ⊥

abbrev mutual
  pub Free : Tree → Type 0
  Free (tree.private_identifier a) = ⊥
  Free (tree.hashbang a) = ⊥
  Free (tree.reg_exp_literal a) = ⊥
  Free (tree.tagged_template a tag quasi) = ⊥
  Free (tree.template_literal a quasis expressions) = FreeTemplate quasis expressions
  Free (tree.program a comments hashbang directives body) = FreeMaybe hashbang × FreeTrees directives × FreeTrees body
  Free (node type a slots) = FreeSlots slots

  pub FreeSlots : Slots → Type 0
  FreeSlots no_slots = Unit {0}
  FreeSlots (one t slots) = Free t × FreeSlots slots
  FreeSlots (maybe m slots) = FreeMaybe m × FreeSlots slots
  FreeSlots (many ts slots) = FreeTrees ts × FreeSlots slots
  FreeSlots (maybe_many ts slots) = FreeMaybeTrees ts × FreeSlots slots

  pub FreeMaybe : Maybe → Type 0
  FreeMaybe absent = Unit {0}
  FreeMaybe (given t) = Free t

  pub FreeTrees : Trees → Type 0
  FreeTrees no_trees = Unit {0}
  FreeTrees (more t ts) = Free t × FreeTrees ts
  FreeTrees (hole ts) = FreeTrees ts

  pub FreeMaybeTrees : MaybeTrees → Type 0
  FreeMaybeTrees no_list = Unit {0}
  FreeMaybeTrees (listed ts) = FreeTrees ts

-- ---- the same as a test

abbrev pub free_template : Trees → Trees → Bool
free_template (more q no_trees) no_trees = true
free_template qs es = false

abbrev mutual
  pub free : Tree → Bool
  free (tree.private_identifier a) = false
  free (tree.hashbang a) = false
  free (tree.reg_exp_literal a) = false
  free (tree.tagged_template a tag quasi) = false
  free (tree.template_literal a quasis expressions) = free_template quasis expressions
  free (tree.program a comments hashbang directives body) = free_maybe hashbang && (free_trees directives && free_trees body)
  free (node type a slots) = free_slots slots

  pub free_slots : Slots → Bool
  free_slots no_slots = true
  free_slots (one t slots) = free t && free_slots slots
  free_slots (maybe m slots) = free_maybe m && free_slots slots
  free_slots (many ts slots) = free_trees ts && free_slots slots
  free_slots (maybe_many ts slots) = free_maybe_trees ts && free_slots slots

  pub free_maybe : Maybe → Bool
  free_maybe absent = true
  free_maybe (given t) = free t

  pub free_trees : Trees → Bool
  free_trees no_trees = true
  free_trees (more t ts) = free t && free_trees ts
  free_trees (hole ts) = free_trees ts

  pub free_maybe_trees : MaybeTrees → Bool
  free_maybe_trees no_list = true
  free_maybe_trees (listed ts) = free_trees ts

-- ---- where the test passes, what it says holds

said_template : (qs es : Trees) → free_template qs es ≡ true → FreeTemplate qs es
said_template (more q no_trees) no_trees h = tt
said_template (more q no_trees) (more e es) h = both_ways false refl h
said_template (more q no_trees) (hole es) h = both_ways false refl h
said_template (more q (more r qs)) es h = both_ways false refl h
said_template (more q (hole qs)) es h = both_ways false refl h
said_template no_trees es h = both_ways false refl h
said_template (hole qs) es h = both_ways false refl h

mutual
  pub said : (t : Tree) → free t ≡ true → Free t
  said (tree.private_identifier a) h = both_ways false refl h
  said (tree.hashbang a) h = both_ways false refl h
  said (tree.reg_exp_literal a) h = both_ways false refl h
  said (tree.tagged_template a tag quasi) h = both_ways false refl h
  said (tree.template_literal a quasis expressions) h = said_template quasis expressions h
  said (tree.program a comments hashbang directives body) h = let g = and_parts (free_maybe hashbang) (free_trees directives && free_trees body) h in let k = and_parts (free_trees directives) (free_trees body) g.1 in (said_maybe hashbang g.0, said_trees directives k.0, said_trees body k.1)
  said (node type a slots) h = said_slots slots h

  said_slots : (s : Slots) → free_slots s ≡ true → FreeSlots s
  said_slots no_slots h = tt
  said_slots (one t s) h = let k = and_parts (free t) (free_slots s) h in (said t k.0, said_slots s k.1)
  said_slots (maybe m s) h = let k = and_parts (free_maybe m) (free_slots s) h in (said_maybe m k.0, said_slots s k.1)
  said_slots (many ts s) h = let k = and_parts (free_trees ts) (free_slots s) h in (said_trees ts k.0, said_slots s k.1)
  said_slots (maybe_many ts s) h = let k = and_parts (free_maybe_trees ts) (free_slots s) h in (said_maybe_trees ts k.0, said_slots s k.1)

  said_maybe : (m : Maybe) → free_maybe m ≡ true → FreeMaybe m
  said_maybe absent h = tt
  said_maybe (given t) h = said t h

  said_trees : (ts : Trees) → free_trees ts ≡ true → FreeTrees ts
  said_trees no_trees h = tt
  said_trees (more t ts) h = let k = and_parts (free t) (free_trees ts) h in (said t k.0, said_trees ts k.1)
  said_trees (hole ts) h = said_trees ts h

  said_maybe_trees : (ts : MaybeTrees) → free_maybe_trees ts ≡ true → FreeMaybeTrees ts
  said_maybe_trees no_list h = tt
  said_maybe_trees (listed ts) h = said_trees ts h

-- ---- it passes for plain trees

mutual
  pub plain_free : (t : Tree) → Everywhere is_plain_row t → free t ≡ true
  plain_free (tree.private_identifier a) h = absurd (both_ways false refl h.0)
  plain_free (tree.hashbang a) h = absurd (both_ways false refl h.0)
  plain_free (tree.reg_exp_literal a) h = absurd (both_ways false refl h.0)
  plain_free (tree.tagged_template a tag quasi) h = absurd (both_ways false refl h.0)
  plain_free (tree.template_literal a quasis expressions) h = absurd (both_ways false refl h.0)
  plain_free (tree.program a comments hashbang directives body) h = and_from (free_maybe hashbang) (free_trees directives && free_trees body) (plain_maybe hashbang h.1.1.0) (and_from (free_trees directives) (free_trees body) (plain_trees directives h.1.1.1.0) (plain_trees body h.1.1.1.1.0))
  plain_free (node type a slots) h = plain_slots slots h.1

  plain_slots : (s : Slots) → EverywhereInSlots is_plain_row s → free_slots s ≡ true
  plain_slots no_slots h = refl
  plain_slots (one t s) h = and_from (free t) (free_slots s) (plain_free t h.0) (plain_slots s h.1)
  plain_slots (maybe m s) h = and_from (free_maybe m) (free_slots s) (plain_maybe m h.0) (plain_slots s h.1)
  plain_slots (many ts s) h = and_from (free_trees ts) (free_slots s) (plain_trees ts h.0) (plain_slots s h.1)
  plain_slots (maybe_many ts s) h = and_from (free_maybe_trees ts) (free_slots s) (plain_maybe_trees ts h.0) (plain_slots s h.1)

  plain_maybe : (m : Maybe) → EverywhereIfGiven is_plain_row m → free_maybe m ≡ true
  plain_maybe absent h = refl
  plain_maybe (given t) h = plain_free t h

  plain_trees : (ts : Trees) → EverywhereInTrees is_plain_row ts → free_trees ts ≡ true
  plain_trees no_trees h = refl
  plain_trees (more t ts) h = and_from (free t) (free_trees ts) (plain_free t h.0) (plain_trees ts h.1)
  plain_trees (hole ts) h = plain_trees ts h

  plain_maybe_trees : (ts : MaybeTrees) → EverywhereIfListed is_plain_row ts → free_maybe_trees ts ≡ true
  plain_maybe_trees no_list h = refl
  plain_maybe_trees (listed ts) h = plain_trees ts h
