-- The type of a row that begins at a word.
use Rattle.std.proofs.Common.{rules, ◌≡◌, ◌≤◌, ◌<◌, ℕ, ◌+◌, ◌/◌, true, false, length, nat_le, slice_get, Some, None, refl, sym}
use Rattle.jsgen_tree.specs.declared.types.NodeType.{NodeType}
use Rattle.jsgen_flat.specs.Names.{node_types}
use Rattle.jsgen_flat.specs.Flat.{Sections, word, width, row_type}

le_true : (a b : ℕ) → a ≤ b → nat_le a b ≡ true
le_true a b h = search rules

le_false : (a b : ℕ) → b < a → nat_le a b ≡ false
le_false a b h = search rules

pub there : (p : Sections) (n : ℕ) (type : NodeType) → Some type ≡ slice_get node_types (word p.rows n) → n + width type ≤ length p.rows / 4 → Some type ≡ row_type p n
unfolding row_type
there p n type e h = rw (sym e, le_true _ _ h) refl

pub too_long : (p : Sections) (n : ℕ) (type : NodeType) → Some type ≡ slice_get node_types (word p.rows n) → length p.rows / 4 < n + width type → None ≡ row_type p n
unfolding row_type
too_long p n type e h = rw (sym e, le_false _ _ h) refl

pub no_type : (p : Sections) (n : ℕ) → None ≡ slice_get node_types (word p.rows n) → None ≡ row_type p n
unfolding row_type
no_type p n e = rw (sym e) refl
