-- Lists of trees, one behind another.
use Rattle.std.proofs.Common.{◌≡◌, refl, sym, ap, ◌∙◌}
use Rattle.jsgen_tree.specs.Tree.{Trees, no_trees, more, hole}
use Rattle.jsgen_model.specs.Normal.{normal, normal_trees, joined, parts_of, flattened}

pub joined_nothing : (ts : Trees) → joined ts no_trees ≡ ts
joined_nothing no_trees = refl
joined_nothing (more t ts) = ap (λ us. more t us) (joined_nothing ts)
joined_nothing (hole ts) = ap (λ us. hole us) (joined_nothing ts)

pub joined_assoc : (a b c : Trees) → joined (joined a b) c ≡ joined a (joined b c)
joined_assoc no_trees b c = refl
joined_assoc (more t ts) b c = ap (λ us. more t us) (joined_assoc ts b c)
joined_assoc (hole ts) b c = ap (λ us. hole us) (joined_assoc ts b c)

pub joined_normal : (ts us : Trees) → normal_trees (joined ts us) ≡ joined (normal_trees ts) (normal_trees us)
joined_normal no_trees us = refl
joined_normal (more t ts) us = ap (λ vs. more (normal t) vs) (joined_normal ts us)
joined_normal (hole ts) us = ap (λ vs. hole vs) (joined_normal ts us)

pub flattened_joined : (ts us : Trees) → flattened (joined ts us) ≡ joined (flattened ts) (flattened us)
flattened_joined no_trees us = refl
flattened_joined (more t ts) us = ap (λ vs. joined (parts_of t) vs) (flattened_joined ts us) ∙ sym (joined_assoc (parts_of t) (flattened ts) (flattened us))
flattened_joined (hole ts) us = ap (λ vs. hole vs) (flattened_joined ts us)
