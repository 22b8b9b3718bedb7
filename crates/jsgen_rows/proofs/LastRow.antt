-- The last row that is kept is the one that was pushed last.
use Rattle.std.proofs.Common.{◌≡◌, List, [], ◌∷◌, ◌++◌, ◌-◌, length, Some, ap, ◌∙◌}
use Rattle.std.proofs.lemmas.List.{map-append, length-map}
use Rattle.jsgen_tree.specs.Tree.{Tree}
use Rattle.jsgen_fields.specs.Values.{at}
use Rattle.jsgen_pool.specs.Pool.{Entry}
use Rattle.jsgen_fields.specs.Reads.{root_of, root_found}
use Rattle.jsgen_kept.specs.Kept.{entry, entries}
use Rattle.jsgen_pool.specs.declared.Kept.{Kept}
use Rattle.jsgen_kept.specs.declared.kept.AnyRow.{AnyRow}
use Rattle.jsgen_fields.proofs.Listed.{slice_get-last, length-last}

at_last : (es : List Entry) (e : Entry) → root_of (es ++ e ∷ []) ≡ root_found (at (length es) 0) (Some e)
at_last es e = ap (λ o. root_found (at (length (es ++ e ∷ []) - 1) 0) o) (slice_get-last es e) ∙ ap (λ n. root_found (at n 0) (Some e)) (length-last es e)

pub root_pushed : {N : Type 0} (plain : N → Tree) (all before : List (Kept (AnyRow N))) (k : Kept (AnyRow N)) → all ≡ before ++ k ∷ [] → root_of (entries plain all) ≡ root_found (at (length before) 0) (Some (entry plain k))
root_pushed plain all before k e = ap (λ x. root_of (entries plain x)) e ∙ ap root_of (map-append (entry plain) before (k ∷ [])) ∙ at_last (entries plain before) (entry plain k) ∙ ap (λ n. root_found (at n 0) (Some (entry plain k))) (length-map before (entry plain))
