-- Annotations by their offsets, as the map has them.
use Rattle.std.proofs.Common.{◌≡◌, ℕ, Bool, true, false, cond, if◌then◌else◌, List, [], ◌∷◌, option_map, Option, Some, None, sym, ap, ◌∙◌}
use Rattle.std.specs.BTreeMap.{insert_entry}
use Rattle.std.specs.List.{filter}
use Rattle.std.specs.Map.{lookup, remove_entry}
use Rattle.std.specs.Option.{is_some, option_to_list}
use Rattle.std.specs.Ordering.{nat_cmp}
use Rattle.jsgen_tree.specs.declared.statements.Comment as tree
use Rattle.jsgen_model.specs.Comments.{Comment, Groups, there, without, with_group}
use Rattle.jsgen_comments.specs.Plain.{comment_plain}
use Rattle.jsgen_comments.proofs.Places as places
use Rattle.jsgen_comments.proofs.Places.{at}

abbrev pub Entries : Type 0
Entries = List (ℕ × tree.Comment)

-- an annotation in a list of its own
abbrev pub own : List ℕ → tree.Comment → List Comment
own source c = comment_plain source c ∷ []

abbrev pub groups_of : List ℕ → Entries → Groups
groups_of source es = places.groups_of (own source) es

-- the annotation there, where the test holds of it
abbrev pub tested : List ℕ → (Comment → Bool) → ℕ → Entries → List Comment
tested source p o es = filter p (there o (groups_of source es))

-- one more
pub grown : (source : List ℕ) (o : ℕ) (c : tree.Comment) (es fs : Entries) → fs ≡ insert_entry nat_cmp es o c → groups_of source fs ≡ with_group o (comment_plain source c ∷ []) (groups_of source es)
grown source o c es fs e = ap (groups_of source) e ∙ places.inserted (own source) o es c

-- none is there
pub none : (source : List ℕ) (p : Comment → Bool) (o : ℕ) (es : Entries) (r : Option tree.Comment) → r ≡ None → None ≡ lookup (at o) es → option_to_list (option_map (comment_plain source) r) ≡ tested source p o es
none source p o es r n h = ap (λ x. option_to_list (option_map (comment_plain source) x)) n ∙ ap (filter p) (places.absent (own source) o es h)

-- one is there, and the test holds of it
pub one : (source : List ℕ) (p : Comment → Bool) (o : ℕ) (es : Entries) (c : tree.Comment) (r : Option tree.Comment) → r ≡ lookup (at o) es → Some c ≡ lookup (at o) es → p (comment_plain source c) ≡ true → option_to_list (option_map (comment_plain source) r) ≡ tested source p o es
one source p o es c r n h t =
    ap (λ x. option_to_list (option_map (comment_plain source) x)) (n ∙ sym h)
    ∙ (sym (ap (λ b. cond b (comment_plain source c ∷ []) []) t)
    ∙ ap (filter p) (places.found (own source) o es c h))

-- or it doesn't
pub another : (source : List ℕ) (p : Comment → Bool) (o : ℕ) (es : Entries) (c : tree.Comment) → Some c ≡ lookup (at o) es → p (comment_plain source c) ≡ false → [] ≡ tested source p o es
another source p o es c h t = sym (ap (λ b. cond b (comment_plain source c ∷ []) []) t) ∙ ap (filter p) (places.found (own source) o es c h)

-- it leaves
pub left : (source : List ℕ) (o : ℕ) (es fs : Entries) (c : tree.Comment) (r : Option tree.Comment) → r ≡ lookup (at o) es → Some c ≡ lookup (at o) es → fs ≡ remove_entry (at o) es → groups_of source fs ≡ (if is_some r then without o (groups_of source es) else groups_of source es)
left source o es fs c r n h out =
    ap (groups_of source) out
    ∙ (places.left (own source) o es
    ∙ sym (ap (λ x. if is_some x then without o (groups_of source es) else groups_of source es) (n ∙ sym h)))
