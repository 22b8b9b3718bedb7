-- Braces round statements.
use Rattle.std.proofs.Common.{◌≡◌, ℕ, suc, List, [], ◌∷◌, map, length, true, false, ◌==◌, refl, subst, arith}
use Rattle.std.proofs.lemmas.Bool.{both_ways, eqb-true}
use Rattle.jsgen_syntax.specs.declared.span.Span.{Span}
use Rattle.jsgen_tree.specs.Tree.{Tree, trees}
use Rattle.jsgen_model.specs.Punctuator.{Brace, opening, closing}
use Rattle.jsgen_model.specs.Items.{Items, ◌⊕◌, soft_line, indentation, mark, end_mark, orphans}
use Rattle.jsgen_model.specs.Lay.{lay}
use Rattle.jsgen_model.specs.Layout.{Pen, written, other_end}
use Rattle.jsgen_model.specs.Spell.{braces, block_braces, filled_braces, empty_braces}
use Rattle.jsgen_model.specs.Printing.{IsPrefix}
use Rattle.jsgen_printer.specs.Printer.{pen_of, at_depth}
use Rattle.jsgen_printer.proofs.Prefixes.{prefix_append, more_prefix, prefix_of_prefix}
use Rattle.jsgen_printer.proofs.Appends.{layout_appends, layout_more}
use Rattle.jsgen_printer.specs.Steps.{Goes, Lays}
use Rattle.jsgen_printer.specs.declared.printer.Printer.{Printer}
use Rattle.jsgen_printer.proofs.Sequence.{goes_then, goes_laid, items_go}
use Rattle.jsgen_lists.specs.Lists.{braces_opened, braces_closed, orphan_braces}

-- where there is no statement, braces are empty
pub no_braces : {N : Type 0} (f : N → Tree) (s : Span) (xs : List N) (items : Items) → (length xs == 0) ≡ true → braces s (trees (map f xs)) items ≡ empty_braces s
no_braces f s [] items h = refl
no_braces f s (x ∷ xs) items h = absurd (omega (arith, eqb-true (suc (length xs)) 0 h))

-- where there is a statement, braces aren't empty
pub some_braces : {N : Type 0} (f : N → Tree) (s : Span) (xs : List N) (items : Items) → (length xs == 0) ≡ false → braces s (trees (map f xs)) items ≡ filled_braces s items
some_braces f s [] items h = absurd (both_ways true h refl)
some_braces f s (x ∷ xs) items h = refl

-- the same of braces round statements
pub no_block : {N : Type 0} (f : N → Tree) (s : Span) (xs : List N) (items : Items) → (length xs == 0) ≡ true → block_braces s (trees (map f xs)) items ≡ orphan_braces s
no_block f s [] items h = refl
no_block f s (x ∷ xs) items h = absurd (omega (arith, eqb-true (suc (length xs)) 0 h))

pub some_block : {N : Type 0} (f : N → Tree) (s : Span) (xs : List N) (items : Items) → (length xs == 0) ≡ false → block_braces s (trees (map f xs)) items ≡ filled_braces s (items ⊕ orphans s.end)
some_block f s [] items h = absurd (both_ways true h refl)
some_block f s (x ∷ xs) items h = refl

pub opening_appends : (s : Span) (pen : Pen) → IsPrefix pen.code (lay soft_line (written (opening Brace) other_end (lay (mark s) pen))).code
opening_appends s pen = layout_more soft_line (written (opening Brace) other_end (lay (mark s) pen)) (prefix_append pen.code (opening Brace))

closed_appends : (s : Span) (depth : ℕ) (pen : Pen) → IsPrefix pen.code (braces_closed s depth pen).code
closed_appends s depth pen = more_prefix (closing Brace) (layout_appends (indentation ⊕ end_mark s) (at_depth depth pen))

-- the level behind the braces is the one before them
pub braces_laid : {a b c d : Printer} {i : Items} (s : Span) (depth : ℕ) → depth ≡ (pen_of a).depth → Goes a b (braces_opened s) → Lays b c i → Goes c d (braces_closed s depth) → Lays a d (filled_braces s i)
braces_laid {a} {b} {c} {d} {i} s depth level h inside k =
    let closed : Goes c d (braces_closed s (pen_of a).depth) = subst (λ n. Goes c d (braces_closed s n)) level k in
    goes_laid (filled_braces s i) refl (goes_then (opening_appends s) (λ pen. prefix_of_prefix (layout_appends i pen) (closed_appends s (pen_of a).depth (lay i pen))) h (goes_then (λ pen. layout_appends i pen) (closed_appends s (pen_of a).depth) (items_go inside) closed))
