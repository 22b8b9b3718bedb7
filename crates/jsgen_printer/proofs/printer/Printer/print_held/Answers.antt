use Rattle.std.proofs.Common.{◌≡◌, ℕ, false, ◌==◌, List, [], ◌∷◌, length, map, refl, ap, sym, ◌∙◌}
use Rattle.jsgen_comments.specs.Plain.{comment_plain, group_plain}
use Rattle.jsgen_tree.specs.declared.statements.Comment.{Comment}
use Rattle.jsgen_model.specs.Groups.{group, closing_group, with_pending_space}
use Rattle.jsgen_model.specs.Layout.{Pen}
use Rattle.jsgen_printer.specs.Printer.{pen_of, group_of}
use Rattle.jsgen_printer.proofs.Comments.{group_adds}
use Rattle.jsgen_printer.proofs.Prefixes.{whole_prefix}
use Rattle.jsgen_printer.proofs.Sequence.{goes_as, goes_then}
use Rattle.jsgen_printer.proofs.printer.Printer.print_held.Goals as goal

-- where there are any
some_close : (source : List ℕ) (cs : List Comment) (pen : Pen) → (length cs == 0) ≡ false → with_pending_space false (group false (map (comment_plain source) cs) pen) ≡ closing_group (map (comment_plain source) cs) pen
some_close source [] pen h = cc
some_close source (c ∷ cs) pen h = refl

pub returns-then-not-is_empty : goal.returns-then-not-is_empty
returns-then-not-is_empty c =
    let pen = pen_of c.args.self.now in
    let g = c.in-Some.group in
    goes_as (closing_group (group_of c.args.held.now))
    (some_close g.source.now g.comments.items pen (ap (λ n. n == 0) (sym g.comments.ok.0) ∙ (sym c.is_empty.ensures ∙ c.if-not-is_empty.true)) ∙ ap (λ h. closing_group (group_of h) pen) (sym c.in-Some.is))
    (goes_then (λ p. (group_adds false (group_plain g) p).text) (λ p. whole_prefix p.code) c.print_group.ensures c.drop_pending_space.ensures)
