use Rattle.std.proofs.Common.{◌≡◌, ℕ, Bool, ◌||◌, ◌+◌, List, ◌∷◌, true, false, map, drop, ap, sym, ◌∙◌}
use Rattle.std.proofs.lemmas.List.{at_drop_more}
use Rattle.jsgen_tree.specs.Tree.{Tree, trees, span_of}
use Rattle.jsgen_model.specs.Comments.{are_any}
use Rattle.jsgen_model.specs.Groups.{any_group, group_at}
use Rattle.jsgen_model.specs.Layout.{Pen}
use Rattle.jsgen_model.specs.Spell.{starts_of}
use Rattle.jsgen_printer.specs.Printer.{pen_of}
use Rattle.jsgen_lists.proofs.arguments.any_has_comments.Goals as goal

-- comments stand at the start of one of these
abbrev any : {E : Type 0} → (E → Tree) → Pen → List E → Bool
any plain pen es = any_group (starts_of (trees (map plain es))) pen

-- by the next one, and those behind it
told_by : {E : Type 0} (plain : E → Tree) (pen : Pen) (xs : List E) (i : ℕ) (x : E) (here : Bool) → any plain pen (drop i xs) ≡ any plain pen (x ∷ drop (i + 1) xs) → here ≡ are_any (group_at (span_of (plain x)).start pen) → any plain pen (drop i xs) ≡ any plain pen xs → (here || any plain pen (drop (i + 1) xs)) ≡ any plain pen xs
told_by plain pen xs i x here next is all = ap (λ b. b || any plain pen (drop (i + 1) xs)) is ∙ (sym next ∙ all)

pub loop-argument-preserved : goal.loop-argument-preserved
loop-argument-preserved g l =
    let plain = g.L.PrintArgument.plain in
    let pen = pen_of l.args.p.now in
    let xs = l.args.arguments.now in
    let i = l.loop-argument.argument-index in
    let x = l.argument-item.result in
    told_by plain pen xs i x false (at_drop_more (any plain pen) xs i x l.loop-argument-test.true ∙ sym (ap (λ y. any plain pen (y ∷ drop (i + 1) xs)) l.argument-item.is))
    (sym l.if-has_comments.false ∙ (l.has_comments.ensures ∙ ap (λ s. are_any (group_at s.start pen)) l.span.ensures)) l.loop-argument.invariant

pub returns-then-has_comments : goal.returns-then-has_comments
returns-then-has_comments g l =
    let plain = g.L.PrintArgument.plain in
    let pen = pen_of l.args.p.now in
    let xs = l.args.arguments.now in
    let i = l.loop-argument.argument-index in
    let x = l.argument-item.result in
    told_by plain pen xs i x true (at_drop_more (any plain pen) xs i x l.loop-argument-test.true ∙ sym (ap (λ y. any plain pen (y ∷ drop (i + 1) xs)) l.argument-item.is))
    (sym l.if-has_comments.true ∙ (l.has_comments.ensures ∙ ap (λ s. are_any (group_at s.start pen)) l.span.ensures)) l.loop-argument.invariant
