use Rattle.std.proofs.Common.{[], ◌∷◌, ◌++◌, reverse, take, sym, ap, ◌∙◌, subst}
use Rattle.std.specs.Option.{IfSome}
use Rattle.std.proofs.Math.Seq.{take-append_seam}
use Rattle.std.proofs.lemmas.List.{reverse-append}
use Rattle.jsgen_printer.specs.Owners.{AreOf, held_in}
use Rattle.jsgen_printer.proofs.printer.classes.owners_within.Goals as goal

pub returns-in-Some : goal.returns-in-Some
returns-in-Some c = λ owned.
    let private = c.args.tables.private in
    let others = c.in-Some.others.now in
    let last = c.in-Some.number.now ∷ [] in
    let whole = c.in-Some.ensures.cases.0 in
    let left = ap (take c.args.outer) whole ∙ (ap (λ n. take n (others ++ last)) (sym c.if-others-outer.true) ∙ take-append_seam others last) in
    subst (λ cs. IfSome c.without_names.result (λ o. AreOf o (held_in private (reverse cs)))) (sym left)
    (c.without_names.ensures (held_in private (reverse others)) (subst (λ cs. IfSome c.args.owners (λ o. AreOf o (held_in private cs))) (ap reverse whole ∙ reverse-append others last) owned))
