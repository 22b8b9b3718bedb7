use Rattle.std.proofs.Common.{◌≡◌, true, false, ◌==◌, List, [], ◌∷◌, ℕ, length, map, refl, ap, sym, ◌∙◌}
use Rattle.std.proofs.lemmas.Bool.{both_ways}
use Rattle.std.specs.Str.{chars}
use Rattle.jsgen_tree.specs.Characters.{characters}
use Rattle.jsgen_tree.specs.Options.{linked}
use Rattle.jsgen_tree.specs.declared.statements.Comment.{Comment}
use Rattle.jsgen_comments.specs.Plain.{comment_plain}
use Rattle.jsgen_model.specs.Ends.{licensed, reference}
use Rattle.jsgen_model.specs.Layout.{Pen, written, other_end}
use Rattle.jsgen_printer.specs.Printer.{pen_of}
use Rattle.jsgen_printer.proofs.Sequence.{goes_as}
use Rattle.jsgen_printer.proofs.printer.Printer.print_licences.Goals as goal

-- what stands at the end, where there are licences
some_linked : (path source : List ℕ) (cs : List Comment) (pen : Pen) → (length cs == 0) ≡ false → written (reference path) other_end pen ≡ licensed (linked path) (map (comment_plain source) cs) pen
some_linked path source [] pen h = absurd (both_ways true h refl)
some_linked path source (c ∷ cs) pen h = refl

pub returns-in-Linked : goal.returns-in-Linked
returns-in-Linked c =
    let path = characters c.in-Linked.path in
    let source = c.args.source.now in
    let pen = pen_of c.args.self.now in
    let some = sym c.is_empty.ensures ∙ c.if-is_empty.false in
    rw c.in-Linked.is (goes_as (licensed (linked path) (map (comment_plain source) c.args.licences.now))
    (ap (λ bytes. written (reference (chars bytes)) other_end pen) c.as_str.ensures.value ∙ some_linked path source c.args.licences.now pen some)
    c.print_reference_to.ensures)
