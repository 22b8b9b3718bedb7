use Rattle.std.proofs.Common.{List, ℕ, codes, ◌≡◌, ◌∷◌, reverse, ap, ◌∙◌}
use Rattle.std.specs.Str.{chars}
use Rattle.jsgen_tree.specs.Scoping.{tables_plain}
use Rattle.jsgen_model.specs.Items.{private_name}
use Rattle.jsgen_model.specs.Lay.{name_mark}
use Rattle.jsgen_model.specs.Layout.{Pen, written, other_end, with_private_name}
use Rattle.jsgen_model.specs.Private.{printed_private}
use Rattle.jsgen_printer.specs.Printer.{pen_of, name_written}
use Rattle.jsgen_printer.proofs.Classes.{behind_hash}
use Rattle.jsgen_printer.proofs.Prefixes.{prefix_append, whole_prefix}
use Rattle.jsgen_printer.proofs.Sequence.{goes_laid, goes_then}
use Rattle.jsgen_printer.proofs.printer.Printer.print_private_name.Goals as goal

-- the steps are named, or each would be found as all that it makes of a pen
pub returns : goal.returns
unfolding pen_of
returns c =
    let printer = c.args.self.now in
    let span = c.args.span in
    let name = chars c.args.name.now in
    let own = chars c.printed_name-printed.result.now in
    let printed = c.printed_name-printed.ensures ∙ ap (λ classes. printed_private (tables_plain printer.scope.tables) (reverse classes) name) c.deref.ensures.value in
    let marked : Pen → Pen = name_mark span (35 ∷ own) in
    let hashed : Pen → Pen = λ pen. written (chars (codes "#")) other_end (marked pen) in
    goes_laid {f = λ pen. name_written own (hashed pen)} (private_name span name)
    (behind_hash own (marked (pen_of printer)) ∙ ap (λ w. with_private_name w (name_mark span (35 ∷ w) (pen_of printer))) printed)
    (goes_then {f = hashed} {g = name_written own} (λ pen. prefix_append pen.code _) (λ pen. prefix_append pen.code _) (goes_then {f = marked} {g = written (chars (codes "#")) other_end} (λ pen. whole_prefix pen.code) (λ pen. prefix_append pen.code _) c.print_private_mark.ensures c.print_str.ensures) c.print_bare_name.ensures)
