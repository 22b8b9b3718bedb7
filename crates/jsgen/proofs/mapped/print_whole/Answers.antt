use Rattle.std.proofs.Common.{string_bytes, ap, sym, ◌∙◌}
use Rattle.jsgen_tree.specs.Plain.{program_plain}
use Rattle.jsgen_place.specs.Place.{among_statements}
use Rattle.jsgen_model.specs.Lay.{lay}
use Rattle.jsgen_model.specs.Layout.{Pen}
use Rattle.jsgen_model.specs.Spell.{spell}
use Rattle.jsgen_printer.proofs.Sequence.{items_go, went, went_before}
use Rattle.jsgen.specs.Licences.{ended_by}
use Rattle.jsgen.proofs.mapped.print_whole.Goals as goal

pub returns : goal.returns
returns c =
    let going = sym c.has_failed.ensures ∙ c.if-has_failed.false in
    let printed = items_go (rw c.among_statements.ensures at c.print_program.ensures) in
    let items = spell (program_plain c.args.program.now) among_statements in
    let ended = rw (c.as_str.ensures.value, c.deref.ensures.value) at c.print_licences.ensures in
    let before = went_before ended going in
    went ended going ∙ ap (λ (pen : Pen). ended_by c.args.end.now (string_bytes c.args.program.now.source) pen) (went printed before ∙ ap (λ (pen : Pen). lay items pen) (went c.set_depth.ensures.goes (went_before printed before)))
