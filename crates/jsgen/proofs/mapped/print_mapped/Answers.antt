use Rattle.std.proofs.Common.{ℕ, ◌^◌, ◌<◌, List, map, length, string_bytes, ap, sym, subst, ◌∙◌}
use Rattle.jsgen_tree.specs.Plain.{program_plain}
use Rattle.jsgen_place.specs.Place.{among_statements}
use Rattle.jsgen_tree.specs.Options.{legal_plain}
use Rattle.jsgen_comments.specs.Plain.{comment_plain}
use Rattle.jsgen_model.specs.Spell.{spell}
use Rattle.jsgen_printer.specs.Printer.{pen_of, marks_plain}
use Rattle.jsgen.proofs.Maps.{its_source, marks_from, not_none, same_map, same_marks}
use Rattle.jsgen.proofs.mapped.print_mapped.Goals as goal

pub map_of-requires-clause-source : goal.map_of-requires-clause-source
map_of-requires-clause-source c = subst (λ (s : List ℕ). length s < 2 ^ 32) (sym (its_source c.in_ok-code.marks c.in-Some.marks c.in-Some.is c.in_ok-code.ensures.source)) c.requires.source

pub map_of-requires-clause-marks : goal.map_of-requires-clause-marks
map_of-requires-clause-marks c =
    let source = string_bytes c.args.program.now.source in
    same_marks (its_source c.in_ok-code.marks c.in-Some.marks c.in-Some.is c.in_ok-code.ensures.source) (ap marks_plain (sym c.in-Some.is) ∙ c.in_ok-code.ensures.marks)
    (marks_from (spell (program_plain c.args.program.now) among_statements) (legal_plain c.args.end.legal.now) (map (comment_plain source) c.args.end.licences.items) c.args.depth source c.deref.result.now (pen_of c.args.printer) (c.deref.ensures ∙ c.in_ok-code.ensures.code) c.deref.utf8)

pub returns-in_ok-map-in-Some-clause-map : goal.returns-in_ok-map-in-Some-clause-map
returns-in_ok-map-in-Some-clause-map c =
    let made = c.in_ok-map-in-Some.ensures in
    let its = its_source c.in_ok-code.marks c.in-Some.marks c.in-Some.is c.in_ok-code.ensures.source in
    (made.path, made.content ∙ its, same_map (c.deref.ensures ∙ c.in_ok-code.ensures.code) its (ap marks_plain (sym c.in-Some.is) ∙ c.in_ok-code.ensures.marks) made.map)

pub returns-in-None-clause-map : goal.returns-in-None-clause-map
returns-in-None-clause-map c = not_none c.in_ok-code.marks c.in-None.is c.in_ok-code.ensures.source
