use Rattle.std.proofs.Common.{◌≡◌, ℕ, List, Bor, map, string_bytes, ap, ◌∙◌}
use Rattle.std.specs.Str.{encode_utf8_all}
use Rattle.jsgen_tree.specs.Plain.{program_plain}
use Rattle.jsgen_place.specs.Place.{among_statements}
use Rattle.jsgen_tree.specs.Options.{legal_plain}
use Rattle.jsgen_comments.specs.Plain.{comment_plain}
use Rattle.jsgen_model.specs.Layout.{Pen}
use Rattle.jsgen_model.specs.Spell.{spell}
use Rattle.jsgen_printer.specs.Printer.{pen_of, at_depth}
use Rattle.jsgen.specs.Codegen.{mapped_from}
use Rattle.jsgen.proofs.Maps.{begun, kept_source, whole}
use Rattle.jsgen.proofs.mapped.print_marked.Goals as goal
use Rattle.jsgen.proofs.mapped.print_marked.Goals.{After-into_parts}

-- the pen behind the program, whose marks lead to its source
laid : (c : After-into_parts) → pen_of c.in_ok-p.p ≡ whole (spell (program_plain c.args.program.now) among_statements) (legal_plain c.args.end.now.legal.now) (map (comment_plain (string_bytes c.args.program.now.source)) c.args.end.now.licences.items) (mapped_from c.args.depth (string_bytes c.args.program.now.source) (pen_of c.args.printer))
laid c =
    let items = spell (program_plain c.args.program.now) among_statements in
    let source = string_bytes c.args.program.now.source in
    let depth = c.args.depth in
    let legal = legal_plain c.args.end.now.legal.now in
    let cs = map (comment_plain source) c.args.end.now.licences.items in
    let lent : c.new-marks.result.source.now ≡ source = ap (λ (s : Bor (List ℕ)). s.now) c.new-marks.ensures.source ∙ c.as_str.ensures.value in
    c.in_ok-p.ensures ∙ (ap (λ (q : Pen). whole items legal cs (at_depth depth q)) c.with_marks.ensures.pen ∙ ap (λ (q : Pen). whole items legal cs q) (begun c.new-marks.result source depth (pen_of c.args.printer) lent c.new-marks.ensures.list))

pub returns-clause-code : goal.returns-clause-code
returns-clause-code c = c.into_parts.ensures.text ∙ ap (λ (q : Pen). encode_utf8_all q.code) (laid c)

pub returns-clause-source : goal.returns-clause-source
returns-clause-source c =
    let source = string_bytes c.args.program.now.source in
    c.into_parts.ensures.source ∙ (ap (λ (q : Pen). q.style.source) (laid c) ∙ kept_source (spell (program_plain c.args.program.now) among_statements) (legal_plain c.args.end.now.legal.now) (map (comment_plain source) c.args.end.now.licences.items) c.args.depth source (pen_of c.args.printer))

pub returns-clause-marks : goal.returns-clause-marks
returns-clause-marks c = c.into_parts.ensures.marks ∙ ap (λ (q : Pen). q.marks) (laid c)
