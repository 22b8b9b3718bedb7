use Rattle.std.proofs.Common.{◌∙◌, [], Some, take, refl, sym, ap}
use Rattle.std.specs.Str.{chars}
use Rattle.jsgen_model.specs.Groups.{lines_of}
use Rattle.jsgen_model.specs.Tokens.{is_line_terminator}
use Rattle.jsgen_comments.specs.Plain.{behind_end}
use Rattle.jsgen_comments.proofs.Lines.{at_end, no_end, nothing, ends}
use Rattle.jsgen_comments.proofs.text.first_line.Goals as goal

pub returns-then-is_empty : goal.returns-then-is_empty
returns-then-is_empty c = nothing c.args.text.now (sym c.is_empty.ensures ∙ c.if-is_empty.true)

pub returns-in-Some : goal.returns-in-Some
returns-in-Some c =
    let a = c.in-Some.ensures.cases in
    ap (λ l. Some (chars l, lines_of (chars c.behind_line_end.result.now))) c.split_at.ensures.front
    ∙ (ap (λ ls. Some (chars (take c.in-Some.at c.args.text.now), ls)) (c.behind_line_end.ensures ∙ ap (λ t. behind_end (chars t)) c.split_at.ensures.back)
    ∙ at_end c.args.text.now c.in-Some.at a.0 c.utf8.text a.3 (a.1 is_line_terminator ends))

pub returns-in-None : goal.returns-in-None
returns-in-None c = no_end c.args.text.now [] c.utf8.text (sym c.is_empty.ensures ∙ c.if-is_empty.false) refl (c.in-None.ensures.cases is_line_terminator ends)
