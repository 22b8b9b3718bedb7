use Rattle.std.proofs.Common.{ap, ◌∙◌}
use Rattle.std.specs.Str.{chars}
use Rattle.std.specs.Str.Iter.{chars_rest}
use Rattle.jsgen_model.specs.Groups.{lines_of}
use Rattle.jsgen_comments.proofs.Lines.{behind_both, behind_one, first_gone}
use Rattle.jsgen_comments.proofs.text.behind_line_end.Goals as goal

pub returns-in-Some : goal.returns-in-Some
returns-in-Some c = behind_both c.args.text.now c.in-Some.rest.now c.utf8.text c.in-Some.ensures.cases

pub returns-in-None : goal.returns-in-None
returns-in-None c =
    let gone = first_gone chars_rest c.chars-rest.result c.next.new.self c.args.text.now c.next.result c.chars-rest.ensures.rest c.next.ensures.steps.0 in
    ap (λ t. lines_of (chars t)) c.as_str.ensures ∙ behind_one c.args.text.now (chars_rest c.next.new.self) c.next.result c.utf8.text c.in-None.ensures.cases gone
