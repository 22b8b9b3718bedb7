use Rattle.std.proofs.Common.{rules, ◌++◌, sym, ap, ◌∙◌}
use Rattle.std.specs.Str.{chars}
use Rattle.jsgen_tree.specs.Characters.{characters}
use Rattle.jsgen_model.specs.Ends.{tabbed}
use Rattle.jsgen_model.specs.Groups.{lines_of}
use Rattle.std.proofs.lemmas.Str.{chars-nil}
use Rattle.jsgen_comments.proofs.Wordings.{first_there, more_tabbed}
use Rattle.jsgen_comments.proofs.legal.tabbed.Goals as goal

pub loop-line-init : goal.loop-line-init
loop-line-init c = (c.utf8.text, ap (λ x. x ++ tabbed (lines_of (chars c.args.text.now))) (ap chars c.new-tabbed.ensures.bytes ∙ chars-nil))

pub loop-line-preserved : goal.loop-line-preserved
loop-line-preserved c =
    let line = chars c.in-Some.line.now in
    let others = lines_of (chars c.in-Some.others.now) in
    let first = first_there (lines_of (chars c.loop-line.rest.now)) line others c.in-Some.ensures in
    (search rules, ap (λ x. x ++ tabbed others) c.in_ok-push_line.ensures ∙ (more_tabbed (characters c.loop-line.tabbed) line others ∙ (ap (λ ls. characters c.loop-line.tabbed ++ tabbed ls) (sym first) ∙ c.loop-line.invariant.1)))
