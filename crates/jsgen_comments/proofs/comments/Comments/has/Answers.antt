use Rattle.std.proofs.Common.{◌==◌, not, length, ap, ◌∙◌}
use Rattle.jsgen_model.specs.Comments.{are_any}
use Rattle.jsgen_comments.proofs.Store.{absent, any_of, found}
use Rattle.jsgen_comments.proofs.comments.Comments.has.Goals as goal

pub returns-in-Some : goal.returns-in-Some
returns-in-Some c =
    let h = found c.args.self.now.source.now c.args.offset c.args.self.now.groups.entries c.in-Some.group.now c.in-Some.ensures.value in
    c.is_any.ensures ∙ (ap (λ cs. not (length cs == 0)) c.deref.ensures.value ∙ (any_of c.args.self.now.source.now c.in-Some.group.now.items ∙ ap are_any h))

pub returns-in-None : goal.returns-in-None
returns-in-None c = ap are_any (absent c.args.self.now.source.now c.args.offset c.args.self.now.groups.entries c.in-None.ensures.value)
