use Rattle.std.proofs.Common.{ap, ◌∙◌}
use Rattle.std.specs.List.{list_any}
use Rattle.jsgen_model.specs.Groups.{is_key, is_key_annotation}
use Rattle.jsgen_tree.specs.declared.statements.Comment as tree
use Rattle.jsgen_comments.proofs.Store.{absent, keys_among, found}
use Rattle.jsgen_comments.proofs.comments.Comments.has_key_annotation.Goals as goal

pub returns-in-Some : goal.returns-in-Some
returns-in-Some c =
    let h = found c.args.self.now.source.now c.args.offset c.args.self.now.groups.entries c.in-Some.group.now c.in-Some.ensures.value in
    c.has_key.ensures ∙ (ap (list_any (λ (c : tree.Comment). is_key c.content)) c.deref.ensures.value ∙ (keys_among c.args.self.now.source.now c.in-Some.group.now.items ∙ ap (list_any is_key_annotation) h))

pub returns-in-None : goal.returns-in-None
returns-in-None c = ap (list_any is_key_annotation) (absent c.args.self.now.source.now c.args.offset c.args.self.now.groups.entries c.in-None.ensures.value)
