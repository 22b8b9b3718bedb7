use Rattle.std.proofs.Common.{ap, ◌∙◌}
use Rattle.std.specs.List.{list_any}
use Rattle.jsgen_model.specs.Groups.{is_for_tools, is_tool_annotation}
use Rattle.jsgen_tree.specs.declared.statements.Comment as tree
use Rattle.jsgen_comments.proofs.Store.{absent, for_tools_among, found}
use Rattle.jsgen_comments.proofs.comments.Comments.has_annotation_for_tools.Goals as goal

pub returns-in-Some : goal.returns-in-Some
returns-in-Some c =
    let h = found c.args.self.now.source.now c.args.offset c.args.self.now.groups.entries c.in-Some.group.now c.in-Some.ensures.value in
    c.has_any_for_tools.ensures ∙ (ap (list_any (λ (c : tree.Comment). is_for_tools c.content)) c.deref.ensures.value ∙ (for_tools_among c.args.self.now.source.now c.in-Some.group.now.items ∙ ap (list_any is_tool_annotation) h))

pub returns-in-None : goal.returns-in-None
returns-in-None c = ap (list_any is_tool_annotation) (absent c.args.self.now.source.now c.args.offset c.args.self.now.groups.entries c.in-None.ensures.value)
