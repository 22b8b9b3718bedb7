use Rattle.std.proofs.Common.{◌≡◌, ◌++◌, ◌==◌, not, length, refl, sym, ap, ◌∙◌}
use Rattle.std.specs.List.{filter}
use Rattle.jsgen_tree.specs.declared.statements.Comment as tree
use Rattle.jsgen_model.specs.Comments.{outlives, without_outliving}
use Rattle.jsgen_comments.specs.Plain.{store_of}
use Rattle.jsgen_comments.proofs.Store.{absent, found, groups_of, same_store, with_none, with_outliving, without_none, without_all, without_some}
use Rattle.jsgen_comments.proofs.comments.Comments.move_outliving.Goals as goal
use Rattle.jsgen_comments.proofs.comments.Comments.move_outliving.Goals.{then-is_any+in_ok-insert+in-Some-1, then-is_any+in_ok-insert+in-None-1, else-is_any}

pub returns-in_default-clause-found : goal.returns-in_default-clause-found
returns-in_default-clause-found c =
    let source = c.args.self.now.source.now in
    let es = c.args.self.now.groups.entries in
    with_none source c.args.offset es c.args.found.now.items (absent source c.args.offset es c.in_default.ensures.value)

pub returns-in_default-clause-groups : goal.returns-in_default-clause-groups
returns-in_default-clause-groups c =
    let source = c.args.self.now.source.now in
    let o = c.args.offset in
    let es = c.args.self.now.groups.entries in
    let keys = c.args.self.now.orphans.keys in
    same_store (groups_of source c.remove.new.self.entries) (without_outliving o (groups_of source es)) keys keys (without_none source o es c.remove.new.self.entries (absent source o es c.in_default.ensures.value) c.in_default.ensures.entries) refl

pub returns-clause-found : goal.returns-clause-found
returns-clause-found c =
    let source = c.args.self.now.source.now in
    let o = c.args.offset in
    let es = c.args.self.now.groups.entries in
    with_outliving source o es c.in-Some.group.items c.args.found.now.items c.part.new.found.items (found source o es c.in-Some.group c.in-Some.ensures.value) (c.in_ok-others.ensures.found ∙ ap (λ cs. c.args.found.now.items ++ filter (λ (c : tree.Comment). outlives c.content) cs) c.deref.ensures.value)

pub returns-clause-groups : goal.returns-clause-groups
returns-clause-groups c =
    let source = c.args.self.now.source.now in
    let o = c.args.offset in
    let es = c.args.self.now.groups.entries in
    let keys = c.args.self.now.orphans.keys in
    let left = without_outliving o (groups_of source es) in
    let cs = c.in-Some.group.items in
    let v = c.in_ok-others.others in
    let is = found source o es c.in-Some.group c.in-Some.ensures.value in
    let others = c.in_ok-others.ensures.others ∙ ap (filter (λ (c : tree.Comment). not (outlives c.content))) c.deref.ensures.value in
    let any : not (length v.items == 0) ≡ c.is_any.result = sym (c.is_any.ensures ∙ ap (λ ds. not (length ds == 0)) c.deref-2.ensures.value) in
    elim c.if-is_any.branch [
      | then-is_any+in_ok-insert+in-Some-1 w ↦ ap store_of w.self-is ∙ same_store (groups_of source w.insert.new.self.entries) left keys keys (without_some source o es c.remove.new.self.entries w.insert.new.self.entries cs v is others (any ∙ w.if-is_any.true) c.in-Some.ensures.entries w.in_ok-insert.ensures.entries) refl
      | then-is_any+in_ok-insert+in-None-1 w ↦ ap store_of w.self-is ∙ same_store (groups_of source w.insert.new.self.entries) left keys keys (without_some source o es c.remove.new.self.entries w.insert.new.self.entries cs v is others (any ∙ w.if-is_any.true) c.in-Some.ensures.entries w.in_ok-insert.ensures.entries) refl
      | else-is_any w ↦ ap store_of w.self-is ∙ same_store (groups_of source c.remove.new.self.entries) left keys keys (without_all source o es c.remove.new.self.entries cs v.items is others (any ∙ w.if-is_any.false) c.in-Some.ensures.entries) refl
    ]
