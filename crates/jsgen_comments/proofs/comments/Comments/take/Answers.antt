use Rattle.std.proofs.Common.{refl, ap, ◌∙◌}
use Rattle.jsgen_model.specs.Comments.{without}
use Rattle.jsgen_comments.proofs.Store.{absent, found, left, same_store, groups_of}
use Rattle.jsgen_comments.proofs.comments.Comments.take.Goals as goal

pub returns-in-Some-clause-group : goal.returns-in-Some-clause-group
returns-in-Some-clause-group c = found c.args.self.now.source.now c.args.offset c.args.self.now.groups.entries c.in-Some.comments c.in-Some.ensures.value

pub returns-in-Some-clause-store : goal.returns-in-Some-clause-store
returns-in-Some-clause-store c =
    let source = c.args.self.now.source.now in
    let es = c.args.self.now.groups.entries in
    let keys = c.args.self.now.orphans.keys in
    same_store (groups_of source c.remove.new.self.entries) (without c.args.offset (groups_of source es)) keys keys (ap (groups_of source) c.in-Some.ensures.entries ∙ left source c.args.offset es) refl

pub returns-in-None-clause-group : goal.returns-in-None-clause-group
returns-in-None-clause-group c = absent c.args.self.now.source.now c.args.offset c.args.self.now.groups.entries c.in-None.ensures.value

pub returns-in-None-clause-store : goal.returns-in-None-clause-store
returns-in-None-clause-store c =
    let source = c.args.self.now.source.now in
    let es = c.args.self.now.groups.entries in
    let keys = c.args.self.now.orphans.keys in
    same_store (groups_of source c.remove.new.self.entries) (without c.args.offset (groups_of source es)) keys keys (ap (groups_of source) c.in-None.ensures.entries ∙ left source c.args.offset es) refl
