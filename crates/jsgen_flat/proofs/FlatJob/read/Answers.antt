use Rattle.std.proofs.Common.{rules, ◌≡◌, true}
use Rattle.jsgen_flat.specs.Flat.{is_whole}
use Rattle.jsgen_flat.proofs.Sections.{read_as}
use Rattle.jsgen_flat.proofs.FlatJob.read.Goals as goal

pub returns-in-Ok-clause-read : goal.returns-in-Ok-clause-read
returns-in-Ok-clause-read c =
    let whole : is_whole c.args.bytes.now ≡ true = search rules in
    let ends = c.ends_of-ends.ensures in
    read_as c.args.bytes.now c.word.result c.ends_of-ends.result.rows c.ends_of-ends.result.lists c.ends_of-ends.result.texts c.ends_of-ends.result.heap c.ends_of-ends.result.head c.in-Ok.heap.now c.word.ensures ends.rows ends.lists ends.texts ends.heap ends.head c.in-Ok.ensures.cases.0 c.in-Ok.ensures.cases.1 whole
