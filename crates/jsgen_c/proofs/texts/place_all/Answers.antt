use Rattle.std.proofs.Common.{◌∙◌}
use Rattle.jsgen_c.proofs.Row.{put_in_a_row, row_length}
use Rattle.jsgen_c.proofs.texts.place_all.Goals as goal

pub returns-clause-placed : goal.returns-clause-placed
returns-clause-placed c =
    let code = c.args.code.now in
    let map = c.args.map.now in
    let licences = c.args.licences.now in
    let one = c.put-end.ensures in
    let two = c.put-end-2.ensures in
    let three = c.put.ensures in
    (row_length code map licences, put_in_a_row code map licences c.args.buffer.now c.put-end.new.buffer c.put-end-2.new.buffer c.put.new.buffer c.put-end.result c.put-end-2.result one.placed one.end two.placed two.end three.placed, three.same ∙ (two.same ∙ one.same))
