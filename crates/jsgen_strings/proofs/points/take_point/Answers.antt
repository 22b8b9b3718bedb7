use Rattle.jsgen_strings.proofs.Fronts.{front, front_within, taken}
use Rattle.jsgen_strings.proofs.points.take_point.Goals as goal

pub split_at-requires : goal.split_at-requires
split_at-requires c = front_within c.args.bytes.now (front c.args.bytes.now c.requires.points c.requires.some) c.point_len.result c.point_len.ensures

pub returns-clause-chars : goal.returns-clause-chars
returns-clause-chars c = (taken c.args.bytes.now _ _ _ _ c.requires.points c.requires.some c.point_len.ensures c.first_code-code.ensures c.split_at.ensures.front c.split_at.ensures.back).are

pub returns-clause-bytes : goal.returns-clause-bytes
returns-clause-bytes c = (taken c.args.bytes.now _ _ _ _ c.requires.points c.requires.some c.point_len.ensures c.first_code-code.ensures c.split_at.ensures.front c.split_at.ensures.back).text_is

pub returns-clause-behind : goal.returns-clause-behind
returns-clause-behind c = (taken c.args.bytes.now _ _ _ _ c.requires.points c.requires.some c.point_len.ensures c.first_code-code.ensures c.split_at.ensures.front c.split_at.ensures.back).points
