use Rattle.std.proofs.Common.{arith}
use Rattle.jsgen_tool.proofs.Steps.{one_word_is}
use Rattle.jsgen_tool.proofs.top.is_word.Goals as goal

pub returns-in-len1 : goal.returns-in-len1
returns-in-len1 c =
    one_word_is c.args.words.now c.word-item.result c.as_str.result.now c.args.text.now c.eq.result
    (omega (arith, c.in-len1.len_at_least, c.in-len1.len_below)) c.word-item.is c.as_str.ensures.value c.eq.ensures
