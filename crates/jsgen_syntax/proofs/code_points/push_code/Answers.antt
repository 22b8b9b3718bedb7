use Rattle.std.proofs.Common.{◌++◌, ap, sym, ◌∙◌, arith}
use Rattle.std.proofs.lemmas.Grind.{common_steps}
use Rattle.jsgen_syntax.proofs.Wtf8.{encode_two, encode_three, encode_four}
use Rattle.jsgen_syntax.proofs.code_points.push_code.Goals as goal

pub returns-in_ok-extend_from_slice : goal.returns-in_ok-extend_from_slice
returns-in_ok-extend_from_slice c = c.in_ok-extend_from_slice.ensures.items ∙ ap (λ l. c.args.bytes.now.items ++ l) (sym (encode_two c.args.code c.if-code-lt128.false c.if-code-lt2048.true))

pub returns-in_ok-extend_from_slice-2 : goal.returns-in_ok-extend_from_slice-2
returns-in_ok-extend_from_slice-2 c = c.in_ok-extend_from_slice-2.ensures.items ∙ ap (λ l. c.args.bytes.now.items ++ l) (sym (encode_three c.args.code c.if-code-lt2048.false c.if-code-lt65536.true))

pub returns-in_ok-extend_from_slice-3 : goal.returns-in_ok-extend_from_slice-3
returns-in_ok-extend_from_slice-3 c = c.in_ok-extend_from_slice-3.ensures.items ∙ ap (λ l. c.args.bytes.now.items ++ l) (sym (encode_four c.args.code c.if-code-lt65536.false))

pub returns-then-code-lt128 : goal.returns-then-code-lt128
returns-then-code-lt128 c = grind (arith, common_steps)
