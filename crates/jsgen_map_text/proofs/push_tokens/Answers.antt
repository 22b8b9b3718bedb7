use Rattle.std.proofs.Common.{◌++◌, flat_map, string_bytes, ap, ◌∙◌, arith}
use Rattle.std.proofs.lemmas.List.{take_all}
use Rattle.jsgen_map_text.specs.Lines.{token_line}
use Rattle.jsgen_map_text.proofs.Steps.{one_more}
use Rattle.jsgen_map_text.proofs.push_tokens.Goals as goal

pub loop-token-preserved : goal.loop-token-preserved
loop-token-preserved c = one_more token_line (string_bytes c.args.text.now) (string_bytes c.loop-token.text) (string_bytes c.push_token.new.text) c.args.tokens.now c.loop-token.token-index _ (omega arith) c.loop-token.invariant c.in_ok-push_token.ensures

pub returns : goal.returns
returns c = c.loop-token.invariant ∙ ap (λ ts. string_bytes c.args.text.now ++ flat_map token_line ts) (take_all c.loop-token.token-index c.args.tokens.now (omega arith))
