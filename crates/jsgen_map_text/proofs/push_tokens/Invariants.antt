use Rattle.std.proofs.Common.{◌≡◌, ◌++◌, flat_map, string_bytes, take}
use Rattle.jsgen_map_text.specs.Lines.{token_line}
use Rattle.jsgen_map_text.proofs.push_tokens.Given as goal

abbrev pub invariant-loop-token : goal.invariant-loop-token
invariant-loop-token l = string_bytes l.text ≡ string_bytes l.fn.text ++ flat_map token_line (take l.token-index l.tokens)
