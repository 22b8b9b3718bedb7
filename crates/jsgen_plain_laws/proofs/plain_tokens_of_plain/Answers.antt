use Rattle.jsgen_plain_laws.proofs.Plainness as plainness
use Rattle.jsgen_plain_laws.proofs.plain_tokens_of_plain.Goals as goal

pub returns : goal.returns
returns c = plainness.plain_tokens
