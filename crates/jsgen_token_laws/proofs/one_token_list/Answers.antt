use Rattle.jsgen_token_laws.proofs.OneList as list
use Rattle.jsgen_token_laws.proofs.one_token_list.Goals as goal

pub returns : goal.returns
returns c = list.one_token_list
