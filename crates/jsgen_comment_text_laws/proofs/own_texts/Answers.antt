use Rattle.jsgen_comment_text_laws.proofs.Texts as texts
use Rattle.jsgen_comment_text_laws.proofs.own_texts.Goals as goal

pub returns : goal.returns
returns c = texts.own_texts
