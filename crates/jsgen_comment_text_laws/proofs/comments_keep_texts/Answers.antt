use Rattle.jsgen_comment_text_laws.proofs.Texts as texts
use Rattle.jsgen_comment_text_laws.proofs.comments_keep_texts.Goals as goal

pub returns : goal.returns
returns c = texts.comments_keep_texts
