use Rattle.jsgen_comment_text_laws.proofs.Texts as texts
use Rattle.jsgen_comment_text_laws.proofs.jobs_indent_by_blanks.Goals as goal

pub returns : goal.returns
returns c = texts.jobs_indent_by_blanks
