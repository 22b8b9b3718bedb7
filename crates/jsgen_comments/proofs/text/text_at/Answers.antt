use Rattle.std.proofs.Common.{sym, ◌∙◌}
use Rattle.jsgen_comments.proofs.Sources.{text_got}
use Rattle.jsgen_comments.proofs.text.text_at.Goals as goal

pub returns-then-spans_characters : goal.returns-then-spans_characters
returns-then-spans_characters c = text_got c.args.source.now c.args.span c.get.result c.get.ensures.cases c.if-span.true (sym c.spans_characters.ensures ∙ c.if-spans_characters.true)
