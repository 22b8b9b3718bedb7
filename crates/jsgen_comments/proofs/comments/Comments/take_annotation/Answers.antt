use Rattle.std.proofs.Common.{sym, ◌∙◌}
use Rattle.jsgen_model.specs.Groups.{fits}
use Rattle.jsgen_comments.specs.Plain.{annotation_of}
use Rattle.jsgen_comments.proofs.Annotated.{another, left, none, one}
use Rattle.jsgen_comments.proofs.comments.Comments.take_annotation.Goals as goal

pub returns-in_err-annotation-clause-found : goal.returns-in_err-annotation-clause-found
returns-in_err-annotation-clause-found c = none c.args.self.now.source.now (fits c.args.ends (annotation_of c.args.kind)) c.args.offset c.args.self.now.annotations.entries c.from_residual.result c.from_residual.ensures c.in_err-annotation.ensures.value

pub returns-then-fits-clause-found : goal.returns-then-fits-clause-found
returns-then-fits-clause-found c = one c.args.self.now.source.now (fits c.args.ends (annotation_of c.args.kind)) c.args.offset c.args.self.now.annotations.entries c.in_ok-annotation.field-0.now c.remove.result c.remove.ensures.value c.in_ok-annotation.ensures.value (sym c.fits.ensures ∙ c.if-fits.true)

pub returns-then-fits-clause-left : goal.returns-then-fits-clause-left
returns-then-fits-clause-left c = left c.args.self.now.source.now c.args.offset c.args.self.now.annotations.entries c.remove.new.self.entries c.in_ok-annotation.field-0.now c.remove.result c.remove.ensures.value c.in_ok-annotation.ensures.value c.remove.ensures.entries

pub returns-else-fits-clause-found : goal.returns-else-fits-clause-found
returns-else-fits-clause-found c = another c.args.self.now.source.now (fits c.args.ends (annotation_of c.args.kind)) c.args.offset c.args.self.now.annotations.entries c.in_ok-annotation.field-0.now c.in_ok-annotation.ensures.value (sym c.fits.ensures ∙ c.if-fits.false)
