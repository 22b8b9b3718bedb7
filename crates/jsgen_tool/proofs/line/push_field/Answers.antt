use Rattle.std.proofs.Common.{◌∙◌, sym, ◌++◌, codes, decimal, arith}
use Rattle.std.proofs.lemmas.Grind.{common_steps}
use Rattle.jsgen_tool.specs.Lines.{spot_row}
use Rattle.jsgen_tool.proofs.Loops.{then_part, first_part, on_ok, on_err}
use Rattle.jsgen_tool.proofs.line.push_field.Goals as goal

pub returns-then-is_err-clause-part : goal.returns-then-is_err-clause-part
returns-then-is_err-clause-part g c =
    first_part (g.K.Sink.got c.args.sink.now) (g.K.Sink.got c.push_row.new.sink) (spot_row c.args.at.row) (codes " field " ++ decimal c.args.at.field)
    (on_err c.push_row.result (sym c.is_err.ensures.value ∙ c.if-is_err.true) c.push_row.ensures.part)

pub returns-clause-part : goal.returns-clause-part
returns-clause-part g c =
    then_part (g.K.Sink.got c.args.sink.now) (g.K.Sink.got c.push_row.new.sink) (g.K.Sink.got c.push_number.new.sink) (spot_row c.args.at.row) (codes " field " ++ decimal c.args.at.field) c.push_number.result
    (on_ok c.push_row.result (sym c.is_err.ensures.value ∙ c.if-is_err.false) c.push_row.ensures.all) c.push_number.ensures.part

pub returns-clause-all : goal.returns-clause-all
returns-clause-all g c = grind (arith, common_steps)
