use Rattle.jsgen_model.specs.Punctuator.{Round, opening}
use Rattle.jsgen_model.specs.Layout.{written_if}
use Rattle.jsgen_model.specs.Lay.{annotated_if, annotated_from}
use Rattle.jsgen_printer.specs.Printer.{pen_of, start_of}
use Rattle.jsgen_printer.proofs.Comments.{annotated_if_adds}
use Rattle.jsgen_printer.proofs.Prefixes.{prefix_append}
use Rattle.jsgen_printer.proofs.Sequence.{goes_as, goes_then}
use Rattle.jsgen_printer.proofs.printer.Printer.begin_call.Goals as goal

pub returns-clause-goes : goal.returns-clause-goes
unfolding pen_of
returns-clause-goes c =
    let pen = pen_of c.args.self.now in
    let wraps = c.wraps_call-wraps.ensures in
    let on = c.annotates-annotates.ensures in
    goes_as (annotated_from (record { wrapped = c.args.test; lifted = c.args.lifted; pure = c.args.pure; span = c.args.span; start = c.args.offset }))
    (λ i. annotated_if (on i) c.args.span c.args.offset pen.start (written_if (wraps i) (opening Round) pen))
    (goes_then (λ p. prefix_append p.code _) (λ p. (annotated_if_adds _ c.args.span c.args.offset (start_of c.args.self.now.start) p).text) c.print_opening_if.ensures c.print_call_annotation_if.ensures)
