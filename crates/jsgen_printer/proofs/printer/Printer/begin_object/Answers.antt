use Rattle.std.proofs.Common.{◌≡◌, ◌||◌, ap, ◌∙◌}
use Rattle.jsgen_model.specs.Punctuator.{Round, opening}
use Rattle.jsgen_model.specs.Groups.{commented_if}
use Rattle.jsgen_model.specs.Items.{a_brace}
use Rattle.jsgen_model.specs.Layout.{nowhere, begun_at, written_if, text_if, is_barred}
use Rattle.jsgen_model.specs.Lay.{is_enclosed, commented_from}
use Rattle.jsgen_printer.specs.Printer.{pen_of}
use Rattle.jsgen_printer.proofs.Comments.{commented_if_adds}
use Rattle.jsgen_printer.proofs.Prefixes.{prefix_append, prefix_of_prefix, whole_prefix}
use Rattle.jsgen_printer.proofs.Sequence.{goes_as, goes_then}
use Rattle.jsgen_printer.proofs.printer.Printer.begin_object.Goals as goal

pub returns-clause-goes : goal.returns-clause-goes
returns-clause-goes c =
    let pen = pen_of c.args.self.now in
    let stood = c.has_comments-stood.ensures in
    let enclosed : c.is_enclosed-enclosed.result ≡ is_enclosed c.args.start pen = c.is_enclosed-enclosed.ensures ∙ ap (λ t. t || is_barred a_brace pen.start) stood in
    goes_as (commented_from c.args.start)
    (λ i. begun_at nowhere (commented_if (stood i) c.args.start (written_if (enclosed i) (opening Round) pen)))
    (goes_then (λ p. prefix_of_prefix (prefix_append p.code (text_if c.is_enclosed-enclosed.result (opening Round))) (commented_if_adds c.has_comments-stood.result c.args.start (written_if c.is_enclosed-enclosed.result (opening Round) p)).text) (λ p. whole_prefix p.code)
    (goes_then (λ p. prefix_append p.code _) (λ p. (commented_if_adds _ c.args.start p).text) c.print_opening_if.ensures c.print_lined_comments_if.ensures) c.begin_at.ensures)

pub returns-clause-enclosed : goal.returns-clause-enclosed
returns-clause-enclosed c = c.is_enclosed-enclosed.ensures ∙ ap (λ t. t || is_barred a_brace (pen_of c.args.self.now).start) c.has_comments-stood.ensures
