use Rattle.std.proofs.Common.{◌-◌, sym, arith}
use Rattle.jsgen_printer.proofs.Marked.{begins_at}
use Rattle.jsgen_printer.proofs.printer.marks.last_character.Goals as goal

pub returns : goal.returns
returns c =
    let found = c.floor_char_boundary.ensures in
    sym (begins_at c.args.source.now (c.args.span.end - 1) c.floor_char_boundary.result (omega arith) (omega arith) found.boundary (λ j l m. found.nearest j l (omega arith)))
