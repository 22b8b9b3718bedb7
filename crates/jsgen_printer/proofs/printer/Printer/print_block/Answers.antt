use Rattle.std.proofs.Common.{rules, ap, arith}
use Rattle.std.specs.Str.{chars}
use Rattle.jsgen_model.specs.Groups.{block_lines, lines_of}
use Rattle.jsgen_printer.specs.Printer.{pen_of}
use Rattle.jsgen_printer.proofs.Comments.{block_line_adds, block_lines_add}
use Rattle.jsgen_printer.proofs.Lines.{first_there, none_there}
use Rattle.jsgen_printer.proofs.Onward.{set_out, onward, arrived}
use Rattle.jsgen_printer.proofs.printer.Printer.print_block.Goals as goal

pub loop-line-init : goal.loop-line-init
loop-line-init c = record { valid = c.utf8.text; onward = set_out c.args.self.now (block_lines (lines_of (chars c.args.text.now))) }

pub loop-line-smaller : goal.loop-line-smaller
loop-line-smaller c =
    let first = first_there (lines_of (chars c.loop-line.rest.now)) (chars c.in-Some.line.now) (lines_of (chars c.in-Some.others.now)) c.in-Some.ensures in
    rw first (omega arith)

pub loop-line-preserved : goal.loop-line-preserved
loop-line-preserved c =
    let first = first_there (lines_of (chars c.loop-line.rest.now)) (chars c.in-Some.line.now) (lines_of (chars c.in-Some.others.now)) c.in-Some.ensures in
    record {
      valid = search rules;
      onward = onward (block_lines (lines_of (chars c.in-Some.others.now))) (λ pen. (block_line_adds (chars c.in-Some.line.now) pen).text) (λ pen. (block_lines_add (lines_of (chars c.in-Some.others.now)) pen).text) (ap (λ ls. block_lines ls (pen_of c.loop-line.self)) first) c.loop-line.invariant.onward c.print_block_line.ensures;
    }

pub returns : goal.returns
returns c =
    let none = none_there (lines_of (chars c.loop-line.rest.now)) c.in_default.ensures in
    arrived (ap (λ ls. block_lines ls (pen_of c.loop-line.self)) none) c.loop-line.invariant.onward
