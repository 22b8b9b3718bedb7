use Rattle.std.proofs.Common.{◌≡◌, ◌==◌, false, sym, ◌∙◌}
use Rattle.jsgen_syntax.specs.Buffer.{buffer_bytes}
use Rattle.jsgen_printer.specs.Printer.{pen_of}
use Rattle.jsgen_printer.proofs.Lines.{mid, mid_behind, mid_by_bytes, mid_last, dark_last, space_last, tab_last, none_mid, same_not}
use Rattle.jsgen_printer.proofs.Texts.{code_is_text}
use Rattle.jsgen_printer.proofs.printer.Printer.is_mid_line.Goals as goal
use Rattle.jsgen_printer.proofs.printer.Printer.is_mid_line.Goals.{else-byte-ne32-via-then-byte-ne32+else-byte-ne9, else-byte-ne32-via-else-byte-ne32}

pub returns-then-byte-ne9 : goal.returns-then-byte-ne9
unfolding pen_of
returns-then-byte-ne9 c =
    let code = c.args.self.now.code in
    let byte = c.in-Some.byte.now in
    let last = mid_last c.loop-byte.rest.now c.in-Some.others.now byte c.in-Some.ensures.cases.0 in
    same_not (byte == 10) ∙ (sym (dark_last (mid false c.in-Some.others.now) byte c.if-byte-ne32.true c.if-byte-ne9.true) ∙ (sym last ∙ (c.loop-byte.invariant ∙ mid_by_bytes (buffer_bytes code) (code_is_text code))))

pub loop-byte-preserved : goal.loop-byte-preserved
loop-byte-preserved c =
    let byte = c.in-Some.byte.now in
    let before = mid false c.in-Some.others.now in
    let last = mid_last c.loop-byte.rest.now c.in-Some.others.now byte c.in-Some.ensures.cases.0 in
    let blank : mid_behind before byte ≡ before = elim c.else-byte-ne32.branch [ else-byte-ne32-via-then-byte-ne32+else-byte-ne9 w ↦ tab_last before byte w.if-byte-ne9.false | else-byte-ne32-via-else-byte-ne32 w ↦ space_last before byte w.if-byte-ne32.false ] in
    sym (last ∙ blank) ∙ c.loop-byte.invariant

pub returns : goal.returns
unfolding pen_of
returns c =
    let code = c.args.self.now.code in
    none_mid c.loop-byte.rest.now c.in_default.ensures.cases ∙ (c.loop-byte.invariant ∙ mid_by_bytes (buffer_bytes code) (code_is_text code))
