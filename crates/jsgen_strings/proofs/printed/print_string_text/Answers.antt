use Rattle.jsgen_syntax.specs.Buffer.{buffer_bytes}
use Rattle.jsgen_syntax.specs.Units.{js_units}
use Rattle.jsgen_syntax.proofs.Bytes.{js_units-are_units}
use Rattle.jsgen_strings.proofs.Appending.{on_err, then_err, then_ok}
use Rattle.jsgen_strings.proofs.Escaped.{of_units, prefix_inside, prefix_before, whole_string}
use Rattle.jsgen_strings.proofs.printed.print_string_text.Goals as goal

pub print_escaped-requires : goal.print_escaped-requires
print_escaped-requires c = (of_units c.as_bytes.result.now (js_units c.args.value.now) (js_units-are_units c.args.value.now) c.as_bytes.ensures).points

pub returns-in_err-print_escaped-clause-err : goal.returns-in_err-print_escaped-clause-err
returns-in_err-print_escaped-clause-err c =
    let us = js_units c.args.value.now in
    let u = of_units c.as_bytes.result.now us (js_units-are_units c.args.value.now) c.as_bytes.ensures in
    on_err c.from_residual-in_err-print_escaped.result _
    (prefix_inside c.args.quote c.args.ascii_only us c.as_bytes.result.now (buffer_bytes c.args.code.now) (buffer_bytes c.print.new.code) u.are c.in_ok-print.ensures.appended (buffer_bytes c.print_escaped.new.code) c.in_err-print_escaped.ensures.err)

pub returns-clause-appended : goal.returns-clause-appended
returns-clause-appended c =
    let us = js_units c.args.value.now in
    let u = of_units c.as_bytes.result.now us (js_units-are_units c.args.value.now) c.as_bytes.ensures in
    then_ok c.print-2.result _ _
    (whole_string c.args.quote c.args.ascii_only us c.as_bytes.result.now (buffer_bytes c.args.code.now) (buffer_bytes c.print.new.code) u.are c.in_ok-print.ensures.appended (buffer_bytes c.print_escaped.new.code) (buffer_bytes c.print-2.new.code) c.in_ok-print_escaped.ensures.appended)
    c.print-2.ensures.appended

pub returns-clause-err : goal.returns-clause-err
returns-clause-err c =
    let us = js_units c.args.value.now in
    let u = of_units c.as_bytes.result.now us (js_units-are_units c.args.value.now) c.as_bytes.ensures in
    then_err c.print-2.result _ _
    (prefix_before c.args.quote c.args.ascii_only us c.as_bytes.result.now (buffer_bytes c.args.code.now) (buffer_bytes c.print.new.code) u.are c.in_ok-print.ensures.appended (buffer_bytes c.print_escaped.new.code) (buffer_bytes c.print-2.new.code) c.in_ok-print_escaped.ensures.appended)
    c.print-2.ensures.err
