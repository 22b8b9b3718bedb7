use Rattle.std.proofs.Common.{◌≡◌, ◌*◌, ◌++◌, length, replicate, refl, ap, ◌∙◌, length-append, arith}
use Rattle.std.specs.Str.{chars}
use Rattle.jsgen_syntax.specs.Buffer.{buffer_bytes, indent_byte, indent_width}
use Rattle.jsgen_printer.specs.Printer.{pen_of}
use Rattle.jsgen_printer.proofs.Attempts.{went_on, ran_out}
use Rattle.jsgen_printer.proofs.Texts.{appended_text, stopped_chars, indent_chars, indent_bytes, indented_by, indented_code}
use Rattle.jsgen_printer.proofs.printer.Printer.print_levels.Goals as goal

pub returns-then-len-before : goal.returns-then-len-before
unfolding pen_of
returns-then-len-before c =
    let printer = c.args.self.now in
    let before = buffer_bytes printer.code in
    let n = printer.depth * indent_width printer.code in
    let all = c.in-Ok.ensures.appended in
    let more : chars (buffer_bytes c.print_indent.new.self) ≡ chars before ++ replicate n (indent_byte printer.code) = appended_text printer.code c.print_indent.new.self _ all ∙ ap (λ t. chars before ++ t) (indent_chars n printer.code) in
    let some : length (replicate n (indent_byte printer.code)) ≡ 0 → ⊥ = λ none. omega (arith, none, ap length all, length-append before (replicate n (indent_byte printer.code))) in
    went_on c.if-self.false c.if-self.false (rw (indented_by (replicate n (indent_byte printer.code)) (pen_of printer) some) cc)

pub returns-in-Err : goal.returns-in-Err
unfolding pen_of
returns-in-Err c =
    let printer = c.args.self.now in
    let levels = replicate (printer.depth * indent_width printer.code) (indent_byte printer.code) in
    let s = stopped_chars printer.code c.print_indent.new.self levels (rw (indent_bytes (printer.depth * indent_width printer.code) printer.code) c.in-Err.ensures.err) in
    ran_out c.if-self.false refl s.0 (rw (← indented_code levels (pen_of printer)) at s.1)
