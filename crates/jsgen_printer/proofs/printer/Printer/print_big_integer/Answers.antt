use Rattle.std.proofs.Common.{false}
use Rattle.std.specs.Str.{chars}
use Rattle.jsgen_model.specs.Items.{number}
use Rattle.jsgen_printer.specs.Printer.{pen_of}
use Rattle.jsgen_printer.proofs.Appends.{layout_appends}
use Rattle.jsgen_printer.proofs.Numbers.{suffix_behind}
use Rattle.jsgen_printer.proofs.Prefixes.{prefix_append}
use Rattle.jsgen_printer.proofs.Sequence.{goes_laid, goes_then, items_go}
use Rattle.jsgen_printer.proofs.printer.Printer.print_big_integer.Goals as goal

pub returns : goal.returns
returns c = goes_laid _ (suffix_behind (chars c.args.digits.now) (pen_of c.args.self.now)) (goes_then (λ pen. layout_appends (number false (chars c.args.digits.now)) pen) (λ pen. prefix_append pen.code _) (items_go c.print_number.ensures) c.print_str.ensures)
