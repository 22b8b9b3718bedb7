use Rattle.std.specs.Str.{chars}
use Rattle.jsgen_strings.proofs.Appending.{same_text}
use Rattle.jsgen_strings.proofs.PointTexts.{control_point, ascii_point, point_past_ascii}
use Rattle.jsgen_strings.proofs.printed.print_point.Goals as goal

pub returns-then-point-lt32-clause-appended : goal.returns-then-point-lt32-clause-appended
returns-then-point-lt32-clause-appended c = same_text _ _ _ _ _ (control_point c.args.quote c.args.ascii_only c.args.after_less c.args.point.code (chars c.args.point.behind.now) c.if-point-lt32.true) c.print_control.ensures.appended

pub returns-then-point-lt128-clause-appended : goal.returns-then-point-lt128-clause-appended
returns-then-point-lt128-clause-appended c = same_text _ _ _ _ _ (ascii_point c.args.quote c.args.ascii_only c.args.after_less c.args.point.code (chars c.args.point.behind.now) c.if-point-lt32.false c.if-point-lt128.true) c.print_character.ensures.appended

pub returns-else-point-lt128-clause-appended : goal.returns-else-point-lt128-clause-appended
returns-else-point-lt128-clause-appended c = same_text _ _ _ _ _ (point_past_ascii c.args.quote c.args.ascii_only c.args.after_less c.args.point.code (chars c.args.point.behind.now) c.if-point-lt32.false c.if-point-lt128.false) c.print_past_ascii.ensures.appended
