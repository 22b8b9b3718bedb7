use Rattle.jsgen_printer.proofs.Classes.{in_class_laid}
use Rattle.jsgen_classes.proofs.classes.print_class_body.Goals as goal

pub returns : goal.returns
returns g c = in_class_laid c.enter_class-outer.result c.enter_class-outer.ensures.outer c.enter_class-outer.ensures.pen (rw (c.member.ensures, c.deref.ensures.value) at c.print_class_braces.ensures) c.leave_class.ensures.goes
