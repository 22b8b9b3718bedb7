use Rattle.jsgen_printer.proofs.Commented.{commented_laid}
use Rattle.jsgen_nodes.proofs.collections.print_object_expression.Goals as goal

pub returns : goal.returns
returns g c = commented_laid c.args.node.now.span.start c.begin_object-wrap.result c.begin_object-wrap.ensures.enclosed c.begin_object-wrap.ensures.goes (rw c.deref.ensures.value at c.print_properties.ensures) c.end_object.ensures
