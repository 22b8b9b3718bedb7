-- The plain data of what stands within parentheses.
use Rattle.jsgen_tree.specs.Tree.{Tree}
use Rattle.jsgen_tree.specs.Rows.{expression_plain, assignment_target_plain}
use Rattle.jsgen_tree.specs.Plain.{node_plain}
use Rattle.jsgen_asked.specs.declared.inside.Inner.{Inner}
use Rattle.jsgen_asked.specs.declared.inside.Inner.TheVariants as inners

abbrev pub inner_plain : Inner → Tree
inner_plain (inners.Expression e) = expression_plain node_plain e.now
inner_plain (inners.Target t) = assignment_target_plain node_plain t.now
