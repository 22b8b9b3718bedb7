-- What stands within all parentheses, as it is answered.
use Rattle.std.specs.Prelude.{Bool, true, false}
use Rattle.jsgen_tree.specs.Tree.{Tree}
use Rattle.jsgen_tree.specs.Rows.{expression_plain}
use Rattle.jsgen_tree.specs.Plain.{node_plain}
use Rattle.jsgen_tree.specs.declared.nodes.Node.{Node, Node-F, out-Node}
use Rattle.jsgen_tree.specs.declared.nodes.Node.TheOpen as layers
use Rattle.jsgen_tree.specs.declared.sets.Expression.{Expression}
use Rattle.jsgen_tree.specs.declared.sets.Expression.TheVariants as expressions
use Rattle.jsgen_tree.specs.declared.parentheses.Bare.{Bare}
use Rattle.jsgen_tree.specs.declared.parentheses.Bare.TheVariants as bares

-- its plain data
abbrev pub bare_plain : Bare → Tree
bare_plain (bares.Expression e) = expression_plain node_plain e.now
bare_plain (bares.Other n) = node_plain n.now

-- the expression has no parentheses of its own
abbrev pub is_bare : Expression Node → Bool
is_bare (expressions.ParenthesizedExpression b) = false
is_bare e = true

-- a layer of a node is made of something else than an expression
abbrev pub is_of_no_expression : Node-F Node → Bool
is_of_no_expression (layers.Expression e) = false
is_of_no_expression layer = true

-- nothing is left to strip: an expression has no parentheses, and what is answered as something else is no expression
abbrev pub is_stripped : Bare → Bool
is_stripped (bares.Expression e) = is_bare e.now
is_stripped (bares.Other n) = is_of_no_expression (out-Node n.now)
