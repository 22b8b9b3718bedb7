use Rattle.std.proofs.Common.{◌≡◌, Some, sym}
use Rattle.std.specs.Str.{chars}
use Rattle.jsgen_tree.specs.Characters.{characters}
use Rattle.jsgen_tree.specs.Inside.{behind_minus}
use Rattle.jsgen_nodes.proofs.expressions.print_big_int_literal.Goals as goal

pub returns-in-Some : goal.returns-in-Some
returns-in-Some c =
    let value = characters c.args.node.now.value in
    let is : behind_minus value ≡ Some (chars c.in-Some.digits.now) = sym (rw (c.as_str-value.ensures.value, c.in-Some.is) at c.behind_minus.ensures) in
    rw is (rw c.wraps.ensures at c.print_negative_big_integer.ensures)
