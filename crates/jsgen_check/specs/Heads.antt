-- What a loop may not give its values.
use Rattle.std.specs.Prelude.{Bool, not}
use Rattle.jsgen_tree.specs.Tree.{Tree}
use Rattle.jsgen_tree.specs.Inside.{has_optional_link}
use Rattle.jsgen_tree.specs.Nodes as tree
use Rattle.jsgen_model.specs.Valid.{is_one_name}

-- a declaration but of one name without a value, and what has an optional link
abbrev pub misfits_left : Tree → Bool
misfits_left (tree.variable_declaration a declarations) = not (is_one_name declarations)
misfits_left t = has_optional_link t
