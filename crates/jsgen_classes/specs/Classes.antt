-- Classes, without the parentheses that may stand round them.
use Rattle.std.specs.Prelude.{codes}
use Rattle.jsgen_syntax.specs.declared.precedence.Precedence.TheVariants.{Lowest}
use Rattle.jsgen_tree.specs.Tree.{Tree}
use Rattle.jsgen_tree.specs.Nodes as tree
use Rattle.jsgen_place.specs.declared.place.Place.{Place}
use Rattle.jsgen_place.specs.Place.{child, with_calls}
use Rattle.jsgen_model.specs.Items.{Items, nothing, ◌⊕◌, marked_word, soft_space}
use Rattle.jsgen_model.specs.Spell.{spell, spell_behind_word, spell_heritage}

-- a class from its word on
abbrev pub from_word : Tree → Place → Items
from_word (tree.class a id heritage body) place =
    marked_word a.span (codes "class") ⊕ spell_behind_word id (child Lowest place) ⊕ spell_heritage heritage ⊕ soft_space ⊕ spell body (with_calls (child Lowest place))
from_word t place = nothing
