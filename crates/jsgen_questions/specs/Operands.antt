-- What matters of an operand.
use Rattle.jsgen_tree.specs.Tree.{Tree}
use Rattle.jsgen_model.specs.Spell.{is_prefixed, mixes}
use Rattle.jsgen_questions.specs.declared.operands.Operand.{Operand}

abbrev pub operand_of : Tree → Operand
operand_of tree = record { is_prefixed = is_prefixed tree; mixes = mixes tree }
