use Rattle.jsgen_tree.specs.Rows.{template_element_row}
use Rattle.jsgen_nodes.proofs.OnePiece.{one_piece}
use Rattle.jsgen_nodes.proofs.templates.is_one.Goals as goal

pub returns : goal.returns
returns c = one_piece template_element_row c.args.pieces.now
