use Rattle.std.proofs.Common.{sym, ap, ◌∙◌}
use Rattle.jsgen_tree.specs.Characters.{characters}
use Rattle.jsgen_model.specs.Valid.{piece_faults}
use Rattle.jsgen_rules.specs.Verdict.{verdict}
use Rattle.jsgen_check.proofs.Uncooked.{as_given}
use Rattle.jsgen_check.proofs.rules.templates.check_template_element_rules.Goals as goal

pub returns : goal.returns
returns c = (rw c.deref.ensures at c.check_piece.ensures) ∙ ap (λ units. verdict (piece_faults c.args.node.now.span (characters c.args.node.now.raw) units)) (sym (as_given c.args.node.now.cooked))
