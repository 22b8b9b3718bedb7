use Rattle.std.proofs.Common.{◌≡◌, Bool, Option, Some, None, true, option_map, sym, ◌∙◌}
use Rattle.jsgen_tree.specs.Tree.{Tree, Atoms, optional}
use Rattle.jsgen_tree.specs.Nodes.{if_statement}
use Rattle.jsgen_tree.specs.Inside.{ends_open}
use Rattle.jsgen_questions.proofs.endings.if_ends_open.Goals as goal

ends_as_alternate : (child : Option Tree) (b : Bool) (a : Atoms) (test consequent : Tree) → Some b ≡ option_map ends_open child → b ≡ ends_open (if_statement a test consequent (optional child))
ends_as_alternate None b a test consequent h = cc
ends_as_alternate (Some t) b a test consequent h = cc

ends_itself : (child : Option Tree) (a : Atoms) (test consequent : Tree) → None ≡ option_map ends_open child → true ≡ ends_open (if_statement a test consequent (optional child))
ends_itself None a test consequent h = cc
ends_itself (Some t) a test consequent h = cc

pub returns-in-Some : goal.returns-in-Some
returns-in-Some c = λ a test consequent child h. ends_as_alternate child c.in-Some.ends_open a test consequent (sym c.in-Some.is ∙ h)

pub returns-in-None : goal.returns-in-None
returns-in-None c = λ a test consequent child h. ends_itself child a test consequent (sym c.in-None.is ∙ h)
