use Rattle.std.proofs.Common.{rules, tests, codes, ◌==◌}
use Rattle.std.specs.List.{list_any}
use Rattle.std.proofs.lemmas.Iterator.{YieldsList-from_chars}
use Rattle.std.proofs.lemmas.Iterator.Search.{any_from_yields_List}
use Rattle.jsgen_questions.proofs.numbers.takes_no_dot.Goals as goal

pub returns : goal.returns
returns c = any_from_yields_List (λ x. list_any (λ d. x == d) (codes ".eExXoObB")) _ _ c.any.result c.any.ensures.ran (YieldsList-from_chars c.args.text.now c.utf8.text (search rules)) (λ x b q k. search (rules, tests))
