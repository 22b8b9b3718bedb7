-- What is said of a rule that a tree breaks: its name, and where.
use Rattle.std.specs.Prelude.{ℕ, List, ◌++◌, codes, decimal}
use Rattle.jsgen_model.specs.declared.fault.TreeFault.{TreeFault}
use Rattle.jsgen_model.specs.declared.fault.TreeFault.TheVariants as rules

abbrev pub rule_text : TreeFault → List ℕ
rule_text (rules.Place start) = codes "Place at " ++ decimal start
rule_text (rules.Name start) = codes "Name at " ++ decimal start
rule_text (rules.Literal start) = codes "Literal at " ++ decimal start
rule_text (rules.Template start) = codes "Template at " ++ decimal start
rule_text (rules.Span start) = codes "Span at " ++ decimal start
rule_text (rules.Comment start) = codes "Comment at " ++ decimal start
rule_text (rules.Indent start) = codes "Indent at " ++ decimal start
