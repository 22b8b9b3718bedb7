use Rattle.std.proofs.Common.{rules, refl, ap}
use Rattle.jsgen_tree.specs.Options.{linked}
use Rattle.jsgen_tree.proofs.Compared.{bare_is_by_value, text_is_by_characters}
use Rattle.jsgen_tree.proofs.laws.equality_is_by_value.Goals as goal
use Rattle.jsgen_tree.specs.contracts.types.NodeType.{the_type}
use Rattle.jsgen_tree.specs.declared.options.LegalComment.TheVariants as legals

pub returns-clause-node_type : goal.returns-clause-node_type
returns-clause-node_type c = bare_is_by_value the_type (search rules)

pub returns-clause-legal : goal.returns-clause-legal
returns-clause-legal c legals.None legals.None = (λ _. refl, λ _. refl)
returns-clause-legal c legals.None legals.Inline = (λ s. cc, λ e. cc)
returns-clause-legal c legals.None legals.Eof = (λ s. cc, λ e. cc)
returns-clause-legal c legals.None (legals.Linked y) = (λ s. cc, λ e. cc)
returns-clause-legal c legals.None legals.External = (λ s. cc, λ e. cc)
returns-clause-legal c legals.Inline legals.None = (λ s. cc, λ e. cc)
returns-clause-legal c legals.Inline legals.Inline = (λ _. refl, λ _. refl)
returns-clause-legal c legals.Inline legals.Eof = (λ s. cc, λ e. cc)
returns-clause-legal c legals.Inline (legals.Linked y) = (λ s. cc, λ e. cc)
returns-clause-legal c legals.Inline legals.External = (λ s. cc, λ e. cc)
returns-clause-legal c legals.Eof legals.None = (λ s. cc, λ e. cc)
returns-clause-legal c legals.Eof legals.Inline = (λ s. cc, λ e. cc)
returns-clause-legal c legals.Eof legals.Eof = (λ _. refl, λ _. refl)
returns-clause-legal c legals.Eof (legals.Linked y) = (λ s. cc, λ e. cc)
returns-clause-legal c legals.Eof legals.External = (λ s. cc, λ e. cc)
returns-clause-legal c (legals.Linked x) legals.None = (λ s. cc, λ e. cc)
returns-clause-legal c (legals.Linked x) legals.Inline = (λ s. cc, λ e. cc)
returns-clause-legal c (legals.Linked x) legals.Eof = (λ s. cc, λ e. cc)
returns-clause-legal c (legals.Linked x) (legals.Linked y) = let is = text_is_by_characters x y in (λ s. ap linked (is.0 s), λ e. is.1 (cc))
returns-clause-legal c (legals.Linked x) legals.External = (λ s. cc, λ e. cc)
returns-clause-legal c legals.External legals.None = (λ s. cc, λ e. cc)
returns-clause-legal c legals.External legals.Inline = (λ s. cc, λ e. cc)
returns-clause-legal c legals.External legals.Eof = (λ s. cc, λ e. cc)
returns-clause-legal c legals.External (legals.Linked y) = (λ s. cc, λ e. cc)
returns-clause-legal c legals.External legals.External = (λ _. refl, λ _. refl)
