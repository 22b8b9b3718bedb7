use Rattle.jsgen_fields.proofs.Gives.{handed_on}
use Rattle.jsgen_rows.proofs.read_head.Goals as goal

pub returns-in_err-options : goal.returns-in_err-options
returns-in_err-options c = handed_on _ _ _ _ c.from_residual.ensures (λ told. rw (c.in_err-options.ensures told))

pub returns-in_err-symbols : goal.returns-in_err-symbols
returns-in_err-symbols c = handed_on _ _ _ _ c.from_residual-in_err-symbols.ensures (λ told. rw (c.in_ok-options.ensures, c.in_err-symbols.ensures told))

pub returns-in_err-references : goal.returns-in_err-references
returns-in_err-references c = handed_on _ _ _ _ c.from_residual-in_err-references.ensures (λ told. rw (c.in_ok-options.ensures, c.in_ok-symbols.ensures, c.in_err-references.ensures told))

pub returns-in_err-private : goal.returns-in_err-private
returns-in_err-private c = handed_on _ _ _ _ c.from_residual-in_err-private.ensures (λ told. rw (c.in_ok-options.ensures, c.in_ok-symbols.ensures, c.in_ok-references.ensures, c.in_err-private.ensures told))

pub returns : goal.returns
returns c = rw (c.in_ok-options.ensures, c.in_ok-symbols.ensures, c.in_ok-references.ensures, c.in_ok-private.ensures, c.scoping_of.ensures)
