use Rattle.std.proofs.Common.{false, sym, ◌∙◌, subst}
use Rattle.std.specs.Str.{chars}
use Rattle.jsgen_oracle.specs.Plain.{tokens_plain}
use Rattle.jsgen_oracle.specs.Steps.{behind_blanks, mark_at, IsRow, HasNoRow}
use Rattle.jsgen_oracle.proofs.Rows.{row_tokens, no_row_no_tokens, nothing_left, something_left}
use Rattle.jsgen_oracle.proofs.tokens_of.Goals as goal

pub returns-in_default : goal.returns-in_default
returns-in_default c =
    let same = c.deref.ensures.value ∙ c.in_ok-characters.ensures in
    no_row_no_tokens _ (subst (λ t. HasNoRow (mark_at false t) (behind_blanks t)) same (rw c.in_default.is at c.in_ok-row.ensures.row))

pub returns-then-is_empty : goal.returns-then-is_empty
returns-then-is_empty c =
    let same = c.deref.ensures.value ∙ c.in_ok-characters.ensures in
    let row = subst (λ t. IsRow (mark_at false t) (behind_blanks t) (tokens_plain c.in-Some.row.tokens.items) c.in-Some.row.rest.now) same (rw c.in-Some.is at c.in_ok-row.ensures.row) in
    row_tokens _ _ (subst (λ x. IsRow (mark_at false (chars c.args.text.now)) (behind_blanks (chars c.args.text.now)) (tokens_plain c.in-Some.row.tokens.items) x) (nothing_left c.in-Some.row.rest.now (sym c.is_empty.ensures ∙ c.if-is_empty.true)) row)

pub returns : goal.returns
returns c =
    let same = c.deref.ensures.value ∙ c.in_ok-characters.ensures in
    let row = subst (λ t. IsRow (mark_at false t) (behind_blanks t) (tokens_plain c.in-Some.row.tokens.items) c.in-Some.row.rest.now) same (rw c.in-Some.is at c.in_ok-row.ensures.row) in
    something_left _ _ c.in-Some.row.rest.now (sym c.is_empty.ensures ∙ c.if-is_empty.false) row
