use Rattle.std.proofs.Common.{◌≡◌, ℕ, Bool, ◌||◌, List, ◌++◌, Option, option_map, Result, Some, None, refl, sym, ◌∙◌, ap, subst, arith}
use Rattle.std.proofs.lemmas.Grind.{common_steps}
use Rattle.std.specs.Option.{option_copied, MatchOption}
use Rattle.std.specs.Result.{IfOk}
use Rattle.jsgen_syntax.specs.declared.memory.Memory.{Memory}
use Rattle.jsgen_model.specs.Punctuator.{opening, closing}
use Rattle.jsgen_model.specs.Tokens.{text_behind, has_line_end}
use Rattle.jsgen_oracle.specs.Plain.{bracket_plain, tokens_plain}
use Rattle.jsgen_oracle.specs.Steps.{opening_at, behind_blanks, mark_at, IsRow, HasNoRow}
use Rattle.jsgen_oracle.specs.declared.row.Row.{Row}
use Rattle.jsgen_oracle.proofs.Groups.{no_inside, not_closed, nothing_behind, group_stands, no_token, no_others, opening_start}
use Rattle.jsgen_oracle.proofs.Pieces.{stands_shorter}
use Rattle.jsgen_oracle.proofs.Made.{piece_first, group_first}
use Rattle.jsgen_oracle.proofs.row.+row.Goals as goal

-- what a result says of a row that begins there
abbrev RowFrom : Result (Option Row) Memory → Bool → List ℕ → Type 0
RowFrom result line text = IfOk result (λ r. MatchOption r (HasNoRow line text) (λ row. IsRow line text (tokens_plain row.tokens.items) row.rest.now))

pub take_group-returns-in_default-clause-row : goal.take_group-returns-in_default-clause-row
take_group-returns-in_default-clause-row t c = no_inside _ (bracket_plain c.args.bracket) c.args.text.now (rw c.in_default.is at c.in_ok-inside.ensures.row)

pub take_group-returns-in_default-text_behind-clause-row : goal.take_group-returns-in_default-text_behind-clause-row
take_group-returns-in_default-text_behind-clause-row t c =
    let inside = rw c.in-Some.is at c.in_ok-inside.ensures.row in
    let none : text_behind (closing (bracket_plain c.args.bracket)) c.in-Some.inside.rest.now ≡ None = ap (λ x. text_behind x c.in-Some.inside.rest.now) (sym c.closing.ensures) ∙ (sym c.text_behind.ensures ∙ ap option_copied c.in_default-text_behind.is) in
    not_closed _ (bracket_plain c.args.bracket) c.args.text.now _ _ inside none

pub take_group-returns-in_default-2-clause-row : goal.take_group-returns-in_default-2-clause-row
take_group-returns-in_default-2-clause-row t c =
    let inside = rw c.in-Some.is at c.in_ok-inside.ensures.row in
    let some : text_behind (closing (bracket_plain c.args.bracket)) c.in-Some.inside.rest.now ≡ Some c.in-Some-text_behind.behind.now = ap (λ x. text_behind x c.in-Some.inside.rest.now) (sym c.closing.ensures) ∙ (sym c.text_behind.ensures ∙ ap option_copied c.in-Some-text_behind.is) in
    nothing_behind _ (bracket_plain c.args.bracket) c.args.text.now _ _ _ inside some (rw c.in_default-2.is at c.in_ok-row.ensures.row)

pub take_group-returns-clause-row : goal.take_group-returns-clause-row
take_group-returns-clause-row t c =
    let inside = rw c.in-Some.is at c.in_ok-inside.ensures.row in
    let some : text_behind (closing (bracket_plain c.args.bracket)) c.in-Some.inside.rest.now ≡ Some c.in-Some-text_behind.behind.now = ap (λ x. text_behind x c.in-Some.inside.rest.now) (sym c.closing.ensures) ∙ (sym c.text_behind.ensures ∙ ap option_copied c.in-Some-text_behind.is) in
    let made = ap tokens_plain c.in_ok-put_first.ensures ∙ group_first c.args.line c.args.bracket c.in-Some.inside.tokens c.in-Some-2.row.tokens.items in
    subst (λ ts. IsRow c.args.line (opening (bracket_plain c.args.bracket) ++ c.args.text.now) ts c.in-Some-2.row.rest.now) (sym made) (group_stands c.args.line (bracket_plain c.args.bracket) c.args.text.now _ _ _ _ _ inside some (rw c.in-Some-2.is at c.in_ok-row.ensures.row))

pub take_others-take_row-requires : goal.take_others-take_row-requires
take_others-take_row-requires t c = (omega (arith, stands_shorter c.args.text.now _ c.in-Some.taken.rest.now (rw c.in-Some.is at c.in_ok-taken.ensures)), tt)

pub take_others-returns-in_default-clause-row : goal.take_others-returns-in_default-clause-row
take_others-returns-in_default-clause-row t c = no_token _ c.args.text.now c.requires.goes_on c.requires.no_group (rw c.in_default.is at c.in_ok-taken.ensures)

pub take_others-returns-in_default-2-clause-row : goal.take_others-returns-in_default-2-clause-row
take_others-returns-in_default-2-clause-row t c = no_others _ c.args.text.now _ _ c.requires.goes_on c.requires.no_group (rw c.in-Some.is at c.in_ok-taken.ensures) (rw c.in_default-2.is at c.in_ok-row.ensures.row)

pub take_others-returns-clause-row : goal.take_others-returns-clause-row
take_others-returns-clause-row t c =
    let made = ap tokens_plain c.in_ok-put_first.ensures ∙ piece_first c.args.line c.in-Some.taken.piece c.in-Some-2.row.tokens.items in
    subst (λ ts. IsRow c.args.line c.args.text.now ts c.in-Some-2.row.rest.now) (sym made) (_, refl, rw c.in-Some.is at c.in_ok-taken.ensures, rw c.in-Some-2.is at c.in_ok-row.ensures.row)

pub take_row-returns-in-Some-clause-row : goal.take_row-returns-in-Some-clause-row
take_row-returns-in-Some-clause-row t c =
    let count = c.count_blanks.ensures.value in
    let start : c.split_at.result.1.now ≡ behind_blanks c.args.text.now = rw count at c.split_at.ensures.back in
    let bracket : opening_at c.split_at.result.1.now ≡ Some (bracket_plain c.in-Some.bracket) = sym c.opening_at.ensures ∙ ap (λ o. option_map bracket_plain o) c.in-Some.is in
    let group : opening (bracket_plain c.in-Some.bracket) ++ c.split_at-in-Some.result.1.now ≡ behind_blanks c.args.text.now = ap (λ x. opening (bracket_plain c.in-Some.bracket) ++ x) c.split_at-in-Some.ensures.back ∙ (sym (opening_start _ _ bracket) ∙ start) in
    let mark : c.mark_at-line.result ≡ mark_at c.args.line c.args.text.now = c.mark_at-line.ensures ∙ ap (λ x. c.args.line || has_line_end x) (rw count at c.split_at.ensures.front) in
    subst (λ x. RowFrom c.take_group.result x (behind_blanks c.args.text.now)) mark (subst (λ x. RowFrom c.take_group.result c.mark_at-line.result x) group c.take_group.ensures.row)

pub take_others-returns-clause-within : goal.take_others-returns-clause-within
take_others-returns-clause-within t c = grind (arith, common_steps)
