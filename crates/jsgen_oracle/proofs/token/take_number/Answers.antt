use Rattle.std.proofs.Common.{not, sym, ap, ◌∙◌, subst₂}
use Rattle.jsgen_syntax.specs.Escapes.{begins}
use Rattle.jsgen_model.specs.Tokens.{Number, is_barred_behind_number}
use Rattle.jsgen_oracle.specs.Steps.{StandsAt}
use Rattle.jsgen_oracle.proofs.Longest.{no_count, number_stands, barred}
use Rattle.jsgen_oracle.proofs.token.take_number.Goals as goal

pub returns-in_default : goal.returns-in_default
returns-in_default c = no_count c.args.text.now c.requires (sym c.count_number.ensures.value ∙ c.in_default.is)

pub returns-in_ok-from_slice : goal.returns-in_ok-from_slice
returns-in_ok-from_slice c =
    let text = c.args.text.now in
    let free = ap (λ x. not (begins is_barred_behind_number x)) (sym c.split_at.ensures.back) ∙ (sym c.may_follow.ensures ∙ c.if-may_follow.true) in
    subst₂ (λ w r. StandsAt text (Number w) r) (sym (c.in_ok-from_slice.ensures.items ∙ c.split_at.ensures.front)) (sym c.split_at.ensures.back) (number_stands text c.in-Some.count (sym c.count_number.ensures.value ∙ c.in-Some.is) free)

pub returns-else-may_follow : goal.returns-else-may_follow
returns-else-may_follow c = barred c.args.text.now c.in-Some.count c.requires (sym c.count_number.ensures.value ∙ c.in-Some.is) (ap (λ x. not (begins is_barred_behind_number x)) (sym c.split_at.ensures.back) ∙ (sym c.may_follow.ensures ∙ c.if-may_follow.false))
