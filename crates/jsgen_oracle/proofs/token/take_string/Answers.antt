use Rattle.std.proofs.Common.{◌≡◌, ◌∷◌, not, drop, is_some, sym, ap, ◌∙◌, subst}
use Rattle.jsgen_model.specs.Tokens.{Quoted}
use Rattle.jsgen_syntax.specs.Strings.{quote_char, string_value}
use Rattle.jsgen_oracle.specs.Steps.{StandsAt}
use Rattle.jsgen_oracle.proofs.Quoted.{mapped_none, mapped_some, string_stands, no_end, no_value}
use Rattle.jsgen_oracle.proofs.token.take_string.Goals as goal

pub returns-in_default : goal.returns-in_default
returns-in_default c = no_end c.args.quote c.args.text.now (sym c.count_before.ensures.value ∙ c.in_default.is)

pub returns-then-is_none : goal.returns-then-is_none
returns-then-is_none c = no_value c.args.quote c.args.text.now c.split_at.result.0.now c.in-Some.count (sym c.count_before.ensures.value ∙ c.in-Some.is) c.split_at.ensures.front (mapped_none _ _ _ c.in_ok-string_value_of.ensures (c.is_none.ensures ∙ ap not c.if-is_none.true))

pub returns : goal.returns
returns c =
    let rest : c.split_at-2.result.1.now ≡ drop 1 (drop c.in-Some.count c.args.text.now) = c.split_at-2.ensures.back ∙ ap (drop 1) c.split_at.ensures.back in
    let made = string_stands c.args.quote c.args.text.now c.in_ok-from_slice.field-0.items c.in-Some.count (sym c.count_before.ensures.value ∙ c.in-Some.is) (c.in_ok-from_slice.ensures.items ∙ c.split_at.ensures.front) in
    let spelled = mapped_some _ _ _ c.in_ok-string_value_of.ensures (c.is_none.ensures ∙ ap not c.if-is_none.false) in
    subst (λ r. StandsAt (quote_char c.args.quote ∷ c.args.text.now) (Quoted c.args.quote c.in_ok-from_slice.field-0.items) r) (sym rest) (made (ap is_some (ap (string_value c.args.quote) (c.in_ok-from_slice.ensures.items)) ∙ spelled))
