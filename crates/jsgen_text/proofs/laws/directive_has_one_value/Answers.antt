use Rattle.jsgen_syntax.proofs.Raw.{one_value, printed_quote_value, directive_quote_value, directive_quote_plain, directive_text_value}
use Rattle.jsgen_syntax.specs.Raw.{directive_quote}
use Rattle.jsgen_text.proofs.laws.directive_has_one_value.Goals as goal

pub returns : goal.returns
returns c = record {
  agree = one_value;
  chosen = printed_quote_value;
  printed = λ wanted ascii raw us e. directive_text_value (directive_quote wanted raw) ascii raw us (directive_quote_plain wanted raw) (directive_quote_value wanted raw us e);
}
