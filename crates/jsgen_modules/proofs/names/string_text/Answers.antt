use Rattle.jsgen_syntax.specs.Units.{js_units}
use Rattle.jsgen_modules.proofs.Texts.{string_printed}
use Rattle.jsgen_modules.proofs.names.string_text.Goals as goal

pub returns : goal.returns
returns c = λ tables. string_printed (λ s. s.now) tables c.as_str.result (js_units c.args.value.now) c.as_str.ensures.none c.as_str.ensures.text
