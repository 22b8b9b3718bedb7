use Rattle.std.proofs.Common.{◌∙◌, sym}
use Rattle.jsgen_syntax.specs.Units.{js_units}
use Rattle.jsgen_syntax.proofs.Wtf8.{kept_utf8}
use Rattle.jsgen_syntax.proofs.js_str.JsStr.as_str.Goals as goal

pub from_utf8_unchecked-requires : goal.from_utf8_unchecked-requires
from_utf8_unchecked-requires c =
    let s = c.args.self.now in
    kept_utf8 c.as_slice.result.now (js_units s) s.units (s.exact ∙ c.if-self.false) (s.joined ∙ sym c.as_slice.ensures.value)
