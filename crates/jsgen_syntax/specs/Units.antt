-- The value of a string: a list of units of UTF-16 (ECMA-262, 6.1.4).
pub use Rattle.jsgen_syntax.specs.Wtf8.{is_unit, are_units, joined_units, has_lone, wtf8_units}
use Rattle.std.specs.Prelude.{ℕ, List}
use Rattle.jsgen_syntax.specs.declared.js_str.JsStr.{JsStr}

abbrev pub js_units : JsStr → List ℕ
js_units s = wtf8_units s.bytes.items
