use Rattle.std.proofs.Common.{◌∙◌}
use Rattle.jsgen_syntax.proofs.Wtf8.{kept_text}
use Rattle.jsgen_syntax.proofs.js_str.JsStr.from_text.Goals as goal

pub invariant_of-result : goal.invariant_of-result
invariant_of-result c =
    let k = kept_text c.in_ok-bytes.bytes.items c.args.s.now (c.in_ok-bytes.ensures.items ∙ c.as_bytes.ensures.value) c.utf8.s in
    record { units = k.units; joined = k.joined; exact = k.exact }
