use Rattle.std.proofs.lemmas.Bool.Decides.{Decides-eqb}
use Rattle.std.proofs.lemmas.Slice.Eq.{slice_eq-Decides}
use Rattle.jsgen_syntax.proofs.Bytes.{js_units-are_units}
use Rattle.jsgen_modules.proofs.Texts.{same_bytes}
use Rattle.jsgen_modules.proofs.names.exports_as.Goals as goal

pub returns-in-StringLiteral-exported : goal.returns-in-StringLiteral-exported
returns-in-StringLiteral-exported c =
    let same = slice_eq-Decides Decides-eqb c.as_bytes.result.now c.as_bytes-in-StringLiteral-exported.result.now c.eq.result c.eq.ensures in
    rw (c.in-StringLiteral.is, c.in-StringLiteral-exported.is) (same_bytes c.eq.result c.as_bytes.result.now c.as_bytes-in-StringLiteral-exported.result.now _ _ (js_units-are_units c.in-StringLiteral.a.value.value) (js_units-are_units c.in-StringLiteral-exported.b.value.value) (rw c.deref.ensures at c.as_bytes.ensures) (rw c.deref-in-StringLiteral-exported.ensures at c.as_bytes-in-StringLiteral-exported.ensures) same)
