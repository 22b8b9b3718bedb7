use Rattle.std.proofs.Common.{Some, length, refl, ap, sym, ◌∙◌}
use Rattle.std.proofs.lemmas.Option.{slice_get_read, slice_get_past}
use Rattle.jsgen_tree.specs.Scoping.{scoping_plain}
use Rattle.jsgen_model.specs.Valid.{names_a_symbol}
use Rattle.jsgen_rules.proofs.names.has_reference.Goals as goal

pub returns-in-Some-Some : goal.returns-in-Some-Some
returns-in-Some-Some c =
    let scoping = scoping_plain c.args.scoping.now in
    let entry = rw c.deref.ensures.value at c.in-Some-Some.ensures.lookup in
    let found = slice_get_read scoping.references (length scoping.references) c.args.reference c.in-Some-Some.field-0.now refl entry.3.0 entry.1 in
    c.has_symbol.ensures ∙ sym (ap (names_a_symbol scoping.symbols) (found ∙ ap Some c.in-Some-Some.field-0-is))

pub returns-in-Some-None : goal.returns-in-Some-None
returns-in-Some-None c =
    let scoping = scoping_plain c.args.scoping.now in
    let entry = rw c.deref.ensures.value at c.in-Some-None.ensures.lookup in
    let found = slice_get_read scoping.references (length scoping.references) c.args.reference c.in-Some-None.field-0.now refl entry.3.0 entry.1 in
    sym (ap (names_a_symbol scoping.symbols) (found ∙ ap Some c.in-Some-None.field-0-is))

pub returns-in-None : goal.returns-in-None
returns-in-None c =
    let scoping = scoping_plain c.args.scoping.now in
    let past = rw c.deref.ensures.value at c.in-None.ensures.lookup in
    sym (ap (names_a_symbol scoping.symbols) (slice_get_past scoping.references c.args.reference past.3))
