use Rattle.std.proofs.Common.{◌∷◌, sym, ap, ◌∙◌, subst, string_bytes}
use Rattle.std.specs.Map.Iter.{deref_pair}
use Rattle.std.proofs.lemmas.Map.Iter.{rest_more, rest_all}
use Rattle.jsgen_printer.specs.Owners.{AreOf, holding, names_of}
use Rattle.jsgen_printer.proofs.owners.Owners.enter.Goals as goal

pub loop-name-init : goal.loop-name-init
loop-name-init c = λ held are. record { so_far = held; are = are; fills = ap (λ es. holding (names_of es) c.args.class held) c.into_iter-name-iterator.ensures.into_iter_gives.0 }

pub loop-name-preserved : goal.loop-name-preserved
loop-name-preserved c = λ held are.
    let class = c.args.class in
    let r = c.loop-name.invariant held are in
    let e = rest_more deref_pair c.loop-name.name-iterator c.next.new.self c.next.result (c.in-Some.name, c.in-Some.field-0-1) c.in-Some.is c.next.ensures.steps in
    record {
      so_far = (string_bytes c.in-Some.name.now, class) ∷ r.so_far;
      are = subst (λ n. AreOf c.add.new.self ((n, class) ∷ r.so_far)) c.as_str.ensures.value (c.in_ok-add.ensures r.so_far r.are);
      fills = ap (λ es. holding (names_of es) class r.so_far) (sym e) ∙ r.fills;
    }

pub returns : goal.returns
returns c = λ held are.
    let r = c.loop-name.invariant held are in
    let e = rest_all deref_pair c.loop-name.name-iterator c.next.new.self c.next.result c.in-None.is c.next.ensures.steps in
    subst (AreOf c.loop-name.self) (ap (λ es. holding (names_of es) c.args.class r.so_far) (sym e) ∙ r.fills) r.are
