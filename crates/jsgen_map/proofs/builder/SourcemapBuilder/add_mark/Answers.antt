use Rattle.std.proofs.Common.{◌≡◌, [], ◌∷◌, ◌++◌, length, take, sym, ap, ap₂, ◌∙◌, subst, arith}
use Rattle.std.proofs.lemmas.List.{length-take-le, take_all}
use Rattle.jsgen_map.specs.Builder.{StandsFor}
use Rattle.jsgen_map.specs.Count.{counted}
use Rattle.jsgen_map.specs.LineColumn.{line_column}
use Rattle.jsgen_map.specs.Marks.{is_last, token_at}
use Rattle.jsgen_map.specs.Names.{texts}
use Rattle.jsgen_map.specs.Plain.{mark_plain}
use Rattle.jsgen_map.proofs.MarkLists.{begins, count_all, count_place, last_of_more, map_more, one_more_does, one_more_not, same_front}
use Rattle.jsgen_map.proofs.Stands.{stands_on}
use Rattle.jsgen_map.proofs.builder.SourcemapBuilder.add_mark.Goals as goal

pub returns-then-is_last-clause-ok : goal.returns-then-is_last-clause-ok
returns-then-is_last-clause-ok c = λ earlier marks stands is.
    let output = take c.args.mark.bytes c.args.code.now in
    let again = ap (λ last. is_last last c.args.mark.offset) (sym stands.last) ∙ (sym c.is_last.ensures ∙ c.if-is_last.true) in
    subst (StandsFor c.args.self.now output) (sym (one_more_not (mark_plain c.args.mark) marks again)) (stands_on c.args.self.now earlier output marks stands is)

pub returns-clause-ok : goal.returns-clause-ok
returns-clause-ok c = λ earlier marks stands is.
    let b = c.args.self.now in
    let m = mark_plain c.args.mark in
    let output = take c.args.mark.bytes c.args.code.now in
    let other = ap (λ last. is_last last c.args.mark.offset) (sym stands.last) ∙ (sym c.is_last.ensures ∙ c.if-is_last.false) in
    let size : length output ≡ c.args.mark.bytes = length-take-le c.args.mark.bytes c.args.code.now c.requires.within in
    let front = begins output earlier is in
    let numbered = c.in_ok-number.ensures.ok stands.numbers in
    let count = count_all c.args.code.now b.counted c.args.mark.bytes c.requires.grown b.count c.count_on-count.result (stands.count ∙ ap counted (sym (same_front output earlier b.counted front stands.within))) c.count_on-count.ensures.count in
    let place = count_place output c.count_on-count.result c.requires.utf8 count in
    let source = c.place_near-source.ensures b.source.now stands.tables c.requires.offset in
    let tokens : c.push.new.self.items ≡ b.tokens.items ++ token_at c.count_on-count.result.place (line_column b.source.now m.offset) c.in_ok-number.number ∷ [] =
    c.in_ok-push.ensures.items ∙ ap₂ (λ ts t. ts ++ t ∷ []) c.in_ok-reserve.ensures.items (c.token_at.ensures ∙ ap (λ q. token_at c.count_on-count.result.place q c.in_ok-number.number) source) in
    let whole : take c.args.mark.bytes output ≡ output = take_all c.args.mark.bytes output (omega arith) in
    subst (StandsFor _ output) (sym (one_more_does m marks other)) (record {
      map = map_more earlier output b.source.now marks (texts b.names.items) (texts c.number_of.new.names.items) b.tokens.items c.push.new.self.items m c.count_on-count.result.place c.in_ok-number.number stands.map front c.requires.utf8 (sym size) other numbered.names numbered.number place tokens;
      last = last_of_more marks m;
      within = omega arith;
      count = count ∙ ap counted (sym whole);
      tables = stands.tables;
      numbers = numbered.each;
    })
