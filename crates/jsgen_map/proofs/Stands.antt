-- What a builder stands for, of a longer output.
use Rattle.std.proofs.Common.{◌≡◌, ℕ, ◌≤◌, List, length, take, refl, sym, ap, ◌∙◌, subst, arith}
use Rattle.std.proofs.lemmas.Bool.{eq-eqb}
use Rattle.jsgen_syntax.specs.declared.span.Span.{Span}
use Rattle.jsgen_map.specs.declared.builder.SourcemapBuilder.{SourcemapBuilder}
use Rattle.jsgen_map.specs.Builder.{Built, IsUnchanged, StandsFor}
use Rattle.jsgen_map.specs.Count.{counted}
use Rattle.jsgen_map.specs.Marks.{Mark, MapOf}
use Rattle.jsgen_map.specs.Names.{texts, NumbersOf}
use Rattle.jsgen_map.specs.Plain.{with_name_mark}
use Rattle.jsgen_map.specs.Tables.{TablesOf}
use Rattle.jsgen_map.proofs.MarkLists.{begins, map_on, same_front}

pub stands_on : (b : SourcemapBuilder) (earlier output : List ℕ) (marks : List Mark) → StandsFor b earlier marks → take (length earlier) output ≡ earlier → StandsFor b output marks
stands_on b earlier output marks stands is =
    let front = begins output earlier is in
    record {
      map = map_on earlier output b.source.now marks (texts b.names.items) b.tokens.items stands.map front;
      last = stands.last;
      within = let l = stands.within in let s = front.size in omega arith;
      count = stands.count ∙ ap counted (sym (same_front output earlier b.counted front stands.within));
      tables = stands.tables;
      numbers = stands.numbers;
    }

-- an empty span gives no mark
pub no_name_mark : (source output : List ℕ) (span : Span) (printed : List ℕ) (marks : List Mark) → span.start ≡ span.end → with_name_mark source output span printed marks ≡ marks
no_name_mark source output span printed marks e = rw (eq-eqb span.start span.end e) refl

pub stands_unmarked : (b : SourcemapBuilder) (source earlier output : List ℕ) (span : Span) (printed : List ℕ) (marks : List Mark) → span.start ≡ span.end → StandsFor b earlier marks → take (length earlier) output ≡ earlier → StandsFor b output (with_name_mark source output span printed marks)
stands_unmarked b source earlier output span printed marks e stands is = subst (StandsFor b output) (sym (no_name_mark source output span printed marks e)) (stands_on b earlier output marks stands is)

-- after want of memory a builder stands for what it stood for
pub stands_still : (old new : SourcemapBuilder) (output : List ℕ) (marks : List Mark) → IsUnchanged old new → StandsFor old output marks → StandsFor new output marks
stands_still old new output marks same stands = record {
  map = subst (λ (b : Built). MapOf output b.source marks b.names b.tokens) (sym same) stands.map;
  last = ap (λ (b : Built). b.last) same ∙ stands.last;
  within = subst (λ (b : Built). b.counted ≤ length output) (sym same) stands.within;
  count = ap (λ (b : Built). b.count) same ∙ (stands.count ∙ ap (λ (b : Built). counted (take b.counted output)) (sym same));
  tables = subst (λ (b : Built). TablesOf b.tables b.source) (sym same) stands.tables;
  numbers = subst (λ (b : Built). NumbersOf b.names b.numbers) (sym same) stands.numbers;
}
