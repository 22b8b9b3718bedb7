-- The names and the tokens of a job's map.
use Rattle.std.proofs.Common.{◌≡◌, ℕ, List, [], ◌∷◌, Option, Some, None, map, refl, ap, sym, subst, arith}
use Rattle.std.specs.Prelude.{All}
use Rattle.std.specs.Option.{IfSome}
use Rattle.std.specs.Str.{encode_utf8_all, IsUtf8}
use Rattle.std.proofs.lemmas.List.Elements.{All-nil, All-cons, All-head, All-tail}
use Rattle.jsgen_tree.specs.Job.{JobData}
use Rattle.jsgen_place.specs.Place.{among_statements}
use Rattle.jsgen_map.specs.Marks.{Mark, AreMarks}
use Rattle.jsgen_model.specs.Comments.{Comment, comment_at}
use Rattle.jsgen_model.specs.Ends.{moved_licences}
use Rattle.jsgen_model.specs.Layout.{Pen}
use Rattle.jsgen_model.specs.Lay.{lay}
use Rattle.jsgen_model.specs.Spell.{spell, comments_in, first_pen, text_bytes, whole_from}
use Rattle.jsgen_model.specs.Mapped.{mapped_pen, marks_of, names_in, source_bytes, tokens_in}
use Rattle.jsgen_mark_laws.specs.Law.{Adds}
use Rattle.jsgen_mark_laws.proofs.Comments.{marks_kept, passes_licences}
use Rattle.jsgen_mark_laws.proofs.Maps.{are_marks}
use Rattle.jsgen_mark_laws.proofs.Marked.{step_then}
use Rattle.jsgen_mark_laws.proofs.Names.{right_behind, source_behind}
use Rattle.jsgen_mark_laws.proofs.Sources.{ended_alike}
use Rattle.jsgen_mark_laws.proofs.Steps.{lay_steps}
use Rattle.jsgen_map_laws.specs.Law.{IsNameOf, IsNameOfMap, NamesOfMap, Rise, mark_of, names_of_program}
use Rattle.jsgen_map_laws.proofs.Kept.{names_kept}
use Rattle.jsgen_map_laws.proofs.Listed.{all_from, name_from, theirs}
use Rattle.jsgen_map_laws.proofs.Names.{names_added}
use Rattle.jsgen_map_laws.proofs.Rise.{tokens_rise}

-- ---- the names of a job

one_name : (job : JobData) (m : Mark) (text : Option (List ℕ)) → IfSome text (IsNameOf (source_bytes job) (names_of_program job) m) → IfSome text (IsNameOfMap job)
one_name job m None h = tt
one_name job m (Some text) h = record { printed = h.printed; among = h.among; was = h.was }

each_name : (job : JobData) (ms : List Mark) → All (λ (m : Mark). IfSome m.name (IsNameOf (source_bytes job) (names_of_program job) m)) ms → All (λ (m : Mark). IfSome m.name (IsNameOfMap job)) ms
each_name job [] h = All-nil (λ (m : Mark). IfSome m.name (IsNameOfMap job))
each_name job (m ∷ ms) h =
    All-cons (λ (m : Mark). IfSome m.name (IsNameOfMap job)) m ms
    (one_name job m m.name (All-head (λ (m : Mark). IfSome m.name (IsNameOf (source_bytes job) (names_of_program job) m)) m ms h))
    (each_name job ms (All-tail (λ (m : Mark). IfSome m.name (IsNameOf (source_bytes job) (names_of_program job) m)) m ms h))

each_is_of_source : (job : JobData) → All (IsNameOfMap job) (names_in job)
each_is_of_source job =
    let added = names_added (source_bytes job) (spell job.program among_statements) (mapped_pen job) refl in
    all_from (IsNameOfMap job) [] (marks_of job) (All-nil (IsNameOfMap job))
    (subst (λ ms. All (λ (m : Mark). IfSome m.name (IsNameOfMap job)) ms) (sym added.marks) (each_name job added.more added.named))

pub names_of_maps : (job : JobData) → NamesOfMap job
names_of_maps job = record {
  are = each_is_of_source job;
  kept = λ printed text among was marked.
      name_from [] (marks_of job) (mark_of printed text) text (names_kept (source_bytes job) (spell job.program among_statements) (mapped_pen job) refl printed text among was marked) refl;
  theirs = theirs (text_bytes job) (source_bytes job) (marks_of job);
}

-- ---- the tokens of a job

-- a job's licences at its end
abbrev job_end : JobData → List Comment
job_end job = map (comment_at (source_bytes job)) (moved_licences job.options.comments.legal (source_bytes job) (comments_in job.program))

-- its marks are such as a map is made of
job_marks : (job : JobData) → IsUtf8 (text_bytes job) → AreMarks (text_bytes job) (source_bytes job) (marks_of job)
job_marks job u =
    let laid : Pen = lay (spell job.program among_statements) (mapped_pen job) in
    let end = passes_licences job.options.comments.legal (job_end job) laid in
    let adds : Adds (mapped_pen job) (whole_from job (mapped_pen job)) = step_then (lay_steps (spell job.program among_statements) (mapped_pen job)) end.adds in
    let is : text_bytes job ≡ encode_utf8_all (whole_from job (mapped_pen job)).code = ap encode_utf8_all (sym (ended_alike (spell job.program among_statements) job.options.comments.legal (job_end job) (first_pen job) (Some (source_bytes job)))) in
    subst (AreMarks (text_bytes job) (source_bytes job)) (marks_kept end)
    (are_marks (whole_from job (mapped_pen job)) (source_bytes job) (text_bytes job) (source_behind (source_bytes job) adds refl) (right_behind adds (record { ordered = omega arith; parted = tt; placed = tt })) is u)

pub positions_of_maps_rise : (job : JobData) → IsUtf8 (text_bytes job) → Rise (tokens_in job)
positions_of_maps_rise job u =
    let are = job_marks job u in
    tokens_rise (names_in job) (text_bytes job) (source_bytes job) 0 (marks_of job) are.ordered are.ends
