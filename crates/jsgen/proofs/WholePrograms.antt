-- What a printer begins a program with, and what it leaves at its end.
use Rattle.std.proofs.Common.{◌≡◌, ℕ, List, [], ◌∷◌, Bor, Option, Some, map, if◌then◌else◌, refl, ap, ap₂, sym, subst, ◌∙◌}
use Rattle.std.specs.Str.{chars, encode_utf8_all}
use Rattle.jsgen_tree.specs.Job.{JobData}
use Rattle.jsgen_tree.specs.Options.{legal_plain}
use Rattle.jsgen_tree.specs.Rows.{comment_row}
use Rattle.jsgen_tree.specs.Tree.{Trees, trees}
use Rattle.jsgen_tree.specs.declared.options.LegalComment.{LegalComment}
use Rattle.jsgen_tree.specs.declared.statements.Comment as declared
use Rattle.jsgen_comments.specs.Plain.{comment_plain}
use Rattle.jsgen_map.specs.declared.source_map.SourceMap.{SourceMap}
use Rattle.jsgen_place.specs.Place.{among_statements}
use Rattle.jsgen_model.specs.Comments.{Store, Groups, comment_at, kept, kept_annotations}
use Rattle.jsgen_model.specs.Ends.{stand_apart, licensed, moved_licences}
use Rattle.jsgen_model.specs.Layout.{Pen, empty_pen, style_of}
use Rattle.jsgen_model.specs.Lay.{lay}
use Rattle.jsgen_model.specs.Spell.{spell, comments_in, source_bytes, text_bytes}
use Rattle.jsgen_printer.specs.Printer.{at_depth, by_comments}
use Rattle.jsgen.specs.Codegen.{mapped_from, MapsTo}
use Rattle.jsgen.specs.Licences.{apart, ended_by, job_licences, rows_plain}
use Rattle.jsgen.specs.Mapped.{HasMap}
use Rattle.jsgen.specs.declared.licences.End.{End}
use Rattle.jsgen.proofs.Maps.{Begins, has_map, job_end, text_is}

-- the printer begins as the job's pen does, and has its licences
pub record Built (job : JobData) (e : End) (pen : Pen) : Type 0 where
  pub begins : Begins job pen
  pub legal : legal_plain e.legal.now ≡ job.options.comments.legal
  pub licences : rows_plain e.licences.items ≡ moved_licences job.options.comments.legal (source_bytes job) (comments_in job.program)

-- with the comments and the annotations that the options keep
begins_there : (job : JobData) (own pen : Pen) (store : Store) (annotations : Groups) → pen ≡ by_comments store annotations own → own ≡ empty_pen (style_of job.options job.tables) 0 → store ≡ kept job.options.comments (source_bytes job) (comments_in job.program) → annotations ≡ kept_annotations job.options.comments (source_bytes job) (comments_in job.program) → Begins job pen
begins_there job own pen store annotations is fresh waits marked = ap (λ q. at_depth job.options.initial_indent q) (is ∙ (λ i. by_comments (waits i) (marked i) (fresh i)))

pub built : (job : JobData) (e : End) (own pen : Pen) (store : Store) (annotations : Groups) (legal : Bor LegalComment) (source bytes : List ℕ) (rows comments : List declared.Comment) → pen ≡ by_comments store annotations own → own ≡ empty_pen (style_of job.options job.tables) 0 → bytes ≡ source → source_bytes job ≡ source → rows ≡ comments → comments_in job.program ≡ trees (map comment_row comments) → store ≡ kept job.options.comments bytes (trees (map comment_row rows)) → annotations ≡ kept_annotations job.options.comments bytes (trees (map comment_row rows)) → e.legal ≡ legal → legal_plain legal.now ≡ job.options.comments.legal → rows_plain e.licences.items ≡ moved_licences (legal_plain legal.now) source (trees (map comment_row comments)) → Built job e pen
built job e own pen store annotations legal source bytes rows comments is fresh same its_source listed its_rows waits marked lent wanted found = record {
  begins = begins_there job own pen store annotations is fresh (waits ∙ by_rows (kept job.options.comments)) (marked ∙ by_rows (kept_annotations job.options.comments));
  legal = ap (λ (b : Bor LegalComment). legal_plain b.now) lent ∙ wanted;
  licences = found ∙ (ap (λ l. moved_licences l source (trees (map comment_row comments))) wanted ∙ (ap (λ bs. moved_licences job.options.comments.legal bs (trees (map comment_row comments))) (sym its_source) ∙ ap (λ ts. moved_licences job.options.comments.legal (source_bytes job) ts) (sym its_rows)));
}
  where
    -- the bytes and the rows are those of the job
    by_rows : {A : Type 0} (f : List ℕ → Trees → A) → f bytes (trees (map comment_row rows)) ≡ f (source_bytes job) (comments_in job.program)
    by_rows f = ap (λ bs. f bs (trees (map comment_row rows))) (same ∙ sym its_source) ∙ ap (λ ts. f (source_bytes job) ts) (ap (λ cs. trees (map comment_row cs)) listed ∙ sym its_rows)

-- ---- the end

plain_rows : (source : List ℕ) (comments : List declared.Comment) → map (comment_plain source) comments ≡ map (comment_at source) (rows_plain comments)
plain_rows source [] = refl
plain_rows source (c ∷ cs) = ap (λ rest. comment_plain source c ∷ rest) (plain_rows source cs)

end_is : (job : JobData) (e : End) (pen q : Pen) → Built job e pen → ended_by e (source_bytes job) q ≡ licensed job.options.comments.legal (job_end job) q
end_is job e pen q b = ap₂ (λ l cs. licensed l cs q) b.legal (plain_rows (source_bytes job) e.licences.items ∙ ap (λ rows. map (comment_at (source_bytes job)) rows) b.licences)

-- those that stand in a file of their own
pub apart_is : (job : JobData) (e : End) (pen : Pen) → Built job e pen → apart e ≡ job_licences job
apart_is job e pen b = ap₂ (λ l rows. if stand_apart l then rows else []) b.legal b.licences

-- ---- the text

pub plain_text : (job : JobData) (e : End) (pen : Pen) (source : List ℕ) → Built job e pen → source_bytes job ≡ source → encode_utf8_all (ended_by e source (lay (spell job.program among_statements) (at_depth job.options.initial_indent pen))).code ≡ text_bytes job
plain_text job e pen source b same =
    ap (λ s. encode_utf8_all (ended_by e s (lay (spell job.program among_statements) (at_depth job.options.initial_indent pen))).code) (sym same)
    ∙ (ap (λ q. encode_utf8_all (ended_by e (source_bytes job) (lay (spell job.program among_statements) q)).code) b.begins
    ∙ ap (λ (q : Pen). encode_utf8_all q.code) (end_is job e pen _ b))

pub mapped_text : (job : JobData) (e : End) (pen : Pen) (source : List ℕ) → Built job e pen → source_bytes job ≡ source → encode_utf8_all (ended_by e source (lay (spell job.program among_statements) (mapped_from job.options.initial_indent source pen))).code ≡ text_bytes job
mapped_text job e pen source b same =
    ap (λ s. encode_utf8_all (ended_by e s (lay (spell job.program among_statements) (mapped_from job.options.initial_indent s pen))).code) (sym same)
    ∙ (ap (λ (q : Pen). encode_utf8_all q.code) (end_is job e pen _ b) ∙ text_is job pen b.begins)

pub mapped_map : (job : JobData) (e : End) (pen : Pen) (source path : List ℕ) (m : Option SourceMap) → Built job e pen → source_bytes job ≡ source → job.options.source_map_path ≡ Some (chars path) → MapsTo (ended_by e source (lay (spell job.program among_statements) (mapped_from job.options.initial_indent source pen))) source path m → HasMap job m
mapped_map job e pen source path m b same asked h =
    let of_job = subst (λ (s : List ℕ). MapsTo (ended_by e s (lay (spell job.program among_statements) (mapped_from job.options.initial_indent s pen))) s path m) (sym same) h in
    has_map job pen path m b.begins asked (subst (λ (q : Pen). MapsTo q (source_bytes job) path m) (end_is job e pen _ b) of_job)
