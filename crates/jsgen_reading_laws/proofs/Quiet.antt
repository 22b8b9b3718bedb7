-- Of a quiet job no comment and no annotation waits to be printed, and nothing stands behind its program.
use Rattle.std.proofs.Common.{◌≡◌, ℕ, Bool, true, false, not, ◌&&◌, List, [], ◌∷◌, inl, inr, filter, map, refl, ap, ◌∙◌, if◌then◌else◌}
use Rattle.std.proofs.lemmas.Bool.{and_parts, both_ways}
use Rattle.jsgen_tree.specs.declared.statements.CommentContent.{CommentContent}
use Rattle.jsgen_tree.specs.declared.statements.CommentContent.TheVariants as contents
use Rattle.jsgen_tree.specs.Everywhere.{Everywhere, EverywhereInTrees}
use Rattle.jsgen_tree.specs.Job.{JobData}
use Rattle.jsgen_tree.specs.Nodes as tree
use Rattle.jsgen_tree.specs.Options.{Comments, Legal, left_out, inline, at_end, linked, external, is_none, is_inline}
use Rattle.jsgen_tree.specs.Tree.{Tree, Trees, no_trees, more, hole, Atoms}
use Rattle.jsgen_tree.specs.Values.{comment_leading, comment_content, comment_attached_to}
use Rattle.jsgen_model.specs.Comments.{Comment, Store, Groups, empty_store, is_wanted, is_annotation, comment_at, kept_at, with_row, with_rows, with_group, with_annotation, with_annotations}
use Rattle.jsgen_model.specs.Ends.{firsts, rows_of, licensed, ended}
use Rattle.jsgen_model.specs.Groups.{is_legal}
use Rattle.jsgen_model.specs.Layout.{Pen}
use Rattle.jsgen_model.specs.Plain.{is_quiet_row, are_off, IsQuiet}
use Rattle.jsgen_model.specs.Spell.{comments_in, source_bytes, first_pen}

-- ---- where the options let none be printed

unset : (b : Bool) → not b ≡ true → b ≡ false
unset true h = absurd (both_ways false refl h)
unset false h = refl

not_inline : (l : Legal) → is_none l ≡ true → is_inline l ≡ false
not_inline left_out h = refl
not_inline inline h = absurd (both_ways false refl h)
not_inline at_end h = absurd (both_ways false refl h)
not_inline (linked path) h = absurd (both_ways false refl h)
not_inline external h = absurd (both_ways false refl h)

none_wanted : (c : Comments) → are_off c ≡ true → (content : CommentContent) → is_wanted c content ≡ false
none_wanted c off content = by content
  where
    last : ((not c.normal && not c.jsdoc && not c.annotation) ≡ true) × (is_none c.legal ≡ true)
    last = and_parts (not c.normal && not c.jsdoc && not c.annotation) (is_none c.legal) off

    others : ((not c.normal && not c.jsdoc) ≡ true) × (not c.annotation ≡ true)
    others = and_parts (not c.normal && not c.jsdoc) (not c.annotation) last.0

    first : (not c.normal ≡ true) × (not c.jsdoc ≡ true)
    first = and_parts (not c.normal) (not c.jsdoc) others.0

    by : (content : CommentContent) → is_wanted c content ≡ false
    by contents.Normal = unset c.normal first.0
    by contents.Legal = not_inline c.legal last.1
    by contents.Jsdoc = unset c.jsdoc first.1
    by contents.JsdocLegal = rw (not_inline c.legal last.1, unset c.jsdoc first.1) refl
    by contents.Pure = refl
    by contents.NoSideEffects = refl
    by annotation = unset c.annotation others.1

unless_wanted : (leads wanted : Bool) (new old : Store) → wanted ≡ false → (if leads && wanted then new else old) ≡ old
unless_wanted true wanted new old h = rw h refl
unless_wanted false wanted new old h = refl

none_kept : (c : Comments) → are_off c ≡ true → (source : List ℕ) (rows : Trees) (store : Store) → with_rows c source rows store ≡ store
none_kept c off source no_trees store = refl
none_kept c off source (more (tree.comment a) ts) store =
    none_kept c off source ts (with_row c source a store) ∙ unless_wanted (comment_leading a) (is_wanted c (comment_content a)) (kept_at (comment_attached_to a) (comment_at source a) store) store (none_wanted c off (comment_content a))
none_kept c off source (more t ts) store = none_kept c off source ts store
none_kept c off source (hole ts) store = none_kept c off source ts store

no_annotation_wanted : (c : Comments) → are_off c ≡ true → c.annotation ≡ false
no_annotation_wanted c off =
    let last = and_parts (not c.normal && not c.jsdoc && not c.annotation) (is_none c.legal) off in
    unset c.annotation (and_parts (not c.normal && not c.jsdoc) (not c.annotation) last.0).1

unless_annotated : (leads is_one wanted : Bool) (new old : Groups) → wanted ≡ false → (if leads && (is_one && wanted) then new else old) ≡ old
unless_annotated true true wanted new old h = rw h refl
unless_annotated true false wanted new old h = refl
unless_annotated false is_one wanted new old h = refl

no_annotation_kept : (c : Comments) → are_off c ≡ true → (source : List ℕ) (rows : Trees) (groups : Groups) → with_annotations c source rows groups ≡ groups
no_annotation_kept c off source no_trees groups = refl
no_annotation_kept c off source (more (tree.comment a) ts) groups =
    no_annotation_kept c off source ts (with_annotation c source a groups) ∙ unless_annotated (comment_leading a) (is_annotation (comment_content a)) c.annotation (with_group (comment_attached_to a) (comment_at source a ∷ []) groups) groups (no_annotation_wanted c off)
no_annotation_kept c off source (more t ts) groups = no_annotation_kept c off source ts groups
no_annotation_kept c off source (hole ts) groups = no_annotation_kept c off source ts groups

-- ---- where the program holds none

none_there : (c : Comments) (source : List ℕ) (rows : Trees) (store : Store) → EverywhereInTrees is_quiet_row rows → with_rows c source rows store ≡ store
none_there c source no_trees store h = refl
none_there c source (more (tree.comment a) ts) store h = absurd (both_ways false refl h.0.0)
none_there c source (more t ts) store h = none_there c source ts store h.1
none_there c source (hole ts) store h = none_there c source ts store h

no_annotation_there : (c : Comments) (source : List ℕ) (rows : Trees) (groups : Groups) → EverywhereInTrees is_quiet_row rows → with_annotations c source rows groups ≡ groups
no_annotation_there c source no_trees groups h = refl
no_annotation_there c source (more (tree.comment a) ts) groups h = absurd (both_ways false refl h.0.0)
no_annotation_there c source (more t ts) groups h = no_annotation_there c source ts groups h.1
no_annotation_there c source (hole ts) groups h = no_annotation_there c source ts groups h

no_rows : (rows : Trees) → EverywhereInTrees is_quiet_row rows → rows_of rows ≡ []
no_rows no_trees h = refl
no_rows (more (tree.comment a) ts) h = absurd (both_ways false refl h.0.0)
no_rows (more t ts) h = no_rows ts h.1
no_rows (hole ts) h = no_rows ts h

rows_quiet : (t : Tree) → Everywhere is_quiet_row t → EverywhereInTrees is_quiet_row (comments_in t)
rows_quiet (tree.program a comment_rows hashbang directives body) h = h.1.0
rows_quiet t h = tt

-- ---- quiet jobs

pub no_comment : (job : JobData) → IsQuiet job → (first_pen job).store ≡ empty_store
no_comment job (inl h) = none_there job.options.comments (source_bytes job) (comments_in job.program) empty_store (rows_quiet job.program h)
no_comment job (inr off) = none_kept job.options.comments off (source_bytes job) (comments_in job.program) empty_store

pub no_annotation : (job : JobData) → IsQuiet job → (first_pen job).annotations ≡ []
no_annotation job (inl h) = no_annotation_there job.options.comments (source_bytes job) (comments_in job.program) [] (rows_quiet job.program h)
no_annotation job (inr off) = no_annotation_kept job.options.comments off (source_bytes job) (comments_in job.program) []

-- what stands at the end, by the rows of comments
abbrev ends_with : Legal → List ℕ → Pen → List Atoms → Pen
ends_with l source p rows = licensed l (map (comment_at source) (firsts source [] (filter (λ a. is_legal (comment_content a)) rows))) p

left_out_ends : (l : Legal) → is_none l ≡ true → (cs : List Comment) (p : Pen) → licensed l cs p ≡ p
left_out_ends left_out h [] p = refl
left_out_ends left_out h (c ∷ cs) p = refl
left_out_ends inline h cs p = absurd (both_ways false refl h)
left_out_ends at_end h cs p = absurd (both_ways false refl h)
left_out_ends (linked path) h cs p = absurd (both_ways false refl h)
left_out_ends external h cs p = absurd (both_ways false refl h)

are_left_out : (c : Comments) → are_off c ≡ true → is_none c.legal ≡ true
are_left_out c off = (and_parts (not c.normal && not c.jsdoc && not c.annotation) (is_none c.legal) off).1

-- where there are none, none is moved
none_moved : (l : Legal) (source : List ℕ) (rows : Trees) → EverywhereInTrees is_quiet_row rows → (p : Pen) → ended l source rows p ≡ p
none_moved left_out source rows h p = refl
none_moved inline source rows h p = refl
none_moved at_end source rows h p = ap (ends_with at_end source p) (no_rows rows h)
none_moved (linked path) source rows h p = ap (ends_with (linked path) source p) (no_rows rows h)
none_moved external source rows h p = ap (ends_with external source p) (no_rows rows h)

pub no_licence : (job : JobData) → IsQuiet job → (p : Pen) → ended job.options.comments.legal (source_bytes job) (comments_in job.program) p ≡ p
no_licence job (inl h) p = none_moved job.options.comments.legal (source_bytes job) (comments_in job.program) (rows_quiet job.program h) p
no_licence job (inr off) p = left_out_ends job.options.comments.legal (are_left_out job.options.comments off) _ p
