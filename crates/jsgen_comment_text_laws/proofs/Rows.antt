-- The comments of a valid job are in the source.
use Rattle.std.specs.Prelude.{Contains}
use Rattle.std.proofs.Common.{zero, suc, cond, ◌≡◌, ⊎_elim, Some, None, ℕ, ◌<◌, nat_lt, nat_le, Bool, true, false, not, List, [], ◌∷◌, ◌++◌, length, get_or, map, if◌then◌else◌, refl, ap, sym, subst, ◌∙◌, arith}
use Rattle.std.specs.List.{filter}
use Rattle.std.specs.Option.{unwrap_or}
use Rattle.std.specs.Str.{chars}
use Rattle.std.proofs.lemmas.Bool.{and_parts, and_from, or_parts, ltb-false, le-leb}
use Rattle.std.proofs.lemmas.List.Elements.{Contains-append_right, Contains-append_cases}
use Rattle.jsgen_map.specs.Plain.{source_text}
use Rattle.jsgen_syntax.specs.declared.span.Span.{Span}
use Rattle.jsgen_tree.specs.Job.{JobData}
use Rattle.jsgen_tree.specs.Tree.{Tree, Trees, no_trees, more, hole, Atoms}
use Rattle.jsgen_tree.specs.Nodes as tree
use Rattle.jsgen_tree.specs.Values.{comment_kind}
use Rattle.jsgen_tree.specs.declared.types.NodeSet.TheVariants as sets
use Rattle.jsgen_model.specs.declared.fault.TreeFault.{TreeFault}
use Rattle.jsgen_model.specs.declared.fault.TreeFault.TheVariants as faults
use Rattle.jsgen_model.specs.Comments.{characters_at, comment_at}
use Rattle.jsgen_model.specs.Ends.{rows_of}
use Rattle.jsgen_model.specs.Spell.{comments_in, source_bytes}
use Rattle.jsgen_model.specs.Resolved.{after}
use Rattle.jsgen_model.specs.Valid.{Surroundings, ChildPlace, breaches, in_trees, fault_if, set_faults, span_faults, own_faults, comment_faults, is_off_source, spans_characters, is_comment, text_at, surroundings_of}
use Rattle.jsgen_comment_laws.specs.Stand.{Waiting, is_kept, is_kept_annotation, waiting_row, kept_comments, annotation_comments}
use Rattle.jsgen_comment_text_laws.specs.Law.{IsOfSource, RowsAreOfSource, KeptAreOfSource}

none_both : (a b : List TreeFault) → a ++ b ≡ [] → (a ≡ []) × (b ≡ [])
none_both [] b e = (refl, e)
none_both (x ∷ a) b e = absurd (cc)

none_if : (b : Bool) (f : TreeFault) → fault_if b f ≡ [] → b ≡ false
none_if true f e = absurd (cc)
none_if false f e = refl

none_unless : (b : Bool) (f : TreeFault) → fault_if (not b) f ≡ [] → b ≡ true
none_unless true f e = refl
none_unless false f e = absurd (cc)

-- ---- no row breaks a rule

-- neither its span's nor its own
abbrev IsSound : Surroundings → Atoms → Type 0
IsSound around a = (span_faults around a.span ≡ []) × (comment_faults around.source a.span (comment_kind a) ≡ [])

abbrev places_from : Surroundings → List ChildPlace → List ChildPlace
places_from around others = record { set = sets.Comment; around = around } ∷ others

rows_are_sound : (around : Surroundings) (others : List ChildPlace) (next : ℕ) (ts : Trees) → in_trees around (places_from around others) next ts ≡ [] → (row : Atoms) → Contains (rows_of ts) row → IsSound around row
rows_are_sound around others next no_trees e row h = let l = h.1 in absurd (omega (arith, l))
rows_are_sound around others next (more (tree.comment a) ts) e row h = by h.0 h.1 h.2 (rows_are_sound around others (after (tree.comment a) next) ts parts.1 row)
  where
    parts : (set_faults sets.Comment (tree.comment a) ++ breaches around next (tree.comment a) ≡ []) × (in_trees around (places_from around others) (after (tree.comment a) next) ts ≡ [])
    parts = none_both (set_faults sets.Comment (tree.comment a) ++ breaches around next (tree.comment a)) (in_trees around (places_from around others) (after (tree.comment a) next) ts) e

    own : IsSound around a
    own = none_both (span_faults around a.span) (own_faults around (tree.comment a)) (none_both (span_faults around a.span ++ own_faults around (tree.comment a)) _ (none_both (set_faults sets.Comment (tree.comment a)) (breaches around next (tree.comment a)) parts.0).1).0

    by : (k : ℕ) → k < length (a ∷ rows_of ts) → get_or (a ∷ rows_of ts) k row ≡ row → (Contains (rows_of ts) row → IsSound around row) → IsSound around row
    by zero l is rest = subst (IsSound around) is own
    by (suc k) l is rest = rest (k, omega (arith, l), is)
rows_are_sound around others next (more t ts) e row h = rows_are_sound around others (after t next) ts (none_both (set_faults sets.Comment t ++ breaches around next t) (in_trees around (places_from around others) (after t next) ts) e).1 row h
rows_are_sound around others next (hole ts) e row h = rows_are_sound around others next ts e row h

of_program : (around : Surroundings) (next : ℕ) (t : Tree) → breaches around next t ≡ [] → (row : Atoms) → Contains (rows_of (comments_in t)) row → IsSound around row
of_program around next (tree.program a rows hashbang directives body) e row h =
    let own = none_both (span_faults around a.span ++ own_faults around (tree.program a rows hashbang directives body)) _ e in
    rows_are_sound around _ _ rows (none_both (in_trees around (places_from around _) _ rows) _ own.1).0 row h
of_program around next t e row h = let l = h.1 in absurd (omega (arith, l))

-- ---- what the source has there

text_there : (source : List ℕ) (s : Span) → nat_lt s.end s.start ≡ false → spans_characters source s ≡ true → characters_at source s ≡ text_at source s
text_there source s e f = ap (λ b. chars (unwrap_or (if b then Some (source_text source s) else None) [])) (and_from (nat_le s.start s.end) (spans_characters source s) (le-leb s.start s.end (ltb-false s.end s.start e)) f)

-- a row that breaks no rule
found : (job : JobData) (row : Atoms) → Contains (rows_of (comments_in job.program)) row → IsSound (surroundings_of job) row → IsOfSource job (comment_at (source_bytes job) row)
found job row h k =
    let s = row.span in
    let ordered = or_parts (nat_lt s.end s.start) (is_off_source (surroundings_of job).is_mapped (surroundings_of job).source s) (none_if _ (faults.Span s.start) k.0) in
    let own = and_parts (spans_characters (source_bytes job) s) (is_comment (comment_kind row) (text_at (source_bytes job) s)) (none_unless _ (faults.Comment s.start) k.1) in
    let text = text_there (source_bytes job) s ordered.0 own.0 in
    record {
      row = row;
      is_row = h;
      is = refl;
      text = text;
      is_one = ap (is_comment (comment_kind row)) text ∙ own.1;
    }

pub rows_are_of_source : RowsAreOfSource
rows_are_of_source job valid row h = found job row h (of_program (surroundings_of job) 0 job.program valid row h)

-- ---- those that are kept

record Chosen (rows : List Atoms) (source : List ℕ) (w : Waiting) : Type 0 where
  row : Atoms
  is_row : Contains rows row
  is : w ≡ waiting_row source row

chosen : (test : Atoms → Bool) (source : List ℕ) (rows : List Atoms) (w : Waiting) → Contains (map (waiting_row source) (filter test rows)) w → Chosen rows source w
chosen test source [] w h = let l = h.1 in absurd (omega (arith, l))
chosen test source (a ∷ rows) w h = by (test a) h (chosen test source rows w)
  where
    more_rows : Chosen rows source w → Chosen (a ∷ rows) source w
    more_rows c = record { row = c.row; is_row = Contains-append_right (a ∷ []) rows c.row c.is_row; is = c.is }

    at : (k : ℕ) → k < length (waiting_row source a ∷ map (waiting_row source) (filter test rows)) → get_or (waiting_row source a ∷ map (waiting_row source) (filter test rows)) k w ≡ w → (Contains (map (waiting_row source) (filter test rows)) w → Chosen rows source w) → Chosen (a ∷ rows) source w
    at zero l is rest = record { row = a; is_row = (0, omega arith, refl); is = sym is }
    at (suc k) l is rest = more_rows (rest (k, omega (arith, l), is))

    by : (b : Bool) → Contains (map (waiting_row source) (cond b (a ∷ filter test rows) (filter test rows))) w → (Contains (map (waiting_row source) (filter test rows)) w → Chosen rows source w) → Chosen (a ∷ rows) source w
    by true h rest = at h.0 h.1 h.2 rest
    by false h rest = more_rows (rest h)

of_chosen : (job : JobData) (w : Waiting) → Chosen (rows_of (comments_in job.program)) (source_bytes job) w → ((row : Atoms) → Contains (rows_of (comments_in job.program)) row → IsOfSource job (comment_at (source_bytes job) row)) → IsOfSource job w.comment
of_chosen job w c all = subst (λ v. IsOfSource job v.comment) (sym c.is) (all c.row c.is_row)

pub kept_are_of_source : KeptAreOfSource
kept_are_of_source job valid w h =
    let source = source_bytes job in
    let rows = rows_of (comments_in job.program) in
    let kept = job.options.comments in
    let one = ⊎_elim (chosen (is_kept kept) source rows w) (chosen (is_kept_annotation kept) source rows w) (Contains-append_cases (kept_comments job) (annotation_comments job) w h) in
    of_chosen job w one (rows_are_of_source job valid)
