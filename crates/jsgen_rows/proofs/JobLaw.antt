-- What is read row by row is what the job means.
use Rattle.std.proofs.Common.{◌≡◌, ℕ, zero, suc, ◌-◌, ◌==◌, ◌||◌, List, [], ◌∷◌, ◌++◌, length, Bool, true, false, Option, Some, None, option_map, unwrap_or, Result, Ok, Err, slice_get, if◌then◌else◌, refl, sym, ap, ◌∙◌}
use Rattle.serde_json.specs.Data.{Data}
use Rattle.jsgen_tree.specs.Tree.{Tree, type_of}
use Rattle.jsgen_tree.specs.declared.types.NodeSet.{NodeSet}
use Rattle.jsgen_fields.specs.declared.At.{At}
use Rattle.jsgen_fields.specs.declared.InputFault.{InputFault}
use Rattle.jsgen_fields.specs.declared.InputFault.TheVariants.{Wrong}
use Rattle.jsgen_fields.specs.Values.{after, at, rows_in, some_rows, options_in, tables_in}
use Rattle.jsgen_pool.specs.Pool.{Entry, there}
use Rattle.jsgen_fields.specs.Reads.{read_row, read_rows, root_of, root_found, read_program}
use Rattle.jsgen_fields.specs.Meaning.{Mark, fault, use_of, is_used, found_faults, mark_faults, with_mark, with_marks, faults_in, row_marks, row_tree, root_tree, root_faults, trees_after, faults_after, unless, no_tree, rows_meaning, program_meaning, value_meaning}
use Rattle.jsgen_kept.specs.Kept.{is_program}
use Rattle.jsgen_fields.proofs.Listed.{length-last}
use Rattle.jsgen_tree.specs.Job.{Tables}
use Rattle.jsgen_tree.specs.Options.{Options}
use Rattle.jsgen_flat.specs.Flat.{Sections, rows_of}
use Rattle.jsgen_rows.specs.Job.{head_in}
use Rattle.jsgen_rows.specs.Heads.{job_with, rows_read}
use Rattle.jsgen_rows.proofs.Pool.{pool, seen, pool-length, pool-get, pool-push, other_eq}
use Rattle.jsgen_rows.proofs.RowSteps.{after-after, row_read}

-- no number from the end on is used
abbrev Fresh : List Tree → List ℕ → Type 0
Fresh e u = (i : ℕ) → slice_get e i ≡ None → is_used u i ≡ false

neither : (a b : Bool) → a ≡ false → b ≡ false → (a || b) ≡ false
neither a b h i = rw h i

found_some : (a : At) (s : NodeSet) (c : ℕ) (o : Option Tree) (used : Bool) → found_faults a s c o used ≡ [] → o ≡ None → ⊥
found_some a s c None used h e = cc
found_some a s c (Some t) used h e = cc

fresh_mark : (e : List Tree) (u : List ℕ) (m : Mark) → mark_faults e u m ≡ [] → Fresh e u → Fresh e (with_mark u m)
fresh_mark e u (fault f) h fresh = fresh
fresh_mark e u (use_of a s c) h fresh = λ i n. neither (i == c) (is_used u i) (other_eq i c (λ q. found_some a s c (slice_get e c) (is_used u c) h (ap (slice_get e) (sym q) ∙ n))) (fresh i n)

left_empty : {A : Type 0} (xs ys : List A) → xs ++ ys ≡ [] → xs ≡ []
left_empty [] ys h = refl
left_empty (x ∷ xs) ys h = cc

right_empty : {A : Type 0} (xs ys : List A) → xs ++ ys ≡ [] → ys ≡ []
right_empty [] ys h = h
right_empty (x ∷ xs) ys h = cc

fresh_marks : (e : List Tree) (u : List ℕ) (ms : List Mark) → faults_in e u ms ≡ [] → Fresh e u → Fresh e (with_marks u ms)
fresh_marks e u [] h fresh = fresh
fresh_marks e u (m ∷ ms) h fresh = fresh_marks e (with_mark u m) ms (right_empty (mark_faults e u m) _ h) (fresh_mark e u m (left_empty (mark_faults e u m) _ h) fresh)

get_past : {A : Type 0} (xs : List A) → slice_get xs (length xs) ≡ None
get_past [] = refl
get_past (x ∷ xs) = get_past xs

get_before : {A : Type 0} (xs ys : List A) (i : ℕ) → slice_get (xs ++ ys) i ≡ None → slice_get xs i ≡ None
get_before [] ys i h = refl
get_before (x ∷ xs) ys zero h = cc
get_before (x ∷ xs) ys (suc i) h = get_before xs ys i h

step : {A B : Type 0} (fs gs : List InputFault) (x : A) (y : B) (g : A → Result B InputFault) → (fs ≡ [] → g x ≡ unless gs y) → after (unless fs x) g ≡ unless (fs ++ gs) y
step [] gs x y g h = h refl
step (f ∷ fs) gs x y g h = refl

choice : (b : Bool) (a : At) (t : Tree) → (if b then Ok t else Err (Wrong a)) ≡ unless (if b then [] else Wrong a ∷ []) t
choice true a t = refl
choice false a t = refl

root_unless : (a : At) (o : Option Tree) → root_found a (option_map (seen false) o) ≡ unless (root_faults a o) (unwrap_or o no_tree)
root_unless a None = refl
root_unless a (Some t) = choice (is_program (type_of t)) a t

root_read : (e : List Tree) (u : List ℕ) → is_used u (length e - 1) ≡ false → root_of (pool e u) ≡ unless (root_faults (at (length e - 1) 0) (root_tree e)) (unwrap_or (root_tree e) no_tree)
root_read e u h =
    ap (λ n. root_found (at (n - 1) 0) (slice_get (pool e u) (n - 1))) (pool-length (is_used u) e)
    ∙ ap (root_found (at (length e - 1) 0)) (pool-get (is_used u) e (length e - 1))
    ∙ ap (λ b. root_found (at (length e - 1) 0) (option_map (seen b) (slice_get e (length e - 1)))) h
    ∙ root_unless (at (length e - 1) 0) (slice_get e (length e - 1))

read_on : (e : List Tree) (u : List ℕ) (ds : List Data) → Fresh e u → is_used u (length e - 1) ≡ false
    → after (read_rows ds (pool e u)) root_of ≡ unless (faults_after e u ds) (unwrap_or (root_tree (trees_after e ds)) no_tree)
read_on e u [] fresh last = root_read e u last
read_on e u (d ∷ ds) fresh last =
    let t : Tree = row_tree e d in
    let ms : List Mark = row_marks (length e) d in
    let v : List ℕ = with_marks u ms in
    let next = λ (p : Tree × List Entry). after (read_rows ds (p.1 ++ there p.0 ∷ [])) root_of in
    let more = λ (h : faults_in e u ms ≡ []).
    let f : Fresh e v = fresh_marks e u ms h fresh in
    let free : is_used v (length e) ≡ false = f (length e) (get_past e) in
    ap (λ k. after (read_rows ds k) root_of) (sym (pool-push (is_used v) e t free))
    ∙ read_on (e ++ t ∷ []) v ds (λ i n. f i (get_before e (t ∷ []) i n)) (ap (is_used v) (length-last e t) ∙ free) in
    after-after (read_row (length (pool e u)) d (pool e u)) (λ p. read_rows ds (p.1 ++ there p.0 ∷ [])) root_of
    ∙ ap (λ n. after (read_row n d (pool e u)) next) (pool-length (is_used u) e)
    ∙ ap (λ r. after r next) (row_read e u d)
    ∙ step (faults_in e u ms) (faults_after (e ++ t ∷ []) v ds) (t, pool e v) (unwrap_or (root_tree (trees_after (e ++ t ∷ []) ds)) no_tree) next more

rows_law : (ds : List Data) → after (read_rows ds []) root_of ≡ rows_meaning ds
rows_law ds = read_on [] [] ds (λ i n. refl) refl

given_law : (r : Result (List Data) InputFault) → after r (λ ds. after (read_rows ds []) root_of) ≡ after r rows_meaning
given_law (Ok ds) = rows_law ds
given_law (Err e) = refl

-- what is read step by step is the program that is meant
pub program_law : (d : Data) → read_program d ≡ program_meaning d
program_law d = given_law (rows_in d)

-- and so is the program of a flat job
pub flat_law : (p : Sections) → after (some_rows (rows_of p)) rows_read ≡ after (some_rows (rows_of p)) rows_meaning
flat_law p = given_law (some_rows (rows_of p))

in_parts : (o : Result Options InputFault) (t : Result Tables InputFault) (q : Result Tree InputFault)
    → after o (λ options. after t (λ tables. after q (λ program. Ok (job_with (options, tables) program))))
    ≡ after (after o (λ options. after t (λ tables. Ok (options, tables)))) (λ head. after q (λ program. Ok (job_with head program)))
in_parts (Ok o) (Ok t) q = refl
in_parts (Ok o) (Err e) q = refl
in_parts (Err e) t q = refl

-- the head comes before the program
pub value_law : (d : Data) → value_meaning d ≡ after (head_in d) (λ head. after (program_meaning d) (λ program. Ok (job_with head program)))
value_law d = in_parts (options_in d) (tables_in d) (program_meaning d)
