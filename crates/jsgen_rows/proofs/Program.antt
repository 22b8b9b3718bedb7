-- The tree of a job is a program.
use Rattle.std.proofs.Common.{◌≡◌, ℕ, List, [], ◌∷◌, ◌++◌, length, Bool, true, false, Option, Some, None, unwrap_or, Result, Ok, Err, if◌then◌else◌, refl, sym, ap, ◌∙◌}
use Rattle.serde_json.specs.Data.{Data}
use Rattle.jsgen_tree.specs.Job.{JobData, Tables}
use Rattle.jsgen_tree.specs.Options.{Options}
use Rattle.jsgen_tree.specs.Tree.{Tree}
use Rattle.jsgen_tree.specs.Tree as tree
use Rattle.jsgen_tree.specs.declared.types.NodeType.TheVariants as types
use Rattle.jsgen_flat.specs.Flat.{Sections, begins_flat, flat_of, rows_of}
use Rattle.jsgen_fields.specs.declared.At.{At}
use Rattle.jsgen_fields.specs.declared.InputFault.{InputFault}
use Rattle.jsgen_fields.specs.declared.InputFault.TheVariants.{Json, Wrong}
use Rattle.jsgen_fields.specs.Values.{after, or_fault, options_in, tables_in, rows_in, some_rows}
use Rattle.jsgen_fields.specs.Meaning.{root_tree, root_faults, no_tree, trees_after, faults_after, faults_in, row_marks, row_tree, with_marks, unless, rows_meaning, program_meaning, value_meaning}
use Rattle.jsgen_kept.specs.Kept.{is_program}
use Rattle.jsgen_rows.specs.Job.{head_in, flat_meaning, json_of, job_of}
use Rattle.jsgen_kept.proofs.Sets.{program_type}

told : (b : Bool) (a : At) → (if b then [] else Wrong a ∷ []) ≡ [] → b ≡ true
told true a h = refl
told false a h = cc

root_is_program : (a : At) (o : Option Tree) (t : Tree) → root_faults a o ≡ [] → unwrap_or o no_tree ≡ t → tree.type_of t ≡ types.Program
root_is_program a None t h e = cc
root_is_program a (Some x) t h e = ap tree.type_of (sym e) ∙ program_type (tree.type_of x) (told (is_program (tree.type_of x)) a h)

right_empty : {A : Type 0} (xs ys : List A) → xs ++ ys ≡ [] → ys ≡ []
right_empty [] ys h = h
right_empty (x ∷ xs) ys h = cc

rows_give_program : (e : List Tree) (u : List ℕ) (ds : List Data) (t : Tree) → faults_after e u ds ≡ [] → unwrap_or (root_tree (trees_after e ds)) no_tree ≡ t → tree.type_of t ≡ types.Program
rows_give_program e u [] t h g = root_is_program _ (root_tree e) t h g
rows_give_program e u (d ∷ ds) t h g = rows_give_program (e ++ row_tree e d ∷ []) (with_marks u (row_marks (length e) d)) ds t (right_empty (faults_in e u (row_marks (length e) d)) _ h) g

no_fault : {A : Type 0} (fs : List InputFault) (a x : A) → unless fs a ≡ Ok x → (fs ≡ []) × (a ≡ x)
no_fault [] a x h = (refl, cc)
no_fault (f ∷ fs) a x h = absurd (cc)

of_rows : (r : Result (List Data) InputFault) (t : Tree) → after r rows_meaning ≡ Ok t → tree.type_of t ≡ types.Program
of_rows (Ok ds) t h = let p = no_fault (faults_after [] [] ds) _ t h in rows_give_program [] [] ds t p.0 p.1
of_rows (Err e) t h = cc

abbrev program_or : Result JobData InputFault → Tree
program_or (Ok job) = job.program
program_or (Err e) = no_tree

of_parts : (o : Result Options InputFault) (s : Result Tables InputFault) (r : Result Tree InputFault) (job : JobData) → ((t : Tree) → r ≡ Ok t → tree.type_of t ≡ types.Program)
    → after o (λ options. after s (λ tables. after r (λ program. Ok (record { options = options; tables = tables; program = program })))) ≡ Ok job → tree.type_of job.program ≡ types.Program
of_parts (Ok o) (Ok s) (Ok t) job f h = let same : t ≡ job.program = ap program_or h in sym (ap tree.type_of same) ∙ f t refl
of_parts (Ok o) (Ok s) (Err e) job f h = cc
of_parts (Ok o) (Err e) r job f h = cc
of_parts (Err e) s r job f h = cc

of_json : (r : Result Data InputFault) (job : JobData) → after r value_meaning ≡ Ok job → tree.type_of job.program ≡ types.Program
of_json (Ok d) job h = of_parts (options_in d) (tables_in d) (program_meaning d) job (of_rows (rows_in d)) h
of_json (Err e) job h = cc

abbrev in_both : Result Options InputFault → Result Tables InputFault → Result (Options × Tables) InputFault
in_both o s = after o (λ options. after s (λ tables. Ok (options, tables)))

in_order : (o : Result Options InputFault) (s : Result Tables InputFault) (r : Result Tree InputFault) (job : JobData) → ((t : Tree) → r ≡ Ok t → tree.type_of t ≡ types.Program)
    → after (in_both o s) (λ head. after r (λ program. Ok (record { options = head.0; tables = head.1; program = program }))) ≡ Ok job → tree.type_of job.program ≡ types.Program
in_order (Ok o) (Ok s) (Ok t) job f h = let same : t ≡ job.program = ap program_or h in sym (ap tree.type_of same) ∙ f t refl
in_order (Ok o) (Ok s) (Err e) job f h = cc
in_order (Ok o) (Err e) r job f h = cc
in_order (Err e) s r job f h = cc

of_head : (p : Sections) (r : Result Data InputFault) (job : JobData)
    → after r (λ d. after (head_in d) (λ head. after (after (some_rows (rows_of p)) rows_meaning) (λ program. Ok (record { options = head.0; tables = head.1; program = program })))) ≡ Ok job → tree.type_of job.program ≡ types.Program
of_head p (Ok d) job h = in_order (options_in d) (tables_in d) (after (some_rows (rows_of p)) rows_meaning) job (of_rows (some_rows (rows_of p))) h
of_head p (Err e) job h = cc

of_flat : (r : Result Sections InputFault) (job : JobData) → after r flat_meaning ≡ Ok job → tree.type_of job.program ≡ types.Program
of_flat (Ok p) job h = of_head p (json_of p.head) job h
of_flat (Err e) job h = cc

of_either : (b : Bool) (r s : Result JobData InputFault) (job : JobData) → (r ≡ Ok job → tree.type_of job.program ≡ types.Program) → (s ≡ Ok job → tree.type_of job.program ≡ types.Program) → (if b then r else s) ≡ Ok job → tree.type_of job.program ≡ types.Program
of_either true r s job f g h = f h
of_either false r s job f g h = g h

pub job_is_program : (bytes : List ℕ) (job : JobData) → job_of bytes ≡ Ok job → tree.type_of job.program ≡ types.Program
unfolding job_of
job_is_program bytes job h =
    of_either (begins_flat bytes) (after (or_fault Json (flat_of bytes)) flat_meaning) (after (json_of bytes) value_meaning) job
    (of_flat (or_fault Json (flat_of bytes)) job) (of_json (json_of bytes) job) h
