-- The tree is plain by its types and flags, and quiet, and breaks no rule but that of its one name.
use Rattle.std.proofs.Common.{◌≡◌, ℕ, Bool, true, false, not, List, [], ◌∷◌, refl, sym, subst, inl, arith}
use Rattle.std.specs.Prelude.{Contains}
use Rattle.jsgen_syntax.specs.Name.{is_free_name}
use Rattle.jsgen_tree.specs.Everywhere.{Everywhere}
use Rattle.jsgen_tree.specs.Job.{Tables, JobData, no_tables}
use Rattle.jsgen_tree.specs.Options.{Options, default_options}
use Rattle.jsgen_tree.specs.Tree.{Tree}
use Rattle.jsgen_model.specs.Plain.{is_plain_by_type, is_quiet_row, IsPlain, IsQuiet}
use Rattle.jsgen_model.specs.Reading.{IsReadAs}
use Rattle.jsgen_model.specs.Valid.{job_breaches, fault_if}
use Rattle.jsgen_model.specs.declared.fault.TreeFault.{TreeFault}
use Rattle.jsgen_model.specs.declared.fault.TreeFault.TheVariants as faults
use Rattle.jsgen_uses.specs.Log.{console_log, log_call, log_program, log_job, ReadsAsLogCall}
use Rattle.jsgen_uses.proofs.Words.{console_is_free, log_is_name}

plain : (message name : List ℕ) → Everywhere is_plain_by_type (log_program message name)
plain message name = (refl, (tt, (tt, (tt, (((refl, ((refl, ((refl, ((refl, tt), ((refl, tt), tt))), (((refl, tt), ((refl, tt), tt)), tt))), tt)), tt), tt)))))

quiet_callee : Everywhere is_quiet_row console_log
quiet_callee = (refl, ((refl, tt), ((refl, tt), tt)))

quiet_call : (message name : List ℕ) → Everywhere is_quiet_row (log_call message name)
quiet_call message name = (refl, (quiet_callee, (((refl, tt), ((refl, tt), tt)), tt)))

quiet : (message name : List ℕ) → Everywhere is_quiet_row (log_program message name)
quiet message name = (refl, (tt, (tt, (tt, (((refl, (quiet_call message name, tt)), tt), tt)))))

breaches_where : (message name : List ℕ) (free : Bool) → is_free_name name ≡ free → job_breaches (log_job message name) ≡ fault_if (not free) (faults.Name 0)
breaches_where message name true h = rw (console_is_free, log_is_name, h)
breaches_where message name false h = rw (console_is_free, log_is_name, h)

free_where : (message name : List ℕ) (free : Bool) → is_free_name name ≡ free → job_breaches (log_job message name) ≡ [] → free ≡ true
free_where message name true h none = refl
free_where message name false h none = let found = breaches_where message name false h in cc

none_within : (found : List TreeFault) (f : TreeFault) → found ≡ [] → Contains found f → ⊥
none_within [] f h (i, within, is) = omega arith
none_within (g ∷ gs) f h c = cc

pub is_broken : (found : List TreeFault) (f : TreeFault) → Contains found f → found ≡ [] → ⊥
is_broken found f within none = none_within found f none within

unfree_where : (message name : List ℕ) (free : Bool) → is_free_name name ≡ free → (job_breaches (log_job message name) ≡ [] → ⊥) → free ≡ false
unfree_where message name true h broken = absurd (broken (breaches_where message name true h))
unfree_where message name false h broken = refl

-- ---- of what the code was handed

abbrev pub job_with : Options → Tables → Tree → JobData
job_with o n t = record { options = o; tables = n; program = t }

same_job : (o : Options) (n : Tables) (t : Tree) (message name : List ℕ) → o ≡ default_options → n ≡ no_tables → t ≡ log_program message name → job_with o n t ≡ log_job message name
same_job o n t message name options tables same = rw (options, tables, same)

pub read_as_call : (o : Options) (n : Tables) (t : Tree) (message name code : List ℕ) → o ≡ default_options → n ≡ no_tables → t ≡ log_program message name → (Everywhere is_plain_by_type t → IsPlain t) → (IsPlain t → IsQuiet (job_with o n t) → IsReadAs code (job_with o n t)) → ReadsAsLogCall message name code
read_as_call o n t message name code options tables same by_types reads =
    let P : JobData → Type 0 = λ job. IsReadAs code job in
    let Q : Tree → Type 0 = λ u. Everywhere is_quiet_row u in
    let R : Tree → Type 0 = λ u. Everywhere is_plain_by_type u in
    subst P (same_job o n t message name options tables same) (reads (by_types (subst R (sym same) (plain message name))) (inl (subst Q (sym same) (quiet message name))))

pub is_free : (o : Options) (n : Tables) (t : Tree) (message name : List ℕ) → o ≡ default_options → n ≡ no_tables → t ≡ log_program message name → job_breaches (job_with o n t) ≡ [] → is_free_name name ≡ true
is_free o n t message name options tables same none =
    let P : JobData → Type 0 = λ job. job_breaches job ≡ [] in
    free_where message name (is_free_name name) refl (subst P (same_job o n t message name options tables same) none)

pub is_unfree : (o : Options) (n : Tables) (t : Tree) (message name : List ℕ) → o ≡ default_options → n ≡ no_tables → t ≡ log_program message name → (job_breaches (job_with o n t) ≡ [] → ⊥) → is_free_name name ≡ false
is_unfree o n t message name options tables same broken =
    let P : JobData → Type 0 = λ job. job_breaches job ≡ [] → ⊥ in
    unfree_where message name (is_free_name name) refl (subst P (same_job o n t message name options tables same) broken)
