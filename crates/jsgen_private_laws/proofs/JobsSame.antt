-- The laws, of jobs and of expressions by themselves.
use Rattle.std.proofs.Common.{◌≡◌, ℕ, List, [], ◌++◌, inl, inr, is_some, false, refl, ap, ◌∙◌}
use Rattle.jsgen_tree.specs.declared.types.NodeSet.TheVariants as sets
use Rattle.jsgen_tree.specs.Options.{Options}
use Rattle.jsgen_tree.specs.Job.{Tables, JobData}
use Rattle.jsgen_tree.specs.Tree.{Tree}
use Rattle.jsgen_tree.specs.Nodes as tree
use Rattle.jsgen_model.specs.Resolved.{resolved, renamed_program}
use Rattle.jsgen_model.specs.Renamed.{renamed}
use Rattle.jsgen_model.specs.Plain.{IsCore, IsPlain, IsQuiet}
use Rattle.jsgen_model.specs.Valid.{breaches, source_of, at_top, surroundings_of, job_breaches, IsValid, expression_breaches, IsValidExpression}
use Rattle.jsgen_private_laws.specs.Settled.{without_private, settled}
use Rattle.jsgen_private_laws.proofs.RulesSame.{set_same, indent_same}
use Rattle.jsgen_private_laws.proofs.ValidSame.{breaches_same}
use Rattle.jsgen_private_laws.proofs.CoreSame as rows
use Rattle.jsgen_private_laws.proofs.RenamedSame as names
use Rattle.jsgen_private_laws.proofs.NumbersSame.{resolved_again}

source_same : (tables : Tables) (classes : List ℕ) (n : ℕ) (t : Tree) → source_of (resolved tables classes n t) ≡ source_of t
source_same tables classes n (tree.program a comments hashbang directives body) = refl
source_same tables classes n (tree.private_identifier a) = refl
source_same tables classes n (tree.class_body a body) = refl
source_same tables classes n t = refl

pub valid_same : (job : JobData) → job_breaches (settled job) ≡ job_breaches job
valid_same job =
    let s = source_same job.tables [] 0 job.program in
    (λ i. breaches (at_top job.options (without_private job.tables) (s i) (is_some job.options.source_map_path)) 0 (settled job).program) ∙ breaches_same (surroundings_of job) 0 0 job.program

pub is_valid_same : (job : JobData) → IsValid job → IsValid (settled job)
is_valid_same job h = valid_same job ∙ h

pub core_same : (job : JobData) → IsCore job.program → IsCore (settled job).program
core_same job = rows.core_same job.tables [] 0 job.program

pub plain_same : (job : JobData) → IsPlain job.program → IsPlain (settled job).program
plain_same job = rows.plain_same job.tables [] 0 job.program

pub quiet_same : (job : JobData) → IsQuiet job → IsQuiet (settled job)
quiet_same job (inl h) = inl (rows.quiet_same job.tables [] 0 job.program h)
quiet_same job (inr h) = inr h

pub renamed_same : (job : JobData) → renamed_program (settled job).tables (settled job).program ≡ renamed_program job.tables job.program
renamed_same job = ap (renamed (without_private job.tables)) (resolved_again job.tables job.tables [] [] 0 0 job.program) ∙ names.renamed_same job.tables (resolved job.tables [] 0 job.program)

-- ---- expressions by themselves

pub expression_same : (options : Options) (tables : Tables) (t : Tree) → expression_breaches options (without_private tables) (resolved tables [] 0 t) ≡ expression_breaches options tables t
expression_same options tables t =
    let e = set_same tables [] 0 sets.Expression t in
    let f = breaches_same (at_top options tables [] false) 0 0 t in
    let g = indent_same tables [] 0 options t in
    λ i. e i ++ f i ++ g i

pub is_valid_expression_same : (options : Options) (tables : Tables) (t : Tree) → IsValidExpression options tables t → IsValidExpression options (without_private tables) (resolved tables [] 0 t)
is_valid_expression_same options tables t h = expression_same options tables t ∙ h
