-- The verdict on a program, whose height is judged behind its children.
use Rattle.std.proofs.Common.{◌≡◌, ℕ, suc, List, [], ◌∷◌, ◌++◌, map, option_map, Result, refl, sym, ap, ◌∙◌, arith, None}
use Rattle.std.specs.Str.{chars}
use Rattle.std.proofs.lemmas.List.Elements.{Contains-append_right}
use Rattle.jsgen_syntax.specs.declared.span.Span.{Span}
use Rattle.jsgen_tree.specs.Tree.{Tree, trees, optional, Slots, no_slots, maybe, many}
use Rattle.jsgen_tree.specs.Rows.{comment_row, hashbang_row, directive_row, in_statement, program_row}
use Rattle.jsgen_tree.specs.declared.statements.Program.{Program}
use Rattle.jsgen_tree.specs.Options.{Options, options_plain}
use Rattle.jsgen_tree.specs.Job.{JobData}
use Rattle.jsgen_model.specs.Valid.{child_places, breaches, span_faults, program_faults, indent_faults, in_slots, height_of_slots, surroundings_of, job_breaches, Judges}
use Rattle.jsgen_model.specs.declared.fault.TreeFault.{TreeFault}
use Rattle.jsgen_rules.specs.Verdict.{verdict}
use Rattle.jsgen_check.specs.declared.surroundings.Surroundings.{Surroundings}
use Rattle.jsgen_check.specs.Verdict.{surroundings_plain, capped, measured, both, ended, height_faults, told_in, told}
use Rattle.jsgen_check.proofs.Verdicts.{capped_suc, of_both, of_slots}
use Rattle.jsgen_check.proofs.Alone.{capped_height}
use Rattle.jsgen_check.proofs.Steps.{Checked}

of_height : (options : Options) (s : Span) (n : ℕ) → height_faults options s (capped (suc (capped n))) ≡ height_faults options s (suc n)
of_height options s n = ap (height_faults options s) (sym (capped_suc n)) ∙ capped_height options s (suc n)

of_ended : (options : Options) (s : Span) (n : ℕ) (a : List TreeFault) → ended options s (measured n a) ≡ verdict (a ++ height_faults options s (suc n))
unfolding ended measured verdict
of_ended options s n [] = ap verdict (of_height options s n)
of_ended options s n (f ∷ a) = refl

-- any fault may be told, so a rule may be judged behind the children too
judged_behind : (a b c d : List TreeFault) → Judges (a ++ (b ++ d) ++ c) (verdict (a ++ (b ++ (c ++ d))))
unfolding verdict
judged_behind [] [] [] [] = refl
judged_behind [] [] [] (f ∷ d) = (0, omega arith, refl)
judged_behind [] [] (f ∷ c) d = Contains-append_right d (f ∷ c) f (0, omega arith, refl)
judged_behind [] (f ∷ b) c d = (0, omega arith, refl)
judged_behind (f ∷ a) b c d = (0, omega arith, refl)

abbrev pub program_slots : {N : Type 0} → (N → Tree) → Program N → Slots
program_slots plain p = many (trees (map comment_row p.comments.items)) (maybe (optional (option_map (λ b. hashbang_row b.value) p.hashbang)) (many (trees (map directive_row p.directives.items)) (many (trees (map (in_statement plain) p.body.items)) no_slots)))

-- what is told of a program, and that it judges it
pub of_program : {N : Type 0} {r own : Result (Unit {0}) TreeFault} {q : Result ℕ TreeFault} {last : ℕ} (around : Surroundings) (plain : N → Tree) (p : Program N) → r ≡ both (verdict (span_faults (surroundings_plain around None) p.span)) (both own (ended (options_plain around.options.now) p.span q)) → own ≡ verdict (program_faults p.span (chars around.source.now) (options_plain around.options.now)) → Checked (surroundings_plain around None) (child_places (surroundings_plain around None) 0 (program_row plain p)) (program_slots plain p) 0 q last
    → (r ≡ verdict (told_in (surroundings_plain around None) (program_row plain p))) × Judges (breaches (surroundings_plain around None) 0 (program_row plain p)) r
unfolding surroundings_plain
of_program {N} {r} {own} {q} around plain p parts judged children =
    let options = options_plain around.options.now in
    let here = surroundings_plain around None in
    let span = span_faults here p.span in
    let rule = program_faults p.span (chars around.source.now) options in
    let places = child_places here 0 (program_row plain p) in
    let slots = program_slots plain p in
    let below = in_slots here places 0 slots in
    let indent = indent_faults options (program_row plain p) in
    let end = ap (ended options p.span) (children.found ∙ sym (of_slots here places 0 slots)) ∙ of_ended options p.span (height_of_slots slots) below in
    let behind = ap (λ x. both x (ended options p.span q)) judged ∙ (ap (both (verdict rule)) end ∙ sym (of_both rule (below ++ indent))) in
    let first = parts ∙ (ap (both (verdict span)) behind ∙ sym (of_both span (rule ++ (below ++ indent)))) in
    (first, rw first (judged_behind span rule below indent))

pub of_job : (r : Result (Unit {0}) TreeFault) (around : Surroundings) (job : JobData) → surroundings_plain around None ≡ surroundings_of job → Judges (breaches (surroundings_plain around None) 0 job.program) r → Judges (job_breaches job) r
of_job r around job same h = rw same at h

pub told_of_job : (r : Result (Unit {0}) TreeFault) (around : Surroundings) (job : JobData) → surroundings_plain around None ≡ surroundings_of job → r ≡ verdict (told_in (surroundings_plain around None) job.program) → r ≡ told job
told_of_job r around job same h = rw same at h
