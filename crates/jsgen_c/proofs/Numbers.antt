-- An outcome is had back from its numbers.
use Rattle.std.proofs.Common.{◌≡◌, ℕ, Option, Some, None, refl, ap, sym, ◌∙◌, nat_eq}
use Rattle.std.specs.Prelude.{if◌then◌else◌}
use Rattle.jsgen_model.specs.declared.fault.TreeFault.{TreeFault}
use Rattle.jsgen_model.specs.declared.fault.TreeFault.TheVariants as rules
use Rattle.jsgen_fields.specs.declared.At.{At}
use Rattle.jsgen_fields.specs.declared.InputFault.{InputFault}
use Rattle.jsgen_fields.specs.declared.InputFault.TheVariants as faults
use Rattle.jsgen_jobs.specs.declared.JobFault.TheVariants.{NotJob, Refused, Memory}
use Rattle.jsgen_c.specs.Numbers.{status_of, numbers_of, row_number, row_count, NumbersTell}
use Rattle.jsgen_c.specs.declared.answer.Answer.{Answer}
use Rattle.jsgen_c.specs.declared.outcome.Outcome.{Outcome}
use Rattle.jsgen_c.specs.declared.outcome.Outcome.TheVariants.{Done, TooSmall, Faulty, TooLong}
use Rattle.jsgen_c.specs.Texts.{as_one, build_numbers, BuildNumbersTell}
use Rattle.jsgen_c.specs.declared.texts.BuildAnswer.{BuildAnswer}
use Rattle.jsgen_c.specs.declared.texts.BuildOutcome.{BuildOutcome}
use Rattle.jsgen_c.specs.declared.texts.BuildOutcome.TheVariants as all
use Rattle.jsgen_c.specs.declared.texts.Lengths.{Lengths}

rule_from : ℕ → ℕ → TreeFault
rule_from rule start = if nat_eq rule 1 then rules.Place start else if nat_eq rule 2 then rules.Name start else if nat_eq rule 3 then rules.Literal start else if nat_eq rule 4 then rules.Template start else if nat_eq rule 5 then rules.Span start else if nat_eq rule 6 then rules.Comment start else rules.Indent start

row_from : ℕ → ℕ → Option ℕ
row_from has_row row = if nat_eq has_row 0 then None else Some row

place_from : Answer → At
place_from a = record { row = row_from a.has_row a.row; field = a.field }

fault_from : Answer → InputFault
fault_from a = if nat_eq a.rule 11 then faults.Json else if nat_eq a.rule 12 then faults.Float (place_from a) else if nat_eq a.rule 13 then faults.Missing (place_from a) else if nat_eq a.rule 14 then faults.Wrong (place_from a) else if nat_eq a.rule 15 then faults.Child (place_from a) else if nat_eq a.rule 16 then faults.Shared a.row else faults.Memory

outcome_from : ℕ → Answer → Outcome
outcome_from status a = if nat_eq status 0 then Done a.text_length else if nat_eq status 8 then TooSmall a.text_length else if nat_eq status 3 then Faulty (NotJob (fault_from a)) else if nat_eq status 1 then Faulty (Refused (rule_from a.rule a.start)) else if nat_eq status 6 then Faulty Memory else TooLong

row_back : (row : Option ℕ) → row_from (row_count row) (row_number row) ≡ row
unfolding row_from
row_back None = refl
row_back (Some row) = refl

place_back : (at : At) → record { row = row_from (row_count at.row) (row_number at.row); field = at.field } ≡ at
place_back at = ap (λ row. record { row = row; field = at.field }) (row_back at.row)

fault_back : (fault : InputFault) → outcome_from (status_of (Faulty (NotJob fault))) (numbers_of (Faulty (NotJob fault))) ≡ Faulty (NotJob fault)
unfolding outcome_from fault_from place_from
fault_back faults.Json = refl
fault_back (faults.Float at) = ap (λ at. Faulty (NotJob (faults.Float at))) (place_back at)
fault_back (faults.Missing at) = ap (λ at. Faulty (NotJob (faults.Missing at))) (place_back at)
fault_back (faults.Wrong at) = ap (λ at. Faulty (NotJob (faults.Wrong at))) (place_back at)
fault_back (faults.Child at) = ap (λ at. Faulty (NotJob (faults.Child at))) (place_back at)
fault_back (faults.Shared row) = refl
fault_back faults.Memory = refl

rule_back : (fault : TreeFault) → outcome_from (status_of (Faulty (Refused fault))) (numbers_of (Faulty (Refused fault))) ≡ Faulty (Refused fault)
unfolding outcome_from rule_from
rule_back (rules.Place start) = refl
rule_back (rules.Name start) = refl
rule_back (rules.Literal start) = refl
rule_back (rules.Template start) = refl
rule_back (rules.Span start) = refl
rule_back (rules.Comment start) = refl
rule_back (rules.Indent start) = refl

had_back : (outcome : Outcome) → outcome_from (status_of outcome) (numbers_of outcome) ≡ outcome
unfolding outcome_from
had_back (Done count) = refl
had_back (TooSmall count) = refl
had_back (Faulty (NotJob fault)) = fault_back fault
had_back (Faulty (Refused fault)) = rule_back fault
had_back (Faulty Memory) = refl
had_back TooLong = refl

pub numbers_tell : NumbersTell
numbers_tell a b status numbers = sym (had_back a) ∙ (ap (λ s. outcome_from s (numbers_of a)) status ∙ (ap (outcome_from (status_of b)) numbers ∙ had_back b))

-- ---- of all texts

lengths_from : BuildAnswer → Lengths
lengths_from a = record { code = a.code_length; map = a.map_length; licences = a.legal_length }

answer_from : BuildAnswer → Answer
answer_from a = record { text_length = 0; row = a.row; field = a.field; has_row = a.has_row; start = a.start; rule = a.rule }

build_outcome_from : ℕ → BuildAnswer → BuildOutcome
build_outcome_from status a = if nat_eq status 0 then all.Done (lengths_from a) else if nat_eq status 8 then all.TooSmall (lengths_from a) else if nat_eq status 3 then all.Faulty (NotJob (fault_from (answer_from a))) else if nat_eq status 1 then all.Faulty (Refused (rule_from a.rule a.start)) else if nat_eq status 6 then all.Faulty Memory else all.TooLong

-- a fault that is had back, as the fault of such a call
fault_in : Outcome → BuildOutcome
fault_in (Faulty fault) = all.Faulty fault
fault_in other = all.TooLong

build_had_back : (outcome : BuildOutcome) → build_outcome_from (status_of (as_one outcome)) (build_numbers outcome) ≡ outcome
unfolding build_outcome_from lengths_from answer_from outcome_from fault_from place_from fault_in
build_had_back (all.Done lengths) = refl
build_had_back (all.TooSmall lengths) = refl
build_had_back (all.Faulty (NotJob fault)) = ap fault_in (fault_back fault)
build_had_back (all.Faulty (Refused fault)) = ap fault_in (rule_back fault)
build_had_back (all.Faulty Memory) = refl
build_had_back all.TooLong = refl

pub build_numbers_tell : BuildNumbersTell
build_numbers_tell a b status numbers = sym (build_had_back a) ∙ (ap (λ s. build_outcome_from s (build_numbers a)) status ∙ (ap (build_outcome_from (status_of (as_one b))) numbers ∙ build_had_back b))
