-- What stands in the buffer is read back.
use Rattle.std.proofs.Common.{◌≡◌, ℕ, List, ◌++◌, length, Ok, ap, ap₂, sym, ◌∙◌, subst}
use Rattle.std.specs.Prelude.{take, drop}
use Rattle.std.specs.Str.{chars, IsUtf8}
use Rattle.std.proofs.Math.Seq.{take-append_seam}
use Rattle.std.proofs.lemmas.List.{append_assoc}
use Rattle.jsgen_tree.specs.Job.{JobData}
use Rattle.jsgen_model.specs.Spell.{text_bytes}
use Rattle.jsgen_model.specs.Plain.{IsPlain, IsQuiet}
use Rattle.jsgen_model.proofs.PlainPrograms.{plain_is_core}
use Rattle.jsgen_model.specs.Reading.{IsReadAs}
use Rattle.jsgen_reading_laws.proofs.Reading.{bytes_are_read, text_is_utf8}
use Rattle.jsgen_rows.specs.Job.{job_of}
use Rattle.jsgen_rows.proofs.Program.{job_is_program}
use Rattle.jsgen_jobs.specs.Job.{IsJobOf}
use Rattle.jsgen_jobs.specs.LegalText.{legal_bytes}
use Rattle.jsgen_jobs.specs.MapText.{map_bytes}
use Rattle.jsgen_jobs.specs.declared.JobFault.TheVariants.{NotJob, Refused, Memory}
use Rattle.jsgen_c.specs.Outcome.{Tells, Printed, BeginsAs, IsReadBack}
use Rattle.jsgen_c.specs.Texts.{TellsAll, BuiltInto, total}
use Rattle.jsgen_c.specs.declared.answer.Answer.{Answer}
use Rattle.jsgen_c.specs.declared.outcome.Outcome.TheVariants.{Done, TooSmall, Faulty, TooLong}
use Rattle.jsgen_c.specs.declared.texts.BuildAnswer.{BuildAnswer}
use Rattle.jsgen_c.specs.declared.texts.BuildOutcome.TheVariants as all

-- bytes are one job
one_job : (bytes : List ℕ) (t u : JobData) → job_of bytes ≡ Ok t → job_of bytes ≡ Ok u → t ≡ u
one_job bytes t u h i = cc

-- a buffer begins with its first bytes
begins : (text rest new : List ℕ) (count : ℕ) → count ≡ length text → new ≡ text ++ rest → text ≡ take count new
begins text rest new count is put = sym (ap₂ (λ n b. take n b) is put ∙ take-append_seam text rest)

-- of a job whose text these are
of_text : (count : ℕ) (bytes new : List ℕ) (printed : JobData) → IsJobOf printed bytes → text_bytes printed ≡ take count new → (job : JobData) → IsJobOf job bytes → IsPlain job.program → IsQuiet job → BeginsAs job count new
of_text count bytes new printed is text job wanted plain quiet =
    let P : List ℕ → Type 0 = λ text. IsUtf8 text × IsReadAs (chars text) job in
    let typed = job_is_program bytes job wanted.0 in
    let same = ap text_bytes (one_job bytes job printed wanted.0 is.0) in
    subst P (same ∙ text) (text_is_utf8 job typed wanted.1 (plain_is_core job.program plain) quiet, bytes_are_read job typed wanted.1 plain quiet)

pub reads : (status : ℕ) (answer : Answer) (bytes old new : List ℕ) → Tells status answer (λ outcome. Printed outcome bytes old new) → IsReadBack status answer.text_length bytes new
reads status answer bytes old new (Done count, s, a, (within, (printed, is, placed))) done =
    of_text answer.text_length bytes new printed is (begins (text_bytes printed) (drop count old) new answer.text_length (ap (λ b. b.text_length) a ∙ placed.0) placed.1)
reads status answer bytes old new (TooSmall count, s, a, h) done = absurd (cc)
reads status answer bytes old new (Faulty (NotJob fault), s, a, h) done = absurd (cc)
reads status answer bytes old new (Faulty (Refused fault), s, a, h) done = absurd (cc)
reads status answer bytes old new (Faulty Memory, s, a, h) done = absurd (cc)
reads status answer bytes old new (TooLong, s, a, h) done = absurd (cc)

-- the text of the program is the first of all texts
pub build_reads : (status : ℕ) (answer : BuildAnswer) (bytes old new : List ℕ) → TellsAll status answer (λ outcome. BuiltInto outcome bytes old new) → IsReadBack status answer.code_length bytes new
build_reads status answer bytes old new (all.Done lengths, s, a, ((within, (printed, is, placed)), told)) done =
    let rest = map_bytes printed ++ legal_bytes printed in
    of_text answer.code_length bytes new printed is
    (begins (text_bytes printed) (rest ++ drop (total lengths) old) new answer.code_length (ap (λ b. b.code_length) a ∙ ap (λ l. l.code) (told printed is.0)) (placed.1 ∙ append_assoc (text_bytes printed) rest (drop (total lengths) old)))
build_reads status answer bytes old new (all.TooSmall lengths, s, a, h) done = absurd (cc)
build_reads status answer bytes old new (all.Faulty (NotJob fault), s, a, h) done = absurd (cc)
build_reads status answer bytes old new (all.Faulty (Refused fault), s, a, h) done = absurd (cc)
build_reads status answer bytes old new (all.Faulty Memory, s, a, h) done = absurd (cc)
build_reads status answer bytes old new (all.TooLong, s, a, h) done = absurd (cc)
