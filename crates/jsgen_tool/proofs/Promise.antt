-- The promise of the program follows from the rows of its answers.
use Rattle.std.proofs.Common.{rules, ◌≡◌, ℕ, List, [], ◌∷◌, Option, Some, None, Ok, IfSome, refl, ap, ◌∙◌, subst, arith}
use Rattle.std.specs.Prelude.{Contains}
use Rattle.std.specs.Io.KnownBytes.{Appends}
use Rattle.jsgen_tree.specs.Job.{JobData}
use Rattle.jsgen_model.specs.Spell.{text_bytes}
use Rattle.jsgen_model.specs.Valid.{job_breaches}
use Rattle.jsgen_model.specs.Plain.{IsCore, IsPlain, IsQuiet}
use Rattle.jsgen_model.proofs.PlainPrograms.{plain_is_core}
use Rattle.jsgen_model.specs.declared.fault.TreeFault.{TreeFault}
use Rattle.jsgen_reading_laws.proofs.Reading.{bytes_are_read, core_bytes_are_read, text_is_utf8}
use Rattle.jsgen_rows.specs.Job.{job_of}
use Rattle.jsgen_rows.proofs.Program.{job_is_program}
use Rattle.jsgen_device.specs.Device.{Rose}
use Rattle.jsgen_tool.specs.Answers.{InputRow, OutputRow, SourceCount, OutCount, Due}
use Rattle.jsgen_tool.specs.Headline.{Answers, CorePrints, HoldsJob, Prints, TookCoreText, TookText}
use Rattle.jsgen_jobs.specs.Job.{IsJobOf}
use Rattle.jsgen_tool.specs.declared.status.Status.{Status}
use Rattle.jsgen_tool.specs.declared.status.Status.TheVariants.{Done, Refused, Usage, NotJob, ReadFault, WriteFault, Memory, TooLong}

-- bytes are one job
one_job : (bytes : List ℕ) (t u : JobData) → job_of bytes ≡ Ok t → job_of bytes ≡ Ok u → t ≡ u
one_job bytes t u h i = cc

no_breach : (fs : List TreeFault) (f : TreeFault) → fs ≡ [] → Contains fs f → ⊥
no_breach [] f h (i, within, is) = omega arith
no_breach (g ∷ gs) f h c = cc

-- the text of the job that the bytes are
took : (bytes : List ℕ) (wanted job : JobData) (old new : Option (List ℕ)) → IsJobOf wanted bytes → job_of bytes ≡ Ok job → Appends old new (text_bytes job) → Appends old new (text_bytes wanted)
took bytes wanted job old new (is, valid) same appends = subst (λ j. Appends old new (text_bytes j)) (one_job bytes job wanted same is) appends

-- what is known of each text that was written holds of what the sink took
answers : (P : Type 0) (s : Status) (held : Option (List ℕ)) (before now sink_before sink_now : ℕ) (old new : Option (List ℕ)) (job : JobData) → ((bytes : List ℕ) → IsJobOf job bytes → Appends old new (text_bytes job) → P) → (s ≡ Usage → ⊥) → SourceCount s before now → OutCount s sink_before sink_now → IfSome held (InputRow s) → OutputRow text_bytes s held old new → HoldsJob held job → Answers (Rose before now) (Rose sink_before sink_now) P s
answers P s None before now sink_before sink_now old new job h u r w i o holds = absurd holds
answers P Done (Some bytes) before now sink_before sink_now old new job h u r w i (printed, (held, same, within, is), appends) (fits, wanted) = record {
  answer = tt;
  text = λ done. h bytes wanted (took bytes job printed old new wanted (ap job_of same ∙ is.0) appends);
}
answers P Memory (Some bytes) before now sink_before sink_now old new job h u r w i o holds = record { answer = tt; text = λ done. absurd (cc) }
answers P ReadFault (Some bytes) before now sink_before sink_now old new job h u r w i o holds = record { answer = r.1; text = λ done. absurd (cc) }
answers P WriteFault (Some bytes) before now sink_before sink_now old new job h u r w i o holds = record { answer = w.1; text = λ done. absurd (cc) }
answers P Usage (Some bytes) before now sink_before sink_now old new job h u r w i o holds = absurd (u refl)
answers P TooLong (Some bytes) before now sink_before sink_now old new job h u r w i o holds = absurd (omega (arith, i, holds.0))
answers P (NotJob fault) (Some bytes) before now sink_before sink_now old new job h u r w i o (fits, (wanted, valid)) = absurd (let a = i.1 in cc)
answers P (Refused fault) (Some bytes) before now sink_before sink_now old new job h u r w (within, (found, is, broken)) o (fits, (wanted, valid)) = absurd (no_breach (job_breaches job) fault valid (subst (λ j. Contains (job_breaches j) fault) (one_job bytes found job is wanted) broken))

pub prints : (s : Status) (held : Option (List ℕ)) (before now sink_before sink_now : ℕ) (old new : Option (List ℕ)) (job : JobData) → (s ≡ Usage → ⊥) → SourceCount s before now → OutCount s sink_before sink_now → IfSome held (InputRow s) → OutputRow text_bytes s held old new → HoldsJob held job → IsPlain job.program → IsQuiet job → Prints (Rose before now) (Rose sink_before sink_now) job old new s
prints s held before now sink_before sink_now old new job u r w i o holds plain quiet = answers (TookText job old new) s held before now sink_before sink_now old new job
    (λ bytes is appends. let typed = job_is_program bytes job is.0 in (text_bytes job, appends, text_is_utf8 job typed is.1 (plain_is_core job.program plain) quiet, bytes_are_read job typed is.1 plain quiet)) u r w i o holds

pub core_prints : (s : Status) (held : Option (List ℕ)) (before now sink_before sink_now : ℕ) (old new : Option (List ℕ)) (job : JobData) → (s ≡ Usage → ⊥) → SourceCount s before now → OutCount s sink_before sink_now → IfSome held (InputRow s) → OutputRow text_bytes s held old new → HoldsJob held job → IsCore job.program → IsQuiet job → CorePrints (Rose before now) (Rose sink_before sink_now) job old new s
core_prints s held before now sink_before sink_now old new job u r w i o holds core quiet = answers (TookCoreText job old new) s held before now sink_before sink_now old new job
    (λ bytes is appends. let typed = job_is_program bytes job is.0 in (text_bytes job, appends, text_is_utf8 job typed is.1 core quiet, core_bytes_are_read job typed is.1 core quiet)) u r w i o holds

-- what comes where the words are the command and no read failed
pub due : (s : Status) (held : Option (List ℕ)) (before now sink_before sink_now : ℕ) → (s ≡ Usage → ⊥) → SourceCount s before now → OutCount s sink_before sink_now → IfSome held (InputRow s) → (Rose before now → ⊥) → IfSome held (λ bytes. Due (Rose sink_before sink_now) bytes s)
due s None before now sink_before sink_now u r w i unread = tt
due Done (Some bytes) before now sink_before sink_now u r w i unread = search rules
due Memory (Some bytes) before now sink_before sink_now u r w i unread = search rules
due ReadFault (Some bytes) before now sink_before sink_now u r w i unread = absurd (unread r.1)
due WriteFault (Some bytes) before now sink_before sink_now u r w i unread = search rules
due Usage (Some bytes) before now sink_before sink_now u r w i unread = absurd (u refl)
due TooLong (Some bytes) before now sink_before sink_now u r w i unread = search rules
due (NotJob fault) (Some bytes) before now sink_before sink_now u r w i unread = search rules
due (Refused fault) (Some bytes) before now sink_before sink_now u r w i unread = search rules
