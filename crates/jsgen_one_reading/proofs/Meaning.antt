-- A printed text has one meaning.
use Rattle.std.proofs.Common.{◌≡◌, ℕ, List, ap, sym, subst, ◌∙◌}
use Rattle.std.specs.Str.{chars}
use Rattle.jsgen_model.specs.Reading.{IsReadAs, IsReadOnlyAs}
use Rattle.jsgen_tree.specs.declared.types.NodeType.TheVariants as types
use Rattle.jsgen_tree.specs.Tree.{type_of}
use Rattle.jsgen_tree.specs.Job.{JobData}
use Rattle.jsgen_model.specs.Grammar.{ReadsModule}
use Rattle.jsgen_model.specs.Normal.{normal}
use Rattle.jsgen_model.specs.Spell.{printed, text_bytes}
use Rattle.jsgen_model.specs.Valid.{IsValid}
use Rattle.jsgen_model.specs.Plain.{IsPlain, IsQuiet}
use Rattle.jsgen_token_laws.proofs.OneList.{one_token_list}
use Rattle.jsgen_reading_laws.proofs.Reading.{printed_is_read, bytes_are_read}
use Rattle.jsgen_one_reading.proofs.Modules.{one_reading}

-- a text that is read as a job's program has no other meaning
no_other : (text : List ℕ) (job : JobData) → IsReadAs text job → IsReadOnlyAs text job
no_other text job h ts p a b r =
    let e : ts ≡ h.tokens = one_token_list text ts h.tokens a b h.are_tokens h.plain in
    ap normal (one_reading h.tokens p h.reading (subst (λ us. ReadsModule us p) e r) h.reads) ∙ h.same

pub one_meaning : (job : JobData) → type_of job.program ≡ types.Program → IsValid job → IsPlain job.program → IsQuiet job → IsReadOnlyAs (printed job) job
one_meaning job s v p q = no_other (printed job) job (printed_is_read job s v p q)

pub bytes_have_one_meaning : (job : JobData) → type_of job.program ≡ types.Program → IsValid job → IsPlain job.program → IsQuiet job → IsReadOnlyAs (chars (text_bytes job)) job
bytes_have_one_meaning job s v p q = no_other (chars (text_bytes job)) job (bytes_are_read job s v p q)

-- for bytes that are known to be the text's
pub read_only : (job : JobData) (bytes : List ℕ) → bytes ≡ text_bytes job → type_of job.program ≡ types.Program → IsValid job → IsPlain job.program → IsQuiet job → IsReadOnlyAs (chars bytes) job
read_only job bytes e s v p q = subst (λ b. IsReadOnlyAs (chars b) job) (sym e) (bytes_have_one_meaning job s v p q)
