-- What is read with the normal form of a plain program has plain tokens.
use Rattle.std.proofs.Common.{◌≡◌, ℕ, List, [], Option, true, sym, ap, ◌∙◌}
use Rattle.jsgen_tree.specs.Job.{Tables, JobData}
use Rattle.jsgen_tree.specs.Tree.{Tree}
use Rattle.jsgen_model.specs.Tokens.{Tokens, AreTokensOf, AreTokensBehind, are_plain}
use Rattle.jsgen_model.specs.Grammar.{ReadsModule, ReadsProgram}
use Rattle.jsgen_model.specs.Grammar as grammar
use Rattle.jsgen_model.specs.Normal.{normal}
use Rattle.jsgen_model.specs.Renamed.{renamed}
use Rattle.jsgen_model.specs.Plain.{IsPlain}
use Rattle.jsgen_model.specs.Reading.{HasReading, IsReadAs}
use Rattle.jsgen_plain_laws.proofs.Free.{Free, free, said, plain_free}
use Rattle.jsgen_plain_laws.proofs.Kept.{kept}
use Rattle.jsgen_plain_laws.proofs.Named.{named_free}
use Rattle.jsgen_plain_laws.proofs.Productions.{plain_module}
use Rattle.jsgen_plain_laws.proofs.Unresolved.{unresolved}

-- a reading with the normal form of a plain program is as free as that
free_reading : (names : Tables) (reading program : Tree) → normal reading ≡ normal (renamed names program) → IsPlain program → Free reading
free_reading names reading program e h = said reading (sym (kept reading) ∙ (ap free e ∙ (kept (renamed names program) ∙ (named_free names program ∙ plain_free program h))))

pub plain_tokens : (names : Tables) (ts : Tokens) (reading program : Tree) → ReadsModule ts reading → normal reading ≡ normal (renamed names program) → IsPlain program → are_plain ts ≡ true
plain_tokens names ts reading program r e h = plain_module r (free_reading names reading program e h)

-- it has no hashbang
without : (w : Option (List ℕ)) (text : List ℕ) (ts : Tokens) (reading : Tree) → AreTokensBehind w text ts → ReadsProgram w ts reading → Free reading → AreTokensOf text ts × ReadsModule ts reading
without w text ts reading a (grammar.without_hashbang r) f = (a, r)
without w text ts reading a (grammar.behind_hashbang r) f = absurd f.0

-- so a reading of the program, if it is plain, is one by plain tokens; and it has no private names that are renamed
pub plain_reading : (text : List ℕ) (job : JobData) → IsPlain job.program → HasReading text job → IsReadAs text job
plain_reading text job p r =
    let same : normal r.reading ≡ normal (renamed job.tables job.program) = r.same ∙ ap (λ t. normal (renamed job.tables t)) (unresolved job.tables [] 0 job.program p) in
    let k = without r.hashbang text r.tokens r.reading r.are_tokens r.reads (free_reading job.tables r.reading job.program same p) in
    record { tokens = r.tokens; are_tokens = k.0; plain = plain_tokens job.tables r.tokens r.reading job.program k.1 same p; reading = r.reading; reads = k.1; same = same }
