-- The whole path: from a valid job to its text, the text's tokens and their reading.
use Rattle.std.proofs.Common.{◌≡◌, ℕ, true, false, Some, None, List, [], chars, encode_utf8_all, refl, sym, ap, subst, ◌∙◌}
use Rattle.std.specs.Str.{IsUtf8}
use Rattle.std.proofs.lemmas.Str.{chars-encodes}
use Rattle.jsgen_syntax.specs.Buffer.{indent_code}
use Rattle.jsgen_syntax.specs.declared.buffer.IndentChar.{IndentChar}
use Rattle.jsgen_syntax.specs.declared.buffer.IndentChar.TheVariants as indents
use Rattle.jsgen_tree.specs.declared.types.NodeType.{NodeType}
use Rattle.jsgen_tree.specs.declared.types.NodeType.TheVariants as types
use Rattle.std.proofs.lemmas.Bool.{and_from}
use Rattle.jsgen_tree.specs.Options.{Options}
use Rattle.jsgen_tree.specs.Job.{Tables, JobData}
use Rattle.jsgen_tree.specs.Tree.{Tree, absent, given, no_trees, type_of}
use Rattle.jsgen_tree.specs.Values.{hashbang_value}
use Rattle.jsgen_tree.specs.Nodes as tree
use Rattle.jsgen_model.specs.Tokens.{◌⧺◌}
use Rattle.jsgen_place.specs.Place.{among_statements}
use Rattle.jsgen_model.specs.Items.{Items, ◌⊕◌, due_semicolon}
use Rattle.jsgen_model.specs.Layout.{Pen, layout, empty_pen, style_of}
use Rattle.jsgen_model.specs.Grammar.{hashbang_of}
use Rattle.jsgen_model.specs.Grammar as grammar
use Rattle.jsgen_model.specs.Normal.{nothing_of}
use Rattle.jsgen_model.specs.Lay.{lay}
use Rattle.jsgen_model.specs.Spell.{spell, spell_body, spell_directives, first_pen, printed, text_bytes}
use Rattle.jsgen_model.specs.Valid.{IsValid, surroundings_of}
use Rattle.jsgen_model.specs.Plain.{IsCore, IsPlain, IsQuiet}
use Rattle.jsgen_model.specs.Plain as model
use Rattle.jsgen_model.specs.Renamed.{renamed}
use Rattle.jsgen_model.specs.Reading.{HasReading, HasReadingAs, IsReadAs}
use Rattle.jsgen_model.proofs.PlainPrograms.{passed_on, plain_is_core}
use Rattle.jsgen_mark_laws.proofs.Quiet.{same_text}
use Rattle.jsgen_token_laws.proofs.Last.{Open, is_indent}
use Rattle.jsgen_token_laws.proofs.Writes.{wrote_both, all_tokens, tokens_behind_hashbang}
use Rattle.jsgen_token_laws.proofs.Scalars.{program_scalars}
use Rattle.jsgen_private_laws.specs.Settled.{settled, without_private, code_of}
use Rattle.jsgen_private_laws.proofs.JobsSame.{core_same, is_valid_same}
use Rattle.jsgen_private_laws.proofs.Same.{type_same}
use Rattle.jsgen_private_laws.proofs.RenamedSame.{renamed_same}
use Rattle.jsgen_private_laws.proofs.Printed.{text_same}
use Rattle.jsgen_row_laws.proofs.CoreIn.{IsCoreIn, is_core_row, keeps_private_names}
use Rattle.jsgen_row_laws.proofs.ModuleFamilies.{IsModule}
use Rattle.jsgen_reading_laws.proofs.ModuleValid.{is_program, program_valid}
use Rattle.jsgen_row_laws.proofs.ModuleFamilies as family
use Rattle.jsgen_plain_laws.proofs.Plainness.{plain_reading}
use Rattle.jsgen_row_laws.proofs.Ends.{due_ends}
use Rattle.jsgen_reading_laws.proofs.Quiet.{no_comment, no_annotation, no_licence}
use Rattle.jsgen_reading_laws.proofs.Unannotated.{quiet_annotations}
use Rattle.jsgen_row_laws.proofs.Prologue.{whole_body_as}
use Rattle.jsgen_reading_laws.proofs.ModuleInduction.{module_items_body, module_stated}

-- the indentation of a job's options is of spaces or of tabs
style_indents : (options : Options) (tables : Tables) → is_indent (style_of options tables).indent ≡ true
style_indents options tables = by options.indent_char
  where
    by : (c : IndentChar) → is_indent (indent_code c) ≡ true
    by indents.Tab = refl
    by indents.Space = refl

-- ---- the whole

has_reading : (options : Options) (tables : Tables) (t : Tree) → IsModule tables t → HasReadingAs (code_of (record { options = options; tables = tables; program = t })) (renamed tables t)
has_reading options tables t (family.a_module {a} {hashbang} {comments} {directives} {body} family.no_first_line v w) =
    let p : Pen = empty_pen (style_of options tables) options.initial_indent in
    let q : Pen = layout (spell_directives directives ⊕ spell_body body) p in
    let b = whole_body_as module_items_body directives body v (module_stated w) p (Open false) refl tt (record { indent = style_indents options tables; tables = refl; ending = tt }) in
    let d = due_ends q b.last b.ready b.writes.knows in
    record {
      hashbang = None;
      tokens = b.tokens ⧺ d.tokens;
      are_tokens = all_tokens p (layout due_semicolon q) d.last (b.tokens ⧺ d.tokens) refl (wrote_both b.writes d.writes);
      reading = tree.program (nothing_of 4) no_trees absent b.reading.0 b.reading.1;
      reads = grammar.without_hashbang (grammar.a_module (b.reads.read false (b.tokens ⧺ d.tokens) (d.ends b.tokens)));
      same = λ i. tree.program (nothing_of 4) no_trees absent (b.same.0 i) (b.same.1 i);
    }
-- the line end of the hashbang stands before the first token
has_reading options tables t (family.a_module {a} {hashbang} {comments} {directives} {body} (family.a_first_line {a = line} g s) v w) =
    let value : List ℕ = hashbang_value line in
    let p : Pen = layout (spell (tree.hashbang line) among_statements) (empty_pen (style_of options tables) options.initial_indent) in
    let q : Pen = layout (spell_directives directives ⊕ spell_body body) p in
    let b = whole_body_as module_items_body directives body v (module_stated w) p (Open true) refl tt (record { indent = style_indents options tables; tables = refl; ending = tt }) in
    let d = due_ends q b.last b.ready b.writes.knows in
    record {
      hashbang = Some value;
      tokens = b.tokens ⧺ d.tokens;
      are_tokens = tokens_behind_hashbang value p (layout due_semicolon q) d.last (b.tokens ⧺ d.tokens) g s refl (wrote_both b.writes d.writes);
      reading = tree.program (nothing_of 4) no_trees (given (hashbang_of value)) b.reading.0 b.reading.1;
      reads = grammar.behind_hashbang (grammar.a_module (b.reads.read false (b.tokens ⧺ d.tokens) (d.ends b.tokens)));
      same = λ i. tree.program (nothing_of 4) no_trees (given (hashbang_of value)) (b.same.0 i) (b.same.1 i);
    }

-- ---- of core

-- where the tables have no private names, each stays as it is
unrenamed : (tables : Tables) (type : NodeType) → keeps_private_names (without_private tables) type ≡ true
unrenamed tables types.PrivateIdentifier = refl
unrenamed tables type = refl

core_in : (tables : Tables) (t : Tree) → IsCore t → IsCoreIn (without_private tables) t
core_in tables t p = passed_on model.is_core_row (is_core_row (without_private tables)) (λ u e. and_from (keeps_private_names (without_private tables) (type_of u)) (model.is_core_row u) (unrenamed tables (type_of u)) e) t p

-- by the job whose private names are written as they are printed, which is printed the same
quiet_is_read : (job : JobData) → type_of job.program ≡ types.Program → IsValid job → IsCore job.program → HasReading (code_of job) job
quiet_is_read job s v p =
    let own : JobData = settled job in
    let typed = ap is_program (type_same job.tables [] 0 job.program ∙ s) in
    let r = has_reading own.options own.tables own.program (program_valid 0 (surroundings_of own) refl own.program (core_in job.tables own.program (core_same job p)) typed (is_valid_same job v)) in
    subst (λ text. HasReading text job) (text_same job v p) (subst (λ t. HasReadingAs (code_of own) t) (renamed_same job.tables own.program) r)

pub core_is_read : (job : JobData) → type_of job.program ≡ types.Program → IsValid job → IsCore job.program → IsQuiet job → HasReading (printed job) job
core_is_read job s v p q =
    let items : Items = spell job.program among_statements in
    let whole : printed job ≡ (lay items (first_pen job)).code = ap (λ (pen : Pen). pen.code) (no_licence job q (lay items (first_pen job))) in
    let same = whole ∙ (same_text items (first_pen job) (no_comment job q) refl (quiet_annotations job q) ∙ (λ i. (layout items (record (first_pen job) { store = no_comment job q i; annotations = no_annotation job q i })).code)) in
    subst (λ text. HasReading text job) (sym same) (quiet_is_read job s v p)

-- the bytes spell the characters that they were made of
on_bytes : (text : List ℕ) (job : JobData) → HasReading text job → HasReading (chars (encode_utf8_all text)) job
on_bytes text job r = subst (λ x. HasReading x job) (sym (chars-encodes text (program_scalars r.hashbang text r.tokens r.are_tokens))) r

pub core_bytes_are_read : (job : JobData) → type_of job.program ≡ types.Program → IsValid job → IsCore job.program → IsQuiet job → HasReading (chars (text_bytes job)) job
core_bytes_are_read job s v p q = on_bytes (printed job) job (core_is_read job s v p q)

-- for bytes that are known to be the text's
pub core_read_back : (job : JobData) (bytes : List ℕ) → bytes ≡ text_bytes job → type_of job.program ≡ types.Program → IsValid job → IsCore job.program → IsQuiet job → HasReading (chars bytes) job
core_read_back job bytes e s v p q = subst (λ b. HasReading (chars b) job) (sym e) (core_bytes_are_read job s v p q)

-- the bytes are a text in UTF-8
pub text_is_utf8 : (job : JobData) → type_of job.program ≡ types.Program → IsValid job → IsCore job.program → IsQuiet job → IsUtf8 (text_bytes job)
text_is_utf8 job s v p q = let r = core_is_read job s v p q in (printed job, (program_scalars r.hashbang (printed job) r.tokens r.are_tokens, refl))

-- ---- of what is plain

pub printed_is_read : (job : JobData) → type_of job.program ≡ types.Program → IsValid job → IsPlain job.program → IsQuiet job → IsReadAs (printed job) job
printed_is_read job s v p q = plain_reading (printed job) job p (core_is_read job s v (plain_is_core job.program p) q)

pub bytes_are_read : (job : JobData) → type_of job.program ≡ types.Program → IsValid job → IsPlain job.program → IsQuiet job → IsReadAs (chars (text_bytes job)) job
bytes_are_read job s v p q = plain_reading (chars (text_bytes job)) job p (core_bytes_are_read job s v (plain_is_core job.program p) q)

pub read_back : (job : JobData) (bytes : List ℕ) → bytes ≡ text_bytes job → type_of job.program ≡ types.Program → IsValid job → IsPlain job.program → IsQuiet job → IsReadAs (chars bytes) job
read_back job bytes e s v p q = subst (λ b. IsReadAs (chars b) job) (sym e) (bytes_are_read job s v p q)
