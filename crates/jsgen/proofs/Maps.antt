-- What the map of a printed program says.
use Rattle.std.proofs.Common.{◌≡◌, ℕ, ◌^◌, ◌<◌, List, [], ◌∷◌, ◌++◌, Bool, true, false, nat_lt, is_some, unwrap_or, option_map, Option, Some, None, Result, Ok, Err, IfOk, string_bytes, length, map, refl, ap, sym, subst, ◌∙◌, arith}
use Rattle.std.specs.Option.{option_map_or}
use Rattle.std.specs.Str.{chars, encode_utf8_all, IsUtf8}
use Rattle.std.proofs.lemmas.Bool.{both_ways, ltb-false}
use Rattle.std.proofs.lemmas.Str.{encodes-chars, IsUtf8-had}
use Rattle.jsgen_tree.specs.Job.{JobData, Tables}
use Rattle.jsgen_tree.specs.Nodes as tree
use Rattle.jsgen_tree.specs.Options.{Options}
use Rattle.jsgen_tree.specs.Plain.{node_plain, program_plain}
use Rattle.jsgen_tree.specs.Rows.{comment_row, directive_row, hashbang_row, in_statement}
use Rattle.jsgen_tree.specs.Tree.{Atoms, Maybe, Trees, atoms_of, optional, trees}
use Rattle.jsgen_tree.specs.declared.nodes.Node.{Node}
use Rattle.jsgen_tree.specs.declared.statements.Program.{Program}
use Rattle.jsgen_model.specs.Valid.{Surroundings, breaches, fault_if, is_too_long, own_faults, source_faults, program_faults, span_faults, surroundings_of, IsValid}
use Rattle.jsgen_model.specs.declared.fault.TreeFault.{TreeFault}
use Rattle.jsgen_model.specs.declared.fault.TreeFault.TheVariants as faults
use Rattle.jsgen_map.specs.Marks.{Mark, AreMarks, MapOf, token_of}
use Rattle.jsgen_map.specs.Names.{texts}
use Rattle.jsgen_map.specs.Plain.{mark_plain}
use Rattle.jsgen_map.specs.declared.source_map.Mark as declared
use Rattle.jsgen_map.specs.declared.source_map.SourceMap.{SourceMap}
use Rattle.jsgen_map.specs.declared.source_map.Token.{Token}
use Rattle.jsgen_map_text.specs.Lines.{map_text}
use Rattle.jsgen_jobs.specs.MapText.{map_bytes}
use Rattle.jsgen_model.specs.Items.{Items}
use Rattle.jsgen_place.specs.Place.{among_statements}
use Rattle.jsgen_tree.specs.Options.{Legal}
use Rattle.jsgen_model.specs.Comments.{Comment, comment_at}
use Rattle.jsgen_model.specs.Ends.{licensed, moved_licences}
use Rattle.jsgen_model.specs.Layout.{Pen}
use Rattle.jsgen_model.specs.Lay.{lay}
use Rattle.jsgen_model.specs.Mapped.{mapped_pen, marks_of, names_in, source_bytes, tokens_in}
use Rattle.jsgen_model.specs.Spell.{spell, comments_in, first_pen, text_bytes}
use Rattle.jsgen_mark_laws.specs.Law.{Adds, Right}
use Rattle.jsgen_mark_laws.specs.Names.{names_of, NamePlaces}
use Rattle.jsgen_mark_laws.proofs.Maps.{are_marks}
use Rattle.jsgen_mark_laws.proofs.Comments.{marks_kept, passes_licences}
use Rattle.jsgen_mark_laws.proofs.Marked.{step_then}
use Rattle.jsgen_mark_laws.proofs.Names.{names_stand, right_behind, source_behind, stand_longer}
use Rattle.jsgen_mark_laws.proofs.Steps.{lay_steps}
use Rattle.jsgen_printer.specs.Printer.{at_depth, by_marks, source_plain}
use Rattle.jsgen_printer.specs.declared.marks.Marks.{Marks}
use Rattle.jsgen_mark_laws.proofs.Sources.{ended_alike}
use Rattle.jsgen.specs.Codegen.{mapped_from, MapsTo}
use Rattle.jsgen.specs.Mapped.{HasMap, NamesStandIn, lines_of}

lines_of_map : (job : JobData) (names : List (List ℕ)) → names ≡ names_in job → map_text names (map (token_of names (text_bytes job) (source_bytes job)) (marks_of job)) ≡ map_text (names_in job) (tokens_in job)
lines_of_map job names e = ap (λ ws. map_text ws (map (token_of ws (text_bytes job) (source_bytes job)) (marks_of job))) e

pub lines_are : (job : JobData) (m : Option SourceMap) → HasMap job m → lines_of m ≡ map_bytes job
lines_are job None h = ap (λ (path : Option (List ℕ)). option_map_or (λ (p : List ℕ). map_text (names_in job) (tokens_in job)) path []) (sym h)
lines_are job (Some m) (path, is) =
    ap (λ ts. map_text (texts m.names.items) ts) is.map.are
    ∙ (lines_of_map job (texts m.names.items) is.map.named
    ∙ ap (λ (path : Option (List ℕ)). option_map_or (λ (p : List ℕ). map_text (names_in job) (tokens_in job)) path []) (sym is.asked))

-- where no mark stands yet, they are right
right_from : (depth : ℕ) (source : List ℕ) (pen : Pen) → Right (mapped_from depth source pen)
right_from depth source pen = record { ordered = omega arith; parted = tt; placed = tt }

-- a program, and what stands at its end
abbrev pub whole : Items → Legal → List Comment → Pen → Pen
whole items legal cs pen = licensed legal cs (lay items pen)

whole_adds : (items : Items) (legal : Legal) (cs : List Comment) (pen : Pen) → Adds pen (whole items legal cs pen)
whole_adds items legal cs pen = step_then (lay_steps items pen) (passes_licences legal cs (lay items pen)).adds

-- what a program leaves are marks of its code
pub marks_from : (items : Items) (legal : Legal) (cs : List Comment) (depth : ℕ) (source bytes : List ℕ) (pen : Pen) → bytes ≡ encode_utf8_all (whole items legal cs (mapped_from depth source pen)).code → IsUtf8 bytes → AreMarks bytes source (whole items legal cs (mapped_from depth source pen)).marks
marks_from items legal cs depth source bytes pen is u =
    let adds = whole_adds items legal cs (mapped_from depth source pen) in
    are_marks (whole items legal cs (mapped_from depth source pen)) source bytes (source_behind source adds refl) (right_behind adds (right_from depth source pen)) is u

pub if_ok : {T E : Type 0} {P Q : T → Type 0} (r : Result T E) → ((x : T) → P x → Q x) → IfOk r P → IfOk r Q
if_ok (Ok x) f h = f x h
if_ok (Err e) f h = h

pub if_any : {T E : Type 0} {P : T → Type 0} (r : Result T E) → ((x : T) → P x) → IfOk r P
if_any (Ok x) f = f x
if_any (Err e) f = tt

-- a job's licences at its end
abbrev pub job_end : JobData → List Comment
job_end job = map (comment_at (source_bytes job)) (moved_licences job.options.comments.legal (source_bytes job) (comments_in job.program))

-- a job's program, from a pen
abbrev pub job_whole : JobData → Pen → Pen
job_whole job pen = whole (spell job.program among_statements) job.options.comments.legal (job_end job) pen

-- a printer begins there, whose level is still to be set
abbrev pub Begins : JobData → Pen → Type 0
Begins job pen = at_depth job.options.initial_indent pen ≡ first_pen job

-- the text is that of the job, with marks or without
pub text_is : (job : JobData) (pen : Pen) → Begins job pen → encode_utf8_all (job_whole job (mapped_from job.options.initial_indent (source_bytes job) pen)).code ≡ text_bytes job
text_is job pen e =
    ap (λ (p : Pen). encode_utf8_all (job_whole job (mapped_from p.depth (source_bytes job) p)).code) e
    ∙ ap encode_utf8_all (ended_alike (spell job.program among_statements) job.options.comments.legal (job_end job) (first_pen job) (Some (source_bytes job)))

-- and the marks are the job's
marks_are : (job : JobData) (pen : Pen) → Begins job pen → (job_whole job (mapped_from job.options.initial_indent (source_bytes job) pen)).marks ≡ marks_of job
marks_are job pen e =
    ap (λ (p : Pen). (job_whole job (mapped_from p.depth (source_bytes job) p)).marks) e
    ∙ marks_kept (passes_licences job.options.comments.legal (job_end job) (lay (spell job.program among_statements) (mapped_pen job)))

pub has_map : (job : JobData) (pen : Pen) (path : List ℕ) (m : Option SourceMap) → Begins job pen → job.options.source_map_path ≡ Some (chars path) → MapsTo (job_whole job (mapped_from job.options.initial_indent (source_bytes job) pen)) (source_bytes job) path m → HasMap job m
has_map job pen path None e asked h = absurd h
has_map job pen path (Some m) e asked h = (
  chars path,
  record {
    asked = asked;
    called = ap chars h.0;
    source = h.1;
    map = subst (λ (ms : List Mark). MapOf (text_bytes job) (source_bytes job) ms (texts m.names.items) m.tokens.items) (marks_are job pen e)
        (subst (λ (bytes : List ℕ). MapOf bytes (source_bytes job) (job_whole job (mapped_from job.options.initial_indent (source_bytes job) pen)).marks (texts m.names.items) m.tokens.items) (text_is job pen e) h.2);
  },
)

-- names stand where their marks are, in every map of the job
pub names_stand_in : (job : JobData) (m : Option SourceMap) → NamesStandIn job m
names_stand_in job None = tt
names_stand_in job (Some m) =
    let items : Items = spell job.program among_statements in
    let laid : Pen = lay items (mapped_pen job) in
    let end = passes_licences job.options.comments.legal (job_end job) laid in
    let behind : NamePlaces (job_whole job (mapped_pen job)).code (job_whole job (mapped_pen job)).marks 0 (names_of items (mapped_pen job)) = stand_longer end.adds 0 (names_of items (mapped_pen job)) (names_stand items (mapped_pen job) (source_bytes job) refl (record { ordered = omega arith; parted = tt; placed = tt })) in
    subst (λ (code : List ℕ). NamePlaces code (marks_of job) 0 (names_of items (mapped_pen job)))
    (ended_alike items job.options.comments.legal (job_end job) (first_pen job) (Some (source_bytes job)))
    (subst (λ (ms : List Mark). NamePlaces (job_whole job (mapped_pen job)).code ms 0 (names_of items (mapped_pen job))) (marks_kept end) behind)

-- ---- the source

no_first : (xs ys : List TreeFault) → xs ++ ys ≡ [] → xs ≡ []
no_first [] ys h = refl
no_first (x ∷ xs) ys h = absurd (cc)

no_second : (xs ys : List TreeFault) → xs ++ ys ≡ [] → ys ≡ []
no_second [] ys h = h
no_second (x ∷ xs) ys h = absurd (cc)

no_fault : (b : Bool) (f : TreeFault) → fault_if b f ≡ [] → b ≡ false
no_fault false f h = refl
no_fault true f h = absurd (cc)

-- that of a valid program isn't too long
source_fits : (around : Surroundings) (next : ℕ) (a : Atoms) (comments : Trees) (hashbang : Maybe) (directives body : Trees) → breaches around next (tree.program a comments hashbang directives body) ≡ [] → is_too_long around.source ≡ false
source_fits around next a comments hashbang directives body h =
    let own = own_faults around (tree.program a comments hashbang directives body) in
    no_fault (is_too_long around.source) (faults.Span a.span.start) (no_first (source_faults a.span around.source) _ (no_first (program_faults a.span around.source around.options) _ (no_second (span_faults around a.span) own (no_first (span_faults around a.span ++ own) _ h))))

short : (n : ℕ) → nat_lt 4294967295 n ≡ false → n < 2 ^ 32
short n h = let l = ltb-false 4294967295 n h in omega (arith, l)

-- its bytes are those that its characters have
pub source_is : (p : Program Node) (options : Options) (tables : Tables) → source_bytes (record { options = options; tables = tables; program = program_plain p }) ≡ string_bytes p.source
source_is p options tables = encodes-chars (string_bytes p.source) (IsUtf8-had (string_bytes p.source) p.source.ok)

pub source_is_short : (p : Program Node) (options : Options) (tables : Tables) → IsValid (record { options = options; tables = tables; program = program_plain p }) → length (string_bytes p.source) < 2 ^ 32
source_is_short p options tables valid =
    let job : JobData = record { options = options; tables = tables; program = program_plain p } in
    subst (λ (bytes : List ℕ). length bytes < 2 ^ 32) (source_is p options tables)
    (short (length (source_bytes job))
    (source_fits (surroundings_of job) 0 (atoms_of (program_plain p)) (trees (map comment_row p.comments.items)) (optional (option_map (λ b. hashbang_row b.value) p.hashbang)) (trees (map directive_row p.directives.items)) (trees (map (in_statement node_plain) p.body.items)) valid))

-- ---- a printer that leaves marks

pub begun : (m : Marks) (source : List ℕ) (depth : ℕ) (pen : Pen) → m.source.now ≡ source → m.list.items ≡ [] → at_depth depth (by_marks m pen) ≡ mapped_from depth source pen
begun m source depth pen e f =
    ap (λ (s : List ℕ). record pen { style = record pen.style { source = Some s }; depth = depth; marks = map mark_plain m.list.items }) e
    ∙ ap (λ (ms : List declared.Mark). record pen { style = record pen.style { source = Some source }; depth = depth; marks = map mark_plain ms }) f

-- the source stays
pub kept_source : (items : Items) (legal : Legal) (cs : List Comment) (depth : ℕ) (source : List ℕ) (pen : Pen) → (whole items legal cs (mapped_from depth source pen)).style.source ≡ Some source
kept_source items legal cs depth source pen = source_behind source (whole_adds items legal cs (mapped_from depth source pen)) refl

pub its_source : {source : List ℕ} (parts : Option Marks) (m : Marks) → parts ≡ Some m → source_plain parts ≡ Some source → m.source.now ≡ source
its_source parts m is s = ap (λ (o : Option (List ℕ)). unwrap_or o []) (ap source_plain (sym is) ∙ s)

pub not_none : {source : List ℕ} (parts : Option Marks) → parts ≡ None → source_plain parts ≡ Some source → ⊥
not_none parts is s = both_ways false refl (ap is_some (ap source_plain (sym is) ∙ s))

pub same_map : {code whole was source : List ℕ} {old marks : List Mark} {names : List (List ℕ)} {tokens : List Token} → code ≡ whole → was ≡ source → old ≡ marks → MapOf code was old names tokens → MapOf whole source marks names tokens
same_map {code} {whole} {was} {source} {old} {marks} {names} {tokens} e f g h = subst (λ ms. MapOf whole source ms names tokens) g (subst (λ s. MapOf whole s old names tokens) f (subst (λ c. MapOf c was old names tokens) e h))

pub same_marks : {code source was : List ℕ} {old marks : List Mark} → was ≡ source → old ≡ marks → AreMarks code source marks → AreMarks code was old
same_marks {code} {source} {was} {old} {marks} f g h = subst (λ ms. AreMarks code was ms) (sym g) (subst (λ s. AreMarks code s marks) (sym f) h)
