use Rattle.std.proofs.Common.{◌≡◌, Some, option_map, string_bytes, List, ℕ, refl, ap, sym, ◌∙◌}
use Rattle.std.specs.Str.{chars}
use Rattle.jsgen_tree.specs.Characters.{characters}
use Rattle.jsgen_tree.specs.Options.{options_plain}
use Rattle.jsgen_tree.specs.Plain.{program_plain}
use Rattle.jsgen_tree.specs.Scoping.{tables_plain}
use Rattle.jsgen_comments.specs.Plain.{annotations_of, store_of}
use Rattle.jsgen_model.specs.Spell.{text_bytes}
use Rattle.jsgen_printer.specs.Printer.{pen_of}
use Rattle.jsgen.specs.Codegen.{job_for}
use Rattle.jsgen_model.specs.Spell.{printed}
use Rattle.jsgen_model.proofs.PlainPrograms.{program_is_formed}
use Rattle.jsgen_comment_laws.proofs.Laws.{comments_stand}
use Rattle.jsgen_reading_laws.proofs.Reading.{core_read_back, read_back}
use Rattle.jsgen_one_reading.proofs.Meaning.{read_only}
use Rattle.jsgen.specs.Commented.{HasComments}
use Rattle.jsgen.proofs.WholePrograms.{Built, apart_is, built, mapped_map, mapped_text, plain_text}
use Rattle.jsgen.proofs.Maps.{if_any, if_ok, names_stand_in, source_is, source_is_short}
use Rattle.jsgen.proofs.codegen.Codegen.build.Goals as goal

-- what each way of printing begins with
begun_mapped : (c : goal.Joined-options-7) → Built (job_for c.args.self (program_plain c.args.program.now)) c.in_ok-end.end (pen_of c.with_comments-printer.result)
begun_mapped c =
    built (job_for c.args.self (program_plain c.args.program.now)) c.in_ok-end.end (pen_of c.args.self.printer) (pen_of c.with_comments-printer.result) (store_of c.in_ok-comments.comments) (annotations_of c.in_ok-comments.comments) _ (string_bytes c.args.program.now.source) c.as_str.result.now c.deref.result.now c.args.program.now.comments.items
    c.with_comments-printer.ensures.pen (c.args.self.fresh c.requires.unprinted) c.as_str.ensures.value (source_is c.args.program.now (options_plain c.args.self.options) (tables_plain c.args.self.tables)) c.deref.ensures.value refl
    c.in_ok-comments.ensures.store c.in_ok-comments.ensures.annotations c.in_ok-end.ensures.legal refl c.in_ok-end.ensures.licences

begun_plain : (c : goal.Joined-options-9) → Built (job_for c.args.self (program_plain c.args.program.now)) c.in_ok-end.end (pen_of c.with_comments-printer.result)
begun_plain c =
    built (job_for c.args.self (program_plain c.args.program.now)) c.in_ok-end.end (pen_of c.args.self.printer) (pen_of c.with_comments-printer.result) (store_of c.in_ok-comments.comments) (annotations_of c.in_ok-comments.comments) _ (string_bytes c.args.program.now.source) c.as_str.result.now c.deref.result.now c.args.program.now.comments.items
    c.with_comments-printer.ensures.pen (c.args.self.fresh c.requires.unprinted) c.as_str.ensures.value (source_is c.args.program.now (options_plain c.args.self.options) (tables_plain c.args.self.tables)) c.deref.ensures.value refl
    c.in_ok-comments.ensures.store c.in_ok-comments.ensures.annotations c.in_ok-end.ensures.legal refl c.in_ok-end.ensures.licences

pub print_mapped-requires : goal.print_mapped-requires
print_mapped-requires c = record { source = source_is_short c.args.program.now (options_plain c.args.self.options) (tables_plain c.args.self.tables) c.requires.valid }

pub returns-in-Some-clause-names_stand : goal.returns-in-Some-clause-names_stand
returns-in-Some-clause-names_stand c = if_any c.print_mapped.result (λ printed. names_stand_in (job_for c.args.self (program_plain c.args.program.now)) printed.map)

pub returns-in-Some-clause-text : goal.returns-in-Some-clause-text
returns-in-Some-clause-text c =
    let job = job_for c.args.self (program_plain c.args.program.now) in
    let source = source_is c.args.program.now (options_plain c.args.self.options) (tables_plain c.args.self.tables) in
    if_ok {Q = λ printed. string_bytes printed.code ≡ text_bytes job} c.print_mapped.result (λ printed is. is ∙ mapped_text job c.in_ok-end.end (pen_of c.with_comments-printer.result) _ (begun_mapped c) source) c.print_mapped.ensures.code

pub returns-in-Some-clause-reads : goal.returns-in-Some-clause-reads
returns-in-Some-clause-reads c =
    let job = job_for c.args.self (program_plain c.args.program.now) in
    let source = source_is c.args.program.now (options_plain c.args.self.options) (tables_plain c.args.self.tables) in
    if_ok c.print_mapped.result (λ printed is plain quiet. read_back job (string_bytes printed.code) (is ∙ mapped_text job c.in_ok-end.end (pen_of c.with_comments-printer.result) _ (begun_mapped c) source) refl c.requires.valid plain quiet) c.print_mapped.ensures.code

pub returns-in-Some-clause-one_reading : goal.returns-in-Some-clause-one_reading
returns-in-Some-clause-one_reading c =
    let job = job_for c.args.self (program_plain c.args.program.now) in
    let source = source_is c.args.program.now (options_plain c.args.self.options) (tables_plain c.args.self.tables) in
    if_ok c.print_mapped.result (λ printed is plain quiet. read_only job (string_bytes printed.code) (is ∙ mapped_text job c.in_ok-end.end (pen_of c.with_comments-printer.result) _ (begun_mapped c) source) refl c.requires.valid plain quiet) c.print_mapped.ensures.code

pub returns-in-Some-clause-core_reads : goal.returns-in-Some-clause-core_reads
returns-in-Some-clause-core_reads c =
    let job = job_for c.args.self (program_plain c.args.program.now) in
    let source = source_is c.args.program.now (options_plain c.args.self.options) (tables_plain c.args.self.tables) in
    if_ok c.print_mapped.result (λ printed is core quiet. core_read_back job (string_bytes printed.code) (is ∙ mapped_text job c.in_ok-end.end (pen_of c.with_comments-printer.result) _ (begun_mapped c) source) refl c.requires.valid core quiet) c.print_mapped.ensures.code

pub returns-in-Some-clause-map : goal.returns-in-Some-clause-map
returns-in-Some-clause-map c =
    let job = job_for c.args.self (program_plain c.args.program.now) in
    let source = source_is c.args.program.now (options_plain c.args.self.options) (tables_plain c.args.self.tables) in
    let asked = ap (option_map characters) c.in-Some.is ∙ ap (λ (bytes : List ℕ). Some (chars bytes)) (sym c.deref-in-Some.ensures) in
    if_ok c.print_mapped.result (λ printed h. mapped_map job c.in_ok-end.end (pen_of c.with_comments-printer.result) _ c.deref-in-Some.result.now printed.map (begun_mapped c) source asked h) c.print_mapped.ensures.map

pub returns-in-Some-clause-licences : goal.returns-in-Some-clause-licences
returns-in-Some-clause-licences c = if_ok c.print_mapped.result (λ printed is. is ∙ apart_is (job_for c.args.self (program_plain c.args.program.now)) c.in_ok-end.end (pen_of c.with_comments-printer.result) (begun_mapped c)) c.print_mapped.ensures.apart

pub returns-clause-text : goal.returns-clause-text
returns-clause-text c =
    let job = job_for c.args.self (program_plain c.args.program.now) in
    let source = source_is c.args.program.now (options_plain c.args.self.options) (tables_plain c.args.self.tables) in
    if_ok {Q = λ printed. string_bytes printed.code ≡ text_bytes job} c.print_unmapped.result (λ printed is. is ∙ plain_text job c.in_ok-end.end (pen_of c.with_comments-printer.result) _ (begun_plain c) source) c.print_unmapped.ensures.code

pub returns-clause-reads : goal.returns-clause-reads
returns-clause-reads c =
    let job = job_for c.args.self (program_plain c.args.program.now) in
    let source = source_is c.args.program.now (options_plain c.args.self.options) (tables_plain c.args.self.tables) in
    if_ok c.print_unmapped.result (λ printed is plain quiet. read_back job (string_bytes printed.code) (is ∙ plain_text job c.in_ok-end.end (pen_of c.with_comments-printer.result) _ (begun_plain c) source) refl c.requires.valid plain quiet) c.print_unmapped.ensures.code

pub returns-clause-one_reading : goal.returns-clause-one_reading
returns-clause-one_reading c =
    let job = job_for c.args.self (program_plain c.args.program.now) in
    let source = source_is c.args.program.now (options_plain c.args.self.options) (tables_plain c.args.self.tables) in
    if_ok c.print_unmapped.result (λ printed is plain quiet. read_only job (string_bytes printed.code) (is ∙ plain_text job c.in_ok-end.end (pen_of c.with_comments-printer.result) _ (begun_plain c) source) refl c.requires.valid plain quiet) c.print_unmapped.ensures.code

pub returns-clause-core_reads : goal.returns-clause-core_reads
returns-clause-core_reads c =
    let job = job_for c.args.self (program_plain c.args.program.now) in
    let source = source_is c.args.program.now (options_plain c.args.self.options) (tables_plain c.args.self.tables) in
    if_ok c.print_unmapped.result (λ printed is core quiet. core_read_back job (string_bytes printed.code) (is ∙ plain_text job c.in_ok-end.end (pen_of c.with_comments-printer.result) _ (begun_plain c) source) refl c.requires.valid core quiet) c.print_unmapped.ensures.code

pub returns-clause-licences : goal.returns-clause-licences
returns-clause-licences c = if_ok c.print_unmapped.result (λ printed is. is ∙ apart_is (job_for c.args.self (program_plain c.args.program.now)) c.in_ok-end.end (pen_of c.with_comments-printer.result) (begun_plain c)) c.print_unmapped.ensures.apart

pub returns-in-Some-clause-comments_stand : goal.returns-in-Some-clause-comments_stand
returns-in-Some-clause-comments_stand c =
    let job = job_for c.args.self (program_plain c.args.program.now) in
    let source = source_is c.args.program.now (options_plain c.args.self.options) (tables_plain c.args.self.tables) in
    if_ok {Q = λ answer. HasComments job (string_bytes answer.code)} c.print_mapped.result (λ answer is. record { text = printed job; is = is ∙ mapped_text job c.in_ok-end.end (pen_of c.with_comments-printer.result) _ (begun_mapped c) source; stand = comments_stand job (program_is_formed c.args.program.now) c.requires.valid }) c.print_mapped.ensures.code

pub returns-clause-comments_stand : goal.returns-clause-comments_stand
returns-clause-comments_stand c =
    let job = job_for c.args.self (program_plain c.args.program.now) in
    let source = source_is c.args.program.now (options_plain c.args.self.options) (tables_plain c.args.self.tables) in
    if_ok {Q = λ answer. HasComments job (string_bytes answer.code)} c.print_unmapped.result (λ answer is. record { text = printed job; is = is ∙ plain_text job c.in_ok-end.end (pen_of c.with_comments-printer.result) _ (begun_plain c) source; stand = comments_stand job (program_is_formed c.args.program.now) c.requires.valid }) c.print_unmapped.ensures.code
