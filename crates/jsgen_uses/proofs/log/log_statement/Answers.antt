use Rattle.std.specs.Prelude.{◌≡◌, true, string_bytes}
use Rattle.std.specs.Str.{chars}
use Rattle.jsgen_syntax.specs.Name.{is_free_name}
use Rattle.std.proofs.lemmas.Result.{IfOk-weaker, on_ok_weaker}
use Rattle.jsgen_uses.specs.Log.{ReadsAsLogCall}
use Rattle.jsgen_uses.proofs.Trees.{read_as_call, is_free, is_unfree}
use Rattle.jsgen_uses.proofs.log.log_statement.Goals as goal

pub returns-clause-code : goal.returns-clause-code
returns-clause-code c =
    IfOk-weaker c.code_of.result _ (λ code. ReadsAsLogCall (chars c.args.message.now) (chars c.args.name.now) (chars (string_bytes code)))
    (λ code reads. read_as_call _ _ _ (chars c.args.message.now) (chars c.args.name.now) _ c.new.ensures.options c.new.ensures.tables c.in_ok-program.ensures (c.plain_by_types.ensures c.in_ok-program.program) reads)
    c.code_of.ensures.reads

pub returns-clause-taken : goal.returns-clause-taken
returns-clause-taken c =
    on_ok_weaker {Q = is_free_name (chars c.args.name.now) ≡ true} c.code_of.result
    (is_free _ _ _ (chars c.args.message.now) (chars c.args.name.now) c.new.ensures.options c.new.ensures.tables c.in_ok-program.ensures) c.code_of.ensures.taken

pub returns-clause-refused : goal.returns-clause-refused
returns-clause-refused c =
    λ refused. is_unfree _ _ _ (chars c.args.message.now) (chars c.args.name.now) c.new.ensures.options c.new.ensures.tables c.in_ok-program.ensures (c.code_of.ensures.refused refused)

pub code_of-requires : goal.code_of-requires
code_of-requires c = c.new.ensures.printed
