use Rattle.std.proofs.Common.{ap, subst}
use Rattle.std.specs.Str.{chars, encode_utf8_all}
use Rattle.std.specs.Result.{OnErr}
use Rattle.jsgen_syntax.specs.Buffer.{buffer_bytes, AppendsPrefix}
use Rattle.jsgen_strings.proofs.Appending.{same_text}
use Rattle.jsgen_text.proofs.RawTexts.{freed}
use Rattle.jsgen_text.proofs.raw.print_str_escaping_script_close_tag.Goals as goal

pub returns-clause-appended : goal.returns-clause-appended
returns-clause-appended c = same_text _ _ _ _ _ (ap encode_utf8_all (freed (chars c.args.s.now))) c.print_raw.ensures.appended

pub returns-clause-err : goal.returns-clause-err
returns-clause-err c = subst (λ x. OnErr c.print_raw.result (AppendsPrefix (buffer_bytes c.args.code.now) (buffer_bytes c.print_raw.new.code) (encode_utf8_all x))) (freed (chars c.args.s.now)) c.print_raw.ensures.err
