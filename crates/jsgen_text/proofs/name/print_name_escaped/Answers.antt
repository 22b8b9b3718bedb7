use Rattle.std.proofs.Common.{◌<◌, true, length, refl, sym, ap, ◌∙◌, subst, arith}
use Rattle.std.proofs.lemmas.Grind.{common_steps}
use Rattle.std.specs.Str.{chars, encode_utf8_all}
use Rattle.std.proofs.lemmas.Bool.{eqb-true}
use Rattle.jsgen_syntax.specs.Buffer.{buffer_bytes}
use Rattle.jsgen_syntax.specs.Escapes.{name_text}
use Rattle.jsgen_strings.specs.Points.{ArePoints}
use Rattle.jsgen_strings.proofs.Appending.{Printed, printed_none, printed_piece, printed_end, stopped}
use Rattle.jsgen_strings.proofs.Plain.{are_plain, plain_ascii, behind_run}
use Rattle.jsgen_text.proofs.RawTexts.{points_of_text, name_run, name_end}
use Rattle.jsgen_text.proofs.name.print_name_escaped.Goals as goal

pub points-init : goal.points-init
points-init c =
    let e = sym c.as_bytes-rest.ensures.value in
    record {
      points = subst ArePoints e (points_of_text c.args.s.now c.utf8.s);
      printed = subst (λ x. Printed (buffer_bytes c.args.code.now) (buffer_bytes c.args.code.now) (encode_utf8_all (name_text true (chars c.args.s.now))) (encode_utf8_all (name_text true (chars x)))) e (printed_none (buffer_bytes c.args.code.now) (encode_utf8_all (name_text true (chars c.args.s.now))));
      byte = refl;
      width = refl;
    }

pub returns-in_err-print_name_character-clause-err : goal.returns-in_err-print_name_character-clause-err
returns-in_err-print_name_character-clause-err c = stopped c.from_residual.result _ (buffer_bytes c.points.code) _ _ _ c.points.invariant.printed c.in_err-print_name_character.ensures.err

pub print_ascii-requires : goal.print_ascii-requires
print_ascii-requires c = plain_ascii c.split_at.result.0.now (ap are_plain c.split_at.ensures.front ∙ c.plain_len-n.ensures.plain)

pub returns-in_err-print_ascii-clause-err : goal.returns-in_err-print_ascii-clause-err
returns-in_err-print_ascii-clause-err c = stopped c.from_residual-in_err-print_ascii.result _ (buffer_bytes c.points.code) _ _ _ c.points.invariant.printed c.in_err-print_ascii.ensures.err

pub points-preserved : goal.points-preserved
points-preserved c =
    let run = c.split_at.result.0.now in
    let plain = ap are_plain c.split_at.ensures.front ∙ c.plain_len-n.ensures.plain in
    let some : 0 < length run = omega (arith, c.split_at.ensures.front_len) in
    let cut = c.split_at.ensures.by_index.0 in
    record {
      points = (behind_run c.points.rest.now run c.split_at.result.1.now plain c.points.invariant.points cut).points;
      printed = printed_piece _ (buffer_bytes c.points.code) _ _ _ _ _ c.points.invariant.printed (name_run c.points.rest.now run c.split_at.result.1.now plain some c.points.invariant.points cut) c.in_ok-print_ascii.ensures.appended;
      byte = c.in_ok-print_ascii.ensures.byte ∙ c.points.invariant.byte;
      width = c.in_ok-print_ascii.ensures.width ∙ c.points.invariant.width;
    }

pub returns-clause-appended : goal.returns-clause-appended
returns-clause-appended c = printed_end _ _ _ _ c.points.invariant.printed (name_end c.points.rest.now (eqb-true (length c.points.rest.now) 0 (sym c.points-test.ensures)))

pub points-preserved-then-n-eq0 : goal.points-preserved-then-n-eq0
points-preserved-then-n-eq0 c = grind (arith, common_steps)
