use Rattle.std.proofs.Common.{◌<◌, length, sym, ap, ◌∙◌, arith}
use Rattle.std.proofs.lemmas.Bool.{eqb-true}
use Rattle.jsgen_syntax.specs.Buffer.{buffer_bytes}
use Rattle.jsgen_strings.proofs.Appending.{printed_piece, printed_end, stopped}
use Rattle.jsgen_strings.proofs.Escaped.{escaped_run, escaped_point, escaped_end}
use Rattle.jsgen_strings.proofs.Plain.{are_plain, plain_ascii, behind_run}
use Rattle.jsgen_strings.proofs.printed.print_escaped.Goals as goal

pub returns-in_err-print_point-clause-err : goal.returns-in_err-print_point-clause-err
returns-in_err-print_point-clause-err c = stopped c.from_residual.result _ (buffer_bytes c.points.code) _ _ _ c.points.invariant.printed c.in_err-print_point.ensures.err

pub points-preserved-then-n-eq0 : goal.points-preserved-then-n-eq0
points-preserved-then-n-eq0 c =
    let p = c.take_point-point in
    record {
      points = p.ensures.behind;
      printed = printed_piece _ (buffer_bytes c.points.code) _ _ _ _ _ c.points.invariant.printed (escaped_point c.args.quote c.args.ascii_only c.points.after_less c.points.rest.now p.result.code p.result.behind.now p.ensures.chars) c.in_ok-print_point.ensures.appended;
      byte = c.in_ok-print_point.ensures.byte ∙ c.points.invariant.byte;
      width = c.in_ok-print_point.ensures.width ∙ c.points.invariant.width;
    }

pub print_ascii-requires : goal.print_ascii-requires
print_ascii-requires c = plain_ascii c.split_at.result.0.now (ap are_plain c.split_at.ensures.front ∙ c.plain_len-n.ensures.plain)

pub returns-in_err-print_ascii-clause-err : goal.returns-in_err-print_ascii-clause-err
returns-in_err-print_ascii-clause-err c = stopped c.from_residual-in_err-print_ascii.result _ (buffer_bytes c.points.code) _ _ _ c.points.invariant.printed c.in_err-print_ascii.ensures.err

pub points-preserved : goal.points-preserved
points-preserved c =
    let run = c.split_at.result.0.now in
    let plain = ap are_plain c.split_at.ensures.front ∙ c.plain_len-n.ensures.plain in
    let some : 0 < length run = omega (arith, c.split_at.ensures.front_len) in
    let cut = c.split_at.ensures.by_index.0 in
    record {
      points = (behind_run c.points.rest.now run c.split_at.result.1.now plain c.points.invariant.points cut).points;
      printed = printed_piece _ (buffer_bytes c.points.code) _ _ _ _ _ c.points.invariant.printed (escaped_run c.args.quote c.args.ascii_only c.points.after_less c.points.rest.now run c.split_at.result.1.now plain some c.points.invariant.points cut) c.in_ok-print_ascii.ensures.appended;
      byte = c.in_ok-print_ascii.ensures.byte ∙ c.points.invariant.byte;
      width = c.in_ok-print_ascii.ensures.width ∙ c.points.invariant.width;
    }

pub returns-clause-appended : goal.returns-clause-appended
returns-clause-appended c = printed_end _ _ _ _ c.points.invariant.printed (escaped_end c.args.quote c.args.ascii_only c.points.after_less c.points.rest.now (eqb-true (length c.points.rest.now) 0 (sym c.points-test.ensures)))
