use Rattle.std.proofs.Common.{◌+◌, length, drop, sym, ap, ◌∙◌}
use Rattle.std.proofs.lemmas.Iterator.{YieldsList-from_chars}
use Rattle.std.proofs.lemmas.Iterator.Consumers.{YieldsList-turn, YieldsList-end}
use Rattle.std.proofs.lemmas.List.{length_push}
use Rattle.std.proofs.lemmas.Str.{scalars-chars}
use Rattle.std.specs.Str.{chars}
use Rattle.jsgen_text.proofs.Characters.{next_character, scalar_at}
use Rattle.jsgen_text.proofs.Machine.{spells_from, spells_behind, machine_step, machine_ends}
use Rattle.jsgen_text.proofs.spelling.spells_string.Goals as goal

pub loop-c-preserved : goal.loop-c-preserved
loop-c-preserved c =
    let cs = chars c.args.s.now in
    let n = length c.loop-c.yielded in
    let q = c.args.quote in
    let t = YieldsList-turn (YieldsList-from_chars c.args.s.now c.utf8.s cc) c.loop-c.yielded _ c.loop-c.yielded_by _ _ c.in-Some.c c.in-Some.is c.next.ensures.steps in
    let to = next_character (spells_from q c.loop-c.state) cs n c.in-Some.c t
    ∙ machine_step q c.loop-c.state c.in-Some.c (drop (n + 1) cs) (scalar_at cs n c.in-Some.c (scalars-chars c.args.s.now c.utf8.s) t)
    ∙ ap (λ o. spells_behind q o (drop (n + 1) cs)) (sym c.step.ensures ∙ c.in-Some-step.is) in
    ap (λ k. spells_from q c.in-Some-step.next (drop k cs)) (length_push c.loop-c.yielded c.in-Some.c) ∙ (sym to ∙ c.loop-c.invariant)

pub returns-in-None-step : goal.returns-in-None-step
returns-in-None-step c =
    let cs = chars c.args.s.now in
    let n = length c.loop-c.yielded in
    let q = c.args.quote in
    let t = YieldsList-turn (YieldsList-from_chars c.args.s.now c.utf8.s cc) c.loop-c.yielded _ c.loop-c.yielded_by _ _ c.in-Some.c c.in-Some.is c.next.ensures.steps in
    let to = next_character (spells_from q c.loop-c.state) cs n c.in-Some.c t
    ∙ machine_step q c.loop-c.state c.in-Some.c (drop (n + 1) cs) (scalar_at cs n c.in-Some.c (scalars-chars c.args.s.now c.utf8.s) t)
    ∙ ap (λ o. spells_behind q o (drop (n + 1) cs)) (sym c.step.ensures ∙ c.in-None-step.is) in
    sym to ∙ c.loop-c.invariant

pub returns : goal.returns
returns c =
    let cs = chars c.args.s.now in
    let t = YieldsList-end (YieldsList-from_chars c.args.s.now c.utf8.s cc) c.loop-c.yielded _ c.loop-c.yielded_by _ _ c.in-None.is c.next.ensures.steps in
    c.may_end.ensures ∙ (sym (machine_ends c.args.quote c.loop-c.state cs (length c.loop-c.yielded) t.1) ∙ c.loop-c.invariant)
