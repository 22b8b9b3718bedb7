use Rattle.std.proofs.Common.{◌+◌, length, drop, refl, sym, ap, ◌∙◌}
use Rattle.std.proofs.lemmas.Iterator.{YieldsList-from_chars}
use Rattle.std.proofs.lemmas.Iterator.Consumers.{YieldsList-turn, YieldsList-end}
use Rattle.std.proofs.lemmas.List.{length_push}
use Rattle.std.specs.Str.{chars}
use Rattle.jsgen_rules.specs.Close.{run}
use Rattle.jsgen_rules.proofs.Closes.{next_character, no_character}
use Rattle.jsgen_rules.proofs.comments.close_behind.Goals as goal

pub loop-c-init : goal.loop-c-init
loop-c-init c = refl

pub loop-c-preserved : goal.loop-c-preserved
loop-c-preserved c =
    let cs = chars c.args.text.now in
    let n = length c.loop-c.yielded in
    let s = c.loop-c.state in
    let t = YieldsList-turn (YieldsList-from_chars c.args.text.now c.utf8.text cc) c.loop-c.yielded _ c.loop-c.yielded_by _ _ c.in-Some.c c.in-Some.is c.next.ensures.steps in
    let to = next_character (run s) cs n c.in-Some.c t ∙ ap (λ r. run r (drop (n + 1) cs)) (sym c.step-state.ensures) in
    ap (λ k. run c.step-state.result (drop k cs)) (length_push c.loop-c.yielded c.in-Some.c) ∙ (sym to ∙ c.loop-c.invariant)

pub returns : goal.returns
returns c =
    let cs = chars c.args.text.now in
    let t = YieldsList-end (YieldsList-from_chars c.args.text.now c.utf8.text cc) c.loop-c.yielded _ c.loop-c.yielded_by _ _ c.in-None.is c.next.ensures.steps in
    sym (no_character (run c.loop-c.state) cs (length c.loop-c.yielded) t.1) ∙ c.loop-c.invariant
