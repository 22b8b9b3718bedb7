use Rattle.std.proofs.Common.{◌+◌, length, drop, sym, ap, ◌∙◌}
use Rattle.std.proofs.lemmas.Iterator.{YieldsList-from_chars}
use Rattle.std.proofs.lemmas.Iterator.Consumers.{YieldsList-turn, YieldsList-end}
use Rattle.std.proofs.lemmas.List.{length_push}
use Rattle.std.specs.Str.{chars}
use Rattle.jsgen_rules.specs.Bodies.{is_twice, count}
use Rattle.jsgen_rules.proofs.Closes.{next_character, no_character}
use Rattle.jsgen_rules.proofs.Bodies.{counts_twice}
use Rattle.jsgen_rules.proofs.regular_expressions.comes_twice.Goals as goal

pub loop-c-init : goal.loop-c-init
loop-c-init c = counts_twice c.args.letter (chars c.args.flags.now)

pub loop-c-preserved : goal.loop-c-preserved
loop-c-preserved c =
    let cs = chars c.args.flags.now in
    let n = length c.loop-c.yielded in
    let s = c.loop-c.count in
    let letter = c.args.letter in
    let t = YieldsList-turn (YieldsList-from_chars c.args.flags.now c.utf8.flags cc) c.loop-c.yielded _ c.loop-c.yielded_by _ _ c.in-Some.c c.in-Some.is c.next.ensures.steps in
    let to = next_character (λ w. is_twice (count s letter w)) cs n c.in-Some.c t ∙ ap (λ r. is_twice (count r letter (drop (n + 1) cs))) (sym c.step-count.ensures) in
    ap (λ k. is_twice (count c.step-count.result letter (drop k cs))) (length_push c.loop-c.yielded c.in-Some.c) ∙ (sym to ∙ c.loop-c.invariant)

pub returns : goal.returns
returns c =
    let cs = chars c.args.flags.now in
    let t = YieldsList-end (YieldsList-from_chars c.args.flags.now c.utf8.flags cc) c.loop-c.yielded _ c.loop-c.yielded_by _ _ c.in-None.is c.next.ensures.steps in
    c.is_twice.ensures ∙ (sym (no_character (λ w. is_twice (count c.loop-c.count c.args.letter w)) cs (length c.loop-c.yielded) t.1) ∙ c.loop-c.invariant)
