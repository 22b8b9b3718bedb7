use Rattle.std.proofs.Common.{◌+◌, length, drop, sym, ap, ◌∙◌}
use Rattle.std.proofs.lemmas.Iterator.{YieldsList-from_chars}
use Rattle.std.proofs.lemmas.Iterator.Consumers.{YieldsList-turn, YieldsList-end}
use Rattle.std.proofs.lemmas.List.{length_push}
use Rattle.std.proofs.lemmas.Str.{scalars-chars}
use Rattle.std.specs.Str.{chars}
use Rattle.jsgen_rules.specs.UnitsLeft.{left, is_value}
use Rattle.jsgen_rules.specs.Values.{value_from, turned}
use Rattle.jsgen_text.proofs.Characters.{next_character, scalar_at}
use Rattle.jsgen_rules.proofs.Taken.{at_end, no_return_at}
use Rattle.jsgen_rules.proofs.values.stands_for.Goals as goal

pub loop-c-preserved : goal.loop-c-preserved
loop-c-preserved c =
    let cs = chars c.args.raw.now in
    let n = length c.loop-c.yielded in
    let t = YieldsList-turn (YieldsList-from_chars c.args.raw.now c.utf8.raw cc) c.loop-c.yielded _ c.loop-c.yielded_by _ _ c.in-Some.c c.in-Some.is c.next.ensures.steps in
    let to = next_character (λ w. is_value (value_from c.loop-c.state w) (left c.loop-c.rest)) cs n c.in-Some.c t
    ∙ (c.take_turn.ensures (drop (n + 1) cs) (scalar_at cs n c.in-Some.c (scalars-chars c.args.raw.now c.utf8.raw) t) (no_return_at cs n c.in-Some.c c.requires t)
    ∙ ap (λ o. turned (drop (n + 1) cs) o) c.in-Some-take_turn.is) in
    ap (λ k. is_value (value_from c.in-Some-take_turn.next.state (drop k cs)) (left c.in-Some-take_turn.next.units)) (length_push c.loop-c.yielded c.in-Some.c) ∙ (sym to ∙ c.loop-c.invariant)

pub returns-in-None-take_turn : goal.returns-in-None-take_turn
returns-in-None-take_turn c =
    let cs = chars c.args.raw.now in
    let n = length c.loop-c.yielded in
    let t = YieldsList-turn (YieldsList-from_chars c.args.raw.now c.utf8.raw cc) c.loop-c.yielded _ c.loop-c.yielded_by _ _ c.in-Some.c c.in-Some.is c.next.ensures.steps in
    let to = next_character (λ w. is_value (value_from c.loop-c.state w) (left c.loop-c.rest)) cs n c.in-Some.c t
    ∙ (c.take_turn.ensures (drop (n + 1) cs) (scalar_at cs n c.in-Some.c (scalars-chars c.args.raw.now c.utf8.raw) t) (no_return_at cs n c.in-Some.c c.requires t)
    ∙ ap (λ o. turned (drop (n + 1) cs) o) c.in-None-take_turn.is) in
    sym to ∙ c.loop-c.invariant

pub returns : goal.returns
returns c =
    let cs = chars c.args.raw.now in
    let t = YieldsList-end (YieldsList-from_chars c.args.raw.now c.utf8.raw cc) c.loop-c.yielded _ c.loop-c.yielded_by _ _ c.in-None.is c.next.ensures.steps in
    c.ends.ensures ∙ (sym (at_end (λ w. is_value (value_from c.loop-c.state w) (left c.loop-c.rest)) cs (length c.loop-c.yielded) t.1) ∙ c.loop-c.invariant)
