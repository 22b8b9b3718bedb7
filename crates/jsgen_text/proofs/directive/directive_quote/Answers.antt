use Rattle.std.proofs.Common.{◌+◌, length, drop, sym, ap₂, ◌∙◌}
use Rattle.std.proofs.lemmas.Iterator.{YieldsList-from_chars}
use Rattle.std.proofs.lemmas.Iterator.Consumers.{YieldsList-turn, YieldsList-end}
use Rattle.std.proofs.lemmas.List.{length_push}
use Rattle.std.specs.Str.{chars}
use Rattle.jsgen_syntax.specs.Raw.{first_quote, quote_beside}
use Rattle.jsgen_text.proofs.Characters.{next_character}
use Rattle.jsgen_text.proofs.Directives.{quote_chosen, quote_later, quote_end}
use Rattle.jsgen_text.proofs.directive.directive_quote.Goals as goal

pub returns-in-Some-chosen : goal.returns-in-Some-chosen
returns-in-Some-chosen c =
    let cs = chars c.args.raw.now in
    let n = length c.loop-c.yielded in
    let t = YieldsList-turn (YieldsList-from_chars c.args.raw.now c.utf8.raw cc) c.loop-c.yielded _ c.loop-c.yielded_by _ _ c.in-Some.c c.in-Some.is c.next.ensures.steps in
    sym (next_character (λ l. quote_beside c.args.wanted (first_quote c.loop-c.escaped l)) cs n c.in-Some.c t ∙ quote_chosen c.args.wanted c.loop-c.escaped c.in-Some.c (drop (n + 1) cs) c.in-Some-chosen.quote (sym c.chosen.ensures ∙ c.in-Some-chosen.is)) ∙ c.loop-c.invariant

pub loop-c-preserved : goal.loop-c-preserved
loop-c-preserved c =
    let cs = chars c.args.raw.now in
    let n = length c.loop-c.yielded in
    let t = YieldsList-turn (YieldsList-from_chars c.args.raw.now c.utf8.raw cc) c.loop-c.yielded _ c.loop-c.yielded_by _ _ c.in-Some.c c.in-Some.is c.next.ensures.steps in
    let later = next_character (λ l. quote_beside c.args.wanted (first_quote c.loop-c.escaped l)) cs n c.in-Some.c t ∙ quote_later c.args.wanted c.loop-c.escaped c.in-Some.c (drop (n + 1) cs) (sym c.chosen.ensures ∙ c.in_default.is) in
    ap₂ (λ e k. quote_beside c.args.wanted (first_quote e (drop k cs))) c.escapes-escaped.ensures (length_push c.loop-c.yielded c.in-Some.c) ∙ (sym later ∙ c.loop-c.invariant)

pub returns : goal.returns
returns c =
    let cs = chars c.args.raw.now in
    let t = YieldsList-end (YieldsList-from_chars c.args.raw.now c.utf8.raw cc) c.loop-c.yielded _ c.loop-c.yielded_by _ _ c.in-None.is c.next.ensures.steps in
    c.without_quotes.ensures ∙ sym (quote_end c.args.wanted c.loop-c.escaped cs (length c.loop-c.yielded) t.1) ∙ c.loop-c.invariant
