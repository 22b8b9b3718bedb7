use Rattle.std.proofs.Common.{◌≤◌, List, ℕ, None, length, map, get_or, sym, ◌∙◌, subst, arith}
use Rattle.std.proofs.lemmas.List.{length-map}
use Rattle.jsgen_map.specs.declared.source_map.Mark as declared
use Rattle.jsgen_map.specs.Marks.{MapOf}
use Rattle.jsgen_map.specs.Names.{texts}
use Rattle.jsgen_map.specs.Plain.{mark_plain}
use Rattle.jsgen_map.proofs.MarkLoop.{here, next, offset_here, taken_all, taken_more, utf8_here}
use Rattle.jsgen_map.proofs.marks.map_of_marks.Goals as goal

no_mark : declared.Mark
no_mark = record { bytes = 0; offset = 0; name = None }

pub add_mark-requires-clause-within : goal.add_mark-requires-clause-within
unfolding no_mark
add_mark-requires-clause-within c =
    let i = c.loop-mark.mark-index in
    let h = here c.args.marks.now i no_mark (omega arith) in
    (next c.args.code.now (map mark_plain c.args.marks.now) i (mark_plain (get_or c.args.marks.now i no_mark)) c.loop-mark.builder c.loop-mark.invariant.taken h.rest).within

pub add_mark-requires-clause-utf8 : goal.add_mark-requires-clause-utf8
unfolding no_mark
add_mark-requires-clause-utf8 c =
    let i = c.loop-mark.mark-index in
    let h = here c.args.marks.now i no_mark (omega arith) in
    utf8_here c.args.code.now c.args.source.now (map mark_plain c.args.marks.now) i (mark_plain (get_or c.args.marks.now i no_mark)) c.requires.marks h

pub add_mark-requires-clause-offset : goal.add_mark-requires-clause-offset
unfolding no_mark
add_mark-requires-clause-offset c =
    let i = c.loop-mark.mark-index in
    let h = here c.args.marks.now i no_mark (omega arith) in
    let l = offset_here c.args.code.now c.args.source.now (map mark_plain c.args.marks.now) i (mark_plain (get_or c.args.marks.now i no_mark)) c.requires.marks h in
    subst (λ (source : List ℕ). (get_or c.args.marks.now i no_mark).offset ≤ length source) (sym c.loop-mark.invariant.source) l

pub add_mark-requires-clause-grown : goal.add_mark-requires-clause-grown
unfolding no_mark
add_mark-requires-clause-grown c =
    let i = c.loop-mark.mark-index in
    let h = here c.args.marks.now i no_mark (omega arith) in
    (next c.args.code.now (map mark_plain c.args.marks.now) i (mark_plain (get_or c.args.marks.now i no_mark)) c.loop-mark.builder c.loop-mark.invariant.taken h.rest).grown

pub loop-mark-preserved : goal.loop-mark-preserved
unfolding no_mark
loop-mark-preserved c =
    let i = c.loop-mark.mark-index in
    let h = here c.args.marks.now i no_mark (omega arith) in
    record {
      taken = taken_more c.args.code.now (map mark_plain c.args.marks.now) i (mark_plain (get_or c.args.marks.now i no_mark)) c.loop-mark.builder c.add_mark.new.self c.loop-mark.invariant.taken h.rest h.front c.in_ok-add_mark.ensures.ok;
      path = c.in_ok-add_mark.ensures.same.path ∙ c.loop-mark.invariant.path;
      source = c.in_ok-add_mark.ensures.same.source ∙ c.loop-mark.invariant.source;
    }

pub returns-clause-map : goal.returns-clause-map
returns-clause-map c =
    let s = length-map c.args.marks.now mark_plain in
    let all = taken_all c.args.code.now (map mark_plain c.args.marks.now) c.loop-mark.mark-index c.loop-mark.builder c.loop-mark.invariant.taken (omega arith) in
    let made = c.into_sourcemap.ensures in
    subst (λ source. MapOf c.args.code.now source (map mark_plain c.args.marks.now) (texts c.into_sourcemap.result.names.items) c.into_sourcemap.result.tokens.items) (made.source ∙ c.loop-mark.invariant.source) (made.map c.args.code.now (map mark_plain c.args.marks.now) all)
