-- Choices between two values, by `?` and `:`.
use Rattle.std.proofs.Common.{◌≡◌, Bool, false, refl, sym, subst, ◌∙◌, arith}
use Rattle.jsgen_syntax.specs.declared.precedence.Precedence.TheVariants as levels
use Rattle.jsgen_tree.specs.Job.{Tables}
use Rattle.jsgen_tree.specs.Tree.{Tree, Atoms}
use Rattle.jsgen_tree.specs.Nodes as tree
use Rattle.jsgen_model.specs.Punctuator.{question, colon}
use Rattle.jsgen_model.specs.Tokens.{Tokens, done, piece, ◌⧺◌, Sign}
use Rattle.jsgen_model.specs.Items.{Items, soft_space, punctuator, ◌⊕◌, before_it, annotation_before_it}
use Rattle.jsgen_model.specs.Layout.{Pen, layout}
use Rattle.jsgen_model.specs.Grammar.{Allowed, with_in}
use Rattle.jsgen_model.specs.Grammar as grammar
use Rattle.jsgen_model.specs.Normal.{normal, nothing_of}
use Rattle.jsgen_model.specs.Renamed.{renamed}
use Rattle.jsgen_place.specs.declared.place.Place.{Place}
use Rattle.jsgen_place.specs.Place.{within, child, in_brackets, with_calls, wraps}
use Rattle.jsgen_model.specs.Spell.{spell, before_expression}
use Rattle.jsgen_token_laws.proofs.Last.{Last, After, line_of}
use Rattle.jsgen_token_laws.proofs.Writes.{Writes, wrote_both}
use Rattle.jsgen_token_laws.proofs.Steps.{Soft, wrote_punctuator, soft_space_written}
use Rattle.jsgen_row_laws.proofs.Levels.{under, lifted, unwrapped}
use Rattle.jsgen_row_laws.proofs.Good.{Good, Printed, begins_then, line_then, good_wrapped, PrintedBy}
use Rattle.jsgen_row_laws.proofs.Marks.{comments_laid}

same_choice : (u v w x y z : Tree) → normal u ≡ normal x → normal v ≡ normal y → normal w ≡ normal z → tree.conditional (nothing_of 0) (normal u) (normal v) (normal w) ≡ tree.conditional (nothing_of 0) (normal x) (normal y) (normal z)
same_choice u v w x y z e f g = λ i. tree.conditional (nothing_of 0) (e i) (f i) (g i)

-- from the test, `?`, what is chosen, `:` and what is chosen otherwise, with blanks round both signs
choice_parts : {names : Tables} {c : Allowed} (a : Atoms) (x y z : Tree) {p p1 p2 p3 p4 p5 p6 p7 p8 q : Pen} {l : Last} → (g : Good names p l p1 c grammar.ShortCircuit x) (s : Soft names p1 g.last p2) → Writes names p2 s.last p3 (After (Sign question)) (piece (line_of s.last) (Sign question) done) → (n : Soft names p3 (After (Sign question)) p4) (h : Good names p4 n.last p5 (with_in c) grammar.Assignment y)
    → (m : Soft names p5 h.last p6) → Writes names p6 m.last p7 (After (Sign colon)) (piece (line_of m.last) (Sign colon) done) → (r : Soft names p7 (After (Sign colon)) p8) → Good names p8 r.last q c grammar.Assignment z → Good names p l q c grammar.Conditional (tree.conditional a x y z)
choice_parts {names} a x y z {p = p} g s o n h m u r i =
    let behind_it : Tokens = piece (line_of s.last) (Sign question) (h.tokens ⧺ piece (line_of m.last) (Sign colon) i.tokens) in
    record {
      last = i.last;
      tokens = g.tokens ⧺ behind_it;
      writes = wrote_both g.writes (wrote_both s.writes (wrote_both o (wrote_both n.writes (wrote_both h.writes (wrote_both m.writes (wrote_both u (wrote_both r.writes i.writes)))))));
      operand = i.operand;
      semicolon = i.semicolon;
      begins = λ d e. begins_then p.start g.tokens behind_it d g.begins refl;
      line = λ e. line_then g.tokens behind_it (g.line e);
      tree = tree.conditional (nothing_of 0) g.tree h.tree i.tree;
      reads = grammar.a_choice (line_of s.last) (line_of m.last) refl g.reads h.reads i.reads;
      same = same_choice g.tree h.tree i.tree (renamed names x) (renamed names y) (renamed names z) g.same h.same i.same;
    }

abbrev items_of : Tree → Tree → Tree → Place → Bool → Items
items_of x y z place w = spell x (with_calls (child levels.Conditional (within w place))) ⊕ (soft_space ⊕ (punctuator question ⊕ (soft_space ⊕ (before_expression annotation_before_it y ⊕ (spell y (in_brackets levels.Yield)
    ⊕ (soft_space ⊕ (punctuator colon ⊕ (soft_space ⊕ (before_expression before_it z ⊕ spell z (with_calls (child levels.Yield (within w place))))))))))))

-- from what is chosen on, without the comments
abbrev chosen_from : Tree → Tree → Place → Bool → Items
chosen_from y z place w = spell y (in_brackets levels.Yield) ⊕ (soft_space ⊕ (punctuator colon ⊕ (soft_space ⊕ spell z (with_calls (child levels.Yield (within w place))))))

comments_left_out : (x y z : Tree) (place : Place) (w : Bool) (p : Pen) → let at : Pen = layout soft_space (layout (punctuator question) (layout soft_space (layout (spell x (with_calls (child levels.Conditional (within w place)))) p))) in layout (items_of x y z place w) p ≡ layout (chosen_from y z place w) at
comments_left_out x y z place w p =
    let at : Pen = layout soft_space (layout (punctuator question) (layout soft_space (layout (spell x (with_calls (child levels.Conditional (within w place)))) p))) in
    λ i. layout (spell z (with_calls (child levels.Yield (within w place)))) (comments_laid before_it z (layout soft_space (layout (punctuator colon) (layout soft_space (layout (spell y (in_brackets levels.Yield)) (comments_laid annotation_before_it y at i))))) i)

pub good_choice : {names : Tables} (c : Allowed) (a : Atoms) (x y z : Tree) → Printed names c x → Printed names c y → Printed names c z → Printed names c (tree.conditional a x y z)
good_choice {names} c a x y z f g h place =
    good_wrapped c place grammar.Conditional (wraps levels.Conditional place) (items_of x y z place) (tree.conditional a x y z)
    (λ d ts u r. lifted false levels.Assign levels.Lowest (omega arith) r) (λ e ts u r. unwrapped levels.Conditional place e r) inner
  where
    inner : (v : Bool) → wraps levels.Conditional place ≡ v → PrintedBy names (under (within v place) c) grammar.Conditional (items_of x y z place v) (tree.conditional a x y z)
    inner v e p l pending ready knows =
        let test : Place = with_calls (child levels.Conditional (within v place)) in
        let chosen : Place = in_brackets levels.Yield in
        let other : Place = with_calls (child levels.Yield (within v place)) in
        let p1 : Pen = layout (spell x test) p in
        let p2 : Pen = layout soft_space p1 in
        let p3 : Pen = layout (punctuator question) p2 in
        let p4 : Pen = layout soft_space p3 in
        let p5 : Pen = layout (spell y chosen) p4 in
        let p6 : Pen = layout soft_space p5 in
        let p7 : Pen = layout (punctuator colon) p6 in
        let i = f test p l pending ready knows in
        let s = soft_space_written p1 i.last i.writes.knows in
        let o = wrote_punctuator question p2 s.last tt tt (s.operand i.operand) s.writes.knows in
        let n = soft_space_written p3 (After (Sign question)) o.knows in
        let j = g chosen p4 n.last (n.semicolon ∙ (s.semicolon ∙ i.semicolon)) (n.ready tt) n.writes.knows in
        let m = soft_space_written p5 j.last j.writes.knows in
        let u = wrote_punctuator colon p6 m.last tt tt (m.operand j.operand) m.writes.knows in
        let r = soft_space_written p7 (After (Sign colon)) u.knows in
        let k = h other (layout soft_space p7) r.last (r.semicolon ∙ (m.semicolon ∙ j.semicolon)) (r.ready tt) r.writes.knows in
        subst (λ q. Good names p l q (under (within v place) c) grammar.Conditional (tree.conditional a x y z)) (sym (comments_left_out x y z place v p)) (choice_parts a x y z i s o n j m u r k)
