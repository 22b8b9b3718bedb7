-- `new`, with arguments or without.
use Rattle.std.proofs.Common.{◌≡◌, Bool, true, false, not, ◌||◌, if◌then◌else◌, codes, refl, ap, ◌∙◌, arith, append-nil, ◌++◌, []}
use Rattle.std.proofs.lemmas.Bool.{both_ways, or_parts}
use Rattle.jsgen_syntax.specs.declared.span.Span.{Span}
use Rattle.jsgen_syntax.specs.declared.precedence.Precedence.TheVariants as levels
use Rattle.jsgen_tree.specs.Job.{Tables}
use Rattle.jsgen_tree.specs.Tree.{Tree, Trees, no_trees, more, hole, Atoms}
use Rattle.jsgen_tree.specs.Nodes as tree
use Rattle.jsgen_model.specs.Punctuator.{Round, opening, closing}
use Rattle.jsgen_model.specs.Tokens.{done, piece, group, ◌⧺◌, Word, Tokens}
use Rattle.jsgen_model.specs.Items.{Items, ◌⊕◌, word, soft_space, wrapped, marked_word}
use Rattle.jsgen_model.specs.Layout.{Pen, other_end, layout, written, written_if}
use Rattle.jsgen_model.specs.Grammar.{Allowed, ReadsExpression, ReadsArguments, with_in}
use Rattle.jsgen_model.specs.Grammar as grammar
use Rattle.jsgen_model.specs.Normal.{normal, normal_trees, nothing_of}
use Rattle.jsgen_model.specs.Renamed.{renamed, renamed_trees}
use Rattle.jsgen_place.specs.declared.place.Place.{Place}
use Rattle.jsgen_place.specs.Place.{within, constructed, in_brackets, wraps}
use Rattle.jsgen_model.specs.Spell.{spell, spell_arguments, any_given, argument_items, new_arguments}
use Rattle.jsgen_token_laws.proofs.Characters.{letters_spelled}
use Rattle.jsgen_token_laws.proofs.Last.{Last, Open, After, line_of, Knows, Operand}
use Rattle.jsgen_token_laws.proofs.Writes.{Writes, wrote_both, wrote_and_none}
use Rattle.jsgen_token_laws.proofs.Steps.{soft_space_written, within_brackets, brackets_written, no_soft, wrote_word}
use Rattle.jsgen_row_laws.proofs.Levels.{level_of, under, weaken_member, lifted, unwrapped}
use Rattle.jsgen_row_laws.proofs.Good.{Good, Printed, good_wrapped, PrintedBy, begins_all, good_at}
use Rattle.jsgen_row_laws.proofs.Lists.{Elements}
use Rattle.jsgen_row_laws.proofs.Links.{ArgumentsAt}

same_construction : (a : Atoms) (u x : Tree) (us xs : Trees) → normal u ≡ normal x → normal_trees us ≡ normal_trees xs → normal (tree.new_expression (nothing_of 1) u us) ≡ normal (tree.new_expression a x xs)
same_construction a u x us xs e f = λ i. tree.new_expression (nothing_of 1) (e i) (f i)

-- the word, a blank and what it stands before
record Headed (names : Tables) (p : Pen) (l : Last) (q : Pen) (c : Allowed) (t : Tree) : Type 0 where
  last : Last
  head : Tokens
  writes : Writes names p l q last (piece (line_of l) (Word (codes "new")) head)
  operand : Operand last
  semicolon : q.pending_semicolon ≡ false
  tree : Tree
  reads : ReadsExpression c grammar.Member head tree
  same : normal tree ≡ normal (renamed names t)

headed : {names : Tables} (c : Allowed) (t : Tree) → Printed names c t → (place : Place) (p : Pen) (l : Last) → p.pending_semicolon ≡ false → Knows names p l → Headed names p l (layout (spell t (constructed place)) (layout soft_space (layout (word (codes "new")) p))) (under place c) t
headed c t f place p l z k =
    let p1 : Pen = layout (word (codes "new")) p in
    let w = wrote_word (codes "new") p l (letters_spelled 110 (codes "ew") refl) k in
    let n = soft_space_written p1 (After (Word (codes "new"))) w.knows in
    let g = f (constructed place) (layout soft_space p1) n.last (n.semicolon ∙ z) (n.ready tt) n.writes.knows in
    record { last = g.last; head = g.tokens; writes = wrote_both w (wrote_both n.writes g.writes); operand = g.operand; semicolon = g.semicolon; tree = g.tree; reads = g.reads; same = g.same }

-- ---- with arguments, or with parentheses round none

with_arguments : {names : Tables} {c : Allowed} (a : Atoms) (t : Tree) (es : Trees) {p p1 q : Pen} {l : Last} → (g : Headed names p l p1 c t) → Elements names (ReadsArguments (with_in c)) (written (opening Round) other_end p1) (Open false) q es → Good names p l (written (closing Round) other_end q) c grammar.Member (tree.new_expression a t es)
with_arguments {names} a t es {p} {p1} {q} {l} g h =
    let others : Tokens = g.head ⧺ group (line_of g.last) Round h.tokens done in
    record {
      last = Open false;
      tokens = piece (line_of l) (Word (codes "new")) others;
      writes = wrote_both g.writes (brackets_written Round p1 q g.last h.last h.tokens h.writes);
      operand = tt;
      semicolon = h.semicolon;
      begins = λ ts i. begins_all p.start (piece (line_of l) (Word (codes "new")) (others ⧺ ts)) refl;
      line = λ e. ap not e;
      tree = tree.new_expression (nothing_of 1) g.tree h.trees;
      reads = grammar.new_with_arguments (line_of l) (line_of g.last) refl g.reads h.reads;
      same = same_construction a g.tree (renamed names t) h.trees (renamed_trees names es) g.same h.same;
    }

-- the arguments, behind the opening parenthesis
arguments_written : {names : Tables} (c : Allowed) (es : Trees) → ArgumentsAt names c es → (p : Pen) (l : Last) → p.pending_semicolon ≡ false → Knows names p l → let p1 : Pen = written (opening Round) other_end p in Elements names (ReadsArguments (with_in c)) p1 (Open false) (layout (spell_arguments false false es (in_brackets levels.Comma)) p1) es
arguments_written c es h p l z k = h false false (written (opening Round) other_end p) z (within_brackets Round p l k)

-- ---- without them

alone : {names : Tables} {c : Allowed} (a : Atoms) (t : Tree) {p p1 : Pen} {l : Last} → Headed names p l p1 c t → Good names p l (written_if false (closing Round) (written_if false (opening Round) p1)) c grammar.New (tree.new_expression a t no_trees)
alone {names} a t {p} {p1} {l} g =
    let q : Pen = written_if false (closing Round) (written_if false (opening Round) p1) in
    let b = no_soft p1 q g.last (append-nil (p1.code ++ []) ∙ append-nil p1.code) refl refl refl g.writes.knows in
    record {
      last = b.last;
      tokens = piece (line_of l) (Word (codes "new")) g.head;
      writes = wrote_and_none g.writes b.writes;
      operand = b.operand g.operand;
      semicolon = b.semicolon ∙ g.semicolon;
      begins = λ ts i. begins_all p.start (piece (line_of l) (Word (codes "new")) (g.head ⧺ ts)) refl;
      line = λ e. ap not e;
      tree = tree.new_expression (nothing_of 1) g.tree no_trees;
      reads = grammar.new_alone (grammar.a_member g.reads);
      same = same_construction a g.tree (renamed names t) no_trees no_trees g.same refl;
    }

-- ---- the whole

-- in parentheses or not, as the test says
abbrev construction_items : Span → Bool → Tree → Trees → Place → Bool → Items
construction_items s stand t es place w = marked_word s (codes "new") ⊕ (soft_space ⊕ (spell t (constructed (within w place)) ⊕ new_arguments stand (argument_items false es s (spell_arguments false false es (in_brackets levels.Comma)))))

abbrev ConstructionAt : Tables → Allowed → Atoms → Tree → Trees → Place → Bool → Type 0
ConstructionAt names c a t es place stand = PrintedBy names (under place c) (level_of place) (wrapped (wraps levels.New place) (construction_items a.span stand t es place (wraps levels.New place))) (tree.new_expression a t es)

in_parentheses : {names : Tables} (c : Allowed) (a : Atoms) (t : Tree) (es : Trees) → Printed names c t → ArgumentsAt names c es → (place : Place) → ConstructionAt names c a t es place true
in_parentheses c a t es f h place =
    good_wrapped c place grammar.Member (wraps levels.New place) (construction_items a.span true t es place) (tree.new_expression a t es)
    (λ d ts u r. lifted false levels.Postfix levels.Lowest (omega arith) (grammar.a_called_member r)) (λ e ts u r. unwrapped levels.New place e (weaken_member place.context.forbids_call r))
    (λ v e p l z y k. let g = headed c t f (within v place) p l z k in with_arguments a t es g (arguments_written c es h _ g.last g.semicolon g.writes.knows))

-- minified text has none round no arguments
none_unless_minified : {names : Tables} (c : Allowed) (a : Atoms) (t : Tree) (es : Trees) → any_given es ≡ false → Printed names c t → ArgumentsAt names c es → (place : Place) → wraps levels.Postfix place ≡ false → ConstructionAt names c a t es place false
none_unless_minified c a t (more e es) n f h place loose = absurd (both_ways true n refl)
none_unless_minified c a t (hole es) n f h place loose = absurd (both_ways true n refl)
none_unless_minified {names} c a t no_trees n f h place loose =
    good_wrapped c place grammar.New (wraps levels.New place) (construction_items a.span false t no_trees place) (tree.new_expression a t no_trees)
    (λ d ts u r. lifted false levels.Prefix levels.Lowest (omega arith) (grammar.a_left_hand_side (grammar.a_new r))) (λ e ts u r. unwrapped levels.Postfix place loose (grammar.a_left_hand_side (grammar.a_new r)))
    (λ v e p l z y k. by v p l (headed c t f (within v place) p l z k) (layout (spell t (constructed (within v place))) (layout soft_space (layout (word (codes "new")) p))).style.minified)
  where
    by : (v : Bool) (p : Pen) (l : Last) {p1 : Pen} → Headed names p l p1 (under (within v place) c) t → (minified : Bool) → let p2 : Pen = written_if (not minified) (opening Round) p1 in Good names p l (written_if (not minified) (closing Round) (if minified then p2 else p2)) (under (within v place) c) grammar.New (tree.new_expression a t no_trees)
    by v p l g true = alone a t g
    by v p l {p1} g false = good_at (λ ts u r. grammar.a_member r) (with_arguments a t no_trees g (arguments_written c no_trees h p1 g.last g.semicolon g.writes.knows))

pub good_construction : {names : Tables} (c : Allowed) (a : Atoms) (t : Tree) (es : Trees) → Printed names c t → ArgumentsAt names c es → Printed names c (tree.new_expression a t es)
good_construction {names} c a t es f h place = go (any_given es || wraps levels.Postfix place) refl
  where
    go : (b : Bool) → any_given es || wraps levels.Postfix place ≡ b → ConstructionAt names c a t es place b
    go true e = in_parentheses c a t es f h place
    go false e = let k = or_parts (any_given es) (wraps levels.Postfix place) e in none_unless_minified c a t es k.0 f h place k.1
