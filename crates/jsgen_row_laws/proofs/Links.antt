-- Members and calls.
use Rattle.std.proofs.Common.{◌≡◌, ℕ, Bool, true, false, not, codes, Some, List, refl, sym, ap, subst, arith}
use Rattle.std.proofs.lemmas.Bool.{or_parts}
use Rattle.jsgen_syntax.specs.Escapes.{name_text, word_value}
use Rattle.jsgen_syntax.specs.Name.{spells_name}
use Rattle.jsgen_syntax.proofs.Escapes.{word_text_value}
use Rattle.jsgen_syntax.specs.declared.precedence.Precedence.TheVariants as levels
use Rattle.jsgen_tree.specs.Job.{Tables}
use Rattle.jsgen_tree.specs.Tree.{Tree, Trees, no_trees, more, Atoms}
use Rattle.jsgen_tree.specs.Values.{identifier_name_name, static_member_expression_optional, computed_member_expression_optional, call_expression_optional}
use Rattle.jsgen_tree.specs.Named.{as_written}
use Rattle.jsgen_tree.specs.Nodes as tree
use Rattle.jsgen_model.specs.Punctuator.{dot, ellipsis, Round, Square, opening, closing}
use Rattle.jsgen_model.specs.Tokens.{Tokens, done, piece, group, ◌⧺◌, Word, Sign}
use Rattle.jsgen_model.specs.Items.{Items, ◌⊕◌, brackets, member_dot, name, punctuator}
use Rattle.jsgen_model.specs.Layout.{Pen, other_end, layout, written}
use Rattle.jsgen_model.specs.Grammar.{Allowed, Level, ReadsExpression, ReadsElement, ReadsArguments, ReadsArgumentList, with_in, is_word, on_same_line}
use Rattle.jsgen_model.specs.Grammar as grammar
use Rattle.jsgen_model.specs.Normal.{normal, normal_trees, nothing_of, named, link_values, call_values}
use Rattle.jsgen_model.specs.Renamed.{renamed, renamed_trees}
use Rattle.jsgen_model.specs.Quotes.{is_require_call, is_definition_call}
use Rattle.jsgen_place.specs.declared.place.Place.{Place}
use Rattle.jsgen_place.specs.Place.{within, linked, called, in_brackets, quoted_plainly, wraps, call_wraps, with_calls}
use Rattle.jsgen_model.specs.Spell.{spell, spell_arguments, spell_behind_first, name_link, bracket_link}
use Rattle.jsgen_token_laws.proofs.Characters.{letters_spelled}
use Rattle.jsgen_token_laws.proofs.Last.{Last, Open, After, line_of, Operand, Ready, begun_ready, Knows}
use Rattle.jsgen_token_laws.proofs.Writes.{Writes, wrote_none, wrote_both}
use Rattle.jsgen_token_laws.proofs.Steps.{wrote_word, wrote_written_name, wrote_dot, wrote_dots, within_brackets, brackets_written}
use Rattle.jsgen_row_laws.proofs.Levels.{number_of, operation_number, left_hand_side, level_of, under, weaken_member, read_left, lifted, unwrapped, from_left}
use Rattle.jsgen_row_laws.proofs.Good.{Good, Printed, TargetAt, TargetPrinted, is_word_alone, may_begin, begins_then, line_then, good_wrapped, PrintedBy, begins_all}
use Rattle.jsgen_row_laws.proofs.Lists.{Elements, ElementAt, GivesMore, Joins, none_behind, one_behind, first_and_others}

-- ---- a link behind a member or a call

behind_callee : {c : Allowed} {g : Level} {a ts : Tokens} {o t : Tree} → g ≡ grammar.Callee → (ReadsExpression c grammar.Member a o → ReadsExpression c grammar.Member ts t) → (ReadsExpression c grammar.Call a o → ReadsExpression c grammar.Call ts t) → ReadsExpression c g a o → ReadsExpression c grammar.Callee ts t
behind_callee d f h (grammar.a_called_member r) = grammar.a_called_member (f r)
behind_callee d f h (grammar.a_called_call r) = grammar.a_called_call (h r)
behind_callee d f h (grammar.an_operation o m p k q s t) = absurd (omega (arith, operation_number o, ap number_of d))
behind_callee d f h r = absurd (omega (arith, ap number_of d))

pub linked_read : {c : Allowed} {a ts : Tokens} {o t : Tree} (no_call : Bool) → (ReadsExpression c grammar.Member a o → ReadsExpression c grammar.Member ts t) → (ReadsExpression c grammar.Call a o → ReadsExpression c grammar.Call ts t) → ReadsExpression c (left_hand_side no_call) a o → ReadsExpression c (left_hand_side no_call) ts t
linked_read true f h r = f r
linked_read false f h r = behind_callee refl f h r

-- Between two pens stands what a link may go on from: an expression that is a member or a call, or `super`.
pub record Linkable (names : Tables) (p : Pen) (l : Last) (q : Pen) (c : Allowed) (no_call : Bool) (t : Tree) : Type 0 where
  pub last : Last
  pub tokens : Tokens
  pub writes : Writes names p l q last tokens
  pub operand : Operand last
  pub semicolon : q.pending_semicolon ≡ false
  pub begins : (b : Tokens) → is_word (codes "function") b ≡ false → may_begin p.start (tokens ⧺ b) ≡ true
  pub line : line_of l ≡ false → on_same_line tokens ≡ true
  pub base : Tree
  pub named : (w v : List ℕ) (mark next : Bool) → word_value w ≡ Some v → ReadsExpression c (left_hand_side no_call) (tokens ⧺ piece mark (Sign dot) (piece next (Word w) done)) (tree.static_member (link_values false) base (tree.identifier_name (named v)))
  pub computed : (mark : Bool) (inside : Tokens) (e : Tree) → ReadsExpression (with_in c) grammar.Expression inside e → ReadsExpression c (left_hand_side no_call) (tokens ⧺ group mark Square inside done) (tree.computed_member (link_values false) base e)
  pub called : no_call ≡ false → (mark : Bool) (inside : Tokens) (es : Trees) → ReadsArguments (with_in c) inside es → ReadsExpression c grammar.Call (tokens ⧺ group mark Round inside done) (tree.call (call_values false) base es)
  pub same : normal base ≡ normal (renamed names t)

-- printed before a link
abbrev pub LinkPrinted : Tables → Allowed → Tree → Type 0
LinkPrinted names c t = (place : Place) (p : Pen) (l : Last) → p.pending_semicolon ≡ false → Ready l → Knows names p l → Linkable names p l (layout (spell t (linked place)) p) (under place c) place.context.forbids_call t

pub link_expression : {names : Tables} (c : Allowed) (t : Tree) → Printed names c t → LinkPrinted names c t
link_expression c t f place p l z y k =
    let no_call : Bool = place.context.forbids_call in
    let g = f (linked place) p l z y k in
    record {
      last = g.last;
      tokens = g.tokens;
      writes = g.writes;
      operand = g.operand;
      semicolon = g.semicolon;
      begins = g.begins;
      line = g.line;
      base = g.tree;
      named = λ w v mark next x. linked_read no_call (λ r. grammar.a_named_member w mark next refl x r) (λ r. grammar.a_named_member_of_call w mark next refl x r) g.reads;
      computed = λ mark inside e s. linked_read no_call (λ r. grammar.a_computed_member mark refl r s) (λ r. grammar.a_computed_member_of_call mark refl r s) g.reads;
      called = λ n mark inside es s. grammar.with_arguments mark refl (subst (λ b. ReadsExpression (under place c) (left_hand_side b) g.tokens g.tree) n g.reads) s;
      same = g.same;
    }

pub link_super : {names : Tables} (c : Allowed) (a : Atoms) → LinkPrinted names c (tree.super a)
link_super c a place p l z y k =
    let no_call : Bool = place.context.forbids_call in
    record {
      last = After (Word (codes "super"));
      tokens = piece (line_of l) (Word (codes "super")) done;
      writes = wrote_word (codes "super") p l (letters_spelled 115 (codes "uper") refl) k;
      operand = tt;
      semicolon = z;
      begins = λ b n. begins_all p.start (piece (line_of l) (Word (codes "super")) b) refl;
      line = λ e. ap not e;
      base = tree.super (nothing_of 0);
      named = λ w v mark next x. weaken_member no_call (grammar.a_named_member_of_super w (line_of l) mark next x);
      computed = λ mark inside e s. weaken_member no_call (grammar.a_computed_member_of_super s);
      called = λ n mark inside es s. grammar.a_call_of_super s;
      same = refl;
    }

-- ---- members

-- with a link behind it, nothing is one word
pub with_name_behind : (a : Tokens) (mark : Bool) (b : Tokens) → is_word_alone (a ⧺ piece mark (Sign dot) b) ≡ false
with_name_behind done mark b = refl
with_name_behind (piece m (Word w) done) mark b = refl
with_name_behind a mark b = refl

with_group_behind : (a : Tokens) (mark : Bool) (inside : Tokens) → is_word_alone (a ⧺ group mark Square inside done) ≡ false
with_group_behind done mark inside = refl
with_group_behind (piece m (Word w) done) mark inside = refl
with_group_behind a mark inside = refl

pub named_target : {names : Tables} (c : Allowed) (a b : Atoms) (o : Tree) → static_member_expression_optional a ≡ false → spells_name (identifier_name_name b) ≡ true → LinkPrinted names c o → TargetPrinted names c (tree.static_member a o (tree.identifier_name b))
named_target {names} c a b o m h f place p l z y k =
    let v : List ℕ = identifier_name_name b in
    let p1 : Pen = layout (spell o (linked place)) p in
    let p2 : Pen = layout member_dot p1 in
    let w : List ℕ = name_text p2.style.ascii v in
    let x : word_value w ≡ Some v = word_text_value p2.style.ascii v h in
    let g = f place p l z y k in
    let d = wrote_dot p1 g.last g.operand g.writes.knows in
    let n = wrote_written_name v p2 (After (Sign dot)) h d.knows in
    subst (λ optional. TargetAt names p l (layout (name_link optional ⊕ name b.span (as_written v)) p1) c place (tree.static_member a o (tree.identifier_name b))) (sym m) (
      record {
        last = After (Word w);
        tokens = g.tokens ⧺ piece (line_of g.last) (Sign dot) (piece false (Word w) done);
        writes = wrote_both g.writes (wrote_both d n);
        operand = tt;
        semicolon = g.semicolon;
        begins = λ ts i. begins_then p.start g.tokens (piece (line_of g.last) (Sign dot) (piece false (Word w) done)) ts g.begins refl;
        line = λ e. line_then g.tokens (piece (line_of g.last) (Sign dot) (piece false (Word w) done)) (g.line e);
        tree = tree.static_member (link_values false) g.base (tree.identifier_name (named v));
        reads = from_left place (g.named w v (line_of g.last) false x);
        same = λ i. tree.static_member (link_values (sym m i)) (g.same i) (tree.identifier_name (named v));
      },
      refl,
      refl,
      read_left place.context.forbids_call (g.named w v (line_of g.last) false x),
      λ e. with_name_behind g.tokens (line_of g.last) (piece false (Word w) done),
    )

pub good_named_member : {names : Tables} (c : Allowed) (a b : Atoms) (o : Tree) → static_member_expression_optional a ≡ false → spells_name (identifier_name_name b) ≡ true → LinkPrinted names c o → Printed names c (tree.static_member a o (tree.identifier_name b))
good_named_member c a b o m h f place p l z y k = (named_target c a b o m h f place p l z y k).0

-- where the key of a member stands
abbrev pub key_place : Place → Place
key_place place = quoted_plainly place.plain_quotes (in_brackets levels.Lowest)

same_member : (a : Atoms) (u v x y : Tree) → computed_member_expression_optional a ≡ false → normal u ≡ normal x → normal v ≡ normal y → normal (tree.computed_member (link_values false) u v) ≡ normal (tree.computed_member a x y)
same_member a u v x y m e f = λ i. tree.computed_member (link_values (sym m i)) (e i) (f i)

computed_parts : {names : Tables} (c : Allowed) (a : Atoms) (o x : Tree) (place : Place) (p p1 q : Pen) (l : Last) → computed_member_expression_optional a ≡ false → (g : Linkable names p l p1 (under place c) place.context.forbids_call o) → Good names (written (opening Square) other_end p1) (Open false) q (with_in c) grammar.Expression x → TargetAt names p l (written (closing Square) other_end q) c place (tree.computed_member a o x)
computed_parts {names} c a o x place p p1 q l m g h = (
  record {
    last = Open false;
    tokens = g.tokens ⧺ group (line_of g.last) Square h.tokens done;
    writes = wrote_both g.writes (brackets_written Square p1 q g.last h.last h.tokens h.writes);
    operand = tt;
    semicolon = h.semicolon;
    begins = λ ts i. begins_then p.start g.tokens (group (line_of g.last) Square h.tokens done) ts g.begins refl;
    line = λ e. line_then g.tokens (group (line_of g.last) Square h.tokens done) (g.line e);
    tree = tree.computed_member (link_values false) g.base h.tree;
    reads = from_left place (g.computed (line_of g.last) h.tokens h.tree h.reads);
    same = same_member a g.base h.tree (renamed names o) (renamed names x) m g.same h.same;
  },
  refl,
  refl,
  read_left place.context.forbids_call (g.computed (line_of g.last) h.tokens h.tree h.reads),
  λ e. with_group_behind g.tokens (line_of g.last) h.tokens,
)

pub computed_target : {names : Tables} (c : Allowed) (a : Atoms) (o x : Tree) → computed_member_expression_optional a ≡ false → LinkPrinted names c o → Printed names c x → TargetPrinted names c (tree.computed_member a o x)
computed_target {names} c a o x m f h place p l z y k =
    let p1 : Pen = layout (spell o (linked place)) p in
    let p2 : Pen = written (opening Square) other_end p1 in
    let g = f place p l z y k in
    let key : Place = key_place place in
    let i = h key p2 (Open false) g.semicolon tt (within_brackets Square p1 g.last g.writes.knows) in
    let q : Pen = layout (spell x key) p2 in
    subst (λ optional. TargetAt names p l (layout (bracket_link optional ⊕ brackets Square (spell x key)) p1) c place (tree.computed_member a o x)) (sym m) (computed_parts c a o x place p p1 q l m g i)

pub good_computed_member : {names : Tables} (c : Allowed) (a : Atoms) (o x : Tree) → computed_member_expression_optional a ≡ false → LinkPrinted names c o → Printed names c x → Printed names c (tree.computed_member a o x)
good_computed_member c a o x m f h place p l z y k = (computed_target c a o x m f h place p l z y k).0

-- ---- elements: expressions, and those whose values are spread

-- in brackets; the test holds where it is a string that is never in backticks
abbrev pub element_place : Bool → Place
element_place plain = quoted_plainly plain (in_brackets levels.Comma)

abbrev pub ElementOf : Tables → Allowed → Tree → Type 0
ElementOf names c e = (plain : Bool) → ElementAt names (ReadsElement (with_in c)) (element_place plain) e

pub good_element : {names : Tables} (c : Allowed) (e : Tree) → Printed names c e → ElementOf names c e
good_element c e f plain p l z b k =
    let g = f (element_place plain) p l z (begun_ready l b) k in
    record { last = g.last; tokens = g.tokens; writes = g.writes; operand = g.operand; semicolon = g.semicolon; tree = g.tree; reads = grammar.an_element g.reads; same = g.same }

-- dots, and what they spread, in whatever list its family stands
pub spread_in : {names : Tables} {R : Tokens → Tree → Type 0} (c : Allowed) (a : Atoms) (e : Tree) (place : Place) → ((mark : Bool) (ts : Tokens) (u : Tree) → ReadsExpression (with_in c) grammar.Assignment ts u → R (piece mark (Sign ellipsis) ts) (tree.spread (nothing_of 0) u)) → Printed names c e → ElementAt names R place (tree.spread a e)
spread_in c a e place build f p l z b k =
    let o = wrote_dots p l b k in
    let g = f (in_brackets levels.Comma) (layout (punctuator ellipsis) p) (After (Sign ellipsis)) z tt o.knows in
    record {
      last = g.last;
      tokens = piece (line_of l) (Sign ellipsis) g.tokens;
      writes = wrote_both o g.writes;
      operand = g.operand;
      semicolon = g.semicolon;
      tree = tree.spread (nothing_of 0) g.tree;
      reads = build (line_of l) g.tokens g.tree g.reads;
      same = ap (λ t. tree.spread (nothing_of 0) t) g.same;
    }

pub good_spread : {names : Tables} (c : Allowed) (a : Atoms) (e : Tree) → Printed names c e → ElementOf names c (tree.spread a e)
good_spread c a e f plain = spread_in c a e (element_place plain) (λ mark ts u r. grammar.a_spread r) f

-- ---- arguments

-- behind an opening bracket; the tests hold where the first or the second is a string that is never in backticks
abbrev pub ArgumentsAt : Tables → Allowed → Trees → Type 0
ArgumentsAt names c es = (first second : Bool) (p : Pen) → p.pending_semicolon ≡ false → Knows names p (Open false) → Elements names (ReadsArguments (with_in c)) p (Open false) (layout (spell_arguments first second es (in_brackets levels.Comma)) p) es

abbrev pub BehindFirstAt : Tables → Allowed → Trees → Type 0
BehindFirstAt names c es = (second : Bool) → GivesMore names (ReadsElement (with_in c)) (ReadsArgumentList (with_in c)) (spell_behind_first second es (in_brackets levels.Comma)) es

arguments_join : (c : Allowed) → Joins (ReadsElement c) (ReadsArgumentList c)
arguments_join c = record { one = λ ts e r. grammar.last_argument r; first = λ mark a b e es r s. grammar.first_argument mark refl r s }

pub no_arguments : {names : Tables} (c : Allowed) → ArgumentsAt names c no_trees
no_arguments c first second p z k = record { last = Open false; tokens = done; writes = wrote_none p p (Open false) refl k; operand = tt; semicolon = z; trees = no_trees; reads = grammar.no_argument; same = refl }

pub first_of_arguments : {names : Tables} (c : Allowed) (e : Tree) (es : Trees) → ElementOf names c e → BehindFirstAt names c es → ArgumentsAt names c (more e es)
first_of_arguments c e es f m first second p z k =
    let g = first_and_others (ReadsElement (with_in c)) (ReadsArgumentList (with_in c)) e es (spell e (element_place first)) (spell_behind_first second es (in_brackets levels.Comma)) (f first) (m second) p (Open false) z tt k in
    record { last = g.last; tokens = g.tokens; writes = g.writes; operand = g.operand; semicolon = g.semicolon; trees = g.trees; reads = grammar.some_arguments g.reads; same = g.same }

pub none_behind_first : {names : Tables} (c : Allowed) → BehindFirstAt names c no_trees
none_behind_first c second = none_behind (ReadsElement (with_in c)) (ReadsArgumentList (with_in c)) (arguments_join (with_in c)).one

pub one_more_argument : {names : Tables} (c : Allowed) (e : Tree) (es : Trees) → ElementOf names c e → BehindFirstAt names c es → BehindFirstAt names c (more e es)
one_more_argument c e es f m second p l z o k = one_behind (ReadsElement (with_in c)) (ReadsArgumentList (with_in c)) (arguments_join (with_in c)).first e es (spell e (element_place second)) (spell_behind_first false es (in_brackets levels.Comma)) (f second) (m false) p l z o k

-- those of a call
abbrev pub argument_items : Tree → Trees → Items
argument_items t es = spell_arguments (is_require_call t es) (is_definition_call t es) es (in_brackets levels.Comma)

-- ---- calls

same_call : (a : Atoms) (u x : Tree) (us xs : Trees) → call_expression_optional a ≡ false → normal u ≡ normal x → normal_trees us ≡ normal_trees xs → normal (tree.call (call_values false) u us) ≡ normal (tree.call a x xs)
same_call a u x us xs m e f = λ i. tree.call (call_values (sym m i)) (e i) (f i)

call_parts : {names : Tables} (c : Allowed) (a : Atoms) (t : Tree) (es : Trees) (p p1 q : Pen) (l : Last) → call_expression_optional a ≡ false → (g : Linkable names p l p1 c false t) → Elements names (ReadsArguments (with_in c)) (written (opening Round) other_end p1) (Open false) q es → Good names p l (written (closing Round) other_end q) c grammar.Call (tree.call a t es)
call_parts {names} c a t es p p1 q l m g h = record {
  last = Open false;
  tokens = g.tokens ⧺ group (line_of g.last) Round h.tokens done;
  writes = wrote_both g.writes (brackets_written Round p1 q g.last h.last h.tokens h.writes);
  operand = tt;
  semicolon = h.semicolon;
  begins = λ ts i. begins_then p.start g.tokens (group (line_of g.last) Round h.tokens done) ts g.begins refl;
  line = λ e. line_then g.tokens (group (line_of g.last) Round h.tokens done) (g.line e);
  tree = tree.call (call_values false) g.base h.trees;
  reads = g.called refl (line_of g.last) h.tokens h.trees h.reads;
  same = same_call a g.base (renamed names t) h.trees (renamed_trees names es) m g.same h.same;
}

-- without parentheses calls aren't forbidden
pub unwrapped_call : {c : Allowed} {ts : Tokens} {u : Tree} (place : Place) → call_wraps place ≡ false → ReadsExpression c grammar.Call ts u → ReadsExpression c (level_of place) ts u
unwrapped_call {c} {ts} {u} place e r =
    let k = or_parts (wraps levels.New place) place.context.forbids_call e in
    unwrapped levels.New place k.0 (subst (λ b. ReadsExpression c (left_hand_side b) ts u) (sym k.1) (grammar.a_called_call r))

pub good_call : {names : Tables} (c : Allowed) (a : Atoms) (t : Tree) (es : Trees) → call_expression_optional a ≡ false → LinkPrinted names c t → ArgumentsAt names c es → Printed names c (tree.call a t es)
good_call {names} c a t es m f h place =
    good_wrapped c place grammar.Call (call_wraps place) (λ w. spell t (called (within w place)) ⊕ (bracket_link (call_expression_optional a) ⊕ brackets Round (argument_items t es))) (tree.call a t es)
    (λ d ts u r. lifted false levels.Postfix levels.Lowest (omega arith) (grammar.a_called_call r)) (λ e ts u r. unwrapped_call place e r) inner
  where
    inner : (v : Bool) → call_wraps place ≡ v → PrintedBy names (under (within v place) c) grammar.Call (spell t (called (within v place)) ⊕ (bracket_link (call_expression_optional a) ⊕ brackets Round (argument_items t es))) (tree.call a t es)
    inner v e p l z y k =
        let p1 : Pen = layout (spell t (called (within v place))) p in
        let p2 : Pen = written (opening Round) other_end p1 in
        let at : Place = within v place in
        let g = f (with_calls (within v place)) p l z y k in
        let i = h (is_require_call t es) (is_definition_call t es) p2 g.semicolon (within_brackets Round p1 g.last g.writes.knows) in
        let q : Pen = layout (argument_items t es) p2 in
        subst (λ optional. Good names p l (layout (bracket_link optional ⊕ brackets Round (argument_items t es)) p1) (under (within v place) c) grammar.Call (tree.call a t es)) (sym m) (call_parts (under (within v place) c) a t es p p1 q l m g i)
