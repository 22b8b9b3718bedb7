-- Chains of which one link at least is optional.
use Rattle.std.proofs.Common.{◌≡◌, ℕ, Bool, true, false, ◌<◌, codes, Some, List, refl, sym, ap, subst, arith}
use Rattle.std.proofs.lemmas.Bool.{or_parts, or_from, leb-false, lt-leb}
use Rattle.jsgen_syntax.specs.Escapes.{name_text, word_value}
use Rattle.jsgen_syntax.specs.Name.{spells_name}
use Rattle.jsgen_syntax.specs.Precedence.{rank}
use Rattle.jsgen_syntax.proofs.Escapes.{word_text_value}
use Rattle.jsgen_syntax.specs.declared.precedence.Precedence.TheVariants as levels
use Rattle.jsgen_tree.specs.Job.{Tables}
use Rattle.jsgen_tree.specs.Tree.{Tree, Trees, Atoms}
use Rattle.jsgen_tree.specs.Values.{identifier_name_name, static_member_expression_optional, computed_member_expression_optional, call_expression_optional}
use Rattle.jsgen_tree.specs.Named.{as_written}
use Rattle.jsgen_tree.specs.Nodes as tree
use Rattle.jsgen_model.specs.Punctuator.{dot, question_dot, Round, Square, opening}
use Rattle.jsgen_model.specs.Tokens.{Tokens, done, piece, group, ◌⧺◌, Word, Sign}
use Rattle.jsgen_model.specs.Items.{Items, ◌⊕◌, brackets, member_dot, name, punctuator, wrapped}
use Rattle.jsgen_model.specs.Layout.{Pen, other_end, layout, written, written_if}
use Rattle.jsgen_model.specs.Grammar.{Allowed, ReadsExpression, ReadsChain, ReadsChainBase, is_word}
use Rattle.jsgen_model.specs.Grammar as grammar
use Rattle.jsgen_model.specs.Normal.{normal, normal_trees, nothing_of, named, link_values, call_values}
use Rattle.jsgen_model.specs.Renamed.{renamed, renamed_trees}
use Rattle.jsgen_model.specs.Quotes.{is_require_call, is_definition_call}
use Rattle.jsgen_place.specs.declared.place.Place.{Place}
use Rattle.jsgen_place.specs.Place.{within, linked, called, in_brackets, wraps, call_wraps, chain_wraps, chain_place, with_calls}
use Rattle.jsgen_model.specs.Spell.{spell, name_link, bracket_link}
use Rattle.jsgen_token_laws.proofs.Last.{Last, Open, After, line_of, Operand, Ready, Knows}
use Rattle.jsgen_token_laws.proofs.Writes.{Writes, wrote_both}
use Rattle.jsgen_token_laws.proofs.Steps.{wrote_written_name, wrote_dot, wrote_punctuator, within_brackets, brackets_written}
use Rattle.jsgen_row_laws.proofs.Levels.{left_hand_side, level_of, under, lifted, unwrapped}
use Rattle.jsgen_row_laws.proofs.Good.{GoodAs, Good, Printed, begins_then, line_then, good_wrapped, PrintedAs, PrintedBy, unwrapped_from, good_at}
use Rattle.jsgen_row_laws.proofs.Links.{ArgumentsAt, key_place, argument_items}

-- printed where no parentheses stand round a call
abbrev pub ChainPrinted : Tables → Allowed → Tree → Type 0
ChainPrinted names c t = (place : Place) → call_wraps place ≡ false → (p : Pen) (l : Last) → p.pending_semicolon ≡ false → Ready l → Knows names p l → GoodAs names (ReadsChain (under place c)) p l (layout (spell t place) p) t

-- what an optional link goes on from, printed before it
abbrev pub BasePrinted : Tables → Allowed → Tree → Type 0
BasePrinted names c t = (place : Place) → place.context.forbids_call ≡ false → (p : Pen) (l : Last) → p.pending_semicolon ≡ false → Ready l → Knows names p l → GoodAs names (ReadsChainBase (under place c)) p l (layout (spell t (linked place)) p) t

pub base_expression : {names : Tables} (c : Allowed) (t : Tree) → Printed names c t → BasePrinted names c t
base_expression c t f place n p l z y k = good_at (λ ts u r. grammar.a_first_link (subst (λ b. ReadsExpression (under place c) (left_hand_side b) ts u) n r)) (f (linked place) p l z y k)

pub base_chain : {names : Tables} (c : Allowed) (t : Tree) → ChainPrinted names c t → BasePrinted names c t
base_chain c t f place n p l z y k = good_at (λ ts u r. grammar.a_further_link r) (f (linked place) n p l z y k)

-- calls aren't forbidden where they need no parentheses
pub no_call : (place : Place) → call_wraps place ≡ false → place.context.forbids_call ≡ false
no_call place e = (or_parts (wraps levels.New place) place.context.forbids_call e).1

-- ---- a link behind others

pub link_parts : {names : Tables} {Reads : Tokens → Tree → Type 0} {c : Allowed} {o t u : Tree} {p p1 q : Pen} {l m : Last} (link : Tokens) → (g : GoodAs names Reads p l p1 o) → Writes names p1 g.last q m link → Operand m → q.pending_semicolon ≡ false → ((d : Tokens) → is_word (codes "function") (link ⧺ d) ≡ false) → ReadsChain c (g.tokens ⧺ link) u → normal u ≡ normal (renamed names t) → GoodAs names (ReadsChain c) p l q t
link_parts {u = u} {p = p} {m = m} link g w d z n r s = record {
  last = m;
  tokens = g.tokens ⧺ link;
  writes = wrote_both g.writes w;
  operand = d;
  semicolon = z;
  begins = λ ts i. begins_then p.start g.tokens link ts g.begins (n ts);
  line = λ e. line_then g.tokens link (g.line e);
  tree = u;
  reads = r;
  same = s;
}

-- ---- members by their names

abbrev NamedAt : Tables → Allowed → Atoms → Atoms → Tree → Place → Pen → Last → Bool → Type 0
NamedAt names c a b o place p l optional = GoodAs names (ReadsChain (under place c)) p l (layout (name_link optional ⊕ name b.span (as_written (identifier_name_name b))) (layout (spell o (linked place)) p)) (tree.static_member a o (tree.identifier_name b))

pub optional_named_member : {names : Tables} (c : Allowed) (a b : Atoms) (o : Tree) → static_member_expression_optional a ≡ true → spells_name (identifier_name_name b) ≡ true → BasePrinted names c o → ChainPrinted names c (tree.static_member a o (tree.identifier_name b))
optional_named_member {names} c a b o m h f place n p l z y k =
    let v : List ℕ = identifier_name_name b in
    let p1 : Pen = layout (spell o (linked place)) p in
    let p2 : Pen = layout (punctuator question_dot) p1 in
    let w : List ℕ = name_text p2.style.ascii v in
    let x : word_value w ≡ Some v = word_text_value p2.style.ascii v h in
    let g = f place (no_call place n) p l z y k in
    let d = wrote_punctuator question_dot p1 g.last tt tt g.operand g.writes.knows in
    subst (λ optional. NamedAt names c a b o place p l optional) (sym m)
    (link_parts (piece (line_of g.last) (Sign question_dot) (piece false (Word w) done)) g (wrote_both d (wrote_written_name v p2 (After (Sign question_dot)) h d.knows)) tt g.semicolon (λ ts. refl)
    (grammar.an_optional_named_member w (line_of g.last) false refl x g.reads) (λ i. tree.static_member (link_values (sym m i)) (g.same i) (tree.identifier_name (named v))))

pub further_named_member : {names : Tables} (c : Allowed) (a b : Atoms) (o : Tree) → static_member_expression_optional a ≡ false → spells_name (identifier_name_name b) ≡ true → ChainPrinted names c o → ChainPrinted names c (tree.static_member a o (tree.identifier_name b))
further_named_member {names} c a b o m h f place n p l z y k =
    let v : List ℕ = identifier_name_name b in
    let p1 : Pen = layout (spell o (linked place)) p in
    let p2 : Pen = layout member_dot p1 in
    let w : List ℕ = name_text p2.style.ascii v in
    let x : word_value w ≡ Some v = word_text_value p2.style.ascii v h in
    let g = f (linked place) (no_call place n) p l z y k in
    let d = wrote_dot p1 g.last g.operand g.writes.knows in
    subst (λ optional. NamedAt names c a b o place p l optional) (sym m)
    (link_parts (piece (line_of g.last) (Sign dot) (piece false (Word w) done)) g (wrote_both d (wrote_written_name v p2 (After (Sign dot)) h d.knows)) tt g.semicolon (λ ts. refl)
    (grammar.a_further_named_member w (line_of g.last) false refl x g.reads) (λ i. tree.static_member (link_values (sym m i)) (g.same i) (tree.identifier_name (named v))))

-- ---- members by values

abbrev ComputedAt : Tables → Allowed → Atoms → Tree → Tree → Place → Pen → Last → Bool → Type 0
ComputedAt names c a o x place p l optional = GoodAs names (ReadsChain (under place c)) p l (layout (bracket_link optional ⊕ brackets Square (spell x (key_place place))) (layout (spell o (linked place)) p)) (tree.computed_member a o x)

same_member : (a : Atoms) (optional : Bool) (u v x y : Tree) → computed_member_expression_optional a ≡ optional → normal u ≡ normal x → normal v ≡ normal y → normal (tree.computed_member (link_values optional) u v) ≡ normal (tree.computed_member a x y)
same_member a optional u v x y m e f = λ i. tree.computed_member (link_values (sym m i)) (e i) (f i)

pub optional_computed_member : {names : Tables} (c : Allowed) (a : Atoms) (o x : Tree) → computed_member_expression_optional a ≡ true → BasePrinted names c o → Printed names c x → ChainPrinted names c (tree.computed_member a o x)
optional_computed_member {names} c a o x m f h place n p l z y k =
    let p1 : Pen = layout (spell o (linked place)) p in
    let p2 : Pen = layout (punctuator question_dot) p1 in
    let p3 : Pen = written (opening Square) other_end p2 in
    let q : Pen = layout (spell x (key_place place)) p3 in
    let g = f place (no_call place n) p l z y k in
    let d = wrote_punctuator question_dot p1 g.last tt tt g.operand g.writes.knows in
    let i = h (key_place place) p3 (Open false) g.semicolon tt (within_brackets Square p2 (After (Sign question_dot)) d.knows) in
    subst (λ optional. ComputedAt names c a o x place p l optional) (sym m)
    (link_parts (piece (line_of g.last) (Sign question_dot) (group false Square i.tokens done)) g (wrote_both d (brackets_written Square p2 q (After (Sign question_dot)) i.last i.tokens i.writes)) tt i.semicolon (λ ts. refl)
    (grammar.an_optional_computed_member (line_of g.last) false refl g.reads i.reads) (same_member a true g.tree i.tree (renamed names o) (renamed names x) m g.same i.same))

pub further_computed_member : {names : Tables} (c : Allowed) (a : Atoms) (o x : Tree) → computed_member_expression_optional a ≡ false → ChainPrinted names c o → Printed names c x → ChainPrinted names c (tree.computed_member a o x)
further_computed_member {names} c a o x m f h place n p l z y k =
    let p1 : Pen = layout (spell o (linked place)) p in
    let p2 : Pen = written (opening Square) other_end p1 in
    let q : Pen = layout (spell x (key_place place)) p2 in
    let g = f (linked place) (no_call place n) p l z y k in
    let i = h (key_place place) p2 (Open false) g.semicolon tt (within_brackets Square p1 g.last g.writes.knows) in
    subst (λ optional. ComputedAt names c a o x place p l optional) (sym m)
    (link_parts (group (line_of g.last) Square i.tokens done) g (brackets_written Square p1 q g.last i.last i.tokens i.writes) tt i.semicolon (λ ts. refl)
    (grammar.a_further_computed_member (line_of g.last) refl g.reads i.reads) (same_member a false g.tree i.tree (renamed names o) (renamed names x) m g.same i.same))

-- ---- calls

-- what stands where a call needs no parentheses
abbrev call_items : Atoms → Tree → Trees → Place → Bool → Bool → Items
call_items a t es place optional w = spell t (called (within w place)) ⊕ (bracket_link optional ⊕ brackets Round (argument_items t es))

abbrev CallAt : Tables → Allowed → Atoms → Tree → Trees → Place → Bool → Type 0
CallAt names c a t es place optional = PrintedAs names (ReadsChain (under place c)) (call_items a t es place optional false) (tree.call a t es)

-- and none do
without_wrapping : {names : Tables} (c : Allowed) (a : Atoms) (t : Tree) (es : Trees) (place : Place) → call_wraps place ≡ false → CallAt names c a t es place (call_expression_optional a) → PrintedAs names (ReadsChain (under place c)) (spell (tree.call a t es) place) (tree.call a t es)
without_wrapping {names} c a t es place n f p l z y k =
    let o : Bool = call_expression_optional a in
    subst (λ w. GoodAs names (ReadsChain (under place c)) p l (layout (wrapped w (call_items a t es place o w)) p) (tree.call a t es)) (sym n) (unwrapped_from (call_items a t es place o false) p (f (written_if false (opening Round) p)) l z y k)

same_call : (a : Atoms) (optional : Bool) (u x : Tree) (us xs : Trees) → call_expression_optional a ≡ optional → normal u ≡ normal x → normal_trees us ≡ normal_trees xs → normal (tree.call (call_values optional) u us) ≡ normal (tree.call a x xs)
same_call a optional u x us xs m e f = λ i. tree.call (call_values (sym m i)) (e i) (f i)

pub optional_call : {names : Tables} (c : Allowed) (a : Atoms) (t : Tree) (es : Trees) → call_expression_optional a ≡ true → BasePrinted names c t → ArgumentsAt names c es → ChainPrinted names c (tree.call a t es)
optional_call {names} c a t es m f h place n = without_wrapping c a t es place n inner
  where
    inner : CallAt names c a t es place (call_expression_optional a)
    inner p l z y k =
        let at : Place = within false place in
        let p1 : Pen = layout (spell t (called at)) p in
        let p2 : Pen = layout (punctuator question_dot) p1 in
        let p3 : Pen = written (opening Round) other_end p2 in
        let q : Pen = layout (argument_items t es) p3 in
        let g = f (with_calls at) refl p l z y k in
        let d = wrote_punctuator question_dot p1 g.last tt tt g.operand g.writes.knows in
        let i = h (is_require_call t es) (is_definition_call t es) p3 g.semicolon (within_brackets Round p2 (After (Sign question_dot)) d.knows) in
        subst (λ optional. GoodAs names (ReadsChain (under place c)) p l (layout (call_items a t es place optional false) p) (tree.call a t es)) (sym m)
        (link_parts (piece (line_of g.last) (Sign question_dot) (group false Round i.tokens done)) g (wrote_both d (brackets_written Round p2 q (After (Sign question_dot)) i.last i.tokens i.writes)) tt i.semicolon (λ ts. refl)
        (grammar.an_optional_call (line_of g.last) false refl g.reads i.reads) (same_call a true g.tree (renamed names t) i.trees (renamed_trees names es) m g.same i.same))

pub further_call : {names : Tables} (c : Allowed) (a : Atoms) (t : Tree) (es : Trees) → call_expression_optional a ≡ false → ChainPrinted names c t → ArgumentsAt names c es → ChainPrinted names c (tree.call a t es)
further_call {names} c a t es m f h place n = without_wrapping c a t es place n inner
  where
    inner : CallAt names c a t es place (call_expression_optional a)
    inner p l z y k =
        let at : Place = within false place in
        let p1 : Pen = layout (spell t (called at)) p in
        let p2 : Pen = written (opening Round) other_end p1 in
        let q : Pen = layout (argument_items t es) p2 in
        let g = f (called at) refl p l z y k in
        let i = h (is_require_call t es) (is_definition_call t es) p2 g.semicolon (within_brackets Round p1 g.last g.writes.knows) in
        subst (λ optional. GoodAs names (ReadsChain (under place c)) p l (layout (call_items a t es place optional false) p) (tree.call a t es)) (sym m)
        (link_parts (group (line_of g.last) Round i.tokens done) g (brackets_written Round p1 q g.last i.last i.tokens i.writes) tt i.semicolon (λ ts. refl)
        (grammar.a_further_call (line_of g.last) refl g.reads i.reads) (same_call a false g.tree (renamed names t) i.trees (renamed_trees names es) m g.same i.same))

-- ---- the whole chain

unwrapped_chain : {c : Allowed} {ts : Tokens} {u : Tree} (place : Place) → chain_wraps place ≡ false → ReadsExpression c grammar.LeftHandSide ts u → ReadsExpression c (level_of place) ts u
unwrapped_chain place e r = unwrapped levels.Postfix place (or_parts (wraps levels.Postfix place) place.context.forbids_call e).0 (grammar.a_left_hand_side r)

-- where a chain needs no parentheses, a call needs none
no_call_wraps : (place : Place) → chain_wraps place ≡ false → call_wraps place ≡ false
no_call_wraps place e =
    let k = or_parts (wraps levels.Postfix place) place.context.forbids_call e in
    let h : rank place.level < 19 = leb-false 19 (rank place.level) k.0 in
    or_from (wraps levels.New place) place.context.forbids_call (lt-leb 20 (rank place.level) (omega arith)) k.1

as_chain : {names : Tables} {p q : Pen} {l : Last} {c : Allowed} {t : Tree} (a : Atoms) → GoodAs names (ReadsChain c) p l q t → Good names p l q c grammar.LeftHandSide (tree.chain a t)
as_chain a g = record { last = g.last; tokens = g.tokens; writes = g.writes; operand = g.operand; semicolon = g.semicolon; begins = g.begins; line = g.line; tree = tree.chain (nothing_of 0) g.tree; reads = grammar.an_optional_chain g.reads; same = ap (λ x. tree.chain (nothing_of 0) x) g.same }

pub good_chain : {names : Tables} (c : Allowed) (a : Atoms) (t : Tree) → ChainPrinted names c t → Printed names c (tree.chain a t)
good_chain {names} c a t f place =
    good_wrapped c place grammar.LeftHandSide (chain_wraps place) (λ w. spell t (chain_place w place)) (tree.chain a t)
    (λ d ts u r. lifted false levels.Prefix levels.Lowest (omega arith) (grammar.a_left_hand_side r)) (λ e ts u r. unwrapped_chain place e r) inner
  where
    inner : (v : Bool) → chain_wraps place ≡ v → PrintedBy names (under (within v place) c) grammar.LeftHandSide (spell t (chain_place v place)) (tree.chain a t)
    inner true e p l z y k = as_chain a (f (in_brackets levels.Lowest) refl p l z y k)
    inner false e p l z y k = as_chain a (f place (no_call_wraps place e) p l z y k)
