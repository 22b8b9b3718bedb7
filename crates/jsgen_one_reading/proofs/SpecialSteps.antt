-- What the reader does at private names, regular expressions and templates.
use Rattle.std.proofs.Common.{◌≡◌, ℕ, ◌≤◌, List, ◌∷◌, Bool, true, false, codes, Some, refl, ap, sym, ◌∙◌, arith}
use Rattle.std.proofs.lemmas.Bool.{le-leb}
use Rattle.jsgen_syntax.specs.Escapes.{word_value}
use Rattle.jsgen_tree.specs.Tree.{Tree, Maybe, Trees, no_trees, more, absent, given}
use Rattle.jsgen_tree.specs.Nodes as tree
use Rattle.jsgen_model.specs.Punctuator.{dot}
use Rattle.jsgen_model.specs.Tokens.{Tokens, done, piece, ◌⧺◌, Private, Head, Middle, Tail, Word, Sign, Beyond}
use Rattle.jsgen_model.specs.Normal.{nothing_of, link_values, joined}
use Rattle.jsgen_model.specs.Grammar.{Allowed, with_in, private_name, raw_piece, read_piece, ReadsTemplate}
use Rattle.jsgen_model.specs.Grammar as grammar
use Rattle.jsgen_one_reading.specs.States.{a_further, private_of, template_of, operand, linked, chained, keyed, takes_private, Frame, wanted, set_in, Manner, Owner}
use Rattle.jsgen_one_reading.specs.ExpressionPieces.{special_operand, dotted_piece, chaining_piece, chain_dotted_piece, settled_piece, has_tag, template_as, pieced}
use Rattle.jsgen_one_reading.specs.Steps.{private_key}
use Rattle.jsgen_one_reading.specs.Reader.{run}
use Rattle.jsgen_one_reading.proofs.Steps.{then_assoc, joined_more, pop, fits}
use Rattle.jsgen_one_reading.proofs.Claims.{Settles, Links, Calls, both, both_calls, parted}

-- ---- private names

private_after : (c : Allowed) (k : List Frame) (o : Tree) (w : List ℕ) {v : List ℕ} → word_value w ≡ Some v → dotted_piece c k o (Beyond (Private w)) ≡ linked c k (tree.private_member (link_values false) o (private_name v))
private_after c k o w e = rw e refl

pub optional_private : (c : Allowed) (k : List Frame) (o : Tree) (w : List ℕ) {v : List ℕ} → word_value w ≡ Some v → chaining_piece c k o (Beyond (Private w)) ≡ chained c k (tree.private_member (link_values true) o (private_name v))
optional_private c k o w e = rw e refl

pub further_private : (c : Allowed) (k : List Frame) (o : Tree) (w : List ℕ) {v : List ℕ} → word_value w ≡ Some v → chain_dotted_piece c k o (Beyond (Private w)) ≡ chained c k (tree.private_member (link_values false) o (private_name v))
further_private c k o w e = rw e refl

-- a member by a private name
pub private_member_read : (c : Allowed) (ts a : Tokens) (o : Tree) (w : List ℕ) {v : List ℕ} (m n : Bool) → ts ≡ a ⧺ piece m (Sign dot) (piece n (Beyond (Private w)) done) → word_value w ≡ Some v → Links c a o → Settles 17 c ts (tree.private_member (link_values false) o (private_name v)) × Links c ts (tree.private_member (link_values false) o (private_name v))
private_member_read c ts a o w {v} m n e x l = both c ts (tree.private_member (link_values false) o (private_name v)) (λ i k rest y. parted (operand (set_in i c) k) ts a m (Sign dot) (piece n (Beyond (Private w)) done) rest e ∙ (l i k (piece m (Sign dot) (piece n (Beyond (Private w)) rest)) refl ∙ ap (λ s. run s rest) (private_after (set_in i c) k o w x)))

-- and of a call
pub private_member_of_call_read : (c : Allowed) (ts a : Tokens) (o : Tree) (w : List ℕ) {v : List ℕ} (m n : Bool) → ts ≡ a ⧺ piece m (Sign dot) (piece n (Beyond (Private w)) done) → word_value w ≡ Some v → Calls c a o → Settles 17 c ts (tree.private_member (link_values false) o (private_name v)) × Calls c ts (tree.private_member (link_values false) o (private_name v))
private_member_of_call_read c ts a o w {v} m n e x l = both_calls c ts (tree.private_member (link_values false) o (private_name v)) (λ i k rest g y. parted (operand (set_in i c) k) ts a m (Sign dot) (piece n (Beyond (Private w)) done) rest e ∙ (l i k (piece m (Sign dot) (piece n (Beyond (Private w)) rest)) g refl ∙ ap (λ s. run s rest) (private_after (set_in i c) k o w x)))

private_step : (c : Allowed) (k : List Frame) (w : List ℕ) {v : List ℕ} (n : Bool) (rest : Tokens) → c.in_operator ≡ true → word_value w ≡ Some v → wanted k ≤ 11 → run (special_operand c k (Private w)) (piece n (Word (codes "in")) rest) ≡ run (operand c (private_of v ∷ k)) rest
private_step c k w n rest i e h = rw (e, le-leb (wanted k) 11 h, i) refl

-- the test whether an object has a private name
pub private_test_read : (c : Allowed) (m n : Bool) (w : List ℕ) {v : List ℕ} (ts : Tokens) (t : Tree) → c.in_operator ≡ true → word_value w ≡ Some v → Settles 12 c ts t → Settles 11 c (piece m (Beyond (Private w)) (piece n (Word (codes "in")) ts)) (tree.private_in (nothing_of 0) (private_name v) t)
private_test_read c m n w {v} ts t i e s k rest h r = private_step c k w n (ts ⧺ rest) i e h ∙ (s (private_of v ∷ k) rest (omega arith) (omega arith) ∙ pop c (private_of v) k t (tree.private_in (nothing_of 0) (private_name v) t) rest r refl)

-- a private name that is a key
pub private_key_step : (c : Allowed) (o : Owner) (m : Manner) (w : List ℕ) {v : List ℕ} → takes_private o ≡ true → word_value w ≡ Some v → private_key c o m (Private w) ≡ keyed c o m false (private_name v)
private_key_step c o m w p e = rw (p, e) refl

-- ---- templates

-- further pieces of a template and the expressions before them, behind those so far
abbrev pub PiecesRead : Allowed → Bool → Tokens → Trees → Trees → Type 0
PiecesRead c tagged ts qs es = (d : Allowed) (tag : Maybe) (ps xs : Trees) (k : List Frame) (rest : Tokens) → has_tag tag ≡ tagged → run (operand c (template_of d tag ps xs ∷ k)) (ts ⧺ rest) ≡ run (linked d k (template_as tag (joined ps qs) (joined xs es))) rest

further_step : (last : Bool) (c d : Allowed) (tag : Maybe) (ps xs : Trees) (k : List Frame) (e : Tree) (w : List ℕ) {v : Tree} {tagged : Bool} → has_tag tag ≡ tagged → read_piece tagged w ≡ Some v → settled_piece c (template_of d tag ps xs ∷ k) e (a_further last w) ≡ pieced last c d tag (joined ps (more v no_trees)) (joined xs (more e no_trees)) k
further_step last c d tag ps xs k e w h r = rw (h, r) refl

-- the last one
pub last_piece_read : (c : Allowed) (tagged : Bool) (ts a : Tokens) (v e : Tree) (w : List ℕ) (m : Bool) → ts ≡ a ⧺ piece m (Beyond (Tail w)) done → Settles 1 c a e → read_piece tagged w ≡ Some v → PiecesRead c tagged ts (more v no_trees) (more e no_trees)
last_piece_read c tagged ts a v e w m q s r d tag ps xs k rest h = parted (operand c (template_of d tag ps xs ∷ k)) ts a m (Beyond (Tail w)) done rest q ∙ (s (template_of d tag ps xs ∷ k) (piece m (Beyond (Tail w)) rest) (omega arith) (omega arith) ∙ ap (λ x. run x rest) (further_step true c d tag ps xs k e w h r))

-- one between two expressions
pub piece_between_read : (c : Allowed) (tagged : Bool) (ts a b : Tokens) (v e : Tree) (qs es : Trees) (w : List ℕ) (m : Bool) → ts ≡ a ⧺ piece m (Beyond (Middle w)) b → Settles 1 c a e → read_piece tagged w ≡ Some v → PiecesRead c tagged b qs es → PiecesRead c tagged ts (more v qs) (more e es)
piece_between_read c tagged ts a b v e qs es w m q s r p d tag ps xs k rest h =
    parted (operand c (template_of d tag ps xs ∷ k)) ts a m (Beyond (Middle w)) b rest q ∙ (s (template_of d tag ps xs ∷ k) (piece m (Beyond (Middle w)) (b ⧺ rest)) (omega arith) (omega arith) ∙ (ap (λ x. run x (b ⧺ rest)) (further_step false c d tag ps xs k e w h r) ∙ (p d tag (joined ps (more v no_trees)) (joined xs (more e no_trees)) k rest h ∙ (ap (λ x. run (linked d k (template_as tag x (joined (joined xs (more e no_trees)) es))) rest) (joined_more ps qs v) ∙ ap (λ x. run (linked d k (template_as tag (joined ps (more v qs)) x)) rest) (joined_more xs es e)))))

first_step : (c : Allowed) (k : List Frame) (w : List ℕ) {v : Tree} → read_piece false w ≡ Some v → special_operand c k (Head w) ≡ operand (with_in c) (template_of c absent (more v no_trees) no_trees ∷ k)
first_step c k w e = rw e refl

-- a template without a tag
pub template_read : (c : Allowed) (m : Bool) (w : List ℕ) (ts : Tokens) (v : Tree) (qs es : Trees) → read_piece false w ≡ Some v → PiecesRead (with_in c) false ts qs es → Settles 17 c (piece m (Beyond (Head w)) ts) (tree.template_literal (nothing_of 0) (more v qs) es) × Links c (piece m (Beyond (Head w)) ts) (tree.template_literal (nothing_of 0) (more v qs) es)
template_read c m w ts v qs es e p = both c (piece m (Beyond (Head w)) ts) (tree.template_literal (nothing_of 0) (more v qs) es) (λ i k rest z. ap (λ s. run s (ts ⧺ rest)) (first_step (set_in i c) k w e) ∙ p (set_in i c) absent (more v no_trees) no_trees k rest refl)

-- a template behind its tag
abbrev pub TaggedRead : Allowed → Tokens → Tree → Type 0
TaggedRead c ts q = (d : Allowed) (k : List Frame) (o : Tree) (rest : Tokens) → c ≡ with_in d → run (linked d k o) (ts ⧺ rest) ≡ run (linked d k (tree.tagged_template (nothing_of 0) o q)) rest

pub parts_tagged : (c : Allowed) (m : Bool) (w : List ℕ) (ts : Tokens) (qs es : Trees) → PiecesRead c true ts qs es → TaggedRead c (piece m (Beyond (Head w)) ts) (tree.template_literal (nothing_of 0) (more (raw_piece w) qs) es)
parts_tagged c m w ts qs es p d k o rest e = ap (λ x. run (operand x (template_of d (given o) (more (raw_piece w) no_trees) no_trees ∷ k)) (ts ⧺ rest)) (sym e) ∙ p d (given o) (more (raw_piece w) no_trees) no_trees k rest refl

-- whatever is before a template fits
template_fits : {c : Allowed} {b : Tokens} {q : Tree} → ReadsTemplate c b q → (rest a : Tokens) (o : Tree) → fits (b ⧺ rest) a o ≡ true
template_fits grammar.a_template_of_a_string rest a o = refl
template_fits grammar.a_whole_template rest a o = refl
template_fits (grammar.a_template_of_parts p) rest a o = refl

pub tagged_read : (c d : Allowed) (ts a b : Tokens) (o q : Tree) → ts ≡ a ⧺ b → ReadsTemplate d b q → d ≡ with_in c → TaggedRead d b q → Links c a o → Settles 17 c ts (tree.tagged_template (nothing_of 0) o q) × Links c ts (tree.tagged_template (nothing_of 0) o q)
tagged_read c d ts a b o q e r x p l = both c ts (tree.tagged_template (nothing_of 0) o q) (λ i k rest z. ap (λ y. run (operand (set_in i c) k) (y ⧺ rest)) e ∙ (ap (run (operand (set_in i c) k)) (then_assoc a b rest) ∙ (l i k (b ⧺ rest) (template_fits r rest a o) ∙ p (set_in i c) k o rest x)))

-- and a call before it
pub tagged_call_read : (c d : Allowed) (ts a b : Tokens) (o q : Tree) → ts ≡ a ⧺ b → ReadsTemplate d b q → d ≡ with_in c → TaggedRead d b q → Calls c a o → Settles 17 c ts (tree.tagged_template (nothing_of 0) o q) × Calls c ts (tree.tagged_template (nothing_of 0) o q)
tagged_call_read c d ts a b o q e r x p l = both_calls c ts (tree.tagged_template (nothing_of 0) o q) (λ i k rest g z. ap (λ y. run (operand (set_in i c) k) (y ⧺ rest)) e ∙ (ap (run (operand (set_in i c) k)) (then_assoc a b rest) ∙ (l i k (b ⧺ rest) g (template_fits r rest a o) ∙ p (set_in i c) k o rest x)))
