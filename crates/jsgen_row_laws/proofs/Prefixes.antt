-- An operator before its operand.
use Rattle.std.proofs.Common.{◌≡◌, Bool, true, false, not, codes, List, [], ℕ, ◌∷◌, refl, ap, ◌∙◌, arith}
use Rattle.jsgen_syntax.specs.Name.{spells_name}
use Rattle.jsgen_syntax.specs.declared.span.Span.{Span}
use Rattle.jsgen_syntax.specs.declared.operator.UnaryOperator.{UnaryOperator}
use Rattle.jsgen_syntax.specs.declared.operator.UnaryOperator.TheVariants as unary_operators
use Rattle.jsgen_syntax.specs.declared.precedence.Precedence.TheVariants as levels
use Rattle.jsgen_tree.specs.Job.{Tables}
use Rattle.jsgen_tree.specs.Atom.{unary_operator}
use Rattle.jsgen_tree.specs.Tree.{Tree, Atoms}
use Rattle.jsgen_tree.specs.Places.{bare}
use Rattle.jsgen_tree.specs.Values.{unary_expression_operator}
use Rattle.jsgen_tree.specs.Nodes as tree
use Rattle.jsgen_model.specs.Punctuator.{Punctuator, bang, tilde}
use Rattle.jsgen_model.specs.Tokens.{Tokens, done, piece, ◌⧺◌, Piece, Word, Sign}
use Rattle.jsgen_model.specs.Items.{Items, ◌⊕◌, word, operator}
use Rattle.jsgen_model.specs.Layout.{Pen, layout}
use Rattle.jsgen_model.specs.Grammar.{Allowed, Level, ReadsExpression, unary_piece, starts_declaration, starts_statement}
use Rattle.jsgen_model.specs.Grammar as grammar
use Rattle.jsgen_model.specs.Normal.{normal}
use Rattle.jsgen_model.specs.Renamed.{renamed}
use Rattle.jsgen_place.specs.Place.{within, child, wraps}
use Rattle.jsgen_model.specs.Spell.{spell}
use Rattle.jsgen_model.specs.Operators.{unary_sign, behind_unary, marked}
use Rattle.jsgen_token_laws.proofs.Characters.{letters_spelled}
use Rattle.jsgen_token_laws.proofs.Last.{Last, After, line_of, Ready, Knows}
use Rattle.jsgen_token_laws.proofs.Writes.{Writes, wrote_both}
use Rattle.jsgen_token_laws.proofs.Steps.{Soft, no_soft, soft_space_written, wrote_word, wrote_plus, wrote_minus, wrote_prefix}
use Rattle.jsgen_row_laws.proofs.Levels.{under, lifted, unwrapped}
use Rattle.jsgen_row_laws.proofs.Good.{Good, Printed, good_wrapped, PrintedBy, begins_all}

-- the item writes this one token behind anything, and an operand may follow
pub record Before (names : Tables) (item : Items) (x : Piece) : Type 0 where
  pub writes : (p : Pen) (l : Last) → Knows names p l → Writes names p l (layout item p) (After x) (piece (line_of l) x done)
  pub semicolon : (p : Pen) → (layout item p).pending_semicolon ≡ p.pending_semicolon
  pub ready : Ready (After x)
  pub begins : (line : Bool) (ts : Tokens) → starts_statement (piece line x ts) ≡ true

-- these items write blanks, or nothing
abbrev pub Softens : Tables → Items → Type 0
Softens names items = (p : Pen) (l : Last) → Knows names p l → Soft names p l (layout items p)

-- what has to be built from the token and the operand
abbrev pub Builds : Tables → Piece → Allowed → Level → Level → Tree → Tree → Type 0
Builds names x c g h e t = (a : Tokens) (line : Bool) (u : Tree) → ReadsExpression c g a u → normal u ≡ normal (renamed names e) → (w : Tree) × ReadsExpression c h (piece line x a) w × (normal w ≡ normal (renamed names t))

prefix_parts : {names : Tables} {item : Items} {x : Piece} {e t : Tree} {c : Allowed} {g h : Level} {p p1 p2 q : Pen} {l : Last} → Before names item x → Builds names x c g h e t → Writes names p l p1 (After x) (piece (line_of l) x done) → (n : Soft names p1 (After x) p2) → Good names p2 n.last q c g e → Good names p l q c h t
prefix_parts {x = x} {p = p} {l = l} before build w n b =
    let r = build b.tokens (line_of l) b.tree b.reads b.same in
    record {
      last = b.last;
      tokens = piece (line_of l) x b.tokens;
      writes = wrote_both w (wrote_both n.writes b.writes);
      operand = b.operand;
      semicolon = b.semicolon;
      begins = λ d i. begins_all p.start (piece (line_of l) x (b.tokens ⧺ d)) (before.begins (line_of l) (b.tokens ⧺ d));
      line = λ i. ap not i;
      tree = r.0;
      reads = r.1;
      same = r.2;
    }

pub good_prefix : {names : Tables} (item : Items) (x : Piece) (gap operand : Items) (e t : Tree) (c : Allowed) (g h : Level) → Before names item x → Softens names gap → Builds names x c g h e t → PrintedBy names c g operand e → PrintedBy names c h (item ⊕ (gap ⊕ operand)) t
good_prefix item x gap operand e t c g h before soft build f p l z y k =
    let p1 : Pen = layout item p in
    let w = before.writes p l k in
    let n = soft p1 (After x) w.knows in
    let b = f (layout gap p1) n.last (n.semicolon ∙ (before.semicolon p ∙ z)) (n.ready before.ready) n.writes.knows in
    prefix_parts before build w n b

-- ---- signs and words

pub sign_before : {names : Tables} (s : Punctuator) → Ready (After (Sign s)) → ((p : Pen) (l : Last) → Knows names p l → Writes names p l (layout (operator s) p) (After (Sign s)) (piece (line_of l) (Sign s) done)) → Before names (operator s) (Sign s)
sign_before s y w = record { writes = w; semicolon = λ p. refl; ready = y; begins = λ line ts. refl }

pub word_before : {names : Tables} (w : List ℕ) → spells_name w ≡ true → ((ts : Tokens) → starts_declaration w ts ≡ false) → Before names (word w) (Word w)
word_before w h n = record { writes = λ p l k. wrote_word w p l h k; semicolon = λ p. refl; ready = tt; begins = λ line ts. ap not (n ts) }

-- the same of an item with a mark
marked_before : {names : Tables} {x : Piece} (s : Span) (item : Items) → Before names item x → Before names (marked s item) x
marked_before s (word w) b = record { writes = b.writes; semicolon = b.semicolon; ready = b.ready; begins = b.begins }
marked_before s (operator p) b = record { writes = b.writes; semicolon = b.semicolon; ready = b.ready; begins = b.begins }
marked_before s item b = record { writes = b.writes; semicolon = b.semicolon; ready = b.ready; begins = b.begins }

-- ---- unary operations

unary_before : {names : Tables} (o : UnaryOperator) → Before names (unary_sign o) (unary_piece o)
unary_before unary_operators.UnaryPlus = sign_before _ tt wrote_plus
unary_before unary_operators.UnaryNegation = sign_before _ tt wrote_minus
unary_before unary_operators.LogicalNot = sign_before bang tt (λ p l k. wrote_prefix bang 33 p l refl refl refl refl k)
unary_before unary_operators.BitwiseNot = sign_before tilde tt (λ p l k. wrote_prefix tilde 126 p l refl refl refl refl k)
unary_before unary_operators.Typeof = word_before (codes "typeof") (letters_spelled 116 (codes "ypeof") refl) (λ ts. refl)
unary_before unary_operators.Void = word_before (codes "void") (letters_spelled 118 (codes "oid") refl) (λ ts. refl)
unary_before unary_operators.Delete = word_before (codes "delete") (letters_spelled 100 (codes "elete") refl) (λ ts. refl)

pub nothing_soft : {names : Tables} (p : Pen) (l : Last) → Knows names p l → Soft names p l p
nothing_soft p l k = no_soft p p l refl refl refl refl k

behind_soft : {names : Tables} (o : UnaryOperator) → Softens names (behind_unary o)
behind_soft unary_operators.Typeof = soft_space_written
behind_soft unary_operators.Void = soft_space_written
behind_soft unary_operators.Delete = soft_space_written
behind_soft o = nothing_soft

pub good_unary_operation : {names : Tables} (c : Allowed) (a : Atoms) (t : Tree) → Printed names c t → Printed names c (tree.unary a t)
good_unary_operation c a t f place =
    let o : UnaryOperator = unary_expression_operator a in
    good_wrapped c place grammar.Unary (wraps levels.Prefix place) (λ w. marked a.span (unary_sign o) ⊕ (behind_unary o ⊕ spell t (child levels.Exponentiation (within w place)))) (tree.unary a t)
    (λ d ts u r. lifted false levels.Exponentiation levels.Lowest (omega arith) r) (λ e ts u r. unwrapped levels.Prefix place e r)
    (λ v e. good_prefix (marked a.span (unary_sign o)) (unary_piece o) (behind_unary o) (spell t (child levels.Exponentiation (within v place))) t (tree.unary a t) (under (within v place) c) grammar.Unary grammar.Unary (marked_before a.span (unary_sign o) (unary_before o)) (behind_soft o)
    (λ ts line u r s. (tree.unary (bare (unary_operator o ∷ [])) u, grammar.a_unary_operation o r, ap (λ x. tree.unary (bare (unary_operator o ∷ [])) x) s)) (f (child levels.Exponentiation (within v place))))
