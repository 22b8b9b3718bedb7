-- `await` and `yield` with their operands.
use Rattle.std.proofs.Common.{◌≡◌, Bool, true, false, codes, [], ◌∷◌, refl, sym, ap, subst, arith}
use Rattle.jsgen_syntax.specs.Name.{spells_name}
use Rattle.jsgen_syntax.specs.declared.precedence.Precedence.TheVariants as levels
use Rattle.jsgen_tree.specs.Atom.{flag}
use Rattle.jsgen_tree.specs.Job.{Tables}
use Rattle.jsgen_tree.specs.Nodes as tree
use Rattle.jsgen_tree.specs.Places.{bare}
use Rattle.jsgen_tree.specs.Tree.{Tree, Maybe, absent, given, Atoms}
use Rattle.jsgen_tree.specs.Values.{yield_expression_delegate}
use Rattle.jsgen_model.specs.Punctuator.{star}
use Rattle.jsgen_model.specs.Tokens.{Tokens, piece, Word, Sign}
use Rattle.jsgen_model.specs.Items.{Items, ◌⊕◌, word, marked_word, punctuator, soft_space}
use Rattle.jsgen_model.specs.Grammar.{Allowed, ReadsExpression}
use Rattle.jsgen_model.specs.Grammar as grammar
use Rattle.jsgen_model.specs.Normal.{nothing_of}
use Rattle.jsgen_model.specs.Spell.{spell, spell_apart, items_if}
use Rattle.jsgen_place.specs.declared.place.Place.{Place}
use Rattle.jsgen_place.specs.Place.{child, within, with_calls, wraps}
use Rattle.jsgen_token_laws.proofs.Characters.{letters_spelled}
use Rattle.jsgen_row_laws.proofs.Levels.{level_of, under, lifted, unwrapped}
use Rattle.jsgen_row_laws.proofs.Good.{Printed, PrintedBy, good_wrapped}
use Rattle.jsgen_row_laws.proofs.Adds.{Follows, follows, ◌⨟◌, ◌&◌, Nothing, none, ◌⨾◌, past, star_on_line, empty, spaced}
use Rattle.jsgen_row_laws.proofs.Parts.{Reads, OnLine, expression, expression_on_line}
use Rattle.jsgen_row_laws.proofs.Words.{good_worded}

-- ---- `await`

await_spelled : spells_name (codes "await") ≡ true
await_spelled = letters_spelled 97 (codes "wait") refl

pub good_await : {names : Tables} (c : Allowed) (a : Atoms) (t : Tree) → c.await_operand ≡ true → Printed names c t → Printed names c (tree.await_expression a t)
good_await c a t h f place = good_wrapped c place grammar.Unary (wraps levels.Prefix place) (λ w. marked_word a.span (codes "await") ⊕ (soft_space ⊕ spell t (child levels.Exponentiation (within w place)))) (tree.await_expression a t)
    (λ d ts u r. lifted false levels.Exponentiation levels.Lowest (omega arith) r) (λ e ts u r. unwrapped levels.Prefix place e r)
    (λ v e. good_worded (codes "await") (soft_space ⊕ spell t (child levels.Exponentiation (within v place))) await_spelled (λ mark ts. refl) refl (spaced (expression c refl f (child levels.Exponentiation (within v place))))
    (λ mark ts r. record { reading = tree.await_expression (nothing_of 0) r.reading; reads = grammar.an_await h r.reads; same = ap (λ x. tree.await_expression (nothing_of 0) x) r.same }))

-- ---- `yield`

yield_spelled : spells_name (codes "yield") ≡ true
yield_spelled = letters_spelled 121 (codes "ield") refl

-- where what it gives stands
abbrev given_place : Bool → Place → Place
given_place w place = with_calls (child levels.Yield (within w place))

-- by whether it hands on the values of what it gives
abbrev yield_items : Bool → Maybe → Bool → Place → Items
yield_items delegate m w place = word (codes "yield") ⊕ (items_if delegate (punctuator star) ⊕ spell_apart m (given_place w place))

-- within parentheses or without them
good_wrapped_yield : {names : Tables} (c : Allowed) (a : Atoms) (m : Maybe) (place : Place) → ((v : Bool) → PrintedBy names (under (within v place) c) grammar.Assignment (yield_items (yield_expression_delegate a) m v place) (tree.yield_expression a m)) → PrintedBy names (under place c) (level_of place) (spell (tree.yield_expression a m) place) (tree.yield_expression a m)
good_wrapped_yield c a m place f = good_wrapped c place grammar.Assignment (wraps levels.Assign place) (λ w. marked_word a.span (codes "yield") ⊕ (items_if (yield_expression_delegate a) (punctuator star) ⊕ spell_apart m (given_place w place))) (tree.yield_expression a m)
    (λ d ts u r. grammar.an_assignment r) (λ e ts u r. unwrapped levels.Assign place e r) (λ v e. f v)

read_yield_alone : (names : Tables) (c : Allowed) (a : Atoms) (mark : Bool) → c.yield_operand ≡ true → yield_expression_delegate a ≡ false → {ts : Tokens} → Nothing ts → Reads names (ReadsExpression c grammar.Assignment) (tree.yield_expression a absent) (piece mark (Word (codes "yield")) ts)
read_yield_alone names c a mark h d none = record { reading = tree.yield_expression (bare (flag false ∷ [])) absent; reads = grammar.a_yield_alone h; same = λ i. tree.yield_expression (bare (flag (sym d i) ∷ [])) absent }

pub good_yield_alone : {names : Tables} (c : Allowed) (a : Atoms) → c.yield_operand ≡ true → yield_expression_delegate a ≡ false → Printed names c (tree.yield_expression a absent)
good_yield_alone {names} c a h d place = good_wrapped_yield c a absent place inner
  where
    inner : (v : Bool) → PrintedBy names (under (within v place) c) grammar.Assignment (yield_items (yield_expression_delegate a) absent v place) (tree.yield_expression a absent)
    inner v = subst (λ b. PrintedBy names (under (within v place) c) grammar.Assignment (yield_items b absent v place) (tree.yield_expression a absent)) (sym d) (good_worded (codes "yield") (items_if false (punctuator star) ⊕ spell_apart absent (given_place v place)) yield_spelled (λ mark ts. refl) refl (past (λ p. refl) empty) (λ mark ts r. read_yield_alone names (under (within v place) c) a mark h d r))

-- on its line, as is the star before what hands on its values
read_yield : (names : Tables) (c : Allowed) (a : Atoms) (mark : Bool) (t : Tree) → c.yield_operand ≡ true → yield_expression_delegate a ≡ false → {ts : Tokens} → OnLine (Reads names (ReadsExpression c grammar.Assignment) t) ts → Reads names (ReadsExpression c grammar.Assignment) (tree.yield_expression a (given t)) (piece mark (Word (codes "yield")) ts)
read_yield names c a mark t h d r = record { reading = tree.yield_expression (bare (flag false ∷ [])) (given r.holds.reading); reads = grammar.a_yield h r.line r.holds.reads; same = let e = r.holds.same in λ i. tree.yield_expression (bare (flag (sym d i) ∷ [])) (given (e i)) }

read_delegation : (names : Tables) (c : Allowed) (a : Atoms) (mark : Bool) (t : Tree) → c.yield_operand ≡ true → yield_expression_delegate a ≡ true → {ts : Tokens} → (Follows (Sign star) ⨟ Reads names (ReadsExpression c grammar.Assignment) t) ts → Reads names (ReadsExpression c grammar.Assignment) (tree.yield_expression a (given t)) (piece mark (Word (codes "yield")) ts)
read_delegation names c a mark t h d (follows & r) = record { reading = tree.yield_expression (bare (flag true ∷ [])) (given r.reading); reads = grammar.a_delegation h r.reads; same = let e = r.same in λ i. tree.yield_expression (bare (flag (sym d i) ∷ [])) (given (e i)) }

pub good_yield : {names : Tables} (c : Allowed) (a : Atoms) (t : Tree) → c.yield_operand ≡ true → Printed names c t → Printed names c (tree.yield_expression a (given t))
good_yield {names} c a t h f place = good_wrapped_yield c a (given t) place (λ v. inner (yield_expression_delegate a) refl v)
  where
    inner : (b : Bool) → yield_expression_delegate a ≡ b → (v : Bool) → PrintedBy names (under (within v place) c) grammar.Assignment (yield_items b (given t) v place) (tree.yield_expression a (given t))
    inner true d v = good_worded (codes "yield") (punctuator star ⊕ (soft_space ⊕ spell t (given_place v place))) yield_spelled (λ mark ts. refl) refl (star_on_line refl refl ⨾ spaced (expression c refl f (given_place v place))) (λ mark ts r. read_delegation names (under (within v place) c) a mark t h d r)
    inner false d v = good_worded (codes "yield") (items_if false (punctuator star) ⊕ (soft_space ⊕ spell t (given_place v place))) yield_spelled (λ mark ts. refl) refl (past (λ p. refl) (spaced (expression_on_line c refl refl f (given_place v place)))) (λ mark ts r. read_yield names (under (within v place) c) a mark t h d r)
