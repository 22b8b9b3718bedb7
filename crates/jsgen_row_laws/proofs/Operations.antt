-- Binary operations.
use Rattle.std.proofs.Common.{◌≡◌, ℕ, Bool, true, false, not, cond, codes, List, [], ◌∷◌, refl, ap, ◌∙◌, bytes_eq, arith}
use Rattle.std.proofs.lemmas.Bool.{both_ways, or_parts}
use Rattle.jsgen_syntax.specs.Name.{spells_name}
use Rattle.jsgen_syntax.specs.Operator.{binary_level}
use Rattle.jsgen_syntax.specs.declared.operator.BinaryOperator.{BinaryOperator}
use Rattle.jsgen_syntax.specs.declared.operator.BinaryOperator.TheVariants as operators
use Rattle.jsgen_syntax.specs.declared.precedence.Precedence.TheVariants as levels
use Rattle.jsgen_tree.specs.Job.{Tables}
use Rattle.jsgen_tree.specs.Inside.{inside_parentheses}
use Rattle.jsgen_tree.specs.Atom.{binary_operator}
use Rattle.jsgen_tree.specs.Tree.{Tree, Atoms}
use Rattle.jsgen_tree.specs.Places.{bare}
use Rattle.jsgen_tree.specs.Values.{binary_expression_operator}
use Rattle.jsgen_tree.specs.Nodes as tree
use Rattle.jsgen_model.specs.Punctuator.{Punctuator}
use Rattle.jsgen_model.specs.Tokens.{Tokens, piece, ◌⧺◌, Word, Sign}
use Rattle.jsgen_model.specs.Items.{◌⊕◌, soft_space, word, operator}
use Rattle.jsgen_model.specs.Layout.{layout}
use Rattle.jsgen_model.specs.Grammar.{Allowed, Level, ReadsExpression, operation_level, next_level, operator_piece, may_operate}
use Rattle.jsgen_model.specs.Grammar as grammar
use Rattle.jsgen_model.specs.Normal.{normal}
use Rattle.jsgen_model.specs.Renamed.{renamed}
use Rattle.jsgen_model.specs.Quotes.{is_export_mark}
use Rattle.jsgen_place.specs.declared.place.Place.{Place}
use Rattle.jsgen_place.specs.Place.{within, left_operand, child, quoted_plainly, wraps, is_forbidden, binary_wraps}
use Rattle.jsgen_model.specs.Spell.{spell, left_level, right_level, is_prefixed}
use Rattle.jsgen_model.specs.Operators.{operator_item}
use Rattle.jsgen_token_laws.proofs.Characters.{letters_spelled}
use Rattle.jsgen_token_laws.proofs.Last.{After, Ready, NoDot}
use Rattle.jsgen_token_laws.proofs.Steps.{wrote_word, wrote_operator}
use Rattle.jsgen_row_laws.proofs.Levels.{number_of, operation_number, read_at, under, looser, lifted, unwrapped}
use Rattle.jsgen_row_laws.proofs.Asked.{is_unary, is_signed}
use Rattle.jsgen_row_laws.proofs.Good.{Good, Printed, Between, good_at, good_since, good_wrapped, good_infix, PrintedBy}

-- ---- the token between the operands

sign_between : {names : Tables} (s : Punctuator) → NoDot s → Ready (After (Sign s)) → Between names (operator s) (Sign s)
sign_between s n y = record { writes = λ p l o k. wrote_operator s p l n o k; semicolon = λ p. refl; ready = y; no_function = λ line ts. refl }

word_between : {names : Tables} (w : List ℕ) → spells_name w ≡ true → bytes_eq w (codes "function") ≡ false → Between names (word w) (Word w)
word_between w h n = record { writes = λ p l o k. wrote_word w p l h k; semicolon = λ p. refl; ready = tt; no_function = λ line ts. n }

operator_between : {names : Tables} (o : BinaryOperator) → Between names (operator_item o) (operator_piece o)
operator_between operators.In = word_between (codes "in") (letters_spelled 105 (codes "n") refl) refl
operator_between operators.Instanceof = word_between (codes "instanceof") (letters_spelled 105 (codes "nstanceof") refl) refl
operator_between o = sign_between _ tt tt

-- ---- the levels

-- a left operand is read at the operation's own level, but of `**` as an update
abbrev left_goal : BinaryOperator → Level
left_goal operators.Exponential = grammar.Update
left_goal o = operation_level o

own_level : {c : Allowed} {ts : Tokens} {u : Tree} (no_call : Bool) (o : BinaryOperator) → ReadsExpression c (operation_level o) ts u → ReadsExpression c (read_at no_call (looser (binary_level o))) ts u
own_level no_call operators.Equality r = r
own_level no_call o r = r

operation_reads : {c : Allowed} {a b : Tokens} {u v : Tree} (o : BinaryOperator) (line : Bool) → may_operate c o ≡ true → ReadsExpression c (left_goal o) a u → ReadsExpression c (next_level (operation_level o)) b v → ReadsExpression c (operation_level o) (a ⧺ piece line (operator_piece o) b) (tree.binary (bare (binary_operator o ∷ [])) u v)
operation_reads operators.Exponential line m r s = grammar.a_power line refl r s
operation_reads o line m r s = grammar.an_operation o line refl m refl r s

-- without parentheses `in` stands where it is allowed, and within them it is
pub stands_there : (o : BinaryOperator) (c : Allowed) (place : Place) (w : Bool) → binary_wraps o place ≡ w → may_operate (under (within w place) c) o ≡ true
stands_there operators.In c place true e = refl
stands_there operators.In c place false e = ap not (or_parts (wraps levels.Compare place) place.context.forbids_in e).1
stands_there o c place w e = refl

-- ---- the left operand of `**`

-- what is read as a unary operation or `await` may be, and is neither, is read as an update
no_unary : {c : Allowed} {g : Level} {ts : Tokens} {t : Tree} → g ≡ grammar.Unary → is_unary (normal t) ≡ false → ReadsExpression c g ts t → ReadsExpression c grammar.Update ts t
no_unary d n (grammar.an_update r) = r
no_unary d n (grammar.a_unary_operation o r) = absurd (both_ways true n refl)
no_unary d n (grammar.an_await h r) = absurd (both_ways true n refl)
no_unary d n (grammar.an_operation o m p k q s t) = absurd (omega (arith, operation_number o, ap number_of d))
no_unary d n r = absurd (omega (arith, ap number_of d))

not_prefixed : (t : Tree) → is_prefixed t ≡ false → is_signed t ≡ false
not_prefixed (tree.unary a argument) h = absurd (both_ways true h refl)
not_prefixed (tree.await_expression a argument) h = absurd (both_ways true h refl)
not_prefixed (tree.numeric_literal a) h = absurd (both_ways true h refl)
not_prefixed (tree.big_int_literal a) h = absurd (both_ways true h refl)
not_prefixed t h = refl

-- of a unary operation, and of a number with a minus before it, the normal form is one, and of nothing else
abbrev IsToldByForm : Tables → Tree → Type 0
IsToldByForm names t = is_unary (normal (renamed names t)) ≡ is_signed (inside_parentheses t)

power_left : {names : Tables} (plain : Bool) (c : Allowed) (t : Tree) → IsToldByForm names t → Printed names c t → (place : Place) → PrintedBy names (under place c) grammar.Update (spell t (quoted_plainly plain (left_operand (left_level operators.Exponential t) place))) t
power_left {names} plain c t h f place p l z y k = go (is_prefixed (inside_parentheses t)) refl
  where
    go : (b : Bool) → is_prefixed (inside_parentheses t) ≡ b → Good names p l (layout (spell t (quoted_plainly plain (left_operand (cond b levels.Call levels.Exponentiation) place))) p) (under place c) grammar.Update t
    go true e = good_at (λ ts u. lifted place.context.forbids_call levels.Call levels.Prefix (omega arith)) (f (quoted_plainly plain (left_operand levels.Call place)) p l z y k)
    go false e = good_since (λ ts u s r. no_unary refl (ap is_unary s ∙ h ∙ not_prefixed (inside_parentheses t) e) r) (f (quoted_plainly plain (left_operand levels.Exponentiation place)) p l z y k)

-- ---- the operands

left_printed : {names : Tables} (o : BinaryOperator) (plain : Bool) (c : Allowed) (t : Tree) → IsToldByForm names t → Printed names c t → (place : Place) → PrintedBy names (under place c) (left_goal o) (spell t (quoted_plainly plain (left_operand (left_level o t) place))) t
left_printed operators.Exponential plain c t h f place = power_left plain c t h f place
left_printed o plain c t h f place = f (quoted_plainly plain (left_operand (left_level o t) place))

right_printed : {names : Tables} (o : BinaryOperator) (plain : Bool) (c : Allowed) (t : Tree) → Printed names c t → (place : Place) → PrintedBy names (under place c) (next_level (operation_level o)) (spell t (quoted_plainly plain (child (right_level o) place))) t
right_printed operators.Exponential plain c t f place = f (quoted_plainly plain (child levels.Multiply place))
right_printed o plain c t f place = f (quoted_plainly plain (child (right_level o) place))

-- ---- the whole

same_operation : (o : BinaryOperator) (u v x y : Tree) → normal u ≡ normal x → normal v ≡ normal y → tree.binary (bare (binary_operator o ∷ [])) (normal u) (normal v) ≡ tree.binary (bare (binary_operator o ∷ [])) (normal x) (normal y)
same_operation o u v x y e f = λ i. tree.binary (bare (binary_operator o ∷ [])) (e i) (f i)

pub good_operation : {names : Tables} (c : Allowed) (a : Atoms) (x y : Tree) → IsToldByForm names x → Printed names c x → Printed names c y → Printed names c (tree.binary a x y)
good_operation {names} c a x y h f g place =
    let o : BinaryOperator = binary_expression_operator a in
    let left : Bool = is_export_mark o x in
    let right : Bool = is_export_mark o y in
    good_wrapped c place (operation_level o) (binary_wraps o place) (λ w. spell x (quoted_plainly left (left_operand (left_level o x) (within w place))) ⊕ (soft_space ⊕ (operator_item o ⊕ (soft_space ⊕ spell y (quoted_plainly right (child (right_level o) (within w place))))))) (tree.binary a x y)
    (λ d ts u r. lifted false (looser (binary_level o)) levels.Lowest (omega arith) (own_level false o r)) (λ e ts u r. unwrapped (binary_level o) place (or_parts (wraps (binary_level o) place) (is_forbidden o place) e).0 (own_level place.context.forbids_call o r))
    (λ v e. good_infix (operator_item o) (operator_piece o) (spell x (quoted_plainly left (left_operand (left_level o x) (within v place)))) (spell y (quoted_plainly right (child (right_level o) (within v place)))) x y (tree.binary a x y) (under (within v place) c) (left_goal o) (next_level (operation_level o)) (operation_level o) (operator_between o)
    (λ ts us line u w ru rw eu ew. (tree.binary (bare (binary_operator o ∷ [])) u w, operation_reads o line (stands_there o c place v e) ru rw, same_operation o u w (renamed names x) (renamed names y) eu ew)) (left_printed o left c x h f (within v place)) (right_printed o right c y g (within v place)))
