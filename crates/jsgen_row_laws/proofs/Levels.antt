-- At which level of the grammar what is printed under a level of precedence is read.
use Rattle.std.proofs.Common.{◌≡◌, ℕ, zero, suc, pred, ◌+◌, ◌-◌, ◌<◌, ◌≤◌, Bool, true, false, not, List, [], ◌∷◌, get_or, refl, sym, ap, ◌∙◌, subst, arith}
use Rattle.std.proofs.lemmas.Bool.{leb-false}
use Rattle.jsgen_syntax.specs.Precedence.{rank}
use Rattle.jsgen_syntax.specs.declared.operator.BinaryOperator.{BinaryOperator}
use Rattle.jsgen_syntax.specs.declared.operator.BinaryOperator.TheVariants as operators
use Rattle.jsgen_syntax.specs.declared.precedence.Precedence.{Precedence}
use Rattle.jsgen_syntax.specs.declared.precedence.Precedence.TheVariants as levels
use Rattle.jsgen_place.specs.declared.place.Place.{Place}
use Rattle.jsgen_place.specs.Place.{wraps}
use Rattle.jsgen_tree.specs.Tree.{Tree}
use Rattle.jsgen_model.specs.Tokens.{Tokens}
use Rattle.jsgen_model.specs.Grammar.{Allowed, Level, ReadsExpression, operation_level}
use Rattle.jsgen_model.specs.Grammar as grammar

-- where calls are forbidden a member stands, and else a member or a call
abbrev pub left_hand_side : Bool → Level
left_hand_side true = grammar.Member
left_hand_side false = grammar.Callee

-- calls are forbidden or not
abbrev pub read_at : Bool → Precedence → Level
read_at no_call levels.Lowest = grammar.Expression
read_at no_call levels.Comma = grammar.Assignment
read_at no_call levels.Spread = grammar.Assignment
read_at no_call levels.Yield = grammar.Assignment
read_at no_call levels.Assign = grammar.Conditional
read_at no_call levels.Conditional = grammar.ShortCircuit
read_at no_call levels.NullishCoalescing = grammar.LogicalOr
read_at no_call levels.LogicalOr = grammar.LogicalAnd
read_at no_call levels.LogicalAnd = grammar.BitOr
read_at no_call levels.BitwiseOr = grammar.BitXor
read_at no_call levels.BitwiseXor = grammar.BitAnd
read_at no_call levels.BitwiseAnd = grammar.Equality
read_at no_call levels.Equals = grammar.Relational
read_at no_call levels.Compare = grammar.Shift
read_at no_call levels.Shift = grammar.Additive
read_at no_call levels.Add = grammar.Multiplicative
read_at no_call levels.Multiply = grammar.Exponent
read_at no_call levels.Exponentiation = grammar.Unary
read_at no_call levels.Prefix = grammar.Update
read_at no_call levels.Postfix = left_hand_side no_call
read_at no_call levels.New = left_hand_side no_call
read_at no_call levels.Call = left_hand_side no_call
read_at no_call levels.Member = left_hand_side no_call

-- a right operand of a logical operator may go on with its chain: it is read at the operator's own level
abbrev pub operand_level : Bool → Bool → Precedence → Level
operand_level false no_call levels.NullishCoalescing = grammar.ShortCircuit
operand_level false no_call levels.LogicalOr = grammar.LogicalOr
operand_level false no_call levels.LogicalAnd = grammar.LogicalAnd
operand_level left no_call level = read_at no_call level

abbrev pub level_of : Place → Level
level_of place = operand_level place.left_operand place.context.forbids_call place.level

-- what may stand at a place
abbrev pub under : Place → Allowed → Allowed
under place c = record c { in_operator = not place.context.forbids_in }

-- the next looser level
abbrev pub looser : Precedence → Precedence
looser levels.Lowest = levels.Lowest
looser levels.Comma = levels.Lowest
looser levels.Spread = levels.Comma
looser levels.Yield = levels.Spread
looser levels.Assign = levels.Yield
looser levels.Conditional = levels.Assign
looser levels.NullishCoalescing = levels.Conditional
looser levels.LogicalOr = levels.NullishCoalescing
looser levels.LogicalAnd = levels.LogicalOr
looser levels.BitwiseOr = levels.LogicalAnd
looser levels.BitwiseXor = levels.BitwiseOr
looser levels.BitwiseAnd = levels.BitwiseXor
looser levels.Equals = levels.BitwiseAnd
looser levels.Compare = levels.Equals
looser levels.Shift = levels.Compare
looser levels.Add = levels.Shift
looser levels.Multiply = levels.Add
looser levels.Exponentiation = levels.Multiply
looser levels.Prefix = levels.Exponentiation
looser levels.Postfix = levels.Prefix
looser levels.New = levels.Postfix
looser levels.Call = levels.New
looser levels.Member = levels.Call

rank_looser : (l : Precedence) → rank (looser l) ≡ pred (rank l)
rank_looser levels.Lowest = refl
rank_looser l = refl

all_levels : List Precedence
all_levels =
    levels.Lowest ∷ levels.Comma ∷ levels.Spread ∷ levels.Yield ∷ levels.Assign ∷ levels.Conditional ∷ levels.NullishCoalescing ∷ levels.LogicalOr ∷ levels.LogicalAnd ∷ levels.BitwiseOr ∷ levels.BitwiseXor ∷ levels.BitwiseAnd ∷
    levels.Equals ∷ levels.Compare ∷ levels.Shift ∷ levels.Add ∷ levels.Multiply ∷ levels.Exponentiation ∷ levels.Prefix ∷ levels.Postfix ∷ levels.New ∷ levels.Call ∷ levels.Member ∷ []

level_with_rank : (l : Precedence) → get_or all_levels (rank l) levels.Lowest ≡ l
unfolding all_levels
level_with_rank levels.Lowest = refl
level_with_rank l = refl

pub same_rank : (a b : Precedence) → rank a ≡ rank b → a ≡ b
same_rank a b e = sym (level_with_rank a) ∙ (ap (λ n. get_or all_levels n levels.Lowest) e ∙ level_with_rank b)

-- some levels, told apart by numbers: that of no binary operation is among them
abbrev pub number_of : Level → ℕ
number_of grammar.ShortCircuit = 1
number_of grammar.Coalesced = 2
number_of grammar.CoalesceHead = 3
number_of grammar.LogicalOr = 4
number_of grammar.LogicalAnd = 5
number_of grammar.Callee = 6
number_of grammar.Unary = 7
number_of grammar.Expression = 8
number_of g = 0

pub operation_number : (o : BinaryOperator) → number_of (operation_level o) ≡ 0
operation_number operators.Equality = refl
operation_number o = refl

-- a member is read where calls are forbidden and where they aren't
pub weaken_member : {c : Allowed} {ts : Tokens} {t : Tree} (no_call : Bool) → ReadsExpression c grammar.Member ts t → ReadsExpression c (left_hand_side no_call) ts t
weaken_member true r = r
weaken_member false r = grammar.a_called_member r

callee_is_left : {c : Allowed} {g : Level} {ts : Tokens} {t : Tree} → g ≡ grammar.Callee → ReadsExpression c g ts t → ReadsExpression c grammar.LeftHandSide ts t
callee_is_left d (grammar.a_called_member r) = grammar.a_new (grammar.a_member r)
callee_is_left d (grammar.a_called_call r) = grammar.a_call r
callee_is_left d (grammar.an_operation o m p h q s t) = absurd (omega (arith, operation_number o, ap number_of d))
callee_is_left d r = absurd (omega (arith, ap number_of d))

pub read_left : {c : Allowed} {ts : Tokens} {t : Tree} (no_call : Bool) → ReadsExpression c (left_hand_side no_call) ts t → ReadsExpression c grammar.LeftHandSide ts t
read_left true r = grammar.a_new (grammar.a_member r)
read_left false r = callee_is_left refl r

weaken_postfix : {c : Allowed} {ts : Tokens} {t : Tree} (no_call : Bool) → ReadsExpression c (left_hand_side no_call) ts t → ReadsExpression c grammar.Update ts t
weaken_postfix no_call r = grammar.a_left_hand_side (read_left no_call r)

weaken : {c : Allowed} {ts : Tokens} {t : Tree} (no_call : Bool) (l : Precedence) → ReadsExpression c (read_at no_call l) ts t → ReadsExpression c (read_at no_call (looser l)) ts t
weaken no_call levels.Lowest r = r
weaken no_call levels.Comma r = grammar.an_assignment r
weaken no_call levels.Spread r = r
weaken no_call levels.Yield r = r
weaken no_call levels.Assign r = grammar.a_conditional r
weaken no_call levels.Conditional r = grammar.a_short_circuit r
weaken no_call levels.NullishCoalescing r = grammar.a_logical_or r
weaken no_call levels.LogicalOr r = grammar.a_logical_and r
weaken no_call levels.LogicalAnd r = grammar.a_bit_or r
weaken no_call levels.BitwiseOr r = grammar.a_bit_xor r
weaken no_call levels.BitwiseXor r = grammar.a_bit_and r
weaken no_call levels.BitwiseAnd r = grammar.an_equality r
weaken no_call levels.Equals r = grammar.a_relation r
weaken no_call levels.Compare r = grammar.a_shift r
weaken no_call levels.Shift r = grammar.an_additive r
weaken no_call levels.Add r = grammar.a_multiplicative r
weaken no_call levels.Multiply r = grammar.an_exponent r
weaken no_call levels.Exponentiation r = grammar.a_unary r
weaken no_call levels.Prefix r = grammar.an_update r
weaken no_call levels.Postfix r = weaken_postfix no_call r
weaken no_call levels.New r = r
weaken no_call levels.Call r = r
weaken no_call levels.Member r = r

descend : {c : Allowed} {ts : Tokens} {t : Tree} (no_call : Bool) (n : ℕ) (own l : Precedence) → rank own ≡ n + rank l → ReadsExpression c (read_at no_call own) ts t → ReadsExpression c (read_at no_call l) ts t
descend {c} {ts} {t} no_call zero own l e r = subst (λ k. ReadsExpression c (read_at no_call k) ts t) (same_rank own l (omega arith)) r
descend no_call (suc n) own l e r = descend no_call n (looser own) l (omega (arith, rank_looser own)) (weaken no_call own r)

-- what is read at one level is read at each looser one
pub lifted : {c : Allowed} {ts : Tokens} {t : Tree} (no_call : Bool) (own l : Precedence) → rank l ≤ rank own → ReadsExpression c (read_at no_call own) ts t → ReadsExpression c (read_at no_call l) ts t
lifted no_call own l h r = descend no_call (rank own - rank l) own l (omega arith) r

-- what is read at a level is read where a chain may go on
loosened : {c : Allowed} {ts : Tokens} {t : Tree} (left no_call : Bool) (l : Precedence) → ReadsExpression c (read_at no_call l) ts t → ReadsExpression c (operand_level left no_call l) ts t
loosened false no_call levels.NullishCoalescing r = grammar.a_logical_or r
loosened false no_call levels.LogicalOr r = grammar.a_logical_and r
loosened false no_call levels.LogicalAnd r = grammar.a_bit_or r
loosened left no_call l r = r

-- an operation of its own level, which needs no parentheses
pub unwrapped : {c : Allowed} {ts : Tokens} {t : Tree} (own : Precedence) (place : Place) → wraps own place ≡ false → ReadsExpression c (read_at place.context.forbids_call (looser own)) ts t → ReadsExpression c (level_of place) ts t
unwrapped own place h r =
    let k : rank place.level < rank own = leb-false (rank own) (rank place.level) h in
    loosened place.left_operand place.context.forbids_call place.level (lifted place.context.forbids_call (looser own) place.level (omega (arith, rank_looser own)) r)

highest : (l : Precedence) → rank l ≤ 22
highest levels.Lowest = omega arith
highest l = omega arith

-- what is a member, or a call where calls aren't forbidden, is read everywhere
pub from_left : {c : Allowed} {ts : Tokens} {t : Tree} (place : Place) → ReadsExpression c (left_hand_side place.context.forbids_call) ts t → ReadsExpression c (level_of place) ts t
from_left place r = loosened place.left_operand place.context.forbids_call place.level (lifted place.context.forbids_call levels.Member place.level (highest place.level) r)

pub from_primary : {c : Allowed} {ts : Tokens} {t : Tree} (place : Place) → ReadsExpression c grammar.Primary ts t → ReadsExpression c (level_of place) ts t
from_primary place r = from_left place (weaken_member place.context.forbids_call (grammar.a_primary r))
