-- What is claimed of an expression that the grammar reads.
use Rattle.std.proofs.Common.{◌≡◌, ℕ, ◌≤◌, List, [], ◌∷◌, Bool, true, Some, ap, sym, ◌∙◌, arith}
use Rattle.std.specs.Prelude.{⊤}
use Rattle.jsgen_syntax.specs.declared.operator.BinaryOperator.{BinaryOperator}
use Rattle.jsgen_syntax.specs.declared.operator.BinaryOperator.TheVariants as operators
use Rattle.jsgen_syntax.specs.declared.operator.LogicalOperator.TheVariants.{Coalesce}
use Rattle.jsgen_tree.specs.Tree.{Tree}
use Rattle.jsgen_model.specs.Punctuator.{nullish, Bracket}
use Rattle.jsgen_model.specs.Tokens.{Piece, Tokens, done, piece, group, ◌⧺◌, Sign}
use Rattle.jsgen_model.specs.Grammar.{Allowed, with_in, Level, Coalesced, CoalesceHead, Unary, Update, LeftHandSide, New, Callee, Call, Member, Primary, operation_level, simple_target}
use Rattle.jsgen_one_reading.specs.States.{logical_of, operand, linked, settled, one_tree, rank, Frame, wanted, set_in, State}
use Rattle.jsgen_one_reading.specs.Reader.{run}
use Rattle.jsgen_one_reading.proofs.Steps.{then_assoc, then_done, rest_rank, unlinked, fits, fits_rest}

-- ---- what is claimed

-- the reader comes behind the tree, where what waits waits for it and what follows doesn't take its end
abbrev pub Settles : ℕ → Allowed → Tokens → Tree → Type 0
Settles n c ts t = (k : List Frame) (rest : Tokens) → wanted k ≤ n → rest_rank c.in_operator rest ≤ n → run (operand c k) (ts ⧺ rest) ≡ run (settled c k t) rest

-- behind a member, and behind a call, which ends no `new` that waits; links are read alike whether `in` may stand
abbrev pub Links : Allowed → Tokens → Tree → Type 0
Links c ts t = (i : Bool) (k : List Frame) (rest : Tokens) → fits rest ts t ≡ true → run (operand (set_in i c) k) (ts ⧺ rest) ≡ run (linked (set_in i c) k t) rest

abbrev pub Calls : Allowed → Tokens → Tree → Type 0
Calls c ts t = (i : Bool) (k : List Frame) (rest : Tokens) → wanted k ≤ 17 → fits rest ts t ≡ true → run (operand (set_in i c) k) (ts ⧺ rest) ≡ run (linked (set_in i c) k t) rest

-- a target links as it stands
abbrev pub LinksTarget : Allowed → Tokens → Tree → Type 0
LinksTarget c ts t = (u : Tree) → simple_target t ≡ Some u → Calls c ts t

-- behind `new` too
abbrev pub AnySettles : Allowed → Tokens → Tree → Type 0
AnySettles c ts t = (k : List Frame) (rest : Tokens) → rest_rank c.in_operator rest ≤ 17 → run (operand c k) (ts ⧺ rest) ≡ run (settled c k t) rest

-- before `??`
abbrev pub Heads : Allowed → Tokens → Tree → Type 0
Heads c ts t = (m : Bool) (k : List Frame) (rest : Tokens) → wanted k ≤ 4 → run (operand c k) (ts ⧺ piece m (Sign nullish) rest) ≡ run (operand c (logical_of Coalesce t ∷ k)) rest

-- what is claimed of a level besides
abbrev pub Extra : Level → Allowed → Tokens → Tree → Type 0
Extra Coalesced c ts t = Heads c ts t
Extra CoalesceHead c ts t = Heads c ts t
Extra Unary c ts t = LinksTarget c ts t
Extra Update c ts t = LinksTarget c ts t
Extra LeftHandSide c ts t = LinksTarget c ts t
Extra New c ts t = AnySettles c ts t × LinksTarget c ts t
Extra Callee c ts t = Calls c ts t
Extra Call c ts t = Calls c ts t
Extra Member c ts t = Links c ts t
Extra Primary c ts t = Links c ts t
Extra level c ts t = ⊤

abbrev pub Claim : Level → Allowed → Tokens → Tree → Type 0
Claim level c ts t = Settles (rank level) c ts t × Extra level c ts t

-- nothing is claimed of an operation besides
pub no_extra : (c : Allowed) (ts : Tokens) (t : Tree) (o : BinaryOperator) → Extra (operation_level o) c ts t
no_extra c ts t operators.BitwiseOR = tt
no_extra c ts t operators.BitwiseXOR = tt
no_extra c ts t operators.BitwiseAnd = tt
no_extra c ts t operators.Equality = tt
no_extra c ts t operators.Inequality = tt
no_extra c ts t operators.StrictEquality = tt
no_extra c ts t operators.StrictInequality = tt
no_extra c ts t operators.LessThan = tt
no_extra c ts t operators.LessEqualThan = tt
no_extra c ts t operators.GreaterThan = tt
no_extra c ts t operators.GreaterEqualThan = tt
no_extra c ts t operators.In = tt
no_extra c ts t operators.Instanceof = tt
no_extra c ts t operators.ShiftLeft = tt
no_extra c ts t operators.ShiftRight = tt
no_extra c ts t operators.ShiftRightZeroFill = tt
no_extra c ts t operators.Addition = tt
no_extra c ts t operators.Subtraction = tt
no_extra c ts t operators.Multiplication = tt
no_extra c ts t operators.Division = tt
no_extra c ts t operators.Remainder = tt
no_extra c ts t operators.Exponential = tt

-- what is claimed of a level is claimed of a looser one
pub looser : (n m : ℕ) (c : Allowed) (ts : Tokens) (t : Tree) → n ≤ m → Settles m c ts t → Settles n c ts t
looser n m c ts t l s k rest h g = s k rest (omega arith) (omega arith)

-- what links may follow is behind them where none does
pub unlinks : (c : Allowed) (ts : Tokens) (t : Tree) → Calls c ts t → Settles 17 c ts t
unlinks c ts t l k rest h g = l c.in_operator k rest h (fits_rest c rest ts t (omega arith)) ∙ unlinked c k t rest g

pub both : (c : Allowed) (ts : Tokens) (t : Tree) → Links c ts t → Settles 17 c ts t × Links c ts t
both c ts t l = (unlinks c ts t (λ i k rest w a. l i k rest a), l)

pub both_calls : (c : Allowed) (ts : Tokens) (t : Tree) → Calls c ts t → Settles 17 c ts t × Calls c ts t
both_calls c ts t l = (unlinks c ts t l, l)

-- the tokens before a token, and what follows
pub parted : (s : State) (ts a : Tokens) (m : Bool) (p : Piece) (b rest : Tokens) → ts ≡ a ⧺ piece m p b → run s (ts ⧺ rest) ≡ run s (a ⧺ piece m p (b ⧺ rest))
parted s ts a m p b rest e = ap (λ x. run s (x ⧺ rest)) e ∙ ap (run s) (then_assoc a (piece m p b) rest)

pub grouped : (s : State) (ts a : Tokens) (m : Bool) (q : Bracket) (inside b rest : Tokens) → ts ≡ a ⧺ group m q inside b → run s (ts ⧺ rest) ≡ run s (a ⧺ group m q inside (b ⧺ rest))
grouped s ts a m q inside b rest e = ap (λ x. run s (x ⧺ rest)) e ∙ ap (run s) (then_assoc a (group m q inside b) rest)

-- a whole expression, where `in` may stand
pub whole : (c : Allowed) (ts : Tokens) (t : Tree) → Settles 1 (with_in c) ts t → run (operand (with_in c) []) ts ≡ one_tree t
whole c ts t s = ap (run (operand (with_in c) [])) (sym (then_done ts)) ∙ s [] done (omega arith) (omega arith)
