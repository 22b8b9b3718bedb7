-- What the reader does at a token, by what waits.
use Rattle.std.proofs.Common.{◌≡◌, ℕ, ◌<◌, ◌≤◌, List, [], ◌∷◌, ◌⊎◌, inl, inr, Bool, true, false, codes, Option, None, Some, refl, ap, sym, subst, ◌∙◌, arith}
use lib.Utf8.{encode}
use Rattle.unicode_ident.proofs.Computing.{unicode_ident}
use Rattle.jsgen_syntax.specs.Name.{is_reserved, is_strict_reserved, is_free_name}
use Rattle.std.specs.Prelude.{not, ◌&&◌, ◌||◌, if◌then◌else◌}
use Rattle.std.specs.Option.{option_map_or}
use Rattle.std.specs.Str.{bytes_eq}
use Rattle.std.proofs.lemmas.Bool.{both_ways, le-leb, lt-leb}
use Rattle.std.proofs.lemmas.Slice.Eq.{bytes_eq-Decides}
use Rattle.jsgen_syntax.specs.Escapes.{word_value}
use Rattle.jsgen_syntax.specs.declared.operator.BinaryOperator.{BinaryOperator}
use Rattle.jsgen_syntax.specs.declared.operator.BinaryOperator.TheVariants as operators
use Rattle.jsgen_syntax.specs.declared.operator.LogicalOperator.TheVariants.{Or, And, Coalesce}
use Rattle.jsgen_syntax.specs.declared.operator.UnaryOperator.{UnaryOperator}
use Rattle.jsgen_syntax.specs.declared.operator.UnaryOperator.TheVariants as unary_operators
use Rattle.jsgen_syntax.specs.declared.operator.UpdateOperator.{UpdateOperator}
use Rattle.jsgen_syntax.specs.declared.operator.UpdateOperator.TheVariants as update_operators
use Rattle.jsgen_syntax.specs.declared.operator.AssignmentOperator.{AssignmentOperator}
use Rattle.jsgen_syntax.specs.declared.operator.AssignmentOperator.TheVariants as assignment_operators
use Rattle.jsgen_tree.specs.Tree.{Tree, Trees, no_trees, more, hole, absent}
use Rattle.jsgen_tree.specs.Nodes as tree
use Rattle.jsgen_model.specs.Punctuator.{Punctuator, star, comma, colon, semicolon, arrow, equal, Bracket, Round, Square, Brace}
use Rattle.jsgen_model.specs.Tokens.{Tokens, done, piece, group, ◌⧺◌, Middle, Tail, Word, Number, Quoted, Sign, Beyond}
use Rattle.jsgen_model.specs.Normal.{nothing_of, unnumbered, call_values, joined}
use Rattle.jsgen_model.specs.Grammar.{is_power, operation_level, next_level, operator_piece, unary_piece, update_sign, assignment_sign, may_operate, simple_target, on_same_line, Allowed}
use Rattle.jsgen_one_reading.specs.Modules.{default_exported}
use Rattle.jsgen_one_reading.specs.States.{imported_of, exported_default, binary, logic, assigning, updating, a_dot, a_link, an_arrow, a_question, a_colon, a_comma, a_semicolon, an_in, an_of, another, unary_of, await_of, before_of, left_of, logical_of, assign_to, test_of, choice_of, new_of, arrow_of, yield_of, value_of, target_of, default_of, elements_of, parts_of, arguments, spread_of, properties_of, property_of, key_alone, expression_of, list_of, then_of, wrap_of, of_right, at, failed, operand, linked, async_word, yielded, settled, chained, closed, start, ended, wrong, one_tree, some_trees, rank, Kind, sign_kind, kind, left_rank, kind_rank, Bottom, Frame, right_rank, wants, gives, wanted, same, fill, restored, settle, State, extends_of, field_of, a_quoted, a_whole, a_head, a_further, private_of}
use Rattle.jsgen_one_reading.specs.ExpressionPieces.{prefixed, word_operand, operand_piece, pushed_coalesce, pushed_part, settled_piece, linked_piece, chained_piece, async_reference, is_operator, closed_piece, yield_alone}
use Rattle.jsgen_one_reading.specs.Steps.{word_start, is_else}
use Rattle.jsgen_one_reading.specs.Brackets.{arrow_next, equal_next, comma_next, loop_next, nothing_next, other_next, Behind, behind_sign, behind, faced_operand, faced_async, faced, inner, called_with, enter}
use Rattle.jsgen_one_reading.specs.Reader.{run}

-- ---- lists

pub then_assoc : (a b d : Tokens) → (a ⧺ b) ⧺ d ≡ a ⧺ (b ⧺ d)
then_assoc done b d = refl
then_assoc (piece m p ts) b d = ap (piece m p) (then_assoc ts b d)
then_assoc (group m q inside ts) b d = ap (group m q inside) (then_assoc ts b d)

pub then_done : (a : Tokens) → a ⧺ done ≡ a
then_done done = refl
then_done (piece m p ts) = ap (piece m p) (then_done ts)
then_done (group m q inside ts) = ap (group m q inside) (then_done ts)

pub joined_more : (ts us : Trees) (t : Tree) → joined (joined ts (more t no_trees)) us ≡ joined ts (more t us)
joined_more no_trees us t = refl
joined_more (more x ts) us t = ap (more x) (joined_more ts us t)
joined_more (hole ts) us t = ap hole (joined_more ts us t)

pub joined_none : (ts : Trees) → joined ts no_trees ≡ ts
joined_none no_trees = refl
joined_none (more t ts) = ap (more t) (joined_none ts)
joined_none (hole ts) = ap hole (joined_none ts)

pub joined_hole : (ts us : Trees) → joined (joined ts (hole no_trees)) us ≡ joined ts (hole us)
joined_hole no_trees us = refl
joined_hole (more t ts) us = ap (more t) (joined_hole ts us)
joined_hole (hole ts) us = ap hole (joined_hole ts us)

-- whatever follows where false is true
pub untrue : {A : Type 0} → false ≡ true → A
untrue e = absurd (both_ways false refl e)

-- what has failed stays so
pub run_failed : (ts : Tokens) → run failed ts ≡ wrong
run_failed done = refl
run_failed (piece m p ts) = run_failed ts
run_failed (group m b inside ts) = run_failed ts

-- ---- what follows

-- how tightly what follows binds
abbrev pub rest_rank : Bool → Tokens → ℕ
rest_rank i done = 1
rest_rank i (piece m p ts) = kind_rank (kind i p)
rest_rank i (group m Brace inside ts) = 17
rest_rank i (group m b inside ts) = 19

-- an operator that may stand is one by its token
pub operator_kind : (c : Allowed) (o : BinaryOperator) → may_operate c o ≡ true → kind c.in_operator (operator_piece o) ≡ binary o
operator_kind c operators.BitwiseOR h = refl
operator_kind c operators.BitwiseXOR h = refl
operator_kind c operators.BitwiseAnd h = refl
operator_kind c operators.Equality h = refl
operator_kind c operators.Inequality h = refl
operator_kind c operators.StrictEquality h = refl
operator_kind c operators.StrictInequality h = refl
operator_kind c operators.LessThan h = refl
operator_kind c operators.LessEqualThan h = refl
operator_kind c operators.GreaterThan h = refl
operator_kind c operators.GreaterEqualThan h = refl
operator_kind c operators.In h = rw h refl
operator_kind c operators.Instanceof h = refl
operator_kind c operators.ShiftLeft h = refl
operator_kind c operators.ShiftRight h = refl
operator_kind c operators.ShiftRightZeroFill h = refl
operator_kind c operators.Addition h = refl
operator_kind c operators.Subtraction h = refl
operator_kind c operators.Multiplication h = refl
operator_kind c operators.Division h = refl
operator_kind c operators.Remainder h = refl
operator_kind c operators.Exponential h = refl

pub assignment_kind : (o : AssignmentOperator) → sign_kind (assignment_sign o) ≡ assigning o
assignment_kind assignment_operators.Assign = refl
assignment_kind assignment_operators.Addition = refl
assignment_kind assignment_operators.Subtraction = refl
assignment_kind assignment_operators.Multiplication = refl
assignment_kind assignment_operators.Division = refl
assignment_kind assignment_operators.Remainder = refl
assignment_kind assignment_operators.Exponential = refl
assignment_kind assignment_operators.ShiftLeft = refl
assignment_kind assignment_operators.ShiftRight = refl
assignment_kind assignment_operators.ShiftRightZeroFill = refl
assignment_kind assignment_operators.BitwiseOR = refl
assignment_kind assignment_operators.BitwiseXOR = refl
assignment_kind assignment_operators.BitwiseAnd = refl
assignment_kind assignment_operators.LogicalOr = refl
assignment_kind assignment_operators.LogicalAnd = refl
assignment_kind assignment_operators.LogicalNullish = refl

-- an operator before its operand
pub prefix_step : (f : Frame) (c : Allowed) (k : List Frame) → wanted k ≤ 17 → prefixed c f k ≡ operand c (f ∷ k)
prefix_step f c k h = rw (le-leb (wanted k) 17 h) refl

pub unary_step : (o : UnaryOperator) (c : Allowed) (k : List Frame) → wanted k ≤ 17 → operand_piece c k (unary_piece o) ≡ operand c (unary_of o ∷ k)
unary_step unary_operators.Delete c k h = prefix_step (unary_of unary_operators.Delete) c k h
unary_step unary_operators.Void c k h = prefix_step (unary_of unary_operators.Void) c k h
unary_step unary_operators.Typeof c k h = prefix_step (unary_of unary_operators.Typeof) c k h
unary_step unary_operators.UnaryPlus c k h = prefix_step (unary_of unary_operators.UnaryPlus) c k h
unary_step unary_operators.UnaryNegation c k h = prefix_step (unary_of unary_operators.UnaryNegation) c k h
unary_step unary_operators.BitwiseNot c k h = prefix_step (unary_of unary_operators.BitwiseNot) c k h
unary_step unary_operators.LogicalNot c k h = prefix_step (unary_of unary_operators.LogicalNot) c k h

pub before_step : (o : UpdateOperator) (c : Allowed) (k : List Frame) → wanted k ≤ 17 → operand_piece c k (Sign (update_sign o)) ≡ operand c (before_of o ∷ k)
before_step update_operators.Increment c k h = prefix_step (before_of update_operators.Increment) c k h
before_step update_operators.Decrement c k h = prefix_step (before_of update_operators.Decrement) c k h

pub update_kind : (o : UpdateOperator) → sign_kind (update_sign o) ≡ updating o
update_kind update_operators.Increment = refl
update_kind update_operators.Decrement = refl

-- a free name is no keyword
pub no_keyword : (w x : List ℕ) {v : List ℕ} → word_value w ≡ Some v → is_free_name v ≡ true → option_map_or is_free_name (word_value x) false ≡ false → bytes_eq w x ≡ false
no_keyword w x {v} e h n = by (bytes_eq w x) refl
  where
    by : (b : Bool) → bytes_eq w x ≡ b → b ≡ false
    by false k = refl
    by true k =
        let s : w ≡ x = (bytes_eq-Decides w x).0 k in
        let f : option_map_or is_free_name (word_value w) false ≡ true = ap (λ o. option_map_or is_free_name o false) e ∙ h in
        absurd (both_ways (option_map_or is_free_name (word_value x) false) n (subst (λ y. option_map_or is_free_name (word_value y) false ≡ true) s f))

unfree : (option_map_or is_free_name (word_value (codes "await")) false ≡ false) × (option_map_or is_free_name (word_value (codes "yield")) false ≡ false) × (option_map_or is_free_name (word_value (codes "typeof")) false ≡ false) × (option_map_or is_free_name (word_value (codes "void")) false ≡ false) × (option_map_or is_free_name (word_value (codes "delete")) false ≡ false) × (option_map_or is_free_name (word_value (codes "new")) false ≡ false) × (option_map_or is_free_name (word_value (codes "super")) false ≡ false) × (option_map_or is_free_name (word_value (codes "function")) false ≡ false) × (option_map_or is_free_name (word_value (codes "this")) false ≡ false) × (option_map_or is_free_name (word_value (codes "null")) false ≡ false) × (option_map_or is_free_name (word_value (codes "true")) false ≡ false) × (option_map_or is_free_name (word_value (codes "false")) false ≡ false) × (option_map_or is_free_name (word_value (codes "class")) false ≡ false)
unfolding unicode_ident word_value is_reserved is_strict_reserved encode
unfree = (refl, refl, refl, refl, refl, refl, refl, refl, refl, refl, refl, refl, refl)

unfree_modules : (option_map_or is_free_name (word_value (codes "import")) false ≡ false) × (option_map_or is_free_name (word_value (codes "export")) false ≡ false)
unfolding unicode_ident word_value is_reserved is_strict_reserved encode
unfree_modules = (refl, refl)

-- a free name is an operand
pub name_step : (c : Allowed) (k : List Frame) (w : List ℕ) {v : List ℕ} → word_value w ≡ Some v → is_free_name v ≡ true → bytes_eq w (codes "async") ≡ false → word_operand c k w ≡ linked c k (tree.identifier_reference (unnumbered v))
name_step c k w e h a =
    let x0 = no_keyword w (codes "await") e h unfree.0 in
    let x1 = no_keyword w (codes "yield") e h unfree.1 in
    let x2 = no_keyword w (codes "typeof") e h unfree.2 in
    let x3 = no_keyword w (codes "void") e h unfree.3 in
    let x4 = no_keyword w (codes "delete") e h unfree.4 in
    let x5 = no_keyword w (codes "new") e h unfree.5 in
    let x6 = no_keyword w (codes "super") e h unfree.6 in
    let x7 = no_keyword w (codes "function") e h unfree.7 in
    let x8 = no_keyword w (codes "this") e h unfree.8 in
    let x9 = no_keyword w (codes "null") e h unfree.9 in
    let x10 = no_keyword w (codes "true") e h unfree.10 in
    let x11 = no_keyword w (codes "false") e h unfree.11 in
    let x13 = no_keyword w (codes "import") e h unfree_modules.0 in
    let x12 = no_keyword w (codes "class") e h unfree.12 in
    rw (a, x13, x0, x1, x2, x3, x4, x5, x6, x7, x8, x9, x10, x11, x12, e, h) refl

-- nothing follows that makes `async` before it more than a name
abbrev pub no_arrow : Behind → Bool
no_arrow arrow_next = false
no_arrow a = true

abbrev pub stops : Tokens → Bool
stops (piece m (Word w) ts) = is_operator w
stops (group m Round inside ts) = no_arrow (behind ts)
stops ts = true

-- then it is one
pub async_stops : (c : Allowed) (k : List Frame) (rest : Tokens) → stops rest ≡ true → run (async_word c k) rest ≡ run (linked c k async_reference) rest
async_stops c k done h = refl
async_stops c k (piece m (Word w) ts) h = rw h refl
async_stops c k (piece m (Number w) ts) h = refl
async_stops c k (piece m (Quoted q w) ts) h = refl
async_stops c k (piece m (Beyond s) ts) h = refl
async_stops c k (piece m (Sign p) ts) h = refl
async_stops c k (group m Round inside ts) h = ap (λ z. run (enter z Round (run (inner z Round) inside)) ts) (by m (behind ts) h)
  where
    by : (n : Bool) (a : Behind) → no_arrow a ≡ true → faced_async c k n Round a ≡ linked c k async_reference
    by true a g = refl
    by false arrow_next g = untrue g
    by false equal_next g = refl
    by false comma_next g = refl
    by false loop_next g = refl
    by false nothing_next g = refl
    by false other_next g = refl
async_stops c k (group true Square inside ts) h = refl
async_stops c k (group false Square inside ts) h = refl
async_stops c k (group true Brace inside ts) h = refl
async_stops c k (group false Brace inside ts) h = refl

async_value : word_value (codes "async") ≡ Some (codes "async")
unfolding unicode_ident word_value is_reserved is_strict_reserved encode
async_value = refl

-- a free name is an operand, and `async` where it is no more than a name
pub reference_read : (c : Allowed) (k : List Frame) (w : List ℕ) {v : List ℕ} (rest : Tokens) → word_value w ≡ Some v → is_free_name v ≡ true → (bytes_eq w (codes "async") ≡ true → stops rest ≡ true) → run (word_operand c k w) rest ≡ run (linked c k (tree.identifier_reference (unnumbered v))) rest
reference_read c k w {v} rest e h f = by (bytes_eq w (codes "async")) refl
  where
    by : (b : Bool) → bytes_eq w (codes "async") ≡ b → run (word_operand c k w) rest ≡ run (linked c k (tree.identifier_reference (unnumbered v))) rest
    by false a = ap (λ s. run s rest) (name_step c k w e h a)
    by true a =
        let q : w ≡ codes "async" = (bytes_eq-Decides w (codes "async")).0 a in
        let o : Some (codes "async") ≡ Some v = sym async_value ∙ (ap word_value (sym q) ∙ e) in
        let n : codes "async" ≡ v = cc in
        ap (λ x. run (word_operand c k x) rest) q ∙ (async_stops c k rest (f a) ∙ ap (λ x. run (linked c k (tree.identifier_reference (unnumbered x))) rest) n)

unfree_starts : (option_map_or is_free_name (word_value (codes "if")) false ≡ false) × (option_map_or is_free_name (word_value (codes "throw")) false ≡ false) × (option_map_or is_free_name (word_value (codes "function")) false ≡ false) × (option_map_or is_free_name (word_value (codes "var")) false ≡ false) × (option_map_or is_free_name (word_value (codes "let")) false ≡ false) × (option_map_or is_free_name (word_value (codes "const")) false ≡ false) × (option_map_or is_free_name (word_value (codes "while")) false ≡ false) × (option_map_or is_free_name (word_value (codes "for")) false ≡ false) × (option_map_or is_free_name (word_value (codes "switch")) false ≡ false) × (option_map_or is_free_name (word_value (codes "do")) false ≡ false) × (option_map_or is_free_name (word_value (codes "break")) false ≡ false) × (option_map_or is_free_name (word_value (codes "continue")) false ≡ false) × (option_map_or is_free_name (word_value (codes "return")) false ≡ false) × (option_map_or is_free_name (word_value (codes "debugger")) false ≡ false) × (option_map_or is_free_name (word_value (codes "try")) false ≡ false) × (option_map_or is_free_name (word_value (codes "case")) false ≡ false) × (option_map_or is_free_name (word_value (codes "default")) false ≡ false) × (option_map_or is_free_name (word_value (codes "class")) false ≡ false)
unfolding unicode_ident word_value is_reserved is_strict_reserved encode
unfree_starts = (refl, refl, refl, refl, refl, refl, refl, refl, refl, refl, refl, refl, refl, refl, refl, refl, refl, refl)

-- a free name begins no statement but an expression
pub name_start : (c : Allowed) (k : List Frame) (w : List ℕ) {v : List ℕ} → word_value w ≡ Some v → is_free_name v ≡ true → bytes_eq w (codes "async") ≡ false → word_start c k w ≡ word_operand c (expression_of ∷ k) w
name_start c k w e h a =
    let x0 = no_keyword w (codes "if") e h unfree_starts.0 in
    let x1 = no_keyword w (codes "throw") e h unfree_starts.1 in
    let x2 = no_keyword w (codes "function") e h unfree_starts.2 in
    let x3 = no_keyword w (codes "var") e h unfree_starts.3 in
    let x4 = no_keyword w (codes "let") e h unfree_starts.4 in
    let x5 = no_keyword w (codes "const") e h unfree_starts.5 in
    let x6 = no_keyword w (codes "while") e h unfree_starts.6 in
    let x7 = no_keyword w (codes "for") e h unfree_starts.7 in
    let x8 = no_keyword w (codes "switch") e h unfree_starts.8 in
    let x9 = no_keyword w (codes "do") e h unfree_starts.9 in
    let x10 = no_keyword w (codes "break") e h unfree_starts.10 in
    let x11 = no_keyword w (codes "continue") e h unfree_starts.11 in
    let x12 = no_keyword w (codes "return") e h unfree_starts.12 in
    let x13 = no_keyword w (codes "debugger") e h unfree_starts.13 in
    let x14 = no_keyword w (codes "try") e h unfree_starts.14 in
    let x15 = no_keyword w (codes "case") e h unfree_starts.15 in
    let x16 = no_keyword w (codes "default") e h unfree_starts.16 in
    let x18 = no_keyword w (codes "import") e h unfree_modules.0 in
    let x19 = no_keyword w (codes "export") e h unfree_modules.1 in
    let x17 = no_keyword w (codes "class") e h unfree_starts.17 in
    rw (x18, x19, a, x0, x1, x2, x3, x4, x5, x6, x7, x8, x9, x10, x11, x12, x13, x14, x15, x16, x17) refl

-- ---- frames

-- the levels of an operator and of its operands
pub binary_ranks : (o : BinaryOperator) → is_power o ≡ false → (rank (operation_level o) < right_rank o) × (left_rank o ≡ rank (operation_level o)) × (right_rank o ≡ rank (next_level (operation_level o))) × (7 ≤ rank (operation_level o)) × (rank (operation_level o) ≤ 14)
binary_ranks operators.BitwiseOR h = (omega arith, refl, refl, omega arith, omega arith)
binary_ranks operators.BitwiseXOR h = (omega arith, refl, refl, omega arith, omega arith)
binary_ranks operators.BitwiseAnd h = (omega arith, refl, refl, omega arith, omega arith)
binary_ranks operators.Equality h = (omega arith, refl, refl, omega arith, omega arith)
binary_ranks operators.Inequality h = (omega arith, refl, refl, omega arith, omega arith)
binary_ranks operators.StrictEquality h = (omega arith, refl, refl, omega arith, omega arith)
binary_ranks operators.StrictInequality h = (omega arith, refl, refl, omega arith, omega arith)
binary_ranks operators.LessThan h = (omega arith, refl, refl, omega arith, omega arith)
binary_ranks operators.LessEqualThan h = (omega arith, refl, refl, omega arith, omega arith)
binary_ranks operators.GreaterThan h = (omega arith, refl, refl, omega arith, omega arith)
binary_ranks operators.GreaterEqualThan h = (omega arith, refl, refl, omega arith, omega arith)
binary_ranks operators.In h = (omega arith, refl, refl, omega arith, omega arith)
binary_ranks operators.Instanceof h = (omega arith, refl, refl, omega arith, omega arith)
binary_ranks operators.ShiftLeft h = (omega arith, refl, refl, omega arith, omega arith)
binary_ranks operators.ShiftRight h = (omega arith, refl, refl, omega arith, omega arith)
binary_ranks operators.ShiftRightZeroFill h = (omega arith, refl, refl, omega arith, omega arith)
binary_ranks operators.Addition h = (omega arith, refl, refl, omega arith, omega arith)
binary_ranks operators.Subtraction h = (omega arith, refl, refl, omega arith, omega arith)
binary_ranks operators.Multiplication h = (omega arith, refl, refl, omega arith, omega arith)
binary_ranks operators.Division h = (omega arith, refl, refl, omega arith, omega arith)
binary_ranks operators.Remainder h = (omega arith, refl, refl, omega arith, omega arith)
binary_ranks operators.Exponential h = absurd (both_ways true h refl)

pub is_power_or_not : (o : BinaryOperator) → (is_power o ≡ false) ⊎ (o ≡ operators.Exponential)
is_power_or_not operators.Exponential = inr refl
is_power_or_not o = inl refl

-- what waits for a level gives a looser whole
pub gives_less : (f : Frame) (n m : ℕ) → wants f ≤ n → n ≤ 14 → n ≤ m → 4 ≤ m → gives f < m
gives_less (unary_of o) n m h g l k = absurd (omega arith)
gives_less await_of n m h g l k = absurd (omega arith)
gives_less (before_of o) n m h g l k = absurd (omega arith)
gives_less (left_of o t) n m h g l k = by (is_power_or_not o)
  where
    by : (is_power o ≡ false) ⊎ (o ≡ operators.Exponential) → gives (left_of o t) < m
    by (inl e) = let r = binary_ranks o e in omega arith
    by (inr e) = let s : right_rank o ≡ 15 = ap right_rank e in absurd (omega arith)
gives_less (logical_of Or t) n m h g l k = omega arith
gives_less (logical_of And t) n m h g l k = omega arith
gives_less (logical_of Coalesce t) n m h g l k = omega arith
gives_less new_of n m h g l k = absurd (omega arith)
gives_less f n m h g l k = omega arith

-- what waits for an operand of `**` gives no operand before it
pub gives_no_power : (f : Frame) → wants f ≤ 15 → gives f < 17
gives_no_power (unary_of o) h = absurd (omega arith)
gives_no_power await_of h = absurd (omega arith)
gives_no_power (before_of o) h = absurd (omega arith)
gives_no_power (left_of o t) h = by (is_power_or_not o)
  where
    by : (is_power o ≡ false) ⊎ (o ≡ operators.Exponential) → gives (left_of o t) < 17
    by (inl e) = let r = binary_ranks o e in omega arith
    by (inr e) = let s : rank (operation_level o) ≡ 15 = ap (λ x. rank (operation_level x)) e in omega arith
gives_no_power (logical_of Or t) h = omega arith
gives_no_power (logical_of And t) h = omega arith
gives_no_power (logical_of Coalesce t) h = omega arith
gives_no_power new_of h = absurd (omega arith)
gives_no_power f h = omega arith

-- nothing is filled
pub stays : (n m : ℕ) (c : Allowed) (k : List Frame) (t : Tree) → wanted k ≤ n → n ≤ 14 → n ≤ m → 4 ≤ m → settle m c k t ≡ at c k t
stays n m c [] t h g l j = refl
stays n m c (f ∷ k) t h g l j = rw (lt-leb m (gives f) (gives_less f n m h g l j)) refl

-- nor before `**`
pub stays_power : (c : Allowed) (k : List Frame) (t : Tree) → wanted k ≤ 15 → settle 17 c k t ≡ at c k t
stays_power c [] t h = refl
stays_power c (f ∷ k) t h = rw (lt-leb 17 (gives f) (gives_no_power f h)) refl

-- what waits is filled before what follows
pub pop : (c : Allowed) (f : Frame) (k : List Frame) (r u : Tree) (rest : Tokens) → rest_rank c.in_operator rest ≤ gives f → fill f r ≡ Some u → run (settled c (f ∷ k) r) rest ≡ run (settled (restored f c) k u) rest
pop c f k r u done h e = rw (le-leb 1 (gives f) h, e) refl
pop c f k r u (piece m p ts) h e = rw (le-leb (kind_rank (kind c.in_operator p)) (gives f) h, e) refl
pop c f k r u (group m Round inside ts) h e = refl
pop c f k r u (group m Square inside ts) h e = refl
pop c f k r u (group m Brace inside ts) h e = rw (le-leb 17 (gives f) h, e) refl

-- a token that binds looser than a link goes on from an expression
link_piece : (c : Allowed) (k : List Frame) (t : Tree) (m : Bool) (kd : Kind) → kind_rank kd ≤ 17 → linked_piece c k t m kd ≡ settled_piece c k t kd
link_piece c k t m (binary o) h = refl
link_piece c k t m (logic o) h = refl
link_piece c k t m (assigning o) h = absurd (omega arith)
link_piece c k t m (updating o) h = absurd (omega arith)
link_piece c k t m a_dot h = absurd (omega arith)
link_piece c k t m a_link h = absurd (omega arith)
link_piece c k t m an_in h = absurd (omega arith)
link_piece c k t m an_of h = absurd (omega arith)
link_piece c k t m (a_quoted q w) h = absurd (omega arith)
link_piece c k t m (a_whole w) h = absurd (omega arith)
link_piece c k t m (a_head w) h = absurd (omega arith)
link_piece c k t m (a_further last w) h = refl
link_piece c k t m an_arrow h = absurd (omega arith)
link_piece c k t m a_question h = refl
link_piece c k t m a_colon h = refl
link_piece c k t m a_comma h = refl
link_piece c k t m a_semicolon h = refl
link_piece c k t m another h = absurd (omega arith)

-- no link follows
pub unlinked : (c : Allowed) (k : List Frame) (t : Tree) (rest : Tokens) → rest_rank c.in_operator rest ≤ 17 → run (linked c k t) rest ≡ run (settled c k t) rest
unlinked c k t done h = refl
unlinked c k t (piece m p ts) h = ap (λ s. run s ts) (link_piece c k t m (kind c.in_operator p) h)
unlinked c k t (group m Round inside ts) h = absurd (omega arith)
unlinked c k t (group m Square inside ts) h = absurd (omega arith)
unlinked c k t (group m Brace inside ts) h = refl

-- `??` goes on behind what is no chain of it
pub no_coalesce : (c : Allowed) (k : List Frame) (t : Tree) → wanted k ≤ 4 → pushed_coalesce c k t ≡ operand c (logical_of Coalesce t ∷ k)
no_coalesce c [] t h = refl
no_coalesce c (unary_of o ∷ k) t h = absurd (omega arith)
no_coalesce c (await_of ∷ k) t h = absurd (omega arith)
no_coalesce c (before_of o ∷ k) t h = absurd (omega arith)
no_coalesce c (left_of o l ∷ k) t h = rw (le-leb (right_rank o) 4 h) refl
no_coalesce c (logical_of Or l ∷ k) t h = absurd (omega arith)
no_coalesce c (logical_of And l ∷ k) t h = absurd (omega arith)
no_coalesce c (logical_of Coalesce l ∷ k) t h = absurd (omega arith)
no_coalesce c (private_of v ∷ k) t h = absurd (omega arith)
no_coalesce c (new_of ∷ k) t h = absurd (omega arith)
no_coalesce c (target_of g ∷ k) t h = absurd (omega arith)
no_coalesce c (extends_of declared d id ∷ k) t h = absurd (omega arith)
no_coalesce c (f ∷ k) t h = refl

at_least_one : (o : BinaryOperator) → 2 ≤ right_rank o
at_least_one o = by (is_power_or_not o)
  where
    by : (is_power o ≡ false) ⊎ (o ≡ operators.Exponential) → 2 ≤ right_rank o
    by (inl e) = let r = binary_ranks o e in omega arith
    by (inr e) = let s : right_rank o ≡ 15 = ap right_rank e in omega arith

-- a comma begins a sequence where a whole expression is awaited
pub first_comma : (c : Allowed) (k : List Frame) (t : Tree) → wanted k ≤ 1 → pushed_part (settle 2 c k t) ≡ operand c (parts_of (more t no_trees) ∷ k)
first_comma c [] t h = refl
first_comma c (unary_of o ∷ k) t h = absurd (omega arith)
first_comma c (await_of ∷ k) t h = absurd (omega arith)
first_comma c (before_of o ∷ k) t h = absurd (omega arith)
first_comma c (left_of o l ∷ k) t h = let g = at_least_one o in absurd (omega arith)
first_comma c (logical_of Or l ∷ k) t h = absurd (omega arith)
first_comma c (logical_of And l ∷ k) t h = absurd (omega arith)
first_comma c (logical_of Coalesce l ∷ k) t h = absurd (omega arith)
first_comma c (private_of v ∷ k) t h = absurd (omega arith)
first_comma c (assign_to o x u ∷ k) t h = absurd (omega arith)
first_comma c (test_of j x ∷ k) t h = absurd (omega arith)
first_comma c (choice_of x y ∷ k) t h = absurd (omega arith)
first_comma c (parts_of ts ∷ k) t h = absurd (omega arith)
first_comma c (arguments ts ∷ k) t h = absurd (omega arith)
first_comma c (spread_of ∷ k) t h = absurd (omega arith)
first_comma c (new_of ∷ k) t h = absurd (omega arith)
first_comma c (arrow_of d async p ∷ k) t h = absurd (omega arith)
first_comma c (yield_of delegate ∷ k) t h = absurd (omega arith)
first_comma c (value_of g b ∷ k) t h = absurd (omega arith)
first_comma c (target_of g ∷ k) t h = absurd (omega arith)
first_comma c (default_of g x u ∷ k) t h = absurd (omega arith)
first_comma c (elements_of ts ∷ k) t h = absurd (omega arith)
first_comma c (of_right waits l ∷ k) t h = absurd (omega arith)
first_comma c (key_alone ∷ k) t h = absurd (omega arith)
first_comma c (properties_of ps ∷ k) t h = absurd (omega arith)
first_comma c (property_of ps computed key ∷ k) t h = absurd (omega arith)
first_comma c (imported_of ts ∷ k) t h = absurd (omega arith)
first_comma c (exported_default ∷ k) t h = absurd (omega arith)
first_comma c (extends_of declared d id ∷ k) t h = absurd (omega arith)
first_comma c (field_of d ms static computed key ∷ k) t h = absurd (omega arith)
first_comma c (f ∷ k) t h = refl

-- two tests that answer the same
pub same_same : (a b : Bool) → a ≡ b → same a b ≡ true
same_same true b e = sym e
same_same false b e = ap not (sym e)

-- ---- statements

abbrev pub starts_else : Tokens → Bool
starts_else (piece m p ts) = is_else p
starts_else ts = false

-- an `if` has ended where no `else` follows
pub close_then : (c : Allowed) (t s : Tree) (k : List Frame) (rest : Tokens) → starts_else rest ≡ false → run (ended c (then_of t ∷ k) s) rest ≡ run (ended c k (tree.if_statement (nothing_of 0) t s absent)) rest
close_then c t s k done h = refl
close_then c t s k (piece m p ts) h = rw h refl
close_then c t s k (group m Round inside ts) h = refl
close_then c t s k (group m Square inside ts) h = refl
close_then c t s k (group m Brace inside ts) h = refl

-- the statement round one that has ended has ended
pub close_wrap : (c : Allowed) (f : Tree → Tree) (s : Tree) (k : List Frame) (rest : Tokens) → run (ended c (wrap_of f ∷ k) s) rest ≡ run (ended c k (f s)) rest
close_wrap c f s k done = refl
close_wrap c f s k (piece m p ts) = refl
close_wrap c f s k (group m b inside ts) = refl

-- and so has the export of what it declares
pub close_default : (c : Allowed) (s : Tree) (k : List Frame) (rest : Tokens) → run (ended c (exported_default ∷ k) s) rest ≡ run (ended c k (default_exported s)) rest
close_default c s k done = refl
close_default c s k (piece m p ts) = refl
close_default c s k (group m b inside ts) = refl

-- a statement stands in its list
pub close_item : (c : Allowed) (b : Bottom) (ss : Trees) (s : Tree) (rest : Tokens) → starts_else rest ≡ false → run (ended c (list_of b ss ∷ []) s) rest ≡ run (start c (list_of b (joined ss (more s no_trees)) ∷ [])) rest
close_item c b ss s done h = refl
close_item c b ss s (piece m p ts) h = rw h refl
close_item c b ss s (group m q inside ts) h = refl

-- ---- what stands behind brackets

abbrev pub is_simple : Option Tree → Bool
is_simple None = false
is_simple (Some u) = true

-- brackets that are part of the tree may stand before it: parentheses hold no parameters, and others are no pattern
abbrev pub meets : Behind → Tree → Bool
meets arrow_next t = false
meets equal_next t = is_simple (simple_target t)
meets a t = true

abbrev pub is_async : Tokens → Bool
is_async (piece m (Word w) done) = bytes_eq w (codes "async")
is_async ts = false

-- and what follows goes on neither from them nor from `async` alone
abbrev pub fits : Tokens → Tokens → Tree → Bool
fits rest ts t = meets (behind rest) t && (stops rest || not (is_async ts))

and_parts : (a b : Bool) → a && b ≡ true → (a ≡ true) × (b ≡ true)
and_parts true true h = (refl, refl)
and_parts true false h = untrue h
and_parts false b h = untrue h

or_not : (a b : Bool) → a || not b ≡ true → b ≡ true → a ≡ true
or_not true b h g = refl
or_not false true h g = h
or_not false false h g = untrue g

pub fits_meets : (rest ts : Tokens) (t : Tree) → fits rest ts t ≡ true → meets (behind rest) t ≡ true
fits_meets rest ts t h = (and_parts (meets (behind rest) t) (stops rest || not (is_async ts)) h).0

pub fits_stops : (rest ts : Tokens) (t : Tree) → fits rest ts t ≡ true → is_async ts ≡ true → stops rest ≡ true
fits_stops rest ts t h g = or_not (stops rest) (is_async ts) (and_parts (meets (behind rest) t) (stops rest || not (is_async ts)) h).1 g

-- what stops a name fits where it meets the tree
pub fits_both : (rest ts : Tokens) (t : Tree) → meets (behind rest) t ≡ true → stops rest ≡ true → fits rest ts t ≡ true
fits_both rest ts t h g = rw (h, g) refl

meets_sign : (c : Allowed) (s : Punctuator) (t : Tree) → kind_rank (kind c.in_operator (Sign s)) ≤ 17 → meets (behind_sign s) t ≡ true
meets_sign c arrow t h = absurd (omega arith)
meets_sign c equal t h = absurd (omega arith)
meets_sign c s t h = refl

meets_word : (b : Bool) (t : Tree) → meets (if b then loop_next else other_next) t ≡ true
meets_word true t = refl
meets_word false t = refl

meets_rest : (c : Allowed) (rest : Tokens) (t : Tree) → rest_rank c.in_operator rest ≤ 17 → meets (behind rest) t ≡ true
meets_rest c done t h = refl
meets_rest c (piece m (Word w) ts) t h = meets_word (bytes_eq w (codes "of") || bytes_eq w (codes "in")) t
meets_rest c (piece m (Number w) ts) t h = refl
meets_rest c (piece m (Quoted q w) ts) t h = refl
meets_rest c (piece m (Beyond s) ts) t h = refl
meets_rest c (piece m (Sign s) ts) t h = meets_sign c s t h
meets_rest c (group m b inside ts) t h = refl

-- only a word that is an operator binds so
operator_binds : (a b d i : Bool) → kind_rank (if a then binary operators.Instanceof else (if b then (if i then binary operators.In else an_in) else (if d then an_of else another))) ≤ 17 → b || a ≡ true
operator_binds a true d i h = refl
operator_binds true false d i h = refl
operator_binds false false true i h = absurd (omega arith)
operator_binds false false false i h = absurd (omega arith)

pub stops_rest : (c : Allowed) (rest : Tokens) → rest_rank c.in_operator rest ≤ 17 → stops rest ≡ true
stops_rest c done h = refl
stops_rest c (piece m (Word w) ts) h = operator_binds (bytes_eq w (codes "instanceof")) (bytes_eq w (codes "in")) (bytes_eq w (codes "of")) c.in_operator h
stops_rest c (piece m (Number w) ts) h = refl
stops_rest c (piece m (Quoted q w) ts) h = refl
stops_rest c (piece m (Beyond s) ts) h = refl
stops_rest c (piece m (Sign s) ts) h = refl
stops_rest c (group m Round inside ts) h = absurd (omega arith)
stops_rest c (group m Square inside ts) h = refl
stops_rest c (group m Brace inside ts) h = refl

-- what binds looser than a link fits behind every tree
pub fits_rest : (c : Allowed) (rest ts : Tokens) (t : Tree) → rest_rank c.in_operator rest ≤ 17 → fits rest ts t ≡ true
fits_rest c rest ts t h = fits_both rest ts t (meets_rest c rest t h) (stops_rest c rest h)

meets_no_arrow : (a : Behind) (t : Tree) → meets a t ≡ true → no_arrow a ≡ true
meets_no_arrow arrow_next t h = h
meets_no_arrow a t h = refl

-- arguments fit behind what is called, if what follows fits behind the call
pub call_fits : (m : Bool) (inside rest ts a : Tokens) (t f : Tree) → fits rest ts t ≡ true → fits (group m Round inside rest) a f ≡ true
call_fits m inside rest ts a t f h = rw (meets_no_arrow (behind rest) t (fits_meets rest ts t h)) refl

-- brackets, by the state that what follows them gives
pub faces : (s z : State) (m : Bool) (b : Bracket) (inside rest : Tokens) → faced s m b (behind rest) ≡ z → run s (group m b inside rest) ≡ run (enter z b (run (inner z b) inside)) rest
faces s z m b inside rest h = ap (λ x. run (enter x b (run (inner x b) inside)) rest) h

-- parentheses that meet it hold an expression
pub round_face : (c : Allowed) (k : List Frame) (a : Behind) (t : Tree) → meets a t ≡ true → faced_operand c k Round a ≡ operand c k
round_face c k arrow_next t h = absurd (both_ways false refl h)
round_face c k a t h = refl

-- and an array that fits is no pattern
pub square_face : (c : Allowed) (k : List Frame) (a : Behind) (es : Trees) → meets a (tree.array (nothing_of 0) es) ≡ true → faced_operand c k Square a ≡ operand c k
square_face c k equal_next es h = absurd (both_ways false refl h)
square_face c k a es h = refl

-- nor is an object
pub brace_face : (c : Allowed) (k : List Frame) (a : Behind) (ps : Trees) → meets a (tree.object_expression (nothing_of 0) ps) ≡ true → faced_operand c k Brace a ≡ operand c k
brace_face c k equal_next ps h = absurd (both_ways false refl h)
brace_face c k a ps h = refl

-- a simple target fits before an assignment
pub assignment_fits : (o : AssignmentOperator) (m : Bool) (rest ts : Tokens) (t u : Tree) → simple_target t ≡ Some u → fits (piece m (Sign (assignment_sign o)) rest) ts t ≡ true
assignment_fits assignment_operators.Assign m rest ts t u e = rw e refl
assignment_fits o m rest ts t u e = refl

-- whatever is before `++` fits
pub update_fits : (o : UpdateOperator) (m : Bool) (rest ts : Tokens) (t : Tree) → fits (piece m (Sign (update_sign o)) rest) ts t ≡ true
update_fits update_operators.Increment m rest ts t = refl
update_fits update_operators.Decrement m rest ts t = refl

-- ---- chains and calls

-- a chain has ended where no link follows
pub chain_settles : (c : Allowed) (k : List Frame) (t : Tree) (rest : Tokens) → rest_rank c.in_operator rest ≤ 17 → run (chained c k t) rest ≡ run (settled c k (tree.chain (nothing_of 0) t)) rest
chain_settles c k t done h = refl
chain_settles c k t (piece m p ts) h = ap (λ s. run s ts) (by (kind c.in_operator p) h)
  where
    by : (kd : Kind) → kind_rank kd ≤ 17 → chained_piece c k t kd ≡ settled_piece c k (tree.chain (nothing_of 0) t) kd
    by (binary o) g = refl
    by (logic o) g = refl
    by (assigning o) g = refl
    by (updating o) g = refl
    by a_dot g = absurd (omega arith)
    by a_link g = absurd (omega arith)
    by an_arrow g = absurd (omega arith)
    by a_question g = refl
    by an_in g = refl
    by an_of g = refl
    by a_colon g = refl
    by a_comma g = refl
    by a_semicolon g = refl
    by (a_quoted q w) g = absurd (omega arith)
    by (a_whole w) g = absurd (omega arith)
    by (a_head w) g = absurd (omega arith)
    by (a_further last w) g = refl
    by another g = absurd (omega arith)
chain_settles c k t (group m Round inside ts) h = absurd (omega arith)
chain_settles c k t (group m Square inside ts) h = absurd (omega arith)
chain_settles c k t (group m Brace inside ts) h = refl

-- arguments are those of a call where no `new` waits
pub call_step : (c : Allowed) (k : List Frame) (t : Tree) (es : Trees) → wanted k ≤ 17 → called_with c k t (some_trees es) ≡ linked c k (tree.call (call_values false) t es)
call_step c k t es h = rw (le-leb (wanted k) 17 h) refl

-- an arrow function with a body, and `yield` alone, have ended where a looser token follows
pub closed_settles : (c : Allowed) (k : List Frame) (t : Tree) (rest : Tokens) → rest_rank c.in_operator rest ≤ 2 → run (closed c k t) rest ≡ run (settled c k t) rest
closed_settles c k t done h = refl
closed_settles c k t (piece m p ts) h = ap (λ s. run s ts) (by h)
  where
    by : kind_rank (kind c.in_operator p) ≤ 2 → closed_piece c k t (kind c.in_operator p) ≡ settled_piece c k t (kind c.in_operator p)
    by g = rw (le-leb (kind_rank (kind c.in_operator p)) 2 g) refl
closed_settles c k t (group m Round inside ts) h = absurd (omega arith)
closed_settles c k t (group m Square inside ts) h = absurd (omega arith)
closed_settles c k t (group m Brace inside ts) h = absurd (omega arith)

-- ---- `await` and `yield`

pub await_step : (c : Allowed) (k : List Frame) → c.await_operand ≡ true → wanted k ≤ 17 → word_operand c k (codes "await") ≡ operand c (await_of ∷ k)
await_step c k a h = rw (a, le-leb (wanted k) 17 h) refl

pub yield_step : (c : Allowed) (k : List Frame) → c.yield_operand ≡ true → wanted k ≤ 2 → word_operand c k (codes "yield") ≡ yielded c k
yield_step c k y h = rw (y, le-leb (wanted k) 2 h) refl

-- no word binds so loosely
word_binds : (a b d i : Bool) → kind_rank (if a then binary operators.Instanceof else (if b then (if i then binary operators.In else an_in) else (if d then an_of else another))) ≤ 2 → ⊥
word_binds true b d i h = absurd (omega arith)
word_binds false true d true h = absurd (omega arith)
word_binds false true d false h = absurd (omega arith)
word_binds false false true i h = absurd (omega arith)
word_binds false false false i h = absurd (omega arith)

-- `yield` is alone where a looser token follows
pub yield_ends : (c : Allowed) (k : List Frame) (rest : Tokens) → rest_rank c.in_operator rest ≤ 2 → run (yielded c k) rest ≡ run (closed c k yield_alone) rest
yield_ends c k done h = refl
yield_ends c k (piece true p ts) h = refl
yield_ends c k (piece false (Word w) ts) h = absurd (word_binds (bytes_eq w (codes "instanceof")) (bytes_eq w (codes "in")) (bytes_eq w (codes "of")) c.in_operator h)
yield_ends c k (piece false (Number w) ts) h = absurd (omega arith)
yield_ends c k (piece false (Quoted q w) ts) h = absurd (omega arith)
yield_ends c k (piece false (Beyond (Middle w)) ts) h = refl
yield_ends c k (piece false (Beyond (Tail w)) ts) h = refl
yield_ends c k (piece false (Beyond s) ts) h = absurd (omega arith)
yield_ends c k (piece false (Sign comma) ts) h = refl
yield_ends c k (piece false (Sign colon) ts) h = refl
yield_ends c k (piece false (Sign semicolon) ts) h = refl
yield_ends c k (piece false (Sign s) ts) h = absurd (omega arith)
yield_ends c k (group m Round inside ts) h = absurd (omega arith)
yield_ends c k (group m Square inside ts) h = absurd (omega arith)
yield_ends c k (group m Brace inside ts) h = absurd (omega arith)

-- or gives an expression that begins on its line
pub yielded_begins : (a : Tokens) (t : Tree) (c : Allowed) → run (operand c []) a ≡ one_tree t → on_same_line a ≡ true → (k : List Frame) (rest : Tokens) → run (yielded c k) (a ⧺ rest) ≡ run (operand c (yield_of false ∷ k)) (a ⧺ rest)
yielded_begins done t c e s k rest = untrue s
yielded_begins (piece true p us) t c e s k rest = untrue s
yielded_begins (piece false (Word w) us) t c e s k rest = refl
yielded_begins (piece false (Number w) us) t c e s k rest = refl
yielded_begins (piece false (Quoted q w) us) t c e s k rest = refl
yielded_begins (piece false (Beyond (Middle w)) us) t c e s k rest = absurd (let f = run_failed us in cc)
yielded_begins (piece false (Beyond (Tail w)) us) t c e s k rest = absurd (let f = run_failed us in cc)
yielded_begins (piece false (Beyond x) us) t c e s k rest = refl
yielded_begins (piece false (Sign star) us) t c e s k rest = absurd (let f = run_failed us in cc)
yielded_begins (piece false (Sign comma) us) t c e s k rest = absurd (let f = run_failed us in cc)
yielded_begins (piece false (Sign colon) us) t c e s k rest = absurd (let f = run_failed us in cc)
yielded_begins (piece false (Sign semicolon) us) t c e s k rest = absurd (let f = run_failed us in cc)
yielded_begins (piece false (Sign p) us) t c e s k rest = refl
yielded_begins (group false b inside us) t c e s k rest = refl
yielded_begins (group true b inside us) t c e s k rest = untrue s
