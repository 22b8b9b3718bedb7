-- What the reader does where an expression begins and goes on.
use Rattle.std.proofs.Common.{◌≡◌, ℕ, ◌≤◌, List, [], ◌∷◌, ◌++◌, ◌⊎◌, inl, inr, Bool, true, false, codes, Option, Some, None, refl, ap, sym, ◌∙◌, arith}
use Rattle.jsgen_syntax.specs.Name.{is_reserved, is_strict_reserved, is_free_name}
use Rattle.std.specs.Prelude.{not, nat_le}
use Rattle.std.specs.Option.{option_map_or}
use lib.Utf8.{encode}
use Rattle.unicode_ident.proofs.Computing.{unicode_ident}
use Rattle.std.specs.List.{last_or}
use Rattle.std.proofs.lemmas.Bool.{le-leb}
use Rattle.jsgen_syntax.specs.Escapes.{word_value}
use Rattle.jsgen_syntax.specs.declared.operator.BinaryOperator.{BinaryOperator}
use Rattle.jsgen_syntax.specs.declared.operator.BinaryOperator.TheVariants as operators
use Rattle.jsgen_syntax.specs.declared.operator.LogicalOperator.TheVariants.{Or, And, Coalesce}
use Rattle.jsgen_syntax.specs.declared.operator.UpdateOperator.{UpdateOperator}
use Rattle.jsgen_syntax.specs.declared.operator.AssignmentOperator.{AssignmentOperator}
use Rattle.jsgen_syntax.specs.declared.quote.Quote.{Quote}
use Rattle.jsgen_syntax.specs.Strings.{is_backtick, string_value}
use Rattle.jsgen_tree.specs.Atom.{units, flag, update_operator, assignment_operator}
use Rattle.jsgen_tree.specs.Places.{bare}
use Rattle.jsgen_tree.specs.Tree.{Tree, Maybe, Trees, no_trees, more, absent, given}
use Rattle.jsgen_tree.specs.Nodes as tree
use Rattle.jsgen_model.specs.Punctuator.{Punctuator, comma, dot, arrow, Round, Square, Brace}
use Rattle.jsgen_model.specs.Tokens.{Tokens, done, piece, group, ◌⧺◌, Private, Word, Number, Quoted, Sign, Beyond}
use Rattle.jsgen_model.specs.Normal.{nothing_of, named, unnumbered, link_values, call_values, by_text, joined}
use Rattle.jsgen_model.specs.Grammar.{Allowed, with_in, in_parameters, in_arrow_body, on_same_line, ReadsKey, ReadsMemberKey, ReadsMethodAs, is_power, operation_level, operator_piece, update_sign, assignment_sign, may_operate, simple_target, names_function, has_suffix, starts_in_brace}
use Rattle.jsgen_model.specs.Grammar as grammar
use Rattle.jsgen_one_reading.specs.States.{binary, logic, assigning, updating, a_dot, a_link, an_arrow, a_question, a_colon, a_comma, a_semicolon, an_in, an_of, another, before_of, left_of, logical_of, assign_to, test_of, new_of, arrow_of, with_words, of_object, of_class, operand, linked, async_word, settled, newly, chained, parameters_read, arrowed, parameter, function_named, property, property_word, method_key, keyed, one_tree, some_trees, with_rest, rank, Kind, kind, left_rank, kind_rank, Frame, wanted, fill, set_in, settle, Kept, Manner, Owner, State, a_quoted, a_whole, a_head, a_further}
use Rattle.jsgen_one_reading.specs.ExpressionPieces.{when, by_word, with_field, without_last, operand_piece, pushed_binary, pushed_logical, pushed_test, settled_piece, named_parameter, linked_piece, dotted_piece, chaining_piece, chain_dotted_piece, async_piece}
use Rattle.jsgen_one_reading.specs.Steps.{may_be_nameless, string_of, function_piece, nameless, key_number, short_property, key_piece, property_piece, method_key_piece, by_manner, by_static, keyed_sign, word_property_sign}
use Rattle.jsgen_one_reading.specs.Brackets.{faced_word, inner, parameters_behind, super_called_with, enter}
use Rattle.jsgen_one_reading.specs.Ends.{short_end}
use Rattle.jsgen_one_reading.specs.Reader.{run}
use Rattle.jsgen_one_reading.proofs.Steps.{then_done, untrue, run_failed, rest_rank, operator_kind, assignment_kind, update_kind, no_keyword, reference_read, binary_ranks, is_power_or_not, stays, stays_power, no_coalesce, same_same}
use Rattle.jsgen_one_reading.proofs.Claims.{Links, grouped}

-- what isn't true is false
pub not_true : (m : Bool) → not m ≡ true → m ≡ false
not_true true h = untrue h
not_true false h = refl

-- ---- operators

-- no token binds between an assignment and a choice
pub no_three : (i : Bool) (rest : Tokens) → rest_rank i rest ≤ 3 → rest_rank i rest ≤ 2
no_three i done h = omega arith
no_three i (piece m p ts) h = no_kind (kind i p) h
  where
    no_kind : (kd : Kind) → kind_rank kd ≤ 3 → kind_rank kd ≤ 2
    no_kind (binary o) g = absurd (let r = ranks (is_power_or_not o) in omega arith)
      where
        ranks : (is_power o ≡ false) ⊎ (o ≡ operators.Exponential) → 7 ≤ left_rank o
        ranks (inl e) = let r = binary_ranks o e in omega arith
        ranks (inr e) = let s : left_rank o ≡ 17 = ap left_rank e in omega arith
    no_kind (logic Or) g = absurd (omega arith)
    no_kind (logic And) g = absurd (omega arith)
    no_kind (logic Coalesce) g = absurd (omega arith)
    no_kind (assigning o) g = absurd (omega arith)
    no_kind (updating o) g = absurd (omega arith)
    no_kind a_dot g = absurd (omega arith)
    no_kind a_link g = absurd (omega arith)
    no_kind an_arrow g = absurd (omega arith)
    no_kind a_question g = absurd (omega arith)
    no_kind an_in g = absurd (omega arith)
    no_kind an_of g = absurd (omega arith)
    no_kind (a_quoted q w) g = absurd (omega arith)
    no_kind (a_whole w) g = absurd (omega arith)
    no_kind (a_head w) g = absurd (omega arith)
    no_kind (a_further last w) g = omega arith
    no_kind a_colon g = omega arith
    no_kind a_comma g = omega arith
    no_kind a_semicolon g = omega arith
    no_kind another g = absurd (omega arith)
no_three i (group m Round inside ts) h = absurd (omega arith)
no_three i (group m Square inside ts) h = absurd (omega arith)
no_three i (group m Brace inside ts) h = absurd (omega arith)

pub test_step : (c : Allowed) (k : List Frame) (x : Tree) → wanted k ≤ 3 → pushed_test (settle 4 c k x) ≡ operand (with_in c) (test_of c x ∷ k)
test_step c k x h = rw (stays 3 4 c k x h (omega arith) (omega arith) (omega arith), le-leb (wanted k) 3 h) refl

pub assign_step : (c : Allowed) (k : List Frame) (t u : Tree) (o : AssignmentOperator) (m : Bool) → wanted k ≤ 2 → simple_target t ≡ Some u → linked_piece c k t m (kind c.in_operator (Sign (assignment_sign o))) ≡ operand c (assign_to o t u ∷ k)
assign_step c k t u o m h e = rw (assignment_kind o, e, le-leb (wanted k) 2 h) refl

pub assign_fill : (o : AssignmentOperator) (t u v : Tree) → names_function o t v ≡ names_function o u v → fill (assign_to o t u) v ≡ Some (tree.assignment (bare (assignment_operator o ∷ [])) u v)
assign_fill o t u v n = rw (same_same (names_function o t v) (names_function o u v) n) refl

pub binary_step : (c : Allowed) (k : List Frame) (l : Tree) (o : BinaryOperator) → is_power o ≡ false → may_operate c o ≡ true → wanted k ≤ rank (operation_level o) → settled_piece c k l (kind c.in_operator (operator_piece o)) ≡ operand c (left_of o l ∷ k)
binary_step c k l o n s h =
    let r = binary_ranks o n in
    rw (operator_kind c o s, stays (rank (operation_level o)) (left_rank o) c k l h r.4 (omega arith) (omega arith), le-leb (wanted k) (rank (operation_level o)) h) refl

pub binary_bound : (c : Allowed) (o : BinaryOperator) → is_power o ≡ false → may_operate c o ≡ true → kind_rank (kind c.in_operator (operator_piece o)) ≤ rank (operation_level o)
binary_bound c o n s = let r = binary_ranks o n in rw (operator_kind c o s, r.1) (omega arith)

pub power_step : (c : Allowed) (k : List Frame) (l : Tree) → wanted k ≤ 15 → pushed_binary operators.Exponential (settle 17 c k l) ≡ operand c (left_of operators.Exponential l ∷ k)
power_step c k l h = rw (stays_power c k l h, le-leb (wanted k) 15 h) refl

pub and_step : (c : Allowed) (k : List Frame) (l : Tree) → wanted k ≤ 6 → pushed_logical And (settle 6 c k l) ≡ operand c (logical_of And l ∷ k)
and_step c k l h = rw (stays 6 6 c k l h (omega arith) (omega arith) (omega arith), le-leb (wanted k) 6 h) refl

pub or_step : (c : Allowed) (k : List Frame) (l : Tree) → wanted k ≤ 5 → pushed_logical Or (settle 5 c k l) ≡ operand c (logical_of Or l ∷ k)
or_step c k l h = rw (stays 5 5 c k l h (omega arith) (omega arith) (omega arith), le-leb (wanted k) 5 h) refl

pub coalesce_step : (c : Allowed) (k : List Frame) (l : Tree) → wanted k ≤ 4 → pushed_logical Coalesce (settle 7 c k l) ≡ operand c (logical_of Coalesce l ∷ k)
coalesce_step c k l h = rw (stays 4 7 c k l h (omega arith) (omega arith) (omega arith)) (no_coalesce c k l h)

pub name_after : (c : Allowed) (k : List Frame) (o : Tree) (w : List ℕ) {v : List ℕ} → word_value w ≡ Some v → dotted_piece c k o (Word w) ≡ linked c k (tree.static_member (link_values false) o (tree.identifier_name (named v)))
name_after c k o w e = rw e refl

pub fill_before : (o : UpdateOperator) (t u : Tree) → simple_target t ≡ Some u → fill (before_of o) t ≡ Some (tree.update (bare (update_operator o ∷ flag true ∷ [])) u)
fill_before o t u e = rw e refl

pub behind_step : (c : Allowed) (k : List Frame) (t u : Tree) (o : UpdateOperator) → wanted k ≤ 17 → simple_target t ≡ Some u → linked_piece c k t false (kind c.in_operator (Sign (update_sign o))) ≡ settled c k (tree.update (bare (update_operator o ∷ flag false ∷ [])) u)
behind_step c k t u o h e = rw (update_kind o, le-leb (wanted k) 17 h, e) refl

pub number_step : (c : Allowed) (k : List Frame) (w : List ℕ) → has_suffix w ≡ false → operand_piece c k (Number w) ≡ linked c k (tree.numeric_literal (by_text w))
number_step c k w e = rw e refl

pub last_item : (o : Option ℕ) (v : List ℕ) (x : ℕ) → last_or o (v ++ x ∷ []) ≡ Some x
last_item o [] x = refl
last_item o (y ∷ ys) x = last_item (Some y) ys x

-- a big integer by its suffix
pub suffixed : (v : List ℕ) → has_suffix (v ++ codes "n") ≡ true
suffixed v = rw (last_item None v 110) refl

pub unsuffixed : (v : List ℕ) → without_last (v ++ codes "n") ≡ v
unsuffixed [] = refl
unsuffixed (x ∷ []) = refl
unsuffixed (x ∷ y ∷ ys) = ap (λ z. x ∷ z) (unsuffixed (y ∷ ys))

pub big_step : (c : Allowed) (k : List Frame) (w v : List ℕ) → w ≡ v ++ codes "n" → operand_piece c k (Number w) ≡ linked c k (tree.big_int_literal (named v))
big_step c k w v e = ap (λ x. operand_piece c k (Number x)) e ∙ rw (suffixed v, unsuffixed v) refl

pub big_key : (w v : List ℕ) → w ≡ v ++ codes "n" → key_number w ≡ tree.big_int_literal (named v)
big_key w v e = ap key_number e ∙ rw (suffixed v, unsuffixed v) refl

pub number_key : (w : List ℕ) → has_suffix w ≡ false → key_number w ≡ tree.numeric_literal (by_text w)
number_key w e = rw e refl

pub string_step : (c : Allowed) (k : List Frame) (q : Quote) (w : List ℕ) {us : List ℕ} → string_value q w ≡ Some us → operand_piece c k (Quoted q w) ≡ linked c k (tree.string_literal (bare (units us ∷ [])))
string_step c k q w e = rw e refl

-- what waits allows it
pub allowed_state : (n m : ℕ) (s : State) → n ≤ m → when (nat_le n m) s ≡ s
allowed_state n m s h = rw (le-leb n m h) refl

pub super_step : (c : Allowed) (k : List Frame) (es : Trees) → wanted k ≤ 17 → super_called_with c k (some_trees es) ≡ linked c k (tree.call (call_values false) (tree.super (nothing_of 0)) es)
super_step c k es h = rw (le-leb (wanted k) 17 h) refl

pub optional_name : (c : Allowed) (k : List Frame) (o : Tree) (w : List ℕ) {v : List ℕ} → word_value w ≡ Some v → chaining_piece c k o (Word w) ≡ chained c k (tree.static_member (link_values true) o (tree.identifier_name (named v)))
optional_name c k o w e = rw e refl

pub further_name : (c : Allowed) (k : List Frame) (o : Tree) (w : List ℕ) {v : List ℕ} → word_value w ≡ Some v → chain_dotted_piece c k o (Word w) ≡ chained c k (tree.static_member (link_values false) o (tree.identifier_name (named v)))
further_name c k o w e = rw e refl

-- a member by itself
pub alone : (c : Allowed) (i : Bool) (a : Tokens) (t : Tree) → Links c a t → run (operand (set_in i c) []) a ≡ one_tree t
alone c i a t l = ap (run (operand (set_in i c) [])) (sym (then_done a)) ∙ l i [] done refl

-- an operand begins behind `new`
pub newly_begins : (a : Tokens) (t : Tree) (c : Allowed) → run (operand c []) a ≡ one_tree t → (k : List Frame) (rest : Tokens) → run (newly c k) (a ⧺ rest) ≡ run (operand c (new_of ∷ k)) (a ⧺ rest)
newly_begins done t c e k rest = absurd (cc)
newly_begins (piece m (Word w) us) t c e k rest = refl
newly_begins (piece m (Number w) us) t c e k rest = refl
newly_begins (piece m (Quoted q w) us) t c e k rest = refl
newly_begins (piece m (Beyond s) us) t c e k rest = refl
newly_begins (piece m (Sign dot) us) t c e k rest = absurd (let f = run_failed us in cc)
newly_begins (piece m (Sign p) us) t c e k rest = refl
newly_begins (group m b inside us) t c e k rest = refl

-- and behind an arrow, if by no brace
pub arrowed_begins : (b : Tokens) (t : Tree) (c : Allowed) (async : Bool) → run (operand (in_arrow_body async c) []) b ≡ one_tree t → starts_in_brace b ≡ false → (k : List Frame) (x : Tree) (rest : Tokens) → run (arrowed c k async x) (b ⧺ rest) ≡ run (operand (in_arrow_body async c) (arrow_of c async x ∷ k)) (b ⧺ rest)
arrowed_begins done t c async e s k x rest = absurd (cc)
arrowed_begins (piece m p us) t c async e s k x rest = refl
arrowed_begins (group m Round inside us) t c async e s k x rest = refl
arrowed_begins (group m Square inside us) t c async e s k x rest = refl
arrowed_begins (group m Brace inside us) t c async e s k x rest = untrue (sym s)

-- where the parameters of an arrow function begin
abbrev pub before_arrow : Bool → Allowed → List Frame → State
before_arrow false c k = operand c k
before_arrow true c k = async_word c k

pub unfree_extends : option_map_or is_free_name (word_value (codes "extends")) false ≡ false
unfolding unicode_ident word_value is_reserved is_strict_reserved encode
unfree_extends = refl

unfree_behind : (option_map_or is_free_name (word_value (codes "in")) false ≡ false) × (option_map_or is_free_name (word_value (codes "instanceof")) false ≡ false) × (option_map_or is_free_name (word_value (codes "function")) false ≡ false)
unfolding unicode_ident word_value is_reserved is_strict_reserved encode
unfree_behind = (refl, refl, refl)

-- a name behind `async`, on its line
async_name_step : (c : Allowed) (k : List Frame) (w : List ℕ) {v : List ℕ} → word_value w ≡ Some v → is_free_name v ≡ true → async_piece c k false (Word w) ≡ parameters_read c k true (named_parameter v)
async_name_step c k w e h =
    let a = no_keyword w (codes "in") e h unfree_behind.0 in
    let b = no_keyword w (codes "instanceof") e h unfree_behind.1 in
    let f = no_keyword w (codes "function") e h unfree_behind.2 in
    rw (a, b, f, e, h) refl

-- a name and its arrow
pub name_arrow : (async : Bool) (c : Allowed) (k : List Frame) (m : Bool) (w : List ℕ) {v : List ℕ} (rest : Tokens) → word_value w ≡ Some v → is_free_name v ≡ true → (async ≡ true → m ≡ false) → wanted k ≤ 2 → run (before_arrow async c k) (piece m (Word w) (piece false (Sign arrow) rest)) ≡ run (arrowed c k async (named_parameter v)) rest
name_arrow false c k m w {v} rest e h l g = reference_read c k w (piece false (Sign arrow) rest) e h (λ a. refl) ∙ ap (λ s. run s rest) (allowed_state (wanted k) 2 (arrowed c k false (named_parameter v)) g)
name_arrow true c k true w rest e h l g = untrue (sym (l refl))
name_arrow true c k false w {v} rest e h l g = ap (λ s. run s (piece false (Sign arrow) rest)) (async_name_step c k w e h) ∙ ap (λ s. run s rest) (allowed_state (wanted k) 2 (arrowed c k true (named_parameter v)) g)

-- parameters in parentheses and their arrow
pub group_arrow : (async : Bool) (c : Allowed) (k : List Frame) (m : Bool) (inside : Tokens) (ps : Trees) (r : Maybe) (rest : Tokens) → run (parameter in_parameters no_trees) inside ≡ with_rest ps r → (async ≡ true → m ≡ false) → wanted k ≤ 2 → run (before_arrow async c k) (group m Round inside (piece false (Sign arrow) rest)) ≡ run (arrowed c k async (tree.formal_parameters (nothing_of 0) ps r)) rest
group_arrow false c k m inside ps r rest e l g = ap (λ y. run (parameters_behind c k false y) (piece false (Sign arrow) rest)) e ∙ ap (λ s. run s rest) (allowed_state (wanted k) 2 (arrowed c k false (tree.formal_parameters (nothing_of 0) ps r)) g)
group_arrow true c k true inside ps r rest e l g = untrue (sym (l refl))
group_arrow true c k false inside ps r rest e l g = ap (λ y. run (parameters_behind c k true y) (piece false (Sign arrow) rest)) e ∙ ap (λ s. run s rest) (allowed_state (wanted k) 2 (arrowed c k true (tree.formal_parameters (nothing_of 0) ps r)) g)

-- ---- functions and objects

pub function_name_step : (g : Kept) (async generator : Bool) (w : List ℕ) {v : List ℕ} → word_value w ≡ Some v → is_free_name v ≡ true → function_piece g async generator (Word w) ≡ function_named g async generator (given (tree.binding_identifier (unnumbered v)))
function_name_step g async true w e h = rw (e, h) refl
function_name_step g async false w e h = rw (e, h) refl

-- where a name may be omitted
pub nameless_step : (g : Kept) (s : State) → may_be_nameless g ≡ true → nameless g s ≡ s
nameless_step g s e = rw e refl

pub short_comma : (c : Allowed) (ps : Trees) (w : List ℕ) {v : List ℕ} → word_value w ≡ Some v → is_free_name v ≡ true → word_property_sign c (of_object ps) w comma ≡ property c (of_object (joined ps (more (short_property v) no_trees)))
short_comma c ps w e h = rw (e, h) refl

pub short_done : (ps : Trees) (w : List ℕ) {v : List ℕ} → word_value w ≡ Some v → is_free_name v ≡ true → short_end (of_object ps) (word_value w) ≡ some_trees (joined ps (more (short_property v) no_trees))
short_done ps w e h = rw (e, h) refl

-- a key that is a name, before a sign and at the end
pub word_signed : (c : Allowed) (o : Owner) (p : Punctuator) (w : List ℕ) {v : List ℕ} → word_value w ≡ Some v → by_word (word_value w) (λ x. keyed_sign c o false (tree.identifier_name (named x)) p) ≡ keyed_sign c o false (tree.identifier_name (named v)) p
word_signed c o p w e = rw e refl

pub word_ends : (ms : Trees) (static : Bool) (w : List ℕ) {v : List ℕ} → word_value w ≡ Some v → short_end (of_class ms static) (word_value w) ≡ some_trees (with_field ms static false (tree.identifier_name (named v)) absent)
word_ends ms static w e = rw e refl

pub string_keyed : (c : Allowed) (o : Owner) (q : Quote) (w : List ℕ) {us : List ℕ} → is_backtick q ≡ false → string_value q w ≡ Some us → property_piece c o (Quoted q w) ≡ keyed c o (with_words false false) false (string_of us)
string_keyed c o q w b e = rw (b, e) refl

-- a key, behind the words of a method or not
pub word_key : (c : Allowed) (o : Owner) (m : Manner) (w : List ℕ) {v : List ℕ} → word_value w ≡ Some v → method_key_piece c o m (Word w) ≡ keyed c o m false (tree.identifier_name (named v))
word_key c o m w e = rw e refl

pub string_key : (c : Allowed) (o : Owner) (m : Manner) (q : Quote) (w : List ℕ) {us : List ℕ} → is_backtick q ≡ false → string_value q w ≡ Some us → method_key_piece c o m (Quoted q w) ≡ keyed c o m false (string_of us)
string_key c o m q w b e = rw (b, e) refl

word_faced : (c : Allowed) (o : Owner) (m : Bool) (w : List ℕ) {v : List ℕ} → word_value w ≡ Some v → faced_word c o w m Round ≡ keyed c o (with_words false false) false (tree.identifier_name (named v))
word_faced c o m w e = rw e refl

-- without words the key of a method begins as that of a property
key_alone_begins : {c : Allowed} {computed : Bool} {a : Tokens} {key : Tree} → ReadsKey c computed a key → (o : Owner) (n : Bool) (inside rest : Tokens) → run (property c o) (a ⧺ group n Round inside rest) ≡ run (method_key c o (with_words false false)) (a ⧺ group n Round inside rest)
key_alone_begins {c = c} (grammar.a_name_key {w = w} e) o n inside rest = ap (λ s. run (enter s Round (run (inner s Round) inside)) rest) (word_faced c o n w e) ∙ sym (ap (λ s. run s (group n Round inside rest)) (word_key c o (with_words false false) w e))
key_alone_begins (grammar.a_string_key b e) o n inside rest = refl
key_alone_begins (grammar.a_number_key n) o m inside rest = refl
key_alone_begins (grammar.a_big_integer_key n) o m inside rest = refl
key_alone_begins (grammar.a_computed_key d) o n inside rest = refl

-- and that of a member
member_alone_begins : {c : Allowed} {private computed : Bool} {a : Tokens} {key : Tree} → ReadsMemberKey c private computed a key → (o : Owner) (n : Bool) (inside rest : Tokens) → run (property c o) (a ⧺ group n Round inside rest) ≡ run (method_key c o (with_words false false)) (a ⧺ group n Round inside rest)
member_alone_begins (grammar.a_public_key kr) o n inside rest = key_alone_begins kr o n inside rest
member_alone_begins (grammar.a_private_key e) o n inside rest = refl

-- a line end stands before the first token
abbrev pub line_mark : Tokens → Bool
line_mark done = true
line_mark (piece m p ts) = m
line_mark (group m b inside ts) = m

-- a key behind a word that tells what the method is
key_begins : {c : Allowed} {computed : Bool} {a : Tokens} {key : Tree} → ReadsKey c computed a key → (o : Owner) (w : List ℕ) (m : Manner) → ((f : Manner → State) (s : State) → by_manner (line_mark a) w f s ≡ f m) → (rest : Tokens) → run (property_word c o w) (a ⧺ rest) ≡ run (method_key c o m) (a ⧺ rest)
key_begins {c = c} (grammar.a_name_key {w = v} e) o w m h rest = ap (λ s. run s rest) (h (λ x. method_key_piece c o x (Word v)) (by_static o w (λ x. key_piece c x (Word v))))
key_begins {c = c} (grammar.a_string_key {q = q} {w = v} b e) o w m h rest = ap (λ s. run s rest) (h (λ x. method_key_piece c o x (Quoted q v)) (by_static o w (λ x. key_piece c x (Quoted q v))))
key_begins {c = c} (grammar.a_number_key {w = v} n) o w m h rest = ap (λ s. run s rest) (h (λ x. method_key_piece c o x (Number v)) (by_static o w (λ x. key_piece c x (Number v))))
key_begins {c = c} (grammar.a_big_integer_key {w = v} n) o w m h rest = ap (λ s. run s rest) (h (λ x. method_key_piece c o x (Number v)) (by_static o w (λ x. key_piece c x (Number v))))
key_begins {c = c} (grammar.a_computed_key {inside = inside} d) o w m h rest = ap (λ s. run (enter s Square (run (inner s Square) inside)) rest) (h (λ x. method_key c o x) (by_static o w (λ x. property c x)))

pub member_key_begins : {c : Allowed} {private computed : Bool} {a : Tokens} {key : Tree} → ReadsMemberKey c private computed a key → (o : Owner) (w : List ℕ) (m : Manner) → ((f : Manner → State) (s : State) → by_manner (line_mark a) w f s ≡ f m) → (rest : Tokens) → run (property_word c o w) (a ⧺ rest) ≡ run (method_key c o m) (a ⧺ rest)
member_key_begins (grammar.a_public_key kr) o w m h rest = key_begins kr o w m h rest
member_key_begins {c = c} (grammar.a_private_key {w = v} e) o w m h rest = ap (λ s. run s rest) (h (λ x. method_key_piece c o x (Beyond (Private v))) (by_static o w (λ x. key_piece c x (Beyond (Private v)))))

-- the first token of a key is the first of a method
key_line : {c : Allowed} {computed : Bool} {a : Tokens} {key : Tree} → ReadsKey c computed a key → (rest : Tokens) → on_same_line (a ⧺ rest) ≡ true → line_mark a ≡ false
key_line (grammar.a_name_key {mark = m} e) rest h = not_true m h
key_line (grammar.a_string_key {mark = m} b e) rest h = not_true m h
key_line (grammar.a_number_key {mark = m} n) rest h = not_true m h
key_line (grammar.a_big_integer_key {mark = m} n) rest h = not_true m h
key_line (grammar.a_computed_key {mark = m} d) rest h = not_true m h

member_key_line : {c : Allowed} {private computed : Bool} {a : Tokens} {key : Tree} → ReadsMemberKey c private computed a key → (rest : Tokens) → on_same_line (a ⧺ rest) ≡ true → line_mark a ≡ false
member_key_line (grammar.a_public_key kr) rest h = key_line kr rest h
member_key_line (grammar.a_private_key {mark = m} e) rest h = not_true m h

-- a method without words begins as a property
pub method_alone_begins : {c : Allowed} {private async generator computed : Bool} {ts : Tokens} {key v : Tree} → ReadsMethodAs c private async generator computed ts key v → (o : Owner) (rest : Tokens) → run (property c o) (ts ⧺ rest) ≡ run (method_key c o (with_words false false)) (ts ⧺ rest)
method_alone_begins {c = c} (grammar.a_method_behind_words {ts = ts} {a = a} {head = hd} {inside = inside} n l q kr p b) o rest = grouped (property c o) ts a n Round hd (group l Brace inside done) rest q ∙ (member_alone_begins kr o n hd (group l Brace inside rest) ∙ sym (grouped (method_key c o (with_words false false)) ts a n Round hd (group l Brace inside done) rest q))

-- and one behind `async`, on its line
pub async_method_begins : {c : Allowed} {private async generator computed : Bool} {ts : Tokens} {key v : Tree} → ReadsMethodAs c private async generator computed ts key v → on_same_line ts ≡ true → (o : Owner) (rest : Tokens) → run (property_word c o (codes "async")) (ts ⧺ rest) ≡ run (method_key c o (with_words true false)) (ts ⧺ rest)
async_method_begins {c = c} (grammar.a_method_behind_words {ts = ts} {a = a} {head = hd} {inside = inside} n l q kr p b) s o rest =
    let x : Tokens = group n Round hd (group l Brace inside rest) in
    let m : line_mark a ≡ false = member_key_line kr (group n Round hd (group l Brace inside done)) (ap on_same_line (sym q) ∙ s) in
    grouped (property_word c o (codes "async")) ts a n Round hd (group l Brace inside done) rest q ∙ (member_key_begins kr o (codes "async") (with_words true false) (λ f s. ap (λ z. by_manner z (codes "async") f s) m) x ∙ sym (grouped (method_key c o (with_words true false)) ts a n Round hd (group l Brace inside done) rest q))
