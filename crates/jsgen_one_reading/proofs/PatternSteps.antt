-- What the reader does in patterns, of bindings and of targets.
use Rattle.std.proofs.Common.{◌≡◌, ℕ, ◌≤◌, List, [], ◌∷◌, Bool, true, false, codes, Some, None, refl, ap, sym, ◌∙◌, arith}
use Rattle.jsgen_syntax.specs.Name.{is_free_name}
use Rattle.std.specs.Prelude.{◌||◌, if◌then◌else◌}
use Rattle.std.specs.Str.{bytes_eq}
use Rattle.std.proofs.lemmas.Bool.{le-leb}
use Rattle.jsgen_syntax.specs.Escapes.{word_value}
use Rattle.jsgen_syntax.specs.declared.quote.Quote.{Quote}
use Rattle.jsgen_syntax.specs.Strings.{is_backtick, string_value}
use Rattle.jsgen_tree.specs.Tree.{Tree, Maybe, Trees, no_trees, more, absent, given}
use Rattle.jsgen_tree.specs.Nodes as tree
use Rattle.jsgen_model.specs.Punctuator.{comma, semicolon, equal, Round, Square, Brace, ellipsis}
use Rattle.jsgen_model.specs.Tokens.{Tokens, done, piece, group, ◌⧺◌, Word, Number, Quoted, Sign, Beyond}
use Rattle.jsgen_model.specs.Normal.{nothing_of, named, unnumbered, joined}
use Rattle.jsgen_model.specs.Grammar.{Allowed, with_in, without_in, simple_target, names_function, ReadsBinding, ReadsPattern}
use Rattle.jsgen_model.specs.Grammar as grammar
use Rattle.jsgen_syntax.specs.declared.operator.AssignmentOperator.TheVariants as assignment_operators
use Rattle.jsgen_one_reading.specs.States.{some_exports, assigning, a_colon, a_comma, a_parameter, an_element, rest_property, in_array, names, targets, assign_to, value_of, target_of, default_of, elements_of, first_part, of_object, failed, operand, linked, settled, parameter, binding, bound, before_pattern, pattern_behind, target, pattern_elements, pattern_properties, pattern_key, head, property, wrong, one_tree, some_trees, with_rest, a_body, a_loop, Binder, Place, Holds, Frame, wanted, set_in, State, Answer}
use Rattle.jsgen_one_reading.specs.ExpressionPieces.{with_bound, next_bound, with_target, next_target, variables_bound, takes_default, looping, linked_piece}
use Rattle.jsgen_one_reading.specs.Steps.{binding_piece, stands_alone, takes_value, bound_kind, rest_name_piece, pattern_kind, before_value, short_part, short_value, pattern_word_kind, string_of, properties_piece, step}
use Rattle.jsgen_one_reading.specs.Brackets.{loop_next, other_next, behind, faced_operand, ends_target, trees_then, rest_then}
use Rattle.jsgen_one_reading.specs.Ends.{bound_end, place_end, short_part_end, finish}
use Rattle.jsgen_one_reading.specs.Reader.{run}
use Rattle.jsgen_one_reading.proofs.Steps.{then_done, run_failed, rest_rank, same_same, fits, faces, assignment_fits}
use Rattle.jsgen_one_reading.proofs.Claims.{Settles, LinksTarget, parted}
use Rattle.jsgen_one_reading.proofs.StatementSteps.{loop_word, alone_in, AloneRead, read_alone}

-- ---- bindings

-- a name or brackets are read as a binding, whatever it is for
abbrev pub BindingRead : Allowed → Tokens → Tree → Type 0
BindingRead c ts b = (i : Bool) (g : Binder) (k : List Frame) (rest : Tokens) → run (binding (set_in i c) g k) (ts ⧺ rest) ≡ run (bound (set_in i c) g k b) rest

-- a state before a list goes on as another one where the tokens stand there
abbrev pub Begins : State → State → Tokens → Type 0
Begins s z a = (rest : Tokens) → run s (a ⧺ rest) ≡ run z (a ⧺ rest)

-- a binding and its value are read, at the end, before a comma, and before a semicolon
abbrev pub BoundRead : Allowed → State → Binder → List Frame → Tokens → Tree → Maybe → Type 0
BoundRead c s g k ts b m = (run s ts ≡ bound_end g k (with_bound g b m)) × ((n : Bool) (rest : Tokens) → run s (ts ⧺ piece n (Sign comma) rest) ≡ run (next_bound c g k (with_bound g b m)) rest) × ((n : Bool) (rest : Tokens) → run s (ts ⧺ piece n (Sign semicolon) rest) ≡ run (variables_bound c g k (with_bound g b m)) rest)

-- a binding without a value
pub bound_alone : (c : Allowed) (s : State) (g : Binder) (k : List Frame) (a : Tokens) (b : Tree) → Begins s (binding c g k) a → BindingRead c a b → stands_alone g b ≡ true → BoundRead c s g k a b absent
bound_alone c s g k a b h d e = (
  ap (run s) (sym (then_done a)) ∙ (h done ∙ (d c.in_operator g k done ∙ rw e refl)),
  λ n rest. h (piece n (Sign comma) rest) ∙ (d c.in_operator g k (piece n (Sign comma) rest) ∙ rw e refl),
  λ n rest. h (piece n (Sign semicolon) rest) ∙ (d c.in_operator g k (piece n (Sign semicolon) rest) ∙ rw e refl),
)

value_step : (c : Allowed) (g : Binder) (k : List Frame) (b : Tree) → takes_value g ≡ true → bound_kind c g k b (assigning assignment_operators.Assign) ≡ operand c (value_of g b ∷ k)
value_step c g k b t = rw t refl

-- a binding with its value
pub bound_with_value : (c : Allowed) (s : State) (g : Binder) (k : List Frame) (ts a v : Tokens) (b e : Tree) (m : Bool) → ts ≡ a ⧺ piece m (Sign equal) v → Begins s (binding c g k) a → BindingRead c a b → Settles 2 c v e → takes_value g ≡ true → BoundRead c s g k ts b (given e)
bound_with_value c s g k ts a v b e m q h d f t =
    let upto : (rest : Tokens) → rest_rank c.in_operator rest ≤ 2 → run s (ts ⧺ rest) ≡ run (settled c (value_of g b ∷ k) e) rest = λ rest r. parted s ts a m (Sign equal) v rest q ∙ (h (piece m (Sign equal) (v ⧺ rest)) ∙ (d c.in_operator g k (piece m (Sign equal) (v ⧺ rest)) ∙ (ap (λ x. run x (v ⧺ rest)) (value_step c g k b t) ∙ f (value_of g b ∷ k) rest (omega arith) r))) in
    (ap (run s) (sym (then_done ts)) ∙ upto done (omega arith), λ n rest. upto (piece n (Sign comma) rest) (omega arith), λ n rest. upto (piece n (Sign semicolon) rest) (omega arith))

pub name_bound : (c : Allowed) (g : Binder) (k : List Frame) (w : List ℕ) {v : List ℕ} → word_value w ≡ Some v → is_free_name v ≡ true → binding_piece c g k (Word w) ≡ bound c g k (tree.binding_identifier (unnumbered v))
name_bound c g k w e x = rw (e, x) refl

pub rest_name_step : (c : Allowed) (ps : Trees) (w : List ℕ) {v : List ℕ} → word_value w ≡ Some v → is_free_name v ≡ true → rest_name_piece c ps (Word w) ≡ bound c (rest_property ps) [] (tree.binding_identifier (unnumbered v))
rest_name_step c ps w e x = rw (e, x) refl

-- a binding begins a parameter
pub parameter_begins : {d : Allowed} {a : Tokens} {b : Tree} → ReadsBinding d a b → (c : Allowed) (ps : Trees) → Begins (parameter c ps) (binding c (a_parameter ps) []) a
parameter_begins (grammar.a_bound_name e x) c ps rest = refl
parameter_begins (grammar.an_object_binding p) c ps rest = refl
parameter_begins (grammar.an_array_binding p) c ps rest = refl

-- and an element
pub bound_element_begins : {d : Allowed} {a : Tokens} {b : Tree} → ReadsBinding d a b → (c : Allowed) (es : Trees) → Begins (pattern_elements names c es) (binding c (an_element es) []) a
bound_element_begins (grammar.a_bound_name e x) c es rest = refl
bound_element_begins (grammar.an_object_binding p) c es rest = refl
bound_element_begins (grammar.an_array_binding p) c es rest = refl

-- ---- properties of patterns

pub short_part_done : (h : Holds) (ps : Trees) (w : List ℕ) {v : List ℕ} → word_value w ≡ Some v → is_free_name v ≡ true → short_part_end h ps (word_value w) ≡ with_rest (joined ps (more (short_part h v) no_trees)) absent
short_part_done h ps w e x = rw (e, x) refl

pub short_part_comma : (h : Holds) (c : Allowed) (ps : Trees) (w : List ℕ) {v : List ℕ} → word_value w ≡ Some v → is_free_name v ≡ true → pattern_word_kind h c ps w a_comma ≡ pattern_properties h c (joined ps (more (short_part h v) no_trees))
short_part_comma h c ps w e x = rw (e, x) refl

pub short_part_value : (h : Holds) (c : Allowed) (ps : Trees) (w : List ℕ) {v : List ℕ} → word_value w ≡ Some v → is_free_name v ≡ true → pattern_word_kind h c ps w (assigning assignment_operators.Assign) ≡ operand c (short_value h ps v ∷ [])
short_part_value h c ps w e x = rw (e, x) refl

pub pattern_word_colon : (h : Holds) (c : Allowed) (ps : Trees) (w : List ℕ) {v : List ℕ} → word_value w ≡ Some v → pattern_word_kind h c ps w a_colon ≡ before_value h c ps false (tree.identifier_name (named v))
pattern_word_colon h c ps w e = rw e refl

pub pattern_string_key : (h : Holds) (c : Allowed) (ps : Trees) (q : Quote) (w : List ℕ) {us : List ℕ} → is_backtick q ≡ false → string_value q w ≡ Some us → properties_piece h c ps (Quoted q w) ≡ pattern_key h c ps false (string_of us)
pattern_string_key h c ps q w b e = rw (b, e) refl

-- ---- targets

-- a literal is no target
literal_ends : (c : Allowed) (x : Answer) (f : Trees → Tree) → ((es : Trees) → simple_target (f es) ≡ None) → finish (trees_then x (λ es. linked c alone_in (f es))) ≡ wrong
literal_ends c (some_trees es) f n = rw (n es) refl
literal_ends c wrong f n = refl
literal_ends c (one_tree u) f n = refl
literal_ends c (with_rest ts r) f n = refl
literal_ends c (a_body ds ss) f n = refl
literal_ends c (a_loop l) f n = refl
literal_ends c (some_exports r ss) f n = refl

-- nor is it before a comma
literal_comma : (c : Allowed) (x : Answer) (f : Trees → Tree) → ((es : Trees) → simple_target (f es) ≡ None) → (m : Bool) → step (trees_then x (λ es. linked c alone_in (f es))) m (Sign comma) ≡ failed
literal_comma c (some_trees es) f n m = rw (n es) refl
literal_comma c wrong f n m = refl
literal_comma c (one_tree u) f n m = refl
literal_comma c (with_rest ts r) f n m = refl
literal_comma c (a_body ds ss) f n m = refl
literal_comma c (a_loop l) f n m = refl
literal_comma c (some_exports r ss) f n m = refl

-- what takes the rest has no default
pattern_equal : (c : Allowed) (x : Answer) (f : Trees → Maybe → Tree) (m : Bool) → step (rest_then x (λ es r. pattern_behind c alone_in (f es r))) m (Sign equal) ≡ failed
pattern_equal c (with_rest ts r) f m = refl
pattern_equal c wrong f m = refl
pattern_equal c (one_tree u) f m = refl
pattern_equal c (some_trees es) f m = refl
pattern_equal c (a_body ds ss) f m = refl
pattern_equal c (a_loop l) f m = refl
pattern_equal c (some_exports r ss) f m = refl

open_word : (b : Bool) → ends_target (if b then loop_next else other_next) ≡ false
open_word true = refl
open_word false = refl

-- brackets that begin a target are the whole of none but a pattern
open_square : (c : Allowed) (m : Bool) (inside us : Tokens) (r : Maybe) → run (operand c alone_in) (group m Square inside us) ≡ with_rest no_trees r → (rest : Tokens) → ends_target (behind (us ⧺ rest)) ≡ false
open_square c m inside done r e rest = absurd (let f = literal_ends c (run (operand (with_in c) (elements_of no_trees ∷ [])) inside) (λ es. tree.array (nothing_of 0) es) (λ es. refl) in cc)
open_square c m inside (piece n (Sign comma) us) r e rest = absurd (let f = ap (λ y. run y us) (literal_comma c (run (operand (with_in c) (elements_of no_trees ∷ [])) inside) (λ es. tree.array (nothing_of 0) es) (λ es. refl) n) ∙ run_failed us in cc)
open_square c m inside (piece n (Sign equal) us) r e rest = absurd (let f = ap (λ y. run y us) (pattern_equal c (run (pattern_elements targets (with_in c) no_trees) inside) (λ es z. tree.array_target (nothing_of 0) es z) n) ∙ run_failed us in cc)
open_square c m inside (piece n (Sign p) us) r e rest = refl
open_square c m inside (piece n (Word w) us) r e rest = open_word (bytes_eq w (codes "of") || bytes_eq w (codes "in"))
open_square c m inside (piece n (Number w) us) r e rest = refl
open_square c m inside (piece n (Quoted q w) us) r e rest = refl
open_square c m inside (piece n (Beyond s) us) r e rest = refl
open_square c m inside (group n b more_inside us) r e rest = refl

open_brace : (c : Allowed) (m : Bool) (inside us : Tokens) (r : Maybe) → run (operand c alone_in) (group m Brace inside us) ≡ with_rest no_trees r → (rest : Tokens) → ends_target (behind (us ⧺ rest)) ≡ false
open_brace c m inside done r e rest = absurd (let f = literal_ends c (run (property (with_in c) (of_object no_trees)) inside) (λ ps. tree.object_expression (nothing_of 0) ps) (λ ps. refl) in cc)
open_brace c m inside (piece n (Sign comma) us) r e rest = absurd (let f = ap (λ y. run y us) (literal_comma c (run (property (with_in c) (of_object no_trees)) inside) (λ ps. tree.object_expression (nothing_of 0) ps) (λ ps. refl) n) ∙ run_failed us in cc)
open_brace c m inside (piece n (Sign equal) us) r e rest = absurd (let f = ap (λ y. run y us) (pattern_equal c (run (pattern_properties targets (with_in c) no_trees) inside) (λ ps z. tree.object_target (nothing_of 0) ps z) n) ∙ run_failed us in cc)
open_brace c m inside (piece n (Sign p) us) r e rest = refl
open_brace c m inside (piece n (Word w) us) r e rest = open_word (bytes_eq w (codes "of") || bytes_eq w (codes "in"))
open_brace c m inside (piece n (Number w) us) r e rest = refl
open_brace c m inside (piece n (Quoted q w) us) r e rest = refl
open_brace c m inside (piece n (Beyond s) us) r e rest = refl
open_brace c m inside (group n b more_inside us) r e rest = refl

-- a simple target is read as an operand is
target_begins : (c : Allowed) (a : Tokens) (r : Maybe) → run (operand c alone_in) a ≡ with_rest no_trees r → (g : Place) → Begins (target c g) (operand c (target_of g ∷ [])) a
target_begins c done r e g rest = absurd (cc)
target_begins c (piece m p us) r e g rest = refl
target_begins c (group m Round inside us) r e g rest = refl
target_begins c (group m Square inside us) r e g rest = faces (target c g) (faced_operand c (target_of g ∷ []) Square (behind (us ⧺ rest))) m Square inside (us ⧺ rest) (rw (open_square c m inside us r e rest) refl)
target_begins c (group m Brace inside us) r e g rest = faces (target c g) (faced_operand c (target_of g ∷ []) Brace (behind (us ⧺ rest))) m Brace inside (us ⧺ rest) (rw (open_brace c m inside us r e rest) refl)

-- and begins an element
pub target_element_begins : (c : Allowed) (a : Tokens) → AloneRead c a → (es : Trees) → Begins (pattern_elements targets c es) (target c (in_array es)) a
target_element_begins c done (r, e) es rest = absurd (cc)
target_element_begins c (piece m (Word w) us) e es rest = refl
target_element_begins c (piece m (Number w) us) e es rest = refl
target_element_begins c (piece m (Quoted q w) us) e es rest = refl
target_element_begins c (piece m (Beyond s) us) e es rest = refl
target_element_begins c (piece m (Sign comma) us) (r, e) es rest = absurd (let f = run_failed us in cc)
target_element_begins c (piece m (Sign ellipsis) us) (r, e) es rest = absurd (let f = run_failed us in cc)
target_element_begins c (piece m (Sign p) us) e es rest = refl
target_element_begins c (group m b inside us) e es rest = refl

-- and so does a pattern
pub pattern_element_begins : {d : Allowed} {a : Tokens} {t : Tree} → ReadsPattern d a t → (c : Allowed) (es : Trees) → Begins (pattern_elements targets c es) (target c (in_array es)) a
pattern_element_begins (grammar.an_array_target p) c es rest = refl
pattern_element_begins (grammar.an_object_target p) c es rest = refl

-- a pattern is read before `=`, where a target stands, and in the head of a loop; all alike whether `in` may stand
abbrev pub PatternRead : Allowed → Tokens → Tree → Type 0
PatternRead c ts t =
    ((i : Bool) (k : List Frame) (m : Bool) (rest : Tokens) → run (operand (set_in i c) k) (ts ⧺ piece m (Sign equal) rest) ≡ run (pattern_behind (set_in i c) k t) (piece m (Sign equal) rest))
    × ((i : Bool) (g : Place) (rest : Tokens) → ends_target (behind rest) ≡ true → run (target (set_in i c) g) (ts ⧺ rest) ≡ run (pattern_behind (set_in i c) (target_of g ∷ []) t) rest)
    × ((over waits m : Bool) (rest : Tokens) → run (head waits (without_in c)) (ts ⧺ piece m (Word (loop_word over)) rest) ≡ run (looping over waits (without_in c) t) rest)

-- brackets
pub square_read : (c : Allowed) (m : Bool) (inside : Tokens) (es : Trees) (r : Maybe) → run (pattern_elements targets (with_in c) no_trees) inside ≡ with_rest es r → PatternRead c (group m Square inside done) (tree.array_target (nothing_of 0) es r)
square_read c m inside es r e = (
  λ i k n rest. ap (λ y. run (rest_then y (λ xs z. pattern_behind (set_in i c) k (tree.array_target (nothing_of 0) xs z))) (piece n (Sign equal) rest)) e,
  λ i g rest h. faces (target (set_in i c) g) (before_pattern (set_in i c) (target_of g ∷ [])) m Square inside rest (rw h refl) ∙ ap (λ y. run (rest_then y (λ xs z. pattern_behind (set_in i c) (target_of g ∷ []) (tree.array_target (nothing_of 0) xs z))) rest) e,
  λ over waits n rest. by over waits n rest,
)
  where
    by : (over waits n : Bool) (rest : Tokens) → run (head waits (without_in c)) (group m Square inside (piece n (Word (loop_word over)) rest)) ≡ run (looping over waits (without_in c) (tree.array_target (nothing_of 0) es r)) rest
    by true waits n rest = ap (λ y. run (rest_then y (λ xs z. pattern_behind (without_in c) (first_part waits ∷ []) (tree.array_target (nothing_of 0) xs z))) (piece n (Word (codes "of")) rest)) e
    by false waits n rest = ap (λ y. run (rest_then y (λ xs z. pattern_behind (without_in c) (first_part waits ∷ []) (tree.array_target (nothing_of 0) xs z))) (piece n (Word (codes "in")) rest)) e

-- and braces
pub brace_read : (c : Allowed) (m : Bool) (inside : Tokens) (ps : Trees) (r : Maybe) → run (pattern_properties targets (with_in c) no_trees) inside ≡ with_rest ps r → PatternRead c (group m Brace inside done) (tree.object_target (nothing_of 0) ps r)
brace_read c m inside ps r e = (
  λ i k n rest. ap (λ y. run (rest_then y (λ xs z. pattern_behind (set_in i c) k (tree.object_target (nothing_of 0) xs z))) (piece n (Sign equal) rest)) e,
  λ i g rest h. faces (target (set_in i c) g) (before_pattern (set_in i c) (target_of g ∷ [])) m Brace inside rest (rw h refl) ∙ ap (λ y. run (rest_then y (λ xs z. pattern_behind (set_in i c) (target_of g ∷ []) (tree.object_target (nothing_of 0) xs z))) rest) e,
  λ over waits n rest. by over waits n rest,
)
  where
    by : (over waits n : Bool) (rest : Tokens) → run (head waits (without_in c)) (group m Brace inside (piece n (Word (loop_word over)) rest)) ≡ run (looping over waits (without_in c) (tree.object_target (nothing_of 0) ps r)) rest
    by true waits n rest = ap (λ y. run (rest_then y (λ xs z. pattern_behind (without_in c) (first_part waits ∷ []) (tree.object_target (nothing_of 0) xs z))) (piece n (Word (codes "of")) rest)) e
    by false waits n rest = ap (λ y. run (rest_then y (λ xs z. pattern_behind (without_in c) (first_part waits ∷ []) (tree.object_target (nothing_of 0) xs z))) (piece n (Word (codes "in")) rest)) e

-- a pattern is given a value
pub pattern_step : (c : Allowed) (k : List Frame) (t : Tree) → wanted k ≤ 2 → pattern_kind c k t (assigning assignment_operators.Assign) ≡ operand c (assign_to assignment_operators.Assign t t ∷ k)
pattern_step c k t h = rw (le-leb (wanted k) 2 h) refl

-- a target and its default are read, at the end and before a comma
abbrev pub TargetRead : Allowed → State → Place → Tokens → Tree → Type 0
TargetRead c s g ts t = (run s ts ≡ place_end g t) × ((n : Bool) (rest : Tokens) → run s (ts ⧺ piece n (Sign comma) rest) ≡ run (next_target c g (with_target g t)) rest)

-- a simple target without a default
pub simple_alone : (c : Allowed) (s : State) (g : Place) (ts : Tokens) (t u : Tree) → LinksTarget c ts t → simple_target t ≡ Some u → Begins s (target c g) ts → TargetRead c s g ts u
simple_alone c s g ts t u l e b =
    let w = read_alone c ts t u l e in
    let upto : (rest : Tokens) → fits rest ts t ≡ true → run s (ts ⧺ rest) ≡ run (linked c (target_of g ∷ []) t) rest = λ rest f. b rest ∙ (target_begins c ts w.0 w.1 g rest ∙ l u e c.in_operator (target_of g ∷ []) rest (omega arith) f) in
    (ap (run s) (sym (then_done ts)) ∙ (upto done refl ∙ rw e refl), λ n rest. upto (piece n (Sign comma) rest) refl ∙ rw e refl)

-- a pattern without a default
pub pattern_alone : (c : Allowed) (s : State) (g : Place) (ts : Tokens) (t : Tree) → PatternRead c ts t → Begins s (target c g) ts → TargetRead c s g ts t
pattern_alone c s g ts t p b = (ap (run s) (sym (then_done ts)) ∙ (b done ∙ p.1 c.in_operator g done refl), λ n rest. b (piece n (Sign comma) rest) ∙ p.1 c.in_operator g (piece n (Sign comma) rest) refl)

-- behind a default
default_read : (c : Allowed) (s : State) (g : Place) (ts : Tokens) (t u e : Tree) → names_function assignment_operators.Assign t e ≡ names_function assignment_operators.Assign u e → ((rest : Tokens) → rest_rank c.in_operator rest ≤ 2 → run s (ts ⧺ rest) ≡ run (settled c (default_of g t u ∷ []) e) rest) → TargetRead c s g ts (tree.target_with_default (nothing_of 0) u e)
default_read c s g ts t u e n upto =
    let alike = same_same (names_function assignment_operators.Assign t e) (names_function assignment_operators.Assign u e) n in
    (ap (run s) (sym (then_done ts)) ∙ (upto done (omega arith) ∙ rw alike refl), λ j rest. upto (piece j (Sign comma) rest) (omega arith) ∙ rw alike refl)

default_step : (c : Allowed) (g : Place) (t u : Tree) (m : Bool) → takes_default g ≡ true → simple_target t ≡ Some u → linked_piece c (target_of g ∷ []) t m (assigning assignment_operators.Assign) ≡ operand c (default_of g t u ∷ [])
default_step c g t u m d e = rw (e, d) refl

pattern_default_step : (c : Allowed) (g : Place) (t : Tree) → takes_default g ≡ true → pattern_kind c (target_of g ∷ []) t (assigning assignment_operators.Assign) ≡ operand c (default_of g t t ∷ [])
pattern_default_step c g t d = rw d refl

-- a simple target with its default
pub simple_with_default : (c : Allowed) (s : State) (g : Place) (ts a b : Tokens) (t u e : Tree) (m : Bool) → ts ≡ a ⧺ piece m (Sign equal) b → LinksTarget c a t → simple_target t ≡ Some u → Settles 2 c b e → names_function assignment_operators.Assign t e ≡ names_function assignment_operators.Assign u e → takes_default g ≡ true → Begins s (target c g) a → TargetRead c s g ts (tree.target_with_default (nothing_of 0) u e)
simple_with_default c s g ts a b t u e m q l x f n d z =
    let w = read_alone c a t u l x in
    default_read c s g ts t u e n (λ rest r. parted s ts a m (Sign equal) b rest q ∙ (z (piece m (Sign equal) (b ⧺ rest)) ∙ (target_begins c a w.0 w.1 g (piece m (Sign equal) (b ⧺ rest)) ∙ (l u x c.in_operator (target_of g ∷ []) (piece m (Sign equal) (b ⧺ rest)) (omega arith) (assignment_fits assignment_operators.Assign m (b ⧺ rest) a t u x) ∙ (ap (λ y. run y (b ⧺ rest)) (default_step c g t u m d x) ∙ f (default_of g t u ∷ []) rest (omega arith) r)))))

-- a pattern with its default
pub pattern_with_default : (c : Allowed) (s : State) (g : Place) (ts a b : Tokens) (t e : Tree) (m : Bool) → ts ≡ a ⧺ piece m (Sign equal) b → PatternRead c a t → Settles 2 c b e → takes_default g ≡ true → Begins s (target c g) a → TargetRead c s g ts (tree.target_with_default (nothing_of 0) t e)
pattern_with_default c s g ts a b t e m q p f d z =
    default_read c s g ts t t e refl (λ rest r. parted s ts a m (Sign equal) b rest q ∙ (z (piece m (Sign equal) (b ⧺ rest)) ∙ (p.1 c.in_operator g (piece m (Sign equal) (b ⧺ rest)) refl ∙ (ap (λ y. run y (b ⧺ rest)) (pattern_default_step c g t d) ∙ f (default_of g t t ∷ []) rest (omega arith) r))))
