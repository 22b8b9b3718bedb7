-- What rows are spelled with settles as what is in it does: operations, links, blocks, bodies and lists.
use Rattle.std.proofs.Common.{◌≡◌, ℕ, List, Bool, true, false, if◌then◌else◌, Option, Some, None, refl, sym, ap, ◌∙◌}
use Rattle.std.specs.Option.{is_some}
use Rattle.std.proofs.lemmas.Bool.{both_ways}
use Rattle.jsgen_syntax.specs.declared.span.Span.{Span}
use Rattle.jsgen_syntax.specs.declared.operator.BinaryOperator.{BinaryOperator}
use Rattle.jsgen_syntax.specs.declared.operator.BinaryOperator.TheVariants as operators
use Rattle.jsgen_syntax.specs.declared.operator.LogicalOperator.{LogicalOperator}
use Rattle.jsgen_syntax.specs.declared.operator.LogicalOperator.TheVariants as logical_operators
use Rattle.jsgen_syntax.specs.declared.operator.UnaryOperator.{UnaryOperator}
use Rattle.jsgen_syntax.specs.declared.operator.UnaryOperator.TheVariants as unary_operators
use Rattle.jsgen_syntax.specs.declared.operator.UpdateOperator.{UpdateOperator}
use Rattle.jsgen_syntax.specs.declared.operator.UpdateOperator.TheVariants as update_operators
use Rattle.jsgen_syntax.specs.declared.operator.AssignmentOperator.{AssignmentOperator}
use Rattle.jsgen_syntax.specs.declared.operator.AssignmentOperator.TheVariants as assignment_operators
use Rattle.jsgen_place.specs.declared.shape.Shape.{Shape}
use Rattle.jsgen_place.specs.declared.shape.Shape.TheVariants as shapes
use Rattle.jsgen_tree.specs.Named.{Named}
use Rattle.jsgen_tree.specs.Tree.{Tree, Trees, no_trees, more, hole, type_of, span_of}
use Rattle.jsgen_tree.specs.Nodes as tree
use Rattle.jsgen_tree.specs.Inside.{inside_parentheses, ends_open, is_only_expression}
use Rattle.jsgen_model.specs.Punctuator.{Round, Brace}
use Rattle.jsgen_model.specs.Items.{Items, ◌⊕◌, Manner, nothing, word, operator, comments, link_mark, of_call, end_mark, in_lines, lined_case}
use Rattle.jsgen_model.specs.Resolved.{resolved, resolved_trees, after, after_trees}
use Rattle.jsgen_model.specs.Operators.{operator_item, logical_item, unary_sign, behind_unary, update_item, assignment_item, marked}
use Rattle.jsgen_model.specs.Spellings.{update_items, operation, name_link, bracket_link, linked_items, starts_of, argument_items, new_arguments, items_if, as_statement, string_in, string_statement, unless_string, span_inside, first_statement, filled_braces, braces, block_braces, block_items, shape, braces_end, body_end, consequent_items, body_items, alternate_items, do_items, lead_to, led_items, is_one, case_items, apart_from_of, before_of, line_or_space, on_lines, comma_if, object_inside, before_member, before_expression, is_marked_as_called}
use Rattle.jsgen_private_laws.proofs.Same.{span_same, ends_open_same}
use Rattle.jsgen_private_laws.proofs.SpelledQuestions.{starts_of_same, string_statement_same, span_inside_same, shape_same, before_expression_same}
use Rattle.jsgen_private_laws.proofs.Settled.{Scope}
use Rattle.jsgen_private_laws.proofs.Settles.{Settles, is_still, plain, both, before, behind, becomes, counts, deeper_settles, brackets_settle, wrapped_settles, parentheses_settle, left_out_settles, where_same_settles, in_lines_settle, lined_settles}

-- ---- where a test holds

pub if_settles : {s : Scope} {n : ℕ} {i j : Items} (b : Bool) → Settles s n i j n → Settles s n (items_if b i) (items_if b j) n
if_settles true e = e
if_settles false e = plain refl

pub plain_if : {s : Scope} {n : ℕ} (b : Bool) (i : Items) → is_still i ≡ true → Settles s n (items_if b i) (items_if b i) n
plain_if b i e = if_settles b (plain e)

-- ---- operations

pub operator_still : (o : BinaryOperator) → is_still (operator_item o) ≡ true
operator_still operators.In = refl
operator_still o = refl

pub logical_still : (o : LogicalOperator) → is_still (logical_item o) ≡ true
logical_still logical_operators.Or = refl
logical_still o = refl

pub unary_still : (o : UnaryOperator) → is_still (unary_sign o) ≡ true
unary_still unary_operators.UnaryPlus = refl
unary_still o = refl

pub behind_unary_still : (o : UnaryOperator) → is_still (behind_unary o) ≡ true
behind_unary_still unary_operators.Typeof = refl
behind_unary_still o = refl

pub update_item_still : (o : UpdateOperator) → is_still (update_item o) ≡ true
update_item_still update_operators.Increment = refl
update_item_still o = refl

pub assignment_item_still : (o : AssignmentOperator) → is_still (assignment_item o) ≡ true
assignment_item_still assignment_operators.Assign = refl
assignment_item_still o = refl

pub marked_still : (own : Span) (i : Items) → is_still i ≡ true → is_still (marked own i) ≡ true
marked_still own (word w) e = refl
marked_still own (operator p) e = refl
marked_still own i e = e

pub operation_settles : {s : Scope} {n m o : ℕ} {item i j k l : Items} (test : Bool) → is_still item ≡ true → Settles s n i j m → Settles s m k l o → Settles s n (operation test item i k) (operation test item j l) o
operation_settles test h e f = wrapped_settles test (both e (before refl (before h (before refl f))))

pub update_settles : {s : Scope} {n m : ℕ} {i j k l : Items} (own : Span) (prefix : Bool) (item : Items) → is_still item ≡ true → Settles s n i j m → Settles s n k l m → Settles s n (update_items own prefix item i k) (update_items own prefix item j l) m
update_settles own true item h e f = before (marked_still own item h) f
update_settles own false item h e f = before refl (behind e h)

-- ---- links and calls

pub name_link_still : (b : Bool) → is_still (name_link b) ≡ true
name_link_still true = refl
name_link_still false = refl

pub bracket_link_still : (b : Bool) → is_still (bracket_link b) ≡ true
bracket_link_still true = refl
bracket_link_still false = refl

pub linked_settles : {s : Scope} {n m : ℕ} {i j : Items} (t : Tree) → Settles s n i j m → Settles s n (linked_items t i) (linked_items (resolved s.tables s.classes n t) j) m
linked_settles {s} {n} {m} {i} {j} t e = becomes (behind e refl) (ap (λ span. j ⊕ link_mark span) (sym (span_same s.tables s.classes n t)))

pub arguments_settle : {s : Scope} {n m : ℕ} {i j : Items} (quoted : Bool) (ts : Trees) (own : Span) → Settles s n i j m → Settles s n (argument_items quoted ts own i) (argument_items quoted (resolved_trees s.tables s.classes n ts) own j) m
arguments_settle {s} {n} {m} {i} {j} quoted ts own e = becomes (behind (in_lines_settle (of_call quoted) (starts_of ts) own.end e) refl) (ap (λ starts. in_lines (of_call quoted) starts own.end j ⊕ end_mark own) (sym (starts_of_same s.tables s.classes n ts)))

pub new_arguments_settle : {s : Scope} {n m : ℕ} {i j : Items} (b : Bool) → (b ≡ false → m ≡ n) → Settles s n i j m → Settles s n (new_arguments b i) (new_arguments b j) m
new_arguments_settle true h e = brackets_settle Round e
new_arguments_settle false h e = counts (parentheses_settle (left_out_settles (counts e (h refl)))) (sym (h refl))

-- ---- comments before expressions

unless_marked_still : (b : Bool) (manner : Manner) (offset : ℕ) → is_still (if b then nothing else comments manner offset) ≡ true
unless_marked_still true manner offset = refl
unless_marked_still false manner offset = refl

pub before_expression_still : (manner : Manner) (t : Tree) → is_still (before_expression manner t) ≡ true
before_expression_still manner (tree.parenthesized a expression) = before_expression_still manner expression
before_expression_still manner t = unless_marked_still (is_marked_as_called t) manner (span_of t).start

pub before_expression_settles : {s : Scope} {n : ℕ} (manner : Manner) (t : Tree) → Settles s n (before_expression manner t) (before_expression manner (resolved s.tables s.classes n t)) n
before_expression_settles {s} {n} manner t = becomes (plain (before_expression_still manner t)) (sym (before_expression_same s.tables s.classes manner n t))

-- ---- statements

pub as_statement_settles : {s : Scope} {n m : ℕ} {i j : Items} (test : Bool) (start : ℕ) → Settles s n i j m → Settles s n (as_statement test start i) (as_statement test start j) m
as_statement_settles test start e = both (plain_if test _ refl) (both e (plain_if test _ refl))

-- a string counts no class, wherever it stands in parentheses
pub after_inside : (n : ℕ) (t : Tree) → after (inside_parentheses t) n ≡ after t n
after_inside n (tree.parenthesized a e) = by (is_only_expression (type_of e)) (after_inside n e)
  where
    by : (b : Bool) → after (inside_parentheses e) n ≡ after e n → after (if b then inside_parentheses e else tree.parenthesized a e) n ≡ after e n
    by true h = h
    by false h = refl
after_inside n t = refl

string_in_after : (n : ℕ) (t : Tree) (w : List ℕ) → string_in t ≡ Some w → after t n ≡ n
string_in_after n (tree.string_literal a) w e = refl
string_in_after n t w e = absurd (both_ways false refl (ap is_some e))

pub string_statement_after : (n : ℕ) (t : Tree) (w : List ℕ) → string_statement t ≡ Some w → after t n ≡ n
string_statement_after n (tree.expression_statement a expression) w e = sym (after_inside n expression) ∙ string_in_after n (inside_parentheses expression) w e
string_statement_after n t w e = absurd (both_ways false refl (ap is_some e))

unless_string_settles : {s : Scope} {n m : ℕ} {i j : Items} (line own : Span) (o : Option (List ℕ)) → ((w : List ℕ) → o ≡ Some w → m ≡ n) → Settles s n i j m → Settles s n (unless_string line own o i) (unless_string line own o j) m
unless_string_settles line own (Some w) h e = counts (plain refl) (sym (h w refl))
unless_string_settles line own None h e = e

pub first_statement_settles : {s : Scope} {n : ℕ} {i j : Items} (t : Tree) → Settles s n i j (after t n) → Settles s n (first_statement t i) (first_statement (resolved s.tables s.classes n t) j) (after t n)
first_statement_settles {s} {n} {i} {j} t e =
    let line = span_same s.tables s.classes n t in
    let own = span_inside_same s.tables s.classes n t in
    let said = string_statement_same s.tables s.classes n t in
    becomes (unless_string_settles (span_of t) (span_inside t) (string_statement t) (string_statement_after n t) e) (sym (λ x. unless_string (line x) (own x) (said x) j))

pub filled_settles : {s : Scope} {n m : ℕ} {i j : Items} (own : Span) → Settles s n i j m → Settles s n (filled_braces own i) (filled_braces own j) m
filled_settles own e = before refl (behind (brackets_settle Brace (before refl (behind (deeper_settles e) refl))) refl)

pub braces_settle : {s : Scope} {n : ℕ} {i j : Items} (own : Span) (ts : Trees) → Settles s n i j (after_trees ts n) → Settles s n (braces own ts i) (braces own (resolved_trees s.tables s.classes n ts) j) (after_trees ts n)
braces_settle own no_trees e = plain refl
braces_settle own (more t ts) e = filled_settles own e
braces_settle own (hole ts) e = filled_settles own e

pub block_braces_settle : {s : Scope} {n : ℕ} {i j : Items} (own : Span) (ts : Trees) → Settles s n i j (after_trees ts n) → Settles s n (block_braces own ts i) (block_braces own (resolved_trees s.tables s.classes n ts) j) (after_trees ts n)
block_braces_settle own no_trees e = plain refl
block_braces_settle own (more t ts) e = filled_settles own (behind e refl)
block_braces_settle own (hole ts) e = filled_settles own (behind e refl)

pub block_settles : {s : Scope} {n m : ℕ} {i j : Items} (test : Bool) → Settles s n i j m → Settles s n (block_items test i) (block_items test j) m
block_settles test e = both (plain_if test _ refl) (both e (plain_if test _ refl))

-- ---- bodies: an empty statement isn't printed by its own row, and counts no class

pub braces_end_still : (b : Bool) → is_still (braces_end b) ≡ true
braces_end_still true = refl
braces_end_still false = refl

pub body_end_still : (b : Bool) → is_still (body_end b) ≡ true
body_end_still true = refl
body_end_still false = refl

consequent_by : {s : Scope} {n m : ℕ} {i j k l : Items} (own : Span) (of : Shape) (dangles alternate : Bool) → (of ≡ shapes.Empty → m ≡ n) → Settles s n i j m → Settles s n k l m → Settles s n (consequent_items of dangles (record { span = own; inner = i; whole = k; else_follows = alternate })) (consequent_items of dangles (record { span = own; inner = j; whole = l; else_follows = alternate })) m
consequent_by own shapes.Block false alternate h e f = before refl (behind e (braces_end_still alternate))
consequent_by own shapes.Empty false alternate h e f = counts (before refl (before refl (plain (body_end_still alternate)))) (sym (h refl))
consequent_by own of false alternate h e f = before refl (behind f (body_end_still alternate))
consequent_by own of true alternate h e f = before refl (behind (filled_settles own f) (braces_end_still alternate))

pub consequent_settles : {s : Scope} {n : ℕ} {i j k l : Items} (t : Tree) (alternate : Bool) → (shape t ≡ shapes.Empty → after t n ≡ n) → Settles s n i j (after t n) → Settles s n k l (after t n) → Settles s n (consequent_items (shape t) (ends_open t) (record { span = span_of t; inner = i; whole = k; else_follows = alternate })) (consequent_items (shape (resolved s.tables s.classes n t)) (ends_open (resolved s.tables s.classes n t)) (record { span = span_of (resolved s.tables s.classes n t); inner = j; whole = l; else_follows = alternate })) (after t n)
consequent_settles {s} {n} {i} {j} {k} {l} t alternate h e f =
    let own = span_same s.tables s.classes n t in
    let of = shape_same s.tables s.classes n t in
    let dangles = ends_open_same s.tables s.classes n t in
    becomes (consequent_by (span_of t) (shape t) (ends_open t) alternate h e f) (sym (λ x. consequent_items (of x) (dangles x) (record { span = own x; inner = j; whole = l; else_follows = alternate })))

body_by : {s : Scope} {n m : ℕ} {i j k l : Items} (of : Shape) → (of ≡ shapes.Empty → m ≡ n) → Settles s n i j m → Settles s n k l m → Settles s n (body_items of i k) (body_items of j l) m
body_by shapes.Block h e f = before refl (behind e refl)
body_by shapes.Empty h e f = counts (plain refl) (sym (h refl))
body_by of h e f = before refl f

pub body_settles : {s : Scope} {n : ℕ} {i j k l : Items} (t : Tree) → (shape t ≡ shapes.Empty → after t n ≡ n) → Settles s n i j (after t n) → Settles s n k l (after t n) → Settles s n (body_items (shape t) i k) (body_items (shape (resolved s.tables s.classes n t)) j l) (after t n)
body_settles {s} {n} {i} {j} {k} {l} t h e f = becomes (body_by (shape t) h e f) (ap (λ of. body_items of j l) (sym (shape_same s.tables s.classes n t)))

alternate_by : {s : Scope} {n m : ℕ} {i j k l : Items} (of : Shape) → (of ≡ shapes.Empty → m ≡ n) → Settles s n i j m → Settles s n k l m → Settles s n (alternate_items of i k) (alternate_items of j l) m
alternate_by shapes.If h e f = before refl e
alternate_by of h e f = body_by of h e f

pub alternate_settles : {s : Scope} {n : ℕ} {i j k l : Items} (t : Tree) → (shape t ≡ shapes.Empty → after t n ≡ n) → Settles s n i j (after t n) → Settles s n k l (after t n) → Settles s n (alternate_items (shape t) i k) (alternate_items (shape (resolved s.tables s.classes n t)) j l) (after t n)
alternate_settles {s} {n} {i} {j} {k} {l} t h e f = becomes (alternate_by (shape t) h e f) (ap (λ of. alternate_items of j l) (sym (shape_same s.tables s.classes n t)))

do_by : {s : Scope} {n m : ℕ} {i j k l : Items} (own : Span) (of : Shape) → (of ≡ shapes.Empty → m ≡ n) → Settles s n i j m → Settles s n k l m → Settles s n (do_items own of i k) (do_items own of j l) m
do_by own shapes.Block h e f = before refl (behind e refl)
do_by own shapes.Empty h e f = counts (plain refl) (sym (h refl))
do_by own of h e f = before refl (behind (deeper_settles (behind f refl)) refl)

pub do_settles : {s : Scope} {n : ℕ} {i j k l : Items} (t : Tree) → (shape t ≡ shapes.Empty → after t n ≡ n) → Settles s n i j (after t n) → Settles s n k l (after t n) → Settles s n (do_items (span_of t) (shape t) i k) (do_items (span_of (resolved s.tables s.classes n t)) (shape (resolved s.tables s.classes n t)) j l) (after t n)
do_settles {s} {n} {i} {j} {k} {l} t h e f =
    let own = span_same s.tables s.classes n t in
    let of = shape_same s.tables s.classes n t in
    becomes (do_by (span_of t) (shape t) h e f) (sym (λ x. do_items (own x) (of x) j l))

led_by : {s : Scope} {n m : ℕ} {i j k l : Items} (of : Shape) → (of ≡ shapes.Empty → m ≡ n) → Settles s n i j m → Settles s n k l m → Settles s n (led_items of i k) (led_items of j l) m
led_by shapes.Block h e f = behind e refl
led_by shapes.Empty h e f = counts (plain refl) (sym (h refl))
led_by of h e f = f

-- the one statement of a case that ends there
pub only_settles : {s : Scope} {n : ℕ} {i j k l : Items} (end : ℕ) (t : Tree) → (shape t ≡ shapes.Empty → after t n ≡ n) → Settles s n i j (after t n) → Settles s n k l (after t n) → Settles s n (lined_case (record { start = (span_of t).start; end = end; lead = lead_to (shape t) (span_of t) }) (led_items (shape t) i k)) (lined_case (record { start = (span_of (resolved s.tables s.classes n t)).start; end = end; lead = lead_to (shape (resolved s.tables s.classes n t)) (span_of (resolved s.tables s.classes n t)) }) (led_items (shape (resolved s.tables s.classes n t)) j l)) (after t n)
only_settles {s} {n} {i} {j} {k} {l} end t h e f =
    let own = span_same s.tables s.classes n t in
    let of = shape_same s.tables s.classes n t in
    becomes (lined_settles (record { start = (span_of t).start; end = end; lead = lead_to (shape t) (span_of t) }) (led_by (shape t) h e f)) (sym (λ x. lined_case (record { start = (own x).start; end = end; lead = lead_to (of x) (own x) }) (led_items (of x) j l)))

pub case_settles : {s : Scope} {n m : ℕ} {i j k l : Items} (ts : Trees) → (is_one ts ≡ true → Settles s n i j m) → Settles s n k l m → Settles s n (case_items ts i k) (case_items (resolved_trees s.tables s.classes n ts) j l) m
case_settles no_trees e f = before refl (deeper_settles f)
case_settles (more t no_trees) e f = e refl
case_settles (more t (more u us)) e f = before refl (deeper_settles f)
case_settles (more t (hole us)) e f = before refl (deeper_settles f)
case_settles (hole ts) e f = before refl (deeper_settles f)

apart_from_of_settles : {s : Scope} {n m : ℕ} {i j : Items} (named : Option Named) → Settles s n i j m → Settles s n (apart_from_of named i) (apart_from_of named j) m
apart_from_of_settles None e = e
apart_from_of_settles (Some k) e = where_same_settles k _ (brackets_settle Round e) e

pub before_of_settles : {s : Scope} {n m : ℕ} {i j : Items} (test : Bool) (named : Option Named) → Settles s n i j m → Settles s n (before_of test named i) (before_of test named j) m
before_of_settles true named e = e
before_of_settles false named e = apart_from_of_settles named e

-- ---- arrays and objects

pub line_or_space_still : (b : Bool) → is_still (line_or_space b) ≡ true
line_or_space_still true = refl
line_or_space_still false = refl

pub on_lines_settle : {s : Scope} {n m : ℕ} {i j : Items} (b : Bool) → Settles s n i j m → Settles s n (on_lines b i) (on_lines b j) m
on_lines_settle true e = behind (deeper_settles (before refl e)) refl
on_lines_settle false e = e

pub comma_if_still : (b : Bool) → is_still (comma_if b) ≡ true
comma_if_still true = refl
comma_if_still false = refl

pub before_member_still : (b : Bool) (start : ℕ) → is_still (before_member b start) ≡ true
before_member_still true start = refl
before_member_still false start = refl

pub object_settles : {s : Scope} {n m : ℕ} {i j : Items} (ts : Trees) → Settles s n i j m → Settles s n (object_inside ts i) (object_inside (resolved_trees s.tables s.classes n ts) j) m
object_settles no_trees e = e
object_settles (more t no_trees) e = behind e refl
object_settles (hole no_trees) e = behind e refl
object_settles (more t (more u us)) e = behind (deeper_settles e) refl
object_settles (more t (hole us)) e = behind (deeper_settles e) refl
object_settles (hole (more u us)) e = behind (deeper_settles e) refl
object_settles (hole (hole us)) e = behind (deeper_settles e) refl
