-- What the reader does where a statement begins and ends, in bodies and in the heads of loops.
use Rattle.std.proofs.Common.{◌≡◌, ℕ, List, [], ◌∷◌, ◌⊎◌, inl, inr, Bool, true, false, codes, Option, Some, None, refl, ap, sym, ◌∙◌, arith}
use lib.Utf8.{encode}
use Rattle.unicode_ident.proofs.Computing.{unicode_ident}
use Rattle.jsgen_syntax.specs.Name.{is_reserved, is_strict_reserved, is_free_name}
use Rattle.std.specs.Prelude.{not, ◌&&◌, ◌||◌, if◌then◌else◌}
use Rattle.std.specs.Str.{bytes_eq}
use Rattle.std.proofs.lemmas.Bool.{both_ways}
use Rattle.std.proofs.lemmas.Slice.Eq.{bytes_eq-Decides}
use Rattle.jsgen_syntax.specs.Escapes.{word_value}
use Rattle.jsgen_syntax.specs.declared.operator.BinaryOperator.TheVariants as operators
use Rattle.jsgen_syntax.specs.declared.quote.Quote.{Quote}
use Rattle.jsgen_syntax.specs.Strings.{is_backtick, string_value}
use Rattle.jsgen_tree.specs.declared.statements.VariableDeclarationKind.{VariableDeclarationKind}
use Rattle.jsgen_tree.specs.declared.statements.VariableDeclarationKind.TheVariants.{Const, Let, Var}
use Rattle.jsgen_tree.specs.Tree.{Tree, Maybe, Trees, no_trees, more, absent, given}
use Rattle.jsgen_tree.specs.Nodes as tree
use Rattle.jsgen_model.specs.Punctuator.{dot, comma, colon, semicolon, Round, Square, Brace, Punctuator}
use Rattle.jsgen_model.specs.Tokens.{Piece, Tokens, done, piece, group, ◌⧺◌, Word, Number, Quoted, Sign, Special, Private, Pattern, Whole, Head, Middle, Tail, Beyond}
use Rattle.jsgen_model.specs.Normal.{nothing_of, named, declared_as, joined}
use Rattle.jsgen_model.specs.Grammar.{Allowed, with_in, without_in, simple_target, on_same_line, starts_statement, EndsBy, ReadsCases, declaring, starts_with_directive, may_precede_of, is_word, starts_in_square}
use Rattle.jsgen_model.specs.Grammar as grammar
use Rattle.jsgen_one_reading.specs.States.{import_start, importing, exchange, some_exports, binary, an_arrow, a_semicolon, an_in, an_of, another, in_braces, in_a_body, in_case, a_declaration, rest_of_array, target_of, elements_of, expression_of, throw_of, return_of, list_of, wrap_of, first_part, test_part, last_part, as_statement, of_object, failed, operand, linked, async_word, parameters_read, binding, bound, start, async_start, ended, ending, thrown, for_head, jumping, returning, head, async_first, second_part, third_part, before_case, handled, before_directives, string_first, function_word, property, wrong, one_tree, some_trees, with_rest, a_body, a_loop, Kind, kind, Frame, State, Answer, class_word, special_kind}
use Rattle.jsgen_one_reading.specs.ExpressionPieces.{by_word, word_operand, labelled, variables_ended, named_parameter, looping, looped, linked_piece, arrow_piece, async_reference, async_piece}
use Rattle.jsgen_one_reading.specs.Steps.{is_module, case_of, is_list, word_start, is_the, async_start_piece, jumping_piece, for_piece, head_word, try_of, directive_of, string_of, behind_directives, quoted_first, directives_piece, string_first_kind, step}
use Rattle.jsgen_one_reading.specs.Brackets.{loop_next, other_next, behind_sign, behind, faced_operand, is_loop, trees_then}
use Rattle.jsgen_one_reading.specs.Ends.{may_lack, lacking, finish}
use Rattle.jsgen_one_reading.specs.Reader.{run}
use Rattle.jsgen_one_reading.proofs.Steps.{then_done, untrue, run_failed, reference_read, name_start, starts_else, is_simple, is_async, fits, faces}
use Rattle.jsgen_one_reading.proofs.Claims.{LinksTarget, parted}

-- ---- statements: steps

-- the tokens begin with the word
abbrev pub starts_the : List ℕ → Tokens → Bool
starts_the v (piece m p ts) = is_the v p
starts_the v ts = false

-- what a statement stands in
abbrev pub stands : List Frame → Bool
stands [] = false
stands (first_part waits ∷ k) = false
stands (f ∷ k) = true

-- a declaration that isn't in the head of a loop has ended
pub variables_end : (c : Allowed) (k : List Frame) (d : Tree) → stands k ≡ true → variables_ended c k d ≡ ended c k d
variables_end c [] d h = untrue h
variables_end c (first_part true ∷ k) d h = untrue h
variables_end c (first_part false ∷ k) d h = untrue h
variables_end c (f ∷ k) d h = refl

-- the tokens are read as a statement, whatever follows
abbrev pub StatementRead : Allowed → Bool → Bool → Tokens → Tree → Type 0
StatementRead c last before_else ts s = (k : List Frame) (rest : Tokens) → stands k ≡ true → (last ≡ true → (rest ≡ done) × (may_lack k ≡ true)) → (before_else ≡ false → starts_else rest ≡ false) → starts_the (codes "finally") rest ≡ false → run (start (with_in c) k) (ts ⧺ rest) ≡ run (ended (with_in c) k s) rest

-- what ends by a semicolon or a brace is read before it
pub by_end : {last : Bool} {ts a : Tokens} → EndsBy last ts a → (c : Allowed) (s : State) (k : List Frame) (t : Tree) (rest : Tokens) → (last ≡ true → (rest ≡ done) × (may_lack k ≡ true)) → ((m : Bool) → run s (a ⧺ piece m (Sign semicolon) rest) ≡ run (ended c k t) rest) → run s (a ⧺ done) ≡ lacking k t → run s (ts ⧺ rest) ≡ run (ended c k t) rest
by_end (grammar.a_semicolon {ts = ts} {a = a} m e) c s k t rest l f g = parted s ts a m (Sign semicolon) done rest e ∙ f m
by_end (grammar.the_brace {ts}) c s k t rest l f g = ap (λ x. run s (ts ⧺ x)) (l refl).0 ∙ (g ∙ (rw (l refl).1 refl ∙ sym (ap (run (ended c k t)) (l refl).0)))

-- no operand begins with these words
pub unread_words : (c : Allowed) → (word_operand c [] (codes "if") ≡ failed) × (word_operand c [] (codes "throw") ≡ failed) × (word_operand c [] (codes "var") ≡ failed) × (word_operand c [] (codes "let") ≡ failed) × (word_operand c [] (codes "const") ≡ failed) × (word_operand c [] (codes "while") ≡ failed) × (word_operand c [] (codes "for") ≡ failed) × (word_operand c [] (codes "switch") ≡ failed) × (word_operand c [] (codes "do") ≡ failed) × (word_operand c [] (codes "break") ≡ failed) × (word_operand c [] (codes "continue") ≡ failed) × (word_operand c [] (codes "return") ≡ failed) × (word_operand c [] (codes "debugger") ≡ failed) × (word_operand c [] (codes "try") ≡ failed) × (word_operand c [] (codes "case") ≡ failed) × (word_operand c [] (codes "default") ≡ failed)
unfolding unicode_ident word_value is_reserved is_strict_reserved encode
unread_words c = (refl, refl, refl, refl, refl, refl, refl, refl, refl, refl, refl, refl, refl, refl, refl, refl)

unread_export : (c : Allowed) → word_operand c [] (codes "export") ≡ failed
unfolding unicode_ident word_value is_reserved is_strict_reserved encode
unread_export c = refl

-- so a word that begins one is none of them
pub unread_word : (c : Allowed) (w x : List ℕ) (us : Tokens) (t : Tree) → run (word_operand c [] w) us ≡ one_tree t → word_operand c [] x ≡ failed → bytes_eq w x ≡ false
unread_word c w x us t e f = by (bytes_eq w x) refl
  where
    by : (b : Bool) → bytes_eq w x ≡ b → b ≡ false
    by false k = refl
    by true k = absurd (let s : run (word_operand c [] w) us ≡ wrong = ap (λ y. run (word_operand c [] y) us) ((bytes_eq-Decides w x).0 k) ∙ (ap (λ y. run y us) f ∙ run_failed us) in cc)

pub not_first : (a b c d : Bool) → not (a || b || c || d) ≡ true → (a ≡ false) × (b ≡ false)
not_first false false c d e = (refl, refl)
not_first false true c d e = untrue e
not_first true b c d e = untrue e

-- nor does a statement begin with it
pub word_begins : (c : Allowed) (w : List ℕ) (us : Tokens) (t : Tree) (k : List Frame) → run (word_operand c [] w) us ≡ one_tree t → bytes_eq w (codes "function") ≡ false → bytes_eq w (codes "class") ≡ false → bytes_eq w (codes "async") ≡ false → bytes_eq w (codes "import") ≡ false → word_start c k w ≡ word_operand c (expression_of ∷ k) w
word_begins c w us t k e f g a i =
    let x0 = unread_word c w (codes "if") us t e (unread_words c).0 in
    let x1 = unread_word c w (codes "throw") us t e (unread_words c).1 in
    let x2 = unread_word c w (codes "var") us t e (unread_words c).2 in
    let x3 = unread_word c w (codes "let") us t e (unread_words c).3 in
    let x4 = unread_word c w (codes "const") us t e (unread_words c).4 in
    let x5 = unread_word c w (codes "while") us t e (unread_words c).5 in
    let x6 = unread_word c w (codes "for") us t e (unread_words c).6 in
    let x7 = unread_word c w (codes "switch") us t e (unread_words c).7 in
    let x8 = unread_word c w (codes "do") us t e (unread_words c).8 in
    let x9 = unread_word c w (codes "break") us t e (unread_words c).9 in
    let x10 = unread_word c w (codes "continue") us t e (unread_words c).10 in
    let x11 = unread_word c w (codes "return") us t e (unread_words c).11 in
    let x12 = unread_word c w (codes "debugger") us t e (unread_words c).12 in
    let x13 = unread_word c w (codes "try") us t e (unread_words c).13 in
    let x14 = unread_word c w (codes "case") us t e (unread_words c).14 in
    let x15 = unread_word c w (codes "default") us t e (unread_words c).15 in
    let x16 = unread_word c w (codes "export") us t e (unread_export c) in
    rw (i, x16, x0, x1, x2, x3, x4, x5, x6, x7, x8, x9, x10, x11, x12, x13, x14, x15, f, g, a) refl

-- `function` on the line of `async` before it
abbrev pub declares : Tokens → Bool
declares ts = is_word (codes "function") ts && on_same_line ts

and_not : (a b : Bool) → a && not b ≡ false → not b && a ≡ false
and_not true true h = refl
and_not false true h = refl
and_not true false h = untrue (sym h)
and_not false false h = refl

-- behind `async` an expression goes on where that doesn't stand
pub async_expression : (c : Allowed) (k : List Frame) (ts : Tokens) → declares ts ≡ false → run (async_start c k) ts ≡ run (async_word c k) ts
async_expression c k done h = refl
async_expression c k (piece m (Word w) ts) h = ap (λ x. run x ts) (rw (and_not (bytes_eq w (codes "function")) m h) refl)
async_expression c k (piece true (Number w) ts) h = refl
async_expression c k (piece false (Number w) ts) h = refl
async_expression c k (piece true (Quoted q w) ts) h = refl
async_expression c k (piece false (Quoted q w) ts) h = refl
async_expression c k (piece true (Beyond s) ts) h = refl
async_expression c k (piece false (Beyond s) ts) h = refl
async_expression c k (piece true (Sign p) ts) h = refl
async_expression c k (piece false (Sign p) ts) h = refl
async_expression c k (group m b inside ts) h = refl

pub and_assoc : (a b d : Bool) → a && b && d ≡ false → a && (b && d) ≡ false
and_assoc true b d h = h
and_assoc false b d h = refl

not_third : (a b x y : Bool) → not (a || b || x || y) ≡ true → x ≡ false
not_third true b x y h = untrue h
not_third false true x y h = untrue h
not_third false false true y h = untrue h
not_third false false false y h = refl

pub declares_then : (us rest : Tokens) → declares us ≡ false → declares rest ≡ false → declares (us ⧺ rest) ≡ false
declares_then done rest h g = g
declares_then (piece m (Word w) us) rest h g = h
declares_then (piece m (Number w) us) rest h g = refl
declares_then (piece m (Quoted q w) us) rest h g = refl
declares_then (piece m (Beyond s) us) rest h g = refl
declares_then (piece m (Sign p) us) rest h g = refl
declares_then (group m b inside us) rest h g = refl

-- behind `import` an item of a module goes on as an expression where that is read
import_goes_on : (c : Allowed) (k : List Frame) (us rest : Tokens) (t : Tree) → run (importing c []) us ≡ one_tree t → run (exchange (import_start c k)) (us ⧺ rest) ≡ run (importing c (expression_of ∷ k)) (us ⧺ rest)
import_goes_on c k done rest t e = absurd (cc)
import_goes_on c k (piece m (Word w) us) rest t e = absurd (let f = run_failed us in cc)
import_goes_on c k (piece m (Number w) us) rest t e = absurd (let f = run_failed us in cc)
import_goes_on c k (piece m (Quoted q w) us) rest t e = absurd (let f = run_failed us in cc)
import_goes_on c k (piece m (Beyond s) us) rest t e = absurd (let f = run_failed us in cc)
import_goes_on c k (piece m (Sign dot) us) rest t e = refl
import_goes_on c k (piece m (Sign p) us) rest t e = absurd (let f = run_failed us in cc)
import_goes_on c k (group m Round inside us) rest t e = refl
import_goes_on c k (group m Square inside us) rest t e = absurd (let f = run_failed us in cc)
import_goes_on c k (group m Brace inside us) rest t e = absurd (let f = run_failed us in cc)

import_expression : (c : Allowed) (k : List Frame) (us rest : Tokens) (t : Tree) → run (importing c []) us ≡ one_tree t → run (word_start c k (codes "import")) (us ⧺ rest) ≡ run (importing c (expression_of ∷ k)) (us ⧺ rest)
import_expression c k us rest t e = by (is_module k)
  where
    by : (b : Bool) → run (if b then exchange (import_start c k) else importing c (expression_of ∷ k)) (us ⧺ rest) ≡ run (importing c (expression_of ∷ k)) (us ⧺ rest)
    by true = import_goes_on c k us rest t e
    by false = refl

-- an expression begins a statement
pub begins : (c : Allowed) (a : Tokens) (t : Tree) → run (operand c []) a ≡ one_tree t → starts_statement a ≡ true → (k : List Frame) (rest : Tokens) → declares rest ≡ false → run (start c k) (a ⧺ rest) ≡ run (operand c (expression_of ∷ k)) (a ⧺ rest)
begins c done t e s k rest d = untrue s
begins c (piece m (Word w) us) t e s k rest d = by (bytes_eq w (codes "async")) refl (bytes_eq w (codes "import")) refl
  where
    f : (bytes_eq w (codes "function") ≡ false) × (bytes_eq w (codes "class") ≡ false)
    f = not_first (bytes_eq w (codes "function")) (bytes_eq w (codes "class")) (bytes_eq w (codes "async") && is_word (codes "function") us && on_same_line us) (bytes_eq w (codes "let") && starts_in_square us) s

    g : bytes_eq w (codes "async") && declares us ≡ false
    g = and_assoc (bytes_eq w (codes "async")) (is_word (codes "function") us) (on_same_line us) (not_third (bytes_eq w (codes "function")) (bytes_eq w (codes "class")) (bytes_eq w (codes "async") && is_word (codes "function") us && on_same_line us) (bytes_eq w (codes "let") && starts_in_square us) s)

    by : (b : Bool) → bytes_eq w (codes "async") ≡ b → (j : Bool) → bytes_eq w (codes "import") ≡ j → run (word_start c k w) (us ⧺ rest) ≡ run (word_operand c (expression_of ∷ k) w) (us ⧺ rest)
    by false a false i = ap (λ x. run x (us ⧺ rest)) (word_begins c w us t k e f.0 f.1 a i)
    by false a true i =
        let q : w ≡ codes "import" = (bytes_eq-Decides w (codes "import")).0 i in
        ap (λ x. run (word_start c k x) (us ⧺ rest)) q ∙ (import_expression c k us rest t (sym (ap (λ x. run (word_operand c [] x) us) q) ∙ e) ∙ sym (ap (λ x. run (word_operand c (expression_of ∷ k) x) (us ⧺ rest)) q))
    by true a j i =
        let q : w ≡ codes "async" = (bytes_eq-Decides w (codes "async")).0 a in
        let n : declares us ≡ false = ap (λ x. x && declares us) (sym a) ∙ g in
        ap (λ x. run (word_start c k x) (us ⧺ rest)) q ∙ (async_expression c (expression_of ∷ k) (us ⧺ rest) (declares_then us rest n d) ∙ sym (ap (λ x. run (word_operand c (expression_of ∷ k) x) (us ⧺ rest)) q))
begins c (piece m (Number w) us) t e s k rest d = refl
begins c (piece m (Quoted q w) us) t e s k rest d = refl
begins c (piece m (Beyond x) us) t e s k rest d = refl
begins c (piece m (Sign semicolon) us) t e s k rest d = absurd (let f = run_failed us in cc)
begins c (piece m (Sign p) us) t e s k rest d = refl
begins c (group m Round inside us) t e s k rest d = refl
begins c (group m Square inside us) t e s k rest d = refl
begins c (group m Brace inside us) t e s k rest d = untrue s

-- a label with its colon
pub label_start : (c : Allowed) (k : List Frame) (w : List ℕ) {v : List ℕ} (n : Bool) (rest : Tokens) → word_value w ≡ Some v → is_free_name v ≡ true → run (word_start c k w) (piece n (Sign colon) rest) ≡ run (start c (wrap_of (labelled v) ∷ k)) rest
label_start c k w {v} n rest e h = by (bytes_eq w (codes "async")) refl ∙ reference_read c (expression_of ∷ k) w (piece n (Sign colon) rest) e h (λ a. refl)
  where
    by : (b : Bool) → bytes_eq w (codes "async") ≡ b → run (word_start c k w) (piece n (Sign colon) rest) ≡ run (word_operand c (expression_of ∷ k) w) (piece n (Sign colon) rest)
    by false a = ap (λ x. run x (piece n (Sign colon) rest)) (name_start c k w e h a)
    by true a =
        let q : w ≡ codes "async" = (bytes_eq-Decides w (codes "async")).0 a in
        ap (λ x. run (word_start c k x) (piece n (Sign colon) rest)) q ∙ (async_expression c (expression_of ∷ k) (piece n (Sign colon) rest) refl ∙ sym (ap (λ x. run (word_operand c (expression_of ∷ k) x) (piece n (Sign colon) rest)) q))

-- an expression begins behind `throw`, on its line
pub thrown_begins : (c : Allowed) (a : Tokens) → on_same_line a ≡ true → (k : List Frame) (rest : Tokens) → run (thrown c k) (a ⧺ rest) ≡ run (operand c (throw_of ∷ k)) (a ⧺ rest)
thrown_begins c done s k rest = untrue s
thrown_begins c (piece false p us) s k rest = refl
thrown_begins c (piece true p us) s k rest = untrue s
thrown_begins c (group false b inside us) s k rest = refl
thrown_begins c (group true b inside us) s k rest = untrue s

-- and behind `return`
pub returned_begins : (c : Allowed) (a : Tokens) (t : Tree) → run (operand c []) a ≡ one_tree t → on_same_line a ≡ true → (k : List Frame) (rest : Tokens) → run (returning c k) (a ⧺ rest) ≡ run (operand c (return_of ∷ k)) (a ⧺ rest)
returned_begins c done t e s k rest = untrue s
returned_begins c (piece true p us) t e s k rest = untrue s
returned_begins c (piece false (Word w) us) t e s k rest = refl
returned_begins c (piece false (Number w) us) t e s k rest = refl
returned_begins c (piece false (Quoted q w) us) t e s k rest = refl
returned_begins c (piece false (Beyond x) us) t e s k rest = refl
returned_begins c (piece false (Sign semicolon) us) t e s k rest = absurd (let f = run_failed us in cc)
returned_begins c (piece false (Sign p) us) t e s k rest = refl
returned_begins c (group false b inside us) t e s k rest = refl
returned_begins c (group true b inside us) t e s k rest = untrue s

-- the word before what a loop goes over
abbrev pub loop_word : Bool → List ℕ
loop_word false = codes "in"
loop_word true = codes "of"

pub and_false : (b : Bool) → b && false ≡ false
and_false true = refl
and_false false = refl

-- what waits for a target that nothing but the end follows
abbrev pub alone_in : List Frame
alone_in = target_of (rest_of_array no_trees) ∷ []

abbrev pub AloneRead : Allowed → Tokens → Type 0
AloneRead c a = (r : Maybe) × (run (operand c alone_in) a ≡ with_rest no_trees r)

-- `async` and `of`
abbrev pub async_of : Tokens → Bool
async_of (piece m (Word w) us) = bytes_eq w (codes "async") && starts_the (codes "of") us
async_of ts = false

-- behind `async` an expression goes on in the head of a loop that waits, but not with `of`
pub async_goes_on : (c : Allowed) (ts : Tokens) → starts_the (codes "of") ts ≡ false → run (async_first c) ts ≡ run (async_word c (first_part true ∷ [])) ts
async_goes_on c done h = refl
async_goes_on c (piece m p ts) h = rw h refl
async_goes_on c (group m b inside ts) h = refl

-- behind a name with `async` before it no target ends
async_named : (c : Allowed) (x : Tree) (us : Tokens) → run (parameters_read c alone_in true x) us ≡ wrong
async_named c x done = refl
async_named c x (piece m p us) = ap (λ s. run s us) (by m (kind c.in_operator p)) ∙ run_failed us
  where
    by : (n : Bool) (kd : Kind) → arrow_piece c alone_in true x n kd ≡ failed
    by true kd = refl
    by false an_arrow = refl
    by false kd = refl
async_named c x (group m b inside us) = run_failed us

async_of_step : (c : Allowed) (k : List Frame) → async_piece c k false (Word (codes "of")) ≡ parameters_read c k true (named_parameter (codes "of"))
unfolding unicode_ident word_value is_reserved is_strict_reserved encode
async_of_step c k = refl

-- what is read as a target doesn't go on with `of` behind `async`
pub not_async_of : (c : Allowed) (a : Tokens) (rest : Tokens) → AloneRead c a → (is_async a ≡ true → starts_the (codes "of") rest ≡ false) → async_of (a ⧺ rest) ≡ false
not_async_of c done rest (r, e) h = absurd (cc)
not_async_of c (piece m (Word w) done) rest e h = by (bytes_eq w (codes "async")) refl
  where
    by : (b : Bool) → bytes_eq w (codes "async") ≡ b → b && starts_the (codes "of") rest ≡ false
    by true a = h a
    by false a = refl
not_async_of c (piece m (Word w) (group n b inside us)) rest e h = and_false (bytes_eq w (codes "async"))
not_async_of c (piece m (Word w) (piece n p us)) rest (r, e) h = by (bytes_eq w (codes "async")) refl (is_the (codes "of") p) refl
  where
    word_of : (x : Piece) → is_the (codes "of") x ≡ true → x ≡ Word (codes "of")
    word_of (Word v) f = ap Word ((bytes_eq-Decides v (codes "of")).0 f)
    word_of (Number v) f = untrue f
    word_of (Quoted q v) f = untrue f
    word_of (Beyond s) f = untrue f
    word_of (Sign s) f = untrue f

    no_target : (l : Bool) → run (async_piece c alone_in l (Word (codes "of"))) us ≡ wrong
    no_target true = run_failed us
    no_target false = ap (λ x. run x us) (async_of_step c alone_in) ∙ async_named c (named_parameter (codes "of")) us

    by : (b : Bool) → bytes_eq w (codes "async") ≡ b → (d : Bool) → is_the (codes "of") p ≡ d → b && d ≡ false
    by false f d g = refl
    by true f false g = refl
    by true f true g = absurd (let s : run (word_operand c alone_in w) (piece n p us) ≡ wrong = ap (λ x. run (word_operand c alone_in x) (piece n p us)) ((bytes_eq-Decides w (codes "async")).0 f) ∙ (ap (λ x. run (async_word c alone_in) (piece n x us)) (word_of p g) ∙ no_target n) in cc)
not_async_of c (piece m (Number w) us) rest e h = refl
not_async_of c (piece m (Quoted q w) us) rest e h = refl
not_async_of c (piece m (Beyond s) us) rest e h = refl
not_async_of c (piece m (Sign p) us) rest e h = refl
not_async_of c (group m b inside us) rest e h = refl

-- ---- brackets first in the head of a loop

-- `of` or `in` stands behind brackets that are first
abbrev pub looped_first : Tokens → Bool
looped_first (group m Square inside ts) = is_loop (behind ts)
looped_first (group m Brace inside ts) = is_loop (behind ts)
looped_first ts = false

-- a literal is no target
literal_simple : (c : Allowed) (x : Answer) (f : Trees → Tree) → ((es : Trees) → simple_target (f es) ≡ None) → (t : Tree) → finish (trees_then x (λ es. linked (without_in c) [] (f es))) ≡ one_tree t → is_simple (simple_target t) ≡ false
literal_simple c (some_trees es) f n t e = let q : f es ≡ t = cc in ap (λ y. is_simple (simple_target y)) (sym q) ∙ rw (n es) refl
literal_simple c wrong f n t e = absurd (cc)
literal_simple c (one_tree u) f n t e = absurd (cc)
literal_simple c (with_rest ts r) f n t e = absurd (cc)
literal_simple c (a_body ds ss) f n t e = absurd (cc)
literal_simple c (a_loop l) f n t e = absurd (cc)
literal_simple c (some_exports r ss) f n t e = absurd (cc)

-- and no loop word follows it
literal_loops : (c : Allowed) (over : Bool) (x : Answer) (f : Trees → Tree) (m : Bool) → step (trees_then x (λ es. linked (without_in c) [] (f es))) m (Word (loop_word over)) ≡ failed
literal_loops c true (some_trees es) f m = refl
literal_loops c false (some_trees es) f m = refl
literal_loops c over wrong f m = refl
literal_loops c over (one_tree u) f m = refl
literal_loops c over (with_rest ts r) f m = refl
literal_loops c over (a_body ds ss) f m = refl
literal_loops c over (a_loop l) f m = refl
literal_loops c over (some_exports r ss) f m = refl

no_loop_sign : (s : Punctuator) → is_loop (behind_sign s) ≡ false
no_loop_sign comma = refl
no_loop_sign s = refl

no_loop_word : (w : List ℕ) → bytes_eq w (codes "of") ≡ false → bytes_eq w (codes "in") ≡ false → is_loop (if bytes_eq w (codes "of") || bytes_eq w (codes "in") then loop_next else other_next) ≡ false
no_loop_word w a b = rw (a, b) refl

-- the first part of a head doesn't go on with such a word behind a literal
not_that_word : (w x : List ℕ) (s : List ℕ → Answer) (t : Tree) → s w ≡ one_tree t → s x ≡ wrong → bytes_eq w x ≡ false
not_that_word w x s t e f = by (bytes_eq w x) refl
  where
    by : (b : Bool) → bytes_eq w x ≡ b → b ≡ false
    by false k = refl
    by true k = absurd (let g : s w ≡ wrong = ap s ((bytes_eq-Decides w x).0 k) ∙ f in cc)

-- no loop word stands behind an array that is first
behind_square : (c : Allowed) (m : Bool) (inside us : Tokens) (t : Tree) → run (operand (without_in c) []) (group m Square inside us) ≡ one_tree t → (rest : Tokens) → ((is_loop (behind rest) ≡ false) ⊎ (is_simple (simple_target t) ≡ true)) → is_loop (behind (us ⧺ rest)) ≡ false
behind_square c m inside done t e rest (inl h) = h
behind_square c m inside done t e rest (inr h) = absurd (both_ways (is_simple (simple_target t)) (literal_simple c (run (operand (with_in c) (elements_of no_trees ∷ [])) inside) (λ es. tree.array (nothing_of 0) es) (λ es. refl) t e) h)
behind_square c m inside (piece n (Word w) us) t e rest h =
    let x : Answer = run (operand (with_in c) (elements_of no_trees ∷ [])) inside in
    let f : Trees → Tree = λ es. tree.array (nothing_of 0) es in
    let s : List ℕ → Answer = λ y. run (operand (without_in c) []) (group m Square inside (piece n (Word y) us)) in
    no_loop_word w (not_that_word w (codes "of") s t e (ap (λ y. run y us) (literal_loops c true x f n) ∙ run_failed us)) (not_that_word w (codes "in") s t e (ap (λ y. run y us) (literal_loops c false x f n) ∙ run_failed us))
behind_square c m inside (piece n (Number w) us) t e rest h = refl
behind_square c m inside (piece n (Quoted q w) us) t e rest h = refl
behind_square c m inside (piece n (Beyond s) us) t e rest h = refl
behind_square c m inside (piece n (Sign p) us) t e rest h = no_loop_sign p
behind_square c m inside (group n b more_inside us) t e rest h = refl

-- nor behind an object
behind_brace : (c : Allowed) (m : Bool) (inside us : Tokens) (t : Tree) → run (operand (without_in c) []) (group m Brace inside us) ≡ one_tree t → (rest : Tokens) → ((is_loop (behind rest) ≡ false) ⊎ (is_simple (simple_target t) ≡ true)) → is_loop (behind (us ⧺ rest)) ≡ false
behind_brace c m inside done t e rest (inl h) = h
behind_brace c m inside done t e rest (inr h) = absurd (both_ways (is_simple (simple_target t)) (literal_simple c (run (property (with_in c) (of_object no_trees)) inside) (λ ps. tree.object_expression (nothing_of 0) ps) (λ ps. refl) t e) h)
behind_brace c m inside (piece n (Word w) us) t e rest h =
    let x : Answer = run (property (with_in c) (of_object no_trees)) inside in
    let f : Trees → Tree = λ ps. tree.object_expression (nothing_of 0) ps in
    let s : List ℕ → Answer = λ y. run (operand (without_in c) []) (group m Brace inside (piece n (Word y) us)) in
    no_loop_word w (not_that_word w (codes "of") s t e (ap (λ y. run y us) (literal_loops c true x f n) ∙ run_failed us)) (not_that_word w (codes "in") s t e (ap (λ y. run y us) (literal_loops c false x f n) ∙ run_failed us))
behind_brace c m inside (piece n (Number w) us) t e rest h = refl
behind_brace c m inside (piece n (Quoted q w) us) t e rest h = refl
behind_brace c m inside (piece n (Beyond s) us) t e rest h = refl
behind_brace c m inside (piece n (Sign p) us) t e rest h = no_loop_sign p
behind_brace c m inside (group n b more_inside us) t e rest h = refl

-- what is read as an expression isn't taken for a pattern there
pub not_looped : (c : Allowed) (a : Tokens) (t : Tree) → run (operand (without_in c) []) a ≡ one_tree t → (rest : Tokens) → ((is_loop (behind rest) ≡ false) ⊎ (is_simple (simple_target t) ≡ true)) → looped_first (a ⧺ rest) ≡ false
not_looped c done t e rest h = absurd (cc)
not_looped c (piece m p us) t e rest h = refl
not_looped c (group m Round inside us) t e rest h = refl
not_looped c (group m Square inside us) t e rest h = behind_square c m inside us t e rest h
not_looped c (group m Brace inside us) t e rest h = behind_brace c m inside us t e rest h

-- every tree fits before a loop word, but `async` doesn't before `of`
pub fits_loop : (over m : Bool) (rest ts : Tokens) (t : Tree) → (over ≡ true → is_async ts ≡ false) → fits (piece m (Word (loop_word over)) rest) ts t ≡ true
fits_loop true m rest ts t h = rw (h refl) refl
fits_loop false m rest ts t h = refl

-- an expression begins in the head of a loop
pub head_begins : (waits : Bool) (c : Allowed) (a : Tokens) (t : Tree) → run (operand c []) a ≡ one_tree t → (rest : Tokens) → (waits ≡ true → async_of (a ⧺ rest) ≡ false) → looped_first (a ⧺ rest) ≡ false → run (head waits c) (a ⧺ rest) ≡ run (operand c (first_part waits ∷ [])) (a ⧺ rest)
head_begins waits c done t e rest o l = absurd (cc)
head_begins waits c (piece m (Word w) us) t e rest o l =
    let x = unread_word c w (codes "var") us t e (unread_words c).2 in
    let y = unread_word c w (codes "let") us t e (unread_words c).3 in
    let z = unread_word c w (codes "const") us t e (unread_words c).4 in
    by waits o x y z (bytes_eq w (codes "async")) refl
  where
    plain : (n : Bool) → bytes_eq w (codes "var") ≡ false → bytes_eq w (codes "let") ≡ false → bytes_eq w (codes "const") ≡ false → n && bytes_eq w (codes "async") ≡ false → head_word n c w ≡ word_operand c (first_part n ∷ []) w
    plain n x y z f = rw (x, y, z, f) refl

    by : (n : Bool) → (n ≡ true → async_of (piece m (Word w) (us ⧺ rest)) ≡ false) → bytes_eq w (codes "var") ≡ false → bytes_eq w (codes "let") ≡ false → bytes_eq w (codes "const") ≡ false → (d : Bool) → bytes_eq w (codes "async") ≡ d → run (head_word n c w) (us ⧺ rest) ≡ run (word_operand c (first_part n ∷ []) w) (us ⧺ rest)
    by false g x y z d f = ap (λ v. run v (us ⧺ rest)) (plain false x y z refl)
    by true g x y z false f = ap (λ v. run v (us ⧺ rest)) (plain true x y z f)
    by true g x y z true f =
        let n : starts_the (codes "of") (us ⧺ rest) ≡ false = ap (λ v. v && starts_the (codes "of") (us ⧺ rest)) (sym f) ∙ g refl in
        let q : w ≡ codes "async" = (bytes_eq-Decides w (codes "async")).0 f in
        ap (λ v. run (head_word true c v) (us ⧺ rest)) q ∙ (async_goes_on c (us ⧺ rest) n ∙ sym (ap (λ v. run (word_operand c (first_part true ∷ []) v) (us ⧺ rest)) q))
head_begins waits c (piece m (Number w) us) t e rest o l = refl
head_begins waits c (piece m (Quoted q w) us) t e rest o l = refl
head_begins waits c (piece m (Beyond s) us) t e rest o l = refl
head_begins waits c (piece m (Sign semicolon) us) t e rest o l = absurd (let f = run_failed us in cc)
head_begins waits c (piece m (Sign p) us) t e rest o l = refl
head_begins waits c (group m Round inside us) t e rest o l = refl
head_begins waits c (group m Square inside us) t e rest o l = faces (head waits c) (faced_operand c (first_part waits ∷ []) Square (behind (us ⧺ rest))) m Square inside (us ⧺ rest) (rw l refl)
head_begins waits c (group m Brace inside us) t e rest o l = faces (head waits c) (faced_operand c (first_part waits ∷ []) Brace (behind (us ⧺ rest))) m Brace inside (us ⧺ rest) (rw l refl)

-- before `of` a target isn't `async`
pub precedes_of : (ts : Tokens) → may_precede_of ts ≡ true → is_async ts ≡ false
precedes_of done g = refl
precedes_of (piece n (Word w) done) g = by (bytes_eq w (codes "let")) (bytes_eq w (codes "async")) g
  where
    by : (x y : Bool) → not x && not y ≡ true → y ≡ false
    by x false h = refl
    by true true h = untrue h
    by false true h = untrue h
precedes_of (piece n (Word w) (piece l p us)) g = refl
precedes_of (piece n (Word w) (group l b inside us)) g = refl
precedes_of (piece n (Number w) us) g = refl
precedes_of (piece n (Quoted q w) us) g = refl
precedes_of (piece n (Beyond s) us) g = refl
precedes_of (piece n (Sign p) us) g = refl
precedes_of (group n b inside us) g = refl

-- an expression begins behind the first semicolon
pub second_begins : (c : Allowed) (a : Tokens) (t : Tree) → run (operand c []) a ≡ one_tree t → (o : Maybe) (rest : Tokens) → run (second_part c o) (a ⧺ rest) ≡ run (operand c (test_part o ∷ [])) (a ⧺ rest)
second_begins c done t e o rest = absurd (cc)
second_begins c (piece m (Word w) us) t e o rest = refl
second_begins c (piece m (Number w) us) t e o rest = refl
second_begins c (piece m (Quoted q w) us) t e o rest = refl
second_begins c (piece m (Beyond s) us) t e o rest = refl
second_begins c (piece m (Sign semicolon) us) t e o rest = absurd (let f = run_failed us in cc)
second_begins c (piece m (Sign p) us) t e o rest = refl
second_begins c (group m b inside us) t e o rest = refl

-- and behind the second
pub third_begins : (c : Allowed) (a : Tokens) (t : Tree) → run (operand c []) a ≡ one_tree t → (o p : Maybe) → run (third_part c o p) a ≡ run (operand c (last_part o p ∷ [])) a
third_begins c done t e o p = absurd (cc)
third_begins c (piece m x us) t e o p = refl
third_begins c (group m b inside us) t e o p = refl

-- no statement begins with these words
pub unstarted : (c : Allowed) (k : List Frame) → (word_start c k (codes "else") ≡ failed) × (word_start c k (codes "finally") ≡ failed)
unfolding unicode_ident word_value is_reserved is_strict_reserved encode
unstarted c k = (refl, refl)

-- no statements begin with such a word
pub not_begun : (c : Allowed) (x : List ℕ) (b : Tokens) (k : List Frame) (ss : Trees) → word_start c k x ≡ failed → run (start c k) b ≡ some_trees ss → starts_the x b ≡ false
not_begun c x done k ss f e = refl
not_begun c x (piece m (Word w) us) k ss f e = by (bytes_eq w x) refl
  where
    by : (b : Bool) → bytes_eq w x ≡ b → b ≡ false
    by false h = refl
    by true h = absurd (let s : run (word_start c k w) us ≡ wrong = ap (λ y. run (word_start c k y) us) ((bytes_eq-Decides w x).0 h) ∙ (ap (λ y. run y us) f ∙ run_failed us) in cc)
not_begun c x (piece m (Number w) us) k ss f e = refl
not_begun c x (piece m (Quoted q w) us) k ss f e = refl
not_begun c x (piece m (Beyond s) us) k ss f e = refl
not_begun c x (piece m (Sign p) us) k ss f e = refl
not_begun c x (group m b inside us) k ss f e = refl

pub same_else : (b : Tokens) → starts_the (codes "else") b ≡ false → starts_else b ≡ false
same_else done h = refl
same_else (piece m (Word w) us) h = h
same_else (piece m (Number w) us) h = refl
same_else (piece m (Quoted q w) us) h = refl
same_else (piece m (Beyond s) us) h = refl
same_else (piece m (Sign p) us) h = refl
same_else (group m b inside us) h = refl

pub the_then : (x : List ℕ) (b rest : Tokens) → starts_the x b ≡ false → starts_the x rest ≡ false → starts_the x (b ⧺ rest) ≡ false
the_then x done rest h g = g
the_then x (piece m p us) rest h g = h
the_then x (group m b inside us) rest h g = refl

pub else_then : (b rest : Tokens) → starts_else b ≡ false → starts_else rest ≡ false → starts_else (b ⧺ rest) ≡ false
else_then done rest h g = g
else_then (piece m p us) rest h g = h
else_then (group m b inside us) rest h g = refl

pub declaring_start : (c : Allowed) (kd : VariableDeclarationKind) (k : List Frame) → is_list k ≡ true → word_start c k (declaring kd) ≡ binding c (a_declaration kd no_trees) k
declaring_start c Const k h = rw h refl
declaring_start c Let k h = rw h refl
declaring_start c Var k h = refl

pub declaring_head : (waits : Bool) (c : Allowed) (kd : VariableDeclarationKind) → head_word waits c (declaring kd) ≡ binding c (a_declaration kd no_trees) (first_part waits ∷ [])
declaring_head waits c Const = refl
declaring_head waits c Let = refl
declaring_head waits c Var = refl

pub directive_step : (c : Allowed) (ds : Trees) (q : Quote) (w : List ℕ) {us : List ℕ} → is_backtick q ≡ false → string_value q w ≡ Some us → directives_piece c ds (Quoted q w) ≡ string_first c ds us
directive_step c ds q w b e = rw (b, e) refl

-- a string that no semicolon follows is no directive
pub goes_on : (c : Allowed) (ds : Trees) (us : List ℕ) (m : Bool) (kd : Kind) → (kd ≡ a_semicolon → ⊥) → string_first_kind c ds us m kd ≡ linked_piece c (behind_directives c ds) (string_of us) m kd
goes_on c ds us m a_semicolon n = absurd (n refl)
goes_on c ds us m kd n = refl

pub no_semicolon_word : (i : Bool) (w : List ℕ) → kind i (Word w) ≡ a_semicolon → ⊥
no_semicolon_word i w = by i (bytes_eq w (codes "instanceof")) (bytes_eq w (codes "in")) (bytes_eq w (codes "of"))
  where
    by : (j a b d : Bool) → (if a then binary operators.Instanceof else (if b then (if j then binary operators.In else an_in) else (if d then an_of else another))) ≡ a_semicolon → ⊥
    by j true b d e = absurd (cc)
    by true false true d e = absurd (cc)
    by false false true d e = absurd (cc)
    by j false false true e = absurd (cc)
    by j false false false e = absurd (cc)

no_semicolon_special : (s : Special) → special_kind s ≡ a_semicolon → ⊥
no_semicolon_special (Private w) e = absurd (cc)
no_semicolon_special (Pattern w flags) e = absurd (cc)
no_semicolon_special (Whole w) e = absurd (cc)
no_semicolon_special (Head w) e = absurd (cc)
no_semicolon_special (Middle w) e = absurd (cc)
no_semicolon_special (Tail w) e = absurd (cc)

-- a string that is no directive begins an expression
pub string_goes_on : (c : Allowed) (ds : Trees) (us : List ℕ) (q : Quote) (w : List ℕ) (m : Bool) (ts : Tokens) → is_backtick q ≡ false → starts_with_directive (piece m (Quoted q w) ts) ≡ false → run (string_first c ds us) ts ≡ run (linked c (behind_directives c ds) (string_of us)) ts
string_goes_on c ds us q w m done b n = absurd (both_ways (is_backtick q) b (not_not (is_backtick q) n))
  where
    not_not : (x : Bool) → not x ≡ false → x ≡ true
    not_not true e = refl
    not_not false e = untrue (sym e)
string_goes_on c ds us q w m (piece j (Sign semicolon) ts) b n = absurd (both_ways (is_backtick q) b (not_not (is_backtick q) n))
  where
    not_not : (x : Bool) → not x ≡ false → x ≡ true
    not_not true e = refl
    not_not false e = untrue (sym e)
string_goes_on c ds us q w m (piece j (Word x) ts) b n = ap (λ s. run s ts) (goes_on c ds us j (kind c.in_operator (Word x)) (no_semicolon_word c.in_operator x))
string_goes_on c ds us q w m (piece j (Number x) ts) b n = refl
string_goes_on c ds us q w m (piece j (Quoted qq x) ts) b n = refl
string_goes_on c ds us q w m (piece j (Beyond x) ts) b n = ap (λ s. run s ts) (goes_on c ds us j (special_kind x) (no_semicolon_special x))
string_goes_on c ds us q w m (piece j (Sign p) ts) b n = refl
string_goes_on c ds us q w m (group j Round inside ts) b n = refl
string_goes_on c ds us q w m (group j Square inside ts) b n = refl
string_goes_on c ds us q w m (group j Brace inside ts) b n = refl

-- behind directives statements begin
pub directives_begin : (c : Allowed) (ds : Trees) (ts : Tokens) → starts_with_directive ts ≡ false → run (before_directives c ds) ts ≡ run (start c (list_of (in_a_body c.return_statement ds) no_trees ∷ [])) ts
directives_begin c ds done n = refl
directives_begin c ds (piece m (Word w) ts) n = refl
directives_begin c ds (piece m (Number w) ts) n = refl
directives_begin c ds (piece m (Sign p) ts) n = refl
directives_begin c ds (piece m (Beyond s) ts) n = refl
directives_begin c ds (group m b inside ts) n = refl
directives_begin c ds (piece m (Quoted q w) ts) n = by (is_backtick q) refl (string_value q w) refl
  where
    by : (b : Bool) → is_backtick q ≡ b → (o : Option (List ℕ)) → string_value q w ≡ o → run (quoted_first b c ds o) ts ≡ run (by_word o (λ us. linked c (behind_directives c ds) (string_of us))) ts
    by true e o f = refl
    by false e None f = refl
    by false e (Some us) f = string_goes_on c ds us q w m ts e n

-- a `try` has ended where no `finally` follows
pub handled_end : (c : Allowed) (k : List Frame) (body : Trees) (h : Tree) (rest : Tokens) → starts_the (codes "finally") rest ≡ false → run (handled c k body h) rest ≡ run (ended c k (try_of body (given h) absent)) rest
handled_end c k body h done n = refl
handled_end c k body h (piece m p ts) n = rw n refl
handled_end c k body h (group m b inside ts) n = refl

-- a case, by its test and its statements
abbrev pub CaseRead : Allowed → Bool → Bool → Bool → Tokens → Tree → Type 0
CaseRead c last default next ts t = (test : Maybe) × (ss : Trees) × (t ≡ case_of test ss) × ((sofar : Trees) (rest : Tokens) → (last ≡ true → rest ≡ done) → starts_else rest ≡ false → starts_the (codes "finally") rest ≡ false → run (before_case (with_in c) default sofar) (ts ⧺ rest) ≡ run (start (with_in c) (list_of (in_case next sofar test) ss ∷ [])) rest)

-- cases begin with a word of their own
pub cases_begin : {c : Allowed} {default : Bool} {ts : Tokens} {cs : Trees} → ReadsCases c default ts cs → (d : Allowed) (sofar : Trees) (test : Maybe) (ss : Trees) → run (start d (list_of (in_case default sofar test) ss ∷ [])) ts ≡ run (before_case d default (joined sofar (more (case_of test ss) no_trees))) ts
cases_begin {default = default} grammar.no_case d sofar test ss = refl
cases_begin {default = default} (grammar.last_case (grammar.a_case k e p x)) d sofar test ss = refl
cases_begin {default = default} (grammar.last_case (grammar.a_default x)) d sofar test ss = refl
cases_begin {default = default} (grammar.first_case {b = b} q (grammar.a_case {mark = m} {ts = ts} k e p x) rr) d sofar test ss = ap (run (start d (list_of (in_case default sofar test) ss ∷ []))) q ∙ sym (ap (run (before_case d default (joined sofar (more (case_of test ss) no_trees)))) q)
cases_begin {default = default} (grammar.first_case q (grammar.a_default x) rr) d sofar test ss = ap (run (start d (list_of (in_case default sofar test) ss ∷ []))) q ∙ sym (ap (run (before_case d default (joined sofar (more (case_of test ss) no_trees)))) q)

-- nor with `else` or `finally`
pub cases_not : {c : Allowed} {default : Bool} {ts : Tokens} {cs : Trees} → ReadsCases c default ts cs → (starts_else ts ≡ false) × (starts_the (codes "finally") ts ≡ false)
cases_not grammar.no_case = (refl, refl)
cases_not (grammar.last_case (grammar.a_case k e p d)) = (refl, refl)
cases_not (grammar.last_case (grammar.a_default d)) = (refl, refl)
cases_not (grammar.first_case q (grammar.a_case k e p d) r) = (ap starts_else q, ap (starts_the (codes "finally")) q)
cases_not (grammar.first_case q (grammar.a_default d) r) = (ap starts_else q, ap (starts_the (codes "finally")) q)

-- statements in braces
pub in_block : (c : Allowed) (ts : Tokens) (ss : Trees) → run (start c (list_of in_braces no_trees ∷ [])) (ts ⧺ done) ≡ run (start c (list_of in_braces ss ∷ [])) done → run (start c (list_of in_braces no_trees ∷ [])) ts ≡ some_trees ss
in_block c ts ss e = ap (run (start c (list_of in_braces no_trees ∷ []))) (sym (then_done ts)) ∙ e

pub return_step : (c : Allowed) (k : List Frame) → c.return_statement ≡ true → word_start (with_in c) k (codes "return") ≡ returning (with_in c) k
return_step c k h = rw h refl

pub function_step : (c : Allowed) (k : List Frame) → is_list k ≡ true → word_start c k (codes "function") ≡ function_word (as_statement c k) false false
function_step c k h = rw h refl

pub class_step : (c : Allowed) (k : List Frame) → is_list k ≡ true → word_start c k (codes "class") ≡ class_word (as_statement c k)
class_step c k h = rw h refl

pub async_function_step : (c : Allowed) (k : List Frame) → is_list k ≡ true → async_start_piece c (expression_of ∷ k) false (Word (codes "function")) ≡ function_word (as_statement c k) true false
async_function_step c k h = rw h refl

pub last_string : (c : Allowed) (ds : Trees) (us : List ℕ) → c.return_statement ≡ true → finish (string_first c ds us) ≡ a_body (joined ds (more (directive_of us) no_trees)) no_trees
last_string c ds us h = rw h refl

pub jump_end : (n : Bool) (rest : Tokens) (c : Allowed) (f : Maybe → Tree) (k : List Frame) → run (jumping c f k) (piece n (Sign semicolon) rest) ≡ run (ended c k (f absent)) rest
jump_end true rest c f k = refl
jump_end false rest c f k = refl

pub jump_label : (c : Allowed) (f : Maybe → Tree) (k : List Frame) (w : List ℕ) {v : List ℕ} → word_value w ≡ Some v → is_free_name v ≡ true → jumping_piece c f k false (Word w) ≡ ending c k (f (given (tree.label_identifier (named v))))
jump_label c f k w e h = rw (e, h) refl

-- a loop goes over what is declared
pub declared_over : (over waits : Bool) (c : Allowed) (kd : VariableDeclarationKind) (b : Tree) (m : Bool) (rest : Tokens) → run (bound (without_in c) (a_declaration kd no_trees) (first_part waits ∷ []) b) (piece m (Word (loop_word over)) rest) ≡ run (looping over waits (without_in c) (tree.variable_declaration (declared_as kd) (more (tree.variable_declarator (nothing_of 1) b absent) no_trees))) rest
declared_over true waits c kd b m rest = refl
declared_over false waits c kd b m rest = refl

-- or gives its values to a target
pub looped_over : (over waits : Bool) (c : Allowed) (t u : Tree) (m : Bool) (rest : Tokens) → simple_target t ≡ Some u → run (linked (without_in c) (first_part waits ∷ []) t) (piece m (Word (loop_word over)) rest) ≡ run (looping over waits (without_in c) u) rest
looped_over true waits c t u m rest e = ap (λ x. run (looped true (without_in c) (first_part waits ∷ []) x) rest) e
looped_over false waits c t u m rest e = ap (λ x. run (looped false (without_in c) (first_part waits ∷ []) x) rest) e

-- `await` behind `for`
pub for_await_step : (c : Allowed) (k : List Frame) → c.await_operand ≡ true → for_piece (with_in c) k (Word (codes "await")) ≡ for_head true (with_in c) k
for_await_step c k h = rw h refl

-- a simple target is read where nothing follows
pub read_alone : (c : Allowed) (ts : Tokens) (t u : Tree) → LinksTarget c ts t → simple_target t ≡ Some u → AloneRead c ts
read_alone c ts t u l e = (given (tree.target_rest (nothing_of 0) u), ap (run (operand c alone_in)) (sym (then_done ts)) ∙ (l u e c.in_operator alone_in done (omega arith) refl ∙ rw e refl))

-- `async` by itself is the target that a loop which waits gives its values to
async_left : (c : Allowed) (ts : Tokens) (t u : Tree) → LinksTarget c ts t → simple_target t ≡ Some u → is_async ts ≡ true → (m : Bool) (rest : Tokens) → run (head true (without_in c)) (ts ⧺ piece m (Word (codes "of")) rest) ≡ run (looping true true (without_in c) u) rest
async_left c done t u l e a m rest = untrue a
async_left c (piece n (Word w) done) t u l e a m rest =
    let q : w ≡ codes "async" = (bytes_eq-Decides w (codes "async")).0 a in
    let r : one_tree async_reference ≡ one_tree t = sym (ap (λ x. run (word_operand (without_in c) [] x) done) q) ∙ l u e false [] done (omega arith) refl in
    let i : async_reference ≡ t = cc in
    let j : Some async_reference ≡ Some u = ap simple_target i ∙ e in
    let v : async_reference ≡ u = cc in
    ap (λ x. run (head_word true (without_in c) x) (piece m (Word (codes "of")) rest)) q ∙ ap (λ x. run (looping true true (without_in c) x) rest) v
async_left c (piece n (Word w) (piece l2 p us)) t u l e a m rest = untrue a
async_left c (piece n (Word w) (group l2 b inside us)) t u l e a m rest = untrue a
async_left c (piece n (Number w) us) t u l e a m rest = untrue a
async_left c (piece n (Quoted q w) us) t u l e a m rest = untrue a
async_left c (piece n (Beyond s) us) t u l e a m rest = untrue a
async_left c (piece n (Sign p) us) t u l e a m rest = untrue a
async_left c (group n b inside us) t u l e a m rest = untrue a

-- another simple target
target_left : (c : Allowed) (ts : Tokens) (t u : Tree) (over waits : Bool) → LinksTarget c ts t → simple_target t ≡ Some u → (over ≡ true → is_async ts ≡ false) → (waits ≡ true → over ≡ true) → (m : Bool) (rest : Tokens) → run (head waits (without_in c)) (ts ⧺ piece m (Word (loop_word over)) rest) ≡ run (looping over waits (without_in c) u) rest
target_left c ts t u over waits l e a q m rest =
    let w : run (operand (without_in c) []) ts ≡ one_tree t = ap (run (operand (without_in c) [])) (sym (then_done ts)) ∙ l u e false [] done (omega arith) refl in
    head_begins waits (without_in c) ts t w (piece m (Word (loop_word over)) rest) (λ x. not_async_of (without_in c) ts (piece m (Word (loop_word over)) rest) (read_alone (without_in c) ts t u l e) (λ y. absurd (both_ways (is_async ts) (a (q x)) y))) (not_looped c ts t w (piece m (Word (loop_word over)) rest) (inr (ap is_simple e))) ∙ (l u e false (first_part waits ∷ []) (piece m (Word (loop_word over)) rest) (omega arith) (fits_loop over m rest ts t a) ∙ looped_over over waits c t u m rest e)

-- a simple target in the head of a loop, with `in` or `of`
pub left_target : (c : Allowed) (ts : Tokens) (t u : Tree) (over waits precedes : Bool) → LinksTarget c ts t → simple_target t ≡ Some u → (not precedes || may_precede_of ts) ≡ true → (waits ≡ false → precedes ≡ over) → (waits ≡ true → over ≡ true) → (m : Bool) (rest : Tokens) → run (head waits (without_in c)) (ts ⧺ piece m (Word (loop_word over)) rest) ≡ run (looping over waits (without_in c) u) rest
left_target c ts t u over false precedes l e g p q m rest = target_left c ts t u over false l e (λ x. precedes_of ts (ap (λ y. not y || may_precede_of ts) (sym (p refl ∙ x)) ∙ g)) q m rest
left_target c ts t u false true precedes l e g p q m rest = untrue (q refl)
left_target c ts t u true true precedes l e g p q m rest = by (is_async ts) refl
  where
    by : (b : Bool) → is_async ts ≡ b → run (head true (without_in c)) (ts ⧺ piece m (Word (codes "of")) rest) ≡ run (looping true true (without_in c) u) rest
    by true a = async_left c ts t u l e a m rest
    by false a = target_left c ts t u true true l e (λ x. a) q m rest
