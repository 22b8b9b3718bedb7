-- What is claimed of statements, if what is claimed of their parts is true.
use Rattle.std.proofs.Common.{◌≡◌, [], ◌∷◌, inl, Bool, true, false, codes, refl, ap, sym, ◌∙◌, arith}
use Rattle.std.specs.Prelude.{⊤}
use Rattle.jsgen_tree.specs.declared.statements.VariableDeclarationKind.TheVariants.{Var}
use Rattle.jsgen_tree.specs.Tree.{Tree, Maybe, Trees, no_trees, more, absent, given}
use Rattle.jsgen_tree.specs.Nodes as tree
use Rattle.jsgen_model.specs.Punctuator.{comma, colon, semicolon, Round, Brace}
use Rattle.jsgen_model.specs.Tokens.{Tokens, done, piece, group, ◌⧺◌, Word, Sign}
use Rattle.jsgen_model.specs.Normal.{nothing_of, unnumbered, declared_as, joined}
use Rattle.jsgen_model.specs.Grammar.{in_member, class_of, LeftHandSide, New, Callee, Call, Member, Primary, Allowed, with_in, without_in, in_arrow_body, Level, operator_piece, update_sign, assignment_sign, names_function, on_same_line, function_of, method_of, arrow_values, loop_values, computed_values, ReadsModule, ReadsExpression, ReadsClass, ReadsClassTail, ReadsMembers, ReadsMember, ReadsField, ReadsFieldAs, ReadsFunction, ReadsFunctionAs, ReadsArrow, ReadsArrowParameters, ReadsParameters, ReadsParameter, ReadsParts, ReadsChain, ReadsChainBase, ReadsProperties, ReadsProperty, ReadsMethod, ReadsMethodAs, ReadsKey, ReadsElements, ReadsArguments, ReadsArgumentList, ReadsElement, ReadsBinding, ReadsBindingElement, ReadsBindingElements, ReadsBindingProperty, ReadsBindingProperties, ReadsPattern, ReadsTarget, ReadsTargetElement, ReadsTargetElements, ReadsTargetProperties, ReadsTargetProperty, ReadsDeclarator, ReadsDeclarators, ReadsStatement, ReadsReturned, ReadsInit, ReadsPart, ReadsLeft, ReadsLabel, ReadsCases, ReadsCase, ReadsEndsOfTry, ReadsHandler, ReadsItem, ReadsStatements, ReadsBody}
use Rattle.jsgen_model.specs.Grammar as grammar
use Rattle.jsgen_one_reading.specs.States.{in_braces, in_a_body, in_case, a_declaration, a_catch, expression_of, throw_of, return_of, list_of, then_of, wrap_of, do_of, first_part, test_part, last_part, in_right, of_right, case_test, as_statement, operand, binding, start, ended, ending, switch_body, head, before_case, tried, caught, handled, one_tree, some_trees, a_body, a_loop, set_in}
use Rattle.jsgen_one_reading.specs.ExpressionPieces.{labelled, variables_ended}
use Rattle.jsgen_one_reading.specs.Steps.{try_of, directive_of}
use Rattle.jsgen_one_reading.specs.Brackets.{tested_with, block_behind, tree_then, trees_then, loop_behind, catch_of}
use Rattle.jsgen_one_reading.specs.Ends.{lacking, for_of_parts}
use Rattle.jsgen_one_reading.specs.Reader.{run}
use Rattle.jsgen_one_reading.proofs.Steps.{then_assoc, then_done, joined_more, joined_none, untrue, starts_else, close_then, close_wrap, close_item}
use Rattle.jsgen_one_reading.proofs.Claims.{parted, whole}
use Rattle.jsgen_one_reading.proofs.StatementSteps.{class_step, starts_the, variables_end, by_end, begins, label_start, thrown_begins, returned_begins, loop_word, not_looped, head_begins, second_begins, third_begins, unstarted, not_begun, same_else, the_then, else_then, declaring_start, declaring_head, directive_step, directives_begin, handled_end, cases_begin, cases_not, in_block, return_step, function_step, async_function_step, last_string, jump_end, jump_label, declared_over, for_await_step, left_target}
use Rattle.jsgen_one_reading.proofs.PatternSteps.{bound_alone, bound_with_value, name_bound}
use Rattle.jsgen_one_reading.proofs.Shown.{ClassShown, ExpressionShown, BindingShown, PatternShown, FunctionShown, BodyShown, StatementShown, ReturnedShown, LabelShown, EndsOfTryShown, HandlerShown, InitShown, SecondShown, ThirdShown, LeftShown, DeclaratorsShown, DeclaratorShown, CasesShown, CaseShown, ItemShown, StatementsShown}

-- the inside of a body, behind the directives so far
abbrev pub BodyParts : {c : Allowed} {last : Bool} {ts : Tokens} {ds ss : Trees} → ReadsBody c last ts ds ss → Type 0
BodyParts (grammar.a_directive b e d) = BodyShown d
BodyParts (grammar.statements n d) = StatementsShown d
BodyParts d = ⊤

pub body_read : {c : Allowed} {last : Bool} {ts : Tokens} {ds ss : Trees} → (d : ReadsBody c last ts ds ss) → BodyParts d → BodyShown d
body_read (grammar.a_directive {c} {last} {mark = m} {next = n} {q} {w} {us} {ts} {ds} {ss} b e d) of_d l sofar = ap (λ s. run s (piece n (Sign semicolon) ts)) (directive_step (with_in c) sofar q w b e) ∙ (of_d l (joined sofar (more (directive_of us) no_trees)) ∙ ap (λ x. a_body x ss) (joined_more sofar ds (directive_of us)))
body_read (grammar.a_last_directive {c} {mark = m} {q} {w} {us} b e) _ l sofar = ap (λ s. run s done) (directive_step (with_in c) sofar q w b e) ∙ last_string (with_in c) sofar us (l refl)
body_read (grammar.statements {c} {last} {ts} {ss} n d) of_d l sofar = directives_begin (with_in c) sofar ts n ∙ (ap (run (start (with_in c) (list_of (in_a_body c.return_statement sofar) no_trees ∷ []))) (sym (then_done ts)) ∙ (of_d (in_a_body c.return_statement sofar) no_trees done (λ x. (refl, l x)) refl refl ∙ ap (λ x. a_body x ss) (sym (joined_none sofar))))

-- a statement, before what may follow it
abbrev pub StatementParts : {c : Allowed} {last before_else : Bool} {ts : Tokens} {s : Tree} → ReadsStatement c last before_else ts s → Type 0
StatementParts (grammar.an_expression_statement q g d) = ExpressionShown d
StatementParts (grammar.a_block d) = StatementsShown d
StatementParts (grammar.an_if p d) = ExpressionShown p × StatementShown d
StatementParts (grammar.an_if_with_else j e p d r) = ExpressionShown p × StatementShown d × StatementShown r
StatementParts (grammar.a_throw q g d) = ExpressionShown d
StatementParts (grammar.a_variable_statement q (grammar.some_variables p)) = DeclaratorsShown p
StatementParts (grammar.a_for j n e x y w r) = InitShown x × SecondShown y × ThirdShown w × StatementShown r
StatementParts (grammar.a_for_in j e y d r) = LeftShown y × ExpressionShown d × StatementShown r
StatementParts (grammar.a_for_of j e y d r) = LeftShown y × ExpressionShown d × StatementShown r
StatementParts (grammar.a_for_await j w e y d r) = LeftShown y × ExpressionShown d × StatementShown r
StatementParts (grammar.a_while p d) = ExpressionShown p × StatementShown d
StatementParts (grammar.a_do_while j n q e d p) = StatementShown d × ExpressionShown p
StatementParts (grammar.a_labelled_statement e x d) = StatementShown d
StatementParts (grammar.a_continue q r) = LabelShown r
StatementParts (grammar.a_break q r) = LabelShown r
StatementParts (grammar.a_switch p d) = ExpressionShown p × CasesShown d
StatementParts (grammar.a_try p r) = StatementsShown p × EndsOfTryShown r
StatementParts (grammar.a_return g q r) = ReturnedShown r
StatementParts d = ⊤

pub statement_read : {c : Allowed} {last before_else : Bool} {ts : Tokens} {s : Tree} → (d : ReadsStatement c last before_else ts s) → StatementParts d → StatementShown d
statement_read (grammar.an_expression_statement {c} {ts = ts} {a = a} {e = e} q g d) of_d k rest z l o f = by_end q (with_in c) (start (with_in c) k) k (tree.expression_statement (nothing_of 0) e) rest l (λ m. begins (with_in c) a e (whole c a e of_d.0) g k (piece m (Sign semicolon) rest) refl ∙ of_d.0 (expression_of ∷ k) (piece m (Sign semicolon) rest) (omega arith) (omega arith)) (begins (with_in c) a e (whole c a e of_d.0) g k done refl ∙ of_d.0 (expression_of ∷ k) done (omega arith) (omega arith))
statement_read grammar.an_empty_statement _ k rest z l o f = refl
statement_read (grammar.a_block {c} {inside = inside} {body = body} d) of_d k rest z l o f = ap (λ x. run (block_behind (with_in c) k x) rest) (in_block (with_in c) inside body (of_d in_braces no_trees done (λ x. (refl, refl)) refl refl))
statement_read (grammar.an_if {c} {test = test} {ts = ts} {t = t} {s = s} p d) (of_p, of_d) k rest z l o f = ap (λ x. run (tested_with (with_in c) k x) (ts ⧺ rest)) (whole c test t of_p.0) ∙ (of_d (then_of t ∷ k) rest refl l o f ∙ close_then (with_in c) t s k rest (o refl))
statement_read (grammar.an_if_with_else {c} {test = test} {ts = ts} {a = a} {b = b} {t = t} {s = s} {u = u} j e p d r) (of_p, of_d, of_r) k rest z l o f = ap (λ x. run (tested_with (with_in c) k x) (ts ⧺ rest)) (whole c test t of_p.0) ∙ (parted (start (with_in c) (then_of t ∷ k)) ts a j (Word (codes "else")) b rest e ∙ (of_d (then_of t ∷ k) (piece j (Word (codes "else")) (b ⧺ rest)) refl (λ x. untrue x) (λ x. untrue (sym x)) refl ∙ (of_r (wrap_of (λ x. tree.if_statement (nothing_of 0) t s (given x)) ∷ k) rest refl l o f ∙ close_wrap (with_in c) (λ x. tree.if_statement (nothing_of 0) t s (given x)) u k rest)))
statement_read (grammar.a_throw {c} {ts = ts} {a = a} {e = e} q g d) of_d k rest z l o f = by_end q (with_in c) (start (with_in c) k) k (tree.throw_statement (nothing_of 0) e) rest l (λ m. thrown_begins (with_in c) a g k (piece m (Sign semicolon) rest) ∙ of_d.0 (throw_of ∷ k) (piece m (Sign semicolon) rest) (omega arith) (omega arith)) (thrown_begins (with_in c) a g k done ∙ of_d.0 (throw_of ∷ k) done (omega arith) (omega arith))
statement_read (grammar.a_variable_statement {c} q (grammar.some_variables {mark = m} {ts = us} {ds = ds} p)) of_p k rest z l o f = by_end q (with_in c) (start (with_in c) k) k (tree.variable_declaration (declared_as Var) ds) rest l (λ n. (of_p Var k no_trees).0 n rest ∙ ap (λ s. run s rest) (variables_end (with_in c) k (tree.variable_declaration (declared_as Var) ds) z)) (ap (run (binding (with_in c) (a_declaration Var no_trees) k)) (then_done us) ∙ (of_p Var k no_trees).1)
statement_read (grammar.a_for {c} {head = head_tokens} {a = a} {b = b} {d = d} {ts = ts} {init = init} {test = test} {update = update} {s = s} j n e x y w r) (of_x, of_y, of_w, of_r) k rest z l o f =
    let in_head : run (head false (without_in c)) head_tokens ≡ a_loop (for_of_parts init test update) = ap (run (head false (without_in c))) e ∙ (of_x j (b ⧺ piece n (Sign semicolon) d) ∙ (of_y init n d ∙ of_w init test)) in
    ap (λ v. run (loop_behind (with_in c) k v) (ts ⧺ rest)) in_head ∙ (of_r (wrap_of (for_of_parts init test update) ∷ k) rest refl l o f ∙ close_wrap (with_in c) (for_of_parts init test update) s k rest)
statement_read (grammar.a_for_in {c} {head = head_tokens} {a = a} {b = b} {ts = ts} {l = u} {e = x} {s = s} j e y d r) (of_y, of_d, of_r) k rest z l o f =
    let in_head : run (head false (without_in c)) head_tokens ≡ a_loop (λ v. tree.for_in_statement (nothing_of 0) u x v) = ap (run (head false (without_in c))) e ∙ (of_y false false (λ q. refl) (λ q. untrue q) j b ∙ (ap (run (operand (with_in c) (in_right u ∷ []))) (sym (then_done b)) ∙ of_d.0 (in_right u ∷ []) done (omega arith) (omega arith))) in
    ap (λ v. run (loop_behind (with_in c) k v) (ts ⧺ rest)) in_head ∙ (of_r (wrap_of (λ v. tree.for_in_statement (nothing_of 0) u x v) ∷ k) rest refl l o f ∙ close_wrap (with_in c) (λ v. tree.for_in_statement (nothing_of 0) u x v) s k rest)
statement_read (grammar.a_for_of {c} {head = head_tokens} {a = a} {b = b} {ts = ts} {l = u} {e = x} {s = s} j e y d r) (of_y, of_d, of_r) k rest z l o f =
    let in_head : run (head false (without_in c)) head_tokens ≡ a_loop (λ v. tree.for_of_statement (loop_values false) u x v) = ap (run (head false (without_in c))) e ∙ (of_y true false (λ q. refl) (λ q. untrue q) j b ∙ (ap (run (operand (with_in c) (of_right false u ∷ []))) (sym (then_done b)) ∙ of_d.0 (of_right false u ∷ []) done (omega arith) (omega arith))) in
    ap (λ v. run (loop_behind (with_in c) k v) (ts ⧺ rest)) in_head ∙ (of_r (wrap_of (λ v. tree.for_of_statement (loop_values false) u x v) ∷ k) rest refl l o f ∙ close_wrap (with_in c) (λ v. tree.for_of_statement (loop_values false) u x v) s k rest)
statement_read (grammar.a_for_await {c} {next = n} {head = head_tokens} {a = a} {b = b} {ts = ts} {l = u} {e = x} {s = s} j w e y d r) (of_y, of_d, of_r) k rest z l o f =
    let in_head : run (head true (without_in c)) head_tokens ≡ a_loop (λ v. tree.for_of_statement (loop_values true) u x v) = ap (run (head true (without_in c))) e ∙ (of_y true true (λ q. untrue (sym q)) (λ q. refl) j b ∙ (ap (run (operand (with_in c) (of_right true u ∷ []))) (sym (then_done b)) ∙ of_d.0 (of_right true u ∷ []) done (omega arith) (omega arith))) in
    ap (λ v. run v (group n Round head_tokens (ts ⧺ rest))) (for_await_step c k w) ∙ (ap (λ v. run (loop_behind (with_in c) k v) (ts ⧺ rest)) in_head ∙ (of_r (wrap_of (λ v. tree.for_of_statement (loop_values true) u x v) ∷ k) rest refl l o f ∙ close_wrap (with_in c) (λ v. tree.for_of_statement (loop_values true) u x v) s k rest))
statement_read (grammar.a_while {c} {test = test} {ts = ts} {t = t} {s = s} p d) (of_p, of_d) k rest z l o f = ap (λ x. run (tree_then x (λ y. start (with_in c) (wrap_of (λ v. tree.while_statement (nothing_of 0) y v) ∷ k))) (ts ⧺ rest)) (whole c test t of_p.0) ∙ (of_d (wrap_of (λ v. tree.while_statement (nothing_of 0) t v) ∷ k) rest refl l o f ∙ close_wrap (with_in c) (λ v. tree.while_statement (nothing_of 0) t v) s k rest)
statement_read (grammar.a_do_while {c} {mark = m} {ts = ts} {a = a} {b = b} {test = test} {s = s} {t = t} j n q e d p) (of_d, of_p) k rest z l o f =
    let upto : (x : Tokens) → run (start (with_in c) k) (a ⧺ x) ≡ run (ending (with_in c) k (tree.do_while_statement (nothing_of 0) s t)) x = λ x. ap (λ y. run (start (with_in c) k) (y ⧺ x)) e ∙ (ap (run (start (with_in c) (do_of ∷ k))) (then_assoc b (piece j (Word (codes "while")) (group n Round test done)) x) ∙ (of_d (do_of ∷ k) (piece j (Word (codes "while")) (group n Round test x)) refl (λ x. untrue x) (λ x. refl) refl ∙ ap (λ y. run (tree_then y (λ v. ending (with_in c) k (tree.do_while_statement (nothing_of 0) s v))) x) (whole c test t of_p.0))) in
    by_end q (with_in c) (start (with_in c) k) k (tree.do_while_statement (nothing_of 0) s t) rest l (λ i. upto (piece i (Sign semicolon) rest)) (upto done)
statement_read (grammar.a_labelled_statement {c} {mark = m} {next = n} {w = w} {v = v} {ts = ts} {s = s} e x d) of_d k rest z l o f = label_start (with_in c) k w n (ts ⧺ rest) e x ∙ (of_d (wrap_of (labelled v) ∷ k) rest refl l o f ∙ close_wrap (with_in c) (labelled v) s k rest)
statement_read (grammar.a_continue {c} {ts = ts} {a = a} {l = m} q r) of_r k rest z l o f = by_end q (with_in c) (start (with_in c) k) k (tree.continue_statement (nothing_of 0) m) rest l (λ n. (of_r (with_in c) (λ x. tree.continue_statement (nothing_of 0) x) k).0 n rest) ((of_r (with_in c) (λ x. tree.continue_statement (nothing_of 0) x) k).1)
statement_read (grammar.a_break {c} {ts = ts} {a = a} {l = m} q r) of_r k rest z l o f = by_end q (with_in c) (start (with_in c) k) k (tree.break_statement (nothing_of 0) m) rest l (λ n. (of_r (with_in c) (λ x. tree.break_statement (nothing_of 0) x) k).0 n rest) ((of_r (with_in c) (λ x. tree.break_statement (nothing_of 0) x) k).1)
statement_read (grammar.a_debugger {c} q) _ k rest z l o f = by_end q (with_in c) (start (with_in c) k) k (tree.debugger_statement (nothing_of 0)) rest l (λ n. refl) refl
statement_read (grammar.a_switch {c} {third = third} {head = head_tokens} {inside = inside} {e = e} {cases = cs} p d) (of_p, of_d) k rest z l o f = ap (λ y. run (tree_then y (λ t. switch_body (with_in c) k t)) (group third Brace inside rest)) (whole c head_tokens e of_p.0) ∙ ap (λ y. run (trees_then y (λ v. ended (with_in c) k (tree.switch_statement (nothing_of 0) e v))) rest) (of_d no_trees)
statement_read (grammar.a_try {c} {inside = inside} {ts = ts} {body = body} p r) (of_p, of_r) k rest z l o f = ap (λ y. run (trees_then y (λ ss. tried (with_in c) k ss)) (ts ⧺ rest)) (in_block (with_in c) inside body (of_p in_braces no_trees done (λ x. (refl, refl)) refl refl)) ∙ of_r k body rest f
statement_read (grammar.a_return {c} {ts = ts} {a = a} {m = v} g q r) of_r k rest z l o f = by_end q (with_in c) (start (with_in c) k) k (tree.return_statement (nothing_of 0) v) rest l (λ n. ap (λ s. run s (a ⧺ piece n (Sign semicolon) rest)) (return_step c k g) ∙ (of_r k).0 n rest) (ap (λ s. run s (a ⧺ done)) (return_step c k g) ∙ (of_r k).1)

-- what `return` gives back, before a semicolon and at the end
abbrev pub ReturnedParts : {c : Allowed} {a : Tokens} {m : Maybe} → ReadsReturned c a m → Type 0
ReturnedParts (grammar.a_returned_value s d) = ExpressionShown d
ReturnedParts d = ⊤

pub returned_read : {c : Allowed} {a : Tokens} {m : Maybe} → (d : ReadsReturned c a m) → ReturnedParts d → ReturnedShown d
returned_read (grammar.nothing_returned {c}) _ k = (λ n rest. refl, refl)
returned_read (grammar.a_returned_value {c} {ts} {e} s d) of_d k = (λ n rest. returned_begins (with_in c) ts e (whole c ts e of_d.0) s k (piece n (Sign semicolon) rest) ∙ of_d.0 (return_of ∷ k) (piece n (Sign semicolon) rest) (omega arith) (omega arith), returned_begins (with_in c) ts e (whole c ts e of_d.0) s k done ∙ of_d.0 (return_of ∷ k) done (omega arith) (omega arith))

-- what a jump leads to, likewise
pub label_read : {a : Tokens} {m : Maybe} → (d : ReadsLabel a m) → LabelShown d
label_read grammar.no_label c f k = (λ n rest. jump_end n rest c f k, refl)
label_read (grammar.a_label {w} {v} e x) c f k = (λ n rest. ap (λ s. run s (piece n (Sign semicolon) rest)) (jump_label c f k w e x), ap (λ s. run s done) (jump_label c f k w e x))

-- what follows the block of `try`
abbrev pub EndsOfTryParts : {c : Allowed} {ts : Tokens} {h g : Maybe} → ReadsEndsOfTry c ts h g → Type 0
EndsOfTryParts (grammar.a_handler r) = HandlerShown r
EndsOfTryParts (grammar.a_finalizer (grammar.a_finally d)) = StatementsShown d
EndsOfTryParts (grammar.a_handler_and_a_finalizer e r (grammar.a_finally d)) = HandlerShown r × StatementsShown d

pub ends_of_try : {c : Allowed} {ts : Tokens} {h g : Maybe} → (d : ReadsEndsOfTry c ts h g) → EndsOfTryParts d → EndsOfTryShown d
ends_of_try (grammar.a_handler {c} {ts} {h} r) of_r k body rest f = of_r k body rest ∙ handled_end (with_in c) k body h rest f
ends_of_try (grammar.a_finalizer (grammar.a_finally {c} {inside = inside} {body = block} d)) of_d k body rest f = ap (λ y. run (trees_then y (λ ss. ended (with_in c) k (try_of body absent (given (tree.block (nothing_of 0) ss))))) rest) (in_block (with_in c) inside block (of_d in_braces no_trees done (λ x. (refl, refl)) refl refl))
ends_of_try (grammar.a_handler_and_a_finalizer {ts = ts} {a = a} {b = b} {h = h} e r (grammar.a_finally {c} {mark = m} {next = n} {inside = inside} {body = block} d)) (of_r, of_d) k body rest f = ap (λ x. run (tried (with_in c) k body) (x ⧺ rest)) e ∙ (ap (run (tried (with_in c) k body)) (then_assoc a (piece m (Word (codes "finally")) (group n Brace inside done)) rest) ∙ (of_r k body (piece m (Word (codes "finally")) (group n Brace inside rest)) ∙ ap (λ y. run (trees_then y (λ ss. ended (with_in c) k (try_of body (given h) (given (tree.block (nothing_of 0) ss))))) rest) (in_block (with_in c) inside block (of_d in_braces no_trees done (λ x. (refl, refl)) refl refl))))

-- a handler, before `finally` or another statement
abbrev pub HandlerParts : {c : Allowed} {ts : Tokens} {h : Tree} → ReadsHandler c ts h → Type 0
HandlerParts (grammar.a_catch d) = StatementsShown d
HandlerParts (grammar.a_catch_by_name p d) = BindingShown p × StatementsShown d

pub handler_read : {c : Allowed} {ts : Tokens} {h : Tree} → (d : ReadsHandler c ts h) → HandlerParts d → HandlerShown d
handler_read (grammar.a_catch {c} {inside = inside} {body = block} d) of_d k body rest = ap (λ y. run (trees_then y (λ ss. handled (with_in c) k body (catch_of absent ss))) rest) (in_block (with_in c) inside block (of_d in_braces no_trees done (λ x. (refl, refl)) refl refl))
handler_read (grammar.a_catch_by_name {c} {third = l} {name = name} {inside = inside} {b = b} {body = block} p d) (of_p, of_d) k body rest = ap (λ y. run (tree_then y (λ b. caught (with_in c) k body (given b))) (group l Brace inside rest)) (ap (run (binding (with_in c) a_catch [])) (sym (then_done name)) ∙ of_p true a_catch [] done) ∙ ap (λ y. run (trees_then y (λ ss. handled (with_in c) k body (catch_of (given b) ss))) rest) (in_block (with_in c) inside block (of_d in_braces no_trees done (λ x. (refl, refl)) refl refl))

-- the first part of a head with its semicolon
abbrev pub InitParts : {c : Allowed} {a : Tokens} {init : Maybe} → ReadsInit c a init → Type 0
InitParts (grammar.first_variables kd (grammar.some_variables p)) = DeclaratorsShown p
InitParts (grammar.first_expression d) = ExpressionShown d
InitParts d = ⊤

pub init_read : {c : Allowed} {a : Tokens} {init : Maybe} → (d : ReadsInit c a init) → InitParts d → InitShown d
init_read grammar.no_init _ m rest = refl
init_read (grammar.first_variables {c} kd (grammar.some_variables {mark = n} {ts = us} {ds = ds} p)) of_p m rest = ap (λ s. run s (us ⧺ piece m (Sign semicolon) rest)) (declaring_head false (without_in c) kd) ∙ (of_p kd (first_part false ∷ []) no_trees).0 m rest
init_read (grammar.first_expression {c} {ts} {e} d) of_d m rest = let w : run (operand (without_in c) []) ts ≡ one_tree e = ap (run (operand (without_in c) [])) (sym (then_done ts)) ∙ of_d.0 [] done (omega arith) (omega arith) in head_begins false (without_in c) ts e w (piece m (Sign semicolon) rest) (λ x. untrue x) (not_looped c ts e w (piece m (Sign semicolon) rest) (inl refl)) ∙ of_d.0 (first_part false ∷ []) (piece m (Sign semicolon) rest) (omega arith) (omega arith)

-- the second part of a loop's head, with its semicolon
abbrev pub PartParts : {c : Allowed} {b : Tokens} {test : Maybe} → ReadsPart c b test → Type 0
PartParts (grammar.an_expression_there d) = ExpressionShown d
PartParts d = ⊤

pub test_read : {c : Allowed} {b : Tokens} {test : Maybe} → (d : ReadsPart c b test) → PartParts d → SecondShown d
test_read grammar.nothing_there _ init m rest = refl
test_read (grammar.an_expression_there {c} {ts = ts} {e = e} d) of_d init m rest = second_begins c ts e (ap (run (operand c [])) (sym (then_done ts)) ∙ of_d.0 [] done (omega arith) (omega arith)) init (piece m (Sign semicolon) rest) ∙ of_d.0 (test_part init ∷ []) (piece m (Sign semicolon) rest) (omega arith) (omega arith)

-- the third
pub update_read : {c : Allowed} {b : Tokens} {update : Maybe} → (d : ReadsPart c b update) → PartParts d → ThirdShown d
update_read grammar.nothing_there _ init test = refl
update_read (grammar.an_expression_there {c} {ts = ts} {e = e} d) of_d init test = third_begins c ts e (ap (run (operand c [])) (sym (then_done ts)) ∙ of_d.0 [] done (omega arith) (omega arith)) init test ∙ (ap (run (operand c (last_part init test ∷ []))) (sym (then_done ts)) ∙ of_d.0 (last_part init test ∷ []) done (omega arith) (omega arith))

-- what a loop gives its values to, with `in` or `of`, if it waits for them with `of`
abbrev pub LeftParts : {c : Allowed} {precedes : Bool} {a : Tokens} {l : Tree} → ReadsLeft c precedes a l → Type 0
LeftParts (grammar.a_declared_name kd d) = BindingShown d
LeftParts (grammar.a_target g d s) = ExpressionShown d
LeftParts (grammar.a_left_pattern d) = PatternShown d

pub left_read : {c : Allowed} {precedes : Bool} {a : Tokens} {l : Tree} → (d : ReadsLeft c precedes a l) → LeftParts d → LeftShown d
left_read (grammar.a_declared_name {c} {ts = ts} {b = b} kd d) of_d over waits p q m rest = ap (λ s. run s (ts ⧺ piece m (Word (loop_word over)) rest)) (declaring_head waits (without_in c) kd) ∙ (of_d false (a_declaration kd no_trees) (first_part waits ∷ []) (piece m (Word (loop_word over)) rest) ∙ declared_over over waits c kd b m rest)
left_read (grammar.a_target {c} {before_of = precedes} {ts = ts} {t = t} {u = u} g d s) of_d over waits p q m rest = left_target c ts t u over waits precedes of_d.1 s g p q m rest
left_read (grammar.a_left_pattern {c} d) of_d over waits p q m rest = of_d.2 over waits m rest

-- declarators behind those so far, before a semicolon and at the end
abbrev pub DeclaratorsParts : {c : Allowed} {ts : Tokens} {ds : Trees} → ReadsDeclarators c ts ds → Type 0
DeclaratorsParts (grammar.last_declarator d) = DeclaratorShown d
DeclaratorsParts (grammar.first_declarator m e d p) = DeclaratorShown d × DeclaratorsShown p

pub declarators_read : {c : Allowed} {ts : Tokens} {ds : Trees} → (d : ReadsDeclarators c ts ds) → DeclaratorsParts d → DeclaratorsShown d
declarators_read (grammar.last_declarator d) of_d kd k sofar = let x = of_d kd k sofar in (x.2, x.0)
declarators_read (grammar.first_declarator {c} {ts} {a} {b} {d = x} {ds} m e d p) (of_d, of_p) kd k sofar = (
  λ n rest. parted (binding c (a_declaration kd sofar) k) ts a m (Sign comma) b (piece n (Sign semicolon) rest) e ∙ ((of_d kd k sofar).1 m (b ⧺ piece n (Sign semicolon) rest) ∙ ((of_p kd k (joined sofar (more x no_trees))).0 n rest ∙ ap (λ y. run (variables_ended c k (tree.variable_declaration (declared_as kd) y)) rest) (joined_more sofar ds x))),
  ap (run (binding c (a_declaration kd sofar) k)) e ∙ ((of_d kd k sofar).1 m b ∙ ((of_p kd k (joined sofar (more x no_trees))).1 ∙ ap (λ y. lacking k (tree.variable_declaration (declared_as kd) y)) (joined_more sofar ds x))),
)

-- a declarator, at the end, before a comma and before a semicolon
abbrev pub DeclaratorParts : {c : Allowed} {ts : Tokens} {d : Tree} → ReadsDeclarator c ts d → Type 0
DeclaratorParts (grammar.with_value m q d f) = BindingShown d × ExpressionShown f
DeclaratorParts d = ⊤

pub declarator_read : {c : Allowed} {ts : Tokens} {d : Tree} → (d : ReadsDeclarator c ts d) → DeclaratorParts d → DeclaratorShown d
declarator_read (grammar.without_value {c} {mark = m} {w = w} {v = v} e x) _ kd k sofar = bound_alone c (binding c (a_declaration kd sofar) k) (a_declaration kd sofar) k (piece m (Word w) done) (tree.binding_identifier (unnumbered v)) (λ rest. refl) (λ i g l rest. ap (λ s. run s rest) (name_bound (set_in i c) g l w e x)) refl
declarator_read (grammar.with_value {c} {ts} {a} {v} {b} {e} m q d f) (of_d, of_f) kd k sofar = bound_with_value c (binding c (a_declaration kd sofar) k) (a_declaration kd sofar) k ts a v b e m q (λ rest. refl) of_d of_f.0 refl

-- cases behind those so far
abbrev pub CasesParts : {c : Allowed} {default : Bool} {ts : Tokens} {cs : Trees} → ReadsCases c default ts cs → Type 0
CasesParts (grammar.last_case d) = CaseShown d
CasesParts (grammar.first_case e d p) = CaseShown d × CasesShown p
CasesParts d = ⊤

pub cases_read : {c : Allowed} {default : Bool} {ts : Tokens} {cs : Trees} → (d : ReadsCases c default ts cs) → CasesParts d → CasesShown d
cases_read grammar.no_case _ sofar = ap some_trees (sym (joined_none sofar))
cases_read (grammar.last_case {c} {default = d0} {ts = ts} d) of_d sofar =
    let x = of_d in
    ap (run (before_case (with_in c) d0 sofar)) (sym (then_done ts)) ∙ (x.3 sofar done (λ x. refl) refl refl ∙ ap (λ y. some_trees (joined sofar (more y no_trees))) (sym x.2))
cases_read (grammar.first_case {c} {default = d0} {rest = d1} {ts = ts} {a = a} {b = b} {t = t} {us = us} e d p) (of_d, of_p) sofar =
    let x = of_d in
    let n = cases_not p in
    ap (run (before_case (with_in c) d0 sofar)) e ∙ (x.3 sofar b (λ y. untrue y) n.0 n.1 ∙ (cases_begin p (with_in c) sofar x.0 x.1 ∙ (ap (λ y. run (before_case (with_in c) d1 (joined sofar (more y no_trees))) b) (sym x.2) ∙ (of_p (joined sofar (more t no_trees)) ∙ ap some_trees (joined_more sofar us t)))))

-- a case, before another one
abbrev pub CaseParts : {c : Allowed} {last default next : Bool} {ts : Tokens} {t : Tree} → ReadsCase c last default next ts t → Type 0
CaseParts (grammar.a_case k e d p) = ExpressionShown d × StatementsShown p
CaseParts (grammar.a_default p) = StatementsShown p

pub case_read : {c : Allowed} {last default next : Bool} {ts : Tokens} {t : Tree} → (d : ReadsCase c last default next ts t) → CaseParts d → CaseShown d
case_read (grammar.a_case {c} {default = d0} {ts = ts} {a = a} {b = b} {t = t} {ss = ss} k e d p) (of_d, of_p) = (given t, ss, refl, λ sofar rest l o f. parted (operand (with_in c) (case_test d0 sofar ∷ [])) ts a k (Sign colon) b rest e ∙ (of_d.0 (case_test d0 sofar ∷ []) (piece k (Sign colon) (b ⧺ rest)) (omega arith) (omega arith) ∙ of_p (in_case d0 sofar (given t)) no_trees rest (λ x. (l x, refl)) o f))
case_read (grammar.a_default {c} {ts = ts} {ss = ss} p) of_p = (absent, ss, refl, λ sofar rest l o f. of_p (in_case false sofar absent) no_trees rest (λ x. (l x, refl)) o f)

-- a statement or a declaration in a list
abbrev pub ItemParts : {c : Allowed} {last : Bool} {ts : Tokens} {s : Tree} → ReadsItem c last ts s → Type 0
ItemParts (grammar.a_statement d) = StatementShown d
ItemParts (grammar.a_function_declaration d) = FunctionShown d
ItemParts (grammar.a_class_declaration d) = ClassShown d
ItemParts (grammar.a_declaration kd v q (grammar.some_variables p)) = DeclaratorsShown p

pub item_read : {c : Allowed} {last : Bool} {ts : Tokens} {s : Tree} → (d : ReadsItem c last ts s) → ItemParts d → ItemShown d
item_read (grammar.a_statement d) of_d k rest z il l o f = of_d k rest z l (λ x. o) f
item_read (grammar.a_function_declaration {c} d) of_d k rest z il l o f = of_d (start (with_in c) k) (as_statement (with_in c) k) refl (λ x. untrue x) (λ m us. ap (λ s. run s us) (function_step (with_in c) k il)) (λ m us. ap (λ s. run s us) (async_function_step (with_in c) k il)) rest
item_read (grammar.a_class_declaration {c} d) of_d k rest z il l o f = of_d (start (with_in c) k) (as_statement (with_in c) k) refl (λ x. untrue x) refl (λ m us. ap (λ s. run s us) (class_step (with_in c) k il)) rest
item_read (grammar.a_declaration {c} kd v q (grammar.some_variables {mark = m} {ts = us} {ds = ds} p)) of_p k rest z il l o f = by_end q (with_in c) (start (with_in c) k) k (tree.variable_declaration (declared_as kd) ds) rest l (λ n. ap (λ s. run s (us ⧺ piece n (Sign semicolon) rest)) (declaring_start (with_in c) kd k il) ∙ ((of_p kd k no_trees).0 n rest ∙ ap (λ s. run s rest) (variables_end (with_in c) k (tree.variable_declaration (declared_as kd) ds) z))) (ap (λ s. run s (us ⧺ done)) (declaring_start (with_in c) kd k il) ∙ (ap (run (binding (with_in c) (a_declaration kd no_trees) k)) (then_done us) ∙ (of_p kd k no_trees).1))

-- statements behind those so far
abbrev pub StatementsParts : {c : Allowed} {last : Bool} {ts : Tokens} {ss : Trees} → ReadsStatements c last ts ss → Type 0
StatementsParts (grammar.last_statement d) = ItemShown d
StatementsParts (grammar.first_statement e d p) = ItemShown d × StatementsShown p
StatementsParts d = ⊤

pub statements_read : {c : Allowed} {last : Bool} {ts : Tokens} {ss : Trees} → (d : ReadsStatements c last ts ss) → StatementsParts d → StatementsShown d
statements_read (grammar.no_statement {c}) _ b sofar rest l o f = ap (λ x. run (start (with_in c) (list_of b x ∷ [])) rest) (sym (joined_none sofar))
statements_read (grammar.last_statement {c} {ts = ts} {s = s} d) of_d b sofar rest l o f = of_d (list_of b sofar ∷ []) rest refl refl l o f ∙ close_item (with_in c) b sofar s rest o
statements_read (grammar.first_statement {c = c} {ts = ts} {a = x} {b = y} {s = s} {ss = ss} e d p) (of_d, of_p) b sofar rest l o f =
    let next : run (start (with_in c) (list_of in_braces no_trees ∷ [])) y ≡ some_trees ss = in_block (with_in c) y ss (of_p in_braces no_trees done (λ x. (refl, refl)) refl refl) in
    let u = unstarted (with_in c) (list_of in_braces no_trees ∷ []) in
    let o1 : starts_else (y ⧺ rest) ≡ false = else_then y rest (same_else y (not_begun (with_in c) (codes "else") y (list_of in_braces no_trees ∷ []) ss u.0 next)) o in
    let f1 : starts_the (codes "finally") (y ⧺ rest) ≡ false = the_then (codes "finally") y rest (not_begun (with_in c) (codes "finally") y (list_of in_braces no_trees ∷ []) ss u.1 next) f in
    ap (λ v. run (start (with_in c) (list_of b sofar ∷ [])) (v ⧺ rest)) e ∙ (ap (run (start (with_in c) (list_of b sofar ∷ []))) (then_assoc x y rest) ∙ (of_d (list_of b sofar ∷ []) (y ⧺ rest) refl refl (λ v. untrue v) o1 f1 ∙ (close_item (with_in c) b sofar s (y ⧺ rest) o1 ∙ (of_p b (joined sofar (more s no_trees)) rest l o f ∙ ap (λ v. run (start (with_in c) (list_of b v ∷ [])) rest) (joined_more sofar ss s)))))
