-- The rows of statements and programs: what each is spelled by is settled where what is in it is.
use Rattle.std.proofs.Common.{◌≡◌, ℕ, Bool, codes, refl, sym, ap, subst}
use Rattle.jsgen_syntax.specs.declared.precedence.Precedence.TheVariants.{Lowest}
use Rattle.jsgen_tree.specs.Tree.{Tree, Atoms, Maybe, Trees, type_of, span_of}
use Rattle.jsgen_tree.specs.Nodes as tree
use Rattle.jsgen_tree.specs.Values.{for_of_statement_is_await}
use Rattle.jsgen_tree.specs.Inside.{looked_up_in, ends_open}
use Rattle.jsgen_place.specs.Place.{child, among_statements, within_statement}
use Rattle.jsgen_model.specs.Punctuator.{Round}
use Rattle.jsgen_model.specs.Items.{Items, ◌⊕◌, word, soft_space, caught}
use Rattle.jsgen_model.specs.Resolved.{resolved, resolved_maybe, after, after_maybe, after_trees}
use Rattle.jsgen_model.specs.Spellings.{left_place, body_items, consequent_items, is_given, shape, before_of}
use Rattle.jsgen_model.specs.Spell.{spell, spell_caught}
use Rattle.jsgen_private_laws.proofs.Same.{type_same, span_same, looked_up_in_same}
use Rattle.jsgen_private_laws.proofs.SpelledQuestions.{is_given_same}
use Rattle.jsgen_private_laws.proofs.Settled.{Scope}
use Rattle.jsgen_private_laws.proofs.Settles.{Settles, plain, both, before, behind, becomes, brackets_settle, caught_settles}
use Rattle.jsgen_private_laws.proofs.SettledHelpers.{plain_if, as_statement_settles, braces_settle, block_braces_settle, block_settles, consequent_settles, body_settles, do_settles, case_settles, before_of_settles}
use Rattle.jsgen_private_laws.proofs.Ties.{Tie, TieIfGiven, TieEach, IsEmptyAlone, IsEmptyAloneIfGiven, IsEmptyAloneInOne, given_settles, apart_settles, value_settles, test_settles, parameter_caught_settles, finalizer_settles, else_settles, directives_settle, statements_settle, body_settles_whole, cases_settle, list_settles, one_settles}

-- what is known at another number
pub from : {s : Scope} {n k m : ℕ} {i j : Items} → k ≡ n → Settles s k i j m → Settles s n i j m
from {s} {n} {k} {m} {i} {j} e x = subst (λ c. Settles s c i j m) e x

-- ---- programs

-- its comments hold text alone
pub program_tie : (a : Atoms) (comments : Trees) (h : Maybe) (ds ts : Trees) → ((n : ℕ) → after_trees comments n ≡ n) → TieIfGiven h → TieEach ds → TieEach ts → Tie (tree.program a comments h ds ts)
program_tie a comments h ds ts c e f g s n place =
    let k : ℕ = after_trees comments n in
    let m : ℕ = after_maybe h k in
    from (c n) (before refl (both (given_settles h e s k place) (both (directives_settle ds f s m) (behind (body_settles_whole ts g s (after_trees ds m)) refl))))

pub directive_tie : (a : Atoms) → Tie (tree.directive a)
directive_tie a s n place = plain refl

pub hashbang_tie : (a : Atoms) → Tie (tree.hashbang a)
hashbang_tie a s n place = plain refl

-- ---- declarations and simple statements

pub variable_declaration_tie : (a : Atoms) (ts : Trees) → TieEach ts → Tie (tree.variable_declaration a ts)
variable_declaration_tie a ts e s n place = as_statement_settles place.in_list a.span.start (before refl (before refl (before refl (list_settles ts e s n _))))

pub variable_declarator_tie : (a : Atoms) (t : Tree) (m : Maybe) → Tie t → TieIfGiven m → Tie (tree.variable_declarator a t m)
variable_declarator_tie a t m e f s n place = both (e s n _) (value_settles m f s (after t n) _)

pub expression_statement_tie : (a : Atoms) (t : Tree) → Tie t → Tie (tree.expression_statement a t)
expression_statement_tie a t e s n place = before refl (before refl (before refl (behind (e s n _) refl)))

pub empty_statement_tie : (a : Atoms) → Tie (tree.empty_statement a)
empty_statement_tie a s n place = plain refl

pub debugger_tie : (a : Atoms) → Tie (tree.debugger_statement a)
debugger_tie a s n place = plain refl

pub throw_tie : (a : Atoms) (t : Tree) → Tie t → Tie (tree.throw_statement a t)
throw_tie a t e s n place = before refl (before refl (before refl (before refl (behind (e s n _) refl))))

pub return_tie : (a : Atoms) (m : Maybe) → TieIfGiven m → Tie (tree.return_statement a m)
return_tie a m e s n place = before refl (before refl (before refl (behind (apart_settles m e s n _) refl)))

pub label_tie : (a : Atoms) → Tie (tree.label_identifier a)
label_tie a s n place = plain refl

pub break_tie : (a : Atoms) (m : Maybe) → TieIfGiven m → Tie (tree.break_statement a m)
break_tie a m e s n place = before refl (before refl (before refl (behind (apart_settles m e s n _) refl)))

pub continue_tie : (a : Atoms) (m : Maybe) → TieIfGiven m → Tie (tree.continue_statement a m)
continue_tie a m e s n place = before refl (before refl (before refl (behind (apart_settles m e s n _) refl)))

-- ---- blocks, and statements with bodies

pub block_tie : (a : Atoms) (ts : Trees) → TieEach ts → Tie (tree.block a ts)
block_tie a ts e s n place = both (plain_if place.in_list _ refl) (block_settles place.in_list (block_braces_settle a.span ts (statements_settle ts e s n)))

-- a body, as it stands within what is round it and among statements
with_body : (t : Tree) → IsEmptyAlone t → Tie t → (s : Scope) (n : ℕ) → Settles s n (body_items (shape t) (spell t within_statement) (spell t among_statements)) (body_items (shape (resolved s.tables s.classes n t)) (spell (resolved s.tables s.classes n t) within_statement) (spell (resolved s.tables s.classes n t) among_statements)) (after t n)
with_body t h e s n = body_settles t (λ f. h f n) (e s n within_statement) (e s n among_statements)

pub if_tie : (a : Atoms) (t c : Tree) (m : Maybe) → IsEmptyAlone c → IsEmptyAloneIfGiven m → Tie t → Tie c → TieIfGiven m → Tie (tree.if_statement a t c m)
if_tie a t c m h k e f g s n place =
    let o : ℕ = after t n in
    let c1 : Tree = resolved s.tables s.classes o c in
    let given = sym (is_given_same s.tables s.classes (after c o) m) in
    let consequent = becomes (consequent_settles c (is_given m) (λ x. h x o) (f s o within_statement) (f s o among_statements)) (λ i. consequent_items (shape c1) (ends_open c1) (record { span = span_of c1; inner = spell c1 within_statement; whole = spell c1 among_statements; else_follows = given i })) in
    both (plain_if place.in_list _ refl) (before refl (before refl (both (brackets_settle Round (e s n _)) (both consequent (else_settles m k g s (after c o))))))

pub for_tie : (a : Atoms) (init test update : Maybe) (b : Tree) → IsEmptyAlone b → TieIfGiven init → TieIfGiven test → TieIfGiven update → Tie b → Tie (tree.for_statement a init test update b)
for_tie a init test update b h e f g d s n place =
    let m : ℕ = after_maybe init n in
    let o : ℕ = after_maybe test m in
    let head = both (given_settles init e s n _) (before refl (both (apart_settles test f s m _) (before refl (apart_settles update g s o _)))) in
    before refl (before refl (before refl (before refl (both (brackets_settle Round head) (with_body b h d s (after_maybe update o))))))

-- what a loop gives its values
left_tie : (t : Tree) → Tie t → (s : Scope) (n : ℕ) → Settles s n (spell t (left_place (type_of t))) (spell (resolved s.tables s.classes n t) (left_place (type_of (resolved s.tables s.classes n t)))) (after t n)
left_tie t e s n = becomes (e s n (left_place (type_of t))) (ap (λ type. spell (resolved s.tables s.classes n t) (left_place type)) (sym (type_same s.tables s.classes n t)))

pub for_in_tie : (a : Atoms) (l r b : Tree) → IsEmptyAlone b → Tie l → Tie r → Tie b → Tie (tree.for_in_statement a l r b)
for_in_tie a l r b h e f g s n place =
    let m : ℕ = after l n in
    let head = both (left_tie l e s n) (before refl (before refl (before refl (f s m _)))) in
    before refl (before refl (before refl (before refl (both (brackets_settle Round head) (with_body b h g s (after r m))))))

pub for_of_tie : (a : Atoms) (l r b : Tree) → IsEmptyAlone b → Tie l → Tie r → Tie b → Tie (tree.for_of_statement a l r b)
for_of_tie a l r b h e f g s n place =
    let m : ℕ = after l n in
    let l1 : Tree = resolved s.tables s.classes n l in
    let awaits : Bool = for_of_statement_is_await a in
    let said = sym (looked_up_in_same s.tables s.classes n l) in
    let left = becomes (before_of_settles awaits (looked_up_in l) (left_tie l e s n)) (λ i. before_of awaits (said i) (spell l1 (left_place (type_of l1)))) in
    let head = both left (before refl (before refl (before refl (f s m _)))) in
    before refl (before refl (before refl (both (plain_if awaits _ refl) (before refl (both (brackets_settle Round head) (with_body b h g s (after r m)))))))

pub while_tie : (a : Atoms) (t b : Tree) → IsEmptyAlone b → Tie t → Tie b → Tie (tree.while_statement a t b)
while_tie a t b h e f s n place = before refl (before refl (before refl (before refl (both (brackets_settle Round (e s n _)) (with_body b h f s (after t n))))))

pub do_while_tie : (a : Atoms) (b t : Tree) → IsEmptyAlone b → Tie b → Tie t → Tie (tree.do_while_statement a b t)
do_while_tie a b t h e f s n place =
    let body = do_settles b (λ x. h x n) (e s n within_statement) (e s n among_statements) in
    before refl (before refl (before refl (both body (before refl (before refl (behind (brackets_settle Round (f s (after b n) _)) refl))))))

pub labeled_tie : (a : Atoms) (l b : Tree) → IsEmptyAlone b → Tie l → Tie b → Tie (tree.labeled_statement a l b)
labeled_tie a l b h e f s n place = before refl (before refl (before refl (before refl (both (e s n _) (before refl (with_body b h f s (after l n)))))))

-- ---- switch and try

pub switch_tie : (a : Atoms) (t : Tree) (ts : Trees) → Tie t → TieEach ts → Tie (tree.switch_statement a t ts)
switch_tie a t ts e f s n place = before refl (before refl (before refl (before refl (both (brackets_settle Round (e s n _)) (before refl (behind (braces_settle a.span ts (cases_settle ts f s (after t n))) refl))))))

pub switch_case_tie : (a : Atoms) (m : Maybe) (ts : Trees) → IsEmptyAloneInOne ts → TieIfGiven m → TieEach ts → Tie (tree.switch_case a m ts)
switch_case_tie a m ts h e f s n place =
    let o : ℕ = after_maybe m n in
    let statements = case_settles ts (one_settles a.span.end ts h f s o) (behind (statements_settle ts f s o) refl) in
    before refl (before refl (before refl (both (test_settles m e s n _) (before refl statements))))

pub try_tie : (a : Atoms) (b : Tree) (h f : Maybe) → Tie b → TieIfGiven h → TieIfGiven f → Tie (tree.try_statement a b h f)
try_tie a b h f e g d s n place =
    let m : ℕ = after b n in
    before refl (before refl (before refl (before refl (both (e s n _) (both (given_settles h g s m _) (behind (finalizer_settles f d s (after_maybe h m)) refl))))))

pub catch_tie : (a : Atoms) (p : Maybe) (b : Tree) → TieIfGiven p → Tie b → Tie (tree.catch_clause a p b)
catch_tie a p b e f s n place =
    let m : ℕ = after_maybe p n in
    let p1 : Maybe = resolved_maybe s.tables s.classes n p in
    let at = sym (span_same s.tables s.classes m b) in
    let head = caught_settles a.span.start (span_of b).start (before refl (behind (parameter_caught_settles p e s n (child Lowest place)) refl)) in
    before refl (both (becomes head (λ i. caught a.span.start (at i).start (word (codes "catch") ⊕ (spell_caught p1 (child Lowest place) ⊕ soft_space)))) (f s m _))
