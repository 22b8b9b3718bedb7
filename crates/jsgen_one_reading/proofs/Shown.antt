-- What is claimed of what the grammar reads, family by family.
use Rattle.std.proofs.Common.{◌≡◌, ◌≤◌, List, [], ◌∷◌, Bool, true, false, codes}
use Rattle.jsgen_tree.specs.declared.statements.VariableDeclarationKind.{VariableDeclarationKind}
use Rattle.jsgen_tree.specs.declared.classes.ClassKind.{ClassKind}
use Rattle.jsgen_tree.specs.declared.functions.FunctionKind.{FunctionKind}
use Rattle.jsgen_tree.specs.Tree.{Tree, Maybe, Trees, no_trees, more, absent}
use Rattle.jsgen_tree.specs.Nodes as tree
use Rattle.jsgen_model.specs.Punctuator.{comma, semicolon, question_dot, arrow}
use Rattle.jsgen_model.specs.Tokens.{Tokens, done, piece, ◌⧺◌, Word, Sign}
use Rattle.jsgen_model.specs.Normal.{nothing_of, declared_as, joined}
use Rattle.jsgen_model.specs.Grammar.{Allowed, with_in, without_in, Level, on_same_line, ReadsExpression, ReadsClass, ReadsFunction, ReadsFunctionAs, ReadsArrow, ReadsArrowParameters, ReadsParameters, ReadsParameter, ReadsParts, ReadsChain, ReadsChainBase, ReadsProperties, ReadsProperty, ReadsElements, ReadsArguments, ReadsArgumentList, ReadsElement, ReadsBinding, ReadsBindingElement, ReadsBindingElements, ReadsBindingProperty, ReadsBindingProperties, ReadsPattern, ReadsTarget, ReadsTargetElement, ReadsTargetElements, ReadsTargetProperties, ReadsTargetProperty, ReadsDeclarator, ReadsDeclarators, ReadsStatement, ReadsReturned, ReadsInit, ReadsPart, ReadsLeft, ReadsLabel, ReadsCases, ReadsCase, ReadsEndsOfTry, ReadsHandler, ReadsItem, ReadsStatements, ReadsBody, ReadsTemplate, ReadsPieces}
use Rattle.jsgen_one_reading.specs.States.{sole_parameter, a_declaration, names, targets, elements_of, parts_of, arguments, spread_of, list_of, of_object, operand, settled, chaining, chained, arrowed, parameter, binding, target, pattern_elements, pattern_properties, start, ended, jumping, returning, head, second_part, third_part, before_case, tried, handled, before_directives, function_word, class_word, property, some_trees, with_rest, a_body, a_loop, Bottom, Binder, Place, Frame, wants, wanted, set_in, Kept, State}
use Rattle.jsgen_one_reading.specs.ExpressionPieces.{spread_operand, with_value, with_bound, next_bound, variables_ended, takes_default, looping}
use Rattle.jsgen_one_reading.specs.Steps.{may_be_nameless, stands_alone, takes_value, is_list, try_of, kept, kept_kind, kept_class, kept_allowed}
use Rattle.jsgen_one_reading.specs.Ends.{bottom_lacks, may_lack, lacking, for_of_parts, bound_end}
use Rattle.jsgen_one_reading.specs.Reader.{run}
use Rattle.jsgen_one_reading.proofs.Steps.{rest_rank, starts_else}
use Rattle.jsgen_one_reading.proofs.Claims.{Claim}
use Rattle.jsgen_one_reading.proofs.ExpressionSteps.{before_arrow}
use Rattle.jsgen_one_reading.proofs.StatementSteps.{starts_the, stands, StatementRead, loop_word, AloneRead, CaseRead}
use Rattle.jsgen_one_reading.proofs.PatternSteps.{BindingRead, Begins, PatternRead, TargetRead}
use Rattle.jsgen_one_reading.proofs.SpecialSteps.{PiecesRead, TaggedRead}

-- an expression
abbrev pub ExpressionShown : {c : Allowed} {g : Level} {ts : Tokens} {t : Tree} → ReadsExpression c g ts t → Type 0
ExpressionShown {c} {g} {ts} {t} reading = Claim g c ts t

-- a template behind a tag
abbrev pub TemplateShown : {c : Allowed} {ts : Tokens} {q : Tree} → ReadsTemplate c ts q → Type 0
TemplateShown {c} {ts} {q} reading = TaggedRead c ts q

-- further pieces of a template, and the expressions before them
abbrev pub PiecesShown : {c : Allowed} {tagged : Bool} {ts : Tokens} {qs es : Trees} → ReadsPieces c tagged ts qs es → Type 0
PiecesShown {c} {tagged} {ts} {qs} {es} reading = PiecesRead c tagged ts qs es

-- the parts of a sequence behind those so far
abbrev pub SequenceShown : {c : Allowed} {ts : Tokens} {us : Trees} → ReadsParts c ts us → Type 0
SequenceShown {c} {ts} {us} reading = (sofar : Trees) (k : List Frame) (rest : Tokens) → rest_rank c.in_operator rest ≤ 1 → run (operand c (parts_of sofar ∷ k)) (ts ⧺ rest) ≡ run (settled c k (tree.sequence (nothing_of 0) (joined sofar us))) rest

-- the inside of a call's parentheses
abbrev pub ArgumentsShown : {c : Allowed} {ts : Tokens} {es : Trees} → ReadsArguments c ts es → Type 0
ArgumentsShown {c} {ts} {es} reading = run (operand c (arguments no_trees ∷ [])) ts ≡ some_trees es

-- with a last comma or without
abbrev pub ArgumentListShown : {c : Allowed} {ts : Tokens} {es : Trees} → ReadsArgumentList c ts es → Type 0
ArgumentListShown {c} {ts} {es} reading = (sofar : Trees) → (run (operand c (arguments sofar ∷ [])) ts ≡ some_trees (joined sofar es)) × ((m : Bool) → run (operand c (arguments sofar ∷ [])) (ts ⧺ piece m (Sign comma) done) ≡ some_trees (joined sofar es))

-- an element of an array or an argument, before what ends it
abbrev pub ElementShown : {c : Allowed} {ts : Tokens} {e : Tree} → ReadsElement c ts e → Type 0
ElementShown {c} {ts} {e} reading = (f : Frame) → wants f ≤ 2 → spread_operand c (f ∷ []) ≡ operand c (spread_of ∷ (f ∷ [])) → (rest : Tokens) → rest_rank c.in_operator rest ≤ 2 → run (operand c (f ∷ [])) (ts ⧺ rest) ≡ run (settled c (f ∷ []) e) rest

-- the inside of an array
abbrev pub ElementsShown : {c : Allowed} {ts : Tokens} {es : Trees} → ReadsElements c ts es → Type 0
ElementsShown {c} {ts} {es} reading = (sofar : Trees) → run (operand c (elements_of sofar ∷ [])) ts ≡ some_trees (joined sofar es)

-- a chain, before links that may follow
abbrev pub ChainShown : {c : Allowed} {ts : Tokens} {t : Tree} → ReadsChain c ts t → Type 0
ChainShown {c} {ts} {t} reading = (i : Bool) (k : List Frame) (rest : Tokens) → wanted k ≤ 17 → run (operand (set_in i c) k) (ts ⧺ rest) ≡ run (chained (set_in i c) k t) rest

-- what `?.` follows
abbrev pub ChainBaseShown : {c : Allowed} {ts : Tokens} {t : Tree} → ReadsChainBase c ts t → Type 0
ChainBaseShown {c} {ts} {t} reading = (i : Bool) (k : List Frame) (m : Bool) (rest : Tokens) → wanted k ≤ 17 → run (operand (set_in i c) k) (ts ⧺ piece m (Sign question_dot) rest) ≡ run (chaining (set_in i c) k t) rest

-- an arrow function, behind `async` where it is so
abbrev pub ArrowShown : {c : Allowed} {async : Bool} {ts : Tokens} {t : Tree} → ReadsArrow c async ts t → Type 0
ArrowShown {c} {async} {ts} {t} reading = (async ≡ true → on_same_line ts ≡ true) → (k : List Frame) (rest : Tokens) → wanted k ≤ 2 → rest_rank c.in_operator rest ≤ 2 → run (before_arrow async c k) (ts ⧺ rest) ≡ run (settled c k t) rest

-- parameters and their arrow
abbrev pub ArrowParametersShown : {a : Tokens} {ps : Tree} → ReadsArrowParameters a ps → Type 0
ArrowParametersShown {a} {ps} reading = (async : Bool) (c : Allowed) (k : List Frame) (b rest : Tokens) → (async ≡ true → on_same_line (a ⧺ piece false (Sign arrow) b) ≡ true) → wanted k ≤ 2 → run (before_arrow async c k) (a ⧺ piece false (Sign arrow) rest) ≡ run (arrowed c k async ps) rest

-- parameters behind those so far
abbrev pub ParametersShown : {c : Allowed} {ts : Tokens} {ps : Trees} {r : Maybe} → ReadsParameters c ts ps r → Type 0
ParametersShown {c} {ts} {ps} {r} reading = (sofar : Trees) → run (parameter c sofar) ts ≡ with_rest (joined sofar ps) r

-- a parameter, at the end and before a comma, and the one of a setter
abbrev pub ParameterShown : {c : Allowed} {ts : Tokens} {p : Tree} → ReadsParameter c ts p → Type 0
ParameterShown {c} {ts} {p} reading = (sofar : Trees) → (run (parameter c sofar) ts ≡ with_rest (joined sofar (more p no_trees)) absent) × ((m : Bool) (rest : Tokens) → run (parameter c sofar) (ts ⧺ piece m (Sign comma) rest) ≡ run (parameter c (joined sofar (more p no_trees))) rest) × (run (binding c sole_parameter []) ts ≡ with_rest (more p no_trees) absent)

-- a binding, whatever it is for
abbrev pub BindingShown : {c : Allowed} {ts : Tokens} {b : Tree} → ReadsBinding c ts b → Type 0
BindingShown {c} {ts} {b} reading = BindingRead c ts b

-- an element of a pattern or the value of its property, which are added by one function each
abbrev pub BindingElementShown : {c : Allowed} {ts : Tokens} {t : Tree} → ReadsBindingElement c ts t → Type 0
BindingElementShown {c} {ts} {t} reading = (s : State) (g : Binder) (f : Tree → Trees) → ((b : Tree) (m : Maybe) → with_bound g b m ≡ f (with_value b m)) → ((b : Tree) → stands_alone g b ≡ true) → takes_value g ≡ true → ((a : Tokens) (b : Tree) → ReadsBinding c a b → Begins s (binding c g []) a) → (run s ts ≡ bound_end g [] (f t)) × ((n : Bool) (rest : Tokens) → run s (ts ⧺ piece n (Sign comma) rest) ≡ run (next_bound c g [] (f t)) rest)

-- the inside of brackets that bind
abbrev pub BindingElementsShown : {c : Allowed} {ts : Tokens} {es : Trees} {r : Maybe} → ReadsBindingElements c ts es r → Type 0
BindingElementsShown {c} {ts} {es} {r} reading = (sofar : Trees) → run (pattern_elements names c sofar) ts ≡ with_rest (joined sofar es) r

-- the inside of braces that bind
abbrev pub BindingPropertiesShown : {c : Allowed} {ts : Tokens} {ps : Trees} {r : Maybe} → ReadsBindingProperties c ts ps r → Type 0
BindingPropertiesShown {c} {ts} {ps} {r} reading = (sofar : Trees) → run (pattern_properties names c sofar) ts ≡ with_rest (joined sofar ps) r

-- a property of them, at the end and before a comma
abbrev pub BindingPropertyShown : {c : Allowed} {ts : Tokens} {p : Tree} → ReadsBindingProperty c ts p → Type 0
BindingPropertyShown {c} {ts} {p} reading = (sofar : Trees) → (run (pattern_properties names c sofar) ts ≡ with_rest (joined sofar (more p no_trees)) absent) × ((n : Bool) (rest : Tokens) → run (pattern_properties names c sofar) (ts ⧺ piece n (Sign comma) rest) ≡ run (pattern_properties names c (joined sofar (more p no_trees))) rest)

-- a pattern of targets, wherever one may stand
abbrev pub PatternShown : {c : Allowed} {ts : Tokens} {t : Tree} → ReadsPattern c ts t → Type 0
PatternShown {c} {ts} {t} reading = PatternRead c ts t

-- a target, before which the state is that before a list or before its place
abbrev pub TargetShown : {c : Allowed} {ts : Tokens} {t : Tree} → ReadsTarget c ts t → Type 0
TargetShown {c} {ts} {t} reading = (s : State) (g : Place) → ((a : Tokens) → AloneRead c a → Begins s (target c g) a) → ((a : Tokens) (u : Tree) → ReadsPattern c a u → Begins s (target c g) a) → TargetRead c s g ts t

-- and with its default
abbrev pub TargetElementShown : {c : Allowed} {ts : Tokens} {t : Tree} → ReadsTargetElement c ts t → Type 0
TargetElementShown {c} {ts} {t} reading = (s : State) (g : Place) → takes_default g ≡ true → ((a : Tokens) → AloneRead c a → Begins s (target c g) a) → ((a : Tokens) (u : Tree) → ReadsPattern c a u → Begins s (target c g) a) → TargetRead c s g ts t

-- the inside of brackets that are targets
abbrev pub TargetElementsShown : {c : Allowed} {ts : Tokens} {es : Trees} {r : Maybe} → ReadsTargetElements c ts es r → Type 0
TargetElementsShown {c} {ts} {es} {r} reading = (sofar : Trees) → run (pattern_elements targets c sofar) ts ≡ with_rest (joined sofar es) r

-- the inside of braces that are targets
abbrev pub TargetPropertiesShown : {c : Allowed} {ts : Tokens} {ps : Trees} {r : Maybe} → ReadsTargetProperties c ts ps r → Type 0
TargetPropertiesShown {c} {ts} {ps} {r} reading = (sofar : Trees) → run (pattern_properties targets c sofar) ts ≡ with_rest (joined sofar ps) r

-- a property of them, at the end and before a comma
abbrev pub TargetPropertyShown : {c : Allowed} {ts : Tokens} {p : Tree} → ReadsTargetProperty c ts p → Type 0
TargetPropertyShown {c} {ts} {p} reading = (sofar : Trees) → (run (pattern_properties targets c sofar) ts ≡ with_rest (joined sofar (more p no_trees)) absent) × ((n : Bool) (rest : Tokens) → run (pattern_properties targets c sofar) (ts ⧺ piece n (Sign comma) rest) ≡ run (pattern_properties targets c (joined sofar (more p no_trees))) rest)

-- a function from its first word on, by the state there and where it stands
abbrev pub FunctionShown : {kd : FunctionKind} {unnamed : Bool} {ts : Tokens} {t : Tree} → ReadsFunction kd unnamed ts t → Type 0
FunctionShown {kd} {unnamed} {ts} {t} reading = (s : State) (g : Kept) → kd ≡ kept_kind g → (unnamed ≡ true → may_be_nameless g ≡ true) → ((m : Bool) (us : Tokens) → run s (piece m (Word (codes "function")) us) ≡ run (function_word g false false) us) → ((m : Bool) (us : Tokens) → run s (piece m (Word (codes "async")) (piece false (Word (codes "function")) us)) ≡ run (function_word g true false) us) → (rest : Tokens) → run s (ts ⧺ rest) ≡ run (kept g t) rest

-- a function behind its words
abbrev pub FunctionAsShown : {kd : FunctionKind} {unnamed async generator : Bool} {ts : Tokens} {t : Tree} → ReadsFunctionAs kd unnamed async generator ts t → Type 0
FunctionAsShown {kd} {unnamed} {async} {generator} {ts} {t} reading = (g : Kept) → kd ≡ kept_kind g → (unnamed ≡ true → may_be_nameless g ≡ true) → (rest : Tokens) → run (function_word g async generator) (ts ⧺ rest) ≡ run (kept g t) rest

-- the inside of an object
abbrev pub PropertiesShown : {c : Allowed} {ts : Tokens} {ps : Trees} → ReadsProperties c ts ps → Type 0
PropertiesShown {c} {ts} {ps} reading = (sofar : Trees) → run (property c (of_object sofar)) ts ≡ some_trees (joined sofar ps)

-- a property, at the end and before a comma
abbrev pub PropertyShown : {c : Allowed} {ts : Tokens} {t : Tree} → ReadsProperty c ts t → Type 0
PropertyShown {c} {ts} {t} reading = (sofar : Trees) → (run (property c (of_object sofar)) ts ≡ some_trees (joined sofar (more t no_trees))) × ((m : Bool) (rest : Tokens) → run (property c (of_object sofar)) (ts ⧺ piece m (Sign comma) rest) ≡ run (property c (of_object (joined sofar (more t no_trees)))) rest)

-- the inside of a body, behind the directives so far
abbrev pub BodyShown : {c : Allowed} {last : Bool} {ts : Tokens} {ds ss : Trees} → ReadsBody c last ts ds ss → Type 0
BodyShown {c} {last} {ts} {ds} {ss} reading = (last ≡ true → c.return_statement ≡ true) → (sofar : Trees) → run (before_directives (with_in c) sofar) ts ≡ a_body (joined sofar ds) ss

-- a statement, before what may follow it
abbrev pub StatementShown : {c : Allowed} {last before_else : Bool} {ts : Tokens} {s : Tree} → ReadsStatement c last before_else ts s → Type 0
StatementShown {c} {last} {before_else} {ts} {s} reading = StatementRead c last before_else ts s

-- what `return` gives back, before a semicolon and at the end
abbrev pub ReturnedShown : {c : Allowed} {a : Tokens} {m : Maybe} → ReadsReturned c a m → Type 0
ReturnedShown {c} {a} {m} reading = (k : List Frame) → ((n : Bool) (rest : Tokens) → run (returning (with_in c) k) (a ⧺ piece n (Sign semicolon) rest) ≡ run (ended (with_in c) k (tree.return_statement (nothing_of 0) m)) rest) × (run (returning (with_in c) k) (a ⧺ done) ≡ lacking k (tree.return_statement (nothing_of 0) m))

-- what a jump leads to, likewise
abbrev pub LabelShown : {a : Tokens} {m : Maybe} → ReadsLabel a m → Type 0
LabelShown {a} {m} reading = (c : Allowed) (f : Maybe → Tree) (k : List Frame) → ((n : Bool) (rest : Tokens) → run (jumping c f k) (a ⧺ piece n (Sign semicolon) rest) ≡ run (ended c k (f m)) rest) × (run (jumping c f k) (a ⧺ done) ≡ lacking k (f m))

-- what follows the block of `try`
abbrev pub EndsOfTryShown : {c : Allowed} {ts : Tokens} {h g : Maybe} → ReadsEndsOfTry c ts h g → Type 0
EndsOfTryShown {c} {ts} {h} {g} reading = (k : List Frame) (body : Trees) (rest : Tokens) → starts_the (codes "finally") rest ≡ false → run (tried (with_in c) k body) (ts ⧺ rest) ≡ run (ended (with_in c) k (try_of body h g)) rest

-- a handler, before `finally` or another statement
abbrev pub HandlerShown : {c : Allowed} {ts : Tokens} {h : Tree} → ReadsHandler c ts h → Type 0
HandlerShown {c} {ts} {h} reading = (k : List Frame) (body : Trees) (rest : Tokens) → run (tried (with_in c) k body) (ts ⧺ rest) ≡ run (handled (with_in c) k body h) rest

-- the first part of a head with its semicolon
abbrev pub InitShown : {c : Allowed} {a : Tokens} {init : Maybe} → ReadsInit c a init → Type 0
InitShown {c} {a} {init} reading = (m : Bool) (rest : Tokens) → run (head false (without_in c)) (a ⧺ piece m (Sign semicolon) rest) ≡ run (second_part (with_in c) init) rest

-- the second part of a loop's head, with its semicolon
abbrev pub SecondShown : {c : Allowed} {b : Tokens} {test : Maybe} → ReadsPart c b test → Type 0
SecondShown {c} {b} {test} reading = (init : Maybe) (m : Bool) (rest : Tokens) → run (second_part c init) (b ⧺ piece m (Sign semicolon) rest) ≡ run (third_part c init test) rest

-- the third
abbrev pub ThirdShown : {c : Allowed} {b : Tokens} {update : Maybe} → ReadsPart c b update → Type 0
ThirdShown {c} {b} {update} reading = (init test : Maybe) → run (third_part c init test) b ≡ a_loop (for_of_parts init test update)

-- what a loop gives its values to, with `in` or `of`, if it waits for them with `of`
abbrev pub LeftShown : {c : Allowed} {precedes : Bool} {a : Tokens} {l : Tree} → ReadsLeft c precedes a l → Type 0
LeftShown {c} {precedes} {a} {l} reading = (over waits : Bool) → (waits ≡ false → precedes ≡ over) → (waits ≡ true → over ≡ true) → (m : Bool) (rest : Tokens) → run (head waits (without_in c)) (a ⧺ piece m (Word (loop_word over)) rest) ≡ run (looping over waits (without_in c) l) rest

-- declarators behind those so far, before a semicolon and at the end
abbrev pub DeclaratorsShown : {c : Allowed} {ts : Tokens} {ds : Trees} → ReadsDeclarators c ts ds → Type 0
DeclaratorsShown {c} {ts} {ds} reading = (kd : VariableDeclarationKind) (k : List Frame) (sofar : Trees) → ((n : Bool) (rest : Tokens) → run (binding c (a_declaration kd sofar) k) (ts ⧺ piece n (Sign semicolon) rest) ≡ run (variables_ended c k (tree.variable_declaration (declared_as kd) (joined sofar ds))) rest) × (run (binding c (a_declaration kd sofar) k) ts ≡ lacking k (tree.variable_declaration (declared_as kd) (joined sofar ds)))

-- a declarator, at the end, before a comma and before a semicolon
abbrev pub DeclaratorShown : {c : Allowed} {ts : Tokens} {d : Tree} → ReadsDeclarator c ts d → Type 0
DeclaratorShown {c} {ts} {d} reading = (kd : VariableDeclarationKind) (k : List Frame) (sofar : Trees) → (run (binding c (a_declaration kd sofar) k) ts ≡ lacking k (tree.variable_declaration (declared_as kd) (joined sofar (more d no_trees)))) × ((n : Bool) (rest : Tokens) → run (binding c (a_declaration kd sofar) k) (ts ⧺ piece n (Sign comma) rest) ≡ run (binding c (a_declaration kd (joined sofar (more d no_trees))) k) rest) × ((n : Bool) (rest : Tokens) → run (binding c (a_declaration kd sofar) k) (ts ⧺ piece n (Sign semicolon) rest) ≡ run (variables_ended c k (tree.variable_declaration (declared_as kd) (joined sofar (more d no_trees)))) rest)

-- cases behind those so far
abbrev pub CasesShown : {c : Allowed} {default : Bool} {ts : Tokens} {cs : Trees} → ReadsCases c default ts cs → Type 0
CasesShown {c} {default} {ts} {cs} reading = (sofar : Trees) → run (before_case (with_in c) default sofar) ts ≡ some_trees (joined sofar cs)

-- a case, before another one
abbrev pub CaseShown : {c : Allowed} {last default next : Bool} {ts : Tokens} {t : Tree} → ReadsCase c last default next ts t → Type 0
CaseShown {c} {last} {default} {next} {ts} {t} reading = CaseRead c last default next ts t

-- a statement or a declaration in a list
abbrev pub ItemShown : {c : Allowed} {last : Bool} {ts : Tokens} {s : Tree} → ReadsItem c last ts s → Type 0
ItemShown {c} {last} {ts} {s} reading = (k : List Frame) (rest : Tokens) → stands k ≡ true → is_list k ≡ true → (last ≡ true → (rest ≡ done) × (may_lack k ≡ true)) → starts_else rest ≡ false → starts_the (codes "finally") rest ≡ false → run (start (with_in c) k) (ts ⧺ rest) ≡ run (ended (with_in c) k s) rest

-- statements behind those so far
abbrev pub StatementsShown : {c : Allowed} {last : Bool} {ts : Tokens} {ss : Trees} → ReadsStatements c last ts ss → Type 0
StatementsShown {c} {last} {ts} {ss} reading = (b : Bottom) (sofar : Trees) (rest : Tokens) → (last ≡ true → (rest ≡ done) × (bottom_lacks b ≡ true)) → starts_else rest ≡ false → starts_the (codes "finally") rest ≡ false → run (start (with_in c) (list_of b sofar ∷ [])) (ts ⧺ rest) ≡ run (start (with_in c) (list_of b (joined sofar ss) ∷ [])) rest

-- a class from its word on, by the state there and where it stands
abbrev pub ClassShown : {c : Allowed} {kd : ClassKind} {unnamed : Bool} {ts : Tokens} {t : Tree} → ReadsClass c kd unnamed ts t → Type 0
ClassShown {c} {kd} {unnamed} {ts} {t} reading = (s : State) (g : Kept) → kd ≡ kept_class g → (unnamed ≡ true → may_be_nameless g ≡ true) → with_in (kept_allowed g) ≡ c → ((m : Bool) (us : Tokens) → run s (piece m (Word (codes "class")) us) ≡ run (class_word g) us) → (rest : Tokens) → run s (ts ⧺ rest) ≡ run (kept g t) rest
