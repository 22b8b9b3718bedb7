-- What is claimed of functions and objects, if what is claimed of their parts is true.
use Rattle.std.proofs.Common.{◌≡◌, ◌≤◌, [], ◌∷◌, Bool, refl, ap, sym, ◌∙◌, arith}
use Rattle.std.specs.Prelude.{⊤}
use Rattle.jsgen_tree.specs.declared.functions.FunctionKind.{FunctionKind}
use Rattle.jsgen_tree.specs.Tree.{Tree, Maybe, Trees, no_trees, more, absent, given}
use Rattle.jsgen_tree.specs.Nodes as tree
use Rattle.jsgen_model.specs.Punctuator.{star, comma, colon, Round, Brace}
use Rattle.jsgen_model.specs.Tokens.{Tokens, done, piece, group, ◌⧺◌, Sign}
use Rattle.jsgen_model.specs.Normal.{nothing_of, unnumbered, joined}
use Rattle.jsgen_model.specs.Grammar.{in_member, class_of, LeftHandSide, New, Callee, Call, Member, Primary, Allowed, with_in, without_in, in_arrow_body, Level, operator_piece, update_sign, assignment_sign, names_function, on_same_line, function_of, method_of, arrow_values, loop_values, computed_values, ReadsModule, ReadsExpression, ReadsClass, ReadsClassTail, ReadsMembers, ReadsMember, ReadsField, ReadsFieldAs, ReadsFunction, ReadsFunctionAs, ReadsArrow, ReadsArrowParameters, ReadsParameters, ReadsParameter, ReadsParts, ReadsChain, ReadsChainBase, ReadsProperties, ReadsProperty, ReadsMethod, ReadsMethodAs, ReadsKey, ReadsElements, ReadsArguments, ReadsArgumentList, ReadsElement, ReadsBinding, ReadsBindingElement, ReadsBindingElements, ReadsBindingProperty, ReadsBindingProperties, ReadsPattern, ReadsTarget, ReadsTargetElement, ReadsTargetElements, ReadsTargetProperties, ReadsTargetProperty, ReadsDeclarator, ReadsDeclarators, ReadsStatement, ReadsReturned, ReadsInit, ReadsPart, ReadsLeft, ReadsLabel, ReadsCases, ReadsCase, ReadsEndsOfTry, ReadsHandler, ReadsItem, ReadsStatements, ReadsBody}
use Rattle.jsgen_model.specs.Grammar as grammar
use Rattle.jsgen_one_reading.specs.States.{spread_of, properties_of, property_of, of_object, operand, settled, function_headed, property, some_trees}
use Rattle.jsgen_one_reading.specs.Steps.{kept, kept_kind, nameless}
use Rattle.jsgen_one_reading.specs.Brackets.{rest_then, body_then}
use Rattle.jsgen_one_reading.specs.Reader.{run}
use Rattle.jsgen_one_reading.proofs.Steps.{then_done, joined_more, joined_none, rest_rank, pop, untrue}
use Rattle.jsgen_one_reading.proofs.Claims.{parted}
use Rattle.jsgen_one_reading.proofs.ExpressionSteps.{function_name_step, nameless_step, short_comma, short_done}
use Rattle.jsgen_one_reading.proofs.Shown.{ExpressionShown, ParametersShown, FunctionShown, FunctionAsShown, PropertiesShown, PropertyShown, BodyShown}
use Rattle.jsgen_one_reading.proofs.Methods.{KeyParts, key_signed, MethodParts, method_read}

-- a function from its first word on, by the state there and where it stands
abbrev pub FunctionParts : {kd : FunctionKind} {unnamed : Bool} {ts : Tokens} {t : Tree} → ReadsFunction kd unnamed ts t → Type 0
FunctionParts (grammar.a_plain_function d) = FunctionAsShown d
FunctionParts (grammar.a_generator d) = FunctionAsShown d
FunctionParts (grammar.an_async_function d) = FunctionAsShown d
FunctionParts (grammar.an_async_generator d) = FunctionAsShown d

pub function_read : {kd : FunctionKind} {unnamed : Bool} {ts : Tokens} {t : Tree} → (d : ReadsFunction kd unnamed ts t) → FunctionParts d → FunctionShown d
function_read (grammar.a_plain_function {mark = m} {ts = ts} d) of_d s g q n f h rest = f m (ts ⧺ rest) ∙ of_d g q n rest
function_read (grammar.a_generator {mark = m} {next = l} {ts = ts} d) of_d s g q n f h rest = f m (piece l (Sign star) (ts ⧺ rest)) ∙ of_d g q n rest
function_read (grammar.an_async_function {mark = m} {ts = ts} d) of_d s g q n f h rest = h m (ts ⧺ rest) ∙ of_d g q n rest
function_read (grammar.an_async_generator {mark = m} {next = l} {ts = ts} d) of_d s g q n f h rest = h m (piece l (Sign star) (ts ⧺ rest)) ∙ of_d g q n rest

-- a function behind its words
abbrev pub FunctionAsParts : {kd : FunctionKind} {unnamed async generator : Bool} {ts : Tokens} {t : Tree} → ReadsFunctionAs kd unnamed async generator ts t → Type 0
FunctionAsParts (grammar.a_named_function e x p b) = ParametersShown p × BodyShown b
FunctionAsParts (grammar.a_nameless_function p b) = ParametersShown p × BodyShown b

pub function_as : {kd : FunctionKind} {unnamed async generator : Bool} {ts : Tokens} {t : Tree} → (d : ReadsFunctionAs kd unnamed async generator ts t) → FunctionAsParts d → FunctionAsShown d
function_as (grammar.a_named_function {kind = kd} {async = async} {generator = generator} {mark = m} {next = n} {third = l} {w = w} {v = v} {head = hd} {inside = inside} {ps = ps} {ds = ds} {ss = ss} {rest = r} e x p b) (of_p, of_b) g q u rest =
    let id : Maybe = given (tree.binding_identifier (unnumbered v)) in
    ap (λ s. run s (group n Round hd (group l Brace inside rest))) (function_name_step g async generator w e x) ∙ (ap (λ y. run (rest_then y (λ xs z. function_headed g async generator id xs z)) (group l Brace inside rest)) (of_p no_trees) ∙ (ap (λ y. run (body_then y (λ es us. kept g (function_of (kept_kind g) async generator id ps r es us))) rest) (of_b (λ x. refl) no_trees) ∙ ap (λ y. run (kept g (function_of y async generator id ps r ds ss)) rest) (sym q)))
function_as (grammar.a_nameless_function {async = async} {generator = generator} {next = n} {third = l} {head = hd} {inside = inside} {ps = ps} {ds = ds} {ss = ss} {rest = r} p b) (of_p, of_b) g q u rest =
    ap (λ y. run (rest_then y (λ xs z. nameless g (function_headed g async generator absent xs z))) (group l Brace inside rest)) (of_p no_trees) ∙ (ap (λ y. run y (group l Brace inside rest)) (nameless_step g (function_headed g async generator absent ps r) (u refl)) ∙ (ap (λ y. run (body_then y (λ es us. kept g (function_of (kept_kind g) async generator absent ps r es us))) rest) (of_b (λ x. refl) no_trees) ∙ ap (λ y. run (kept g (function_of y async generator absent ps r ds ss)) rest) (sym q)))

-- the inside of an object
abbrev pub PropertiesParts : {c : Allowed} {ts : Tokens} {ps : Trees} → ReadsProperties c ts ps → Type 0
PropertiesParts (grammar.last_property d) = PropertyShown d
PropertiesParts (grammar.first_property m e d p) = PropertyShown d × PropertiesShown p
PropertiesParts d = ⊤

pub properties_read : {c : Allowed} {ts : Tokens} {ps : Trees} → (d : ReadsProperties c ts ps) → PropertiesParts d → PropertiesShown d
properties_read grammar.no_property _ sofar = ap some_trees (sym (joined_none sofar))
properties_read (grammar.last_property d) of_d sofar = (of_d sofar).0
properties_read (grammar.first_property {c} {ts} {a} {b} {t} {us} m e d p) (of_d, of_p) sofar = ap (run (property c (of_object sofar))) e ∙ ((of_d sofar).1 m b ∙ (of_p (joined sofar (more t no_trees)) ∙ ap some_trees (joined_more sofar us t)))

-- a property, at the end and before a comma
abbrev pub PropertyParts : {c : Allowed} {ts : Tokens} {t : Tree} → ReadsProperty c ts t → Type 0
PropertyParts (grammar.a_property n q kr d) = KeyParts kr × ExpressionShown d
PropertyParts (grammar.a_method d) = MethodParts d
PropertyParts (grammar.a_spread_property d) = ExpressionShown d
PropertyParts d = ⊤

pub property_read : {c : Allowed} {ts : Tokens} {t : Tree} → (d : ReadsProperty c ts t) → PropertyParts d → PropertyShown d
property_read (grammar.a_shorthand {c} {mark = l} {w} {v} e x) _ sofar = (short_done sofar w e x, λ m rest. ap (λ s. run s rest) (short_comma c sofar w e x))
property_read (grammar.a_property {c} {computed} {ts} {a} {b} {k = key} {e = z} n q kr d) (of_kr, of_d) sofar = (
  ap (run (property c (of_object sofar))) q ∙ (key_signed kr of_kr (of_object sofar) colon (λ w i. refl) n b ∙ (ap (run (operand c (property_of sofar computed key ∷ []))) (sym (then_done b)) ∙ of_d.0 (property_of sofar computed key ∷ []) done (omega arith) (omega arith))),
  λ m rest. parted (property c (of_object sofar)) ts a n (Sign colon) b (piece m (Sign comma) rest) q ∙ (key_signed kr of_kr (of_object sofar) colon (λ w i. refl) n (b ⧺ piece m (Sign comma) rest) ∙ of_d.0 (property_of sofar computed key ∷ []) (piece m (Sign comma) rest) (omega arith) (omega arith)),
)
property_read (grammar.a_method {c} {kind = kd} {computed} {ts} {k = key} {v} d) of_d sofar = (
  ap (run (property c (of_object sofar))) (sym (then_done ts)) ∙ method_read d of_d (of_object sofar) (λ x. untrue x) done,
  λ m rest. method_read d of_d (of_object sofar) (λ x. untrue x) (piece m (Sign comma) rest),
)
property_read (grammar.a_spread_property {c} {mark = l} {ts} {e = z} d) of_d sofar =
    let all_of : (x : Tokens) → rest_rank c.in_operator x ≤ 2 → run (operand c (spread_of ∷ (properties_of sofar ∷ []))) (ts ⧺ x) ≡ run (settled c (properties_of sofar ∷ []) (tree.spread (nothing_of 0) z)) x = λ x v. of_d.0 (spread_of ∷ (properties_of sofar ∷ [])) x (omega arith) v ∙ pop c spread_of (properties_of sofar ∷ []) z (tree.spread (nothing_of 0) z) x v refl in
    (ap (run (operand c (spread_of ∷ (properties_of sofar ∷ [])))) (sym (then_done ts)) ∙ all_of done (omega arith), λ m rest. all_of (piece m (Sign comma) rest) (omega arith))
