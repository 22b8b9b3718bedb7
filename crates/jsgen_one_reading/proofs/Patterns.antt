-- What is claimed of parameters and of patterns, if what is claimed of their parts is true.
use Rattle.std.proofs.Common.{◌≡◌, ◌≤◌, [], ◌∷◌, refl, ap, sym, ◌∙◌, arith}
use Rattle.std.specs.Prelude.{⊤}
use Rattle.jsgen_tree.specs.Tree.{Tree, Maybe, Trees, no_trees, more, hole, absent, given}
use Rattle.jsgen_tree.specs.Nodes as tree
use Rattle.jsgen_model.specs.Punctuator.{comma, colon}
use Rattle.jsgen_model.specs.Tokens.{Tokens, done, piece, ◌⧺◌, Sign}
use Rattle.jsgen_model.specs.Normal.{nothing_of, unnumbered, joined}
use Rattle.jsgen_model.specs.Grammar.{in_member, class_of, LeftHandSide, New, Callee, Call, Member, Primary, Allowed, with_in, without_in, in_arrow_body, Level, operator_piece, update_sign, assignment_sign, names_function, on_same_line, function_of, method_of, arrow_values, loop_values, computed_values, ReadsModule, ReadsExpression, ReadsClass, ReadsClassTail, ReadsMembers, ReadsMember, ReadsField, ReadsFieldAs, ReadsFunction, ReadsFunctionAs, ReadsArrow, ReadsArrowParameters, ReadsParameters, ReadsParameter, ReadsParts, ReadsChain, ReadsChainBase, ReadsProperties, ReadsProperty, ReadsMethod, ReadsMethodAs, ReadsKey, ReadsElements, ReadsArguments, ReadsArgumentList, ReadsElement, ReadsBinding, ReadsBindingElement, ReadsBindingElements, ReadsBindingProperty, ReadsBindingProperties, ReadsPattern, ReadsTarget, ReadsTargetElement, ReadsTargetElements, ReadsTargetProperties, ReadsTargetProperty, ReadsDeclarator, ReadsDeclarators, ReadsStatement, ReadsReturned, ReadsInit, ReadsPart, ReadsLeft, ReadsLabel, ReadsCases, ReadsCase, ReadsEndsOfTry, ReadsHandler, ReadsItem, ReadsStatements, ReadsBody}
use Rattle.jsgen_model.specs.Grammar as grammar
use Rattle.jsgen_syntax.specs.declared.operator.AssignmentOperator.TheVariants as assignment_operators
use Rattle.jsgen_one_reading.specs.States.{assigning, a_parameter, rest_parameter, sole_parameter, an_element, rest_element, a_value, in_array, rest_of_array, in_object, rest_of_object, names, targets, target_of, operand, settled, parameter, binding, bound, target, pattern_elements, pattern_properties, with_rest, set_in}
use Rattle.jsgen_one_reading.specs.ExpressionPieces.{next_bound}
use Rattle.jsgen_one_reading.specs.Steps.{short_value, pattern_word_kind}
use Rattle.jsgen_one_reading.specs.Brackets.{rest_then}
use Rattle.jsgen_one_reading.specs.Ends.{bound_end, target_end}
use Rattle.jsgen_one_reading.specs.Reader.{run}
use Rattle.jsgen_one_reading.proofs.Steps.{then_done, joined_more, joined_none, joined_hole, rest_rank, same_same}
use Rattle.jsgen_one_reading.proofs.Claims.{parted}
use Rattle.jsgen_one_reading.proofs.StatementSteps.{read_alone}
use Rattle.jsgen_one_reading.proofs.PatternSteps.{bound_alone, bound_with_value, name_bound, rest_name_step, parameter_begins, bound_element_begins, short_part_done, short_part_comma, short_part_value, target_element_begins, pattern_element_begins, square_read, brace_read, simple_alone, pattern_alone, simple_with_default, pattern_with_default}
use Rattle.jsgen_one_reading.proofs.Shown.{ExpressionShown, ParametersShown, ParameterShown, BindingShown, BindingElementShown, BindingElementsShown, BindingPropertiesShown, BindingPropertyShown, PatternShown, TargetShown, TargetElementShown, TargetElementsShown, TargetPropertiesShown, TargetPropertyShown}
use Rattle.jsgen_one_reading.proofs.Methods.{KeyParts, pattern_key_read}

-- parameters behind those so far
abbrev pub ParametersParts : {c : Allowed} {ts : Tokens} {ps : Trees} {r : Maybe} → ReadsParameters c ts ps r → Type 0
ParametersParts (grammar.last_parameter d) = ParameterShown d
ParametersParts (grammar.first_parameter m e d q) = ParameterShown d × ParametersShown q
ParametersParts (grammar.a_rest d) = BindingShown d
ParametersParts d = ⊤

pub parameters_all : {c : Allowed} {ts : Tokens} {ps : Trees} {r : Maybe} → (d : ReadsParameters c ts ps r) → ParametersParts d → ParametersShown d
parameters_all grammar.no_parameter _ sofar = ap (λ x. with_rest x absent) (sym (joined_none sofar))
parameters_all (grammar.last_parameter d) of_d sofar = (of_d sofar).0
parameters_all (grammar.first_parameter {c} {ts} {a} {b} {p} {ps} {rest = r} m e d q) (of_d, of_q) sofar = ap (run (parameter c sofar)) e ∙ ((of_d sofar).1 m b ∙ (of_q (joined sofar (more p no_trees)) ∙ ap (λ x. with_rest x r) (joined_more sofar ps p)))
parameters_all (grammar.a_rest {c} {ts = ts} {b = b} d) of_d sofar = ap (run (binding c (rest_parameter sofar) [])) (sym (then_done ts)) ∙ (of_d c.in_operator (rest_parameter sofar) [] done ∙ ap (λ y. with_rest y (given (tree.formal_parameter_rest (nothing_of 0) b))) (sym (joined_none sofar)))

-- a parameter, at the end and before a comma, and the one of a setter
abbrev pub ParameterParts : {c : Allowed} {ts : Tokens} {p : Tree} → ReadsParameter c ts p → Type 0
ParameterParts (grammar.a_parameter d) = BindingShown d
ParameterParts (grammar.with_initializer m q d f) = BindingShown d × ExpressionShown f

pub parameter_one : {c : Allowed} {ts : Tokens} {p : Tree} → (d : ReadsParameter c ts p) → ParameterParts d → ParameterShown d
parameter_one (grammar.a_parameter {c} {ts} {b} d) of_d sofar = let x = bound_alone c (parameter c sofar) (a_parameter sofar) [] ts b (parameter_begins d c sofar) of_d refl in (x.0, x.1, (bound_alone c (binding c sole_parameter []) sole_parameter [] ts b (λ rest. refl) of_d refl).0)
parameter_one (grammar.with_initializer {c} {ts} {a} {v} {b} {e} m q d f) (of_d, of_f) sofar = let x = bound_with_value c (parameter c sofar) (a_parameter sofar) [] ts a v b e m q (parameter_begins d c sofar) of_d of_f.0 refl in (x.0, x.1, (bound_with_value c (binding c sole_parameter []) sole_parameter [] ts a v b e m q (λ rest. refl) of_d of_f.0 refl).0)

-- a binding, whatever it is for
abbrev pub BindingParts : {c : Allowed} {ts : Tokens} {b : Tree} → ReadsBinding c ts b → Type 0
BindingParts (grammar.an_object_binding p) = BindingPropertiesShown p
BindingParts (grammar.an_array_binding p) = BindingElementsShown p
BindingParts d = ⊤

pub binding_read : {c : Allowed} {ts : Tokens} {b : Tree} → (d : ReadsBinding c ts b) → BindingParts d → BindingShown d
binding_read (grammar.a_bound_name {c} {w = w} e x) _ i g k rest = ap (λ s. run s rest) (name_bound (set_in i c) g k w e x)
binding_read (grammar.an_object_binding {c} p) of_p i g k rest = ap (λ y. run (rest_then y (λ xs z. bound (set_in i c) g k (tree.object_pattern (nothing_of 0) xs z))) rest) (of_p no_trees)
binding_read (grammar.an_array_binding {c} p) of_p i g k rest = ap (λ y. run (rest_then y (λ xs z. bound (set_in i c) g k (tree.array_pattern (nothing_of 0) xs z))) rest) (of_p no_trees)

-- an element of a pattern or the value of its property, which are added by one function each
abbrev pub BindingElementParts : {c : Allowed} {ts : Tokens} {t : Tree} → ReadsBindingElement c ts t → Type 0
BindingElementParts (grammar.a_binding_alone d) = BindingShown d
BindingElementParts (grammar.a_binding_with_default m q d p) = BindingShown d × ExpressionShown p

pub bound_element_read : {c : Allowed} {ts : Tokens} {t : Tree} → (d : ReadsBindingElement c ts t) → BindingElementParts d → BindingElementShown d
bound_element_read (grammar.a_binding_alone {c} {ts} {b} d) of_d s g f w l t h = let x = bound_alone c s g [] ts b (h ts b d) of_d (l b) in (x.0 ∙ ap (bound_end g []) (w b absent), λ n rest. x.1 n rest ∙ ap (λ y. run (next_bound c g [] y) rest) (w b absent))
bound_element_read (grammar.a_binding_with_default {c} {ts} {a} {v} {b} {e} m q d p) (of_d, of_p) s g f w l t h = let x = bound_with_value c s g [] ts a v b e m q (h a b d) of_d of_p.0 t in (x.0 ∙ ap (bound_end g []) (w b (given e)), λ n rest. x.1 n rest ∙ ap (λ y. run (next_bound c g [] y) rest) (w b (given e)))

-- the inside of brackets that bind
abbrev pub BindingElementsParts : {c : Allowed} {ts : Tokens} {es : Trees} {r : Maybe} → ReadsBindingElements c ts es r → Type 0
BindingElementsParts (grammar.last_binding_element d) = BindingElementShown d
BindingElementsParts (grammar.first_binding_element m q d p) = BindingElementShown d × BindingElementsShown p
BindingElementsParts (grammar.a_binding_elision p) = BindingElementsShown p
BindingElementsParts (grammar.a_binding_rest d) = BindingShown d
BindingElementsParts d = ⊤

pub bound_elements_read : {c : Allowed} {ts : Tokens} {es : Trees} {r : Maybe} → (d : ReadsBindingElements c ts es r) → BindingElementsParts d → BindingElementsShown d
bound_elements_read grammar.no_binding_element _ sofar = ap (λ x. with_rest x absent) (sym (joined_none sofar))
bound_elements_read (grammar.last_binding_element {c} d) of_d sofar = (of_d (pattern_elements names c sofar) (an_element sofar) (λ t. joined sofar (more t no_trees)) (λ b m. refl) (λ b. refl) refl (λ a b x. bound_element_begins x c sofar)).0
bound_elements_read (grammar.first_binding_element {c} {ts} {a} {b} {e} {es} {rest = r} m q d p) (of_d, of_p) sofar = ap (run (pattern_elements names c sofar)) q ∙ ((of_d (pattern_elements names c sofar) (an_element sofar) (λ t. joined sofar (more t no_trees)) (λ x y. refl) (λ x. refl) refl (λ x y z. bound_element_begins z c sofar)).1 m b ∙ (of_p (joined sofar (more e no_trees)) ∙ ap (λ x. with_rest x r) (joined_more sofar es e)))
bound_elements_read (grammar.a_binding_elision {es = es} {rest = r} p) of_p sofar = of_p (joined sofar (hole no_trees)) ∙ ap (λ x. with_rest x r) (joined_hole sofar es)
bound_elements_read (grammar.a_binding_rest {c} {ts = ts} {b = b} d) of_d sofar = ap (run (binding c (rest_element sofar) [])) (sym (then_done ts)) ∙ (of_d c.in_operator (rest_element sofar) [] done ∙ ap (λ y. with_rest y (given (tree.binding_rest_element (nothing_of 0) b))) (sym (joined_none sofar)))

-- the inside of braces that bind
abbrev pub BindingPropertiesParts : {c : Allowed} {ts : Tokens} {ps : Trees} {r : Maybe} → ReadsBindingProperties c ts ps r → Type 0
BindingPropertiesParts (grammar.last_binding_property d) = BindingPropertyShown d
BindingPropertiesParts (grammar.first_binding_property m q d x) = BindingPropertyShown d × BindingPropertiesShown x
BindingPropertiesParts d = ⊤

pub bound_properties_read : {c : Allowed} {ts : Tokens} {ps : Trees} {r : Maybe} → (d : ReadsBindingProperties c ts ps r) → BindingPropertiesParts d → BindingPropertiesShown d
bound_properties_read grammar.no_binding_property _ sofar = ap (λ x. with_rest x absent) (sym (joined_none sofar))
bound_properties_read (grammar.last_binding_property d) of_d sofar = (of_d sofar).0
bound_properties_read (grammar.first_binding_property {c} {ts} {a} {b} {p} {ps} {rest = r} m q d x) (of_d, of_x) sofar = ap (run (pattern_properties names c sofar)) q ∙ ((of_d sofar).1 m b ∙ (of_x (joined sofar (more p no_trees)) ∙ ap (λ x. with_rest x r) (joined_more sofar ps p)))
bound_properties_read (grammar.a_binding_rest_property {c} {w = w} {v = v} e x) _ sofar = ap (λ s. run s done) (rest_name_step c sofar w e x) ∙ ap (λ y. with_rest y (given (tree.binding_rest_element (nothing_of 0) (tree.binding_identifier (unnumbered v))))) (sym (joined_none sofar))

-- a property of them, at the end and before a comma
abbrev pub BindingPropertyParts : {c : Allowed} {ts : Tokens} {p : Tree} → ReadsBindingProperty c ts p → Type 0
BindingPropertyParts (grammar.a_bound_shorthand_with_default e x d) = ExpressionShown d
BindingPropertyParts (grammar.a_bound_property m q kr d) = KeyParts kr × BindingElementShown d
BindingPropertyParts d = ⊤

pub bound_property_read : {c : Allowed} {ts : Tokens} {p : Tree} → (d : ReadsBindingProperty c ts p) → BindingPropertyParts d → BindingPropertyShown d
bound_property_read (grammar.a_bound_shorthand {c} {w = w} e x) _ sofar = (short_part_done names sofar w e x, λ n rest. ap (λ s. run s rest) (short_part_comma names c sofar w e x))
bound_property_read (grammar.a_bound_shorthand_with_default {c} {w = w} {v = v} {ts = ts} {e = z} e x d) of_d sofar =
    let upto : (rest : Tokens) → rest_rank c.in_operator rest ≤ 2 → run (pattern_word_kind names c sofar w (assigning assignment_operators.Assign)) (ts ⧺ rest) ≡ run (settled c (short_value names sofar v ∷ []) z) rest = λ rest r. ap (λ s. run s (ts ⧺ rest)) (short_part_value names c sofar w e x) ∙ of_d.0 (short_value names sofar v ∷ []) rest (omega arith) r in
    (ap (run (pattern_word_kind names c sofar w (assigning assignment_operators.Assign))) (sym (then_done ts)) ∙ upto done (omega arith), λ n rest. upto (piece n (Sign comma) rest) (omega arith))
bound_property_read (grammar.a_bound_property {c} {computed} {ts} {a} {b} {k = key} {t} m q kr d) (of_kr, of_d) sofar =
    let x = of_d (binding c (a_value sofar computed key) []) (a_value sofar computed key) (λ y. joined sofar (more (tree.binding_property (computed_values computed) key y) no_trees)) (λ y z. refl) (λ y. refl) refl (λ y z u rest. refl) in
    (ap (run (pattern_properties names c sofar)) q ∙ (pattern_key_read kr of_kr names sofar m b ∙ x.0), λ n rest. parted (pattern_properties names c sofar) ts a m (Sign colon) b (piece n (Sign comma) rest) q ∙ (pattern_key_read kr of_kr names sofar m (b ⧺ piece n (Sign comma) rest) ∙ x.1 n rest))

-- a pattern of targets, wherever one may stand
abbrev pub PatternParts : {c : Allowed} {ts : Tokens} {t : Tree} → ReadsPattern c ts t → Type 0
PatternParts (grammar.an_array_target p) = TargetElementsShown p
PatternParts (grammar.an_object_target p) = TargetPropertiesShown p

pub pattern_read : {c : Allowed} {ts : Tokens} {t : Tree} → (d : ReadsPattern c ts t) → PatternParts d → PatternShown d
pattern_read (grammar.an_array_target {c} {mark = m} {inside = inside} {es = es} {rest = r} p) of_p = square_read c m inside es r (of_p no_trees)
pattern_read (grammar.an_object_target {c} {mark = m} {inside = inside} {ps = ps} {rest = r} p) of_p = brace_read c m inside ps r (of_p no_trees)

-- a target, before which the state is that before a list or before its place
abbrev pub TargetParts : {c : Allowed} {ts : Tokens} {t : Tree} → ReadsTarget c ts t → Type 0
TargetParts (grammar.a_simple_target d e) = ExpressionShown d
TargetParts (grammar.a_target_pattern d) = PatternShown d

pub target_read : {c : Allowed} {ts : Tokens} {t : Tree} → (d : ReadsTarget c ts t) → TargetParts d → TargetShown d
target_read (grammar.a_simple_target {c} {ts} {t} {u} d e) of_d s g h p = simple_alone c s g ts t u of_d.1 e (h ts (read_alone c ts t u of_d.1 e))
target_read (grammar.a_target_pattern {c} {ts} {t} d) of_d s g h p = pattern_alone c s g ts t of_d (p ts t d)

-- and with its default
abbrev pub TargetElementParts : {c : Allowed} {ts : Tokens} {t : Tree} → ReadsTargetElement c ts t → Type 0
TargetElementParts (grammar.a_target_alone d) = TargetShown d
TargetElementParts (grammar.a_target_with_default m q d y f n) = ExpressionShown d × ExpressionShown f
TargetElementParts (grammar.a_pattern_with_default m q d f) = PatternShown d × ExpressionShown f

pub target_element_read : {c : Allowed} {ts : Tokens} {t : Tree} → (d : ReadsTargetElement c ts t) → TargetElementParts d → TargetElementShown d
target_element_read (grammar.a_target_alone d) of_d s g t h p = of_d s g h p
target_element_read (grammar.a_target_with_default {c} {ts} {a} {b} {t = x} {u} {e} m q d y f n) (of_d, of_f) s g t h p = simple_with_default c s g ts a b x u e m q of_d.1 y of_f.0 n t (h a (read_alone c a x u of_d.1 y))
target_element_read (grammar.a_pattern_with_default {c} {ts} {a} {b} {t = x} {e} m q d f) (of_d, of_f) s g t h p = pattern_with_default c s g ts a b x e m q of_d of_f.0 t (p a x d)

-- the inside of brackets that are targets
abbrev pub TargetElementsParts : {c : Allowed} {ts : Tokens} {es : Trees} {r : Maybe} → ReadsTargetElements c ts es r → Type 0
TargetElementsParts (grammar.last_target_element d) = TargetElementShown d
TargetElementsParts (grammar.first_target_element m q d p) = TargetElementShown d × TargetElementsShown p
TargetElementsParts (grammar.a_target_elision p) = TargetElementsShown p
TargetElementsParts (grammar.a_target_rest d) = TargetShown d
TargetElementsParts d = ⊤

pub target_elements_read : {c : Allowed} {ts : Tokens} {es : Trees} {r : Maybe} → (d : ReadsTargetElements c ts es r) → TargetElementsParts d → TargetElementsShown d
target_elements_read grammar.no_target_element _ sofar = ap (λ x. with_rest x absent) (sym (joined_none sofar))
target_elements_read (grammar.last_target_element {c} d) of_d sofar = (of_d (pattern_elements targets c sofar) (in_array sofar) refl (λ a x. target_element_begins c a x sofar) (λ a u x. pattern_element_begins x c sofar)).0
target_elements_read (grammar.first_target_element {c} {ts} {a} {b} {e} {es} {rest = r} m q d p) (of_d, of_p) sofar = ap (run (pattern_elements targets c sofar)) q ∙ ((of_d (pattern_elements targets c sofar) (in_array sofar) refl (λ y x. target_element_begins c y x sofar) (λ y u x. pattern_element_begins x c sofar)).1 m b ∙ (of_p (joined sofar (more e no_trees)) ∙ ap (λ x. with_rest x r) (joined_more sofar es e)))
target_elements_read (grammar.a_target_elision {es = es} {rest = r} p) of_p sofar = of_p (joined sofar (hole no_trees)) ∙ ap (λ x. with_rest x r) (joined_hole sofar es)
target_elements_read (grammar.a_target_rest {c} {t = t} d) of_d sofar = (of_d (target c (rest_of_array sofar)) (rest_of_array sofar) (λ a x rest. refl) (λ a u x rest. refl)).0 ∙ ap (λ y. with_rest y (given (tree.target_rest (nothing_of 0) t))) (sym (joined_none sofar))

-- the inside of braces that are targets
abbrev pub TargetPropertiesParts : {c : Allowed} {ts : Tokens} {ps : Trees} {r : Maybe} → ReadsTargetProperties c ts ps r → Type 0
TargetPropertiesParts (grammar.last_target_property d) = TargetPropertyShown d
TargetPropertiesParts (grammar.first_target_property m q d x) = TargetPropertyShown d × TargetPropertiesShown x
TargetPropertiesParts (grammar.a_target_rest_property d e) = ExpressionShown d
TargetPropertiesParts d = ⊤

pub target_properties_read : {c : Allowed} {ts : Tokens} {ps : Trees} {r : Maybe} → (d : ReadsTargetProperties c ts ps r) → TargetPropertiesParts d → TargetPropertiesShown d
target_properties_read grammar.no_target_property _ sofar = ap (λ x. with_rest x absent) (sym (joined_none sofar))
target_properties_read (grammar.last_target_property d) of_d sofar = (of_d sofar).0
target_properties_read (grammar.first_target_property {c} {ts} {a} {b} {p} {ps} {rest = r} m q d x) (of_d, of_x) sofar = ap (run (pattern_properties targets c sofar)) q ∙ ((of_d sofar).1 m b ∙ (of_x (joined sofar (more p no_trees)) ∙ ap (λ x. with_rest x r) (joined_more sofar ps p)))
target_properties_read (grammar.a_target_rest_property {c} {ts = ts} {t = t} {u = u} d e) of_d sofar = ap (run (operand c (target_of (rest_of_object sofar) ∷ []))) (sym (then_done ts)) ∙ (of_d.1 u e c.in_operator (target_of (rest_of_object sofar) ∷ []) done (omega arith) refl ∙ (ap (target_end (rest_of_object sofar)) e ∙ ap (λ y. with_rest y (given (tree.target_rest (nothing_of 0) u))) (sym (joined_none sofar))))

-- a property of them, at the end and before a comma
abbrev pub TargetPropertyParts : {c : Allowed} {ts : Tokens} {p : Tree} → ReadsTargetProperty c ts p → Type 0
TargetPropertyParts (grammar.a_target_shorthand_with_default e x d) = ExpressionShown d
TargetPropertyParts (grammar.a_target_property m q kr d) = KeyParts kr × TargetElementShown d
TargetPropertyParts d = ⊤

pub target_property_read : {c : Allowed} {ts : Tokens} {p : Tree} → (d : ReadsTargetProperty c ts p) → TargetPropertyParts d → TargetPropertyShown d
target_property_read (grammar.a_target_shorthand {c} {w = w} e x) _ sofar = (short_part_done targets sofar w e x, λ n rest. ap (λ s. run s rest) (short_part_comma targets c sofar w e x))
target_property_read (grammar.a_target_shorthand_with_default {c} {w = w} {v = v} {ts = ts} {e = z} e x d) of_d sofar =
    let upto : (rest : Tokens) → rest_rank c.in_operator rest ≤ 2 → run (pattern_word_kind targets c sofar w (assigning assignment_operators.Assign)) (ts ⧺ rest) ≡ run (settled c (short_value targets sofar v ∷ []) z) rest = λ rest r. ap (λ s. run s (ts ⧺ rest)) (short_part_value targets c sofar w e x) ∙ of_d.0 (short_value targets sofar v ∷ []) rest (omega arith) r in
    let alike = same_same (names_function assignment_operators.Assign (tree.identifier_reference (unnumbered v)) z) (names_function assignment_operators.Assign (tree.identifier_reference (unnumbered v)) z) refl in
    (ap (run (pattern_word_kind targets c sofar w (assigning assignment_operators.Assign))) (sym (then_done ts)) ∙ (upto done (omega arith) ∙ rw alike refl), λ n rest. upto (piece n (Sign comma) rest) (omega arith) ∙ rw alike refl)
target_property_read (grammar.a_target_property {c} {computed} {ts} {a} {b} {k = key} {t} m q kr d) (of_kr, of_d) sofar =
    let x = of_d (target c (in_object sofar computed key)) (in_object sofar computed key) refl (λ y z rest. refl) (λ y u z rest. refl) in
    (ap (run (pattern_properties targets c sofar)) q ∙ (pattern_key_read kr of_kr targets sofar m b ∙ x.0), λ n rest. parted (pattern_properties targets c sofar) ts a m (Sign colon) b (piece n (Sign comma) rest) q ∙ (pattern_key_read kr of_kr targets sofar m (b ⧺ piece n (Sign comma) rest) ∙ x.1 n rest))
