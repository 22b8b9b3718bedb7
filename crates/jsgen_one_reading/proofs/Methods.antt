-- What is claimed of keys and of methods, if what is claimed of their parts is true.
use Rattle.jsgen_syntax.specs.Escapes.{word_value}
use Rattle.std.proofs.Common.{ℕ, ◌≡◌, List, [], ◌∷◌, Bool, true, false, codes, refl, ap, sym, ◌∙◌, arith}
use Rattle.std.specs.Prelude.{⊤}
use Rattle.jsgen_tree.specs.declared.collections.PropertyKind.{PropertyKind}
use Rattle.jsgen_tree.specs.declared.collections.PropertyKind.TheVariants.{Init, Get, Set}
use Rattle.jsgen_tree.specs.Tree.{Tree, Trees, no_trees, more, absent}
use Rattle.jsgen_tree.specs.Nodes as tree
use Rattle.jsgen_model.specs.Punctuator.{Punctuator, colon, Round, Brace}
use Rattle.jsgen_model.specs.Tokens.{Tokens, done, piece, group, ◌⧺◌, Sign}
use Rattle.jsgen_model.specs.Normal.{named}
use Rattle.jsgen_model.specs.Grammar.{in_member, class_of, LeftHandSide, New, Callee, Call, Member, Primary, Allowed, with_in, without_in, in_arrow_body, Level, operator_piece, update_sign, assignment_sign, names_function, on_same_line, function_of, method_of, arrow_values, loop_values, computed_values, ReadsModule, ReadsExpression, ReadsClass, ReadsClassTail, ReadsMembers, ReadsMember, ReadsField, ReadsFieldAs, ReadsFunction, ReadsFunctionAs, ReadsArrow, ReadsArrowParameters, ReadsParameters, ReadsParameter, ReadsParts, ReadsChain, ReadsChainBase, ReadsProperties, ReadsProperty, ReadsMethod, ReadsMethodAs, ReadsKey, ReadsElements, ReadsArguments, ReadsArgumentList, ReadsElement, ReadsBinding, ReadsBindingElement, ReadsBindingElements, ReadsBindingProperty, ReadsBindingProperties, ReadsPattern, ReadsTarget, ReadsTargetElement, ReadsTargetElements, ReadsTargetProperties, ReadsTargetProperty, ReadsDeclarator, ReadsDeclarators, ReadsStatement, ReadsReturned, ReadsInit, ReadsPart, ReadsLeft, ReadsLabel, ReadsCases, ReadsCase, ReadsEndsOfTry, ReadsHandler, ReadsItem, ReadsStatements, ReadsBody, ReadsMemberKey}
use Rattle.jsgen_model.specs.Grammar as grammar
use Rattle.jsgen_one_reading.specs.States.{of_class, key_alone, with_words, getting, setting, operand, pattern_properties, pattern_key, property, property_word, method_key, keyed, method_headed, one_tree, some_trees, Holds, Manner, Owner, takes_private}
use Rattle.jsgen_one_reading.specs.ExpressionPieces.{when, by_word, with_field}
use Rattle.jsgen_one_reading.specs.Steps.{keyed_sign, property_word_piece, before_value}
use Rattle.jsgen_one_reading.specs.Brackets.{tree_then, rest_then, body_then, method_behind, may_take}
use Rattle.jsgen_one_reading.specs.Reader.{run}
use Rattle.jsgen_one_reading.proofs.Claims.{grouped, Settles}
use Rattle.jsgen_one_reading.proofs.ExpressionSteps.{word_signed, word_ends, big_key, number_key, string_keyed, word_key, string_key, member_key_begins, method_alone_begins, async_method_begins}
use Rattle.jsgen_one_reading.proofs.PatternSteps.{pattern_word_colon, pattern_string_key}
use Rattle.jsgen_one_reading.proofs.SpecialSteps.{private_key_step}
use Rattle.jsgen_one_reading.proofs.Shown.{ParametersShown, ParameterShown, BodyShown, ExpressionShown}
use Rattle.jsgen_one_reading.proofs.Steps.{then_done}

-- ---- keys

-- what is claimed of the parts of a key: only one that is computed has some
abbrev pub KeyParts : {c : Allowed} {computed : Bool} {ts : Tokens} {key : Tree} → ReadsKey c computed ts key → Type 0
KeyParts (grammar.a_computed_key d) = ExpressionShown d
KeyParts d = ⊤

-- the inside of the brackets of a computed key
computed_read : (c : Allowed) (inside : Tokens) (e : Tree) → Settles 2 (with_in c) inside e → run (operand (with_in c) (key_alone ∷ [])) inside ≡ one_tree e
computed_read c inside e h = ap (run (operand (with_in c) (key_alone ∷ []))) (sym (then_done inside)) ∙ h (key_alone ∷ []) done (omega arith) (omega arith)

-- a key of a pattern, of either kind, with its colon
pub pattern_key_read : {c : Allowed} {computed : Bool} {ts : Tokens} {key : Tree} → (d : ReadsKey c computed ts key) → KeyParts d → (h : Holds) (ps : Trees) (m : Bool) (rest : Tokens) → run (pattern_properties h c ps) (ts ⧺ piece m (Sign colon) rest) ≡ run (before_value h c ps computed key) rest
pattern_key_read (grammar.a_name_key {c} {w = w} e) _ h ps m rest = ap (λ s. run s rest) (pattern_word_colon h c ps w e)
pattern_key_read (grammar.a_string_key {c} {q = q} {w = w} b e) _ h ps m rest = ap (λ s. run s (piece m (Sign colon) rest)) (pattern_string_key h c ps q w b e)
pattern_key_read (grammar.a_number_key {c} {w = w} n) _ h ps m rest = ap (λ x. run (before_value h c ps false x) rest) (number_key w n)
pattern_key_read (grammar.a_big_integer_key {c} {w = w} {v = v} n) _ h ps m rest = ap (λ x. run (before_value h c ps false x) rest) (big_key w v n)
pattern_key_read (grammar.a_computed_key {c} {inside = inside} {e = z} d) of_d h ps m rest = ap (λ y. run (tree_then y (λ e. pattern_key h c ps true e)) (piece m (Sign colon) rest)) (computed_read c inside z of_d.0)

-- a key before a sign that follows its value or is its end: a colon in an object, `=` or a semicolon in a class
pub key_signed : {c : Allowed} {computed : Bool} {ts : Tokens} {key : Tree} → (d : ReadsKey c computed ts key) → KeyParts d → (o : Owner) (p : Punctuator) → ((w : List ℕ) (m : Bool) → property_word_piece c o w m (Sign p) ≡ by_word (word_value w) (λ v. keyed_sign c o false (tree.identifier_name (named v)) p)) → (n : Bool) (rest : Tokens) → run (property c o) (ts ⧺ piece n (Sign p) rest) ≡ run (keyed_sign c o computed key p) rest
key_signed (grammar.a_name_key {c} {w = w} e) _ o p h n rest = ap (λ s. run s rest) (h w n ∙ word_signed c o p w e)
key_signed (grammar.a_string_key {c} {q = q} {w = w} b e) _ o p h n rest = ap (λ s. run s (piece n (Sign p) rest)) (string_keyed c o q w b e)
key_signed (grammar.a_number_key {c} {w = w} d) _ o p h n rest = ap (λ x. run (keyed_sign c o false x p) rest) (number_key w d)
key_signed (grammar.a_big_integer_key {c} {w = w} {v = v} d) _ o p h n rest = ap (λ x. run (keyed_sign c o false x p) rest) (big_key w v d)
key_signed (grammar.a_computed_key {c} {inside = inside} {e = z} d) of_d o p h n rest = ap (λ y. run (tree_then y (λ e. keyed c o (with_words false false) true e)) (piece n (Sign p) rest)) (computed_read c inside z of_d.0)

-- a key that is a field by itself
pub key_ends : {c : Allowed} {computed : Bool} {ts : Tokens} {key : Tree} → (d : ReadsKey c computed ts key) → KeyParts d → (ms : Trees) (static : Bool) → run (property c (of_class ms static)) ts ≡ some_trees (with_field ms static computed key absent)
key_ends (grammar.a_name_key {c} {w = w} e) _ ms static = word_ends ms static w e
key_ends (grammar.a_string_key {c} {q = q} {w = w} b e) _ ms static = ap (λ s. run s done) (string_keyed c (of_class ms static) q w b e)
key_ends (grammar.a_number_key {c} {w = w} d) _ ms static = ap (λ x. some_trees (with_field ms static false x absent)) (number_key w d)
key_ends (grammar.a_big_integer_key {c} {w = w} {v = v} d) _ ms static = ap (λ x. some_trees (with_field ms static false x absent)) (big_key w v d)
key_ends (grammar.a_computed_key {c} {inside = inside} {e = z} d) of_d ms static = ap (λ y. run (tree_then y (λ e. keyed c (of_class ms static) (with_words false false) true e)) done) (computed_read c inside z of_d.0)

-- a key before the parameters of a method, behind its words
pub key_called : {c : Allowed} {computed : Bool} {ts : Tokens} {key : Tree} → (d : ReadsKey c computed ts key) → KeyParts d → (o : Owner) (m : Manner) (n : Bool) (inside rest : Tokens) → run (method_key c o m) (ts ⧺ group n Round inside rest) ≡ run (keyed c o m computed key) (group n Round inside rest)
key_called (grammar.a_name_key {c} {w = w} e) _ o m n inside rest = ap (λ s. run s (group n Round inside rest)) (word_key c o m w e)
key_called (grammar.a_string_key {c} {q = q} {w = w} b e) _ o m n inside rest = ap (λ s. run s (group n Round inside rest)) (string_key c o m q w b e)
key_called (grammar.a_number_key {c} {w = w} d) _ o m n inside rest = ap (λ x. run (keyed c o m false x) (group n Round inside rest)) (number_key w d)
key_called (grammar.a_big_integer_key {c} {w = w} {v = v} d) _ o m n inside rest = ap (λ x. run (keyed c o m false x) (group n Round inside rest)) (big_key w v d)
key_called (grammar.a_computed_key {c} {inside = brackets} {e = z} d) of_d o m n inside rest = ap (λ y. run (tree_then y (λ e. keyed c o m true e)) (group n Round inside rest)) (computed_read c brackets z of_d.0)

-- ---- keys that may be private names

abbrev pub MemberKeyParts : {c : Allowed} {private computed : Bool} {ts : Tokens} {key : Tree} → ReadsMemberKey c private computed ts key → Type 0
MemberKeyParts (grammar.a_public_key kr) = KeyParts kr
MemberKeyParts d = ⊤

-- before a sign
pub member_key_signed : {c : Allowed} {private computed : Bool} {ts : Tokens} {key : Tree} → (d : ReadsMemberKey c private computed ts key) → MemberKeyParts d → (o : Owner) → (private ≡ true → takes_private o ≡ true) → (p : Punctuator) → ((w : List ℕ) (m : Bool) → property_word_piece c o w m (Sign p) ≡ by_word (word_value w) (λ v. keyed_sign c o false (tree.identifier_name (named v)) p)) → (n : Bool) (rest : Tokens) → run (property c o) (ts ⧺ piece n (Sign p) rest) ≡ run (keyed_sign c o computed key p) rest
member_key_signed (grammar.a_public_key kr) of_kr o t p h n rest = key_signed kr of_kr o p h n rest
member_key_signed (grammar.a_private_key {c} {w = w} e) _ o t p h n rest = ap (λ s. run s (piece n (Sign p) rest)) (private_key_step c o (with_words false false) w (t refl) e)

-- as a field by itself
pub member_key_ends : {c : Allowed} {private computed : Bool} {ts : Tokens} {key : Tree} → (d : ReadsMemberKey c private computed ts key) → MemberKeyParts d → (ms : Trees) (static : Bool) → run (property c (of_class ms static)) ts ≡ some_trees (with_field ms static computed key absent)
member_key_ends (grammar.a_public_key kr) of_kr ms static = key_ends kr of_kr ms static
member_key_ends (grammar.a_private_key {c} {w = w} e) _ ms static = ap (λ s. run s done) (private_key_step c (of_class ms static) (with_words false false) w refl e)

-- before the parameters of a method, behind its words
member_key_called : {c : Allowed} {private computed : Bool} {ts : Tokens} {key : Tree} → (d : ReadsMemberKey c private computed ts key) → MemberKeyParts d → (o : Owner) → (private ≡ true → takes_private o ≡ true) → (m : Manner) (n : Bool) (inside rest : Tokens) → run (method_key c o m) (ts ⧺ group n Round inside rest) ≡ run (keyed c o m computed key) (group n Round inside rest)
member_key_called (grammar.a_public_key kr) of_kr o t m n inside rest = key_called kr of_kr o m n inside rest
member_key_called (grammar.a_private_key {c} {w = w} e) _ o t m n inside rest = ap (λ s. run s (group n Round inside rest)) (private_key_step c o m w (t refl) e)

-- ---- methods

-- what is claimed of the parts of a method behind its words
abbrev pub MethodAsParts : {c : Allowed} {private async generator computed : Bool} {ts : Tokens} {key v : Tree} → ReadsMethodAs c private async generator computed ts key v → Type 0
MethodAsParts (grammar.a_method_behind_words n l q kr p b) = MemberKeyParts kr × ParametersShown p × BodyShown b

-- a method behind its words
pub method_as : {c : Allowed} {private async generator computed : Bool} {ts : Tokens} {key v : Tree} → (d : ReadsMethodAs c private async generator computed ts key v) → MethodAsParts d → (o : Owner) → (private ≡ true → takes_private o ≡ true) → (rest : Tokens) → run (method_key c o (with_words async generator)) (ts ⧺ rest) ≡ run (method_behind c o Init computed key v) rest
method_as (grammar.a_method_behind_words {c} {async = async} {generator = generator} {computed = computed} {ts = ts} {a = a} {head = hd} {inside = inside} {k = key} {ps = ps} {rest = r} n l q kr p b) (of_kr, of_p, of_b) o t rest =
    let m : Manner = with_words async generator in
    grouped (method_key c o m) ts a n Round hd (group l Brace inside done) rest q ∙ (member_key_called kr of_kr o t m n hd (group l Brace inside rest) ∙ (ap (λ y. run (rest_then y (λ xs z. when (may_take m xs z) (method_headed c o m computed key xs z))) (group l Brace inside rest)) (of_p no_trees) ∙ ap (λ y. run (body_then y (λ es us. method_behind c o Init computed key (method_of async generator ps r es us))) rest) (of_b (λ x. refl) no_trees)))

-- what is claimed of the parts of a method or an accessor
abbrev pub MethodParts : {c : Allowed} {private : Bool} {kd : PropertyKind} {computed : Bool} {ts : Tokens} {key v : Tree} → ReadsMethod c private kd computed ts key v → Type 0
MethodParts (grammar.a_plain_method d) = MethodAsParts d
MethodParts (grammar.a_generator_method d) = MethodAsParts d
MethodParts (grammar.an_async_method s d) = MethodAsParts d
MethodParts (grammar.an_async_generator_method d) = MethodAsParts d
MethodParts (grammar.a_getter n l q kr b) = MemberKeyParts kr × BodyShown b
MethodParts (grammar.a_setter n l q kr p b) = MemberKeyParts kr × ParameterShown p × BodyShown b

-- a method or an accessor, of an object or a class
pub method_read : {c : Allowed} {private : Bool} {kd : PropertyKind} {computed : Bool} {ts : Tokens} {key v : Tree} → (d : ReadsMethod c private kd computed ts key v) → MethodParts d → (o : Owner) → (private ≡ true → takes_private o ≡ true) → (rest : Tokens) → run (property c o) (ts ⧺ rest) ≡ run (method_behind c o kd computed key v) rest
method_read (grammar.a_plain_method d) of_d o t rest = method_alone_begins d o rest ∙ method_as d of_d o t rest
method_read (grammar.a_generator_method d) of_d o t rest = method_as d of_d o t rest
method_read (grammar.an_async_method s d) of_d o t rest = async_method_begins d s o rest ∙ method_as d of_d o t rest
method_read (grammar.an_async_generator_method d) of_d o t rest = method_as d of_d o t rest
method_read (grammar.a_getter {c} {computed = computed} {ts = ts} {a = a} {inside = inside} {k = key} n l q kr b) (of_kr, of_b) o t rest =
    grouped (property_word c o (codes "get")) ts a n Round done (group l Brace inside done) rest q ∙ (member_key_begins kr o (codes "get") getting (λ f s. refl) (group n Round done (group l Brace inside rest)) ∙ (member_key_called kr of_kr o t getting n done (group l Brace inside rest) ∙ ap (λ y. run (body_then y (λ es us. method_behind c o Get computed key (method_of false false no_trees absent es us))) rest) (of_b (λ x. refl) no_trees)))
method_read (grammar.a_setter {c} {computed = computed} {ts = ts} {a = a} {head = hd} {inside = inside} {k = key} {p = x} n l q kr p b) (of_kr, of_p, of_b) o t rest =
    grouped (property_word c o (codes "set")) ts a n Round hd (group l Brace inside done) rest q ∙ (member_key_begins kr o (codes "set") setting (λ f s. refl) (group n Round hd (group l Brace inside rest)) ∙ (member_key_called kr of_kr o t setting n hd (group l Brace inside rest) ∙ (ap (λ y. run (rest_then y (λ xs z. when (may_take setting xs z) (method_headed c o setting computed key xs z))) (group l Brace inside rest)) (of_p no_trees).2 ∙ ap (λ y. run (body_then y (λ es us. method_behind c o Set computed key (method_of false false (more x no_trees) absent es us))) rest) (of_b (λ x. refl) no_trees))))
