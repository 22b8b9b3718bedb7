-- What is claimed of a class, if what is claimed of its parts is true.
use Rattle.jsgen_syntax.specs.Escapes.{word_value}
use Rattle.jsgen_syntax.specs.Name.{is_free_name}
use Rattle.std.proofs.Common.{ℕ, Some, ◌≡◌, ◌≤◌, List, [], ◌∷◌, Bool, true, false, codes, refl, ap, sym, ◌∙◌, arith}
use Rattle.std.specs.Prelude.{⊤}
use Rattle.jsgen_tree.specs.declared.classes.ClassKind.{ClassKind}
use Rattle.jsgen_tree.specs.declared.functions.FunctionKind.{FunctionKind}
use Rattle.jsgen_tree.specs.declared.collections.PropertyKind.{PropertyKind}
use Rattle.jsgen_tree.specs.Tree.{Tree, Maybe, Trees, no_trees, more, absent, given}
use Rattle.jsgen_tree.specs.Nodes as tree
use Rattle.jsgen_model.specs.Punctuator.{semicolon, equal, Round, Brace}
use Rattle.jsgen_model.specs.Tokens.{Tokens, done, piece, group, ◌⧺◌, Word, Sign}
use Rattle.jsgen_model.specs.Normal.{nothing_of, unnumbered, joined}
use Rattle.jsgen_model.specs.Grammar.{in_member, class_of, LeftHandSide, New, Callee, Call, Member, Primary, Allowed, with_in, without_in, in_arrow_body, Level, operator_piece, update_sign, assignment_sign, names_function, on_same_line, function_of, method_of, arrow_values, loop_values, computed_values, ReadsModule, ReadsExpression, ReadsClass, ReadsClassTail, ReadsMembers, ReadsMember, ReadsField, ReadsFieldAs, ReadsFunction, ReadsFunctionAs, ReadsArrow, ReadsArrowParameters, ReadsParameters, ReadsParameter, ReadsParts, ReadsChain, ReadsChainBase, ReadsProperties, ReadsProperty, ReadsMethod, ReadsMethodAs, ReadsKey, ReadsElements, ReadsArguments, ReadsArgumentList, ReadsElement, ReadsBinding, ReadsBindingElement, ReadsBindingElements, ReadsBindingProperty, ReadsBindingProperties, ReadsPattern, ReadsTarget, ReadsTargetElement, ReadsTargetElements, ReadsTargetProperties, ReadsTargetProperty, ReadsDeclarator, ReadsDeclarators, ReadsStatement, ReadsReturned, ReadsInit, ReadsPart, ReadsLeft, ReadsLabel, ReadsCases, ReadsCase, ReadsEndsOfTry, ReadsHandler, ReadsItem, ReadsStatements, ReadsBody, ReadsMemberKey}
use Rattle.jsgen_model.specs.Grammar as grammar
use Rattle.jsgen_one_reading.specs.States.{of_class, extends_of, field_of, class_headed, settle, in_braces, as_operand, as_statement, operand, settled, class_word, property, property_word, some_trees, Frame, Kept, State}
use Rattle.jsgen_one_reading.specs.ExpressionPieces.{with_field}
use Rattle.jsgen_one_reading.specs.Steps.{may_be_nameless, is_update, extended, extending, kept_again, class_piece, kept, kept_class, kept_allowed}
use Rattle.jsgen_one_reading.specs.Brackets.{inner, enter, trees_then}
use Rattle.jsgen_one_reading.specs.Reader.{run}
use Rattle.jsgen_one_reading.proofs.Steps.{faces, no_keyword, then_done, joined_more, joined_none, untrue, rest_rank}
use Rattle.jsgen_one_reading.proofs.Claims.{parted, grouped}
use Rattle.jsgen_one_reading.proofs.ExpressionSteps.{unfree_extends, nameless_step}
use Rattle.jsgen_one_reading.proofs.StatementSteps.{in_block}
use Rattle.jsgen_one_reading.proofs.Shown.{ClassShown, ExpressionShown, StatementsShown}
use Rattle.jsgen_one_reading.proofs.Methods.{MemberKeyParts, member_key_signed, member_key_ends, MethodParts, method_read}

-- ---- what a class extends

-- the levels of left-hand sides
abbrev pub is_left : Level → Bool
is_left LeftHandSide = true
is_left New = true
is_left Callee = true
is_left Call = true
is_left Member = true
is_left Primary = true
is_left g = false

no_update_function : {kd : FunctionKind} {unnamed async generator : Bool} {ts : Tokens} {t : Tree} → ReadsFunctionAs kd unnamed async generator ts t → is_update t ≡ false
no_update_function (grammar.a_named_function e x p b) = refl
no_update_function (grammar.a_nameless_function p b) = refl

-- none of them is `++` or `--`
no_update : {c : Allowed} {g : Level} {ts : Tokens} {t : Tree} → ReadsExpression c g ts t → is_left g ≡ true → is_update t ≡ false
no_update (grammar.an_assignment d) h = untrue h
no_update (grammar.a_conditional d) h = untrue h
no_update (grammar.a_short_circuit d) h = untrue h
no_update (grammar.a_logical_or d) h = untrue h
no_update (grammar.a_logical_and d) h = untrue h
no_update (grammar.a_bit_or d) h = untrue h
no_update (grammar.a_bit_xor d) h = untrue h
no_update (grammar.a_bit_and d) h = untrue h
no_update (grammar.an_equality d) h = untrue h
no_update (grammar.a_relation d) h = untrue h
no_update (grammar.a_shift d) h = untrue h
no_update (grammar.an_additive d) h = untrue h
no_update (grammar.a_multiplicative d) h = untrue h
no_update (grammar.an_exponent d) h = untrue h
no_update (grammar.a_unary d) h = untrue h
no_update (grammar.an_update d) h = untrue h
no_update (grammar.a_left_hand_side d) h = untrue h
no_update (grammar.a_coalesce d) h = untrue h
no_update (grammar.a_coalesced_head d) h = untrue h
no_update (grammar.a_bit_or_head d) h = untrue h
no_update (grammar.an_update_before o d s) h = untrue h
no_update (grammar.an_update_behind o e d s) h = untrue h
no_update (grammar.an_arrow d) h = untrue h
no_update (grammar.an_async_arrow s d) h = untrue h
no_update (grammar.a_new d) h = no_update d refl
no_update (grammar.a_call d) h = no_update d refl
no_update (grammar.a_member d) h = no_update d refl
no_update (grammar.a_primary d) h = no_update d refl
no_update (grammar.a_called_member d) h = no_update d refl
no_update (grammar.a_called_call d) h = no_update d refl
no_update (grammar.a_function (grammar.a_plain_function d)) h = no_update_function d
no_update (grammar.a_function (grammar.a_generator d)) h = no_update_function d
no_update (grammar.a_function (grammar.an_async_function d)) h = no_update_function d
no_update (grammar.a_function (grammar.an_async_generator d)) h = no_update_function d
no_update (grammar.a_class (grammar.a_named_class e x d)) h = refl
no_update (grammar.a_class (grammar.a_nameless_class d)) h = refl
no_update d h = refl

extended_step : (d c : Allowed) (k : List Frame) (declared : Bool) (id : Maybe) (e : Tree) → is_update e ≡ false → extended (settle 17 d (extends_of declared c id ∷ k) e) ≡ class_headed (kept_again declared c k) id (given e)
extended_step d c k declared id e h = rw h refl

-- ---- members

-- what is claimed of the parts of a field
abbrev pub FieldAsParts : {c : Allowed} {computed : Bool} {ts : Tokens} {key : Tree} {value : Maybe} → ReadsFieldAs c computed ts key value → Type 0
FieldAsParts (grammar.a_field_alone kr) = MemberKeyParts kr
FieldAsParts (grammar.a_field_with_value m q kr d) = MemberKeyParts kr × ExpressionShown d

abbrev pub FieldParts : {c : Allowed} {ts : Tokens} {t : Tree} → ReadsField c ts t → Type 0
FieldParts (grammar.a_field d) = FieldAsParts d
FieldParts (grammar.a_static_field d) = FieldAsParts d

-- of a method or a static block
abbrev pub MemberParts : {c : Allowed} {ts : Tokens} {t : Tree} → ReadsMember c ts t → Type 0
MemberParts (grammar.a_member_method d) = MethodParts d
MemberParts (grammar.a_static_method d) = MethodParts d
MemberParts (grammar.a_static_block d) = StatementsShown d

abbrev pub MembersParts : {c : Allowed} {ts : Tokens} {ms : Trees} → ReadsMembers c ts ms → Type 0
MembersParts grammar.no_member = ⊤
MembersParts (grammar.a_semicolon_alone p) = MembersParts p
MembersParts (grammar.a_last_field d) = FieldParts d
MembersParts (grammar.a_first_field m e d p) = FieldParts d × MembersParts p
MembersParts (grammar.a_first_member e d p) = MemberParts d × MembersParts p

-- behind `static` a key begins as the key of a static member
static_key : {c : Allowed} {private computed : Bool} {a : Tokens} {key : Tree} → ReadsMemberKey c private computed a key → (ms : Trees) (rest : Tokens) → run (property_word c (of_class ms false) (codes "static")) (a ⧺ rest) ≡ run (property c (of_class ms true)) (a ⧺ rest)
static_key (grammar.a_public_key (grammar.a_name_key e)) ms rest = refl
static_key (grammar.a_public_key (grammar.a_string_key b e)) ms rest = refl
static_key (grammar.a_public_key (grammar.a_number_key n)) ms rest = refl
static_key (grammar.a_public_key (grammar.a_big_integer_key n)) ms rest = refl
static_key (grammar.a_public_key (grammar.a_computed_key d)) ms rest = refl
static_key (grammar.a_private_key e) ms rest = refl

-- and so does a method
static_method : {c : Allowed} {private : Bool} {kd : PropertyKind} {computed : Bool} {ts : Tokens} {key v : Tree} → ReadsMethod c private kd computed ts key v → (ms : Trees) (rest : Tokens) → run (property_word c (of_class ms false) (codes "static")) (ts ⧺ rest) ≡ run (property c (of_class ms true)) (ts ⧺ rest)
static_method (grammar.a_plain_method {c} (grammar.a_method_behind_words {ts = ts} {a = a} {head = hd} {inside = inside} n l q kr p b)) ms rest = grouped (property_word c (of_class ms false) (codes "static")) ts a n Round hd (group l Brace inside done) rest q ∙ (static_key kr ms (group n Round hd (group l Brace inside rest)) ∙ sym (grouped (property c (of_class ms true)) ts a n Round hd (group l Brace inside done) rest q))
static_method (grammar.a_generator_method d) ms rest = refl
static_method (grammar.an_async_method s d) ms rest = refl
static_method (grammar.an_async_generator_method d) ms rest = refl
static_method (grammar.a_getter n l q kr b) ms rest = refl
static_method (grammar.a_setter n l q kr p b) ms rest = refl

-- and a field
static_field : {c : Allowed} {computed : Bool} {ts : Tokens} {key : Tree} {value : Maybe} → ReadsFieldAs c computed ts key value → (ms : Trees) (rest : Tokens) → run (property_word c (of_class ms false) (codes "static")) (ts ⧺ rest) ≡ run (property c (of_class ms true)) (ts ⧺ rest)
static_field (grammar.a_field_alone kr) ms rest = static_key kr ms rest
static_field (grammar.a_field_with_value {c} {ts = ts} {a = a} {b = b} m q kr d) ms rest = parted (property_word c (of_class ms false) (codes "static")) ts a m (Sign equal) b rest q ∙ (static_key kr ms (piece m (Sign equal) (b ⧺ rest)) ∙ sym (parted (property c (of_class ms true)) ts a m (Sign equal) b rest q))

-- a field is read, at the end and before its semicolon
abbrev FieldRead : Allowed → State → Tokens → Trees → Type 0
FieldRead c s ts ms = (run s ts ≡ some_trees ms) × ((n : Bool) (rest : Tokens) → run s (ts ⧺ piece n (Sign semicolon) rest) ≡ run (property c (of_class ms false)) rest)

field_as : {c : Allowed} {computed : Bool} {ts : Tokens} {key : Tree} {value : Maybe} → (d : ReadsFieldAs c computed ts key value) → FieldAsParts d → (ms : Trees) (static : Bool) → FieldRead c (property c (of_class ms static)) ts (with_field ms static computed key value)
field_as (grammar.a_field_alone kr) of_kr ms static = (member_key_ends kr of_kr ms static, λ n rest. member_key_signed kr of_kr (of_class ms static) (λ x. refl) semicolon (λ w m. refl) n rest)
field_as (grammar.a_field_with_value {c} {computed} {ts} {a} {b} {k = key} {e = z} m q kr d) (of_kr, of_d) ms static =
    let upto : (rest : Tokens) → rest_rank true rest ≤ 2 → run (property c (of_class ms static)) (ts ⧺ rest) ≡ run (settled in_member (field_of c ms static computed key ∷ []) z) rest = λ rest r. parted (property c (of_class ms static)) ts a m (Sign equal) b rest q ∙ (member_key_signed kr of_kr (of_class ms static) (λ x. refl) equal (λ w n. refl) m (b ⧺ rest) ∙ of_d.0 (field_of c ms static computed key ∷ []) rest (omega arith) r) in
    (ap (run (property c (of_class ms static))) (sym (then_done ts)) ∙ upto done (omega arith), λ n rest. upto (piece n (Sign semicolon) rest) (omega arith))

field_read : {c : Allowed} {ts : Tokens} {t : Tree} → (d : ReadsField c ts t) → FieldParts d → (ms : Trees) → FieldRead c (property c (of_class ms false)) ts (joined ms (more t no_trees))
field_read (grammar.a_field d) of_d ms = field_as d of_d ms false
field_read (grammar.a_static_field {c} {ts = ts} d) of_d ms = (
  ap (run (property_word c (of_class ms false) (codes "static"))) (sym (then_done ts)) ∙ (static_field d ms done ∙ (ap (run (property c (of_class ms true))) (then_done ts) ∙ (field_as d of_d ms true).0)),
  λ n rest. static_field d ms (piece n (Sign semicolon) rest) ∙ (field_as d of_d ms true).1 n rest,
)

member_read : {c : Allowed} {ts : Tokens} {t : Tree} → (d : ReadsMember c ts t) → MemberParts d → (ms : Trees) (rest : Tokens) → run (property c (of_class ms false)) (ts ⧺ rest) ≡ run (property c (of_class (joined ms (more t no_trees)) false)) rest
member_read (grammar.a_member_method d) of_d ms rest = method_read d of_d (of_class ms false) (λ x. refl) rest
member_read (grammar.a_static_method d) of_d ms rest = static_method d ms rest ∙ method_read d of_d (of_class ms true) (λ x. refl) rest
member_read (grammar.a_static_block {c} {inside = inside} {ss = ss} d) of_d ms rest = ap (λ y. run (trees_then y (λ us. property c (of_class (joined ms (more (tree.static_block (nothing_of 0) us) no_trees)) false))) rest) (in_block in_member inside ss (of_d in_braces no_trees done (λ x. (refl, refl)) refl refl))

-- the inside of a class
members_read : {c : Allowed} {ts : Tokens} {ms : Trees} → (d : ReadsMembers c ts ms) → MembersParts d → (sofar : Trees) → run (property c (of_class sofar false)) ts ≡ some_trees (joined sofar ms)
members_read grammar.no_member _ sofar = ap some_trees (sym (joined_none sofar))
members_read (grammar.a_semicolon_alone p) of_p sofar = members_read p of_p sofar
members_read (grammar.a_last_field d) of_d sofar = (field_read d of_d sofar).0
members_read (grammar.a_first_field {c} {b = b} {t = t} {ms = ms} m e d p) (of_d, of_p) sofar = ap (run (property c (of_class sofar false))) e ∙ ((field_read d of_d sofar).1 m b ∙ (members_read p of_p (joined sofar (more t no_trees)) ∙ ap some_trees (joined_more sofar ms t)))
members_read (grammar.a_first_member {c} {b = b} {t = t} {ms = ms} e d p) (of_d, of_p) sofar = ap (run (property c (of_class sofar false))) e ∙ (member_read d of_d sofar b ∙ (members_read p of_p (joined sofar (more t no_trees)) ∙ ap some_trees (joined_more sofar ms t)))

-- ---- classes

-- what is claimed of the parts of a class behind its name
abbrev pub ClassTailParts : {c : Allowed} {ts : Tokens} {heritage : Maybe} {ms : Trees} → ReadsClassTail c ts heritage ms → Type 0
ClassTailParts (grammar.without_heritage p) = MembersParts p
ClassTailParts (grammar.with_heritage n e d p) = ExpressionShown d × MembersParts p

abbrev pub ClassParts : {c : Allowed} {kd : ClassKind} {unnamed : Bool} {ts : Tokens} {t : Tree} → ReadsClass c kd unnamed ts t → Type 0
ClassParts (grammar.a_named_class e x d) = ClassTailParts d
ClassParts (grammar.a_nameless_class d) = ClassTailParts d

-- the braces of a class
braces_read : {c : Allowed} {inside : Tokens} {ms : Trees} → (d : ReadsMembers c inside ms) → MembersParts d → (g : Kept) → with_in (kept_allowed g) ≡ c → (id heritage : Maybe) (m : Bool) (rest : Tokens) → run (class_headed g id heritage) (group m Brace inside rest) ≡ run (kept g (class_of (kept_class g) id heritage ms)) rest
braces_read {inside = inside} d of_d g q id heritage m rest = ap (λ y. run (trees_then y (λ us. kept g (class_of (kept_class g) id heritage us))) rest) (ap (λ x. run (property x (of_class no_trees false)) inside) q ∙ members_read d of_d no_trees)

-- behind the name of a class, if it has one
tail_read : {c : Allowed} {ts : Tokens} {heritage : Maybe} {ms : Trees} → (d : ReadsClassTail c ts heritage ms) → ClassTailParts d → (g : Kept) → with_in (kept_allowed g) ≡ c → (id : Maybe) (rest : Tokens) → run (class_headed g id absent) (ts ⧺ rest) ≡ run (kept g (class_of (kept_class g) id heritage ms)) rest
tail_read (grammar.without_heritage {mark = m} p) of_p g q id rest = braces_read p of_p g q id absent m rest
tail_read (grammar.with_heritage {c} {ts = ts} {a = a} {inside = inside} {e = z} {ms = ms} n e d p) (of_d, of_p) g q id rest = by g q
  where
    x : Tokens
    x = group n Brace inside rest

    at_braces : (declared : Bool) (b : Allowed) (k : List Frame) → with_in b ≡ c → run (operand (with_in b) (extends_of declared b id ∷ k)) (ts ⧺ rest) ≡ run (class_headed (kept_again declared b k) id (given z)) x
    at_braces declared b k f = ap (λ y. run (operand y (extends_of declared b id ∷ k)) (ts ⧺ rest)) f ∙ (grouped (operand c (extends_of declared b id ∷ k)) ts a n Brace inside done rest e ∙ (of_d.0 (extends_of declared b id ∷ k) x (omega arith) (omega arith) ∙ ap (λ y. run (enter y Brace (run (inner y Brace) inside)) rest) (extended_step c b k declared id z (no_update d refl))))

    by : (g : Kept) → with_in (kept_allowed g) ≡ c → run (extending g id) (ts ⧺ rest) ≡ run (kept g (class_of (kept_class g) id (given z) ms)) rest
    by (as_operand b k) f = at_braces false b k f ∙ braces_read p of_p (as_operand b k) f id (given z) n rest
    by (as_statement b k) f = at_braces true b k f ∙ braces_read p of_p (as_statement b k) f id (given z) n rest

-- where a class without a name may stand
tail_begins : {c : Allowed} {ts : Tokens} {heritage : Maybe} {ms : Trees} → ReadsClassTail c ts heritage ms → (g : Kept) → may_be_nameless g ≡ true → (rest : Tokens) → run (class_word g) (ts ⧺ rest) ≡ run (class_headed g absent absent) (ts ⧺ rest)
tail_begins (grammar.without_heritage {mark = m} {inside = inside} p) g e rest = faces (class_word g) (class_headed g absent absent) m Brace inside rest (nameless_step g (class_headed g absent absent) e)
tail_begins (grammar.with_heritage {ts = ts} n q d p) g e rest = ap (λ s. run s (ts ⧺ rest)) (nameless_step g (extending g absent) e)

class_name_step : (g : Kept) (w : List ℕ) {v : List ℕ} → word_value w ≡ Some v → is_free_name v ≡ true → class_piece g (Word w) ≡ class_headed g (given (tree.binding_identifier (unnumbered v))) absent
class_name_step g w e h = rw (no_keyword w (codes "extends") e h unfree_extends, e, h) refl

-- a class from its word on, by the state there and where it stands
pub class_read : {c : Allowed} {kd : ClassKind} {unnamed : Bool} {ts : Tokens} {t : Tree} → (d : ReadsClass c kd unnamed ts t) → ClassParts d → ClassShown d
class_read (grammar.a_named_class {mark = m} {next = n} {w = w} {v = v} {ts = ts} {heritage = h} {ms = ms} e x d) of_d s g q u i f rest =
    let id : Maybe = given (tree.binding_identifier (unnumbered v)) in
    f m (piece n (Word w) (ts ⧺ rest)) ∙ (ap (λ y. run y (ts ⧺ rest)) (class_name_step g w e x) ∙ (tail_read d of_d g i id rest ∙ ap (λ y. run (kept g (class_of y id h ms)) rest) (sym q)))
class_read (grammar.a_nameless_class {mark = m} {ts = ts} {heritage = h} {ms = ms} d) of_d s g q u i f rest = f m (ts ⧺ rest) ∙ (tail_begins d g (u refl) rest ∙ (tail_read d of_d g i absent rest ∙ ap (λ y. run (kept g (class_of y absent h ms)) rest) (sym q)))
