-- The grammar (ECMA-262, clauses 13 to 16): which lists of tokens are read as which tree, one production a line. What productions ask besides, and the trees that they make of parts, stand in Premises.antt.
use Rattle.std.specs.Prelude.{◌≡◌, ℕ, List, [], ◌∷◌, ◌++◌, Bool, true, false, not, ◌||◌, Option, None, Some, codes}
use Rattle.jsgen_syntax.specs.Escapes.{word_value}
use Rattle.jsgen_syntax.specs.Strings.{is_backtick, string_value}
use Rattle.jsgen_syntax.specs.declared.quote.Quote.{Quote}
use Rattle.jsgen_syntax.specs.declared.quote.Quote.TheVariants as quotes
use Rattle.jsgen_syntax.specs.declared.operator.BinaryOperator.{BinaryOperator}
use Rattle.jsgen_syntax.specs.declared.operator.BinaryOperator.TheVariants as operators
use Rattle.jsgen_syntax.specs.declared.operator.LogicalOperator.TheVariants.{Or, And, Coalesce}
use Rattle.jsgen_syntax.specs.declared.operator.UnaryOperator.{UnaryOperator}
use Rattle.jsgen_syntax.specs.declared.operator.UpdateOperator.{UpdateOperator}
use Rattle.jsgen_syntax.specs.declared.operator.AssignmentOperator.{AssignmentOperator}
use Rattle.jsgen_syntax.specs.declared.operator.AssignmentOperator.TheVariants as assignment_operators
use Rattle.jsgen_tree.specs.declared.statements.VariableDeclarationKind.{VariableDeclarationKind}
use Rattle.jsgen_tree.specs.declared.statements.VariableDeclarationKind.TheVariants.{Var}
use Rattle.jsgen_tree.specs.declared.functions.FunctionKind.{FunctionKind}
use Rattle.jsgen_tree.specs.declared.functions.FunctionKind.TheVariants as kinds
use Rattle.jsgen_tree.specs.declared.classes.ClassKind.{ClassKind}
use Rattle.jsgen_tree.specs.declared.classes.ClassKind.TheVariants as class_kinds
use Rattle.jsgen_tree.specs.declared.modules.WithKeyword.TheVariants as with_keywords
use Rattle.jsgen_syntax.specs.Name.{is_free_name}
use Rattle.jsgen_tree.specs.Atom.{units, flag, binary_operator, logical_operator, unary_operator, update_operator, assignment_operator, with_keyword, text}
use Rattle.jsgen_tree.specs.Tree.{Tree, Maybe, absent, given, Trees, no_trees, more, hole, no_list, listed}
use Rattle.jsgen_tree.specs.Places.{bare}
use Rattle.jsgen_tree.specs.Nodes as tree
use Rattle.jsgen_model.specs.Punctuator.{star, star_star, and_and, or_or, nullish, dot, ellipsis, comma, semicolon, equal, Round, Square, Brace, colon, question, question_dot, arrow}
use Rattle.jsgen_tree.specs.declared.collections.PropertyKind.{PropertyKind}
use Rattle.jsgen_tree.specs.declared.collections.PropertyKind.TheVariants.{Init, Get, Set}
use Rattle.jsgen_model.specs.Tokens.{Tokens, done, piece, group, ◌⧺◌, Word, Number, Quoted, Sign, Beyond, Private, Pattern, Whole, Head, Middle, Tail}
use Rattle.jsgen_model.specs.Normal.{nothing_of, named, unnumbered, link_values, call_values, by_text, declared_as, property_values}
pub use Rattle.jsgen_model.specs.Premises.{Allowed, in_module, with_in, without_in, in_parameters, in_member, in_body, in_arrow_body, Level, Expression, Assignment, Conditional, ShortCircuit, Coalesced, CoalesceHead, LogicalOr, LogicalAnd, BitOr, BitXor, BitAnd, Equality, Relational, Shift, Additive, Multiplicative, Exponent, Unary, Update, LeftHandSide, New, Callee, Call, Member, Primary, is_power, operation_level, next_level, operator_piece, unary_piece, update_sign, assignment_sign, simple_target, may_name, is_identifier_reference, is_anonymous_function, names_function, may_operate, is_word, has_suffix, on_same_line, starts_in_square, starts_in_brace, starts_declaration, starts_statement, starts_with_directive, may_precede_of, declaring, is_var, function_of, method_of, is_plain_method, arrow_values, loop_values, class_of, method_kind, member_values, field_values, private_name, raw_piece, cooked_piece, read_piece, computed_values, units_of, text_of, hashbang_of, of_values, is_reference_alone, starts_function_or_class, may_be_exported}

-- a semicolon ends the tokens, or is omitted as the last of a brace group (12.10)
pub data EndsBy : Bool → Tokens → Tokens → Type 0 where
  a_semicolon : {last : Bool} {ts a : Tokens} (mark : Bool) → ts ≡ a ⧺ piece mark (Sign semicolon) done → EndsBy last ts a
  the_brace : {ts : Tokens} → EndsBy true ts ts

mutual
  -- ---- expressions (clause 13)
  pub data ReadsExpression : Allowed → Level → Tokens → Tree → Type 0 where
    an_assignment : {c : Allowed} {ts : Tokens} {t : Tree} → ReadsExpression c Assignment ts t → ReadsExpression c Expression ts t
    a_sequence : {c : Allowed} {ts a b : Tokens} {t : Tree} {us : Trees} (mark : Bool) → ts ≡ a ⧺ piece mark (Sign comma) b → ReadsExpression c Assignment a t → ReadsParts c b us
        → ReadsExpression c Expression ts (tree.sequence (nothing_of 0) (more t us))
    a_conditional : {c : Allowed} {ts : Tokens} {t : Tree} → ReadsExpression c Conditional ts t → ReadsExpression c Assignment ts t
    -- what is given a value is a left-hand side, to which it is all one whether `in` may stand outside (13.15); without its parentheses, which
    -- the tree doesn't have, it names no function that it doesn't name with them
    an_assignment_to : {c : Allowed} {ts a b : Tokens} {t u v : Tree} (o : AssignmentOperator) (mark : Bool) → ts ≡ a ⧺ piece mark (Sign (assignment_sign o)) b → ReadsExpression (with_in c) LeftHandSide a t → simple_target t ≡ Some u → ReadsExpression c Assignment b v → names_function o t v ≡ names_function o u v
        → ReadsExpression c Assignment ts (tree.assignment (bare (assignment_operator o ∷ [])) u v)
    -- or a pattern, to which a value is given as it is (13.15.5)
    an_assignment_to_pattern : {c : Allowed} {ts a b : Tokens} {t v : Tree} (mark : Bool) → ts ≡ a ⧺ piece mark (Sign equal) b → ReadsPattern (with_in c) a t → ReadsExpression c Assignment b v
        → ReadsExpression c Assignment ts (tree.assignment (bare (assignment_operator assignment_operators.Assign ∷ [])) t v)
    a_short_circuit : {c : Allowed} {ts : Tokens} {t : Tree} → ReadsExpression c ShortCircuit ts t → ReadsExpression c Conditional ts t
    a_logical_or : {c : Allowed} {ts : Tokens} {t : Tree} → ReadsExpression c LogicalOr ts t → ReadsExpression c ShortCircuit ts t
    a_logical_and : {c : Allowed} {ts : Tokens} {t : Tree} → ReadsExpression c LogicalAnd ts t → ReadsExpression c LogicalOr ts t
    a_bit_or : {c : Allowed} {ts : Tokens} {t : Tree} → ReadsExpression c BitOr ts t → ReadsExpression c LogicalAnd ts t
    a_bit_xor : {c : Allowed} {ts : Tokens} {t : Tree} → ReadsExpression c BitXor ts t → ReadsExpression c BitOr ts t
    a_bit_and : {c : Allowed} {ts : Tokens} {t : Tree} → ReadsExpression c BitAnd ts t → ReadsExpression c BitXor ts t
    an_equality : {c : Allowed} {ts : Tokens} {t : Tree} → ReadsExpression c Equality ts t → ReadsExpression c BitAnd ts t
    a_relation : {c : Allowed} {ts : Tokens} {t : Tree} → ReadsExpression c Relational ts t → ReadsExpression c Equality ts t
    a_shift : {c : Allowed} {ts : Tokens} {t : Tree} → ReadsExpression c Shift ts t → ReadsExpression c Relational ts t
    an_additive : {c : Allowed} {ts : Tokens} {t : Tree} → ReadsExpression c Additive ts t → ReadsExpression c Shift ts t
    a_multiplicative : {c : Allowed} {ts : Tokens} {t : Tree} → ReadsExpression c Multiplicative ts t → ReadsExpression c Additive ts t
    an_exponent : {c : Allowed} {ts : Tokens} {t : Tree} → ReadsExpression c Exponent ts t → ReadsExpression c Multiplicative ts t
    a_unary : {c : Allowed} {ts : Tokens} {t : Tree} → ReadsExpression c Unary ts t → ReadsExpression c Exponent ts t
    an_update : {c : Allowed} {ts : Tokens} {t : Tree} → ReadsExpression c Update ts t → ReadsExpression c Unary ts t
    a_left_hand_side : {c : Allowed} {ts : Tokens} {t : Tree} → ReadsExpression c LeftHandSide ts t → ReadsExpression c Update ts t
    a_new : {c : Allowed} {ts : Tokens} {t : Tree} → ReadsExpression c New ts t → ReadsExpression c LeftHandSide ts t
    a_call : {c : Allowed} {ts : Tokens} {t : Tree} → ReadsExpression c Call ts t → ReadsExpression c LeftHandSide ts t
    a_member : {c : Allowed} {ts : Tokens} {t : Tree} → ReadsExpression c Member ts t → ReadsExpression c New ts t
    a_primary : {c : Allowed} {ts : Tokens} {t : Tree} → ReadsExpression c Primary ts t → ReadsExpression c Member ts t
    a_called_member : {c : Allowed} {ts : Tokens} {t : Tree} → ReadsExpression c Member ts t → ReadsExpression c Callee ts t
    a_called_call : {c : Allowed} {ts : Tokens} {t : Tree} → ReadsExpression c Call ts t → ReadsExpression c Callee ts t
    a_named_member : {c : Allowed} {ts a : Tokens} {o : Tree} {v : List ℕ} (w : List ℕ) (mark next : Bool) → ts ≡ a ⧺ piece mark (Sign dot) (piece next (Word w) done) → word_value w ≡ Some v → ReadsExpression c Member a o
        → ReadsExpression c Member ts (tree.static_member (link_values false) o (tree.identifier_name (named v)))
    a_computed_member : {c : Allowed} {ts a inside : Tokens} {o e : Tree} (mark : Bool) → ts ≡ a ⧺ group mark Square inside done → ReadsExpression c Member a o → ReadsExpression (with_in c) Expression inside e
        → ReadsExpression c Member ts (tree.computed_member (link_values false) o e)
    with_arguments : {c : Allowed} {ts a inside : Tokens} {f : Tree} {es : Trees} (mark : Bool) → ts ≡ a ⧺ group mark Round inside done → ReadsExpression c Callee a f → ReadsArguments (with_in c) inside es
        → ReadsExpression c Call ts (tree.call (call_values false) f es)
    a_named_member_of_call : {c : Allowed} {ts a : Tokens} {o : Tree} {v : List ℕ} (w : List ℕ) (mark next : Bool) → ts ≡ a ⧺ piece mark (Sign dot) (piece next (Word w) done) → word_value w ≡ Some v → ReadsExpression c Call a o
        → ReadsExpression c Call ts (tree.static_member (link_values false) o (tree.identifier_name (named v)))
    a_computed_member_of_call : {c : Allowed} {ts a inside : Tokens} {o e : Tree} (mark : Bool) → ts ≡ a ⧺ group mark Square inside done → ReadsExpression c Call a o → ReadsExpression (with_in c) Expression inside e
        → ReadsExpression c Call ts (tree.computed_member (link_values false) o e)
    an_operation : {c : Allowed} {ts a b : Tokens} {l r : Tree} (o : BinaryOperator) (mark : Bool) → is_power o ≡ false → may_operate c o ≡ true → ts ≡ a ⧺ piece mark (operator_piece o) b → ReadsExpression c (operation_level o) a l → ReadsExpression c (next_level (operation_level o)) b r
        → ReadsExpression c (operation_level o) ts (tree.binary (bare (binary_operator o ∷ [])) l r)
    a_power : {c : Allowed} {ts a b : Tokens} {l r : Tree} (mark : Bool) → ts ≡ a ⧺ piece mark (Sign star_star) b → ReadsExpression c Update a l → ReadsExpression c Exponent b r
        → ReadsExpression c Exponent ts (tree.binary (bare (binary_operator operators.Exponential ∷ [])) l r)
    a_conjunction : {c : Allowed} {ts a b : Tokens} {l r : Tree} (mark : Bool) → ts ≡ a ⧺ piece mark (Sign and_and) b → ReadsExpression c LogicalAnd a l → ReadsExpression c BitOr b r
        → ReadsExpression c LogicalAnd ts (tree.logical (bare (logical_operator And ∷ [])) l r)
    a_disjunction : {c : Allowed} {ts a b : Tokens} {l r : Tree} (mark : Bool) → ts ≡ a ⧺ piece mark (Sign or_or) b → ReadsExpression c LogicalOr a l → ReadsExpression c LogicalAnd b r
        → ReadsExpression c LogicalOr ts (tree.logical (bare (logical_operator Or ∷ [])) l r)
    a_coalesce : {c : Allowed} {ts : Tokens} {t : Tree} → ReadsExpression c Coalesced ts t → ReadsExpression c ShortCircuit ts t
    a_coalescing : {c : Allowed} {ts a b : Tokens} {l r : Tree} (mark : Bool) → ts ≡ a ⧺ piece mark (Sign nullish) b → ReadsExpression c CoalesceHead a l → ReadsExpression c BitOr b r
        → ReadsExpression c Coalesced ts (tree.logical (bare (logical_operator Coalesce ∷ [])) l r)
    a_coalesced_head : {c : Allowed} {ts : Tokens} {t : Tree} → ReadsExpression c Coalesced ts t → ReadsExpression c CoalesceHead ts t
    a_bit_or_head : {c : Allowed} {ts : Tokens} {t : Tree} → ReadsExpression c BitOr ts t → ReadsExpression c CoalesceHead ts t
    -- what follows `?` stands between two signs, so `in` may stand there
    a_choice : {c : Allowed} {ts a b d : Tokens} {x y z : Tree} (mark next : Bool) → ts ≡ a ⧺ piece mark (Sign question) (b ⧺ piece next (Sign colon) d) → ReadsExpression c ShortCircuit a x → ReadsExpression (with_in c) Assignment b y → ReadsExpression c Assignment d z
        → ReadsExpression c Conditional ts (tree.conditional (nothing_of 0) x y z)
    a_unary_operation : {c : Allowed} {mark : Bool} {ts : Tokens} {t : Tree} (o : UnaryOperator) → ReadsExpression c Unary ts t
        → ReadsExpression c Unary (piece mark (unary_piece o) ts) (tree.unary (bare (unary_operator o ∷ [])) t)
    an_update_before : {c : Allowed} {mark : Bool} {ts : Tokens} {t u : Tree} (o : UpdateOperator) → ReadsExpression c Unary ts t → simple_target t ≡ Some u
        → ReadsExpression c Update (piece mark (Sign (update_sign o)) ts) (tree.update (bare (update_operator o ∷ flag true ∷ [])) u)
    -- on the line of its operand (12.10.1)
    an_update_behind : {c : Allowed} {ts a : Tokens} {t u : Tree} (o : UpdateOperator) → ts ≡ a ⧺ piece false (Sign (update_sign o)) done → ReadsExpression c LeftHandSide a t → simple_target t ≡ Some u
        → ReadsExpression c Update ts (tree.update (bare (update_operator o ∷ flag false ∷ [])) u)
    new_with_arguments : {c : Allowed} {ts a inside : Tokens} {f : Tree} {es : Trees} (mark next : Bool) → ts ≡ a ⧺ group next Round inside done → ReadsExpression c Member a f → ReadsArguments (with_in c) inside es
        → ReadsExpression c Member (piece mark (Word (codes "new")) ts) (tree.new_expression (nothing_of 1) f es)
    new_alone : {c : Allowed} {mark : Bool} {ts : Tokens} {f : Tree} → ReadsExpression c New ts f
        → ReadsExpression c New (piece mark (Word (codes "new")) ts) (tree.new_expression (nothing_of 1) f no_trees)
    a_named_member_of_super : {c : Allowed} {v : List ℕ} (w : List ℕ) (mark next last : Bool) → word_value w ≡ Some v
        → ReadsExpression c Member (piece mark (Word (codes "super")) (piece next (Sign dot) (piece last (Word w) done))) (tree.static_member (link_values false) (tree.super (nothing_of 0)) (tree.identifier_name (named v)))
    a_computed_member_of_super : {c : Allowed} {mark next : Bool} {inside : Tokens} {e : Tree} → ReadsExpression (with_in c) Expression inside e
        → ReadsExpression c Member (piece mark (Word (codes "super")) (group next Square inside done)) (tree.computed_member (link_values false) (tree.super (nothing_of 0)) e)
    a_call_of_super : {c : Allowed} {mark next : Bool} {inside : Tokens} {es : Trees} → ReadsArguments (with_in c) inside es
        → ReadsExpression c Call (piece mark (Word (codes "super")) (group next Round inside done)) (tree.call (call_values false) (tree.super (nothing_of 0)) es)
    -- members by private names, and the test whether an object has one (13.3 and 13.10)
    a_private_member : {c : Allowed} {ts a : Tokens} {o : Tree} {v : List ℕ} (w : List ℕ) (mark next : Bool) → ts ≡ a ⧺ piece mark (Sign dot) (piece next (Beyond (Private w)) done) → word_value w ≡ Some v → ReadsExpression c Member a o
        → ReadsExpression c Member ts (tree.private_member (link_values false) o (private_name v))
    a_private_member_of_call : {c : Allowed} {ts a : Tokens} {o : Tree} {v : List ℕ} (w : List ℕ) (mark next : Bool) → ts ≡ a ⧺ piece mark (Sign dot) (piece next (Beyond (Private w)) done) → word_value w ≡ Some v → ReadsExpression c Call a o
        → ReadsExpression c Call ts (tree.private_member (link_values false) o (private_name v))
    a_private_test : {c : Allowed} {mark next : Bool} {w v : List ℕ} {ts : Tokens} {t : Tree} → c.in_operator ≡ true → word_value w ≡ Some v → ReadsExpression c Shift ts t
        → ReadsExpression c Relational (piece mark (Beyond (Private w)) (piece next (Word (codes "in")) ts)) (tree.private_in (nothing_of 0) (private_name v) t)
    a_regular_expression : {c : Allowed} {mark : Bool} {w flags : List ℕ}
        → ReadsExpression c Primary (piece mark (Beyond (Pattern w flags)) done) (tree.reg_exp_literal (bare (text w ∷ text flags ∷ [])))
    -- a template; one without substitutions is a string (13.2.8)
    a_template : {c : Allowed} {mark : Bool} {w : List ℕ} {ts : Tokens} {v : Tree} {qs es : Trees} → read_piece false w ≡ Some v → ReadsPieces (with_in c) false ts qs es
        → ReadsExpression c Primary (piece mark (Beyond (Head w)) ts) (tree.template_literal (nothing_of 0) (more v qs) es)
    -- a template behind its tag (13.3.11)
    a_tagged_template : {c : Allowed} {ts a b : Tokens} {o q : Tree} → ts ≡ a ⧺ b → ReadsTemplate (with_in c) b q → ReadsExpression c Member a o
        → ReadsExpression c Member ts (tree.tagged_template (nothing_of 0) o q)
    a_tagged_template_of_call : {c : Allowed} {ts a b : Tokens} {o q : Tree} → ts ≡ a ⧺ b → ReadsTemplate (with_in c) b q → ReadsExpression c Call a o
        → ReadsExpression c Call ts (tree.tagged_template (nothing_of 0) o q)
    -- `import(..)` and `import.meta` (13.3.10 and 13.3.12)
    an_import_call : {c : Allowed} {mark next : Bool} {inside : Tokens} {e : Tree} {options : Maybe} → ReadsImported (with_in c) inside e options
        → ReadsExpression c Call (piece mark (Word (codes "import")) (group next Round inside done)) (tree.import_call (nothing_of 0) e options)
    an_import_meta : {c : Allowed} {mark next last : Bool}
        → ReadsExpression c Member (piece mark (Word (codes "import")) (piece next (Sign dot) (piece last (Word (codes "meta")) done))) (tree.import_meta (nothing_of 0))
    a_new_target : {c : Allowed} {mark next last : Bool}
        → ReadsExpression c Member (piece mark (Word (codes "new")) (piece next (Sign dot) (piece last (Word (codes "target")) done))) (tree.new_target (nothing_of 0))
    a_reference : {c : Allowed} {mark : Bool} {w v : List ℕ} → word_value w ≡ Some v → is_free_name v ≡ true
        → ReadsExpression c Primary (piece mark (Word w) done) (tree.identifier_reference (unnumbered v))
    a_this : {c : Allowed} {mark : Bool} → ReadsExpression c Primary (piece mark (Word (codes "this")) done) (tree.this_expression (nothing_of 0))
    a_null : {c : Allowed} {mark : Bool} → ReadsExpression c Primary (piece mark (Word (codes "null")) done) (tree.null_literal (nothing_of 0))
    a_true : {c : Allowed} {mark : Bool} → ReadsExpression c Primary (piece mark (Word (codes "true")) done) (tree.boolean_literal (bare (flag true ∷ [])))
    a_false : {c : Allowed} {mark : Bool} → ReadsExpression c Primary (piece mark (Word (codes "false")) done) (tree.boolean_literal (bare (flag false ∷ [])))
    a_number : {c : Allowed} {mark : Bool} {w : List ℕ} → has_suffix w ≡ false → ReadsExpression c Primary (piece mark (Number w) done) (tree.numeric_literal (by_text w))
    -- a big integer, by its text without the suffix
    a_big_integer : {c : Allowed} {mark : Bool} {w v : List ℕ} → w ≡ v ++ codes "n" → ReadsExpression c Primary (piece mark (Number w) done) (tree.big_int_literal (named v))
    a_string : {c : Allowed} {mark : Bool} {q : Quote} {w us : List ℕ} → string_value q w ≡ Some us
        → ReadsExpression c Primary (piece mark (Quoted q w) done) (tree.string_literal (bare (units us ∷ [])))
    in_parentheses : {c : Allowed} {mark : Bool} {ts : Tokens} {t : Tree} → ReadsExpression (with_in c) Expression ts t
        → ReadsExpression c Primary (group mark Round ts done) (tree.parenthesized (nothing_of 0) t)
    an_optional_chain : {c : Allowed} {ts : Tokens} {t : Tree} → ReadsChain c ts t → ReadsExpression c LeftHandSide ts (tree.chain (nothing_of 0) t)
    an_array : {c : Allowed} {mark : Bool} {inside : Tokens} {es : Trees} → ReadsElements (with_in c) inside es
        → ReadsExpression c Primary (group mark Square inside done) (tree.array (nothing_of 0) es)
    an_object : {c : Allowed} {mark : Bool} {inside : Tokens} {ps : Trees} → ReadsProperties (with_in c) inside ps
        → ReadsExpression c Primary (group mark Brace inside done) (tree.object_expression (nothing_of 0) ps)
    a_function : {c : Allowed} {ts : Tokens} {t : Tree} → ReadsFunction kinds.Expression true ts t → ReadsExpression c Primary ts t
    a_class : {c : Allowed} {ts : Tokens} {t : Tree} → ReadsClass (with_in c) class_kinds.Expression true ts t → ReadsExpression c Primary ts t
    an_arrow : {c : Allowed} {ts : Tokens} {t : Tree} → ReadsArrow c false ts t → ReadsExpression c Assignment ts t
    -- the word stands on the line of the parameters (15.9)
    an_async_arrow : {c : Allowed} {mark : Bool} {ts : Tokens} {t : Tree} → on_same_line ts ≡ true → ReadsArrow c true ts t
        → ReadsExpression c Assignment (piece mark (Word (codes "async")) ts) t
    -- `await` and its operand (15.8)
    an_await : {c : Allowed} {mark : Bool} {ts : Tokens} {t : Tree} → c.await_operand ≡ true → ReadsExpression c Unary ts t
        → ReadsExpression c Unary (piece mark (Word (codes "await")) ts) (tree.await_expression (nothing_of 0) t)
    -- `yield`, alone or with what it gives, which is on its line, as is the star before what hands on its values (15.5)
    a_yield_alone : {c : Allowed} {mark : Bool} → c.yield_operand ≡ true
        → ReadsExpression c Assignment (piece mark (Word (codes "yield")) done) (tree.yield_expression (bare (flag false ∷ [])) absent)
    a_yield : {c : Allowed} {mark : Bool} {ts : Tokens} {t : Tree} → c.yield_operand ≡ true → on_same_line ts ≡ true → ReadsExpression c Assignment ts t
        → ReadsExpression c Assignment (piece mark (Word (codes "yield")) ts) (tree.yield_expression (bare (flag false ∷ [])) (given t))
    a_delegation : {c : Allowed} {mark : Bool} {ts : Tokens} {t : Tree} → c.yield_operand ≡ true → ReadsExpression c Assignment ts t
        → ReadsExpression c Assignment (piece mark (Word (codes "yield")) (piece false (Sign star) ts)) (tree.yield_expression (bare (flag true ∷ [])) (given t))

  -- a template behind a tag: of one piece, which a string may spell, or of more
  pub data ReadsTemplate : Allowed → Tokens → Tree → Type 0 where
    a_template_of_a_string : {c : Allowed} {mark : Bool} {w : List ℕ}
        → ReadsTemplate c (piece mark (Quoted quotes.Backtick w) done) (tree.template_literal (nothing_of 0) (more (raw_piece w) no_trees) no_trees)
    a_whole_template : {c : Allowed} {mark : Bool} {w : List ℕ}
        → ReadsTemplate c (piece mark (Beyond (Whole w)) done) (tree.template_literal (nothing_of 0) (more (raw_piece w) no_trees) no_trees)
    a_template_of_parts : {c : Allowed} {mark : Bool} {w : List ℕ} {ts : Tokens} {qs es : Trees} → ReadsPieces c true ts qs es
        → ReadsTemplate c (piece mark (Beyond (Head w)) ts) (tree.template_literal (nothing_of 0) (more (raw_piece w) qs) es)

  -- behind `${`: an expression, and the piece behind it, of which the last ends the template; the flag tells that it has a tag
  pub data ReadsPieces : Allowed → Bool → Tokens → Trees → Trees → Type 0 where
    a_last_piece : {c : Allowed} {tagged : Bool} {ts a : Tokens} {v e : Tree} (w : List ℕ) (mark : Bool) → ts ≡ a ⧺ piece mark (Beyond (Tail w)) done → ReadsExpression c Expression a e → read_piece tagged w ≡ Some v
        → ReadsPieces c tagged ts (more v no_trees) (more e no_trees)
    a_piece_between : {c : Allowed} {tagged : Bool} {ts a b : Tokens} {v e : Tree} {qs es : Trees} (w : List ℕ) (mark : Bool) → ts ≡ a ⧺ piece mark (Beyond (Middle w)) b → ReadsExpression c Expression a e → read_piece tagged w ≡ Some v → ReadsPieces c tagged b qs es
        → ReadsPieces c tagged ts (more v qs) (more e es)

  -- between the parentheses of `import`: what is imported, and options; a comma may end them (13.3.10)
  pub data ReadsImported : Allowed → Tokens → Tree → Maybe → Type 0 where
    an_imported : {c : Allowed} {ts : Tokens} {e : Tree} → ReadsExpression c Assignment ts e → ReadsImported c ts e absent
    an_imported_and_a_comma : {c : Allowed} {ts a : Tokens} {e : Tree} (mark : Bool) → ts ≡ a ⧺ piece mark (Sign comma) done → ReadsExpression c Assignment a e
        → ReadsImported c ts e absent
    with_options : {c : Allowed} {ts a b : Tokens} {e f : Tree} (mark : Bool) → ts ≡ a ⧺ piece mark (Sign comma) b → ReadsExpression c Assignment a e → ReadsExpression c Assignment b f
        → ReadsImported c ts e (given f)
    with_options_and_a_comma : {c : Allowed} {ts a b : Tokens} {e f : Tree} (mark next : Bool) → ts ≡ a ⧺ piece mark (Sign comma) (b ⧺ piece next (Sign comma) done) → ReadsExpression c Assignment a e → ReadsExpression c Assignment b f
        → ReadsImported c ts e (given f)

  -- a function from its first word on: the word `async` before `function`, on its line, and a star behind it (15.2, 15.5, 15.6 and 15.8). The flag tells that its name may be omitted
  pub data ReadsFunction : FunctionKind → Bool → Tokens → Tree → Type 0 where
    a_plain_function : {kind : FunctionKind} {nameless mark : Bool} {ts : Tokens} {t : Tree} → ReadsFunctionAs kind nameless false false ts t
        → ReadsFunction kind nameless (piece mark (Word (codes "function")) ts) t
    a_generator : {kind : FunctionKind} {nameless mark next : Bool} {ts : Tokens} {t : Tree} → ReadsFunctionAs kind nameless false true ts t
        → ReadsFunction kind nameless (piece mark (Word (codes "function")) (piece next (Sign star) ts)) t
    an_async_function : {kind : FunctionKind} {nameless mark : Bool} {ts : Tokens} {t : Tree} → ReadsFunctionAs kind nameless true false ts t
        → ReadsFunction kind nameless (piece mark (Word (codes "async")) (piece false (Word (codes "function")) ts)) t
    an_async_generator : {kind : FunctionKind} {nameless mark next : Bool} {ts : Tokens} {t : Tree} → ReadsFunctionAs kind nameless true true ts t
        → ReadsFunction kind nameless (piece mark (Word (codes "async")) (piece false (Word (codes "function")) (piece next (Sign star) ts))) t

  -- behind these: a name, parameters and a body. The flags tell that the name may be omitted, and that it is `async`, and a generator
  pub data ReadsFunctionAs : FunctionKind → Bool → Bool → Bool → Tokens → Tree → Type 0 where
    a_named_function : {kind : FunctionKind} {nameless async generator mark next third : Bool} {w v : List ℕ} {head inside : Tokens} {ps ds ss : Trees} {rest : Maybe} → word_value w ≡ Some v → is_free_name v ≡ true → ReadsParameters in_parameters head ps rest → ReadsBody (in_body async generator) true inside ds ss
        → ReadsFunctionAs kind nameless async generator (piece mark (Word w) (group next Round head (group third Brace inside done))) (function_of kind async generator (given (tree.binding_identifier (unnumbered v))) ps rest ds ss)
    a_nameless_function : {kind : FunctionKind} {async generator next third : Bool} {head inside : Tokens} {ps ds ss : Trees} {rest : Maybe} → ReadsParameters in_parameters head ps rest → ReadsBody (in_body async generator) true inside ds ss
        → ReadsFunctionAs kind true async generator (group next Round head (group third Brace inside done)) (function_of kind async generator absent ps rest ds ss)

  -- an arrow function behind its word `async`, where the flag tells that it is so: the arrow is on the line of its parameters (15.3 and 15.9)
  pub data ReadsArrow : Allowed → Bool → Tokens → Tree → Type 0 where
    -- its body is an expression that begins with no brace
    an_arrow_function : {c : Allowed} {async : Bool} {ts a b : Tokens} {ps e : Tree} → ts ≡ a ⧺ piece false (Sign arrow) b → ReadsArrowParameters a ps → starts_in_brace b ≡ false → ReadsExpression (in_arrow_body async c) Assignment b e
        → ReadsArrow c async ts (tree.arrow_function (arrow_values async) ps e)
    -- or stands in braces
    an_arrow_with_body : {c : Allowed} {async : Bool} {ts a inside : Tokens} {ps : Tree} {ds ss : Trees} (mark : Bool) → ts ≡ a ⧺ piece false (Sign arrow) (group mark Brace inside done) → ReadsArrowParameters a ps → ReadsBody (in_body async false) true inside ds ss
        → ReadsArrow c async ts (tree.arrow_function (arrow_values async) ps (tree.function_body (nothing_of 0) ds ss))

  -- before an arrow: a name alone, or parameters in parentheses (15.3)
  pub data ReadsArrowParameters : Tokens → Tree → Type 0 where
    a_parameter_name : {mark : Bool} {w v : List ℕ} → word_value w ≡ Some v → is_free_name v ≡ true
        → ReadsArrowParameters (piece mark (Word w) done) (tree.formal_parameters (nothing_of 0) (more (tree.formal_parameter (nothing_of 3) (tree.binding_identifier (unnumbered v)) absent) no_trees) absent)
    grouped_parameters : {mark : Bool} {inside : Tokens} {ps : Trees} {rest : Maybe} → ReadsParameters in_parameters inside ps rest
        → ReadsArrowParameters (group mark Round inside done) (tree.formal_parameters (nothing_of 0) ps rest)

  -- parameters, and the one that takes the rest (15.1); a comma may end them where nothing takes the rest
  pub data ReadsParameters : Allowed → Tokens → Trees → Maybe → Type 0 where
    no_parameter : {c : Allowed} → ReadsParameters c done no_trees absent
    last_parameter : {c : Allowed} {ts : Tokens} {p : Tree} → ReadsParameter c ts p → ReadsParameters c ts (more p no_trees) absent
    first_parameter : {c : Allowed} {ts a b : Tokens} {p : Tree} {ps : Trees} {rest : Maybe} (mark : Bool) → ts ≡ a ⧺ piece mark (Sign comma) b → ReadsParameter c a p → ReadsParameters c b ps rest
        → ReadsParameters c ts (more p ps) rest
    a_rest : {c : Allowed} {mark : Bool} {ts : Tokens} {b : Tree} → ReadsBinding c ts b
        → ReadsParameters c (piece mark (Sign ellipsis) ts) no_trees (given (tree.formal_parameter_rest (nothing_of 0) b))

  -- a parameter, by itself or with the value that it has where none is given (15.1)
  pub data ReadsParameter : Allowed → Tokens → Tree → Type 0 where
    a_parameter : {c : Allowed} {ts : Tokens} {b : Tree} → ReadsBinding c ts b → ReadsParameter c ts (tree.formal_parameter (nothing_of 3) b absent)
    with_initializer : {c : Allowed} {ts a v : Tokens} {b e : Tree} (mark : Bool) → ts ≡ a ⧺ piece mark (Sign equal) v → ReadsBinding c a b → ReadsExpression c Assignment v e
        → ReadsParameter c ts (tree.formal_parameter (nothing_of 3) b (given e))

  -- the parts of a sequence behind its first (13.16)
  pub data ReadsParts : Allowed → Tokens → Trees → Type 0 where
    last_part : {c : Allowed} {ts : Tokens} {t : Tree} → ReadsExpression c Assignment ts t → ReadsParts c ts (more t no_trees)
    first_part : {c : Allowed} {ts a b : Tokens} {t : Tree} {us : Trees} (mark : Bool) → ts ≡ a ⧺ piece mark (Sign comma) b → ReadsExpression c Assignment a t → ReadsParts c b us
        → ReadsParts c ts (more t us)

  -- links one behind the other, of which one at least is `?.` (13.3, OptionalExpression)
  pub data ReadsChain : Allowed → Tokens → Tree → Type 0 where
    an_optional_named_member : {c : Allowed} {ts a : Tokens} {o : Tree} {v : List ℕ} (w : List ℕ) (mark next : Bool) → ts ≡ a ⧺ piece mark (Sign question_dot) (piece next (Word w) done) → word_value w ≡ Some v → ReadsChainBase c a o
        → ReadsChain c ts (tree.static_member (link_values true) o (tree.identifier_name (named v)))
    an_optional_computed_member : {c : Allowed} {ts a inside : Tokens} {o e : Tree} (mark next : Bool) → ts ≡ a ⧺ piece mark (Sign question_dot) (group next Square inside done) → ReadsChainBase c a o → ReadsExpression (with_in c) Expression inside e
        → ReadsChain c ts (tree.computed_member (link_values true) o e)
    an_optional_call : {c : Allowed} {ts a inside : Tokens} {f : Tree} {es : Trees} (mark next : Bool) → ts ≡ a ⧺ piece mark (Sign question_dot) (group next Round inside done) → ReadsChainBase c a f → ReadsArguments (with_in c) inside es
        → ReadsChain c ts (tree.call (call_values true) f es)
    an_optional_private_member : {c : Allowed} {ts a : Tokens} {o : Tree} {v : List ℕ} (w : List ℕ) (mark next : Bool) → ts ≡ a ⧺ piece mark (Sign question_dot) (piece next (Beyond (Private w)) done) → word_value w ≡ Some v → ReadsChainBase c a o
        → ReadsChain c ts (tree.private_member (link_values true) o (private_name v))
    a_further_private_member : {c : Allowed} {ts a : Tokens} {o : Tree} {v : List ℕ} (w : List ℕ) (mark next : Bool) → ts ≡ a ⧺ piece mark (Sign dot) (piece next (Beyond (Private w)) done) → word_value w ≡ Some v → ReadsChain c a o
        → ReadsChain c ts (tree.private_member (link_values false) o (private_name v))
    a_further_named_member : {c : Allowed} {ts a : Tokens} {o : Tree} {v : List ℕ} (w : List ℕ) (mark next : Bool) → ts ≡ a ⧺ piece mark (Sign dot) (piece next (Word w) done) → word_value w ≡ Some v → ReadsChain c a o
        → ReadsChain c ts (tree.static_member (link_values false) o (tree.identifier_name (named v)))
    a_further_computed_member : {c : Allowed} {ts a inside : Tokens} {o e : Tree} (mark : Bool) → ts ≡ a ⧺ group mark Square inside done → ReadsChain c a o → ReadsExpression (with_in c) Expression inside e
        → ReadsChain c ts (tree.computed_member (link_values false) o e)
    a_further_call : {c : Allowed} {ts a inside : Tokens} {f : Tree} {es : Trees} (mark : Bool) → ts ≡ a ⧺ group mark Round inside done → ReadsChain c a f → ReadsArguments (with_in c) inside es
        → ReadsChain c ts (tree.call (call_values false) f es)

  -- what an optional link goes on from: a member, a call or a chain
  pub data ReadsChainBase : Allowed → Tokens → Tree → Type 0 where
    a_first_link : {c : Allowed} {ts : Tokens} {t : Tree} → ReadsExpression c Callee ts t → ReadsChainBase c ts t
    a_further_link : {c : Allowed} {ts : Tokens} {t : Tree} → ReadsChain c ts t → ReadsChainBase c ts t

  -- between the braces of an object (13.2.5); a comma may end the list
  pub data ReadsProperties : Allowed → Tokens → Trees → Type 0 where
    no_property : {c : Allowed} → ReadsProperties c done no_trees
    last_property : {c : Allowed} {ts : Tokens} {t : Tree} → ReadsProperty c ts t → ReadsProperties c ts (more t no_trees)
    first_property : {c : Allowed} {ts a b : Tokens} {t : Tree} {us : Trees} (mark : Bool) → ts ≡ a ⧺ piece mark (Sign comma) b → ReadsProperty c a t → ReadsProperties c b us
        → ReadsProperties c ts (more t us)

  -- a property (13.2.5): a name that is its key and its value, a key with a value, or an object whose properties are spread
  pub data ReadsProperty : Allowed → Tokens → Tree → Type 0 where
    a_shorthand : {c : Allowed} {mark : Bool} {w v : List ℕ} → word_value w ≡ Some v → is_free_name v ≡ true
        → ReadsProperty c (piece mark (Word w) done) (tree.object_property (property_values Init false true false) (tree.identifier_name (named v)) (tree.identifier_reference (unnumbered v)))
    a_property : {c : Allowed} {computed : Bool} {ts a b : Tokens} {k e : Tree} (mark : Bool) → ts ≡ a ⧺ piece mark (Sign colon) b → ReadsKey c computed a k → ReadsExpression c Assignment b e
        → ReadsProperty c ts (tree.object_property (property_values Init false false computed) k e)
    -- a method or an accessor (15.4)
    a_method : {c : Allowed} {kind : PropertyKind} {computed : Bool} {ts : Tokens} {k v : Tree} → ReadsMethod c false kind computed ts k v
        → ReadsProperty c ts (tree.object_property (property_values kind (is_plain_method kind) false computed) k v)
    a_spread_property : {c : Allowed} {mark : Bool} {ts : Tokens} {e : Tree} → ReadsExpression c Assignment ts e
        → ReadsProperty c (piece mark (Sign ellipsis) ts) (tree.spread (nothing_of 0) e)

  -- the key and the function of a method or an accessor, and what it is (15.4 to 15.6 and 15.8). The first flag tells that its key may be a private name, the second that it is computed; what a setter takes is one parameter
  pub data ReadsMethod : Allowed → Bool → PropertyKind → Bool → Tokens → Tree → Tree → Type 0 where
    a_plain_method : {c : Allowed} {private computed : Bool} {ts : Tokens} {k v : Tree} → ReadsMethodAs c private false false computed ts k v
        → ReadsMethod c private Init computed ts k v
    a_generator_method : {c : Allowed} {private computed mark : Bool} {ts : Tokens} {k v : Tree} → ReadsMethodAs c private false true computed ts k v
        → ReadsMethod c private Init computed (piece mark (Sign star) ts) k v
    -- `async` is on the line of what follows
    an_async_method : {c : Allowed} {private computed mark : Bool} {ts : Tokens} {k v : Tree} → on_same_line ts ≡ true → ReadsMethodAs c private true false computed ts k v
        → ReadsMethod c private Init computed (piece mark (Word (codes "async")) ts) k v
    an_async_generator_method : {c : Allowed} {private computed mark : Bool} {ts : Tokens} {k v : Tree} → ReadsMethodAs c private true true computed ts k v
        → ReadsMethod c private Init computed (piece mark (Word (codes "async")) (piece false (Sign star) ts)) k v
    a_getter : {c : Allowed} {private computed mark : Bool} {ts a inside : Tokens} {k : Tree} {ds ss : Trees} (next third : Bool) → ts ≡ a ⧺ group next Round done (group third Brace inside done) → ReadsMemberKey c private computed a k → ReadsBody (in_body false false) true inside ds ss
        → ReadsMethod c private Get computed (piece mark (Word (codes "get")) ts) k (method_of false false no_trees absent ds ss)
    a_setter : {c : Allowed} {private computed mark : Bool} {ts a head inside : Tokens} {k p : Tree} {ds ss : Trees} (next third : Bool) → ts ≡ a ⧺ group next Round head (group third Brace inside done) → ReadsMemberKey c private computed a k → ReadsParameter in_parameters head p → ReadsBody (in_body false false) true inside ds ss
        → ReadsMethod c private Set computed (piece mark (Word (codes "set")) ts) k (method_of false false (more p no_trees) absent ds ss)

  -- behind the words of a method, which tell that it is `async`, and a generator: its key, its parameters and its body
  pub data ReadsMethodAs : Allowed → Bool → Bool → Bool → Bool → Tokens → Tree → Tree → Type 0 where
    a_method_behind_words : {c : Allowed} {private async generator computed : Bool} {ts a head inside : Tokens} {k : Tree} {ps ds ss : Trees} {rest : Maybe} (next third : Bool) → ts ≡ a ⧺ group next Round head (group third Brace inside done) → ReadsMemberKey c private computed a k → ReadsParameters in_parameters head ps rest → ReadsBody (in_body async generator) true inside ds ss
        → ReadsMethodAs c private async generator computed ts k (method_of async generator ps rest ds ss)

  -- ---- classes (15.7)

  -- a class from its word on; the flag tells that its name may be omitted. What may stand round it may stand in what it extends and in its keys
  pub data ReadsClass : Allowed → ClassKind → Bool → Tokens → Tree → Type 0 where
    a_named_class : {c : Allowed} {kind : ClassKind} {nameless mark next : Bool} {w v : List ℕ} {ts : Tokens} {heritage : Maybe} {ms : Trees} → word_value w ≡ Some v → is_free_name v ≡ true → ReadsClassTail c ts heritage ms
        → ReadsClass c kind nameless (piece mark (Word (codes "class")) (piece next (Word w) ts)) (class_of kind (given (tree.binding_identifier (unnumbered v))) heritage ms)
    a_nameless_class : {c : Allowed} {kind : ClassKind} {mark : Bool} {ts : Tokens} {heritage : Maybe} {ms : Trees} → ReadsClassTail c ts heritage ms
        → ReadsClass c kind true (piece mark (Word (codes "class")) ts) (class_of kind absent heritage ms)

  -- behind its name: what it extends, and its members
  pub data ReadsClassTail : Allowed → Tokens → Maybe → Trees → Type 0 where
    without_heritage : {c : Allowed} {mark : Bool} {inside : Tokens} {ms : Trees} → ReadsMembers c inside ms → ReadsClassTail c (group mark Brace inside done) absent ms
    with_heritage : {c : Allowed} {mark : Bool} {ts a inside : Tokens} {e : Tree} {ms : Trees} (next : Bool) → ts ≡ a ⧺ group next Brace inside done → ReadsExpression c LeftHandSide a e → ReadsMembers c inside ms
        → ReadsClassTail c (piece mark (Word (codes "extends")) ts) (given e) ms

  -- between the braces: methods and static blocks one behind the other, and fields, each with a semicolon, which may be omitted as the last token (12.10). A semicolon may also stand alone
  pub data ReadsMembers : Allowed → Tokens → Trees → Type 0 where
    no_member : {c : Allowed} → ReadsMembers c done no_trees
    a_semicolon_alone : {c : Allowed} {mark : Bool} {ts : Tokens} {ms : Trees} → ReadsMembers c ts ms → ReadsMembers c (piece mark (Sign semicolon) ts) ms
    a_last_field : {c : Allowed} {ts : Tokens} {t : Tree} → ReadsField c ts t → ReadsMembers c ts (more t no_trees)
    a_first_field : {c : Allowed} {ts a b : Tokens} {t : Tree} {ms : Trees} (mark : Bool) → ts ≡ a ⧺ piece mark (Sign semicolon) b → ReadsField c a t → ReadsMembers c b ms
        → ReadsMembers c ts (more t ms)
    a_first_member : {c : Allowed} {ts a b : Tokens} {t : Tree} {ms : Trees} → ts ≡ a ⧺ b → ReadsMember c a t → ReadsMembers c b ms → ReadsMembers c ts (more t ms)

  -- a method or an accessor, static or not, or a static block
  pub data ReadsMember : Allowed → Tokens → Tree → Type 0 where
    a_member_method : {c : Allowed} {kind : PropertyKind} {computed : Bool} {ts : Tokens} {k v : Tree} → ReadsMethod c true kind computed ts k v
        → ReadsMember c ts (tree.method_definition (member_values kind false computed) k v)
    a_static_method : {c : Allowed} {kind : PropertyKind} {computed mark : Bool} {ts : Tokens} {k v : Tree} → ReadsMethod c true kind computed ts k v
        → ReadsMember c (piece mark (Word (codes "static")) ts) (tree.method_definition (member_values kind true computed) k v)
    a_static_block : {c : Allowed} {mark next : Bool} {inside : Tokens} {ss : Trees} → ReadsStatements in_member true inside ss
        → ReadsMember c (piece mark (Word (codes "static")) (group next Brace inside done)) (tree.static_block (nothing_of 0) ss)

  -- a field, static or not
  pub data ReadsField : Allowed → Tokens → Tree → Type 0 where
    a_field : {c : Allowed} {computed : Bool} {ts : Tokens} {k : Tree} {value : Maybe} → ReadsFieldAs c computed ts k value
        → ReadsField c ts (tree.property_definition (field_values false computed) k value)
    a_static_field : {c : Allowed} {computed mark : Bool} {ts : Tokens} {k : Tree} {value : Maybe} → ReadsFieldAs c computed ts k value
        → ReadsField c (piece mark (Word (codes "static")) ts) (tree.property_definition (field_values true computed) k value)

  -- its key, and its value, which may be omitted
  pub data ReadsFieldAs : Allowed → Bool → Tokens → Tree → Maybe → Type 0 where
    a_field_alone : {c : Allowed} {computed : Bool} {ts : Tokens} {k : Tree} → ReadsMemberKey c true computed ts k → ReadsFieldAs c computed ts k absent
    a_field_with_value : {c : Allowed} {computed : Bool} {ts a b : Tokens} {k e : Tree} (mark : Bool) → ts ≡ a ⧺ piece mark (Sign equal) b → ReadsMemberKey c true computed a k → ReadsExpression in_member Assignment b e
        → ReadsFieldAs c computed ts k (given e)

  -- ---- keys (13.2.5)

  -- the name of a member of a class, or of an object, whose is no private one; the first flag tells that it may be one (15.7, ClassElementName)
  pub data ReadsMemberKey : Allowed → Bool → Bool → Tokens → Tree → Type 0 where
    a_public_key : {c : Allowed} {private computed : Bool} {ts : Tokens} {k : Tree} → ReadsKey c computed ts k → ReadsMemberKey c private computed ts k
    a_private_key : {c : Allowed} {mark : Bool} {w v : List ℕ} → word_value w ≡ Some v → ReadsMemberKey c true false (piece mark (Beyond (Private w)) done) (private_name v)

  -- a property's name; the flag tells that it is computed
  pub data ReadsKey : Allowed → Bool → Tokens → Tree → Type 0 where
    a_name_key : {c : Allowed} {mark : Bool} {w v : List ℕ} → word_value w ≡ Some v → ReadsKey c false (piece mark (Word w) done) (tree.identifier_name (named v))
    a_string_key : {c : Allowed} {mark : Bool} {q : Quote} {w us : List ℕ} → is_backtick q ≡ false → string_value q w ≡ Some us
        → ReadsKey c false (piece mark (Quoted q w) done) (tree.string_literal (bare (units us ∷ [])))
    a_number_key : {c : Allowed} {mark : Bool} {w : List ℕ} → has_suffix w ≡ false → ReadsKey c false (piece mark (Number w) done) (tree.numeric_literal (by_text w))
    a_big_integer_key : {c : Allowed} {mark : Bool} {w v : List ℕ} → w ≡ v ++ codes "n" → ReadsKey c false (piece mark (Number w) done) (tree.big_int_literal (named v))
    a_computed_key : {c : Allowed} {mark : Bool} {inside : Tokens} {e : Tree} → ReadsExpression (with_in c) Assignment inside e → ReadsKey c true (group mark Square inside done) e

  -- between the brackets of an array (13.2.4): elements, each with a comma behind it, of which the last may be omitted; a comma that no element stands before leaves one out
  pub data ReadsElements : Allowed → Tokens → Trees → Type 0 where
    no_element : {c : Allowed} → ReadsElements c done no_trees
    last_element : {c : Allowed} {ts : Tokens} {e : Tree} → ReadsElement c ts e → ReadsElements c ts (more e no_trees)
    first_element : {c : Allowed} {ts a b : Tokens} {e : Tree} {es : Trees} (mark : Bool) → ts ≡ a ⧺ piece mark (Sign comma) b → ReadsElement c a e → ReadsElements c b es
        → ReadsElements c ts (more e es)
    an_elision : {c : Allowed} {mark : Bool} {ts : Tokens} {es : Trees} → ReadsElements c ts es → ReadsElements c (piece mark (Sign comma) ts) (hole es)

  -- between the parentheses of a call (13.3); a comma may end the list
  pub data ReadsArguments : Allowed → Tokens → Trees → Type 0 where
    no_argument : {c : Allowed} → ReadsArguments c done no_trees
    some_arguments : {c : Allowed} {ts : Tokens} {es : Trees} → ReadsArgumentList c ts es → ReadsArguments c ts es
    with_last_comma : {c : Allowed} {ts a : Tokens} {es : Trees} (mark : Bool) → ts ≡ a ⧺ piece mark (Sign comma) done → ReadsArgumentList c a es → ReadsArguments c ts es

  pub data ReadsArgumentList : Allowed → Tokens → Trees → Type 0 where
    last_argument : {c : Allowed} {ts : Tokens} {e : Tree} → ReadsElement c ts e → ReadsArgumentList c ts (more e no_trees)
    first_argument : {c : Allowed} {ts a b : Tokens} {e : Tree} {es : Trees} (mark : Bool) → ts ≡ a ⧺ piece mark (Sign comma) b → ReadsElement c a e → ReadsArgumentList c b es
        → ReadsArgumentList c ts (more e es)

  -- an argument (13.3.8) or an element of an array (13.2.4): an expression, or one whose values are spread
  pub data ReadsElement : Allowed → Tokens → Tree → Type 0 where
    an_element : {c : Allowed} {ts : Tokens} {e : Tree} → ReadsExpression c Assignment ts e → ReadsElement c ts e
    a_spread : {c : Allowed} {mark : Bool} {ts : Tokens} {e : Tree} → ReadsExpression c Assignment ts e
        → ReadsElement c (piece mark (Sign ellipsis) ts) (tree.spread (nothing_of 0) e)

  -- ---- bindings (14.3.3)

  -- a name, or a pattern of names
  pub data ReadsBinding : Allowed → Tokens → Tree → Type 0 where
    a_bound_name : {c : Allowed} {mark : Bool} {w v : List ℕ} → word_value w ≡ Some v → is_free_name v ≡ true
        → ReadsBinding c (piece mark (Word w) done) (tree.binding_identifier (unnumbered v))
    an_object_binding : {c : Allowed} {mark : Bool} {inside : Tokens} {ps : Trees} {rest : Maybe} → ReadsBindingProperties (with_in c) inside ps rest
        → ReadsBinding c (group mark Brace inside done) (tree.object_pattern (nothing_of 0) ps rest)
    an_array_binding : {c : Allowed} {mark : Bool} {inside : Tokens} {es : Trees} {rest : Maybe} → ReadsBindingElements (with_in c) inside es rest
        → ReadsBinding c (group mark Square inside done) (tree.array_pattern (nothing_of 0) es rest)

  -- an element of a pattern, by itself or with the value that it has where none is given
  pub data ReadsBindingElement : Allowed → Tokens → Tree → Type 0 where
    a_binding_alone : {c : Allowed} {ts : Tokens} {b : Tree} → ReadsBinding c ts b → ReadsBindingElement c ts b
    a_binding_with_default : {c : Allowed} {ts a v : Tokens} {b e : Tree} (mark : Bool) → ts ≡ a ⧺ piece mark (Sign equal) v → ReadsBinding c a b → ReadsExpression c Assignment v e
        → ReadsBindingElement c ts (tree.assignment_pattern (nothing_of 0) b e)

  -- between the brackets of a pattern: a comma that no element stands before leaves one out, and no comma follows what takes the rest
  pub data ReadsBindingElements : Allowed → Tokens → Trees → Maybe → Type 0 where
    no_binding_element : {c : Allowed} → ReadsBindingElements c done no_trees absent
    last_binding_element : {c : Allowed} {ts : Tokens} {e : Tree} → ReadsBindingElement c ts e → ReadsBindingElements c ts (more e no_trees) absent
    first_binding_element : {c : Allowed} {ts a b : Tokens} {e : Tree} {es : Trees} {rest : Maybe} (mark : Bool) → ts ≡ a ⧺ piece mark (Sign comma) b → ReadsBindingElement c a e → ReadsBindingElements c b es rest
        → ReadsBindingElements c ts (more e es) rest
    a_binding_elision : {c : Allowed} {mark : Bool} {ts : Tokens} {es : Trees} {rest : Maybe} → ReadsBindingElements c ts es rest
        → ReadsBindingElements c (piece mark (Sign comma) ts) (hole es) rest
    a_binding_rest : {c : Allowed} {mark : Bool} {ts : Tokens} {b : Tree} → ReadsBinding c ts b
        → ReadsBindingElements c (piece mark (Sign ellipsis) ts) no_trees (given (tree.binding_rest_element (nothing_of 0) b))

  -- a property by its name alone, which stands for a key and a name, or by a key
  pub data ReadsBindingProperty : Allowed → Tokens → Tree → Type 0 where
    a_bound_shorthand : {c : Allowed} {mark : Bool} {w v : List ℕ} → word_value w ≡ Some v → is_free_name v ≡ true
        → ReadsBindingProperty c (piece mark (Word w) done) (tree.binding_property (computed_values false) (tree.identifier_name (named v)) (tree.binding_identifier (unnumbered v)))
    a_bound_shorthand_with_default : {c : Allowed} {mark next : Bool} {w v : List ℕ} {ts : Tokens} {e : Tree} → word_value w ≡ Some v → is_free_name v ≡ true → ReadsExpression c Assignment ts e
        → ReadsBindingProperty c (piece mark (Word w) (piece next (Sign equal) ts)) (tree.binding_property (computed_values false) (tree.identifier_name (named v)) (tree.assignment_pattern (nothing_of 0) (tree.binding_identifier (unnumbered v)) e))
    a_bound_property : {c : Allowed} {computed : Bool} {ts a b : Tokens} {k t : Tree} (mark : Bool) → ts ≡ a ⧺ piece mark (Sign colon) b → ReadsKey c computed a k → ReadsBindingElement c b t
        → ReadsBindingProperty c ts (tree.binding_property (computed_values computed) k t)

  -- between the braces of a pattern; what takes the rest is a name
  pub data ReadsBindingProperties : Allowed → Tokens → Trees → Maybe → Type 0 where
    no_binding_property : {c : Allowed} → ReadsBindingProperties c done no_trees absent
    last_binding_property : {c : Allowed} {ts : Tokens} {p : Tree} → ReadsBindingProperty c ts p → ReadsBindingProperties c ts (more p no_trees) absent
    first_binding_property : {c : Allowed} {ts a b : Tokens} {p : Tree} {ps : Trees} {rest : Maybe} (mark : Bool) → ts ≡ a ⧺ piece mark (Sign comma) b → ReadsBindingProperty c a p → ReadsBindingProperties c b ps rest
        → ReadsBindingProperties c ts (more p ps) rest
    a_binding_rest_property : {c : Allowed} {mark next : Bool} {w v : List ℕ} → word_value w ≡ Some v → is_free_name v ≡ true
        → ReadsBindingProperties c (piece mark (Sign ellipsis) (piece next (Word w) done)) no_trees (given (tree.binding_rest_element (nothing_of 0) (tree.binding_identifier (unnumbered v))))

  -- ---- patterns of targets (13.15.5)

  -- a pattern, whose elements and properties are given to targets
  pub data ReadsPattern : Allowed → Tokens → Tree → Type 0 where
    an_array_target : {c : Allowed} {mark : Bool} {inside : Tokens} {es : Trees} {rest : Maybe} → ReadsTargetElements (with_in c) inside es rest
        → ReadsPattern c (group mark Square inside done) (tree.array_target (nothing_of 0) es rest)
    an_object_target : {c : Allowed} {mark : Bool} {inside : Tokens} {ps : Trees} {rest : Maybe} → ReadsTargetProperties (with_in c) inside ps rest
        → ReadsPattern c (group mark Brace inside done) (tree.object_target (nothing_of 0) ps rest)

  pub data ReadsTarget : Allowed → Tokens → Tree → Type 0 where
    a_simple_target : {c : Allowed} {ts : Tokens} {t u : Tree} → ReadsExpression c LeftHandSide ts t → simple_target t ≡ Some u → ReadsTarget c ts u
    a_target_pattern : {c : Allowed} {ts : Tokens} {t : Tree} → ReadsPattern c ts t → ReadsTarget c ts t

  -- a target, by itself or with the value that it is given where there is none; a simple one names a function as in an assignment (13.15.5.4)
  pub data ReadsTargetElement : Allowed → Tokens → Tree → Type 0 where
    a_target_alone : {c : Allowed} {ts : Tokens} {t : Tree} → ReadsTarget c ts t → ReadsTargetElement c ts t
    a_target_with_default : {c : Allowed} {ts a b : Tokens} {t u e : Tree} (mark : Bool) → ts ≡ a ⧺ piece mark (Sign equal) b → ReadsExpression c LeftHandSide a t → simple_target t ≡ Some u → ReadsExpression c Assignment b e → names_function assignment_operators.Assign t e ≡ names_function assignment_operators.Assign u e
        → ReadsTargetElement c ts (tree.target_with_default (nothing_of 0) u e)
    a_pattern_with_default : {c : Allowed} {ts a b : Tokens} {t e : Tree} (mark : Bool) → ts ≡ a ⧺ piece mark (Sign equal) b → ReadsPattern c a t → ReadsExpression c Assignment b e
        → ReadsTargetElement c ts (tree.target_with_default (nothing_of 0) t e)

  -- between the brackets, as of a pattern of bindings
  pub data ReadsTargetElements : Allowed → Tokens → Trees → Maybe → Type 0 where
    no_target_element : {c : Allowed} → ReadsTargetElements c done no_trees absent
    last_target_element : {c : Allowed} {ts : Tokens} {e : Tree} → ReadsTargetElement c ts e → ReadsTargetElements c ts (more e no_trees) absent
    first_target_element : {c : Allowed} {ts a b : Tokens} {e : Tree} {es : Trees} {rest : Maybe} (mark : Bool) → ts ≡ a ⧺ piece mark (Sign comma) b → ReadsTargetElement c a e → ReadsTargetElements c b es rest
        → ReadsTargetElements c ts (more e es) rest
    a_target_elision : {c : Allowed} {mark : Bool} {ts : Tokens} {es : Trees} {rest : Maybe} → ReadsTargetElements c ts es rest
        → ReadsTargetElements c (piece mark (Sign comma) ts) (hole es) rest
    a_target_rest : {c : Allowed} {mark : Bool} {ts : Tokens} {t : Tree} → ReadsTarget c ts t
        → ReadsTargetElements c (piece mark (Sign ellipsis) ts) no_trees (given (tree.target_rest (nothing_of 0) t))

  -- between the braces
  pub data ReadsTargetProperties : Allowed → Tokens → Trees → Maybe → Type 0 where
    no_target_property : {c : Allowed} → ReadsTargetProperties c done no_trees absent
    last_target_property : {c : Allowed} {ts : Tokens} {p : Tree} → ReadsTargetProperty c ts p → ReadsTargetProperties c ts (more p no_trees) absent
    first_target_property : {c : Allowed} {ts a b : Tokens} {p : Tree} {ps : Trees} {rest : Maybe} (mark : Bool) → ts ≡ a ⧺ piece mark (Sign comma) b → ReadsTargetProperty c a p → ReadsTargetProperties c b ps rest
        → ReadsTargetProperties c ts (more p ps) rest
    -- it is no pattern (13.15.5.1)
    a_target_rest_property : {c : Allowed} {mark : Bool} {ts : Tokens} {t u : Tree} → ReadsExpression c LeftHandSide ts t → simple_target t ≡ Some u
        → ReadsTargetProperties c (piece mark (Sign ellipsis) ts) no_trees (given (tree.target_rest (nothing_of 0) u))

  -- a property by its name alone, which stands for a key and a reference, or by a key
  pub data ReadsTargetProperty : Allowed → Tokens → Tree → Type 0 where
    a_target_shorthand : {c : Allowed} {mark : Bool} {w v : List ℕ} → word_value w ≡ Some v → is_free_name v ≡ true
        → ReadsTargetProperty c (piece mark (Word w) done) (tree.target_property (computed_values false) (tree.identifier_name (named v)) (tree.identifier_reference (unnumbered v)))
    a_target_shorthand_with_default : {c : Allowed} {mark next : Bool} {w v : List ℕ} {ts : Tokens} {e : Tree} → word_value w ≡ Some v → is_free_name v ≡ true → ReadsExpression c Assignment ts e
        → ReadsTargetProperty c (piece mark (Word w) (piece next (Sign equal) ts)) (tree.target_property (computed_values false) (tree.identifier_name (named v)) (tree.target_with_default (nothing_of 0) (tree.identifier_reference (unnumbered v)) e))
    a_target_property : {c : Allowed} {computed : Bool} {ts a b : Tokens} {k t : Tree} (mark : Bool) → ts ≡ a ⧺ piece mark (Sign colon) b → ReadsKey c computed a k → ReadsTargetElement c b t
        → ReadsTargetProperty c ts (tree.target_property (computed_values computed) k t)

  -- ---- declarations (14.3)

  pub data ReadsDeclarator : Allowed → Tokens → Tree → Type 0 where
    -- a pattern has a value (14.3.1 and 14.3.2)
    without_value : {c : Allowed} {mark : Bool} {w v : List ℕ} → word_value w ≡ Some v → is_free_name v ≡ true
        → ReadsDeclarator c (piece mark (Word w) done) (tree.variable_declarator (nothing_of 1) (tree.binding_identifier (unnumbered v)) absent)
    with_value : {c : Allowed} {ts a v : Tokens} {b e : Tree} (mark : Bool) → ts ≡ a ⧺ piece mark (Sign equal) v → ReadsBinding c a b → ReadsExpression c Assignment v e
        → ReadsDeclarator c ts (tree.variable_declarator (nothing_of 1) b (given e))

  pub data ReadsDeclarators : Allowed → Tokens → Trees → Type 0 where
    last_declarator : {c : Allowed} {ts : Tokens} {d : Tree} → ReadsDeclarator c ts d → ReadsDeclarators c ts (more d no_trees)
    first_declarator : {c : Allowed} {ts a b : Tokens} {d : Tree} {ds : Trees} (mark : Bool) → ts ≡ a ⧺ piece mark (Sign comma) b → ReadsDeclarator c a d → ReadsDeclarators c b ds
        → ReadsDeclarators c ts (more d ds)

  pub data ReadsVariables : Allowed → VariableDeclarationKind → Tokens → Tree → Type 0 where
    some_variables : {c : Allowed} {kind : VariableDeclarationKind} {mark : Bool} {ts : Tokens} {ds : Trees} → ReadsDeclarators c ts ds
        → ReadsVariables c kind (piece mark (Word (declaring kind)) ts) (tree.variable_declaration (declared_as kind) ds)

  -- ---- statements (clause 14)

  -- A statement, which is no declaration. The first flag tells that its tokens are the last of a brace group, where alone a
  -- semicolon may be omitted (12.10). The second tells that `else` follows, so that it can't end in an `if` without `else` (14.6).
  pub data ReadsStatement : Allowed → Bool → Bool → Tokens → Tree → Type 0 where
    an_expression_statement : {c : Allowed} {last before_else : Bool} {ts a : Tokens} {e : Tree} → EndsBy last ts a → starts_statement a ≡ true → ReadsExpression (with_in c) Expression a e
        → ReadsStatement c last before_else ts (tree.expression_statement (nothing_of 0) e)
    an_empty_statement : {c : Allowed} {last before_else mark : Bool} → ReadsStatement c last before_else (piece mark (Sign semicolon) done) (tree.empty_statement (nothing_of 0))
    a_block : {c : Allowed} {last before_else mark : Bool} {inside : Tokens} {body : Trees} → ReadsStatements c true inside body
        → ReadsStatement c last before_else (group mark Brace inside done) (tree.block (nothing_of 0) body)
    an_if : {c : Allowed} {last mark next : Bool} {test ts : Tokens} {t s : Tree} → ReadsExpression (with_in c) Expression test t → ReadsStatement c last false ts s
        → ReadsStatement c last false (piece mark (Word (codes "if")) (group next Round test ts)) (tree.if_statement (nothing_of 0) t s absent)
    an_if_with_else : {c : Allowed} {last before_else mark next : Bool} {test ts a b : Tokens} {t s u : Tree} (k : Bool) → ts ≡ a ⧺ piece k (Word (codes "else")) b → ReadsExpression (with_in c) Expression test t → ReadsStatement c false true a s → ReadsStatement c last before_else b u
        → ReadsStatement c last before_else (piece mark (Word (codes "if")) (group next Round test ts)) (tree.if_statement (nothing_of 0) t s (given u))
    a_variable_statement : {c : Allowed} {last before_else : Bool} {ts a : Tokens} {d : Tree} → EndsBy last ts a → ReadsVariables (with_in c) Var a d
        → ReadsStatement c last before_else ts d
    a_for : {c : Allowed} {last before_else mark next : Bool} {head a b d ts : Tokens} {init test update : Maybe} {s : Tree} (k l : Bool) → head ≡ a ⧺ piece k (Sign semicolon) (b ⧺ piece l (Sign semicolon) d) → ReadsInit c a init → ReadsPart (with_in c) b test → ReadsPart (with_in c) d update → ReadsStatement c last before_else ts s
        → ReadsStatement c last before_else (piece mark (Word (codes "for")) (group next Round head ts)) (tree.for_statement (nothing_of 0) init test update s)
    a_for_in : {c : Allowed} {last before_else mark next : Bool} {head a b ts : Tokens} {l e s : Tree} (k : Bool) → head ≡ a ⧺ piece k (Word (codes "in")) b → ReadsLeft (with_in c) false a l → ReadsExpression (with_in c) Expression b e → ReadsStatement c last before_else ts s
        → ReadsStatement c last before_else (piece mark (Word (codes "for")) (group next Round head ts)) (tree.for_in_statement (nothing_of 0) l e s)
    a_for_of : {c : Allowed} {last before_else mark next : Bool} {head a b ts : Tokens} {l e s : Tree} (k : Bool) → head ≡ a ⧺ piece k (Word (codes "of")) b → ReadsLeft (with_in c) true a l → ReadsExpression (with_in c) Assignment b e → ReadsStatement c last before_else ts s
        → ReadsStatement c last before_else (piece mark (Word (codes "for")) (group next Round head ts)) (tree.for_of_statement (loop_values false) l e s)
    -- the loop waits for each value where `await` is an operator; then what it gives them to may be `async` (14.7.5)
    a_for_await : {c : Allowed} {last before_else mark second next : Bool} {head a b ts : Tokens} {l e s : Tree} (k : Bool) → c.await_operand ≡ true → head ≡ a ⧺ piece k (Word (codes "of")) b → ReadsLeft (with_in c) false a l → ReadsExpression (with_in c) Assignment b e → ReadsStatement c last before_else ts s
        → ReadsStatement c last before_else (piece mark (Word (codes "for")) (piece second (Word (codes "await")) (group next Round head ts))) (tree.for_of_statement (loop_values true) l e s)
    a_while : {c : Allowed} {last before_else mark next : Bool} {test ts : Tokens} {t s : Tree} → ReadsExpression (with_in c) Expression test t → ReadsStatement c last before_else ts s
        → ReadsStatement c last before_else (piece mark (Word (codes "while")) (group next Round test ts)) (tree.while_statement (nothing_of 0) t s)
    a_do_while : {c : Allowed} {last before_else mark : Bool} {ts a b test : Tokens} {s t : Tree} (k next : Bool) → EndsBy last ts a → a ≡ piece mark (Word (codes "do")) (b ⧺ piece k (Word (codes "while")) (group next Round test done)) → ReadsStatement c false false b s → ReadsExpression (with_in c) Expression test t
        → ReadsStatement c last before_else ts (tree.do_while_statement (nothing_of 0) s t)
    a_labelled_statement : {c : Allowed} {last before_else mark next : Bool} {w v : List ℕ} {ts : Tokens} {s : Tree} → word_value w ≡ Some v → is_free_name v ≡ true → ReadsStatement c last before_else ts s
        → ReadsStatement c last before_else (piece mark (Word w) (piece next (Sign colon) ts)) (tree.labeled_statement (nothing_of 0) (tree.label_identifier (named v)) s)
    a_continue : {c : Allowed} {last before_else mark : Bool} {ts a : Tokens} {l : Maybe} → EndsBy last ts (piece mark (Word (codes "continue")) a) → ReadsLabel a l
        → ReadsStatement c last before_else ts (tree.continue_statement (nothing_of 0) l)
    a_break : {c : Allowed} {last before_else mark : Bool} {ts a : Tokens} {l : Maybe} → EndsBy last ts (piece mark (Word (codes "break")) a) → ReadsLabel a l
        → ReadsStatement c last before_else ts (tree.break_statement (nothing_of 0) l)
    a_throw : {c : Allowed} {last before_else mark : Bool} {ts a : Tokens} {e : Tree} → EndsBy last ts (piece mark (Word (codes "throw")) a) → on_same_line a ≡ true → ReadsExpression (with_in c) Expression a e
        → ReadsStatement c last before_else ts (tree.throw_statement (nothing_of 0) e)
    a_debugger : {c : Allowed} {last before_else mark : Bool} {ts : Tokens} → EndsBy last ts (piece mark (Word (codes "debugger")) done)
        → ReadsStatement c last before_else ts (tree.debugger_statement (nothing_of 0))
    a_switch : {c : Allowed} {last before_else mark next third : Bool} {head inside : Tokens} {e : Tree} {cases : Trees} → ReadsExpression (with_in c) Expression head e → ReadsCases c true inside cases
        → ReadsStatement c last before_else (piece mark (Word (codes "switch")) (group next Round head (group third Brace inside done))) (tree.switch_statement (nothing_of 0) e cases)
    a_try : {c : Allowed} {last before_else mark next : Bool} {inside ts : Tokens} {body : Trees} {handler finalizer : Maybe} → ReadsStatements c true inside body → ReadsEndsOfTry c ts handler finalizer
        → ReadsStatement c last before_else (piece mark (Word (codes "try")) (group next Brace inside ts)) (tree.try_statement (nothing_of 0) (tree.block (nothing_of 0) body) handler finalizer)
    a_return : {c : Allowed} {last before_else mark : Bool} {ts a : Tokens} {m : Maybe} → c.return_statement ≡ true → EndsBy last ts (piece mark (Word (codes "return")) a) → ReadsReturned c a m
        → ReadsStatement c last before_else ts (tree.return_statement (nothing_of 0) m)

  -- what `return` gives back, on the line of its word (14.10)
  pub data ReadsReturned : Allowed → Tokens → Maybe → Type 0 where
    nothing_returned : {c : Allowed} → ReadsReturned c done absent
    a_returned_value : {c : Allowed} {ts : Tokens} {e : Tree} → on_same_line ts ≡ true → ReadsExpression (with_in c) Expression ts e → ReadsReturned c ts (given e)

  -- first in the head of a loop: nothing, a declaration or an expression, all without `in` (14.7.4)
  pub data ReadsInit : Allowed → Tokens → Maybe → Type 0 where
    no_init : {c : Allowed} → ReadsInit c done absent
    first_variables : {c : Allowed} {ts : Tokens} {d : Tree} (kind : VariableDeclarationKind) → ReadsVariables (without_in c) kind ts d → ReadsInit c ts (given d)
    first_expression : {c : Allowed} {ts : Tokens} {e : Tree} → ReadsExpression (without_in c) Expression ts e → ReadsInit c ts (given e)

  -- behind a semicolon there: nothing, or an expression
  pub data ReadsPart : Allowed → Tokens → Maybe → Type 0 where
    nothing_there : {c : Allowed} → ReadsPart c done absent
    an_expression_there : {c : Allowed} {ts : Tokens} {e : Tree} → ReadsExpression c Expression ts e → ReadsPart c ts (given e)

  -- what a loop gives its values: one name or one pattern that is declared, a simple target, or a pattern of targets. The flag tells that `of` follows (14.7.5)
  pub data ReadsLeft : Allowed → Bool → Tokens → Tree → Type 0 where
    a_declared_name : {c : Allowed} {before_of mark : Bool} {ts : Tokens} {b : Tree} (kind : VariableDeclarationKind) → ReadsBinding c ts b
        → ReadsLeft c before_of (piece mark (Word (declaring kind)) ts) (tree.variable_declaration (declared_as kind) (more (tree.variable_declarator (nothing_of 1) b absent) no_trees))
    a_target : {c : Allowed} {before_of : Bool} {ts : Tokens} {t u : Tree} → (not before_of || may_precede_of ts) ≡ true → ReadsExpression c LeftHandSide ts t → simple_target t ≡ Some u
        → ReadsLeft c before_of ts u
    a_left_pattern : {c : Allowed} {before_of : Bool} {ts : Tokens} {t : Tree} → ReadsPattern c ts t → ReadsLeft c before_of ts t

  -- what a jump leads to, on the line of its word (14.8 and 14.9)
  pub data ReadsLabel : Tokens → Maybe → Type 0 where
    no_label : ReadsLabel done absent
    a_label : {w v : List ℕ} → word_value w ≡ Some v → is_free_name v ≡ true → ReadsLabel (piece false (Word w) done) (given (tree.label_identifier (named v)))

  -- the cases of `switch`. The flag tells that one without a test may come, which it does once (14.12)
  pub data ReadsCases : Allowed → Bool → Tokens → Trees → Type 0 where
    no_case : {c : Allowed} {default : Bool} → ReadsCases c default done no_trees
    last_case : {c : Allowed} {default rest : Bool} {ts : Tokens} {t : Tree} → ReadsCase c true default rest ts t → ReadsCases c default ts (more t no_trees)
    first_case : {c : Allowed} {default rest : Bool} {ts a b : Tokens} {t : Tree} {us : Trees} → ts ≡ a ⧺ b → ReadsCase c false default rest a t → ReadsCases c rest b us
        → ReadsCases c default ts (more t us)

  -- a case: whether its tokens are the last of their brace group, and whether one without a test may come, before it and behind it
  pub data ReadsCase : Allowed → Bool → Bool → Bool → Tokens → Tree → Type 0 where
    a_case : {c : Allowed} {last default mark : Bool} {ts a b : Tokens} {t : Tree} {ss : Trees} (k : Bool) → ts ≡ a ⧺ piece k (Sign colon) b → ReadsExpression (with_in c) Expression a t → ReadsStatements c last b ss
        → ReadsCase c last default default (piece mark (Word (codes "case")) ts) (tree.switch_case (nothing_of 0) (given t) ss)
    a_default : {c : Allowed} {last mark next : Bool} {ts : Tokens} {ss : Trees} → ReadsStatements c last ts ss
        → ReadsCase c last true false (piece mark (Word (codes "default")) (piece next (Sign colon) ts)) (tree.switch_case (nothing_of 0) absent ss)

  -- behind the block of `try`: a handler, a finalizer or both (14.15)
  pub data ReadsEndsOfTry : Allowed → Tokens → Maybe → Maybe → Type 0 where
    a_handler : {c : Allowed} {ts : Tokens} {h : Tree} → ReadsHandler c ts h → ReadsEndsOfTry c ts (given h) absent
    a_finalizer : {c : Allowed} {ts : Tokens} {f : Tree} → ReadsFinalizer c ts f → ReadsEndsOfTry c ts absent (given f)
    a_handler_and_a_finalizer : {c : Allowed} {ts a b : Tokens} {h f : Tree} → ts ≡ a ⧺ b → ReadsHandler c a h → ReadsFinalizer c b f → ReadsEndsOfTry c ts (given h) (given f)

  pub data ReadsHandler : Allowed → Tokens → Tree → Type 0 where
    a_catch : {c : Allowed} {mark next : Bool} {inside : Tokens} {body : Trees} → ReadsStatements c true inside body
        → ReadsHandler c (piece mark (Word (codes "catch")) (group next Brace inside done)) (tree.catch_clause (nothing_of 0) absent (tree.block (nothing_of 0) body))
    a_catch_by_name : {c : Allowed} {mark next third : Bool} {name inside : Tokens} {b : Tree} {body : Trees} → ReadsBinding (with_in c) name b → ReadsStatements c true inside body
        → ReadsHandler c (piece mark (Word (codes "catch")) (group next Round name (group third Brace inside done))) (tree.catch_clause (nothing_of 0) (given b) (tree.block (nothing_of 0) body))

  pub data ReadsFinalizer : Allowed → Tokens → Tree → Type 0 where
    a_finally : {c : Allowed} {mark next : Bool} {inside : Tokens} {body : Trees} → ReadsStatements c true inside body
        → ReadsFinalizer c (piece mark (Word (codes "finally")) (group next Brace inside done)) (tree.block (nothing_of 0) body)

  -- what stands in a list of statements: a statement or a declaration (14.2)
  pub data ReadsItem : Allowed → Bool → Tokens → Tree → Type 0 where
    a_statement : {c : Allowed} {last : Bool} {ts : Tokens} {s : Tree} → ReadsStatement c last false ts s → ReadsItem c last ts s
    a_function_declaration : {c : Allowed} {last : Bool} {ts : Tokens} {t : Tree} → ReadsFunction kinds.Declaration false ts t → ReadsItem c last ts t
    a_class_declaration : {c : Allowed} {last : Bool} {ts : Tokens} {t : Tree} → ReadsClass (with_in c) class_kinds.Declaration false ts t → ReadsItem c last ts t
    a_declaration : {c : Allowed} {last : Bool} {ts a : Tokens} {d : Tree} (kind : VariableDeclarationKind) → is_var kind ≡ false → EndsBy last ts a → ReadsVariables (with_in c) kind a d
        → ReadsItem c last ts d

  pub data ReadsStatements : Allowed → Bool → Tokens → Trees → Type 0 where
    no_statement : {c : Allowed} {last : Bool} → ReadsStatements c last done no_trees
    last_statement : {c : Allowed} {last : Bool} {ts : Tokens} {s : Tree} → ReadsItem c last ts s → ReadsStatements c last ts (more s no_trees)
    first_statement : {c : Allowed} {last : Bool} {ts a b : Tokens} {s : Tree} {ss : Trees} → ts ≡ a ⧺ b → ReadsItem c false a s → ReadsStatements c last b ss
        → ReadsStatements c last ts (more s ss)

  -- ---- bodies, of modules (16.2) and of functions (15.2): as many directives as stand there (11.2.1), and statements

  pub data ReadsBody : Allowed → Bool → Tokens → Trees → Trees → Type 0 where
    a_directive : {c : Allowed} {last mark next : Bool} {q : Quote} {w us : List ℕ} {ts : Tokens} {ds ss : Trees} → is_backtick q ≡ false → string_value q w ≡ Some us → ReadsBody c last ts ds ss
        → ReadsBody c last (piece mark (Quoted q w) (piece next (Sign semicolon) ts)) (more (tree.directive (bare (units us ∷ []))) ds) ss
    a_last_directive : {c : Allowed} {mark : Bool} {q : Quote} {w us : List ℕ} → is_backtick q ≡ false → string_value q w ≡ Some us
        → ReadsBody c true (piece mark (Quoted q w) done) (more (tree.directive (bare (units us ∷ []))) no_trees) no_trees
    statements : {c : Allowed} {last : Bool} {ts : Tokens} {ss : Trees} → starts_with_directive ts ≡ false → ReadsStatements c last ts ss → ReadsBody c last ts no_trees ss

-- ---- modules (16.2)

-- a name of an import or an export: a word, be it reserved or not, or a string (16.2, ModuleExportName)
pub data ReadsModuleName : Tokens → List ℕ → Type 0 where
  a_word_name : {mark : Bool} {w v : List ℕ} → word_value w ≡ Some v → ReadsModuleName (piece mark (Word w) done) (units_of v)
  a_string_name : {mark : Bool} {q : Quote} {w us : List ℕ} → is_backtick q ≡ false → string_value q w ≡ Some us → ReadsModuleName (piece mark (Quoted q w) done) us

-- an attribute by its key, a name or a string, and its value, a string (16.2.2, WithClause)
pub data ReadsAttribute : Tokens → Tree → Type 0 where
  an_attribute : {mark next third : Bool} {w v x us : List ℕ} {q : Quote} → word_value w ≡ Some v → is_backtick q ≡ false → string_value q x ≡ Some us
      → ReadsAttribute (piece mark (Word w) (piece next (Sign colon) (piece third (Quoted q x) done))) (tree.import_attribute (nothing_of 0) (tree.identifier_name (named v)) (text_of us))
  an_attribute_by_string : {mark next third : Bool} {w v x us : List ℕ} {q r : Quote} → is_backtick r ≡ false → string_value r w ≡ Some v → is_backtick q ≡ false → string_value q x ≡ Some us
      → ReadsAttribute (piece mark (Quoted r w) (piece next (Sign colon) (piece third (Quoted q x) done))) (tree.import_attribute (nothing_of 0) (text_of v) (text_of us))

-- a comma may end them
pub data ReadsAttributes : Tokens → Trees → Type 0 where
  no_attribute : ReadsAttributes done no_trees
  last_attribute : {ts : Tokens} {t : Tree} → ReadsAttribute ts t → ReadsAttributes ts (more t no_trees)
  first_attribute : {ts a b : Tokens} {t : Tree} {us : Trees} (mark : Bool) → ts ≡ a ⧺ piece mark (Sign comma) b → ReadsAttribute a t → ReadsAttributes b us
      → ReadsAttributes ts (more t us)

-- a string that names a module, and attributes
pub data ReadsSource : Tokens → Tree → Maybe → Type 0 where
  a_source : {mark : Bool} {q : Quote} {w us : List ℕ} → is_backtick q ≡ false → string_value q w ≡ Some us → ReadsSource (piece mark (Quoted q w) done) (text_of us) absent
  a_source_with : {mark next third : Bool} {q : Quote} {w us : List ℕ} {inside : Tokens} {es : Trees} → is_backtick q ≡ false → string_value q w ≡ Some us → ReadsAttributes inside es
      → ReadsSource (piece mark (Quoted q w) (piece next (Word (codes "with")) (group third Brace inside done))) (text_of us) (given (tree.with_clause (bare (with_keyword with_keywords.With ∷ [])) es))

-- ---- imports (16.2.2)

-- between the braces: a name that is bound as it is, or behind `as` by another
pub data ReadsSpecifier : Tokens → Tree → Type 0 where
  a_specifier : {mark : Bool} {w v : List ℕ} → word_value w ≡ Some v → is_free_name v ≡ true
      → ReadsSpecifier (piece mark (Word w) done) (tree.import_specifier of_values (text_of (units_of v)) (tree.binding_identifier (unnumbered v)))
  a_specifier_as : {ts a : Tokens} {k v : List ℕ} (w : List ℕ) (mark next : Bool) → ts ≡ a ⧺ piece mark (Word (codes "as")) (piece next (Word w) done) → ReadsModuleName a k → word_value w ≡ Some v → is_free_name v ≡ true
      → ReadsSpecifier ts (tree.import_specifier of_values (text_of k) (tree.binding_identifier (unnumbered v)))

-- a comma may end them
pub data ReadsSpecifiers : Tokens → Trees → Type 0 where
  no_specifier : ReadsSpecifiers done no_trees
  last_specifier : {ts : Tokens} {t : Tree} → ReadsSpecifier ts t → ReadsSpecifiers ts (more t no_trees)
  first_specifier : {ts a b : Tokens} {t : Tree} {us : Trees} (mark : Bool) → ts ≡ a ⧺ piece mark (Sign comma) b → ReadsSpecifier a t → ReadsSpecifiers b us
      → ReadsSpecifiers ts (more t us)

-- some of what is exported there by name, or all of it under one name
pub data ReadsNamedImports : Tokens → Trees → Type 0 where
  imports_in_braces : {mark : Bool} {inside : Tokens} {ss : Trees} → ReadsSpecifiers inside ss → ReadsNamedImports (group mark Brace inside done) ss
  a_namespace : {mark next last : Bool} {w v : List ℕ} → word_value w ≡ Some v → is_free_name v ≡ true
      → ReadsNamedImports (piece mark (Sign star) (piece next (Word (codes "as")) (piece last (Word w) done))) (more (tree.import_namespace_specifier (nothing_of 0) (tree.binding_identifier (unnumbered v))) no_trees)

-- before `from`
pub data ReadsImportClause : Tokens → Trees → Type 0 where
  a_default_import : {mark : Bool} {w v : List ℕ} → word_value w ≡ Some v → is_free_name v ≡ true
      → ReadsImportClause (piece mark (Word w) done) (more (tree.import_default_specifier (nothing_of 0) (tree.binding_identifier (unnumbered v))) no_trees)
  named_imports : {ts : Tokens} {ss : Trees} → ReadsNamedImports ts ss → ReadsImportClause ts ss
  a_default_and_others : {mark next : Bool} {w v : List ℕ} {ts : Tokens} {ss : Trees} → word_value w ≡ Some v → is_free_name v ≡ true → ReadsNamedImports ts ss
      → ReadsImportClause (piece mark (Word w) (piece next (Sign comma) ts)) (more (tree.import_default_specifier (nothing_of 0) (tree.binding_identifier (unnumbered v))) ss)

-- behind the word `import`
pub data ReadsImport : Tokens → Tree → Type 0 where
  an_import_alone : {ts : Tokens} {s : Tree} {clause : Maybe} → ReadsSource ts s clause → ReadsImport ts (tree.import_declaration of_values no_list s clause)
  an_import_of : {ts a b : Tokens} {ss : Trees} {s : Tree} {clause : Maybe} (mark : Bool) → ts ≡ a ⧺ piece mark (Word (codes "from")) b → ReadsImportClause a ss → ReadsSource b s clause
      → ReadsImport ts (tree.import_declaration of_values (listed ss) s clause)

-- ---- exports (16.2.3)

-- between the braces; the flag tells that a source follows, without which what is exported is a reference
pub data ReadsExported : Bool → Tokens → Tree → Type 0 where
  an_exported_name : {source : Bool} {a : Tokens} {k : List ℕ} → ReadsModuleName a k → (source || is_reference_alone a) ≡ true
      → ReadsExported source a (tree.export_specifier of_values (text_of k) (text_of k))
  an_exported_name_as : {source : Bool} {ts a b : Tokens} {k l : List ℕ} (mark : Bool) → ts ≡ a ⧺ piece mark (Word (codes "as")) b → ReadsModuleName a k → (source || is_reference_alone a) ≡ true → ReadsModuleName b l
      → ReadsExported source ts (tree.export_specifier of_values (text_of k) (text_of l))

-- a comma may end them
pub data ReadsAllExported : Bool → Tokens → Trees → Type 0 where
  none_exported : {source : Bool} → ReadsAllExported source done no_trees
  last_exported : {source : Bool} {ts : Tokens} {t : Tree} → ReadsExported source ts t → ReadsAllExported source ts (more t no_trees)
  first_exported : {source : Bool} {ts a b : Tokens} {t : Tree} {us : Trees} (mark : Bool) → ts ≡ a ⧺ piece mark (Sign comma) b → ReadsExported source a t → ReadsAllExported source b us
      → ReadsAllExported source ts (more t us)

-- a declaration behind `export`
pub data ReadsDeclared : Bool → Tokens → Tree → Type 0 where
  declared_variables : {last : Bool} {ts a : Tokens} {d : Tree} (kind : VariableDeclarationKind) → EndsBy last ts a → ReadsVariables in_module kind a d → ReadsDeclared last ts d
  a_declared_function : {last : Bool} {ts : Tokens} {t : Tree} → ReadsFunction kinds.Declaration false ts t → ReadsDeclared last ts t
  a_declared_class : {last : Bool} {ts : Tokens} {t : Tree} → ReadsClass in_module class_kinds.Declaration false ts t → ReadsDeclared last ts t

-- behind `export default`: a function or a class, with a name or without, or an expression
pub data ReadsDefault : Bool → Tokens → Tree → Type 0 where
  a_default_function : {last : Bool} {ts : Tokens} {t : Tree} → ReadsFunction kinds.Declaration true ts t → ReadsDefault last ts t
  a_default_class : {last : Bool} {ts : Tokens} {t : Tree} → ReadsClass in_module class_kinds.Declaration true ts t → ReadsDefault last ts t
  a_default_expression : {last : Bool} {ts a : Tokens} {e : Tree} → EndsBy last ts a → may_be_exported a ≡ true → ReadsExpression in_module Assignment a e → ReadsDefault last ts e

-- behind the word `export`
pub data ReadsExport : Bool → Tokens → Tree → Type 0 where
  an_exported_declaration : {last : Bool} {ts : Tokens} {t : Tree} → ReadsDeclared last ts t → ReadsExport last ts (tree.export_declaration (nothing_of 0) t)
  exported_names : {last mark : Bool} {ts inside : Tokens} {ss : Trees} → EndsBy last ts (group mark Brace inside done) → ReadsAllExported false inside ss
      → ReadsExport last ts (tree.export_named_declaration of_values ss)
  exported_names_from : {last mark next : Bool} {ts inside a : Tokens} {ss : Trees} {s : Tree} {clause : Maybe} → EndsBy last ts (group mark Brace inside (piece next (Word (codes "from")) a)) → ReadsAllExported true inside ss → ReadsSource a s clause
      → ReadsExport last ts (tree.export_from_declaration of_values ss s clause)
  all_exported : {last mark next : Bool} {ts a : Tokens} {s : Tree} {clause : Maybe} → EndsBy last ts (piece mark (Sign star) (piece next (Word (codes "from")) a)) → ReadsSource a s clause
      → ReadsExport last ts (tree.export_all_declaration of_values absent s clause)
  all_exported_as : {last : Bool} {ts d a b : Tokens} {k : List ℕ} {s : Tree} {clause : Maybe} (mark next third : Bool) → EndsBy last ts d → d ≡ piece mark (Sign star) (piece next (Word (codes "as")) (a ⧺ piece third (Word (codes "from")) b)) → ReadsModuleName a k → ReadsSource b s clause
      → ReadsExport last ts (tree.export_all_declaration of_values (given (text_of k)) s clause)
  a_default_export : {last mark : Bool} {ts : Tokens} {t : Tree} → ReadsDefault last ts t
      → ReadsExport last (piece mark (Word (codes "default")) ts) (tree.export_default_declaration (nothing_of 0) t)

-- ---- the statements of a module, its imports and its exports, behind its directives

pub data ReadsModuleItem : Bool → Tokens → Tree → Type 0 where
  a_module_statement : {last : Bool} {ts : Tokens} {t : Tree} → ReadsItem in_module last ts t → ReadsModuleItem last ts t
  an_import : {last mark : Bool} {ts a : Tokens} {t : Tree} → EndsBy last ts (piece mark (Word (codes "import")) a) → ReadsImport a t → ReadsModuleItem last ts t
  an_export : {last mark : Bool} {ts : Tokens} {t : Tree} → ReadsExport last ts t → ReadsModuleItem last (piece mark (Word (codes "export")) ts) t

pub data ReadsModuleItems : Bool → Tokens → Trees → Type 0 where
  no_module_item : {last : Bool} → ReadsModuleItems last done no_trees
  last_module_item : {last : Bool} {ts : Tokens} {s : Tree} → ReadsModuleItem last ts s → ReadsModuleItems last ts (more s no_trees)
  first_module_item : {last : Bool} {ts a b : Tokens} {s : Tree} {ss : Trees} → ts ≡ a ⧺ b → ReadsModuleItem false a s → ReadsModuleItems last b ss
      → ReadsModuleItems last ts (more s ss)

pub data ReadsModuleBody : Bool → Tokens → Trees → Trees → Type 0 where
  a_module_directive : {last mark next : Bool} {q : Quote} {w us : List ℕ} {ts : Tokens} {ds ss : Trees} → is_backtick q ≡ false → string_value q w ≡ Some us → ReadsModuleBody last ts ds ss
      → ReadsModuleBody last (piece mark (Quoted q w) (piece next (Sign semicolon) ts)) (more (tree.directive (bare (units us ∷ []))) ds) ss
  module_items : {last : Bool} {ts : Tokens} {ss : Trees} → starts_with_directive ts ≡ false → ReadsModuleItems last ts ss → ReadsModuleBody last ts no_trees ss

pub data ReadsModule : Tokens → Tree → Type 0 where
  a_module : {ts : Tokens} {directives body : Trees} → ReadsModuleBody false ts directives body → ReadsModule ts (tree.program (nothing_of 4) no_trees absent directives body)

-- ---- the whole, behind a hashbang or without one (12.5, 16.2)

-- the first line is no token: it stands beside these, and the program keeps it
pub data ReadsProgram : Option (List ℕ) → Tokens → Tree → Type 0 where
  without_hashbang : {ts : Tokens} {t : Tree} → ReadsModule ts t → ReadsProgram None ts t
  behind_hashbang : {w : List ℕ} {ts : Tokens} {directives body : Trees} → ReadsModule ts (tree.program (nothing_of 4) no_trees absent directives body)
      → ReadsProgram (Some w) ts (tree.program (nothing_of 4) no_trees (given (hashbang_of w)) directives body)
