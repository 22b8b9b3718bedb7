-- Declarators and declarations.
use Rattle.std.proofs.Common.{◌≡◌, ℕ, Bool, true, false, codes, List, [], ◌∷◌, refl, sym, ap, ◌∙◌, subst}
use Rattle.std.proofs.lemmas.Bool.{both_ways}
use Rattle.jsgen_syntax.specs.declared.precedence.Precedence.TheVariants as levels
use Rattle.jsgen_syntax.specs.Name.{spells_name}
use Rattle.jsgen_tree.specs.Job.{Tables}
use Rattle.jsgen_tree.specs.declared.statements.VariableDeclarationKind.{VariableDeclarationKind}
use Rattle.jsgen_tree.specs.declared.statements.VariableDeclarationKind.TheVariants as kinds
use Rattle.jsgen_tree.specs.Words.{declaration_word}
use Rattle.jsgen_tree.specs.Tree.{Tree, Maybe, absent, given, Trees, no_trees, more, Atoms, type_of}
use Rattle.jsgen_tree.specs.Sets.{is_binding_identifier}
use Rattle.jsgen_tree.specs.Values.{variable_declaration_kind, variable_declaration_declare, variable_declarator_definite}
use Rattle.jsgen_tree.specs.Places.{bare}
use Rattle.jsgen_tree.specs.Atom.{declaration_kind}
use Rattle.jsgen_tree.specs.Nodes as tree
use Rattle.jsgen_model.specs.Tokens.{Tokens, done, piece, Word}
use Rattle.jsgen_model.specs.Items.{Items, ◌⊕◌, word, soft_space}
use Rattle.jsgen_model.specs.Layout.{Pen, layout}
use Rattle.jsgen_model.specs.Grammar.{Allowed, ReadsBinding, ReadsDeclarator, ReadsDeclarators, ReadsVariables, EndsBy, is_var, with_in}
use Rattle.jsgen_model.specs.Grammar as grammar
use Rattle.jsgen_model.specs.Normal.{normal, normal_maybe, nothing_of, declared_as, if_set}
use Rattle.jsgen_model.specs.Renamed.{renamed, renamed_maybe}
use Rattle.jsgen_place.specs.declared.place.Place.{Place}
use Rattle.jsgen_place.specs.Place.{among_statements, child}
use Rattle.jsgen_model.specs.Spell.{spell_list}
use Rattle.jsgen_model.specs.Valid.{is_lexical_word}
use Rattle.jsgen_token_laws.proofs.Characters.{letters_spelled}
use Rattle.jsgen_token_laws.proofs.Last.{Last, After, line_of, Knows}
use Rattle.jsgen_token_laws.proofs.Writes.{Writes, wrote_both}
use Rattle.jsgen_token_laws.proofs.Steps.{Soft, wrote_word, soft_space_written}
use Rattle.jsgen_row_laws.proofs.Levels.{under}
use Rattle.jsgen_row_laws.proofs.Good.{Printed, operand_ready}
use Rattle.jsgen_row_laws.proofs.Lists.{Element, Elements, ElementAt, ElementsAt, MoreAt, Joins, no_more, one_more, whole_list}
use Rattle.jsgen_row_laws.proofs.Bindings.{Bound, Holds, good_held}
use Rattle.jsgen_row_laws.proofs.Stands.{Unended, UnendedAt, ReadsClosed, Stated, stated_among, Listed, SameTree, whole_line}

-- ---- declarators

-- printed at one place, and read as a declarator or as a list of them
abbrev pub DeclaredAt : Tables → Allowed → Place → Tree → Type 0
DeclaredAt names c place t = ElementAt names (ReadsDeclarator (under place c)) place t

abbrev pub ListDeclaredAt : Tables → Allowed → Place → Trees → Type 0
ListDeclaredAt names c place ds = ElementsAt names (ReadsDeclarators (under place c)) place ds

abbrev pub MoreDeclaredAt : Tables → Allowed → Place → Trees → Type 0
MoreDeclaredAt names c place ds = MoreAt names (ReadsDeclarator (under place c)) (ReadsDeclarators (under place c)) place ds

same_declarator : (a : Atoms) (b u : Tree) (m n : Maybe) → variable_declarator_definite a ≡ false → normal b ≡ normal u → normal_maybe m ≡ normal_maybe n → normal (tree.variable_declarator (nothing_of 1) b m) ≡ normal (tree.variable_declarator a u n)
same_declarator a b u m n h e f = λ i. tree.variable_declarator (bare (if_set (sym h i) ∷ [])) (e i) (f i)

declarator_holds : {names : Tables} (c : Allowed) (a : Atoms) → variable_declarator_definite a ≡ false → Holds names c (ReadsDeclarator c) (λ b m. tree.variable_declarator a b m)
declarator_holds {names} c a h = record {
  reading = λ b m. tree.variable_declarator (nothing_of 1) b m;
  with_value = λ mark x v b e r s. grammar.with_value mark refl r s;
  same = λ b u m n e f. same_declarator a b (renamed names u) m (renamed_maybe names n) h e f;
}

-- what has the normal form of a name is read as one
name_alone : {c : Allowed} {ts : Tokens} {u : Tree} (v : Atoms) → ReadsBinding c ts u → normal u ≡ tree.binding_identifier v → ReadsDeclarator c ts (tree.variable_declarator (nothing_of 1) u absent)
name_alone v (grammar.a_bound_name e h) n = grammar.without_value e h
name_alone v (grammar.an_object_binding r) n = absurd (both_ways false refl (ap (λ t. is_binding_identifier (type_of t)) n))
name_alone v (grammar.an_array_binding r) n = absurd (both_ways false refl (ap (λ t. is_binding_identifier (type_of t)) n))

-- a name without a value
pub good_declared_alone : {names : Tables} (c : Allowed) (a b : Atoms) → variable_declarator_definite a ≡ false → Bound names c (tree.binding_identifier b) → (place : Place) → DeclaredAt names c place (tree.variable_declarator a (tree.binding_identifier b) absent)
unfolding declarator_holds
good_declared_alone c a b h f place = good_held c (ReadsDeclarator (under place c)) (λ x n. tree.variable_declarator a x n) (tree.binding_identifier b) absent place (declarator_holds (under place c) a h) (λ ts u r n. name_alone _ r n) f tt

pub good_declared_with_value : {names : Tables} (c : Allowed) (a : Atoms) (b v : Tree) → variable_declarator_definite a ≡ false → Bound names c b → Printed names c v → (place : Place) → DeclaredAt names c place (tree.variable_declarator a b (given v))
unfolding declarator_holds
good_declared_with_value c a b v h f g place = good_held c (ReadsDeclarator (under place c)) (λ x n. tree.variable_declarator a x n) b (given v) place (declarator_holds (under place c) a h) tt f g

declarators_join : (c : Allowed) → Joins (ReadsDeclarator c) (ReadsDeclarators c)
declarators_join c = record { one = λ ts d r. grammar.last_declarator r; first = λ mark a b d ds r s. grammar.first_declarator mark refl r s }

-- ---- declarations without their end

-- the kind's word is a name, and the declaration is read with it
pub kind_spelled : (k : VariableDeclarationKind) → spells_name (declaration_word k) ≡ true
kind_spelled kinds.Const = letters_spelled 99 (codes "onst") refl
kind_spelled kinds.Let = letters_spelled 108 (codes "et") refl
kind_spelled kinds.Var = letters_spelled 118 (codes "ar") refl

kind_reads : (k : VariableDeclarationKind) (c : Allowed) (line : Bool) (ts : Tokens) (ds : Trees) → ReadsDeclarators c ts ds → ReadsVariables c k (piece line (Word (declaration_word k)) ts) (tree.variable_declaration (declared_as k) ds)
kind_reads kinds.Const c line ts ds r = grammar.some_variables r
kind_reads kinds.Let c line ts ds r = grammar.some_variables r
kind_reads kinds.Var c line ts ds r = grammar.some_variables r

-- one kind alone is not lexical
lexical_is_no_var : (k : VariableDeclarationKind) → is_lexical_word k ≡ true → is_var k ≡ false
lexical_is_no_var kinds.Var h = absurd (both_ways false refl h)
lexical_is_no_var k h = refl

other_is_var : (k : VariableDeclarationKind) → is_lexical_word k ≡ false → k ≡ kinds.Var
other_is_var kinds.Var h = refl
other_is_var k h = absurd (both_ways true h refl)

variables_parts : {names : Tables} (c : Allowed) (a : Atoms) (ds : Trees) (p p1 p2 q : Pen) (l : Last) → variable_declaration_declare a ≡ false → Writes names p l p1 (After (Word (declaration_word (variable_declaration_kind a)))) (piece (line_of l) (Word (declaration_word (variable_declaration_kind a))) done) → (n : Soft names p1 (After (Word (declaration_word (variable_declaration_kind a)))) p2) → Elements names (ReadsDeclarators c) p2 n.last q ds
    → Element names (ReadsVariables c (variable_declaration_kind a)) p l q (tree.variable_declaration a ds)
variables_parts c a ds p p1 p2 q l m o n g = record {
  last = g.last;
  tokens = piece (line_of l) (Word (declaration_word (variable_declaration_kind a))) g.tokens;
  writes = wrote_both o (wrote_both n.writes g.writes);
  operand = g.operand;
  semicolon = g.semicolon;
  tree = tree.variable_declaration (declared_as (variable_declaration_kind a)) g.trees;
  reads = kind_reads (variable_declaration_kind a) c (line_of l) g.tokens g.trees g.reads;
  same = λ i. tree.variable_declaration (bare (declaration_kind (variable_declaration_kind a) ∷ if_set (sym m i) ∷ [])) (g.same i);
}

abbrev pub declaration_items : Atoms → Trees → Place → Items
declaration_items a ds place = word (declaration_word (variable_declaration_kind a)) ⊕ (soft_space ⊕ spell_list ds (child levels.Lowest place))

-- printed at one place, in a loop's head or among statements, and read with its kind
abbrev pub VariablesAt : Tables → Allowed → Place → Atoms → Trees → Type 0
VariablesAt names c place a ds = (p : Pen) (l : Last) → p.pending_semicolon ≡ false → Knows names p l → Element names (ReadsVariables (under place c) (variable_declaration_kind a)) p l (layout (declaration_items a ds place) p) (tree.variable_declaration a ds)

good_variables : {names : Tables} (c : Allowed) (a : Atoms) (ds : Trees) (place : Place) → variable_declaration_declare a ≡ false → ListDeclaredAt names c (child levels.Lowest place) ds → VariablesAt names c place a ds
good_variables c a ds place m f p l z k =
    let w : List ℕ = declaration_word (variable_declaration_kind a) in
    let p1 : Pen = layout (word w) p in
    let p2 : Pen = layout soft_space p1 in
    let o = wrote_word w p l (kind_spelled (variable_declaration_kind a)) k in
    let n = soft_space_written p1 (After (Word w)) o.knows in
    let g = f p2 n.last (n.semicolon ∙ z) (n.begun tt) n.writes.knows in
    variables_parts (under place c) a ds p p1 p2 (layout (spell_list ds (child levels.Lowest place)) p2) l m o n g

-- ---- lists of declarators, as a whole and as more of one

pub last_declared : {names : Tables} (c : Allowed) (d : Tree) (place : Place) → DeclaredAt names c place d → ListDeclaredAt names c place (more d no_trees) × MoreDeclaredAt names c place (more d no_trees)
last_declared c d place f =
    let d1 : Allowed = under place c in
    let m = no_more (ReadsDeclarator d1) (ReadsDeclarators d1) (declarators_join d1) place in
    (whole_list (ReadsDeclarator d1) (ReadsDeclarators d1) place d no_trees f m, one_more (ReadsDeclarator d1) (ReadsDeclarators d1) (declarators_join d1) place d no_trees f m)

pub first_declared : {names : Tables} (c : Allowed) (d : Tree) (ds : Trees) (place : Place) → DeclaredAt names c place d → MoreDeclaredAt names c place ds → ListDeclaredAt names c place (more d ds) × MoreDeclaredAt names c place (more d ds)
first_declared c d ds place f m =
    let d1 : Allowed = under place c in
    (whole_list (ReadsDeclarator d1) (ReadsDeclarators d1) place d ds f m, one_more (ReadsDeclarator d1) (ReadsDeclarators d1) (declarators_join d1) place d ds f m)

-- the declarators of a declaration
pub variables_from : {names : Tables} (c : Allowed) (a : Atoms) (ds : Trees) → variable_declaration_declare a ≡ false → ((place : Place) → ListDeclaredAt names c place ds × MoreDeclaredAt names c place ds) → (place : Place) → VariablesAt names c place a ds
variables_from c a ds m f place = good_variables c a ds place m (f (child levels.Lowest place)).0

-- ---- declarations and `var` among statements

unended_variables : {names : Tables} {R : Bool → Tokens → Tree → Type 0} {p q : Pen} {l : Last} (c : Allowed) (a : Atoms) (ds : Trees) → ((last : Bool) (ts b : Tokens) (t : Tree) → EndsBy last ts b → ReadsVariables (with_in c) (variable_declaration_kind a) b t → R last ts t) → Element names (ReadsVariables (with_in c) (variable_declaration_kind a)) p l q (tree.variable_declaration a ds) → Unended names R (SameTree names (tree.variable_declaration a ds)) p l q
unended_variables c a ds f g = record {
  last = g.last;
  tokens = g.tokens;
  writes = g.writes;
  ready = operand_ready g.last g.operand;
  semicolon = g.semicolon;
  reading = g.tree;
  reads = record { read = λ last ts h. f last ts g.tokens g.tree h g.reads };
  same = g.same;
}

pub listed_declaration : {names : Tables} (c : Allowed) (a : Atoms) (ds : Trees) → is_lexical_word (variable_declaration_kind a) ≡ true → ((place : Place) → VariablesAt names c place a ds) → Listed names c (tree.variable_declaration a ds)
listed_declaration c a ds h f =
    let place : Place = among_statements in
    let kind : VariableDeclarationKind = variable_declaration_kind a in
    whole_line (declaration_items a ds place) (λ p l z y k. unended_variables c a ds (λ last ts b t e r. grammar.a_declaration kind (lexical_is_no_var kind h) e r) (f place p l z k))

pub good_variable_statement : {names : Tables} (c : Allowed) (a : Atoms) (ds : Trees) → is_lexical_word (variable_declaration_kind a) ≡ false → ((place : Place) → VariablesAt names c place a ds) → Stated names c (tree.variable_declaration a ds)
good_variable_statement {names} c a ds h f = stated_among refl (whole_line (declaration_items a ds among_statements) inside)
  where
    inside : UnendedAt names (ReadsClosed c false) (SameTree names (tree.variable_declaration a ds)) (declaration_items a ds among_statements)
    inside p l z y k =
        unended_variables c a ds (λ last ts b t e r before_else n. grammar.a_variable_statement e (subst (λ kind. ReadsVariables (with_in c) kind b t) (other_is_var (variable_declaration_kind a) h) r)) (f among_statements p l z k)
