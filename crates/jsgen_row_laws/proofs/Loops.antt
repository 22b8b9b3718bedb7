-- Loops by `for`: what stands in their parentheses, and the body behind it.
use Rattle.std.proofs.Common.{◌≡◌, ℕ, Bool, true, false, not, codes, bytes_eq, ◌||◌, if◌then◌else◌, Some, None, List, [], ◌∷◌, refl, sym, ap, ◌∙◌, subst}
use Rattle.std.proofs.lemmas.Bool.{both_ways}
use Rattle.jsgen_syntax.specs.Escapes.{name_text, word_value}
use Rattle.jsgen_syntax.specs.Name.{spells_name, is_free_name}
use Rattle.jsgen_syntax.specs.declared.precedence.Precedence.TheVariants as levels
use Rattle.jsgen_syntax.proofs.Escapes.{word_text_value}
use Rattle.jsgen_tree.specs.Atom.{declaration_kind}
use Rattle.jsgen_tree.specs.Inside.{ends_open, reference_named, looked_up_in}
use Rattle.jsgen_tree.specs.Job.{Tables}
use Rattle.jsgen_tree.specs.Named.{printed_name}
use Rattle.jsgen_tree.specs.Nodes as tree
use Rattle.jsgen_tree.specs.Places.{bare}
use Rattle.jsgen_tree.specs.Sets.{is_simple_assignment_target}
use Rattle.jsgen_tree.specs.Tree.{Tree, Maybe, absent, given, Trees, no_trees, more, Atoms, type_of}
use Rattle.jsgen_tree.specs.Values.{variable_declaration_kind, variable_declaration_declare, variable_declarator_definite, for_of_statement_is_await}
use Rattle.jsgen_tree.specs.Words.{declaration_word}
use Rattle.jsgen_tree.specs.declared.statements.VariableDeclarationKind.{VariableDeclarationKind}
use Rattle.jsgen_tree.specs.declared.statements.VariableDeclarationKind.TheVariants as kinds
use Rattle.jsgen_tree.specs.declared.types.NodeType.{NodeType}
use Rattle.jsgen_tree.specs.declared.types.NodeType.TheVariants as types
use Rattle.jsgen_model.specs.Punctuator.{Bracket, semicolon, Round, Square, Brace, opening}
use Rattle.jsgen_model.specs.Tokens.{Tokens, done, piece, group, ◌⧺◌, Word, Sign}
use Rattle.jsgen_model.specs.Items.{Items, ◌⊕◌, word, name, punctuator, indentation, soft_space, hard_space, brackets}
use Rattle.jsgen_model.specs.Layout.{Pen, other_end, layout, written}
use Rattle.jsgen_model.specs.Grammar.{Allowed, Level, ReadsExpression, ReadsStatement, ReadsBinding, ReadsInit, ReadsPart, ReadsLeft, loop_values, declaring, with_in, may_precede_of}
use Rattle.jsgen_model.specs.Grammar as grammar
use Rattle.jsgen_model.specs.Normal.{normal, nothing_of, unnumbered, declared_as, if_set}
use Rattle.jsgen_model.specs.Renamed.{renamed}
use Rattle.jsgen_place.specs.declared.place.Place.{Place}
use Rattle.jsgen_place.specs.Place.{among_statements, within_statement, in_brackets, loop_head}
use Rattle.jsgen_model.specs.Spell.{spell, spell_if_given, spell_apart, left_place, shape, body_items, items_if, before_of, apart_from_of}
use Rattle.jsgen_token_laws.proofs.Characters.{letters_spelled}
use Rattle.jsgen_token_laws.proofs.Last.{Last, Open, After, line_of}
use Rattle.jsgen_token_laws.proofs.Writes.{Writes, wrote_none, wrote_both}
use Rattle.jsgen_token_laws.proofs.Steps.{Soft, wrote_word, wrote_name, soft_space_written, hard_space_written, within_brackets, brackets_written}
use Rattle.jsgen_row_laws.proofs.Levels.{from_primary}
use Rattle.jsgen_row_laws.proofs.Families.{IsExpression}
use Rattle.jsgen_row_laws.proofs.Families as family
use Rattle.jsgen_row_laws.proofs.Freed.{freed_binding}
use Rattle.jsgen_row_laws.proofs.Good.{Good, Printed, TargetPrinted, is_word_alone}
use Rattle.jsgen_row_laws.proofs.Adds.{behind_sign, unknown, Is, is, ◌⨟◌, ◌&◌, Nothing, none, Says, Adds, ◌⨾◌, read, forget, semicolon_sign, empty, spaced}
use Rattle.jsgen_row_laws.proofs.Parts.{Reads, SameMaybe, expression, inside, gives_inside}
use Rattle.jsgen_row_laws.proofs.Names.{free_spelled, free_precedes_of}
use Rattle.jsgen_row_laws.proofs.Openings.{precedes_of}
use Rattle.jsgen_row_laws.proofs.Bindings.{Bound, PrintedIfGiven}
use Rattle.jsgen_row_laws.proofs.Targets.{PatternOf}
use Rattle.jsgen_row_laws.proofs.Properties.{same_laid}
use Rattle.jsgen_row_laws.proofs.Declarations.{kind_spelled, VariablesAt}
use Rattle.jsgen_row_laws.proofs.Stands.{StandsAt, ReadsClosed, Stated, StatedAt, stated_among, behind_tokens, indented_line, SameTree}
use Rattle.jsgen_row_laws.proofs.Bodies.{EmptyAlone, good_body}
use Rattle.jsgen_row_laws.proofs.Parentheses.{Inside, InsideAt, ReadsHead, SameHead, headed, headed_line}
use Rattle.jsgen_row_laws.proofs.Normals.{flag_again}

-- the body of a loop, as it is printed behind its head
abbrev body_of : Tree → Items
body_of s = body_items (shape s) (spell s within_statement) (spell s among_statements)

for_spelled : spells_name (codes "for") ≡ true
for_spelled = letters_spelled 102 (codes "or") refl

-- ---- the three parts of a head, with semicolons between

abbrev pub InitOf : Tables → Allowed → Maybe → Type 0
InitOf names c m = InsideAt names (ReadsInit c) (SameMaybe names m) (spell_if_given m loop_head)

pub no_init : {names : Tables} (c : Allowed) → InitOf names c absent
no_init c p l z y k = record { last = l; tokens = done; writes = wrote_none p p l refl k; semicolon = z; reading = absent; reads = grammar.no_init; same = refl }

pub init_expression : {names : Tables} (c : Allowed) (e : Tree) → Printed names c e → InitOf names c (given e)
init_expression c e f p l z y k =
    let g = f loop_head p l z y k in
    record { last = g.last; tokens = g.tokens; writes = g.writes; semicolon = g.semicolon; reading = given g.tree; reads = grammar.first_expression g.reads; same = ap (λ t. given t) g.same }

pub init_variables : {names : Tables} (c : Allowed) (a : Atoms) (ds : Trees) → ((place : Place) → VariablesAt names c place a ds) → InitOf names c (given (tree.variable_declaration a ds))
init_variables c a ds f p l z y k =
    let g = f loop_head p l z k in
    record { last = g.last; tokens = g.tokens; writes = g.writes; semicolon = g.semicolon; reading = given g.tree; reads = grammar.first_variables (variable_declaration_kind a) g.reads; same = ap (λ t. given t) g.same }

-- a part of the head behind a semicolon
abbrev Part : Tables → Allowed → Maybe → Tokens → Type 0
Part names c m = Says (ReadsPart (with_in c)) (SameMaybe names m)

a_part : (names : Tables) (c : Allowed) (t : Tree) {ts : Tokens} → Reads names (ReadsExpression (with_in c) grammar.Expression) t ts → Part names c (given t) ts
a_part names c t r = record { reading = given r.reading; reads = grammar.an_expression_there r.reads; same = ap (λ u. given u) r.same }

no_part : (names : Tables) (c : Allowed) {ts : Tokens} → Nothing ts → Part names c absent ts
no_part names c none = record { reading = absent; reads = grammar.nothing_there; same = refl }

part : {names : Tables} (c : Allowed) (m : Maybe) → PrintedIfGiven names c m → Adds names behind_sign (Part names c m) unknown (spell_apart m (in_brackets levels.Lowest))
part {names} c absent f = forget (read (λ ts r. no_part names c r) empty)
part {names} c (given t) f = forget (read (λ ts r. a_part names c t r) (spaced (expression c refl f (in_brackets levels.Lowest))))

abbrev ForParts : Tables → Allowed → Maybe → Maybe → Maybe → Tokens → Type 0
ForParts names c init test update = Says (ReadsInit c) (SameMaybe names init) ⨟ (Is (Sign semicolon) ⨟ (Part names c test ⨟ (Is (Sign semicolon) ⨟ Part names c update)))

read_for : (names : Tables) (c : Allowed) (a : Atoms) (init test update : Maybe) {ts : Tokens} → ForParts names c init test update ts → Says (ReadsHead c (codes "for")) (SameHead names (λ s. tree.for_statement a init test update s)) ts
read_for names c a init test update (i & (is k & (t & (is m & u)))) = record {
  reading = λ s. tree.for_statement (nothing_of 0) i.reading t.reading u.reading s;
  reads = λ last before_else mark next ts s r. grammar.a_for k m refl i.reads t.reads u.reads r;
  same = λ v s e x. tree.for_statement (nothing_of 0) (i.same x) (t.same x) (u.same x) (e x);
}

abbrev for_items : Maybe → Maybe → Maybe → Items
for_items init test update = spell_if_given init loop_head ⊕ (punctuator semicolon ⊕ (spell_apart test (in_brackets levels.Lowest) ⊕ (punctuator semicolon ⊕ spell_apart update (in_brackets levels.Lowest))))

for_inside : {names : Tables} (c : Allowed) (a : Atoms) (init test update : Maybe) → InitOf names c init → PrintedIfGiven names c test → PrintedIfGiven names c update → InsideAt names (ReadsHead c (codes "for")) (SameHead names (λ s. tree.for_statement a init test update s)) (for_items init test update)
for_inside {names} c a init test update f g h = gives_inside (for_items init test update) (read (λ ts r. read_for names c a init test update r) (inside (spell_if_given init loop_head) refl f ⨾ (semicolon_sign ⨾ (part c test g ⨾ (semicolon_sign ⨾ part c update h)))))

pub good_for : {names : Tables} (c : Allowed) (a : Atoms) (init test update : Maybe) (s : Tree) → InitOf names c init → PrintedIfGiven names c test → PrintedIfGiven names c update → EmptyAlone names s → Stated names c s → Stated names c (tree.for_statement a init test update s)
good_for {names} c a init test update s g h i m f = stated_among refl (headed_line c (codes "for") for_spelled (λ t. tree.for_statement a init test update t) s (ends_open s) (for_items init test update) (body_of s) (for_inside c a init test update g h i) (good_body c s m f))

-- ---- what a loop gives its values

-- these items are what stands before `of`, where the flag holds, or `in`
abbrev LeftAt : Tables → Allowed → Bool → Items → Tree → Type 0
LeftAt names c before_of items t = InsideAt names (ReadsLeft (with_in c) before_of) (SameTree names t) items

-- as it is printed there
abbrev left_items : Bool → Tree → Items
left_items true t = apart_from_of (looked_up_in t) (spell t (left_place (type_of t)))
left_items false t = spell t (left_place (type_of t))

abbrev pub LeftOf : Tables → Allowed → Tree → Type 0
LeftOf names c t = (before_of : Bool) → LeftAt names c before_of (left_items before_of t) t

kind_declares : (kind : VariableDeclarationKind) → declaring kind ≡ declaration_word kind
kind_declares kinds.Const = refl
kind_declares kinds.Let = refl
kind_declares kinds.Var = refl

same_declared : (a d : Atoms) (u v : Tree) → variable_declaration_declare a ≡ false → variable_declarator_definite d ≡ false → normal u ≡ normal v → normal (tree.variable_declaration (declared_as (variable_declaration_kind a)) (more (tree.variable_declarator (nothing_of 1) u absent) no_trees)) ≡ normal (tree.variable_declaration a (more (tree.variable_declarator d v absent) no_trees))
same_declared a d u v h k e = λ i. tree.variable_declaration (bare (declaration_kind (variable_declaration_kind a) ∷ if_set (sym h i) ∷ [])) (more (tree.variable_declarator (bare (if_set (sym k i) ∷ [])) (e i) absent) no_trees)

abbrev declared_items : Atoms → Tree → Items
declared_items a b = word (declaration_word (variable_declaration_kind a)) ⊕ (soft_space ⊕ spell b loop_head)

-- one name, which is declared
declared_left : {names : Tables} (c : Allowed) (a d : Atoms) (b : Tree) (before_of : Bool) → variable_declaration_declare a ≡ false → variable_declarator_definite d ≡ false → Bound names c b → LeftAt names c before_of (declared_items a b) (tree.variable_declaration a (more (tree.variable_declarator d b absent) no_trees))
declared_left {names} c a d b before_of m n f p l z y k =
    let kind : VariableDeclarationKind = variable_declaration_kind a in
    let w : List ℕ = declaration_word kind in
    let p1 : Pen = layout (word w) p in
    let o = wrote_word w p l (kind_spelled kind) k in
    let s = soft_space_written p1 (After (Word w)) o.knows in
    let g = f loop_head (layout soft_space p1) s.last (s.semicolon ∙ z) (s.ready tt) s.writes.knows in
    let u : Tree = tree.variable_declaration (declared_as kind) (more (tree.variable_declarator (nothing_of 1) g.tree absent) no_trees) in
    record {
      last = g.last;
      tokens = piece (line_of l) (Word w) g.tokens;
      writes = wrote_both o (wrote_both s.writes g.writes);
      semicolon = g.semicolon;
      reading = u;
      reads = subst (λ x. ReadsLeft (with_in c) before_of (piece (line_of l) (Word x) g.tokens) u) (kind_declares kind) (grammar.a_declared_name kind (freed_binding g.reads));
      same = same_declared a d g.tree (renamed names b) m n g.same;
    }

pub left_declared : {names : Tables} (c : Allowed) (a d : Atoms) (b : Tree) → variable_declaration_declare a ≡ false → variable_declarator_definite d ≡ false → Bound names c b → LeftOf names c (tree.variable_declaration a (more (tree.variable_declarator d b absent) no_trees))
left_declared c a d b m n f true = declared_left c a d b true m n f
left_declared c a d b m n f false = declared_left c a d b false m n f

-- what is given a value stands where nothing is forbidden
target_place : (type : NodeType) → is_simple_assignment_target type ≡ true → left_place type ≡ in_brackets levels.Comma
target_place types.IdentifierReference h = refl
target_place types.StaticMemberExpression h = refl
target_place types.ComputedMemberExpression h = refl
target_place types.PrivateFieldExpression h = refl
target_place type h = absurd (both_ways false refl h)

-- a target that may stand there
target_left : {names : Tables} (c : Allowed) (before_of : Bool) (t : Tree) → is_simple_assignment_target (type_of t) ≡ true → (before_of ≡ true → looked_up_in t ≡ None) → TargetPrinted names c t → LeftAt names c before_of (spell t (left_place (type_of t))) t
target_left {names} c before_of t s n f = subst (λ at. LeftAt names c before_of (spell t at) t) (sym (target_place (type_of t) s)) inside
  where
    inside : LeftAt names c before_of (spell t (in_brackets levels.Comma)) t
    inside p l z y k =
        let g = f (in_brackets levels.Comma) p l z y k in
        record { last = g.0.last; tokens = g.0.tokens; writes = g.0.writes; semicolon = g.0.semicolon; reading = g.0.tree; reads = grammar.a_target (may before_of n g.3 g.4) g.3 g.1; same = g.0.same }
      where
        may : (b : Bool) → (b ≡ true → looked_up_in t ≡ None) → {ts : Tokens} {u : Tree} → ReadsExpression (with_in c) grammar.LeftHandSide ts u → (looked_up_in t ≡ None → is_word_alone ts ≡ false) → (not b || may_precede_of ts) ≡ true
        may true n r a = precedes_of r (a (n refl))
        may false n r a = refl

-- a name, in parentheses where it is printed `async`
name_left : {names : Tables} (c : Allowed) (a : Atoms) → is_free_name (printed_name names (reference_named a)) ≡ true → LeftAt names c true (left_items true (tree.identifier_reference a)) (tree.identifier_reference a)
name_left {names} c a h p l z y k = subst (λ q. Inside names (ReadsLeft (with_in c) true) (SameTree names (tree.identifier_reference a)) p l q) (sym (same_laid p (codes "async") (reference_named a) (brackets Round alone) alone k.tables)) (by (bytes_eq v (codes "async")) refl)
  where
    v : List ℕ
    v = printed_name names (reference_named a)

    alone : Items
    alone = name a.span (reference_named a)

    u : Tree
    u = tree.identifier_reference (unnumbered v)

    w : List ℕ
    w = name_text p.style.ascii v

    valued : word_value w ≡ Some v
    valued = word_text_value p.style.ascii v (free_spelled v h)

    by : (b : Bool) → bytes_eq v (codes "async") ≡ b → Inside names (ReadsLeft (with_in c) true) (SameTree names (tree.identifier_reference a)) p l (layout (if b then brackets Round alone else alone) p)
    by true e =
        let p1 : Pen = written (opening Round) other_end p in
        let o = wrote_name (reference_named a) p1 (Open false) (free_spelled v h) (within_brackets Round p l k) in
        record {
          last = Open false;
          tokens = group (line_of l) Round (piece false (Word w) done) done;
          writes = brackets_written Round p (layout alone p1) l (After (Word w)) (piece false (Word w) done) o;
          semicolon = z;
          reading = u;
          reads = grammar.a_target refl (grammar.a_new (grammar.a_member (grammar.a_primary (grammar.in_parentheses (from_primary (in_brackets levels.Lowest) (grammar.a_reference valued h)))))) refl;
          same = refl;
        }
    by false e = record {
      last = After (Word w);
      tokens = piece (line_of l) (Word w) done;
      writes = wrote_name (reference_named a) p l (free_spelled v h) k;
      semicolon = z;
      reading = u;
      reads = grammar.a_target (free_precedes_of (line_of l) w v valued h e) (grammar.a_new (grammar.a_member (grammar.a_primary (grammar.a_reference valued h)))) refl;
      same = refl;
    }

pub left_target : {names : Tables} {c : Allowed} {t : Tree} → IsExpression names c t → is_simple_assignment_target (type_of t) ≡ true → TargetPrinted names c t → LeftOf names c t
left_target {c = c} {t} v s f false = target_left c false t s (λ e. absurd (both_ways false refl e)) f
left_target {c = c} (family.a_reference {a} h) s f true = name_left c a h
left_target {c = c} {t} (family.a_named_member m v h) s f true = target_left c true t s (λ e. refl) f
left_target {c = c} {t} (family.a_private_member e m v h) s f true = target_left c true t s (λ i. refl) f
left_target {c = c} {t} (family.a_computed_member m v w) s f true = target_left c true t s (λ e. refl) f
left_target v s f true = absurd (both_ways false refl s)

-- a pattern of targets, which begins with a bracket
pattern_inside : {names : Tables} {b : Bracket} {t : Tree} (c : Allowed) (before_of : Bool) → PatternOf names c b t → LeftAt names c before_of (spell t (in_brackets levels.Comma)) t
pattern_inside {b = b} c before_of f p l z y k =
    let g = f (in_brackets levels.Comma) p l z k in
    record { last = Open false; tokens = group (line_of l) b g.inside done; writes = g.writes; semicolon = g.semicolon; reading = g.reading; reads = grammar.a_left_pattern g.reads; same = g.same }

pub left_array : {names : Tables} (c : Allowed) (a : Atoms) (es : Trees) (rest : Maybe) → PatternOf names c Square (tree.array_target a es rest) → LeftOf names c (tree.array_target a es rest)
left_array c a es rest f true = pattern_inside c true f
left_array c a es rest f false = pattern_inside c false f

pub left_object : {names : Tables} (c : Allowed) (a : Atoms) (ps : Trees) (rest : Maybe) → PatternOf names c Brace (tree.object_target a ps rest) → LeftOf names c (tree.object_target a ps rest)
left_object c a ps rest f true = pattern_inside c true f
left_object c a ps rest f false = pattern_inside c false f

-- ---- over keys and over values

-- from what is given the values, a blank, the word, a blank and what has them
over_parts : {names : Tables} (c : Allowed) (R : Tokens → (Tree → Tree) → Type 0) (k : List ℕ) (before_of : Bool) (left right : Tree) (made : Tree → Tree) (whole : Tree → Tree → Tree → Tree) (level : Level) (p p1 p2 p3 p4 q : Pen) (l : Last)
    → ((a b : Tokens) (mark : Bool) (u v : Tree) → ReadsLeft (with_in c) before_of a u → ReadsExpression (with_in c) level b v → R (a ⧺ piece mark (Word k) b) (λ s. whole u v s))
    → ((u v : Tree) → normal u ≡ normal (renamed names left) → normal v ≡ normal (renamed names right) → SameHead names made (λ s. whole u v s))
    → (g : Inside names (ReadsLeft (with_in c) before_of) (SameTree names left) p l p1) (s : Soft names p1 g.last p2) → Writes names p2 s.last p3 (After (Word k)) (piece (line_of s.last) (Word k) done) → (n : Soft names p3 (After (Word k)) p4) → Good names p4 n.last q (with_in c) level right → Inside names R (SameHead names made) p l q
over_parts c R k before_of left right made whole level p p1 p2 p3 p4 q l join same g s o n h = record {
  last = h.last;
  tokens = g.tokens ⧺ piece (line_of s.last) (Word k) h.tokens;
  writes = wrote_both g.writes (wrote_both s.writes (wrote_both o (wrote_both n.writes h.writes)));
  semicolon = h.semicolon;
  reading = λ t. whole g.reading h.tree t;
  reads = join g.tokens h.tokens (line_of s.last) g.reading h.tree g.reads h.reads;
  same = same g.reading h.tree g.same h.same;
}

abbrev over_items : List ℕ → Items → Items → Items
over_items k left right = left ⊕ (soft_space ⊕ (word k ⊕ (soft_space ⊕ right)))

same_for_in : (names : Tables) (a : Atoms) (t e u v : Tree) → normal u ≡ normal (renamed names t) → normal v ≡ normal (renamed names e) → SameHead names (λ s. tree.for_in_statement a t e s) (λ s. tree.for_in_statement (nothing_of 0) u v s)
same_for_in names a t e u v f g x s h = λ i. tree.for_in_statement (nothing_of 0) (f i) (g i) (h i)

for_in_inside : {names : Tables} (c : Allowed) (a : Atoms) (t e : Tree) → LeftOf names c t → Printed names c e → InsideAt names (ReadsHead c (codes "for")) (SameHead names (λ s. tree.for_in_statement a t e s)) (over_items (codes "in") (left_items false t) (spell e (in_brackets levels.Lowest)))
for_in_inside {names} c a t e f h p l z y k =
    let p1 : Pen = layout (left_items false t) p in
    let p2 : Pen = layout soft_space p1 in
    let p3 : Pen = layout (word (codes "in")) p2 in
    let p4 : Pen = layout soft_space p3 in
    let g = f false p l z y k in
    let s = soft_space_written p1 g.last g.writes.knows in
    let o = wrote_word (codes "in") p2 s.last (letters_spelled 105 (codes "n") refl) s.writes.knows in
    let n = soft_space_written p3 (After (Word (codes "in"))) o.knows in
    let i = h (in_brackets levels.Lowest) p4 n.last (n.semicolon ∙ (s.semicolon ∙ g.semicolon)) (n.ready tt) n.writes.knows in
    over_parts c (ReadsHead c (codes "for")) (codes "in") false t e (λ x. tree.for_in_statement a t e x) (λ u v x. tree.for_in_statement (nothing_of 0) u v x) grammar.Expression p p1 p2 p3 p4 (layout (spell e (in_brackets levels.Lowest)) p4) l
    (λ x b mark u v r j last before_else first next ts w q. grammar.a_for_in mark refl r j q) (λ u v j m. same_for_in names a t e u v j m) g s o n i

pub good_for_in : {names : Tables} (c : Allowed) (a : Atoms) (l e s : Tree) → LeftOf names c l → Printed names c e → EmptyAlone names s → Stated names c s → Stated names c (tree.for_in_statement a l e s)
good_for_in {names} c a l e s g h m f = stated_among refl (headed_line c (codes "for") for_spelled (λ t. tree.for_in_statement a l e t) s (ends_open s) (over_items (codes "in") (left_items false l) (spell e (in_brackets levels.Lowest))) (body_of s) (for_in_inside c a l e g h) (good_body c s m f))

-- the words of a loop with `of`, which may wait for each value
abbrev ReadsAwaitHead : Allowed → Tokens → (Tree → Tree) → Type 0
ReadsAwaitHead c head whole = (last before_else mark second next : Bool) (ts : Tokens) (s : Tree) → ReadsStatement c last before_else ts s → ReadsStatement c last before_else (piece mark (Word (codes "for")) (piece second (Word (codes "await")) (group next Round head ts))) (whole s)

abbrev ReadsOver : Allowed → Bool → Tokens → (Tree → Tree) → Type 0
ReadsOver c true head whole = ReadsAwaitHead c head whole
ReadsOver c false head whole = ReadsHead c (codes "for") head whole

join_over : (c : Allowed) (await : Bool) → (await ≡ true → c.await_operand ≡ true) → (a b : Tokens) (mark : Bool) (u v : Tree) → ReadsLeft (with_in c) (not await) a u → ReadsExpression (with_in c) grammar.Assignment b v → ReadsOver c await (a ⧺ piece mark (Word (codes "of")) b) (λ s. tree.for_of_statement (loop_values await) u v s)
join_over c true h a b mark u v r s = λ last before_else first second next ts w q. grammar.a_for_await mark (h refl) refl r s q
join_over c false h a b mark u v r s = λ last before_else first next ts w q. grammar.a_for_of mark refl r s q

same_for_of : (names : Tables) (a : Atoms) (await : Bool) (t e u v : Tree) → for_of_statement_is_await a ≡ await → normal u ≡ normal (renamed names t) → normal v ≡ normal (renamed names e) → SameHead names (λ s. tree.for_of_statement a t e s) (λ s. tree.for_of_statement (loop_values await) u v s)
same_for_of names a await t e u v m f g x s h = let w = flag_again await ∙ sym m in λ i. tree.for_of_statement (loop_values (w i)) (f i) (g i) (h i)

for_of_inside : {names : Tables} (c : Allowed) (await : Bool) (a : Atoms) (t e : Tree) → for_of_statement_is_await a ≡ await → (await ≡ true → c.await_operand ≡ true) → LeftOf names c t → Printed names c e → InsideAt names (ReadsOver c await) (SameHead names (λ s. tree.for_of_statement a t e s)) (over_items (codes "of") (left_items (not await) t) (spell e (in_brackets levels.Comma)))
for_of_inside {names} c await a t e w o f h p l z y k =
    let p1 : Pen = layout (left_items (not await) t) p in
    let p2 : Pen = layout soft_space p1 in
    let p3 : Pen = layout (word (codes "of")) p2 in
    let p4 : Pen = layout soft_space p3 in
    let g = f (not await) p l z y k in
    let s = soft_space_written p1 g.last g.writes.knows in
    let x = wrote_word (codes "of") p2 s.last (letters_spelled 111 (codes "f") refl) s.writes.knows in
    let n = soft_space_written p3 (After (Word (codes "of"))) x.knows in
    let i = h (in_brackets levels.Comma) p4 n.last (n.semicolon ∙ (s.semicolon ∙ g.semicolon)) (n.ready tt) n.writes.knows in
    over_parts c (ReadsOver c await) (codes "of") (not await) t e (λ b. tree.for_of_statement a t e b) (λ u v b. tree.for_of_statement (loop_values await) u v b) grammar.Assignment p p1 p2 p3 p4 (layout (spell e (in_brackets levels.Comma)) p4) l
    (λ b d mark u v r j. join_over c await o b d mark u v r j) (λ u v j m. same_for_of names a await t e u v w j m) g s x n i

-- the word `await` behind the first
await_line : {names : Tables} (c : Allowed) (made : Tree → Tree) (s : Tree) (is_open : Bool) (items body : Items) → InsideAt names (ReadsAwaitHead c) (SameHead names made) items → StandsAt names (ReadsClosed c is_open) (SameTree names s) body → StandsAt names (ReadsClosed c is_open) (SameTree names (made s)) (word (codes "for") ⊕ ((hard_space ⊕ word (codes "await")) ⊕ (soft_space ⊕ (brackets Round items ⊕ body))))
await_line c made s is_open items body f g p l z y k =
    let p1 : Pen = layout (word (codes "for")) p in
    let p2 : Pen = layout hard_space p1 in
    let o = wrote_word (codes "for") p l for_spelled k in
    let n = hard_space_written p1 (After (Word (codes "for"))) o.knows in
    let h = headed (codes "await") (letters_spelled 97 (codes "wait") refl) items f p2 n.last (n.semicolon ∙ z) n.writes.knows in
    behind_tokens (piece (line_of l) (Word (codes "for")) (piece (line_of n.last) (Word (codes "await")) (group h.next Round h.tokens done))) h.reading (wrote_both o (wrote_both n.writes h.writes)) (λ e ts u r before_else b. h.reads e before_else (line_of l) (line_of n.last) h.next ts u (r before_else b)) (λ u e. h.same u s e)
    (g (layout (word (codes "await") ⊕ (soft_space ⊕ brackets Round items)) p2) (Open false) h.semicolon tt h.writes.knows)

-- the whole, by whether it waits; what is given the values is `async` in parentheses where it doesn't
abbrev for_of_items : Bool → Tree → Tree → Tree → Items
for_of_items await l e s =
    indentation ⊕ (word (codes "for") ⊕ (items_if await (hard_space ⊕ word (codes "await")) ⊕ (soft_space
    ⊕ (brackets Round (over_items (codes "of") (before_of await (looked_up_in l) (spell l (left_place (type_of l)))) (spell e (in_brackets levels.Comma))) ⊕ body_of s))))

for_of_line : {names : Tables} (c : Allowed) (await : Bool) (a : Atoms) (l e s : Tree) → InsideAt names (ReadsOver c await) (SameHead names (λ t. tree.for_of_statement a l e t)) (over_items (codes "of") (left_items (not await) l) (spell e (in_brackets levels.Comma))) → StandsAt names (ReadsClosed c (ends_open s)) (SameTree names s) (body_of s) → StatedAt names c (tree.for_of_statement a l e s) (for_of_items await l e s)
for_of_line c true a l e s f g = indented_line (word (codes "for") ⊕ ((hard_space ⊕ word (codes "await")) ⊕ (soft_space ⊕ (brackets Round (over_items (codes "of") (left_items false l) (spell e (in_brackets levels.Comma))) ⊕ body_of s)))) (await_line c (λ t. tree.for_of_statement a l e t) s (ends_open s) (over_items (codes "of") (left_items false l) (spell e (in_brackets levels.Comma))) (body_of s) f g)
for_of_line c false a l e s f g = headed_line c (codes "for") for_spelled (λ t. tree.for_of_statement a l e t) s (ends_open s) (over_items (codes "of") (left_items true l) (spell e (in_brackets levels.Comma))) (body_of s) f g

spelled_for_of : (a : Atoms) (await : Bool) (l e s : Tree) → for_of_statement_is_await a ≡ await → for_of_items await l e s ≡ for_of_items (for_of_statement_is_await a) l e s
spelled_for_of a await l e s n = λ i. for_of_items (sym n i) l e s

pub good_for_of : {names : Tables} {await : Bool} (c : Allowed) (a : Atoms) (l e s : Tree) → for_of_statement_is_await a ≡ await → (await ≡ true → c.await_operand ≡ true) → LeftOf names c l → Printed names c e → EmptyAlone names s → Stated names c s → Stated names c (tree.for_of_statement a l e s)
good_for_of {names} {await} c a l e s n w g h m f = stated_among refl (subst (λ x. StatedAt names c (tree.for_of_statement a l e s) x) (spelled_for_of a await l e s n) (for_of_line c await a l e s (for_of_inside c await a l e n w g h) (good_body c s m f)))
