-- Parameters, and the one that takes the rest.
use Rattle.std.proofs.Common.{◌≡◌, ℕ, Bool, true, false, not, Some, List, [], ◌∷◌, refl, sym, ap, ◌∙◌, subst}
use Rattle.std.proofs.lemmas.Bool.{both_ways}
use Rattle.jsgen_syntax.specs.Escapes.{name_text, word_value}
use Rattle.jsgen_syntax.specs.Name.{is_free_name}
use Rattle.jsgen_syntax.specs.declared.precedence.Precedence.TheVariants as levels
use Rattle.jsgen_syntax.proofs.Escapes.{word_text_value}
use Rattle.jsgen_tree.specs.Job.{Tables}
use Rattle.jsgen_tree.specs.Tree.{Tree, Maybe, absent, given, Trees, no_trees, more, Atoms}
use Rattle.jsgen_tree.specs.Places.{bare}
use Rattle.jsgen_tree.specs.Values.{formal_parameter_is_override, formal_parameter_readonly, formal_parameter_optional}
use Rattle.jsgen_tree.specs.Inside.{binding_named}
use Rattle.jsgen_tree.specs.Named.{Named, printed_name}
use Rattle.jsgen_tree.specs.Nodes as tree
use Rattle.jsgen_model.specs.Punctuator.{ellipsis, comma, Round, opening, closing}
use Rattle.jsgen_model.specs.Tokens.{Tokens, done, piece, group, Word, Sign}
use Rattle.jsgen_model.specs.Items.{Items, ◌⊕◌, punctuator, soft_space, brackets}
use Rattle.jsgen_model.specs.Layout.{Pen, other_end, layout, written, written_if, with_name_written}
use Rattle.jsgen_model.specs.Grammar.{Allowed, in_parameters, ReadsArrowParameters, ReadsParameters, ReadsParameter}
use Rattle.jsgen_model.specs.Grammar as grammar
use Rattle.jsgen_model.specs.Normal.{normal, normal_maybe, nothing_of, unnumbered, if_set}
use Rattle.jsgen_model.specs.Renamed.{renamed, renamed_maybe}
use Rattle.jsgen_place.specs.declared.place.Place.{Place}
use Rattle.jsgen_place.specs.Place.{child, within}
use Rattle.jsgen_model.specs.Spell.{spell, spell_list, spell_more, spell_if_given, is_name_alone, parameter_items, comma_between}
use Rattle.jsgen_token_laws.proofs.Last.{Last, Open, After, line_of, Ready, Knows}
use Rattle.jsgen_token_laws.proofs.Writes.{wrote_none, wrote_both}
use Rattle.jsgen_token_laws.proofs.Steps.{wrote_name, wrote_comma, wrote_dots, soft_space_written, within_brackets, brackets_written, unopened}
use Rattle.jsgen_row_laws.proofs.Levels.{under}
use Rattle.jsgen_row_laws.proofs.Families.{IsParameters}
use Rattle.jsgen_row_laws.proofs.Families as family
use Rattle.jsgen_row_laws.proofs.Names.{free_spelled, name_begins}
use Rattle.jsgen_row_laws.proofs.Freed.{freed_list}
use Rattle.jsgen_row_laws.proofs.Good.{GoodAs, begins_all, unwritten_round}
use Rattle.jsgen_row_laws.proofs.Lists.{Elements, ElementAt, GivesMore, JoinsOne, JoinsFirst, none_behind, one_behind, first_and_others}
use Rattle.jsgen_row_laws.proofs.Bindings.{Bound, PrintedIfGiven, Holds, HoldsAlone, good_held}

-- ---- one parameter

same_parameter : (a : Atoms) (b u : Tree) (m n : Maybe) → formal_parameter_is_override a ≡ false → formal_parameter_readonly a ≡ false → formal_parameter_optional a ≡ false → normal b ≡ normal u → normal_maybe m ≡ normal_maybe n → normal (tree.formal_parameter (nothing_of 3) b m) ≡ normal (tree.formal_parameter a u n)
same_parameter a b u m n h i j e f = λ x. tree.formal_parameter (bare (if_set (sym h x) ∷ if_set (sym i x) ∷ if_set (sym j x) ∷ [])) (e x) (f x)

parameter_holds : {names : Tables} (c : Allowed) (a : Atoms) → formal_parameter_is_override a ≡ false → formal_parameter_readonly a ≡ false → formal_parameter_optional a ≡ false → Holds names c (ReadsParameter c) (λ b m. tree.formal_parameter a b m)
parameter_holds {names} c a h i j = record {
  reading = λ b m. tree.formal_parameter (nothing_of 3) b m;
  with_value = λ mark x v b e r s. grammar.with_initializer mark refl r s;
  same = λ b u m n e f. same_parameter a b (renamed names u) m (renamed_maybe names n) h i j e f;
}

abbrev pub ParameterOf : Tables → Allowed → Tree → Type 0
ParameterOf names c t = (place : Place) → ElementAt names (ReadsParameter (under place c)) place t

-- a binding of any kind is a parameter by itself
parameter_alone : (names : Tables) (c : Allowed) (a : Atoms) (b : Tree) (m : Maybe) (h : formal_parameter_is_override a ≡ false) (i : formal_parameter_readonly a ≡ false) (j : formal_parameter_optional a ≡ false) → HoldsAlone (parameter_holds {names = names} c a h i j) b m
unfolding parameter_holds
parameter_alone names c a b absent h i j = λ ts u r e. grammar.a_parameter r
parameter_alone names c a b (given v) h i j = tt

pub good_parameter : {names : Tables} (c : Allowed) (a : Atoms) (b : Tree) (m : Maybe) → formal_parameter_is_override a ≡ false → formal_parameter_readonly a ≡ false → formal_parameter_optional a ≡ false → Bound names c b → PrintedIfGiven names c m → ParameterOf names c (tree.formal_parameter a b m)
good_parameter c a b m h i j f v place = good_held c (ReadsParameter (under place c)) (λ x n. tree.formal_parameter a x n) b m place (parameter_holds (under place c) a h i j) (parameter_alone _ (under place c) a b m h i j) f v

-- ---- the one that takes the rest

abbrev ReadsRest : Allowed → Tokens → Tree → Type 0
ReadsRest c ts t = ReadsParameters c ts no_trees (given t)

abbrev pub RestOf : Tables → Allowed → Maybe → Type 0
RestOf names c absent = Unit {0}
RestOf names c (given t) = (place : Place) → ElementAt names (ReadsRest (under place c)) place t

pub good_rest : {names : Tables} (c : Allowed) (a : Atoms) (b : Tree) → Bound names c b → RestOf names c (given (tree.formal_parameter_rest a b))
good_rest c a b f place p l z y k =
    let o = wrote_dots p l y k in
    let g = f (child levels.Lowest place) (layout (punctuator ellipsis) p) (After (Sign ellipsis)) z tt o.knows in
    record {
      last = g.last;
      tokens = piece (line_of l) (Sign ellipsis) g.tokens;
      writes = wrote_both o g.writes;
      operand = g.operand;
      semicolon = g.semicolon;
      tree = tree.formal_parameter_rest (nothing_of 0) g.tree;
      reads = grammar.a_rest g.reads;
      same = ap (λ x. tree.formal_parameter_rest (nothing_of 0) x) g.same;
    }

-- ---- all of them

-- read with one that takes the rest, of this normal form, or with none
abbrev ReadsWithRest : Tables → Allowed → Maybe → Tokens → Trees → Type 0
ReadsWithRest names c rest ts ps = (r : Maybe) × ReadsParameters c ts ps r × (normal_maybe r ≡ normal_maybe (renamed_maybe names rest))

joins_one : (names : Tables) (c : Allowed) → JoinsOne (ReadsParameter c) (ReadsWithRest names c absent)
joins_one names c ts t r = (absent, grammar.last_parameter r, refl)

joins_first : (names : Tables) (c : Allowed) (rest : Maybe) → JoinsFirst (ReadsParameter c) (ReadsWithRest names c rest)
joins_first names c rest mark a b t us r s = (s.0, grammar.first_parameter mark refl r s.1, s.2)

-- what takes the rest stands behind the others, and behind a comma
abbrev rest_items : Maybe → Place → Items
rest_items absent place = spell_if_given absent place
rest_items (given t) place = (punctuator comma ⊕ soft_space) ⊕ spell t place

rest_behind : {names : Tables} (c : Allowed) (rest : Maybe) → RestOf names c rest → (place : Place) → GivesMore names (ReadsParameter (under place c)) (ReadsWithRest names (under place c) rest) (rest_items rest place) no_trees
rest_behind {names} c absent f place p l z o k = none_behind (ReadsParameter (under place c)) (ReadsWithRest names (under place c) absent) (joins_one names (under place c)) p l z o k
rest_behind c (given t) f place p l z o k =
    let p1 : Pen = layout (punctuator comma) p in
    let p2 : Pen = layout soft_space p1 in
    let w = wrote_comma p l k in
    let n = soft_space_written p1 (After (Sign comma)) w.knows in
    let g = f place p2 n.last (n.semicolon ∙ z) (n.begun tt) n.writes.knows in
    record {
      last = g.last;
      tokens = piece (line_of l) (Sign comma) g.tokens;
      writes = wrote_both w (wrote_both n.writes g.writes);
      operand = g.operand;
      semicolon = g.semicolon;
      trees = no_trees;
      reads = λ a u r. (given g.tree, grammar.first_parameter (line_of l) refl r g.reads, ap (λ x. given x) g.same);
      same = refl;
    }

-- more of them, whatever takes the rest
abbrev pub MoreParametersOf : Tables → Allowed → Trees → Type 0
MoreParametersOf names c ps = (rest : Maybe) (place : Place) → GivesMore names (ReadsParameter (under place c)) (ReadsWithRest names (under place c) rest) (rest_items rest place) no_trees → GivesMore names (ReadsParameter (under place c)) (ReadsWithRest names (under place c) rest) (spell_more ps place ⊕ rest_items rest place) ps

pub no_more_parameters : {names : Tables} (c : Allowed) → MoreParametersOf names c no_trees
no_more_parameters c rest place f = f

pub one_more_parameter : {names : Tables} (c : Allowed) (t : Tree) (ts : Trees) → ParameterOf names c t → MoreParametersOf names c ts → MoreParametersOf names c (more t ts)
one_more_parameter {names} c t ts f h rest place g = one_behind (ReadsParameter (under place c)) (ReadsWithRest names (under place c) rest) (joins_first names (under place c) rest) t ts (spell t place) (spell_more ts place ⊕ rest_items rest place) (f place) (h rest place g)

-- behind an opening bracket
abbrev pub ParametersOf : Tables → Allowed → Trees → Maybe → Type 0
ParametersOf names c ps rest = (place : Place) (p : Pen) → p.pending_semicolon ≡ false → Knows names p (Open false) → Elements names (ReadsWithRest names (under place c) rest) p (Open false) (layout (spell_list ps place ⊕ (comma_between ps rest ⊕ spell_if_given rest place)) p) ps

pub no_parameters : {names : Tables} (c : Allowed) (rest : Maybe) → RestOf names c rest → ParametersOf names c no_trees rest
no_parameters c absent f place p z k = record { last = Open false; tokens = done; writes = wrote_none p p (Open false) refl k; operand = tt; semicolon = z; trees = no_trees; reads = (absent, grammar.no_parameter, refl); same = refl }
no_parameters c (given t) f place p z k =
    let g = f place p (Open false) z tt k in
    record { last = g.last; tokens = g.tokens; writes = g.writes; operand = g.operand; semicolon = g.semicolon; trees = no_trees; reads = (given g.tree, g.reads, ap (λ x. given x) g.same); same = refl }

pub some_parameters : {names : Tables} (c : Allowed) (t : Tree) (ts : Trees) (rest : Maybe) → ParameterOf names c t → MoreParametersOf names c ts → RestOf names c rest → ParametersOf names c (more t ts) rest
some_parameters {names} c t ts rest f h r place p z k = by rest r
  where
    by : (m : Maybe) → RestOf names c m → Elements names (ReadsWithRest names (under place c) m) p (Open false) (layout (spell_list (more t ts) place ⊕ (comma_between (more t ts) m ⊕ spell_if_given m place)) p) (more t ts)
    by absent r = first_and_others (ReadsParameter (under place c)) (ReadsWithRest names (under place c) absent) t ts (spell t place) (spell_more ts place ⊕ rest_items absent place) (f place) (h absent place (rest_behind c absent r place)) p (Open false) z tt k
    by (given u) r = first_and_others (ReadsParameter (under place c)) (ReadsWithRest names (under place c) (given u)) t ts (spell t place) (spell_more ts place ⊕ rest_items (given u) place) (f place) (h (given u) place (rest_behind c (given u) r place)) p (Open false) z tt k

-- ---- one alone, which a setter takes

abbrev pub OnlyParameter : Allowed → Tokens → Trees → Type 0
OnlyParameter c ts ps = (t : Tree) × (ps ≡ more t no_trees) × ReadsParameter c ts t

pub only_parameter : {names : Tables} (c : Allowed) (t : Tree) → ParameterOf names c t → (place : Place) (p : Pen) → p.pending_semicolon ≡ false → Knows names p (Open false) → Elements names (OnlyParameter (under place c)) p (Open false) (layout (spell_list (more t no_trees) place ⊕ (comma_between (more t no_trees) absent ⊕ spell_if_given absent place)) p) (more t no_trees)
only_parameter {names} c t f place p z k = first_and_others (ReadsParameter (under place c)) (OnlyParameter (under place c)) t no_trees (spell t place) (spell_more no_trees place ⊕ rest_items absent place) (f place) (none_behind (ReadsParameter (under place c)) (OnlyParameter (under place c)) (λ ts u r. (u, refl, r))) p (Open false) z tt k

-- ---- before an arrow

-- where they stand
abbrev pub parameters_place : Place → Place
parameters_place place = child levels.Comma (within true place)

-- printed at an arrow function's place, and read where it stands in parentheses or not; no line end follows them
abbrev pub ArrowParametersOf : Tables → Tree → Type 0
ArrowParametersOf names t = (place : Place) (p : Pen) (l : Last) → p.pending_semicolon ≡ false → Ready l → Knows names p l → (g : GoodAs names ReadsArrowParameters p l (layout (parameter_items (is_name_alone t) (spell t (parameters_place place))) p) t) × (line_of g.last ≡ false)

-- one parameter, which is a name alone
pub record NameAlone (names : Tables) (t : Tree) : Type 0 where
  pub value : Named
  pub spelled : (place : Place) (p : Pen) → layout (spell t place) p ≡ with_name_written (printed_name p.style.tables value) p
  pub free : is_free_name (printed_name names value) ≡ true
  pub form : normal (renamed names t) ≡ tree.formal_parameters (nothing_of 0) (more (tree.formal_parameter (nothing_of 3) (tree.binding_identifier (unnumbered (printed_name names value))) absent) no_trees) absent

pub name_alone : {names : Tables} {c : Allowed} {t : Tree} → IsParameters names c t → is_name_alone t ≡ true → NameAlone names t
name_alone {names} (family.all_parameters (family.first_parameter (family.a_parameter {a = b} h i j (family.a_bound_name {a} f) family.no_value) family.no_parameter) family.no_rest) e = record {
  value = binding_named a;
  spelled = λ place p. refl;
  free = f;
  form = λ x. tree.formal_parameters (nothing_of 0) (more (tree.formal_parameter (bare (if_set (h x) ∷ if_set (i x) ∷ if_set (j x) ∷ [])) (tree.binding_identifier (unnumbered (printed_name names (binding_named a)))) absent) no_trees) absent;
}
name_alone (family.all_parameters (family.first_parameter (family.a_parameter h i j (family.a_bound_name f) family.no_value) family.no_parameter) (family.a_rest r)) e = absurd (both_ways false refl e)
name_alone (family.all_parameters (family.first_parameter (family.a_parameter h i j (family.a_bound_name f) family.no_value) (family.first_parameter v w)) r) e = absurd (both_ways false refl e)
name_alone (family.all_parameters (family.first_parameter (family.a_parameter h i j (family.a_bound_name f) (family.a_value v)) w) r) e = absurd (both_ways false refl e)
name_alone (family.all_parameters (family.first_parameter (family.a_parameter h i j (family.an_array_pattern f g) v) w) r) e = absurd (both_ways false refl e)
name_alone (family.all_parameters (family.first_parameter (family.a_parameter h i j (family.an_object_pattern f g) v) w) r) e = absurd (both_ways false refl e)
name_alone (family.all_parameters family.no_parameter r) e = absurd (both_ways false refl e)

bare_parameter : {names : Tables} (t : Tree) → NameAlone names t → (place : Place) (p : Pen) (l : Last) → p.pending_semicolon ≡ false → Knows names p l → (g : GoodAs names ReadsArrowParameters p l (layout (spell t (parameters_place place)) p) t) × (line_of g.last ≡ false)
bare_parameter {names} t n place p l z k =
    let v : List ℕ = printed_name names n.value in
    let w : List ℕ = name_text p.style.ascii v in
    let e : word_value w ≡ Some v = word_text_value p.style.ascii v (free_spelled v n.free) in
    subst (λ q. (g : GoodAs names ReadsArrowParameters p l q t) × (line_of g.last ≡ false)) (sym (n.spelled (parameters_place place) p)) (
      record {
        last = After (Word w);
        tokens = piece (line_of l) (Word w) done;
        writes = wrote_name n.value p l (free_spelled v n.free) k;
        operand = tt;
        semicolon = z;
        begins = λ b h. name_begins p.start (line_of l) w v b e n.free h;
        line = λ h. ap not h;
        tree = tree.formal_parameters (nothing_of 0) (more (tree.formal_parameter (nothing_of 3) (tree.binding_identifier (unnumbered v)) absent) no_trees) absent;
        reads = grammar.a_parameter_name e n.free;
        same = sym n.form;
      },
      refl,
    )

grouped_parameters : {names : Tables} (a : Atoms) (ps : Trees) (rest : Maybe) → ParametersOf names in_parameters ps rest → let t = tree.formal_parameters a ps rest in (place : Place) (p : Pen) (l : Last) → p.pending_semicolon ≡ false → Knows names p l → (g : GoodAs names ReadsArrowParameters p l (layout (brackets Round (spell t (parameters_place place))) p) t) × (line_of g.last ≡ false)
grouped_parameters a ps rest f place p l z k =
    let p1 : Pen = written (opening Round) other_end p in
    let q : Pen = layout (spell (tree.formal_parameters a ps rest) (parameters_place place)) p1 in
    let g = f (parameters_place place) p1 z (within_brackets Round p l k) in (
      record {
        last = Open false;
        tokens = group (line_of l) Round g.tokens done;
        writes = brackets_written Round p q l g.last g.tokens g.writes;
        operand = tt;
        semicolon = g.semicolon;
        begins = λ b h. begins_all p.start (group (line_of l) Round g.tokens b) refl;
        line = λ h. ap not h;
        tree = tree.formal_parameters (nothing_of 0) g.trees g.reads.0;
        reads = grammar.grouped_parameters (freed_list g.reads.1);
        same = let e = g.same in let h = g.reads.2 in λ i. tree.formal_parameters (nothing_of 0) (e i) (h i);
      },
      refl,
    )

pub good_arrow_parameters : {names : Tables} (a : Atoms) (ps : Trees) (rest : Maybe) → (is_name_alone (tree.formal_parameters a ps rest) ≡ true → NameAlone names (tree.formal_parameters a ps rest)) → ParametersOf names in_parameters ps rest → ArrowParametersOf names (tree.formal_parameters a ps rest)
good_arrow_parameters {names} a ps rest alone f place p l z y k = by (is_name_alone t) refl
  where
    t : Tree
    t = tree.formal_parameters a ps rest

    items : Items
    items = spell t (parameters_place place)

    -- minified text has no parentheses round it
    by_style : is_name_alone t ≡ true → (minified : Bool) → (g : GoodAs names ReadsArrowParameters p l (written_if (not minified) (closing Round) (layout items (written_if (not minified) (opening Round) p))) t) × (line_of g.last ≡ false)
    by_style e true =
        let p1 : Pen = written_if false (opening Round) p in
        let a = unopened p l (opening Round) k in
        let g = bare_parameter t (alone e) place p1 a.last (a.semicolon ∙ z) a.writes.knows in
        let b = unopened (layout items p1) g.0.last (closing Round) g.0.writes.knows in
        (unwritten_round a g.0 b, b.line g.1)
    by_style e false = grouped_parameters a ps rest f place p l z k

    by : (b : Bool) → is_name_alone t ≡ b → (g : GoodAs names ReadsArrowParameters p l (layout (parameter_items b items) p) t) × (line_of g.last ≡ false)
    by true e = by_style e p.style.minified
    by false e = grouped_parameters a ps rest f place p l z k
