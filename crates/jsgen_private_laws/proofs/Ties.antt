-- What a tree is spelled by, settled, is what the resolved tree is spelled by, and counts the tree's classes; and the same of what a row spells of a list.
use Rattle.std.proofs.Common.{◌≡◌, ℕ, Bool, true, false, refl, sym, ap}
use Rattle.std.specs.Prelude.{⊤}
use Rattle.std.proofs.lemmas.Bool.{both_ways}
use Rattle.jsgen_syntax.specs.declared.span.Span.{Span}
use Rattle.jsgen_tree.specs.declared.types.NodeType.{NodeType}
use Rattle.jsgen_tree.specs.Tree.{Tree, Maybe, absent, given, Trees, no_trees, more, hole, type_of, span_of}
use Rattle.jsgen_place.specs.declared.place.Place.{Place}
use Rattle.jsgen_place.specs.declared.shape.Shape.TheVariants as shapes
use Rattle.jsgen_place.specs.Place.{in_brackets, among_statements, within_statement, quoted_plainly}
use Rattle.jsgen_syntax.specs.declared.precedence.Precedence.TheVariants.{Postfix}
use Rattle.jsgen_model.specs.Items.{Items, orphans, line_break, first_argument, other_argument}
use Rattle.jsgen_model.specs.Spellings.{shape, is_one, before_member}
use Rattle.jsgen_model.specs.Resolved.{resolved, resolved_maybe, resolved_trees, after, after_maybe, after_trees}
use Rattle.jsgen_model.specs.Spell.{spell, spell_method, spell_directives, spell_body, spell_statements, spell_cases, spell_elements_of_class, spell_behind_comma, spell_heritage, spell_behind_word, spell_list, spell_arguments, spell_behind_first, spell_more, spell_elements, spell_more_elements, spell_properties, spell_more_properties, spell_alternate, spell_only, spell_test, spell_caught, spell_finalizer, spell_apart, spell_if_given, spell_value}
use Rattle.jsgen_private_laws.proofs.Same.{type_same, span_same}
use Rattle.jsgen_private_laws.proofs.Settled.{Scope}
use Rattle.jsgen_private_laws.proofs.Settles.{Settles, is_still, plain, both, before, becomes, brackets_settle}
use Rattle.jsgen_private_laws.proofs.SettledHelpers.{linked_settles, first_statement_settles, alternate_settles, only_settles, line_or_space_still, before_member_still}

abbrev pub Tie : Tree → Type 0
Tie t = (s : Scope) (n : ℕ) (place : Place) → Settles s n (spell t place) (spell (resolved s.tables s.classes n t) place) (after t n)

abbrev pub TieIfGiven : Maybe → Type 0
TieIfGiven absent = ⊤
TieIfGiven (given t) = Tie t

abbrev pub TieEach : Trees → Type 0
TieEach no_trees = ⊤
TieEach (more t ts) = Tie t × TieEach ts
TieEach (hole ts) = TieEach ts

-- of a method's function, which its own row doesn't spell
abbrev pub TieMethod : Tree → Type 0
TieMethod t = (s : Scope) (n : ℕ) (place : Place) → Settles s n (spell_method t place) (spell_method (resolved s.tables s.classes n t) place) (after t n)

-- an empty statement, which a body doesn't spell by its own row, has no class in it
abbrev pub IsEmptyAlone : Tree → Type 0
IsEmptyAlone t = shape t ≡ shapes.Empty → (n : ℕ) → after t n ≡ n

abbrev pub IsEmptyAloneIfGiven : Maybe → Type 0
IsEmptyAloneIfGiven absent = ⊤
IsEmptyAloneIfGiven (given t) = IsEmptyAlone t

-- ---- items by what a tree says

pub by_span : {s : Scope} {n : ℕ} (k : ℕ) (f : Span → Items) (t : Tree) → is_still (f (span_of t)) ≡ true → Settles s n (f (span_of t)) (f (span_of (resolved s.tables s.classes k t))) n
by_span {s} {n} k f t h = becomes (plain h) (ap f (sym (span_same s.tables s.classes k t)))

pub by_type : {s : Scope} {n : ℕ} (k : ℕ) (f : NodeType → Items) (t : Tree) → is_still (f (type_of t)) ≡ true → Settles s n (f (type_of t)) (f (type_of (resolved s.tables s.classes k t))) n
by_type {s} {n} k f t h = becomes (plain h) (ap f (sym (type_same s.tables s.classes k t)))

-- ---- what may be left out

pub given_settles : (m : Maybe) → TieIfGiven m → (s : Scope) (n : ℕ) (place : Place) → Settles s n (spell_if_given m place) (spell_if_given (resolved_maybe s.tables s.classes n m) place) (after_maybe m n)
given_settles absent e s n place = plain refl
given_settles (given t) e s n place = e s n place

pub apart_settles : (m : Maybe) → TieIfGiven m → (s : Scope) (n : ℕ) (place : Place) → Settles s n (spell_apart m place) (spell_apart (resolved_maybe s.tables s.classes n m) place) (after_maybe m n)
apart_settles absent e s n place = plain refl
apart_settles (given t) e s n place = before refl (e s n place)

pub value_settles : (m : Maybe) → TieIfGiven m → (s : Scope) (n : ℕ) (place : Place) → Settles s n (spell_value m place) (spell_value (resolved_maybe s.tables s.classes n m) place) (after_maybe m n)
value_settles absent e s n place = plain refl
value_settles (given t) e s n place = before refl (before refl (before refl (e s n place)))

pub behind_comma_settles : (m : Maybe) → TieIfGiven m → (s : Scope) (n : ℕ) (place : Place) → Settles s n (spell_behind_comma m place) (spell_behind_comma (resolved_maybe s.tables s.classes n m) place) (after_maybe m n)
behind_comma_settles absent e s n place = plain refl
behind_comma_settles (given t) e s n place = before refl (before refl (e s n place))

pub behind_word_settles : (m : Maybe) → TieIfGiven m → (s : Scope) (n : ℕ) (place : Place) → Settles s n (spell_behind_word m place) (spell_behind_word (resolved_maybe s.tables s.classes n m) place) (after_maybe m n)
behind_word_settles absent e s n place = plain refl
behind_word_settles (given t) e s n place = before refl (e s n place)

pub test_settles : (m : Maybe) → TieIfGiven m → (s : Scope) (n : ℕ) (place : Place) → Settles s n (spell_test m place) (spell_test (resolved_maybe s.tables s.classes n m) place) (after_maybe m n)
test_settles absent e s n place = plain refl
test_settles (given t) e s n place = before refl (before refl (e s n place))

pub parameter_caught_settles : (m : Maybe) → TieIfGiven m → (s : Scope) (n : ℕ) (place : Place) → Settles s n (spell_caught m place) (spell_caught (resolved_maybe s.tables s.classes n m) place) (after_maybe m n)
parameter_caught_settles absent e s n place = plain refl
parameter_caught_settles (given t) e s n place = before refl (brackets_settle _ (e s n place))

pub finalizer_settles : (m : Maybe) → TieIfGiven m → (s : Scope) (n : ℕ) → Settles s n (spell_finalizer m) (spell_finalizer (resolved_maybe s.tables s.classes n m)) (after_maybe m n)
finalizer_settles absent e s n = plain refl
finalizer_settles (given t) e s n = before refl (before refl (before refl (e s n within_statement)))

pub heritage_settles : (m : Maybe) → TieIfGiven m → (s : Scope) (n : ℕ) → Settles s n (spell_heritage m) (spell_heritage (resolved_maybe s.tables s.classes n m)) (after_maybe m n)
heritage_settles absent e s n = plain refl
heritage_settles (given t) e s n = before refl (before refl (before refl (linked_settles t (e s n (in_brackets Postfix)))))

pub else_settles : (m : Maybe) → IsEmptyAloneIfGiven m → TieIfGiven m → (s : Scope) (n : ℕ) → Settles s n (spell_alternate m) (spell_alternate (resolved_maybe s.tables s.classes n m)) (after_maybe m n)
else_settles absent h e s n = plain refl
else_settles (given t) h e s n = before refl (before refl (alternate_settles t (λ f. h f n) (e s n within_statement) (e s n among_statements)))

-- ---- lists

pub directives_settle : (ts : Trees) → TieEach ts → (s : Scope) (n : ℕ) → Settles s n (spell_directives ts) (spell_directives (resolved_trees s.tables s.classes n ts)) (after_trees ts n)
directives_settle no_trees e s n = plain refl
directives_settle (more t ts) e s n = both (e.0 s n among_statements) (directives_settle ts e.1 s (after t n))
directives_settle (hole ts) e s n = directives_settle ts e s n

pub statements_settle : (ts : Trees) → TieEach ts → (s : Scope) (n : ℕ) → Settles s n (spell_statements ts) (spell_statements (resolved_trees s.tables s.classes n ts)) (after_trees ts n)
statements_settle no_trees e s n = plain refl
statements_settle (more t ts) e s n = both (by_span n (λ span. orphans span.start) t refl) (before refl (both (e.0 s n among_statements) (statements_settle ts e.1 s (after t n))))
statements_settle (hole ts) e s n = statements_settle ts e s n

pub body_settles_whole : (ts : Trees) → TieEach ts → (s : Scope) (n : ℕ) → Settles s n (spell_body ts) (spell_body (resolved_trees s.tables s.classes n ts)) (after_trees ts n)
body_settles_whole no_trees e s n = plain refl
body_settles_whole (more t ts) e s n = both (by_span n (λ span. orphans span.start) t refl) (before refl (both (first_statement_settles t (e.0 s n among_statements)) (statements_settle ts e.1 s (after t n))))
body_settles_whole (hole ts) e s n = body_settles_whole ts e s n

pub cases_settle : (ts : Trees) → TieEach ts → (s : Scope) (n : ℕ) → Settles s n (spell_cases ts) (spell_cases (resolved_trees s.tables s.classes n ts)) (after_trees ts n)
cases_settle no_trees e s n = plain refl
cases_settle (more t ts) e s n = before refl (both (e.0 s n among_statements) (cases_settle ts e.1 s (after t n)))
cases_settle (hole ts) e s n = cases_settle ts e s n

pub members_settle : (ts : Trees) → TieEach ts → (s : Scope) (n : ℕ) (place : Place) → Settles s n (spell_elements_of_class ts place) (spell_elements_of_class (resolved_trees s.tables s.classes n ts) place) (after_trees ts n)
members_settle no_trees e s n place = plain refl
members_settle (more t ts) e s n place = before refl (both (e.0 s n place) (members_settle ts e.1 s (after t n) place))
members_settle (hole ts) e s n place = members_settle ts e s n place

pub more_settle : (ts : Trees) → TieEach ts → (s : Scope) (n : ℕ) (place : Place) → Settles s n (spell_more ts place) (spell_more (resolved_trees s.tables s.classes n ts) place) (after_trees ts n)
more_settle no_trees e s n place = plain refl
more_settle (more t ts) e s n place = before refl (before refl (both (e.0 s n place) (more_settle ts e.1 s (after t n) place)))
more_settle (hole ts) e s n place = more_settle ts e s n place

pub list_settles : (ts : Trees) → TieEach ts → (s : Scope) (n : ℕ) (place : Place) → Settles s n (spell_list ts place) (spell_list (resolved_trees s.tables s.classes n ts) place) (after_trees ts n)
list_settles no_trees e s n place = plain refl
list_settles (more t ts) e s n place = both (e.0 s n place) (more_settle ts e.1 s (after t n) place)
list_settles (hole ts) e s n place = list_settles ts e s n place

pub behind_first_settles : (second : Bool) (ts : Trees) → TieEach ts → (s : Scope) (n : ℕ) (place : Place) → Settles s n (spell_behind_first second ts place) (spell_behind_first second (resolved_trees s.tables s.classes n ts) place) (after_trees ts n)
behind_first_settles second no_trees e s n place = plain refl
behind_first_settles second (more t ts) e s n place = before refl (both (by_span n (λ span. line_break (other_argument span.start)) t refl) (both (e.0 s n (quoted_plainly second place)) (behind_first_settles false ts e.1 s (after t n) place)))
behind_first_settles second (hole ts) e s n place = behind_first_settles second ts e s n place

pub all_arguments_settle : (first second : Bool) (ts : Trees) → TieEach ts → (s : Scope) (n : ℕ) (place : Place) → Settles s n (spell_arguments first second ts place) (spell_arguments first second (resolved_trees s.tables s.classes n ts) place) (after_trees ts n)
all_arguments_settle first second no_trees e s n place = plain refl
all_arguments_settle first second (more t ts) e s n place = both (by_span n (λ span. line_break (first_argument span.start)) t refl) (both (e.0 s n (quoted_plainly first place)) (behind_first_settles second ts e.1 s (after t n) place))
all_arguments_settle first second (hole ts) e s n place = all_arguments_settle first second ts e s n place

pub more_elements_settle : (lines : Bool) (ts : Trees) → TieEach ts → (s : Scope) (n : ℕ) (place : Place) → Settles s n (spell_more_elements lines ts place) (spell_more_elements lines (resolved_trees s.tables s.classes n ts) place) (after_trees ts n)
more_elements_settle lines no_trees e s n place = plain refl
more_elements_settle lines (more t ts) e s n place = before refl (before (line_or_space_still lines) (both (e.0 s n place) (more_elements_settle lines ts e.1 s (after t n) place)))
more_elements_settle lines (hole ts) e s n place = before refl (before (line_or_space_still lines) (more_elements_settle lines ts e s n place))

pub elements_settle : (lines : Bool) (ts : Trees) → TieEach ts → (s : Scope) (n : ℕ) (place : Place) → Settles s n (spell_elements lines ts place) (spell_elements lines (resolved_trees s.tables s.classes n ts) place) (after_trees ts n)
elements_settle lines no_trees e s n place = plain refl
elements_settle lines (more t ts) e s n place = both (e.0 s n place) (more_elements_settle lines ts e.1 s (after t n) place)
elements_settle lines (hole ts) e s n place = more_elements_settle lines ts e s n place

pub more_properties_settle : (lines : Bool) (ts : Trees) → TieEach ts → (s : Scope) (n : ℕ) (place : Place) → Settles s n (spell_more_properties lines ts place) (spell_more_properties lines (resolved_trees s.tables s.classes n ts) place) (after_trees ts n)
more_properties_settle lines no_trees e s n place = plain refl
more_properties_settle lines (more t ts) e s n place = before refl (both (by_span n (λ span. before_member lines span.start) t (before_member_still lines (span_of t).start)) (both (e.0 s n place) (more_properties_settle lines ts e.1 s (after t n) place)))
more_properties_settle lines (hole ts) e s n place = before refl (before (line_or_space_still lines) (more_properties_settle lines ts e s n place))

pub properties_settle : (lines : Bool) (ts : Trees) → TieEach ts → (s : Scope) (n : ℕ) (place : Place) → Settles s n (spell_properties lines ts place) (spell_properties lines (resolved_trees s.tables s.classes n ts) place) (after_trees ts n)
properties_settle lines no_trees e s n place = plain refl
properties_settle lines (more t ts) e s n place = both (by_span n (λ span. before_member lines span.start) t (before_member_still lines (span_of t).start)) (both (e.0 s n place) (more_properties_settle lines ts e.1 s (after t n) place))
properties_settle lines (hole ts) e s n place = before (line_or_space_still lines) (more_properties_settle lines ts e s n place)

-- the statement of a case that has one
abbrev pub IsEmptyAloneInOne : Trees → Type 0
IsEmptyAloneInOne (more t no_trees) = IsEmptyAlone t
IsEmptyAloneInOne ts = ⊤

pub one_settles : (end : ℕ) (ts : Trees) → IsEmptyAloneInOne ts → TieEach ts → (s : Scope) (n : ℕ) → is_one ts ≡ true → Settles s n (spell_only end ts) (spell_only end (resolved_trees s.tables s.classes n ts)) (after_trees ts n)
one_settles end (more t no_trees) h e s n o = only_settles end t (λ f. h f n) (e.0 s n within_statement) (e.0 s n among_statements)
one_settles end ts h e s n o = absurd (both_ways false refl o)
