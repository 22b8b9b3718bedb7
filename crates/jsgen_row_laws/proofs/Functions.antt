-- Functions with a body in braces: their parameters, their bodies, and functions as expressions and as declarations.
use Rattle.std.proofs.Common.{◌≡◌, ℕ, Bool, true, false, not, codes, Some, List, refl, sym, ap, ◌∙◌, subst, ◌||◌}
use Rattle.std.proofs.lemmas.Bool.{both_ways, or_parts}
use Rattle.jsgen_syntax.specs.declared.span.Span.{Span}
use Rattle.jsgen_syntax.specs.declared.precedence.Precedence.TheVariants as levels
use Rattle.jsgen_syntax.specs.Escapes.{name_text, word_value}
use Rattle.jsgen_syntax.specs.Name.{spells_name, is_free_name}
use Rattle.jsgen_syntax.proofs.Escapes.{word_text_value}
use Rattle.jsgen_tree.specs.Job.{Tables}
use Rattle.jsgen_tree.specs.Inside.{binding_named}
use Rattle.jsgen_tree.specs.Named.{printed_name}
use Rattle.jsgen_tree.specs.Tree.{Tree, Maybe, absent, given, Trees, no_trees, more, hole, Atoms}
use Rattle.jsgen_tree.specs.Values.{function_kind, function_is_async, function_generator, function_pure, function_pife}
use Rattle.jsgen_tree.specs.Nodes as tree
use Rattle.jsgen_tree.specs.declared.functions.FunctionKind.{FunctionKind}
use Rattle.jsgen_tree.specs.declared.functions.FunctionKind.TheVariants as kinds
use Rattle.jsgen_model.specs.Punctuator.{Round, Brace, star, opening}
use Rattle.jsgen_model.specs.Tokens.{Tokens, done, piece, group, ◌⧺◌, Word, Sign}
use Rattle.jsgen_model.specs.Items.{Items, ◌⊕◌, word, punctuator, brackets, soft_space, hard_space, soft_line, wrapped_at_start, a_declaration}
use Rattle.jsgen_model.specs.Layout.{Pen, Start, nowhere, arrow_body, other_end, layout, written, unless_printed, statement, default_export, is_barred, written_if}
use Rattle.jsgen_model.specs.Grammar.{Allowed, ReadsParameters, ReadsParameter, ReadsFunction, ReadsFunctionAs, ReadsItem, ReadsBody, in_parameters, in_body, function_of, ReadsExpression, with_in}
use Rattle.jsgen_model.specs.Grammar as grammar
use Rattle.jsgen_model.specs.Normal.{normal, normal_maybe, nothing_of, unnumbered, function_values, if_set}
use Rattle.jsgen_model.specs.Renamed.{renamed, renamed_maybe}
use Rattle.jsgen_place.specs.declared.place.Place.{Place}
use Rattle.jsgen_place.specs.Place.{among_statements, within_statement, child, in_brackets, within, with_calls}
use Rattle.jsgen_model.specs.Spell.{spell, spell_if_given, spell_directives, spell_body, function_items, function_words, body_braces}
use Rattle.jsgen_model.specs.Spellings.{FunctionStand}
use Rattle.jsgen_token_laws.proofs.Characters.{letters_spelled}
use Rattle.jsgen_token_laws.proofs.Last.{Last, Open, After, line_of, Knows}
use Rattle.jsgen_token_laws.proofs.Writes.{Writes, wrote_none, wrote_both}
use Rattle.jsgen_token_laws.proofs.Steps.{wrote_word, wrote_name, soft_line_written, within_brackets, brackets_written}
use Rattle.jsgen_row_laws.proofs.Levels.{level_of, under, from_primary}
use Rattle.jsgen_row_laws.proofs.Families.{IsMarked, HasName}
use Rattle.jsgen_row_laws.proofs.Families as family
use Rattle.jsgen_row_laws.proofs.Names.{free_spelled}
use Rattle.jsgen_row_laws.proofs.Freed.{freed_list, freed_parameter}
use Rattle.jsgen_row_laws.proofs.Good.{Printed, PrintedBy, may_begin, PrintedFrom, wrapped_from}
use Rattle.jsgen_row_laws.proofs.Parameters.{ParameterOf, ParametersOf, only_parameter}
use Rattle.jsgen_row_laws.proofs.Adds.{a_start, an_operand, End, behind_token, Ends, after_token, after_group, Is, is, Follows, follows, Within, ◌⨟◌, ◌&◌, Says, Adds, ◌⨾◌, read, past, keyword_on_line, star_sign, spaced, before_space, hard_spaced}
use Rattle.jsgen_row_laws.proofs.Adds as adds
use Rattle.jsgen_row_laws.proofs.Parts.{Reads}
use Rattle.jsgen_row_laws.proofs.Normals.{flag_again}
use Rattle.jsgen_row_laws.proofs.Ends.{ends_itself}
use Rattle.jsgen_row_laws.proofs.Stands.{StandsAt, SameTree, Listed, stands_since, before_blank, indented_line}
use Rattle.jsgen_row_laws.proofs.Blocks.{GoodBraces, empty_written, filled_written}
use Rattle.jsgen_row_laws.proofs.Prologue.{ReadsBoth, SameBoth}

-- ---- parameters in parentheses

-- between two pens stand parameters in parentheses, and what is in them is read so
pub record GoodGroup (names : Tables) (R : Tokens → Trees → Maybe → Type 0) (p : Pen) (l : Last) (q : Pen) (t : Tree) : Type 0 where
  pub tokens : Tokens
  pub writes : Writes names p l q (Open false) (group (line_of l) Round tokens done)
  pub semicolon : q.pending_semicolon ≡ false
  pub items : Trees
  pub rest : Maybe
  pub reads : R tokens items rest
  pub same : normal (tree.formal_parameters (nothing_of 0) items rest) ≡ normal (renamed names t)

-- where they stand
abbrev pub function_parameters : Place → Place
function_parameters place = with_calls (child levels.Comma place)

abbrev pub GroupOf : Tables → (Tokens → Trees → Maybe → Type 0) → Tree → Type 0
GroupOf names R t = (place : Place) (p : Pen) (l : Last) → p.pending_semicolon ≡ false → Knows names p l → GoodGroup names R p l (layout (brackets Round (spell t (function_parameters place))) p) t

pub good_group : {names : Tables} (a : Atoms) (ps : Trees) (rest : Maybe) → ParametersOf names in_parameters ps rest → GroupOf names (ReadsParameters in_parameters) (tree.formal_parameters a ps rest)
good_group a ps rest f place p l z k =
    let p1 : Pen = written (opening Round) other_end p in
    let q : Pen = layout (spell (tree.formal_parameters a ps rest) (function_parameters place)) p1 in
    let g = f (function_parameters place) p1 z (within_brackets Round p l k) in
    record {
      tokens = g.tokens;
      writes = brackets_written Round p q l g.last g.tokens g.writes;
      semicolon = g.semicolon;
      items = g.trees;
      rest = g.reads.0;
      reads = freed_list g.reads.1;
      same = let e = g.same in let h = g.reads.2 in λ i. tree.formal_parameters (nothing_of 0) (e i) (h i);
    }

-- a getter has none
abbrev pub ReadsNone : Tokens → Trees → Maybe → Type 0
ReadsNone ts ps rest = (ts ≡ done) × (ps ≡ no_trees) × (rest ≡ absent)

pub empty_group : {names : Tables} (a : Atoms) → GroupOf names ReadsNone (tree.formal_parameters a no_trees absent)
empty_group a place p l z k =
    let p1 : Pen = written (opening Round) other_end p in
    let q : Pen = layout (spell (tree.formal_parameters a no_trees absent) (function_parameters place)) p1 in
    record {
      tokens = done;
      writes = brackets_written Round p q l (Open false) done (wrote_none p1 q (Open false) refl (within_brackets Round p l k));
      semicolon = z;
      items = no_trees;
      rest = absent;
      reads = (refl, refl, refl);
      same = refl;
    }

-- and a setter one
abbrev pub ReadsOne : Tokens → Trees → Maybe → Type 0
ReadsOne ts ps rest = (t : Tree) × (ps ≡ more t no_trees) × (rest ≡ absent) × ReadsParameter in_parameters ts t

pub group_of_one : {names : Tables} (a : Atoms) (t : Tree) → ParameterOf names in_parameters t → GroupOf names ReadsOne (tree.formal_parameters a (more t no_trees) absent)
group_of_one a t f place p l z k =
    let p1 : Pen = written (opening Round) other_end p in
    let q : Pen = layout (spell (tree.formal_parameters a (more t no_trees) absent) (function_parameters place)) p1 in
    let g = only_parameter in_parameters t f (function_parameters place) p1 z (within_brackets Round p l k) in
    record {
      tokens = g.tokens;
      writes = brackets_written Round p q l g.last g.tokens g.writes;
      semicolon = g.semicolon;
      items = g.trees;
      rest = absent;
      reads = (g.reads.0, g.reads.1, refl, freed_parameter g.reads.2);
      same = let e = g.same in λ i. tree.formal_parameters (nothing_of 0) (e i) absent;
    }

-- ---- bodies

-- between two pens stands a body in braces
pub record GoodBody (names : Tables) (d : Allowed) (p : Pen) (l : Last) (q : Pen) (t : Tree) : Type 0 where
  pub tokens : Tokens
  pub writes : Writes names p l q (Open false) (group (line_of l) Brace tokens done)
  pub semicolon : q.pending_semicolon ≡ false
  pub directives : Trees
  pub statements : Trees
  pub reads : ReadsBody d true tokens directives statements
  pub same : normal (tree.function_body (nothing_of 0) directives statements) ≡ normal (renamed names t)

-- what may stand in it is an argument
abbrev pub BodyOf : Tables → Allowed → Tree → Type 0
BodyOf names d t = (place : Place) (p : Pen) (l : Last) → p.pending_semicolon ≡ false → Knows names p l → GoodBody names d p l (layout (spell t place) p) t

abbrev BracesOf : Tables → Allowed → Trees → Trees → Items → Type 0
BracesOf names d ds ss items = (p : Pen) (l : Last) → p.pending_semicolon ≡ false → Knows names p l → GoodBraces names (ReadsBoth d) (SameBoth names ds ss) p l (layout items p)

body_braced : {names : Tables} {d : Allowed} (s : Span) (ds ss : Trees) (items : Items) → StandsAt names (ReadsBoth d) (SameBoth names ds ss) items → BracesOf names d ds ss (body_braces s ds ss items)
body_braced s no_trees no_trees items f p l z k = empty_written s (no_trees, no_trees) (grammar.statements refl grammar.no_statement) (refl, refl) p l k
body_braced s no_trees (more t ss) items f p l z k = filled_written s items f p l z k
body_braced s no_trees (hole ss) items f p l z k = filled_written s items f p l z k
body_braced s (more x ds) ss items f p l z k = filled_written s items f p l z k
body_braced s (hole ds) ss items f p l z k = filled_written s items f p l z k

body_of : {names : Tables} {d : Allowed} {p q : Pen} {l : Last} (a : Atoms) (ds ss : Trees) → GoodBraces names (ReadsBoth d) (SameBoth names ds ss) p l q → GoodBody names d p l q (tree.function_body a ds ss)
body_of a ds ss g = record {
  tokens = g.tokens;
  writes = g.writes;
  semicolon = g.semicolon;
  directives = g.reading.0;
  statements = g.reading.1;
  reads = g.reads;
  same = let e = g.same.0 in let f = g.same.1 in λ i. tree.function_body (nothing_of 0) (e i) (f i);
}

pub good_function_body : {names : Tables} (d : Allowed) (a : Atoms) (ds ss : Trees) → StandsAt names (ReadsBoth d) (SameBoth names ds ss) (spell_directives ds ⊕ spell_body ss) → BodyOf names d (tree.function_body a ds ss)
good_function_body d a ds ss f place p l z k = body_of a ds ss (body_braced a.span ds ss (spell_directives ds ⊕ spell_body ss) f p l z k)

-- ---- parameters and a body

-- what a method or an accessor has behind its key, and a function behind its name
abbrev pub method_items : Tree → Tree → Place → Items
method_items t u place = brackets Round (spell t (function_parameters place)) ⊕ (soft_space ⊕ spell u within_statement)

-- parameters in parentheses, and a body
abbrev pub Head : Tables → (Tokens → Trees → Maybe → Type 0) → Tree → Tokens → Type 0
Head names R t = Says {X = Trees × Maybe} (λ ts x. R ts x.0 x.1) (λ x. normal (tree.formal_parameters (nothing_of 0) x.0 x.1) ≡ normal (renamed names t))

abbrev pub Body : Tables → Allowed → Tree → Tokens → Type 0
Body names d u = Says {X = Trees × Trees} (λ ts x. ReadsBody d true ts x.0 x.1) (λ x. normal (tree.function_body (nothing_of 0) x.0 x.1) ≡ normal (renamed names u))

pub head_stretch : {names : Tables} {e : End} {R : Tokens → Trees → Maybe → Type 0} (t : Tree) (place : Place) → GroupOf names R t → Adds names e (Within Round (Head names R t)) behind_token (brackets Round (spell t (function_parameters place)))
head_stretch t place f = record { from = λ p l z y k. let g = f place p l z k in record { last = Open false; tokens = group (line_of l) Round g.tokens done; writes = g.writes; ends = after_group; semicolon = g.semicolon; holds = adds.within (line_of l) (record { reading = (g.items, g.rest); reads = g.reads; same = g.same }) } }

pub body_stretch : {names : Tables} {e : End} {d : Allowed} (u : Tree) (place : Place) → BodyOf names d u → Adds names e (Within Brace (Body names d u)) behind_token (spell u place)
body_stretch u place f = record { from = λ p l z y k. let g = f place p l z k in record { last = Open false; tokens = group (line_of l) Brace g.tokens done; writes = g.writes; ends = after_group; semicolon = g.semicolon; holds = adds.within (line_of l) (record { reading = (g.directives, g.statements); reads = g.reads; same = g.same }) } }

-- both
abbrev pub Behind : Tables → (Tokens → Trees → Maybe → Type 0) → Allowed → Tree → Tree → Tokens → Type 0
Behind names R d t u = Within Round (Head names R t) ⨟ Within Brace (Body names d u)

pub behind_key : {names : Tables} {e : End} {R : Tokens → Trees → Maybe → Type 0} {d : Allowed} (t u : Tree) (place : Place) → GroupOf names R t → BodyOf names d u → Adds names e (Behind names R d t u) behind_token (method_items t u place)
behind_key t u place f g = head_stretch t place f ⨾ spaced (body_stretch u within_statement g)

pub same_function : (a : Atoms) (kind : FunctionKind) (async generator : Bool) (i j : Maybe) (ps : Trees) (rest : Maybe) (ds ss : Trees) (x y : Tree) → function_kind a ≡ kind → IsMarked a async generator → normal_maybe j ≡ normal_maybe i → normal (tree.formal_parameters (nothing_of 0) ps rest) ≡ normal x → normal (tree.function_body (nothing_of 0) ds ss) ≡ normal y → normal (function_of kind async generator j ps rest ds ss) ≡ normal (tree.function a i x (given y))
same_function a kind async generator i j ps rest ds ss x y h m e f g =
    let s = flag_again async ∙ sym m.0 in
    let t = flag_again generator ∙ sym m.1 in
    λ k. tree.function (function_values (sym h k) (if_set (s k)) (if_set (t k)) (if_set (sym m.2 k))) (e k) (f k) (given (g k))

-- ---- functions behind their words

abbrev FunctionAs : Tables → FunctionKind → Bool → Bool → Bool → Tree → Tokens → Type 0
FunctionAs names kind nameless async generator t = Reads names (ReadsFunctionAs kind nameless async generator) t

-- a name that may be bound
pub data IsName (v : List ℕ) : Tokens → Type 0 where
  is_name : {w : List ℕ} (mark : Bool) → word_value w ≡ Some v → IsName v (piece mark (Word w) done)

pub name_stretch : {names : Tables} {e : End} (b : Atoms) (place : Place) → is_free_name (printed_name names (binding_named b)) ≡ true → Adds names e (IsName (printed_name names (binding_named b))) behind_token (spell (tree.binding_identifier b) place)
name_stretch {names} b place n = record {
  from = λ p l z y k.
      let v : List ℕ = printed_name names (binding_named b) in
      let w : List ℕ = name_text p.style.ascii v in
      record { last = After (Word w); tokens = piece (line_of l) (Word w) done; writes = wrote_name (binding_named b) p l (free_spelled v n) k; ends = after_token w; semicolon = z; holds = is_name (line_of l) (word_text_value p.style.ascii v (free_spelled v n)) };
}

read_named : (names : Tables) (kind : FunctionKind) (nameless async generator : Bool) (a b : Atoms) (t u : Tree) → function_kind a ≡ kind → IsMarked a async generator → is_free_name (printed_name names (binding_named b)) ≡ true → {ts : Tokens} → (IsName (printed_name names (binding_named b)) ⨟ Behind names (ReadsParameters in_parameters) (in_body async generator) t u) ts → FunctionAs names kind nameless async generator (tree.function a (given (tree.binding_identifier b)) t (given u)) ts
read_named names kind nameless async generator a b t u h m n (is_name o e & (adds.within i f & adds.within j g)) = record {
  reading = function_of kind async generator (given (tree.binding_identifier (unnumbered (printed_name names (binding_named b))))) f.reading.0 f.reading.1 g.reading.0 g.reading.1;
  reads = grammar.a_named_function e n f.reads g.reads;
  same = same_function a kind async generator (renamed_maybe names (given (tree.binding_identifier b))) (given (tree.binding_identifier (unnumbered (printed_name names (binding_named b))))) f.reading.0 f.reading.1 g.reading.0 g.reading.1 (renamed names t) (renamed names u) h m refl f.same g.same;
}

read_nameless : (names : Tables) (kind : FunctionKind) (async generator : Bool) (a : Atoms) (t u : Tree) → function_kind a ≡ kind → IsMarked a async generator → {ts : Tokens} → Behind names (ReadsParameters in_parameters) (in_body async generator) t u ts → FunctionAs names kind true async generator (tree.function a absent t (given u)) ts
read_nameless names kind async generator a t u h m (adds.within i f & adds.within j g) = record {
  reading = function_of kind async generator absent f.reading.0 f.reading.1 g.reading.0 g.reading.1;
  reads = grammar.a_nameless_function f.reads g.reads;
  same = same_function a kind async generator absent absent f.reading.0 f.reading.1 g.reading.0 g.reading.1 (renamed names t) (renamed names u) h m refl f.same g.same;
}

-- a name, or none, with parameters and a body
abbrev named_items : Maybe → Tree → Tree → Place → Items
named_items id t u place = spell_if_given id (child levels.Lowest place) ⊕ method_items t u place

behind_words : {names : Tables} {e : End} {kind : FunctionKind} {nameless async generator : Bool} {id : Maybe} (a : Atoms) (t u : Tree) → function_kind a ≡ kind → IsMarked a async generator → HasName names nameless id → GroupOf names (ReadsParameters in_parameters) t → BodyOf names (in_body async generator) u → (place : Place) → Adds names e (FunctionAs names kind nameless async generator (tree.function a id t (given u))) behind_token (named_items id t u place)
behind_words {names} {kind = kind} {nameless} {async} {generator} a t u h m (family.a_name {a = b} n) f g place = read (λ ts r. read_named names kind nameless async generator a b t u h m n r) (name_stretch b (child levels.Lowest place) n ⨾ behind_key t u place f g)
behind_words {names} {kind = kind} {async = async} {generator} a t u h m family.no_name f g place = read (λ ts r. read_nameless names kind async generator a t u h m r) (past (λ p. refl) (behind_key t u place f g))

-- ---- functions without their surroundings

-- between two pens stands what is read so, from its first word on
pub record FromWord (names : Tables) (Read : Tokens → Tree → Type 0) (p : Pen) (l : Last) (q : Pen) (t : Tree) : Type 0 where
  pub last : Last
  pub word : List ℕ
  pub others : Tokens
  pub writes : Writes names p l q last (piece (line_of l) (Word word) others)
  pub ends : Ends behind_token last
  pub semicolon : q.pending_semicolon ≡ false
  pub tree : Tree
  pub reads : Read (piece (line_of l) (Word word) others) tree
  pub same : normal tree ≡ normal (renamed names t)

abbrev pub FromWordAt : Tables → (Tokens → Tree → Type 0) → Tree → Items → Type 0
FromWordAt names Read t items = (p : Pen) (l : Last) → p.pending_semicolon ≡ false → Knows names p l → FromWord names Read p l (layout items p) t

pub from_word : {names : Tables} {P : Tokens → Type 0} {Read : Tokens → Tree → Type 0} {t : Tree} (w : List ℕ) (items : Items) → spells_name w ≡ true → ((mark : Bool) (ts : Tokens) → P ts → Reads names Read t (piece mark (Word w) ts)) → Adds names behind_token P behind_token items → FromWordAt names Read t (word w ⊕ items)
from_word w items n build f p l z k =
    let o = wrote_word w p l n k in
    let x = f.from (layout (word w) p) (After (Word w)) z (after_token w) o.knows in
    let r = build (line_of l) x.tokens x.holds in
    record { last = x.last; word = w; others = x.tokens; writes = wrote_both o x.writes; ends = x.ends; semicolon = x.semicolon; tree = r.reading; reads = r.reads; same = r.same }

abbrev pub FunctionAt : Tables → FunctionKind → Bool → Tree → Items → Type 0
FunctionAt names kind nameless t items = FromWordAt names (ReadsFunction kind nameless) t items

read_generator : (names : Tables) (kind : FunctionKind) (nameless mark : Bool) (t : Tree) {ts : Tokens} → (Is (Sign star) ⨟ FunctionAs names kind nameless false true t) ts → Reads names (ReadsFunction kind nameless) t (piece mark (Word (codes "function")) ts)
read_generator names kind nameless mark t (is o & r) = record { reading = r.reading; reads = grammar.a_generator r.reads; same = r.same }

read_async : (names : Tables) (kind : FunctionKind) (nameless mark : Bool) (t : Tree) {ts : Tokens} → (Follows (Word (codes "function")) ⨟ FunctionAs names kind nameless true false t) ts → Reads names (ReadsFunction kind nameless) t (piece mark (Word (codes "async")) ts)
read_async names kind nameless mark t (follows & r) = record { reading = r.reading; reads = grammar.an_async_function r.reads; same = r.same }

read_async_generator : (names : Tables) (kind : FunctionKind) (nameless mark : Bool) (t : Tree) {ts : Tokens} → (Follows (Word (codes "function")) ⨟ (Is (Sign star) ⨟ FunctionAs names kind nameless true true t)) ts → Reads names (ReadsFunction kind nameless) t (piece mark (Word (codes "async")) ts)
read_async_generator names kind nameless mark t (follows & (is o & r)) = record { reading = r.reading; reads = grammar.an_async_generator r.reads; same = r.same }

-- from its words on, by what they tell
abbrev pub items_from : Span → Bool → Bool → Maybe → Tree → Tree → Place → Items
items_from s async generator id t u place = function_words s async generator ⊕ named_items id t u place

function_spelled : spells_name (codes "function") ≡ true
function_spelled = letters_spelled 102 (codes "unction") refl

async_spelled : spells_name (codes "async") ≡ true
async_spelled = letters_spelled 97 (codes "sync") refl

good_whole_function : {names : Tables} {kind : FunctionKind} {nameless : Bool} {id : Maybe} (async generator : Bool) (a : Atoms) (t u : Tree) → function_kind a ≡ kind → IsMarked a async generator → HasName names nameless id → GroupOf names (ReadsParameters in_parameters) t → BodyOf names (in_body async generator) u → (place : Place) → FunctionAt names kind nameless (tree.function a id t (given u)) (items_from a.span async generator id t u place)
good_whole_function {names} {kind} {nameless} {id} false false a t u h m n f g place = from_word (codes "function") (named_items id t u place) function_spelled (λ mark ts r. record { reading = r.reading; reads = grammar.a_plain_function r.reads; same = r.same }) (behind_words {nameless = nameless} {async = false} {generator = false} a t u h m n f g place)
good_whole_function {names} {kind} {nameless} {id} false true a t u h m n f g place = from_word (codes "function") ((punctuator star ⊕ soft_space) ⊕ named_items id t u place) function_spelled (λ mark ts r. read_generator names kind nameless mark (tree.function a id t (given u)) r) (before_space (star_sign refl) ⨾ behind_words a t u h m n f g place)
good_whole_function {names} {kind} {nameless} {id} true false a t u h m n f g place = from_word (codes "async") (hard_space ⊕ (word (codes "function") ⊕ named_items id t u place)) async_spelled (λ mark ts r. read_async names kind nameless mark (tree.function a id t (given u)) r) (hard_spaced (keyword_on_line (codes "function") function_spelled refl ⨾ behind_words a t u h m n f g place))
good_whole_function {names} {kind} {nameless} {id} true true a t u h m n f g place = from_word (codes "async") (hard_space ⊕ (word (codes "function") ⊕ ((punctuator star ⊕ soft_space) ⊕ named_items id t u place))) async_spelled (λ mark ts r. read_async_generator names kind nameless mark (tree.function a id t (given u)) r) (hard_spaced (keyword_on_line (codes "function") function_spelled refl ⨾ (before_space (star_sign refl) ⨾ behind_words a t u h m n f g place)))

-- how it stands at a place
abbrev stand : Atoms → Place → FunctionStand
stand a place = record { pure = function_pure a; pife = function_pife a; place = place; start = a.span.start }

-- as it is spelled
spelled_function : (a : Atoms) (kind : FunctionKind) (async generator : Bool) (id : Maybe) (t u : Tree) (place : Place) → function_kind a ≡ kind → IsMarked a async generator → function_items kind (stand a place) (items_from a.span async generator id t u place) ≡ function_items (function_kind a) (stand a place) (items_from a.span (function_is_async a) (function_generator a) id t u place)
spelled_function a kind async generator id t u place h m = λ i. function_items (sym h i) (stand a place) (items_from a.span (sym m.0 i) (sym m.1 i) id t u place)

-- ---- in an expression

word_begins : (w : List ℕ) (v : Bool) (start : Start) (line : Bool) (b : Tokens) → (v ≡ false → is_barred a_declaration start ≡ false) → may_begin (unless_printed v start) (piece line (Word w) b) ≡ true
word_begins w true start line b h = refl
word_begins w false statement line b h = absurd (both_ways true (h refl) refl)
word_begins w false default_export line b h = absurd (both_ways true (h refl) refl)
word_begins w false nowhere line b h = refl
word_begins w false arrow_body line b h = refl

-- what begins as a declaration does, in parentheses where the test holds and where a declaration may not begin
pub good_barred : {names : Tables} {Read : Tokens → Tree → Type 0} (c : Allowed) (test : Bool) (items : Items) (t : Tree) → ((d : Allowed) → with_in d ≡ with_in c → (ts : Tokens) (v : Tree) → Read ts v → ReadsExpression d grammar.Primary ts v) → FromWordAt names Read t items → (place : Place) → PrintedBy names (under place c) (level_of place) (wrapped_at_start test a_declaration items) t
good_barred {names} c test items t lift f place p l z y k = wrapped_from c place grammar.Primary wraps_it (λ v. items) t p (λ d ts v r. from_primary (in_brackets levels.Lowest) r) (λ e ts v r. from_primary place r) inner l z y k
  where
    wraps_it : Bool
    wraps_it = test || is_barred a_declaration p.start

    inner : (v : Bool) → wraps_it ≡ v → PrintedFrom (written_if v (opening Round) p) names (ReadsExpression (under (within v place) c) grammar.Primary) items t
    inner v e l z y k =
        let r = f (written_if v (opening Round) p) l z k in
        record {
          last = r.last;
          tokens = piece (line_of l) (Word r.word) r.others;
          writes = r.writes;
          operand = r.ends an_operand refl;
          semicolon = r.semicolon;
          begins = λ b x. word_begins r.word v p.start (line_of l) (r.others ⧺ b) (λ i. (or_parts test (is_barred a_declaration p.start) (e ∙ i)).1);
          line = λ x. ap not x;
          tree = r.tree;
          reads = lift (under (within v place) c) refl (piece (line_of l) (Word r.word) r.others) r.tree r.reads;
          same = r.same;
        }

pub good_function : {names : Tables} {async generator : Bool} {id : Maybe} (c : Allowed) (a : Atoms) (t u : Tree) → function_kind a ≡ kinds.Expression → IsMarked a async generator → HasName names true id → GroupOf names (ReadsParameters in_parameters) t → BodyOf names (in_body async generator) u → Printed names c (tree.function a id t (given u))
good_function {names} {async} {generator} {id} c a t u h m n f g place =
    subst (λ x. PrintedBy names (under place c) (level_of place) x (tree.function a id t (given u))) (spelled_function a kinds.Expression async generator id t u place h m)
    (good_barred c (function_pife a) (items_from a.span async generator id t u place) (tree.function a id t (given u)) (λ d e ts v r. grammar.a_function r) (good_whole_function async generator a t u h m n f g place) place)

-- ---- among statements

-- read so wherever it stands
pub stands_so : {names : Tables} {Read : Tokens → Tree → Type 0} (items : Items) (t : Tree) → FromWordAt names Read t items → StandsAt names (λ last ts v. Read ts v) (SameTree names t) items
stands_so items t f p l z y k =
    let r = f p l z k in
    record {
      last = r.last;
      tokens = piece (line_of l) (Word r.word) r.others;
      writes = r.writes;
      ready = r.ends a_start refl;
      reading = r.tree;
      reads = ends_itself r.semicolon (λ last. r.reads);
      same = r.same;
    }

-- from its first word on; a declaration without a name stands behind `export default` alone
pub declared_function : {names : Tables} {nameless async generator : Bool} {id : Maybe} (a : Atoms) (t u : Tree) → function_kind a ≡ kinds.Declaration → IsMarked a async generator → HasName names nameless id → GroupOf names (ReadsParameters in_parameters) t → BodyOf names (in_body async generator) u → (place : Place) → StandsAt names (λ last ts v. ReadsFunction kinds.Declaration nameless ts v) (SameTree names (tree.function a id t (given u))) (items_from a.span async generator id t u place)
declared_function {async = async} {generator} {id} a t u h m n f g place = stands_so (items_from a.span async generator id t u place) (tree.function a id t (given u)) (good_whole_function async generator a t u h m n f g place)

pub good_declaration : {names : Tables} {async generator : Bool} {id : Maybe} (c : Allowed) (a : Atoms) (t u : Tree) → function_kind a ≡ kinds.Declaration → IsMarked a async generator → HasName names false id → GroupOf names (ReadsParameters in_parameters) t → BodyOf names (in_body async generator) u → Listed names c (tree.function a id t (given u))
good_declaration {names} {async} {generator} {id} c a t u h m n f g =
    let items : Items = items_from a.span async generator id t u among_statements in
    subst (λ x. StandsAt names (ReadsItem c) (SameTree names (tree.function a id t (given u))) x) (spelled_function a kinds.Declaration async generator id t u among_statements h m)
    (indented_line (items ⊕ soft_line) (before_blank items soft_line (λ p l z y k. stands_since (λ last ts v s r. grammar.a_function_declaration r) (λ v s. s) (declared_function a t u h m n f g among_statements p l z y k)) soft_line_written))

-- ---- within a statement, as behind the words of an export

pub good_declared : {names : Tables} {nameless async generator : Bool} {id : Maybe} (a : Atoms) (t u : Tree) → function_kind a ≡ kinds.Declaration → IsMarked a async generator → HasName names nameless id → GroupOf names (ReadsParameters in_parameters) t → BodyOf names (in_body async generator) u → FunctionAt names kinds.Declaration nameless (tree.function a id t (given u)) (spell (tree.function a id t (given u)) within_statement)
good_declared {names} {nameless} {async} {generator} {id} a t u h m n f g = subst (λ x. FunctionAt names kinds.Declaration nameless (tree.function a id t (given u)) x) (spelled_function a kinds.Declaration async generator id t u within_statement h m) (good_whole_function async generator a t u h m n f g within_statement)
