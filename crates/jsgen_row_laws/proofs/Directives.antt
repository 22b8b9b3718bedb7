-- The first statement of a body is read as no directive.
use Rattle.std.proofs.Common.{◌≡◌, ◌⊎◌, inl, inr, ℕ, Bool, true, false, if◌then◌else◌, Option, Some, None, is_some, List, [], ◌∷◌, ◌++◌, refl, sym, ap, ◌∙◌, subst, append-nil, not}
use Rattle.std.proofs.lemmas.Bool.{both_ways}
use Rattle.jsgen_syntax.specs.Strings.{quoted, escaped, is_backtick, string_value}
use Rattle.jsgen_syntax.specs.Wtf8.{are_units}
use Rattle.jsgen_syntax.specs.declared.quote.Quote.{Quote}
use Rattle.jsgen_syntax.specs.declared.quote.Quote.TheVariants.{Backtick}
use Rattle.jsgen_syntax.proofs.Strings.{escaped_value}
use Rattle.jsgen_syntax.specs.declared.precedence.Precedence.TheVariants as levels
use Rattle.jsgen_tree.specs.Job.{Tables}
use Rattle.jsgen_tree.specs.Inside.{inside_parentheses}
use Rattle.jsgen_tree.specs.Atom.{units}
use Rattle.jsgen_tree.specs.Tree.{Tree, Trees, no_trees, more, Atoms, span_of}
use Rattle.jsgen_tree.specs.Places.{bare}
use Rattle.jsgen_tree.specs.Nodes as tree
use Rattle.jsgen_tree.specs.declared.functions.FunctionKind.{FunctionKind}
use Rattle.jsgen_tree.specs.declared.classes.ClassKind.{ClassKind}
use Rattle.jsgen_model.specs.Punctuator.{semicolon, Round, opening, closing}
use Rattle.jsgen_model.specs.Tokens.{Tokens, done, piece, group, ◌⧺◌, Quoted, Sign}
use Rattle.jsgen_model.specs.Items.{Items, first_string, parentheses_unless_minified, due_semicolon, ◌⊕◌, statement_begins}
use Rattle.jsgen_model.specs.Layout.{Pen, layout, written, written_if, other_end, statement}
use Rattle.jsgen_model.specs.Grammar.{Allowed, EndsBy, ReadsFunction, ReadsClass, ReadsStatement, ReadsItem, ReadsBody, starts_with_directive, ReadsStatements, starts_statement}
use Rattle.jsgen_model.specs.Grammar as grammar
use Rattle.jsgen_model.specs.Normal.{normal, nothing_of}
use Rattle.jsgen_model.specs.Renamed.{renamed, renamed_trees}
use Rattle.jsgen_place.specs.Place.{among_statements, in_brackets}
use Rattle.jsgen_model.specs.Spell.{spell, spell_body, spell_statements, string_in, unless_string, first_statement}
use Rattle.jsgen_token_laws.proofs.Last.{Last, Open, After, line_of}
use Rattle.jsgen_token_laws.proofs.Writes.{wrote_none, wrote_both, then_assoc, then_done}
use Rattle.jsgen_token_laws.proofs.Steps.{gap, begins_written, none_due, wrote_quoted, opened, parentheses_written}
use Rattle.jsgen_row_laws.proofs.Levels.{from_primary}
use Rattle.jsgen_row_laws.proofs.Families.{IsInBackticks, IsItem}
use Rattle.jsgen_row_laws.proofs.Families as family
use Rattle.jsgen_row_laws.proofs.Asked.{is_string, asked}
use Rattle.jsgen_row_laws.proofs.Good.{operand_ready}
use Rattle.jsgen_row_laws.proofs.Templates.{AloneAt, alone_printed}
use Rattle.jsgen_row_laws.proofs.Openings.{Opens, opens}
use Rattle.jsgen_row_laws.proofs.Lists.{same_more}
use Rattle.jsgen_row_laws.proofs.Ends.{Ended, at_brace, ends_itself, ends_since, ended_more}
use Rattle.jsgen_row_laws.proofs.Stands.{Stands, Unended, StandsAt, UnendedAt, Listed, SameTree, SameTrees, stands_since, blank_before, whole_line, blank_before_unended}
use Rattle.jsgen_row_laws.proofs.Rows.{RestAs, GivesRest, RestAt}

-- read as no directive, whatever follows
abbrev pub Apart : Tokens → Type 0
Apart ts = (r : Tokens) → starts_with_directive (ts ⧺ r) ≡ false

no_directive : (ts : Tokens) (t : Tree) → Opens ts t → is_string (normal t) ≡ false → Apart ts
no_directive done t h n r = absurd h
no_directive (piece m (Quoted q w) done) t h n r = absurd (both_ways (is_string (normal t)) n h)
no_directive (piece m (Quoted q w) (piece k (Sign semicolon) ts)) t h n r = absurd h
no_directive ts t h n r = refl

-- ---- a statement that is no string alone

abbrev pub is_string_statement : Tree → Bool
is_string_statement (tree.expression_statement a e) = is_string e
is_string_statement t = false

-- with a semicolon behind it too
pub end_apart : {last : Bool} {ts a : Tokens} → EndsBy last ts a → Apart a → Apart ts
end_apart {a = a} (grammar.a_semicolon m e) h r = subst (λ ts. starts_with_directive (ts ⧺ r) ≡ false) (sym e) (subst (λ ts. starts_with_directive ts ≡ false) (sym (then_assoc a (piece m (Sign semicolon) done) r)) (h (piece m (Sign semicolon) r)))
end_apart grammar.the_brace h r = h r

statement_apart : {c : Allowed} {last before_else : Bool} {ts : Tokens} {u : Tree} → ReadsStatement c last before_else ts u → is_string_statement (normal u) ≡ false → Apart ts
statement_apart (grammar.an_expression_statement {a = a} {e = e} h s r) n = end_apart h (no_directive a e (opens r) n)
statement_apart grammar.an_empty_statement n = λ r. refl
statement_apart (grammar.a_block r) n = λ x. refl
statement_apart (grammar.an_if r s) n = λ x. refl
statement_apart (grammar.an_if_with_else k e r s u) n = λ x. refl
statement_apart (grammar.a_variable_statement h (grammar.some_variables r)) n = end_apart h (λ x. refl)
statement_apart (grammar.a_for k l e r s t u) n = λ x. refl
statement_apart (grammar.a_for_in k e r s t) n = λ x. refl
statement_apart (grammar.a_for_of k e r s t) n = λ x. refl
statement_apart (grammar.a_for_await k h e r s t) n = λ x. refl
statement_apart (grammar.a_while r s) n = λ x. refl
statement_apart (grammar.a_do_while k l h e r s) n = end_apart h (subst Apart (sym e) (λ x. refl))
statement_apart (grammar.a_labelled_statement e h r) n = λ x. refl
statement_apart (grammar.a_continue h r) n = end_apart h (λ x. refl)
statement_apart (grammar.a_break h r) n = end_apart h (λ x. refl)
statement_apart (grammar.a_throw h o r) n = end_apart h (λ x. refl)
statement_apart (grammar.a_debugger h) n = end_apart h (λ x. refl)
statement_apart (grammar.a_return p h r) n = end_apart h (λ x. refl)
statement_apart (grammar.a_switch r s) n = λ x. refl
statement_apart (grammar.a_try r s) n = λ x. refl

function_apart : {kind : FunctionKind} {nameless : Bool} {ts : Tokens} {t : Tree} → ReadsFunction kind nameless ts t → Apart ts
function_apart (grammar.a_plain_function r) = λ x. refl
function_apart (grammar.a_generator r) = λ x. refl
function_apart (grammar.an_async_function r) = λ x. refl
function_apart (grammar.an_async_generator r) = λ x. refl

class_apart : {c : Allowed} {kind : ClassKind} {nameless : Bool} {ts : Tokens} {t : Tree} → ReadsClass c kind nameless ts t → Apart ts
class_apart (grammar.a_named_class e h r) = λ x. refl
class_apart (grammar.a_nameless_class r) = λ x. refl

pub item_apart : {c : Allowed} {last : Bool} {ts : Tokens} {u : Tree} → ReadsItem c last ts u → is_string_statement (normal u) ≡ false → Apart ts
item_apart (grammar.a_statement r) n = statement_apart r n
item_apart (grammar.a_function_declaration r) n = function_apart r
item_apart (grammar.a_class_declaration r) n = class_apart r
item_apart (grammar.a_declaration kind k h (grammar.some_variables r)) n = end_apart h (λ x. refl)

-- a member of a row that is read as no directive
abbrev pub FirstAs : (Bool → Tokens → Tree → Type 0) → Bool → Tokens → Tree → Type 0
FirstAs R last ts t = R last ts t × Apart ts

-- an item that is
abbrev pub First : Allowed → Bool → Tokens → Tree → Type 0
First c last ts t = FirstAs (ReadsItem c) last ts t

no_string_first : {names : Tables} {c : Allowed} (t : Tree) → Listed names c t → is_string_statement (normal (renamed names t)) ≡ false → StandsAt names (First c) (SameTree names t) (spell t among_statements)
no_string_first t f n p l z y k = stands_since (λ e ts u s r. (r, item_apart r (ap is_string_statement s ∙ n))) (λ u s. s) (f p l z y k)

-- ---- a string alone

-- its tokens: a string in parentheses, or one in backticks
string_written : {names : Tables} (c : Allowed) (a : Atoms) (e : Tree) (us : List ℕ) → are_units us ≡ true → normal (renamed names e) ≡ tree.string_literal (bare (units us ∷ [])) → UnendedAt names (First c) (SameTree names (tree.expression_statement a e)) (parentheses_unless_minified (first_string us))
string_written {names} c a e us h s p l z y k = go p.style.minified
  where
    text_of : Quote → List ℕ
    text_of q = escaped q p.style.ascii us

    valued : (q : Quote) → string_value q (text_of q) ≡ Some us
    valued q = escaped_value q p.style.ascii us h

    of_text : Quote → List ℕ
    of_text q = quoted q p.style.ascii us

    go : (b : Bool) → Unended names (First c) (SameTree names (tree.expression_statement a e)) p l (written_if (not b) (closing Round) (written (of_text (if b then Backtick else p.style.quote)) other_end (written_if (not b) (opening Round) p)))
    go true = record {
      last = After (Quoted Backtick (text_of Backtick));
      tokens = piece (line_of l) (Quoted Backtick (text_of Backtick)) done;
      writes = wrote_quoted Backtick (text_of Backtick) us p (written_if false (closing Round) (written (of_text Backtick) other_end (written_if false (opening Round) p))) l (valued Backtick) (append-nil _ ∙ ap (λ code. code ++ of_text Backtick) (append-nil p.code)) refl k;
      ready = tt;
      semicolon = z;
      reading = tree.expression_statement (nothing_of 0) (tree.string_literal (bare (units us ∷ [])));
      reads = record { read = λ e ts x. (grammar.a_statement (grammar.an_expression_statement x refl (from_primary (in_brackets levels.Lowest) (grammar.a_string (valued Backtick)))), end_apart x in_backticks) };
      same = ap (λ x. tree.expression_statement (nothing_of 0) x) (sym s);
    }
      where
        in_backticks : (r : Tokens) → starts_with_directive (piece (line_of l) (Quoted Backtick (text_of Backtick)) r) ≡ false
        in_backticks done = refl
        in_backticks (piece n (Sign semicolon) ts) = refl
        in_backticks r = refl
    go false =
        let q : Quote = p.style.quote in
        let p1 : Pen = written_if true (opening Round) p in
        let p2 : Pen = written (of_text q) other_end p1 in
        let w = wrote_quoted q (text_of q) us p1 p2 (Open false) (valued q) refl refl (opened p l k) in
        record {
          last = Open false;
          tokens = group (line_of l) Round (piece false (Quoted q (text_of q)) done) done;
          writes = parentheses_written p p2 l (After (Quoted q (text_of q))) (piece false (Quoted q (text_of q)) done) w;
          ready = tt;
          semicolon = z;
          reading = tree.expression_statement (nothing_of 0) (tree.parenthesized (nothing_of 0) (tree.string_literal (bare (units us ∷ []))));
          reads = record { read = λ e ts x. (grammar.a_statement (grammar.an_expression_statement x refl (from_primary (in_brackets levels.Lowest) (grammar.in_parentheses (from_primary (in_brackets levels.Lowest) (grammar.a_string (valued q)))))), end_apart x (λ d. refl)) };
          same = ap (λ x. tree.expression_statement (nothing_of 0) x) (sym s);
        }

-- ---- a template of one piece

template_first : {names : Tables} {q : Pen} {l : Last} {c : Allowed} (a : Atoms) (e : Tree) (p : Pen) → let p1 : Pen = record p { start = statement } in AloneAt names p1 l q c (in_brackets levels.Lowest) e → Unended names (First c) (SameTree names (tree.expression_statement a e)) p1 l q
template_first a e p x =
    let g = x.good in
    record {
      last = g.last;
      tokens = g.tokens;
      writes = g.writes;
      ready = operand_ready g.last g.operand;
      semicolon = g.semicolon;
      reading = tree.expression_statement (nothing_of 0) g.tree;
      reads = record { read = λ last ts h. (grammar.a_statement (grammar.an_expression_statement h (subst (λ us. starts_statement us ≡ true) (then_done g.tokens) (g.begins done refl)) g.reads), end_apart h x.apart) };
      same = ap (λ u. tree.expression_statement (nothing_of 0) u) g.same;
    }

template_written : {names : Tables} (c : Allowed) (a : Atoms) (e : Tree) → IsInBackticks e → UnendedAt names (First c) (SameTree names (tree.expression_statement a e)) (statement_begins ⊕ spell e (in_brackets levels.Lowest))
template_written c a e h p l z y k =
    let b = begins_written p l k in
    blank_before_unended (gap b) (template_first a e p (alone_printed c h (in_brackets levels.Lowest) (layout statement_begins p) b.last (b.semicolon ∙ z) (b.ready y) b.writes.knows))

-- ---- the first item of a body

pub first_stated : {names : Tables} {c : Allowed} {t : Tree} → IsItem names c t → Listed names c t → StandsAt names (First c) (SameTree names t) (first_statement t (spell t among_statements))
first_stated {names} {c} (family.a_statement (family.an_expression_statement {a} {e} v)) f = go (string_in (inside_parentheses e)) refl
  where
    go : (o : Option (List ℕ)) → string_in (inside_parentheses e) ≡ o → StandsAt names (First c) (SameTree names (tree.expression_statement a e)) (unless_string a.span (span_of (inside_parentheses e)) o (spell (tree.expression_statement a e) among_statements))
    go (Some us) s = let k = (asked v).inside us s in whole_line (parentheses_unless_minified (first_string us)) (string_written c a e us k.0 k.1)
    go None s = unless_template (asked v).string
      where
        unless_template : IsInBackticks e ⊎ (is_string (normal (renamed names e)) ≡ is_some (string_in (inside_parentheses e))) → StandsAt names (First c) (SameTree names (tree.expression_statement a e)) (spell (tree.expression_statement a e) among_statements)
        unless_template (inl h) = whole_line (statement_begins ⊕ spell e (in_brackets levels.Lowest)) (template_written c a e h)
        unless_template (inr n) = no_string_first (tree.expression_statement a e) f (n ∙ ap is_some s)
first_stated {t = t} (family.a_statement v) f = no_string_first t f refl
first_stated {t = t} (family.a_function_declaration v) f = no_string_first t f refl
first_stated {t = t} (family.a_class_declaration v) f = no_string_first t f refl
first_stated {t = t} (family.a_declaration h m v) f = no_string_first t f refl

-- ---- the statements of a body

-- How a body is read, of a function or of a module: a directive before one, and a row that begins with none
pub record JoinsBody (L : Bool → Tokens → Trees → Type 0) (B : Bool → Tokens → Trees → Trees → Type 0) : Type 0 where
  pub directive : {last mark next : Bool} {q : Quote} {w us : List ℕ} {ts : Tokens} {ds ss : Trees} → is_backtick q ≡ false → string_value q w ≡ Some us → B last ts ds ss → B last (piece mark (Quoted q w) (piece next (Sign semicolon) ts)) (more (tree.directive (bare (units us ∷ []))) ds) ss
  pub nothing_there : (last : Bool) → L last done no_trees
  pub row : (last : Bool) (ts : Tokens) (ss : Trees) → starts_with_directive ts ≡ false → L last ts ss → B last ts no_trees ss

pub statements_body : (c : Allowed) → JoinsBody (ReadsStatements c) (ReadsBody c)
statements_body c = record { directive = λ p v r. grammar.a_directive p v r; nothing_there = λ e. grammar.no_statement; row = λ e ts ss n r. grammar.statements n r }

-- between two pens stands the row of a body, which is read as no directives
abbrev pub BodyAsAt : Tables → (Bool → Tokens → Trees → Trees → Type 0) → Items → Trees → Type 0
BodyAsAt names B items ss = StandsAt names (λ e ts us. B e ts no_trees us) (SameTrees names ss) items

abbrev pub BodyAt : Tables → Allowed → Items → Trees → Type 0
BodyAt names c items ss = BodyAsAt names (ReadsBody c) items ss

first_row : {names : Tables} {R : Bool → Tokens → Tree → Type 0} {L : Bool → Tokens → Trees → Type 0} {B : Bool → Tokens → Trees → Trees → Type 0} {p q r : Pen} {l : Last} → JoinsBody L B → (t : Tree) (ss : Trees) → (g : Stands names (FirstAs R) (SameTree names t) p l q) → RestAs names R L q g.last r ss → Stands names (λ e ts us. B e ts no_trees us) (SameTrees names (more t ss)) p l r
first_row {names} {q = q} {r = r} j t ss g h = record {
  last = h.last;
  tokens = g.tokens ⧺ h.tokens;
  writes = wrote_both g.writes h.writes;
  ready = h.ready;
  reading = more g.reading h.trees;
  reads = record { read = λ e ts x. j.row e ts (more g.reading h.trees) (apart e ts x) ((h.reads g.tokens g.reading (ends_since (λ f us i. i.0) g.reads)).read e ts x) };
  same = same_more g.reading (renamed names t) h.trees (renamed_trees names ss) g.same h.same;
}
  where
    apart : (e : Bool) (ts : Tokens) → Ended r.pending_semicolon e ts (g.tokens ⧺ h.tokens) → starts_with_directive ts ≡ false
    apart e ts x =
        let k = ended_more r.pending_semicolon e ts (g.tokens ⧺ h.tokens) x in
        subst (λ us. starts_with_directive us ≡ false) (sym (k.1 ∙ then_assoc g.tokens h.tokens k.0)) ((g.reads.read true g.tokens (at_brace q.pending_semicolon g.tokens)).1 (h.tokens ⧺ k.0))

pub no_body_as : {names : Tables} {L : Bool → Tokens → Trees → Type 0} {B : Bool → Tokens → Trees → Trees → Type 0} → JoinsBody L B → BodyAsAt names B (spell_body no_trees) no_trees
no_body_as j p l z y k = record {
  last = l;
  tokens = done;
  writes = wrote_none p p l refl k;
  ready = y;
  reading = no_trees;
  reads = ends_itself z (λ e. j.row e done no_trees refl (j.nothing_there e));
  same = refl;
}

pub some_body_as : {names : Tables} {R : Bool → Tokens → Tree → Type 0} {L : Bool → Tokens → Trees → Type 0} {B : Bool → Tokens → Trees → Trees → Type 0} → JoinsBody L B → (s : Tree) (ss : Trees) → StandsAt names (FirstAs R) (SameTree names s) (first_statement s (spell s among_statements)) → GivesRest names R L (spell_statements ss) ss → BodyAsAt names B (spell_body (more s ss)) (more s ss)
some_body_as j s ss f r p l z y k =
    let p1 : Pen = layout due_semicolon p in
    let n = none_due p l z k in
    let g = f p1 n.last (n.semicolon ∙ z) (n.ready y) n.writes.knows in
    blank_before (gap n) (first_row j s ss g (r (layout (first_statement s (spell s among_statements)) p1) g.last g.ready g.writes.knows))

pub no_body : {names : Tables} (c : Allowed) → BodyAt names c (spell_body no_trees) no_trees
no_body c = no_body_as (statements_body c)

pub some_body : {names : Tables} (c : Allowed) (s : Tree) (ss : Trees) → StandsAt names (First c) (SameTree names s) (first_statement s (spell s among_statements)) → RestAt names c (spell_statements ss) ss → BodyAt names c (spell_body (more s ss)) (more s ss)
some_body c s ss f r = some_body_as (statements_body c) s ss f r
