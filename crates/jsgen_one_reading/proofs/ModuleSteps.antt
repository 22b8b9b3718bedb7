-- What the reader does in imports and exports, before the induction.
use Rattle.std.proofs.Common.{◌≡◌, ℕ, ◌≤◌, List, [], ◌∷◌, Bool, true, false, codes, Some, refl, ap, sym, ◌∙◌, arith}
use Rattle.std.specs.Prelude.{not, ◌&&◌, ◌||◌}
use Rattle.std.specs.Option.{option_map_or}
use Rattle.std.specs.Str.{bytes_eq}
use Rattle.std.proofs.lemmas.Bool.{le-leb}
use Rattle.std.proofs.lemmas.Slice.Eq.{bytes_eq-Decides}
use Rattle.jsgen_syntax.specs.Escapes.{word_value}
use Rattle.jsgen_syntax.specs.Name.{is_free_name}
use Rattle.jsgen_syntax.specs.Strings.{is_backtick, string_value}
use Rattle.jsgen_syntax.specs.declared.quote.Quote.{Quote}
use Rattle.jsgen_tree.specs.declared.statements.VariableDeclarationKind.{VariableDeclarationKind}
use Rattle.jsgen_tree.specs.declared.statements.VariableDeclarationKind.TheVariants.{Const, Let, Var}
use Rattle.jsgen_tree.specs.Tree.{Tree, Maybe, absent, given, Trees, no_trees, more, no_list}
use Rattle.jsgen_tree.specs.Nodes as tree
use Rattle.jsgen_model.specs.Punctuator.{comma, semicolon, Round}
use Rattle.jsgen_model.specs.Tokens.{Piece, Tokens, done, piece, group, ◌⧺◌, Word, Number, Quoted, Sign, Beyond}
use Rattle.jsgen_model.specs.Normal.{named, unnumbered, joined}
use Rattle.jsgen_model.specs.Grammar.{Allowed, Call, with_in, units_of, text_of, is_word, on_same_line, is_reference_alone, starts_function_or_class, may_be_exported, EndsBy, declaring, ReadsImported, ReadsModuleName, ReadsSource, ReadsNamedImports}
use Rattle.jsgen_model.specs.Grammar as grammar
use Rattle.jsgen_one_reading.specs.Modules.{import_call_of, import_of, bound_alike, word_text, exported}
use Rattle.jsgen_one_reading.specs.States.{Frame, State, wrap_of, imported_of, exported_default, a_declaration, operand, linked, start, ended, failed, binding, exchange, import_start, import_others, before_source, attribute_key, specifiers, specifier_named, specifier_as, before_default, exports, exported_named, wrong, one_tree, some_trees, a_body, wanted, set_in}
use Rattle.jsgen_one_reading.specs.ExpressionPieces.{word_operand}
use Rattle.jsgen_one_reading.specs.Steps.{word_start, quoted_piece, module_name, bound_piece, attributes_piece, specifiers_piece, specifier_named_piece, exports_piece, exporting_word, before_default_piece, step}
use Rattle.jsgen_one_reading.specs.Brackets.{imported_with}
use Rattle.jsgen_one_reading.specs.Reader.{run}
use Rattle.jsgen_one_reading.proofs.Steps.{then_done, untrue, run_failed}
use Rattle.jsgen_one_reading.proofs.Shown.{ExpressionShown}
use Rattle.jsgen_one_reading.proofs.Claims.{Settles, Claim, both_calls, parted}
use Rattle.jsgen_one_reading.proofs.StatementSteps.{async_expression, and_assoc, starts_the, declares, declares_then, and_false}

-- ---- `import(..)`

-- what stands in its parentheses
abbrev pub imported_trees : Tree → Maybe → Trees
imported_trees e absent = more e no_trees
imported_trees e (given options) = more e (more options no_trees)

-- the last of it, with a comma or without
imported_last : (c : Allowed) (ts : Tokens) (e : Tree) → Settles 2 c ts e → (sofar : Trees) → (run (operand c (imported_of sofar ∷ [])) ts ≡ some_trees (joined sofar (more e no_trees))) × ((m : Bool) → run (operand c (imported_of sofar ∷ [])) (ts ⧺ piece m (Sign comma) done) ≡ some_trees (joined sofar (more e no_trees)))
imported_last c ts e s sofar = (ap (run (operand c (imported_of sofar ∷ []))) (sym (then_done ts)) ∙ s (imported_of sofar ∷ []) done (omega arith) (omega arith), λ m. s (imported_of sofar ∷ []) (piece m (Sign comma) done) (omega arith) (omega arith))

-- the first, before options
imported_first : (c : Allowed) (a : Tokens) (e : Tree) → Settles 2 c a e → (m : Bool) (b : Tokens) → run (operand c (imported_of no_trees ∷ [])) (a ⧺ piece m (Sign comma) b) ≡ run (operand c (imported_of (more e no_trees) ∷ [])) b
imported_first c a e s m b = s (imported_of no_trees ∷ []) (piece m (Sign comma) b) (omega arith) (omega arith)

abbrev pub ImportedParts : {c : Allowed} {ts : Tokens} {e : Tree} {options : Maybe} → ReadsImported c ts e options → Type 0
ImportedParts (grammar.an_imported d) = ExpressionShown d
ImportedParts (grammar.an_imported_and_a_comma m q d) = ExpressionShown d
ImportedParts (grammar.with_options m q d f) = ExpressionShown d × ExpressionShown f
ImportedParts (grammar.with_options_and_a_comma m n q d f) = ExpressionShown d × ExpressionShown f

pub imported_read : {c : Allowed} {ts : Tokens} {e : Tree} {options : Maybe} → (d : ReadsImported c ts e options) → ImportedParts d → run (operand c (imported_of no_trees ∷ [])) ts ≡ some_trees (imported_trees e options)
imported_read (grammar.an_imported {c} {ts = ts} {e = x} d) of_d = (imported_last c ts x of_d.0 no_trees).0
imported_read (grammar.an_imported_and_a_comma {c} {a = a} {e = x} m q d) of_d = ap (run (operand c (imported_of no_trees ∷ []))) q ∙ (imported_last c a x of_d.0 no_trees).1 m
imported_read (grammar.with_options {c} {a = a} {b = b} {e = x} {f = y} m q d f) (of_d, of_f) = ap (run (operand c (imported_of no_trees ∷ []))) q ∙ (imported_first c a x of_d.0 m b ∙ (imported_last c b y of_f.0 (more x no_trees)).0)
imported_read (grammar.with_options_and_a_comma {c} {a = a} {b = b} {e = x} {f = y} m n q d f) (of_d, of_f) = ap (run (operand c (imported_of no_trees ∷ []))) q ∙ (imported_first c a x of_d.0 m (b ⧺ piece n (Sign comma) done) ∙ (imported_last c b y of_f.0 (more x no_trees)).1 n)

import_step : (c : Allowed) (k : List Frame) (e : Tree) (options : Maybe) → wanted k ≤ 17 → imported_with c k (some_trees (imported_trees e options)) ≡ linked c k (import_call_of e options)
import_step c k e absent h = rw (le-leb (wanted k) 17 h) refl
import_step c k e (given x) h = rw (le-leb (wanted k) 17 h) refl

pub import_call_read : (c : Allowed) (m n : Bool) (inside : Tokens) (e : Tree) (options : Maybe) → run (operand (with_in c) (imported_of no_trees ∷ [])) inside ≡ some_trees (imported_trees e options) → Claim Call c (piece m (Word (codes "import")) (group n Round inside done)) (import_call_of e options)
import_call_read c m n inside e options h = both_calls c (piece m (Word (codes "import")) (group n Round inside done)) (import_call_of e options) (λ i k rest g z. ap (λ y. run (imported_with (set_in i c) k y) rest) h ∙ ap (λ x. run x rest) (import_step (set_in i c) k e options g))

-- ---- names, strings and what is bound

pub string_then : (f : Tree → State) (q : Quote) (w : List ℕ) {us : List ℕ} → is_backtick q ≡ false → string_value q w ≡ Some us → quoted_piece (Quoted q w) f ≡ f (text_of us)
string_then f q w b e = rw (b, e) refl

pub bound_then : (f : Tree → State) (w : List ℕ) {v : List ℕ} → word_value w ≡ Some v → is_free_name v ≡ true → bound_piece (Word w) f ≡ f (tree.binding_identifier (unnumbered v))
bound_then f w e h = rw (e, h) refl

word_then : (f : Tree → State) (w : List ℕ) {v : List ℕ} → word_value w ≡ Some v → module_name (Word w) f ≡ f (word_text v)
word_then f w e = rw e refl

-- a name is one token
pub name_then : {a : Tokens} {v : List ℕ} → ReadsModuleName a v → (s : State) (f : Tree → State) → ((m : Bool) (p : Piece) → step s m p ≡ module_name p f) → (rest : Tokens) → run s (a ⧺ rest) ≡ run (f (text_of v)) rest
name_then (grammar.a_word_name {mark = m} {w = w} e) s f h rest = ap (λ x. run x rest) (h m (Word w) ∙ word_then f w e)
name_then (grammar.a_string_name {mark = m} {q = q} {w = w} b e) s f h rest = ap (λ x. run x rest) (h m (Quoted q w) ∙ string_then f q w b e)

pub attribute_word : (ts : Trees) (w : List ℕ) {v : List ℕ} → word_value w ≡ Some v → attributes_piece ts (Word w) ≡ exchange (attribute_key ts (tree.identifier_name (named v)))
attribute_word ts w e = rw e refl

-- ---- imports

pub specifier_word : (ts : Trees) (w : List ℕ) {v : List ℕ} → word_value w ≡ Some v → specifiers_piece ts (Word w) ≡ exchange (specifier_named ts (bound_alike v) (word_text v))
specifier_word ts w e = rw e refl

-- a free name binds itself
pub specifier_free : (ts : Trees) (w : List ℕ) {v : List ℕ} → word_value w ≡ Some v → is_free_name v ≡ true → specifiers_piece ts (Word w) ≡ exchange (specifier_named ts (given (tree.binding_identifier (unnumbered v))) (word_text v))
specifier_free ts w e h = rw (e, h) refl

as_step : (ts : Trees) (m : Maybe) (k : Tree) → specifier_named_piece ts m k (Word (codes "as")) ≡ exchange (specifier_as ts k)
as_step ts absent k = refl
as_step ts (given b) k = refl

-- a name before `as`
pub renamed : {a : Tokens} {v : List ℕ} → ReadsModuleName a v → (ts : Trees) (m : Bool) (rest : Tokens) → run (exchange (specifiers ts)) (a ⧺ piece m (Word (codes "as")) rest) ≡ run (exchange (specifier_as ts (text_of v))) rest
renamed (grammar.a_word_name {w = w} {v = v} e) ts m rest = ap (λ s. run s (piece m (Word (codes "as")) rest)) (specifier_word ts w e) ∙ ap (λ s. run s rest) (as_step ts (bound_alike v) (word_text v))
renamed (grammar.a_string_name {q = q} {w = w} b e) ts m rest = ap (λ s. run s (piece m (Word (codes "as")) rest)) (string_then (λ k. exchange (specifier_named ts absent k)) q w b e)

-- behind `import` braces and a star begin as behind a comma
pub named_first : {a : Tokens} {ss : Trees} → ReadsNamedImports a ss → (c : Allowed) (k : List Frame) (rest : Tokens) → run (exchange (import_start c k)) (a ⧺ rest) ≡ run (exchange (import_others c k no_trees)) (a ⧺ rest)
named_first (grammar.imports_in_braces d) c k rest = refl
named_first (grammar.a_namespace e h) c k rest = refl

-- and a string as behind `from`
pub source_first : {a : Tokens} {s : Tree} {clause : Maybe} → ReadsSource a s clause → (c : Allowed) (k : List Frame) (rest : Tokens) → run (exchange (import_start c k)) (a ⧺ rest) ≡ run (exchange (before_source c k (import_of no_list))) (a ⧺ rest)
source_first (grammar.a_source b e) c k rest = refl
source_first (grammar.a_source_with b e d) c k rest = refl

-- ---- exports

export_word : (r : Bool) (ts : Trees) (w : List ℕ) {v : List ℕ} → word_value w ≡ Some v → exports_piece r ts (Word w) ≡ exchange (exported_named (r && option_map_or is_free_name (word_value w) false) ts (word_text v))
export_word r ts w e = rw e refl

-- a name that is exported, and whether it is a reference as those before it
pub export_name : {a : Tokens} {v : List ℕ} → ReadsModuleName a v → (r : Bool) (ts : Trees) (rest : Tokens) → run (exchange (exports r ts)) (a ⧺ rest) ≡ run (exchange (exported_named (r && is_reference_alone a) ts (text_of v))) rest
export_name (grammar.a_word_name {w = w} e) r ts rest = ap (λ s. run s rest) (export_word r ts w e)
export_name (grammar.a_string_name {q = q} {w = w} {us = us} b e) r ts rest = ap (λ s. run s rest) (string_then (λ k. exchange (exported_named false ts k)) q w b e) ∙ ap (λ x. run (exchange (exported_named x ts (text_of us))) rest) (sym (and_false r))

-- without a source all stay references
pub stay_references : (source r b : Bool) → (source || b) ≡ true → (source ≡ false → r ≡ true) → source ≡ false → r && b ≡ true
stay_references true r b h f e = untrue (sym e)
stay_references false r b h f e = rw (f refl, h) refl

pub exporting_declares : (c : Allowed) (k : List Frame) (kd : VariableDeclarationKind) → exporting_word c k (declaring kd) ≡ binding c (a_declaration kd no_trees) (wrap_of exported ∷ k)
exporting_declares c k Const = refl
exporting_declares c k Let = refl
exporting_declares c k Var = refl

no_function : (a b x : Bool) → not (a || b || x) ≡ true → (a ≡ false) × (b ≡ false) × (x ≡ false)
no_function true b x h = untrue h
no_function false true x h = untrue h
no_function false false true h = untrue h
no_function false false false h = (refl, refl, refl)

-- an expression begins behind `export default`
pub default_begins : (c : Allowed) (a : Tokens) (t : Tree) → run (operand c []) a ≡ one_tree t → may_be_exported a ≡ true → (k : List Frame) (rest : Tokens) → declares rest ≡ false → run (exchange (before_default c k)) (a ⧺ rest) ≡ run (operand c (exported_default ∷ k)) (a ⧺ rest)
default_begins c done t e s k rest d = absurd (cc)
default_begins c (piece m (Word w) us) t e s k rest d = by (bytes_eq w (codes "async")) refl
  where
    f : (bytes_eq w (codes "function") ≡ false) × (bytes_eq w (codes "class") ≡ false) × (bytes_eq w (codes "async") && is_word (codes "function") us && on_same_line us ≡ false)
    f = no_function (bytes_eq w (codes "function")) (bytes_eq w (codes "class")) (bytes_eq w (codes "async") && is_word (codes "function") us && on_same_line us) s

    by : (b : Bool) → bytes_eq w (codes "async") ≡ b → run (before_default_piece c k (Word w)) (us ⧺ rest) ≡ run (word_operand c (exported_default ∷ k) w) (us ⧺ rest)
    by false a = ap (λ x. run x (us ⧺ rest)) (rw (f.0, f.1, a) refl)
    by true a =
        let q : w ≡ codes "async" = (bytes_eq-Decides w (codes "async")).0 a in
        let n : declares us ≡ false = ap (λ x. x && declares us) (sym a) ∙ and_assoc (bytes_eq w (codes "async")) (is_word (codes "function") us) (on_same_line us) f.2 in
        ap (λ x. run (before_default_piece c k (Word x)) (us ⧺ rest)) q ∙ (async_expression c (exported_default ∷ k) (us ⧺ rest) (declares_then us rest n d) ∙ sym (ap (λ x. run (word_operand c (exported_default ∷ k) x) (us ⧺ rest)) q))
default_begins c (piece m (Number w) us) t e s k rest d = refl
default_begins c (piece m (Quoted q w) us) t e s k rest d = refl
default_begins c (piece m (Beyond x) us) t e s k rest d = refl
default_begins c (piece m (Sign p) us) t e s k rest d = refl
default_begins c (group m b inside us) t e s k rest d = refl

-- ---- items

-- what ends by a semicolon is read before it
pub by_semicolon : {last : Bool} {ts a : Tokens} → EndsBy last ts a → last ≡ false → (c : Allowed) (s : State) (k : List Frame) (t : Tree) (rest : Tokens) → ((m : Bool) → run s (a ⧺ piece m (Sign semicolon) rest) ≡ run (ended c k t) rest) → run s (ts ⧺ rest) ≡ run (ended c k t) rest
by_semicolon (grammar.a_semicolon {ts = ts} {a = a} m e) l c s k t rest f = parted s ts a m (Sign semicolon) done rest e ∙ f m
by_semicolon grammar.the_brace l c s k t rest f = untrue (sym l)

-- no item begins with a word that begins no statement
pub no_item : (c : Allowed) (x : List ℕ) (b : Tokens) (k : List Frame) (ds ss : Trees) → word_start c k x ≡ failed → run (start c k) b ≡ a_body ds ss → starts_the x b ≡ false
no_item c x done k ds ss f e = refl
no_item c x (piece m (Word w) us) k ds ss f e = by (bytes_eq w x) refl
  where
    by : (b : Bool) → bytes_eq w x ≡ b → b ≡ false
    by false h = refl
    by true h = absurd (let s : run (word_start c k w) us ≡ wrong = ap (λ y. run (word_start c k y) us) ((bytes_eq-Decides w x).0 h) ∙ (ap (λ y. run y us) f ∙ run_failed us) in cc)
no_item c x (piece m (Number w) us) k ds ss f e = refl
no_item c x (piece m (Quoted q w) us) k ds ss f e = refl
no_item c x (piece m (Beyond s) us) k ds ss f e = refl
no_item c x (piece m (Sign p) us) k ds ss f e = refl
no_item c x (group m b inside us) k ds ss f e = refl
