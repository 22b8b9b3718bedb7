-- What the grammar reads as a module, the reader reads, so it is one tree.
use Rattle.std.proofs.Common.{◌≡◌, ℕ, List, [], ◌∷◌, Bool, true, false, Option, Some, None, codes, refl, ap, sym, ◌∙◌, arith}
use Rattle.std.specs.Prelude.{◌&&◌}
use Rattle.std.proofs.lemmas.Bool.{both_ways}
use Rattle.jsgen_tree.specs.Tree.{Tree, Maybe, absent, given, Trees, no_trees, more, no_list, listed}
use Rattle.jsgen_tree.specs.Nodes as tree
use Rattle.jsgen_model.specs.Punctuator.{colon, comma, semicolon, Brace}
use Rattle.jsgen_model.specs.Tokens.{Tokens, done, piece, group, ◌⧺◌, Word, Quoted, Sign}
use Rattle.jsgen_model.specs.Normal.{nothing_of, named, unnumbered, declared_as, joined}
use Rattle.jsgen_model.specs.Grammar.{in_module, is_reference_alone, text_of, hashbang_of, ReadsAttribute, ReadsAttributes, ReadsSource, ReadsSpecifier, ReadsSpecifiers, ReadsNamedImports, ReadsImportClause, ReadsImport, ReadsExported, ReadsAllExported, ReadsDeclared, ReadsDefault, ReadsExport, ReadsModuleItem, ReadsModuleItems, ReadsModuleBody, ReadsModule, ReadsProgram}
use Rattle.jsgen_model.specs.Grammar as grammar
use Rattle.jsgen_one_reading.specs.Modules.{import_of, default_import, namespace_import, named_import, attribute_of, attributes_of, exported, default_exported, named_export, export_of, export_from, export_all}
use Rattle.jsgen_one_reading.specs.States.{Frame, in_a_body, list_of, wrap_of, exported_default, as_statement, operand, start, ended, ending, before_directives, exchange, import_start, import_named, import_others, before_from, before_source, behind_source, attributes, attribute_key, attribute_done, specifiers, specifier_done, exporting, before_default, all_exported_as, exports, exported_as, exported_done, names_exported, one_tree, some_trees, some_exports, a_body, directives}
use Rattle.jsgen_one_reading.specs.ExpressionPieces.{when}
use Rattle.jsgen_one_reading.specs.Steps.{directive_of, others_imported}
use Rattle.jsgen_one_reading.specs.Brackets.{trees_then, exports_then}
use Rattle.jsgen_one_reading.specs.Reader.{run}
use Rattle.jsgen_one_reading.proofs.Steps.{then_assoc, then_done, joined_more, joined_none, untrue, starts_else, close_wrap, close_default, close_item}
use Rattle.jsgen_one_reading.proofs.Claims.{parted}
use Rattle.jsgen_one_reading.proofs.StatementSteps.{starts_the, unstarted, same_else, directive_step, directives_begin}
use Rattle.jsgen_one_reading.proofs.ModuleSteps.{string_then, bound_then, name_then, attribute_word, specifier_free, renamed, named_first, source_first, export_name, stay_references, exporting_declares, default_begins, by_semicolon, no_item}
use Rattle.jsgen_one_reading.proofs.Expressions.{expression_read}
use Rattle.jsgen_one_reading.proofs.Functions.{function_read}
use Rattle.jsgen_one_reading.proofs.Classes.{class_read}
use Rattle.jsgen_one_reading.proofs.Statements.{declarators_read, item_read}
use Rattle.jsgen_one_reading.proofs.Complete.{expression_parts, function_parts, class_parts, declarators_parts, item_parts}

-- ---- sources

-- an attribute behind those so far
attribute_read : {a : Tokens} {t : Tree} → ReadsAttribute a t → (sofar : Trees) (rest : Tokens) → run (exchange (attributes sofar)) (a ⧺ rest) ≡ run (exchange (attribute_done (joined sofar (more t no_trees)))) rest
attribute_read (grammar.an_attribute {next = n} {third = l} {w = w} {v = v} {x = x} {q = q} e b h) sofar rest = ap (λ s. run s (piece n (Sign colon) (piece l (Quoted q x) rest))) (attribute_word sofar w e) ∙ ap (λ s. run s rest) (string_then (λ y. exchange (attribute_done (joined sofar (more (attribute_of (tree.identifier_name (named v)) y) no_trees)))) q x b h)
attribute_read (grammar.an_attribute_by_string {next = n} {third = l} {w = w} {v = v} {x = x} {q = q} {r = r} b e c h) sofar rest = ap (λ s. run s (piece n (Sign colon) (piece l (Quoted q x) rest))) (string_then (λ y. exchange (attribute_key sofar y)) r w b e) ∙ ap (λ s. run s rest) (string_then (λ y. exchange (attribute_done (joined sofar (more (attribute_of (text_of v) y) no_trees)))) q x c h)

attributes_read : {ts : Tokens} {es : Trees} → ReadsAttributes ts es → (sofar : Trees) → run (exchange (attributes sofar)) ts ≡ some_trees (joined sofar es)
attributes_read grammar.no_attribute sofar = ap some_trees (sym (joined_none sofar))
attributes_read (grammar.last_attribute {ts} d) sofar = ap (run (exchange (attributes sofar))) (sym (then_done ts)) ∙ attribute_read d sofar done
attributes_read (grammar.first_attribute {b = b} {t = t} {us = us} m q d p) sofar = ap (run (exchange (attributes sofar))) q ∙ (attribute_read d sofar (piece m (Sign comma) b) ∙ (attributes_read p (joined sofar (more t no_trees)) ∙ ap some_trees (joined_more sofar us t)))

-- a source, before the semicolon of what it ends
source_read : {b : Tokens} {s : Tree} {clause : Maybe} → ReadsSource b s clause → (k : List Frame) (f : Tree → Maybe → Tree) (m : Bool) (rest : Tokens) → run (exchange (before_source in_module k f)) (b ⧺ piece m (Sign semicolon) rest) ≡ run (ended in_module k (f s clause)) rest
source_read (grammar.a_source {q = q} {w = w} b e) k f m rest = ap (λ s. run s (piece m (Sign semicolon) rest)) (string_then (λ s. exchange (behind_source in_module k f s)) q w b e)
source_read (grammar.a_source_with {next = n} {third = l} {q = q} {w = w} {us = us} {inside = inside} b e d) k f m rest = ap (λ s. run s (piece n (Word (codes "with")) (group l Brace inside (piece m (Sign semicolon) rest)))) (string_then (λ s. exchange (behind_source in_module k f s)) q w b e) ∙ ap (λ y. run (trees_then y (λ es. ending in_module k (f (text_of us) (attributes_of es)))) (piece m (Sign semicolon) rest)) (attributes_read d no_trees)

-- ---- imports

-- a name behind those so far, at the end and before a comma
specifier_read : {a : Tokens} {t : Tree} → ReadsSpecifier a t → (sofar : Trees) → (run (exchange (specifiers sofar)) a ≡ some_trees (joined sofar (more t no_trees))) × ((m : Bool) (rest : Tokens) → run (exchange (specifiers sofar)) (a ⧺ piece m (Sign comma) rest) ≡ run (exchange (specifiers (joined sofar (more t no_trees)))) rest)
specifier_read (grammar.a_specifier {w = w} e h) sofar = (ap (λ s. run s done) (specifier_free sofar w e h), λ m rest. ap (λ s. run s (piece m (Sign comma) rest)) (specifier_free sofar w e h))
specifier_read (grammar.a_specifier_as {ts} {a} {k = k} {v = v} w m n q d e h) sofar = (ap (run (exchange (specifiers sofar))) (sym (then_done ts)) ∙ upto done, λ l rest. upto (piece l (Sign comma) rest))
  where
    upto : (rest : Tokens) → run (exchange (specifiers sofar)) (ts ⧺ rest) ≡ run (exchange (specifier_done (joined sofar (more (named_import (text_of k) (tree.binding_identifier (unnumbered v))) no_trees)))) rest
    upto rest = parted (exchange (specifiers sofar)) ts a m (Word (codes "as")) (piece n (Word w) done) rest q ∙ (renamed d sofar m (piece n (Word w) rest) ∙ ap (λ s. run s rest) (bound_then (λ b. exchange (specifier_done (joined sofar (more (named_import (text_of k) b) no_trees)))) w e h))

specifiers_read : {ts : Tokens} {us : Trees} → ReadsSpecifiers ts us → (sofar : Trees) → run (exchange (specifiers sofar)) ts ≡ some_trees (joined sofar us)
specifiers_read grammar.no_specifier sofar = ap some_trees (sym (joined_none sofar))
specifiers_read (grammar.last_specifier d) sofar = (specifier_read d sofar).0
specifiers_read (grammar.first_specifier {b = b} {t = t} {us = us} m q d p) sofar = ap (run (exchange (specifiers sofar))) q ∙ ((specifier_read d sofar).1 m b ∙ (specifiers_read p (joined sofar (more t no_trees)) ∙ ap some_trees (joined_more sofar us t)))

-- names in braces or a namespace, behind what is bound so far
named_read : {a : Tokens} {ss : Trees} → ReadsNamedImports a ss → (k : List Frame) (sofar : Trees) (rest : Tokens) → run (exchange (import_others in_module k sofar)) (a ⧺ rest) ≡ run (exchange (before_from in_module k (import_of (listed (joined sofar ss))))) rest
named_read (grammar.imports_in_braces d) k sofar rest = ap (λ y. run (trees_then y (λ us. others_imported in_module k sofar us)) rest) (specifiers_read d no_trees)
named_read (grammar.a_namespace {w = w} e h) k sofar rest = ap (λ s. run s rest) (bound_then (λ b. others_imported in_module k sofar (more (namespace_import b) no_trees)) w e h)

-- what is imported, with `from`
clause_read : {a : Tokens} {ss : Trees} → ReadsImportClause a ss → (k : List Frame) (m : Bool) (rest : Tokens) → run (exchange (import_start in_module k)) (a ⧺ piece m (Word (codes "from")) rest) ≡ run (exchange (before_source in_module k (import_of (listed ss)))) rest
clause_read (grammar.a_default_import {w = w} e h) k m rest = ap (λ s. run s (piece m (Word (codes "from")) rest)) (bound_then (λ b. exchange (import_named in_module k (more (default_import b) no_trees))) w e h)
clause_read (grammar.named_imports d) k m rest = named_first d in_module k (piece m (Word (codes "from")) rest) ∙ named_read d k no_trees (piece m (Word (codes "from")) rest)
clause_read (grammar.a_default_and_others {next = n} {w = w} {v = v} {ts = ts} e h d) k m rest = ap (λ s. run s (piece n (Sign comma) (ts ⧺ piece m (Word (codes "from")) rest))) (bound_then (λ b. exchange (import_named in_module k (more (default_import b) no_trees))) w e h) ∙ named_read d k (more (default_import (tree.binding_identifier (unnumbered v))) no_trees) (piece m (Word (codes "from")) rest)

import_read : {a : Tokens} {t : Tree} → ReadsImport a t → (k : List Frame) (m : Bool) (rest : Tokens) → run (exchange (import_start in_module k)) (a ⧺ piece m (Sign semicolon) rest) ≡ run (ended in_module k t) rest
import_read (grammar.an_import_alone d) k m rest = source_first d in_module k (piece m (Sign semicolon) rest) ∙ source_read d k (import_of no_list) m rest
import_read (grammar.an_import_of {ts} {a} {b} {ss} n q d p) k m rest = parted (exchange (import_start in_module k)) ts a n (Word (codes "from")) b (piece m (Sign semicolon) rest) q ∙ (clause_read d k n (b ⧺ piece m (Sign semicolon) rest) ∙ source_read p k (import_of (listed ss)) m rest)

-- ---- exports

-- a name behind those so far, and whether all are references
abbrev pub ExportedRead : Bool → Bool → Trees → Tokens → Tree → Type 0
ExportedRead source r sofar a t =
    (s : Bool) × (source ≡ false → s ≡ true) × (run (exchange (exports r sofar)) a ≡ some_exports s (joined sofar (more t no_trees)))
    × ((m : Bool) (rest : Tokens) → run (exchange (exports r sofar)) (a ⧺ piece m (Sign comma) rest) ≡ run (exchange (exports s (joined sofar (more t no_trees)))) rest)

exported_read : {source : Bool} {a : Tokens} {t : Tree} → ReadsExported source a t → (r : Bool) → (source ≡ false → r ≡ true) → (sofar : Trees) → ExportedRead source r sofar a t
exported_read (grammar.an_exported_name {source} {a} d g) r h sofar = (r && is_reference_alone a, stay_references source r (is_reference_alone a) g h, ap (run (exchange (exports r sofar))) (sym (then_done a)) ∙ export_name d r sofar done, λ m rest. export_name d r sofar (piece m (Sign comma) rest))
exported_read (grammar.an_exported_name_as {source} {ts} {a} {b} {k} {l} m q d g x) r h sofar = (r && is_reference_alone a, stay_references source r (is_reference_alone a) g h, ap (run (exchange (exports r sofar))) (sym (then_done ts)) ∙ upto done, λ n rest. upto (piece n (Sign comma) rest))
  where
    upto : (rest : Tokens) → run (exchange (exports r sofar)) (ts ⧺ rest) ≡ run (exchange (exported_done (r && is_reference_alone a) (joined sofar (more (named_export (text_of k) (text_of l)) no_trees)))) rest
    upto rest = parted (exchange (exports r sofar)) ts a m (Word (codes "as")) b rest q ∙ (export_name d r sofar (piece m (Word (codes "as")) (b ⧺ rest)) ∙ name_then x (exchange (exported_as (r && is_reference_alone a) sofar (text_of k))) (λ y. exchange (exported_done (r && is_reference_alone a) (joined sofar (more (named_export (text_of k) y) no_trees)))) (λ n p. refl) rest)

all_exported_read : {source : Bool} {ts : Tokens} {ss : Trees} → ReadsAllExported source ts ss → (r : Bool) → (source ≡ false → r ≡ true) → (sofar : Trees) → (s : Bool) × (source ≡ false → s ≡ true) × (run (exchange (exports r sofar)) ts ≡ some_exports s (joined sofar ss))
all_exported_read grammar.none_exported r h sofar = (r, h, ap (some_exports r) (sym (joined_none sofar)))
all_exported_read (grammar.last_exported d) r h sofar = let x = exported_read d r h sofar in (x.0, x.1, x.2)
all_exported_read (grammar.first_exported {b = b} {t = t} {us = us} m q d p) r h sofar =
    let x = exported_read d r h sofar in
    let y = all_exported_read p x.0 x.1 (joined sofar (more t no_trees)) in
    (y.0, y.1, ap (run (exchange (exports r sofar))) q ∙ (x.3 m b ∙ (y.2 ∙ ap (some_exports y.0) (joined_more sofar us t))))

-- a declaration behind `export`
declared_read : {last : Bool} {ts : Tokens} {t : Tree} → ReadsDeclared last ts t → last ≡ false → (k : List Frame) (rest : Tokens) → run (exchange (exporting in_module k)) (ts ⧺ rest) ≡ run (ended in_module k (exported t)) rest
declared_read (grammar.declared_variables kd q (grammar.some_variables {ts = us} {ds = ds} p)) l k rest = by_semicolon q l in_module (exchange (exporting in_module k)) k (exported (tree.variable_declaration (declared_as kd) ds)) rest (λ n. ap (λ s. run s (us ⧺ piece n (Sign semicolon) rest)) (exporting_declares in_module k kd) ∙ ((declarators_read p (declarators_parts p) kd (wrap_of exported ∷ k) no_trees).0 n rest ∙ close_wrap in_module exported (tree.variable_declaration (declared_as kd) ds) k rest))
declared_read (grammar.a_declared_function {t = t} d) l k rest = function_read d (function_parts d) (exchange (exporting in_module k)) (as_statement in_module (wrap_of exported ∷ k)) refl (λ x. untrue x) (λ m us. refl) (λ m us. refl) rest ∙ close_wrap in_module exported t k rest
declared_read (grammar.a_declared_class {t = t} d) l k rest = class_read d (class_parts d) (exchange (exporting in_module k)) (as_statement in_module (wrap_of exported ∷ k)) refl (λ x. untrue x) refl (λ m us. refl) rest ∙ close_wrap in_module exported t k rest

-- what stands behind `export default`
default_read : {last : Bool} {ts : Tokens} {t : Tree} → ReadsDefault last ts t → last ≡ false → (k : List Frame) (rest : Tokens) → run (exchange (before_default in_module k)) (ts ⧺ rest) ≡ run (ended in_module k (default_exported t)) rest
default_read (grammar.a_default_function {t = t} d) l k rest = function_read d (function_parts d) (exchange (before_default in_module k)) (as_statement in_module (exported_default ∷ k)) refl (λ x. refl) (λ m us. refl) (λ m us. refl) rest ∙ close_default in_module t k rest
default_read (grammar.a_default_class {t = t} d) l k rest = class_read d (class_parts d) (exchange (before_default in_module k)) (as_statement in_module (exported_default ∷ k)) refl (λ x. refl) refl (λ m us. refl) rest ∙ close_default in_module t k rest
default_read (grammar.a_default_expression {a = a} {e = e} q g d) l k rest =
    let x = expression_read d (expression_parts d) in
    let alone : run (operand in_module []) a ≡ one_tree e = ap (run (operand in_module [])) (sym (then_done a)) ∙ x.0 [] done (omega arith) (omega arith) in
    by_semicolon q l in_module (exchange (before_default in_module k)) k (default_exported e) rest (λ m. default_begins in_module a e alone g k (piece m (Sign semicolon) rest) refl ∙ x.0 (exported_default ∷ k) (piece m (Sign semicolon) rest) (omega arith) (omega arith))

export_read : {last : Bool} {ts : Tokens} {t : Tree} → ReadsExport last ts t → last ≡ false → (k : List Frame) (rest : Tokens) → run (exchange (exporting in_module k)) (ts ⧺ rest) ≡ run (ended in_module k t) rest
export_read (grammar.an_exported_declaration d) l k rest = declared_read d l k rest
export_read (grammar.exported_names {ss = ss} q d) l k rest =
    let x = all_exported_read d true (λ y. refl) no_trees in
    by_semicolon q l in_module (exchange (exporting in_module k)) k (export_of ss) rest (λ m. ap (λ y. run (exports_then y (λ r us. exchange (names_exported in_module k r us))) (piece m (Sign semicolon) rest)) x.2 ∙ ap (λ r. run (when r (ended in_module k (export_of ss))) rest) (x.1 refl))
export_read (grammar.exported_names_from {next = n} {a = a} {ss = ss} {s = s} {clause = clause} q d p) l k rest =
    let x = all_exported_read d true (λ y. refl) no_trees in
    by_semicolon q l in_module (exchange (exporting in_module k)) k (export_from ss s clause) rest (λ m. ap (λ y. run (exports_then y (λ r us. exchange (names_exported in_module k r us))) (piece n (Word (codes "from")) (a ⧺ piece m (Sign semicolon) rest))) x.2 ∙ source_read p k (export_from ss) m rest)
export_read (grammar.all_exported {s = s} {clause = clause} q d) l k rest = by_semicolon q l in_module (exchange (exporting in_module k)) k (export_all absent s clause) rest (λ m. source_read d k (export_all absent) m rest)
export_read (grammar.all_exported_as {a = a} {b = b} {k = name} {s = s} {clause = clause} m n j q e d p) l k rest =
    let f : Tree → Maybe → Tree = export_all (given (text_of name)) in
    by_semicolon q l in_module (exchange (exporting in_module k)) k (f s clause) rest (λ i. ap (λ x. run (exchange (exporting in_module k)) (x ⧺ piece i (Sign semicolon) rest)) e ∙ (ap (run (exchange (all_exported_as in_module k))) (then_assoc a (piece j (Word (codes "from")) b) (piece i (Sign semicolon) rest)) ∙ (name_then d (exchange (all_exported_as in_module k)) (λ y. exchange (before_from in_module k (export_all (given y)))) (λ x y. refl) (piece j (Word (codes "from")) (b ⧺ piece i (Sign semicolon) rest)) ∙ source_read p k f i rest)))
export_read (grammar.a_default_export d) l k rest = default_read d l k rest

-- ---- the items of a module

-- what they stand in
abbrev items_of : Trees → Trees → List Frame
items_of ds ss = list_of (in_a_body false ds) ss ∷ []

module_item_read : {last : Bool} {ts : Tokens} {t : Tree} → ReadsModuleItem last ts t → last ≡ false → (ds sofar : Trees) (rest : Tokens) → starts_else rest ≡ false → starts_the (codes "finally") rest ≡ false → run (start in_module (items_of ds sofar)) (ts ⧺ rest) ≡ run (ended in_module (items_of ds sofar) t) rest
module_item_read (grammar.a_module_statement {last} d) l ds sofar rest o f = item_read d (item_parts d) (items_of ds sofar) rest refl refl (λ x. absurd (both_ways last l x)) o f
module_item_read (grammar.an_import {t = t} q d) l ds sofar rest o f = by_semicolon q l in_module (start in_module (items_of ds sofar)) (items_of ds sofar) t rest (λ m. import_read d (items_of ds sofar) m rest)
module_item_read (grammar.an_export d) l ds sofar rest o f = export_read d l (items_of ds sofar) rest

module_items_read : {last : Bool} {ts : Tokens} {ss : Trees} → ReadsModuleItems last ts ss → last ≡ false → (ds sofar : Trees) → run (start in_module (items_of ds sofar)) ts ≡ a_body ds (joined sofar ss)
module_items_read grammar.no_module_item l ds sofar = ap (a_body ds) (sym (joined_none sofar))
module_items_read (grammar.last_module_item {ts = ts} {s = s} d) l ds sofar = ap (run (start in_module (items_of ds sofar))) (sym (then_done ts)) ∙ (module_item_read d l ds sofar done refl refl ∙ close_item in_module (in_a_body false ds) sofar s done refl)
module_items_read (grammar.first_module_item {b = b} {s = s} {ss = ss} e d p) l ds sofar =
    let next : run (start in_module (items_of ds (joined sofar (more s no_trees)))) b ≡ a_body ds (joined (joined sofar (more s no_trees)) ss) = module_items_read p l ds (joined sofar (more s no_trees)) in
    let k : List Frame = items_of ds (joined sofar (more s no_trees)) in
    let u = unstarted in_module k in
    let o : starts_else b ≡ false = same_else b (no_item in_module (codes "else") b k ds (joined (joined sofar (more s no_trees)) ss) u.0 next) in
    let f : starts_the (codes "finally") b ≡ false = no_item in_module (codes "finally") b k ds (joined (joined sofar (more s no_trees)) ss) u.1 next in
    ap (run (start in_module (items_of ds sofar))) e ∙ (module_item_read d refl ds sofar b o f ∙ (close_item in_module (in_a_body false ds) sofar s b o ∙ (next ∙ ap (a_body ds) (joined_more sofar ss s))))

-- behind the directives so far
module_body_read : {last : Bool} {ts : Tokens} {ds ss : Trees} → ReadsModuleBody last ts ds ss → last ≡ false → (sofar : Trees) → run (before_directives in_module sofar) ts ≡ a_body (joined sofar ds) ss
module_body_read (grammar.a_module_directive {next = n} {q = q} {w = w} {us = us} {ts = ts} {ds = ds} {ss = ss} b e d) l sofar = ap (λ s. run s (piece n (Sign semicolon) ts)) (directive_step in_module sofar q w b e) ∙ (module_body_read d l (joined sofar (more (directive_of us) no_trees)) ∙ ap (λ x. a_body x ss) (joined_more sofar ds (directive_of us)))
module_body_read (grammar.module_items {ts = ts} {ss = ss} n d) l sofar = directives_begin in_module sofar ts n ∙ (module_items_read d l sofar no_trees ∙ ap (λ x. a_body x ss) (sym (joined_none sofar)))

-- ---- the law

both_parts : {ds ss es us : Trees} → a_body ds ss ≡ a_body es us → (ds ≡ es) × (ss ≡ us)
both_parts e = (cc, cc)

pub one_reading : (ts : Tokens) (p q : Tree) → ReadsModule ts p → ReadsModule ts q → p ≡ q
one_reading ts p q (grammar.a_module {directives = ds} {body = ss} d) (grammar.a_module {directives = es} {body = us} f) =
    let e = both_parts (sym (module_body_read d refl no_trees) ∙ module_body_read f refl no_trees) in
    ap (λ x. tree.program (nothing_of 4) no_trees absent x ss) e.0 ∙ ap (λ x. tree.program (nothing_of 4) no_trees absent es x) e.1

-- a program with this hashbang in the place of its own
abbrev behind_line : Tree → Tree → Tree
behind_line line (tree.program a comments hashbang directives body) = tree.program a comments (given line) directives body
behind_line line t = t

pub one_program : (hashbang : Option (List ℕ)) (ts : Tokens) (p q : Tree) → ReadsProgram hashbang ts p → ReadsProgram hashbang ts q → p ≡ q
one_program None ts p q (grammar.without_hashbang r) (grammar.without_hashbang s) = one_reading ts p q r s
one_program (Some w) ts p q (grammar.behind_hashbang r) (grammar.behind_hashbang s) = ap (behind_line (hashbang_of w)) (one_reading ts _ _ r s)

pub module_read : (ts : Tokens) (ds ss : Trees) → ReadsModule ts (tree.program (nothing_of 4) no_trees absent ds ss) → run (directives false no_trees) ts ≡ a_body ds ss
module_read ts ds ss (grammar.a_module d) = module_body_read d refl no_trees
