-- What is exported by default, by whether it is a declaration.
use Rattle.std.proofs.Common.{◌≡◌, Bool, true, false, ◌&&◌, Some, None, if◌then◌else◌, refl, sym, ap}
use Rattle.std.proofs.lemmas.Option.{same_Some}
use Rattle.jsgen_tree.specs.Tree.{Tree}
use Rattle.jsgen_tree.specs.Nodes as tree
use Rattle.jsgen_tree.specs.Rows.{function_row}
use Rattle.jsgen_tree.specs.Plain.{node_plain}
use Rattle.jsgen_tree.specs.Inside.{function_in, class_head_in}
use Rattle.jsgen_tree.specs.declared.nodes.Node.{Node}
use Rattle.jsgen_tree.specs.declared.functions.Function.{Function}
use Rattle.jsgen_tree.specs.declared.classes.ClassKind.{ClassKind}
use Rattle.jsgen_model.specs.Items.{Items, ◌⊕◌, soft_line, default_export_begins, statement_end}
use Rattle.jsgen_model.specs.Spell.{default_items, is_declared, is_declared_function, is_declared_class, is_pure_declaration}
use Rattle.jsgen_printer.specs.Steps.{Lays}
use Rattle.jsgen_printer.specs.declared.printer.Printer.{Printer}

pub default_laid : {a b : Printer} (test declared : Bool) (x y : Items) → test ≡ declared → Lays a b (if test then (x ⊕ soft_line) else (default_export_begins ⊕ (y ⊕ statement_end))) → Lays a b (default_items declared x y)
default_laid test true x y e h = rw e at h
default_laid test false x y e h = rw e at h

pub function_declared : (t : Tree) (f : Function Node) → Some (function_row node_plain f) ≡ function_in t → is_declared_function f.kind ≡ is_declared t
function_declared (tree.function a id params body) f e = cc
function_declared t f e = absurd (cc)

pub class_declared : (t : Tree) (kind : ClassKind) (named : Bool) → class_head_in t ≡ Some (kind, named) → is_declared_class kind ≡ is_declared t
class_declared (tree.class a id heritage body) kind named e = sym (ap (λ (q : ClassKind × Bool). is_declared_class q.0) (same_Some _ _ e))
class_declared t kind named e = absurd (cc)

pub neither_declared : (t : Tree) → function_in t ≡ None → class_head_in t ≡ None → false ≡ is_declared t
neither_declared (tree.function a id params body) e f = absurd (cc)
neither_declared (tree.class a id heritage body) e f = absurd (cc)
neither_declared t e f = refl

-- ---- whether it is pure

pub function_pure_declared : (t : Tree) (f : Function Node) → Some (function_row node_plain f) ≡ function_in t → is_declared_function f.kind && f.pure ≡ is_pure_declaration t
function_pure_declared (tree.function a id params body) f e = cc
function_pure_declared t f e = absurd (cc)

pub no_function_declared : (t : Tree) → function_in t ≡ None → false ≡ is_pure_declaration t
no_function_declared (tree.function a id params body) e = absurd (cc)
no_function_declared t e = refl
