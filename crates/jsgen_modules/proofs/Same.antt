-- What is left out where two names are printed the same.
use Rattle.std.proofs.Common.{◌≡◌, Bool, true, false, Option, Some, None, if◌then◌else◌}
use Rattle.std.specs.Prelude.{option_map, bytes_eq}
use Rattle.jsgen_tree.specs.Tree.{Tree}
use Rattle.jsgen_tree.specs.Nodes as tree
use Rattle.jsgen_tree.specs.Named.{Named, printed_name}
use Rattle.jsgen_tree.specs.Values.{string_literal_value}
use Rattle.jsgen_model.specs.Items.{Items, nothing}
use Rattle.jsgen_model.specs.Spell.{items_unless, export_named, unless_named, unless_same}
use Rattle.jsgen_printer.specs.Printer.{pen_of}
use Rattle.jsgen_printer.specs.Steps.{Lays}
use Rattle.jsgen_printer.specs.declared.printer.Printer.{Printer}
use Rattle.jsgen_printer.proofs.Sequence.{where_same_laid}
use Rattle.jsgen_modules.specs.Names.{is_same_text, is_same_named}

strings : {a b : Printer} (equal same : Bool) (i : Items) → same ≡ equal → Lays a b (if same then nothing else i) → Lays a b (items_unless equal i)
strings true same i e h = rw e at h
strings false same i e h = rw e at h

named : {a b : Printer} (m n : Option Named) (same : Bool) (i : Items) → same ≡ is_same_text (option_map (printed_name (pen_of a).style.tables) m) (option_map (printed_name (pen_of a).style.tables) n) → Lays a b (if same then nothing else i) → Lays a b (unless_named m n i)
named None n same i e h = rw e at h
named (Some m) None same i e h = rw e at h
named (Some m) (Some n) same i e h = where_same_laid m n nothing i same e h

pub unless_same_laid : {a b : Printer} (t u : Tree) (i : Items) (same : Bool) → same ≡ is_same_named (pen_of a).style.tables t u → Lays a b (if same then nothing else i) → Lays a b (unless_same t u i)
unless_same_laid (tree.string_literal s) (tree.string_literal r) i same e h = strings (bytes_eq (string_literal_value s) (string_literal_value r)) same i e h
unless_same_laid (tree.string_literal s) u i same e h = named (export_named (tree.string_literal s)) (export_named u) same i e h
unless_same_laid t u i same e h = named (export_named t) (export_named u) same i e h
