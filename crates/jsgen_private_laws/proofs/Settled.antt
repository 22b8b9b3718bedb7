-- Items in which each private name is as it is printed, and the number of the next class behind items.
use Rattle.std.specs.Prelude.{ℕ, suc, List, Bool, if◌then◌else◌}
use Rattle.jsgen_tree.specs.Job.{Tables}
use Rattle.jsgen_model.specs.Items.{Items, ◌⊕◌, private_name, deeper, in_class, brackets, wrapped, wrapped_at_start, parentheses_unless_minified, unless_minified, where_same, held, lined_case, caught, annotated, commented, in_lines}
use Rattle.jsgen_model.specs.Private.{printed_private, classes_within}
use Rattle.jsgen_model.specs.Layout.{Pen, are_printed_alike}

-- by what private names are printed: the tables, and the classes round here; and whether the text is minified, which leaves items out
pub record Scope : Type 0 where
  pub minified : Bool
  pub tables : Tables
  pub classes : List ℕ

-- in the body of the class with this number
abbrev pub inside : Scope → ℕ → Scope
inside s n = record { minified = s.minified; tables = s.tables; classes = classes_within s.tables n s.classes }

-- the number of the next class behind items
abbrev pub after_items : Scope → Items → ℕ → ℕ
after_items s (a ⊕ b) n = after_items s b (after_items s a n)
after_items s (in_class i) n = after_items s i (suc n)
after_items s (deeper i) n = after_items s i n
after_items s (brackets b i) n = after_items s i n
after_items s (wrapped test i) n = after_items s i n
after_items s (wrapped_at_start test opener i) n = after_items s i n
after_items s (parentheses_unless_minified i) n = after_items s i n
after_items s (unless_minified i) n = if s.minified then n else after_items s i n
after_items s (where_same m k a b) n = if are_printed_alike s.tables m k then after_items s a n else after_items s b n
after_items s (held offset i) n = after_items s i n
after_items s (lined_case only i) n = after_items s i n
after_items s (caught start body i) n = after_items s i n
after_items s (annotated call i) n = after_items s i n
after_items s (commented offset i) n = after_items s i n
after_items s (in_lines lines starts end i) n = after_items s i n
after_items s i n = n

-- items in which each private name is as it is printed
abbrev pub settled : Scope → ℕ → Items → Items
settled s n (private_name span w) = private_name span (printed_private s.tables s.classes w)
settled s n (a ⊕ b) = settled s n a ⊕ settled s (after_items s a n) b
settled s n (in_class i) = in_class (settled (inside s n) (suc n) i)
settled s n (deeper i) = deeper (settled s n i)
settled s n (brackets b i) = brackets b (settled s n i)
settled s n (wrapped test i) = wrapped test (settled s n i)
settled s n (wrapped_at_start test opener i) = wrapped_at_start test opener (settled s n i)
settled s n (parentheses_unless_minified i) = parentheses_unless_minified (settled s n i)
settled s n (unless_minified i) = unless_minified (settled s n i)
settled s n (where_same m k a b) = where_same m k (settled s n a) (settled s n b)
settled s n (held offset i) = held offset (settled s n i)
settled s n (lined_case only i) = lined_case only (settled s n i)
settled s n (caught start body i) = caught start body (settled s n i)
settled s n (annotated call i) = annotated call (settled s n i)
settled s n (commented offset i) = commented offset (settled s n i)
settled s n (in_lines lines starts end i) = in_lines lines starts end (settled s n i)
settled s n i = i

-- the same pen with tables, within these classes, where the next one has this number
abbrev pub tied : Tables → List ℕ → ℕ → Pen → Pen
tied tables classes n pen = record pen { style = record pen.style { tables = tables }; classes = classes; next_class = n }

-- the scope of a pen that has tables and classes
abbrev pub scope : Tables → List ℕ → Pen → Scope
scope tables classes pen = record { minified = pen.style.minified; tables = tables; classes = classes }
