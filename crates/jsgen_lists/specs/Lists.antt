-- Members that may be left out, the parts of a loop, and the pen within braces.
use Rattle.std.specs.Prelude.{ℕ, Bool, Option, Some, None}
use Rattle.jsgen_syntax.specs.declared.span.Span.{Span}
use Rattle.jsgen_tree.specs.Tree.{Tree, Trees}
use Rattle.jsgen_model.specs.Punctuator.{Brace, opening, closing}
use Rattle.jsgen_model.specs.Items.{Items, nothing, ◌⊕◌, soft_line, indentation, drop_semicolon, mark, end_mark, brackets, orphan_lines}
use Rattle.jsgen_model.specs.Lay.{lay}
use Rattle.jsgen_model.specs.Layout.{Pen, written, other_end}
use Rattle.jsgen_model.specs.Spell.{spell, spell_elements, spell_properties, ends_in_hole, comma_if}
use Rattle.jsgen_printer.specs.Printer.{deepened, at_depth}
use Rattle.jsgen_place.specs.declared.place.Place.{Place}

-- a member, or nothing where it is left out
abbrev pub element_items : Option Tree → Place → Items
element_items None place = nothing
element_items (Some t) place = spell t place

-- members, and behind a last one that is left out its comma
abbrev pub all_elements : Bool → Trees → Place → Items
all_elements lines ts place = spell_elements lines ts place ⊕ comma_if (ends_in_hole ts)

-- the properties of an object likewise
abbrev pub all_properties : Bool → Trees → Place → Items
all_properties lines ts place = spell_properties lines ts place ⊕ comma_if (ends_in_hole ts)

-- braces in which nothing stands but comments that stand nowhere else
abbrev pub orphan_braces : Span → Items
orphan_braces s = mark s ⊕ brackets Brace (orphan_lines s.end ⊕ end_mark s) ⊕ drop_semicolon

-- the pen within the braces of a span, one level deeper, and behind them, at the level before
abbrev pub braces_opened : Span → Pen → Pen
braces_opened s pen = deepened (lay soft_line (written (opening Brace) other_end (lay (mark s) pen)))

abbrev pub braces_closed : Span → ℕ → Pen → Pen
braces_closed s depth pen = lay drop_semicolon (written (closing Brace) other_end (lay (end_mark s) (lay indentation (at_depth depth pen))))
