-- What is promised of the marks that items leave.
use Rattle.std.specs.Prelude.{◌≡◌, ℕ, ◌≤◌, List, [], ◌∷◌, ◌++◌, length, Option, Some, None, Bool, false, ◌&&◌, ⊤}
use Rattle.jsgen_model.specs.Items.{Items, ◌⊕◌, deeper, in_class, brackets, wrapped, wrapped_at_start, parentheses_unless_minified, unless_minified, where_same, held, lined_case, caught, annotation, annotation_line, annotated, commented, in_lines}
use Rattle.jsgen_map.specs.Marks.{Mark, Ordered, OffsetsDiffer, last_offset}
use Rattle.jsgen_model.specs.Marks.{size}
use Rattle.jsgen_model.specs.Comments.{empty_store}
use Rattle.jsgen_model.specs.Layout.{Pen, layout}
use Rattle.jsgen_model.specs.Lay.{lay}
use Rattle.jsgen_mark_laws.specs.Names.{names_of, NamePlaces}

-- ---- what items add

-- an offset lies in the source, or at its end
abbrev pub LeadsInto : Option (List ℕ) → ℕ → Type 0
LeadsInto None offset = ⊤
LeadsInto (Some source) offset = offset ≤ length source

-- the mark stands at the end of a first part of the code, and leads into the source where it is there
pub record IsPlaced (code : List ℕ) (source : Option (List ℕ)) (m : Mark) : Type 0 where
  pub before : List ℕ
  pub rest : List ℕ
  pub is : code ≡ before ++ rest
  pub bytes : m.bytes ≡ size before
  pub leads : LeadsInto source m.offset

abbrev pub ArePlaced : List ℕ → Option (List ℕ) → List Mark → Type 0
ArePlaced code source [] = ⊤
ArePlaced code source (m ∷ ms) = IsPlaced code source m × ArePlaced code source ms

-- text behind the code, and marks that lead to its end or behind it
pub record Adds (old new : Pen) : Type 0 where
  pub text : List ℕ
  pub code : new.code ≡ old.code ++ text
  pub style : new.style ≡ old.style
  pub more : List Mark
  pub marks : new.marks ≡ old.marks ++ more
  pub ordered : Ordered (size old.code) more (size new.code)
  pub parted : OffsetsDiffer (last_offset old.marks) more
  pub placed : ArePlaced new.code new.style.source more

abbrev pub ItemsAdd : Type 0
ItemsAdd = (items : Items) (pen : Pen) → Adds pen (lay items pen)

-- ---- the laws

-- a pen's marks rise, none lies behind the code's end, neighbours have other offsets, and each has its place
pub record Right (pen : Pen) : Type 0 where
  pub ordered : Ordered 0 pen.marks (size pen.code)
  pub parted : OffsetsDiffer None pen.marks
  pub placed : ArePlaced pen.code pen.style.source pen.marks

abbrev pub MarksAreRight : Type 0
MarksAreRight = (items : Items) (pen : Pen) → Right pen → Right (lay items pen)

-- each name that is printed has a place, and the last mark up to it has the start of its span
abbrev pub NamesStand : Type 0
NamesStand = (items : Items) (pen : Pen) (source : List ℕ) → pen.style.source ≡ Some source → Right pen → NamePlaces (lay items pen).code (lay items pen).marks (size pen.code) (names_of items pen)

-- the same pen but for its marks
abbrev pub with_marks : List Mark → Pen → Pen
with_marks marks pen = record pen { marks = marks }

-- none of the items prints an annotation, where annotations are printed or not
abbrev pub PrintsNone : Bool → Items → Type 0
PrintsNone printed (annotation test kind offset) = (test && printed) ≡ false
PrintsNone printed (annotation_line indented test offset) = (test && printed) ≡ false
PrintsNone printed (annotated call items) = ((call.pure && printed) ≡ false) × PrintsNone printed items
PrintsNone printed (a ⊕ b) = PrintsNone printed a × PrintsNone printed b
PrintsNone printed (deeper items) = PrintsNone printed items
PrintsNone printed (in_class items) = PrintsNone printed items
PrintsNone printed (brackets b items) = PrintsNone printed items
PrintsNone printed (wrapped test items) = PrintsNone printed items
PrintsNone printed (wrapped_at_start test opener items) = PrintsNone printed items
PrintsNone printed (parentheses_unless_minified items) = PrintsNone printed items
PrintsNone printed (unless_minified items) = PrintsNone printed items
PrintsNone printed (where_same m n a b) = PrintsNone printed a × PrintsNone printed b
PrintsNone printed (held offset items) = PrintsNone printed items
PrintsNone printed (lined_case only items) = PrintsNone printed items
PrintsNone printed (caught start body items) = PrintsNone printed items
PrintsNone printed (commented offset items) = PrintsNone printed items
PrintsNone printed (in_lines lines starts end items) = PrintsNone printed items
PrintsNone printed item = ⊤

-- Where no comment waits and no annotation is printed, the text and all that matters to what follows is that of the layout, with marks or
-- without
abbrev pub QuietIsQuiet : Type 0
QuietIsQuiet = (items : Items) (pen : Pen) → pen.store ≡ empty_store → pen.lines ≡ false → PrintsNone pen.style.annotated items → lay items pen ≡ with_marks (lay items pen).marks (layout items pen)

-- the same pen but for the source
abbrev pub with_source : Option (List ℕ) → Pen → Pen
with_source source pen = record pen { style = record pen.style { source = source } }

-- with a source or without, the text is the same
abbrev pub SourcesAreAlike : Type 0
SourcesAreAlike = (items : Items) (pen : Pen) (source : Option (List ℕ)) → (lay items (with_source source pen)).code ≡ (lay items pen).code
