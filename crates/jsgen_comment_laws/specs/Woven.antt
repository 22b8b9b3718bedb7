-- What of a text stays whatever comments there are, and how comments are woven into it.
use Rattle.std.specs.Prelude.{◌≡◌, ◌⊎◌, ℕ, nat_lt, List, [], ◌∷◌, ◌++◌, length, drop, not, Bool, true, false, Option, Some, None, ◌&&◌, ◌||◌, ◌==◌, Contains, if◌then◌else◌}
use Rattle.std.specs.List.{filter}
use Rattle.jsgen_model.specs.Punctuator.{Round, opening, closing}
use Rattle.jsgen_model.specs.Items.{Items, ◌⊕◌, a_brace, deeper, in_class, brackets, wrapped, wrapped_at_start, parentheses_unless_minified, unless_minified, where_same, comments, orphans, orphan_lines, empty_body, held, lined_case, caught, annotation, annotation_line, annotated, commented, member_line, member_space, in_lines, line_break, Annotation, is_pure, no_side_effects, Break, first_argument, other_argument, import_source, import_options, all_of_them}
use Rattle.jsgen_model.specs.Layout.{Pen, other_end, written, written_if, is_barred, deeper_level, entered, are_printed_alike}
use Rattle.jsgen_model.specs.Lay.{lay, case_mark, commented_from, annotated_from, lifts}
use Rattle.jsgen_model.specs.Comments.{Comment, is_outliving, empty_store}
use Rattle.jsgen_model.specs.Groups.{comments_at, has_orphans, case_begun, last_byte, without_ending, are_lined, lines_opened, annotation_text, says}
use Rattle.jsgen_comment_laws.specs.Stand.{Waiting, IsTextOf}

-- ---- characters that aren't white

-- a space, a tab or a line end
abbrev pub is_white : ℕ → Bool
is_white c = (c == 32) || ((c == 9) || ((c == 10) || (c == 13)))

abbrev pub dark_of : List ℕ → List ℕ
dark_of cs = filter (λ c. not (is_white c)) cs

-- ---- bones

-- Characters of a text, and gaps between them: for comments that belong to one of some offsets, for comments that outlive their places and
-- belong to smaller offsets, and for an annotation of what has an offset. Round an object by its start that has no parentheses is a gap for some
pub data Bones : Type 0 where
  no_bones : Bones
  dark : ℕ → Bones → Bones
  comment_gap : List ℕ → Bones → Bones
  orphan_gap : ℕ → Bones → Bones
  annotation_gap : Annotation → ℕ → Bones → Bones
  object_gap : ℕ → Bones → Bones → Bones

infixr 50 ◌⧺◌
abbrev pub ◌⧺◌ : Bones → Bones → Bones
no_bones ⧺ cs = cs
dark c bs ⧺ cs = dark c (bs ⧺ cs)
comment_gap os bs ⧺ cs = comment_gap os (bs ⧺ cs)
orphan_gap o bs ⧺ cs = orphan_gap o (bs ⧺ cs)
annotation_gap kind o bs ⧺ cs = annotation_gap kind o (bs ⧺ cs)
object_gap o inner bs ⧺ cs = object_gap o inner (bs ⧺ cs)

abbrev pub darks : List ℕ → Bones
darks [] = no_bones
darks (c ∷ cs) = dark c (darks cs)

abbrev pub in_parentheses : Bool → Bones → Bones
in_parentheses true bs = darks (opening Round) ⧺ (bs ⧺ darks (closing Round))
in_parentheses false bs = bs

abbrev pub gap_if : Option ℕ → Bones
gap_if None = no_bones
gap_if (Some o) = comment_gap (o ∷ []) no_bones

abbrev pub annotation_if : Bool → Annotation → ℕ → Bones
annotation_if true kind o = annotation_gap kind o no_bones
annotation_if false kind o = no_bones

-- an object's, which may not begin with a brace where the test holds
abbrev pub object_bones : Bool → ℕ → Bones → Bones
object_bones true o bs = in_parentheses true bs
object_bones false o bs = object_gap o bs no_bones

abbrev pub break_offset : Break → Option ℕ
break_offset (first_argument o) = Some o
break_offset (other_argument o) = Some o
break_offset (import_source o) = Some o
break_offset import_options = None

-- what stands between two codes, of which the second begins with the first
abbrev pub between : Pen → Pen → Bones
between p q = darks (dark_of (drop (length p.code) q.code))

-- The bones of items from a pen: the characters of each, and its gaps. The pens between are those of the text
abbrev pub bones : Items → Pen → Bones
bones (a ⊕ b) p = bones a p ⧺ bones b (lay a p)
bones (deeper items) p = bones items (record p { depth = deeper_level p.style.minified p.depth })
bones (in_class items) p = bones items (entered p)
bones (brackets b items) p = darks (dark_of (opening b)) ⧺ (bones items (written (opening b) other_end p) ⧺ darks (dark_of (closing b)))
bones (wrapped test items) p = in_parentheses test (bones items (written_if test (opening Round) p))
bones (wrapped_at_start test opener items) p = in_parentheses (test || is_barred opener p.start) (bones items (written_if (test || is_barred opener p.start) (opening Round) p))
bones (parentheses_unless_minified items) p = in_parentheses (not p.style.minified) (bones items (written_if (not p.style.minified) (opening Round) p))
bones (unless_minified items) p = if p.style.minified then no_bones else bones items p
bones (where_same m n a b) p = if are_printed_alike p.style.tables m n then bones a p else bones b p
bones (comments manner o) p = comment_gap (o ∷ []) no_bones
bones (orphans o) p = orphan_gap o no_bones
bones (orphan_lines o) p = orphan_gap o no_bones
bones (empty_body o) p = orphan_gap o (gap_if (last_byte o))
bones (held o items) p = bones items (without_ending (last_byte o) p) ⧺ gap_if (last_byte o)
bones (lined_case only items) p = orphan_gap only.start (comment_gap (only.start ∷ []) (bones items (case_mark (has_orphans only.start p) only.lead (case_begun (has_orphans only.start p) only.lead only.start p)) ⧺ orphan_gap only.end no_bones))
bones (caught start body items) p = comment_gap (start ∷ []) (bones items (comments_at all_of_them start p) ⧺ comment_gap (body ∷ []) no_bones)
bones (annotation test kind o) p = annotation_if (test && p.style.annotated) kind o
bones (annotation_line indented test o) p = annotation_if (test && p.style.annotated) no_side_effects o
bones (annotated call items) p = in_parentheses (lifts call p || call.wrapped) (annotation_if (call.pure && p.style.annotated) is_pure call.start ⧺ bones items (annotated_from call p))
bones (commented o items) p = object_bones (is_barred a_brace p.start) o (comment_gap (o ∷ []) (bones items (commented_from o p)))
bones (member_line o) p = comment_gap (o ∷ []) no_bones
bones (member_space o) p = comment_gap (o ∷ []) no_bones
bones (in_lines lines starts end items) p = bones items (lines_opened (are_lined lines starts end p) p) ⧺ gap_if (last_byte end)
bones (line_break at) p = gap_if (break_offset at)
-- what has no gap
bones item p = between p (lay item p)

-- a pen for which no comment waits
abbrev pub without_comments : Pen → Pen
without_comments p = record p { store = empty_store; annotations = [] }

-- ---- what may fill a gap

-- characters cut in two: `First` holds of the first part, and `Second` of the other
pub record InTwo (bytes : List ℕ) (First Second : List ℕ → Type 0) : Type 0 where
  pub first : List ℕ
  pub second : List ℕ
  pub is : bytes ≡ first ++ second
  pub one : First first
  pub other : Second second

-- the dark characters of a comment's own text
abbrev pub IsDarkTextOf : Comment → List ℕ → Type 0
IsDarkTextOf c bytes = (text : List ℕ) × (IsTextOf c text × (bytes ≡ dark_of text))

-- the texts of these comments, of each of which something is told, one behind the other
abbrev pub FilledBy : (Waiting → Type 0) → List Waiting → List ℕ → Type 0
FilledBy Told [] bytes = bytes ≡ []
FilledBy Told (w ∷ ws) bytes = InTwo bytes (λ own. Told w × IsDarkTextOf w.comment own) (λ rest. FilledBy Told ws rest)

-- comments and characters, both cut in two: `First` holds of the first parts, and `Second` of the others
pub record BothInTwo (ws : List Waiting) (bytes : List ℕ) (First Second : List Waiting → List ℕ → Type 0) : Type 0 where
  pub first_comments : List Waiting
  pub second_comments : List Waiting
  pub are : ws ≡ first_comments ++ second_comments
  pub first : List ℕ
  pub second : List ℕ
  pub is : bytes ≡ first ++ second
  pub one : First first_comments first
  pub other : Second second_comments second

-- an annotation as it is written where the source has none, or one of the source that says the same of the same offset
abbrev pub IsAnnotation : List Waiting → Annotation → ℕ → List ℕ → Type 0
IsAnnotation annotations kind o bytes = (bytes ≡ dark_of (annotation_text kind)) ⊎ ((c : Comment) × (Contains annotations (record { offset = o; comment = c }) × ((says kind c.content ≡ true) × IsDarkTextOf c bytes)))

abbrev pub BelongsTo : List Waiting → List ℕ → Waiting → Type 0
BelongsTo kept os w = Contains kept w × Contains os w.offset

abbrev pub IsOrphan : List Waiting → ℕ → Waiting → Type 0
IsOrphan kept o w = Contains kept w × ((nat_lt w.offset o ≡ true) × (is_outliving w.comment ≡ true))

abbrev pub InRound : (List ℕ → Type 0) → List ℕ → Type 0
InRound Inner bytes = (inner : List ℕ) × ((bytes ≡ opening Round ++ (inner ++ closing Round)) × Inner inner)

-- an object stands in parentheses only where a comment belongs to its start
abbrev pub IsObject : List Waiting → ℕ → (List ℕ → Type 0) → List ℕ → Type 0
IsObject kept o Inner bytes = Inner bytes ⊎ (InRound Inner bytes × ((c : Comment) × Contains kept (record { offset = o; comment = c })))

-- ---- the whole

-- The dark characters of a text are the bones, with each gap filled as it may be: by annotations, and by comments that are kept. These are the
-- comments ws, each once, in their order, and no others
abbrev pub Woven : List Waiting → List Waiting → Bones → List Waiting → List ℕ → Type 0
Woven kept annotations no_bones ws bytes = (ws ≡ []) × (bytes ≡ [])
Woven kept annotations (dark c bs) ws bytes = InTwo bytes (λ own. own ≡ c ∷ []) (λ rest. Woven kept annotations bs ws rest)
Woven kept annotations (comment_gap os bs) ws bytes = BothInTwo ws bytes (λ us own. FilledBy (BelongsTo kept os) us own) (λ vs rest. Woven kept annotations bs vs rest)
Woven kept annotations (orphan_gap o bs) ws bytes = BothInTwo ws bytes (λ us own. FilledBy (IsOrphan kept o) us own) (λ vs rest. Woven kept annotations bs vs rest)
Woven kept annotations (annotation_gap kind o bs) ws bytes = InTwo bytes (IsAnnotation annotations kind o) (λ rest. Woven kept annotations bs ws rest)
Woven kept annotations (object_gap o inner bs) ws bytes = BothInTwo ws bytes (λ us own. IsObject kept o (λ inside. Woven kept annotations inner us inside) own) (λ vs rest. Woven kept annotations bs vs rest)
