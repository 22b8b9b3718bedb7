-- Classes by their numbers, and private names by their tables.
use Rattle.std.proofs.Common.{◌≡◌, ℕ, Bool, true, false, ◌&&◌, ◌||◌, List, [], ◌∷◌, ◌++◌, length, map, take, reverse, Some, option_map, cond, if◌then◌else◌, String, string_bytes, bytes_eq, codes, refl, sym, ap, ◌∙◌, append_assoc, not}
use Rattle.std.specs.declared.alloc.Global.{Global}
use Rattle.std.specs.BTreeMap.{is_at}
use Rattle.std.specs.Cmp.Lexicographic.{slice_cmp}
use Rattle.std.specs.Map.{lookup}
use Rattle.std.specs.Ordering.{nat_cmp}
use Rattle.std.specs.Str.{chars, IsUtf8}
use Rattle.std.proofs.Math.Seq.{take-append_seam}
use Rattle.std.proofs.lemmas.List.{reverse-append, reverse-reverse, length-reverse, append-nil}
use Rattle.std.proofs.lemmas.Map.Text.{is_eq-slice_cmp}
use Rattle.std.proofs.lemmas.Str.{IsUtf8-string_bytes}
use Rattle.jsgen_syntax.specs.Escapes.{name_text, has_escapes}
use Rattle.jsgen_tree.specs.Characters.{characters}
use Rattle.jsgen_tree.proofs.Texts.{same_characters}
use Rattle.jsgen_model.specs.Items.{Items, ◌⊕◌, indentation, marked_indentation, deeper, in_class, brackets, wrapped, wrapped_at_start, parentheses_unless_minified, unless_minified, where_same, statement_end, comments, orphans, orphan_lines, empty_body, held, lined_case, caught, all_of_them, annotation, annotation_line, annotated, commented, member_line, member_space, in_lines, line_break}
use Rattle.jsgen_model.specs.Punctuator.{Round, opening}
use Rattle.jsgen_model.specs.Comments.{are_any}
use Rattle.jsgen_model.specs.Groups.{last_byte, ending_at, without_ending, has_orphans, case_begun, comments_at, group_at, are_lined, lines_opened}
use Rattle.jsgen_model.specs.Lay.{lay, case_mark, annotated_from, commented_from}
use Rattle.jsgen_model.specs.Layout.{Pen, nowhere, written, written_if, other_end, name_ending, with_private_name, entered, end_statement, deeper_level, are_printed_alike, is_barred}
use Rattle.jsgen_model.specs.Private.{name_in, has_table}
use Rattle.jsgen_printer.specs.Printer.{pen_of, name_written, within_outer}
use Rattle.jsgen_printer.specs.Steps.{Goes, Lays}
use Rattle.jsgen_printer.specs.declared.printer.Printer.{Printer}
use Rattle.jsgen_printer.proofs.Appends.{layout_appends}
use Rattle.jsgen_printer.proofs.Comments.{indentation_adds, comments_add, orphans_add, orphan_lines_add, empty_body_adds, ending_adds, closing_adds, case_adds, case_end_adds, block_adds, annotation_adds, annotation_line_adds, annotated_adds, commented_adds, member_line_adds, member_space_adds, opened_adds, closed_adds, break_adds}
use Rattle.jsgen_printer.proofs.Prefixes.{whole_prefix}
use Rattle.jsgen_printer.proofs.Sequence.{goes_then, goes_laid, items_go}
use Rattle.jsgen_printer.proofs.Texts.{ascii_chars}

-- ---- look-ups

-- a class's table, by the order of its names and one after the other
pub looked_up : (bs : List ℕ) → IsUtf8 bs → (es : List (String Global × String Global)) → option_map characters (lookup (is_at (λ k. slice_cmp nat_cmp bs (string_bytes k))) es) ≡ name_in (map (λ e. (characters e.0, characters e.1)) es) (chars bs)
looked_up bs u [] = refl
looked_up bs u (e ∷ es) = rw (is_eq-slice_cmp bs (string_bytes e.0), same_characters bs (string_bytes e.0) u (IsUtf8-string_bytes e.0)) (by (looked_up bs u es) (bytes_eq bs (string_bytes e.0)))
  where
    by : option_map characters (lookup (is_at (λ k. slice_cmp nat_cmp bs (string_bytes k))) es) ≡ name_in (map (λ e. (characters e.0, characters e.1)) es) (chars bs) → (b : Bool) → option_map characters (cond b (Some e.1) (lookup (is_at (λ k. slice_cmp nat_cmp bs (string_bytes k))) es)) ≡ (if b then Some (characters e.1) else name_in (map (λ e. (characters e.0, characters e.1)) es) (chars bs))
    by rest true = refl
    by rest false = rest

-- a name behind `#`
pub behind_hash : (w : List ℕ) (pen : Pen) → name_written w (written (chars (codes "#")) other_end pen) ≡ with_private_name w pen
behind_hash w pen = rw (ascii_chars (codes "#") refl) (ap (λ code. record pen { code = code; ending = name_ending (has_escapes pen.style.ascii w); start = nowhere }) (append_assoc pen.code (codes "#") (name_text pen.style.ascii w)))

-- ---- within a class

end_keeps : (minified : Bool) (pen : Pen) → (end_statement minified pen).classes ≡ pen.classes
end_keeps true pen = refl
end_keeps false pen = refl

either_keeps : (test : Bool) (classes : List ℕ) (a b : Pen) → a.classes ≡ classes → b.classes ≡ classes → (if test then a else b).classes ≡ classes
either_keeps true classes a b p q = p
either_keeps false classes a b p q = q

-- behind items the classes round here are those before
keeps_classes : (items : Items) (pen : Pen) → (lay items pen).classes ≡ pen.classes
keeps_classes (a ⊕ b) pen = keeps_classes b (lay a pen) ∙ keeps_classes a pen
keeps_classes (deeper a) pen = keeps_classes a (record pen { depth = deeper_level pen.style.minified pen.depth })
keeps_classes (in_class a) pen = refl
keeps_classes (brackets b a) pen = keeps_classes a (written (opening b) other_end pen)
keeps_classes (wrapped test a) pen = keeps_classes a (written_if test (opening Round) pen)
keeps_classes (wrapped_at_start test opener a) pen = keeps_classes a (written_if (test || is_barred opener pen.start) (opening Round) pen)
keeps_classes (parentheses_unless_minified a) pen = keeps_classes a (written_if (not pen.style.minified) (opening Round) pen)
keeps_classes (where_same m n a b) pen = either_keeps (are_printed_alike pen.style.tables m n) pen.classes (lay a pen) (lay b pen) (keeps_classes a pen) (keeps_classes b pen)
keeps_classes (unless_minified a) pen = either_keeps pen.style.minified pen.classes pen (lay a pen) refl (keeps_classes a pen)
keeps_classes indentation pen = (indentation_adds pen.style.minified pen).classes
keeps_classes (marked_indentation always span) pen = (indentation_adds pen.style.minified pen).classes
keeps_classes statement_end pen = end_keeps pen.style.minified pen
keeps_classes (comments manner o) pen = (comments_add manner o pen).classes
keeps_classes (orphans o) pen = (orphans_add o pen).classes
keeps_classes (orphan_lines o) pen = (orphan_lines_add o pen).classes
keeps_classes (empty_body o) pen = (empty_body_adds o pen).classes
keeps_classes (held o a) pen = (closing_adds (ending_at (last_byte o) pen) (lay a (without_ending (last_byte o) pen))).classes ∙ (keeps_classes a (without_ending (last_byte o) pen) ∙ (ending_adds (last_byte o) pen).classes)
keeps_classes (lined_case only a) pen =
    let long = has_orphans only.start pen in
    let begun : Pen = case_mark long only.lead (case_begun long only.lead only.start pen) in
    (case_end_adds long pen.depth only.end (lay a begun)).classes ∙ (keeps_classes a begun ∙ (case_adds long only.lead only.start pen).classes)
keeps_classes (caught start body a) pen =
    let begun : Pen = comments_at all_of_them start pen in
    (block_adds (are_any (group_at start pen)) body (lay a begun)).classes ∙ (keeps_classes a begun ∙ (comments_add all_of_them start pen).classes)
keeps_classes (annotation test kind o) pen = either_keeps (test && pen.style.annotated) pen.classes _ pen (annotation_adds pen.start kind o pen).classes refl
keeps_classes (annotation_line indented test o) pen = either_keeps (test && pen.style.annotated) pen.classes _ pen (annotation_line_adds indented o pen).classes refl
keeps_classes (annotated call a) pen = keeps_classes a (annotated_from call pen) ∙ (annotated_adds call pen).classes
keeps_classes (commented o a) pen = keeps_classes a (commented_from o pen) ∙ (commented_adds o pen).classes
keeps_classes (member_line o) pen = (member_line_adds o pen).classes
keeps_classes (member_space o) pen = (member_space_adds o pen).classes
keeps_classes (in_lines lines starts end a) pen =
    let lined = are_lined lines starts end pen in
    let begun : Pen = lines_opened lined pen in
    (closed_adds lined lines end pen.depth pen.lines (lay a begun)).classes ∙ (keeps_classes a begun ∙ (opened_adds lined pen).classes)
keeps_classes (line_break at) pen = (break_adds at pen).classes
keeps_classes item pen = refl

take_whole : (cs : List ℕ) → take (length cs) cs ≡ cs
take_whole cs = ap (take (length cs)) (sym (append-nil cs)) ∙ take-append_seam cs []

-- of the classes within, those round the class stay
round_it : (test : Bool) (number : ℕ) (cs : List ℕ) → reverse (take (length cs) (reverse (if test then number ∷ cs else cs))) ≡ cs
round_it true number cs = ap reverse (ap (take (length cs)) (reverse-append (number ∷ []) cs) ∙ (ap (λ n. take n (reverse cs ++ (number ∷ []))) (sym (length-reverse cs)) ∙ take-append_seam (reverse cs) (number ∷ []))) ∙ reverse-reverse cs
round_it false number cs = ap reverse (ap (λ n. take n (reverse cs)) (sym (length-reverse cs)) ∙ take_whole (reverse cs)) ∙ reverse-reverse cs

-- the body of a class: `enter_class`, what stands there, and `leave_class`
pub in_class_laid : {a b c d : Printer} {i : Items} (outer : ℕ) → outer ≡ length (pen_of a).classes → Goes a b entered → Lays b c i → Goes c d (within_outer outer) → Lays a d (in_class i)
in_class_laid {a} {b} {c} {d} {i} outer e h inside k =
    let pen = pen_of a in
    let back = ap (λ cs. reverse (take outer (reverse cs))) (keeps_classes i (entered pen)) ∙ (ap (λ n. reverse (take n (reverse (entered pen).classes))) e ∙ round_it (has_table pen.style.tables pen.next_class) pen.next_class pen.classes) in
    goes_laid (in_class i) (ap (λ cs. record (lay i (entered pen)) { classes = cs }) back) (goes_then (λ pen. layout_appends i (entered pen)) (λ pen. whole_prefix pen.code) (goes_then (λ pen. whole_prefix pen.code) (λ pen. layout_appends i pen) h (items_go inside)) k)
