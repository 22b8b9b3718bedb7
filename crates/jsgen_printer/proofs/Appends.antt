-- What a step adds stands behind the code before.
use Rattle.std.proofs.Common.{ℕ, Bool, true, false, ◌&&◌, ◌||◌, List, if◌then◌else◌, not}
use Rattle.jsgen_model.specs.Punctuator.{Round, opening, closing, punctuator_text}
use Rattle.jsgen_model.specs.Items.{Items, ◌⊕◌, name, marked_word, marked_operator, marked_number, marked_indentation, template_part, indentation, deeper, brackets, wrapped, wrapped_at_start, parentheses_unless_minified, where_same, statement_end, in_class, unless_minified, comments, orphans, orphan_lines, empty_body, held, lined_case, caught, all_of_them, annotation, annotation_line, annotated, commented, member_line, member_space, in_lines, line_break}
use Rattle.jsgen_model.specs.Comments.{are_any}
use Rattle.jsgen_model.specs.Groups.{last_byte, ending_at, without_ending, has_orphans, case_begun, comments_at, group_at, are_lined, lines_opened}
use Rattle.jsgen_model.specs.Lay.{lay, part_opening, case_mark, annotated_from, commented_from}
use Rattle.jsgen_model.specs.Layout.{Pen, written, written_if, text_if, other_end, end_statement, deeper_level, entered, are_printed_alike, is_barred}
use Rattle.jsgen_model.specs.Printing.{IsPrefix}
use Rattle.jsgen_printer.proofs.Comments.{indentation_adds, comments_add, orphans_add, orphan_lines_add, empty_body_adds, ending_adds, closing_adds, case_adds, case_end_adds, block_adds, annotation_adds, annotation_line_adds, annotated_adds, commented_adds, member_line_adds, member_space_adds, opened_adds, closed_adds, break_adds}
use Rattle.jsgen_printer.proofs.Prefixes.{whole_prefix, prefix_append, more_prefix, prefix_of_prefix}

end_appends : (minified : Bool) (pen : Pen) → IsPrefix pen.code (end_statement minified pen).code
end_appends true pen = whole_prefix pen.code
end_appends false pen = prefix_append pen.code _

either_appends : (test : Bool) (code : List ℕ) (a b : Pen) → IsPrefix code a.code → IsPrefix code b.code → IsPrefix code (if test then a else b).code
either_appends true code a b p q = p
either_appends false code a b p q = q

wrapped_appends : (test : Bool) (items : Items) (pen : Pen) → ((at : Pen) → IsPrefix at.code (lay items at).code) → IsPrefix pen.code (lay (wrapped test items) pen).code
wrapped_appends test items pen inside = more_prefix (text_if test (closing Round)) (prefix_of_prefix (prefix_append pen.code (text_if test (opening Round))) (inside (written_if test (opening Round) pen)))

pub layout_appends : (items : Items) (pen : Pen) → IsPrefix pen.code (lay items pen).code
layout_appends (a ⊕ b) pen = prefix_of_prefix (layout_appends a pen) (layout_appends b (lay a pen))
layout_appends (deeper a) pen = layout_appends a (record pen { depth = deeper_level pen.style.minified pen.depth })
layout_appends (in_class a) pen = layout_appends a (entered pen)
layout_appends (brackets b a) pen = more_prefix (closing b) (prefix_of_prefix (prefix_append pen.code (opening b)) (layout_appends a (written (opening b) other_end pen)))
layout_appends (wrapped test a) pen = wrapped_appends test a pen (λ at. layout_appends a at)
layout_appends (wrapped_at_start test opener a) pen = wrapped_appends (test || is_barred opener pen.start) a pen (λ at. layout_appends a at)
layout_appends (parentheses_unless_minified a) pen = wrapped_appends (not pen.style.minified) a pen (λ at. layout_appends a at)
layout_appends (unless_minified a) pen = either_appends pen.style.minified pen.code pen (lay a pen) (whole_prefix pen.code) (layout_appends a pen)
layout_appends (where_same m n a b) pen = either_appends (are_printed_alike pen.style.tables m n) pen.code (lay a pen) (lay b pen) (layout_appends a pen) (layout_appends b pen)
layout_appends (name span n) pen = more_prefix _ (prefix_append pen.code _)
layout_appends (marked_word span w) pen = more_prefix w (prefix_append pen.code _)
layout_appends (marked_operator span p) pen = more_prefix (punctuator_text p) (prefix_append pen.code _)
layout_appends (marked_number span dot_is_its_own w) pen = more_prefix w (prefix_append pen.code _)
layout_appends (marked_indentation always span) pen = (indentation_adds pen.style.minified pen).text
layout_appends (template_part part tagged span raw) pen = more_prefix _ (prefix_append pen.code (part_opening part))
layout_appends indentation pen = (indentation_adds pen.style.minified pen).text
layout_appends statement_end pen = end_appends pen.style.minified pen
layout_appends (comments manner o) pen = (comments_add manner o pen).text
layout_appends (orphans o) pen = (orphans_add o pen).text
layout_appends (orphan_lines o) pen = (orphan_lines_add o pen).text
layout_appends (empty_body o) pen = (empty_body_adds o pen).text
layout_appends (held o a) pen = prefix_of_prefix (prefix_of_prefix (ending_adds (last_byte o) pen).text (layout_appends a (without_ending (last_byte o) pen))) (closing_adds (ending_at (last_byte o) pen) (lay a (without_ending (last_byte o) pen))).text
layout_appends (lined_case only a) pen =
    let long = has_orphans only.start pen in
    let begun : Pen = case_mark long only.lead (case_begun long only.lead only.start pen) in
    prefix_of_prefix (prefix_of_prefix (case_adds long only.lead only.start pen).text (layout_appends a begun)) (case_end_adds long pen.depth only.end (lay a begun)).text
layout_appends (caught start body a) pen =
    let begun : Pen = comments_at all_of_them start pen in
    prefix_of_prefix (prefix_of_prefix (comments_add all_of_them start pen).text (layout_appends a begun)) (block_adds (are_any (group_at start pen)) body (lay a begun)).text
layout_appends (annotation test kind o) pen = either_appends (test && pen.style.annotated) pen.code _ pen (annotation_adds pen.start kind o pen).text (whole_prefix pen.code)
layout_appends (annotation_line indented test o) pen = either_appends (test && pen.style.annotated) pen.code _ pen (annotation_line_adds indented o pen).text (whole_prefix pen.code)
layout_appends (annotated call a) pen = more_prefix _ (prefix_of_prefix (annotated_adds call pen).text (layout_appends a (annotated_from call pen)))
layout_appends (commented o a) pen = more_prefix _ (prefix_of_prefix (commented_adds o pen).text (layout_appends a (commented_from o pen)))
layout_appends (member_line o) pen = (member_line_adds o pen).text
layout_appends (member_space o) pen = (member_space_adds o pen).text
layout_appends (in_lines lines starts end a) pen =
    let lined = are_lined lines starts end pen in
    let begun : Pen = lines_opened lined pen in
    prefix_of_prefix (prefix_of_prefix (opened_adds lined pen).text (layout_appends a begun)) (closed_adds lined lines end pen.depth pen.lines (lay a begun)).text
layout_appends (line_break at) pen = (break_adds at pen).text
layout_appends item pen = search (whole_prefix, prefix_append)

-- what leads to the pen before leads to the pen behind the items
pub layout_more : {a : List ℕ} (items : Items) (pen : Pen) → IsPrefix a pen.code → IsPrefix a (lay items pen).code
layout_more items pen p = prefix_of_prefix p (layout_appends items pen)
