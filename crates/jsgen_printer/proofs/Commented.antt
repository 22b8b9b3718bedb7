-- Steps round comments that have left the store, and steps that depend on what waits there.
use Rattle.std.proofs.Common.{◌≡◌, ℕ, Bool, true, false, ◌||◌, if◌then◌else◌, Option, Some, None, List, refl, ap, sym, subst, ◌∙◌}
use Rattle.jsgen_model.specs.Comments.{Comment, are_any}
use Rattle.jsgen_model.specs.Groups.{last_byte, ending_at, without_ending, closing_group, has_orphans, case_begun, case_ended, comments_at, group_at, are_lined, lines_opened, lines_closed, on_a_line, unless_on_line}
use Rattle.jsgen_model.specs.Items.{Items, AnnotatedCall, held, lined_case, caught, annotated, commented, in_lines, line_break, Lines, Break, Lead, all_of_them}
use Rattle.jsgen_model.specs.Lay.{lay, case_mark, before_block, lifts, annotated_from, is_enclosed, commented_from}
use Rattle.jsgen_model.specs.Layout.{Pen, nowhere, begun_at, written_if}
use Rattle.jsgen_model.specs.Punctuator.{Round, closing}
use Rattle.jsgen_printer.specs.Printer.{pen_of, level_if, case_behind}
use Rattle.jsgen_printer.specs.Steps.{has_failed, Ends, Goes, Lays}
use Rattle.jsgen_printer.specs.declared.printer.Printer.{Printer}
use Rattle.jsgen_printer.proofs.Appends.{layout_appends}
use Rattle.jsgen_printer.proofs.Comments.{ending_adds, closing_adds, case_adds, case_end_adds, comments_add, block_adds, annotated_adds, commented_adds, opened_adds, closed_adds}
use Rattle.jsgen_printer.proofs.Prefixes.{prefix_append, prefix_of_prefix}
use Rattle.jsgen_printer.proofs.Sequence.{Appends, goes_laid, goes_then, items_go, laid_there}

-- a step by another function, which comes to the same where nothing has failed
pub goes_there : {a b : Printer} {f : Pen → Pen} (g : Pen → Pen) → (has_failed a ≡ false → f (pen_of a) ≡ g (pen_of a)) → Goes a b f → Goes a b g
goes_there {a} {b} g e h = record { stays = h.stays; goes = λ going. subst (λ whole. Ends (has_failed b) (pen_of a) (pen_of b) whole) (e going) (h.goes going) }

-- a step, items, and a step
goes_round : {a b c d : Printer} {f g : Pen → Pen} (i : Items) → Appends f → Appends g → Goes a b f → Lays b c i → Goes c d g → Goes a d (λ pen. g (lay i (f pen)))
goes_round {a} {b} {c} {d} {f} {g} i more rest h inside k = goes_then (λ pen. prefix_of_prefix (more pen) (layout_appends i (f pen))) rest (goes_then more (λ pen. layout_appends i pen) h (items_go inside)) k

-- what is held while items are printed, and closes them
pub held_laid : {a b c d : Printer} {i : Items} (o : ℕ) (cs : List Comment) → cs ≡ ending_at (last_byte o) (pen_of a) → Goes a b (without_ending (last_byte o)) → Lays b c i → Goes c d (closing_group cs) → Lays a d (held o i)
held_laid {a} {b} {c} {d} {i} o cs e h inside k =
    goes_laid (held o i)
    (ap (λ xs. closing_group xs (lay i (without_ending (last_byte o) (pen_of a)))) e)
    (goes_round i (λ pen. (ending_adds (last_byte o) pen).text) (λ pen. (closing_adds cs pen).text) h inside k)

-- behind the one statement of a case the level is back where it stands on a line of its own
behind_case : (long : Bool) (depth end : ℕ) (pen : Pen) → case_behind (level_if long depth) end pen ≡ case_ended long depth end pen
behind_case true depth end pen = refl
behind_case false depth end pen = refl

behind_adds : (level : Option ℕ) (end : ℕ) → Appends (case_behind level end)
behind_adds None end pen = (case_end_adds false 0 end pen).text
behind_adds (Some depth) end pen = (case_end_adds true depth end pen).text

pub lined_case_laid : {a b c d : Printer} {i : Items} (start end : ℕ) (lead : Lead) (level : Option ℕ) → level ≡ level_if (has_orphans start (pen_of a)) (pen_of a).depth → Goes a b (λ pen. case_mark (has_orphans start pen) lead (case_begun (has_orphans start pen) lead start pen)) → Lays b c i → Goes c d (case_behind level end) → Lays a d (lined_case (record { start = start; end = end; lead = lead }) i)
lined_case_laid {a} {b} {c} {d} {i} start end lead level e h inside k =
    let pen = pen_of a in
    let long = has_orphans start pen in
    let inner : Pen = lay i (case_mark long lead (case_begun long lead start pen)) in
    goes_laid (lined_case (record { start = start; end = end; lead = lead }) i)
    (ap (λ l. case_behind l end inner) e ∙ behind_case long pen.depth end inner)
    (goes_round i (λ pen. (case_adds (has_orphans start pen) lead start pen).text) (behind_adds level end) h inside k)

-- a `catch` behind comments, and what stands before its block
pub caught_laid : {a b c d : Printer} {i : Items} (start body : ℕ) (stood : Bool) → stood ≡ are_any (group_at start (pen_of a)) → Goes a b (comments_at all_of_them start) → Lays b c i → Goes c d (before_block stood body) → Lays a d (caught start body i)
caught_laid {a} {b} {c} {d} {i} start body stood e h inside k =
    goes_laid (caught start body i)
    (ap (λ t. before_block t body (lay i (comments_at all_of_them start (pen_of a)))) e)
    (goes_round i (λ pen. (comments_add all_of_them start pen).text) (λ pen. (block_adds stood body pen).text) h inside k)

-- a call behind its annotation, in parentheses where it stands in some
pub annotated_laid : {a b c d : Printer} {i : Items} (call : AnnotatedCall) (wraps : Bool) → wraps ≡ (lifts call (pen_of a) || call.wrapped) → Goes a b (annotated_from call) → Lays b c i → Goes c d (written_if wraps (closing Round)) → Lays a d (annotated call i)
annotated_laid {a} {b} {c} {d} {i} call wraps e h inside k =
    goes_laid (annotated call i)
    (ap (λ t. written_if t (closing Round) (lay i (annotated_from call (pen_of a)))) e)
    (goes_round i (λ pen. (annotated_adds call pen).text) (λ pen. prefix_append pen.code _) h inside k)

-- an object behind its comments
pub commented_laid : {a b c d : Printer} {i : Items} (o : ℕ) (wraps : Bool) → wraps ≡ is_enclosed o (pen_of a) → Goes a b (commented_from o) → Lays b c i → Goes c d (λ pen. begun_at nowhere (written_if wraps (closing Round) pen)) → Lays a d (commented o i)
commented_laid {a} {b} {c} {d} {i} o wraps e h inside k =
    goes_laid (commented o i)
    (ap (λ t. begun_at nowhere (written_if t (closing Round) (lay i (commented_from o (pen_of a))))) e)
    (goes_round i (λ pen. (commented_adds o pen).text) (λ pen. prefix_append pen.code _) h inside k)

-- arguments, on lines of their own or on one
pub lined_laid : {a b c d : Printer} {i : Items} (lines : Lines) (starts : List ℕ) (end : ℕ) (lined : Bool) (depth : ℕ) (outer : Bool) → lined ≡ are_lined lines starts end (pen_of a) → depth ≡ (pen_of a).depth → outer ≡ (pen_of a).lines → Goes a b (lines_opened lined) → Lays b c i → Goes c d (lines_closed lined lines end depth outer) → Lays a d (in_lines lines starts end i)
lined_laid {a} {b} {c} {d} {i} lines starts end lined depth outer e f g h inside k =
    goes_laid (in_lines lines starts end i)
    (λ j. lines_closed (e j) lines end (f j) (g j) (lay i (lines_opened (e j) (pen_of a))))
    (goes_round i (λ pen. (opened_adds lined pen).text) (λ pen. (closed_adds lined lines end depth outer pen).text) h inside k)

-- ---- what stands before an argument

pub broken_laid : {a b : Printer} (at : Break) (f : Pen → Pen) → (pen_of a).lines ≡ true → on_a_line at (pen_of a) ≡ f (pen_of a) → Goes a b f → Lays a b (line_break at)
broken_laid {a} at g e f h = goes_laid (line_break at) (sym f ∙ ap (λ t. if t then on_a_line at (pen_of a) else unless_on_line at (pen_of a)) (sym e)) h

pub unbroken_laid : {a b : Printer} {i : Items} (at : Break) → (pen_of a).lines ≡ false → unless_on_line at (pen_of a) ≡ lay i (pen_of a) → Lays a b i → Lays a b (line_break at)
unbroken_laid {a} {b} {i} at e f h = laid_there (λ going. sym f ∙ ap (λ t. if t then on_a_line at (pen_of a) else unless_on_line at (pen_of a)) (sym e)) h
