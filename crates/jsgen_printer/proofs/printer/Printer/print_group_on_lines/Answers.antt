use Rattle.std.proofs.Common.{◌≡◌, ℕ, false, ◌==◌, List, [], ◌∷◌, length, map, refl, ap, sym, ◌∙◌}
use Rattle.jsgen_comments.specs.Plain.{comment_plain, group_plain}
use Rattle.jsgen_tree.specs.declared.statements.Comment.{Comment}
use Rattle.jsgen_model.specs.Groups.{broken_by, each_on_line, line_ended}
use Rattle.jsgen_model.specs.Layout.{Pen, begun_at}
use Rattle.jsgen_printer.specs.Printer.{pen_of, start_of}
use Rattle.jsgen_printer.proofs.Comments.{each_on_line_adds, line_adds}
use Rattle.jsgen_printer.proofs.Prefixes.{prefix_of_prefix}
use Rattle.jsgen_printer.proofs.Sequence.{goes_as, goes_then, begun_again}
use Rattle.jsgen_printer.proofs.printer.Printer.print_group_on_lines.Goals as goal

-- where there are any
some_broken : (source : List ℕ) (cs : List Comment) (pen : Pen) → (length cs == 0) ≡ false → begun_at pen.start (line_ended (each_on_line (map (comment_plain source) cs) pen)) ≡ broken_by (map (comment_plain source) cs) pen
some_broken source [] pen h = cc
some_broken source (c ∷ cs) pen h = refl

pub returns-else-is_empty : goal.returns-else-is_empty
unfolding pen_of
returns-else-is_empty c =
    let g = c.args.group.now in
    let pen = pen_of c.args.self.now in
    goes_as (broken_by (group_plain g))
    (ap (λ l. begun_at pen.start (line_ended (each_on_line (map (comment_plain g.source.now) l) pen))) c.deref.ensures.value
    ∙ some_broken g.source.now g.comments.items pen (ap (λ n. n == 0) (sym g.comments.ok.0) ∙ (sym c.is_empty.ensures ∙ c.if-is_empty.false)))
    (begun_again (start_of c.args.self.now.start) refl
    (λ p. prefix_of_prefix (each_on_line_adds (map (comment_plain g.source.now) c.deref.result.now) p).text (line_adds (each_on_line (map (comment_plain g.source.now) c.deref.result.now) p)).text)
    (goes_then (λ p. (each_on_line_adds (map (comment_plain g.source.now) c.deref.result.now) p).text) (λ p. (line_adds p).text) c.print_each_on_line.ensures c.print_line_end.ensures) c.begin_at.ensures)
