-- Before an expression stands nothing where no comment waits.
use Rattle.std.proofs.Common.{◌≡◌, ℕ, Bool, true, false, if◌then◌else◌, refl, ap, sym, ◌∙◌}
use Rattle.jsgen_tree.specs.Tree.{Tree, span_of}
use Rattle.jsgen_tree.specs.Nodes as tree
use Rattle.jsgen_model.specs.Comments.{there, empty_store}
use Rattle.jsgen_model.specs.Groups.{is_printed, printed_if}
use Rattle.jsgen_model.specs.Items.{nothing, comments, before_it, annotation_before_it}
use Rattle.jsgen_model.specs.Lay.{lay}
use Rattle.jsgen_model.specs.Layout.{Pen}
use Rattle.jsgen_model.specs.Spell.{before_expression, is_marked_as_called}
use Rattle.jsgen_printer.specs.Printer.{pen_of, manner_of}
use Rattle.jsgen_printer.specs.Steps.{Lays}
use Rattle.jsgen_printer.specs.declared.printer.Printer.{Printer}
use Rattle.jsgen_printer.specs.declared.printer.comments.CommentsBefore.{CommentsBefore}
use Rattle.jsgen_printer.specs.declared.printer.comments.CommentsBefore.TheVariants as befores
use Rattle.jsgen_printer.proofs.Sequence.{laid_there, nothing_laid}

no_comments : (which : CommentsBefore) (o : ℕ) (pen : Pen) → pen.store ≡ empty_store → lay (comments (manner_of which) o) pen ≡ pen
no_comments befores.All o pen e = ap (λ s. printed_if (is_printed before_it (there o s.groups)) before_it o pen) e
no_comments befores.ForTools o pen e = ap (λ s. printed_if (is_printed annotation_before_it (there o s.groups)) annotation_before_it o pen) e

none_unless : (marked : Bool) (which : CommentsBefore) (o : ℕ) (pen : Pen) → pen.store ≡ empty_store → lay (if marked then nothing else comments (manner_of which) o) pen ≡ pen
none_unless true which o pen e = refl
none_unless false which o pen e = no_comments which o pen e

none_before : (which : CommentsBefore) (t : Tree) (pen : Pen) → pen.store ≡ empty_store → lay (before_expression (manner_of which) t) pen ≡ pen
none_before which (tree.parenthesized a expression) pen e = ap (lay (before_expression (manner_of which) expression)) (no_comments which a.span.start pen e) ∙ none_before which expression pen e
none_before which t pen e = none_unless (is_marked_as_called t) which (span_of t).start pen e

pub none_laid : (p : Printer) (which : CommentsBefore) (t : Tree) → (pen_of p).store ≡ empty_store → Lays p p (before_expression (manner_of which) t)
none_laid p which t e = laid_there (λ going. sym (none_before which t (pen_of p) e)) (nothing_laid p)
