-- Marks of a source map and comments before expressions, of which the text has nothing.
use Rattle.std.proofs.Common.{◌≡◌, ℕ, Bool, true, false, if◌then◌else◌, refl, sym, subst}
use Rattle.jsgen_syntax.specs.declared.span.Span.{Span}
use Rattle.jsgen_tree.specs.Job.{Tables}
use Rattle.jsgen_tree.specs.Tree.{Tree, span_of}
use Rattle.jsgen_tree.specs.Nodes as tree
use Rattle.jsgen_model.specs.Tokens.{Tokens}
use Rattle.jsgen_model.specs.Items.{Items, Manner, nothing, ◌⊕◌, mark, comments}
use Rattle.jsgen_model.specs.Layout.{Pen, layout}
use Rattle.jsgen_model.specs.Spell.{items_if, is_marked_as_called, before_expression}
use Rattle.jsgen_row_laws.proofs.Good.{GoodAs, PrintedAs}

-- a mark, where the test holds
pub mark_if_laid : (test : Bool) (s : Span) (p : Pen) → layout (items_if test (mark s)) p ≡ p
mark_if_laid true s p = refl
mark_if_laid false s p = refl

pub behind_mark_if : {names : Tables} {Reads : Tokens → Tree → Type 0} {t : Tree} (test : Bool) (s : Span) (items : Items) → PrintedAs names Reads items t → PrintedAs names Reads (items_if test (mark s) ⊕ items) t
behind_mark_if true s items f = f
behind_mark_if false s items f = f

-- ---- comments before an expression

unless_laid : (test : Bool) (manner : Manner) (o : ℕ) (p : Pen) → layout (if test then nothing else comments manner o) p ≡ p
unless_laid true manner o p = refl
unless_laid false manner o p = refl

pub comments_laid : (manner : Manner) (t : Tree) (p : Pen) → layout (before_expression manner t) p ≡ p
comments_laid manner (tree.parenthesized a expression) p = comments_laid manner expression p
comments_laid manner t p = unless_laid (is_marked_as_called t) manner (span_of t).start p

-- what is printed behind them
pub behind_comments : {names : Tables} {Reads : Tokens → Tree → Type 0} {t : Tree} (manner : Manner) (u : Tree) (items : Items) → PrintedAs names Reads items t → PrintedAs names Reads (before_expression manner u ⊕ items) t
behind_comments {names} {Reads} {t} manner u items f p l z y k = subst (λ q. GoodAs names Reads p l (layout items q) t) (sym (comments_laid manner u p)) (f p l z y k)
