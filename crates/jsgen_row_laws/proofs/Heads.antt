-- What a statement begins with: a keyword, and an expression in parentheses.
use Rattle.std.proofs.Common.{◌≡◌, ℕ, true, false, List}
use Rattle.jsgen_syntax.specs.declared.precedence.Precedence.TheVariants as levels
use Rattle.jsgen_syntax.specs.Name.{spells_name}
use Rattle.jsgen_tree.specs.Job.{Tables}
use Rattle.jsgen_tree.specs.Tree.{Tree}
use Rattle.jsgen_model.specs.Punctuator.{Round}
use Rattle.jsgen_model.specs.Items.{Items, ◌⊕◌, word, brackets, soft_space}
use Rattle.jsgen_model.specs.Layout.{Pen, layout}
use Rattle.jsgen_model.specs.Grammar.{Allowed, ReadsExpression, with_in}
use Rattle.jsgen_model.specs.Grammar as grammar
use Rattle.jsgen_place.specs.Place.{in_brackets}
use Rattle.jsgen_model.specs.Spell.{spell}
use Rattle.jsgen_token_laws.proofs.Last.{Last, Knows}
use Rattle.jsgen_row_laws.proofs.Good.{Printed}
use Rattle.jsgen_row_laws.proofs.Stands.{SameTree}
use Rattle.jsgen_row_laws.proofs.Parentheses.{InsideAt, Headed, headed}

abbrev pub GoodHead : Tables → List ℕ → Pen → Last → Pen → Allowed → Tree → Type 0
GoodHead names w p l q c t = Headed names w (ReadsExpression (with_in c) grammar.Expression) (SameTree names t) p l q

abbrev pub head_items : List ℕ → Tree → Items
head_items w t = word w ⊕ (soft_space ⊕ brackets Round (spell t (in_brackets levels.Lowest)))

pub good_head : {names : Tables} (w : List ℕ) → spells_name w ≡ true → (c : Allowed) (t : Tree) → Printed names c t → (p : Pen) (l : Last) → p.pending_semicolon ≡ false → Knows names p l → GoodHead names w p l (layout (head_items w t) p) c t
good_head {names} w n c t f p l z k = headed w n (spell t (in_brackets levels.Lowest)) inside p l z k
  where
    inside : InsideAt names (ReadsExpression (with_in c) grammar.Expression) (SameTree names t) (spell t (in_brackets levels.Lowest))
    inside p l z y k =
        let g = f (in_brackets levels.Lowest) p l z y k in
        record { last = g.last; tokens = g.tokens; writes = g.writes; semicolon = g.semicolon; reading = g.tree; reads = g.reads; same = g.same }
