use Rattle.std.proofs.Common.{◌≡◌, map, length, ◌&&◌, refl, ap, sym, ◌∙◌}
use Rattle.std.specs.Bool.{◌==◌}
use Rattle.jsgen_tree.specs.Tree.{trees}
use Rattle.jsgen_tree.specs.Rows.{in_argument}
use Rattle.jsgen_model.specs.Quotes.{is_string, is_one_string}
use Rattle.jsgen_nodes.proofs.Asked.{one_string, no_string}
use Rattle.jsgen_nodes.proofs.quotes.is_one_string.Goals as goal

pub returns-else-is_empty : goal.returns-else-is_empty
returns-else-is_empty g c =
    let plain = in_argument g.N.PrintNode.plain in
    let first = c.in-Some.first.now in
    let others = c.in-Some.others.now in
    let tests : c.is_empty.result ≡ ((length others == 0) && is_string (plain first)) = rw (sym c.is_empty.ensures, c.if-is_empty.false) refl in
    tests ∙ one_string plain first others ∙ ap (λ xs. is_one_string (trees (map plain xs))) (sym c.in-Some.ensures.cases.0)

pub returns-then-is_empty : goal.returns-then-is_empty
returns-then-is_empty g c =
    let plain = in_argument g.N.PrintNode.plain in
    let first = c.in-Some.first.now in
    let others = c.in-Some.others.now in
    let tests : c.is_string_argument.result ≡ ((length others == 0) && is_string (plain first)) = rw (sym c.is_empty.ensures, c.if-is_empty.true) c.is_string_argument.ensures in
    tests ∙ one_string plain first others ∙ ap (λ xs. is_one_string (trees (map plain xs))) (sym c.in-Some.ensures.cases.0)

pub returns-in-None : goal.returns-in-None
returns-in-None g c = no_string (in_argument g.N.PrintNode.plain) c.args.arguments.now c.in-None.ensures.cases
