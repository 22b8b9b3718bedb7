-- Licences that stand in a file of their own, and their lines.
use Rattle.std.proofs.Common.{◌≡◌, ℕ, List, [], ◌∷◌, ◌++◌, flat_map, refl, ap}
use Rattle.jsgen_jobs.specs.LegalText.{licence_line}
use Rattle.jsgen_tree.specs.Rows.{comment_row}
use Rattle.jsgen_tree.specs.Tree.{atoms_of}
use Rattle.jsgen_tree.specs.declared.statements.Comment.{Comment}
use Rattle.jsgen.specs.Licences.{rows_plain}

-- the line of a comment
abbrev pub line_of_comment : Comment → List ℕ
line_of_comment c = licence_line (atoms_of (comment_row c))

pub lines_of_comments : (cs : List Comment) → flat_map line_of_comment cs ≡ flat_map licence_line (rows_plain cs)
lines_of_comments [] = refl
lines_of_comments (c ∷ cs) = ap (λ t. line_of_comment c ++ t) (lines_of_comments cs)
