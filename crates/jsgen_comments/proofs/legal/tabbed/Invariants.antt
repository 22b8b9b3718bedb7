use Rattle.std.proofs.Common.{◌≡◌, ◌++◌, length}
use denote.Text.{Utf8}
use denote.Shadow.{shadow}
use Rattle.std.specs.Str.{chars}
use Rattle.jsgen_tree.specs.Characters.{characters}
use Rattle.jsgen_model.specs.Ends.{tabbed}
use Rattle.jsgen_model.specs.Groups.{lines_of}
use Rattle.jsgen_comments.proofs.legal.tabbed.Given as goal

abbrev pub invariant-loop-line : goal.invariant-loop-line
invariant-loop-line l = shadow (Utf8 l.rest) × (characters l.tabbed ++ tabbed (lines_of (chars l.rest)) ≡ tabbed (lines_of (chars l.text)))

abbrev pub decreases-loop-line : goal.decreases-loop-line
decreases-loop-line l = length (lines_of (chars l.rest))
