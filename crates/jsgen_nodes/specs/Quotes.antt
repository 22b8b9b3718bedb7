-- What is printed for strings that minified text keeps out of backticks.
use Rattle.std.specs.Prelude.{ℕ, List, Bool, true, false, Option, Some, None}
use Rattle.jsgen_syntax.specs.declared.span.Span.{Span}
use Rattle.jsgen_model.specs.Items.{Items, nothing, ◌⊕◌, mark, string}

-- where the test doesn't hold, nothing is printed
abbrev pub where_it_holds : Bool → Items → Items
where_it_holds true items = items
where_it_holds false items = nothing

abbrev pub plain_string : Span → Option (List ℕ) → Items
plain_string s (Some units) = mark s ⊕ string false units
plain_string s None = nothing
