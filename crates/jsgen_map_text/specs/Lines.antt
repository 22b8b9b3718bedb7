-- The text of a source map.
use Rattle.std.specs.Prelude.{ℕ, List, ◌∷◌, ◌++◌, codes, decimal, flat_map, Option, None, Some}
use Rattle.json.specs.Print.{quoted}
use Rattle.jsgen_map.specs.declared.source_map.Token.{Token}

-- the number of a token's name, where it has one, behind a space
abbrev pub number_end : Option ℕ → List ℕ
number_end None = codes "\n"
number_end (Some n) = codes " " ++ (decimal n ++ codes "\n")

-- a line of a token: line and column in the text, and in the source
abbrev pub token_line : Token → List ℕ
token_line t = decimal t.generated_line ++ (codes " " ++ (decimal t.generated_column ++ (codes " " ++ (decimal t.source_line ++ (codes " " ++ (decimal t.source_column ++ number_end t.name))))))

-- a line of a name, in JSON (RFC 8259)
abbrev pub name_line : List ℕ → List ℕ
name_line w = codes "name " ++ (quoted w ++ codes "\n")

-- a line for each token, and behind them one for each name
abbrev pub map_text : List (List ℕ) → List Token → List ℕ
map_text names tokens = flat_map token_line tokens ++ flat_map name_line names
