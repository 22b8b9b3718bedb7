use Rattle.std.proofs.Common.{◌≡◌, ◌++◌, flat_map, string_bytes, take}
use Rattle.jsgen_map_text.proofs.Steps.{line_of_name}
use Rattle.jsgen_map_text.proofs.push_names.Given as goal

abbrev pub invariant-loop-name : goal.invariant-loop-name
invariant-loop-name l = string_bytes l.text ≡ string_bytes l.fn.text ++ flat_map line_of_name (take l.name-index l.names)
