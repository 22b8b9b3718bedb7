-- Generated from tools/nodes/table.txt; edit that and run tools/nodes/generate.
-- A search through a table of names.
use Rattle.std.proofs.Common.{◌≡◌, map, drop}
use Rattle.jsgen_fields.specs.Names.{first_named}
use Rattle.jsgen_fields.proofs.names.first_named.Given as goal

-- the names left give the whole
abbrev pub invariant-loop-named : goal.invariant-loop-named
invariant-loop-named l = first_named (map (λ n. (n.0.now, n.1)) (drop l.named-index l.names)) l.name ≡ first_named (map (λ n. (n.0.now, n.1)) l.names) l.name
