use Rattle.std.proofs.Common.{◌≡◌, map}
use Rattle.jsgen_map.specs.Builder.{path_of, source_of}
use Rattle.jsgen_map.specs.Plain.{mark_plain}
use Rattle.jsgen_map.proofs.MarkLoop.{Taken}
use Rattle.jsgen_map.proofs.marks.map_of_marks.Given as goal

abbrev pub invariant-loop-mark : goal.invariant-loop-mark
invariant-loop-mark l = record {
  taken : Taken l.code (map mark_plain l.marks) l.mark-index l.builder;
  path : path_of l.builder ≡ l.path;
  source : source_of l.builder ≡ l.source;
}
