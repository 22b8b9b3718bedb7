use Rattle.jsgen_map.specs.Builder.{source_of}
use Rattle.jsgen_map.proofs.Stands.{stands_unmarked}
use Rattle.jsgen_map.proofs.builder.SourcemapBuilder.add_source_mapping_for_name.Goals as goal

pub returns-then-span-clause-ok : goal.returns-then-span-clause-ok
returns-then-span-clause-ok c = λ earlier marks stands is. stands_unmarked c.args.self.now (source_of c.args.self.now) earlier c.args.output.now c.args.span c.args.name.now marks c.if-span.true stands is
