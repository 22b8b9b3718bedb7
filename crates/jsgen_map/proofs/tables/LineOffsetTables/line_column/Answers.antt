use Rattle.jsgen_map.proofs.Places.{place_of}
use Rattle.jsgen_map.proofs.tables.LineOffsetTables.line_column.Goals as goal

pub returns : goal.returns
returns c = λ source tables l. place_of c.args.self.now source c.line_between-number.result c.args.position c.place_in-place.result tables c.line_between-number.ensures l c.place_in-place.ensures
