use Rattle.jsgen_map.proofs.Places.{place_of}
use Rattle.jsgen_map.proofs.tables.LineOffsetTables.place_near.Goals as goal

pub returns : goal.returns
returns c = λ source tables l. place_of c.args.self.now source c.line_near-number.result c.args.position c.place_in.result tables c.line_near-number.ensures l c.place_in.ensures
