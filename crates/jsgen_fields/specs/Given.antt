-- What a job gives: a row, the value of a field, the items of a list; each is a value of JSON, or stands for one in a flat job.
use Rattle.std.specs.Prelude.{List, map}
use Rattle.serde_json.specs.Data.{Data}
use Rattle.serde_json.specs.View.{view}
use Rattle.jsgen_flat.specs.Views.{flat_data, flat_items, flat_row_data}
use Rattle.jsgen_fields.specs.declared.given.GivenRow.{GivenRow}
use Rattle.jsgen_fields.specs.declared.given.GivenRow.TheVariants as rows
use Rattle.jsgen_fields.specs.declared.given.Given.{Given}
use Rattle.jsgen_fields.specs.declared.given.Given.TheVariants as values
use Rattle.jsgen_fields.specs.declared.given.GivenItems.{GivenItems}
use Rattle.jsgen_fields.specs.declared.given.GivenItems.TheVariants as lists

abbrev pub row_data : GivenRow → Data
row_data (rows.Json v) = view v.now
row_data (rows.Flat r) = flat_row_data r

abbrev pub given_data : Given → Data
given_data (values.Json v) = view v.now
given_data (values.Flat v) = flat_data v

abbrev pub given_items : GivenItems → List Data
given_items (lists.Json vs) = map view vs.now
given_items (lists.Flat items) = flat_items items
