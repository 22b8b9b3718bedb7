use Rattle.jsgen_rows.proofs.Json.{json_read, json_refused}
use Rattle.std.proofs.Common.{◌≡◌, true, false}
use Rattle.serde_json.specs.View.{view}
use Rattle.jsgen_rows.proofs.read_json.Goals as goal

pub returns-in-Ok : goal.returns-in-Ok
returns-in-Ok c = json_read c.args.bytes.now (view c.in-Ok.value) c.in-Ok.ensures.ok.0 c.in-Ok.ensures.ok.1

pub returns-else-is_memory : goal.returns-else-is_memory
returns-else-is_memory c = λ h. json_refused c.args.bytes.now (c.in-Err.ensures.err (λ memory. let never : false ≡ true = c.if-is_memory.ensures.1 memory in cc))
