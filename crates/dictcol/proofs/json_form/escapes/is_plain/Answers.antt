use Rattle.json.proofs.Printed.Plain.{escape_on_plain}
use Rattle.dictcol.proofs.json_form.escapes.is_plain.Goals as goal

pub returns-then-bytes-lt-LANES : goal.returns-then-bytes-lt-LANES
returns-then-bytes-lt-LANES c = escape_on_plain c.is_plain_alone.result c.args.bytes.now c.is_plain_alone.ensures

pub returns-else-bytes-lt-LANES : goal.returns-else-bytes-lt-LANES
returns-else-bytes-lt-LANES c = escape_on_plain c.is_plain_by_lanes.result c.args.bytes.now c.is_plain_by_lanes.ensures
