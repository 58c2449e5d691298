-- Rows whose keys rise strictly.
use Rattle.std.specs.Prelude.{if◌then◌else◌, List, Option, None, Result, Ok, Err}
use Rattle.std.specs.declared.cmp.Ordering.{Ordering}
use Rattle.serde_json.specs.Data.{Data, Items}
use Rattle.shell_json.specs.declared.fault.JsonFault.{JsonFault}
use Rattle.shell_json.specs.declared.fault.JsonFault.TheVariants.{OutOfOrder}
use Rattle.shell_json.specs.Cell.{and_then}
use Rattle.shell_json.specs.Rows.{rows_after}
use Rattle.buffer_rows.specs.Keys.{is_above, is_rising}
use Rattle.shell_face_json.specs.Lists.{value_list}

-- a list of rows whose keys rise strictly: the fault of the first faulty row is the result, and of that row's faults
-- the order is the last
unfoldable pub rows_by_key : {R K : Type 0} → (K → K → Ordering) → (R → K) → (Data → Result R JsonFault) → Option K → Items → Result (List R) JsonFault
rows_by_key order key read before ds = rows_after (is_above order) key read before ds

-- the rows, if their keys rise strictly
abbrev pub if_rising : {R K : Type 0} → (K → K → Ordering) → (R → K) → List R → Result (List R) JsonFault
if_rising order key rows = if is_rising order key None rows then Ok rows else Err OutOfOrder

-- a list of rows inside a row, whose keys rise strictly
abbrev pub sorted_value : {R K : Type 0} → (K → K → Ordering) → (R → K) → (Data → Result R JsonFault) → Data → Result (List R) JsonFault
sorted_value order key read d = and_then (value_list read d) (if_rising order key)
