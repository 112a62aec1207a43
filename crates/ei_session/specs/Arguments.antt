-- The arguments of raw messages, read by the table of messages, and the events, by their names in it.
use Rattle.std.specs.Prelude.{ℕ, true, false, List, [], length, Option, Some, None, Result, Ok, Err, ◌==◌, if◌then◌else◌}
use Rattle.ei_spec.specs.declared.interface.KnownInterface.{KnownInterface}
use Rattle.ei_spec.specs.Value.{Value}
use Rattle.ei_spec.specs.Reading.{Unread, ArgumentStop, all_at}
use Rattle.ei_spec.specs.Rows.{Row, row_at, row_named}
use Rattle.ei_spec.specs.Table.{table}
use Rattle.ei_spec.specs.Message.{Raw, message}

-- the arguments that are read, where no byte is left behind them
unfoldable pub whole : Result (List Value × Unread) ArgumentStop → Option (List Value)
whole (Ok x) = if length x.1.bytes == 0 then Some x.0 else None
whole (Err e) = None

-- a body that no handle comes with
abbrev pub body_of : Raw → Unread
body_of m = record { bytes = m.body; handles = []; taken = 0 }

-- the arguments of a message of this row, where the body spells them and nothing else
unfoldable pub row_args : Option Row → Raw → Option (List Value)
row_args None m = None
row_args (Some row) m = whole (all_at row.kinds (body_of m))

-- the arguments of a request to an object of the interface
unfoldable pub request_args : KnownInterface → Raw → Option (List Value)
request_args interface m = row_args (row_at m.opcode (table false interface)) m

abbrev pub opcode_of : Option (ℕ × Row) → ℕ
opcode_of None = 0
opcode_of (Some row) = row.0

-- the event of that name, sent to an object of the interface
abbrev pub event : KnownInterface → List ℕ → ℕ → List Value → Raw
event interface name id values = message id (opcode_of (row_named name (table true interface))) values
