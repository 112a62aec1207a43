-- The requests of `ei_device`, by the table of messages.
use Rattle.std.specs.Prelude.{ℕ, List, [], ◌∷◌, Option, true}
use Rattle.ei_spec.specs.Value.{Value, Word, Long}
use Rattle.ei_spec.specs.declared.interface.KnownInterface.TheVariants as known
use Rattle.ei_spec.specs.Rows.{Row, row_named}
use Rattle.ei_spec.specs.Table.{table}
use Rattle.ei_server.specs.declared.device.Request.{Request}
use Rattle.ei_server.specs.declared.device.Request.TheVariants.{Release, StartEmulating, StopEmulating, Frame, Ready}

-- the opcode
abbrev pub opcode_of : Request → ℕ
opcode_of Release = 0
opcode_of (StartEmulating last_serial sequence) = 1
opcode_of (StopEmulating last_serial) = 2
opcode_of (Frame last_serial timestamp) = 3
opcode_of Ready = 4

-- the arguments
abbrev pub values_of : Request → List Value
values_of Release = []
values_of (StartEmulating last_serial sequence) = Word last_serial ∷ Word sequence ∷ []
values_of (StopEmulating last_serial) = Word last_serial ∷ []
values_of (Frame last_serial timestamp) = Word last_serial ∷ Long timestamp ∷ []
values_of Ready = []

-- the row of an event of that name
abbrev pub event : List ℕ → Option (ℕ × Row)
event name = row_named name (table true known.Device)
