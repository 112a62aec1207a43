-- Events as a client has them, once they are read.
use Rattle.std.specs.Prelude.{ℕ, true, List, Option, Some, None, ◌==◌, if◌then◌else◌}
use Rattle.ei_spec.specs.declared.interface.KnownInterface.{KnownInterface}
use Rattle.ei_spec.specs.Value.{Value}
use Rattle.ei_spec.specs.Rows.{Row, row_named}
use Rattle.ei_spec.specs.Table.{table}

-- an event: its target, the interface of that, its opcode and its arguments
pub record Event : Type 0 where
  pub target : ℕ
  pub interface : KnownInterface
  pub opcode : ℕ
  pub values : List Value

-- the arguments of an event that has the opcode of the row
abbrev pub values_by : Option (ℕ × Row) → Event → Option (List Value)
values_by None e = None
values_by (Some r) e = if e.opcode == r.0 then Some e.values else None

-- the arguments of an event, where it is the one of that name that its interface has
abbrev pub called : Event → List ℕ → Option (List Value)
called e name = values_by (row_named name (table true e.interface)) e

-- the opcode of a row that was looked up
abbrev pub opcode_by : Option (ℕ × Row) → ℕ
opcode_by None = 0
opcode_by (Some r) = r.0

-- the event of that name to an object of the interface
abbrev pub event : KnownInterface → List ℕ → ℕ → List Value → Event
event interface name target values = record {
  target = target;
  interface = interface;
  opcode = opcode_by (row_named name (table true interface));
  values = values;
}
