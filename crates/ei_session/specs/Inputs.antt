-- The inputs: what requests to the interfaces of a device ask.
use Rattle.std.specs.Prelude.{ℕ, Bool, false, List, Option, Some, None, is_some, ◌==◌, if◌then◌else◌}
use Rattle.ei_spec.specs.declared.interface.KnownInterface.{KnownInterface}
use Rattle.ei_spec.specs.Interface.{about}
use Rattle.ei_spec.specs.Value.{Value}
use Rattle.ei_spec.specs.Rows.{Row, row_named}
use Rattle.ei_spec.specs.Table.{table}
use Rattle.ei_spec.specs.Message.{Raw}
use Rattle.ei_input.specs.declared.input_event.InputEvent.{InputEvent}
use Rattle.ei_input.specs.Inputs.{input_by}
use Rattle.ei_session.specs.Asked.{asked}

-- an input of a device
pub record DeviceInput : Type 0 where
  pub device : ℕ
  pub input : InputEvent

-- whether it is an interface that a device can have
abbrev pub is_of_device : KnownInterface → Bool
is_of_device interface = is_some (about interface).bit

-- the input that a message to an interface of a device asks
abbrev pub input_to : KnownInterface → Raw → Option InputEvent
input_to interface m = input_by interface (λ name. asked interface name m)

-- the arguments, where the row is that of the opcode
abbrev pub numbered : ℕ → List Value → Option (ℕ × Row) → Option (List Value)
numbered opcode values None = None
numbered opcode values (Some row) = if opcode == row.0 then Some values else None

-- the input that a request of that opcode and with these arguments asks
abbrev pub input_of : KnownInterface → ℕ → List Value → Option InputEvent
input_of interface opcode values = input_by interface (λ name. numbered opcode values (row_named name (table false interface)))
