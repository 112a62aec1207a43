-- The arguments of requests, by their names in the table of all messages.
use Rattle.std.specs.Prelude.{ℕ, Bool, false, List, Option, Some, None, is_some, ◌==◌, if◌then◌else◌}
use Rattle.ei_spec.specs.declared.interface.KnownInterface.{KnownInterface}
use Rattle.ei_spec.specs.Value.{Value}
pub use Rattle.ei_spec.specs.FromValues.{first, none, one, two, three, long, text}
use Rattle.ei_spec.specs.Rows.{Row, row_named}
use Rattle.ei_spec.specs.Table.{table}
use Rattle.ei_spec.specs.Message.{Raw}
use Rattle.ei_session.specs.Arguments.{row_args}

-- the arguments of a message, where it has the opcode of the row and its body spells them and nothing else
abbrev pub args_by : Option (ℕ × Row) → Raw → Option (List Value)
args_by None m = None
args_by (Some r) m = if m.opcode == r.0 then row_args (Some r.1) m else None

-- the arguments of the request of that name to an object of the interface
unfoldable pub asked : KnownInterface → List ℕ → Raw → Option (List Value)
asked interface name m = args_by (row_named name (table false interface)) m

-- whether the message is that request
unfoldable pub asks : KnownInterface → List ℕ → Raw → Bool
asks interface name m = is_some (asked interface name m)
