-- The events of `ei_callback`, by the table of messages.
use Rattle.std.specs.Prelude.{ℕ, List, Option, true}
use Rattle.ei_spec.specs.declared.interface.KnownInterface.TheVariants as known
use Rattle.ei_spec.specs.Rows.{Row, row_named}
use Rattle.ei_spec.specs.Table.{table}

-- the row of an event of that name
abbrev pub event : List ℕ → Option (ℕ × Row)
event name = row_named name (table true known.Callback)
