-- The requests of `ei_pingpong`, by the table of messages.
use Rattle.std.specs.Prelude.{ℕ, List, Option, false}
use Rattle.ei_spec.specs.declared.interface.KnownInterface.TheVariants as known
use Rattle.ei_spec.specs.Rows.{Row, row_named}
use Rattle.ei_spec.specs.Table.{table}

-- the row of a request of that name
abbrev pub request : List ℕ → Option (ℕ × Row)
request name = row_named name (table false known.Pingpong)
