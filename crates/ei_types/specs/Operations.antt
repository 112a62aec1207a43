-- The names of messages.
use Rattle.std.specs.Prelude.{ℕ, Bool, List, Option, option_and_then}
use Rattle.std.specs.Option.{option_map}
use Rattle.ei_spec.specs.declared.interface.KnownInterface.{KnownInterface}
use Rattle.ei_spec.specs.Interface.{known_of}
use Rattle.ei_spec.specs.Rows.{row_at}
use Rattle.ei_spec.specs.Table.{table}

-- the name of the row of this opcode in the table of an interface
abbrev pub name_at : Bool → KnownInterface → ℕ → Option (List ℕ)
name_at events interface opcode = option_map (λ row. row.name) (row_at opcode (table events interface))

-- the same, of the interface of this name
abbrev pub operation_name : Bool → List ℕ → ℕ → Option (List ℕ)
operation_name events interface opcode = option_and_then (λ known. name_at events known opcode) (known_of interface)
