-- The requests of `ei_pingpong`, by the table of messages.
use Rattle.std.specs.Prelude.{ℕ, List, [], ◌∷◌}
use Rattle.ei_spec.specs.Value.{Value, Long}
use Rattle.ei_server.specs.declared.pingpong.Request.{Request}
use Rattle.ei_server.specs.declared.pingpong.Request.TheVariants.{Done}

-- the opcode
abbrev pub opcode_of : Request → ℕ
opcode_of (Done callback_data) = 0

-- the arguments
abbrev pub values_of : Request → List Value
values_of (Done callback_data) = Long callback_data ∷ []
