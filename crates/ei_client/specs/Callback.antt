-- The events of `ei_callback`, by the table of messages.
use Rattle.std.specs.Prelude.{ℕ, List, [], ◌∷◌}
use Rattle.ei_spec.specs.Value.{Value, Long}
use Rattle.ei_client.specs.declared.callback.Event.{Event}
use Rattle.ei_client.specs.declared.callback.Event.TheVariants.{Done}

-- the opcode
abbrev pub opcode_of : Event → ℕ
opcode_of (Done callback_data) = 0

-- the arguments
abbrev pub values_of : Event → List Value
values_of (Done callback_data) = Long callback_data ∷ []
