-- Devices by their numbers.
use Rattle.std.specs.Prelude.{ℕ, List, Option, option_and_then, slice_get}
use Rattle.ei_request.specs.Keys.{DeviceKey}

-- the device of that number, where it is held
abbrev pub held_at : List (Option DeviceKey) → ℕ → Option DeviceKey
held_at devices number = option_and_then (λ d. d) (slice_get devices number)
