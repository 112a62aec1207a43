-- The devices that the connection holds.
use Rattle.std.specs.Prelude.{ℕ, Bool, false, is_some, find}
use Rattle.std.specs.FinMap as finite
use Rattle.ei_request.specs.Held.{is_device}
use Rattle.reis_eis.specs.declared.phase.Phase.{Phase}
use Rattle.reis_eis.specs.declared.phase.Phase.TheVariants as phase
use Rattle.reis_strict.specs.Devices.{Devices}

-- whether a device of that id is among them
abbrev pub is_held : Phase → ℕ → Bool
is_held (phase.Standing c) id = is_some (find (is_device id) c.handle.devices)
is_held p id = false

-- what is kept of those
abbrev pub held_of : Phase → Devices → Devices
held_of p devices = finite.retain_keys devices (is_held p)
