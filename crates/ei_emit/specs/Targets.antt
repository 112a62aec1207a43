-- What an input goes to, and what may be one.
use Rattle.std.specs.Prelude.{ℕ, Bool, true, false, not, ◌&&◌, ◌||◌, ◌==◌, Option, Some, None, find}
use Rattle.ei_spec.specs.declared.interface.KnownInterface.{KnownInterface}
use Rattle.ei_spec.specs.declared.interface.KnownInterface.TheVariants as known
use Rattle.ei_spec.specs.Interface.{ObjectView}
use Rattle.ei_types.specs.Capability.{capability_of}
use Rattle.ei_types.specs.declared.capability.DeviceCapability.{DeviceCapability}
use Rattle.ei_request.specs.Keys.{DeviceKey}
use Rattle.ei_request.specs.Held.{is_of_key}
use Rattle.ei_request.specs.Connection.{ConnectionView}
use Rattle.ei_request.specs.Reading.{interface_in}

-- ---- the object

abbrev pub object_at : KnownInterface → Option DeviceCapability → DeviceKey → ConnectionView → Option ObjectView
object_at interface None key c = None
object_at interface (Some one) key c = interface_in interface (find (is_of_key key) c.devices)

-- the object of an interface that a device may have, where the connection holds the device with it
abbrev pub object_in : KnownInterface → Option DeviceKey → Option ConnectionView → Option ObjectView
object_in interface None c = None
object_in interface (Some key) None = None
object_in interface (Some key) (Some c) = object_at interface (capability_of interface) key c

-- ---- the event

abbrev pub is_keyboard : KnownInterface → Bool
is_keyboard known.Keyboard = true
is_keyboard interface = false

-- an event of an interface of a device isn't its end, and of a keyboard it is a key
abbrev pub may_be_input : KnownInterface → ℕ → Bool
may_be_input interface opcode = not (opcode == 0) && (not (is_keyboard interface) || opcode == 2)
