-- The touches that are down.
use Rattle.std.specs.Prelude.{ℕ, Bool, true, false, List, [], ◌∷◌, Option, Some, None, unwrap_or, ◌==◌, nat_eq, if◌then◌else◌}
use Rattle.std.specs.List.{filter}
use Rattle.std.specs.Set.{unique_keys}
use Rattle.ei_spec.specs.Message.{Raw}
use Rattle.ei_spec.specs.History.{last_said, joined}
use Rattle.ei_input.specs.declared.input_event.InputEvent.{InputEvent}
use Rattle.ei_session.specs.Inputs.{DeviceInput, input_to}
use Rattle.ei_input.specs.declared.input_event.InputEvent.TheVariants as input_event
use Rattle.ei_session.specs.Objects.{Entry, object}

abbrev pub of_device : Option ℕ → Option InputEvent → Option DeviceInput
of_device (Some device) (Some input) = Some (record { device = device; input = input })
of_device device input = None

-- the input that a message asks of an object
abbrev pub input_of : Raw → Option Entry → Option DeviceInput
input_of m None = None
input_of m (Some e) = of_device e.device (input_to e.interface m)

-- the input that a message is, with the device whose interface is its target
unfoldable pub input : List Raw → Raw → Option DeviceInput
input before m = input_of m (object before m.id)

-- what an input says of the touch: that it goes down, or that it ends
abbrev pub said_by : ℕ → InputEvent → Option Bool
said_by touch (input_event.TouchDown t x y) = if t == touch then Some true else None
said_by touch (input_event.TouchUp t) = if t == touch then Some false else None
said_by touch (input_event.TouchCancel t) = if t == touch then Some false else None
said_by touch input = None

abbrev pub said_of : ℕ → ℕ → Option DeviceInput → Option Bool
said_of device touch None = None
said_of device touch (Some i) = if i.device == device then said_by touch i.input else None

-- what the position says of the touch of the device
unfoldable pub touches : ℕ → ℕ → List Raw → Raw → Option Bool
touches device touch before m = said_of device touch (input before m)

-- whether the touch of the device is down
unfoldable pub is_down : List Raw → ℕ → ℕ → Bool
is_down before device touch = unwrap_or (last_said (touches device touch) before) false

-- the touch that an input puts down
abbrev pub put_by : InputEvent → List ℕ
put_by (input_event.TouchDown t x y) = t ∷ []
put_by input = []

abbrev pub put_of : ℕ → Option DeviceInput → List ℕ
put_of device None = []
put_of device (Some i) = if i.device == device then put_by i.input else []

-- the touch of the device that the position puts down
unfoldable pub puts : ℕ → List Raw → Raw → List ℕ
puts device before m = put_of device (input before m)

-- the touches of the device that are down, each once
unfoldable pub touches_down : List Raw → ℕ → List ℕ
touches_down before device = filter (is_down before device) (unique_keys nat_eq (joined (puts device) before))
