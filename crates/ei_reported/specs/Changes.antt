-- What one more event changes, in words that the laws cite.
use Rattle.std.specs.Prelude.{ℕ, Bool, true, false, ◌≡◌, ◌&&◌, List, [], ◌∷◌, map, Option, Some, None, ◌==◌, if◌then◌else◌, ⊤}
use Rattle.std.specs.Str.{bytes_eq}
use Rattle.ei_spec.specs.History.{occurs}
use Rattle.ei_spec.specs.Groups.{seen, group, with_frame}
use Rattle.ei_reported.specs.Said.{Said, Disconnects, SeatComes, SeatDone, SeatGoes, DeviceComes, DeviceHasType, DeviceGets, DeviceDone, DeviceTells}
use Rattle.ei_reported.specs.Said.{DeviceGoes, Inputs, Modifies, Goes}
use Rattle.ei_reported.specs.Standing.{Offer}
use Rattle.ei_reported.specs.Reported.{device_of, Report, slots}

-- the event leaves what the word says of each id
abbrev pub Keeps : {A : Type 0} → (List Said → ℕ → A) → List Said → Said → Type 0
Keeps word before m = (id : ℕ) → word (m ∷ before) id ≡ word before id

-- the event makes the word say this of the one id, and leaves what it says of each other
abbrev pub Sets : {A : Type 0} → (List Said → ℕ → A) → ℕ → A → List Said → Said → Type 0
Sets word one value before m = (id : ℕ) → word (m ∷ before) id ≡ (if one == id then value else word before id)

-- whether an event may change which seats are there
abbrev pub moves_seat : Said → Bool
moves_seat (SeatComes seat) = true
moves_seat (SeatDone seat) = true
moves_seat (SeatGoes seat serial) = true
moves_seat m = false

-- whether it may change which devices are there, or are typed
abbrev pub moves_device : Said → Bool
moves_device (DeviceComes seat device) = true
moves_device (DeviceHasType device) = true
moves_device (DeviceDone device) = true
moves_device (DeviceGoes device serial) = true
moves_device m = false

-- whether it may change which interfaces devices have
abbrev pub moves_interface : Said → Bool
moves_interface (DeviceGets device id name version) = true
moves_interface (DeviceDone device) = true
moves_interface (DeviceGoes device serial) = true
moves_interface (Goes interface id serial) = true
moves_interface m = false

-- the interface, unless it is one of the device
abbrev pub unless_of : ℕ → Option Offer → Option Offer
unless_of device None = None
unless_of device (Some o) = if device == o.device then None else Some o

-- the interface, unless it is the one that the device has by the name
abbrev pub unless_named : ℕ → List ℕ → Option Offer → Option Offer
unless_named device name None = None
unless_named device name (Some o) = if (device == o.device) && bytes_eq name o.name then None else Some o

-- whether the event announces a seat, a device or an interface of that id
abbrev pub brings : ℕ → Said → Bool
brings id (SeatComes seat) = seat == id
brings id (DeviceComes seat device) = device == id
brings id (DeviceGets device interface name version) = interface == id
brings id m = false

-- whether an event before brought the id
unfoldable pub brought : List Said → ℕ → Bool
brought before id = occurs (λ b m. brings id m) before

-- all new ids differ: each that an event brings was brought by none before
abbrev pub NewIdsDiffer : List Said → Type 0
NewIdsDiffer [] = ⊤
NewIdsDiffer (m ∷ before) = ((id : ℕ) → brings id m ≡ true → brought before id ≡ false) × NewIdsDiffer before

-- whether an event may keep a serial
abbrev pub has_serial : Said → Bool
has_serial (SeatGoes seat serial) = true
has_serial (DeviceTells device serial told) = true
has_serial (DeviceGoes device serial) = true
has_serial (Modifies id serial depressed locked latched group) = true
has_serial (Goes interface id serial) = true
has_serial m = false

-- whether it may give something
abbrev pub may_give : Said → Bool
may_give (Disconnects last_serial why explanation) = true
may_give (SeatDone seat) = true
may_give (SeatGoes seat serial) = true
may_give (DeviceDone device) = true
may_give (DeviceTells device serial told) = true
may_give (DeviceGoes device serial) = true
may_give (Inputs id input) = true
may_give (Modifies id serial depressed locked latched group) = true
may_give m = false

-- the inputs that wait on the device, with a frame of it, as the user is given them
abbrev pub group_told : ℕ → List Said → ℕ → ℕ → ℕ → List Report
group_told start before device n time = map (seen (device_of before)) (with_frame (group device (slots start before)) device n time)
