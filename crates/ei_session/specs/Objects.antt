-- The objects that a server has, by their ids.
use Rattle.std.specs.Prelude.{ℕ, ◌+◌, ◌-◌, Bool, true, false, ◌&&◌, ◌||◌, List, [], ◌∷◌, ◌++◌, length, Option, Some, None, is_some, unwrap_or, ◌==◌, nat_lt}
use Rattle.std.specs.Prelude.{if◌then◌else◌, slice_get, codes}
use Rattle.std.specs.Option.{option_or}
use Rattle.std.specs.List.{filter, range_with_len}
use Rattle.ei_spec.specs.declared.interface.KnownInterface.{KnownInterface}
use Rattle.ei_spec.specs.declared.interface.KnownInterface.TheVariants as known
use Rattle.ei_spec.specs.Message.{Raw}
use Rattle.ei_spec.specs.History.{last_said}
use Rattle.ei_session.specs.Setup.{connection_id, seat_id}
use Rattle.ei_session.specs.Asked.{asks}
use Rattle.ei_session.specs.Handshake.{is_the_finish, version}
use Rattle.ei_session.specs.Devices.{interfaces_of, made, next_id, device_interfaces}

-- what an object is; and the device, where it is one or an interface of one
pub record Entry : Type 0 where
  pub interface : KnownInterface
  pub version : ℕ
  pub device : Option ℕ

-- ---- where objects come

-- an interface of a device
abbrev pub interface_entry : List Raw → ℕ → Option KnownInterface → Option Entry
interface_entry before device None = None
interface_entry before device (Some interface) = Some (record { interface = interface; version = version before interface; device = Some device })

-- a new device, and its interfaces with the ids that follow
unfoldable pub new_device : List Raw → ℕ → List KnownInterface → ℕ → Option Entry
new_device before device interfaces id =
    if id == device then Some (record { interface = known.Device; version = version before known.Device; device = Some device })
    else (if nat_lt device id then interface_entry before device (slice_get interfaces (id - device - 1)) else None)

-- what is at the id, where a device of this mask is made
abbrev pub given : List Raw → Option ℕ → ℕ → Option Entry
given before None id = None
given before (Some mask) id = new_device before (next_id before) (interfaces_of mask) id

-- what is at the id, where the connection and its seat are
unfoldable pub handed_over : List Raw → ℕ → Option Entry
handed_over before id =
    if id == connection_id then Some (record { interface = known.Connection; version = 1; device = None })
    else (if id == seat_id then Some (record { interface = known.Seat; version = version before known.Seat; device = None }) else None)

-- what the position gives the id to
unfoldable pub introduces : List Raw → Raw → ℕ → Option Entry
introduces before m id = if is_the_finish before m then handed_over before id else given before (made before m) id

-- before any message: the handshake
abbrev pub at_first : ℕ → Option Entry
at_first id = if id == 0 then Some (record { interface = known.Handshake; version = 1; device = None }) else None

-- what the id was given to, whether the server still has it or not
unfoldable pub introduced : List Raw → ℕ → Option Entry
introduced before id = option_or (last_said (λ b m. introduces b m id) before) (at_first id)

-- ---- where they go

-- whether the message is the release of such an object
unfoldable pub is_release : Option Entry → Raw → Bool
is_release None m = false
is_release (Some e) m = asks e.interface (codes "release") m

abbrev pub is_device : KnownInterface → Bool
is_device known.Device = true
is_device interface = false

-- whether it is a device
unfoldable pub was_device : Option Entry → Bool
was_device None = false
was_device (Some e) = is_device e.interface

abbrev pub is_same : ℕ → Option ℕ → Bool
is_same device None = false
is_same device (Some d) = d == device

-- whether it is that device, or an interface of it
unfoldable pub is_of : ℕ → Option Entry → Bool
is_of device None = false
is_of device (Some e) = is_same device e.device

-- The finish takes object 0 away, and a release what it names. With a device go its interfaces.
unfoldable pub removes : List Raw → Raw → ℕ → Bool
removes before m id =
    if is_the_finish before m then id == 0
    else (is_release (introduced before m.id) m && ((m.id == id) || (was_device (introduced before m.id) && is_of m.id (introduced before id))))

-- ---- what is there

-- a new object, or that there is none any more
abbrev pub said : Option Entry → Bool → Option (Option Entry)
said (Some e) removed = Some (Some e)
said None true = Some None
said None false = None

-- what the position says of the id
unfoldable pub says : ℕ → List Raw → Raw → Option (Option Entry)
says id before m = said (introduces before m id) (removes before m id)

-- the object of that id, if the server has it
unfoldable pub object : List Raw → ℕ → Option Entry
object before id = unwrap_or (last_said (says id) before) (at_first id)

-- the ids of the interfaces that the device has left, rising
unfoldable pub interfaces_left : List Raw → ℕ → List ℕ
interfaces_left before device = filter (λ id. is_some (object before id)) (range_with_len (device + 1) (length (device_interfaces before device)))

-- the ids that go with the target: for a device its interfaces first
abbrev pub going : List Raw → ℕ → KnownInterface → List ℕ
going before id known.Device = interfaces_left before id ++ (id ∷ [])
going before id interface = id ∷ []

abbrev pub gone_with : List Raw → Raw → Option Entry → List ℕ
gone_with before m None = []
gone_with before m (Some e) = if is_release (Some e) m then going before m.id e.interface else []

-- the ids that a release of what is there takes away
unfoldable pub gone : List Raw → Raw → List ℕ
gone before m = gone_with before m (object before m.id)
