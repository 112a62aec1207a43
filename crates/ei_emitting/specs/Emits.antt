-- What holds of a server's connection, and of what it said, once it added a seat and then carried out a history of steps.
use Rattle.std.specs.Prelude.{◌≡◌, ℕ, ◌+◌, true, false, List, [], ◌∷◌, map, Some, find, ◌==◌, if◌then◌else◌, Bool, ◌&&◌, ◌<◌}
use Rattle.ei_spec.specs.declared.interface.KnownInterface.{KnownInterface}
use Rattle.ei_spec.specs.declared.interface.KnownInterface.TheVariants as known
use Rattle.ei_spec.specs.Interface.{Known, ObjectView, place_of}
use Rattle.ei_spec.specs.Groups.{group, frames_made}
use Rattle.ei_types.specs.Capability.{all_bits}
use Rattle.ei_types.specs.declared.capability.DeviceCapabilities.{DeviceCapabilities}
use Rattle.ei_session.specs.Setup.{seat_id}
use Rattle.ei_session.specs.Devices.{interfaces_of}
use Rattle.ei_backend.specs.Table.{TableView, found}
use Rattle.ei_ends.specs.Sent.{Sent}
use Rattle.ei_reported.specs.Said.{Said}
use Rattle.ei_reported.specs.Changes.{NewIdsDiffer, brought}
use Rattle.ei_reported.specs.Standing.{seat_of}
use Rattle.ei_reported.specs.Reported.{reported, slots as told_slots}
use Rattle.ei_told.specs.Told.{event_of, all_said}
use Rattle.ei_request.specs.Keys.{DeviceKey}
use Rattle.ei_request.specs.Held.{SeatView, DeviceView, is_device}
use Rattle.ei_request.specs.Connection.{ConnectionView}
use Rattle.ei_acts.specs.Holding.{StandsWith}
use Rattle.ei_emitting.specs.Emitted.{Step, added, is_held, id_in, mask_in, next_device, serial, slots, emitted}

-- ---- what is held

-- all capabilities
abbrev pub all_capabilities : DeviceCapabilities
all_capabilities = record { 0 = all_bits }

-- the one seat: it has all capabilities, and the client hasn't released it
pub record HasSeat (c : ConnectionView) : Type 0 where
  pub seat : SeatView
  pub only : c.seats ≡ seat ∷ []
  pub id : seat.proxy.id ≡ seat_id
  pub all : seat.capabilities ≡ all_capabilities
  pub alive : seat.released ≡ false

-- these objects are those of the interfaces, with rising ids from this one on
abbrev pub AreFrom : ℕ → List KnownInterface → List ObjectView → Type 0
AreFrom id [] [] = Unit {0}
AreFrom id (k ∷ ks) (o ∷ os) = (o.id ≡ id) × (o.interface ≡ Known k) × AreFrom (id + 1) ks os
AreFrom id ks os = ⊥

-- each of these objects is in the table
abbrev pub AllFound : TableView → List ObjectView → Type 0
AllFound t [] = Unit {0}
AllFound t (o ∷ os) = (found t o.id ≡ Some o) × AllFound t os

-- the device of that id is held: it is of the seat, its interfaces are those of the mask, with the ids behind its own, and the
-- client was told of which seat it is
pub record HoldsDevice (id mask : ℕ) (c : ConnectionView) (said : List Said) : Type 0 where
  pub device : DeviceView
  pub held : find (is_device id) c.devices ≡ Some device
  pub seat : device.device.seat.id ≡ seat_id
  pub interfaces : AreFrom (id + 1) (interfaces_of mask) device.interfaces
  pub there : AllFound c.ctx.table device.interfaces
  pub told : seat_of said id ≡ Some seat_id

-- ---- what the client was told

-- the client was told this history: what waits, how many frames were made, and what it reports, are those of the steps
pub record Tells (start : ℕ) (before : List Step) (said : List Sent) : Type 0 where
  pub groups : (id : ℕ) → group id (told_slots start (all_said said)) ≡ group id (slots start before)
  pub frames : frames_made (told_slots start (all_said said)) ≡ frames_made (slots start before)
  pub reports : (readings : List ℕ) → reported start readings (map event_of said) ≡ emitted start readings before

-- ---- how it was said

-- the ids that these events bring differ, and lie below the next one
pub record AreNew (next : ℕ) (said : List Said) : Type 0 where
  pub differ : NewIdsDiffer said
  pub below : (id : ℕ) → brought said id ≡ true → id < next

abbrev pub is_connection : KnownInterface → Bool
is_connection known.Connection = true
is_connection interface = false

-- whether a client answers the message of a server: a ping
abbrev pub is_ping : Sent → Bool
is_ping m = is_connection m.interface && (m.opcode == 3)

abbrev pub NonePings : List Sent → Type 0
NonePings [] = Unit {0}
NonePings (m ∷ ms) = (is_ping m ≡ false) × NonePings ms

-- ---- both

-- A server added a nameless seat of all capabilities, behind a handshake of this serial, and then carried out these steps, the
-- newest first, none of which was bad. That left the connection; `said` are its messages behind the handshake, the newest first.
pub record Emits (start : ℕ) (before : List Step) (c : ConnectionView) (said : List Sent) : Type 0 where
  pub serial_is : c.last_serial ≡ serial start before
  pub next_is : c.ctx.table.next_own ≡ next_device before
  pub seat : HasSeat c
  pub devices : (number : ℕ) → is_held before number ≡ true → HoldsDevice (id_in (added before number)) (mask_in (added before number)) c (all_said said)
  pub stands : StandsWith (all_said said) c
  pub told : Tells start before said
  pub fresh : AreNew c.ctx.table.next_own (all_said said)
  pub silent : NonePings said

-- ---- how a step names its device

-- the device of that number, by the ids of its key
pub record IsKeyOf (before : List Step) (number : ℕ) (key : DeviceKey) : Type 0 where
  pub seat : key.seat.id ≡ seat_id
  pub device : key.proxy.id ≡ id_in (added before number)

-- the place of an interface among these
abbrev pub place_in : KnownInterface → List KnownInterface → ℕ
place_in interface [] = 0
place_in interface (k ∷ ks) = if place_of k == place_of interface then 0 else place_in interface ks + 1

-- the id of an interface of the device of that number
abbrev pub interface_id : List Step → ℕ → KnownInterface → ℕ
interface_id before number interface = id_in (added before number) + 1 + place_in interface (interfaces_of (mask_in (added before number)))

-- the message is the input of that step
pub record IsInputOf (before : List Step) (number : ℕ) (interface : KnownInterface) (opcode : ℕ) (m : Sent) : Type 0 where
  pub target : m.target ≡ interface_id before number interface
  pub its : m.interface ≡ interface
  pub code : m.opcode ≡ opcode
