-- What a server's connection holds, as its client stands with it.
use Rattle.std.specs.Prelude.{◌≡◌, ℕ, Bool, true, false, List, [], ◌∷◌, map, Option, Some, None, is_some, find}
use Rattle.std.specs.Option.{option_map}
use Rattle.std.specs.List.{flat_map}
use Rattle.ei_spec.specs.declared.interface.KnownInterface.{KnownInterface}
use Rattle.ei_spec.specs.declared.interface.KnownInterface.TheVariants as known
use Rattle.ei_spec.specs.Interface.{Interface, Known, Other, ObjectView}
use Rattle.ei_session.specs.Meaning.{Meaning, Syncs, ReleasesSeat, Releases}
use Rattle.ei_backend.specs.Table.{TableView, found}
use Rattle.ei_backend.specs.Endpoint.{endpoint_of}
use Rattle.ei_ends.specs.Sent.{Sent}
use Rattle.ei_ends.specs.Way.{End}
use Rattle.ei_ends.specs.Steps.{after_calls}
use Rattle.ei_reported.specs.Said.{Said, said}
use Rattle.ei_steady.specs.Steady.{Held, Stands, NoneRefused, after}
use Rattle.ei_told.specs.Told.{event_of}
use Rattle.ei_request.specs.Held.{DeviceView, is_device, has_interface, is_of_key, changed_first, untouched}
use Rattle.ei_request.specs.Keys.{DeviceKey}
use Rattle.ei_request.specs.Connection.{ConnectionView, holds_device}
use Rattle.ei_request.specs.Sending as sending
use Rattle.ei_acts.specs.There.{IdsDiffer, device_ids, interface_ids, IsThere, HasInterfaceThere, HoldsThere}

-- ---- what is held

abbrev pub is_seat_interface : Interface → Bool
is_seat_interface (Known known.Seat) = true
is_seat_interface interface = false

-- whether it is a seat
abbrev pub is_a_seat : Option ObjectView → Bool
is_a_seat None = false
is_a_seat (Some o) = is_seat_interface o.interface

-- the id of the device, if there is one
abbrev pub device_id : Option DeviceView → Option ℕ
device_id d = option_map (λ d. d.device.proxy.id) d

-- the seats that are alive in the table, the devices that are held, and which of them has each interface left
abbrev pub held_by : ConnectionView → Held
held_by c = record {
  seat = λ id. is_a_seat (found c.ctx.table id);
  device = λ id. is_some (find (is_device id) c.devices);
  interface = λ id. device_id (find (has_interface id) c.devices);
}

-- ---- what a client was told of it

-- what messages say, the first in front
abbrev pub said_by : List Sent → List Said
said_by ms = map said (map event_of ms)

-- All that a connection holds is there, and stands with a client that was told these, the newest first. No id is held twice.
pub record StandsWith (before : List Said) (c : ConnectionView) : Type 0 where
  pub stands : Stands before c.ctx.table.next_own (held_by c)
  pub devices : IdsDiffer (device_ids c.devices)
  pub interfaces : IdsDiffer (flat_map interface_ids c.devices)
  pub there : HoldsThere c

-- ---- an act

-- an act that left the connection so sent these messages, and did no more to its endpoint, but for memory that it made ready
abbrev pub Sends : List Sent → ConnectionView → ConnectionView → Type 0
Sends ms old new = (x : End) → x.backend ≡ old.ctx → endpoint_of new.ctx ≡ endpoint_of (after_calls true ms x).backend

-- none of them is refused by a client that stands with the connection, and it stands with what the connection holds then
abbrev pub KeepsSteady : List Sent → ConnectionView → ConnectionView → Type 0
KeepsSteady ms old new = (before : List Said) → StandsWith before old → NoneRefused before (said_by ms) × StandsWith (after before (said_by ms)) new

-- ---- targets

-- whether objects of the interface are destroyed by an event: a seat, a device, or an interface of one
abbrev pub is_destroyed : KnownInterface → Bool
is_destroyed known.Handshake = false
is_destroyed known.Connection = false
is_destroyed known.Callback = false
is_destroyed known.Pingpong = false
is_destroyed interface = true

abbrev pub is_destroyed_as : Interface → Bool
is_destroyed_as (Known interface) = is_destroyed interface
is_destroyed_as (Other name) = false

abbrev pub may_go : Option ObjectView → Bool
may_go None = false
may_go (Some o) = is_destroyed_as o.interface

-- each id is that of a seat, a device or an interface of one, as it is looked up
abbrev pub AllGoAs : (ℕ → Option ObjectView) → List ℕ → Type 0
AllGoAs objects [] = Unit {0}
AllGoAs objects (id ∷ ids) = (may_go (objects id) ≡ true) × AllGoAs objects ids

-- as what is in the table
abbrev pub AllMayGo : TableView → List ℕ → Type 0
AllMayGo t ids = AllGoAs (found t) ids

-- ---- what is asked of a request's target

-- the target of a request that lets a seat or an interface go is one, and is in the table; so is the callback of a sync
abbrev pub IsTargetOf : Meaning → TableView → ℕ → Type 0
IsTargetOf (Syncs callback version) t id = IsThere t callback known.Callback
IsTargetOf ReleasesSeat t id = IsThere t id known.Seat
IsTargetOf Releases t id = HasInterfaceThere t id
IsTargetOf meaning t id = Unit {0}

-- ---- what is asked of a device that tells

-- the device of the key is held, and the object has its id
pub record IsHeldAs (c : ConnectionView) (key : DeviceKey) (o : ObjectView) : Type 0 where
  pub held : holds_device c key ≡ true
  pub same : o.id ≡ key.proxy.id

-- the connection once the client was told that the device of the key is paused: no touch of it is down
abbrev pub pauses : ConnectionView → DeviceKey → ConnectionView
pauses c key = record (sending.tells c (sending.paused_event key.proxy.id)) { devices = changed_first (is_of_key key) untouched c.devices }
