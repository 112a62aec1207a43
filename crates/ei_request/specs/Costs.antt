-- What events cost, and what room is left for them.
use Rattle.std.specs.Prelude.{◌≡◌, ℕ, ◌+◌, ◌*◌, ◌<◌, ◌≤◌, List, length, Option}
use Rattle.ei_spec.specs.declared.interface.KnownInterface.{KnownInterface}
use Rattle.ei_spec.specs.declared.limits.TheConstants.{CAPABILITIES}
use Rattle.ei_backend.specs.Backend.{BackendView}
use Rattle.ei_backend.specs.Table.{own_end}
use Rattle.ei_request.specs.Making.{name_text, item_room, setup_room}
use Rattle.ei_request.specs.declared.costs.TheConstants.{ANNOUNCED_BYTES, NAME_BYTES, MOST_CAPABILITY_BYTES, TYPE_BYTES}
use Rattle.ei_request.specs.declared.costs.TheConstants.{MOST_INTERFACE_BYTES, DONE_BYTES, DESTROYED_BYTES}
use Rattle.ei_request.specs.declared.making.DeviceSetup.{DeviceSetup}

-- so many bytes and handles that wait to be sent, and so many new objects of this end
pub record Cost : Type 0 where
  pub bytes : ℕ
  pub handles : ℕ
  pub objects : ℕ

-- one thing and another
abbrev pub both : Cost → Cost → Cost
both c d = record { bytes = c.bytes + d.bytes; handles = c.handles + d.handles; objects = c.objects + d.objects }

-- the same so many times
abbrev pub times : ℕ → Cost → Cost
times n c = record { bytes = n * c.bytes; handles = n * c.handles; objects = n * c.objects }

-- so many bytes alone
abbrev pub plain : ℕ → Cost
plain bytes = record { bytes = bytes; handles = 0; objects = 0 }

-- The room that was made bears the cost: so many bytes and handles more may wait, and so many objects have ids and
-- places.
pub record Fits (c : Cost) (b : BackendView) : Type 0 where
  pub bytes : length b.unsent + c.bytes ≤ b.room.bytes
  pub handles : length b.unsent_handles + c.handles ≤ b.room.handles
  pub ids : 0 < c.objects → b.table.next_own + c.objects ≤ own_end b.table
  pub places : 0 < c.objects → b.table.next_own + c.objects ≤ b.table.room

-- At most the cost was spent of the room that was made, and no other memory was made ready.
pub record Spends (c : Cost) (old new : BackendView) : Type 0 where
  pub bytes : length new.unsent ≤ length old.unsent + c.bytes
  pub handles : length new.unsent_handles ≤ length old.unsent_handles + c.handles
  pub objects : new.table.next_own ≤ old.table.next_own + c.objects
  pub room : new.room.bytes ≡ old.room.bytes
  pub handle_room : new.room.handles ≡ old.room.handles
  pub end : own_end new.table ≡ own_end old.table
  pub places : new.table.room ≡ old.table.room
  pub ring : new.capacity ≡ old.capacity

-- ---- seats

-- a seat or a device is announced
abbrev pub announced_cost : Cost
announced_cost = record { bytes = ANNOUNCED_BYTES; handles = 0; objects = 1 }

-- its name is told, where there is one
abbrev pub name_cost : Option (List ℕ) → Cost
name_cost name = plain (NAME_BYTES + length (name_text name))

-- a capability of a seat is offered, and all of them are
abbrev pub capability_cost : Cost
capability_cost = plain MOST_CAPABILITY_BYTES

abbrev pub capabilities_cost : Cost
capabilities_cost = times CAPABILITIES capability_cost

-- a description ends
abbrev pub done_cost : Cost
done_cost = plain DONE_BYTES

-- a seat of that name is announced and described
abbrev pub seat_cost : Option (List ℕ) → Cost
seat_cost name = both announced_cost (both (name_cost name) (both capabilities_cost done_cost))

-- ---- devices

-- the type of a device is told
abbrev pub type_cost : Cost
type_cost = plain TYPE_BYTES

-- a device of that name is announced, and what it is is said
abbrev pub begin_cost : Option (List ℕ) → Cost
begin_cost name = both announced_cost (both (name_cost name) type_cost)

-- an interface of a device is announced, and all of these are
abbrev pub interface_cost : Cost
interface_cost = record { bytes = MOST_INTERFACE_BYTES; handles = 0; objects = 1 }

abbrev pub interfaces_cost : List KnownInterface → Cost
interfaces_cost interfaces = times (length interfaces) interface_cost

-- an item of a device's description is told, and all of these are
abbrev pub item_cost : DeviceSetup → Cost
item_cost item = record { bytes = item_room item; handles = 1; objects = 0 }

abbrev pub items_cost : List DeviceSetup → Cost
items_cost items = record { bytes = setup_room items; handles = length items; objects = 0 }

-- these items are told, and the description ends
abbrev pub end_cost : List DeviceSetup → Cost
end_cost items = both (items_cost items) done_cost

-- a device with these interfaces, of that name and with these items is announced and described
abbrev pub device_cost : List KnownInterface → Option (List ℕ) → List DeviceSetup → Cost
device_cost interfaces name items = both (begin_cost name) (both (interfaces_cost interfaces) (end_cost items))

-- ---- objects that go

-- an object is told to be gone
abbrev pub destroyed_cost : Cost
destroyed_cost = plain DESTROYED_BYTES
