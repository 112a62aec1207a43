-- That what a connection holds is in its table, and that no id is held twice.
use Rattle.std.specs.Prelude.{◌≡◌, ℕ, ◌<◌, true, false, List, [], ◌∷◌, map, Some, nat_eq}
use Rattle.std.specs.List.{list_any}
use Rattle.ei_spec.specs.declared.interface.KnownInterface.{KnownInterface}
use Rattle.ei_spec.specs.declared.interface.KnownInterface.TheVariants as known
use Rattle.ei_spec.specs.Interface.{Known, ObjectView}
use Rattle.ei_session.specs.Inputs.{is_of_device}
use Rattle.ei_backend.specs.Table.{TableView, found}
use Rattle.ei_request.specs.Held.{SeatView, DeviceView}
use Rattle.ei_request.specs.Connection.{ConnectionView}

-- ---- ids

-- none is there twice
abbrev pub IdsDiffer : List ℕ → Type 0
IdsDiffer [] = Unit {0}
IdsDiffer (id ∷ ids) = (list_any (nat_eq id) ids ≡ false) × IdsDiffer ids

-- each is below a number
abbrev pub AllBelow : ℕ → List ℕ → Type 0
AllBelow n [] = Unit {0}
AllBelow n (id ∷ ids) = (id < n) × AllBelow n ids

-- those of the interfaces that a device has left, of devices, and of seats
abbrev pub interface_ids : DeviceView → List ℕ
interface_ids d = map (λ o. o.id) d.interfaces

abbrev pub device_ids : List DeviceView → List ℕ
device_ids ds = map (λ d. d.device.proxy.id) ds

abbrev pub seat_ids : List SeatView → List ℕ
seat_ids ss = map (λ s. s.proxy.id) ss

-- ---- what is in a table

-- the object of that id, as one of the interface
pub record IsThere (t : TableView) (id : ℕ) (interface : KnownInterface) : Type 0 where
  pub object : ObjectView
  pub there : found t id ≡ Some object
  pub is : object.interface ≡ Known interface

-- as an interface of a device
pub record HasInterfaceThere (t : TableView) (id : ℕ) : Type 0 where
  pub interface : KnownInterface
  pub of_device : is_of_device interface ≡ true
  pub there : IsThere t id interface

-- each of these interfaces
abbrev pub AllInterfacesThere : TableView → List ObjectView → Type 0
AllInterfacesThere t [] = Unit {0}
AllInterfacesThere t (o ∷ os) = HasInterfaceThere t o.id × AllInterfacesThere t os

-- a device, and the interfaces that it has left
pub record IsInTable (t : TableView) (d : DeviceView) : Type 0 where
  pub interfaces : AllInterfacesThere t d.interfaces
  pub device : IsThere t d.device.proxy.id known.Device

abbrev pub AllInTable : TableView → List DeviceView → Type 0
AllInTable t [] = Unit {0}
AllInTable t (d ∷ ds) = IsInTable t d × AllInTable t ds

-- each of these seats, unless the client released it
abbrev pub AllSeatsThere : TableView → List SeatView → Type 0
AllSeatsThere t [] = Unit {0}
AllSeatsThere t (s ∷ ss) = (s.released ≡ false → IsThere t s.proxy.id known.Seat) × AllSeatsThere t ss

-- All that a connection holds is in its table. The ids of its seats differ, and were given.
pub record HoldsThere (c : ConnectionView) : Type 0 where
  pub devices : AllInTable c.ctx.table c.devices
  pub seats : AllSeatsThere c.ctx.table c.seats
  pub seats_differ : IdsDiffer (seat_ids c.seats)
  pub seats_below : AllBelow c.ctx.table.next_own (seat_ids c.seats)
