-- The keys of the seats and devices that a connection holds.
use Rattle.std.specs.Prelude.{◌≡◌, ℕ, Bool, List, map, nat_eq}
use Rattle.ei_spec.specs.Interface.{ObjectView}
use Rattle.ei_request.specs.Keys.{DeviceKey}
use Rattle.ei_request.specs.Connection.{ConnectionView}

-- whether it is the seat of that id
abbrev pub names_seat : ℕ → ObjectView → Bool
names_seat id s = nat_eq s.id id

-- whether it is the device of that id
abbrev pub names_device : ℕ → DeviceKey → Bool
names_device id d = nat_eq d.proxy.id id

-- whether it is a device of the seat of that id
abbrev pub names_device_of : ℕ → DeviceKey → Bool
names_device_of seat d = nat_eq d.seat.id seat

-- These are the keys of the seats and of the devices that are held, in their order.
pub record HasKeys (c : ConnectionView) (seats : List ObjectView) (devices : List DeviceKey) : Type 0 where
  pub seats_are : seats ≡ map (λ s. s.proxy) c.seats
  pub devices_are : devices ≡ map (λ d. d.device) c.devices
