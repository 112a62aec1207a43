-- Devices and seats that go.
use Rattle.std.specs.Prelude.{◌≡◌, ℕ, true, not, List, [], Option, Some, None, find}
use Rattle.std.specs.List.{filter}
use Rattle.ei_backend.specs.Endpoint.{endpoint_of}
use Rattle.ei_request.specs.Keys.{DeviceKey}
use Rattle.ei_request.specs.Held.{SeatView, DeviceView, is_seat, is_of_key, is_of_seat, gone_ids, gone_with_seat, all_seat_ids, without_first}
use Rattle.ei_request.specs.Connection.{ConnectionView}
use Rattle.ei_request.specs.Sending.{destroys_all, serial_after, ends}

-- the client was told that these objects are gone, with the serials that follow, and they are; these seats and devices are held
pub record TellsGone (old : ConnectionView) (ids : List ℕ) (seats : List SeatView) (devices : List DeviceView) (new : ConnectionView) : Type 0 where
  pub endpoint : endpoint_of new.ctx ≡ destroys_all (endpoint_of old.ctx) old.last_serial ids
  pub rest : new ≡ record old { ctx = new.ctx; last_serial = serial_after old.last_serial ids; seats = seats; devices = devices }

-- the device is gone and the client was told, behind its interfaces; nothing where it isn't held
abbrev pub RemovesDevice : ConnectionView → DeviceKey → ConnectionView → Type 0
RemovesDevice old key new = TellsGone old (gone_ids (find (is_of_key key) old.devices)) old.seats (without_first (is_of_key key) old.devices) new

-- the devices that stay where the seat of that id goes
abbrev pub devices_left : ℕ → List DeviceView → Option SeatView → List DeviceView
devices_left id devices None = devices
devices_left id devices (Some s) = filter (λ d. not (is_of_seat id d)) devices

-- the seat is gone and the client was told, behind its devices, unless it had released it; nothing where it isn't held
abbrev pub RemovesSeat : ConnectionView → ℕ → ConnectionView → Type 0
RemovesSeat old id new =
    TellsGone old (gone_with_seat old.devices (find (is_seat id) old.seats)) (without_first (is_seat id) old.seats) (devices_left id old.devices
    (find (is_seat id) old.seats)) new

-- all seats are gone and then the connection, for this reason, and the client was told
pub record Disconnects (old : ConnectionView) (reason : ℕ) (text : Option (List ℕ)) (new : ConnectionView) : Type 0 where
  pub endpoint : endpoint_of new.ctx ≡
      ends (destroys_all (endpoint_of old.ctx) old.last_serial (all_seat_ids old.devices old.seats)) old.proxy.id (serial_after old.last_serial
      (all_seat_ids old.devices old.seats)) reason text
  pub rest : new ≡ record old {
    ctx = new.ctx;
    last_serial = serial_after old.last_serial (all_seat_ids old.devices old.seats);
    seats = [];
    devices = [];
    disconnected = true;
  }
