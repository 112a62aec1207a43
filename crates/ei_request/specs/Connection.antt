-- The connection of a server.
use Rattle.std.specs.Prelude.{◌≡◌, ℕ, Bool, false, List, [], Option, ◌+◌, ◌%◌, ◌^◌, is_some, unwrap_or, find, refl}
use Rattle.std.specs.Coded.{Coded, code_by, coded×, coded_ℕ, coded_bool, coded_list, coded_option}
use Rattle.ei_spec.specs.declared.interface.KnownInterface.{KnownInterface}
use Rattle.ei_spec.specs.Interface.{ObjectView}
use Rattle.ei_types.specs.declared.enums.ContextType.{ContextType}
use Rattle.ei_types.specs.contracts.enums.ContextType as context
use Rattle.ei_backend.specs.Backend.{BackendView}
use Rattle.ei_backend.specs.Codes.{backend_code, object_code}
use Rattle.ei_backend.specs.Endpoint.{endpoint_of}
use Rattle.ei_handshake.specs.declared.server.EisHandshakeResp.{EisHandshakeResp}
use Rattle.ei_handshake.specs.Versions.{VersionMap, version_code}
use Rattle.ei_handshake.specs.Handshaker.{settled_in}
use Rattle.ei_request.specs.Keys.{DeviceKey}
use Rattle.ei_request.specs.Held.{SeatView, seat_code, DeviceView, device_code, is_of_key}

-- the endpoint, the connection's object, what the handshake settled, the last serial, the seats and the devices that
-- are held, each by rising ids, and whether the client was told that the connection ends
pub record ConnectionView : Type 0 where
  pub ctx : BackendView
  pub proxy : ObjectView
  pub context_type : ContextType
  pub name : Option (List ℕ)
  pub negotiated : VersionMap
  pub last_serial : ℕ
  pub seats : List SeatView
  pub devices : List DeviceView
  pub disconnected : Bool

abbrev pub connection_code : Coded ConnectionView
connection_code = code_by (BackendView × (ObjectView × (ContextType × (Option (List ℕ) × (VersionMap × (ℕ × (List SeatView × (List DeviceView × Bool))))))))
    (coded× backend_code (coded× object_code (coded× context.the_row.coded (coded× (coded_option (coded_list coded_ℕ)) (coded× version_code (coded×
    coded_ℕ (coded× (coded_list seat_code) (coded× (coded_list device_code) coded_bool))))))))
    (λ c. (c.ctx, (c.proxy, (c.context_type, (c.name, (c.negotiated, (c.last_serial, (c.seats, (c.devices, c.disconnected)))))))))
    (λ p. record {
      ctx = p.0;
      proxy = p.1.0;
      context_type = p.1.1.0;
      name = p.1.1.1.0;
      negotiated = p.1.1.1.1.0;
      last_serial = p.1.1.1.1.1.0;
      seats =
          p.1.1.1.1.1.1.0;
      devices = p.1.1.1.1.1.1.1.0;
      disconnected = p.1.1.1.1.1.1.1.1;
    }) (λ _. refl)

-- a connection right after its handshake
abbrev pub new_connection : BackendView → EisHandshakeResp → ℕ → ConnectionView
new_connection ctx resp serial = record {
  ctx = ctx;
  proxy = resp.connection;
  context_type = resp.context_type;
  name = resp.name;
  negotiated = resp.negotiated_interfaces;
  last_serial = serial;
  seats = [];
  devices = [];
  disconnected = false;
}

-- the serial that comes next
abbrev pub next_serial : ℕ → ℕ
next_serial serial = (serial + 1) % 2 ^ 32

-- the version in which an object of the interface is made
abbrev pub version_in : VersionMap → KnownInterface → ℕ
version_in versions interface = unwrap_or (settled_in versions interface) 1

-- whether both ends have the interface
abbrev pub is_settled : VersionMap → KnownInterface → Bool
is_settled versions interface = is_some (settled_in versions interface)

-- whether the connection holds the device
abbrev pub holds_device : ConnectionView → DeviceKey → Bool
holds_device c key = is_some (find (is_of_key key) c.devices)

-- nothing changed but how much memory is ready
pub record Unchanged (old new : ConnectionView) : Type 0 where
  pub endpoint : endpoint_of new.ctx ≡ endpoint_of old.ctx
  pub rest : new ≡ record old { ctx = new.ctx }
