-- The seats and the devices that a connection holds.
use Rattle.std.specs.Prelude.{ℕ, Bool, true, List, [], ◌∷◌, ◌++◌, map, length, nat_lt, nat_eq, Option, Some, None, if◌then◌else◌, refl}
use Rattle.std.specs.List.{list_any, filter}
use Rattle.std.specs.Coded.{Coded, code_by, coded×, coded_ℕ, coded_bool, coded_list, coded_option}
use Rattle.ei_spec.specs.Interface.{ObjectView}
use Rattle.ei_backend.specs.Codes.{object_code}
use Rattle.ei_types.specs.declared.capability.DeviceCapabilities.{DeviceCapabilities}
use Rattle.ei_types.specs.contracts.capability.DeviceCapabilities as capabilities
use Rattle.ei_request.specs.Keys.{DeviceKey, device_key_code, same_device}
use Rattle.ei_input.specs.declared.input_event.InputEvent.{InputEvent}
use Rattle.ei_input.specs.declared.input_event.InputEvent.TheVariants.{TouchDown, TouchMotion, TouchUp, TouchCancel}
use Rattle.ei_input.specs.contracts.input_event.InputEvent as input
use Rattle.ei_request.specs.declared.event.EisRequest.{EisRequest}
use Rattle.ei_request.specs.declared.event.EisRequest.TheVariants as asked
use Rattle.ei_request.specs.Event.{timed}

-- ---- what is held

-- a seat: its object, the capabilities that it was given, and whether the client released it
pub record SeatView : Type 0 where
  pub proxy : ObjectView
  pub capabilities : DeviceCapabilities
  pub released : Bool

abbrev pub seat_code : Coded SeatView
seat_code = code_by (ObjectView × (DeviceCapabilities × Bool)) (coded× object_code (coded× capabilities.the_row.coded coded_bool))
    (λ s. (s.proxy, (s.capabilities, s.released))) (λ p. record { proxy = p.0; capabilities = p.1.0; released = p.1.1 }) (λ _. refl)

-- a device, its name, the interfaces that it has left by rising ids, the inputs that wait on it, and the touches that are down
pub record DeviceView : Type 0 where
  pub device : DeviceKey
  pub name : Option (List ℕ)
  pub interfaces : List ObjectView
  pub waiting : List InputEvent
  pub touches : List ℕ

abbrev pub device_code : Coded DeviceView
device_code = code_by (DeviceKey × (Option (List ℕ) × (List ObjectView × (List InputEvent × List ℕ))))
    (coded× device_key_code (coded× (coded_option (coded_list coded_ℕ)) (coded× (coded_list object_code) (coded× (coded_list input.the_row.coded)
    (coded_list coded_ℕ)))))
    (λ d. (d.device, (d.name, (d.interfaces, (d.waiting, d.touches))))) (λ p. record {
      device = p.0;
      name = p.1.0;
      interfaces = p.1.1.0;
      waiting =
          p.1.1.1.0;
      touches = p.1.1.1.1;
    }) (λ _. refl)

-- ---- which one

-- whether it is the seat of that id
abbrev pub is_seat : ℕ → SeatView → Bool
is_seat id s = nat_eq s.proxy.id id

-- whether it is the device of that id
abbrev pub is_device : ℕ → DeviceView → Bool
is_device id d = nat_eq d.device.proxy.id id

-- whether it is the device of that key
abbrev pub is_of_key : DeviceKey → DeviceView → Bool
is_of_key key d = same_device d.device key

-- whether it is a device of the seat of that id
abbrev pub is_of_seat : ℕ → DeviceView → Bool
is_of_seat id d = nat_eq d.device.seat.id id

-- whether the device has the interface of that id left
abbrev pub has_interface : ℕ → DeviceView → Bool
has_interface id d = list_any (λ o. nat_eq o.id id) d.interfaces

-- whether the touch of the device is down
abbrev pub has_touch : ℕ → DeviceView → Bool
has_touch touch d = list_any (nat_eq touch) d.touches

-- whether something waits on it
abbrev pub is_waiting : DeviceView → Bool
is_waiting d = nat_lt 0 (length d.waiting)

-- ---- the first that passes a test

-- it is changed
abbrev pub changed_first : {X : Type 0} → (X → Bool) → (X → X) → List X → List X
changed_first test change [] = []
changed_first test change (x ∷ xs) = if test x then change x ∷ xs else x ∷ changed_first test change xs

-- it is taken out
abbrev pub without_first : {X : Type 0} → (X → Bool) → List X → List X
without_first test [] = []
without_first test (x ∷ xs) = if test x then xs else x ∷ without_first test xs

-- ---- how they change

-- a seat that the client released
abbrev pub released : SeatView → SeatView
released s = record s { released = true }

-- a device with one more input waiting
abbrev pub with_input : InputEvent → DeviceView → DeviceView
with_input i d = record d { waiting = d.waiting ++ i ∷ [] }

-- a device on which nothing waits
abbrev pub emptied : DeviceView → DeviceView
emptied d = record d { waiting = [] }

-- a device without the interface of that id
abbrev pub without_interface : ℕ → DeviceView → DeviceView
without_interface id d = record d { interfaces = without_first (λ o. nat_eq o.id id) d.interfaces }

-- a device with one more touch down
abbrev pub with_touch : ℕ → DeviceView → DeviceView
with_touch touch d = record d { touches = d.touches ++ touch ∷ [] }

-- a device with one touch less
abbrev pub without_touch : ℕ → DeviceView → DeviceView
without_touch touch d = record d { touches = without_first (nat_eq touch) d.touches }

-- a device of which no touch is down
abbrev pub untouched : DeviceView → DeviceView
untouched d = record d { touches = [] }

-- a device after an input: it waits, and a touch goes down or ends; one that moves or ends a touch counts where the touch is down
abbrev pub takes_input : InputEvent → DeviceView → DeviceView
takes_input (TouchDown touch x y) d = with_input (TouchDown touch x y) (with_touch touch d)
takes_input (TouchMotion touch x y) d = if has_touch touch d then with_input (TouchMotion touch x y) d else d
takes_input (TouchUp touch) d = if has_touch touch d then with_input (TouchUp touch) (without_touch touch d) else d
takes_input (TouchCancel touch) d = if has_touch touch d then with_input (TouchCancel touch) (without_touch touch d) else d
takes_input i d = with_input i d

-- ---- what is handed out

-- the requests that a group becomes: each input with the time, and the frame behind them; none where nothing waits
abbrev pub group_requests : DeviceKey → List InputEvent → ℕ → ℕ → List EisRequest
group_requests device [] serial time = []
group_requests device (i ∷ is) serial time = map (timed device time) (i ∷ is) ++ asked.Frame (record {
  device = device;
  last_serial = serial;
  time =
      time;
}) ∷ []

-- the requests of what waits on the device, if there is one
abbrev pub group_of : Option DeviceView → ℕ → ℕ → List EisRequest
group_of None serial time = []
group_of (Some d) serial time = group_requests d.device d.waiting serial time

-- what waits on the device, if there is one
abbrev pub waiting_of : Option DeviceView → List InputEvent
waiting_of None = []
waiting_of (Some d) = d.waiting

-- ---- what goes

-- the ids that go with a device: its interfaces, and then itself
abbrev pub device_ids : DeviceView → List ℕ
device_ids d = map (λ o. o.id) d.interfaces ++ d.device.proxy.id ∷ []

abbrev pub gone_ids : Option DeviceView → List ℕ
gone_ids None = []
gone_ids (Some d) = device_ids d

-- the ids that go with some devices, one after another
abbrev pub all_device_ids : List DeviceView → List ℕ
all_device_ids [] = []
all_device_ids (d ∷ ds) = device_ids d ++ all_device_ids ds

-- the ids that go with a seat: its devices, and then itself, unless the client released it
abbrev pub seat_ids : List DeviceView → SeatView → List ℕ
seat_ids devices s = all_device_ids (filter (is_of_seat s.proxy.id) devices) ++ (if s.released then [] else s.proxy.id ∷ [])

abbrev pub gone_with_seat : List DeviceView → Option SeatView → List ℕ
gone_with_seat devices None = []
gone_with_seat devices (Some s) = seat_ids devices s

-- the ids that go with all of these seats, one after another
abbrev pub all_seat_ids : List DeviceView → List SeatView → List ℕ
all_seat_ids devices [] = []
all_seat_ids devices (s ∷ seats) = seat_ids devices s ++ all_seat_ids devices seats
