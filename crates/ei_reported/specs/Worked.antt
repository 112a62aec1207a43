-- What lists of events come to, and how they begin.
use Rattle.std.specs.Prelude.{ℕ, List, [], ◌∷◌, ◌++◌, length, Option, Some, None, reverse, map, codes}
use Rattle.ei_types.specs.declared.error.EventError.{EventError}
use Rattle.ei_spec.specs.declared.interface.KnownInterface.TheVariants as known
use Rattle.ei_spec.specs.Value.{Word, Long, Letters}
use Rattle.ei_spec.specs.Groups.{Plain}
use Rattle.ei_spec.specs.History.{joined}
use Rattle.ei_reported.specs.Event.{Event, event}
use Rattle.ei_reported.specs.Said.{said}
use Rattle.ei_reported.specs.Reported.{Device, Report, SeatAdded, DeviceAdded, refusal, serial, reported}

-- a device of the seat
abbrev pub device_of : ℕ → ℕ → Device
device_of seat id = record { seat = seat; id = id }

-- a device of the seat 101
abbrev pub device : ℕ → Device
device id = device_of 101 id

-- what the events, the oldest first, give after a handshake of the serial 5, where the clock reads 1000 and then 2000
abbrev pub told : List Event → List Report
told events = reported 5 (1000 ∷ 2000 ∷ []) (reverse events)

-- the user is given the seat 101, and then its device 102
abbrev pub seat_and_device : List Report
seat_and_device = Plain (SeatAdded 101) ∷ Plain (DeviceAdded (device 102)) ∷ []

-- a refused event: its place in the list, from 0 on, and why
pub record Refused : Type 0 where
  pub place : ℕ
  pub why : EventError

-- refused at this place
abbrev pub fails : ℕ → EventError → Refused
fails place why = record { place = place; why = why }

-- each of these places is refused, for the one reason
abbrev pub all_fail : EventError → List ℕ → List Refused
all_fail why places = map (λ place. fails place why) places

-- what a position adds to those that are refused
abbrev pub refused_at : ℕ → Option EventError → List Refused
refused_at place None = []
refused_at place (Some why) = fails place why ∷ []

-- which of the events are refused, and why
abbrev pub refused : List Event → List Refused
refused events = joined (λ before m. refused_at (length before) (refusal before m)) (map said (reverse events))

-- the serial after the events
abbrev pub serial_after : List Event → ℕ
serial_after events = serial 5 (map said (reverse events))

-- ---- how lists begin

-- a seat that is added
abbrev pub added_seat : List Event
added_seat =
    event known.Connection (codes "seat") 100 (Long 101 ∷ Word 1 ∷ [])
    ∷ event known.Seat (codes "done") 101 []
    ∷ []

-- a device of it, to which nothing was said yet
abbrev pub pending_device : List Event
pending_device =
    added_seat ++
    (event known.Seat (codes "device") 101 (Long 102 ∷ Word 1 ∷ [])
    ∷ [])

-- the same, with a type
abbrev pub typed_device : List Event
typed_device =
    pending_device ++
    (event known.Device (codes "device_type") 102 (Word 1 ∷ [])
    ∷ [])

-- an added device of a pointer, a keyboard, a text and a button
abbrev pub device_of_some : List Event
device_of_some =
    typed_device ++
    (event known.Device (codes "interface") 102 (Long 103 ∷ Letters (codes "ei_pointer") ∷ Word 1 ∷ [])
    ∷ event known.Device (codes "interface") 102 (Long 104 ∷ Letters (codes "ei_keyboard") ∷ Word 1 ∷ [])
    ∷ event known.Device (codes "interface") 102 (Long 105 ∷ Letters (codes "ei_text") ∷ Word 1 ∷ [])
    ∷ event known.Device (codes "interface") 102 (Long 106 ∷ Letters (codes "ei_button") ∷ Word 1 ∷ [])
    ∷ event known.Device (codes "done") 102 []
    ∷ [])

-- an added device of all interfaces
abbrev pub device_of_all : List Event
device_of_all =
    typed_device ++
    (event known.Device (codes "interface") 102 (Long 200 ∷ Letters (codes "ei_pointer") ∷ Word 1 ∷ [])
    ∷ event known.Device (codes "interface") 102 (Long 201 ∷ Letters (codes "ei_pointer_absolute") ∷ Word 1 ∷ [])
    ∷ event known.Device (codes "interface") 102 (Long 202 ∷ Letters (codes "ei_scroll") ∷ Word 1 ∷ [])
    ∷ event known.Device (codes "interface") 102 (Long 203 ∷ Letters (codes "ei_button") ∷ Word 1 ∷ [])
    ∷ event known.Device (codes "interface") 102 (Long 204 ∷ Letters (codes "ei_keyboard") ∷ Word 1 ∷ [])
    ∷ event known.Device (codes "interface") 102 (Long 205 ∷ Letters (codes "ei_touchscreen") ∷ Word 1 ∷ [])
    ∷ event known.Device (codes "interface") 102 (Long 206 ∷ Letters (codes "ei_text") ∷ Word 1 ∷ [])
    ∷ event known.Device (codes "interface") 102 (Long 207 ∷ Letters (codes "ei_x_gesture") ∷ Word 1 ∷ [])
    ∷ event known.Device (codes "done") 102 []
    ∷ [])

-- a device of a button that is resumed
abbrev pub device_of_button : List Event
device_of_button =
    event known.Seat (codes "device") 101 (Long 102 ∷ Word 1 ∷ [])
    ∷ event known.Device (codes "device_type") 102 (Word 1 ∷ [])
    ∷ event known.Device (codes "interface") 102 (Long 106 ∷ Letters (codes "ei_button") ∷ Word 1 ∷ [])
    ∷ event known.Device (codes "done") 102 []
    ∷ event known.Device (codes "resumed") 102 (Word 6 ∷ [])
    ∷ []
