-- Lists of events that meet each row of the client's converter.
use Rattle.std.specs.Prelude.{pos, negsuc, List, [], ◌∷◌, ◌++◌, codes}
use Rattle.ei_spec.specs.declared.interface.KnownInterface.TheVariants as known
use Rattle.ei_spec.specs.declared.handle.Handle.{Handle}
use Rattle.ei_spec.specs.Value.{Word, Long, Signed, Letters, Null, Fd}
use Rattle.ei_reported.specs.Event.{Event, event}
use Rattle.ei_reported.specs.Worked.{added_seat, pending_device, typed_device, device_of_some, device_of_all, device_of_button}

-- a device of a button, and the ends of interfaces that no device has: of a button, and of a text
abbrev pub strangers_gone : List Event
strangers_gone =
    added_seat ++ device_of_button ++
    (event known.Button (codes "destroyed") 300 (Word 9 ∷ [])
    ∷ event known.Text (codes "destroyed") 301 (Word 10 ∷ [])
    ∷ [])

-- events of the handshake
abbrev pub handshake : List Event
handshake =
    event known.Handshake (codes "handshake_version") 0 (Word 1 ∷ [])
    ∷ event known.Handshake (codes "interface_version") 0 (Letters (codes "x") ∷ Word 1 ∷ [])
    ∷ event known.Handshake (codes "connection") 0 (Word 1 ∷ Long 200 ∷ Word 1 ∷ [])
    ∷ []

-- events of the connection, and the end of a callback
abbrev pub connection : List Event
connection =
    event known.Connection (codes "ping") 100 (Long 150 ∷ Word 1 ∷ [])
    ∷ event known.Connection (codes "invalid_object") 100 (Word 5 ∷ Long 9 ∷ [])
    ∷ event known.Callback (codes "done") 1 (Long 0 ∷ [])
    ∷ event known.Connection (codes "disconnected") 100 (Word 9 ∷ Word 3 ∷ Null ∷ [])
    ∷ event known.Connection (codes "disconnected") 100 (Word 9 ∷ Word 5 ∷ Letters (codes "bye") ∷ [])
    ∷ event known.Connection (codes "disconnected") 100 (Word 7 ∷ Word 9 ∷ Null ∷ [])
    ∷ []

-- a seat: what is refused before it comes, while it is pending, and once it is added
abbrev pub seat : List Event
seat =
    event known.Seat (codes "name") 101 (Letters (codes "a") ∷ [])
    ∷ event known.Seat (codes "done") 101 []
    ∷ event known.Connection (codes "seat") 100 (Long 101 ∷ Word 1 ∷ [])
    ∷ event known.Seat (codes "name") 101 (Letters (codes "a") ∷ [])
    ∷ event known.Seat (codes "capability") 101 (Long 1 ∷ Letters (codes "ei_pointer") ∷ [])
    ∷ event known.Seat (codes "capability") 101 (Long 1 ∷ Letters (codes "ei_seat") ∷ [])
    ∷ event known.Seat (codes "device") 101 (Long 102 ∷ Word 1 ∷ [])
    ∷ event known.Seat (codes "done") 101 []
    ∷ event known.Seat (codes "name") 101 (Letters (codes "a") ∷ [])
    ∷ event known.Seat (codes "capability") 101 (Long 1 ∷ Letters (codes "ei_seat") ∷ [])
    ∷ event known.Seat (codes "done") 101 []
    ∷ event known.Device (codes "name") 102 (Letters (codes "x") ∷ [])
    ∷ []

-- a pending seat goes, and its id is unknown from then on
abbrev pub seat_destroyed : List Event
seat_destroyed =
    event known.Connection (codes "seat") 100 (Long 101 ∷ Word 1 ∷ [])
    ∷ event known.Seat (codes "destroyed") 101 (Word 3 ∷ [])
    ∷ event known.Seat (codes "done") 101 []
    ∷ event known.Seat (codes "destroyed") 101 (Word 4 ∷ [])
    ∷ event known.Seat (codes "device") 101 (Long 102 ∷ Word 1 ∷ [])
    ∷ []

-- an added seat goes, while inputs wait on its device
abbrev pub seat_removed_its_device_stays : List Event
seat_removed_its_device_stays =
    device_of_some ++
    (event known.Pointer (codes "motion_relative") 103 (Word 1 ∷ Word 2 ∷ [])
    ∷ event known.Seat (codes "destroyed") 101 (Word 8 ∷ [])
    ∷ event known.Pointer (codes "motion_relative") 103 (Word 1 ∷ Word 2 ∷ [])
    ∷ event known.Seat (codes "device") 101 (Long 160 ∷ Word 1 ∷ [])
    ∷ event known.Device (codes "frame") 102 (Word 9 ∷ Long 50 ∷ [])
    ∷ [])

-- a device that is done without a type is dropped
abbrev pub device_without_type : Handle → List Event
device_without_type h =
    pending_device ++
    (event known.Device (codes "interface") 102 (Long 103 ∷ Letters (codes "ei_pointer") ∷ Word 1 ∷ [])
    ∷ event known.Device (codes "done") 102 []
    ∷ event known.Pointer (codes "motion_relative") 103 (Word 1 ∷ Word 2 ∷ [])
    ∷ event known.Device (codes "device_type") 102 (Word 1 ∷ [])
    ∷ event known.Device (codes "done") 102 []
    ∷ event known.Device (codes "resumed") 102 (Word 3 ∷ [])
    ∷ event known.Keyboard (codes "keymap") 103 (Word 1 ∷ Word 2 ∷ Fd h ∷ [])
    ∷ [])

-- what is refused of a device before it is added; serials are kept all the same
abbrev pub device_before_done : List Event
device_before_done =
    typed_device ++
    (event known.Device (codes "interface") 102 (Long 103 ∷ Letters (codes "ei_pointer") ∷ Word 1 ∷ [])
    ∷ event known.Pointer (codes "motion_relative") 103 (Word 1 ∷ Word 2 ∷ [])
    ∷ event known.Device (codes "resumed") 102 (Word 3 ∷ [])
    ∷ event known.Device (codes "paused") 102 (Word 4 ∷ [])
    ∷ event known.Device (codes "start_emulating") 102 (Word 5 ∷ Word 1 ∷ [])
    ∷ event known.Device (codes "stop_emulating") 102 (Word 6 ∷ [])
    ∷ event known.Device (codes "frame") 102 (Word 7 ∷ Long 1 ∷ [])
    ∷ event known.Pointer (codes "destroyed") 103 (Word 8 ∷ [])
    ∷ event known.Device (codes "done") 102 []
    ∷ [])

-- what is refused of a device once it is added
abbrev pub device_after_done : Handle → List Event
device_after_done h =
    device_of_some ++
    (event known.Device (codes "name") 102 (Letters (codes "x") ∷ [])
    ∷ event known.Device (codes "device_type") 102 (Word 2 ∷ [])
    ∷ event known.Device (codes "dimensions") 102 (Word 1 ∷ Word 2 ∷ [])
    ∷ event known.Device (codes "region") 102 (Word 1 ∷ Word 2 ∷ Word 3 ∷ Word 4 ∷ Word 5 ∷ [])
    ∷ event known.Device (codes "interface") 102 (Long 170 ∷ Letters (codes "ei_scroll") ∷ Word 1 ∷ [])
    ∷ event known.Device (codes "region_mapping_id") 102 (Letters (codes "m") ∷ [])
    ∷ event known.Device (codes "done") 102 []
    ∷ event known.Keyboard (codes "keymap") 104 (Word 1 ∷ Word 2 ∷ Fd h ∷ [])
    ∷ [])

-- a device is described by all that may describe it, and a pending one keeps its keyboard
abbrev pub device_setup : Handle → List Event
device_setup h =
    typed_device ++
    (event known.Device (codes "name") 102 (Letters (codes "x") ∷ [])
    ∷ event known.Device (codes "dimensions") 102 (Word 1 ∷ Word 2 ∷ [])
    ∷ event known.Device (codes "region_mapping_id") 102 (Letters (codes "m") ∷ [])
    ∷ event known.Device (codes "region") 102 (Word 1 ∷ Word 2 ∷ Word 3 ∷ Word 4 ∷ Word 5 ∷ [])
    ∷ event known.Device (codes "interface") 102 (Long 104 ∷ Letters (codes "ei_keyboard") ∷ Word 1 ∷ [])
    ∷ event known.Keyboard (codes "keymap") 104 (Word 1 ∷ Word 2 ∷ Fd h ∷ [])
    ∷ event known.Keyboard (codes "destroyed") 104 (Word 3 ∷ [])
    ∷ event known.Keyboard (codes "keymap") 104 (Word 1 ∷ Word 2 ∷ Fd h ∷ [])
    ∷ event known.Device (codes "done") 102 []
    ∷ event known.Keyboard (codes "key") 104 (Word 30 ∷ Word 1 ∷ [])
    ∷ [])

-- a pending device goes, and its keyboard with it
abbrev pub a_pending_device_goes : Handle → List Event
a_pending_device_goes h =
    typed_device ++
    (event known.Device (codes "interface") 102 (Long 104 ∷ Letters (codes "ei_keyboard") ∷ Word 1 ∷ [])
    ∷ event known.Device (codes "destroyed") 102 (Word 5 ∷ [])
    ∷ event known.Keyboard (codes "keymap") 104 (Word 1 ∷ Word 2 ∷ Fd h ∷ [])
    ∷ event known.Device (codes "done") 102 []
    ∷ [])

-- of interfaces of one name the last counts
abbrev pub last_of_a_name : List Event
last_of_a_name =
    typed_device ++
    (event known.Device (codes "interface") 102 (Long 103 ∷ Letters (codes "ei_pointer") ∷ Word 1 ∷ [])
    ∷ event known.Device (codes "interface") 102 (Long 170 ∷ Letters (codes "ei_pointer") ∷ Word 1 ∷ [])
    ∷ event known.Device (codes "done") 102 []
    ∷ event known.Pointer (codes "motion_relative") 103 (Word 1 ∷ Word 2 ∷ [])
    ∷ event known.Pointer (codes "motion_relative") 170 (Word 3 ∷ Word 4 ∷ [])
    ∷ event known.Pointer (codes "destroyed") 103 (Word 9 ∷ [])
    ∷ event known.Pointer (codes "destroyed") 170 (Word 10 ∷ [])
    ∷ event known.Pointer (codes "motion_relative") 170 (Word 3 ∷ Word 4 ∷ [])
    ∷ [])

-- inputs are grouped by frames, and by frames that are made before other events of their device
abbrev pub groups : List Event
groups =
    device_of_some ++
    (event known.Pointer (codes "motion_relative") 103 (Word 1 ∷ Word 2 ∷ [])
    ∷ event known.Keyboard (codes "key") 104 (Word 30 ∷ Word 1 ∷ [])
    ∷ event known.Device (codes "frame") 102 (Word 7 ∷ Long 11 ∷ [])
    ∷ event known.Device (codes "frame") 102 (Word 8 ∷ Long 12 ∷ [])
    ∷ event known.Pointer (codes "motion_relative") 103 (Word 1 ∷ Word 2 ∷ [])
    ∷ event known.Device (codes "resumed") 102 (Word 9 ∷ [])
    ∷ event known.Keyboard (codes "key") 104 (Word 30 ∷ Word 1 ∷ [])
    ∷ event known.Keyboard (codes "modifiers") 104 (Word 10 ∷ Word 1 ∷ Word 2 ∷ Word 3 ∷ Word 4 ∷ [])
    ∷ event known.Pointer (codes "motion_relative") 103 (Word 1 ∷ Word 2 ∷ [])
    ∷ event known.Keyboard (codes "destroyed") 104 (Word 20 ∷ [])
    ∷ event known.Keyboard (codes "modifiers") 104 (Word 21 ∷ Word 1 ∷ Word 2 ∷ Word 3 ∷ Word 4 ∷ [])
    ∷ event known.Device (codes "paused") 102 (Word 22 ∷ [])
    ∷ event known.Pointer (codes "motion_relative") 103 (Word 1 ∷ Word 2 ∷ [])
    ∷ event known.Connection (codes "disconnected") 100 (Word 1 ∷ Word 0 ∷ Null ∷ [])
    ∷ event known.Seat (codes "destroyed") 101 (Word 30 ∷ [])
    ∷ event known.Device (codes "destroyed") 102 (Word 40 ∷ [])
    ∷ event known.Pointer (codes "motion_relative") 103 (Word 1 ∷ Word 2 ∷ [])
    ∷ [])

-- all inputs, and the frame of a device
abbrev pub all_inputs : List Event
all_inputs =
    device_of_all ++
    (event known.Pointer (codes "motion_relative") 200 (Word 1 ∷ Word 2 ∷ [])
    ∷ event known.PointerAbsolute (codes "motion_absolute") 201 (Word 3 ∷ Word 4 ∷ [])
    ∷ event known.Scroll (codes "scroll") 202 (Word 5 ∷ Word 6 ∷ [])
    ∷ event known.Scroll (codes "scroll_discrete") 202 (Signed (negsuc 119) ∷ Signed (pos 120) ∷ [])
    ∷ event known.Scroll (codes "scroll_stop") 202 (Word 1 ∷ Word 0 ∷ Word 0 ∷ [])
    ∷ event known.Scroll (codes "scroll_stop") 202 (Word 0 ∷ Word 2 ∷ Word 3 ∷ [])
    ∷ event known.Button (codes "button") 203 (Word 272 ∷ Word 1 ∷ [])
    ∷ event known.Keyboard (codes "key") 204 (Word 30 ∷ Word 0 ∷ [])
    ∷ event known.Touchscreen (codes "down") 205 (Word 1 ∷ Word 2 ∷ Word 3 ∷ [])
    ∷ event known.Touchscreen (codes "motion") 205 (Word 1 ∷ Word 2 ∷ Word 4 ∷ [])
    ∷ event known.Touchscreen (codes "up") 205 (Word 1 ∷ [])
    ∷ event known.Touchscreen (codes "cancel") 205 (Word 9 ∷ [])
    ∷ event known.Text (codes "keysym") 206 (Word 97 ∷ Word 1 ∷ [])
    ∷ event known.Text (codes "utf8") 206 (Letters (codes "abc") ∷ [])
    ∷ event known.Gesture (codes "swipe") 207 (Word 3 ∷ Word 5 ∷ Word 6 ∷ [])
    ∷ event known.Gesture (codes "pinch") 207 (Word 7 ∷ [])
    ∷ event known.Device (codes "frame") 102 (Word 3 ∷ Long 77 ∷ [])
    ∷ [])

-- all interfaces of a device go, and go again
abbrev pub all_gone : List Event
all_gone =
    device_of_all ++
    (event known.Pointer (codes "destroyed") 200 (Word 50 ∷ [])
    ∷ event known.PointerAbsolute (codes "destroyed") 201 (Word 51 ∷ [])
    ∷ event known.Scroll (codes "destroyed") 202 (Word 52 ∷ [])
    ∷ event known.Button (codes "destroyed") 203 (Word 53 ∷ [])
    ∷ event known.Keyboard (codes "destroyed") 204 (Word 54 ∷ [])
    ∷ event known.Touchscreen (codes "destroyed") 205 (Word 55 ∷ [])
    ∷ event known.Text (codes "destroyed") 206 (Word 56 ∷ [])
    ∷ event known.Gesture (codes "destroyed") 207 (Word 57 ∷ [])
    ∷ event known.Pointer (codes "destroyed") 200 (Word 70 ∷ [])
    ∷ event known.PointerAbsolute (codes "destroyed") 201 (Word 71 ∷ [])
    ∷ event known.Scroll (codes "destroyed") 202 (Word 72 ∷ [])
    ∷ event known.Button (codes "destroyed") 203 (Word 73 ∷ [])
    ∷ event known.Keyboard (codes "destroyed") 204 (Word 74 ∷ [])
    ∷ event known.Touchscreen (codes "destroyed") 205 (Word 75 ∷ [])
    ∷ event known.Text (codes "destroyed") 206 (Word 76 ∷ [])
    ∷ event known.Gesture (codes "destroyed") 207 (Word 77 ∷ [])
    ∷ event known.Pointer (codes "motion_relative") 200 (Word 1 ∷ Word 2 ∷ [])
    ∷ [])

-- events of interfaces that no device has
abbrev pub unknown : List Event
unknown =
    event known.Pointer (codes "destroyed") 300 (Word 50 ∷ [])
    ∷ event known.PointerAbsolute (codes "destroyed") 301 (Word 51 ∷ [])
    ∷ event known.Scroll (codes "destroyed") 302 (Word 52 ∷ [])
    ∷ event known.Button (codes "destroyed") 303 (Word 53 ∷ [])
    ∷ event known.Keyboard (codes "destroyed") 304 (Word 54 ∷ [])
    ∷ event known.Touchscreen (codes "destroyed") 305 (Word 55 ∷ [])
    ∷ event known.Text (codes "destroyed") 306 (Word 56 ∷ [])
    ∷ event known.Keyboard (codes "modifiers") 300 (Word 9 ∷ Word 1 ∷ Word 2 ∷ Word 3 ∷ Word 4 ∷ [])
    ∷ event known.Text (codes "utf8") 300 (Letters (codes "a") ∷ [])
    ∷ []

-- emulation starts and stops; inputs of interfaces that no device has
abbrev pub emulation : List Event
emulation =
    device_of_some ++
    (event known.Device (codes "start_emulating") 102 (Word 7 ∷ Word 1 ∷ [])
    ∷ event known.Keyboard (codes "key") 104 (Word 30 ∷ Word 1 ∷ [])
    ∷ event known.Device (codes "stop_emulating") 102 (Word 8 ∷ [])
    ∷ event known.Keyboard (codes "key") 300 (Word 30 ∷ Word 1 ∷ [])
    ∷ event known.Text (codes "keysym") 300 (Word 97 ∷ Word 0 ∷ [])
    ∷ event known.Button (codes "button") 300 (Word 272 ∷ Word 1 ∷ [])
    ∷ event known.Scroll (codes "scroll") 300 (Word 1 ∷ Word 2 ∷ [])
    ∷ event known.Scroll (codes "scroll_discrete") 300 (Signed (pos 1) ∷ Signed (pos 2) ∷ [])
    ∷ event known.Scroll (codes "scroll_stop") 300 (Word 1 ∷ Word 0 ∷ Word 0 ∷ [])
    ∷ event known.PointerAbsolute (codes "motion_absolute") 300 (Word 1 ∷ Word 2 ∷ [])
    ∷ event known.Touchscreen (codes "down") 300 (Word 1 ∷ Word 2 ∷ Word 3 ∷ [])
    ∷ event known.Touchscreen (codes "motion") 300 (Word 1 ∷ Word 2 ∷ Word 3 ∷ [])
    ∷ event known.Touchscreen (codes "up") 300 (Word 1 ∷ [])
    ∷ event known.Touchscreen (codes "cancel") 300 (Word 1 ∷ [])
    ∷ [])

-- events that come too late, and a second device without a type
abbrev pub late_events : List Event
late_events =
    device_of_some ++
    (event known.Device (codes "interface") 102 (Long 171 ∷ Letters (codes "ei_pointer") ∷ Word 1 ∷ [])
    ∷ event known.Pointer (codes "motion_relative") 103 (Word 1 ∷ Word 2 ∷ [])
    ∷ event known.Device (codes "frame") 102 (Word 3 ∷ Long 8 ∷ [])
    ∷ event known.Device (codes "done") 102 []
    ∷ event known.Device (codes "done") 190 []
    ∷ event known.Seat (codes "device") 101 (Long 191 ∷ Word 1 ∷ [])
    ∷ event known.Device (codes "done") 191 []
    ∷ event known.Device (codes "done") 191 []
    ∷ event known.Pointer (codes "motion_relative") 171 (Word 1 ∷ Word 2 ∷ [])
    ∷ [])

-- two devices of one seat, each with its own inputs
abbrev pub two_devices : List Event
two_devices =
    device_of_some ++
    (event known.Seat (codes "device") 101 (Long 180 ∷ Word 1 ∷ [])
    ∷ event known.Device (codes "device_type") 180 (Word 2 ∷ [])
    ∷ event known.Device (codes "interface") 180 (Long 181 ∷ Letters (codes "ei_pointer") ∷ Word 1 ∷ [])
    ∷ event known.Device (codes "done") 180 []
    ∷ event known.Pointer (codes "motion_relative") 103 (Word 1 ∷ Word 2 ∷ [])
    ∷ event known.Pointer (codes "motion_relative") 181 (Word 9 ∷ Word 9 ∷ [])
    ∷ event known.Device (codes "frame") 180 (Word 3 ∷ Long 5 ∷ [])
    ∷ event known.Device (codes "resumed") 102 (Word 4 ∷ [])
    ∷ [])

-- two seats with a device each
abbrev pub two_seats : List Event
two_seats =
    added_seat ++
    (event known.Connection (codes "seat") 100 (Long 111 ∷ Word 1 ∷ [])
    ∷ event known.Seat (codes "done") 111 []
    ∷ event known.Seat (codes "device") 111 (Long 112 ∷ Word 1 ∷ [])
    ∷ event known.Seat (codes "device") 101 (Long 102 ∷ Word 1 ∷ [])
    ∷ event known.Device (codes "device_type") 112 (Word 2 ∷ [])
    ∷ event known.Device (codes "device_type") 102 (Word 1 ∷ [])
    ∷ event known.Device (codes "interface") 112 (Long 113 ∷ Letters (codes "ei_scroll") ∷ Word 1 ∷ [])
    ∷ event known.Device (codes "done") 112 []
    ∷ event known.Device (codes "done") 102 []
    ∷ event known.Device (codes "paused") 112 (Word 6 ∷ [])
    ∷ event known.Scroll (codes "scroll") 113 (Word 3 ∷ Word 4 ∷ [])
    ∷ event known.Device (codes "frame") 112 (Word 7 ∷ Long 9 ∷ [])
    ∷ event known.Device (codes "frame") 102 (Word 8 ∷ Long 10 ∷ [])
    ∷ event known.Seat (codes "destroyed") 111 (Word 11 ∷ [])
    ∷ event known.Seat (codes "device") 111 (Long 114 ∷ Word 1 ∷ [])
    ∷ event known.Device (codes "destroyed") 112 (Word 12 ∷ [])
    ∷ [])
