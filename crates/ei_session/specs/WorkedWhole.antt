-- A whole session: the interfaces of the protocol, a device of each, two groups, and their end; and one of gestures.
use Rattle.std.specs.Prelude.{ℕ, List, [], ◌∷◌, codes}
use Rattle.ei_spec.specs.Message.{le4, le8, header}
use Rattle.ei_session.specs.Setup.{Setup, connection_id, seat_id}
use Rattle.ei_session.specs.Worked.{parts, one_zero, three_zeros, finish, disconnect, sync, called, bind, device_id, interface_id, frame, release, destroyed}

-- a serial of 1, and a seat of all capabilities but that of gestures
abbrev pub all_setup : Setup
all_setup = record { serial = 1; capabilities = 127; pieces = 100 }

-- the interfaces of the protocol with the versions of both ends, with opcode 4 of the client, and 1 of the server
abbrev pub all_announced : ℕ → List ℕ
all_announced opcode = parts
    (header 0 40 opcode ∷ le4 14 ∷ codes "ei_connection" ∷ three_zeros ∷ le4 1
    ∷ header 0 36 opcode ∷ le4 12 ∷ codes "ei_callback" ∷ one_zero ∷ le4 1
    ∷ header 0 36 opcode ∷ le4 12 ∷ codes "ei_pingpong" ∷ one_zero ∷ le4 1
    ∷ header 0 32 opcode ∷ le4 8 ∷ codes "ei_seat" ∷ one_zero ∷ le4 2
    ∷ header 0 36 opcode ∷ le4 10 ∷ codes "ei_device" ∷ three_zeros ∷ le4 3
    ∷ header 0 36 opcode ∷ le4 11 ∷ codes "ei_pointer" ∷ (0 ∷ 0 ∷ []) ∷ le4 1
    ∷ header 0 44 opcode ∷ le4 20 ∷ codes "ei_pointer_absolute" ∷ one_zero ∷ le4 1
    ∷ header 0 36 opcode ∷ le4 10 ∷ codes "ei_scroll" ∷ three_zeros ∷ le4 1
    ∷ header 0 36 opcode ∷ le4 10 ∷ codes "ei_button" ∷ three_zeros ∷ le4 1
    ∷ header 0 36 opcode ∷ le4 12 ∷ codes "ei_keyboard" ∷ one_zero ∷ le4 1
    ∷ header 0 40 opcode ∷ le4 15 ∷ codes "ei_touchscreen" ∷ (0 ∷ 0 ∷ []) ∷ le4 2
    ∷ header 0 32 opcode ∷ le4 8 ∷ codes "ei_text" ∷ one_zero ∷ le4 1
    ∷ [])

-- the version, the name `demo` and a sender
abbrev pub introduced : List ℕ
introduced = parts (header 0 20 0 ∷ le4 1 ∷ header 0 28 3 ∷ le4 5 ∷ codes "demo" ∷ (0 ∷ 0 ∷ 0 ∷ 0 ∷ []) ∷ header 0 20 2 ∷ le4 2 ∷ [])

-- these; the interfaces; the end
abbrev pub all_shaken : List (List ℕ)
all_shaken =
    introduced
    ∷ all_announced 4
    ∷ finish
    ∷ []

-- the ids of the device's interfaces
abbrev pub pointer_id : ℕ
pointer_id = 0xff00000000000003

abbrev pub keyboard_id : ℕ
keyboard_id = 0xff00000000000005

abbrev pub scroll_id : ℕ
scroll_id = 0xff00000000000007

-- a callback, a device, two groups, and the end of the device and of the connection
abbrev pub all_asked : List (List ℕ)
all_asked =
    sync 1 1
    ∷ bind 127
    ∷ parts (header device_id 24 1 ∷ le4 2 ∷ le4 1 ∷ [])
    ∷ parts (header keyboard_id 24 1 ∷ le4 30 ∷ le4 1 ∷ [])
    ∷ parts (header device_id 28 3 ∷ le4 2 ∷ le8 1000 ∷ [])
    ∷ parts (header pointer_id 24 1 ∷ le4 0x3f800000 ∷ le4 0xbf800000 ∷ [])
    ∷ parts (header scroll_id 24 2 ∷ le4 0 ∷ le4 120 ∷ [])
    ∷ parts (header device_id 28 3 ∷ le4 2 ∷ le8 2000 ∷ [])
    ∷ parts (header device_id 20 2 ∷ le4 2 ∷ [])
    ∷ release device_id
    ∷ disconnect
    ∷ []

-- what the server says of the capabilities of the seat
abbrev pub capabilities_described : List ℕ
capabilities_described = parts
    (header seat_id 40 2 ∷ le8 1 ∷ le4 11 ∷ codes "ei_pointer" ∷ (0 ∷ 0 ∷ [])
    ∷ header seat_id 48 2 ∷ le8 2 ∷ le4 20 ∷ codes "ei_pointer_absolute" ∷ one_zero
    ∷ header seat_id 40 2 ∷ le8 4 ∷ le4 12 ∷ codes "ei_keyboard" ∷ one_zero
    ∷ header seat_id 44 2 ∷ le8 8 ∷ le4 15 ∷ codes "ei_touchscreen" ∷ (0 ∷ 0 ∷ [])
    ∷ header seat_id 40 2 ∷ le8 16 ∷ le4 10 ∷ codes "ei_scroll" ∷ three_zeros
    ∷ header seat_id 40 2 ∷ le8 32 ∷ le4 10 ∷ codes "ei_button" ∷ three_zeros
    ∷ header seat_id 36 2 ∷ le8 64 ∷ le4 8 ∷ codes "ei_text" ∷ one_zero
    ∷ [])

-- what it says of a seat of these
abbrev pub seat_of : List ℕ → List ℕ
seat_of capabilities = parts (header connection_id 28 1 ∷ le8 seat_id ∷ le4 2 ∷ capabilities ∷ header seat_id 16 3 ∷ [])

-- and of the device
abbrev pub device_described : List ℕ
device_described = parts
    (header seat_id 28 4 ∷ le8 device_id ∷ le4 3
    ∷ header device_id 20 2 ∷ le4 1
    ∷ header device_id 44 5 ∷ le8 0xff00000000000003 ∷ le4 11 ∷ codes "ei_pointer" ∷ (0 ∷ 0 ∷ []) ∷ le4 1
    ∷ header device_id 52 5 ∷ le8 0xff00000000000004 ∷ le4 20 ∷ codes "ei_pointer_absolute" ∷ one_zero ∷ le4 1
    ∷ header device_id 44 5 ∷ le8 0xff00000000000005 ∷ le4 12 ∷ codes "ei_keyboard" ∷ one_zero ∷ le4 1
    ∷ header device_id 48 5 ∷ le8 0xff00000000000006 ∷ le4 15 ∷ codes "ei_touchscreen" ∷ (0 ∷ 0 ∷ []) ∷ le4 2
    ∷ header device_id 44 5 ∷ le8 0xff00000000000007 ∷ le4 10 ∷ codes "ei_scroll" ∷ three_zeros ∷ le4 1
    ∷ header device_id 44 5 ∷ le8 0xff00000000000008 ∷ le4 10 ∷ codes "ei_button" ∷ three_zeros ∷ le4 1
    ∷ header device_id 40 5 ∷ le8 0xff00000000000009 ∷ le4 8 ∷ codes "ei_text" ∷ one_zero ∷ le4 1
    ∷ header device_id 16 6
    ∷ header device_id 20 7 ∷ le4 2
    ∷ [])

-- what hands over the connection
abbrev pub handed_over : List ℕ
handed_over = parts (header 0 32 2 ∷ le4 1 ∷ le8 connection_id ∷ le4 1 ∷ [])

-- the greeting, and what answers the finish
abbrev pub all_connected : List ℕ
all_connected = parts (header 0 20 0 ∷ le4 1 ∷ all_announced 1 ∷ handed_over ∷ seat_of capabilities_described ∷ [])

-- all that the server sends
abbrev pub all_replied : List ℕ
all_replied = parts
    (all_connected
    ∷ called 1
    ∷ device_described
    ∷ destroyed 0xff00000000000003 3
    ∷ destroyed 0xff00000000000004 4
    ∷ destroyed 0xff00000000000005 5
    ∷ destroyed 0xff00000000000006 6
    ∷ destroyed 0xff00000000000007 7
    ∷ destroyed 0xff00000000000008 8
    ∷ destroyed 0xff00000000000009 9
    ∷ destroyed device_id 10
    ∷ [])

-- ---- with gestures

-- a serial of 1, and a seat of all capabilities
abbrev pub gesture_setup : Setup
gesture_setup = record { serial = 1; capabilities = 255; pieces = 100 }

abbrev pub four_zeros : List ℕ
four_zeros = 0 ∷ 0 ∷ 0 ∷ 0 ∷ []

-- the interface of gestures, with opcode 4 of the client, and 1 of the server
abbrev pub gestures_announced : ℕ → List ℕ
gestures_announced opcode = parts (header 0 40 opcode ∷ le4 13 ∷ codes "ei_x_gesture" ∷ four_zeros ∷ le4 1 ∷ [])

-- a handshake of all interfaces
abbrev pub gestures_shaken : List (List ℕ)
gestures_shaken = introduced ∷ all_announced 4 ∷ gestures_announced 4 ∷ finish ∷ []

-- the greeting, and what answers the finish
abbrev pub gestures_connected : List ℕ
gestures_connected = parts
    (header 0 20 0 ∷ le4 1
    ∷ all_announced 1
    ∷ gestures_announced 1
    ∷ handed_over
    ∷ seat_of (parts (capabilities_described ∷ header seat_id 44 2 ∷ le8 128 ∷ le4 13 ∷ codes "ei_x_gesture" ∷ four_zeros ∷ []))
    ∷ [])

-- a device of gestures, a swipe of three fingers and a pinch in one group
abbrev pub gestures_asked : List (List ℕ)
gestures_asked =
    bind 128
    ∷ parts (header interface_id 28 1 ∷ le4 3 ∷ le4 0x3f800000 ∷ le4 0 ∷ [])
    ∷ parts (header interface_id 20 2 ∷ le4 0x40000000 ∷ [])
    ∷ frame 6 9
    ∷ []
