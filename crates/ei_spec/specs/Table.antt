-- The table of all messages of the protocol, a line for each. Everything else is checked against it.
use Rattle.std.specs.Prelude.{ℕ, Bool, true, false, List, [], ◌∷◌, map, length, codes}
use Rattle.std.specs.List.{sum_by}
use Rattle.ei_spec.specs.Value.{Kind, U32, I32, U64, Float, Text, Nullable, Handle, New, Choice, OpenChoice}
use Rattle.ei_spec.specs.Rows.{Row, row, destructor, announcing, handing_over, Fixed, Named}
use Rattle.ei_spec.specs.Interface.{the_interfaces}
use Rattle.ei_spec.specs.declared.interface.KnownInterface.{KnownInterface}
use Rattle.ei_spec.specs.declared.interface.KnownInterface.TheVariants as known

-- ---- the enums: their names and their values

-- a receiver, a sender
abbrev pub context_type : Kind
context_type = Choice (codes "ContextType") (1 ∷ 2 ∷ [])

-- disconnected, error, mode, protocol, value, transport; and from 6 on every number is a reason of its own
abbrev pub disconnect_reason : Kind
disconnect_reason = OpenChoice

-- virtual, physical
abbrev pub device_type : Kind
device_type = Choice (codes "DeviceType") (1 ∷ 2 ∷ [])

-- released, pressed
abbrev pub button_state : Kind
button_state = Choice (codes "ButtonState") (0 ∷ 1 ∷ [])

-- released, pressed
abbrev pub key_state : Kind
key_state = Choice (codes "KeyState") (0 ∷ 1 ∷ [])

-- xkb
abbrev pub keymap_type : Kind
keymap_type = Choice (codes "KeymapType") (1 ∷ [])

-- ---- rows that stand in several places: each is written here alone

-- to be rid of the target: no arguments
abbrev pub release : Row
release = row (codes "release") []

-- the target is gone: serial
abbrev pub destroyed : Row
destroyed = destructor (codes "destroyed") (U32 ∷ [])

-- version
abbrev pub handshake_version : Row
handshake_version = row (codes "handshake_version") (U32 ∷ [])

-- name, version
abbrev pub interface_version : Row
interface_version = row (codes "interface_version") (Text ∷ U32 ∷ [])

-- the serial, or the last serial of a client; sequence
abbrev pub start_emulating : Row
start_emulating = row (codes "start_emulating") (U32 ∷ U32 ∷ [])

-- serial
abbrev pub stop_emulating : Row
stop_emulating = row (codes "stop_emulating") (U32 ∷ [])

-- serial, timestamp
abbrev pub frame : Row
frame = row (codes "frame") (U32 ∷ U64 ∷ [])

-- x, y
abbrev pub motion_relative : Row
motion_relative = row (codes "motion_relative") (Float ∷ Float ∷ [])

-- x, y
abbrev pub motion_absolute : Row
motion_absolute = row (codes "motion_absolute") (Float ∷ Float ∷ [])

-- x, y
abbrev pub scroll : Row
scroll = row (codes "scroll") (Float ∷ Float ∷ [])

-- x, y
abbrev pub scroll_discrete : Row
scroll_discrete = row (codes "scroll_discrete") (I32 ∷ I32 ∷ [])

-- x, y, is_cancel
abbrev pub scroll_stop : Row
scroll_stop = row (codes "scroll_stop") (U32 ∷ U32 ∷ U32 ∷ [])

-- button, state
abbrev pub button : Row
button = row (codes "button") (U32 ∷ button_state ∷ [])

-- key, state
abbrev pub key : Row
key = row (codes "key") (U32 ∷ key_state ∷ [])

-- touchid, x, y
abbrev pub down : Row
down = row (codes "down") (U32 ∷ Float ∷ Float ∷ [])

-- touchid, x, y
abbrev pub motion : Row
motion = row (codes "motion") (U32 ∷ Float ∷ Float ∷ [])

-- touchid
abbrev pub up : Row
up = row (codes "up") (U32 ∷ [])

-- touchid
abbrev pub cancel : Row
cancel = row (codes "cancel") (U32 ∷ [])

-- keysym, state
abbrev pub keysym : Row
keysym = row (codes "keysym") (U32 ∷ key_state ∷ [])

-- text
abbrev pub utf8 : Row
utf8 = row (codes "utf8") (Text ∷ [])

-- fingers, x, y
abbrev pub swipe : Row
swipe = row (codes "swipe") (U32 ∷ Float ∷ Float ∷ [])

-- scale
abbrev pub pinch : Row
pinch = row (codes "pinch") (Float ∷ [])

-- ---- the table

-- The messages to an object of each interface by opcode: the requests of the client, and where events is true the events of the server.
abbrev pub table : Bool → KnownInterface → List (ℕ × Row)
table false known.Handshake =
    (0, handshake_version)
    ∷ (1, row (codes "finish") [])
    ∷ (2, row (codes "context_type") (context_type ∷ []))
    ∷ (3, row (codes "name") (Text ∷ []))
    ∷ (4, interface_version)
    ∷ []
table true known.Handshake =
    (0, handshake_version)
    ∷ (1, interface_version)
    ∷ (2, handing_over (codes "connection") (U32 ∷ New ∷ U32 ∷ []) (Fixed known.Connection))
    ∷ []
table false known.Connection =
    (0, announcing (codes "sync") (New ∷ U32 ∷ []) (Fixed known.Callback))
    ∷ (1, destructor (codes "disconnect") [])
    ∷ []
table true known.Connection =
    (0, destructor (codes "disconnected") (U32 ∷ disconnect_reason ∷ Nullable ∷ []))
    ∷ (1, announcing (codes "seat") (New ∷ U32 ∷ []) (Fixed known.Seat))
    ∷ (2, row (codes "invalid_object") (U32 ∷ U64 ∷ []))
    ∷ (3, announcing (codes "ping") (New ∷ U32 ∷ []) (Fixed known.Pingpong))
    ∷ []
table false known.Callback = []
table true known.Callback =
    (0, destructor (codes "done") (U64 ∷ []))
    ∷ []
table false known.Pingpong =
    (0, destructor (codes "done") (U64 ∷ []))
    ∷ []
table true known.Pingpong = []
table false known.Seat =
    (0, release)
    ∷ (1, row (codes "bind") (U64 ∷ []))
    ∷ (2, row (codes "request_device") (U64 ∷ []))
    ∷ []
table true known.Seat =
    (0, destroyed)
    ∷ (1, row (codes "name") (Text ∷ []))
    ∷ (2, row (codes "capability") (U64 ∷ Text ∷ []))
    ∷ (3, row (codes "done") [])
    ∷ (4, announcing (codes "device") (New ∷ U32 ∷ []) (Fixed known.Device))
    ∷ []
table false known.Device =
    (0, release)
    ∷ (1, start_emulating)
    ∷ (2, stop_emulating)
    ∷ (3, frame)
    ∷ (4, row (codes "ready") [])
    ∷ []
table true known.Device =
    (0, destroyed)
    ∷ (1, row (codes "name") (Text ∷ []))
    ∷ (2, row (codes "device_type") (device_type ∷ []))
    ∷ (3, row (codes "dimensions") (U32 ∷ U32 ∷ []))
    ∷ (4, row (codes "region") (U32 ∷ U32 ∷ U32 ∷ U32 ∷ Float ∷ []))
    ∷ (5, announcing (codes "interface") (New ∷ Text ∷ U32 ∷ []) Named)
    ∷ (6, row (codes "done") [])
    ∷ (7, row (codes "resumed") (U32 ∷ []))
    ∷ (8, row (codes "paused") (U32 ∷ []))
    ∷ (9, start_emulating)
    ∷ (10, stop_emulating)
    ∷ (11, frame)
    ∷ (12, row (codes "region_mapping_id") (Text ∷ []))
    ∷ []
table false known.Pointer =
    (0, release)
    ∷ (1, motion_relative)
    ∷ []
table true known.Pointer =
    (0, destroyed)
    ∷ (1, motion_relative)
    ∷ []
table false known.PointerAbsolute =
    (0, release)
    ∷ (1, motion_absolute)
    ∷ []
table true known.PointerAbsolute =
    (0, destroyed)
    ∷ (1, motion_absolute)
    ∷ []
table false known.Scroll =
    (0, release)
    ∷ (1, scroll)
    ∷ (2, scroll_discrete)
    ∷ (3, scroll_stop)
    ∷ []
table true known.Scroll =
    (0, destroyed)
    ∷ (1, scroll)
    ∷ (2, scroll_discrete)
    ∷ (3, scroll_stop)
    ∷ []
table false known.Button =
    (0, release)
    ∷ (1, button)
    ∷ []
table true known.Button =
    (0, destroyed)
    ∷ (1, button)
    ∷ []
table false known.Keyboard =
    (0, release)
    ∷ (1, key)
    ∷ []
table true known.Keyboard =
    (0, destroyed)
    ∷ (1, row (codes "keymap") (keymap_type ∷ U32 ∷ Handle ∷ []))
    ∷ (2, key)
    ∷ (3, row (codes "modifiers") (U32 ∷ U32 ∷ U32 ∷ U32 ∷ U32 ∷ []))
    ∷ []
table false known.Touchscreen =
    (0, release)
    ∷ (1, down)
    ∷ (2, motion)
    ∷ (3, up)
    ∷ (4, cancel)
    ∷ []
table true known.Touchscreen =
    (0, destroyed)
    ∷ (1, down)
    ∷ (2, motion)
    ∷ (3, up)
    ∷ (4, cancel)
    ∷ []
table false known.Text =
    (0, release)
    ∷ (1, keysym)
    ∷ (2, utf8)
    ∷ []
table true known.Text =
    (0, destroyed)
    ∷ (1, keysym)
    ∷ (2, utf8)
    ∷ []
-- of this library's own
table false known.Gesture =
    (0, release)
    ∷ (1, swipe)
    ∷ (2, pinch)
    ∷ []
table true known.Gesture =
    (0, destroyed)
    ∷ (1, swipe)
    ∷ (2, pinch)
    ∷ []

-- ---- how many there are

-- how many messages the table has of one end
abbrev pub count : Bool → ℕ
count events = sum_by (λ interface. length (table events interface)) the_interfaces

-- the opcodes of the messages to an interface
abbrev pub opcodes : Bool → KnownInterface → List ℕ
opcodes events interface = map (λ r. r.0) (table events interface)

-- the names of the messages to an interface
abbrev pub names : Bool → KnownInterface → List (List ℕ)
names events interface = map (λ r. r.1.name) (table events interface)
