-- The stream that the program makes up: a client that shakes hands, binds its capabilities, and sends groups of inputs
-- that numbers choose.
use Rattle.std.specs.Prelude.{ℕ, zero, suc, ◌+◌, ◌*◌, ◌/◌, ◌%◌, ◌^◌, false, pos, negsuc, List, [], ◌∷◌, ◌++◌, map, take, drop, length, codes}
use Rattle.std.specs.List.{range_with_len}
use Rattle.std.specs.Int.{div_ceil}
use Rattle.ei_spec.specs.declared.interface.KnownInterface.{KnownInterface}
use Rattle.ei_spec.specs.declared.interface.KnownInterface.TheVariants as known
use Rattle.ei_spec.specs.Value.{Value, Word, Long, Signed, Letters}
use Rattle.ei_spec.specs.Message.{Raw, message, all_bytes}
use Rattle.ei_spec.specs.Piece.{Piece}
use Rattle.ei_spec.specs.Rows.{row_named}
use Rattle.ei_spec.specs.Table.{table}
use Rattle.ei_session.specs.Arguments.{opcode_of}
use Rattle.ei_session.specs.Setup.{Setup, connection_id, seat_id}
use Rattle.ei_session.specs.Worked.{device_id}
use Rattle.ei_session.specs.WorkedWhole.{pointer_id, keyboard_id, scroll_id}

-- ---- numbers

-- the number that is drawn after another
unfoldable pub drawn : ℕ → ℕ
drawn x = (x * 1664525 + 1013904223) % 2 ^ 32

-- the number after so many draws
abbrev pub after_draws : ℕ → ℕ → ℕ
after_draws zero x = x
after_draws (suc n) x = after_draws n (drawn x)

-- the part of a number that chooses
unfoldable pub chooser : ℕ → ℕ
chooser x = x / 65536

-- the state that a number gives to a button or a key: 1 is pressed, 0 released
unfoldable pub drawn_state : ℕ → ℕ
drawn_state x = (x / 1048576) % 2

-- ---- what is said before the groups

-- the request of that name to an object of the interface
abbrev pub requested : KnownInterface → List ℕ → ℕ → List Value → Raw
requested interface name id values = message id (opcode_of (row_named name (table false interface))) values

-- the announcement of an interface
unfoldable pub announcement : List ℕ → ℕ → Raw
announcement name version = requested known.Handshake (codes "interface_version") 0 (Letters name ∷ Word version ∷ [])

-- the version, the name `demo`, and a sender
unfoldable pub introduction : List Raw
introduction =
    requested known.Handshake (codes "handshake_version") 0 (Word 1 ∷ [])
    ∷ requested known.Handshake (codes "name") 0 (Letters (codes "demo") ∷ [])
    ∷ requested known.Handshake (codes "context_type") 0 (Word 2 ∷ [])
    ∷ []

-- the interfaces of a connection, up to its devices
unfoldable pub objects_announced : List Raw
objects_announced =
    announcement (codes "ei_connection") 1
    ∷ announcement (codes "ei_callback") 1
    ∷ announcement (codes "ei_pingpong") 1
    ∷ announcement (codes "ei_seat") 2
    ∷ announcement (codes "ei_device") 3
    ∷ []

-- and those that a device has
unfoldable pub capabilities_announced : List Raw
capabilities_announced =
    announcement (codes "ei_pointer") 1
    ∷ announcement (codes "ei_pointer_absolute") 1
    ∷ announcement (codes "ei_scroll") 1
    ∷ announcement (codes "ei_button") 1
    ∷ announcement (codes "ei_keyboard") 1
    ∷ announcement (codes "ei_touchscreen") 2
    ∷ announcement (codes "ei_text") 1
    ∷ []

-- the interfaces that the client has, with their versions, in that order
abbrev pub own_versions : List (List ℕ × ℕ)
own_versions =
    (codes "ei_connection", 1)
    ∷ (codes "ei_callback", 1)
    ∷ (codes "ei_pingpong", 1)
    ∷ (codes "ei_seat", 2)
    ∷ (codes "ei_device", 3)
    ∷ (codes "ei_pointer", 1)
    ∷ (codes "ei_pointer_absolute", 1)
    ∷ (codes "ei_scroll", 1)
    ∷ (codes "ei_button", 1)
    ∷ (codes "ei_keyboard", 1)
    ∷ (codes "ei_touchscreen", 2)
    ∷ (codes "ei_text", 1)
    ∷ []

-- the end of the handshake
unfoldable pub finish_message : Raw
finish_message = requested known.Handshake (codes "finish") 0 []

-- the button of the device that the server makes of them
abbrev pub button_id : ℕ
button_id = 0xff00000000000008

-- the client's capabilities are bound, and the device begins to send
unfoldable pub begins_to_send : List Raw
begins_to_send =
    requested known.Seat (codes "bind") seat_id (Long 127 ∷ [])
    ∷ requested known.Device (codes "start_emulating") device_id (Word 2 ∷ Word 1 ∷ [])
    ∷ []

-- all that is said before the groups
unfoldable pub opening : List Raw
opening = introduction ++ (objects_announced ++ (capabilities_announced ++ (finish_message ∷ begins_to_send)))

-- ---- groups

-- an input of four kinds, made of a number
unfoldable pub drawn_input : ℕ → ℕ → Raw
drawn_input zero x = requested known.Pointer (codes "motion_relative") pointer_id (Word x ∷ Word x ∷ [])
drawn_input (suc zero) x = requested known.Button (codes "button") button_id (Word 272 ∷ Word (drawn_state x) ∷ [])
drawn_input (suc (suc zero)) x = requested known.Keyboard (codes "key") keyboard_id (Word 30 ∷ Word (drawn_state x) ∷ [])
drawn_input (suc (suc (suc n))) x = requested known.Scroll (codes "scroll_discrete") scroll_id (Signed (pos 120) ∷ Signed (negsuc 119) ∷ [])

-- the inputs of so many draws after a number
unfoldable pub drawn_inputs : ℕ → ℕ → List Raw
drawn_inputs zero x = []
drawn_inputs (suc n) x = drawn_input (chooser (drawn x) % 4) (drawn x) ∷ drawn_inputs n (drawn x)

-- the frame of the device at a time
unfoldable pub frame_at : ℕ → Raw
frame_at time = requested known.Device (codes "frame") device_id (Word 2 ∷ Long time ∷ [])

-- how many inputs a group has, by the number drawn for it: one to three
unfoldable pub group_size : ℕ → ℕ
group_size x = 1 + chooser x % 3

-- the group after a number: one more is drawn for its size, and one for each input; its frame ends it
unfoldable pub drawn_group : ℕ → ℕ → List Raw
drawn_group time x = drawn_inputs (group_size (drawn x)) (drawn x) ++ (frame_at time ∷ [])

-- the number after that group
unfoldable pub after_group : ℕ → ℕ
after_group x = after_draws (group_size (drawn x)) (drawn x)

-- so many groups, from a time and a number on
unfoldable pub groups_from : ℕ → ℕ → ℕ → List Raw
groups_from zero time x = []
groups_from (suc n) time x = drawn_group time x ++ groups_from n (time + 1) (after_group x)

-- ---- the stream

-- the end
unfoldable pub disconnect_message : Raw
disconnect_message = requested known.Connection (codes "disconnect") connection_id []

-- all messages: what is said before the groups, the groups of the times from 1 on, and the end
unfoldable pub generated_messages : ℕ → ℕ → List Raw
generated_messages groups start = opening ++ (groups_from groups 1 start ++ (disconnect_message ∷ []))

-- piece k of some bytes, from 0 on: so many bytes, or what is left of them
abbrev pub piece_at : ℕ → List ℕ → ℕ → Piece
piece_at size bytes k = record { bytes = take size (drop (size * k) bytes); handles = [] }

-- bytes cut into pieces of so many, the last of which may be shorter
unfoldable pub cut : ℕ → List ℕ → List Piece
cut size bytes = map (piece_at size bytes) (range_with_len 0 (div_ceil (length bytes) size))

-- the bytes of all messages
abbrev pub generated_bytes : ℕ → ℕ → List ℕ
generated_bytes groups start = all_bytes (generated_messages groups start)

-- the stream, in pieces of 4096 bytes
abbrev pub generated : ℕ → ℕ → List Piece
generated groups start = cut 4096 (generated_bytes groups start)

-- the setup that it is served with: an initial serial of 1, the capabilities that the client knows, and any number of pieces
abbrev pub demo_setup : Setup
demo_setup = record { serial = 1; capabilities = 127; pieces = 4294967295 }
