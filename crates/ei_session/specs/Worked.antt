-- Streams of clients, byte by byte, and what the server answers them.
use Rattle.std.specs.Prelude.{ℕ, List, [], ◌∷◌, ◌++◌, map, replicate, take, drop, codes}
use Rattle.std.specs.List.{flat_map}
use Rattle.ei_spec.specs.Message.{le4, le8, header, all_bytes}
use Rattle.ei_spec.specs.declared.handle.Handle.{Handle}
use Rattle.ei_spec.specs.Piece.{Piece}
use Rattle.ei_session.specs.Setup.{Setup, connection_id, seat_id}
use Rattle.ei_session.specs.Requests.{Request, framed}
use Rattle.ei_session.specs.Events.{replies}
use Rattle.ei_session.specs.Served.{Answer, session}

-- a serial of 5, at most 200 pieces, and a seat of these capabilities
abbrev pub with_capabilities : ℕ → Setup
with_capabilities capabilities = record { serial = 5; capabilities = capabilities; pieces = 200 }

-- a seat of buttons
abbrev pub buttons : Setup
buttons = with_capabilities 32

-- the parts, one after another
abbrev pub parts : List (List ℕ) → List ℕ
parts lists = flat_map (λ bytes. bytes) lists

-- a piece of these bytes alone
abbrev pub piece : List ℕ → Piece
piece bytes = record { bytes = bytes; handles = [] }

-- each byte a piece
abbrev pub single_bytes : List ℕ → List Piece
single_bytes bytes = map (λ b. piece (b ∷ [])) bytes

-- the same, where 64 handles come with each of the first 65
abbrev pub laden_bytes : Handle → List ℕ → List Piece
laden_bytes h bytes = map (λ b. record { bytes = b ∷ []; handles = replicate 64 h }) (take 65 bytes) ++ single_bytes (drop 65 bytes)

-- what a session over the parts, each a piece, answers
abbrev pub answer : Setup → List (List ℕ) → Answer
answer setup lists = (session setup (map piece lists)).answer

-- the requests that it hands out
abbrev pub requests : Setup → List ℕ → List (List ℕ) → List Request
requests setup readings lists = framed setup readings (session setup (map piece lists)).handled

-- the bytes that it replies
abbrev pub reply_bytes : Setup → List (List ℕ) → List ℕ
reply_bytes setup lists = all_bytes (replies setup (session setup (map piece lists)).handled)

-- the padding of a text that ends a word
abbrev pub one_zero : List ℕ
one_zero = 0 ∷ []

abbrev pub three_zeros : List ℕ
three_zeros = 0 ∷ 0 ∷ 0 ∷ []

-- ---- before the connection

-- announcements of the three required interfaces, with opcode 4 of the client, and 1 of the server
abbrev pub three_announced : ℕ → List ℕ
three_announced opcode = parts
    (header 0 40 opcode ∷ le4 14 ∷ codes "ei_connection" ∷ three_zeros ∷ le4 1
    ∷ header 0 36 opcode ∷ le4 12 ∷ codes "ei_callback" ∷ one_zero ∷ le4 1
    ∷ header 0 36 opcode ∷ le4 12 ∷ codes "ei_pingpong" ∷ one_zero ∷ le4 1
    ∷ [])

-- the announcement of touchscreens of version 2
abbrev pub touchscreen_announced : List ℕ
touchscreen_announced = parts (header 0 40 4 ∷ le4 15 ∷ codes "ei_touchscreen" ∷ (0 ∷ 0 ∷ []) ∷ le4 2 ∷ [])

-- the end of a client's handshake
abbrev pub finish : List ℕ
finish = header 0 16 1

-- a whole handshake
abbrev pub shaken : List ℕ
shaken = three_announced 4 ++ finish

-- the first event
abbrev pub greeted : List ℕ
greeted = header 0 20 0 ++ le4 1

-- the events that answer such a handshake, with the serial
abbrev pub connected_with : ℕ → List ℕ
connected_with serial = parts
    (greeted ∷ three_announced 1
    ∷ header 0 32 2 ∷ le4 serial ∷ le8 connection_id ∷ le4 1
    ∷ header connection_id 28 1 ∷ le8 seat_id ∷ le4 1
    ∷ header seat_id 16 3
    ∷ [])

-- ---- after it

abbrev pub disconnect : List ℕ
disconnect = header connection_id 16 1

abbrev pub sync : ℕ → ℕ → List ℕ
sync callback version = parts (header connection_id 28 0 ∷ le8 callback ∷ le4 version ∷ [])

abbrev pub called : ℕ → List ℕ
called callback = parts (header callback 24 0 ∷ le8 0 ∷ [])

abbrev pub bind : ℕ → List ℕ
bind mask = parts (header seat_id 24 1 ∷ le8 mask ∷ [])

-- the first device, and its first interface
abbrev pub device_id : ℕ
device_id = 0xff00000000000002

abbrev pub interface_id : ℕ
interface_id = 0xff00000000000003

-- the events of a device of a button, up to its serial
abbrev pub device_of_button : List ℕ
device_of_button = parts
    (header seat_id 28 4 ∷ le8 device_id ∷ le4 1
    ∷ header device_id 20 2 ∷ le4 1
    ∷ header device_id 44 5 ∷ le8 interface_id ∷ le4 10 ∷ codes "ei_button" ∷ three_zeros ∷ le4 1
    ∷ header device_id 16 6
    ∷ [])

abbrev pub resumed : ℕ → List ℕ
resumed serial = header device_id 20 7 ++ le4 serial

abbrev pub press : List ℕ
press = parts (header interface_id 24 1 ∷ le4 272 ∷ le4 1 ∷ [])

abbrev pub frame : ℕ → ℕ → List ℕ
frame serial time = parts (header device_id 28 3 ∷ le4 serial ∷ le8 time ∷ [])

abbrev pub ready : List ℕ
ready = header device_id 16 4

abbrev pub release : ℕ → List ℕ
release id = header id 16 0

abbrev pub destroyed : ℕ → ℕ → List ℕ
destroyed id serial = header id 20 0 ++ le4 serial

abbrev pub invalid_object : ℕ → ℕ → List ℕ
invalid_object serial id = parts (header connection_id 28 2 ∷ le4 serial ∷ le8 id ∷ [])

-- touches of the first touchscreen
abbrev pub touch_down : ℕ → List ℕ
touch_down touch = parts (header interface_id 28 1 ∷ le4 touch ∷ le4 0 ∷ le4 0 ∷ [])

abbrev pub touch_motion : ℕ → List ℕ
touch_motion touch = parts (header interface_id 28 2 ∷ le4 touch ∷ le4 0 ∷ le4 0 ∷ [])

abbrev pub touch_up : ℕ → List ℕ
touch_up touch = header interface_id 20 3 ++ le4 touch

abbrev pub touch_cancel : ℕ → List ℕ
touch_cancel touch = header interface_id 20 4 ++ le4 touch

-- the touches 0 to 15 go down
abbrev pub sixteen_down : List ℕ
sixteen_down = flat_map touch_down (0 ∷ 1 ∷ 2 ∷ 3 ∷ 4 ∷ 5 ∷ 6 ∷ 7 ∷ 8 ∷ 9 ∷ 10 ∷ 11 ∷ 12 ∷ 13 ∷ 14 ∷ 15 ∷ [])

-- a text of n letters
abbrev pub letters : ℕ → List ℕ
letters n = replicate n 97

-- the texts of 254 letters, of 255 and of none, to the first interface
abbrev pub longest_text : List ℕ
longest_text = parts (header interface_id 276 2 ∷ le4 255 ∷ letters 254 ∷ (0 ∷ 0 ∷ []) ∷ [])

abbrev pub too_long_text : List ℕ
too_long_text = parts (header interface_id 276 2 ∷ le4 256 ∷ letters 255 ∷ one_zero ∷ [])

abbrev pub empty_text : List ℕ
empty_text = parts (header interface_id 24 2 ∷ le4 1 ∷ one_zero ∷ three_zeros ∷ [])
