-- What each number that a call answers says.
use Rattle.std.specs.Prelude.{ℕ}

-- it did what it is for
abbrev pub OK : ℕ
OK = 0

-- there is no session
abbrev pub NO_SESSION : ℕ
NO_SESSION = 1

-- there is one already
abbrev pub HAS_SESSION : ℕ
HAS_SESSION = 2

-- a bit of the capabilities stands for none
abbrev pub CAPABILITIES : ℕ
CAPABILITIES = 3

-- memory ran out
abbrev pub NO_MEMORY : ℕ
NO_MEMORY = 4

-- the session has ended
abbrev pub OVER : ℕ
OVER = 5

-- the piece has no byte
abbrev pub EMPTY : ℕ
EMPTY = 6

-- it has too many bytes
abbrev pub TOO_LONG : ℕ
TOO_LONG = 7

-- it has too many handles
abbrev pub TOO_MANY_HANDLES : ℕ
TOO_MANY_HANDLES = 8

-- there is nothing of what was asked for
abbrev pub NOTHING : ℕ
NOTHING = 9

-- the text is longer than the room
abbrev pub NO_ROOM : ℕ
NO_ROOM = 10

-- so many bytes or handles don't wait
abbrev pub NOT_UNSENT : ℕ
NOT_UNSENT = 11

-- the handshake isn't done
abbrev pub NOT_CONNECTED : ℕ
NOT_CONNECTED = 13

-- there is no such seat or device
abbrev pub GONE : ℕ
GONE = 14

-- the client isn't a receiver
abbrev pub WRONG_ROLE : ℕ
WRONG_ROLE = 15

-- a keymap for a device without a keyboard
abbrev pub NO_KEYBOARD : ℕ
NO_KEYBOARD = 16

-- a text is too long for a message
abbrev pub MESSAGE_TOO_LONG : ℕ
MESSAGE_TOO_LONG = 17

-- too few ids are left
abbrev pub IDS_EXHAUSTED : ℕ
IDS_EXHAUSTED = 18

-- a number or a text that stands for nothing
abbrev pub INVALID : ℕ
INVALID = 19

-- the flag of a connection that hands out what libeis would
abbrev pub STRICT : ℕ
STRICT = 1

-- so many pieces are no limit
abbrev pub NO_LIMIT : ℕ
NO_LIMIT = 4294967295
