-- Raw messages, and how they lie on a stream.
use Rattle.std.specs.Prelude.{ℕ, ◌+◌, ◌-◌, ◌<◌, ◌≤◌, ◌^◌, List, ◌++◌, length, take, drop, nat_lt, if◌then◌else◌, slice_index}
use Rattle.std.specs.Int.{w32, w64, to_le_bytes, from_le_bytes}
use Rattle.std.specs.List.{flat_map}
use Rattle.ei_spec.specs.Value.{Value, written}
use Rattle.ei_spec.specs.declared.limits.TheConstants.{MOST_MESSAGE_BYTES}

-- ---- numbers, the least byte first

unfoldable pub le4 : ℕ → List ℕ
le4 n = to_le_bytes w32 n

unfoldable pub le8 : ℕ → List ℕ
le8 n = to_le_bytes w64 n

unfoldable pub of_le4 : List ℕ → ℕ
of_le4 bytes = from_le_bytes w32 bytes

unfoldable pub of_le8 : List ℕ → ℕ
of_le8 bytes = from_le_bytes w64 bytes

-- ---- messages

pub record Raw : Type 0 where
  pub id : ℕ
  pub opcode : ℕ
  pub body : List ℕ

-- the length that the header says: its own 16 bytes, and the body
abbrev pub size : Raw → ℕ
size m = 16 + length m.body

pub record IsLawful (m : Raw) : Type 0 where
  pub id : m.id < 2 ^ 64
  pub opcode : m.opcode < 2 ^ 32
  pub size : size m ≤ MOST_MESSAGE_BYTES

-- the header: the target, the length and the opcode
unfoldable pub header : ℕ → ℕ → ℕ → List ℕ
header id len opcode = le8 id ++ (le4 len ++ le4 opcode)

unfoldable pub bytes_of : Raw → List ℕ
bytes_of m = header m.id (size m) m.opcode ++ m.body

-- the message of these arguments
abbrev pub message : ℕ → ℕ → List Value → Raw
message id opcode values = record { id = id; opcode = opcode; body = flat_map written values }

-- the bytes of messages, of which the first stands first
abbrev pub all_bytes : List Raw → List ℕ
all_bytes messages = flat_map bytes_of messages

-- ---- what stands at the front of some bytes

abbrev pub IsBytes : List ℕ → Type 0
IsBytes bytes = (i : ℕ) → slice_index bytes i < 256

pub data Front : Type 0 where
  -- no whole message
  Short : Front
  -- a header whose length is unlawful
  Unlawful : (size : ℕ) → Front
  -- a message, and the bytes behind it
  Whole : (m : Raw) → (rest : List ℕ) → Front

abbrev pub size_at : List ℕ → ℕ
size_at bytes = of_le4 (take 4 (drop 8 bytes))

abbrev pub message_at : ℕ → List ℕ → Raw
message_at n bytes = record { id = of_le8 (take 8 bytes); opcode = of_le4 (take 4 (drop 12 bytes)); body = take (n - 16) (drop 16 bytes) }

-- the front, where the header says n bytes
abbrev pub front_of : ℕ → List ℕ → Front
front_of n bytes =
    if nat_lt n 16 then Unlawful n else
    (if nat_lt MOST_MESSAGE_BYTES n then Unlawful n else
    (if nat_lt (length bytes) n then Short else Whole (message_at n bytes) (drop n bytes)))

unfoldable pub front : List ℕ → Front
front bytes = if nat_lt (length bytes) 16 then Short else front_of (size_at bytes) bytes
