-- A message that an end sent, and what an end took off its unread bytes.
use Rattle.std.specs.Prelude.{◌≡◌, ℕ, ◌<◌, ◌≤◌, ◌^◌, Bool, true, false, List, map, Option, Some, None}
use Rattle.std.specs.List.{flat_map}
use Rattle.ei_spec.specs.declared.handle.Handle.{Handle}
use Rattle.ei_spec.specs.declared.interface.KnownInterface.{KnownInterface}
use Rattle.ei_spec.specs.Value.{Kind, Value, Fd, handles_of}
use Rattle.ei_spec.specs.Arguments.{AreOf}
use Rattle.ei_spec.specs.Interface.{Interface, Known, named}
use Rattle.ei_spec.specs.Rows.{Row, Announces, Nothing, Fixed, Named, row_at, new_id, version_of, name_in}
use Rattle.ei_spec.specs.Table.{table}
use Rattle.ei_spec.specs.Message.{Raw, message, bytes_of, size}
use Rattle.ei_spec.specs.declared.limits.TheConstants.{MOST_MESSAGE_BYTES}

-- a message: its target, with what that was announced as, the opcode and the arguments, in which a new id is a number of 64 bits
pub record Sent : Type 0 where
  pub target : ℕ
  pub interface : KnownInterface
  pub version : ℕ
  pub opcode : ℕ
  pub values : List Value

-- what an end took: a message, or the id of a target that no object had; and how many messages it had sent by then
pub data Got : Type 0 where
  Took : (message : Sent) → (after : ℕ) → Got
  Missed : (id : ℕ) → (after : ℕ) → Got

-- the other direction: of the events that of the requests; and the other end: of the client the server
abbrev pub other : Bool → Bool
other true = false
other false = true

-- ---- on the wire

-- a message as it lies on a stream
abbrev pub raw_of : Sent → Raw
raw_of m = message m.target m.opcode m.values

-- its bytes
unfoldable pub bytes_in : Sent → List ℕ
bytes_in m = bytes_of (raw_of m)

-- the handles that go beside them
abbrev pub handles_in : Sent → List Handle
handles_in m = flat_map handles_of m.values

-- the bytes of messages, of which the first stands first
abbrev pub spelled : List Sent → List ℕ
spelled ms = flat_map bytes_in ms

-- ---- by the table of messages

-- the row of a message to an object of the interface, by its opcode
unfoldable pub row_of : Bool → Sent → Option Row
row_of events m = row_at m.opcode (table events m.interface)

-- an object as it is announced
pub record New : Type 0 where
  pub id : ℕ
  pub interface : Interface
  pub version : ℕ

-- the object that arguments of these kinds announce
abbrev pub new_by : Announces → List Kind → List Value → Option New
new_by Nothing kinds values = None
new_by (Fixed k) kinds values = Some (record { id = new_id kinds values; interface = Known k; version = version_of values })
new_by Named kinds values = Some (record { id = new_id kinds values; interface = named (name_in values); version = version_of values })

-- the object that arguments of the row announce
abbrev pub new_in : Option Row → List Value → Option New
new_in None values = None
new_in (Some r) values = new_by r.announces r.kinds values

-- the object that a message announces
abbrev pub new_of : Bool → Sent → Option New
new_of events m = new_in (row_of events m) m.values

-- whether the row is a destructor
abbrev pub ends_target : Option Row → Bool
ends_target None = false
ends_target (Some r) = r.destroys

-- whether a message destroys its target
abbrev pub destroys : Bool → Sent → Bool
destroys events m = ends_target (row_of events m)

-- a message that may be sent: it is of a row, and isn't too long
pub record IsCall (events : Bool) (m : Sent) (r : Row) : Type 0 where
  pub row : row_of events m ≡ Some r
  pub kinds : AreOf r.kinds m.values
  pub target : m.target < 2 ^ 64
  pub opcode : m.opcode < 2 ^ 32
  pub short : size (raw_of m) ≤ MOST_MESSAGE_BYTES

-- ---- alike but for handles

-- a value, where it isn't a handle
abbrev pub bare : Value → Option Value
bare (Fd h) = None
bare v = Some v

-- the same message, with any handles in the places of its handles
pub record IsAlike (m r : Sent) : Type 0 where
  pub target : r.target ≡ m.target
  pub interface : r.interface ≡ m.interface
  pub version : r.version ≡ m.version
  pub opcode : r.opcode ≡ m.opcode
  pub values : map bare r.values ≡ map bare m.values
