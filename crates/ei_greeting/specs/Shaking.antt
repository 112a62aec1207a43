-- The events of a handshake, as a client reads and answers them.
use Rattle.std.specs.Prelude.{ℕ, Bool, true, false, List, [], ◌∷◌, ◌++◌, map, Option, Some, None, Result, Ok, Err, nat_lt, codes, if◌then◌else◌}
use Rattle.std.specs.Ordering.{nat_cmp}
use Rattle.std.specs.Cmp.Lexicographic.{slice_cmp}
use Rattle.std.specs.FinMap as finite
use Rattle.ei_spec.specs.declared.interface.KnownInterface.{KnownInterface}
use Rattle.ei_spec.specs.declared.interface.KnownInterface.TheVariants as known
use Rattle.ei_spec.specs.declared.handle.Handle.{Handle}
use Rattle.ei_spec.specs.declared.limits.TheConstants.{MOST_MESSAGE_BYTES}
use Rattle.ei_spec.specs.Value.{Value, Word, Long, Letters}
use Rattle.ei_spec.specs.FromValues.{first, whatever}
use Rattle.ei_spec.specs.Interface.{Interface, Known, Other, ObjectView, name_of, server_version, the_settled}
use Rattle.ei_spec.specs.Rows.{Row, row_named}
use Rattle.ei_spec.specs.Table.{table}
use Rattle.ei_spec.specs.Message.{Raw, message, size}
use Rattle.ei_spec.specs.Reading.{Fault}
use Rattle.ei_spec.specs.Stream.{Verdict, Accepted, Final, Refused}
use Rattle.ei_types.specs.declared.enums.ContextType.{ContextType}
use Rattle.ei_types.specs.Enums.{context_type_number}
use Rattle.ei_types.specs.declared.error.HandshakeError.{HandshakeError}
use Rattle.ei_types.specs.declared.error.HandshakeError.TheVariants as handshake
use Rattle.ei_backend.specs.Backend.{BackendView, BodyOutcome, body_read}
use Rattle.ei_reported.specs.Event.{Event, called, opcode_by}

-- what a client tells of itself in a handshake
pub record Greeter : Type 0 where
  pub name : List ℕ
  pub kind : ContextType

-- why the handshake fails: what can't be read, what isn't of the handshake, or a name that is too long
pub data Trouble : Type 0 where
  Parse : (fault : Fault) → Trouble
  Handshake : (error : HandshakeError) → Trouble
  MessageTooLong : Trouble

-- ---- what an event says

-- an event of the handshake: the server begins, it tells the version of an interface, it hands the connection over
pub data Shake : Type 0 where
  Begins : Shake
  Tells : (name : List ℕ) → (version : ℕ) → Shake
  Connects : (serial id version : ℕ) → Shake

abbrev pub tells : Option (List Value) → Option Shake
tells (Some (Letters name ∷ Word version ∷ [])) = Some (Tells name version)
tells values = None

abbrev pub connects : Option (List Value) → Option Shake
connects (Some (Word serial ∷ Long id ∷ Word version ∷ [])) = Some (Connects serial id version)
connects values = None

-- what it says, by its name in the table of all messages
abbrev pub shake_by : Event → Option Shake
shake_by e = first
    (whatever Begins (called e (codes "handshake_version"))
    ∷ tells (called e (codes "interface_version"))
    ∷ connects (called e (codes "connection"))
    ∷ [])

-- what an event with these arguments says, where its target is an object of the handshake
abbrev pub shake_of : Interface → ℕ → List Value → Option Shake
shake_of (Known known.Handshake) opcode values = shake_by (record { target = 0; interface = known.Handshake; opcode = opcode; values = values })
shake_of (Known interface) opcode values = None
shake_of (Other name) opcode values = None

-- ---- what answers it

-- the request of that name to the handshake's object
abbrev pub asking : ℕ → List ℕ → List Value → Raw
asking id name values = message id (opcode_by (row_named name (table false known.Handshake))) values

-- the client's name
abbrev pub naming : ℕ → List ℕ → Raw
naming id name = asking id (codes "name") (Letters name ∷ [])

-- the announcement of an interface
abbrev pub announcing : ℕ → KnownInterface → Raw
announcing id interface = asking id (codes "interface_version") (Letters (name_of interface) ∷ Word (server_version interface) ∷ [])

-- what a client sends where the server begins: its version, its name, what it is, the interfaces, and the end
unfoldable pub greeting : Greeter → ℕ → List Raw
greeting g id =
    (asking id (codes "handshake_version") (Word 1 ∷ [])
    ∷ naming id g.name
    ∷ asking id (codes "context_type") (Word (context_type_number g.kind) ∷ [])
    ∷ map (announcing id) the_settled)
    ++ asking id (codes "finish") [] ∷ []

-- whether the name makes its message too long, which no message may be
abbrev pub is_long : Greeter → ℕ → Bool
is_long g id = nat_lt MOST_MESSAGE_BYTES (size (naming id g.name))

-- ---- what becomes of it

-- an event of the handshake: the server begins, and is answered, unless the name is too long; the connection is the last
abbrev pub judged : Bool → Option Shake → Verdict Trouble
judged long None = Refused (Handshake handshake.NonHandshakeEvent)
judged long (Some Begins) = if long then Refused MessageTooLong else Accepted
judged long (Some (Tells name version)) = Accepted
judged long (Some (Connects serial id version)) = Final

abbrev pub judge_said : Greeter → ObjectView → ℕ → Result (List Value) Fault → Verdict Trouble
judge_said g target opcode (Err fault) = Refused (Parse fault)
judge_said g target opcode (Ok values) = judged (is_long g target.id) (shake_of target.interface opcode values)

-- the object of each id
abbrev pub Objects : Type 0
Objects = ℕ → Option ObjectView

-- what its body says to its target
abbrev pub outcome_to : BackendView → Raw → ObjectView → BodyOutcome
outcome_to b m target = body_read true target m.opcode m.body b.handles b.table

abbrev pub judge_to : Greeter → BackendView → Raw → Option ObjectView → Verdict Trouble
judge_to g b m None = Refused (Handshake (handshake.InvalidObject m.id))
judge_to g b m (Some target) = judge_said g target m.opcode (outcome_to b m target).said

-- What becomes of a message, where the endpoint has these objects. No event of the handshake before the last changes them or
-- takes a handle, so it is judged by what the endpoint has.
unfoldable pub judge : Greeter → Objects → BackendView → List Raw → Raw → Verdict Trouble
judge g objects b before m = judge_to g b m (objects m.id)

-- ---- what was told

abbrev pub said_ok : ObjectView → ℕ → Result (List Value) Fault → Option Shake
said_ok target opcode (Err fault) = None
said_ok target opcode (Ok values) = shake_of target.interface opcode values

abbrev pub shake_to : BackendView → Raw → Option ObjectView → Option Shake
shake_to b m None = None
shake_to b m (Some target) = said_ok target m.opcode (outcome_to b m target).said

-- what a message says, where it is an event of the handshake
unfoldable pub shake : Objects → BackendView → Raw → Option Shake
shake objects b m = shake_to b m (objects m.id)

abbrev pub VersionMap : Type 0
VersionMap = finite.FinMap (slice_cmp nat_cmp) ℕ

-- a version more; the last one of a name counts, and any name is kept
abbrev pub with_version : VersionMap → Option Shake → VersionMap
with_version versions (Some (Tells name version)) = finite.insert versions name version
with_version versions said = versions

-- the versions that were told, the newest message first
unfoldable pub versions_told : Objects → BackendView → List Raw → VersionMap
versions_told objects b [] = finite.empty
versions_told objects b (m ∷ before) = with_version (versions_told objects b before) (shake objects b m)

-- what answers an event to that object
abbrev pub answer_to : Greeter → Option ObjectView → Option Shake → List Raw
answer_to g (Some target) (Some Begins) = greeting g target.id
answer_to g target said = []

-- what the client sends, the oldest first
unfoldable pub answers : Greeter → Objects → BackendView → List Raw → List Raw
answers g objects b [] = []
answers g objects b (m ∷ before) = answers g objects b before ++ answer_to g (objects m.id) (shake objects b m)
