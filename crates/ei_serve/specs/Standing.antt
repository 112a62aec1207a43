-- What a session stands for: the pieces that it took.
use Rattle.std.specs.Prelude.{◌≡◌, ℕ, ◌≤◌, ◌<◌, ◌^◌, ◌⊎◌, true, false, List, [], length, Option, Some, None, is_some, unwrap_or, codes}
use Rattle.std.specs.Option.{option_map}
use Rattle.ei_spec.specs.declared.handle.Handle.{Handle}
use Rattle.ei_spec.specs.declared.interface.KnownInterface.TheVariants as known
use Rattle.ei_spec.specs.Interface.{Known, ObjectView}
use Rattle.ei_spec.specs.Message.{Raw}
use Rattle.ei_spec.specs.Piece.{Piece, stream, handle_count}
use Rattle.ei_spec.specs.Stream.{Waiting}
use Rattle.ei_types.specs.Capability.{bits_of, all_bits}
use Rattle.ei_types.specs.declared.capability.DeviceCapabilities.{DeviceCapabilities}
use Rattle.ei_session.specs.Setup.{Setup}
use Rattle.ei_session.specs.Handshake.{connected}
use Rattle.ei_session.specs.SettledMap.{settled_map}
use Rattle.ei_session.specs.Refusals.{came}
use Rattle.ei_session.specs.Served.{reading_of, accepted, is_over}
use Rattle.ei_backend.specs.Table.{TableView, new_table, first_server_id, own, with_own, without}
use Rattle.ei_backend.specs.Endpoint.{Endpoint, endpoint_of}
use Rattle.ei_backend.specs.Backend.{BackendView, new_backend}
use Rattle.ei_handshake.specs.Handshaker.{HandshakerView}
use Rattle.ei_request.specs.Connection.{ConnectionView}
use Rattle.ei_request.specs.Converter.{ConverterView}
use Rattle.ei_standing.specs.Standing.{IsHeld, was_named}
use Rattle.ei_spec.specs.declared.limits.TheConstants.{MOST_MESSAGE_BYTES}
use Rattle.ei_serve.specs.declared.phase.Phase.{Phase}
use Rattle.ei_serve.specs.declared.phase.Phase.TheVariants as phase
use Rattle.ei_serve.specs.declared.session.Setup.{Setup as Started}
use Rattle.ei_serve.specs.declared.state.SessionState.{SessionState}
use Rattle.ei_serve.specs.declared.state.Terms.{Terms}

-- the setup as the definitions see it
abbrev pub setup_of : Started → Setup
setup_of s = record { serial = s.initial_serial; capabilities = bits_of s.capabilities; pieces = s.pieces }

-- a setup with no limit that a client could come to: 18446744073709551615 pieces
abbrev pub unlimited : ℕ → DeviceCapabilities → Setup
unlimited serial capabilities = record { serial = serial; capabilities = bits_of capabilities; pieces = 18446744073709551615 }

-- what a session keeps of its setup, as the definitions see it
abbrev pub terms_of : Terms → Setup
terms_of s = record { serial = s.initial_serial; capabilities = bits_of s.capabilities; pieces = s.pieces }

-- ---- the objects

-- object 0 alone
abbrev pub handshake_table : TableView
handshake_table = new_table false first_server_id

-- the connection, which stands in object 0's place
abbrev pub connection_object : ObjectView
connection_object = own handshake_table (Known known.Connection) 1

abbrev pub connection_table : TableView
connection_table = without (with_own handshake_table (Known known.Connection) 1) 0

-- the connection and its seat
abbrev pub seat_table : ℕ → TableView
seat_table v = with_own connection_table (Known known.Seat) v

-- ---- the phases

-- the most bytes that the ring of unread ones holds
abbrev pub most_capacity : ℕ
most_capacity = 2097152

-- an open endpoint over these objects that has nothing to send
abbrev pub quiet : TableView → List ℕ → List Handle → Endpoint
quiet table unread handles = record (endpoint_of (new_backend table)) { unread = unread; handles = handles }

-- after these messages, with these bytes and handles unread, it shakes hands
pub record ShakesHands (setup : Setup) (past : List Raw) (rest : List ℕ) (handles : List Handle) (b : BackendView) (h : HandshakerView) : Type 0 where
  pub unfinished : connected past ≡ false
  pub lawful : setup.capabilities ≤ all_bits
  pub in_range : setup.serial < 2 ^ 32
  pub ring : b.capacity ≤ most_capacity
  pub endpoint : endpoint_of b ≡ quiet handshake_table rest handles
  pub serial : h.serial ≡ setup.serial
  pub versions : h.versions ≡ settled_map past
  pub name : is_some h.name ≡ came (codes "name") past
  pub context_type : is_some h.context_type ≡ came (codes "context_type") past

-- or the connection stands: it holds what these messages left, with these readings, and nothing is queued or waits to be sent
pub record IsConnected (setup : Setup) (past : List Raw) (times rest : List ℕ) (handles : List Handle) (c : ConverterView) : Type 0 where
  pub held : IsHeld setup past times c
  pub ring : c.handle.ctx.capacity ≤ most_capacity
  pub unread : c.handle.ctx.unread ≡ rest
  pub unread_handles : c.handle.ctx.handles ≡ handles
  pub unsent : c.handle.ctx.unsent ≡ []
  pub queue : c.queue ≡ []

-- before the connection no reading is used
abbrev pub StandsAt : Setup → List Raw → List ℕ → List ℕ → List Handle → Phase → Type 0
StandsAt setup past times rest handles (phase.Handshake b h) = (times ≡ []) × ShakesHands setup past rest handles b h
StandsAt setup past times rest handles (phase.Connected c) = IsConnected setup past times rest handles c
StandsAt setup past times rest handles phase.Over = ⊥

-- the connection of a phase, where it stands
abbrev pub connection_in : Phase → Option ConnectionView
connection_in (phase.Connected c) = Some c.handle
connection_in p = None

-- the endpoint of a phase; over, it has none
abbrev pub context_in : Phase → Option BackendView
context_in (phase.Handshake b h) = Some b
context_in (phase.Connected c) = Some c.handle.ctx
context_in phase.Over = None

-- so many bytes of it, and none where there is none
abbrev pub counted_in : (BackendView → ℕ) → Phase → ℕ
counted_in count p = unwrap_or (option_map count (context_in p)) 0

-- how many bytes of a phase are not read, how many wait to be sent, and how many its ring of unread ones holds
abbrev pub unread_in : Phase → ℕ
unread_in p = counted_in (λ b. length b.unread) p

abbrev pub unsent_in : Phase → ℕ
unsent_in p = counted_in (λ b. length b.unsent) p

abbrev pub capacity_in : Phase → ℕ
capacity_in p = counted_in (λ b. b.capacity) p

-- whether a phase is that of the handshake
abbrev pub IsShaking : Phase → Type 0
IsShaking (phase.Handshake b h) = Unit {0}
IsShaking p = ⊥

-- whether a phase's endpoint is open; over, it has none
abbrev pub IsOpenIn : Phase → Type 0
IsOpenIn (phase.Handshake b h) = b.closed ≡ false
IsOpenIn (phase.Connected c) = c.handle.ctx.closed ≡ false
IsOpenIn phase.Over = ⊥

-- an open endpoint that has nothing to send, with fewer bytes unread than the longest message has
pub record HoldsFewBytes (b : BackendView) : Type 0 where
  pub opened : b.closed ≡ false
  pub unsent : b.unsent ≡ []
  pub unread : length b.unread < MOST_MESSAGE_BYTES
  pub ring : b.capacity ≤ most_capacity

-- the same of a phase's endpoint; over, it has none
abbrev pub HoldsFewBytesIn : Phase → Type 0
HoldsFewBytesIn (phase.Handshake b h) = HoldsFewBytes b
HoldsFewBytesIn (phase.Connected c) = HoldsFewBytes c.handle.ctx
HoldsFewBytesIn phase.Over = Unit {0}

-- ---- the session

-- The session was started with the setup, took these pieces and used these readings, and goes on: it handled the
-- messages of their stream, and what follows them is unread.
pub record Stands (setup : Setup) (pieces : List Piece) (times : List ℕ) (s : SessionState) : Type 0 where
  pub started : terms_of s.start.terms ≡ setup
  pub goes_on : (k : ℕ) → 1 ≤ k → k ≤ length pieces → is_over setup pieces k ≡ false
  pub waits : (reading_of setup (stream pieces)).stop ≡ Waiting
  pub unread : List Handle
  pub phase : StandsAt setup (accepted setup (stream pieces)) times (reading_of setup (stream pieces)).rest unread s.phase
  pub handles : length unread ≡ handle_count pieces
  pub taken : s.taken ≡ length pieces

-- whether an answer other than `GoOn` came
abbrev pub IsOver : SessionState → Type 0
IsOver s = s.phase ≡ phase.Over

-- it stands for some pieces that it took, with some setup and some readings
pub record StandsForSome (s : SessionState) : Type 0 where
  pub setup : Setup
  pub pieces : List Piece
  pub times : List ℕ
  pub stands : Stands setup pieces times s

-- what every session is between its turns: over, or one that stands for the pieces that it took
abbrev pub IsSession : SessionState → Type 0
IsSession s = IsOver s ⊎ StandsForSome s

-- the connection, where it stands
abbrev pub connection_of : SessionState → Option ConnectionView
connection_of s = connection_in s.phase

-- the connection stands exactly where a finish came, and then has a name exactly where the client told one before that
abbrev pub IsClientAfter : List Raw → Option ConnectionView → Type 0
IsClientAfter past None = connected past ≡ false
IsClientAfter past (Some c) = (connected past ≡ true) × (is_some c.name ≡ was_named past)

-- how many bytes of it wait for the sink, and how many it can hold that aren't read
abbrev pub unsent_of : SessionState → ℕ
unsent_of s = unsent_in s.phase

abbrev pub capacity_of : SessionState → ℕ
capacity_of s = capacity_in s.phase

-- where it isn't over, its endpoint is open, has nothing to send, and holds few bytes
abbrev pub HoldsLittle : SessionState → Type 0
HoldsLittle s = HoldsFewBytesIn s.phase
