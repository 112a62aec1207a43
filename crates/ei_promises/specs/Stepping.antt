-- What a step of a side does: it takes a message, and hands it to that side's handshaker or converter.
use Rattle.std.specs.Prelude.{◌≡◌, ℕ, Bool, true, false, List, [], ◌∷◌, Option, Some, None, ◌⊎◌, Result, Ok, Err, codes}
use Rattle.ei_spec.specs.declared.interface.KnownInterface.TheVariants as known
use Rattle.ei_spec.specs.Interface.{ObjectView}
use Rattle.ei_spec.specs.Rows.{row_named}
use Rattle.ei_spec.specs.Table.{table}
use Rattle.ei_spec.specs.Value.{Long}
use Rattle.ei_types.specs.declared.error.Error.{Error}
use Rattle.ei_types.specs.declared.error.Error.TheVariants as error
use Rattle.ei_types.specs.declared.error.HandshakeError.TheVariants as handshake_error
use Rattle.ei_backend.specs.Backend.{BackendView, Answers, next}
use Rattle.ei_backend.specs.declared.message.PendingRequestResult.{PendingRequestResult}
use Rattle.ei_backend.specs.declared.message.PendingRequestResult.TheVariants as pending
use Rattle.ei_client.specs.declared.event.Event.{Event}
use Rattle.ei_client.specs.Event.{target_of as event_target, opcode_of as event_code, values_of as event_values}
use Rattle.ei_client.specs.declared.handshake.Event.TheVariants as told
use Rattle.ei_client.specs.declared.event.Event.TheVariants as event
use Rattle.ei_server.specs.declared.request.Request.{Request}
use Rattle.ei_server.specs.Request.{target_of as request_target, opcode_of as request_code, values_of as request_values}
use Rattle.ei_ends.specs.Sent.{Sent}
use Rattle.ei_reported.specs.Event.{opcode_by}
use Rattle.ei_linked.specs.declared.side.Side.TheVariants as side
use Rattle.ei_linked.specs.TwoEnds.{WorldView, with_end, read_world}
use Rattle.ei_handshake.specs.declared.client.HandshakeResp.{HandshakeResp}
use Rattle.ei_handshake.specs.declared.server.EisHandshakeResp.{EisHandshakeResp}
use Rattle.ei_handshake.specs.Client.{ClientView, HandlesEvent}
use Rattle.ei_handshake.specs.Handshaker.{HandshakerView}
use Rattle.ei_handshake.specs.Handshaker as handshaker
use Rattle.ei_shaking.specs.Messages.{settled_by, version_events, asked_by}
use Rattle.ei_event.specs.Typed.{IsLawfulReason}
use Rattle.ei_event.specs.Connection.{connected}
use Rattle.ei_event.specs.Converter.{ConverterView as ClientConverter, new_converter, answered, ping_in, callback_in, Receives, without_called}
use Rattle.ei_event.specs.Handles.{Handles as HandlesTold}
use Rattle.ei_request.specs.Connection.{new_connection}
use Rattle.ei_request.specs.Converter.{ConverterView as ServerConverter}
use Rattle.ei_request.specs.Handling.{Handles as HandlesAsked}
use Rattle.ei_request.specs.Typed.{meaning_of}
use Rattle.ei_acts.specs.Acts.{answers}
use Rattle.ei_promises.specs.Pair.{ClientStage, Asks, Follows, ServerStage, Shakes, Serves, PairView, with_ends, having_sent_all, receipts_in, maps_in}

-- ---- what is read

-- the client was answered what its endpoint reads next
abbrev pub ReadsEvent : Option (PendingRequestResult Event) → WorldView → WorldView → Type 0
ReadsEvent answer old new = Answers event_target event_code event_values answer new.client.backend (next true old.client.backend)

-- the server was
abbrev pub ReadsRequest : Option (PendingRequestResult Request) → WorldView → WorldView → Type 0
ReadsRequest answer old new = Answers request_target request_code request_values answer new.server.backend (next false old.server.backend)

-- ---- how a step ends

-- it took a message, or what its handshaker or converter answered it
abbrev pub as_step : {A : Type 0} → Result A Error → Result Bool Error
as_step (Ok a) = Ok true
as_step (Err e) = Err e

abbrev pub wants_memory : Result Bool Error → Bool
wants_memory (Err error.NoMemory) = true
wants_memory result = false

-- a flag that is set once memory was wanted
abbrev pub or_wanted : Bool → Result Bool Error → Bool
or_wanted true result = true
or_wanted false result = wants_memory result

-- ---- the server

-- what its handshaker sends: at a complete finish the versions and the connection; and the versions where a finish is refused for
-- an interface that is missing, or for want of an id
abbrev pub settled_on : Result (Option EisHandshakeResp) Error → HandshakerView → ℕ → List Sent
settled_on (Ok (Some resp)) h id = settled_by h.versions h.serial id
settled_on (Err (error.Handshake handshake_error.MissingInterface)) h id = version_events h.versions
settled_on (Err error.IdsExhausted) h id = version_events h.versions
settled_on answer h id = []

-- where it stands then: with the connection its converter is made, whose connection has the endpoint
abbrev pub server_after : Result (Option EisHandshakeResp) Error → HandshakerView → ℕ → BackendView → ServerStage
server_after (Ok (Some resp)) left serial ctx = Serves (record { handle = new_connection ctx resp serial; queue = [] })
server_after answer left serial ctx = Shakes left

-- its handshaker was handed the request, where the server had taken it
pub record IsShaken {H : Type 0} (h : HandshakerView) (r : Request) (taken : PairView H) (result : Result Bool Error) (new : PairView H) : Type 0 where
  pub answer : Result (Option EisHandshakeResp) Error
  pub left : HandshakerView
  pub ctx : BackendView
  pub handles : handshaker.Handles h taken.ends.server.backend r answer left ctx
  pub answers : result ≡ as_step answer
  pub leaves : new ≡ record taken {
    ends = with_end side.Server (having_sent_all true (settled_on answer h taken.ends.server.backend.table.next_own) ctx taken.ends.server) taken.ends;
    server = server_after answer left h.serial ctx;
    server_wanted = or_wanted taken.server_wanted result;
  }

-- what its converter sends: what answers the request, where it isn't refused
abbrev pub answered_on : Result Unit Error → ServerConverter → Request → List Sent
answered_on (Ok t) c r = answers c.handle (request_target r).id (meaning_of r)
answered_on (Err e) c r = []

-- both ends once the server's converter took the request, and is this
abbrev pub server_handed : Request → WorldView → ServerConverter → ServerConverter → WorldView
server_handed r w c left = with_end side.Server (having_sent_all true (answered_on (Ok tt) c r) left.handle.ctx w.server) w

-- its converter was handed the request: `before` and `after` are what the clock tells
pub record IsServed {H : Type 0} (c : ServerConverter) (r : Request) (before after : Option (List ℕ)) (taken : PairView H) (result : Result Bool Error)
    (new : PairView H) : Type 0 where
  pub answer : Result Unit Error
  pub left : ServerConverter
  pub handles : HandlesAsked c r before answer after left
  pub answers : result ≡ as_step answer
  pub leaves : new ≡ record taken {
    ends = with_end side.Server (having_sent_all true (answered_on answer c r) left.handle.ctx taken.ends.server) taken.ends;
    server = Serves left;
    server_wanted = or_wanted taken.server_wanted result;
  }

abbrev pub HandsRequest : {H : Type 0} → ServerStage → Request → Option (List ℕ) → Option (List ℕ) → PairView H → Result Bool Error → PairView H → Type 0
HandsRequest (Shakes h) r before after taken result new = IsShaken h r taken result new × (after ≡ before)
HandsRequest (Serves c) r before after taken result new = IsServed c r before after taken result new

-- a target that isn't there: refused while the server shakes hands, and else taken off, and nothing is sent
abbrev pub MissesRequest : {H : Type 0} → ServerStage → ℕ → PairView H → Result Bool Error → PairView H → Type 0
MissesRequest (Shakes h) id taken result new = (result ≡ Err (error.Handshake (handshake_error.InvalidObject id))) × (new ≡ taken)
MissesRequest (Serves c) id taken result new = (result ≡ Ok true) × (new ≡ taken)

-- by what the server's endpoint answered when it was asked for the next message
abbrev pub ServerSteps : {H : Type 0} → Option (PendingRequestResult Request) → Option (List ℕ) → Option (List ℕ) → PairView H → PairView H → Result Bool Error → PairView H → Type 0
ServerSteps None before after old taken result new = (result ≡ Ok false) × (new ≡ old) × (after ≡ before)
ServerSteps (Some (pending.InvalidObject id)) before after old taken result new = MissesRequest taken.server id taken result new × (after ≡ before)
ServerSteps (Some (pending.Request r)) before after old taken result new = HandsRequest taken.server r before after taken result new
ServerSteps (Some (pending.ParseError e)) before after old taken result new = ⊥

-- the pair once a side took its next message
abbrev pub server_taken : {H : Type 0} → PairView H → PairView H
server_taken p = with_ends (read_world side.Server p.ends) p

abbrev pub client_taken : {H : Type 0} → PairView H → PairView H
client_taken p = with_ends (read_world side.Client p.ends) p

-- the server took what came next, and handed it on
pub record HandsServer {H : Type 0} (old : PairView H) (before after : Option (List ℕ)) (result : Result Bool Error) (new : PairView H) : Type 0 where
  pub answer : Option (PendingRequestResult Request)
  pub reads : ReadsRequest answer old.ends (server_taken old).ends
  pub steps : ServerSteps answer before after old (server_taken old) result new

-- memory was wanted before a message was taken
pub record WantsFirst {H : Type 0} (wanting : PairView H) (before after : Option (List ℕ)) (result : Result Bool Error) (new : PairView H) : Type 0 where
  pub answers : result ≡ Err error.NoMemory
  pub unread : after ≡ before
  pub leaves : new ≡ wanting

-- a step of the server
abbrev pub StepsServer : {H : Type 0} → PairView H → Option (List ℕ) → Option (List ℕ) → Result Bool Error → PairView H → Type 0
StepsServer old before after result new = HandsServer old before after result new ⊎ WantsFirst (record old { server_wanted = true }) before after result new

-- ---- the client

-- what its handshaker sends: all that it tells of itself, where the server begins
abbrev pub asked_on : Result (Option HandshakeResp) Error → ClientView → Event → List Sent
asked_on (Ok None) h (event.Handshake target (told.HandshakeVersion version)) = asked_by h.greeter
asked_on answer h e = []

abbrev pub client_after : {H : Type 0} → Result (Option HandshakeResp) Error → ClientView → ClientStage H
client_after (Ok (Some resp)) left = Follows (new_converter (connected resp))
client_after answer left = Asks left

-- its handshaker was handed the event
pub record IsAsked {H : Type 0} (h : ClientView) (e : Event) (taken : PairView H) (result : Result Bool Error) (new : PairView H) : Type 0 where
  pub answer : Result (Option HandshakeResp) Error
  pub left : ClientView
  pub ctx : BackendView
  pub handles : HandlesEvent h taken.ends.client.backend e answer left ctx
  pub answers : result ≡ as_step answer
  pub leaves : new ≡ record taken {
    ends = with_end side.Client (having_sent_all false (asked_on answer h e) ctx taken.ends.client) taken.ends;
    client = client_after answer left;
    client_wanted = or_wanted taken.client_wanted result;
  }

-- the end of a ping
abbrev pub pong : ObjectView → Sent
pong ping = record {
  target = ping.id;
  interface = known.Pingpong;
  version = ping.version;
  opcode = opcode_by (row_named (codes "done") (table false known.Pingpong));
  values = Long 0 ∷ [];
}

-- what its converter sends: the end of a ping, where the event is taken
abbrev pub ponged : Option ObjectView → List Sent
ponged None = []
ponged (Some ping) = pong ping ∷ []

abbrev pub ponged_on : Result Unit Error → Event → List Sent
ponged_on (Ok t) e = ponged (ping_in e)
ponged_on (Err why) e = []

abbrev pub answered_on_event : Result Unit Error → Event → BackendView → BackendView
answered_on_event (Ok t) e b = answered (ping_in e) b
answered_on_event (Err why) e b = b

-- its converter was handed the event; what a handler may answer is told by `may`
pub record IsFollowed {H : Type 0} (may : H → ℕ → ℕ → Type 0) (c : ClientConverter H) (e : Event) (before after : Option (List ℕ)) (taken : PairView H)
    (result : Result Bool Error) (new : PairView H) : Type 0 where
  pub answer : Result Unit Error
  pub left : ClientConverter H
  pub handles : HandlesTold c.kept e before after answer left.kept
  pub receipts : Receives may (callback_in e) answer c.waiting c.receipts left.receipts
  pub handlers : left.waiting ≡ without_called (callback_in e) answer c.waiting
  pub answers : result ≡ as_step answer
  pub leaves : new ≡ record taken {
    ends = with_end side.Client (having_sent_all false (ponged_on answer e) (answered_on_event answer e taken.ends.client.backend) taken.ends.client) taken.ends;
    client = Follows left;
    client_wanted = or_wanted taken.client_wanted result;
  }

abbrev pub HandsEvent : {H : Type 0} → (H → ℕ → ℕ → Type 0) → ClientStage H → Event → Option (List ℕ) → Option (List ℕ) → PairView H → Result Bool Error → PairView H → Type 0
HandsEvent may (Asks h) e before after taken result new = IsAsked h e taken result new × (after ≡ before)
HandsEvent may (Follows c) e before after taken result new = IsFollowed may c e before after taken result new

abbrev pub MissesEvent : {H : Type 0} → ClientStage H → ℕ → PairView H → Result Bool Error → PairView H → Type 0
MissesEvent (Asks h) id taken result new = (result ≡ Err (error.Handshake (handshake_error.InvalidObject id))) × (new ≡ taken)
MissesEvent (Follows c) id taken result new = (result ≡ Ok true) × (new ≡ taken)

abbrev pub ClientSteps : {H : Type 0} → (H → ℕ → ℕ → Type 0) → Option (PendingRequestResult Event) → Option (List ℕ) → Option (List ℕ) → PairView H → PairView H → Result Bool Error → PairView H → Type 0
ClientSteps may None before after old taken result new = (result ≡ Ok false) × (new ≡ old) × (after ≡ before)
ClientSteps may (Some (pending.InvalidObject id)) before after old taken result new = MissesEvent taken.client id taken result new × (after ≡ before)
ClientSteps may (Some (pending.Request e)) before after old taken result new = HandsEvent may taken.client e before after taken result new
ClientSteps may (Some (pending.ParseError e)) before after old taken result new = ⊥

-- the reason that an event gives is one of the table, or another number
abbrev pub HasReason : Option (PendingRequestResult Event) → Type 0
HasReason (Some (pending.Request e)) = IsLawfulReason e
HasReason answer = Unit {0}

-- the client took what came next, and handed it on
pub record HandsClient {H : Type 0} (may : H → ℕ → ℕ → Type 0) (old : PairView H) (before after : Option (List ℕ)) (result : Result Bool Error) (new : PairView H) : Type 0 where
  pub answer : Option (PendingRequestResult Event)
  pub reason : HasReason answer
  pub reads : ReadsEvent answer old.ends (client_taken old).ends
  pub steps : ClientSteps may answer before after old (client_taken old) result new

-- a step of the client
abbrev pub StepsClient : {H : Type 0} → (H → ℕ → ℕ → Type 0) → PairView H → Option (List ℕ) → Option (List ℕ) → Result Bool Error → PairView H → Type 0
StepsClient may old before after result new = HandsClient may old before after result new ⊎ WantsFirst (record old { client_wanted = true }) before after result new

-- ---- where memory is wanted beside

-- what was taken, or what was sent for it, isn't stored for want of memory: the pair is spent, and both lists of both sides are as they
-- were. So are the maps, where both handshakes are done, and the receipts.
pub record IsSpent {H : Type 0} (old new : PairView H) : Type 0 where
  pub spent : new.ends.spent ≡ true
  pub client_sent : new.ends.client.sent ≡ old.ends.client.sent
  pub client_taken : new.ends.client.taken ≡ old.ends.client.taken
  pub server_sent : new.ends.server.sent ≡ old.ends.server.sent
  pub server_taken : new.ends.server.taken ≡ old.ends.server.taken
  pub maps : maps_in new ≡ maps_in old
  pub receipts : receipts_in new.client ≡ receipts_in old.client
