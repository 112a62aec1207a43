-- What a pair keeps at every call, beside that its two ends are joined. Lists have the newest first.
use Rattle.std.specs.Prelude.{◌≡◌, ℕ, ◌<◌, ◌^◌, ◌⊎◌, Bool, true, false, List, ◌∷◌, ◌++◌, map, Some, is_some}
use Rattle.std.specs.List.{Contains, list_any}
use Rattle.std.specs.Prelude.{nat_eq}
use Rattle.std.specs.Str.{is_utf8}
use Rattle.std.specs.FinMap as finite
use Rattle.ei_spec.specs.declared.interface.KnownInterface.TheVariants as known
use Rattle.ei_spec.specs.Interface.{Known}
use Rattle.ei_backend.specs.Backend.{BackendView}
use Rattle.ei_backend.specs.Endpoint.{endpoint_of}
use Rattle.ei_ends.specs.Sent.{Sent, Got, Took}
use Rattle.ei_ends.specs.Announced.{next_own}
use Rattle.ei_ends.specs.Way.{End}
use Rattle.ei_ends.specs.Steps.{after_calls}
use Rattle.ei_ends.specs.Joined.{AreListedCalls, heard}
use Rattle.ei_reported.specs.Changes.{brought}
use Rattle.ei_told.specs.Told.{all_said, after_connection, messages, NoneMissed}
use Rattle.ei_shaking.specs.Sending.{AreVersions}
use Rattle.ei_shaking.specs.Heard.{name_told, context_told, versions_told, collected, is_finish}
use Rattle.ei_shaking.specs.Both.{AreShaking, is_handed, is_finished, up_to}
use Rattle.ei_shaking.specs.Both.{Side as Lists}
use Rattle.ei_linked.specs.declared.side.Side.{Side}
use Rattle.ei_linked.specs.declared.side.Side.TheVariants as side
use Rattle.ei_linked.specs.TwoEnds.{WorldView, end_of, HasTakenAll}
use Rattle.ei_handler.specs.declared.receipt.Receipt.{Receipt}
use Rattle.ei_handshake.specs.Client.{ClientView}
use Rattle.ei_handshake.specs.Handshaker.{HandshakerView}
use Rattle.ei_event.specs.Kept.{KeptView}
use Rattle.ei_event.specs.Converter.{ConverterView as ClientConverter}
use Rattle.ei_heeding.specs.Heeding.{Heeds}
use Rattle.ei_acts.specs.Serving.{Serves as IsServer}
use Rattle.ei_acts.specs.There.{IdsDiffer}
use Rattle.ei_promises.specs.Pair.{ClientStage, Asks, Follows, ServerStage, Shakes, Serves, PairView, maps_in, server_done}
use Rattle.ei_promises.specs.Promises.{AreSame, CallsInTime, NameFits, NoneWanted}

-- ---- what was sent

-- the endpoint was left by these messages, the first in front, which the end might send; how much memory is ready doesn't matter
pub record HasSentAll (events : Bool) (ms : List Sent) (x : End) (b : BackendView) : Type 0 where
  pub endpoint : endpoint_of b ≡ endpoint_of (after_calls events ms x).backend
  pub listed : AreListedCalls events ms x.sent x.taken

-- ---- the handshakes

-- the messages that a side sent and took
abbrev pub lists_at : Side → WorldView → Lists
lists_at s w = record { sent = (end_of s w).sent; taken = messages (end_of s w).taken }

-- a server's handshaker was told these, and no finish
pub record WasTold (serial : ℕ) (past : List Sent) (h : HandshakerView) : Type 0 where
  pub serial_is : h.serial ≡ serial
  pub versions : h.versions ≡ versions_told past
  pub named : is_some h.name ≡ is_some (name_told past)
  pub typed : is_some h.context_type ≡ is_some (context_told past)
  pub unfinished : is_finished past ≡ false

-- where a server stands that was told these: its converter was made at the finish
abbrev pub StandsAt : ℕ → List Sent → ServerStage → Type 0
StandsAt serial past (Shakes h) = WasTold serial past h
StandsAt serial past (Serves c) = (is_finished past ≡ true) × (c.handle.negotiated ≡ versions_told (up_to is_finish past))

-- each end answered all that it was told; the server has begun, and the client shakes hands
pub record AreAnswering {H : Type 0} (h : ClientView) (p : PairView H) : Type 0 where
  pub serial : ℕ
  pub small : serial < 2 ^ 32
  pub shaking : AreShaking h.greeter serial (lists_at side.Server p.ends) (lists_at side.Client p.ends)
  pub server_misses : NoneMissed (end_of side.Server p.ends).taken
  pub client_misses : NoneMissed (end_of side.Client p.ends).taken
  pub server : StandsAt serial (messages (end_of side.Server p.ends).taken) p.server
  pub versions : h.versions ≡ collected (messages (end_of side.Client p.ends).taken)
  pub unhanded : is_handed (messages (end_of side.Client p.ends).taken) ≡ false

-- an end didn't answer what it was told, for want of memory or because the client's name is too long: each waits for the other
pub record AreStuck {H : Type 0} (p : PairView H) : Type 0 where
  pub why : NameFits p.client → NoneWanted p → ⊥
  pub shakes : server_done p.server ≡ false
  pub server_waits : HasTakenAll side.Server p.ends
  pub client_waits : HasTakenAll side.Client p.ends

-- how far the handshakes are, by where the client stands
abbrev pub AreGreeting : {H : Type 0} → ClientStage H → PairView H → Type 0
AreGreeting (Asks h) p = (is_utf8 h.greeter.name ≡ true) × (AreAnswering h p ⊎ AreStuck p)
AreGreeting (Follows c) p = server_done p.server ≡ true

-- ---- the server

-- a server's converter serves the client, and has lawful versions
abbrev pub IsServing : {H : Type 0} → ServerStage → PairView H → Type 0
IsServing (Shakes h) p = Unit {0}
IsServing (Serves c) p = IsServer (end_of side.Server p.ends) c.handle p.steady × AreVersions c.handle.negotiated

-- ---- the client

-- what is kept follows the events that were taken behind the one that handed the connection over; their new ids are below the
-- next one of the server
pub record Listens (taken : List Sent) (c : KeptView) : Type 0 where
  pub said : List Sent
  pub behind : after_connection taken ≡ Some said
  pub start : ℕ
  pub readings : List ℕ
  pub heeds : Heeds start (all_said said) readings c
  pub below : (id : ℕ) → brought (all_said said) id ≡ true → id < next_own true taken

-- a message to the object of that id was taken
pub record WasTaken (id : ℕ) (taken : List Got) : Type 0 where
  pub message : Sent
  pub after : ℕ
  pub newer : List Got
  pub older : List Got
  pub is : taken ≡ newer ++ (Took message after ∷ older)
  pub target : message.target ≡ id

-- the ids of the callbacks whose handlers were called
abbrev pub called_ids : List Receipt → List ℕ
called_ids receipts = map (λ r. r.callback) receipts

-- Each handler was called at the end of its callback, and once. One that waits has the id of a callback that was given, of which no
-- handler was called.
pub record KeepsHandlers {H : Type 0} (next : ℕ) (taken : List Got) (c : ClientConverter H) : Type 0 where
  pub ended : (r : Receipt) → Contains c.receipts r → WasTaken r.callback taken × (r.callback < next)
  pub waits : (id : ℕ) → is_some (finite.get c.waiting id) ≡ true → (id < next) × (list_any (nat_eq id) (called_ids c.receipts) ≡ false)
  pub once : IdsDiffer (called_ids c.receipts)

-- a client's converter has the connection's object that was handed over, and follows what it was told unless it wanted memory or
-- missed a message
pub record IsFollowing {H : Type 0} (c : ClientConverter H) (y : End) (wanted : Bool) : Type 0 where
  pub connection : heard true y.taken c.kept.proxy.id ≡ Some (record { id = c.kept.proxy.id; interface = Known known.Connection; version = c.kept.proxy.version })
  pub listens : wanted ≡ false → NoneMissed y.taken → Listens (messages y.taken) c.kept
  pub handlers : KeepsHandlers y.backend.table.next_own y.taken c

abbrev pub FollowsOn : {H : Type 0} → ClientStage H → PairView H → Type 0
FollowsOn (Asks h) p = Unit {0}
FollowsOn (Follows c) p = IsFollowing c (end_of side.Client p.ends) p.client_wanted

-- ---- the pair

-- what holds of a pair at any time: the first two also once it is spent
pub record Keeps {H : Type 0} (p : PairView H) : Type 0 where
  pub same : AreSame (maps_in p)
  pub in_time : CallsInTime p
  pub greeting : p.ends.spent ≡ false → AreGreeting p.client p
  pub serving : p.ends.spent ≡ false → IsServing p.server p
  pub following : p.ends.spent ≡ false → FollowsOn p.client p

-- ---- where nothing is sent or taken

-- the lists of both ends and their tables are the same, as where bytes come or go
pub record SameLists (old new : WorldView) : Type 0 where
  pub client_sent : new.client.sent ≡ old.client.sent
  pub client_taken : new.client.taken ≡ old.client.taken
  pub client_table : new.client.backend.table ≡ old.client.backend.table
  pub server_sent : new.server.sent ≡ old.server.sent
  pub server_taken : new.server.taken ≡ old.server.taken
  pub server_table : new.server.backend.table ≡ old.server.backend.table
