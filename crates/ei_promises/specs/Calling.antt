-- What a server and a client of a pair do when they are asked to, once their handshakes are done.
use Rattle.std.specs.Prelude.{◌≡◌, ℕ, Bool, true, false, ◌&&◌, List, [], ◌∷◌, Option, Some, None, Result, Ok, Err, IsSome, find, codes}
use Rattle.std.specs.Option.{option_map}
use Rattle.std.specs.List.{Any}
use Rattle.std.specs.FinMap as finite
use Rattle.ei_spec.specs.declared.interface.KnownInterface.TheVariants as known
use Rattle.ei_spec.specs.Interface.{Known, ObjectView}
use Rattle.ei_spec.specs.Rows.{row_named}
use Rattle.ei_spec.specs.Table.{table}
use Rattle.ei_spec.specs.Value.{Long, Word}
use Rattle.ei_types.specs.Enums.{disconnect_reason_number}
use Rattle.ei_wire.specs.declared.error.SendError.{SendError}
use Rattle.ei_backend.specs.Backend.{BackendView}
use Rattle.ei_backend.specs.Table.{found}
use Rattle.ei_backend.specs.Endpoint.{endpoint_of}
use Rattle.ei_ends.specs.Sent.{Sent}
use Rattle.ei_reported.specs.Event.{opcode_by}
use Rattle.ei_linked.specs.declared.record.Record.{Record}
use Rattle.ei_linked.specs.declared.side.Side.TheVariants as side
use Rattle.ei_linked.specs.Stored.{sent_view, having_sent, as_known}
use Rattle.ei_linked.specs.TwoEnds.{WorldView, with_end, end_of, MayCall, asked_of}
use Rattle.ei_linked.specs.Written.{record_as, stored_onto}
use Rattle.ei_event.specs.Converter.{ConverterView as ClientConverter}
use Rattle.ei_request.specs.Held.{is_seat}
use Rattle.ei_request.specs.Connection.{ConnectionView, holds_device}
use Rattle.ei_request.specs.Converter.{ConverterView as ServerConverter}
use Rattle.ei_request.specs.Making.{NeedsKeyboard, IsGiven, granted_at, new_seat, new_device}
use Rattle.ei_acts.specs.Acting as act
use Rattle.ei_acts.specs.Acting.{Act, Makes}
use Rattle.ei_acts.specs.Allowed.{announced_by}
use Rattle.ei_acts.specs.Input.{is_input}
use Rattle.ei_acts.specs.Sendable.{announced_in}
use Rattle.ei_acts.specs.Holding.{is_a_seat}
use Rattle.ei_promises.specs.declared.calls.ServerCall.{ServerCall}
use Rattle.ei_promises.specs.declared.calls.ServerCall.TheVariants as call
use Rattle.ei_promises.specs.declared.calls.Made.{Made}
use Rattle.ei_promises.specs.declared.calls.Made.TheVariants as made
use Rattle.ei_promises.specs.Pair.{Follows, ServerStage, Shakes, Serves, PairView, with_ends}

-- ---- what a call of a server is

-- an object as the server announced it, by the id of a key; what stands for none is named by no call of a held thing
abbrev pub object_or : ℕ → Option ObjectView → ObjectView
object_or id None = record { id = id; interface = Known known.Device; version = 0; client_side = false }
object_or id (Some o) = o

abbrev pub object_at : WorldView → ℕ → ObjectView
object_at w id = object_or id (announced_in (end_of side.Server w).sent id)

-- the text, if there is one
abbrev pub text_in : ServerCall → Option (List ℕ)
text_in (call.AddSeat name capabilities) = option_map (λ n. n.now) name
text_in (call.AddDevice seat name kind capabilities setup) = option_map (λ n. n.now) name
text_in (call.Disconnected reason explanation) = option_map (λ n. n.now) explanation
text_in c = None

-- the act that it asks for
abbrev pub act_of : ServerCall → WorldView → Act
act_of (call.AddSeat name capabilities) w = act.AddsSeat (text_in (call.AddSeat name capabilities)) capabilities
act_of (call.AddDevice seat name kind capabilities setup) w =
    act.AddsDevice seat (object_at w seat.id) (text_in (call.AddDevice seat name kind capabilities setup)) kind capabilities setup.now
act_of (call.RemoveSeat seat) w = act.RemovesSeat seat.id
act_of (call.RemoveDevice device) w = act.RemovesDevice device
act_of (call.Resumed device) w = act.Resumes device (object_at w device.proxy.id)
act_of (call.Paused device) w = act.Pauses device (object_at w device.proxy.id)
act_of (call.StartEmulating device sequence) w = act.StartsEmulating device (object_at w device.proxy.id) sequence
act_of (call.StopEmulating device) w = act.StopsEmulating device (object_at w device.proxy.id)
act_of (call.Frame device time) w = act.EndsFrame device (object_at w device.proxy.id) time
act_of (call.Input target opcode values) w = act.SendsInput (sent_view (asked_of side.Server w target opcode values.now))
act_of (call.Disconnected reason explanation) w = act.Disconnects (disconnect_reason_number reason) (text_in (call.Disconnected reason explanation))

-- its condition
abbrev pub MeetsServer : ServerCall → WorldView → ConnectionView → Type 0
MeetsServer (call.AddDevice seat name kind capabilities setup) w c = IsSome (find (is_seat seat.id) c.seats) × (Any NeedsKeyboard setup.now → IsGiven c seat.id capabilities)
MeetsServer (call.Resumed device) w c = holds_device c device ≡ true
MeetsServer (call.Paused device) w c = holds_device c device ≡ true
MeetsServer (call.StartEmulating device sequence) w c = holds_device c device ≡ true
MeetsServer (call.StopEmulating device) w c = holds_device c device ≡ true
MeetsServer (call.Frame device time) w c = holds_device c device ≡ true
MeetsServer (call.Input target opcode values) w c = MayCall side.Server w target opcode values.now
MeetsServer other w c = Unit {0}

-- ---- what it sends

-- the messages of a call: what goes is told as it was announced, be it in the server's table or not
abbrev pub messages_of : ServerCall → WorldView → ConnectionView → List Sent
messages_of s w c = announced_by (end_of side.Server w).sent (act_of s w) c

-- and as they are stored behind what was sent before: an input as it was asked for
abbrev pub stored_by_call : ServerCall → WorldView → ConnectionView → List Record
stored_by_call (call.Input target opcode values) w c = asked_of side.Server w target opcode values.now ∷ w.server.sent
stored_by_call other w c = stored_onto true (messages_of other w c) w.server.sent

-- ---- whether it is steady

-- a device comes of a seat that is alive, and an input goes to an interface that a held device has
abbrev pub is_steady_call : ServerCall → ConnectionView → Bool
is_steady_call (call.AddDevice seat name kind capabilities setup) c = is_a_seat (found c.ctx.table seat.id)
is_steady_call (call.Input target opcode values) c = is_input c target.id (as_known target.interface) opcode
is_steady_call other c = true

-- ---- what it answers

-- what was made: the seat, the device, or nothing
abbrev pub made_by : ServerCall → ConnectionView → Made
made_by (call.AddSeat name capabilities) c = made.Seat (new_seat c)
made_by (call.AddDevice seat name kind capabilities setup) c =
    made.Device (new_device (endpoint_of c.ctx) c.negotiated seat (text_in (call.AddDevice seat name kind capabilities setup)) (granted_at c seat.id capabilities)).device
made_by other c = made.Nothing

-- both ends once a server's call was done, which left that connection
abbrev pub server_called : ServerCall → WorldView → ConnectionView → ConnectionView → WorldView
server_called s w c left = with_end side.Server (record { backend = left.ctx; sent = stored_by_call s w c; taken = w.server.taken }) w

-- the pair once the server did what it was asked to, which left that connection
abbrev pub server_done_so : {H : Type 0} → ServerCall → ServerConverter → ConnectionView → PairView H → PairView H
server_done_so s c left p = record p {
  ends = server_called s p.ends c.handle left;
  server = Serves (record c { handle = left });
  steady = p.steady && is_steady_call s c.handle;
}

-- the server that serves did what it was asked to
pub record DoesServer {H : Type 0} (s : ServerCall) (c : ServerConverter) (old : PairView H) (answer : Made) (new : PairView H) : Type 0 where
  pub left : ConnectionView
  pub makes : Makes (act_of s old.ends) c.handle left
  pub answer_is : answer ≡ made_by s c.handle
  pub leaves : new ≡ server_done_so s c left old

-- nothing was sent, and nothing else has changed; only memory may be ready
pub record RefusesServer {H : Type 0} (c : ServerConverter) (old new : PairView H) : Type 0 where
  pub ctx : BackendView
  pub endpoint : endpoint_of ctx ≡ endpoint_of old.ends.server.backend
  pub leaves : new ≡ with_ends (with_end side.Server (record old.ends.server { backend = ctx }) old.ends) old

-- what a server was asked for, and what it answered
abbrev pub DoesAt : {H : Type 0} → ServerStage → ServerCall → PairView H → Result Made SendError → PairView H → Type 0
DoesAt (Shakes h) s old result new = ⊥
DoesAt (Serves c) s old (Ok answer) new = DoesServer s c old answer new
DoesAt (Serves c) s old (Err e) new = RefusesServer c old new

-- ---- the client

-- the pair once the client sent the message
abbrev pub client_sent_so : {H : Type 0} → Record → PairView H → PairView H
client_sent_so m p = record p { ends = with_end side.Client (having_sent false m p.ends.client) p.ends }

-- a sync of version 1, with the next own id for its callback
abbrev pub sync_of : ℕ → ObjectView → Sent
sync_of id connection = record {
  target = connection.id;
  interface = known.Connection;
  version = connection.version;
  opcode = opcode_by (row_named (codes "sync") (table false known.Connection));
  values = Long id ∷ Word 1 ∷ [];
}

-- the callback
abbrev pub callback_of : ℕ → ObjectView
callback_of id = record { id = id; interface = Known known.Callback; version = 1; client_side = true }

-- the client sent a sync, and keeps the handler for its callback
pub record SyncsWith {H : Type 0} (handler : H) (c : ClientConverter H) (old : PairView H) (answer : Option ObjectView) (new : PairView H) : Type 0 where
  pub answer_is : answer ≡ Some (callback_of old.ends.client.backend.table.next_own)
  pub leaves : new ≡ record old {
    ends = with_end side.Client (having_sent false (record_as false (sync_of old.ends.client.backend.table.next_own c.kept.proxy)) old.ends.client) old.ends;
    client = Follows (record c { waiting = finite.insert c.waiting old.ends.client.backend.table.next_own handler });
  }
