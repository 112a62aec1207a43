-- The same where either end is asked to do something, and where bytes go or come.
use Rattle.std.proofs.Common.{◌≡◌, true, List, [], ◌∷◌, ◌++◌, map, Option, Result, Ok, Err, refl, sym, ap, ◌∙◌}
use Rattle.ei_spec.specs.Interface.{ObjectView}
use Rattle.ei_wire.specs.declared.error.SendError.{SendError}
use Rattle.ei_wire.specs.declared.error.SendError.TheVariants as send_error
use Rattle.ei_ends.specs.Sent.{Sent}
use Rattle.ei_shaking.specs.Heard.{is_connection}
use Rattle.ei_shaking.specs.Both.{is_handed}
use Rattle.ei_linked.specs.declared.record.Record.{Record}
use Rattle.ei_linked.specs.declared.side.Side.TheVariants as side
use Rattle.ei_linked.specs.Stored.{sent_view}
use Rattle.ei_linked.specs.TwoEnds.{WorldView, Calls}
use Rattle.ei_request.specs.Connection.{ConnectionView}
use Rattle.ei_promises.specs.declared.calls.ServerCall.{ServerCall}
use Rattle.ei_promises.specs.declared.calls.ServerCall.TheVariants as call
use Rattle.ei_promises.specs.declared.calls.Made.{Made}
use Rattle.ei_promises.specs.Pair.{ClientStage, Asks, Follows, ServerStage, Shakes, Serves, PairView, with_ends, server_done, client_done}
use Rattle.ei_promises.specs.Calling.{DoesAt, stored_by_call, messages_of}
use Rattle.ei_promises.specs.Keeping.{SameLists}
use Rattle.ei_promises.proofs.Lists.{has_behind}
use Rattle.ei_pair.specs.declared.client_call.ClientCall.{ClientCall}
use Rattle.ei_pair.specs.declared.client_call.ClientCall.TheVariants as asked
use Rattle.ei_pair.specs.Asked.{AsksAt}
use Rattle.ei_pair.specs.Lent.{without_event, without_request}
use Rattle.ei_pair.specs.Done.{AreDoneByLists}
use Rattle.ei_pair.proofs.Done.{sent_some, same_pair, same_lists, moves_done}

-- ---- a call of the server

called_some : (s : ServerCall) (w : WorldView) (c : ConnectionView) → (newer : List Sent) × (map sent_view (stored_by_call s w c) ≡ newer ++ map sent_view w.server.sent)
called_some (call.Input target opcode values) w c = (_ ∷ [], refl)
called_some other w c = sent_some true (messages_of other w c) w.server.sent

does_at : {H : Type 0} (old new : PairView H) (stage : ServerStage) → old.server ≡ stage → (s : ServerCall) (result : Result Made SendError) → DoesAt stage s old result new → AreDoneByLists old → AreDoneByLists new
does_at old new (Shakes h) is s result d t = absurd d
does_at old new (Serves c) is s (Err e) d t = same_pair _ new d.leaves (moves_done old _ refl refl t)
does_at old new (Serves c) is s (Ok answer) d t =
    let r = called_some s old.ends c.handle in
    let done : is_handed (map sent_view old.ends.server.sent) ≡ true = sym t.server ∙ ap server_done is in
    same_pair _ new d.leaves (record {
      server = sym (ap is_handed r.1 ∙ has_behind is_connection r.0 (map sent_view old.ends.server.sent) done);
      client = t.client;
    })

pub does_done : {H : Type 0} (old new : PairView H) (s : ServerCall) (result : Result Made SendError) → DoesAt old.server s old result new → AreDoneByLists old → AreDoneByLists new
does_done old new s result d t = does_at old new old.server refl s result d t

-- ---- a call of the client

-- it leaves what the server sent and what it took itself
calls_leave : (m : Record) (result : Result (Option ObjectView) SendError) (old new : WorldView) → Calls side.Client m result old new → (new.server.sent ≡ old.server.sent) × (new.client.taken ≡ old.client.taken)
calls_leave m (Ok o) old new c = (ap (λ (w : WorldView). w.server.sent) c.2, ap (λ (w : WorldView). w.client.taken) c.2)
calls_leave m (Err send_error.IdsExhausted) old new c = (ap (λ (w : WorldView). w.server.sent) c.1, ap (λ (w : WorldView). w.client.taken) c.1)
calls_leave m (Err send_error.MessageTooLong) old new c = (ap (λ (w : WorldView). w.server.sent) c.2, ap (λ (w : WorldView). w.client.taken) c.2)
calls_leave m (Err send_error.NoMemory) old new c = (ap (λ (w : WorldView). w.server.sent) c, ap (λ (w : WorldView). w.client.taken) c)

asks_at : {H : Type 0} (old new : PairView H) (stage : ClientStage H) → old.client ≡ stage → (s : ClientCall H) (result : Result (Option ObjectView) SendError) → AsksAt stage s old result new → AreDoneByLists old → AreDoneByLists new
asks_at old new (Asks h) is s result d t = absurd d
asks_at old new (Follows c) is (asked.Call target opcode values) result d t = let same = calls_leave _ result old.ends new.ends d.0 in same_pair _ new d.1 (moves_done old new.ends same.0 same.1 t)
asks_at old new (Follows c) is (asked.SyncWith handler) (Ok o) d t = same_pair _ new d.leaves (same_lists old _ refl (sym (ap client_done is)) refl refl t)
asks_at old new (Follows c) is (asked.SyncWith handler) (Err e) d t = same_pair old new d t

pub asks_done : {H : Type 0} (old new : PairView H) (s : ClientCall H) (result : Result (Option ObjectView) SendError) → AsksAt old.client s old result new → AreDoneByLists old → AreDoneByLists new
asks_done old new s result d t = asks_at old new old.client refl s result d t

-- ---- bytes, and what is queued

pub same_ends_done : {H : Type 0} (old : PairView H) (w : WorldView) → SameLists old.ends w → AreDoneByLists old → AreDoneByLists (with_ends w old)
same_ends_done old w same t = moves_done old w same.server_sent same.client_taken t

event_out : {H : Type 0} (k : ClientStage H) → client_done (without_event k) ≡ client_done k
event_out (Asks h) = refl
event_out (Follows c) = refl

request_out : (s : ServerStage) → server_done (without_request s) ≡ server_done s
request_out (Shakes h) = refl
request_out (Serves c) = refl

pub event_out_done : {H : Type 0} (old : PairView H) → AreDoneByLists old → AreDoneByLists (record old { client = without_event old.client })
event_out_done old t = same_lists old _ refl (event_out old.client) refl refl t

pub request_out_done : {H : Type 0} (old : PairView H) → AreDoneByLists old → AreDoneByLists (record old { server = without_request old.server })
request_out_done old t = same_lists old _ (request_out old.server) refl refl refl t
