-- A side took its next message: what that leaves of the pair.
use Rattle.std.proofs.Common.{◌≡◌, Bool, true, false, ◌∷◌, length, Some, None, refl, ap, ◌∙◌}
use Rattle.ei_backend.specs.Backend.{BackendView, FrontAnswer, Waits, Refused, Gone, Message, next}
use Rattle.ei_backend.specs.declared.message.PendingRequestResult.TheVariants as pending
use Rattle.ei_ends.proofs.JoinedSteps.{reads_nothing}
use Rattle.ei_client.specs.declared.event.Event.{Event}
use Rattle.ei_client.specs.Event.{target_of as event_target, opcode_of as event_code, values_of as event_values}
use Rattle.ei_server.specs.declared.request.Request.{Request}
use Rattle.ei_server.specs.Request.{target_of as request_target, opcode_of as request_code, values_of as request_values}
use Rattle.ei_linked.specs.declared.side.Side.TheVariants as side
use Rattle.ei_linked.specs.declared.record.Got.{Got}
use Rattle.ei_linked.specs.declared.record.Got.TheVariants as got
use Rattle.ei_linked.specs.Stored.{StoredEnd, end_in, with_endpoint, having_read, answered_so, read_as}
use Rattle.ei_linked.specs.TwoEnds.{WorldView, IsWorld, read_world}
use Rattle.ei_linked.proofs.Kept.{ahead, back}
use Rattle.ei_promises.specs.Pair.{PairView, ClientStage, Asks, Follows, ServerStage, Shakes, Serves, maps_of, maps_in, on_endpoint, with_ends}
use Rattle.ei_promises.specs.Stepping.{ReadsRequest, ReadsEvent}
use Rattle.ei_pair.proofs.Spent.{next_closed}

read_is : (events : Bool) (x : StoredEnd) (a : FrontAnswer) (b : BackendView) → next events x.backend ≡ (a, b) → having_read events x ≡ answered_so events a b x
unfolding having_read
read_is events x a b e = rw e refl

-- ---- what was sent is as before

so_sent : (events : Bool) (a : FrontAnswer) (b : BackendView) (x : StoredEnd) → (answered_so events a b x).sent ≡ x.sent
so_sent events Waits b x = refl
so_sent events (Refused f) b x = refl
so_sent events (Gone id) b x = refl
so_sent events (Message target opcode values) b x = refl

pub read_sent : (events : Bool) (x : StoredEnd) → (having_read events x).sent ≡ x.sent
unfolding having_read
read_sent events x = so_sent events (next events x.backend).0 (next events x.backend).1 x

-- ---- whether it is closed is as before

so_closed : (events : Bool) (a : FrontAnswer) (b : BackendView) (x : StoredEnd) → (answered_so events a b x).backend.closed ≡ b.closed
so_closed events Waits b x = refl
so_closed events (Refused f) b x = refl
so_closed events (Gone id) b x = refl
so_closed events (Message target opcode values) b x = refl

pub read_closed : (events : Bool) (x : StoredEnd) → (having_read events x).backend.closed ≡ x.backend.closed
unfolding having_read
read_closed events x = so_closed events (next events x.backend).0 (next events x.backend).1 x ∙ next_closed events x.backend

-- ---- one more was taken

-- what is stored of the request that the server took, and of the event that the client did
abbrev pub got_request : Request → WorldView → Got
got_request r w = got.Message (read_as false (request_target r) (request_code r) (request_values r)) (length w.server.sent)

abbrev pub got_event : Event → WorldView → Got
got_event e w = got.Message (read_as true (event_target e) (event_code e) (event_values e)) (length w.client.sent)

pub took_request : (r : Request) (w v : WorldView) → ReadsRequest (Some (pending.Request r)) w v → (read_world side.Server w).server.taken ≡ got_request r w ∷ w.server.taken
took_request r w v reads = ap (λ (x : StoredEnd). x.taken) (read_is false w.server (Message (request_target r) (request_code r) (request_values r)) v.server.backend reads)

pub took_event : (e : Event) (w v : WorldView) → ReadsEvent (Some (pending.Request e)) w v → (read_world side.Client w).client.taken ≡ got_event e w ∷ w.client.taken
took_event e w v reads = ap (λ (x : StoredEnd). x.taken) (read_is true w.client (Message (event_target e) (event_code e) (event_values e)) v.client.backend reads)

-- ---- where nothing is there, nothing has changed

same_read : (events : Bool) (x : StoredEnd) (b : BackendView) → next events x.backend ≡ (Waits, b) → b ≡ x.backend → having_read events x ≡ x
same_read events x b e same = read_is events x Waits b e ∙ ap (λ (c : BackendView). with_endpoint c x) same

pub no_request : (w v : WorldView) → w.spent ≡ false → IsWorld w → ReadsRequest None w v → read_world side.Server w ≡ w
no_request w v whole kept reads =
    ap (λ (x : StoredEnd). let z : WorldView = record w { server = x } in z)
    (same_read false w.server v.server.backend reads (reads_nothing false (end_in w.client) (end_in w.server) w.to_server w.to_client v.server.backend (ahead w whole kept) reads))

pub no_event : (w v : WorldView) → w.spent ≡ false → IsWorld w → ReadsEvent None w v → read_world side.Client w ≡ w
no_event w v whole kept reads =
    ap (λ (x : StoredEnd). let z : WorldView = record w { client = x } in z)
    (same_read true w.client v.client.backend reads (reads_nothing true (end_in w.server) (end_in w.client) w.to_client w.to_server v.client.backend (back w whole kept) reads))

-- ---- the maps are as before

maps_on : {H : Type 0} (c : ClientStage H) (b : BackendView) (s : ServerStage) → maps_of c (on_endpoint b s) ≡ maps_of c s
maps_on (Asks h) b s = refl
maps_on (Follows c) b (Shakes h) = refl
maps_on (Follows c) b (Serves s) = refl

pub same_maps : {H : Type 0} (w : WorldView) (p : PairView H) → maps_in (with_ends w p) ≡ maps_in p
same_maps w p = maps_on p.client w.server.backend p.server
