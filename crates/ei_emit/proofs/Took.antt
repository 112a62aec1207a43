-- A step of a side that took a message: what it changed of the two ends.
use Rattle.std.proofs.Common.{◌≡◌, ℕ, ◌<◌, ◌≤◌, true, false, inl, inr, List, ◌∷◌, map, length, Option, Some, None, Ok, sym, ap, ◌∙◌, arith}
use Rattle.ei_spec.specs.Piece.{Piece}
use Rattle.ei_backend.specs.declared.message.PendingRequestResult.{PendingRequestResult}
use Rattle.ei_backend.specs.declared.message.PendingRequestResult.TheVariants as pending
use Rattle.ei_ends.specs.Sent.{Got, Missed}
use Rattle.ei_ends.specs.Way.{End}
use Rattle.ei_client.specs.declared.event.Event.{Event}
use Rattle.ei_server.specs.declared.request.Request.{Request}
use Rattle.ei_linked.specs.declared.side.Side.{Side}
use Rattle.ei_linked.specs.declared.side.Side.TheVariants as side
use Rattle.ei_linked.specs.Stored.{StoredEnd, end_in, got_view, having_read}
use Rattle.ei_linked.specs.declared.record.Got.{Got as StoredGot}
use Rattle.ei_linked.specs.TwoEnds.{WorldView, other_side, end_of, stored_of, waiting_for}
use Rattle.ei_handshake.specs.Handshaker.{HandshakerView}
use Rattle.ei_request.specs.Converter.{ConverterView as ServerConverter}
use Rattle.ei_promises.specs.Pair.{ClientStage, Asks, Follows, ServerStage, Shakes, Serves, PairView, on_endpoint}
use Rattle.ei_promises.specs.Stepping.{ReadsRequest, ReadsEvent, MissesRequest, HandsRequest, MissesEvent, HandsEvent, ServerSteps, ClientSteps, StepsServer, StepsClient, server_taken, client_taken}
use Rattle.ei_promises.proofs.Received.{request_taken, event_taken, gone_taken}
use Rattle.ei_pair.specs.Done.{HasFirstIds}
use Rattle.ei_emit.specs.Carried.{left_for}

-- the side took one more; the other end, and what is on its way to the side, are as before
pub record TookOne (to : Side) (old new : WorldView) : Type 0 where
  pub got : Got
  pub taken : (end_of to new).taken ≡ got ∷ (end_of to old).taken
  pub other : stored_of (other_side to) new ≡ stored_of (other_side to) old
  pub waits : waiting_for to new ≡ waiting_for to old

-- ---- a client

client_one : (g : Got) (w v : WorldView) → map got_view (having_read true w.client).taken ≡ g ∷ map got_view w.client.taken → v.client.taken ≡ (having_read true w.client).taken → v.server ≡ w.server → v.to_client ≡ w.to_client → TookOne side.Client w v
client_one g w v read taken server waits = record { got = g; taken = ap (λ (l : List StoredGot). map got_view l) taken ∙ read; other = server; waits = waits }

missed_event : {H : Type 0} (k : ClientStage H) (id : ℕ) (old new : PairView H) → ReadsEvent (Some (pending.InvalidObject id)) old.ends (client_taken old).ends → MissesEvent k id (client_taken old) (Ok true) new → TookOne side.Client old.ends new.ends
missed_event (Asks h) id old new reads m = absurd (let e = m.0 in cc)
missed_event {H} (Follows c) id old new reads m =
    client_one (Missed id (length old.ends.client.sent)) old.ends new.ends (ap (λ (x : End). x.taken) (gone_taken true id old.ends.client reads))
    (ap (λ (p : PairView H). p.ends.client.taken) m.1) (ap (λ (p : PairView H). p.ends.server) m.1) (ap (λ (p : PairView H). p.ends.to_client) m.1)

handed_event : {H : Type 0} (may : H → ℕ → ℕ → Type 0) (k : ClientStage H) (e : Event) (before after : Option (List ℕ)) (old new : PairView H) → ReadsEvent (Some (pending.Request e)) old.ends (client_taken old).ends → HandsEvent may k e before after (client_taken old) (Ok true) new → TookOne side.Client old.ends new.ends
handed_event {H} may (Asks h) e before after old new reads s =
    client_one _ old.ends new.ends (ap (λ (x : End). x.taken) (event_taken e old.ends.client reads))
    (ap (λ (p : PairView H). p.ends.client.taken) s.0.leaves) (ap (λ (p : PairView H). p.ends.server) s.0.leaves) (ap (λ (p : PairView H). p.ends.to_client) s.0.leaves)
handed_event {H} may (Follows c) e before after old new reads s =
    client_one _ old.ends new.ends (ap (λ (x : End). x.taken) (event_taken e old.ends.client reads))
    (ap (λ (p : PairView H). p.ends.client.taken) s.leaves) (ap (λ (p : PairView H). p.ends.server) s.leaves) (ap (λ (p : PairView H). p.ends.to_client) s.leaves)

client_by : {H : Type 0} (may : H → ℕ → ℕ → Type 0) (answer : Option (PendingRequestResult Event)) (before after : Option (List ℕ)) (old new : PairView H) → ReadsEvent answer old.ends (client_taken old).ends → ClientSteps may answer before after old (client_taken old) (Ok true) new → TookOne side.Client old.ends new.ends
client_by may None before after old new reads s = absurd (let e = s.0 in cc)
client_by may (Some (pending.InvalidObject id)) before after old new reads s = missed_event old.client id old new reads s.0
client_by may (Some (pending.Request e)) before after old new reads s = handed_event may old.client e before after old new reads s
client_by may (Some (pending.ParseError f)) before after old new reads s = absurd s

pub client_took : {H : Type 0} (may : H → ℕ → ℕ → Type 0) (old new : PairView H) (before after : Option (List ℕ)) → StepsClient may old before after (Ok true) new → TookOne side.Client old.ends new.ends
client_took may old new before after (inl h) = client_by may h.answer before after old new h.reads h.steps
client_took may old new before after (inr w) = absurd (let e = w.answers in cc)

-- ---- a client leaves the server where it stands

stage_missed : {H : Type 0} (k : ClientStage H) (id : ℕ) (old new : PairView H) → MissesEvent k id (client_taken old) (Ok true) new → new.server ≡ (client_taken old).server
stage_missed (Asks h) id old new m = absurd (let e = m.0 in cc)
stage_missed {H} (Follows c) id old new m = ap (λ (p : PairView H). p.server) m.1

stage_handed : {H : Type 0} (may : H → ℕ → ℕ → Type 0) (k : ClientStage H) (e : Event) (before after : Option (List ℕ)) (old new : PairView H) → HandsEvent may k e before after (client_taken old) (Ok true) new → new.server ≡ (client_taken old).server
stage_handed {H} may (Asks h) e before after old new s = ap (λ (p : PairView H). p.server) s.0.leaves
stage_handed {H} may (Follows c) e before after old new s = ap (λ (p : PairView H). p.server) s.leaves

stage_by : {H : Type 0} (may : H → ℕ → ℕ → Type 0) (answer : Option (PendingRequestResult Event)) (before after : Option (List ℕ)) (old new : PairView H) → ClientSteps may answer before after old (client_taken old) (Ok true) new → new.server ≡ (client_taken old).server
stage_by may None before after old new s = absurd (let e = s.0 in cc)
stage_by may (Some (pending.InvalidObject id)) before after old new s = stage_missed (client_taken old).client id old new s.0
stage_by may (Some (pending.Request e)) before after old new s = stage_handed may (client_taken old).client e before after old new s
stage_by may (Some (pending.ParseError f)) before after old new s = absurd s

client_stays : {H : Type 0} (may : H → ℕ → ℕ → Type 0) (old new : PairView H) (before after : Option (List ℕ)) → StepsClient may old before after (Ok true) new → new.server ≡ (client_taken old).server
client_stays may old new before after (inl h) = stage_by may h.answer before after old new h.steps
client_stays may old new before after (inr w) = absurd (let e = w.answers in cc)

-- so no server's handshake is done
never_both : (h : HandshakerView) (c : ServerConverter) (P : Type 0) → Shakes h ≡ Serves c → P
never_both h c P e = cc

pub stays_first : {H : Type 0} (old new : PairView H) → new ≡ old → HasFirstIds old new
stays_first {H} old new same = λ h c is then. never_both h c _ (sym (ap (λ (p : PairView H). p.server) same ∙ is) ∙ then)

pub client_first : {H : Type 0} (may : H → ℕ → ℕ → Type 0) (old new : PairView H) (before after : Option (List ℕ)) → StepsClient may old before after (Ok true) new → HasFirstIds old new
client_first may old new before after s = λ h c is then.
    never_both h c _ (sym (client_stays may old new before after s ∙ ap (λ (t : ServerStage). on_endpoint (client_taken old).ends.server.backend t) is) ∙ then)

-- ---- a server

server_one : (g : Got) (w v : WorldView) → map got_view (having_read false w.server).taken ≡ g ∷ map got_view w.server.taken → v.server.taken ≡ (having_read false w.server).taken → v.client ≡ w.client → v.to_server ≡ w.to_server → TookOne side.Server w v
server_one g w v read taken client waits = record { got = g; taken = ap (λ (l : List StoredGot). map got_view l) taken ∙ read; other = client; waits = waits }

missed_request : {H : Type 0} (k : ServerStage) (id : ℕ) (old new : PairView H) → ReadsRequest (Some (pending.InvalidObject id)) old.ends (server_taken old).ends → MissesRequest k id (server_taken old) (Ok true) new → TookOne side.Server old.ends new.ends
missed_request (Shakes h) id old new reads m = absurd (let e = m.0 in cc)
missed_request {H} (Serves c) id old new reads m =
    server_one (Missed id (length old.ends.server.sent)) old.ends new.ends (ap (λ (x : End). x.taken) (gone_taken false id old.ends.server reads))
    (ap (λ (p : PairView H). p.ends.server.taken) m.1) (ap (λ (p : PairView H). p.ends.client) m.1) (ap (λ (p : PairView H). p.ends.to_server) m.1)

handed_request : {H : Type 0} (k : ServerStage) (r : Request) (before after : Option (List ℕ)) (old new : PairView H) → ReadsRequest (Some (pending.Request r)) old.ends (server_taken old).ends → HandsRequest k r before after (server_taken old) (Ok true) new → TookOne side.Server old.ends new.ends
handed_request {H} (Shakes h) r before after old new reads s =
    server_one _ old.ends new.ends (ap (λ (x : End). x.taken) (request_taken r old.ends.server reads))
    (ap (λ (p : PairView H). p.ends.server.taken) s.0.leaves) (ap (λ (p : PairView H). p.ends.client) s.0.leaves) (ap (λ (p : PairView H). p.ends.to_server) s.0.leaves)
handed_request {H} (Serves c) r before after old new reads s =
    server_one _ old.ends new.ends (ap (λ (x : End). x.taken) (request_taken r old.ends.server reads))
    (ap (λ (p : PairView H). p.ends.server.taken) s.leaves) (ap (λ (p : PairView H). p.ends.client) s.leaves) (ap (λ (p : PairView H). p.ends.to_server) s.leaves)

server_by : {H : Type 0} (answer : Option (PendingRequestResult Request)) (before after : Option (List ℕ)) (old new : PairView H) → ReadsRequest answer old.ends (server_taken old).ends → ServerSteps answer before after old (server_taken old) (Ok true) new → TookOne side.Server old.ends new.ends
server_by None before after old new reads s = absurd (let e = s.0 in cc)
server_by (Some (pending.InvalidObject id)) before after old new reads s = missed_request (server_taken old).server id old new reads s.0
server_by (Some (pending.Request r)) before after old new reads s = handed_request (server_taken old).server r before after old new reads s
server_by (Some (pending.ParseError f)) before after old new reads s = absurd s

pub server_took : {H : Type 0} (old new : PairView H) (before after : Option (List ℕ)) → StepsServer old before after (Ok true) new → TookOne side.Server old.ends new.ends
server_took old new before after (inl h) = server_by h.answer before after old new h.reads h.steps
server_took old new before after (inr w) = absurd (let e = w.answers in cc)

-- ---- what is left

pub took_less : (s : Side) (w v : WorldView) → TookOne s w v → length (end_of s v).taken ≤ length (end_of (other_side s) v).sent → left_for s v < left_for s w
took_less s w v t few =
    let taken = ap length t.taken in
    let sent = ap (λ (x : StoredEnd). length (end_in x).sent) t.other in
    let waits = ap (λ (p : Piece). length p.bytes) t.waits in
    omega (arith, few, taken, sent, waits)
