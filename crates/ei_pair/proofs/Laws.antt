-- What the laws of a pair say of a message that is handed on: what was sent for it, and what stays.
use Rattle.std.proofs.Common.{◌≡◌, ◌⊎◌, ℕ, true, false, List, Option, Some, Result, refl, sym, ap, subst, ◌∙◌}
use Rattle.ei_event.specs.Typed.{IsLawfulReason}
use Rattle.ei_types.specs.declared.error.Error.{Error}
use Rattle.ei_backend.specs.Backend.{BackendView}
use Rattle.ei_backend.specs.declared.message.PendingRequestResult.TheVariants as pending
use Rattle.ei_client.specs.declared.event.Event.{Event}
use Rattle.ei_server.specs.declared.request.Request.{Request}
use Rattle.ei_linked.specs.declared.side.Side.TheVariants as side
use Rattle.ei_linked.specs.TwoEnds.{end_of, read_world}
use Rattle.ei_handshake.specs.declared.client.HandshakeResp.{HandshakeResp}
use Rattle.ei_handshake.specs.declared.server.EisHandshakeResp.{EisHandshakeResp}
use Rattle.ei_handshake.specs.Client.{ClientView, HandlesEvent}
use Rattle.ei_handshake.specs.Handshaker.{HandshakerView, Handles}
use Rattle.ei_event.specs.Converter.{ConverterView as ClientConverter}
use Rattle.ei_event.specs.Handles.{Handles as HandlesTold}
use Rattle.ei_request.specs.Converter.{ConverterView as ServerConverter}
use Rattle.ei_request.specs.Handling.{Handles as HandlesAsked}
use Rattle.ei_promises.specs.Pair.{PairView, Asks, Follows, ServerStage, Shakes, Serves, IsPair, maps_of, maps_in, on_endpoint}
use Rattle.ei_promises.specs.Stepping.{ReadsRequest, ReadsEvent, server_taken, client_taken, settled_on, answered_on, asked_on, client_after, ponged_on, answered_on_event, server_after}
use Rattle.ei_promises.specs.Keeping.{HasSentAll, Keeps}
use Rattle.ei_pair.specs.Stepped.{TookRequest, TookEvent}

pub record ServerLaws (H : Type 0) : Type 0 where
  pub shakes : (r : Request) (p : PairView H) (h left : HandshakerView) (answer : Result (Option EisHandshakeResp) Error) (ctx : BackendView) → TookRequest r p → p.server ≡ Shakes h → Handles h p.ends.server.backend r answer left ctx →
      HasSentAll true (settled_on answer h p.ends.server.backend.table.next_own) (end_of side.Server p.ends) ctx
  pub maps : (r : Request) (p : PairView H) (h left : HandshakerView) (answer : Result (Option EisHandshakeResp) Error) (ctx : BackendView) → TookRequest r p → p.server ≡ Shakes h → Handles h p.ends.server.backend r answer left ctx →
      maps_in (record p { server = server_after answer left h.serial ctx }) ≡ maps_in p
  pub serves : (r : Request) (p : PairView H) (c left : ServerConverter) (before after : Option (List ℕ)) (answer : Result (Unit {0}) Error) → TookRequest r p → p.server ≡ Serves c → HandlesAsked c r before answer after left →
      HasSentAll true (answered_on answer c r) (end_of side.Server p.ends) left.handle.ctx
  pub keeps_map : (r : Request) (p : PairView H) (c left : ServerConverter) (before after : Option (List ℕ)) (answer : Result (Unit {0}) Error) → TookRequest r p → p.server ≡ Serves c → HandlesAsked c r before answer after left →
      left.handle.negotiated ≡ c.handle.negotiated

pub record ClientLaws (H : Type 0) : Type 0 where
  pub asks : (e : Event) (p : PairView H) (h left : ClientView) (answer : Result (Option HandshakeResp) Error) (ctx : BackendView) → TookEvent e p → p.client ≡ Asks h → HandlesEvent h p.ends.client.backend e answer left ctx →
      HasSentAll false (asked_on answer h e) (end_of side.Client p.ends) ctx
  pub follows : (e : Event) (p : PairView H) (c left : ClientConverter H) (before after : Option (List ℕ)) (answer : Result (Unit {0}) Error) → TookEvent e p → p.client ≡ Follows c → HandlesTold c.kept e before after answer left.kept →
      HasSentAll false (ponged_on answer e) (end_of side.Client p.ends) (answered_on_event answer e p.ends.client.backend)

-- ---- the server's, from the laws over the pair before

-- what is said of a server that shakes hands, and of one that serves
abbrev pub ShakesSaid : Type 0 → Type 0
ShakesSaid H = (p : PairView H) (h left : HandshakerView) (r : Request) (answer : Result (Option EisHandshakeResp) Error) (ctx : BackendView) → p.ends.spent ≡ false → IsPair p → Keeps p → p.server ≡ Shakes h →
    ReadsRequest (Some (pending.Request r)) p.ends (read_world side.Server p.ends) → Handles h (read_world side.Server p.ends).server.backend r answer left ctx →
    HasSentAll true (settled_on answer h (read_world side.Server p.ends).server.backend.table.next_own) (end_of side.Server (read_world side.Server p.ends)) ctx
    × (maps_of p.client (server_after answer left h.serial ctx) ≡ maps_of p.client p.server)

-- a converter whose connection has that endpoint
abbrev pub on_ctx : BackendView → ServerConverter → ServerConverter
on_ctx b c = record c { handle = record c.handle { ctx = b } }

abbrev pub ServesSaid : Type 0 → Type 0
ServesSaid H = (p : PairView H) (c left : ServerConverter) (r : Request) (before after : Option (List ℕ)) (answer : Result (Unit {0}) Error) → p.ends.spent ≡ false → IsPair p → Keeps p → p.server ≡ Serves c →
    ReadsRequest (Some (pending.Request r)) p.ends (read_world side.Server p.ends) → HandlesAsked (on_ctx (read_world side.Server p.ends).server.backend c) r before answer after left →
    HasSentAll true (answered_on answer (on_ctx (read_world side.Server p.ends).server.backend c) r) (end_of side.Server (read_world side.Server p.ends)) left.handle.ctx
    × (left.handle.negotiated ≡ c.handle.negotiated)

shook : (b : BackendView) (s : ServerStage) (h : HandshakerView) → on_endpoint b s ≡ Shakes h → s ≡ Shakes h
shook b (Shakes k) h e = e
shook b (Serves c) h e = absurd cc

abbrev converter_or : ServerConverter → ServerStage → ServerConverter
converter_or c (Shakes h) = c
converter_or c (Serves d) = d

record Served (b : BackendView) (s : ServerStage) (c : ServerConverter) : Type 0 where
  before : ServerConverter
  stage : s ≡ Serves before
  same : on_ctx b before ≡ c

served : (b : BackendView) (s : ServerStage) (c : ServerConverter) → on_endpoint b s ≡ Serves c → Served b s c
served b (Shakes h) c e = absurd cc
served b (Serves d) c e = record { before = d; stage = refl; same = ap (converter_or c) e }

module _ {H : Type 0} (said : ShakesSaid H) (r : Request) (old : PairView H) (h left : HandshakerView) (answer : Result (Option EisHandshakeResp) Error) (ctx : BackendView) (pair : IsPair old) (keeps : Keeps old) (whole : old.ends.spent ≡ false) where
  shakes_at : (q : PairView H) → q ≡ server_taken old → ReadsRequest (Some (pending.Request r)) old.ends q.ends → q.server ≡ Shakes h → Handles h q.ends.server.backend r answer left ctx →
      HasSentAll true (settled_on answer h q.ends.server.backend.table.next_own) (end_of side.Server q.ends) ctx × (maps_of q.client (server_after answer left h.serial ctx) ≡ maps_of q.client q.server)
  shakes_at q e = subst (λ (t : PairView H). ReadsRequest (Some (pending.Request r)) old.ends t.ends → t.server ≡ Shakes h → Handles h t.ends.server.backend r answer left ctx →
      HasSentAll true (settled_on answer h t.ends.server.backend.table.next_own) (end_of side.Server t.ends) ctx × (maps_of t.client (server_after answer left h.serial ctx) ≡ maps_of t.client t.server)) (sym e)
      (λ reads stage handles.
      let was : old.server ≡ Shakes h = shook (read_world side.Server old.ends).server.backend old.server h stage in
      let both = said old h left r answer ctx whole pair keeps was reads handles in
      (both.0, both.1 ∙ ap (λ (s : ServerStage). maps_of old.client s) (was ∙ sym stage)))

module _ {H : Type 0} (said : ServesSaid H) (r : Request) (old : PairView H) (c left : ServerConverter) (before after : Option (List ℕ)) (answer : Result (Unit {0}) Error) (pair : IsPair old) (keeps : Keeps old) (whole : old.ends.spent ≡ false) where
  serves_at : (q : PairView H) → q ≡ server_taken old → ReadsRequest (Some (pending.Request r)) old.ends q.ends → q.server ≡ Serves c → HandlesAsked c r before answer after left →
      HasSentAll true (answered_on answer c r) (end_of side.Server q.ends) left.handle.ctx × (left.handle.negotiated ≡ c.handle.negotiated)
  serves_at q e = subst (λ (t : PairView H). ReadsRequest (Some (pending.Request r)) old.ends t.ends → t.server ≡ Serves c → HandlesAsked c r before answer after left →
      HasSentAll true (answered_on answer c r) (end_of side.Server t.ends) left.handle.ctx × (left.handle.negotiated ≡ c.handle.negotiated)) (sym e)
      (λ reads stage.
      let b : BackendView = (read_world side.Server old.ends).server.backend in
      let was : Served b old.server c = served b old.server c stage in
      subst (λ (d : ServerConverter). HandlesAsked d r before answer after left → HasSentAll true (answered_on answer d r) (end_of side.Server (read_world side.Server old.ends)) left.handle.ctx × (left.handle.negotiated ≡ d.handle.negotiated)) was.same
      (λ handles. said old was.before left r before after answer whole pair keeps was.stage reads handles))

pub server_laws : {H : Type 0} → ShakesSaid H → ServesSaid H → ServerLaws H
server_laws shakes serves = record {
  shakes = λ r p h left answer ctx t stage handles. (shakes_at shakes r t.old h left answer ctx t.kept.pair t.kept.keeps t.whole p t.is t.reads stage handles).0;
  maps = λ r p h left answer ctx t stage handles. (shakes_at shakes r t.old h left answer ctx t.kept.pair t.kept.keeps t.whole p t.is t.reads stage handles).1;
  serves = λ r p c left before after answer t stage handles. (serves_at serves r t.old c left before after answer t.kept.pair t.kept.keeps t.whole p t.is t.reads stage handles).0;
  keeps_map = λ r p c left before after answer t stage handles. (serves_at serves r t.old c left before after answer t.kept.pair t.kept.keeps t.whole p t.is t.reads stage handles).1;
}

-- ---- the client's

abbrev pub AsksSaid : Type 0 → Type 0
AsksSaid H = (p : PairView H) (k left : ClientView) (e : Event) (answer : Result (Option HandshakeResp) Error) (ctx : BackendView) → p.ends.spent ≡ false → IsPair p → Keeps p → p.client ≡ Asks k →
    ReadsEvent (Some (pending.Request e)) p.ends (read_world side.Client p.ends) → HandlesEvent k (read_world side.Client p.ends).client.backend e answer left ctx →
    HasSentAll false (asked_on answer k e) (end_of side.Client (read_world side.Client p.ends)) ctx
    × ((ctx ≡ (read_world side.Client p.ends).client.backend) ⊎ (client_after {H = H} answer left ≡ Asks left))

abbrev pub FollowsSaid : Type 0 → Type 0
FollowsSaid H = (p : PairView H) (f : ClientConverter H) (e : Event) (answer : Result (Unit {0}) Error) → p.ends.spent ≡ false → IsPair p → Keeps p → p.client ≡ Follows f → IsLawfulReason e →
    ReadsEvent (Some (pending.Request e)) p.ends (read_world side.Client p.ends) →
    HasSentAll false (ponged_on answer e) (end_of side.Client (read_world side.Client p.ends)) (answered_on_event answer e (read_world side.Client p.ends).client.backend)

asks_at : {H : Type 0} (said : AsksSaid H) (e : Event) (old : PairView H) (h left : ClientView) (answer : Result (Option HandshakeResp) Error) (ctx : BackendView) (pair : IsPair old) (keeps : Keeps old) (whole : old.ends.spent ≡ false) (q : PairView H) → q ≡ client_taken old →
    ReadsEvent (Some (pending.Request e)) old.ends q.ends → q.client ≡ Asks h → HandlesEvent h q.ends.client.backend e answer left ctx → HasSentAll false (asked_on answer h e) (end_of side.Client q.ends) ctx
asks_at {H} said e old h left answer ctx pair keeps whole q is = subst (λ (t : PairView H). ReadsEvent (Some (pending.Request e)) old.ends t.ends → t.client ≡ Asks h → HandlesEvent h t.ends.client.backend e answer left ctx →
    HasSentAll false (asked_on answer h e) (end_of side.Client t.ends) ctx) (sym is) (λ reads stage handles. (said old h left e answer ctx whole pair keeps stage reads handles).0)

follows_at : {H : Type 0} (said : FollowsSaid H) (e : Event) (old : PairView H) (c : ClientConverter H) (answer : Result (Unit {0}) Error) (pair : IsPair old) (keeps : Keeps old) (whole : old.ends.spent ≡ false) (reason : IsLawfulReason e) (q : PairView H) → q ≡ client_taken old →
    ReadsEvent (Some (pending.Request e)) old.ends q.ends → q.client ≡ Follows c → HasSentAll false (ponged_on answer e) (end_of side.Client q.ends) (answered_on_event answer e q.ends.client.backend)
follows_at {H} said e old c answer pair keeps whole reason q is = subst (λ (t : PairView H). ReadsEvent (Some (pending.Request e)) old.ends t.ends → t.client ≡ Follows c →
    HasSentAll false (ponged_on answer e) (end_of side.Client t.ends) (answered_on_event answer e t.ends.client.backend)) (sym is) (λ reads stage. said old c e answer whole pair keeps stage reason reads)

pub client_laws : {H : Type 0} → AsksSaid H → FollowsSaid H → ClientLaws H
client_laws asks follows = record {
  asks = λ e p h left answer ctx t stage handles. asks_at asks e t.old h left answer ctx t.kept.pair t.kept.keeps t.whole p t.is t.reads stage handles;
  follows = λ e p c left before after answer t stage handles. follows_at follows e t.old c answer t.kept.pair t.kept.keeps t.whole t.reason p t.is t.reads stage;
}
