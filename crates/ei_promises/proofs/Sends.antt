-- What an end of a pair sent for what it took, by where it stands.
use Rattle.std.proofs.Common.{◌≡◌, ℕ, ◌⊎◌, true, false, inl, inr, List, Option, Some, None, Result, refl, ap, subst}
use Rattle.std.specs.Str.{is_utf8}
use Rattle.ei_told.specs.Told.{messages}
use Rattle.ei_types.specs.declared.error.Error.{Error}
use Rattle.ei_backend.specs.Backend.{BackendView}
use Rattle.ei_backend.specs.declared.message.PendingRequestResult.TheVariants as pending
use Rattle.ei_client.specs.declared.event.Event.{Event}
use Rattle.ei_server.specs.declared.request.Request.{Request}
use Rattle.ei_handshake.specs.declared.client.HandshakeResp.{HandshakeResp}
use Rattle.ei_handshake.specs.declared.server.EisHandshakeResp.{EisHandshakeResp}
use Rattle.ei_handshake.specs.Client.{ClientView, HandlesEvent}
use Rattle.ei_handshake.specs.Handshaker.{HandshakerView, Handles}
use Rattle.ei_linked.specs.declared.side.Side.TheVariants as side
use Rattle.ei_linked.specs.Stored.{end_in}
use Rattle.ei_linked.specs.TwoEnds.{end_of, read_world}
use Rattle.ei_event.specs.Typed.{IsLawfulReason}
use Rattle.ei_event.specs.Converter.{ConverterView as ClientConverter}
use Rattle.ei_request.specs.Converter.{ConverterView as ServerConverter}
use Rattle.ei_request.specs.Handling.{Handles as HandlesAsked}
use Rattle.ei_promises.specs.Pair.{ClientStage, Asks, Follows, ServerStage, Shakes, Serves, PairView, IsPair, HasEndpoint, maps_of}
use Rattle.ei_promises.specs.Stepping.{ReadsRequest, ReadsEvent, settled_on, server_after, answered_on, asked_on, client_after, ponged_on, answered_on_event}
use Rattle.ei_promises.specs.Keeping.{HasSentAll, AreAnswering, AreStuck, IsServing, FollowsOn, Keeps}
use Rattle.ei_promises.proofs.Given.{ShakingLaws}
use Rattle.ei_promises.proofs.Asked.{Asked, Greeted, Silent, ToldOne, Handed}
use Rattle.ei_promises.proofs.ServerShakes as shakes
use Rattle.ei_promises.proofs.ServerShakes.{pair}
use Rattle.ei_promises.proofs.ServerKeeps as server
use Rattle.ei_promises.proofs.ServerKeeps.{done_not}
use Rattle.ei_promises.proofs.ClientAsks as asks
use Rattle.ei_promises.proofs.ClientFollows as follows
use Rattle.ei_promises.proofs.ClientFollows.{FollowingLaws}
use Rattle.ei_promises.proofs.ClientKeeps as client

-- a server that shakes hands
pub shakes_sent : (laws : ShakingLaws) {H : Type 0} (p : PairView H) → p.ends.spent ≡ false → IsPair p → Keeps p → (h : HandshakerView) → p.server ≡ Shakes h → (r : Request) → ReadsRequest (Some (pending.Request r)) p.ends (read_world side.Server p.ends) →
    (answer : Result (Option EisHandshakeResp) Error) (left : HandshakerView) (ctx : BackendView) → Handles h (read_world side.Server p.ends).server.backend r answer left ctx →
    HasSentAll true (settled_on answer h (read_world side.Server p.ends).server.backend.table.next_own) (end_of side.Server (read_world side.Server p.ends)) ctx × (maps_of p.client (server_after answer left h.serial ctx) ≡ maps_of p.client p.server)
shakes_sent laws {H} p whole ok keeps h is r reads answer left ctx d =
    by p.client (subst (λ (t : ServerStage). Keeps (pair p.ends p.client t p.steady p.client_wanted p.server_wanted)) is keeps)
  where
    by : (k : ClientStage H) → Keeps (pair p.ends k (Shakes h) p.steady p.client_wanted p.server_wanted) →
        HasSentAll true (settled_on answer h (read_world side.Server p.ends).server.backend.table.next_own) (end_of side.Server (read_world side.Server p.ends)) ctx × (maps_of k (server_after answer left h.serial ctx) ≡ maps_of k p.server)
    by (Asks k) there = (at (there.greeting whole).1, refl)
      where
        at : AreAnswering {H = H} k (pair p.ends (Asks k) (Shakes h) p.steady p.client_wanted p.server_wanted) ⊎ AreStuck {H = H} (pair p.ends (Asks k) (Shakes h) p.steady p.client_wanted p.server_wanted) →
            HasSentAll true (settled_on answer h (read_world side.Server p.ends).server.backend.table.next_own) (end_of side.Server (read_world side.Server p.ends)) ctx
        at (inl a) = shakes.shakes_sent laws {H = H} p.ends k h p.steady p.client_wanted p.server_wanted whole ok.world a r reads answer left ctx d
        at (inr a) = absurd (server.reads_none p.ends whole ok.world a.server_waits (Some (pending.Request r)) reads)
    by (Follows f) there = absurd (done_not (Shakes h) (there.greeting whole) refl)

-- a server that serves; what was settled stays
pub serves_sent : {H : Type 0} (p : PairView H) → p.ends.spent ≡ false → IsPair p → Keeps p → (c : ServerConverter) → p.server ≡ Serves c → (r : Request) → ReadsRequest (Some (pending.Request r)) p.ends (read_world side.Server p.ends) →
    (before after : Option (List ℕ)) (answer : Result Unit Error) (left : ServerConverter) → HandlesAsked (record c { handle = record c.handle { ctx = (read_world side.Server p.ends).server.backend } }) r before answer after left →
    HasSentAll true (answered_on answer (record c { handle = record c.handle { ctx = (read_world side.Server p.ends).server.backend } }) r) (end_of side.Server (read_world side.Server p.ends)) left.handle.ctx × (left.handle.negotiated ≡ c.handle.negotiated)
serves_sent {H} p whole ok keeps c is r reads before after answer left d =
    let endpoint : c.handle.ctx ≡ p.ends.server.backend = subst (λ (t : ServerStage). HasEndpoint t p.ends.server.backend) is ok.endpoint in
    let serving = subst (λ (t : ServerStage). IsServing t (pair p.ends p.client t p.steady p.client_wanted p.server_wanted)) is (keeps.serving whole) in (
      server.serves_sent p.ends whole ok.world c endpoint p.steady serving.0 r reads before after left answer d,
      server.settled_still (record c { handle = record c.handle { ctx = (read_world side.Server p.ends).server.backend } }) left r before after answer d,
    )

-- a client that shakes hands; where it is done then it sent nothing
pub asks_sent : (laws : ShakingLaws) (more : FollowingLaws) {H : Type 0} (p : PairView H) → p.ends.spent ≡ false → IsPair p → Keeps p → (k : ClientView) → p.client ≡ Asks k → (e : Event) → ReadsEvent (Some (pending.Request e)) p.ends (read_world side.Client p.ends) →
    (answer : Result (Option HandshakeResp) Error) (left : ClientView) (ctx : BackendView) → HandlesEvent k (read_world side.Client p.ends).client.backend e answer left ctx →
    HasSentAll false (asked_on answer k e) (end_of side.Client (read_world side.Client p.ends)) ctx × ((ctx ≡ (read_world side.Client p.ends).client.backend) ⊎ (client_after {H = H} answer left ≡ Asks left))
asks_sent laws more {H} p whole ok keeps k is e reads answer left ctx d =
    let there : Keeps {H = H} (pair p.ends (Asks k) p.server p.steady p.client_wanted p.server_wanted) = subst (λ (c : ClientStage H). Keeps (pair p.ends c p.server p.steady p.client_wanted p.server_wanted)) is keeps in
    by (there.greeting whole).0 (there.greeting whole).1
  where
    done : Asked (messages (end_in p.ends.client).taken) k (read_world side.Client p.ends).client.backend e answer left ctx → (ctx ≡ (read_world side.Client p.ends).client.backend) ⊎ (client_after {H = H} answer left ≡ Asks left)
    done (Greeted f b g l short c) = inr (ap (λ (q : Result (Option HandshakeResp) Error). client_after {H = H} q left) f)
    done (Silent why f b g l r c) = inr (ap (λ (q : Result (Option HandshakeResp) Error). client_after {H = H} q left) f)
    done (ToldOne f o c g l v same) = inr (ap (λ (q : Result (Option HandshakeResp) Error). client_after {H = H} q left) f)
    done (Handed serial connection proxy q resp f g h same) = inl same

    by : is_utf8 k.greeter.name ≡ true → AreAnswering {H = H} k (pair p.ends (Asks k) p.server p.steady p.client_wanted p.server_wanted) ⊎ AreStuck {H = H} (pair p.ends (Asks k) p.server p.steady p.client_wanted p.server_wanted) →
        HasSentAll false (asked_on answer k e) (end_of side.Client (read_world side.Client p.ends)) ctx × ((ctx ≡ (read_world side.Client p.ends).client.backend) ⊎ (client_after {H = H} answer left ≡ Asks left))
    by utf8 (inl a) = (
      asks.asks_sent laws more.first {H = H} p.ends k p.server p.steady p.client_wanted p.server_wanted whole ok.world utf8 a e reads answer left ctx d,
      done (asks.asks_so laws more.first {H = H} p.ends k p.server p.steady p.client_wanted p.server_wanted whole ok.world utf8 a e reads answer left ctx d),
    )
    by utf8 (inr a) = absurd (client.reads_none p.ends whole ok.world a.client_waits (Some (pending.Request e)) reads)

-- a client that follows the server
pub follows_sent : (more : FollowingLaws) {H : Type 0} (may : H → ℕ → ℕ → Type 0) (p : PairView H) → p.ends.spent ≡ false → IsPair p → Keeps p → (f : ClientConverter H) → p.client ≡ Follows f → (e : Event) → IsLawfulReason e → ReadsEvent (Some (pending.Request e)) p.ends (read_world side.Client p.ends) →
    (answer : Result Unit Error) → HasSentAll false (ponged_on answer e) (end_of side.Client (read_world side.Client p.ends)) (answered_on_event answer e (read_world side.Client p.ends).client.backend)
follows_sent more {H} may p whole ok keeps f is e lawful reads answer =
    let g = subst (λ (k : ClientStage H). FollowsOn k (pair p.ends k p.server p.steady p.client_wanted p.server_wanted)) is (keeps.following whole) in
    follows.sent_so more may p.ends f p.client_wanted whole ok.world g e lawful reads None None answer f
