-- What stays so of a pair whose two ends shake hands, while nothing is refused.
use Rattle.std.proofs.Common.{◌≡◌, ℕ, ◌≤◌, ◌⊎◌, Bool, true, false, cond, inl, inr, List, [], ◌∷◌, length, map, Ok, refl, sym, ap, subst, ◌∙◌, length-append, arith}
use Rattle.ei_spec.specs.NameMap.{NameMap}
use Rattle.ei_session.specs.Setup.{seat_id}
use Rattle.ei_backend.specs.Backend.{BackendView}
use Rattle.ei_backend.specs.Table.{TableView, found}
use Rattle.ei_ends.specs.Sent.{Sent}
use Rattle.ei_ends.specs.Way.{onto}
use Rattle.ei_told.specs.Told.{hands_over}
use Rattle.ei_greeting.specs.Shaking.{Greeter}
use Rattle.ei_shaking.specs.Messages.{greeting, version_events, connection_event, settled_by, asked_by}
use Rattle.ei_shaking.specs.Both.{has, is_handed, Side, Hears, AreShaking}
use Rattle.ei_linked.specs.declared.side.Side.TheVariants as side
use Rattle.ei_linked.specs.Stored.{sent_view, got_view}
use Rattle.ei_linked.specs.declared.record.Record.{Record}
use Rattle.ei_linked.specs.declared.record.Got.{Got as StoredGot}
use Rattle.ei_linked.specs.TwoEnds.{WorldView, end_of, HasTakenAll}
use Rattle.ei_handshake.specs.declared.client.HandshakeResp.{HandshakeResp}
use Rattle.ei_handshake.specs.Client.{ClientView}
use Rattle.ei_event.specs.Connection.{connected}
use Rattle.ei_event.specs.Converter.{ConverterView as ClientConverter, new_converter}
use Rattle.ei_request.specs.Converter.{ConverterView as ServerConverter}
use Rattle.ei_acts.specs.Acting.{IsFresh}
use Rattle.ei_acts.specs.Holding.{is_a_seat}
use Rattle.ei_promises.specs.Pair.{ClientStage, Asks, Follows, ServerStage, Shakes, Serves, PairView, HasEndpoint, on_endpoint}
use Rattle.ei_promises.specs.Stepping.{or_wanted}
use Rattle.ei_promises.specs.Promises.{NoneWanted}
use Rattle.ei_promises.specs.Keeping.{SameLists, AreAnswering, AreStuck, AreGreeting}
use Rattle.ei_promises.proofs.Lists.{onto_some, behind, has_more, none_has, whole_end}
use Rattle.ei_promises.proofs.Greetings.{settled_last, all_sent}
use Rattle.ei_promises.proofs.Settling.{AllTell, before_last}
use Rattle.ei_promises.proofs.ServerShakes.{pair}
use Rattle.ei_emit.specs.Carried.{IsMoved}
use Rattle.ei_emit.proofs.Rests.{serving_on}

-- ---- where both stand

-- the server's connection bears the serial and holds nothing, and its event is the last that the server sent
pub record HasSettled (start : ℕ) (c : ServerConverter) (w : WorldView) : Type 0 where
  pub fresh : IsFresh c.handle
  pub serial : c.handle.last_serial ≡ start
  pub next : c.handle.ctx.table.next_own ≡ seat_id
  pub versions : NameMap
  pub id : ℕ
  pub sent : (end_of side.Server w).sent ≡ onto (settled_by versions start id) (greeting ∷ [])

-- the client's converter was told nothing behind the connection, and each end took all that the other sent
pub record HasFollowed {H : Type 0} (g : Greeter) (start : ℕ) (f : ClientConverter H) (w : WorldView) : Type 0 where
  pub resp : HandshakeResp
  pub is : f ≡ new_converter (connected resp)
  pub serial : resp.serial ≡ start
  pub sent : (end_of side.Client w).sent ≡ onto (asked_by g) []
  pub client_all : HasTakenAll side.Client w
  pub server_all : HasTakenAll side.Server w

abbrev pub Stand : {H : Type 0} → Greeter → ℕ → WorldView → ClientStage H → ServerStage → Type 0
Stand g start w (Asks k) (Shakes h) = (k.greeter ≡ g) × (h.serial ≡ start)
Stand g start w (Asks k) (Serves c) = (k.greeter ≡ g) × HasSettled start c w
Stand g start w (Follows f) (Serves c) = HasFollowed g start f w × HasSettled start c w
Stand g start w (Follows f) (Shakes h) = ⊥

-- a pair whose client tells of itself so, and whose server's connection bears the serial
pub record InHandshakes {H : Type 0} (g : Greeter) (start : ℕ) (p : PairView H) : Type 0 where
  pub steady : p.steady ≡ true
  pub wanted : NoneWanted p
  pub endpoint : HasEndpoint p.server p.ends.server.backend
  pub stand : Stand g start p.ends p.client p.server

-- ---- where a step took a message, memory wasn't wanted

pub still_unwanted : (was : Bool) → was ≡ false → or_wanted was (Ok true) ≡ false
still_unwanted true e = cc
still_unwanted false e = refl

-- ---- where bytes come or go

fresh_on : (c : ServerConverter) (b : BackendView) → b.table ≡ c.handle.ctx.table → IsFresh c.handle → IsFresh (serving_on b c).handle
fresh_on c b table f = record { seats = f.seats; devices = f.devices; no_seat = λ id. ap (λ (t : TableView). is_a_seat (found t id)) table ∙ f.no_seat id }

pub settled_on : (start : ℕ) (c : ServerConverter) (w v : WorldView) → v.server.backend.table ≡ c.handle.ctx.table → (end_of side.Server v).sent ≡ (end_of side.Server w).sent →
    HasSettled start c w → HasSettled start (serving_on v.server.backend c) v
settled_on start c w v table sent s = record {
  fresh = fresh_on c v.server.backend table s.fresh;
  serial = s.serial;
  next = ap (λ (t : TableView). t.next_own) table ∙ s.next;
  versions = s.versions;
  id = s.id;
  sent = sent ∙ s.sent;
}

pub endpoint_on : (s : ServerStage) (b : BackendView) → HasEndpoint (on_endpoint b s) b
endpoint_on (Shakes h) b = tt
endpoint_on (Serves c) b = refl

module _ (w v : WorldView) (s : SameLists w v) where
  server_sent : (end_of side.Server v).sent ≡ (end_of side.Server w).sent
  server_sent = ap (λ (l : List Record). map sent_view l) s.server_sent

  client_sent : (end_of side.Client v).sent ≡ (end_of side.Client w).sent
  client_sent = ap (λ (l : List Record). map sent_view l) s.client_sent

  client_took : length (end_of side.Client v).taken ≡ length (end_of side.Client w).taken
  client_took = ap (λ (l : List StoredGot). length (map got_view l)) s.client_taken

  server_took : length (end_of side.Server v).taken ≡ length (end_of side.Server w).taken
  server_took = ap (λ (l : List StoredGot). length (map got_view l)) s.server_taken

  moved_stand : {H : Type 0} (g : Greeter) (start : ℕ) (k : ClientStage H) (t : ServerStage) → HasEndpoint t w.server.backend → Stand g start w k t → Stand g start v k (on_endpoint v.server.backend t)
  moved_stand g start (Asks k) (Shakes h) e i = i
  moved_stand g start (Asks k) (Serves c) e i = (i.0, settled_on start c w v (s.server_table ∙ ap (λ (b : BackendView). b.table) (sym e)) server_sent i.1)
  moved_stand g start (Follows f) (Serves c) e i = (
    record {
      resp = i.0.resp;
      is = i.0.is;
      serial = i.0.serial;
      sent = client_sent ∙ i.0.sent;
      client_all = client_took ∙ i.0.client_all ∙ ap length (sym server_sent);
      server_all = server_took ∙ i.0.server_all ∙ ap length (sym client_sent);
    },
    settled_on start c w v (s.server_table ∙ ap (λ (b : BackendView). b.table) (sym e)) server_sent i.1,
  )
  moved_stand g start (Follows f) (Shakes h) e i = i

pub moved_on : {H : Type 0} (g : Greeter) (start : ℕ) (old new : PairView H) → IsMoved old new → InHandshakes g start old → InHandshakes g start new
moved_on {H} g start old new m i = record {
  steady = ap (λ (p : PairView H). p.steady) m.kept ∙ i.steady;
  wanted = (ap (λ (p : PairView H). p.client_wanted) m.kept ∙ i.wanted.0, ap (λ (p : PairView H). p.server_wanted) m.kept ∙ i.wanted.1);
  endpoint = subst (λ (s : ServerStage). HasEndpoint s new.ends.server.backend) (sym server) (endpoint_on old.server new.ends.server.backend);
  stand = subst (λ (s : ServerStage). Stand g start new.ends new.client s) (sym server)
      (subst (λ (k : ClientStage H). Stand g start new.ends k (on_endpoint new.ends.server.backend old.server)) (sym (ap (λ (p : PairView H). p.client) m.kept))
      (moved_stand old.ends new.ends m.same g start old.client old.server i.endpoint i.stand));
}
  where
    server : new.server ≡ on_endpoint new.ends.server.backend old.server
    server = ap (λ (p : PairView H). p.server) m.kept

-- ---- each end answers the other

pub greeter_is : (H : Type 0) (g : Greeter) (start : ℕ) (w : WorldView) (k : ClientView) (t : ServerStage) → Stand {H = H} g start w (Asks k) t → k.greeter ≡ g
greeter_is H g start w k (Shakes h) i = i.0
greeter_is H g start w k (Serves c) i = i.0

pub answering : {H : Type 0} (g : Greeter) (w : WorldView) (k : ClientView) (s : ServerStage) (steady cw sw : Bool) → length g.name ≤ 1048555 → k.greeter ≡ g → cw ≡ false → sw ≡ false →
    AreGreeting {H = H} (Asks k) (pair w (Asks k) s steady cw sw) → AreAnswering {H = H} k (pair w (Asks k) s steady cw sw)
answering {H} g w k s steady cw sw fits is c d greeting = by greeting.1
  where
    by : AreAnswering {H = H} k (pair w (Asks k) s steady cw sw) ⊎ AreStuck {H = H} (pair w (Asks k) s steady cw sw) → AreAnswering {H = H} k (pair w (Asks k) s steady cw sw)
    by (inl a) = a
    by (inr stuck) = absurd (stuck.why (subst (λ (q : Greeter). length q.name ≤ 1048555) (sym is) fits) (c, d))

-- a client that was told something told all of itself
pub told_all : (g : Greeter) (serial : ℕ) (server client : Side) → AreShaking g serial server client → is_handed client.taken ≡ false → 1 ≤ length client.taken → client.sent ≡ onto (asked_by g) []
told_all g serial server client s off some = by client.taken refl some
  where
    by : (l : List Sent) → client.taken ≡ l → 1 ≤ length l → client.sent ≡ onto (asked_by g) []
    by [] e n = absurd (omega (arith, n))
    by (m ∷ past) e n = all_sent g serial server client s off m past e

-- ---- the connection's event

-- those before the connection's event hand nothing over
none_hands : (l : List Sent) → AllTell l → has hands_over l ≡ false
none_hands [] h = none_has hands_over
none_hands (m ∷ l) h = has_more hands_over m l ∙ rw (h.0.3, none_hands l h.1) refl

-- a message that hands the connection over is the last that the server sent, and what was taken before are all before it
pub last_handed : (versions : NameMap) (start id : ℕ) (m : Sent) (past sent : List Sent) → sent ≡ onto (settled_by versions start id) (greeting ∷ []) → Hears (m ∷ past) sent → hands_over m ≡ true →
    connection_event start id ∷ onto (version_events versions) (greeting ∷ []) ≡ m ∷ past
last_handed versions start id m past sent is hears passes =
    let b = behind (m ∷ past) sent hears in
    let older : List Sent = onto (version_events versions) (greeting ∷ []) in
    whole_end hands_over (connection_event start id) older b.0 (m ∷ past) (sym (settled_last versions start id (greeting ∷ [])) ∙ sym is ∙ sym b.1)
    (none_hands older (before_last versions)) (has_more hands_over m past ∙ ap (λ (c : Bool). cond c true (has hands_over past)) passes)

-- there are some before it
pub some_before : (versions : NameMap) → 1 ≤ length (onto (version_events versions) (greeting ∷ []))
some_before versions =
    let s = onto_some (version_events versions) (greeting ∷ []) in
    let l = ap length s.1 in
    omega (arith, l, length-append s.0 (greeting ∷ []))
