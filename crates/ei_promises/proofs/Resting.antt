-- What a pair keeps where nothing is sent or taken, at first, and once it is spent.
use Rattle.std.proofs.Common.{◌≡◌, ℕ, ◌<◌, ◌^◌, ◌⊎◌, Bool, true, false, inl, inr, List, [], ◌∷◌, map, length, Some, Result, Ok, Err, refl, sym, ap, subst, ◌∙◌, arith}
use Rattle.std.specs.Str.{is_utf8}
use Rattle.std.specs.FinMap as finite
use Rattle.ei_spec.specs.Piece.{Piece}
use Rattle.ei_types.specs.declared.enums.ContextType.{ContextType}
use Rattle.ei_wire.specs.declared.error.ReadError.{ReadError}
use Rattle.ei_wire.specs.declared.error.ReadError.TheVariants as read_error
use Rattle.ei_backend.specs.Backend.{BackendView}
use Rattle.ei_backend.specs.Table.{TableView}
use Rattle.ei_ends.specs.Sent.{Sent, Got}
use Rattle.ei_spec.specs.Interface.{Known}
use Rattle.ei_spec.specs.declared.interface.KnownInterface.TheVariants as known
use Rattle.ei_ends.specs.Joined.{heard}
use Rattle.ei_reported.specs.Said.{Said}
use Rattle.ei_told.specs.Told.{messages, all_said, NoneMissed}
use Rattle.ei_shaking.specs.Messages.{greeting}
use Rattle.ei_shaking.specs.Heard.{collected, is_connection}
use Rattle.ei_shaking.specs.Both.{is_handed, AreShaking}
use Rattle.ei_shaking.specs.Both.{Side as Lists}
use Rattle.ei_handler.specs.declared.receipt.Receipt.{Receipt}
use Rattle.ei_handshake.specs.Client.{greeter, unshaken}
use Rattle.ei_handshake.specs.Handshaker.{untold}
use Rattle.ei_linked.specs.declared.side.Side.{Side}
use Rattle.ei_linked.specs.declared.side.Side.TheVariants as side
use Rattle.ei_linked.specs.Stored.{StoredEnd, end_in, sent_view, got_view}
use Rattle.ei_linked.specs.Delivered.{delivered_end}
use Rattle.ei_linked.specs.TwoEnds.{WorldView, end_of, flushed_world, DeliversAt}
use Rattle.ei_event.specs.declared.event.EiEvent.{EiEvent}
use Rattle.ei_event.specs.Converter.{ConverterView as ClientConverter, with_queue}
use Rattle.ei_heeding.specs.Heeding.{Heeds}
use Rattle.ei_request.specs.declared.event.EisRequest.{EisRequest}
use Rattle.ei_request.specs.Connection.{ConnectionView}
use Rattle.ei_request.specs.Converter.{ConverterView as ServerConverter}
use Rattle.ei_acts.specs.Sendable.{IsEndOf}
use Rattle.ei_acts.proofs.Serving.{serves_on}
use Rattle.ei_promises.specs.Pair.{ClientStage, Asks, Follows, ServerStage, Shakes, Serves, PairView, IsPair, IsNew, with_ends, on_endpoint, server_done, client_done, maps_of, receipts_in}
use Rattle.ei_promises.specs.Stepping.{IsSpent}
use Rattle.ei_promises.specs.Promises.{AreSame, CallsBehind, Completes}
use Rattle.ei_promises.specs.Keeping.{lists_at, StandsAt, AreAnswering, AreStuck, AreGreeting, IsServing, IsFollowing, FollowsOn, KeepsHandlers, Listens, Keeps, SameLists}
use Rattle.ei_promises.proofs.Given.{ShakingLaws}
use Rattle.ei_promises.proofs.Lists.{not_both, none_has}
use Rattle.ei_promises.proofs.Takes.{taken_count}
use Rattle.ei_promises.proofs.Told.{told_first}
use Rattle.ei_promises.proofs.ServerShakes.{pair}
use Rattle.ei_promises.proofs.ServerReads.{same_quiet}
use Rattle.ei_promises.proofs.ServerKeeps.{pair_joined, asking_keeps, following_keeps}

-- ---- where bytes come or go

module _ (w v : WorldView) (s : SameLists w v) where
  lists_server : lists_at side.Server v ≡ lists_at side.Server w
  lists_server = rw (s.server_sent, s.server_taken) refl

  lists_client : lists_at side.Client v ≡ lists_at side.Client w
  lists_client = rw (s.client_sent, s.client_taken) refl

  server_taken : (end_in v.server).taken ≡ (end_in w.server).taken
  server_taken = rw (s.server_taken) refl

  client_taken : (end_in v.client).taken ≡ (end_in w.client).taken
  client_taken = rw (s.client_taken) refl

  server_sent : (end_in v.server).sent ≡ (end_in w.server).sent
  server_sent = rw (s.server_sent) refl

  client_sent : (end_in v.client).sent ≡ (end_in w.client).sent
  client_sent = rw (s.client_sent) refl

stands_on : (serial : ℕ) (past : List Sent) (t : ServerStage) (b : BackendView) → StandsAt serial past t → StandsAt serial past (on_endpoint b t)
stands_on serial past (Shakes h) b st = st
stands_on serial past (Serves c) b st = st

done_on : (t : ServerStage) (b : BackendView) → server_done (on_endpoint b t) ≡ server_done t
done_on (Shakes h) b = refl
done_on (Serves c) b = refl

-- the server serves on
serving_on : {H : Type 0} (w v : WorldView) (k : ClientStage H) (t : ServerStage) (steady cw sw : Bool) → SameLists w v → v.spent ≡ false → IsPair (pair w k t steady cw sw) → IsPair (pair v k (on_endpoint v.server.backend t) steady cw sw) → IsServing t (pair w k t steady cw sw) →
    IsServing (on_endpoint v.server.backend t) (pair v k (on_endpoint v.server.backend t) steady cw sw)
serving_on w v k (Shakes h) steady cw sw s whole ok ok_then i = tt
serving_on {H} w v k (Serves c) steady cw sw s whole ok ok_then i =
    let new : ConnectionView = record c.handle { ctx = v.server.backend } in
    let joined = pair_joined (pair v k (Serves (record c { handle = new })) steady cw sw) ok_then whole in
    let end : IsEndOf (end_in v.server) new = record { client = end_in v.client; to_client = v.to_client; to_server = v.to_server; joined = joined; backend = refl } in
    let table : v.server.backend.table ≡ c.handle.ctx.table = s.server_table ∙ ap (λ (b : BackendView). b.table) (sym ok.endpoint) in
    (serves_on (end_in w.server) (end_in v.server) c.handle new steady i.0 end (server_sent w v s) (same_quiet c.handle v.server.backend table), i.1)

pub moved_keeps : {H : Type 0} (w v : WorldView) (k : ClientStage H) (t : ServerStage) (steady cw sw : Bool) → SameLists w v → w.spent ≡ false → v.spent ≡ false → IsPair (pair w k t steady cw sw) → IsPair (pair v k (on_endpoint v.server.backend t) steady cw sw) →
    Keeps (pair w k t steady cw sw) → Keeps (pair v k (on_endpoint v.server.backend t) steady cw sw)
moved_keeps {H} w v (Asks k) t steady cw sw s whole still ok ok_then keeps =
    asking_keeps v k (on_endpoint v.server.backend t) steady cw sw (λ _. ((keeps.greeting whole).0, by (keeps.greeting whole).1)) (λ _. serving_on w v (Asks k) t steady cw sw s still ok ok_then (keeps.serving whole))
  where
    by : AreAnswering {H = H} k (pair w (Asks k) t steady cw sw) ⊎ AreStuck {H = H} (pair w (Asks k) t steady cw sw) →
        AreAnswering {H = H} k (pair v (Asks k) (on_endpoint v.server.backend t) steady cw sw) ⊎ AreStuck {H = H} (pair v (Asks k) (on_endpoint v.server.backend t) steady cw sw)
    by (inl a) = inl (record {
      serial = a.serial;
      small = a.small;
      shaking = subst (λ (l : Lists). AreShaking k.greeter a.serial l (lists_at side.Client v)) (sym (lists_server w v s)) (subst (AreShaking k.greeter a.serial (lists_at side.Server w)) (sym (lists_client w v s)) a.shaking);
      server_misses = subst NoneMissed (sym (server_taken w v s)) a.server_misses;
      client_misses = subst NoneMissed (sym (client_taken w v s)) a.client_misses;
      server = stands_on a.serial (messages (end_in v.server).taken) t v.server.backend (subst (λ (l : List Got). StandsAt a.serial (messages l) t) (sym (server_taken w v s)) a.server);
      versions = a.versions ∙ ap (λ (l : List Got). collected (messages l)) (sym (client_taken w v s));
      unhanded = ap (λ (l : List Got). is_handed (messages l)) (client_taken w v s) ∙ a.unhanded;
    })
    by (inr a) = inr (record {
      why = a.why;
      shakes = done_on t v.server.backend ∙ a.shakes;
      server_waits = ap length (server_taken w v s) ∙ a.server_waits ∙ ap length (sym (client_sent w v s));
      client_waits = ap length (client_taken w v s) ∙ a.client_waits ∙ ap length (sym (server_sent w v s));
    })
moved_keeps {H} w v (Follows f) (Shakes h) steady cw sw s whole still ok ok_then keeps = absurd (let d : false ≡ true = keeps.greeting whole in cc)
moved_keeps {H} w v (Follows f) (Serves c) steady cw sw s whole still ok ok_then keeps =
    let i = serving_on w v (Follows f) (Serves c) steady cw sw s still ok ok_then (keeps.serving whole) in
    let g = keeps.following whole in
    following_keeps v f (record c { handle = record c.handle { ctx = v.server.backend } }) steady cw sw ok_then still keeps.same i.0 i.1 (record {
      connection = subst (λ (l : List Got). heard true l f.kept.proxy.id ≡ Some (record { id = f.kept.proxy.id; interface = Known known.Connection; version = f.kept.proxy.version })) (sym (client_taken w v s)) g.connection;
      listens = λ want none. subst (λ (l : List Got). Listens (messages l) f.kept) (sym (client_taken w v s)) (g.listens want (subst NoneMissed (client_taken w v s) none));
      handlers = subst (λ (l : List Got). KeepsHandlers v.client.backend.table.next_own l f) (sym (client_taken w v s)) (subst (λ (b : TableView). KeepsHandlers b.next_own (end_in w.client).taken f) (sym s.client_table) g.handlers);
    })

pub moves : {H : Type 0} (p : PairView H) (v : WorldView) → SameLists p.ends v → p.ends.spent ≡ false → v.spent ≡ false → IsPair p → IsPair (with_ends v p) → Keeps p → Keeps (with_ends v p)
moves p v s whole still ok ok_then keeps = moved_keeps p.ends v p.client p.server p.steady p.client_wanted p.server_wanted s whole still ok ok_then keeps

-- what a flush and a delivery leave
pub flush_same : (s : Side) (w : WorldView) → SameLists w (flushed_world s w)
flush_same side.Client w = record { client_sent = refl; client_taken = refl; client_table = refl; server_sent = refl; server_taken = refl; server_table = refl }
flush_same side.Server w = record { client_sent = refl; client_taken = refl; client_table = refl; server_sent = refl; server_taken = refl; server_table = refl }

same_lists : (w v : WorldView) → v ≡ w → SameLists w v
same_lists w v e = rw e (record { client_sent = refl; client_taken = refl; client_table = refl; server_sent = refl; server_taken = refl; server_table = refl })

delivered_same : (n : ℕ) (bytes : List ℕ) (link : Piece) (x : StoredEnd) → ((delivered_end n bytes link x).sent ≡ x.sent) × ((delivered_end n bytes link x).taken ≡ x.taken) × ((delivered_end n bytes link x).backend.table ≡ x.backend.table)
delivered_same n [] link x = (refl, refl, refl)
delivered_same n (b ∷ bytes) link x = (refl, refl, refl)

pub deliver_same : (s : Side) (n : ℕ) (result : Result ℕ ReadError) (w v : WorldView) → DeliversAt s n result w v → SameLists w v
deliver_same side.Client n (Ok k) w v d = let t = delivered_same n w.to_client.bytes w.to_client w.client in rw d.3 (record { client_sent = t.0; client_taken = t.1; client_table = t.2; server_sent = refl; server_taken = refl; server_table = refl })
deliver_same side.Server n (Ok k) w v d = let t = delivered_same n w.to_server.bytes w.to_server w.server in rw d.3 (record { client_sent = refl; client_taken = refl; client_table = refl; server_sent = t.0; server_taken = t.1; server_table = t.2 })
deliver_same s n (Err read_error.UnexpectedEof) w v d = same_lists w v d.1
deliver_same side.Client n (Err read_error.HandleLimit) w v d = rw d.2 (record { client_sent = refl; client_taken = refl; client_table = refl; server_sent = refl; server_taken = refl; server_table = refl })
deliver_same side.Server n (Err read_error.HandleLimit) w v d = rw d.2 (record { client_sent = refl; client_taken = refl; client_table = refl; server_sent = refl; server_taken = refl; server_table = refl })
deliver_same s n (Err read_error.NoMemory) w v d = same_lists w v d.1
deliver_same s n (Err read_error.ReadFault) w v d = absurd d

-- ---- where a queue is handed out

pub client_queue_keeps : {H : Type 0} (p : PairView H) (f : ClientConverter H) (queue : List EiEvent) → p.client ≡ Follows f → Keeps p → Keeps (record p { client = Follows (with_queue queue f) })
client_queue_keeps {H} p f queue is keeps = record {
  same = same p.server (subst (λ (k : ClientStage H). AreSame (maps_of k p.server)) is keeps.same);
  in_time = λ g e. subst (λ (l : List Receipt). CallsBehind l (end_of side.Client p.ends).sent (length (end_of side.Server p.ends).taken)) (ap receipts_in e) (keeps.in_time f is);
  greeting = λ whole. subst (λ (k : ClientStage H). AreGreeting k p) is (keeps.greeting whole);
  serving = λ whole. by p.server (keeps.serving whole);
  following = λ whole.
      let g : IsFollowing f (end_of side.Client p.ends) p.client_wanted = subst (λ (k : ClientStage H). FollowsOn k p) is (keeps.following whole) in record {
        connection = g.connection;
        listens = λ want none. let l = g.listens want none in record { said = l.said; behind = l.behind; start = l.start; readings = l.readings; heeds = heeds_on l.start l.readings (all_said l.said) l.heeds; below = l.below };
        handlers = record { ended = g.handlers.ended; waits = g.handlers.waits; once = g.handlers.once };
      };
}
  where
    same : (t : ServerStage) → AreSame (maps_of {H = H} (Follows f) t) → AreSame (maps_of {H = H} (Follows (with_queue queue f)) t)
    same (Shakes h) e = tt
    same (Serves c) e = e

    by : (t : ServerStage) → IsServing t p → IsServing t (record p { client = Follows (with_queue queue f) })
    by (Shakes h) i = tt
    by (Serves c) i = i

    heeds_on : (start : ℕ) (readings : List ℕ) (said : List Said) → Heeds start said readings f.kept → Heeds start said readings (with_queue queue f).kept
    heeds_on start readings said h = record {
      follows = record { differ = h.follows.differ; seats = h.follows.seats; devices = h.follows.devices; interfaces = h.follows.interfaces; serial = h.follows.serial; frames = h.follows.frames };
      placed = h.placed;
    }

pub server_queue_keeps : {H : Type 0} (p : PairView H) (c : ServerConverter) (queue : List EisRequest) → p.server ≡ Serves c → Keeps p → Keeps (record p { server = Serves (record c { queue = queue }) })
server_queue_keeps {H} p c queue is keeps = by p.client p.server is keeps
  where
    queued : ServerStage
    queued = Serves (record c { queue = queue })

    greeted : (k : ClientStage H) → AreGreeting k (pair p.ends k (Serves c) p.steady p.client_wanted p.server_wanted) → AreGreeting k (pair p.ends k (Serves (record c { queue = queue })) p.steady p.client_wanted p.server_wanted)
    greeted (Asks k) (u, inl a) = (u, inl (record { serial = a.serial; small = a.small; shaking = a.shaking; server_misses = a.server_misses; client_misses = a.client_misses; server = a.server; versions = a.versions; unhanded = a.unhanded }))
    greeted (Asks k) (u, inr a) = (u, inr (record { why = a.why; shakes = a.shakes; server_waits = a.server_waits; client_waits = a.client_waits }))
    greeted (Follows f) d = d

    same : (k : ClientStage H) → AreSame (maps_of k (Serves c)) → AreSame (maps_of k (Serves (record c { queue = queue })))
    same (Asks k) e = tt
    same (Follows f) e = e

    following : (k : ClientStage H) → FollowsOn k (pair p.ends k (Serves c) p.steady p.client_wanted p.server_wanted) → FollowsOn k (pair p.ends k (Serves (record c { queue = queue })) p.steady p.client_wanted p.server_wanted)
    following (Asks k) g = tt
    following (Follows f) g = g

    by : (k : ClientStage H) (t : ServerStage) → t ≡ Serves c → Keeps (pair p.ends k t p.steady p.client_wanted p.server_wanted) → Keeps (pair p.ends k (Serves (record c { queue = queue })) p.steady p.client_wanted p.server_wanted)
    by k t e keeps =
        let there : Keeps (pair p.ends k (Serves c) p.steady p.client_wanted p.server_wanted) = subst (λ (q : ServerStage). Keeps (pair p.ends k q p.steady p.client_wanted p.server_wanted)) e keeps in
        record { same = same k there.same; in_time = there.in_time; greeting = λ whole. greeted k (there.greeting whole); serving = λ whole. there.serving whole; following = λ whole. following k (there.following whole) }

-- ---- a spent pair

pub spent_keeps : {H : Type 0} (old new : PairView H) → Keeps old → IsSpent old new → Keeps new
spent_keeps {H} old new keeps s = record {
  same = subst AreSame (sym s.maps) keeps.same;
  in_time = λ f e. by f e old.client refl;
  greeting = λ whole. absurd (not_both new.ends.spent s.spent whole);
  serving = λ whole. absurd (not_both new.ends.spent s.spent whole);
  following = λ whole. absurd (not_both new.ends.spent s.spent whole);
}
  where
    none_behind : (receipts : List Receipt) (sent : List Sent) (taken : ℕ) → receipts ≡ [] → CallsBehind receipts sent taken
    none_behind receipts sent taken e = subst (λ (l : List Receipt). CallsBehind l sent taken) (sym e) (record { heard = λ r h. let le = h.1 in absurd (omega (arith, le)); once = tt })

    same_lists_then : (l : List Receipt) → CallsBehind l (end_of side.Client old.ends).sent (length (end_of side.Server old.ends).taken) → CallsBehind l (end_of side.Client new.ends).sent (length (end_of side.Server new.ends).taken)
    same_lists_then l c = rw (s.client_sent, s.server_taken) c

    by : (f : ClientConverter H) → new.client ≡ Follows f → (k : ClientStage H) → old.client ≡ k → CallsBehind f.receipts (end_of side.Client new.ends).sent (length (end_of side.Server new.ends).taken)
    by f e (Asks k) is = none_behind f.receipts _ _ (sym (ap receipts_in e) ∙ s.receipts ∙ ap receipts_in is)
    by f e (Follows g) is =
        let same : g.receipts ≡ f.receipts = sym (ap receipts_in is) ∙ sym s.receipts ∙ ap receipts_in e in
        same_lists_then f.receipts (subst (λ (l : List Receipt). CallsBehind l (end_of side.Client old.ends).sent (length (end_of side.Server old.ends).taken)) same (keeps.in_time g is))

-- ---- what may be relied on

pub completes : (laws : ShakingLaws) {H : Type 0} (p : PairView H) → Keeps p → Completes p
completes laws {H} p keeps fits whole want client server = by p.client refl (keeps.greeting whole)
  where
    by : (k : ClientStage H) → p.client ≡ k → AreGreeting p.client p → (client_done p.client ≡ true) × (server_done p.server ≡ true)
    by (Follows f) is g = (ap client_done is, subst (λ (k : ClientStage H). AreGreeting k p) is g)
    by (Asks k) is g = at (subst (λ (q : ClientStage H). AreGreeting q p) is g).1
      where
        at : AreAnswering k p ⊎ AreStuck p → (client_done p.client ≡ true) × (server_done p.server ≡ true)
        at (inl a) =
            let s = taken_count (end_of side.Server p.ends).taken a.server_misses in
            let c = taken_count (end_of side.Client p.ends).taken a.client_misses in
            absurd (not_both (is_handed (messages (end_of side.Client p.ends).taken)) (laws.handed k.greeter a.serial (lists_at side.Server p.ends) (lists_at side.Client p.ends) a.shaking (s ∙ server) (c ∙ client)) a.unhanded)
        at (inr a) = absurd (a.why fits want)

-- ---- a new pair

none_collected : finite.empty ≡ collected []
unfolding collected
none_collected = refl

pub new_keeps : (laws : ShakingLaws) {H : Type 0} (name : List ℕ) (kind : ContextType) (serial : ℕ) (p : PairView H) → is_utf8 name ≡ true → serial < 2 ^ 32 → IsNew name kind serial p → Keeps p
new_keeps laws {H} name kind serial p utf8 small n =
    subst (λ (k : ClientStage H). Keeps (pair p.ends k p.server p.steady p.client_wanted p.server_wanted)) (sym n.client)
    (subst (λ (t : ServerStage). Keeps {H = H} (pair p.ends (Asks (unshaken (greeter name kind))) t p.steady p.client_wanted p.server_wanted)) (sym n.server)
    (asking_keeps p.ends (unshaken (greeter name kind)) (Shakes (untold serial)) p.steady p.client_wanted p.server_wanted (λ _. (utf8, inl first)) (λ _. tt)))
  where
    server_lists : lists_at side.Server p.ends ≡ (let l : Lists = record { sent = greeting ∷ []; taken = [] } in l)
    server_lists = ap (λ (x : StoredEnd). let l : Lists = record { sent = map sent_view x.sent; taken = messages (map got_view x.taken) } in l) n.server_end

    client_lists : lists_at side.Client p.ends ≡ (let l : Lists = record { sent = []; taken = [] } in l)
    client_lists = ap (λ (x : StoredEnd). let l : Lists = record { sent = map sent_view x.sent; taken = messages (map got_view x.taken) } in l) n.client_end

    none_taken : (end_in p.ends.server).taken ≡ []
    none_taken = ap (λ (x : StoredEnd). map got_view x.taken) n.server_end

    none_heard : (end_in p.ends.client).taken ≡ []
    none_heard = ap (λ (x : StoredEnd). map got_view x.taken) n.client_end

    first : AreAnswering {H = H} (unshaken (greeter name kind)) (pair p.ends (Asks (unshaken (greeter name kind))) (Shakes (untold serial)) p.steady p.client_wanted p.server_wanted)
    first = record {
      serial = serial;
      small = small;
      shaking = subst (λ (l : Lists). AreShaking (greeter name kind) serial l (lists_at side.Client p.ends)) (sym server_lists) (subst (AreShaking (greeter name kind) serial (record { sent = greeting ∷ []; taken = [] })) (sym client_lists) (laws.begins (greeter name kind) serial));
      server_misses = subst NoneMissed (sym none_taken) tt;
      client_misses = subst NoneMissed (sym none_heard) tt;
      server = subst (λ (l : List Got). StandsAt serial (messages l) (Shakes (untold serial))) (sym none_taken) (told_first serial);
      versions = none_collected ∙ ap (λ (l : List Got). collected (messages l)) (sym none_heard);
      unhanded = ap (λ (l : List Got). is_handed (messages l)) none_heard ∙ none_has is_connection;
    }
