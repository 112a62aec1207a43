-- A step of a server that shakes hands: what it sent, and what the pair keeps.
use Rattle.std.proofs.Common.{◌≡◌, ℕ, ◌<◌, ◌^◌, Bool, true, false, List, [], ◌∷◌, length, Option, Some, None, Result, refl, sym, ap, subst, ◌∙◌, lit<}
use Rattle.ei_spec.specs.declared.interface.KnownInterface.TheVariants as known
use Rattle.ei_spec.specs.NameMap.{NameMap}
use Rattle.ei_types.specs.declared.error.Error.{Error}
use Rattle.ei_session.specs.Meaning.{Shake, Finishes}
use Rattle.ei_backend.specs.Backend.{BackendView}
use Rattle.ei_backend.specs.Endpoint.{endpoint_of}
use Rattle.ei_backend.specs.Table.{own_end, first_server_id}
use Rattle.ei_backend.specs.declared.message.PendingRequestResult.TheVariants as pending
use Rattle.ei_ends.specs.Sent.{Sent, Took, row_of}
use Rattle.ei_ends.specs.Announced.{next_own}
use Rattle.ei_ends.specs.Way.{onto, End}
use Rattle.ei_ends.specs.Steps.{with_taken}
use Rattle.ei_ends.specs.Joined.{Joined, AreListedCalls}
use Rattle.ei_ends.proofs.JoinedSteps.{turned, next_id_is}
use Rattle.ei_told.specs.Told.{messages, NoneMissed, after_connection}
use Rattle.ei_shaking.specs.Messages.{greeting, settled_by}
use Rattle.ei_shaking.specs.Sending.{AreVersions}
use Rattle.ei_shaking.specs.Heard.{shake, refused, versions_told, version_in, says_finish, is_finish}
use Rattle.ei_shaking.specs.Both.{is_finished, server_answer, Side, Hears, AreShaking}
use Rattle.ei_server.specs.declared.request.Request.{Request}
use Rattle.ei_handshake.specs.declared.server.EisHandshakeResp.{EisHandshakeResp}
use Rattle.ei_handshake.specs.Client.{ClientView}
use Rattle.ei_handshake.specs.Handshaker.{HandshakerView, Handles, Completes}
use Rattle.ei_linked.specs.declared.side.Side.TheVariants as side
use Rattle.ei_linked.specs.Stored.{StoredEnd, end_in, having_read}
use Rattle.ei_linked.specs.TwoEnds.{WorldView, IsWorld, end_of, with_end, read_world}
use Rattle.ei_linked.proofs.Kept as kept
use Rattle.ei_request.specs.Connection.{ConnectionView, new_connection}
use Rattle.ei_acts.specs.Sendable.{AnnouncesIt, IsEndOf}
use Rattle.ei_acts.specs.Acting.{AllShake}
use Rattle.ei_acts.specs.Serving.{Serves as IsServer}
use Rattle.ei_acts.proofs.Fresh.{fresh}
use Rattle.ei_acts.proofs.Serving.{serves_first}
use Rattle.ei_promises.specs.Pair.{ClientStage, Asks, ServerStage, Shakes, Serves, PairView, having_sent_all}
use Rattle.ei_promises.specs.Stepping.{ReadsRequest, settled_on}
use Rattle.ei_promises.specs.Keeping.{HasSentAll, lists_at, WasTold, StandsAt, AreAnswering, AreStuck}
use Rattle.ei_promises.proofs.Lists.{not_both, has_more, up_to_first}
use Rattle.ei_promises.proofs.Given.{ShakingLaws}
use Rattle.ei_promises.proofs.Greetings.{IsToHandshake, server_began, server_next, finished_all, told_all, finish_answer, no_finish}
use Rattle.ei_promises.proofs.Takes.{hears, taken_count}
use Rattle.ei_promises.proofs.Settling.{settled_leaves, nothing_behind, connection_announced, settled_shake}
use Rattle.ei_promises.proofs.Storing.{sent_end}
use Rattle.ei_promises.proofs.Told.{no_version}
use Rattle.ei_promises.proofs.Received.{request_taken, request_joined}
use Rattle.ei_promises.proofs.Requests.{message_of}
use Rattle.ei_promises.proofs.Shook.{Shook, ToldOne, Finished, Wanted, shook}

first_next : next_own true (greeting ∷ []) ≡ first_server_id
unfolding next_own row_of
first_next = refl

own_end_of : (b : BackendView) → b.table.client ≡ false → b.table.next_own ≡ first_server_id → b.table.next_own < own_end b.table
own_end_of b c e = rw (c, e) (lit< tt)

finish_tells_none : (s : Option Shake) → says_finish s ≡ true → (name : List ℕ) → version_in name s ≡ None
finish_tells_none (Some Finishes) h name = refl
finish_tells_none s h name = absurd cc

abbrev pub pair : {H : Type 0} → WorldView → ClientStage H → ServerStage → Bool → Bool → Bool → PairView H
pair ends client server steady client_wanted server_wanted = record { ends = ends; client = client; server = server; steady = steady; client_wanted = client_wanted; server_wanted = server_wanted }

module _ (laws : ShakingLaws) {H : Type 0} (w : WorldView) (k : ClientView) (h : HandshakerView) (steady client_wanted server_wanted : Bool) (whole : w.spent ≡ false) (world : IsWorld w)
    (a : AreAnswering {H = H} k (pair w (Asks k) (Shakes h) steady client_wanted server_wanted)) (r : Request) (reads : ReadsRequest (Some (pending.Request r)) w (read_world side.Server w)) where
  abbrev pub x : End
  x = end_in w.server

  abbrev pub y : End
  y = end_in w.client

  abbrev pub z : StoredEnd
  z = having_read false w.server

  abbrev pub m : Sent
  m = message_of r

  abbrev pub past : List Sent
  past = messages x.taken

  took : end_in z ≡ with_taken z.backend (Took m (length w.server.sent)) x
  took = request_taken r w.server reads

  read : Joined false y (end_in z) w.to_server w.to_client
  read = request_joined r w.server reads y w.to_server w.to_client (kept.ahead w whole world)

  none : NoneMissed (end_in z).taken
  none = subst (λ (e : End). NoneMissed e.taken) (sym took) a.server_misses

  past_is : messages (end_in z).taken ≡ m ∷ past
  past_is = ap (λ (e : End). messages e.taken) took

  same_sent : (end_in z).sent ≡ x.sent
  same_sent = ap (λ (e : End). e.sent) took

  heard : Hears (m ∷ past) y.sent
  heard = subst (λ (l : List Sent). Hears l y.sent) past_is (hears false y (end_in z) w.to_server w.to_client read none)

  begun : x.sent ≡ greeting ∷ []
  begun = server_began k.greeter a.serial (lists_at side.Server w) (lists_at side.Client w) a.shaking a.server.unfinished

  to : IsToHandshake m
  to = server_next k.greeter a.serial (lists_at side.Server w) (lists_at side.Client w) a.shaking a.unhanded m heard

  ok : refused past (shake m) ≡ None
  ok = laws.server_refuses k.greeter a.serial (lists_at side.Server w) (lists_at side.Client w) a.shaking m heard a.server.unfinished

  pub id_is : z.backend.table.next_own ≡ first_server_id
  id_is =
      next_id_is true (end_in z) y w.to_client w.to_server (turned false y (end_in z) w.to_server w.to_client read)
      ∙ ap (next_own true) (same_sent ∙ begun) ∙ first_next

  ids : z.backend.table.next_own < own_end z.backend.table
  ids = own_end_of z.backend read.tied.there.objects.client_is id_is

  module _ (answer : Result (Option EisHandshakeResp) Error) (left : HandshakerView) (ctx : BackendView) where
    pub shakes_so : Handles h z.backend r answer left ctx → Shook a.serial past h z.backend m answer left ctx
    shakes_so d = shook a.serial past h z.backend r answer left ctx a.server ids to.0 ok d

    -- ---- what it sent

    settled_sent : (resp : EisHandshakeResp) → Completes 0 h z.backend resp left ctx → HasSentAll true (settled_by h.versions h.serial z.backend.table.next_own) (end_in z) ctx
    settled_sent resp c = record {
      endpoint = c.events ∙ ap endpoint_of (sym (settled_leaves h.versions h.serial (end_in z)));
      listed = subst (λ (id : ℕ). AreListedCalls true (settled_by h.versions h.serial id) (end_in z).sent (end_in z).taken) (sym id_is)
          (subst (λ (l : List Sent). AreListedCalls true (settled_by h.versions h.serial first_server_id) l (end_in z).taken) (sym (same_sent ∙ begun))
          (laws.may_settle h.versions h.serial (end_in z).taken (subst (λ (n : ℕ). n < 2 ^ 32) (sym a.server.serial_is) a.small) (subst AreVersions (sym a.server.versions) (laws.small past))));
    }

    nothing_sent : endpoint_of ctx ≡ endpoint_of z.backend → HasSentAll true [] (end_in z) ctx
    nothing_sent e = record { endpoint = e; listed = tt }

    sent_so : Shook a.serial past h z.backend m answer left ctx → HasSentAll true (settled_on answer h z.backend.table.next_own) (end_in z) ctx
    sent_so (ToldOne e f t c) = subst (λ (b : Result (Option EisHandshakeResp) Error). HasSentAll true (settled_on b h z.backend.table.next_own) (end_in z) ctx) (sym e) (nothing_sent (ap endpoint_of c))
    sent_so (Finished resp e f c) = subst (λ (b : Result (Option EisHandshakeResp) Error). HasSentAll true (settled_on b h z.backend.table.next_own) (end_in z) ctx) (sym e) (settled_sent resp c)
    sent_so (Wanted e f c) = subst (λ (b : Result (Option EisHandshakeResp) Error). HasSentAll true (settled_on b h z.backend.table.next_own) (end_in z) ctx) (sym e) (nothing_sent c)

    pub shakes_sent : Handles h z.backend r answer left ctx → HasSentAll true (settled_on answer h z.backend.table.next_own) (end_in z) ctx
    shakes_sent d = sent_so (shakes_so d)

    -- ---- what stands behind it

    -- the server's end once it sent these
    abbrev pub then : List Sent → WorldView
    then ms = with_end side.Server (having_sent_all true ms ctx z) (read_world side.Server w)

    end_then : (ms : List Sent) → AreListedCalls true ms (end_in z).sent (end_in z).taken → end_of side.Server (then ms) ≡ (let e : End = record { backend = ctx; sent = onto ms x.sent; taken = (end_in z).taken } in e)
    end_then ms l = sent_end true ms ctx z l ∙ ap (λ (s : List Sent). let e : End = record { backend = ctx; sent = onto ms s; taken = (end_in z).taken } in e) same_sent

    lists_then : (ms : List Sent) → AreListedCalls true ms (end_in z).sent (end_in z).taken → lists_at side.Server (then ms) ≡ (let l : Side = record { sent = onto ms x.sent; taken = m ∷ past } in l)
    lists_then ms l =
        ap (λ (e : End). let s : Side = record { sent = e.sent; taken = messages e.taken } in s) (end_then ms l)
        ∙ ap (λ (t : List Sent). let s : Side = record { sent = onto ms x.sent; taken = t } in s) past_is

    shaking_then : (ms : List Sent) → AreListedCalls true ms (end_in z).sent (end_in z).taken → ms ≡ server_answer a.serial past m → AreShaking k.greeter a.serial (lists_at side.Server (then ms)) (lists_at side.Client (then ms))
    shaking_then ms l is = subst (λ (s : Side). AreShaking k.greeter a.serial s (lists_at side.Client w)) (sym (lists_then ms l))
        (subst (λ (t : List Sent). AreShaking k.greeter a.serial (record { sent = onto t x.sent; taken = m ∷ past }) (lists_at side.Client w)) (sym is)
        (laws.server_takes k.greeter a.serial (lists_at side.Server w) (lists_at side.Client w) a.shaking m heard a.server.unfinished))

    answering_then : (ms : List Sent) (l : AreListedCalls true ms (end_in z).sent (end_in z).taken) → ms ≡ server_answer a.serial past m → (s : ServerStage) → StandsAt a.serial (m ∷ past) s → (sw : Bool) →
        AreAnswering {H = H} k (pair (then ms) (Asks k) s steady client_wanted sw)
    answering_then ms l is s stands sw = record {
      serial = a.serial;
      small = a.small;
      shaking = shaking_then ms l is;
      server_misses = subst (λ (e : End). NoneMissed e.taken) (sym (end_then ms l)) none;
      client_misses = a.client_misses;
      server = subst (λ (e : End). StandsAt a.serial (messages e.taken) s) (sym (end_then ms l)) (subst (λ (t : List Sent). StandsAt a.serial t s) (sym past_is) stands);
      versions = a.versions;
      unhanded = a.unhanded;
    }

    -- where it was told one thing more
    pub told_then : WasTold a.serial (m ∷ past) left → is_finish m ≡ false → (sw : Bool) → AreAnswering {H = H} k (pair (then []) (Asks k) (Shakes left) steady client_wanted sw)
    told_then t f sw = answering_then [] tt (sym (no_finish a.serial past m f)) (Shakes left) t sw

    -- where it is done
    settled_is : is_finish m ≡ true → settled_by h.versions h.serial z.backend.table.next_own ≡ server_answer a.serial past m
    settled_is f =
        ap (λ (id : ℕ). settled_by h.versions h.serial id) id_is ∙ ap (λ (v : NameMap). settled_by v h.serial first_server_id) a.server.versions
        ∙ ap (λ (n : ℕ). settled_by (versions_told past) n first_server_id) a.server.serial_is ∙ sym (finish_answer a.serial past m f)

    finished_now : is_finish m ≡ true → is_finished (m ∷ past) ≡ true
    finished_now f = has_more is_finish m past ∙ rw f refl

    stands_then : (resp : EisHandshakeResp) → is_finish m ≡ true → Completes 0 h z.backend resp left ctx → StandsAt a.serial (m ∷ past) (Serves (record { handle = new_connection ctx resp h.serial; queue = [] }))
    stands_then resp f c = (
      finished_now f,
      c.versions ∙ a.server.versions ∙ sym (no_version past m (finish_tells_none (shake m) f)) ∙ ap versions_told (sym (up_to_first is_finish m past a.server.unfinished)),
    )

    pub done_then : (resp : EisHandshakeResp) → is_finish m ≡ true → Completes 0 h z.backend resp left ctx → (sw : Bool) →
        AreAnswering {H = H} k (pair (then (settled_by h.versions h.serial z.backend.table.next_own)) (Asks k) (Serves (record { handle = new_connection ctx resp h.serial; queue = [] })) steady client_wanted sw)
    done_then resp f c sw = answering_then (settled_by h.versions h.serial z.backend.table.next_own) (settled_sent resp c).listed (settled_is f) (Serves (record { handle = new_connection ctx resp h.serial; queue = [] })) (stands_then resp f c) sw

    -- it serves the client from then on
    abbrev pub settled : List Sent
    settled = settled_by h.versions h.serial z.backend.table.next_own

    pub serves_then : (resp : EisHandshakeResp) → Completes 0 h z.backend resp left ctx → Joined true (end_of side.Server (then settled)) y w.to_client w.to_server → (steadily : Bool) →
        IsServer (end_of side.Server (then settled)) (new_connection ctx resp h.serial) steadily
    serves_then resp c j steadily =
        let e : End = end_of side.Server (then settled) in
        let conn : ConnectionView = new_connection ctx resp h.serial in
        let sent : e.sent ≡ onto settled (greeting ∷ []) = ap (λ (f : End). f.sent) (end_then settled (settled_sent resp c).listed) ∙ ap (onto settled) begun in
        let end : IsEndOf e conn = record { client = y; to_client = w.to_client; to_server = w.to_server; joined = j; backend = refl } in
        let all : AllShake e.sent = subst AllShake (sym sent) (settled_shake h.versions h.serial z.backend.table.next_own) in
        let first = fresh e conn end all refl refl in
        let announced : AnnouncesIt e.sent known.Connection conn.proxy =
        subst (λ (l : List Sent). AnnouncesIt l known.Connection conn.proxy) (sym sent) (rw c.connection (connection_announced h.versions h.serial z.backend.table.next_own)) in
        let behind : after_connection e.sent ≡ Some [] = ap after_connection sent ∙ nothing_behind h.versions h.serial z.backend.table.next_own in
        let s = serves_first e conn refl announced first behind in
        record { backend = s.backend; connection = s.connection; holds = s.holds; heard = λ t. s.heard refl }

    pub small_then : (resp : EisHandshakeResp) → Completes 0 h z.backend resp left ctx → AreVersions (new_connection ctx resp h.serial).negotiated
    small_then resp c = subst AreVersions (sym (c.versions ∙ a.server.versions)) (laws.small past)

    -- where memory was wanted it waits for ever
    pub stuck_then : is_finish m ≡ true → (sw : Bool) → sw ≡ true → AreStuck {H = H} (pair (then []) (Asks k) (Shakes left) steady client_wanted sw)
    stuck_then f sw wanted = record {
      why = λ fits want. not_both sw wanted want.1;
      shakes = refl;
      server_waits =
          let count : length (end_in z).taken ≡ length (messages (end_in z).taken) = sym (taken_count (end_in z).taken none) in
          let all = finished_all k.greeter a.serial (lists_at side.Server w) (lists_at side.Client w) a.shaking a.unhanded m past heard (finished_now f) in
          ap (λ (e : End). length e.taken) (end_then [] tt) ∙ count ∙ ap length past_is ∙ all;
      client_waits =
          let count : length y.taken ≡ length (messages y.taken) = sym (taken_count y.taken a.client_misses) in
          let all = told_all k.greeter a.serial (lists_at side.Server w) (lists_at side.Client w) a.shaking a.server.unfinished m heard in
          count ∙ all ∙ ap length (sym (ap (λ (e : End). e.sent) (end_then [] tt)));
    }
