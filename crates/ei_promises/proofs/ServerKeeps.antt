-- What a pair keeps at a step of its server.
use Rattle.std.proofs.Common.{◌≡◌, ℕ, Bool, true, false, ◌⊎◌, inl, inr, List, [], ◌∷◌, length, Option, Some, None, Result, Ok, Err, refl, sym, ap, subst, ◌∙◌}
use Rattle.ei_types.specs.declared.error.Error.{Error}
use Rattle.ei_types.specs.declared.error.Error.TheVariants as error
use Rattle.ei_session.specs.Meaning.{Meaning, Shakes as AskShakes, Syncs, Disconnects, Pongs, ReleasesSeat, Binds, RequestsDevice, Closes, Starts, Stops, Frames, Readies, Releases, Inputs}
use Rattle.ei_backend.specs.Backend.{BackendView, Gone, next}
use Rattle.ei_backend.specs.Endpoint.{endpoint_of}
use Rattle.ei_backend.specs.declared.message.PendingRequestResult.{PendingRequestResult}
use Rattle.ei_backend.specs.declared.message.PendingRequestResult.TheVariants as pending
use Rattle.ei_ends.specs.Sent.{Sent, Took}
use Rattle.ei_ends.specs.Way.{End}
use Rattle.ei_ends.specs.Steps.{with_taken}
use Rattle.ei_ends.specs.Joined.{Joined}
use Rattle.ei_ends.proofs.JoinedSteps.{turned}
use Rattle.ei_told.specs.Told.{messages}
use Rattle.ei_server.specs.declared.request.Request.{Request}
use Rattle.ei_server.specs.Request.{target_of as request_target}
use Rattle.ei_handshake.specs.declared.server.EisHandshakeResp.{EisHandshakeResp}
use Rattle.ei_handshake.specs.Client.{ClientView}
use Rattle.ei_handshake.specs.Handshaker.{HandshakerView, Handles}
use Rattle.ei_linked.specs.declared.side.Side.TheVariants as side
use Rattle.ei_linked.specs.Stored.{StoredEnd, end_in, sent_view, having_read}
use Rattle.ei_linked.specs.TwoEnds.{WorldView, IsWorld, end_of, with_end, read_world}
use Rattle.ei_linked.proofs.Kept as kept
use Rattle.ei_request.specs.Connection.{ConnectionView, new_connection}
use Rattle.ei_request.specs.Converter.{ConverterView as ServerConverter}
use Rattle.ei_request.specs.Handling.{Handles as HandlesAsked, handled}
use Rattle.ei_request.specs.Handling as handling
use Rattle.ei_request.specs.Held.{SeatView, DeviceView, is_seat, has_interface}
use Rattle.ei_request.specs.Keys.{DeviceKey}
use Rattle.ei_request.specs.declared.event.EisRequest.{EisRequest}
use Rattle.ei_request.specs.Typed.{meaning_of}
use Rattle.ei_spec.specs.Interface.{ObjectView}
use Rattle.std.specs.Prelude.{find}
use Rattle.std.specs.Str.{is_utf8}
use Rattle.std.proofs.lemmas.List.{length-map}
use Rattle.ei_shaking.specs.Sending.{AreVersions}
use Rattle.ei_acts.specs.Acting.{IsQuiet}
use Rattle.ei_acts.specs.Holding.{IsTargetOf}
use Rattle.ei_acts.specs.Allowed.{MayAnswer}
use Rattle.ei_acts.specs.Sendable.{IsEndOf}
use Rattle.ei_acts.specs.Serving.{Serves as IsServer}
use Rattle.ei_acts.proofs.Joining.{answer_sends, answer_may}
use Rattle.ei_acts.proofs.Serving.{serves_on}
use Rattle.ei_event.specs.Converter.{ConverterView as ClientConverter}
use Rattle.ei_promises.specs.Pair.{ClientStage, Asks, Follows, ServerStage, Shakes, Serves, PairView, IsPair, having_sent_all, on_endpoint, server_done}
use Rattle.ei_promises.specs.Stepping.{ReadsRequest, settled_on, server_after, answered_on, as_step, or_wanted, ServerSteps, StepsServer}
use Rattle.ei_promises.specs.Promises.{CallsBehind}
use Rattle.ei_promises.specs.Keeping.{HasSentAll, lists_at, AreAnswering, AreStuck, AreGreeting, IsServing, IsFollowing, Keeps}
use Rattle.ei_promises.proofs.Given.{ShakingLaws}
use Rattle.ei_promises.proofs.Greetings.{server_began, done_all}
use Rattle.ei_promises.proofs.Takes.{nothing_read, never_missed, AllStay, greeting_stays, taken_count}
use Rattle.ei_promises.proofs.Taking.{TookOne, took_one}
use Rattle.ei_promises.proofs.Received.{request_taken, request_joined, gone_taken}
use Rattle.ei_promises.proofs.Requests.{message_of}
use Rattle.ei_promises.proofs.InTime.{in_time}
use Rattle.ei_promises.proofs.Called.{server_answers}
use Rattle.ei_promises.proofs.Shook.{Shook, ToldOne, Finished, Wanted}
use Rattle.ei_promises.proofs.ServerShakes as shakes
use Rattle.ei_promises.proofs.ServerShakes.{pair}
use Rattle.ei_promises.proofs.ServerReads.{same_quiet, gone_table, read_quiet, is_target, may_answer}

-- ---- a server that serves takes a request

module _ (w : WorldView) (whole : w.spent ≡ false) (world : IsWorld w) (c : ServerConverter) (has : c.handle.ctx ≡ w.server.backend) (steady : Bool) (serves : IsServer (end_in w.server) c.handle steady)
    (r : Request) (reads : ReadsRequest (Some (pending.Request r)) w (read_world side.Server w)) where
  abbrev x : End
  x = end_in w.server

  abbrev y : End
  y = end_in w.client

  abbrev z : StoredEnd
  z = having_read false w.server

  -- the converter with the endpoint that the read left
  abbrev reader : ServerConverter
  reader = record c { handle = record c.handle { ctx = z.backend } }

  took : end_in z ≡ with_taken z.backend (Took (message_of r) (length w.server.sent)) x
  took = request_taken r w.server reads

  unread : Joined false y x w.to_server w.to_client
  unread = kept.ahead w whole world

  read : Joined false y (end_in z) w.to_server w.to_client
  read = request_joined r w.server reads y w.to_server w.to_client unread

  pub read_back : Joined true (end_in z) y w.to_client w.to_server
  read_back = turned false y (end_in z) w.to_server w.to_client read

  same_sent : (end_in z).sent ≡ x.sent
  same_sent = ap (λ (e : End). e.sent) took

  taken_is : (end_in z).taken ≡ Took (message_of r) (length w.server.sent) ∷ x.taken
  taken_is = ap (λ (e : End). e.taken) took

  one : TookOne false y (end_in z) (message_of r) (length w.server.sent) x.taken
  one = took_one false y (end_in z) w.to_server w.to_client (message_of r) (length w.server.sent) x.taken read taken_is

  quiet : IsQuiet c.handle reader.handle
  quiet = read_quiet x (end_in z) y w.to_client w.to_server (message_of r) unread read (length w.server.sent) one same_sent c.handle (sym has)

  end : IsEndOf (end_in z) reader.handle
  end = record { client = y; to_client = w.to_client; to_server = w.to_server; joined = read_back; backend = refl }

  pub serves_still : IsServer (end_in z) reader.handle steady
  serves_still = serves_on x (end_in z) c.handle reader.handle steady serves end same_sent quiet

  now : length w.server.sent ≡ length (end_in z).sent
  now = sym (ap length same_sent ∙ length-map w.server.sent sent_view)

  target : IsTargetOf (meaning_of r) z.backend.table (request_target r).id
  target = is_target x (end_in z) y w.to_client w.to_server (length w.server.sent) unread now same_sent r one taken_is

  may : MayAnswer (meaning_of r) (end_in z)
  may = may_answer x (end_in z) y w.to_client w.to_server (length w.server.sent) unread now same_sent r one taken_is

  -- ---- what it sent

  module _ (b a : Option (List ℕ)) (left : ServerConverter) where
    pub serves_sent : (answer : Result Unit Error) → HandlesAsked reader r b answer a left → HasSentAll true (answered_on answer reader r) (end_in z) left.handle.ctx
    serves_sent (Ok t) d = record {
      endpoint = ap (λ (s : ServerConverter). endpoint_of s.handle.ctx) d.does ∙ answer_sends reader (request_target r).id (meaning_of r) d.time target (end_in z) refl;
      listed = answer_may (end_in z) reader.handle (request_target r).id (meaning_of r) end target may;
    }
    serves_sent (Err e) d = record { endpoint = ap (λ (s : ServerConverter). endpoint_of s.handle.ctx) d.same; listed = tt }

    -- ---- and serves on
    pub serves_then : (answer : Result Unit Error) → HandlesAsked reader r b answer a left →
        IsServer (end_of side.Server (with_end side.Server (having_sent_all true (answered_on answer reader r) left.handle.ctx z) (read_world side.Server w))) left.handle steady
    serves_then (Ok t) d = (server_answers r (read_world side.Server w) reader left d.time steady read_back serves_still may target d.does).1
    serves_then (Err e) d = subst (λ (s : ServerConverter). IsServer (end_of side.Server (with_end side.Server (having_sent_all true [] s.handle.ctx z) (read_world side.Server w))) s.handle steady) (sym d.same) serves_still

-- ---- what was settled stays

closes_settled : (c : ServerConverter) (id time : ℕ) (make : DeviceKey → EisRequest) (o : Option DeviceView) → (handling.closes c id time make o).handle.negotiated ≡ c.handle.negotiated
closes_settled c id time make None = refl
closes_settled c id time make (Some d) = refl

hands_out_settled : (c : ServerConverter) (id serial time : ℕ) (o : Option DeviceView) → (handling.hands_out c id serial time o).handle.negotiated ≡ c.handle.negotiated
hands_out_settled c id serial time None = refl
hands_out_settled c id serial time (Some d) = refl

queues_settled : (c : ServerConverter) (make : ObjectView → EisRequest) (o : Option SeatView) → (handling.queues_of_seat c make o).handle.negotiated ≡ c.handle.negotiated
queues_settled c make None = refl
queues_settled c make (Some s) = refl

gives_up_settled : (c : ConnectionView) (id : ℕ) (o : Option DeviceView) → (handling.gives_up c id o).negotiated ≡ c.negotiated
gives_up_settled c id None = refl
gives_up_settled c id (Some d) = refl

pub handled_settled : (c : ServerConverter) (id : ℕ) (meaning : Meaning) (time : ℕ) → (handled c id meaning time).handle.negotiated ≡ c.handle.negotiated
handled_settled c id (AskShakes shake) time = refl
handled_settled c id (Syncs callback version) time = refl
handled_settled c id Disconnects time = refl
handled_settled c id (Pongs number) time = refl
handled_settled c id ReleasesSeat time = refl
handled_settled c id (Binds mask) time = queues_settled c (handling.bind_of mask) (find (is_seat id) c.handle.seats)
handled_settled c id (RequestsDevice mask) time = queues_settled c (handling.request_device_of mask) (find (is_seat id) c.handle.seats)
handled_settled c id Closes time = closes_settled c id time handling.closed_of (handling.device_in c id)
handled_settled c id (Starts serial sequence) time = closes_settled c id time (handling.start_of serial sequence) (handling.device_in c id)
handled_settled c id (Stops serial) time = closes_settled c id time (handling.stop_of serial) (handling.device_in c id)
handled_settled c id (Frames serial sent) time = hands_out_settled c id serial sent (handling.device_in c id)
handled_settled c id Readies time = closes_settled c id time handling.ready_of (handling.device_in c id)
handled_settled c id Releases time = gives_up_settled c.handle id (find (has_interface id) c.handle.devices)
handled_settled c id (Inputs i) time = refl

pub settled_still : (c left : ServerConverter) (r : Request) (b a : Option (List ℕ)) (answer : Result Unit Error) → HandlesAsked c r b answer a left → left.handle.negotiated ≡ c.handle.negotiated
settled_still c left r b a (Ok t) d = ap (λ (s : ServerConverter). s.handle.negotiated) d.does ∙ handled_settled c (request_target r).id (meaning_of r) d.time
settled_still c left r b a (Err e) d = ap (λ (s : ServerConverter). s.handle.negotiated) d.same

-- ---- the pair

pub pair_joined : {H : Type 0} (p : PairView H) → IsPair p → p.ends.spent ≡ false → Joined true (end_of side.Server p.ends) (end_of side.Client p.ends) p.ends.to_client p.ends.to_server
pair_joined p ok whole = kept.back p.ends whole ok.world

not_follows : {H : Type 0} (k : ClientView) (f : ClientConverter H) → ◌≡◌ {A = ClientStage H} (Asks k) (Follows f) → ⊥
not_follows k f e = cc

same_follows : {H : Type 0} (f g : ClientConverter H) → ◌≡◌ {A = ClientStage H} (Follows f) (Follows g) → f ≡ g
same_follows f g e = cc

-- a pair whose client shakes hands
pub asking_keeps : {H : Type 0} (w : WorldView) (k : ClientView) (s : ServerStage) (steady cw sw : Bool) → (w.spent ≡ false → AreGreeting {H = H} (Asks k) (pair w (Asks k) s steady cw sw)) → (w.spent ≡ false → IsServing {H = H} s (pair w (Asks k) s steady cw sw)) → Keeps {H = H} (pair w (Asks k) s steady cw sw)
asking_keeps w k s steady cw sw greeting serving = record {
  same = tt;
  in_time = λ c e. absurd (not_follows k c e);
  greeting = greeting;
  serving = serving;
  following = λ whole. tt;
}

-- and one whose client follows the server
pub following_keeps : {H : Type 0} (w : WorldView) (f : ClientConverter H) (c : ServerConverter) (steady cw sw : Bool) → IsPair {H = H} (pair w (Follows f) (Serves c) steady cw sw) → w.spent ≡ false → f.kept.negotiated ≡ c.handle.negotiated →
    IsServer (end_of side.Server w) c.handle steady → AreVersions c.handle.negotiated → IsFollowing f (end_of side.Client w) cw → Keeps {H = H} (pair w (Follows f) (Serves c) steady cw sw)
following_keeps {H} w f c steady cw sw ok whole same serves small follows = record {
  same = same;
  in_time = λ g e. subst (λ (h : ClientConverter H). CallsBehind h.receipts (end_of side.Client w).sent (length (end_of side.Server w).taken)) (same_follows f g e)
      (in_time (end_of side.Server w) (end_of side.Client w) w.to_client w.to_server f (end_of side.Client w).backend.table.next_own (pair_joined (pair w (Follows f) (Serves c) steady cw sw) ok whole) follows.handlers);
  greeting = λ _. refl;
  serving = λ _. (serves, small);
  following = λ _. follows;
}

-- ---- a step of a server that shakes hands

module _ (laws : ShakingLaws) {H : Type 0} (w : WorldView) (k : ClientView) (h : HandshakerView) (steady cw sw : Bool) (whole : w.spent ≡ false) (world : IsWorld w) (utf8 : is_utf8 k.greeter.name ≡ true)
    (a : AreAnswering {H = H} k (pair w (Asks k) (Shakes h) steady cw sw)) (r : Request) (reads : ReadsRequest (Some (pending.Request r)) w (read_world side.Server w)) (left : HandshakerView) (ctx : BackendView) where
  abbrev own_id : ℕ
  own_id = (having_read false w.server).backend.table.next_own

  abbrev then : Result (Option EisHandshakeResp) Error → PairView H
  then answer = pair (shakes.then laws {H = H} w k h steady cw sw whole world a r reads answer left ctx (settled_on answer h own_id)) (Asks k) (server_after answer left h.serial ctx) steady cw (or_wanted sw (as_step answer))

  wanted_then : (b : Bool) → or_wanted b (Err error.NoMemory) ≡ true
  wanted_then true = refl
  wanted_then false = refl

  shaken_keeps : (answer : Result (Option EisHandshakeResp) Error) → Handles h (having_read false w.server).backend r answer left ctx → IsPair (then answer) → Keeps (then answer)
  shaken_keeps answer d ok = by answer d (shakes.shakes_so laws {H = H} w k h steady cw sw whole world a r reads answer left ctx d) ok
    where
      by : (answer : Result (Option EisHandshakeResp) Error) → Handles h (having_read false w.server).backend r answer left ctx → Shook a.serial (messages (end_in w.server).taken) h (having_read false w.server).backend (message_of r) answer left ctx → IsPair (then answer) → Keeps (then answer)
      by answer d (ToldOne e f t c) = subst (λ (b : Result (Option EisHandshakeResp) Error). IsPair (then b) → Keeps (then b)) (sym e)
          (λ p. asking_keeps _ k (Shakes left) steady cw (or_wanted sw (Ok true)) (λ _. (utf8, inl (shakes.told_then laws {H = H} w k h steady cw sw whole world a r reads (Ok None) left ctx t f (or_wanted sw (Ok true))))) (λ _. tt))
      by answer d (Finished resp e f c) = subst (λ (b : Result (Option EisHandshakeResp) Error). IsPair (then b) → Keeps (then b)) (sym e)
          (λ p. asking_keeps _ k (Serves (record { handle = new_connection ctx resp h.serial; queue = [] })) steady cw (or_wanted sw (Ok true))
          (λ _. (utf8, inl (shakes.done_then laws {H = H} w k h steady cw sw whole world a r reads (Ok (Some resp)) left ctx resp f c (or_wanted sw (Ok true)))))
          (λ _. (shakes.serves_then laws {H = H} w k h steady cw sw whole world a r reads (Ok (Some resp)) left ctx resp c (pair_joined (then (Ok (Some resp))) p whole) steady, shakes.small_then laws {H = H} w k h steady cw sw whole world a r reads (Ok (Some resp)) left ctx resp c)))
      by answer d (Wanted e f c) = subst (λ (b : Result (Option EisHandshakeResp) Error). IsPair (then b) → Keeps (then b)) (sym e)
          (λ p. asking_keeps _ k (Shakes left) steady cw (or_wanted sw (Err error.NoMemory)) (λ _. (utf8, inr (shakes.stuck_then laws {H = H} w k h steady cw sw whole world a r reads (Err error.NoMemory) left ctx f (or_wanted sw (Err error.NoMemory)) (wanted_then sw)))) (λ _. tt))

-- ---- a step of a server that serves a client which follows it

module _ {H : Type 0} (w : WorldView) (f : ClientConverter H) (c : ServerConverter) (steady cw sw : Bool) (whole : w.spent ≡ false) (ok : IsPair {H = H} (pair w (Follows f) (Serves c) steady cw sw)) (keeps : Keeps {H = H} (pair w (Follows f) (Serves c) steady cw sw)) where
  -- it took a request
  served_keeps : (r : Request) (reads : ReadsRequest (Some (pending.Request r)) w (read_world side.Server w)) (b a : Option (List ℕ)) (answer : Result Unit Error) (left : ServerConverter) →
      HandlesAsked (reader w whole ok.world c ok.endpoint steady (keeps.serving whole).0 r reads) r b answer a left → (now_wanted : Bool) →
      IsPair {H = H} (pair (with_end side.Server (having_sent_all true (answered_on answer (reader w whole ok.world c ok.endpoint steady (keeps.serving whole).0 r reads) r) left.handle.ctx (having_read false w.server)) (read_world side.Server w)) (Follows f) (Serves left) steady cw now_wanted) →
      Keeps {H = H} (pair (with_end side.Server (having_sent_all true (answered_on answer (reader w whole ok.world c ok.endpoint steady (keeps.serving whole).0 r reads) r) left.handle.ctx (having_read false w.server)) (read_world side.Server w)) (Follows f) (Serves left) steady cw now_wanted)
  served_keeps r reads b a answer left d now_wanted ok_then =
      let settled = settled_still (reader w whole ok.world c ok.endpoint steady (keeps.serving whole).0 r reads) left r b a answer d in
      following_keeps _ f left steady cw now_wanted ok_then whole (keeps.same ∙ sym settled)
      (serves_then w whole ok.world c ok.endpoint steady (keeps.serving whole).0 r reads b a left answer d) (subst AreVersions (sym settled) (keeps.serving whole).1) (keeps.following whole)

  -- it took an id of no object
  gone_keeps : (id : ℕ) → next false w.server.backend ≡ (Gone id, (having_read false w.server).backend) →
      IsPair {H = H} (pair (read_world side.Server w) (Follows f) (Serves (record c { handle = record c.handle { ctx = (having_read false w.server).backend } })) steady cw sw) →
      Keeps {H = H} (pair (read_world side.Server w) (Follows f) (Serves (record c { handle = record c.handle { ctx = (having_read false w.server).backend } })) steady cw sw)
  gone_keeps id e ok_then =
      let z : StoredEnd = having_read false w.server in
      let new : ConnectionView = record c.handle { ctx = z.backend } in
      let table = gone_table false w.server.backend z.backend id e ∙ ap (λ (b : BackendView). b.table) (sym ok.endpoint) in
      let sent = ap (λ (q : End). q.sent) (gone_taken false id w.server e) in
      let joined = pair_joined {H = H} (pair (read_world side.Server w) (Follows f) (Serves (record c { handle = new })) steady cw sw) ok_then whole in
      let end : IsEndOf (end_in z) new = record { client = end_in w.client; to_client = w.to_client; to_server = w.to_server; joined = joined; backend = refl } in
      following_keeps (read_world side.Server w) f (record c { handle = new }) steady cw sw ok_then whole keeps.same
      (serves_on (end_in w.server) (end_in z) c.handle new steady (keeps.serving whole).0 end sent (same_quiet c.handle z.backend table)) (keeps.serving whole).1 (keeps.following whole)

-- ---- where memory was wanted

pub wanted_keeps : {H : Type 0} (w : WorldView) (k : ClientStage H) (s : ServerStage) (steady cw sw cw_then sw_then : Bool) → (cw_then ≡ false → cw ≡ false) → (sw_then ≡ false → sw ≡ false) → Keeps (pair w k s steady cw sw) → Keeps (pair w k s steady cw_then sw_then)
wanted_keeps {H} w (Asks k) s steady cw sw cw_then sw_then c d keeps = asking_keeps w k s steady cw_then sw_then (λ whole. ((keeps.greeting whole).0, by (keeps.greeting whole).1)) (by_stage s keeps.serving)
  where
    by : AreAnswering {H = H} k (pair w (Asks k) s steady cw sw) ⊎ AreStuck {H = H} (pair w (Asks k) s steady cw sw) → AreAnswering {H = H} k (pair w (Asks k) s steady cw_then sw_then) ⊎ AreStuck {H = H} (pair w (Asks k) s steady cw_then sw_then)
    by (inl a) = inl (record { serial = a.serial; small = a.small; shaking = a.shaking; server_misses = a.server_misses; client_misses = a.client_misses; server = a.server; versions = a.versions; unhanded = a.unhanded })
    by (inr a) = inr (record { why = λ fits want. a.why fits (c want.0, d want.1); shakes = a.shakes; server_waits = a.server_waits; client_waits = a.client_waits })

    by_stage : (t : ServerStage) → (w.spent ≡ false → IsServing {H = H} t (pair w (Asks k) t steady cw sw)) → w.spent ≡ false → IsServing {H = H} t (pair w (Asks k) t steady cw_then sw_then)
    by_stage (Shakes h) f whole = tt
    by_stage (Serves t) f whole = f whole
wanted_keeps {H} w (Follows f) s steady cw sw cw_then sw_then c d keeps = record {
  same = keeps.same;
  in_time = keeps.in_time;
  greeting = λ whole. keeps.greeting whole;
  serving = by_stage s keeps.serving;
  following = λ whole. let g = keeps.following whole in record { connection = g.connection; listens = λ e n. g.listens (c e) n; handlers = g.handlers };
}
  where
    by_stage : (t : ServerStage) → (w.spent ≡ false → IsServing {H = H} t (pair w (Follows f) t steady cw sw)) → w.spent ≡ false → IsServing {H = H} t (pair w (Follows f) t steady cw_then sw_then)
    by_stage (Shakes h) g whole = tt
    by_stage (Serves t) g whole = g whole

-- ---- any step of a server

-- an answer that gives no message and no id
abbrev pub GivesNone : {M : Type 0} → Option (PendingRequestResult M) → Type 0
GivesNone (Some (pending.Request r)) = ⊥
GivesNone (Some (pending.InvalidObject id)) = ⊥
GivesNone answer = Unit {0}

-- where the server took all that was sent nothing is read
pub reads_none : (w : WorldView) → w.spent ≡ false → IsWorld w → length (end_in w.server).taken ≡ length (end_in w.client).sent → (answer : Option (PendingRequestResult Request)) → ReadsRequest answer w (read_world side.Server w) → GivesNone answer
reads_none w whole world all None e = tt
reads_none w whole world all (Some (pending.Request r)) e = let g = nothing_read false (end_in w.client) (end_in w.server) w.to_server w.to_client _ _ (kept.ahead w whole world) all e in cc
reads_none w whole world all (Some (pending.InvalidObject id)) e = let g = nothing_read false (end_in w.client) (end_in w.server) w.to_server w.to_client _ _ (kept.ahead w whole world) all e in cc
reads_none w whole world all (Some (pending.ParseError f)) e = tt

none_steps : {H : Type 0} (answer : Option (PendingRequestResult Request)) (before after : Option (List ℕ)) (old taken : PairView H) (result : Result Bool Error) (new : PairView H) → GivesNone answer → ServerSteps answer before after old taken result new → (result ≡ Ok false) × (new ≡ old)
none_steps None before after old taken result new g s = (s.0, s.1)
none_steps (Some (pending.Request r)) before after old taken result new g s = absurd g
none_steps (Some (pending.InvalidObject id)) before after old taken result new g s = absurd g
none_steps (Some (pending.ParseError e)) before after old taken result new g s = absurd s

-- what a step does to a pair, and that it refuses nothing but for want of memory while the server shakes hands
pub record Steps {H : Type 0} (old : PairView H) (freely : Type 0) (result : Result Bool Error) (new : PairView H) : Type 0 where
  pub keeps : new.ends.spent ≡ false → IsPair new → Keeps new
  pub free : freely → (e : Error) → result ≡ Err e → e ≡ error.NoMemory

pub not_refused : (b : Bool) (result : Result Bool Error) → result ≡ Ok b → (e : Error) → result ≡ Err e → e ≡ error.NoMemory
not_refused b result is e f = let both : ◌≡◌ {A = Result Bool Error} (Ok b) (Err e) = sym is ∙ f in cc

pub refused_so : (why : Error) (result : Result Bool Error) → result ≡ Err why → why ≡ error.NoMemory → (e : Error) → result ≡ Err e → e ≡ error.NoMemory
refused_so why result is so e f = let both : ◌≡◌ {A = Result Bool Error} (Err why) (Err e) = sym is ∙ f in let same : why ≡ e = cc in sym same ∙ so

-- nothing was taken
same_steps : {H : Type 0} (old : PairView H) (freely : Type 0) (result : Result Bool Error) (new : PairView H) → Keeps old → (result ≡ Ok false) × (new ≡ old) → Steps old freely result new
same_steps old freely result new keeps s = record {
  keeps = λ whole ok. subst Keeps (sym s.1) keeps;
  free = λ f. not_refused false result s.0;
}

-- how a request was handled by the handshaker
shook_free : (serial : ℕ) (past : List Sent) (h : HandshakerView) (b : BackendView) (m : Sent) (answer : Result (Option EisHandshakeResp) Error) (left : HandshakerView) (ctx : BackendView) → Shook serial past h b m answer left ctx →
    (e : Error) → as_step answer ≡ Err e → e ≡ error.NoMemory
shook_free serial past h b m answer left ctx (ToldOne is f t c) e g = not_refused true (as_step answer) (ap as_step is) e g
shook_free serial past h b m answer left ctx (Finished resp is f c) e g = not_refused true (as_step answer) (ap as_step is) e g
shook_free serial past h b m answer left ctx (Wanted is f c) e g = refused_so error.NoMemory (as_step answer) (ap as_step is) refl e g

-- a server that shakes hands with a client that does
module _ (laws : ShakingLaws) {H : Type 0} (w : WorldView) (k : ClientView) (h : HandshakerView) (steady cw sw : Bool) (whole : w.spent ≡ false) (world : IsWorld w) (utf8 : is_utf8 k.greeter.name ≡ true) (keeps : Keeps {H = H} (pair w (Asks k) (Shakes h) steady cw sw))
    (a : AreAnswering {H = H} k (pair w (Asks k) (Shakes h) steady cw sw)) (before after : Option (List ℕ)) (result : Result Bool Error) (new : PairView H) where
  answering_steps : (answer : Option (PendingRequestResult Request)) → ReadsRequest answer w (read_world side.Server w) → ServerSteps answer before after (pair w (Asks k) (Shakes h) steady cw sw) (pair (read_world side.Server w) (Asks k) (Shakes h) steady cw sw) result new →
      Steps {H = H} (pair w (Asks k) (Shakes h) steady cw sw) (Unit {0}) result new
  answering_steps None reads s = same_steps (pair w (Asks k) (Shakes h) steady cw sw) (Unit {0}) result new keeps (s.0, s.1)
  answering_steps (Some (pending.InvalidObject id)) reads s =
      absurd (never_missed false (end_in w.client) (end_in w.server) w.to_server w.to_client id _ (kept.ahead w whole world)
      (subst (AllStay true) (sym (server_began k.greeter a.serial (lists_at side.Server w) (lists_at side.Client w) a.shaking a.server.unfinished)) greeting_stays) reads)
  answering_steps (Some (pending.ParseError e)) reads s = absurd s
  answering_steps (Some (pending.Request r)) reads s =
      let i = s.0 in record {
        keeps = λ spent ok. subst Keeps (sym (i.leaves ∙ same i.answer i.left i.ctx i.answers)) (shaken_keeps laws w k h steady cw sw whole world utf8 a r reads i.left i.ctx i.answer i.handles (subst IsPair (i.leaves ∙ same i.answer i.left i.ctx i.answers) ok));
        free = λ t e f. shook_free a.serial _ h _ (message_of r) i.answer i.left i.ctx (shakes.shakes_so laws {H = H} w k h steady cw sw whole world a r reads i.answer i.left i.ctx i.handles) e (sym i.answers ∙ f);
      }
    where
      same : (answer : Result (Option EisHandshakeResp) Error) (left : HandshakerView) (ctx : BackendView) → result ≡ as_step answer →
          pair {H = H} (with_end side.Server (having_sent_all true (settled_on answer h (having_read false w.server).backend.table.next_own) ctx (having_read false w.server)) (read_world side.Server w)) (Asks k) (server_after answer left h.serial ctx) steady cw (or_wanted sw result) ≡
          then laws {H = H} w k h steady cw sw whole world utf8 a r reads left ctx answer
      same answer left ctx e = ap (λ (q : Result Bool Error). pair {H = H} (with_end side.Server (having_sent_all true (settled_on answer h (having_read false w.server).backend.table.next_own) ctx (having_read false w.server)) (read_world side.Server w)) (Asks k) (server_after answer left h.serial ctx) steady cw (or_wanted sw q)) e

pub done_not : (s : ServerStage) → server_done s ≡ true → server_done s ≡ false → ⊥
done_not s t f = let both : true ≡ false = sym t ∙ f in cc

-- by where both stand
stage_steps : (laws : ShakingLaws) {H : Type 0} (w : WorldView) (k : ClientStage H) (s : ServerStage) (steady cw sw : Bool) → w.spent ≡ false → IsPair (pair w k s steady cw sw) → Keeps (pair w k s steady cw sw) → (before after : Option (List ℕ)) (result : Result Bool Error) (new : PairView H) →
    (answer : Option (PendingRequestResult Request)) → ReadsRequest answer w (read_world side.Server w) → ServerSteps answer before after (pair w k s steady cw sw) (pair (read_world side.Server w) k (on_endpoint (having_read false w.server).backend s) steady cw sw) result new →
    Steps (pair w k s steady cw sw) (server_done s ≡ false) result new
stage_steps laws {H} w (Asks k) (Shakes h) steady cw sw whole ok keeps before after result new answer reads s = by (keeps.greeting whole).1
  where
    by : AreAnswering {H = H} k (pair w (Asks k) (Shakes h) steady cw sw) ⊎ AreStuck {H = H} (pair w (Asks k) (Shakes h) steady cw sw) → Steps {H = H} (pair w (Asks k) (Shakes h) steady cw sw) (false ≡ false) result new
    by (inl a) = let t = answering_steps laws {H = H} w k h steady cw sw whole ok.world (keeps.greeting whole).0 keeps a before after result new answer reads s in record { keeps = t.keeps; free = λ f. t.free tt }
    by (inr a) = same_steps (pair w (Asks k) (Shakes h) steady cw sw) (false ≡ false) result new keeps (none_steps answer before after _ _ result new (reads_none w whole ok.world a.server_waits answer reads) s)
stage_steps laws {H} w (Asks k) (Serves c) steady cw sw whole ok keeps before after result new answer reads s = by (keeps.greeting whole).1
  where
    all : AreAnswering {H = H} k (pair w (Asks k) (Serves c) steady cw sw) → length (end_in w.server).taken ≡ length (end_in w.client).sent
    all a = sym (taken_count (end_in w.server).taken a.server_misses) ∙ done_all k.greeter a.serial (lists_at side.Server w) (lists_at side.Client w) a.shaking a.unhanded a.server.0

    by : AreAnswering {H = H} k (pair w (Asks k) (Serves c) steady cw sw) ⊎ AreStuck {H = H} (pair w (Asks k) (Serves c) steady cw sw) → Steps {H = H} (pair w (Asks k) (Serves c) steady cw sw) (true ≡ false) result new
    by (inl a) = same_steps (pair w (Asks k) (Serves c) steady cw sw) (true ≡ false) result new keeps (none_steps answer before after _ _ result new (reads_none w whole ok.world (all a) answer reads) s)
    by (inr a) = same_steps (pair w (Asks k) (Serves c) steady cw sw) (true ≡ false) result new keeps (none_steps answer before after _ _ result new (reads_none w whole ok.world a.server_waits answer reads) s)
stage_steps laws {H} w (Follows f) (Shakes h) steady cw sw whole ok keeps before after result new answer reads s = absurd (done_not (Shakes h) (keeps.greeting whole) refl)
stage_steps laws {H} w (Follows f) (Serves c) steady cw sw whole ok keeps before after result new None reads s = same_steps (pair w (Follows f) (Serves c) steady cw sw) (true ≡ false) result new keeps (s.0, s.1)
stage_steps laws {H} w (Follows f) (Serves c) steady cw sw whole ok keeps before after result new (Some (pending.InvalidObject id)) reads s = record {
  keeps = λ spent ok_then. subst Keeps (sym s.0.1) (gone_keeps w f c steady cw sw whole ok keeps id reads (subst IsPair s.0.1 ok_then));
  free = λ t. absurd (done_not (Serves c) refl t);
}
stage_steps laws {H} w (Follows f) (Serves c) steady cw sw whole ok keeps before after result new (Some (pending.ParseError e)) reads s = absurd s
stage_steps laws {H} w (Follows f) (Serves c) steady cw sw whole ok keeps before after result new (Some (pending.Request r)) reads s = record {
  keeps = λ spent ok_then. subst Keeps (sym s.leaves) (served_keeps w f c steady cw sw whole ok keeps r reads before after s.answer s.left s.handles (or_wanted sw result) (subst IsPair s.leaves ok_then));
  free = λ t. absurd (done_not (Serves c) refl t);
}

pub want_off : (b : Bool) → true ≡ false → b ≡ false
want_off b e = cc

pub server_steps : (laws : ShakingLaws) {H : Type 0} (p : PairView H) → p.ends.spent ≡ false → IsPair p → Keeps p → (before after : Option (List ℕ)) (result : Result Bool Error) (new : PairView H) → StepsServer p before after result new → Steps p (server_done p.server ≡ false) result new
server_steps laws {H} p whole ok keeps before after result new (inl s) = stage_steps laws p.ends p.client p.server p.steady p.client_wanted p.server_wanted whole ok keeps before after result new s.answer s.reads s.steps
server_steps laws {H} p whole ok keeps before after result new (inr s) = record {
  keeps = λ spent ok_then. subst Keeps (sym s.leaves) (wanted_keeps p.ends p.client p.server p.steady p.client_wanted p.server_wanted p.client_wanted true (λ e. e) (λ e. want_off p.server_wanted e) keeps);
  free = λ t. refused_so error.NoMemory result s.answers refl;
}
