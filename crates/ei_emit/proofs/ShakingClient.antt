-- A step of a client, while the two ends of its pair shake hands.
use Rattle.std.proofs.Common.{◌≡◌, ℕ, suc, ◌≤◌, Bool, true, false, inl, inr, List, [], ◌∷◌, length, Option, Some, None, Result, Ok, Err, refl, sym, ap, subst, ◌∙◌}
use Rattle.ei_types.specs.declared.error.Error.{Error}
use Rattle.ei_backend.specs.Backend.{BackendView}
use Rattle.ei_backend.specs.declared.message.PendingRequestResult.{PendingRequestResult}
use Rattle.ei_backend.specs.declared.message.PendingRequestResult.TheVariants as pending
use Rattle.ei_spec.specs.Interface.{ObjectView}
use Rattle.ei_ends.specs.Sent.{Sent, Got, Took}
use Rattle.ei_ends.specs.Way.{onto, End}
use Rattle.ei_ends.specs.Steps.{with_taken}
use Rattle.ei_ends.specs.Joined.{Joined}
use Rattle.ei_told.specs.Told.{messages, NoneMissed, hands_over}
use Rattle.ei_greeting.specs.Shaking.{Greeter, Connects}
use Rattle.ei_greeting.specs.Shaking.{Shake as Event_shake}
use Rattle.ei_shaking.specs.Messages.{greeting, version_events, connection_event, asked_by}
use Rattle.ei_shaking.specs.Heard.{event_shake}
use Rattle.ei_shaking.specs.Both.{Hears}
use Rattle.ei_client.specs.declared.event.Event.{Event}
use Rattle.ei_client.specs.declared.event.Event.TheVariants as event
use Rattle.ei_client.specs.declared.handshake.Event.TheVariants as told
use Rattle.ei_handshake.specs.declared.client.HandshakeResp.{HandshakeResp}
use Rattle.ei_handshake.specs.Client.{ClientView, HandsOver}
use Rattle.ei_linked.specs.declared.side.Side.TheVariants as side
use Rattle.ei_linked.specs.Stored.{end_in, having_read}
use Rattle.ei_linked.specs.TwoEnds.{WorldView, end_of, with_end, read_world}
use Rattle.ei_linked.proofs.Kept as kept
use Rattle.ei_event.specs.Connection.{connected}
use Rattle.ei_event.specs.Converter.{new_converter}
use Rattle.ei_request.specs.Converter.{ConverterView as ServerConverter}
use Rattle.ei_promises.specs.Pair.{ClientStage, Asks, Follows, ServerStage, Shakes, Serves, PairView, IsPair, HasEndpoint, having_sent_all, on_endpoint, server_done}
use Rattle.ei_promises.specs.Stepping.{ReadsEvent, ClientSteps, StepsClient, HandsEvent, asked_on, client_after, as_step, or_wanted}
use Rattle.ei_promises.specs.Keeping.{lists_at, StandsAt, AreAnswering, Keeps}
use Rattle.ei_promises.proofs.Given.{ShakingLaws}
use Rattle.ei_promises.proofs.Greetings.{settled_last, done_all}
use Rattle.ei_promises.proofs.Takes.{hears, taken_count}
use Rattle.ei_promises.proofs.Received.{event_taken, event_joined}
use Rattle.ei_promises.proofs.Events.{message_of, says_shake}
use Rattle.ei_promises.proofs.Asked.{Asked, Greeted, Silent, ToldOne, Handed}
use Rattle.ei_promises.proofs.ServerShakes.{pair}
use Rattle.ei_promises.proofs.ServerKeeps.{GivesNone}
use Rattle.ei_promises.proofs.ClientKeeps.{reads_none}
use Rattle.ei_promises.proofs.ClientAsks as asks
use Rattle.ei_promises.proofs.ClientAsks.{FirstHeeds}
use Rattle.ei_pair.specs.Stepped.{IsKept}
use Rattle.ei_emit.specs.Carried.{AnyAnswer}
use Rattle.ei_emit.proofs.Shaking.{HasSettled, HasFollowed, Stand, InHandshakes, settled_on, endpoint_on, greeter_is, still_unwanted, answering, told_all, last_handed, some_before}
use Rattle.ei_emit.proofs.Rests.{serving_on}

-- where nothing is read no message was taken
none_taken : {H : Type 0} (answer : Option (PendingRequestResult Event)) (before after : Option (List ℕ)) (old taken new : PairView H) → GivesNone answer →
    ClientSteps AnyAnswer answer before after old taken (Ok true) new → ⊥
none_taken None before after old taken new g s = let e = s.0 in absurd cc
none_taken (Some (pending.Request r)) before after old taken new g s = g
none_taken (Some (pending.InvalidObject id)) before after old taken new g s = g
none_taken (Some (pending.ParseError e)) before after old taken new g s = s

-- ---- the connection is handed over

connection_says : (start id : ℕ) → event_shake (connection_event start id) ≡ Some (Connects start id 1)
unfolding event_shake
connection_says start id = refl

same_serial : (a b id version : ℕ) (other : ℕ) → ◌≡◌ {A = Option Event_shake} (Some (Connects a id 1)) (Some (Connects b other version)) → b ≡ a
same_serial a b id version other e = cc

abbrev first_or : Sent → List Sent → Sent
first_or m [] = m
first_or m (n ∷ past) = n

abbrev behind_first : List Sent → List Sent
behind_first [] = []
behind_first (n ∷ past) = past

-- ---- a client that shakes hands takes an event

module _ (laws : ShakingLaws) (first_heeds : FirstHeeds) {H : Type 0} (g : Greeter) (start : ℕ) (w : WorldView) (k : ClientView) (s : ServerStage) (steady cw sw : Bool)
    (whole : w.spent ≡ false) (ok : IsPair {H = H} (pair w (Asks k) s steady cw sw))
    (keeps : Keeps {H = H} (pair w (Asks k) s steady cw sw)) (a : AreAnswering {H = H} k (pair w (Asks k) s steady cw sw))
    (i : InHandshakes {H = H} g start (pair w (Asks k) s steady cw sw)) (e : Event) (reads : ReadsEvent (Some (pending.Request e)) w (read_world side.Client w)) where
  abbrev past : List Sent
  past = messages (end_in w.client).taken

  took : end_in (having_read true w.client) ≡ with_taken (having_read true w.client).backend (Took (message_of e) (length w.client.sent)) (end_in w.client)
  took = event_taken e w.client reads

  taken_is : (end_in (having_read true w.client)).taken ≡ Took (message_of e) (length w.client.sent) ∷ (end_in w.client).taken
  taken_is = ap (λ (f : End). f.taken) took

  hears_it : Hears (message_of e ∷ past) (end_in w.server).sent
  hears_it =
      let read : Joined true (end_in w.server) (end_in (having_read true w.client)) w.to_client w.to_server = event_joined e w.client reads (end_in w.server) w.to_client w.to_server (kept.back w whole ok.world) in
      let none : NoneMissed (end_in (having_read true w.client)).taken = subst NoneMissed (sym taken_is) a.client_misses in
      subst (λ (l : List Got). Hears (messages l) (end_in w.server).sent) taken_is (hears true (end_in w.server) (end_in (having_read true w.client)) w.to_client w.to_server read none)

  module _ (left : ClientView) (ctx : BackendView) where
    -- the pair behind it
    abbrev ends_then : List Sent → WorldView
    ends_then ms = with_end side.Client (having_sent_all false ms ctx (having_read true w.client)) (read_world side.Client w)

    abbrev then : List Sent → ClientStage H → PairView H
    then ms c = pair (ends_then ms) c (on_endpoint w.server.backend s) steady (or_wanted cw (Ok true)) sw

    stays_unwanted : or_wanted cw (Ok true) ≡ false
    stays_unwanted = still_unwanted cw i.wanted.0

    -- the server is as it was
    settled_still : (ms : List Sent) (c : ServerConverter) → HasEndpoint (Serves c) w.server.backend → HasSettled start c w → HasSettled start (serving_on w.server.backend c) (ends_then ms)
    settled_still ms c has settled = settled_on start c w (ends_then ms) (ap (λ (b : BackendView). b.table) (sym has)) refl settled

    asks_stand : (ms : List Sent) (t : ServerStage) → HasEndpoint t w.server.backend → left.greeter ≡ k.greeter → Stand {H = H} g start w (Asks k) t →
        Stand {H = H} g start (ends_then ms) (Asks left) (on_endpoint w.server.backend t)
    asks_stand ms (Shakes h) has same stand = (same ∙ stand.0, stand.1)
    asks_stand ms (Serves c) has same stand = (same ∙ stand.0, settled_still ms c has stand.1)

    -- it shakes hands on
    asks_then : (ms : List Sent) → left.greeter ≡ k.greeter → InHandshakes g start (then ms (Asks left))
    asks_then ms same = record {
      steady = i.steady;
      wanted = (stays_unwanted, i.wanted.1);
      endpoint = endpoint_on s w.server.backend;
      stand = asks_stand ms s i.endpoint same i.stand;
    }

    -- or its handshake is done
    module _ (serial : ℕ) (connection proxy : ObjectView) (is : e ≡ event.Handshake proxy (told.Connection serial connection)) (resp : HandshakeResp)
        (d : HandsOver k serial connection resp left) where
      gives : hands_over (message_of e) ≡ true
      gives = ap (λ (f : Event). hands_over (message_of f)) is

      says : event_shake (message_of e) ≡ Some (Connects serial connection.id connection.version)
      says = ap (λ (f : Event). event_shake (message_of f)) is ∙ says_shake (event.Handshake proxy (told.Connection serial connection))

      module _ (c : ServerConverter) (settled : HasSettled start c w) (server_took : length (end_in w.server).taken ≡ length (end_in w.client).sent) where
        abbrev older : List Sent
        older = onto (version_events settled.versions) (greeting ∷ [])

        last : connection_event start settled.id ∷ older ≡ message_of e ∷ past
        last = last_handed settled.versions start settled.id (message_of e) past (end_in w.server).sent settled.sent hears_it gives

        serial_is : serial ≡ start
        serial_is = same_serial start serial settled.id connection.version connection.id
            (sym (connection_says start settled.id) ∙ ap (λ (l : List Sent). event_shake (first_or greeting l)) last ∙ says)

        all_sent_is : (end_in w.client).sent ≡ onto (asked_by g) []
        all_sent_is =
            told_all k.greeter a.serial (lists_at side.Server w) (lists_at side.Client w) a.shaking a.unhanded
            (subst (λ (l : List Sent). 1 ≤ length l) (ap behind_first last) (some_before settled.versions))
            ∙ ap (λ (q : Greeter). onto (asked_by q) []) (greeter_is H g start w k s i.stand)

        same_sent : (end_of side.Client (ends_then [])).sent ≡ (end_in w.client).sent
        same_sent = ap (λ (f : End). f.sent) took

        followed : HasFollowed {H = H} g start (new_converter (connected resp)) (ends_then [])
        followed = record {
          resp = resp;
          is = refl;
          serial = d.serial_is ∙ serial_is;
          sent = same_sent ∙ all_sent_is;
          client_all =
              ap length taken_is ∙ ap suc (sym (taken_count (end_in w.client).taken a.client_misses))
              ∙ ap length (sym last) ∙ ap length (sym (settled.sent ∙ settled_last settled.versions start settled.id (greeting ∷ [])));
          server_all = server_took ∙ ap length (sym same_sent);
        }

      handed_stand : (t : ServerStage) → HasEndpoint t w.server.backend → server_done t ≡ true → StandsAt a.serial (messages (end_in w.server).taken) t → Stand {H = H} g start w (Asks k) t →
          Stand {H = H} g start (ends_then []) (Follows (new_converter (connected resp))) (on_endpoint w.server.backend t)
      handed_stand (Shakes h) has done at stand = absurd (let both : false ≡ true = done in cc)
      handed_stand (Serves c) has done at stand = (
        followed c stand.1 (sym (taken_count (end_in w.server).taken a.server_misses) ∙ done_all k.greeter a.serial (lists_at side.Server w) (lists_at side.Client w) a.shaking a.unhanded at.0),
        settled_still [] c has stand.1,
      )

      handed_then : server_done s ≡ true → InHandshakes g start (then [] (Follows (new_converter (connected resp))))
      handed_then done = record {
        steady = i.steady;
        wanted = (stays_unwanted, i.wanted.1);
        endpoint = endpoint_on s w.server.backend;
        stand = handed_stand s i.endpoint done a.server i.stand;
      }

    -- by what the handshaker did
    by_asked : (answer : Result (Option HandshakeResp) Error) (new : PairView H) → Asked past k (having_read true w.client).backend e answer left ctx → Ok true ≡ as_step answer →
        new ≡ then (asked_on answer k e) (client_after answer left) → InHandshakes g start new
    by_asked answer new (Greeted f b h l short c) took_it leaves =
        let same : new ≡ then (asked_on answer k e) (Asks left) = leaves ∙ ap (λ (q : Result (Option HandshakeResp) Error). then (asked_on answer k e) (client_after q left)) f in
        subst (InHandshakes g start) (sym same) (asks_then (asked_on answer k e) (ap (λ (q : ClientView). q.greeter) l))
    by_asked answer new (Silent why f b h l r c) took_it leaves = absurd (let both : ◌≡◌ {A = Result Bool Error} (Ok true) (Err why) = took_it ∙ ap as_step f in cc)
    by_asked answer new (ToldOne f o c h l v same_ctx) took_it leaves =
        let same : new ≡ then (asked_on answer k e) (Asks left) = leaves ∙ ap (λ (q : Result (Option HandshakeResp) Error). then (asked_on answer k e) (client_after q left)) f in
        subst (InHandshakes g start) (sym same) (asks_then (asked_on answer k e) l)
    by_asked answer new (Handed serial connection proxy is resp f h d same_ctx) took_it leaves =
        let same : new ≡ then [] (Follows (new_converter (connected resp))) =
        leaves ∙ ap (λ (ms : List Sent). then ms (client_after answer left)) h ∙ ap (λ (q : Result (Option HandshakeResp) Error). then [] (client_after q left)) f in
        subst (InHandshakes g start) (sym same) (handed_then serial connection proxy is resp d
        (asks.done_then laws first_heeds {H = H} w k s steady cw sw whole ok.world (keeps.greeting whole).0 a e reads answer left ctx serial connection proxy is resp d).0)

  pub asked_then : (before after : Option (List ℕ)) (new : PairView H) →
      HandsEvent AnyAnswer (Asks k) e before after (pair (read_world side.Client w) (Asks k) (on_endpoint w.server.backend s) steady cw sw) (Ok true) new →
      InHandshakes g start new × (after ≡ before)
  asked_then before after new t =
      let q = t.0 in (
        by_asked q.left q.ctx q.answer new (asks.asks_so laws first_heeds {H = H} w k s steady cw sw whole ok.world (keeps.greeting whole).0 a e reads q.answer q.left q.ctx q.handles) q.answers q.leaves,
        t.1,
      )

-- ---- any step

module _ (laws : ShakingLaws) (first_heeds : FirstHeeds) {H : Type 0} (g : Greeter) (fits : length g.name ≤ 1048555) (start : ℕ) where
  by_answer : (w : WorldView) (k : ClientView) (t : ServerStage) (steady cw sw : Bool) → w.spent ≡ false → IsPair {H = H} (pair w (Asks k) t steady cw sw) → Keeps {H = H}
      (pair w (Asks k) t steady cw sw) → InHandshakes {H = H} g start (pair w (Asks k) t steady cw sw) →
      (before after : Option (List ℕ)) (new : PairView H) (answer : Option (PendingRequestResult Event)) → ReadsEvent answer w (read_world side.Client w) →
      ClientSteps AnyAnswer answer before after (pair w (Asks k) t steady cw sw) (pair (read_world side.Client w) (Asks k) (on_endpoint w.server.backend t) steady cw sw) (Ok true) new → InHandshakes g start new × (after ≡ before)
  by_answer w k t steady cw sw whole ok keeps i before after new None reads s = absurd (let e = s.0 in cc)
  by_answer w k t steady cw sw whole ok keeps i before after new (Some (pending.InvalidObject id)) reads s = absurd (let e = s.0.0 in cc)
  by_answer w k t steady cw sw whole ok keeps i before after new (Some (pending.ParseError e)) reads s = absurd s
  by_answer w k t steady cw sw whole ok keeps i before after new (Some (pending.Request e)) reads s =
      asked_then laws first_heeds {H = H} g start w k t steady cw sw whole ok keeps
      (answering g w k t steady cw sw fits (greeter_is H g start w k t i.stand) i.wanted.0 i.wanted.1 (keeps.greeting whole)) i e reads before after new s

  by_stage : (w : WorldView) (k : ClientStage H) (t : ServerStage) (steady cw sw : Bool) → w.spent ≡ false → IsPair (pair w k t steady cw sw) → Keeps (pair w k t steady cw sw) →
      InHandshakes g start (pair w k t steady cw sw) →
      (before after : Option (List ℕ)) (new : PairView H) (answer : Option (PendingRequestResult Event)) → ReadsEvent answer w (read_world side.Client w) →
      ClientSteps AnyAnswer answer before after (pair w k t steady cw sw) (pair (read_world side.Client w) k (on_endpoint w.server.backend t) steady cw sw) (Ok true) new → InHandshakes g start new × (after ≡ before)
  by_stage w (Asks k) t steady cw sw whole ok keeps i before after new answer reads s = by_answer w k t steady cw sw whole ok keeps i before after new answer reads s
  by_stage w (Follows f) (Serves c) steady cw sw whole ok keeps i before after new answer reads s =
      absurd (none_taken answer before after _ _ new (reads_none w whole ok.world i.stand.0.client_all answer reads) s)
  by_stage w (Follows f) (Shakes h) steady cw sw whole ok keeps i before after new answer reads s = absurd i.stand

  pub client_on : (p : PairView H) → p.ends.spent ≡ false → IsKept p → InHandshakes g start p → (before after : Option (List ℕ)) (new : PairView H) →
      StepsClient AnyAnswer p before after (Ok true) new → InHandshakes g start new × (after ≡ before)
  client_on p whole held i before after new (inl s) = by_stage p.ends p.client p.server p.steady p.client_wanted p.server_wanted whole held.pair held.keeps i before after new s.answer s.reads s.steps
  client_on p whole held i before after new (inr s) = absurd (let e = s.answers in cc)
