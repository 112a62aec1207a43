-- A step of a client that shakes hands: what it sent, and what the pair keeps.
use Rattle.std.proofs.Common.{◌≡◌, ℕ, ◌+◌, ◌≤◌, ◌⊎◌, Bool, true, false, inl, inr, List, [], ◌∷◌, ◌++◌, length, Option, Some, None, Result, refl, sym, ap, subst, ◌∙◌, length-append, arith}
use Rattle.std.specs.Prelude.{is_some, replicate}
use Rattle.std.specs.Int.{w32, to_le_bytes}
use Rattle.std.specs.Str.{is_utf8}
use Rattle.std.specs.Ordering.{nat_cmp}
use Rattle.std.specs.FinMap as finite
use Rattle.std.proofs.lemmas.Bool.{ltb-false, eq-eqb}
use Rattle.std.proofs.lemmas.List.{length-replicate}
use Rattle.ei_spec.specs.declared.interface.KnownInterface.TheVariants as known
use Rattle.ei_spec.specs.declared.limits.TheConstants.{MOST_MESSAGE_BYTES}
use Rattle.ei_spec.specs.History.{occurs}
use Rattle.ei_spec.specs.Interface.{Known, ObjectView}
use Rattle.ei_spec.specs.Message.{size, message}
use Rattle.ei_spec.specs.Value.{Letters, padding, text_bytes}
use Rattle.ei_types.specs.declared.error.Error.{Error}
use Rattle.ei_backend.specs.Backend.{BackendView}
use Rattle.ei_backend.specs.Endpoint.{endpoint_of}
use Rattle.ei_backend.specs.declared.message.PendingRequestResult.TheVariants as pending
use Rattle.ei_ends.specs.Sent.{Sent, Got, Took, row_of, new_of}
use Rattle.ei_ends.specs.Announced.{if_named}
use Rattle.ei_ends.specs.Way.{onto, End}
use Rattle.ei_ends.specs.Steps.{with_taken}
use Rattle.ei_ends.specs.Joined.{Joined, AreListedCalls, heard}
use Rattle.ei_reported.specs.Changes.{brought}
use Rattle.ei_told.specs.Told.{messages, NoneMissed, after_connection, behind_it, hands_over as gives_connection}
use Rattle.ei_greeting.specs.Shaking.{Greeter, Begins, Connects, is_long, with_version}
use Rattle.ei_greeting.specs.Shaking as greeter
use Rattle.ei_shaking.specs.Messages.{asked_by}
use Rattle.ei_shaking.specs.Heard.{event_shake, collected, versions_told, is_finish, is_connection, says_connection}
use Rattle.ei_shaking.specs.Both.{is_handed, is_finished, up_to, client_answer, Side, Hears, AreShaking}
use Rattle.ei_client.specs.declared.event.Event.{Event}
use Rattle.ei_client.specs.declared.event.Event.TheVariants as event
use Rattle.ei_client.specs.declared.handshake.Event.TheVariants as told
use Rattle.ei_handshake.specs.declared.client.HandshakeResp.{HandshakeResp}
use Rattle.ei_handshake.specs.Client.{ClientView, HandlesEvent, HandsOver}
use Rattle.ei_handshake.specs.Handshaker.{sends}
use Rattle.ei_linked.specs.declared.side.Side.TheVariants as side
use Rattle.ei_linked.specs.Stored.{StoredEnd, end_in, having_read}
use Rattle.ei_linked.specs.TwoEnds.{WorldView, IsWorld, end_of, with_end, read_world}
use Rattle.ei_linked.proofs.Kept as kept
use Rattle.ei_event.specs.Connection.{ConnectionView, connected}
use Rattle.ei_event.specs.Kept.{new_kept}
use Rattle.ei_event.specs.Converter.{new_converter}
use Rattle.ei_heeding.specs.Heeding.{Heeds}
use Rattle.ei_promises.specs.Pair.{Asks, Follows, ServerStage, Shakes, Serves, having_sent_all, server_done, maps_of}
use Rattle.ei_promises.specs.Stepping.{ReadsEvent, asked_on}
use Rattle.ei_promises.specs.Promises.{AreSame}
use Rattle.ei_promises.specs.Keeping.{HasSentAll, lists_at, StandsAt, AreAnswering, AreStuck, IsFollowing}
use Rattle.ei_promises.proofs.Lists.{not_both, behind, has_more, none_has, up_to_first}
use Rattle.ei_promises.proofs.Given.{ShakingLaws}
use Rattle.ei_promises.proofs.Greetings.{IsNext, goes_on, AllQuiet, client_next, server_began, nothing_sent, no_answer, client_quiet, unhanded}
use Rattle.ei_promises.proofs.Takes.{hears, taken_count}
use Rattle.ei_promises.proofs.Storing.{sent_end}
use Rattle.ei_promises.proofs.Received.{event_taken, event_joined}
use Rattle.ei_promises.proofs.Events.{message_of, says_shake}
use Rattle.ei_promises.proofs.Asked.{Asked, Greeted, Silent, ToldOne, Handed, asked}
use Rattle.ei_promises.proofs.ServerShakes.{pair}

-- ---- the name

le4_length : (n : ℕ) → length (to_le_bytes w32 n) ≡ 4
le4_length n = refl

replicate_length : (n : ℕ) → length (replicate {A = ℕ} n 0) ≡ n
replicate_length n = length-replicate {A = ℕ} n 0

-- a name that isn't too long for its message has so many bytes at most
name_fits : (g : Greeter) → is_long g 0 ≡ false → length g.name ≤ 1048555
name_fits g e =
    let t : List ℕ = g.name in
    let n : ℕ = length t + 1 in
    let fits : size (message 0 3 (Letters t ∷ [])) ≤ MOST_MESSAGE_BYTES = ltb-false _ _ e in
    let zeros = replicate_length (1 + padding n) in
    omega (arith, fits, zeros, length-append (text_bytes t) [], length-append (to_le_bytes w32 n ++ t) (replicate (1 + padding n) 0), length-append (to_le_bytes w32 n) t, le4_length n)

-- ---- an end that was told nothing more than its handshake

quiet_heard : (gots : List Got) (id : ℕ) → NoneMissed gots → AllQuiet (messages gots) → heard true gots id ≡ None
unfolding heard
quiet_heard [] id n q = refl
quiet_heard (Took r after ∷ gots) id n q = rw (quiet_heard gots id n q.1, q.0.0) refl
quiet_heard (g ∷ gots) id n q = absurd n

quiet_behind : (past : List Sent) → AllQuiet past → after_connection past ≡ None
unfolding after_connection
quiet_behind [] q = refl
quiet_behind (m ∷ past) q = ap (behind_it m) (quiet_behind past q.1) ∙ rw q.0.1 refl

first_behind : (m : Sent) (past : List Sent) → gives_connection m ≡ true → AllQuiet past → after_connection (m ∷ past) ≡ Some []
unfolding after_connection
first_behind m past h q = ap (behind_it m) (quiet_behind past q) ∙ rw h refl

heard_first : (m : Sent) (n : ℕ) (gots : List Got) (id : ℕ) (k : _) → NoneMissed gots → AllQuiet (messages gots) → new_of true m ≡ Some k → if_named id (Some k) ≡ Some k → heard true (Took m n ∷ gots) id ≡ Some k
unfolding heard
heard_first m n gots id k none q e s = rw (quiet_heard gots id none q, e) s

collected_again : (past : List Sent) (m : Sent) → collected (m ∷ past) ≡ with_version (collected past) (event_shake m)
unfolding collected
collected_again past m = refl

-- the event that hands the connection over
connection_new : (proxy connection : ObjectView) (serial : ℕ) → new_of true (message_of (event.Handshake proxy (told.Connection serial connection))) ≡ Some (record { id = connection.id; interface = Known known.Connection; version = connection.version })
unfolding row_of
connection_new proxy connection serial = refl

none_brought : (id : ℕ) → brought [] id ≡ true → ⊥
unfolding brought occurs
none_brought id e = cc

-- what a new converter keeps follows nothing yet
abbrev pub FirstHeeds : Type 0
FirstHeeds = (c : ConnectionView) → Heeds c.serial [] [] (new_kept c)

module _ (laws : ShakingLaws) (first_heeds : FirstHeeds) {H : Type 0} (w : WorldView) (k : ClientView) (s : ServerStage) (steady client_wanted server_wanted : Bool) (whole : w.spent ≡ false) (world : IsWorld w) (utf8 : is_utf8 k.greeter.name ≡ true)
    (a : AreAnswering {H = H} k (pair w (Asks k) s steady client_wanted server_wanted)) (e : Event) (reads : ReadsEvent (Some (pending.Request e)) w (read_world side.Client w)) where
  abbrev pub x : End
  x = end_in w.server

  abbrev pub y : End
  y = end_in w.client

  abbrev pub z : StoredEnd
  z = having_read true w.client

  abbrev pub m : Sent
  m = message_of e

  abbrev pub past : List Sent
  past = messages y.taken

  took : end_in z ≡ with_taken z.backend (Took m (length w.client.sent)) y
  took = event_taken e w.client reads

  read : Joined true x (end_in z) w.to_client w.to_server
  read = event_joined e w.client reads x w.to_client w.to_server (kept.back w whole world)

  none : NoneMissed (end_in z).taken
  none = subst (λ (f : End). NoneMissed f.taken) (sym took) a.client_misses

  past_is : messages (end_in z).taken ≡ m ∷ past
  past_is = ap (λ (f : End). messages f.taken) took

  same_sent : (end_in z).sent ≡ y.sent
  same_sent = ap (λ (f : End). f.sent) took

  hears_it : Hears (m ∷ past) x.sent
  hears_it = subst (λ (l : List Sent). Hears l x.sent) past_is (hears true x (end_in z) w.to_client w.to_server read none)

  next : IsNext m past
  next = client_next k.greeter a.serial (lists_at side.Server w) (lists_at side.Client w) a.shaking m hears_it a.unhanded

  some : is_some (event_shake m) ≡ true
  some = laws.client_refuses k.greeter a.serial (lists_at side.Server w) (lists_at side.Client w) a.shaking m hears_it a.unhanded

  to_zero : (l : List Sent) → IsNext m l → m.target ≡ 0
  to_zero [] n = ap (λ (q : Sent). q.target) n
  to_zero (p ∷ l) n = n.1

  quiet : AllQuiet past
  quiet = client_quiet k.greeter a.serial (lists_at side.Server w) (lists_at side.Client w) a.shaking a.unhanded

  -- where the server begins nothing was told before, so nothing was said
  first_told : (l : List Sent) → IsNext m l → event_shake m ≡ Some Begins → l ≡ []
  first_told [] n b = refl
  first_told (p ∷ l) n b = absurd (not_both (goes_on (event_shake m)) n.0 (ap goes_on b))

  silent_before : event_shake m ≡ Some Begins → y.sent ≡ []
  silent_before b = nothing_sent k.greeter a.serial (lists_at side.Server w) (lists_at side.Client w) a.shaking a.unhanded (first_told past next b)

  module _ (answer : Result (Option HandshakeResp) Error) (left : ClientView) (ctx : BackendView) where
    pub asks_so : HandlesEvent k z.backend e answer left ctx → Asked past k z.backend e answer left ctx
    asks_so d = asked past k z.backend e answer left ctx a.versions (to_zero past next) next some d

    -- ---- what it sent

    pub greeted_sent : event_shake m ≡ Some Begins → is_long k.greeter 0 ≡ false → endpoint_of ctx ≡ endpoint_of (sends z.backend (greeter.greeting k.greeter 0)) → HasSentAll false (asked_by k.greeter) (end_in z) ctx
    greeted_sent b short f = record {
      endpoint = f ∙ ap endpoint_of (sym (laws.client_sends k.greeter (end_in z)));
      listed = subst (λ (l : List Sent). AreListedCalls false (asked_by k.greeter) l (end_in z).taken) (sym (same_sent ∙ silent_before b)) (laws.client_may k.greeter (end_in z).taken utf8 (name_fits k.greeter short));
    }

    none_sent : endpoint_of ctx ≡ endpoint_of z.backend → HasSentAll false [] (end_in z) ctx
    none_sent f = record { endpoint = f; listed = tt }

    sent_so : Asked past k z.backend e answer left ctx → HasSentAll false (asked_on answer k e) (end_in z) ctx
    sent_so (Greeted f b g l short c) = subst (λ (ms : List Sent). HasSentAll false ms (end_in z) ctx) (sym g) (greeted_sent b short c)
    sent_so (Silent why f b g l long c) = subst (λ (ms : List Sent). HasSentAll false ms (end_in z) ctx) (sym g) (none_sent c)
    sent_so (ToldOne f o c g l v same) = subst (λ (ms : List Sent). HasSentAll false ms (end_in z) ctx) (sym g) (none_sent (ap endpoint_of same))
    sent_so (Handed serial connection proxy is resp f g d same) = subst (λ (ms : List Sent). HasSentAll false ms (end_in z) ctx) (sym g) (none_sent (ap endpoint_of same))

    pub asks_sent : HandlesEvent k z.backend e answer left ctx → HasSentAll false (asked_on answer k e) (end_in z) ctx
    asks_sent d = sent_so (asks_so d)

    -- ---- what stands behind it

    -- the client's end once it sent these
    abbrev pub then : List Sent → WorldView
    then ms = with_end side.Client (having_sent_all false ms ctx z) (read_world side.Client w)

    end_then : (ms : List Sent) → AreListedCalls false ms (end_in z).sent (end_in z).taken → end_of side.Client (then ms) ≡ (let f : End = record { backend = ctx; sent = onto ms y.sent; taken = (end_in z).taken } in f)
    end_then ms l = sent_end false ms ctx z l ∙ ap (λ (t : List Sent). let f : End = record { backend = ctx; sent = onto ms t; taken = (end_in z).taken } in f) same_sent

    lists_then : (ms : List Sent) → AreListedCalls false ms (end_in z).sent (end_in z).taken → lists_at side.Client (then ms) ≡ (let l : Side = record { sent = onto ms y.sent; taken = m ∷ past } in l)
    lists_then ms l =
        ap (λ (f : End). let t : Side = record { sent = f.sent; taken = messages f.taken } in t) (end_then ms l)
        ∙ ap (λ (t : List Sent). let u : Side = record { sent = onto ms y.sent; taken = t } in u) past_is

    shaking_then : (ms : List Sent) → AreListedCalls false ms (end_in z).sent (end_in z).taken → ms ≡ client_answer k.greeter (event_shake m) → AreShaking k.greeter a.serial (lists_at side.Server (then ms)) (lists_at side.Client (then ms))
    shaking_then ms l is = subst (AreShaking k.greeter a.serial (lists_at side.Server w)) (sym (lists_then ms l))
        (subst (λ (t : List Sent). AreShaking k.greeter a.serial (lists_at side.Server w) (record { sent = onto t y.sent; taken = m ∷ past })) (sym is)
        (laws.client_takes k.greeter a.serial (lists_at side.Server w) (lists_at side.Client w) a.shaking m hears_it a.unhanded))

    misses_then : (ms : List Sent) → AreListedCalls false ms (end_in z).sent (end_in z).taken → NoneMissed (end_of side.Client (then ms)).taken
    misses_then ms l = subst (λ (f : End). NoneMissed f.taken) (sym (end_then ms l)) none

    taken_then : (ms : List Sent) → AreListedCalls false ms (end_in z).sent (end_in z).taken → messages (end_of side.Client (then ms)).taken ≡ m ∷ past
    taken_then ms l = ap (λ (f : End). messages f.taken) (end_then ms l) ∙ past_is

    -- it shakes hands on
    answering_then : (ms : List Sent) (l : AreListedCalls false ms (end_in z).sent (end_in z).taken) → ms ≡ client_answer k.greeter (event_shake m) → left.greeter ≡ k.greeter → left.versions ≡ collected (m ∷ past) → is_connection m ≡ false → (cw : Bool) →
        AreAnswering {H = H} left (pair (then ms) (Asks left) s steady cw server_wanted)
    answering_then ms l is g v off cw = record {
      serial = a.serial;
      small = a.small;
      shaking = subst (λ (q : Greeter). AreShaking q a.serial (lists_at side.Server (then ms)) (lists_at side.Client (then ms))) (sym g) (shaking_then ms l is);
      server_misses = a.server_misses;
      client_misses = misses_then ms l;
      server = a.server;
      versions = v ∙ ap collected (sym (taken_then ms l));
      unhanded = ap is_handed (taken_then ms l) ∙ has_more is_connection m past ∙ rw off a.unhanded;
    }

    begins_collects : event_shake m ≡ Some Begins → collected (m ∷ past) ≡ collected past
    begins_collects b = collected_again past m ∙ ap (with_version (collected past)) b

    begins_open : event_shake m ≡ Some Begins → is_connection m ≡ false
    begins_open b = ap says_connection b

    pub greeted_then : event_shake m ≡ Some Begins → left ≡ k → (l : AreListedCalls false (asked_by k.greeter) (end_in z).sent (end_in z).taken) → (cw : Bool) → AreAnswering {H = H} left (pair (then (asked_by k.greeter)) (Asks left) s steady cw server_wanted)
    greeted_then b same l cw = answering_then (asked_by k.greeter) l (sym (ap (client_answer k.greeter) b)) (ap (λ (c : ClientView). c.greeter) same)
        (ap (λ (c : ClientView). c.versions) same ∙ a.versions ∙ sym (begins_collects b)) (begins_open b) cw

    pub told_then : goes_on (event_shake m) ≡ true → is_connection m ≡ false → left.greeter ≡ k.greeter → left.versions ≡ collected (m ∷ past) → (cw : Bool) → AreAnswering {H = H} left (pair (then []) (Asks left) s steady cw server_wanted)
    told_then o off g v cw = answering_then [] tt (sym (no_answer k.greeter (event_shake m) o)) g v off cw

    -- the server waits for a client that is silent
    unfinished : y.sent ≡ [] → is_finished (messages x.taken) ≡ false
    unfinished none_said =
        let b = behind (messages x.taken) y.sent a.shaking.server_hears in
        by (messages x.taken) b.0 (b.1 ∙ none_said)
      where
        by : (l newer : List Sent) → newer ++ l ≡ [] → is_finished l ≡ false
        by [] newer f = none_has is_finish
        by (p ∷ l) newer f = absurd (let n = ap length f in omega (arith, n, length-append newer (p ∷ l)))

    waits_for_nothing : y.sent ≡ [] → length x.taken ≡ length y.sent
    waits_for_nothing none_said =
        let b = behind (messages x.taken) y.sent a.shaking.server_hears in
        let n = ap length (b.1 ∙ none_said) in
        let count = taken_count x.taken a.server_misses in
        let zero = ap length none_said in
        omega (arith, n, count, zero, length-append b.0 (messages x.taken))

    not_done : (t : ServerStage) → StandsAt a.serial (messages x.taken) t → is_finished (messages x.taken) ≡ false → server_done t ≡ false
    not_done (Shakes h) st n = refl
    not_done (Serves c) st n = absurd (not_both (is_finished (messages x.taken)) st.0 n)

    pub stuck_then : event_shake m ≡ Some Begins → left ≡ k → (cw : Bool) → (cw ≡ true) ⊎ (is_long k.greeter 0 ≡ true) → AreStuck {H = H} (pair (then []) (Asks left) s steady cw server_wanted)
    stuck_then b same cw why =
        let said = silent_before b in
        let off = unfinished said in
        let began = server_began k.greeter a.serial (lists_at side.Server w) (lists_at side.Client w) a.shaking off in
        record {
          why = λ fits want. reason why fits want.0;
          shakes = not_done s a.server off;
          server_waits = waits_for_nothing said ∙ ap length (sym (ap (λ (f : End). f.sent) (end_then [] tt)));
          client_waits =
              let none_told : past ≡ [] = first_told past next b in
              let count : length (end_of side.Client (then [])).taken ≡ length (messages (end_of side.Client (then [])).taken) = sym (taken_count (end_of side.Client (then [])).taken (misses_then [] tt)) in
              count ∙ ap length (taken_then [] tt ∙ ap (λ (l : List Sent). m ∷ l) none_told) ∙ ap length (sym began);
        }
      where
        reason : (cw ≡ true) ⊎ (is_long k.greeter 0 ≡ true) → length left.greeter.name ≤ 1048555 → cw ≡ false → ⊥
        reason (inl t) fits f = not_both cw t f
        reason (inr long) fits f = not_both (is_long k.greeter 0) long (laws.short k.greeter (subst (λ (c : ClientView). length c.greeter.name ≤ 1048555) same fits))

    -- ---- the connection is handed over

    module _ (serial : ℕ) (connection proxy : ObjectView) (is : e ≡ event.Handshake proxy (told.Connection serial connection)) (resp : HandshakeResp) (d : HandsOver k serial connection resp left) where
      says_it : event_shake m ≡ Some (Connects serial connection.id connection.version)
      says_it = ap (λ (f : Event). event_shake (message_of f)) is ∙ says_shake (event.Handshake proxy (told.Connection serial connection))

      handed_now : is_handed (m ∷ past) ≡ true
      handed_now = has_more is_connection m past ∙ rw (ap says_connection says_it) refl

      shaking_now : AreShaking k.greeter a.serial (lists_at side.Server (then [])) (lists_at side.Client (then []))
      shaking_now = shaking_then [] tt (sym (ap (client_answer k.greeter) says_it))

      handed_then : is_handed (messages (end_of side.Client (then [])).taken) ≡ true
      handed_then = ap is_handed (taken_then [] tt) ∙ handed_now

      finished : is_finished (messages x.taken) ≡ true
      finished = by (is_finished (messages x.taken)) refl
        where
          by : (b : Bool) → is_finished (messages x.taken) ≡ b → is_finished (messages x.taken) ≡ true
          by true f = f
          by false f = absurd (not_both (is_handed (messages (end_of side.Client (then [])).taken)) handed_then (unhanded k.greeter a.serial (lists_at side.Server (then [])) (lists_at side.Client (then [])) shaking_now f))

      -- both settled the same
      same_versions : resp.negotiated_interfaces ≡ versions_told (up_to is_finish (messages x.taken))
      same_versions =
          d.versions ∙ a.versions ∙ sym (connects_collects says_it) ∙ ap collected (sym (up_to_first is_connection m past a.unhanded)) ∙ ap (λ (l : List Sent). collected (up_to is_connection l)) (sym (taken_then [] tt))
          ∙ laws.versions k.greeter a.serial (lists_at side.Server (then [])) (lists_at side.Client (then [])) shaking_now handed_then
        where
          connects_collects : event_shake m ≡ Some (Connects serial connection.id connection.version) → collected (m ∷ past) ≡ collected past
          connects_collects f = collected_again past m ∙ ap (with_version (collected past)) f

      stands : (t : ServerStage) → StandsAt a.serial (messages x.taken) t → (server_done t ≡ true) × AreSame (maps_of {H = H} (Follows (new_converter (connected resp))) t)
      stands (Shakes h) st = absurd (not_both (is_finished (messages x.taken)) finished st.unfinished)
      stands (Serves c) st = (refl, same_versions ∙ sym st.1)

      pub done_then : (server_done s ≡ true) × AreSame (maps_of {H = H} (Follows (new_converter (connected resp))) s)
      done_then = stands s a.server

      -- ---- the converter follows

      handed_taken : (end_of side.Client (then [])).taken ≡ Took m (length w.client.sent) ∷ y.taken
      handed_taken = ap (λ (f : End). f.taken) (end_then [] tt) ∙ ap (λ (f : End). f.taken) took

      announces : new_of true m ≡ Some (record { id = connection.id; interface = Known known.Connection; version = connection.version })
      announces = ap (λ (f : Event). new_of true (message_of f)) is ∙ connection_new proxy connection serial

      pub follows_then : (cw : Bool) → IsFollowing {H = H} (new_converter (connected resp)) (end_of side.Client (then [])) cw
      follows_then cw = record {
        connection = subst (λ (l : List Got). heard true l resp.connection.id ≡ Some (record { id = resp.connection.id; interface = Known known.Connection; version = resp.connection.version })) (sym handed_taken)
            (rw d.connection_is (heard_first m (length w.client.sent) y.taken connection.id (record { id = connection.id; interface = Known known.Connection; version = connection.version }) a.client_misses quiet announces (self_named connection.id)));
        listens = λ want miss. record {
          said = [];
          behind = ap after_connection (taken_then [] tt) ∙ first_behind m past (gives says_it) quiet;
          start = resp.serial;
          readings = [];
          heeds = first_heeds (connected resp);
          below = λ id b. absurd (none_brought id b);
        };
        handlers = record {
          ended = λ r c. let le = c.1 in absurd (omega (arith, le));
          waits = λ id f. absurd (not_both (is_some (finite.get (new_converter {H = H} (connected resp)).waiting id)) f (ap is_some (finite.get-empty nat_cmp id)));
          once = tt;
        };
      }
        where
          self_named : (id : ℕ) → if_named id (Some (record { id = id; interface = Known known.Connection; version = connection.version })) ≡ Some (record { id = id; interface = Known known.Connection; version = connection.version })
          self_named id = rw (eq-eqb id id refl) refl

          gives : event_shake m ≡ Some (Connects serial connection.id connection.version) → gives_connection m ≡ true
          gives f = ap (λ (g : Event). gives_connection (message_of g)) is
