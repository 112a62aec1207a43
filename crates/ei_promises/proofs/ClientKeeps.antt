-- What a pair keeps at a step of its client, and that the client refuses nothing of a steady server.
use Rattle.std.proofs.Common.{◌≡◌, ℕ, ◌≤◌, ◌⊎◌, Bool, true, false, inl, inr, List, [], ◌∷◌, length, Option, Some, None, Result, Ok, Err, refl, sym, ap, subst, ◌∙◌, arith}
use Rattle.std.specs.Str.{is_utf8}
use Rattle.ei_types.specs.declared.error.Error.{Error}
use Rattle.ei_types.specs.declared.error.Error.TheVariants as error
use Rattle.ei_types.specs.declared.error.EventError.{EventError}
use Rattle.ei_backend.specs.Backend.{BackendView, Gone, next}
use Rattle.ei_backend.specs.declared.message.PendingRequestResult.{PendingRequestResult}
use Rattle.ei_backend.specs.declared.message.PendingRequestResult.TheVariants as pending
use Rattle.ei_ends.specs.Sent.{Sent, Got, Missed}
use Rattle.ei_ends.specs.Announced.{next_own}
use Rattle.ei_ends.specs.Way.{onto, End}
use Rattle.ei_ends.specs.Joined.{heard}
use Rattle.ei_ends.proofs.JoinedSteps.{next_id_is}
use Rattle.ei_reported.specs.Reported.{refusal}
use Rattle.ei_told.specs.Told.{all_said, behind_it, after_connection, messages, NoneMissed}
use Rattle.ei_client.specs.declared.event.Event.{Event}
use Rattle.ei_greeting.specs.Shaking.{is_long}
use Rattle.ei_shaking.specs.Messages.{asked_by}
use Rattle.ei_handshake.specs.declared.client.HandshakeResp.{HandshakeResp}
use Rattle.ei_handshake.specs.Client.{ClientView, HandlesEvent}
use Rattle.ei_linked.specs.declared.side.Side.TheVariants as side
use Rattle.ei_linked.specs.Stored.{StoredEnd, end_in, having_read}
use Rattle.ei_linked.specs.TwoEnds.{WorldView, IsWorld, end_of, with_end, read_world}
use Rattle.ei_linked.proofs.Kept as kept
use Rattle.ei_event.specs.Connection.{connected}
use Rattle.ei_event.specs.Core.{core_of}
use Rattle.ei_event.specs.Typed.{said_of, IsLawfulReason}
use Rattle.ei_event.specs.Converter.{ConverterView as ClientConverter, new_converter, callback_in, Receives, without_called}
use Rattle.ei_event.specs.Handles.{Handles as HandlesTold, Ends, after as after_event}
use Rattle.ei_following.specs.Core.{refused}
use Rattle.ei_request.specs.Converter.{ConverterView as ServerConverter}
use Rattle.ei_acts.specs.Serving.{Serves as IsServer}
use Rattle.ei_acts.proofs.Serving.{serves_never}
use Rattle.ei_promises.specs.Pair.{ClientStage, Asks, Follows, ServerStage, Shakes, Serves, PairView, IsPair, HasEndpoint, having_sent_all, on_endpoint, server_done, client_done, maps_of}
use Rattle.ei_promises.specs.Stepping.{ReadsEvent, asked_on, client_after, ponged_on, answered_on_event, as_step, or_wanted, HasReason, ClientSteps, StepsClient}
use Rattle.ei_promises.specs.Promises.{AreSame, NameFits, RefusesNone}
use Rattle.ei_promises.specs.Keeping.{lists_at, AreAnswering, AreStuck, IsServing, IsFollowing, KeepsHandlers, Keeps}
use Rattle.ei_promises.proofs.Given.{ShakingLaws}
use Rattle.ei_promises.proofs.Lists.{not_both}
use Rattle.ei_promises.proofs.Greetings.{sent_either}
use Rattle.ei_promises.proofs.Takes.{nothing_read, never_missed, AllStay, asked_stay}
use Rattle.ei_promises.proofs.Taking.{heard_missed}
use Rattle.ei_promises.proofs.Received.{gone_taken}
use Rattle.ei_promises.proofs.Events.{message_of}
use Rattle.ei_promises.proofs.Asked.{Asked, Greeted, Silent, ToldOne, Handed}
use Rattle.ei_promises.proofs.ServerShakes.{pair}
use Rattle.ei_promises.proofs.ServerKeeps.{GivesNone, pair_joined, asking_keeps, following_keeps, wanted_keeps, not_refused, refused_so, done_not, want_off}
use Rattle.ei_promises.proofs.ClientAsks as asks
use Rattle.ei_promises.proofs.ClientFollows.{FollowingLaws, handlers_more}
use Rattle.ei_promises.proofs.ClientFollows as follows
use Rattle.ei_promises.proofs.Staying.{connection_kept}

-- the server's stage has the endpoint already
same_stage : (s : ServerStage) (b : BackendView) → HasEndpoint s b → on_endpoint b s ≡ s
same_stage (Shakes h) b e = refl
same_stage (Serves c) b e = ap (λ (d : BackendView). Serves (record c { handle = record c.handle { ctx = d } })) (sym e)

-- what a step of the client does to a pair, and what it refuses
pub record StepsOn {H : Type 0} (old : PairView H) (freely : Type 0) (result : Result Bool Error) (new : PairView H) : Type 0 where
  pub keeps : new.ends.spent ≡ false → IsPair new → Keeps new
  pub free : freely → (e : Error) → result ≡ Err e → e ≡ error.NoMemory
  pub refuses : RefusesNone old result

-- the server's end is as it was
serving_same : {H : Type 0} (s : ServerStage) (w w_then : WorldView) (k k_then : ClientStage H) (steady cw cw_then sw sw_then : Bool) → end_in w_then.server ≡ end_in w.server → IsServing {H = H} s (pair w k s steady cw sw) → IsServing {H = H} s (pair w_then k_then s steady cw_then sw_then)
serving_same (Shakes h) w w_then k k_then steady cw cw_then sw sw_then e i = tt
serving_same (Serves c) w w_then k k_then steady cw cw_then sw sw_then e i = (subst (λ (x : End). IsServer x c.handle steady) (sym e) i.0, i.1)

-- ---- a client that shakes hands

module _ (laws : ShakingLaws) (more : FollowingLaws) {H : Type 0} (w : WorldView) (k : ClientView) (s : ServerStage) (steady cw sw : Bool) (whole : w.spent ≡ false) (world : IsWorld w) (utf8 : is_utf8 k.greeter.name ≡ true)
    (serving : IsServing {H = H} s (pair w (Asks k) s steady cw sw)) (a : AreAnswering {H = H} k (pair w (Asks k) s steady cw sw)) (e : Event) (reads : ReadsEvent (Some (pending.Request e)) w (read_world side.Client w)) (left : ClientView) (ctx : BackendView) where
  abbrev ends_then : List Sent → WorldView
  ends_then ms = with_end side.Client (having_sent_all false ms ctx (having_read true w.client)) (read_world side.Client w)

  abbrev then : Result (Option HandshakeResp) Error → List Sent → PairView H
  then answer ms = pair (ends_then ms) (client_after answer left) s steady (or_wanted cw (as_step answer)) sw

  wants : (b : Bool) (why : Error) → why ≡ error.NoMemory → or_wanted b (Err why) ≡ true
  wants b why n = ap (λ (q : Error). or_wanted b (Err q)) n ∙ by b
    where
      by : (c : Bool) → or_wanted c (Err error.NoMemory) ≡ true
      by true = refl
      by false = refl

  asking : (ms : List Sent) (cw_then : Bool) → is_utf8 left.greeter.name ≡ true → AreAnswering {H = H} left (pair (ends_then ms) (Asks left) s steady cw_then sw) ⊎ AreStuck {H = H} (pair (ends_then ms) (Asks left) s steady cw_then sw) → Keeps {H = H} (pair (ends_then ms) (Asks left) s steady cw_then sw)
  asking ms cw_then u g = asking_keeps (ends_then ms) left s steady cw_then sw (λ _. (u, g)) (λ _. serving_same s w (ends_then ms) (Asks k) (Asks left) steady cw cw_then sw sw refl serving)

  same_name : left ≡ k → is_utf8 left.greeter.name ≡ true
  same_name l = ap (λ (c : ClientView). is_utf8 c.greeter.name) l ∙ utf8

  following : (t : ServerStage) (f : ClientConverter H) (cw_then : Bool) → IsServing {H = H} t (pair w (Asks k) t steady cw sw) → (server_done t ≡ true) × AreSame (maps_of {H = H} (Follows f) t) → IsFollowing {H = H} f (end_of side.Client (ends_then [])) cw_then →
      IsPair {H = H} (pair (ends_then []) (Follows f) t steady cw_then sw) → Keeps {H = H} (pair (ends_then []) (Follows f) t steady cw_then sw)
  following (Shakes h) f cw_then i d g ok = absurd (done_not (Shakes h) d.0 refl)
  following (Serves c) f cw_then i d g ok = following_keeps (ends_then []) f c steady cw_then sw ok whole d.1 i.0 i.1 g

  by_answer : (answer : Result (Option HandshakeResp) Error) → HandlesEvent k (having_read true w.client).backend e answer left ctx → Asked (messages (end_in w.client).taken) k (having_read true w.client).backend e answer left ctx → IsPair (then answer (asked_on answer k e)) → Keeps (then answer (asked_on answer k e))
  by_answer answer d (Greeted f b g l short c) ok =
      subst (λ (ms : List Sent). Keeps (then answer ms)) (sym g)
      (subst (λ (q : Result (Option HandshakeResp) Error). Keeps (then q (asked_by k.greeter))) (sym f)
      (asking (asked_by k.greeter) (or_wanted cw (Ok true)) (same_name l)
      (inl (asks.greeted_then laws more.first {H = H} w k s steady cw sw whole world utf8 a e reads answer left ctx b l (asks.greeted_sent laws more.first {H = H} w k s steady cw sw whole world utf8 a e reads answer left ctx b short c).listed (or_wanted cw (Ok true))))))
  by_answer answer d (Silent why f b g l r c) ok =
      subst (λ (ms : List Sent). Keeps (then answer ms)) (sym g)
      (subst (λ (q : Result (Option HandshakeResp) Error). Keeps (then q [])) (sym f)
      (asking [] (or_wanted cw (Err why)) (same_name l) (inr (asks.stuck_then laws more.first {H = H} w k s steady cw sw whole world utf8 a e reads answer left ctx b l (or_wanted cw (Err why)) (reason r)))))
    where
      reason : (why ≡ error.NoMemory) ⊎ ((why ≡ error.MessageTooLong) × (is_long k.greeter 0 ≡ true)) → (or_wanted cw (Err why) ≡ true) ⊎ (is_long k.greeter 0 ≡ true)
      reason (inl n) = inl (wants cw why n)
      reason (inr n) = inr n.1
  by_answer answer d (ToldOne f o c g l v same) ok =
      subst (λ (ms : List Sent). Keeps (then answer ms)) (sym g)
      (subst (λ (q : Result (Option HandshakeResp) Error). Keeps (then q [])) (sym f)
      (asking [] (or_wanted cw (Ok true)) (ap (λ (q : _). is_utf8 q.name) l ∙ utf8) (inl (asks.told_then laws more.first {H = H} w k s steady cw sw whole world utf8 a e reads answer left ctx o c l v (or_wanted cw (Ok true))))))
  by_answer answer d (Handed serial connection proxy is resp f g h same) ok =
      let none_sent : IsPair (then answer []) = subst (λ (ms : List Sent). IsPair (then answer ms)) g ok in
      let there : IsPair (then (Ok (Some resp)) []) = subst (λ (q : Result (Option HandshakeResp) Error). IsPair (then q [])) f none_sent in
      subst (λ (ms : List Sent). Keeps (then answer ms)) (sym g)
      (subst (λ (q : Result (Option HandshakeResp) Error). Keeps (then q [])) (sym f)
      (following s (new_converter (connected resp)) (or_wanted cw (Ok true)) serving (asks.done_then laws more.first {H = H} w k s steady cw sw whole world utf8 a e reads answer left ctx serial connection proxy is resp h)
      (asks.follows_then laws more.first {H = H} w k s steady cw sw whole world utf8 a e reads answer left ctx serial connection proxy is resp h (or_wanted cw (Ok true))) there))

  free_by : (answer : Result (Option HandshakeResp) Error) → Asked (messages (end_in w.client).taken) k (having_read true w.client).backend e answer left ctx → length k.greeter.name ≤ 1048555 → (q : Error) → as_step answer ≡ Err q → q ≡ error.NoMemory
  free_by answer (Greeted f b g l short c) fits q is = not_refused true (as_step answer) (ap as_step f) q is
  free_by answer (Silent why f b g l (inl n) c) fits q is = refused_so why (as_step answer) (ap as_step f) n q is
  free_by answer (Silent why f b g l (inr n) c) fits q is = absurd (not_both (is_long k.greeter 0) n.1 (laws.short k.greeter fits))
  free_by answer (ToldOne f o c g l v same) fits q is = not_refused true (as_step answer) (ap as_step f) q is
  free_by answer (Handed serial connection proxy is resp f g h same) fits q h2 = not_refused true (as_step answer) (ap as_step f) q h2

  no_event : (answer : Result (Option HandshakeResp) Error) → Asked (messages (end_in w.client).taken) k (having_read true w.client).backend e answer left ctx → (why : EventError) → as_step answer ≡ Err (error.Event why) → ⊥
  no_event answer (Greeted f b g l short c) why is = let n = not_refused true (as_step answer) (ap as_step f) (error.Event why) is in cc
  no_event answer (Silent q f b g l (inl n) c) why is = let m = refused_so q (as_step answer) (ap as_step f) n (error.Event why) is in cc
  no_event answer (Silent q f b g l (inr n) c) why is =
      let both : ◌≡◌ {A = Result Bool Error} (Err error.MessageTooLong) (Err (error.Event why)) = ap (λ (r : Error). let o : Result Bool Error = Err r in o) (sym n.0) ∙ sym (ap as_step f) ∙ is in cc
  no_event answer (ToldOne f o c g l v same) why is = let n = not_refused true (as_step answer) (ap as_step f) (error.Event why) is in cc
  no_event answer (Handed serial connection proxy h resp f g d same) why is = let n = not_refused true (as_step answer) (ap as_step f) (error.Event why) is in cc

-- ---- a client that follows the server

module _ (more : FollowingLaws) {H : Type 0} (may : H → ℕ → ℕ → Type 0) (w : WorldView) (f : ClientConverter H) (c : ServerConverter) (steady cw sw : Bool) (whole : w.spent ≡ false) (ok : IsPair {H = H} (pair w (Follows f) (Serves c) steady cw sw)) (keeps : Keeps {H = H} (pair w (Follows f) (Serves c) steady cw sw)) where
  -- it took an event
  module _ (e : Event) (lawful : IsLawfulReason e) (reads : ReadsEvent (Some (pending.Request e)) w (read_world side.Client w)) (told now : Option (List ℕ)) (answer : Result Unit Error) (left : ClientConverter H) (d : HandlesTold f.kept e told now answer left.kept) where
    abbrev heard_then : PairView H
    heard_then = pair (with_end side.Client (having_sent_all false (ponged_on answer e) (answered_on_event answer e (having_read true w.client).backend) (having_read true w.client)) (read_world side.Client w)) (Follows left) (Serves c) steady (or_wanted cw (as_step answer)) sw

    heard_keeps : Receives may (callback_in e) answer f.waiting f.receipts left.receipts → left.waiting ≡ without_called (callback_in e) answer f.waiting → IsPair heard_then → Keeps heard_then
    heard_keeps receives waiting ok_then =
        let same = connection_kept f.kept left.kept e told now answer d in
        following_keeps _ left c steady (or_wanted cw (as_step answer)) sw ok_then whole (same.1 ∙ keeps.same) (keeps.serving whole).0 (keeps.serving whole).1
        (follows.follows_then more may w f cw whole ok.world (keeps.following whole) e lawful reads told now answer left (pair_joined heard_then ok_then whole) d receives waiting)

    -- an event of a steady server isn't refused
    refusal_none : steady ≡ true → cw ≡ false → NoneMissed (end_in w.client).taken → refused (core_of f.kept) (said_of e) ≡ None
    unfolding after_connection
    refusal_none sure want none =
        let l = (keeps.following whole).listens want none in
        let taken = follows.taken_is more may w f cw whole ok.world (keeps.following whole) e lawful reads told now answer left in
        let joined = follows.read more may w f cw whole ok.world (keeps.following whole) e lawful reads told now answer left in
        let behind : after_connection (messages (end_in (having_read true w.client)).taken) ≡ Some (message_of e ∷ l.said) = ap (λ (g : List Got). after_connection (messages g)) taken ∙ ap (behind_it (message_of e)) l.behind in
        let never = serves_never (end_in w.server) (end_in (having_read true w.client)) w.to_client w.to_server c.handle l.said (message_of e) joined (subst (IsServer (end_in w.server) c.handle) sure (keeps.serving whole).0) (subst NoneMissed (sym taken) none) behind in
        more.refusals l.start (all_said l.said) l.readings f.kept e l.heeds ∙ ap (refusal (all_said l.said)) (sym (more.says e lawful)) ∙ never

    refuses_none : steady ≡ true → cw ≡ false → NoneMissed (end_in w.client).taken → (why : EventError) → as_step answer ≡ Err (error.Event why) → ⊥
    refuses_none sure want none why is = by answer d.ends is
      where
        by : (q : Result Unit Error) → Ends (refused (core_of f.kept) (said_of e)) f.kept (after_event f.kept e d.time) q left.kept → as_step q ≡ Err (error.Event why) → ⊥
        by (Ok t) h g = cc
        by (Err (error.Event reason)) h g = let both : None ≡ Some reason = sym (refusal_none sure want none) ∙ h.0 in cc
        by (Err q) h g = cc

  -- it took an id of no object
  abbrev missed_then : PairView H
  missed_then = pair (read_world side.Client w) (Follows f) (Serves c) steady cw sw

  missed_keeps : (id : ℕ) → next true w.client.backend ≡ (Gone id, (having_read true w.client).backend) → IsPair missed_then → Keeps missed_then
  missed_keeps id e ok_then =
      let z : StoredEnd = having_read true w.client in
      let took = gone_taken true id w.client e in
      let taken = ap (λ (q : End). q.taken) took in
      let sent = ap (λ (q : End). next_own false q.sent) took in
      let g = keeps.following whole in
      let before = next_id_is false (end_in w.client) (end_in w.server) w.to_server w.to_client (kept.ahead w whole ok.world) in
      let after = next_id_is false (end_in z) (end_in w.server) w.to_server w.to_client (kept.ahead (read_world side.Client w) whole ok_then.world) in
      let grows : w.client.backend.table.next_own ≤ z.backend.table.next_own = omega (arith, before, after, sent) in
      following_keeps (read_world side.Client w) f c steady cw sw ok_then whole keeps.same (keeps.serving whole).0 (keeps.serving whole).1 (record {
        connection = ap (λ (l : List Got). heard true l f.kept.proxy.id) taken ∙ heard_missed true f.kept.proxy.id (length w.client.sent) (end_in w.client).taken id ∙ g.connection;
        listens = λ want none. absurd (subst NoneMissed taken none);
        handlers = subst (λ (l : List Got). KeepsHandlers z.backend.table.next_own l f) (sym taken)
            (handlers_more f f w.client.backend.table.next_own z.backend.table.next_own (Missed id (length w.client.sent)) (end_in w.client).taken grows g.handlers refl (λ i s. s));
      })

-- ---- any step of a client

-- where the client took all that was sent nothing is read
pub reads_none : (w : WorldView) → w.spent ≡ false → IsWorld w → length (end_in w.client).taken ≡ length (end_in w.server).sent → (answer : Option (PendingRequestResult Event)) → ReadsEvent answer w (read_world side.Client w) → GivesNone answer
reads_none w whole world all None e = tt
reads_none w whole world all (Some (pending.Request r)) e = let g = nothing_read true (end_in w.server) (end_in w.client) w.to_client w.to_server _ _ (kept.back w whole world) all e in cc
reads_none w whole world all (Some (pending.InvalidObject id)) e = let g = nothing_read true (end_in w.server) (end_in w.client) w.to_client w.to_server _ _ (kept.back w whole world) all e in cc
reads_none w whole world all (Some (pending.ParseError f)) e = tt

none_steps : {H : Type 0} (may : H → ℕ → ℕ → Type 0) (answer : Option (PendingRequestResult Event)) (told now : Option (List ℕ)) (old taken : PairView H) (result : Result Bool Error) (new : PairView H) → GivesNone answer → ClientSteps may answer told now old taken result new → (result ≡ Ok false) × (new ≡ old)
none_steps may None told now old taken result new g s = (s.0, s.1)
none_steps may (Some (pending.Request r)) told now old taken result new g s = absurd g
none_steps may (Some (pending.InvalidObject id)) told now old taken result new g s = absurd g
none_steps may (Some (pending.ParseError e)) told now old taken result new g s = absurd s

not_event : (b : Bool) (result : Result Bool Error) → result ≡ Ok b → (why : EventError) → result ≡ Err (error.Event why) → ⊥
not_event b result is why e = let n = not_refused b result is (error.Event why) e in cc

-- nothing was taken
same_steps : {H : Type 0} (old : PairView H) (freely : Type 0) (result : Result Bool Error) (new : PairView H) → Keeps old → (result ≡ Ok false) × (new ≡ old) → StepsOn old freely result new
same_steps old freely result new keeps s = record {
  keeps = λ whole ok. subst Keeps (sym s.1) keeps;
  free = λ f. not_refused false result s.0;
  refuses = λ steady want none. not_event false result s.0;
}

-- a client that shakes hands, and answers
module _ (laws : ShakingLaws) (more : FollowingLaws) {H : Type 0} (may : H → ℕ → ℕ → Type 0) (w : WorldView) (k : ClientView) (s : ServerStage) (steady cw sw : Bool) (whole : w.spent ≡ false) (ok : IsPair {H = H} (pair w (Asks k) s steady cw sw)) (keeps : Keeps {H = H} (pair w (Asks k) s steady cw sw))
    (a : AreAnswering {H = H} k (pair w (Asks k) s steady cw sw)) (told now : Option (List ℕ)) (result : Result Bool Error) (new : PairView H) where
  stays : AllStay false (end_in w.client).sent
  stays = by (sent_either k.greeter a.serial (lists_at side.Server w) (lists_at side.Client w) a.shaking a.unhanded)
    where
      by : ((end_in w.client).sent ≡ []) ⊎ ((end_in w.client).sent ≡ onto (asked_by k.greeter) []) → AllStay false (end_in w.client).sent
      by (inl e) = subst (AllStay false) (sym e) tt
      by (inr e) = subst (AllStay false) (sym e) (asked_stay k.greeter)

  answering_steps : (answer : Option (PendingRequestResult Event)) → ReadsEvent answer w (read_world side.Client w) → ClientSteps may answer told now (pair w (Asks k) s steady cw sw) (pair (read_world side.Client w) (Asks k) (on_endpoint w.server.backend s) steady cw sw) result new →
      StepsOn {H = H} (pair w (Asks k) s steady cw sw) (length k.greeter.name ≤ 1048555) result new
  answering_steps None reads t = same_steps (pair w (Asks k) s steady cw sw) (length k.greeter.name ≤ 1048555) result new keeps (t.0, t.1)
  answering_steps (Some (pending.InvalidObject id)) reads t = absurd (never_missed true (end_in w.server) (end_in w.client) w.to_client w.to_server id _ (kept.back w whole ok.world) stays reads)
  answering_steps (Some (pending.ParseError e)) reads t = absurd t
  answering_steps (Some (pending.Request e)) reads t =
      let i = t.0 in
      let so = asks.asks_so laws more.first {H = H} w k s steady cw sw whole ok.world (keeps.greeting whole).0 a e reads i.answer i.left i.ctx i.handles in
      let is = i.leaves ∙ same e i.answer i.left i.ctx i.answers in
      record {
        keeps = λ spent ok_then. subst Keeps (sym is)
            (by_answer laws more {H = H} w k s steady cw sw whole ok.world (keeps.greeting whole).0 (keeps.serving whole) a e reads i.left i.ctx i.answer i.handles so (subst IsPair is ok_then));
        free = λ fits q f. free_by laws more {H = H} w k s steady cw sw whole ok.world (keeps.greeting whole).0 (keeps.serving whole) a e reads i.left i.ctx i.answer so fits q (sym i.answers ∙ f);
        refuses = λ sure want none why f. no_event laws more {H = H} w k s steady cw sw whole ok.world (keeps.greeting whole).0 (keeps.serving whole) a e reads i.left i.ctx i.answer so why (sym i.answers ∙ f);
      }
    where
      same : (e : Event) (answer : Result (Option HandshakeResp) Error) (left : ClientView) (ctx : BackendView) → result ≡ as_step answer →
          pair {H = H} (with_end side.Client (having_sent_all false (asked_on answer k e) ctx (having_read true w.client)) (read_world side.Client w)) (client_after answer left) (on_endpoint w.server.backend s) steady (or_wanted cw result) sw ≡
          pair {H = H} (with_end side.Client (having_sent_all false (asked_on answer k e) ctx (having_read true w.client)) (read_world side.Client w)) (client_after answer left) s steady (or_wanted cw (as_step answer)) sw
      same e answer left ctx is =
          ap (λ (q : Result Bool Error). pair {H = H} (with_end side.Client (having_sent_all false (asked_on answer k e) ctx (having_read true w.client)) (read_world side.Client w)) (client_after answer left) (on_endpoint w.server.backend s) steady (or_wanted cw q) sw) is
          ∙ ap (λ (q : ServerStage). pair {H = H} (with_end side.Client (having_sent_all false (asked_on answer k e) ctx (having_read true w.client)) (read_world side.Client w)) (client_after answer left) q steady (or_wanted cw (as_step answer)) sw) (same_stage s w.server.backend ok.endpoint)

following_not : {H : Type 0} (f : ClientConverter H) → client_done (Follows f) ≡ false → ⊥
following_not f e = cc

-- by where the client stands
abbrev pub Fits : {H : Type 0} → ClientStage H → Type 0
Fits k = NameFits k × (client_done k ≡ false)

stage_steps : (laws : ShakingLaws) (more : FollowingLaws) {H : Type 0} (may : H → ℕ → ℕ → Type 0) (w : WorldView) (k : ClientStage H) (s : ServerStage) (steady cw sw : Bool) → w.spent ≡ false → IsPair (pair w k s steady cw sw) → Keeps (pair w k s steady cw sw) →
    (told now : Option (List ℕ)) (result : Result Bool Error) (new : PairView H) (answer : Option (PendingRequestResult Event)) → HasReason answer → ReadsEvent answer w (read_world side.Client w) →
    ClientSteps may answer told now (pair w k s steady cw sw) (pair (read_world side.Client w) k (on_endpoint w.server.backend s) steady cw sw) result new → StepsOn (pair w k s steady cw sw) (Fits k) result new
stage_steps laws more {H} may w (Asks k) s steady cw sw whole ok keeps told now result new answer reason reads t = by (keeps.greeting whole).1
  where
    by : AreAnswering {H = H} k (pair w (Asks k) s steady cw sw) ⊎ AreStuck {H = H} (pair w (Asks k) s steady cw sw) → StepsOn {H = H} (pair w (Asks k) s steady cw sw) (Fits {H = H} (Asks k)) result new
    by (inl a) = let u = answering_steps laws more {H = H} may w k s steady cw sw whole ok keeps a told now result new answer reads t in record { keeps = u.keeps; free = λ f. u.free f.0; refuses = u.refuses }
    by (inr a) = same_steps (pair w (Asks k) s steady cw sw) (Fits {H = H} (Asks k)) result new keeps (none_steps may answer told now _ _ result new (reads_none w whole ok.world a.client_waits answer reads) t)
stage_steps laws more {H} may w (Follows f) (Shakes h) steady cw sw whole ok keeps told now result new answer reason reads t = absurd (done_not (Shakes h) (keeps.greeting whole) refl)
stage_steps laws more {H} may w (Follows f) (Serves c) steady cw sw whole ok keeps told now result new None reason reads t = same_steps (pair w (Follows f) (Serves c) steady cw sw) (Fits (Follows f)) result new keeps (t.0, t.1)
stage_steps laws more {H} may w (Follows f) (Serves c) steady cw sw whole ok keeps told now result new (Some (pending.ParseError e)) reason reads t = absurd t
stage_steps laws more {H} may w (Follows f) (Serves c) steady cw sw whole ok keeps told now result new (Some (pending.InvalidObject id)) reason reads t =
    let is : new ≡ missed_then more may w f c steady cw sw whole ok keeps = t.0.1 ∙ ap (λ (q : ServerStage). pair (read_world side.Client w) (Follows f) q steady cw sw) (same_stage (Serves c) w.server.backend ok.endpoint) in
    record {
      keeps = λ spent ok_then. subst Keeps (sym is) (missed_keeps more may w f c steady cw sw whole ok keeps id reads (subst IsPair is ok_then));
      free = λ g. absurd (following_not f g.1);
      refuses = λ sure want none. not_event true result t.0.0;
    }
stage_steps laws more {H} may w (Follows f) (Serves c) steady cw sw whole ok keeps told now result new (Some (pending.Request e)) reason reads t =
    let is : new ≡ heard_then more may w f c steady cw sw whole ok keeps e reason reads told now t.answer t.left t.handles = t.leaves
    ∙ ap (λ (q : Result Bool Error). pair (with_end side.Client (having_sent_all false (ponged_on t.answer e) (answered_on_event t.answer e (having_read true w.client).backend) (having_read true w.client)) (read_world side.Client w)) (Follows t.left) (on_endpoint w.server.backend (Serves c)) steady (or_wanted cw q) sw) t.answers
    ∙ ap (λ (q : ServerStage). pair (with_end side.Client (having_sent_all false (ponged_on t.answer e) (answered_on_event t.answer e (having_read true w.client).backend) (having_read true w.client)) (read_world side.Client w)) (Follows t.left) q steady (or_wanted cw (as_step t.answer)) sw) (same_stage (Serves c) w.server.backend ok.endpoint) in
    record {
      keeps = λ spent ok_then. subst Keeps (sym is) (heard_keeps more may w f c steady cw sw whole ok keeps e reason reads told now t.answer t.left t.handles t.receipts t.handlers (subst IsPair is ok_then));
      free = λ g. absurd (following_not f g.1);
      refuses = λ sure want none why g. refuses_none more may w f c steady cw sw whole ok keeps e reason reads told now t.answer t.left t.handles sure want none why (sym t.answers ∙ g);
    }

pub client_steps : (laws : ShakingLaws) (more : FollowingLaws) {H : Type 0} (may : H → ℕ → ℕ → Type 0) (p : PairView H) → p.ends.spent ≡ false → IsPair p → Keeps p → (told now : Option (List ℕ)) (result : Result Bool Error) (new : PairView H) → StepsClient may p told now result new → StepsOn p (Fits p.client) result new
client_steps laws more {H} may p whole ok keeps told now result new (inl s) = stage_steps laws more may p.ends p.client p.server p.steady p.client_wanted p.server_wanted whole ok keeps told now result new s.answer s.reason s.reads s.steps
client_steps laws more {H} may p whole ok keeps told now result new (inr s) = record {
  keeps = λ spent ok_then. subst Keeps (sym s.leaves) (wanted_keeps p.ends p.client p.server p.steady p.client_wanted p.server_wanted true p.server_wanted (λ e. want_off p.client_wanted e) (λ e. e) keeps);
  free = λ t. refused_so error.NoMemory result s.answers refl;
  refuses = λ sure want none why e. let n = refused_so error.NoMemory result s.answers refl (error.Event why) e in cc;
}
