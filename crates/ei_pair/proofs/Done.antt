-- The handshakes of a pair are done exactly where the lists tell it.
use Rattle.std.proofs.Common.{◌≡◌, ℕ, ◌⊎◌, Bool, true, false, cond, inl, inr, List, [], ◌∷◌, ◌++◌, map, Option, Some, None, Result, refl, sym, ap, subst, ◌∙◌, append_assoc}
use Rattle.ei_spec.specs.NameMap.{NameMap}
use Rattle.ei_types.specs.declared.error.Error.{Error}
use Rattle.ei_types.specs.declared.enums.ContextType.{ContextType}
use Rattle.ei_backend.specs.Backend.{BackendView}
use Rattle.ei_backend.specs.declared.message.PendingRequestResult.{PendingRequestResult}
use Rattle.ei_backend.specs.declared.message.PendingRequestResult.TheVariants as pending
use Rattle.ei_ends.specs.Sent.{Sent}
use Rattle.ei_ends.specs.Way.{End}
use Rattle.ei_client.specs.declared.event.Event.{Event}
use Rattle.ei_client.specs.declared.event.Event.TheVariants as event
use Rattle.ei_client.specs.declared.handshake.Event.TheVariants as told
use Rattle.ei_server.specs.declared.request.Request.{Request}
use Rattle.ei_handshake.specs.declared.client.HandshakeResp.{HandshakeResp}
use Rattle.ei_handshake.specs.declared.server.EisHandshakeResp.{EisHandshakeResp}
use Rattle.ei_handshake.specs.Client.{ClientView}
use Rattle.ei_handshake.specs.Handshaker.{HandshakerView}
use Rattle.ei_shaking.specs.Messages.{greeting, version_events, connection_event, settled_by}
use Rattle.ei_shaking.specs.Heard.{event_shake, is_connection, says_connection}
use Rattle.ei_shaking.specs.Both.{has, is_handed}
use Rattle.ei_told.specs.Told.{messages}
use Rattle.ei_linked.specs.declared.record.Record.{Record}
use Rattle.ei_linked.specs.declared.side.Side.TheVariants as side
use Rattle.ei_linked.specs.Stored.{StoredEnd, end_in, sent_view, got_view, having_read}
use Rattle.ei_linked.specs.Written.{record_as, stored_onto}
use Rattle.ei_linked.specs.TwoEnds.{WorldView, IsWorld, with_end, read_world}
use Rattle.ei_request.specs.Converter.{ConverterView as ServerConverter}
use Rattle.ei_event.specs.Converter.{ConverterView as ClientConverter}
use Rattle.ei_promises.specs.Pair.{ClientStage, Asks, Follows, ServerStage, Shakes, Serves, PairView, IsPair, IsNew, with_ends, on_endpoint, having_sent_all, client_done, server_done}
use Rattle.ei_promises.specs.Stepping.{ReadsRequest, ReadsEvent, ServerSteps, StepsServer, ClientSteps, StepsClient, settled_on, server_after, answered_on, asked_on, client_after, ponged_on, answered_on_event, or_wanted}
use Rattle.ei_promises.specs.Keeping.{AreAnswering, AreStuck, Keeps}
use Rattle.ei_promises.proofs.Lists.{has_more, has_behind, none_has}
use Rattle.ei_promises.proofs.Given.{ShakingLaws}
use Rattle.ei_promises.proofs.Requests as requests
use Rattle.ei_promises.proofs.Events.{message_of, says_shake}
use Rattle.ei_promises.proofs.Received.{event_taken, gone_taken}
use Rattle.ei_promises.proofs.Shook.{Shook, ToldOne, Finished, Wanted}
use Rattle.ei_promises.proofs.Asked as asked
use Rattle.ei_promises.proofs.Asked.{Asked, Greeted, Silent, Handed}
use Rattle.ei_promises.proofs.ServerShakes as shakes
use Rattle.ei_promises.proofs.ServerShakes.{pair}
use Rattle.ei_promises.proofs.ServerKeeps as server_keeps
use Rattle.ei_promises.proofs.ServerKeeps.{GivesNone}
use Rattle.ei_promises.proofs.ClientAsks as asks
use Rattle.ei_promises.proofs.ClientAsks.{FirstHeeds}
use Rattle.ei_promises.proofs.ClientKeeps as client_keeps
use Rattle.ei_pair.specs.Done.{AreDoneByLists}
use Rattle.ei_pair.proofs.Reading.{read_sent}
use Rattle.ei_pair.proofs.FirstIds.{nothing_stepped}

-- ---- lists that grow

-- what was sent before is sent still
pub sent_some : (events : Bool) (ms : List Sent) (past : List Record) → (newer : List Sent) × (map sent_view (stored_onto events ms past) ≡ newer ++ map sent_view past)
sent_some events [] past = ([], refl)
sent_some events (m ∷ ms) past =
    let r = sent_some events ms (record_as events m ∷ past) in
    (r.0 ++ (sent_view (record_as events m) ∷ []), r.1 ∙ sym (append_assoc r.0 (sent_view (record_as events m) ∷ []) (map sent_view past)))

-- the last one is stored in front
stored_last : (events : Bool) (ms : List Sent) (m : Sent) (past : List Record) → stored_onto events (ms ++ (m ∷ [])) past ≡ record_as events m ∷ stored_onto events ms past
stored_last events [] m past = refl
stored_last events (n ∷ ms) m past = stored_last events ms m (record_as events n ∷ past)

handed_more : (m : Sent) (past : List Sent) → is_connection m ≡ true → is_handed (m ∷ past) ≡ true
handed_more m past e = has_more is_connection m past ∙ ap (λ (b : Bool). cond b true (has is_connection past)) e

unhanded_more : (m : Sent) (past : List Sent) → is_connection m ≡ false → is_handed (m ∷ past) ≡ is_handed past
unhanded_more m past e = has_more is_connection m past ∙ ap (λ (b : Bool). cond b true (has is_connection past)) e

-- the event that hands the connection over does so as it is stored
hands_it_over : (serial id : ℕ) → is_connection (sent_view (record_as true (connection_event serial id))) ≡ true
unfolding event_shake
hands_it_over serial id = refl

settled_handed : (versions : NameMap) (serial id : ℕ) (past : List Record) → is_handed (map sent_view (stored_onto true (settled_by versions serial id) past)) ≡ true
settled_handed versions serial id past =
    ap (λ (l : List Record). is_handed (map sent_view l)) (stored_last true (version_events versions) (connection_event serial id) past)
    ∙ handed_more (sent_view (record_as true (connection_event serial id))) (map sent_view (stored_onto true (version_events versions) past)) (hands_it_over serial id)

-- ---- where the lists are as before

pub same_lists : {H : Type 0} (old new : PairView H) → server_done new.server ≡ server_done old.server → client_done new.client ≡ client_done old.client → new.ends.server.sent ≡ old.ends.server.sent → new.ends.client.taken ≡ old.ends.client.taken → AreDoneByLists old → AreDoneByLists new
same_lists old new a b c d t = record {
  server = a ∙ t.server ∙ ap (λ (l : List Record). is_handed (map sent_view l)) (sym c);
  client = b ∙ t.client ∙ ap (λ (l : List _). is_handed (messages (map got_view l))) (sym d);
}

on_done : (b : BackendView) (s : ServerStage) → server_done (on_endpoint b s) ≡ server_done s
on_done b (Shakes h) = refl
on_done b (Serves c) = refl

-- other ends with the same lists
pub moves_done : {H : Type 0} (p : PairView H) (w : WorldView) → w.server.sent ≡ p.ends.server.sent → w.client.taken ≡ p.ends.client.taken → AreDoneByLists p → AreDoneByLists (with_ends w p)
moves_done p w sent taken t = same_lists p (with_ends w p) (on_done w.server.backend p.server) refl sent taken t

-- a new pair
greeting_only : is_handed (map sent_view (stored_onto true (greeting ∷ []) [])) ≡ false
unfolding event_shake
greeting_only = unhanded_more (sent_view (record_as true greeting)) [] refl ∙ none_has is_connection

pub new_done : {H : Type 0} (name : List ℕ) (kind : ContextType) (serial : ℕ) (p : PairView H) → IsNew name kind serial p → AreDoneByLists p
new_done {H} name kind serial p n = record {
  server = ap server_done n.server ∙ sym (ap (λ (x : StoredEnd). is_handed (end_in x).sent) n.server_end ∙ greeting_only);
  client = ap client_done n.client ∙ sym (ap (λ (x : StoredEnd). is_handed (messages (end_in x).taken)) n.client_end ∙ none_has is_connection);
}

-- a pair that is another
pub same_pair : {H : Type 0} (old new : PairView H) → new ≡ old → AreDoneByLists old → AreDoneByLists new
same_pair {H} old new is t = subst (λ (p : PairView H). AreDoneByLists p) (sym is) t

-- ---- a step of the server

module _ {H : Type 0} (w : WorldView) (k : ClientStage H) (steady cw sw : Bool) where
  -- the pair once the server sent these, and stands there
  abbrev server_then : ServerStage → List Sent → BackendView → Bool → PairView H
  server_then s ms b sw_then = pair (with_end side.Server (having_sent_all true ms b (having_read false w.server)) (read_world side.Server w)) k s steady cw sw_then

  sent_before : map sent_view (having_read false w.server).sent ≡ map sent_view w.server.sent
  sent_before = ap (map sent_view) (read_sent false w.server)

  -- a server that serves goes on
  serves_on : (c left : ServerConverter) (ms : List Sent) (b : BackendView) (sw_then : Bool) → AreDoneByLists (pair w k (Serves c) steady cw sw) → AreDoneByLists (server_then (Serves left) ms b sw_then)
  serves_on c left ms b sw_then t =
      let r = sent_some true ms (having_read false w.server).sent in
      record {
        server = sym (ap is_handed (r.1 ∙ ap (λ (l : List Sent). r.0 ++ l) sent_before) ∙ has_behind is_connection r.0 (map sent_view w.server.sent) (sym t.server));
        client = t.client;
      }

  -- one that shakes hands sent nothing
  shakes_on : (h left : HandshakerView) (b : BackendView) (sw_then : Bool) → AreDoneByLists (pair w k (Shakes h) steady cw sw) → AreDoneByLists (server_then (Shakes left) [] b sw_then)
  shakes_on h left b sw_then t = record { server = t.server ∙ ap is_handed (sym sent_before); client = t.client }

  -- one that is done
  serves_now : (h : HandshakerView) (c : ServerConverter) (versions : NameMap) (serial id : ℕ) (b : BackendView) (sw_then : Bool) → AreDoneByLists (pair w k (Shakes h) steady cw sw) → AreDoneByLists (server_then (Serves c) (settled_by versions serial id) b sw_then)
  serves_now h c versions serial id b sw_then t = record { server = sym (settled_handed versions serial id (having_read false w.server).sent); client = t.client }

  -- a message was taken off, and nothing came of it
  takes_off : (s t : ServerStage) → server_done t ≡ server_done s → AreDoneByLists (pair w k s steady cw sw) → AreDoneByLists (pair (read_world side.Server w) k t steady cw sw)
  takes_off s t e d = same_lists (pair w k s steady cw sw) (pair (read_world side.Server w) k t steady cw sw) e refl (read_sent false w.server) refl d

  serving_steps : (c : ServerConverter) → AreDoneByLists (pair w k (Serves c) steady cw sw) → (before after : Option (List ℕ)) (result : Result Bool Error) (new : PairView H) (answer : Option (PendingRequestResult Request)) →
      ServerSteps answer before after (pair w k (Serves c) steady cw sw) (pair (read_world side.Server w) k (on_endpoint (having_read false w.server).backend (Serves c)) steady cw sw) result new → AreDoneByLists new
  serving_steps c t before after result new None s = same_pair (pair w k (Serves c) steady cw sw) new s.1 t
  serving_steps c t before after result new (Some (pending.ParseError e)) s = absurd s
  serving_steps c t before after result new (Some (pending.InvalidObject id)) s = same_pair _ new s.0.1 (takes_off (Serves c) (on_endpoint (having_read false w.server).backend (Serves c)) refl t)
  serving_steps c t before after result new (Some (pending.Request r)) s = same_pair _ new s.leaves (serves_on c s.left (answered_on s.answer (record c { handle = record c.handle { ctx = (having_read false w.server).backend } }) r) s.left.handle.ctx (or_wanted sw result) t)

-- a server that shakes hands with a client that does
module _ (laws : ShakingLaws) {H : Type 0} (w : WorldView) (k : ClientView) (h : HandshakerView) (steady cw sw : Bool) (whole : w.spent ≡ false) (world : IsWorld w)
    (a : AreAnswering {H = H} k (pair w (Asks k) (Shakes h) steady cw sw)) (t : AreDoneByLists {H = H} (pair w (Asks k) (Shakes h) steady cw sw)) where
  abbrev own_id : ℕ
  own_id = (having_read false w.server).backend.table.next_own

  shaken : (r : Request) (answer : Result (Option EisHandshakeResp) Error) (left : HandshakerView) (ctx : BackendView) (sw_then : Bool) → Shook a.serial (messages (end_in w.server).taken) h (having_read false w.server).backend (requests.message_of r) answer left ctx →
      AreDoneByLists (server_then {H = H} w (Asks k) steady cw sw (server_after answer left h.serial ctx) (settled_on answer h own_id) ctx sw_then)
  shaken r answer left ctx sw_then (ToldOne e f u c) = subst (λ (b : Result (Option EisHandshakeResp) Error). AreDoneByLists (server_then {H = H} w (Asks k) steady cw sw (server_after b left h.serial ctx) (settled_on b h own_id) ctx sw_then)) (sym e)
      (shakes_on {H = H} w (Asks k) steady cw sw h left ctx sw_then t)
  shaken r answer left ctx sw_then (Finished resp e f c) = subst (λ (b : Result (Option EisHandshakeResp) Error). AreDoneByLists (server_then {H = H} w (Asks k) steady cw sw (server_after b left h.serial ctx) (settled_on b h own_id) ctx sw_then)) (sym e)
      (serves_now {H = H} w (Asks k) steady cw sw h _ h.versions h.serial own_id ctx sw_then t)
  shaken r answer left ctx sw_then (Wanted e f c) = subst (λ (b : Result (Option EisHandshakeResp) Error). AreDoneByLists (server_then {H = H} w (Asks k) steady cw sw (server_after b left h.serial ctx) (settled_on b h own_id) ctx sw_then)) (sym e)
      (shakes_on {H = H} w (Asks k) steady cw sw h left ctx sw_then t)

  shaking_steps : (before after : Option (List ℕ)) (result : Result Bool Error) (new : PairView H) (answer : Option (PendingRequestResult Request)) → ReadsRequest answer w (read_world side.Server w) →
      ServerSteps answer before after (pair w (Asks k) (Shakes h) steady cw sw) (pair (read_world side.Server w) (Asks k) (Shakes h) steady cw sw) result new → AreDoneByLists new
  shaking_steps before after result new None reads s = same_pair (pair w (Asks k) (Shakes h) steady cw sw) new s.1 t
  shaking_steps before after result new (Some (pending.ParseError e)) reads s = absurd s
  shaking_steps before after result new (Some (pending.InvalidObject id)) reads s = same_pair _ new s.0.1 (takes_off {H = H} w (Asks k) steady cw sw (Shakes h) (Shakes h) refl t)
  shaking_steps before after result new (Some (pending.Request r)) reads s =
      let i = s.0 in
      same_pair _ new i.leaves (shaken r i.answer i.left i.ctx (or_wanted sw result) (shakes.shakes_so laws {H = H} w k h steady cw sw whole world a r reads i.answer i.left i.ctx i.handles))

server_stage : (laws : ShakingLaws) {H : Type 0} (w : WorldView) (k : ClientStage H) (s : ServerStage) (steady cw sw : Bool) → w.spent ≡ false → IsPair (pair w k s steady cw sw) → Keeps (pair w k s steady cw sw) → AreDoneByLists (pair w k s steady cw sw) →
    (before after : Option (List ℕ)) (result : Result Bool Error) (new : PairView H) (answer : Option (PendingRequestResult Request)) → ReadsRequest answer w (read_world side.Server w) →
    ServerSteps answer before after (pair w k s steady cw sw) (pair (read_world side.Server w) k (on_endpoint (having_read false w.server).backend s) steady cw sw) result new → AreDoneByLists new
server_stage laws {H} w k (Serves c) steady cw sw whole ok keeps t before after result new answer reads s = serving_steps w k steady cw sw c t before after result new answer s
server_stage laws {H} w (Follows f) (Shakes h) steady cw sw whole ok keeps t before after result new answer reads s = let off : server_done (Shakes h) ≡ true = keeps.greeting whole in absurd cc
server_stage laws {H} w (Asks k) (Shakes h) steady cw sw whole ok keeps t before after result new answer reads s = by (keeps.greeting whole).1
  where
    by : AreAnswering {H = H} k (pair w (Asks k) (Shakes h) steady cw sw) ⊎ AreStuck {H = H} (pair w (Asks k) (Shakes h) steady cw sw) → AreDoneByLists new
    by (inl a) = shaking_steps laws {H = H} w k h steady cw sw whole ok.world a t before after result new answer reads s
    by (inr a) = same_pair _ new (nothing_stepped answer before after _ _ result new (server_keeps.reads_none w whole ok.world a.server_waits answer reads) s) t

pub server_steps_done : (laws : ShakingLaws) {H : Type 0} (p : PairView H) → p.ends.spent ≡ false → IsPair p → Keeps p → AreDoneByLists p → (before after : Option (List ℕ)) (result : Result Bool Error) (new : PairView H) → StepsServer p before after result new → AreDoneByLists new
server_steps_done laws p whole ok keeps t before after result new (inl s) = server_stage laws p.ends p.client p.server p.steady p.client_wanted p.server_wanted whole ok keeps t before after result new s.answer s.reads s.steps
server_steps_done laws p whole ok keeps t before after result new (inr s) = same_pair _ new s.leaves (same_lists p (record p { server_wanted = true }) refl refl refl refl t)

-- ---- a step of the client

module _ {H : Type 0} (may : H → ℕ → ℕ → Type 0) (w : WorldView) (s : ServerStage) (steady cw sw : Bool) where
  -- the server's end, with its endpoint
  abbrev there : ServerStage
  there = on_endpoint w.server.backend s

  -- the pair once the client sent these, and stands there
  abbrev client_then : ClientStage H → List Sent → BackendView → Bool → PairView H
  client_then k ms b cw_then = pair (with_end side.Client (having_sent_all false ms b (having_read true w.client)) (read_world side.Client w)) k there steady cw_then sw

  taken_behind : (e : Event) → ReadsEvent (Some (pending.Request e)) w (read_world side.Client w) → messages (end_in (having_read true w.client)).taken ≡ message_of e ∷ messages (end_in w.client).taken
  taken_behind e reads = ap (λ (x : End). messages x.taken) (event_taken e w.client reads)

  -- one that follows the server goes on
  follows_on : (f left : ClientConverter H) (e : Event) → ReadsEvent (Some (pending.Request e)) w (read_world side.Client w) → (ms : List Sent) (b : BackendView) (cw_then : Bool) → AreDoneByLists (pair w (Follows f) s steady cw sw) → AreDoneByLists (client_then (Follows left) ms b cw_then)
  follows_on f left e reads ms b cw_then t = record {
    server = on_done w.server.backend s ∙ t.server;
    client = sym (ap is_handed (taken_behind e reads) ∙ has_behind is_connection (message_of e ∷ []) (messages (end_in w.client).taken) (sym t.client));
  }

  -- one that shakes hands was told no connection
  asks_on : (k left : ClientView) (e : Event) → ReadsEvent (Some (pending.Request e)) w (read_world side.Client w) → is_connection (message_of e) ≡ false → (ms : List Sent) (b : BackendView) (cw_then : Bool) → AreDoneByLists {H = H} (pair w (Asks k) s steady cw sw) → AreDoneByLists (client_then (Asks left) ms b cw_then)
  asks_on k left e reads none ms b cw_then t = record {
    server = on_done w.server.backend s ∙ t.server;
    client = t.client ∙ sym (ap is_handed (taken_behind e reads) ∙ unhanded_more (message_of e) (messages (end_in w.client).taken) none);
  }

  -- one that was
  follows_now : (k : ClientView) (f : ClientConverter H) (e : Event) → ReadsEvent (Some (pending.Request e)) w (read_world side.Client w) → is_connection (message_of e) ≡ true → (ms : List Sent) (b : BackendView) (cw_then : Bool) → AreDoneByLists {H = H} (pair w (Asks k) s steady cw sw) → AreDoneByLists (client_then (Follows f) ms b cw_then)
  follows_now k f e reads some ms b cw_then t = record {
    server = on_done w.server.backend s ∙ t.server;
    client = sym (ap is_handed (taken_behind e reads) ∙ handed_more (message_of e) (messages (end_in w.client).taken) some);
  }

  -- a message to no object was taken off
  missed : (k : ClientStage H) (id : ℕ) → ReadsEvent (Some (pending.InvalidObject id)) w (read_world side.Client w) → AreDoneByLists (pair w k s steady cw sw) → AreDoneByLists (pair (read_world side.Client w) k there steady cw sw)
  missed k id reads t = record {
    server = on_done w.server.backend s ∙ t.server;
    client = t.client ∙ sym (ap (λ (x : End). is_handed (messages x.taken)) (gone_taken true id w.client reads));
  }

  following_steps : (f : ClientConverter H) → AreDoneByLists (pair w (Follows f) s steady cw sw) → (before after : Option (List ℕ)) (result : Result Bool Error) (new : PairView H) (answer : Option (PendingRequestResult Event)) → ReadsEvent answer w (read_world side.Client w) →
      ClientSteps may answer before after (pair w (Follows f) s steady cw sw) (pair (read_world side.Client w) (Follows f) there steady cw sw) result new → AreDoneByLists new
  following_steps f t before after result new None reads u = same_pair (pair w (Follows f) s steady cw sw) new u.1 t
  following_steps f t before after result new (Some (pending.ParseError e)) reads u = absurd u
  following_steps f t before after result new (Some (pending.InvalidObject id)) reads u = same_pair _ new u.0.1 (missed (Follows f) id reads t)
  following_steps f t before after result new (Some (pending.Request e)) reads u = same_pair _ new u.leaves (follows_on f u.left e reads (ponged_on u.answer e) (answered_on_event u.answer e (having_read true w.client).backend) (or_wanted cw result) t)

module _ (laws : ShakingLaws) (first : FirstHeeds) {H : Type 0} (may : H → ℕ → ℕ → Type 0) (w : WorldView) (k : ClientView) (s : ServerStage) (steady cw sw : Bool) (whole : w.spent ≡ false) (ok : IsPair {H = H} (pair w (Asks k) s steady cw sw)) (keeps : Keeps {H = H} (pair w (Asks k) s steady cw sw))
    (a : AreAnswering {H = H} k (pair w (Asks k) s steady cw sw)) (t : AreDoneByLists {H = H} (pair w (Asks k) s steady cw sw)) where
  told_so : (e : Event) → ReadsEvent (Some (pending.Request e)) w (read_world side.Client w) → (answer : Result (Option HandshakeResp) Error) (left : ClientView) (ctx : BackendView) (ms : List Sent) (cw_then : Bool) →
      Asked (messages (end_in w.client).taken) k (having_read true w.client).backend e answer left ctx → AreDoneByLists (client_then {H = H} may w s steady cw sw (client_after answer left) ms ctx cw_then)
  told_so e reads answer left ctx ms cw_then (Greeted f b g l short c) = subst (λ (q : Result (Option HandshakeResp) Error). AreDoneByLists (client_then {H = H} may w s steady cw sw (client_after q left) ms ctx cw_then)) (sym f)
      (asks_on {H = H} may w s steady cw sw k left e reads (ap says_connection b) ms ctx cw_then t)
  told_so e reads answer left ctx ms cw_then (Silent why f b g l r c) = subst (λ (q : Result (Option HandshakeResp) Error). AreDoneByLists (client_then {H = H} may w s steady cw sw (client_after q left) ms ctx cw_then)) (sym f)
      (asks_on {H = H} may w s steady cw sw k left e reads (ap says_connection b) ms ctx cw_then t)
  told_so e reads answer left ctx ms cw_then (asked.ToldOne f g n h l v c) = subst (λ (q : Result (Option HandshakeResp) Error). AreDoneByLists (client_then {H = H} may w s steady cw sw (client_after q left) ms ctx cw_then)) (sym f)
      (asks_on {H = H} may w s steady cw sw k left e reads n ms ctx cw_then t)
  told_so e reads answer left ctx ms cw_then (Handed serial connection proxy is resp f g h c) = subst (λ (q : Result (Option HandshakeResp) Error). AreDoneByLists (client_then {H = H} may w s steady cw sw (client_after q left) ms ctx cw_then)) (sym f)
      (follows_now {H = H} may w s steady cw sw k _ e reads (ap (λ (x : Event). is_connection (message_of x)) is ∙ ap says_connection (says_shake (event.Handshake proxy (told.Connection serial connection)))) ms ctx cw_then t)

  asking_steps : (before after : Option (List ℕ)) (result : Result Bool Error) (new : PairView H) (answer : Option (PendingRequestResult Event)) → ReadsEvent answer w (read_world side.Client w) →
      ClientSteps may answer before after (pair w (Asks k) s steady cw sw) (pair (read_world side.Client w) (Asks k) (on_endpoint w.server.backend s) steady cw sw) result new → AreDoneByLists new
  asking_steps before after result new None reads u = same_pair (pair w (Asks k) s steady cw sw) new u.1 t
  asking_steps before after result new (Some (pending.ParseError e)) reads u = absurd u
  asking_steps before after result new (Some (pending.InvalidObject id)) reads u = same_pair _ new u.0.1 (missed {H = H} may w s steady cw sw (Asks k) id reads t)
  asking_steps before after result new (Some (pending.Request e)) reads u =
      let i = u.0 in
      same_pair _ new i.leaves (told_so e reads i.answer i.left i.ctx (asked_on i.answer k e) (or_wanted cw result) (asks.asks_so laws first {H = H} w k s steady cw sw whole ok.world (keeps.greeting whole).0 a e reads i.answer i.left i.ctx i.handles))

nothing_heard : {H : Type 0} (may : H → ℕ → ℕ → Type 0) (answer : Option (PendingRequestResult Event)) (before after : Option (List ℕ)) (old taken : PairView H) (result : Result Bool Error) (new : PairView H) → GivesNone answer → ClientSteps may answer before after old taken result new → new ≡ old
nothing_heard may None before after old taken result new g s = s.1
nothing_heard may (Some (pending.Request r)) before after old taken result new g s = absurd g
nothing_heard may (Some (pending.InvalidObject id)) before after old taken result new g s = absurd g
nothing_heard may (Some (pending.ParseError e)) before after old taken result new g s = absurd s

client_stage : (laws : ShakingLaws) (first : FirstHeeds) {H : Type 0} (may : H → ℕ → ℕ → Type 0) (w : WorldView) (k : ClientStage H) (s : ServerStage) (steady cw sw : Bool) → w.spent ≡ false → IsPair (pair w k s steady cw sw) → Keeps (pair w k s steady cw sw) → AreDoneByLists (pair w k s steady cw sw) →
    (before after : Option (List ℕ)) (result : Result Bool Error) (new : PairView H) (answer : Option (PendingRequestResult Event)) → ReadsEvent answer w (read_world side.Client w) →
    ClientSteps may answer before after (pair w k s steady cw sw) (pair (read_world side.Client w) k (on_endpoint w.server.backend s) steady cw sw) result new → AreDoneByLists new
client_stage laws first {H} may w (Follows f) s steady cw sw whole ok keeps t before after result new answer reads u = following_steps may w s steady cw sw f t before after result new answer reads u
client_stage laws first {H} may w (Asks k) s steady cw sw whole ok keeps t before after result new answer reads u = by (keeps.greeting whole).1
  where
    by : AreAnswering {H = H} k (pair w (Asks k) s steady cw sw) ⊎ AreStuck {H = H} (pair w (Asks k) s steady cw sw) → AreDoneByLists new
    by (inl a) = asking_steps laws first {H = H} may w k s steady cw sw whole ok keeps a t before after result new answer reads u
    by (inr a) = same_pair _ new (nothing_heard may answer before after _ _ result new (client_keeps.reads_none w whole ok.world a.client_waits answer reads) u) t

pub client_steps_done : (laws : ShakingLaws) (first : FirstHeeds) {H : Type 0} (may : H → ℕ → ℕ → Type 0) (p : PairView H) → p.ends.spent ≡ false → IsPair p → Keeps p → AreDoneByLists p → (before after : Option (List ℕ)) (result : Result Bool Error) (new : PairView H) → StepsClient may p before after result new → AreDoneByLists new
client_steps_done laws first may p whole ok keeps t before after result new (inl s) = client_stage laws first may p.ends p.client p.server p.steady p.client_wanted p.server_wanted whole ok keeps t before after result new s.answer s.reads s.steps
client_steps_done laws first may p whole ok keeps t before after result new (inr s) = same_pair _ new s.leaves (same_lists p (record p { client_wanted = true }) refl refl refl refl t)
