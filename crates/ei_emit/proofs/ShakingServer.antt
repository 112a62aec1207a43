-- A step of a server, while the two ends of its pair shake hands.
use Rattle.std.proofs.Common.{◌≡◌, ℕ, ◌≤◌, Bool, true, false, inl, inr, List, [], ◌∷◌, length, Option, Some, None, Result, Ok, Err, refl, sym, ap, subst, ◌∙◌}
use Rattle.ei_types.specs.declared.error.Error.{Error}
use Rattle.ei_types.specs.declared.error.Error.TheVariants as error
use Rattle.ei_backend.specs.Backend.{BackendView}
use Rattle.ei_backend.specs.declared.message.PendingRequestResult.{PendingRequestResult}
use Rattle.ei_backend.specs.declared.message.PendingRequestResult.TheVariants as pending
use Rattle.ei_ends.specs.Sent.{Sent}
use Rattle.ei_ends.specs.Way.{onto, End}
use Rattle.ei_told.specs.Told.{messages}
use Rattle.ei_greeting.specs.Shaking.{Greeter}
use Rattle.ei_shaking.specs.Messages.{greeting, settled_by}
use Rattle.ei_server.specs.declared.request.Request.{Request}
use Rattle.ei_handshake.specs.declared.server.EisHandshakeResp.{EisHandshakeResp}
use Rattle.ei_handshake.specs.Client.{ClientView}
use Rattle.ei_handshake.specs.Handshaker.{HandshakerView, Completes}
use Rattle.ei_linked.specs.declared.side.Side.TheVariants as side
use Rattle.ei_linked.specs.Stored.{end_in, having_read}
use Rattle.ei_linked.specs.TwoEnds.{WorldView, end_of, with_end, read_world}
use Rattle.ei_request.specs.Connection.{ConnectionView, new_connection}
use Rattle.ei_request.specs.Converter.{ConverterView as ServerConverter}
use Rattle.ei_acts.specs.Acting.{IsFresh, AllShake}
use Rattle.ei_acts.specs.Sendable.{IsEndOf}
use Rattle.ei_acts.proofs.Fresh.{fresh}
use Rattle.ei_promises.specs.Pair.{ClientStage, Asks, Follows, ServerStage, Shakes, Serves, PairView, IsPair, having_sent_all, on_endpoint}
use Rattle.ei_promises.specs.Stepping.{ReadsRequest, ServerSteps, StepsServer, HandsRequest, settled_on, server_after, as_step, or_wanted}
use Rattle.ei_promises.specs.Keeping.{HasSentAll, lists_at, AreAnswering, Keeps}
use Rattle.ei_promises.proofs.Given.{ShakingLaws}
use Rattle.ei_promises.proofs.Greetings.{server_began, done_all}
use Rattle.ei_promises.proofs.Takes.{taken_count}
use Rattle.ei_promises.proofs.Settling.{settled_shake}
use Rattle.ei_promises.proofs.Storing.{sent_end}
use Rattle.ei_promises.proofs.Received.{request_taken}
use Rattle.ei_promises.proofs.Requests.{message_of}
use Rattle.ei_promises.proofs.Shook.{Shook, ToldOne, Finished, Wanted}
use Rattle.ei_promises.proofs.ServerShakes as shakes
use Rattle.ei_promises.proofs.ServerShakes.{pair}
use Rattle.ei_promises.proofs.ServerKeeps.{GivesNone, pair_joined, reads_none}
use Rattle.ei_pair.specs.Stepped.{IsKept}
use Rattle.ei_pair.specs.Done.{HasFirstIds}
use Rattle.ei_emit.proofs.Shaking.{InHandshakes, still_unwanted, answering}

-- where nothing is read no message was taken
none_taken : {H : Type 0} (answer : Option (PendingRequestResult Request)) (before after : Option (List ℕ)) (old taken new : PairView H) → GivesNone answer →
    ServerSteps answer before after old taken (Ok true) new → ⊥
none_taken None before after old taken new g s = let e = s.0 in absurd cc
none_taken (Some (pending.Request r)) before after old taken new g s = g
none_taken (Some (pending.InvalidObject id)) before after old taken new g s = g
none_taken (Some (pending.ParseError e)) before after old taken new g s = s

-- ---- a server that shakes hands takes a request

module _ (laws : ShakingLaws) {H : Type 0} (g : Greeter) (start : ℕ) (w : WorldView) (k : ClientView) (h : HandshakerView) (steady cw sw : Bool) (whole : w.spent ≡ false)
    (ok : IsPair {H = H} (pair w (Asks k) (Shakes h) steady cw sw))
    (a : AreAnswering {H = H} k (pair w (Asks k) (Shakes h) steady cw sw)) (i : InHandshakes {H = H} g start (pair w (Asks k) (Shakes h) steady cw sw)) (r : Request)
    (reads : ReadsRequest (Some (pending.Request r)) w (read_world side.Server w)) where
  abbrev own_id : ℕ
  own_id = (having_read false w.server).backend.table.next_own

  abbrev past : List Sent
  past = messages (end_in w.server).taken

  module _ (answer : Result (Option EisHandshakeResp) Error) (left : HandshakerView) (ctx : BackendView) where
    -- the pair behind it
    abbrev ends_then : List Sent → WorldView
    ends_then ms = with_end side.Server (having_sent_all true ms ctx (having_read false w.server)) (read_world side.Server w)

    abbrev then : List Sent → ServerStage → PairView H
    then ms s = pair (ends_then ms) (Asks k) s steady cw (or_wanted sw (Ok true))

    stays_unwanted : or_wanted sw (Ok true) ≡ false
    stays_unwanted = still_unwanted sw i.wanted.1

    -- it was told one thing more
    told_then : left.serial ≡ start → InHandshakes g start (then [] (Shakes left))
    told_then is = record { steady = i.steady; wanted = (i.wanted.0, stays_unwanted); endpoint = tt; stand = (i.stand.0, is) }

    -- or its handshake is done
    module _ (resp : EisHandshakeResp) (done : Completes 0 h (having_read false w.server).backend resp left ctx) where
      abbrev settled : List Sent
      settled = settled_by h.versions h.serial own_id

      abbrev connection : ConnectionView
      connection = new_connection ctx resp h.serial

      abbrev serving : ServerConverter
      serving = record { handle = connection; queue = [] }

      begun : (end_in (having_read false w.server)).sent ≡ greeting ∷ []
      begun = ap (λ (e : End). e.sent) (request_taken r w.server reads) ∙ server_began k.greeter a.serial (lists_at side.Server w) (lists_at side.Client w) a.shaking a.server.unfinished

      sent_then : HasSentAll true settled (end_in (having_read false w.server)) ctx → (end_of side.Server (ends_then settled)).sent ≡ onto settled (greeting ∷ [])
      sent_then s = ap (λ (e : End). e.sent) (sent_end true settled ctx (having_read false w.server) s.listed) ∙ ap (onto settled) begun

      fresh_then : HasSentAll true settled (end_in (having_read false w.server)) ctx → IsPair (then settled (Serves serving)) → IsFresh connection
      fresh_then s p =
          let end : IsEndOf (end_of side.Server (ends_then settled)) connection = record {
            client = end_in w.client;
            to_client = w.to_client;
            to_server = w.to_server;
            joined = pair_joined (then settled (Serves serving)) p whole;
            backend = refl;
          } in
          fresh (end_of side.Server (ends_then settled)) connection end
          (subst AllShake (sym (sent_then s)) (settled_shake h.versions h.serial own_id)) refl refl

      done_then : HasSentAll true settled (end_in (having_read false w.server)) ctx → IsPair (then settled (Serves serving)) →
          HasFirstIds (pair w (Asks k) (Shakes h) steady cw sw) (then settled (Serves serving)) →
          InHandshakes g start (then settled (Serves serving))
      done_then s p first = record {
        steady = i.steady;
        wanted = (i.wanted.0, stays_unwanted);
        endpoint = refl;
        stand = (
          i.stand.0,
          record {
            fresh = fresh_then s p;
            serial = i.stand.1;
            next = (first h serving refl refl).1;
            versions = h.versions;
            id = own_id;
            sent = sent_then s ∙ ap (λ (n : ℕ). onto (settled_by h.versions n own_id) (greeting ∷ [])) i.stand.1;
          },
        );
      }

    -- by what the handshaker did
    by_shook : (new : PairView H) → Shook a.serial past h (having_read false w.server).backend (message_of r) answer left ctx → Ok true ≡ as_step answer →
        HasSentAll true (settled_on answer h own_id) (end_in (having_read false w.server)) ctx →
        new ≡ then (settled_on answer h own_id) (server_after answer left h.serial ctx) → IsPair new → HasFirstIds (pair w (Asks k) (Shakes h) steady cw sw) new → InHandshakes g start new
    by_shook new (ToldOne is f t e) took sent leaves p first =
        let same : new ≡ then [] (Shakes left) = leaves ∙ ap (λ (b : Result (Option EisHandshakeResp) Error). then (settled_on b h own_id) (server_after b left h.serial ctx)) is in
        subst (InHandshakes g start) (sym same) (told_then (t.serial_is ∙ sym a.server.serial_is ∙ i.stand.1))
    by_shook new (Finished resp is f c) took sent leaves p first =
        let same : new ≡ then (settled resp c) (Serves (serving resp c)) = leaves ∙ ap (λ (b : Result (Option EisHandshakeResp) Error). then (settled_on b h own_id) (server_after b left h.serial ctx)) is in
        let all : HasSentAll true (settled resp c) (end_in (having_read false w.server)) ctx = subst (λ (b : Result (Option EisHandshakeResp) Error). HasSentAll true (settled_on b h own_id) (end_in (having_read false w.server)) ctx) is sent in
        subst (InHandshakes g start) (sym same)
        (done_then resp c all (subst IsPair same p) (subst (λ (q : PairView H). HasFirstIds (pair w (Asks k) (Shakes h) steady cw sw) q) same first))
    by_shook new (Wanted is f e) took sent leaves p first = absurd (let both : ◌≡◌ {A = Result Bool Error} (Ok true) (Err error.NoMemory) = took ∙ ap as_step is in cc)

  pub shaken_on : (before after : Option (List ℕ)) (new : PairView H) → HandsRequest (Shakes h) r before after (pair (read_world side.Server w) (Asks k) (Shakes h) steady cw sw)
      (Ok true) new → IsPair new → HasFirstIds (pair w (Asks k) (Shakes h) steady cw sw) new →
      InHandshakes g start new × (after ≡ before)
  shaken_on before after new s p first =
      let t = s.0 in (
        by_shook t.answer t.left t.ctx new (shakes.shakes_so laws {H = H} w k h steady cw sw whole ok.world a r reads t.answer t.left t.ctx t.handles) t.answers
            (shakes.shakes_sent laws {H = H} w k h steady cw sw whole ok.world a r reads t.answer t.left t.ctx t.handles) t.leaves p first,
        s.1,
      )

-- ---- any step

module _ (laws : ShakingLaws) {H : Type 0} (g : Greeter) (fits : length g.name ≤ 1048555) (start : ℕ) where
  -- a server that is done took all that the client sent
  done_took : (w : WorldView) (k : ClientView) (c : ServerConverter) (steady cw sw : Bool) → AreAnswering {H = H} k (pair w (Asks k) (Serves c) steady cw sw) →
      length (end_in w.server).taken ≡ length (end_in w.client).sent
  done_took w k c steady cw sw a = sym (taken_count (end_in w.server).taken a.server_misses) ∙ done_all k.greeter a.serial (lists_at side.Server w) (lists_at side.Client w) a.shaking a.unhanded a.server.0

  by_answer : (w : WorldView) (k : ClientView) (h : HandshakerView) (steady cw sw : Bool) → w.spent ≡ false → IsPair {H = H} (pair w (Asks k) (Shakes h) steady cw sw) →
      AreAnswering {H = H} k (pair w (Asks k) (Shakes h) steady cw sw) →
      InHandshakes {H = H} g start (pair w (Asks k) (Shakes h) steady cw sw) → (before after : Option (List ℕ)) (new : PairView H) (answer : Option (PendingRequestResult Request)) → ReadsRequest answer w (read_world side.Server w) →
      ServerSteps answer before after (pair w (Asks k) (Shakes h) steady cw sw) (pair (read_world side.Server w) (Asks k) (Shakes h) steady cw sw) (Ok true) new → IsPair new → HasFirstIds (pair w (Asks k) (Shakes h) steady cw sw) new → InHandshakes g start new × (after ≡ before)
  by_answer w k h steady cw sw whole ok a i before after new None reads s p first = absurd (let e = s.0 in cc)
  by_answer w k h steady cw sw whole ok a i before after new (Some (pending.InvalidObject id)) reads s p first = absurd (let e = s.0.0 in cc)
  by_answer w k h steady cw sw whole ok a i before after new (Some (pending.ParseError e)) reads s p first = absurd s
  by_answer w k h steady cw sw whole ok a i before after new (Some (pending.Request r)) reads s p first = shaken_on laws {H = H} g start w k h steady cw sw whole ok a i r reads before after new s p first

  by_stage : (w : WorldView) (k : ClientStage H) (t : ServerStage) (steady cw sw : Bool) → w.spent ≡ false → IsPair (pair w k t steady cw sw) → Keeps (pair w k t steady cw sw) →
      InHandshakes g start (pair w k t steady cw sw) →
      (before after : Option (List ℕ)) (new : PairView H) (answer : Option (PendingRequestResult Request)) → ReadsRequest answer w (read_world side.Server w) →
      ServerSteps answer before after (pair w k t steady cw sw) (pair (read_world side.Server w) k (on_endpoint (having_read false w.server).backend t) steady cw sw) (Ok true) new → IsPair new → HasFirstIds (pair w k t steady cw sw) new → InHandshakes g start new × (after ≡ before)
  by_stage w (Asks k) (Shakes h) steady cw sw whole ok keeps i before after new answer reads s p first =
      by_answer w k h steady cw sw whole ok (answering g w k (Shakes h) steady cw sw fits i.stand.0 i.wanted.0 i.wanted.1 (keeps.greeting whole)) i before after new answer reads s p first
  by_stage w (Asks k) (Serves c) steady cw sw whole ok keeps i before after new answer reads s p first =
      let a = answering {H = H} g w k (Serves c) steady cw sw fits i.stand.0 i.wanted.0 i.wanted.1 (keeps.greeting whole) in
      absurd (none_taken answer before after _ _ new (reads_none w whole ok.world (done_took w k c steady cw sw a) answer reads) s)
  by_stage w (Follows f) (Serves c) steady cw sw whole ok keeps i before after new answer reads s p first =
      absurd (none_taken answer before after _ _ new (reads_none w whole ok.world i.stand.0.server_all answer reads) s)
  by_stage w (Follows f) (Shakes h) steady cw sw whole ok keeps i before after new answer reads s p first = absurd i.stand

  pub server_on : (p : PairView H) → p.ends.spent ≡ false → IsKept p → InHandshakes g start p → (before after : Option (List ℕ)) (new : PairView H) →
      StepsServer p before after (Ok true) new → IsPair new → HasFirstIds p new → InHandshakes g start new × (after ≡ before)
  server_on p whole kept i before after new (inl s) q first = by_stage p.ends p.client p.server p.steady p.client_wanted p.server_wanted whole kept.pair kept.keeps i before after new s.answer s.reads s.steps q first
  server_on p whole kept i before after new (inr s) q first = absurd (let e = s.answers in cc)
