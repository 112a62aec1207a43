-- The client's handshaker or converter handled an event: what it sent, and what the pair is once that is stored.
use Rattle.std.proofs.Common.{◌≡◌, ◌≢◌, ℕ, false, List, length, Option, Some, None, Result, Ok, Err, refl, sym, ap, subst, ◌∙◌}
use Rattle.ei_spec.specs.NameMap.{NameMap}
use Rattle.ei_types.specs.declared.error.Error.{Error}
use Rattle.ei_backend.specs.Backend.{BackendView}
use Rattle.ei_client.specs.declared.event.Event.{Event}
use Rattle.ei_client.specs.declared.event.Event.TheVariants as event
use Rattle.ei_client.specs.declared.handshake.Event.TheVariants as told
use Rattle.ei_client.specs.declared.connection.Event.TheVariants as connection
use Rattle.ei_ends.specs.Sent.{Sent}
use Rattle.ei_linked.specs.declared.side.Side.TheVariants as side
use Rattle.ei_linked.specs.TwoEnds.{end_of, with_end}
use Rattle.ei_handshake.specs.declared.client.HandshakeResp.{HandshakeResp}
use Rattle.ei_handshake.specs.Client.{ClientView, HandlesEvent}
use Rattle.ei_event.specs.Kept.{KeptView}
use Rattle.ei_event.specs.Converter.{ConverterView as ClientConverter}
use Rattle.ei_promises.specs.Pair.{PairView, ClientStage, Asks, Follows, ServerStage, Shakes, Serves, maps_of, maps_in, receipts_in, having_sent_all}
use Rattle.ei_promises.specs.Stepping.{as_step, asked_on, ponged_on, client_after, HandsEvent}
use Rattle.ei_promises.specs.Keeping.{HasSentAll}
use Rattle.ei_pair.specs.Parts.{PartsView, client_in, pair_in}
use Rattle.ei_pair.specs.Stages.{converter_after, FollowsEnd, HearsEnd}
use Rattle.ei_pair.proofs.Laws.{ClientLaws}
use Rattle.ei_pair.specs.Stepped.{TookEvent, client_answered, client_stored}
use Rattle.ei_pair.proofs.Handing.{step_done}

-- ---- by what the handshaker answered

stage_after : {H : Type 0} (answer : Result (Option HandshakeResp) Error) (left : ClientView) → client_in {H = H} left (converter_after answer) ≡ client_after answer left
stage_after (Ok (Some resp)) left = refl
stage_after (Ok None) left = refl
stage_after (Err e) left = refl

-- where the connection is handed over nothing is sent
handed_over : (h left : ClientView) (b ctx : BackendView) (e : Event) (resp : HandshakeResp) → HandlesEvent h b e (Ok (Some resp)) left ctx → ctx ≡ b
handed_over h left b ctx (event.Handshake proxy (told.HandshakeVersion version)) resp x = absurd x
handed_over h left b ctx (event.Handshake proxy (told.InterfaceVersion name version)) resp x = absurd x
handed_over h left b ctx (event.Handshake proxy (told.Connection serial connection)) resp x = x.1
handed_over h left b ctx other resp x = absurd x

-- so where anything is sent it shakes hands still
asks_still : {H : Type 0} (h left : ClientView) (b ctx : BackendView) (e : Event) (answer : Result (Option HandshakeResp) Error) → HandlesEvent h b e answer left ctx → length ctx.unsent ≢ length b.unsent → client_after {H = H} answer left ≡ Asks left
asks_still h left b ctx e (Ok (Some resp)) x more = absurd (more (ap (λ (c : BackendView). length c.unsent) (handed_over h left b ctx e resp x)))
asks_still h left b ctx e (Ok None) x more = refl
asks_still h left b ctx e (Err why) x more = refl

-- ---- what is known then

pub record Heard {H : Type 0} (may : H → ℕ → ℕ → Type 0) (p : PartsView H) (e : Event) (before after : Option (List ℕ)) (result : Result (Unit {0}) Error) (left : ClientView) (ctx : BackendView) (c : Option (ClientConverter H)) : Type 0 where
  pub ms : List Sent
  pub sent : HasSentAll false ms (end_of side.Client (pair_in p).ends) ctx
  pub hands : HandsEvent may (pair_in p).client e before after (pair_in p) (as_step result) (client_answered (as_step result) (pair_in (client_stored ctx ms left c p)))
  pub maps : length ctx.unsent ≢ length p.ends.client.context.unsent → maps_in (record (pair_in p) { client = client_in left c }) ≡ maps_in (pair_in p)
  pub receipts : length ctx.unsent ≢ length p.ends.client.context.unsent → receipts_in (client_in left c) ≡ receipts_in (pair_in p).client

abbrev with_converter : {H : Type 0} → Option (ClientConverter H) → PartsView H → PartsView H
with_converter c q = record q { converter = c }

-- ---- a converter that sends something was asked by a ping

pings : {H : Type 0} (may : H → ℕ → ℕ → Type 0) (c : ClientConverter H) (b : BackendView) (e : Event) (before after : Option (List ℕ)) (result : Result (Unit {0}) Error) (ctx : BackendView) (new : Option (ClientConverter H)) →
    (x : FollowsEnd may c b e before after result ctx new) → length ctx.unsent ≢ length b.unsent → (x.left.kept.negotiated ≡ c.kept.negotiated) × (x.left.receipts ≡ c.receipts)
pings may c b (event.Connection target (connection.Ping ping)) before after (Ok t) ctx new x more = (ap (λ (k : KeptView). k.negotiated) x.handles.ends.1, x.receipts)
pings may c b e before after (Err why) ctx new x more = absurd (more (ap (λ (z : BackendView). length z.unsent) x.sends))
pings may c b e before after (Ok t) ctx new x more = absurd (more (ap (λ (z : BackendView). length z.unsent) x.sends))

-- ---- by where the client stands

follows_maps : {H : Type 0} (s : ServerStage) (c d : ClientConverter H) → d.kept.negotiated ≡ c.kept.negotiated → maps_of (Follows d) s ≡ maps_of (Follows c) s
follows_maps (Shakes h) c d e = refl
follows_maps (Serves k) c d e = ap (λ (m : NameMap). let o : Option (NameMap × NameMap) = Some (m, k.handle.negotiated) in o) e

heard_at : {H : Type 0} (laws : ClientLaws H) (may : H → ℕ → ℕ → Type 0) (o : Option (ClientConverter H)) (q : PartsView H) (e : Event) (before after : Option (List ℕ)) (result : Result (Unit {0}) Error) (left : ClientView) (ctx : BackendView) (c : Option (ClientConverter H)) →
    TookEvent e (pair_in (with_converter o q)) → HearsEnd may o q.asks q.ends.client.context e before after result left ctx c → Heard may (with_converter o q) e before after result left ctx c
heard_at {H} laws may None q e before after result left ctx c t h =
    let p : PartsView H = with_converter None q in
    let x = h.0 in
    let ms : List Sent = asked_on x.answer q.asks e in
    let stage : client_in left c ≡ client_after x.answer left = ap (client_in left) x.leaves ∙ stage_after x.answer left in
    record {
      ms = ms;
      sent = laws.asks e (pair_in p) q.asks left x.answer ctx t refl x.handles;
      hands = (
        record {
          answer = x.answer;
          left = left;
          ctx = ctx;
          handles = x.handles;
          answers = ap as_step x.answers ∙ step_done x.answer;
          leaves = ap (λ (s : ClientStage H). client_answered (as_step result) (record (pair_in (client_stored ctx ms left c p)) { client = s })) stage;
        },
        h.1,
      );
      maps = λ more. ap (λ (s : ClientStage H). maps_of s (pair_in p).server) (stage ∙ asks_still q.asks left q.ends.client.context ctx e x.answer x.handles more);
      receipts = λ more. ap (λ (s : ClientStage H). receipts_in s) (stage ∙ asks_still q.asks left q.ends.client.context ctx e x.answer x.handles more);
    }
heard_at {H} laws may (Some k) q e before after result left ctx c t h =
    let p : PartsView H = with_converter (Some k) q in
    let x = h.0 in
    let ms : List Sent = ponged_on result e in
    record {
      ms = ms;
      sent = subst (λ (b : BackendView). HasSentAll false ms (end_of side.Client (pair_in p).ends) b) (sym x.sends) (laws.follows e (pair_in p) k x.left before after result t refl x.handles);
      hands = record {
        answer = result;
        left = x.left;
        handles = x.handles;
        receipts = x.receipts;
        handlers = x.handlers;
        answers = refl;
        leaves = ap (λ (o : Option (ClientConverter H)). client_answered (as_step result) (pair_in (client_stored ctx ms left o p))) x.leaves
            ∙ ap (λ (b : BackendView). let v : PairView H = client_answered (as_step result) (record (pair_in p) { ends = with_end side.Client (having_sent_all false ms b (pair_in p).ends.client) (pair_in p).ends; client = Follows x.left }) in v) x.sends;
      };
      maps = λ more. ap (λ (o : Option (ClientConverter H)). maps_of (client_in left o) (pair_in p).server) x.leaves ∙ follows_maps (pair_in p).server k x.left (pings may k q.ends.client.context e before after result ctx c x more).0;
      receipts = λ more. ap (λ (o : Option (ClientConverter H)). receipts_in (client_in left o)) x.leaves ∙ (pings may k q.ends.client.context e before after result ctx c x more).1;
    }

pub heard : {H : Type 0} (laws : ClientLaws H) (may : H → ℕ → ℕ → Type 0) (p : PartsView H) (e : Event) (before after : Option (List ℕ)) (result : Result (Unit {0}) Error) (left : ClientView) (ctx : BackendView) (c : Option (ClientConverter H)) →
    TookEvent e (pair_in p) → HearsEnd may p.converter p.asks p.ends.client.context e before after result left ctx c → Heard may p e before after result left ctx c
heard laws may p e before after result left ctx c t h = heard_at laws may p.converter p e before after result left ctx c t h
