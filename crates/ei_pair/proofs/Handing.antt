-- The server's handshaker or converter handled a request: what it sent, and what the pair is once that is stored.
use Rattle.std.proofs.Common.{◌≡◌, ℕ, true, List, Option, Some, None, Result, Ok, Err, refl, sym, ap, subst, ◌∙◌}
use Rattle.ei_spec.specs.NameMap.{NameMap}
use Rattle.ei_types.specs.declared.error.Error.{Error}
use Rattle.ei_backend.specs.Backend.{BackendView}
use Rattle.ei_server.specs.declared.request.Request.{Request}
use Rattle.ei_ends.specs.Sent.{Sent}
use Rattle.ei_linked.specs.declared.side.Side.TheVariants as side
use Rattle.ei_linked.specs.TwoEnds.{end_of, with_end}
use Rattle.ei_handshake.specs.declared.server.EisHandshakeResp.{EisHandshakeResp}
use Rattle.ei_handshake.specs.Handshaker.{HandshakerView}
use Rattle.ei_request.specs.Converter.{ConverterView as ServerConverter}
use Rattle.ei_promises.specs.Pair.{PairView, ClientStage, Asks, Follows, ServerStage, Serves, maps_of, maps_in, having_sent_all}
use Rattle.ei_promises.specs.Stepping.{as_step, settled_on, answered_on, server_after, HandsRequest}
use Rattle.ei_promises.specs.Keeping.{HasSentAll}
use Rattle.ei_pair.specs.declared.server_end.ServerEnd.{ServerEnd}
use Rattle.ei_pair.specs.declared.server_end.ServerEnd.TheVariants as end
use Rattle.ei_pair.specs.ServerEnd.{endpoint_in}
use Rattle.ei_pair.specs.Parts.{PartsView, server_in, pair_in}
use Rattle.ei_pair.specs.Stages.{as_done, end_after, ObeysEnd}
use Rattle.ei_pair.proofs.Laws.{ServerLaws}
use Rattle.ei_pair.specs.Stepped.{TookRequest, server_answered, server_stored}

-- ---- by what the handshaker answered

endpoint_after : (answer : Result (Option EisHandshakeResp) Error) (serial : ℕ) (ctx : BackendView) → endpoint_in (end_after answer serial ctx) ≡ ctx
endpoint_after (Ok (Some resp)) serial ctx = refl
endpoint_after (Ok None) serial ctx = refl
endpoint_after (Err e) serial ctx = refl

stage_after : (answer : Result (Option EisHandshakeResp) Error) (left : HandshakerView) (serial : ℕ) (ctx : BackendView) → server_in left (end_after answer serial ctx) ≡ server_after answer left serial ctx
stage_after (Ok (Some resp)) left serial ctx = refl
stage_after (Ok None) left serial ctx = refl
stage_after (Err e) left serial ctx = refl

pub step_done : {A : Type 0} (answer : Result A Error) → as_step (as_done answer) ≡ as_step answer
step_done (Ok a) = refl
step_done (Err e) = refl

-- the pair once it is stored
shaken_pair : {H : Type 0} (p : PartsView H) (answer : Result (Option EisHandshakeResp) Error) (left : HandshakerView) (serial : ℕ) (ctx : BackendView) (ms : List Sent) →
    pair_in (server_stored (end_after answer serial ctx) ms left p)
    ≡ record (pair_in p) { ends = with_end side.Server (having_sent_all true ms ctx (pair_in p).ends.server) (pair_in p).ends; server = server_after answer left serial ctx }
shaken_pair p (Ok (Some resp)) left serial ctx ms = refl
shaken_pair p (Ok None) left serial ctx ms = refl
shaken_pair p (Err e) left serial ctx ms = refl

-- ---- what is known then

-- what was sent, and what the pair is once that is stored; where it isn't, the maps are as before
pub record Handed {H : Type 0} (p : PartsView H) (r : Request) (before after : Option (List ℕ)) (result : Result (Unit {0}) Error) (left : HandshakerView) (s : ServerEnd) : Type 0 where
  pub ms : List Sent
  pub sent : HasSentAll true ms (end_of side.Server (pair_in p).ends) (endpoint_in s)
  pub hands : HandsRequest (pair_in p).server r before after (pair_in p) (as_step result) (server_answered (as_step result) (pair_in (server_stored s ms left p)))
  pub maps : maps_in (record (pair_in p) { server = server_in left s }) ≡ maps_in (pair_in p)

served_maps : {H : Type 0} (s : ClientStage H) (c d : ServerConverter) → d.handle.negotiated ≡ c.handle.negotiated → maps_of s (Serves d) ≡ maps_of s (Serves c)
served_maps (Asks h) c d e = refl
served_maps (Follows k) c d e = ap (λ (m : NameMap). let o : Option (NameMap × NameMap) = Some (k.kept.negotiated, m) in o) e

abbrev with_context : {H : Type 0} → ServerEnd → PartsView H → PartsView H
with_context c q = record q { ends = record q.ends { server = record q.ends.server { context = c } } }

handed_at : {H : Type 0} (laws : ServerLaws H) (c : ServerEnd) (q : PartsView H) (r : Request) (before after : Option (List ℕ)) (result : Result (Unit {0}) Error) (left : HandshakerView) (s : ServerEnd) →
    TookRequest r (pair_in (with_context c q)) → ObeysEnd c q.tells r before after result left s → Handed (with_context c q) r before after result left s
handed_at {H} laws (end.Shaking b) q r before after result left s t h =
    let p : PartsView H = with_context (end.Shaking b) q in
    let x = h.0 in
    let ms : List Sent = settled_on x.answer q.tells b.table.next_own in
    let at : endpoint_in s ≡ x.ctx = ap endpoint_in x.leaves ∙ endpoint_after x.answer q.tells.serial x.ctx in
    let pair = ap (λ (e : ServerEnd). server_answered (as_step result) (pair_in (server_stored e ms left p))) x.leaves
    ∙ ap (λ (v : PairView H). server_answered (as_step result) v) (shaken_pair p x.answer left q.tells.serial x.ctx ms) in
    record {
      ms = ms;
      sent = subst (λ (e : BackendView). HasSentAll true ms (end_of side.Server (pair_in p).ends) e) (sym at) (laws.shakes r (pair_in p) q.tells left x.answer x.ctx t refl x.handles);
      hands = (record { answer = x.answer; left = left; ctx = x.ctx; handles = x.handles; answers = ap as_step x.answers ∙ step_done x.answer; leaves = pair }, h.1);
      maps = ap (λ (e : ServerEnd). maps_in (record (pair_in p) { server = server_in left e })) x.leaves
          ∙ ap (λ (g : ServerStage). maps_in (record (pair_in p) { server = g })) (stage_after x.answer left q.tells.serial x.ctx)
          ∙ laws.maps r (pair_in p) q.tells left x.answer x.ctx t refl x.handles;
    }
handed_at {H} laws (end.Talking c) q r before after result left s t h =
    let p : PartsView H = with_context (end.Talking c) q in
    let x = h.0 in
    let ms : List Sent = answered_on result c r in
    let at : endpoint_in s ≡ x.left.handle.ctx = ap endpoint_in x.leaves in
    let pair = ap (λ (e : ServerEnd). server_answered (as_step result) (pair_in (server_stored e ms left p))) x.leaves in
    record {
      ms = ms;
      sent = subst (λ (e : BackendView). HasSentAll true ms (end_of side.Server (pair_in p).ends) e) (sym at) (laws.serves r (pair_in p) c x.left before after result t refl x.handles);
      hands = record { answer = result; left = x.left; handles = x.handles; answers = refl; leaves = pair };
      maps = ap (λ (e : ServerEnd). maps_in (record (pair_in p) { server = server_in left e })) x.leaves ∙ served_maps (pair_in p).client c x.left (laws.keeps_map r (pair_in p) c x.left before after result t refl x.handles);
    }

pub handed : {H : Type 0} (laws : ServerLaws H) (p : PartsView H) (r : Request) (before after : Option (List ℕ)) (result : Result (Unit {0}) Error) (left : HandshakerView) (s : ServerEnd) →
    TookRequest r (pair_in p) → ObeysEnd p.ends.server.context p.tells r before after result left s → Handed p r before after result left s
handed laws p r before after result left s t h = handed_at laws p.ends.server.context p r before after result left s t h
