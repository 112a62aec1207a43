-- A call of a server leaves two ends joined, and the server one.
use Rattle.std.proofs.Common.{◌≡◌, ℕ, Bool, true, List, map, refl, sym, ap, subst, ◌∙◌}
use Rattle.ei_ends.specs.Sent.{Sent, Got}
use Rattle.ei_ends.specs.Way.{onto, End}
use Rattle.ei_ends.specs.Steps.{with_backend}
use Rattle.ei_ends.specs.Joined.{Joined, AreListedCalls}
use Rattle.ei_linked.specs.declared.record.Record.{Record}
use Rattle.ei_linked.specs.declared.side.Side.TheVariants as side
use Rattle.ei_linked.specs.Stored.{sent_view}
use Rattle.ei_linked.specs.TwoEnds.{WorldView, with_end, end_of}
use Rattle.ei_server.specs.declared.request.Request.{Request}
use Rattle.ei_server.specs.Request.{target_of as request_target}
use Rattle.ei_request.specs.Connection.{ConnectionView}
use Rattle.ei_request.specs.Converter.{ConverterView as ServerConverter}
use Rattle.ei_request.specs.Handling.{handled}
use Rattle.ei_request.specs.Typed.{meaning_of}
use Rattle.ei_acts.specs.Acts.{answers}
use Rattle.ei_acts.specs.Holding.{IsTargetOf}
use Rattle.ei_acts.specs.Acting as act
use Rattle.ei_acts.specs.Acting.{Act, Makes, IsSteady}
use Rattle.ei_acts.specs.Allowed.{MayAnswer, MayDo, announced_by, after_announced}
use Rattle.ei_acts.specs.Sendable.{IsEndOf}
use Rattle.ei_acts.specs.Serving.{Serves}
use Rattle.ei_acts.proofs.Joining.{act_may, announced_sent}
use Rattle.ei_acts.proofs.Serving.{serves_then}
use Rattle.ei_promises.specs.declared.calls.ServerCall.{ServerCall}
use Rattle.ei_promises.specs.declared.calls.ServerCall.TheVariants as call
use Rattle.ei_linked.specs.Written.{stored_onto}
use Rattle.ei_promises.specs.Stepping.{server_handed}
use Rattle.ei_promises.specs.Calling.{act_of, messages_of, stored_by_call, server_called}
use Rattle.ei_promises.proofs.Storing.{stored_behind}

pub sent_by_call : (s : ServerCall) (w : WorldView) (c : ConnectionView) → AreListedCalls true (messages_of s w c) (end_of side.Server w).sent (end_of side.Server w).taken →
    map sent_view (stored_by_call s w c) ≡ onto (messages_of s w c) (end_of side.Server w).sent
sent_by_call (call.Input target opcode values) w c h = refl
sent_by_call s w c h = stored_behind true (messages_of s w c) w.server.sent (end_of side.Server w).sent (end_of side.Server w).taken refl h

-- an act whose messages are stored so
module _ (a : Act) (w : WorldView) (c left : ConnectionView) (stored : List Record) (was steady : Bool) (j : Joined true (end_of side.Server w) (end_of side.Client w) w.to_client w.to_server) (serves : Serves (end_of side.Server w) c was)
    (may : MayDo a (end_of side.Server w) c) (made : Makes a c left) (steadily : steady ≡ true → (was ≡ true) × IsSteady a c)
    (is : AreListedCalls true (announced_by (end_of side.Server w).sent a c) (end_of side.Server w).sent (end_of side.Server w).taken → map sent_view stored ≡ onto (announced_by (end_of side.Server w).sent a c) (end_of side.Server w).sent) where
  act_stays : Joined true (end_of side.Server (with_end side.Server (record { backend = left.ctx; sent = stored; taken = w.server.taken }) w)) (end_of side.Client w) w.to_client w.to_server
      × Serves (end_of side.Server (with_end side.Server (record { backend = left.ctx; sent = stored; taken = w.server.taken }) w)) left steady
  act_stays =
      let x : End = end_of side.Server w in
      let end : IsEndOf x c = record { client = end_of side.Client w; to_client = w.to_client; to_server = w.to_server; joined = j; backend = serves.backend } in
      let listed = act_may a x c left end serves.holds may made in
      let sent : map sent_view stored ≡ (after_announced a c x).sent = is listed ∙ sym (announced_sent a c x).0 in
      let same : (let e : End = record { backend = left.ctx; sent = map sent_view stored; taken = x.taken } in e) ≡ with_backend left.ctx (after_announced a c x) =
      ap (λ (l : List Sent). let e : End = record { backend = left.ctx; sent = l; taken = x.taken } in e) sent
      ∙ ap (λ (l : List Got). let e : End = record { backend = left.ctx; sent = (after_announced a c x).sent; taken = l } in e) (sym (announced_sent a c x).1) in
      subst (λ (e : End). Joined true e (end_of side.Client w) w.to_client w.to_server × Serves e left steady) (sym same)
      (serves_then a x (end_of side.Client w) w.to_client w.to_server c left was steady j serves may made steadily)

pub server_stays : (s : ServerCall) (w : WorldView) (c left : ConnectionView) (was steady : Bool) → Joined true (end_of side.Server w) (end_of side.Client w) w.to_client w.to_server → Serves (end_of side.Server w) c was →
    MayDo (act_of s w) (end_of side.Server w) c → Makes (act_of s w) c left → (steady ≡ true → (was ≡ true) × IsSteady (act_of s w) c) →
    Joined true (end_of side.Server (server_called s w c left)) (end_of side.Client w) w.to_client w.to_server × Serves (end_of side.Server (server_called s w c left)) left steady
server_stays s w c left was steady j serves may made steadily = act_stays (act_of s w) w c left (stored_by_call s w c) was steady j serves may made steadily (λ h. sent_by_call s w c h)

-- a request that its converter handles
pub server_answers : (r : Request) (w : WorldView) (c left : ServerConverter) (time : ℕ) (was : Bool) → Joined true (end_of side.Server w) (end_of side.Client w) w.to_client w.to_server → Serves (end_of side.Server w) c.handle was →
    MayAnswer (meaning_of r) (end_of side.Server w) → IsTargetOf (meaning_of r) c.handle.ctx.table (request_target r).id → left ≡ handled c (request_target r).id (meaning_of r) time →
    Joined true (end_of side.Server (server_handed r w c left)) (end_of side.Client w) w.to_client w.to_server × Serves (end_of side.Server (server_handed r w c left)) left.handle was
server_answers r w c left time was j serves may target does =
    let id : ℕ = (request_target r).id in
    let x : End = end_of side.Server w in
    let a : Act = act.Answers id (meaning_of r) time in
    let made : Makes a c.handle left.handle = (target, (c.queue, ap (λ (l : ServerConverter). l.handle) does)) in
    act_stays a w c.handle left.handle (stored_onto true (answers c.handle id (meaning_of r)) w.server.sent) was was j serves may made (λ t. (t, tt))
    (λ h. stored_behind true (answers c.handle id (meaning_of r)) w.server.sent x.sent x.taken refl h)
