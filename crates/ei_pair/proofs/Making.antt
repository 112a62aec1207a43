-- What a server's call leaves: its messages are read back from what waits to be sent, and two ends stay joined.
use Rattle.std.proofs.Common.{◌≡◌, ℕ, Bool, true, false, List, ◌++◌, length, refl, sym, ap, subst, ◌∙◌}
use Rattle.std.specs.Prelude.{drop}
use Rattle.std.specs.List.{flat_map}
use Rattle.std.proofs.Math.Seq.{drop-append_seam}
use Rattle.ei_spec.specs.Interface.{ObjectView}
use Rattle.ei_types.specs.Enums.{disconnect_reason_number}
use Rattle.ei_session.specs.Events.{resumed_event}
use Rattle.ei_backend.specs.Endpoint.{Endpoint, endpoint_of}
use Rattle.ei_ends.specs.Sent.{Sent, handles_in, spelled}
use Rattle.ei_ends.specs.Way.{End}
use Rattle.ei_ends.specs.Joined.{Joined}
use Rattle.ei_linked.specs.declared.side.Side.TheVariants as side
use Rattle.ei_linked.specs.Stored.{with_endpoint}
use Rattle.ei_linked.specs.TwoEnds.{WorldView, IsWorld, end_of}
use Rattle.ei_linked.specs.Written.{AreWritten, unsent_in, stored_onto}
use Rattle.ei_linked.proofs.Kept.{world_back}
use Rattle.ei_request.specs.Connection.{ConnectionView}
use Rattle.ei_request.specs.Sending as sending
use Rattle.ei_request.specs.Making.{granted_at}
use Rattle.ei_acts.specs.Acts as acts
use Rattle.ei_acts.specs.Holding.{Sends}
use Rattle.ei_acts.specs.Acting as act
use Rattle.ei_acts.specs.Acting.{Act, Makes}
use Rattle.ei_acts.specs.Allowed.{MayDo, announced_by, after_announced}
use Rattle.ei_acts.specs.Sendable.{IsEndOf, announced_in, HoldsAnnounced}
use Rattle.ei_acts.specs.Serving.{Serves as IsServer}
use Rattle.ei_acts.proofs.Sending.{resumed_sends, paused_sends, start_sends, stop_sends, frame_sends, seat_comes_sends}
use Rattle.ei_acts.proofs.Describing.{device_of_seat_sends}
use Rattle.ei_acts.proofs.AsAnnounced.{device_goes_as, seat_goes_as, ends_as}
use Rattle.ei_acts.proofs.HeldAnnounced.{held_device_goes, held_seat_goes, all_held_go}
use Rattle.ei_acts.proofs.Joining.{act_may}
use Rattle.ei_promises.specs.declared.calls.ServerCall.{ServerCall}
use Rattle.ei_promises.specs.declared.calls.ServerCall.TheVariants as call
use Rattle.ei_promises.specs.Calling.{act_of, object_at, text_in, messages_of, stored_by_call, server_called}
use Rattle.ei_promises.proofs.Called.{server_stays}
use Rattle.ei_pair.specs.Calls.{MayMake, Leaves}
use Rattle.ei_pair.proofs.Written.{unsent_after, handles_after, closed_after}

-- ---- the endpoint that it leaves

told_of : (ms : List Sent) (old made new : ConnectionView) → new ≡ made → Sends ms old made → Sends ms old new
told_of ms old made new e s = subst (Sends ms old) (sym e) s

-- what tells by the key's id tells by the object's
by_key : (ms : List Sent) (old : ConnectionView) (make : ℕ → ConnectionView) (a b : ℕ) → a ≡ b → Sends ms old (make a) → Sends ms old (make b)
by_key ms old make a b e s = subst (λ (n : ℕ). Sends ms old (make n)) e s

leaves_endpoint : (s : ServerCall) (w : WorldView) (c left : ConnectionView) → (end_of side.Server w).backend ≡ c.ctx → HoldsAnnounced (end_of side.Server w).sent c → MayMake s c → MayDo (act_of s w) (end_of side.Server w) c → Makes (act_of s w) c left →
    endpoint_of left.ctx ≡ endpoint_of (after_announced (act_of s w) c (end_of side.Server w)).backend
leaves_endpoint (call.AddSeat name capabilities) w c left e h meets may m =
    seat_comes_sends c left (text_in (call.AddSeat name capabilities)) capabilities m (end_of side.Server w) e
leaves_endpoint (call.AddDevice seat name kind capabilities setup) w c left e h meets may m =
    device_of_seat_sends c left seat (object_at w seat.id) (text_in (call.AddDevice seat name kind capabilities setup)) kind (granted_at c seat.id capabilities) setup.now m.1 m.0 may.6 (end_of side.Server w) e
leaves_endpoint (call.RemoveSeat seat) w c left e h meets may m =
    seat_goes_as (announced_in (end_of side.Server w).sent) c left seat.id m (held_seat_goes (end_of side.Server w).sent c seat.id h) (end_of side.Server w) e
leaves_endpoint (call.RemoveDevice device) w c left e h meets may m =
    device_goes_as (announced_in (end_of side.Server w).sent) c left device m (held_device_goes (end_of side.Server w).sent c device h) (end_of side.Server w) e
leaves_endpoint (call.Resumed device) w c left e h meets may m =
    let o : ObjectView = object_at w device.proxy.id in
    let ms : List Sent = acts.resumed c o in
    told_of ms c _ left m.1 (by_key ms c (λ id. sending.tells c (resumed_event id)) o.id device.proxy.id m.0.same (resumed_sends c o)) (end_of side.Server w) e
leaves_endpoint (call.Paused device) w c left e h meets may m =
    let o : ObjectView = object_at w device.proxy.id in
    told_of (acts.paused c o) c _ left m.1 (paused_sends c device o m.0.same) (end_of side.Server w) e
leaves_endpoint (call.StartEmulating device sequence) w c left e h meets may m =
    let o : ObjectView = object_at w device.proxy.id in
    let ms : List Sent = acts.start_emulating c o sequence in
    told_of ms c _ left m.1 (by_key ms c (λ id. sending.tells c (λ serial. sending.start_emulating_event id serial sequence)) o.id device.proxy.id m.0.same (start_sends c o sequence)) (end_of side.Server w) e
leaves_endpoint (call.StopEmulating device) w c left e h meets may m =
    let o : ObjectView = object_at w device.proxy.id in
    let ms : List Sent = acts.stop_emulating c o in
    told_of ms c _ left m.1 (by_key ms c (λ id. sending.tells c (sending.stop_emulating_event id)) o.id device.proxy.id m.0.same (stop_sends c o)) (end_of side.Server w) e
leaves_endpoint (call.Frame device time) w c left e h meets may m =
    let o : ObjectView = object_at w device.proxy.id in
    let ms : List Sent = acts.frame c o time in
    told_of ms c _ left m.1 (by_key ms c (λ id. sending.tells c (λ serial. sending.frame_event id serial time)) o.id device.proxy.id m.0.same (frame_sends c o time)) (end_of side.Server w) e
leaves_endpoint (call.Input target opcode values) w c left e h meets may m = absurd meets
leaves_endpoint (call.Disconnected r explanation) w c left e h meets may m =
    ends_as (announced_in (end_of side.Server w).sent) c left (disconnect_reason_number r) (text_in (call.Disconnected r explanation)) (end_of side.Server w) m (all_held_go (end_of side.Server w).sent c h) e

-- ---- its messages wait behind what waited

unsent_then : (a : Act) (c : ConnectionView) (x : End) → (after_announced a c x).backend.unsent ≡ x.backend.unsent ++ spelled (announced_by x.sent a c)
unsent_then (act.Disconnects r text) c x = unsent_after true (announced_by x.sent (act.Disconnects r text) c) x
unsent_then a c x = unsent_after true (announced_by x.sent a c) x

handles_then : (a : Act) (c : ConnectionView) (x : End) → (after_announced a c x).backend.unsent_handles ≡ x.backend.unsent_handles ++ flat_map handles_in (announced_by x.sent a c)
handles_then (act.Disconnects r text) c x = handles_after true (announced_by x.sent (act.Disconnects r text) c) x
handles_then a c x = handles_after true (announced_by x.sent a c) x

-- an end that was closed is closed
closed_then : (a : Act) (c : ConnectionView) (x : End) → x.backend.closed ≡ true → (after_announced a c x).backend.closed ≡ true
closed_then (act.Disconnects r text) c x was = refl
closed_then a c x was = closed_after true (announced_by x.sent a c) x ∙ was

module _ (s : ServerCall) (w : WorldView) (c left : ConnectionView) (steady : Bool) (j : Joined true (end_of side.Server w) (end_of side.Client w) w.to_client w.to_server) (serves : IsServer (end_of side.Server w) c steady)
    (may : MayDo (act_of s w) (end_of side.Server w) c) (made : Makes (act_of s w) c left) where
  pub call_written : MayMake s c → AreWritten true (unsent_in w.server.backend) (messages_of s w c) (with_endpoint left.ctx w.server)
  call_written meets =
      let ms : List Sent = messages_of s w c in
      let x : End = end_of side.Server w in
      let e = leaves_endpoint s w c left serves.backend serves.holds meets may made in
      let bytes : left.ctx.unsent ≡ w.server.backend.unsent ++ spelled ms = ap (λ (p : Endpoint). p.unsent) e ∙ unsent_then (act_of s w) c x in
      let handles : left.ctx.unsent_handles ≡ w.server.backend.unsent_handles ++ flat_map handles_in ms = ap (λ (p : Endpoint). p.unsent_handles) e ∙ handles_then (act_of s w) c x in
      let end : IsEndOf x c = record { client = end_of side.Client w; to_client = w.to_client; to_server = w.to_server; joined = j; backend = serves.backend } in
      record {
        calls = act_may (act_of s w) x c left end serves.holds may made;
        bytes = ap (drop (length w.server.backend.unsent)) bytes ∙ drop-append_seam w.server.backend.unsent (spelled ms);
        handles = ap (drop (length w.server.backend.unsent_handles)) handles ∙ drop-append_seam w.server.backend.unsent_handles (flat_map handles_in ms);
      }

  pub call_closed : MayMake s c → w.server.backend.closed ≡ true → left.ctx.closed ≡ true
  call_closed meets was = ap (λ (p : Endpoint). p.closed) (leaves_endpoint s w c left serves.backend serves.holds meets may made) ∙ closed_then (act_of s w) c (end_of side.Server w) was

  -- ---- two ends stay joined

  pub called_world : IsWorld (server_called s w c left)
  called_world =
      let stays = server_stays s w c left steady false j serves may made (λ e. absurd cc) in
      world_back w.client (record { backend = left.ctx; sent = stored_by_call s w c; taken = w.server.taken }) w.to_client w.to_server w.spent stays.0

-- its messages are stored behind those that were sent before
pub stored_is : (s : ServerCall) (w : WorldView) (c : ConnectionView) → MayMake s c → stored_by_call s w c ≡ stored_onto true (messages_of s w c) w.server.sent
stored_is (call.Input target opcode values) w c meets = absurd meets
stored_is s w c meets = refl

-- ---- what was settled stays

pub leaves_settled : (s : ServerCall) (c left : ConnectionView) → MayMake s c → Leaves s c left → left.negotiated ≡ c.negotiated
leaves_settled (call.AddSeat name capabilities) c left meets l = ap (λ (d : ConnectionView). d.negotiated) l.rest
leaves_settled (call.AddDevice seat name kind capabilities setup) c left meets l = ap (λ (d : ConnectionView). d.negotiated) l.rest
leaves_settled (call.RemoveSeat seat) c left meets l = ap (λ (d : ConnectionView). d.negotiated) l.rest
leaves_settled (call.RemoveDevice device) c left meets l = ap (λ (d : ConnectionView). d.negotiated) l.rest
leaves_settled (call.Resumed device) c left meets l = ap (λ (d : ConnectionView). d.negotiated) l
leaves_settled (call.Paused device) c left meets l = ap (λ (d : ConnectionView). d.negotiated) l
leaves_settled (call.StartEmulating device sequence) c left meets l = ap (λ (d : ConnectionView). d.negotiated) l
leaves_settled (call.StopEmulating device) c left meets l = ap (λ (d : ConnectionView). d.negotiated) l
leaves_settled (call.Frame device time) c left meets l = ap (λ (d : ConnectionView). d.negotiated) l
leaves_settled (call.Input target opcode values) c left meets l = absurd meets
leaves_settled (call.Disconnected r explanation) c left meets l = ap (λ (d : ConnectionView). d.negotiated) l.rest
