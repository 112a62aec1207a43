-- The server of two joined ends stays one, at each act and where it rests.
use Rattle.std.proofs.Common.{◌≡◌, ℕ, Bool, true, List, [], ◌∷◌, Some, refl, sym, ap, subst, ◌∙◌}
use Rattle.ei_spec.specs.declared.interface.KnownInterface.TheVariants as known
use Rattle.ei_spec.specs.Interface.{ObjectView}
use Rattle.ei_spec.specs.Piece.{Piece}
use Rattle.ei_ends.specs.Sent.{Sent}
use Rattle.ei_ends.specs.Way.{onto, End}
use Rattle.ei_ends.specs.Steps.{with_backend}
use Rattle.ei_ends.specs.Joined.{Joined}
use Rattle.ei_ends.proofs.Known.{announced_onto}
use Rattle.ei_reported.specs.Said.{Said, said}
use Rattle.ei_reported.specs.Reported.{refusal}
use Rattle.ei_steady.specs.Steady.{NoneRefused, after}
use Rattle.ei_told.specs.Told.{event_of, all_said, after_connection, messages, NoneMissed, NeverRefused}
use Rattle.ei_told.proofs.Telling.{more_taken, never_refused}
use Rattle.ei_request.specs.Connection.{ConnectionView}
use Rattle.ei_request.specs.Converter.{ConverterView}
use Rattle.ei_request.specs.Held.{SeatView, DeviceView, is_seat, has_interface}
use Rattle.ei_request.specs.Keys.{DeviceKey}
use Rattle.ei_request.specs.declared.event.EisRequest.{EisRequest}
use Rattle.ei_request.specs.Handling as handling
use Rattle.ei_session.specs.Meaning.{Meaning, Shakes, Syncs, Disconnects, Pongs, ReleasesSeat, Binds, RequestsDevice, Closes, Starts, Stops, Frames, Readies, Releases, Inputs}
use Rattle.std.specs.Prelude.{Option, None, find}
use Rattle.ei_acts.specs.Holding.{said_by, StandsWith}
use Rattle.ei_acts.specs.Sendable.{AnnouncesIt, HoldsAnnounced, IsEndOf}
use Rattle.ei_acts.specs.Acting as act
use Rattle.ei_acts.specs.Acting.{Act, sent_by, IsQuiet, Makes, IsSteady, IsFresh}
use Rattle.ei_acts.specs.Allowed.{MayDo, announced_by, after_announced}
use Rattle.ei_acts.specs.Serving.{IsHeard, Serves}
use Rattle.ei_acts.proofs.Acting.{begins, act_steady, said_onto, connection_onto}
use Rattle.ei_acts.proofs.Joining.{announced_joined, announced_same, announced_sent}
use Rattle.ei_acts.proofs.HeldAnnounced.{fresh_held, held_more, act_held}

-- ---- the connection's object stays

closes_proxy : (c : ConverterView) (id time : ℕ) (make : DeviceKey → EisRequest) (o : Option DeviceView) → (handling.closes c id time make o).handle.proxy ≡ c.handle.proxy
closes_proxy c id time make None = refl
closes_proxy c id time make (Some d) = refl

hands_out_proxy : (c : ConverterView) (id serial time : ℕ) (o : Option DeviceView) → (handling.hands_out c id serial time o).handle.proxy ≡ c.handle.proxy
hands_out_proxy c id serial time None = refl
hands_out_proxy c id serial time (Some d) = refl

queues_proxy : (c : ConverterView) (make : ObjectView → EisRequest) (o : Option SeatView) → (handling.queues_of_seat c make o).handle.proxy ≡ c.handle.proxy
queues_proxy c make None = refl
queues_proxy c make (Some s) = refl

gives_up_proxy : (c : ConnectionView) (id : ℕ) (o : Option DeviceView) → (handling.gives_up c id o).proxy ≡ c.proxy
gives_up_proxy c id None = refl
gives_up_proxy c id (Some d) = refl

answer_proxy : (c : ConverterView) (id : ℕ) (meaning : Meaning) (time : ℕ) → (handling.handled c id meaning time).handle.proxy ≡ c.handle.proxy
answer_proxy c id (Shakes shake) time = refl
answer_proxy c id (Syncs callback version) time = refl
answer_proxy c id Disconnects time = refl
answer_proxy c id (Pongs number) time = refl
answer_proxy c id ReleasesSeat time = refl
answer_proxy c id (Binds mask) time = queues_proxy c (handling.bind_of mask) (find (is_seat id) c.handle.seats)
answer_proxy c id (RequestsDevice mask) time = queues_proxy c (handling.request_device_of mask) (find (is_seat id) c.handle.seats)
answer_proxy c id Closes time = closes_proxy c id time handling.closed_of (handling.device_in c id)
answer_proxy c id (Starts serial sequence) time = closes_proxy c id time (handling.start_of serial sequence) (handling.device_in c id)
answer_proxy c id (Stops serial) time = closes_proxy c id time (handling.stop_of serial) (handling.device_in c id)
answer_proxy c id (Frames serial sent) time = hands_out_proxy c id serial sent (handling.device_in c id)
answer_proxy c id Readies time = closes_proxy c id time handling.ready_of (handling.device_in c id)
answer_proxy c id Releases time = gives_up_proxy c.handle id (find (has_interface id) c.handle.devices)
answer_proxy c id (Inputs i) time = refl

same_proxy : (a : Act) (old new : ConnectionView) → Makes a old new → new.proxy ≡ old.proxy
same_proxy act.Rests old new m = m.proxy
same_proxy (act.Resumes key device) old new m = ap (λ (c : ConnectionView). c.proxy) m.1
same_proxy (act.Pauses key device) old new m = ap (λ (c : ConnectionView). c.proxy) m.1
same_proxy (act.StartsEmulating key device sequence) old new m = ap (λ (c : ConnectionView). c.proxy) m.1
same_proxy (act.StopsEmulating key device) old new m = ap (λ (c : ConnectionView). c.proxy) m.1
same_proxy (act.EndsFrame key device time) old new m = ap (λ (c : ConnectionView). c.proxy) m.1
same_proxy (act.SendsInput message) old new m = ap (λ (c : ConnectionView). c.proxy) m
same_proxy (act.TellsMissing id) old new m = ap (λ (c : ConnectionView). c.proxy) m
same_proxy (act.Answers id meaning time) old new m = ap (λ (c : ConnectionView). c.proxy) m.1.1 ∙ answer_proxy (record { handle = old; queue = m.1.0 }) id meaning time
same_proxy (act.AddsSeat name given) old new m = ap (λ (c : ConnectionView). c.proxy) m.rest
same_proxy (act.AddsDevice key seat name kind wanted items) old new m = ap (λ (c : ConnectionView). c.proxy) m.1.rest
same_proxy (act.RemovesDevice key) old new m = ap (λ (c : ConnectionView). c.proxy) m.rest
same_proxy (act.RemovesSeat id) old new m = ap (λ (c : ConnectionView). c.proxy) m.rest
same_proxy (act.Disconnects reason text) old new m = ap (λ (c : ConnectionView). c.proxy) m.rest

-- ---- at first

pub serves_first : (x : End) (c : ConnectionView) → x.backend ≡ c.ctx → AnnouncesIt x.sent known.Connection c.proxy → IsFresh c → after_connection x.sent ≡ Some [] → Serves x c true
serves_first x c e to f behind = record {
  backend = e;
  connection = to;
  holds = fresh_held x.sent c f;
  heard = λ s. record { said = []; behind = behind; never = tt; stands = begins c f };
}

-- ---- where it rests

pub serves_on : (x z : End) (old new : ConnectionView) (steady : Bool) → Serves x old steady → IsEndOf z new → z.sent ≡ x.sent → IsQuiet old new → Serves z new steady
serves_on x z old new steady s e same q = record {
  backend = e.backend;
  connection = subst (λ (l : List Sent). AnnouncesIt l known.Connection new.proxy) (sym same) (subst (λ (o : ObjectView). AnnouncesIt x.sent known.Connection o) (sym q.proxy) s.connection);
  holds = act_held z old new e (subst (λ (l : List Sent). HoldsAnnounced l old) (sym same) s.holds) act.Rests q;
  heard = λ t. let h = s.heard t in let k = act_steady act.Rests old new (record { steady = tt; made = q }) (all_said h.said) h.stands in
      record { said = h.said; behind = ap after_connection same ∙ h.behind; never = h.never; stands = k.1 };
}

-- ---- an act

module _ (a : Act) (x y : End) (to_y to_x : Piece) (old new : ConnectionView) (was steady : Bool) (j : Joined true x y to_y to_x) (s : Serves x old was) (may : MayDo a x old) (made : Makes a old new)
    (steadily : steady ≡ true → (was ≡ true) × IsSteady a old) where
  heard_then : steady ≡ true → IsHeard (onto (announced_by x.sent a old) x.sent) new
  heard_then t =
      let r = steadily t in
      let h = s.heard r.0 in
      let end : IsEndOf x old = record { client = y; to_client = to_y; to_server = to_x; joined = j; backend = s.backend } in
      let same = announced_same a x old end h.stands.there in
      let k = act_steady a old new (record { steady = r.1; made = made }) (all_said h.said) h.stands in
      let told : NoneRefused (all_said h.said) (said_by (announced_by x.sent a old)) × StandsWith (after (all_said h.said) (said_by (announced_by x.sent a old))) new =
      subst (λ (l : List Sent). NoneRefused (all_said h.said) (said_by l) × StandsWith (after (all_said h.said) (said_by l)) new) (sym same) k in
      let all = said_onto (announced_by x.sent a old) h.said in
      record {
        said = onto (announced_by x.sent a old) h.said;
        behind = connection_onto (announced_by x.sent a old) x.sent h.said h.behind;
        never = subst NeverRefused (sym all) (more_taken (all_said h.said) (said_by (announced_by x.sent a old)) h.never told.0);
        stands = subst (λ (l : List Said). StandsWith l new) (sym all) told.1;
      }

  pub serves_then : Joined true (with_backend new.ctx (after_announced a old x)) y to_y to_x × Serves (with_backend new.ctx (after_announced a old x)) new steady
  serves_then =
      let joined = announced_joined a x y to_y to_x old new j s.backend s.holds may made in
      let sent : (after_announced a old x).sent ≡ onto (announced_by x.sent a old) x.sent = (announced_sent a old x).0 in
      let end : IsEndOf (with_backend new.ctx (after_announced a old x)) new = record { client = y; to_client = to_y; to_server = to_x; joined = joined; backend = refl } in (
        joined,
        record {
          backend = refl;
          connection = subst (λ (l : List Sent). AnnouncesIt l known.Connection new.proxy) (sym sent)
              (subst (λ (o : ObjectView). AnnouncesIt (onto (announced_by x.sent a old) x.sent) known.Connection o) (sym (same_proxy a old new made)) (announced_onto true (announced_by x.sent a old) x.sent old.proxy.id _ s.connection));
          holds = act_held (with_backend new.ctx (after_announced a old x)) old new end (subst (λ (l : List Sent). HoldsAnnounced l old) (sym sent) (held_more (announced_by x.sent a old) x.sent old s.holds)) a made;
          heard = λ t. subst (λ (l : List Sent). IsHeard l new) (sym sent) (heard_then t);
        },
      )

-- ---- at the client

pub serves_never : (x y : End) (to_y to_x : Piece) (c : ConnectionView) (ms : List Sent) (r : Sent) → Joined true x y to_y to_x → Serves x c true → NoneMissed y.taken → after_connection (messages y.taken) ≡ Some (r ∷ ms) →
    refusal (all_said ms) (said (event_of r)) ≡ None
serves_never x y to_y to_x c ms r j s none taken = let h = s.heard refl in never_refused x y to_y to_x h.said ms r j none h.behind h.never taken
