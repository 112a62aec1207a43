-- Two ends stay joined at each act of the server.
use Rattle.std.proofs.Common.{◌≡◌, ℕ, true, false, List, [], ◌∷◌, ◌++◌, Option, Some, None, refl, sym, ap, subst}
use Rattle.std.specs.Prelude.{find}
use Rattle.ei_spec.specs.declared.interface.KnownInterface.{KnownInterface}
use Rattle.ei_spec.specs.declared.interface.KnownInterface.TheVariants as known
use Rattle.ei_spec.specs.Interface.{ObjectView}
use Rattle.ei_spec.specs.Piece.{Piece}
use Rattle.ei_session.specs.Events.{resumed_event}
use Rattle.ei_session.specs.Meaning.{Meaning, Shakes, Syncs, Disconnects, Pongs, ReleasesSeat, Binds, RequestsDevice, Closes, Starts, Stops, Frames, Readies, Releases, Inputs}
use Rattle.ei_backend.specs.Endpoint.{endpoint_of}
use Rattle.ei_ends.specs.Sent.{Sent}
use Rattle.ei_ends.specs.Way.{onto, End}
use Rattle.ei_ends.specs.Steps.{with_backend, after_call, after_calls, closed_end}
use Rattle.ei_ends.specs.Joined.{Joined, AreListedCalls}
use Rattle.ei_ends.proofs.Alike.{alike}
use Rattle.ei_ends.proofs.JoinedSteps.{turned, close, calls_turn}
use Rattle.ei_ends.proofs.ReadingAll.{are_calls}
use Rattle.ei_request.specs.declared.event.EisRequest.{EisRequest}
use Rattle.ei_request.specs.Keys.{DeviceKey}
use Rattle.ei_request.specs.Held.{SeatView, DeviceView, is_seat, is_of_key, has_interface, gone_ids, gone_with_seat, all_seat_ids}
use Rattle.ei_request.specs.Connection.{ConnectionView}
use Rattle.ei_request.specs.Converter.{ConverterView}
use Rattle.ei_request.specs.Sending as sending
use Rattle.ei_request.specs.Making.{granted_at}
use Rattle.ei_request.specs.Handling as handling
use Rattle.ei_acts.specs.Acts.{answers}
use Rattle.ei_acts.specs.Acts as acts
use Rattle.ei_acts.specs.Holding.{Sends, AllMayGo, IsTargetOf}
use Rattle.ei_acts.specs.There.{IsThere, HasInterfaceThere, HoldsThere}
use Rattle.ei_acts.specs.Sendable.{IsEndOf, announced_in, HoldsAnnounced}
use Rattle.ei_acts.specs.Acts.{disconnected_as}
use Rattle.ei_acts.specs.Events as event
use Rattle.ei_acts.specs.Acting as act
use Rattle.ei_acts.specs.Acting.{Act, sent_by, Makes}
use Rattle.ei_acts.specs.Allowed.{MayAnswer, MayDo, after_act, announced_by, after_announced}
use Rattle.ei_acts.proofs.Effects.{sends_by}
use Rattle.ei_acts.proofs.Sending.{resumed_sends, paused_sends, start_sends, stop_sends, frame_sends, invalid_sends, sync_sends, seat_release_sends, interface_release_sends, device_goes_sends, seat_goes_sends, seat_comes_sends}
use Rattle.ei_acts.proofs.Describing.{device_of_seat_sends, ends_sends}
use Rattle.ei_acts.proofs.Inputting.{input_sends}
use Rattle.ei_acts.proofs.EndMay.{sync_may}
use Rattle.ei_acts.proofs.SeatMay.{seat_comes_may}
use Rattle.ei_acts.proofs.DeviceMay.{device_comes_may}
use Rattle.ei_acts.proofs.MayAct.{invalid_act, gone_act, disconnected_act}
use Rattle.ei_acts.proofs.MaySend.{resumed_may, paused_may, start_may, stop_may, frame_may}
use Rattle.ei_acts.proofs.AsAnnounced.{device_goes_as, seat_goes_as, ends_as, gone_as_may, ends_as_may, same_as_there}
use Rattle.ei_acts.proofs.HeldAnnounced.{held_device_goes, held_seat_goes, all_held_go}
use Rattle.ei_acts.proofs.AnnouncedThere.{may_where, of_device, device_may_go, seat_may_go, all_may_go}

-- ---- the answers to requests

unsent : (old new : ConnectionView) → new.ctx ≡ old.ctx → Sends [] old new
unsent old new e = sends_by [] old new (ap endpoint_of e)

closes_sends : (c : ConverterView) (id time : ℕ) (make : DeviceKey → EisRequest) (o : Option DeviceView) → Sends [] c.handle (handling.closes c id time make o).handle
closes_sends c id time make None = unsent c.handle c.handle refl
closes_sends c id time make (Some d) = unsent c.handle (handling.emptied_at c.handle id) refl

hands_out_sends : (c : ConverterView) (id serial time : ℕ) (o : Option DeviceView) → Sends [] c.handle (handling.hands_out c id serial time o).handle
hands_out_sends c id serial time None = unsent c.handle c.handle refl
hands_out_sends c id serial time (Some d) = unsent c.handle (handling.emptied_at c.handle id) refl

queues_sends : (c : ConverterView) (make : ObjectView → EisRequest) (o : Option SeatView) → Sends [] c.handle (handling.queues_of_seat c make o).handle
queues_sends c make None = unsent c.handle c.handle refl
queues_sends c make (Some s) = unsent c.handle c.handle refl

seat_may : (c : ConnectionView) (id : ℕ) → IsThere c.ctx.table id known.Seat → AllMayGo c.ctx.table (id ∷ [])
seat_may c id h = (may_where c.ctx.table id known.Seat refl h, tt)

interface_may : (c : ConnectionView) (id : ℕ) → HasInterfaceThere c.ctx.table id → AllMayGo c.ctx.table (id ∷ [])
interface_may c id h = (may_where c.ctx.table id h.interface (of_device h.interface h.of_device) h.there, tt)

pub answer_sends : (c : ConverterView) (id : ℕ) (meaning : Meaning) (time : ℕ) → IsTargetOf meaning c.handle.ctx.table id → Sends (answers c.handle id meaning) c.handle (handling.handled c id meaning time).handle
answer_sends c id (Shakes shake) time h = unsent c.handle c.handle refl
answer_sends c id (Syncs callback version) time h = sync_sends c.handle callback version
answer_sends c id Disconnects time h = unsent c.handle c.handle refl
answer_sends c id (Pongs number) time h = unsent c.handle c.handle refl
answer_sends c id ReleasesSeat time h = seat_release_sends c.handle id (seat_may c.handle id h)
answer_sends c id (Binds mask) time h = queues_sends c (handling.bind_of mask) (find (is_seat id) c.handle.seats)
answer_sends c id (RequestsDevice mask) time h = queues_sends c (handling.request_device_of mask) (find (is_seat id) c.handle.seats)
answer_sends c id Closes time h = closes_sends c id time handling.closed_of (handling.device_in c id)
answer_sends c id (Starts serial sequence) time h = closes_sends c id time (handling.start_of serial sequence) (handling.device_in c id)
answer_sends c id (Stops serial) time h = closes_sends c id time (handling.stop_of serial) (handling.device_in c id)
answer_sends c id (Frames serial sent) time h = hands_out_sends c id serial sent (handling.device_in c id)
answer_sends c id Readies time h = closes_sends c id time handling.ready_of (handling.device_in c id)
answer_sends c id Releases time h = interface_release_sends c.handle id (interface_may c.handle id h)
answer_sends c id (Inputs i) time h = unsent c.handle (handling.hears c.handle id i) refl

gives_up_may : (x : End) (c : ConnectionView) (id : ℕ) (o : Option DeviceView) → IsEndOf x c → HasInterfaceThere c.ctx.table id → AreListedCalls true (acts.gives_up c id o) x.sent x.taken
gives_up_may x c id None e h = tt
gives_up_may x c id (Some d) e h = gone_act x c (id ∷ []) e (interface_may c id h)

pub answer_may : (x : End) (c : ConnectionView) (id : ℕ) (meaning : Meaning) → IsEndOf x c → IsTargetOf meaning c.ctx.table id → MayAnswer meaning x → AreListedCalls true (answers c id meaning) x.sent x.taken
answer_may x c id (Shakes shake) e h m = tt
answer_may x c id (Syncs callback version) e h m = sync_may x c callback version e m.0 m.1
answer_may x c id Disconnects e h m = tt
answer_may x c id (Pongs number) e h m = tt
answer_may x c id ReleasesSeat e h m = gone_act x c (id ∷ []) e (seat_may c id h)
answer_may x c id (Binds mask) e h m = tt
answer_may x c id (RequestsDevice mask) e h m = tt
answer_may x c id Closes e h m = tt
answer_may x c id (Starts serial sequence) e h m = tt
answer_may x c id (Stops serial) e h m = tt
answer_may x c id (Frames serial sent) e h m = tt
answer_may x c id Readies e h m = tt
answer_may x c id Releases e h m = gives_up_may x c id (find (has_interface id) c.devices) e h
answer_may x c id (Inputs i) e h m = tt

-- ---- several messages that an end sends, and the endpoint that the call left

pub joined_after : (x y : End) (to_y to_x : Piece) (old new : ConnectionView) (ms : List Sent) → Joined true x y to_y to_x → x.backend ≡ old.ctx → Sends ms old new → AreListedCalls true ms x.sent x.taken → Joined true (with_backend new.ctx (after_calls true ms x)) y to_y to_x
joined_after x y to_y to_x old new ms j e sends may =
    let k = calls_turn true ms x y to_y to_x j (are_calls true ms x y to_y to_x j may) in
    turned false y (with_backend new.ctx (after_calls true ms x)) to_x to_y (alike false y (after_calls true ms x) to_x to_y new.ctx (turned true (after_calls true ms x) y to_y to_x k) (sends x e))

-- the same, with the end closed
joined_closed : (x y : End) (to_y to_x : Piece) (new : ConnectionView) (ms : List Sent) → Joined true x y to_y to_x → endpoint_of new.ctx ≡ endpoint_of (closed_end (after_calls true ms x)).backend → AreListedCalls true ms x.sent x.taken →
    Joined true (with_backend new.ctx (closed_end (after_calls true ms x))) y to_y to_x
joined_closed x y to_y to_x new ms j sends may =
    let k = calls_turn true ms x y to_y to_x j (are_calls true ms x y to_y to_x j may) in
    let shut = close false y (after_calls true ms x) to_x to_y to_x (turned true (after_calls true ms x) y to_y to_x k) in
    turned false y (with_backend new.ctx (closed_end (after_calls true ms x))) to_x to_y (alike false y (closed_end (after_calls true ms x)) to_x to_y new.ctx shut sends)

-- ---- any act

told_of : (ms : List Sent) (old made new : ConnectionView) → new ≡ made → Sends ms old made → Sends ms old new
told_of ms old made new e s = subst (Sends ms old) (sym e) s

-- what tells by the key's id tells by the object's
by_key : (ms : List Sent) (old : ConnectionView) (make : ℕ → ConnectionView) (a b : ℕ) → a ≡ b → Sends ms old (make a) → Sends ms old (make b)
by_key ms old make a b e s = subst (λ (n : ℕ). Sends ms old (make n)) e s

-- what goes may go
abbrev pub GoesBy : Act → ConnectionView → Type 0
GoesBy (act.RemovesDevice key) c = AllMayGo c.ctx.table (gone_ids (find (is_of_key key) c.devices))
GoesBy (act.RemovesSeat id) c = AllMayGo c.ctx.table (gone_with_seat c.devices (find (is_seat id) c.seats))
GoesBy (act.Disconnects reason text) c = AllMayGo c.ctx.table (all_seat_ids c.devices c.seats)
GoesBy a c = Unit {0}

act_joined_by : (a : Act) (x y : End) (to_y to_x : Piece) (old new : ConnectionView) → Joined true x y to_y to_x → x.backend ≡ old.ctx → GoesBy a old → MayDo a x old → Makes a old new → Joined true (with_backend new.ctx (after_act a old x)) y to_y to_x
act_joined_by act.Rests x y to_y to_x old new j e h m d = absurd m
act_joined_by (act.Resumes key device) x y to_y to_x old new j e h m d =
    let end : IsEndOf x old = record { client = y; to_client = to_y; to_server = to_x; joined = j; backend = e } in
    let ms : List Sent = acts.resumed old device in
    joined_after x y to_y to_x old new ms j e (told_of ms old _ new d.1 (by_key ms old (λ id. sending.tells old (resumed_event id)) device.id key.proxy.id d.0.same (resumed_sends old device))) (resumed_may x old end device m)
act_joined_by (act.Pauses key device) x y to_y to_x old new j e h m d =
    let end : IsEndOf x old = record { client = y; to_client = to_y; to_server = to_x; joined = j; backend = e } in
    let ms : List Sent = acts.paused old device in
    joined_after x y to_y to_x old new ms j e (told_of ms old _ new d.1 (paused_sends old key device d.0.same)) (paused_may x old end device m)
act_joined_by (act.StartsEmulating key device sequence) x y to_y to_x old new j e h m d =
    let end : IsEndOf x old = record { client = y; to_client = to_y; to_server = to_x; joined = j; backend = e } in
    let ms : List Sent = acts.start_emulating old device sequence in
    joined_after x y to_y to_x old new ms j e
    (told_of ms old _ new d.1 (by_key ms old (λ id. sending.tells old (λ serial. sending.start_emulating_event id serial sequence)) device.id key.proxy.id d.0.same (start_sends old device sequence))) (start_may x old end device m.0 sequence m.1)
act_joined_by (act.StopsEmulating key device) x y to_y to_x old new j e h m d =
    let end : IsEndOf x old = record { client = y; to_client = to_y; to_server = to_x; joined = j; backend = e } in
    let ms : List Sent = acts.stop_emulating old device in
    joined_after x y to_y to_x old new ms j e (told_of ms old _ new d.1 (by_key ms old (λ id. sending.tells old (sending.stop_emulating_event id)) device.id key.proxy.id d.0.same (stop_sends old device))) (stop_may x old end device m)
act_joined_by (act.EndsFrame key device time) x y to_y to_x old new j e h m d =
    let end : IsEndOf x old = record { client = y; to_client = to_y; to_server = to_x; joined = j; backend = e } in
    let ms : List Sent = acts.frame old device time in
    joined_after x y to_y to_x old new ms j e
    (told_of ms old _ new d.1 (by_key ms old (λ id. sending.tells old (λ serial. sending.frame_event id serial time)) device.id key.proxy.id d.0.same (frame_sends old device time))) (frame_may x old end device m.0 time m.1)
act_joined_by (act.SendsInput message) x y to_y to_x old new j e h m d =
    let end : IsEndOf x old = record { client = y; to_client = to_y; to_server = to_x; joined = j; backend = e } in
    joined_after x y to_y to_x old new (message ∷ []) j e (told_of (message ∷ []) old _ new d (input_sends old message)) (m.0, m.1, tt)
act_joined_by (act.TellsMissing id) x y to_y to_x old new j e h m d =
    let end : IsEndOf x old = record { client = y; to_client = to_y; to_server = to_x; joined = j; backend = e } in
    let ms : List Sent = acts.invalid_object old id in
    joined_after x y to_y to_x old new ms j e (told_of ms old _ new d (invalid_sends old id)) (invalid_act x old id end m.0 m.1 m.2)
act_joined_by (act.Answers id meaning time) x y to_y to_x old new j e h m d =
    let end : IsEndOf x old = record { client = y; to_client = to_y; to_server = to_x; joined = j; backend = e } in
    let ms : List Sent = answers old id meaning in
    joined_after x y to_y to_x old new ms j e (told_of ms old _ new d.1.1 (answer_sends (record { handle = old; queue = d.1.0 }) id meaning time d.0)) (answer_may x old id meaning end d.0 m)
act_joined_by (act.AddsSeat name given) x y to_y to_x old new j e h m d =
    let end : IsEndOf x old = record { client = y; to_client = to_y; to_server = to_x; joined = j; backend = e } in
    joined_after x y to_y to_x old new (acts.add_seat old name given) j e (seat_comes_sends old new name given d) (seat_comes_may x old name given end m.0 m.1 m.2 m.3 m.4)
act_joined_by (act.AddsDevice key seat name kind wanted items) x y to_y to_x old new j e h m d =
    let end : IsEndOf x old = record { client = y; to_client = to_y; to_server = to_x; joined = j; backend = e } in
    let is : List KnownInterface = granted_at old key.id wanted in
    joined_after x y to_y to_x old new (acts.add_device old seat name kind is items) j e (device_of_seat_sends old new key seat name kind is items d.1 d.0 m.6) (device_comes_may x old seat name kind is items end m.0 m.1 m.2 m.3 m.4 m.5)
act_joined_by (act.RemovesDevice key) x y to_y to_x old new j e h m d =
    let end : IsEndOf x old = record { client = y; to_client = to_y; to_server = to_x; joined = j; backend = e } in
    let may = h in
    joined_after x y to_y to_x old new (acts.remove_device old key) j e (device_goes_sends old new key d may) (gone_act x old _ end may)
act_joined_by (act.RemovesSeat id) x y to_y to_x old new j e h m d =
    let end : IsEndOf x old = record { client = y; to_client = to_y; to_server = to_x; joined = j; backend = e } in
    let may = h in
    joined_after x y to_y to_x old new (acts.remove_seat old id) j e (seat_goes_sends old new id d may) (gone_act x old _ end may)
act_joined_by (act.Disconnects reason text) x y to_y to_x old new j e h m d =
    let end : IsEndOf x old = record { client = y; to_client = to_y; to_server = to_x; joined = j; backend = e } in
    let may = h in
    joined_closed x y to_y to_x new (acts.disconnected old reason text) j (ends_sends old new reason text x d may e) (disconnected_act x old reason text end m.0 may m.1 m.2 m.3 m.4)

goes_by : (a : Act) (c : ConnectionView) → HoldsThere c → GoesBy a c
goes_by (act.RemovesDevice key) c h = device_may_go c key h
goes_by (act.RemovesSeat id) c h = seat_may_go c id h
goes_by (act.Disconnects reason text) c h = all_may_go c h
goes_by a c h = tt

pub act_joined : (a : Act) (x y : End) (to_y to_x : Piece) (old new : ConnectionView) → Joined true x y to_y to_x → x.backend ≡ old.ctx → HoldsThere old → MayDo a x old → Makes a old new → Joined true (with_backend new.ctx (after_act a old x)) y to_y to_x
act_joined a x y to_y to_x old new j e h m d = act_joined_by a x y to_y to_x old new j e (goes_by a old h) m d

-- the same, where what goes was announced, be it in the table or not
pub announced_joined : (a : Act) (x y : End) (to_y to_x : Piece) (old new : ConnectionView) → Joined true x y to_y to_x → x.backend ≡ old.ctx → HoldsAnnounced x.sent old → MayDo a x old → Makes a old new → Joined true (with_backend new.ctx (after_announced a old x)) y to_y to_x
announced_joined (act.RemovesDevice key) x y to_y to_x old new j e h m d =
    let end : IsEndOf x old = record { client = y; to_client = to_y; to_server = to_x; joined = j; backend = e } in
    let go = held_device_goes x.sent old key h in
    joined_after x y to_y to_x old new _ j e (device_goes_as (announced_in x.sent) old new key d go) (gone_as_may x old old.last_serial _ end go)
announced_joined (act.RemovesSeat id) x y to_y to_x old new j e h m d =
    let end : IsEndOf x old = record { client = y; to_client = to_y; to_server = to_x; joined = j; backend = e } in
    let go = held_seat_goes x.sent old id h in
    joined_after x y to_y to_x old new _ j e (seat_goes_as (announced_in x.sent) old new id d go) (gone_as_may x old old.last_serial _ end go)
announced_joined (act.Disconnects reason text) x y to_y to_x old new j e h m d =
    let end : IsEndOf x old = record { client = y; to_client = to_y; to_server = to_x; joined = j; backend = e } in
    let go = all_held_go x.sent old h in
    joined_closed x y to_y to_x new (disconnected_as (announced_in x.sent) old reason text) j (ends_as (announced_in x.sent) old new reason text x d go e) (ends_as_may x old reason text end m.0 go m.1 m.2 m.3 m.4)
announced_joined a x y to_y to_x old new j e h m d = act_joined_by a x y to_y to_x old new j e tt m d

-- and its messages may be sent
pub act_may : (a : Act) (x : End) (old new : ConnectionView) → IsEndOf x old → HoldsAnnounced x.sent old → MayDo a x old → Makes a old new → AreListedCalls true (announced_by x.sent a old) x.sent x.taken
act_may act.Rests x old new e h m d = absurd m
act_may (act.Resumes key device) x old new e h m d = resumed_may x old e device m
act_may (act.Pauses key device) x old new e h m d = paused_may x old e device m
act_may (act.StartsEmulating key device sequence) x old new e h m d = start_may x old e device m.0 sequence m.1
act_may (act.StopsEmulating key device) x old new e h m d = stop_may x old e device m
act_may (act.EndsFrame key device time) x old new e h m d = frame_may x old e device m.0 time m.1
act_may (act.SendsInput message) x old new e h m d = (m.0, m.1, tt)
act_may (act.TellsMissing id) x old new e h m d = invalid_act x old id e m.0 m.1 m.2
act_may (act.Answers id meaning time) x old new e h m d = answer_may x old id meaning e d.0 m
act_may (act.AddsSeat name given) x old new e h m d = seat_comes_may x old name given e m.0 m.1 m.2 m.3 m.4
act_may (act.AddsDevice key seat name kind wanted items) x old new e h m d = device_comes_may x old seat name kind (granted_at old key.id wanted) items e m.0 m.1 m.2 m.3 m.4 m.5
act_may (act.RemovesDevice key) x old new e h m d = gone_as_may x old old.last_serial _ e (held_device_goes x.sent old key h)
act_may (act.RemovesSeat id) x old new e h m d = gone_as_may x old old.last_serial _ e (held_seat_goes x.sent old id h)
act_may (act.Disconnects reason text) x old new e h m d = ends_as_may x old reason text e m.0 (all_held_go x.sent old h) m.1 m.2 m.3 m.4

-- in the table or not: the messages are the same where all that is held is there
pub announced_same : (a : Act) (x : End) (c : ConnectionView) → IsEndOf x c → HoldsThere c → announced_by x.sent a c ≡ sent_by a c
announced_same (act.RemovesDevice key) x c e h = same_as_there x c c.last_serial (gone_ids (find (is_of_key key) c.devices)) e (device_may_go c key h)
announced_same (act.RemovesSeat id) x c e h = same_as_there x c c.last_serial (gone_with_seat c.devices (find (is_seat id) c.seats)) e (seat_may_go c id h)
announced_same (act.Disconnects reason text) x c e h =
    let ids : List ℕ = all_seat_ids c.devices c.seats in
    ap (λ (l : List Sent). l ++ (event.disconnected c.proxy (sending.serial_after c.last_serial ids) reason text ∷ [])) (same_as_there x c c.last_serial ids e (all_may_go c h))
announced_same a x c e h = refl

-- ---- the lists of the end then

calls_sent : (ms : List Sent) (x : End) → ((after_calls true ms x).sent ≡ onto ms x.sent) × ((after_calls true ms x).taken ≡ x.taken)
calls_sent [] x = (refl, refl)
calls_sent (m ∷ ms) x = calls_sent ms (after_call true m x)

pub act_sent : (a : Act) (c : ConnectionView) (x : End) → ((after_act a c x).sent ≡ onto (sent_by a c) x.sent) × ((after_act a c x).taken ≡ x.taken)
act_sent (act.Disconnects reason text) c x = calls_sent (sent_by (act.Disconnects reason text) c) x
act_sent a c x = calls_sent (sent_by a c) x

pub announced_sent : (a : Act) (c : ConnectionView) (x : End) → ((after_announced a c x).sent ≡ onto (announced_by x.sent a c) x.sent) × ((after_announced a c x).taken ≡ x.taken)
announced_sent (act.Disconnects reason text) c x = calls_sent (announced_by x.sent (act.Disconnects reason text) c) x
announced_sent a c x = calls_sent (announced_by x.sent a c) x
