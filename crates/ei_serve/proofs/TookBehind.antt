-- What becomes of a converter with one more request, and with what the policy does behind it.
use Rattle.std.proofs.Common.{◌≡◌, ◌≢◌, ◌≤◌, ◌+◌, ℕ, Bool, true, false, cond, eqb, ◌||◌, List, [], ◌∷◌, ◌++◌, length, Option, Some, None, refl, sym}
use Rattle.std.proofs.Common.{ap, ◌∙◌, subst, arith}
use Rattle.std.specs.Prelude.{map, find, nat_lt, slice_index}
use Rattle.std.proofs.lemmas.Bool.{eqb-true}
use Rattle.std.proofs.lemmas.Bool.Decides.{nat_tests}
use Rattle.std.proofs.lemmas.List.{append-nil, length-append}
use Rattle.ei_spec.specs.Interface.{ObjectView}
use Rattle.ei_spec.specs.Message.{Raw}
use Rattle.ei_spec.specs.History.{each}
use Rattle.ei_spec.specs.Groups.{group, frames_made, gives, Plain as Given}
use Rattle.ei_backend.specs.Table.{TableView, Announced}
use Rattle.ei_backend.specs.Outside.{ReadsClock}
use Rattle.ei_backend.specs.Endpoint.{endpoint_of}
use Rattle.ei_types.specs.declared.capability.DeviceCapabilities.{DeviceCapabilities}
use Rattle.ei_session.specs.Setup.{Setup, seat_id}
use Rattle.ei_session.specs.Meaning.{Meaning, meaning, Shakes, Syncs, Disconnects, Pongs, ReleasesSeat, Binds, RequestsDevice, Closes, Starts, Stops}
use Rattle.ei_session.specs.Meaning.{Frames, Readies, Releases, Inputs}
use Rattle.ei_session.specs.ByMeaning.{mask_in, callback_in, disconnects}
use Rattle.ei_session.specs.Devices.{not_empty, is_past, next_id, exhausts}
use Rattle.ei_session.specs.Objects.{Entry, object}
use Rattle.ei_session.specs.Refusals.{Refusal, refusal, verdict, judge}
use Rattle.ei_session.specs.Requests.{Request, slot, framed}
use Rattle.ei_session.specs.Events.{reply}
use Rattle.ei_session.proofs.AllParts.{framed_more, framed_readings}
use Rattle.ei_session.proofs.GivenByItem.{gives_free, frames_free}
use Rattle.ei_session.proofs.JudgedMeans.{judge_asked, exhausts_asked}
use Rattle.ei_session.proofs.RefusedMeans.{refusal_asked}
use Rattle.ei_request.specs.declared.event.EisRequest.{EisRequest}
use Rattle.ei_request.specs.declared.event.EisRequest.TheVariants as asked
use Rattle.ei_input.specs.declared.input_event.InputEvent.{InputEvent}
use Rattle.ei_request.specs.Event.{timed}
use Rattle.ei_request.specs.Keys.{DeviceKey}
use Rattle.ei_request.specs.Held.{SeatView, DeviceView, is_seat, has_interface, is_of_key, gone_ids, without_first, group_requests}
use Rattle.ei_request.specs.Connection.{ConnectionView}
use Rattle.ei_request.specs.Converter.{ConverterView}
use Rattle.ei_request.specs.Sending.{destroys_all, serial_after}
use Rattle.ei_request.specs.Making.{granted_by}
use Rattle.ei_request.specs.Removing.{RemovesDevice}
use Rattle.ei_request.specs.Handling.{handled, queues, hands_out, closes, gives_up, closed_of, ready_of, start_of, stop_of, bind_of}
use Rattle.ei_request.specs.Handling.{request_device_of, set_of, device_in, is_some_waiting, closes_group, Times}
use Rattle.ei_standing.specs.Standing.{IsHeld, TookOne, with_table, used_by, seat_of, device_of, seat_held, request_in_code, plain_in_code}
use Rattle.ei_standing.proofs.ToDevices.{There, device_itself, held_there}
use Rattle.ei_standing.proofs.FrameLaw.{after_frame}
use Rattle.ei_standing.proofs.ClosingLaws.{after_start, after_stop, after_ready}
use Rattle.ei_standing.proofs.InputLaws.{after_input}
use Rattle.ei_standing.proofs.DeviceReleases.{after_release}
use Rattle.ei_standing.proofs.InterfaceReleases.{after_interface_release}
use Rattle.ei_standing.proofs.ConnectionMessages.{after_disconnect, after_pong}
use Rattle.ei_standing.proofs.CallbackCalled.{after_sync}
use Rattle.ei_standing.proofs.SeatReleased.{after_seat_release}
use Rattle.ei_standing.proofs.SeatAsked.{AsksDevice, asks_device, bind_queued, request_device_queued, seat_stays, after_last, after_empty}
use Rattle.ei_standing.proofs.BoundDevices.{after_bind, after_exhausted}
use Rattle.ei_standing.proofs.SameRefusals.{no_shake}
use Rattle.ei_serve.specs.Around.{AreDrawn, LeavesReadings, first_readings}
use Rattle.ei_serve.specs.declared.policy.Policy.{Policy}
use Rattle.ei_serve.specs.declared.policy.Policy.TheVariants as policy
use Rattle.ei_serve.specs.Policy.{device_if, policy_of, policy_behind, AddsResumed, AddsIfHeld, Follows, LacksIds, RunOut, RunOutIfHeld}
use Rattle.ei_serve.proofs.Endpoints.{memory_of, backend_of}
use Rattle.ei_serve.proofs.Following.{behind_last}

-- ---- what is handed out, and the readings that it takes

-- the requests queued are those that the message gives, with these readings and any that follow
pub record Gave (setup : Setup) (past : List Raw) (m : Raw) (times used : List ℕ) (queue : List EisRequest) : Type 0 where
  pub more : List Request
  pub queue_is : queue ≡ map (request_in_code past) more
  pub framed_is : (later : List ℕ) → framed setup ((times ++ used) ++ later) (m ∷ past) ≡ framed setup ((times ++ used) ++ later) past ++ more
  pub frames : length used + frames_made (each (slot setup) past) ≡ frames_made (each (slot setup) (m ∷ past))

pub gave_took : (setup : Setup) (past : List Raw) (m : Raw) (times used : List ℕ) (c n : ConverterView) → length times ≡ frames_made (each (slot setup) past) → c.queue ≡ [] → TookOne setup past m times used c n → Gave setup past m times used n.queue
gave_took setup past m times used c n frames none t =
    let more : List Request = gives (times ++ used) (each (slot setup) past) (slot setup past m) in
    let all : length (times ++ used) ≡ frames_made (each (slot setup) (m ∷ past)) = t.held.frames in
    let split : length (times ++ used) ≡ length times + length used = length-append times used in
    let within : frames_made (each (slot setup) past) ≤ length (times ++ used) = omega (arith, frames, split) in
    let within_all : frames_made (each (slot setup) (m ∷ past)) ≤ length (times ++ used) = omega (arith, all) in
    record {
      more = more;
      queue_is =
          t.queue []
          ∙ ap (λ (q : List EisRequest). q ++ map (request_in_code past) (gives ((times ++ used) ++ []) (each (slot setup) past) (slot setup past m))) none
          ∙ ap (λ (r : List ℕ). map (request_in_code past) (gives r (each (slot setup) past) (slot setup past m))) (append-nil (times ++ used));
      framed_is = λ later.
          framed_readings setup (times ++ used) later (m ∷ past) within_all
          ∙ framed_more setup (times ++ used) past m
          ∙ ap (λ (x : List Request). x ++ more) (sym (framed_readings setup (times ++ used) later past within));
      frames = omega (arith, all, split, frames);
    }

-- a clock that told its readings gave these and has the others left
pub record Draws (used : List ℕ) (before after : Option (List ℕ)) : Type 0 where
  pub drawn : AreDrawn used before
  pub leaves : LeavesReadings used before after
  pub few : length used ≤ 1

pub draws_none : (before after : Option (List ℕ)) → after ≡ before → Draws [] before after
draws_none before after e = record { drawn = λ told is. refl; leaves = λ told is. e ∙ is; few = omega arith }

one_first : (told : List ℕ) → slice_index told 0 ∷ [] ≡ first_readings 1 told
one_first [] = refl
one_first (t ∷ told) = refl

draws_one : (time : ℕ) (before after : Option (List ℕ)) → ((told : List ℕ) → before ≡ Some told → ReadsClock told after time) → Draws (time ∷ []) before after
draws_one time before after r = record {
  drawn = λ told is. ap (λ (n : ℕ). n ∷ []) (r told is).is ∙ one_first told;
  leaves = λ told is. (r told is).left;
  few = omega arith;
}

draws_by : (xs : List InputEvent) (w : Bool) (time : ℕ) (before after : Option (List ℕ)) → nat_lt 0 (length xs) ≡ w → Times true w time before after → Draws (used_by xs time) before after
draws_by [] false time before after e t = draws_none before after t
draws_by [] true time before after e t = let z : false ≡ true = e in absurd cc
draws_by (x ∷ xs) true time before after e t = draws_one time before after t
draws_by (x ∷ xs) false time before after e t =
    let z : nat_lt 0 (length (x ∷ xs)) ≡ true = grind (arith, nat_tests) in
    let y : true ≡ false = sym z ∙ e in
    absurd cc

-- ---- what the policy does behind it

abbrev pub is_end : Policy → Bool
is_end policy.End = true
is_end p = false

-- A request was handled and what it gives is queued: the policy behind it ends the session exactly where the client
-- disconnects, lacks ids exactly where they run out, and else makes the converter stand for the message.
pub record Behind (setup : Setup) (past : List Raw) (m : Raw) (times : List ℕ) (c n : ConverterView) (before after : Option (List ℕ)) : Type 0 where
  pub used : List ℕ
  pub draws : Draws used before after
  pub gave : Gave setup past m times used n.queue
  pub ring : n.handle.ctx.capacity ≡ c.handle.ctx.capacity
  pub last : Bool
  pub judged : judge setup past m ≡ verdict None (last || exhausts past m)
  pub ends : is_end (policy_behind n.queue) ≡ last
  pub lasts : last ≡ true → used ≡ []
  pub lacks : LacksIds (policy_behind n.queue) n.handle → (exhausts past m ≡ true) × (used ≡ []) × (reply setup past m ≡ [])
  pub enough : (LacksIds (policy_behind n.queue) n.handle → ⊥) → exhausts past m ≡ false
  pub took : (LacksIds (policy_behind n.queue) n.handle → ⊥) → (end : ConnectionView) → Follows (policy_behind n.queue) n.handle end → TookOne setup past m times used c (record n { handle = end })

group_policy : (device : DeviceKey) (is : List InputEvent) (serial time : ℕ) → policy_behind (group_requests device is serial time) ≡ policy.Nothing
group_policy device [] serial time = refl
group_policy device (i ∷ is) serial time = behind_last (map (timed device time) (i ∷ is)) (asked.Frame (record { device = device; last_serial = serial; time = time }))

frame_policy : (c : ConverterView) (id serial time : ℕ) (o : Option DeviceView) → c.queue ≡ [] → policy_behind (hands_out c id serial time o).queue ≡ policy.Nothing
frame_policy c id serial time None none = ap policy_behind none
frame_policy c id serial time (Some d) none = ap (λ (q : List EisRequest). policy_behind (q ++ group_requests d.device d.waiting serial time)) none ∙ group_policy d.device d.waiting serial time

frame_ring : (c : ConverterView) (id serial time : ℕ) (o : Option DeviceView) → (hands_out c id serial time o).handle.ctx.capacity ≡ c.handle.ctx.capacity
frame_ring c id serial time None = refl
frame_ring c id serial time (Some d) = refl

closing_policy : (c : ConverterView) (id time : ℕ) (make : DeviceKey → EisRequest) (o : Option DeviceView) → c.queue ≡ [] → ((key : DeviceKey) → policy_of (make key) ≡ policy.Nothing) → policy_behind (closes c id time make o).queue ≡ policy.Nothing
closing_policy c id time make None none p = ap policy_behind none
closing_policy c id time make (Some d) none p = behind_last (c.queue ++ group_requests d.device d.waiting c.handle.last_serial time) (make d.device) ∙ p d.device

closing_ring : (c : ConverterView) (id time : ℕ) (make : DeviceKey → EisRequest) (o : Option DeviceView) → (closes c id time make o).handle.ctx.capacity ≡ c.handle.ctx.capacity
closing_ring c id time make None = refl
closing_ring c id time make (Some d) = refl

release_ring : (c : ConnectionView) (id : ℕ) (o : Option DeviceView) → (gives_up c id o).ctx.capacity ≡ c.ctx.capacity
release_ring c id None = refl
release_ring c id (Some d) = refl

-- a connection from which the device was taken away
abbrev without_device : ConnectionView → DeviceKey → ConnectionView
without_device old key = record old {
  ctx = backend_of (destroys_all (endpoint_of old.ctx) old.last_serial (gone_ids (find (is_of_key key) old.devices))) (memory_of old.ctx);
  last_serial = serial_after old.last_serial (gone_ids (find (is_of_key key) old.devices));
  seats = old.seats;
  devices = without_first (is_of_key key) old.devices;
}

is_removed : (old : ConnectionView) (key : DeviceKey) → RemovesDevice old key (without_device old key)
is_removed old key = record { endpoint = refl; rest = refl }

run_out : (o : Option SeatView) (s : SeatView) (c : ConnectionView) (wanted : DeviceCapabilities) → o ≡ Some s → RunOutIfHeld o c wanted → RunOut c (granted_by o wanted)
run_out None s c wanted e h = absurd h
run_out (Some t) s c wanted e h = h

runs_out : (o : Option SeatView) (s : SeatView) (c : ConnectionView) (wanted : DeviceCapabilities) → o ≡ Some s → RunOut c (granted_by o wanted) → RunOutIfHeld o c wanted
runs_out None s c wanted e h = absurd cc
runs_out (Some t) s c wanted e h = h

resumed_if : (o : Option SeatView) (s : SeatView) (old : ConnectionView) (seat : ObjectView) (wanted : DeviceCapabilities) (new : ConnectionView) → o ≡ Some s → AddsIfHeld o old seat wanted new → AddsResumed old seat wanted new
resumed_if None s old seat wanted new e h = absurd cc
resumed_if (Some t) s old seat wanted new e h = h

not_true : (b : Bool) → (b ≡ true → ⊥) → b ≡ false
not_true true h = absurd (h refl)
not_true false h = refl

module _ (setup : Setup) (past : List Raw) (m : Raw) (times : List ℕ) (c : ConverterView) (e : Entry) (h : IsHeld setup past times c) (k : object past m.id ≡ Some e) (none : c.queue ≡ []) (fine : refusal setup past m ≡ None) (before after : Option (List ℕ)) where
  judged_by : (x : Meaning) → meaning e.interface m ≡ Some x → judge setup past m ≡ verdict None (disconnects (Some x) || exhausts past m)
  judged_by x a = judge_asked setup past m e x h.connected k a ∙ ap (λ (o : Option Refusal). verdict o (disconnects (Some x) || exhausts past m)) (sym (refusal_asked setup past m e x k a) ∙ fine)

  no_end : (x : Meaning) → meaning e.interface m ≡ Some x → not_empty (mask_in (Some x)) ≡ None → exhausts past m ≡ false
  no_end x a n = exhausts_asked past m e h.connected k ∙ ap (λ (y : Option Meaning). is_past (next_id past) (not_empty (mask_in y))) a ∙ ap (is_past (next_id past)) n

  -- nothing is done behind it
  plainly : (x : Meaning) (used : List ℕ) (d n : ConverterView) → meaning e.interface m ≡ Some x → disconnects (Some x) ≡ false → exhausts past m ≡ false → d.queue ≡ [] → TookOne setup past m times used d n → Draws used before after →
      policy_behind n.queue ≡ policy.Nothing → n.handle.ctx.capacity ≡ d.handle.ctx.capacity → Behind setup past m times d n before after
  plainly x used d n a stays enough empty t draws p ring = record {
    used = used;
    draws = draws;
    gave = gave_took setup past m times used d n h.frames empty t;
    ring = ring;
    last = false;
    judged = judged_by x a ∙ ap (λ (b : Bool). verdict None (b || exhausts past m)) stays;
    ends = ap is_end p;
    lasts = λ is. let z : false ≡ true = is in absurd cc;
    lacks = λ l. absurd (subst (λ (q : Policy). LacksIds q n.handle) p l);
    enough = λ no. enough;
    took = λ no end f.
        let same : end ≡ n.handle = subst (λ (q : Policy). Follows q n.handle end) p f in
        subst (λ (x : ConnectionView). TookOne setup past m times used d (record n { handle = x })) (sym same) t;
  }

  there : (x : Meaning) → meaning e.interface m ≡ Some x → e.device ≡ Some m.id → There setup past m.id (device_in c m.id)
  there x a own = held_there setup past c.handle.devices m.id m.id e h.devices k own

  closing_draws : (time : ℕ) → There setup past m.id (device_in c m.id) → Times true (is_some_waiting (device_in c m.id)) time before after → Draws (used_by (group m.id (each (slot setup) past)) time) before after
  closing_draws time t clock =
      draws_by (group m.id (each (slot setup) past)) (is_some_waiting (device_in c m.id)) time before after
      (sym (ap is_some_waiting t.found ∙ ap (λ (w : List InputEvent). nat_lt 0 (length w)) t.is.waiting)) clock

  -- the client closes a device, and it is taken away
  closing : (time : ℕ) → meaning e.interface m ≡ Some Closes → Times true (is_some_waiting (device_in c m.id)) time before after → Behind setup past m times c (handled c m.id Closes time) before after
  closing time a clock =
      let t = there Closes a (device_itself setup past m e Closes k a refl) in
      let n : ConverterView = handled c m.id Closes time in
      let p : policy_behind n.queue ≡ policy.RemoveDevice (device_of past m.id) =
      ap (λ (o : Option DeviceView). policy_behind (closes c m.id time closed_of o).queue) t.found
      ∙ behind_last (c.queue ++ group_requests t.device.device t.device.waiting c.handle.last_serial time) (closed_of t.device.device)
      ∙ ap (λ (key : DeviceKey). policy.RemoveDevice key) t.is.device in
      let removed = λ (end : ConnectionView) (r : RemovesDevice n.handle (device_of past m.id) end). after_release setup past m times c e time end h k a r in
      record {
        used = used_by (group m.id (each (slot setup) past)) time;
        draws = closing_draws time t clock;
        gave = gave_took setup past m times (used_by (group m.id (each (slot setup) past)) time) c (record n { handle = without_device n.handle (device_of past m.id) }) h.frames none
            (removed (without_device n.handle (device_of past m.id)) (is_removed n.handle (device_of past m.id)));
        ring = closing_ring c m.id time closed_of (device_in c m.id);
        last = false;
        judged = judged_by Closes a;
        ends = ap is_end p;
        lasts = λ is. let z : false ≡ true = is in absurd cc;
        lacks = λ l. absurd (subst (λ (q : Policy). LacksIds q n.handle) p l);
        enough = λ no. no_end Closes a refl;
        took = λ no end f. removed end (subst (λ (q : Policy). Follows q n.handle end) p f);
      }

  -- the client disconnects
  ending : (time : ℕ) → meaning e.interface m ≡ Some Disconnects → after ≡ before → Behind setup past m times c (handled c m.id Disconnects time) before after
  ending time a clock =
      let n : ConverterView = handled c m.id Disconnects time in
      let p : policy_behind n.queue ≡ policy.End = behind_last c.queue asked.Disconnect in
      let t : TookOne setup past m times [] c n = after_disconnect setup past m times c e h k time a in
      record {
        used = [];
        draws = draws_none before after clock;
        gave = gave_took setup past m times [] c n h.frames none t;
        ring = refl;
        last = true;
        judged = judged_by Disconnects a;
        ends = ap is_end p;
        lasts = λ is. refl;
        lacks = λ l. absurd (subst (λ (q : Policy). LacksIds q n.handle) p l);
        enough = λ no. no_end Disconnects a refl;
        took = λ no end f.
            let same : end ≡ n.handle = subst (λ (q : Policy). Follows q n.handle end) p f in
            subst (λ (x : ConnectionView). TookOne setup past m times [] c (record n { handle = x })) (sym same) t;
      }

  -- the client asks for a device
  module _ (x : Meaning) (mask time : ℕ) (y : EisRequest) (a : meaning e.interface m ≡ Some x) (is : mask_in (Some x) ≡ Some mask) (stays : disconnects (Some x) ≡ false) (does : handled c m.id x time ≡ queues c y)
      (p : policy_of y ≡ device_if (seat_of past) (set_of mask)) (clock : after ≡ before) where
    abbrev done : ConverterView
    done = handled c m.id x time

    policy_is : policy_behind done.queue ≡ device_if (seat_of past) (set_of mask)
    policy_is = ap (λ (d : ConverterView). policy_behind d.queue) does ∙ behind_last c.queue y ∙ p

    same_ring : done.handle.ctx.capacity ≡ c.handle.ctx.capacity
    same_ring = ap (λ (d : ConverterView). d.handle.ctx.capacity) does

    gave_one : Gave setup past m times [] done.queue
    gave_one =
        let d : AsksDevice setup past m c x mask time = asks_device setup past m times c e h k x mask time a is in
        record {
          more = Given d.request ∷ [];
          queue_is = ap (λ (d : ConverterView). d.queue) d.does ∙ ap (λ (q : List EisRequest). q ++ plain_in_code past d.request ∷ []) none;
          framed_is = λ later.
              framed_more setup ((times ++ []) ++ later) past m
              ∙ ap (λ (z : List Request). framed setup ((times ++ []) ++ later) past ++ z) (gives_free setup ((times ++ []) ++ later) past m d.request d.item_is);
          frames = omega (arith, frames_free setup past m d.request d.item_is);
        }

    empty_mask : mask ≡ 0 → Behind setup past m times c done before after
    empty_mask z =
        plainly x [] c done a stays (no_end x a (ap not_empty is ∙ ap (λ (n : ℕ). not_empty (Some n)) z)) none (after_empty setup past m times c e h k x time a (is ∙ ap (λ (n : ℕ). Some n) z)) (draws_none before after clock)
        (policy_is ∙ ap (λ (n : ℕ). device_if (seat_of past) (set_of n)) z) same_ring

    some_mask : mask ≢ 0 → device_if (seat_of past) (set_of mask) ≡ policy.AddDevice (seat_of past) (set_of mask) → Behind setup past m times c done before after
    some_mask far adds =
        let q : policy_behind done.queue ≡ policy.AddDevice (seat_of past) (set_of mask) = policy_is ∙ adds in
        let seat : find (is_seat seat_id) done.handle.seats ≡ Some (seat_held setup past) = seat_stays setup past m times c e h k x mask a is time in
        let runs = after_exhausted setup past m times c e h k x mask time a is far fine in
        let enough = λ (no : LacksIds (policy_behind done.queue) done.handle → ⊥).
        not_true (exhausts past m) (λ out. no (subst (λ (z : Policy). LacksIds z done.handle) (sym q) (runs_out (find (is_seat seat_id) done.handle.seats) (seat_held setup past) done.handle (set_of mask) seat (runs.0 out)))) in
        record {
          used = [];
          draws = draws_none before after clock;
          gave = gave_one;
          ring = same_ring;
          last = false;
          judged = judged_by x a ∙ ap (λ (b : Bool). verdict None (b || exhausts past m)) stays;
          ends = ap is_end q;
          lasts = λ is. refl;
          lacks = λ l.
              let out : exhausts past m ≡ true = runs.1 (run_out (find (is_seat seat_id) done.handle.seats) (seat_held setup past) done.handle (set_of mask) seat (subst (λ (z : Policy). LacksIds z done.handle) q l)) in
              (out, refl, (after_last setup past m times c e h k x mask a is time [] far out).1);
          enough = enough;
          took = λ no end f.
              let r = resumed_if (find (is_seat seat_id) done.handle.seats) (seat_held setup past) done.handle (seat_of past) (set_of mask) end seat (subst (λ (z : Policy). Follows z done.handle end) q f) in
              subst (λ (z : ConnectionView). TookOne setup past m times [] c (record done { handle = z })) (sym r.resumes) (after_bind setup past m times c e h k x mask time a is far fine r.mid (enough no) r.adds);
        }

    by_mask : (b : Bool) → eqb mask 0 ≡ b → Behind setup past m times c done before after
    by_mask true z = empty_mask (eqb-true mask 0 z)
    by_mask false z = some_mask (λ zero. let w : false ≡ true = sym z ∙ ap (λ (n : ℕ). eqb n 0) zero in absurd cc) (ap (λ (b : Bool). cond b policy.Nothing (policy.AddDevice (seat_of past) (set_of mask))) z)

    asking : Behind setup past m times c done before after
    asking = by_mask (eqb mask 0) refl

  -- any request that announces nothing
  pub behind : (x : Meaning) (time : ℕ) → meaning e.interface m ≡ Some x → callback_in (Some x) ≡ None → Times (closes_group x) (is_some_waiting (device_in c m.id)) time before after → Behind setup past m times c (handled c m.id x time) before after
  behind (Shakes shake) time a n clock = absurd (no_shake setup past m times c e h k shake a)
  behind (Syncs callback v) time a n clock = absurd cc
  behind Disconnects time a n clock = ending time a clock
  behind (Pongs number) time a n clock = plainly (Pongs number) [] c (handled c m.id (Pongs number) time) a refl (no_end (Pongs number) a refl) none (after_pong setup past m times c e h k number time a) (draws_none before after clock) (ap policy_behind none) refl
  behind ReleasesSeat time a n clock = plainly ReleasesSeat [] c (handled c m.id ReleasesSeat time) a refl (no_end ReleasesSeat a refl) none (after_seat_release setup past m times c e time h k a) (draws_none before after clock) (ap policy_behind none) refl
  behind (Binds mask) time a n clock = asking (Binds mask) mask time (bind_of mask (seat_of past)) a refl refl (bind_queued setup past m times c e h k mask time a) refl clock
  behind (RequestsDevice mask) time a n clock = asking (RequestsDevice mask) mask time (request_device_of mask (seat_of past)) a refl refl (request_device_queued setup past m times c e h k mask time a) refl clock
  behind Closes time a n clock = closing time a clock
  behind (Starts s q) time a n clock =
      plainly (Starts s q) (used_by (group m.id (each (slot setup) past)) time) c (handled c m.id (Starts s q) time) a refl (no_end (Starts s q) a refl) none (after_start setup past m times c e s q time h k a)
      (closing_draws time (there (Starts s q) a (device_itself setup past m e (Starts s q) k a refl)) clock) (closing_policy c m.id time (start_of s q) (device_in c m.id) none (λ key. refl)) (closing_ring c m.id time (start_of s q) (device_in c m.id))
  behind (Stops s) time a n clock =
      plainly (Stops s) (used_by (group m.id (each (slot setup) past)) time) c (handled c m.id (Stops s) time) a refl (no_end (Stops s) a refl) none (after_stop setup past m times c e s time h k a)
      (closing_draws time (there (Stops s) a (device_itself setup past m e (Stops s) k a refl)) clock) (closing_policy c m.id time (stop_of s) (device_in c m.id) none (λ key. refl)) (closing_ring c m.id time (stop_of s) (device_in c m.id))
  behind (Frames s t) time a n clock =
      plainly (Frames s t) [] c (handled c m.id (Frames s t) time) a refl (no_end (Frames s t) a refl) none (after_frame setup past m times c e s t time h k a) (draws_none before after clock)
      (frame_policy c m.id s t (device_in c m.id) none) (frame_ring c m.id s t (device_in c m.id))
  behind Readies time a n clock =
      plainly Readies (used_by (group m.id (each (slot setup) past)) time) c (handled c m.id Readies time) a refl (no_end Readies a refl) none (after_ready setup past m times c e time h k a)
      (closing_draws time (there Readies a (device_itself setup past m e Readies k a refl)) clock) (closing_policy c m.id time ready_of (device_in c m.id) none (λ key. refl)) (closing_ring c m.id time ready_of (device_in c m.id))
  behind Releases time a n clock =
      plainly Releases [] c (handled c m.id Releases time) a refl (no_end Releases a refl) none (after_interface_release setup past m times c e time h k a) (draws_none before after clock) (ap policy_behind none)
      (release_ring c.handle m.id (find (has_interface m.id) c.handle.devices))
  behind (Inputs i) time a n clock =
      plainly (Inputs i) [] c (handled c m.id (Inputs i) time) a refl (no_end (Inputs i) a refl) none (after_input setup past m times c e i time h k a fine) (draws_none before after clock) (ap policy_behind none) refl

  -- a `sync`, whose callback was put into the table
  pub behind_sync : (o : ObjectView) (v time : ℕ) (table : TableView) → meaning e.interface m ≡ Some (Syncs o.id v) → Announced (Some o) c.handle.ctx.table table → after ≡ before →
      Behind setup past m times (with_table c table) (handled (with_table c table) m.id (Syncs o.id v) time) before after
  behind_sync o v time table a announced clock =
      plainly (Syncs o.id v) [] (with_table c table) (handled (with_table c table) m.id (Syncs o.id v) time) a refl (no_end (Syncs o.id v) a refl) none (after_sync setup past m times c e o v time table h k a announced) (draws_none before after clock)
      (ap policy_behind none) refl
