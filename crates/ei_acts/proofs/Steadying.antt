-- Which acts of a server a client takes that stands with what its connection holds.
use Rattle.std.proofs.Common.{◌≡◌, ℕ, ◌+◌, ◌<◌, ◌≤◌, Bool, true, false, cond, eqb, ◌&&◌, ◌||◌, List, [], ◌∷◌, ◌++◌, map, Option, Some, None, refl, sym, ap, subst, ◌∙◌, arith}
use Rattle.std.specs.Prelude.{is_some, find, codes}
use Rattle.std.specs.List.{list_any, list_all, filter_map}
use Rattle.std.specs.FinMap as finite
use Rattle.std.proofs.lemmas.Bool.{and_parts, eqb-true, eq-eqb, ne_eqb}
use Rattle.ei_spec.specs.declared.interface.KnownInterface.{KnownInterface}
use Rattle.ei_spec.specs.declared.interface.KnownInterface.TheVariants as known
use Rattle.ei_spec.specs.Interface.{Interface, ObjectView, name_of, known_of}
use Rattle.ei_spec.specs.Value.{Word, Long}
use Rattle.ei_types.specs.Capability.{capabilities, capability_named, has_bit, bits_of}
use Rattle.ei_types.specs.declared.capability.DeviceCapabilities.{DeviceCapabilities}
use Rattle.ei_input.specs.declared.input_event.InputEvent.{InputEvent}
use Rattle.ei_session.specs.Inputs.{is_of_device}
use Rattle.ei_session.specs.Events.{resumed_event}
use Rattle.ei_session.specs.Meaning.{Meaning, Shakes, Syncs, Disconnects, Pongs, ReleasesSeat, Binds, RequestsDevice, Closes, Starts, Stops, Frames, Readies, Releases, Inputs}
use Rattle.ei_backend.specs.Table.{TableView, found, without}
use Rattle.ei_backend.specs.Endpoint.{Endpoint}
use Rattle.ei_backend.proofs.Objects.{get_without, get_with}
use Rattle.ei_ends.specs.Sent.{Sent}
use Rattle.ei_reported.specs.Said.{Said, Told, Aside, SeatComes, SeatHasName, SeatHas, SeatGoes, DeviceTells, Goes, said}
use Rattle.ei_reported.specs.Said.{Resumed, Paused, StartEmulating, StopEmulating, Frame}
use Rattle.ei_steady.specs.Steady.{Held, Stands, GoesOn, NoneRefused, after, IsLess, without_seat, with_seat, AreCapabilities, name_if, seat_events}
use Rattle.ei_steady.specs.Steady as steady
use Rattle.ei_steady.proofs.StandsOn.{less, aside, told, seat_goes, one_goes}
use Rattle.ei_steady.proofs.Comes as comes
use Rattle.ei_told.specs.Told.{event_of}
use Rattle.ei_request.specs.declared.event.EisRequest.{EisRequest}
use Rattle.ei_request.specs.Keys.{DeviceKey}
use Rattle.ei_request.specs.Held.{SeatView, DeviceView, is_device, is_seat, is_of_key, has_interface, changed_first, untouched, emptied, takes_input}
use Rattle.ei_request.specs.Connection.{ConnectionView, holds_device, next_serial, is_settled}
use Rattle.ei_request.specs.Converter.{ConverterView}
use Rattle.ei_request.specs.Sending as sending
use Rattle.ei_request.specs.Making.{AddsSeat, new_seat}
use Rattle.ei_request.specs.Handling as handling
use Rattle.ei_acts.specs.Events as event
use Rattle.ei_acts.specs.Acts.{resumed, paused, start_emulating, stop_emulating, frame, invalid_object, release_seat, gives_up, release_interface, answers, named, seat_version, offered, add_seat}
use Rattle.ei_acts.specs.Holding.{is_a_seat, device_id, held_by, said_by, StandsWith, KeepsSteady, IsTargetOf, IsHeldAs}
use Rattle.ei_acts.specs.There.{IdsDiffer, AllBelow, device_ids, seat_ids, IsThere, HasInterfaceThere, AllInTable, AllSeatsThere, HoldsThere}
use Rattle.ei_acts.proofs.Parts.{not_both, eqb_turned, part_differ, differ_both}
use Rattle.ei_acts.proofs.Staying.{other_id, not_device_of_device, devices_stay, seats_stay, left_same, callback_goes, seat_goes_devices, seats_released, ids_released, interface_goes_seats, given_up_there}
use Rattle.ei_acts.proofs.Holds.{owner, all_interfaces, AreSame, all_same, IsSameDevice, changed_same, input_same, HoldsNoMore, stands_on, given_up, interface_found, id_found, owner_gone, owner_kept, ids_given_up, devices_given_up, part_given_up}

-- ---- one message that changes no holding

pub same_table : (old new : ConnectionView) → new.ctx.table ≡ old.ctx.table → new.seats ≡ old.seats → AreSame old.devices new.devices → HoldsNoMore old new
same_table old new e s d = record {
  next = let n = ap (λ (t : TableView). t.next_own) e in omega (arith, n);
  seats = λ id h. ap (λ (t : TableView). is_a_seat (found t id)) (sym e) ∙ h;
  devices = d;
  there = λ h. record {
    devices = subst (λ (t : TableView). AllInTable t new.devices) (sym e) (d.in_table old.ctx.table h.devices);
    seats = subst (λ (t : TableView). AllSeatsThere t new.seats) (sym e) (subst (AllSeatsThere old.ctx.table) (sym s) h.seats);
    seats_differ = subst (λ (ss : List SeatView). IdsDiffer (seat_ids ss)) (sym s) h.seats_differ;
    seats_below = subst (λ (t : TableView). AllBelow t.next_own (seat_ids new.seats)) (sym e) (subst (λ (ss : List SeatView). AllBelow old.ctx.table.next_own (seat_ids ss)) (sym s) h.seats_below);
  };
}

abbrev goes_on_to : List Said → Said → ConnectionView → Type 0
goes_on_to before x old = GoesOn before (x ∷ []) old.ctx.table.next_own (held_by old)

pub steadily : (old new : ConnectionView) (m : Sent) (x : Said) → said (event_of m) ≡ x → HoldsNoMore old new → ((before : List Said) → StandsWith before old → goes_on_to before x old) → KeepsSteady (m ∷ []) old new
steadily old new m x is more go before s =
    let g = subst (λ (y : Said). goes_on_to before y old) (sym is) (go before s) in
    (g.taken, stands_on (said (event_of m) ∷ before) old new more (record { stands = g.stands; devices = s.devices; interfaces = s.interfaces; there = s.there }))

find_weaker : {X : Type 0} (p q : X → Bool) → ((x : X) → p x ≡ true → q x ≡ true) → (xs : List X) → is_some (find p xs) ≡ true → is_some (find q xs) ≡ true
find_weaker p q h [] e = absurd cc
find_weaker p q h (x ∷ xs) e = by (p x) (q x) refl refl e (find_weaker p q h xs)
  where
    by : (b c : Bool) → p x ≡ b → q x ≡ c → is_some (cond b (Some x) (find p xs)) ≡ true → (is_some (find p xs) ≡ true → is_some (find q xs) ≡ true) → is_some (cond c (Some x) (find q xs)) ≡ true
    by b true f g k next = refl
    by true false f g k next = absurd (not_both (q x) (h x f) g)
    by false false f g k next = next k

held_device : (old : ConnectionView) (key : DeviceKey) → holds_device old key ≡ true → is_some (find (is_device key.proxy.id) old.devices) ≡ true
held_device old key h = find_weaker (is_of_key key) (is_device key.proxy.id) (λ d e. (and_parts (eqb d.device.seat.id key.seat.id) (eqb d.device.proxy.id key.proxy.id) e).1) old.devices h

held_as : (old : ConnectionView) (key : DeviceKey) (o : ObjectView) → IsHeldAs old key o → (held_by old).device o.id ≡ true
held_as old key o h = subst (λ (id : ℕ). (held_by old).device id ≡ true) (sym h.same) (held_device old key h.held)

tells_it : (old new : ConnectionView) (key : DeviceKey) (o : ObjectView) (m : Sent) (serial : ℕ) (t : Told) → said (event_of m) ≡ DeviceTells o.id serial t → IsHeldAs old key o → HoldsNoMore old new → KeepsSteady (m ∷ []) old new
tells_it old new key o m serial t is h more = steadily old new m (DeviceTells o.id serial t) is more (λ before s. told before old.ctx.table.next_own o.id serial (held_by old) t s.stands (held_as old key o h))

pub untouched_same : (d : DeviceView) → IsSameDevice d (untouched d)
untouched_same d = record { device = refl; interfaces = refl }

pub emptied_same : (d : DeviceView) → IsSameDevice d (emptied d)
emptied_same d = record { device = refl; interfaces = refl }

pub resumed_steady : (old : ConnectionView) (key : DeviceKey) (device : ObjectView) → IsHeldAs old key device → KeepsSteady (resumed old device) old (sending.tells old (resumed_event key.proxy.id))
unfolding said
resumed_steady old key device h =
    let new : ConnectionView = sending.tells old (resumed_event key.proxy.id) in
    tells_it old new key device (event.to_device device.version device.id (codes "resumed") (Word (next_serial old.last_serial) ∷ [])) (next_serial old.last_serial) Resumed refl h (same_table old new refl refl (all_same old.devices))

pub paused_steady : (old : ConnectionView) (key : DeviceKey) (device : ObjectView) → IsHeldAs old key device → KeepsSteady (paused old device) old (record (sending.tells old (sending.paused_event key.proxy.id)) { devices = changed_first (is_of_key key) untouched old.devices })
unfolding said
paused_steady old key device h =
    let new : ConnectionView = record (sending.tells old (sending.paused_event key.proxy.id)) { devices = changed_first (is_of_key key) untouched old.devices } in
    tells_it old new key device (event.to_device device.version device.id (codes "paused") (Word (next_serial old.last_serial) ∷ [])) (next_serial old.last_serial) Paused refl h
    (same_table old new refl refl (changed_same (is_of_key key) untouched untouched_same old.devices))

pub start_steady : (old : ConnectionView) (key : DeviceKey) (device : ObjectView) (sequence : ℕ) → IsHeldAs old key device → KeepsSteady (start_emulating old device sequence) old (sending.tells old (λ serial. sending.start_emulating_event key.proxy.id serial sequence))
unfolding said
start_steady old key device sequence h =
    let new : ConnectionView = sending.tells old (λ serial. sending.start_emulating_event key.proxy.id serial sequence) in
    tells_it old new key device (event.to_device device.version device.id (codes "start_emulating") (Word (next_serial old.last_serial) ∷ Word sequence ∷ [])) (next_serial old.last_serial) (StartEmulating sequence) refl h
    (same_table old new refl refl (all_same old.devices))

pub stop_steady : (old : ConnectionView) (key : DeviceKey) (device : ObjectView) → IsHeldAs old key device → KeepsSteady (stop_emulating old device) old (sending.tells old (sending.stop_emulating_event key.proxy.id))
unfolding said
stop_steady old key device h =
    let new : ConnectionView = sending.tells old (sending.stop_emulating_event key.proxy.id) in
    tells_it old new key device (event.to_device device.version device.id (codes "stop_emulating") (Word (next_serial old.last_serial) ∷ [])) (next_serial old.last_serial) StopEmulating refl h
    (same_table old new refl refl (all_same old.devices))

pub frame_steady : (old : ConnectionView) (key : DeviceKey) (device : ObjectView) (time : ℕ) → IsHeldAs old key device → KeepsSteady (frame old device time) old (sending.tells old (λ serial. sending.frame_event key.proxy.id serial time))
unfolding said
frame_steady old key device time h =
    let new : ConnectionView = sending.tells old (λ serial. sending.frame_event key.proxy.id serial time) in
    tells_it old new key device (event.to_device device.version device.id (codes "frame") (Word (next_serial old.last_serial) ∷ Long time ∷ [])) (next_serial old.last_serial) (Frame time) refl h
    (same_table old new refl refl (all_same old.devices))

pub invalid_steady : (old : ConnectionView) (id : ℕ) → KeepsSteady (invalid_object old id) old (record old { ctx = sending.says old.ctx (sending.no_object_event old.proxy.id old.last_serial id) })
unfolding said
invalid_steady old id =
    let new : ConnectionView = record old { ctx = sending.says old.ctx (sending.no_object_event old.proxy.id old.last_serial id) } in
    steadily old new (event.no_object old.proxy old.last_serial id) Aside refl (same_table old new refl refl (all_same old.devices)) (λ before s. aside before old.ctx.table.next_own (held_by old) s.stands)

-- ---- objects that leave the table

seat_left : (t : TableView) (k id : ℕ) → is_a_seat (found (without t k) id) ≡ true → (eqb k id ≡ false) × (is_a_seat (found t id) ≡ true)
seat_left t k id h = by (eqb id k) refl (sym (ap is_a_seat (get_without t.objects k id)) ∙ h)
  where
    by : (b : Bool) → eqb id k ≡ b → is_a_seat (cond b None (found t id)) ≡ true → (eqb k id ≡ false) × (is_a_seat (found t id) ≡ true)
    by true e f = absurd cc
    by false e f = (eqb_turned k id ∙ e, f)

sync_steady : (old : ConnectionView) (callback version : ℕ) → IsThere old.ctx.table callback known.Callback → KeepsSteady (event.called_back callback version ∷ []) old (handling.calls_back old callback)
unfolding said
sync_steady old callback version i =
    steadily old (handling.calls_back old callback) (event.called_back callback version) Aside refl
    (record {
      next = omega arith;
      seats = λ id h. (seat_left old.ctx.table callback id h).1;
      devices = all_same old.devices;
      there = λ h.
          let g = callback_goes old.ctx.table callback old.devices old.seats i h.devices h.seats in
          record { devices = g.0; seats = g.1; seats_differ = h.seats_differ; seats_below = h.seats_below };
    })
    (λ before s. aside before old.ctx.table.next_own (held_by old) s.stands)

-- what the end of an object says, by what it is in the table
says_seat_goes : (v id serial : ℕ) → said (event_of (event.event_to known.Seat v id (codes "destroyed") (Word serial ∷ []))) ≡ SeatGoes id serial
unfolding said
says_seat_goes v id serial = refl

pub says_goes : (k : KnownInterface) (v id serial : ℕ) → is_of_device k ≡ true → said (event_of (event.event_to k v id (codes "destroyed") (Word serial ∷ []))) ≡ Goes k id serial
unfolding said
says_goes known.Handshake v id serial h = absurd cc
says_goes known.Connection v id serial h = absurd cc
says_goes known.Callback v id serial h = absurd cc
says_goes known.Pingpong v id serial h = absurd cc
says_goes known.Seat v id serial h = absurd cc
says_goes known.Device v id serial h = absurd cc
says_goes k v id serial h = refl

pub destroyed_is : (t : TableView) (id serial : ℕ) (k : KnownInterface) (h : IsThere t id k) → event.destroyed t id serial ≡ event.event_to k h.object.version id (codes "destroyed") (Word serial ∷ [])
destroyed_is t id serial k h = ap (λ (o : Option ObjectView). event.destroyed_as o id serial) h.there ∙ ap (λ (i : Interface). event.event_to (event.known_as i) h.object.version id (codes "destroyed") (Word serial ∷ [])) h.is

seat_release_steady : (old : ConnectionView) (id : ℕ) → IsThere old.ctx.table id known.Seat → KeepsSteady (release_seat old id) old (handling.releases_seat old id)
seat_release_steady old id h before s =
    let serial : ℕ = next_serial old.last_serial in
    let new : ConnectionView = handling.releases_seat old id in
    let is : said (event_of (event.destroyed old.ctx.table id serial)) ≡ SeatGoes id serial = ap (λ (m : Sent). said (event_of m)) (destroyed_is old.ctx.table id serial known.Seat h) ∙ says_seat_goes h.object.version id serial in
    let g = subst (λ (x : Said). GoesOn before (x ∷ []) old.ctx.table.next_own (without_seat id (held_by old))) (sym is) (seat_goes before old.ctx.table.next_own id serial (held_by old) s.stands) in (
      g.taken,
      record {
        stands = less (said (event_of (event.destroyed old.ctx.table id serial)) ∷ before) old.ctx.table.next_own new.ctx.table.next_own (held_by new) (without_seat id (held_by old)) g.stands (record {
          seats = λ i e. let l = seat_left old.ctx.table id i e in ap (λ (b : Bool). cond b false (is_a_seat (found old.ctx.table i))) l.0 ∙ l.1;
          devices = λ i e. e;
          interfaces = λ i d e. e;
        }) (omega arith);
        devices = s.devices;
        interfaces = s.interfaces;
        there = record {
          devices = seat_goes_devices old.ctx.table id old.devices h s.there.devices;
          seats = seats_released old.ctx.table id old.seats s.there.seats_differ s.there.seats;
          seats_differ = subst IdsDiffer (sym (ids_released id old.seats)) s.there.seats_differ;
          seats_below = subst (AllBelow old.ctx.table.next_own) (sym (ids_released id old.seats)) s.there.seats_below;
        };
      },
    )

none_some : (a : ℕ) → ◌≡◌ {A = Option ℕ} None (Some a) → ⊥
none_some a h = absurd cc

left : (old : ConnectionView) (id : ℕ) → IdsDiffer (all_interfaces old.devices) → (i device : ℕ) (b : Bool) → eqb id i ≡ b → owner i (given_up id old.devices) ≡ Some device → cond b None (owner i old.devices) ≡ Some device
left old id differ i device true e f =
    let none : owner i (given_up id old.devices) ≡ None = subst (λ (k : ℕ). owner k (given_up id old.devices) ≡ None) (eqb-true id i e) (owner_gone id old.devices differ) in
    absurd (none_some device (sym none ∙ f))
left old id differ i device false e f = sym (owner_kept id i old.devices e) ∙ f

given_away : (old : ConnectionView) (id : ℕ) → IdsDiffer (all_interfaces old.devices) → (n : ℕ) → (device : ℕ) × (owner n (given_up id old.devices) ≡ Some device) → eqb n id ≡ false
given_away old id differ n h = by (eqb n id) refl
  where
    by : (b : Bool) → eqb n id ≡ b → b ≡ false
    by true e = absurd (none_some h.0 (sym (subst (λ (k : ℕ). owner k (given_up id old.devices) ≡ None) (sym (eqb-true n id e)) (owner_gone id old.devices differ)) ∙ h.1))
    by false e = refl

gone_steady : (old : ConnectionView) (id : ℕ) → HasInterfaceThere old.ctx.table id → (d : DeviceView) → find (has_interface id) old.devices ≡ Some d → KeepsSteady (gives_up old id (Some d)) old (handling.gives_up old id (Some d))
gone_steady old id h d e before s =
    let serial : ℕ = next_serial old.last_serial in
    let new : ConnectionView = handling.gives_up old id (Some d) in
    let m : Sent = event.destroyed old.ctx.table id serial in
    let is : said (event_of m) ≡ Goes h.interface id serial = ap (λ (n : Sent). said (event_of n)) (destroyed_is old.ctx.table id serial h.interface h.there) ∙ says_goes h.interface h.there.object.version id serial h.of_device in
    let has : (held_by old).interface id ≡ Some d.device.proxy.id = ap (λ (o : Option DeviceView). device_id o) e in
    let g = subst (λ (x : Said). GoesOn before (x ∷ []) old.ctx.table.next_own (steady.without_interface id (held_by old))) (sym is) (one_goes before old.ctx.table.next_own id d.device.proxy.id serial (held_by old) h.interface s.stands has) in (
      g.taken,
      record {
        stands = less (said (event_of m) ∷ before) old.ctx.table.next_own new.ctx.table.next_own (held_by new) (steady.without_interface id (held_by old)) g.stands (record {
          seats = λ i f. (seat_left old.ctx.table id i f).1;
          devices = λ i f. sym (devices_given_up id i old.devices) ∙ f;
          interfaces = λ i device f. left old id s.interfaces i device (eqb id i) refl f;
        }) (omega arith);
        devices = subst IdsDiffer (sym (ids_given_up id old.devices)) s.devices;
        interfaces = part_differ (all_interfaces (given_up id old.devices)) (all_interfaces old.devices) (part_given_up id old.devices) s.interfaces;
        there = record {
          devices = devices_stay old.ctx.table (without old.ctx.table id) (given_up id old.devices) (λ n f i. left_same old.ctx.table id n (given_away old id s.interfaces n (interface_found n (given_up id old.devices) f)))
              (λ n f i. left_same old.ctx.table id n (other_id old.ctx.table n id known.Device h.interface i h.there (λ e. not_device_of_device h.interface h.of_device (sym e)))) (given_up_there old.ctx.table id old.devices s.there.devices);
          seats = interface_goes_seats old.ctx.table id old.seats h s.there.seats;
          seats_differ = s.there.seats_differ;
          seats_below = s.there.seats_below;
        };
      },
    )

interface_release_steady : (old : ConnectionView) (id : ℕ) → HasInterfaceThere old.ctx.table id → KeepsSteady (release_interface old id) old (handling.obeys old id None)
interface_release_steady old id h = by (find (has_interface id) old.devices) refl
  where
    by : (o : Option DeviceView) → find (has_interface id) old.devices ≡ o → KeepsSteady (gives_up old id o) old (handling.gives_up old id o)
    by None e before s = (tt, s)
    by (Some d) e before s = gone_steady old id h d e before s

-- ---- a request is answered

nothing_said : (old new : ConnectionView) → HoldsNoMore old new → KeepsSteady [] old new
nothing_said old new h before s = (tt, stands_on before old new h s)

unmoved : (old : ConnectionView) → KeepsSteady [] old old
unmoved old before s = (tt, s)

emptied_steady : (c : ConnectionView) (id : ℕ) → KeepsSteady [] c (handling.emptied_at c id)
emptied_steady c id = nothing_said c (handling.emptied_at c id) (same_table c (handling.emptied_at c id) refl refl (changed_same (is_device id) emptied emptied_same c.devices))

closes_steady : (c : ConverterView) (id time : ℕ) (make : DeviceKey → EisRequest) (o : Option DeviceView) → KeepsSteady [] c.handle (handling.closes c id time make o).handle
closes_steady c id time make None = unmoved c.handle
closes_steady c id time make (Some d) = emptied_steady c.handle id

hands_out_steady : (c : ConverterView) (id serial time : ℕ) (o : Option DeviceView) → KeepsSteady [] c.handle (handling.hands_out c id serial time o).handle
hands_out_steady c id serial time None = unmoved c.handle
hands_out_steady c id serial time (Some d) = emptied_steady c.handle id

queues_steady : (c : ConverterView) (make : ObjectView → EisRequest) (o : Option SeatView) → KeepsSteady [] c.handle (handling.queues_of_seat c make o).handle
queues_steady c make None = unmoved c.handle
queues_steady c make (Some s) = unmoved c.handle

hears_steady : (c : ConnectionView) (id : ℕ) (i : InputEvent) → KeepsSteady [] c (handling.hears c id i)
hears_steady c id i = nothing_said c (handling.hears c id i) (same_table c (handling.hears c id i) refl refl (changed_same (has_interface id) (takes_input i) (input_same i) c.devices))

pub answer_steady : (c : ConverterView) (id : ℕ) (meaning : Meaning) (time : ℕ) → IsTargetOf meaning c.handle.ctx.table id → KeepsSteady (answers c.handle id meaning) c.handle (handling.handled c id meaning time).handle
answer_steady c id (Shakes shake) time h = unmoved c.handle
answer_steady c id (Syncs callback version) time h = sync_steady c.handle callback version h
answer_steady c id Disconnects time h = unmoved c.handle
answer_steady c id (Pongs number) time h = unmoved c.handle
answer_steady c id ReleasesSeat time h = seat_release_steady c.handle id h
answer_steady c id (Binds mask) time h = queues_steady c (handling.bind_of mask) (find (is_seat id) c.handle.seats)
answer_steady c id (RequestsDevice mask) time h = queues_steady c (handling.request_device_of mask) (find (is_seat id) c.handle.seats)
answer_steady c id Closes time h = closes_steady c id time handling.closed_of (handling.device_in c id)
answer_steady c id (Starts serial sequence) time h = closes_steady c id time (handling.start_of serial sequence) (handling.device_in c id)
answer_steady c id (Stops serial) time h = closes_steady c id time (handling.stop_of serial) (handling.device_in c id)
answer_steady c id (Frames serial sent) time h = hands_out_steady c id serial sent (handling.device_in c id)
answer_steady c id Readies time h = closes_steady c id time handling.ready_of (handling.device_in c id)
answer_steady c id Releases time h = interface_release_steady c.handle id h
answer_steady c id (Inputs i) time h = hears_steady c.handle id i

-- ---- a seat comes

says_name : (v seat : ℕ) (name : Option (List ℕ)) (more : List Sent) → said_by (named (event.seat_name v seat) name ++ more) ≡ name_if (is_some name) (SeatHasName seat) ++ said_by more
unfolding said
says_name v seat None more = refl
says_name v seat (Some name) more = refl

says_capabilities : (v seat : ℕ) (ps : List (ℕ × KnownInterface)) (more : List Sent) → said_by (map (event.capability v seat) ps ++ more) ≡ map (SeatHas seat) (map (λ (p : ℕ × KnownInterface). name_of p.1) ps) ++ said_by more
unfolding said
says_capabilities v seat [] more = refl
says_capabilities v seat (p ∷ ps) more = ap (λ (l : List Said). SeatHas seat (name_of p.1) ∷ l) (says_capabilities v seat ps more)

abbrev offered_names : ConnectionView → DeviceCapabilities → List (List ℕ)
offered_names c given = map (λ (p : ℕ × KnownInterface). name_of p.1) (offered c given)

says_seat : (c : ConnectionView) (name : Option (List ℕ)) (given : DeviceCapabilities) → said_by (add_seat c name given) ≡ seat_events c.ctx.table.next_own (is_some name) (offered_names c given)
unfolding said
says_seat c name given =
    let v : ℕ = seat_version c in let seat : ℕ = c.ctx.table.next_own in
    let rest : List Sent = map (event.capability v seat) (offered c given) ++ (event.seat_done v seat ∷ []) in
    ap (λ (l : List Said). SeatComes seat ∷ l) (says_name v seat name rest ∙ ap (λ (l : List Said). name_if (is_some name) (SeatHasName seat) ++ l) (says_capabilities v seat (offered c given) (event.seat_done v seat ∷ [])))

all_named : list_all (λ (p : ℕ × KnownInterface). is_some (capability_named (name_of p.1))) capabilities ≡ true
unfolding known_of
all_named = refl

chosen_named : (t : ℕ × KnownInterface → Bool) (ps : List (ℕ × KnownInterface)) → list_all (λ (p : ℕ × KnownInterface). is_some (capability_named (name_of p.1))) ps ≡ true →
    AreCapabilities (map (λ (p : ℕ × KnownInterface). name_of p.1) (filter_map (λ (p : ℕ × KnownInterface). cond (t p) (Some p) None) ps))
chosen_named t [] h = tt
chosen_named t (p ∷ ps) h =
    let parts = and_parts (is_some (capability_named (name_of p.1))) (list_all (λ (q : ℕ × KnownInterface). is_some (capability_named (name_of q.1))) ps) h in
    by (t p) refl parts.0 (chosen_named t ps parts.1)
  where
    by : (b : Bool) → t p ≡ b → is_some (capability_named (name_of p.1)) ≡ true → AreCapabilities (map (λ (q : ℕ × KnownInterface). name_of q.1) (filter_map (λ (q : ℕ × KnownInterface). cond (t q) (Some q) None) ps)) →
        AreCapabilities (map (λ (q : ℕ × KnownInterface). name_of q.1) (filter_map (λ (q : ℕ × KnownInterface). cond (t q) (Some q) None) (p ∷ ps)))
    by true e is next = rw e (is, next)
    by false e is next = rw e next

seat_there : (old new : ConnectionView) (name : Option (List ℕ)) (given : DeviceCapabilities) → AddsSeat old name given new → (id : ℕ) → is_a_seat (found new.ctx.table id) ≡ true → cond (eqb old.ctx.table.next_own id) true (is_a_seat (found old.ctx.table id)) ≡ true
seat_there old new name given a id e =
    let next : ℕ = old.ctx.table.next_own in
    let o : ObjectView = new_seat old in
    let is : found new.ctx.table id ≡ cond (eqb id next) (Some o) (found old.ctx.table id) = ap (λ (x : Endpoint). finite.get x.objects id) a.endpoint ∙ get_with old.ctx.table.objects next id o in
    by (eqb id next) (eqb_turned next id) (ap is_a_seat (sym is) ∙ e)
  where
    by : (b : Bool) → eqb old.ctx.table.next_own id ≡ b → is_a_seat (cond b (Some (new_seat old)) (found old.ctx.table id)) ≡ true → cond (eqb old.ctx.table.next_own id) true (is_a_seat (found old.ctx.table id)) ≡ true
    by true f k = rw f refl
    by false f k = rw f k

-- ids that were given
pub below : (next n : ℕ) (ids : List ℕ) → AllBelow next ids → list_any (eqb n) ids ≡ true → n < next
below next n [] h f = absurd cc
below next n (id ∷ ids) h f = by (eqb n id) refl f (below next n ids h.1)
  where
    by : (b : Bool) → eqb n id ≡ b → (b || list_any (eqb n) ids) ≡ true → (list_any (eqb n) ids ≡ true → n < next) → n < next
    by true e g rest = let same = eqb-true n id e in let lt = h.0 in omega (arith, same, lt)
    by false e g rest = rest g

pub below_more : (n m : ℕ) (ids : List ℕ) → n ≤ m → AllBelow n ids → AllBelow m ids
below_more n m [] le h = tt
below_more n m (id ∷ ids) le h = let lt = h.0 in (omega (arith, lt, le), below_more n m ids le h.1)

-- what is held was there before the next id was given
pub held_interface_below : (before : List Said) (c : ConnectionView) → StandsWith before c → (n : ℕ) → list_any (eqb n) (all_interfaces c.devices) ≡ true → n < c.ctx.table.next_own
held_interface_below before c s n h = let o = interface_found n c.devices h in (s.stands.interfaces n o.0 o.1).below

pub held_device_below : (before : List Said) (c : ConnectionView) → StandsWith before c → (n : ℕ) → list_any (eqb n) (device_ids c.devices) ≡ true → n < c.ctx.table.next_own
held_device_below before c s n h = (s.stands.devices n (id_found n c.devices h)).0

seat_ids_behind : (ss : List SeatView) (s : SeatView) → seat_ids (ss ++ (s ∷ [])) ≡ seat_ids ss ++ (s.proxy.id ∷ [])
seat_ids_behind [] s = refl
seat_ids_behind (x ∷ ss) s = ap (λ (l : List ℕ). x.proxy.id ∷ l) (seat_ids_behind ss s)

seats_behind : (t : TableView) (ss : List SeatView) (s : SeatView) → IsThere t s.proxy.id known.Seat → AllSeatsThere t ss → AllSeatsThere t (ss ++ (s ∷ []))
seats_behind t [] s i h = ((λ e. i), tt)
seats_behind t (x ∷ ss) s i h = (h.0, seats_behind t ss s i h.1)

below_behind : (next : ℕ) (ids : List ℕ) → AllBelow next ids → AllBelow (next + 1) (ids ++ (next ∷ []))
below_behind next [] h = (omega arith, tt)
below_behind next (id ∷ ids) h = let lt = h.0 in (omega (arith, lt), below_behind next ids h.1)

pub seat_now : (old new : ConnectionView) (name : Option (List ℕ)) (given : DeviceCapabilities) → AddsSeat old name given new → IsThere new.ctx.table old.ctx.table.next_own known.Seat
seat_now old new name given a = record {
  object = new_seat old;
  there = ap (λ (x : Endpoint). finite.get x.objects old.ctx.table.next_own) a.endpoint ∙ get_with old.ctx.table.objects old.ctx.table.next_own old.ctx.table.next_own (new_seat old)
      ∙ ap (λ (b : Bool). cond b (Some (new_seat old)) (found old.ctx.table old.ctx.table.next_own)) (eq-eqb old.ctx.table.next_own old.ctx.table.next_own refl);
  is = refl;
}

seat_added_there : (old new : ConnectionView) (name : Option (List ℕ)) (given : DeviceCapabilities) → AddsSeat old name given new → (before : List Said) → StandsWith before old → HoldsThere new
seat_added_there old new name given a before s =
    let next : ℕ = old.ctx.table.next_own in
    let it : SeatView = record { proxy = new_seat old; capabilities = given; released = false } in
    let devices_are : new.devices ≡ old.devices = ap (λ (c : ConnectionView). c.devices) a.rest in
    let seats_are : new.seats ≡ old.seats ++ (it ∷ []) = ap (λ (c : ConnectionView). c.seats) a.rest in
    let later : new.ctx.table.next_own ≡ next + 1 = ap (λ (e : Endpoint). e.next_own) a.endpoint in
    let now : IsThere new.ctx.table next known.Seat = record { object = new_seat old; there = is next ∙ ap (λ (b : Bool). cond b (Some (new_seat old)) (found old.ctx.table next)) (eq-eqb next next refl); is = refl } in
    let ids_are : seat_ids new.seats ≡ seat_ids old.seats ++ (next ∷ []) = ap seat_ids seats_are ∙ seat_ids_behind old.seats it in
    record {
      devices = subst (AllInTable new.ctx.table) (sym devices_are) (devices_stay old.ctx.table new.ctx.table old.devices (λ n f i. still n (held_interface_below before old s n f)) (λ n f i. still n (held_device_below before old s n f)) s.there.devices);
      seats = subst (AllSeatsThere new.ctx.table) (sym seats_are) (seats_behind new.ctx.table old.seats it now (seats_stay old.ctx.table new.ctx.table old.seats (λ n f i. still n (below next n (seat_ids old.seats) s.there.seats_below f)) s.there.seats));
      seats_differ = subst IdsDiffer (sym ids_are) (differ_both (seat_ids old.seats) (next ∷ []) s.there.seats_differ (refl, tt) (λ n f. ap (λ (b : Bool). b || false) (unlike n (below next n (seat_ids old.seats) s.there.seats_below f))));
      seats_below = subst (λ (n : ℕ). AllBelow n (seat_ids new.seats)) (sym later) (subst (AllBelow (next + 1)) (sym ids_are) (below_behind next (seat_ids old.seats) s.there.seats_below));
    }
  where
    is : (id : ℕ) → found new.ctx.table id ≡ cond (eqb id old.ctx.table.next_own) (Some (new_seat old)) (found old.ctx.table id)
    is id = ap (λ (x : Endpoint). finite.get x.objects id) a.endpoint ∙ get_with old.ctx.table.objects old.ctx.table.next_own id (new_seat old)

    unlike : (n : ℕ) → n < old.ctx.table.next_own → eqb n old.ctx.table.next_own ≡ false
    unlike n lt = ne_eqb n old.ctx.table.next_own (λ same. omega (arith, lt, same))

    still : (n : ℕ) → n < old.ctx.table.next_own → found new.ctx.table n ≡ found old.ctx.table n
    still n lt = is n ∙ ap (λ (b : Bool). cond b (Some (new_seat old)) (found old.ctx.table n)) (unlike n lt)

pub seat_comes_steady : (old new : ConnectionView) (name : Option (List ℕ)) (given : DeviceCapabilities) → AddsSeat old name given new → KeepsSteady (add_seat old name given) old new
seat_comes_steady old new name given a before s =
    let next : ℕ = old.ctx.table.next_own in
    let g = subst (λ (l : List Said). GoesOn before l (next + 1) (with_seat next (held_by old))) (sym (says_seat old name given)) (comes.seat_comes before next (held_by old) (is_some name) (offered_names old given) s.stands (chosen_named (λ (p : ℕ × KnownInterface). has_bit (bits_of given) p.0 && is_settled old.negotiated p.1) capabilities all_named)) in
    let later : new.ctx.table.next_own ≡ next + 1 = ap (λ (e : Endpoint). e.next_own) a.endpoint in
    let same : new.devices ≡ old.devices = ap (λ (c : ConnectionView). c.devices) a.rest in (
      g.taken,
      record {
        stands = less (after before (said_by (add_seat old name given))) (next + 1) new.ctx.table.next_own (held_by new) (with_seat next (held_by old)) g.stands (record {
          seats = λ id e. seat_there old new name given a id e;
          devices = λ id e. ap (λ (ds : List DeviceView). is_some (find (is_device id) ds)) (sym same) ∙ e;
          interfaces = λ id d e. ap (owner id) (sym same) ∙ e;
        }) (omega (arith, later));
        devices = subst (λ (ds : List DeviceView). IdsDiffer (map (λ (d : DeviceView). d.device.proxy.id) ds)) (sym same) s.devices;
        interfaces = subst (λ (ds : List DeviceView). IdsDiffer (all_interfaces ds)) (sym same) s.interfaces;
        there = seat_added_there old new name given a before s;
      },
    )
