-- A step that adds a device, which then takes input, leaves what holds of the server.
use Rattle.std.proofs.Common.{◌≡◌, ℕ, ◌+◌, ◌<◌, Bool, true, false, cond, eqb, List, [], ◌∷◌, ◌++◌, map, length, Option, Some, None, refl, sym, ap, subst, ◌∙◌, arith}
use Rattle.std.specs.Prelude.{is_some, find, codes}
use Rattle.std.specs.FinMap as finite
use Rattle.std.proofs.lemmas.Bool.{eq-eqb, ne_eqb}
use Rattle.ei_spec.specs.declared.interface.KnownInterface.{KnownInterface}
use Rattle.ei_spec.specs.declared.interface.KnownInterface.TheVariants as known
use Rattle.ei_spec.specs.Groups.{Other, Slot, group, with_frame}
use Rattle.ei_spec.specs.Interface.{ObjectView, Known, name_of}
use Rattle.ei_spec.specs.Value.{Word}
use Rattle.ei_types.specs.Capability.{bits_of as mask_of}
use Rattle.ei_types.specs.Enums.{device_type_number}
use Rattle.ei_types.specs.declared.capability.DeviceCapabilities.{DeviceCapabilities}
use Rattle.ei_types.specs.declared.enums.DeviceType.{DeviceType}
use Rattle.ei_input.specs.declared.input_event.InputEvent.{InputEvent}
use Rattle.ei_session.specs.Setup.{seat_id}
use Rattle.ei_session.specs.Devices.{interfaces_of}
use Rattle.ei_session.specs.Events.{interface_event}
use Rattle.ei_backend.specs.Endpoint.{Endpoint, endpoint_of}
use Rattle.ei_backend.specs.Table.{TableView, found}
use Rattle.ei_backend.proofs.Objects.{get_with}
use Rattle.ei_ends.specs.Sent.{Sent}
use Rattle.ei_ends.specs.Way.{onto}
use Rattle.ei_reported.specs.Said.{Said, Resumed, DeviceComes, DeviceHasType, DeviceGets, DeviceDone, DeviceTells, said}
use Rattle.ei_reported.specs.Standing.{seat_added, seat_of}
use Rattle.ei_reported.specs.Reported.{Device, Plain, Giving, DeviceAdded, DeviceResumed, device_of, refusal, giving, item, serial as told_serial}
use Rattle.ei_reported.specs.Changes.{moves_device, brings}
use Rattle.ei_reported.proofs.AfterEachKind.{other_seat_of, seat_of_comes, seat_of_typed, seat_of_done}
use Rattle.ei_reported.proofs.ItemsAndSerials.{item_other}
use Rattle.ei_steady.specs.Steady.{NoneRefused, after}
use Rattle.ei_told.specs.Told.{event_of, all_said}
use Rattle.ei_request.specs.Keys.{DeviceKey}
use Rattle.ei_request.specs.Held.{SeatView, DeviceView, is_seat, is_device}
use Rattle.ei_request.specs.Connection.{ConnectionView, next_serial, version_in}
use Rattle.ei_request.specs.Sending as sending
use Rattle.ei_request.specs.Making.{granted, granted_by, granted_at, objects_of, announces_all, begins_device, new_device}
use Rattle.ei_acts.specs.Acting.{Makes, sent_by, AddsDevice, Resumes}
use Rattle.ei_acts.specs.Acts.{device_version, interfaces_from}
use Rattle.ei_acts.specs.Events as event
use Rattle.ei_acts.specs.Holding.{is_seat_interface, is_a_seat, said_by, StandsWith}
use Rattle.ei_acts.specs.There.{IsThere, AllSeatsThere}
use Rattle.ei_acts.proofs.Acting.{act_steady, said_onto}
use Rattle.ei_emitting.specs.Emitted.{Step, Add, count, next_device, added, is_held, id_in, mask_in, steps_on, serial, device_by, slot_with, slots_at, slots}
use Rattle.ei_emitting.specs.Emits.{AreNew, NonePings, HasSeat, AreFrom, AllFound, HoldsDevice, Emits}
use Rattle.ei_emitting.proofs.Agreeing.{Agrees, quiet, other, told}
use Rattle.ei_emitting.proofs.Carrying.{agrees_of, tells_of, holds_on, seat_on, seen_as, is_added, one_serial}
use Rattle.ei_emitting.proofs.Finding.{find_first, find_last, in_range}
use Rattle.ei_emitting.proofs.Fresh.{new_later, new_quiet, new_one}
use Rattle.ei_emitting.proofs.Histories.{next_more, added_now, added_before, held_before, held_added, lies, Lies, none_yet}

-- ---- what is granted

abbrev pub seat_in : List SeatView → Option SeatView
seat_in ss = find (is_seat seat_id) ss

pub seat_found : (c : ConnectionView) (h : HasSeat c) → find (is_seat seat_id) c.seats ≡ Some h.seat
seat_found c h = ap seat_in h.only ∙ ap (λ (b : Bool). let o : Option SeatView = cond b (Some h.seat) None in o) (eq-eqb h.seat.proxy.id seat_id h.id)

pub grants : (c : ConnectionView) (h : HasSeat c) (id : ℕ) (wanted : DeviceCapabilities) → id ≡ seat_id → granted_at c id wanted ≡ interfaces_of (mask_of wanted)
unfolding interfaces_of
grants c h id wanted e =
    ap (λ (i : ℕ). granted_at c i wanted) e ∙ ap (λ (o : Option SeatView). granted_by o wanted) (seat_found c h)
    ∙ ap (λ (given : DeviceCapabilities). granted given wanted) h.all

pub seat_alive : (c : ConnectionView) (before : List Said) → HasSeat c → StandsWith before c → is_a_seat (found c.ctx.table seat_id) ≡ true
seat_alive c before h s =
    let one : AllSeatsThere c.ctx.table (h.seat ∷ []) = subst (AllSeatsThere c.ctx.table) h.only s.there.seats in
    let there : IsThere c.ctx.table seat_id known.Seat = subst (λ (i : ℕ). IsThere c.ctx.table i known.Seat) h.id (one.0 h.alive) in
    ap is_a_seat there.there ∙ ap is_seat_interface there.is

-- ---- the objects of the new interfaces

from_objects : (e : Endpoint) (versions : KnownInterface → ℕ) (ks : List KnownInterface) → AreFrom e.next_own ks (objects_of e versions ks)
from_objects e versions [] = tt
from_objects e versions (k ∷ ks) = (refl, refl, from_objects (record e { next_own = e.next_own + 1 }) versions ks)

next_after : (e : Endpoint) (versions : KnownInterface → ℕ) (device : ℕ) (ks : List KnownInterface) → (announces_all e versions device ks).next_own ≡ e.next_own + length ks
next_after e versions device [] = omega arith
next_after e versions device (k ∷ ks) = let next = next_after (sending.announces e (interface_event device e.next_own k (versions k)) k (versions k)) versions device ks in omega (arith, next)

table_old : (e : Endpoint) (versions : KnownInterface → ℕ) (device : ℕ) (ks : List KnownInterface) (id : ℕ) → id < e.next_own → finite.get (announces_all e versions device ks).objects id ≡ finite.get e.objects id
table_old e versions device [] id lt = refl
table_old e versions device (k ∷ ks) id lt =
    let o : ObjectView = sending.next_object e k (versions k) in
    let more : id < e.next_own + 1 = omega (arith, lt) in
    table_old (sending.announces e (interface_event device e.next_own k (versions k)) k (versions k)) versions device ks id more
    ∙ get_with e.objects e.next_own id o ∙ ap (λ (b : Bool). cond b (Some o) (finite.get e.objects id)) (ne_eqb id e.next_own (λ same. omega (arith, lt, same)))

all_new : (e f : Endpoint) (versions : KnownInterface → ℕ) (device : ℕ) (ks : List KnownInterface) (t : TableView) → e.next_own ≡ f.next_own → e.client ≡ f.client →
    ((id : ℕ) → found t id ≡ finite.get (announces_all e versions device ks).objects id) → AllFound t (objects_of f versions ks)
all_new e f versions device [] t same side is = tt
all_new e f versions device (k ∷ ks) t same side is =
    let o : ObjectView = sending.next_object e k (versions k) in
    let p : ObjectView = sending.next_object f k (versions k) in
    let g : Endpoint = sending.announces e (interface_event device e.next_own k (versions k)) k (versions k) in
    let less_one : f.next_own < e.next_own + 1 = omega (arith, same) in
    let one : o ≡ p = ap (λ (n : ℕ). let q : ObjectView = record { id = n; interface = Known k; version = versions k; client_side = e.client } in q) same
    ∙ ap (λ (b : Bool). let q : ObjectView = record { id = f.next_own; interface = Known k; version = versions k; client_side = b } in q) side in
    let there : found t f.next_own ≡ Some o = is f.next_own ∙ table_old g versions device ks f.next_own less_one ∙ get_with e.objects e.next_own f.next_own o
    ∙ ap (λ (b : Bool). cond b (Some o) (finite.get e.objects f.next_own)) (eq-eqb f.next_own e.next_own (sym same)) in
    (there ∙ ap (λ (q : ObjectView). let r : Option ObjectView = Some q in r) one, all_new g (record f { next_own = f.next_own + 1 }) versions device ks t (ap (λ (n : ℕ). n + 1) same) side is)

-- ---- what a client is told of it

-- an event that isn't refused gives what it may
given_is : (before : List Said) (m : Said) → refusal before m ≡ None → item before m ≡ giving before m
unfolding item
given_is before m h = rw (h, item) refl

module _ (start : ℕ) (c : ConnectionView) (d : ℕ) (es : List (Slot InputEvent Plain)) (n : ℕ) (empty : group d es ≡ []) where
  abbrev v : ℕ
  v = device_version c

  abbrev added_slot : Slot InputEvent Plain
  added_slot = slot_with n (Some (Other d (DeviceAdded (device_by d))))

  abbrev last_one : List Sent
  last_one = event.device_done v d ∷ []

  comes_done : (past : List Sent) → NoneRefused (all_said past) (said_by last_one) → seat_of (all_said past) d ≡ Some seat_id → Agrees start (map event_of past) es → Agrees start (map event_of (onto last_one past)) (added_slot ∷ es)
  unfolding said with_frame
  comes_done past none seat a =
      let of : device_of (all_said past) d ≡ device_by d = seen_as (all_said past) d seat in
      let is : item (all_said past) (DeviceDone d) ≡ Some (Other d (DeviceAdded (device_by d))) =
      given_is (all_said past) (DeviceDone d) none.0 ∙ ap (λ (w : Device). let o : Option Giving = Some (Other d (DeviceAdded w)) in o) of in
      other start (map event_of past) es (event_of (event.device_done v d)) d n (DeviceAdded (device_by d)) is of
      (λ time. ap (λ (xs : List InputEvent). with_frame {Y = Plain} xs d (told_serial start (DeviceDone d ∷ all_said past)) time) empty ∙ sym (ap (λ (xs : List InputEvent). with_frame {Y = Plain} xs d n time) empty)) a

  comes_with : (ks : List KnownInterface) (id : ℕ) (past : List Sent) → NoneRefused (all_said past) (said_by (interfaces_from c d id ks ++ last_one)) → seat_of (all_said past) d ≡ Some seat_id → Agrees start (map event_of past) es →
      Agrees start (map event_of (onto (interfaces_from c d id ks ++ last_one) past)) (added_slot ∷ es)
  unfolding said
  comes_with [] id past none seat a = comes_done past none seat a
  comes_with (k ∷ ks) id past none seat a =
      let m : Sent = event.interface v d id k (version_in c.negotiated k) in
      let it : Said = DeviceGets d id (name_of k) (version_in c.negotiated k) in
      comes_with ks (id + 1) (m ∷ past) none.1 (other_seat_of (all_said past) it d refl ∙ seat) (quiet start (map event_of past) es (event_of m) (item_other (all_said past) it refl) a)

  abbrev all_of : ObjectView → DeviceType → List KnownInterface → List Sent
  all_of seat kind ks = event.device seat d v ∷ (event.device_type v d (device_type_number kind) ∷ (interfaces_from c d (d + 1) ks ++ last_one))

  pub comes : (seat : ObjectView) (kind : DeviceType) (ks : List KnownInterface) (past : List Sent) → seat.id ≡ seat_id → NoneRefused (all_said past) (said_by (all_of seat kind ks)) → seat_added (all_said past) seat_id ≡ true →
      Agrees start (map event_of past) es → Agrees start (map event_of (onto (all_of seat kind ks) past)) (added_slot ∷ es)
  unfolding said
  comes seat kind ks past same none alive a =
      let m : Sent = event.device seat d v in
      let p : Sent = event.device_type v d (device_type_number kind) in
      let one : List Said = DeviceComes seat.id d ∷ all_said past in
      let seat_is : seat_of one d ≡ Some seat_id = seat_of_comes (all_said past) seat.id d d (ap (seat_added (all_said past)) same ∙ alive)
      ∙ ap (λ (b : Bool). cond b (Some seat.id) (seat_of (all_said past) d)) (eq-eqb d d refl) ∙ ap (λ (i : ℕ). let o : Option ℕ = Some i in o) same in
      comes_with ks (d + 1) (p ∷ m ∷ past) none.1.1 (seat_of_typed one d d ∙ seat_is)
      (quiet start (map event_of (m ∷ past)) es (event_of p) (item_other one (DeviceHasType d) refl) (quiet start (map event_of past) es (event_of m) (item_other (all_said past) (DeviceComes seat.id d) refl) a))

  -- the seats of other devices stay
  with_seats : (ks : List KnownInterface) (id : ℕ) (past : List Sent) (j : ℕ) → seat_of (all_said (onto (interfaces_from c d id ks ++ last_one) past)) j ≡ seat_of (all_said past) j
  unfolding said
  with_seats [] id past j = seat_of_done (all_said past) d j
  with_seats (k ∷ ks) id past j =
      let m : Sent = event.interface v d id k (version_in c.negotiated k) in
      with_seats ks (id + 1) (m ∷ past) j ∙ other_seat_of (all_said past) (DeviceGets d id (name_of k) (version_in c.negotiated k)) j refl

  pub new_seat : (seat : ObjectView) (kind : DeviceType) (ks : List KnownInterface) (past : List Sent) → seat_added (all_said past) seat.id ≡ true → (j : ℕ) →
      seat_of (all_said (onto (all_of seat kind ks) past)) j ≡ cond (eqb d j) (Some seat.id) (seat_of (all_said past) j)
  unfolding said
  new_seat seat kind ks past alive j =
      let m : Sent = event.device seat d v in
      let p : Sent = event.device_type v d (device_type_number kind) in
      let one : List Said = DeviceComes seat.id d ∷ all_said past in
      with_seats ks (d + 1) (p ∷ m ∷ past) j ∙ seat_of_typed one d j ∙ seat_of_comes (all_said past) seat.id d j alive

  -- the ids of the device and of its interfaces are new, and none is a ping
  with_new : (ks : List KnownInterface) (id : ℕ) (past : List Sent) → AreNew id (all_said past) → AreNew (id + length ks) (all_said (onto (interfaces_from c d id ks ++ last_one) past))
  unfolding said
  with_new [] id past a = new_later id (id + 0) (DeviceDone d ∷ all_said past) (omega arith) (new_quiet id (all_said past) (DeviceDone d) (λ i. refl) a)
  with_new (k ∷ ks) id past a =
      let m : Sent = event.interface v d id k (version_in c.negotiated k) in
      let same : id + 1 + length ks ≡ id + length (k ∷ ks) = omega arith in
      subst (λ (i : ℕ). AreNew i (all_said (onto (interfaces_from c d (id + 1) ks ++ last_one) (m ∷ past)))) same
      (with_new ks (id + 1) (m ∷ past) (new_one id (all_said past) (DeviceGets d id (name_of k) (version_in c.negotiated k)) (λ i. refl) a))

  pub all_new_ids : (seat : ObjectView) (kind : DeviceType) (ks : List KnownInterface) (past : List Sent) → AreNew d (all_said past) → AreNew (d + 1 + length ks) (all_said (onto (all_of seat kind ks) past))
  unfolding said
  all_new_ids seat kind ks past a =
      let m : Sent = event.device seat d v in
      let p : Sent = event.device_type v d (device_type_number kind) in
      with_new ks (d + 1) (p ∷ m ∷ past) (new_quiet (d + 1) (DeviceComes seat.id d ∷ all_said past) (DeviceHasType d) (λ i. refl) (new_one d (all_said past) (DeviceComes seat.id d) (λ i. refl) a))

  with_silence : (ks : List KnownInterface) (id : ℕ) (past : List Sent) → NonePings past → NonePings (onto (interfaces_from c d id ks ++ last_one) past)
  with_silence [] id past p = (refl, p)
  with_silence (k ∷ ks) id past p = with_silence ks (id + 1) (event.interface v d id k (version_in c.negotiated k) ∷ past) (refl, p)

  pub all_silent : (seat : ObjectView) (kind : DeviceType) (ks : List KnownInterface) (past : List Sent) → NonePings past → NonePings (onto (all_of seat kind ks) past)
  all_silent seat kind ks past p = with_silence ks (d + 1) (event.device_type v d (device_type_number kind) ∷ event.device seat d v ∷ past) (refl, (refl, p))

-- ---- the step

module _ (start : ℕ) (before : List Step) (c middle left : ConnectionView) (past : List Sent) (wanted : DeviceCapabilities) (kind : DeviceType) (seat_key seat device : ObjectView) (key : DeviceKey)
    (x : Emits start before c past) (seat_is : seat_key.id ≡ seat_id) (made : Makes (AddsDevice seat_key seat None kind wanted []) c middle) (key_is : key.proxy.id ≡ next_device before)
    (resumes : Makes (Resumes key device) middle left) where
  abbrev mask : ℕ
  mask = mask_of wanted

  abbrev next : ℕ
  next = c.ctx.table.next_own

  abbrev versions : KnownInterface → ℕ
  versions = version_in c.negotiated

  abbrev ks : List KnownInterface
  ks = granted_at c seat_key.id wanted

  abbrev new : DeviceView
  new = new_device (endpoint_of c.ctx) c.negotiated seat_key None ks

  abbrev begun : Endpoint
  begun = begins_device (endpoint_of c.ctx) seat_key.id (version_in c.negotiated known.Device) None kind

  abbrev behind : Endpoint
  behind = record (endpoint_of c.ctx) { next_own = next + 1 }

  abbrev ms : List Sent
  ms = sent_by (AddsDevice seat_key seat None kind wanted []) c

  abbrev told_then : List Sent
  told_then = onto ms past

  abbrev n : ℕ
  n = serial start (Add mask ∷ before)

  ks_are : ks ≡ interfaces_of mask
  ks_are = grants c x.seat seat_key.id wanted seat_is

  same_seat : seat.id ≡ seat_id
  same_seat = made.0 ∙ seat_is

  found_is : (id : ℕ) → found middle.ctx.table id ≡ finite.get (announces_all begun versions next ks).objects id
  found_is id = ap (λ (e : Endpoint). finite.get e.objects id) made.1.endpoint

  found_old : (id : ℕ) → id < next → found middle.ctx.table id ≡ found c.ctx.table id
  found_old id lt =
      let o : ObjectView = sending.next_object (endpoint_of c.ctx) known.Device (version_in c.negotiated known.Device) in
      found_is id ∙ table_old begun versions next ks id (omega (arith, lt)) ∙ get_with c.ctx.table.objects next id o
      ∙ ap (λ (b : Bool). cond b (Some o) (found c.ctx.table id)) (ne_eqb id next (λ same. omega (arith, lt, same)))

  devices_are : middle.devices ≡ c.devices ++ (new ∷ [])
  devices_are = ap (λ (l : ConnectionView). l.devices) made.1.rest

  next_now : middle.ctx.table.next_own ≡ next + 1 + length (interfaces_of mask)
  next_now = ap (λ (e : Endpoint). e.next_own) made.1.endpoint ∙ next_after begun versions next ks ∙ ap (λ (l : List KnownInterface). next + 1 + length l) ks_are

  alive : is_a_seat (found c.ctx.table seat_id) ≡ true
  alive = seat_alive c (all_said past) x.seat x.stands

  seat_there : seat_added (all_said past) seat_id ≡ true
  seat_there = (x.stands.stands.seats seat_id alive).1

  seat_there_too : seat_added (all_said past) seat.id ≡ true
  seat_there_too = ap (seat_added (all_said past)) same_seat ∙ seat_there

  one : NoneRefused (all_said past) (said_by ms) × StandsWith (after (all_said past) (said_by ms)) middle
  one = act_steady (AddsDevice seat_key seat None kind wanted []) c middle (record { steady = ap (λ (i : ℕ). is_a_seat (found c.ctx.table i)) seat_is ∙ alive; made = made }) (all_said past) x.stands

  stands_then : StandsWith (all_said told_then) middle
  stands_then = subst (λ (l : List Said). StandsWith l middle) (sym (said_onto ms past)) one.1

  empty : group next (slots start before) ≡ []
  empty = none_yet start before next (let e = x.next_is in omega (arith, e))

  agrees_then : Agrees start (map event_of told_then) (slot_with n (Some (Other next (DeviceAdded (device_by next)))) ∷ slots start before)
  agrees_then = comes start c next (slots start before) n empty seat kind ks past same_seat one.0 seat_there (agrees_of start before past x.told)

  seat_of_then : (j : ℕ) → seat_of (all_said told_then) j ≡ cond (eqb next j) (Some seat.id) (seat_of (all_said past) j)
  seat_of_then j = new_seat start c next (slots start before) n empty seat kind ks past seat_there_too j

  -- ---- the devices once it was added

  none_found : find (is_device next) c.devices ≡ None
  none_found = by (find (is_device next) c.devices) refl
    where
      by : (o : Option DeviceView) → find (is_device next) c.devices ≡ o → find (is_device next) c.devices ≡ None
      by None e = e
      by (Some d) e = let below = (x.stands.stands.devices next (ap is_some e)).0 in absurd (omega (arith, below))

  holds_new : HoldsDevice next mask middle (all_said told_then)
  holds_new = record {
    device = new;
    held = ap (find (is_device next)) devices_are ∙ find_last (is_device next) c.devices new none_found (eq-eqb next next refl);
    seat = seat_is;
    interfaces = subst (λ (l : List KnownInterface). AreFrom (next + 1) l new.interfaces) ks_are (from_objects behind versions ks);
    there = all_new begun behind versions next ks middle.ctx.table refl refl found_is;
    told = seat_of_then next ∙ ap (λ (b : Bool). cond b (Some seat.id) (seat_of (all_said past) next)) (eq-eqb next next refl) ∙ ap (λ (i : ℕ). let o : Option ℕ = Some i in o) same_seat;
  }

  holds_old : (j : ℕ) → is_held before j ≡ true → HoldsDevice (id_in (added before j)) (mask_in (added before j)) middle (all_said told_then)
  holds_old j held =
      let id : ℕ = id_in (added before j) in
      let its : ℕ = mask_in (added before j) in
      let g : HoldsDevice id its c (all_said past) = x.devices j held in
      let p = held_added before j held in
      let l : Lies before (id, its) = subst (λ (o : Option (ℕ × ℕ)). Lies before (id_in o, mask_in o)) (sym p.1) (lies before j p.0 p.1) in
      let low = l.below in
      let e = x.next_is in
      holds_on id its c middle (all_said past) (all_said told_then) g g.device (ap (find (is_device id)) devices_are ∙ find_first (is_device id) c.devices new g.device g.held)
      (record { device = refl; interfaces = refl })
      (λ i f. let r = in_range (id + 1) i (interfaces_of its) g.device.interfaces g.interfaces f in let u = r.1 in found_old i (omega (arith, u, low, e)))
      (seat_of_then id ∙ ap (λ (b : Bool). cond b (Some seat.id) (seat_of (all_said past) id)) (ne_eqb next id (λ same. omega (arith, low, e, same))))

  abbrev Holds : Option (ℕ × ℕ) → Type 0
  Holds o = HoldsDevice (id_in o) (mask_in o) middle (all_said told_then)

  holds_each : (j : ℕ) → is_held (Add mask ∷ before) j ≡ true → HoldsDevice (id_in (added (Add mask ∷ before) j)) (mask_in (added (Add mask ∷ before) j)) middle (all_said told_then)
  holds_each j held = by (eqb (count before) j) refl
    where
      by : (b : Bool) → eqb (count before) j ≡ b → HoldsDevice (id_in (added (Add mask ∷ before) j)) (mask_in (added (Add mask ∷ before) j)) middle (all_said told_then)
      by true e = subst Holds (sym (added_now before mask j e)) (subst (λ (i : ℕ). HoldsDevice i mask middle (all_said told_then)) x.next_is holds_new)
      by false e = subst Holds (sym (added_before before mask j e)) (holds_old j (held_before before mask j e held))

  -- ---- and once it takes input

  abbrev m : Sent
  m = event.to_device device.version device.id (codes "resumed") (Word (next_serial middle.last_serial) ∷ [])

  serial_then : next_serial middle.last_serial ≡ n
  unfolding steps_on
  serial_then = ap (λ (l : ConnectionView). next_serial l.last_serial) made.1.rest ∙ one_serial start before (Add mask) c.last_serial x.serial_is refl

  says : said (event_of m) ≡ DeviceTells next n Resumed
  unfolding said
  says = ap (λ (i : ℕ). DeviceTells i (next_serial middle.last_serial) Resumed) (resumes.0.same ∙ key_is ∙ sym x.next_is) ∙ ap (λ (k : ℕ). DeviceTells next k Resumed) serial_then

  agrees_now : Agrees start (map event_of (m ∷ told_then)) (slot_with n (Some (Other next (DeviceResumed (device_by next) n))) ∷ (slot_with n (Some (Other next (DeviceAdded (device_by next)))) ∷ slots start before))
  agrees_now = told start (map event_of told_then) (slot_with n (Some (Other next (DeviceAdded (device_by next)))) ∷ slots start before) (event_of m) next n Resumed says
      (is_added next mask middle (all_said told_then) stands_then holds_new) (seen_as (all_said told_then) next holds_new.told) agrees_then

  slots_are : slots start (Add mask ∷ before) ≡ slot_with n (Some (Other next (DeviceResumed (device_by next) n))) ∷ (slot_with n (Some (Other next (DeviceAdded (device_by next)))) ∷ slots start before)
  unfolding slots slots_at
  slots_are = ap (λ (i : ℕ). slot_with n (Some (Other i (DeviceResumed (device_by i) n))) ∷ (slot_with n (Some (Other i (DeviceAdded (device_by i)))) ∷ slots start before)) (sym x.next_is)

  table_now : left.ctx.table ≡ middle.ctx.table
  table_now = ap (λ (l : ConnectionView). l.ctx.table) resumes.1

  holds_now : (id its : ℕ) → HoldsDevice id its middle (all_said told_then) → HoldsDevice id its left (all_said (m ∷ told_then))
  holds_now id its g = holds_on id its middle left (all_said told_then) (all_said (m ∷ told_then)) g g.device (ap (λ (l : ConnectionView). find (is_device id) l.devices) resumes.1 ∙ g.held)
      (record { device = refl; interfaces = refl }) (λ i f. ap (λ (t : TableView). found t i) table_now) (other_seat_of (all_said told_then) (said (event_of m)) id (ap moves_device says))

  next_left : left.ctx.table.next_own ≡ next + 1 + length ks
  next_left = ap (λ (t : TableView). t.next_own) table_now ∙ ap (λ (e : Endpoint). e.next_own) made.1.endpoint ∙ next_after begun versions next ks

  pub added_it : Emits start (Add mask ∷ before) left (m ∷ told_then)
  added_it = record {
    serial_is = ap (λ (l : ConnectionView). l.last_serial) resumes.1 ∙ serial_then;
    next_is =
        let t = ap (λ (t : TableView). t.next_own) table_now in
        let e = next_now in
        let here = x.next_is in
        let more = next_more before (Add mask) in
        omega (arith, t, e, here, more);
    seat = seat_on c left (ap (λ (l : ConnectionView). l.seats) resumes.1 ∙ ap (λ (l : ConnectionView). l.seats) made.1.rest) x.seat;
    devices = λ j held. holds_now (id_in (added (Add mask ∷ before) j)) (mask_in (added (Add mask ∷ before) j)) (holds_each j held);
    stands = stands_now;
    fresh = subst (λ (i : ℕ). AreNew i (all_said (m ∷ told_then))) (sym next_left) (new_quiet (next + 1 + length ks) (all_said told_then) (said (event_of m)) (λ id. ap (brings id) says)
        (all_new_ids start c next (slots start before) n empty seat kind ks past x.fresh));
    silent = (refl, all_silent start c next (slots start before) n empty seat kind ks past x.silent);
    told = tells_of start (Add mask ∷ before) (m ∷ told_then) (subst (Agrees start (map event_of (m ∷ told_then))) (sym slots_are) agrees_now);
  }
    where
      stands_now : StandsWith (all_said (m ∷ told_then)) left
      stands_now = (act_steady (Resumes key device) middle left (record { steady = tt; made = resumes }) (all_said told_then) stands_then).1

pub adds : (start : ℕ) (before : List Step) (c middle left : ConnectionView) (past : List Sent) (wanted : DeviceCapabilities) (kind : DeviceType) (seat_key seat device : ObjectView) (key : DeviceKey) →
    Emits start before c past → seat_key.id ≡ seat_id → Makes (AddsDevice seat_key seat None kind wanted []) c middle → key.seat.id ≡ seat_id → key.proxy.id ≡ next_device before → Makes (Resumes key device) middle left →
    Emits start (Add (mask_of wanted) ∷ before) left (onto (sent_by (Resumes key device) middle) (onto (sent_by (AddsDevice seat_key seat None kind wanted []) c) past))
adds start before c middle left past wanted kind seat_key seat device key x seat_is made key_seat key_is resumes =
    added_it start before c middle left past wanted kind seat_key seat device key x seat_is made key_is resumes
