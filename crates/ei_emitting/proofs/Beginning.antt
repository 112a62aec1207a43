-- What holds of a server once it added its seat, and that it stays so where nothing is sent.
use Rattle.std.proofs.Common.{◌≡◌, ℕ, ◌+◌, ◌<◌, ◌^◌, true, false, List, [], ◌∷◌, ◌++◌, map, Option, Some, None, refl, sym, ap, subst, ◌∙◌, append-nil, arith}
use Rattle.std.specs.Prelude.{find}
use Rattle.ei_spec.specs.declared.interface.KnownInterface.{KnownInterface}
use Rattle.ei_spec.specs.History.{last_said, total, joined, each, since}
use Rattle.ei_spec.specs.Groups.{Free, group, frames_made, grouped}
use Rattle.ei_spec.specs.Interface.{name_of}
use Rattle.ei_session.specs.Setup.{seat_id}
use Rattle.ei_backend.specs.Endpoint.{Endpoint}
use Rattle.ei_backend.specs.Table.{found}
use Rattle.ei_ends.specs.Sent.{Sent}
use Rattle.ei_ends.specs.Way.{onto}
use Rattle.ei_reported.specs.Event.{Event}
use Rattle.ei_reported.specs.Said.{Said, SeatComes, SeatHas, SeatDone, said}
use Rattle.ei_reported.specs.Reported.{Report, Giving, SeatAdded, refusal, giving, item, slots as told_slots, tells, reported}
use Rattle.ei_reported.proofs.ItemsAndSerials.{item_other}
use Rattle.ei_reported.proofs.NoneWaits.{waits_nothing, waits_free}
use Rattle.ei_reported.proofs.ReportedLaws.{reported_more, tells_nothing, tells_free, frames_nothing, frames_free}
use Rattle.ei_steady.specs.Steady.{NoneRefused}
use Rattle.ei_told.specs.Told.{event_of, all_said}
use Rattle.ei_request.specs.Held.{SeatView, is_device}
use Rattle.ei_request.specs.Connection.{ConnectionView}
use Rattle.ei_request.specs.Making.{new_seat}
use Rattle.ei_acts.specs.Acting.{Makes, sent_by, Rests, AddsSeat, IsFresh}
use Rattle.ei_acts.specs.Acts.{seat_version, offered}
use Rattle.ei_acts.specs.Events as event
use Rattle.ei_acts.specs.Holding.{is_a_seat, said_by, StandsWith}
use Rattle.ei_acts.proofs.Acting.{act_steady, begins as stands_first, said_onto}
use Rattle.ei_emitting.specs.Emitted.{Step, next_device, added, is_held, id_in, mask_in, serial, slots}
use Rattle.ei_emitting.specs.Emits.{AreNew, NonePings, all_capabilities, HoldsDevice, Emits}
use Rattle.ei_emitting.proofs.Agreeing.{Agrees}
use Rattle.ei_emitting.proofs.Fresh.{new_first, new_quiet, new_one}
use Rattle.ei_emitting.proofs.Carrying.{tells_of, found_on, seat_on}

-- ---- before the seat is described

-- nothing was told that gives anything
record Silent (start : ℕ) (events : List Event) : Type 0 where
  groups : (id : ℕ) → group id (told_slots start (map said events)) ≡ []
  frames : frames_made (told_slots start (map said events)) ≡ 0
  reports : (readings : List ℕ) → reported start readings events ≡ []

silent_first : (start : ℕ) → Silent start []
unfolding group since frames_made total reported joined each
silent_first start = record { groups = λ id. refl; frames = refl; reports = λ readings. refl }

silent_on : (start : ℕ) (events : List Event) (e : Event) → item (map said events) (said e) ≡ None → Silent start events → Silent start (e ∷ events)
silent_on start events e none s = record {
  groups = λ id. waits_nothing start (map said events) (said e) id none ∙ s.groups id;
  frames = frames_nothing start (map said events) (said e) none ∙ s.frames;
  reports = λ readings. reported_more start readings events e
      ∙ ap (λ (l : List Report). reported start readings events ++ l) (tells_nothing start readings (map said events) (said e) none)
      ∙ append-nil (reported start readings events) ∙ s.reports readings;
}

seat_comes : (start : ℕ) (events : List Event) (e : Event) → item (map said events) (said e) ≡ Some (Free (SeatAdded seat_id)) → Silent start events → Agrees start (e ∷ events) []
unfolding group since frames_made total grouped joined
seat_comes start events e is s = record {
  groups = λ id. waits_free start (map said events) (said e) (SeatAdded seat_id) id is ∙ s.groups id;
  frames = frames_free start (map said events) (said e) (SeatAdded seat_id) is ∙ s.frames;
  reports = λ readings. reported_more start readings events e
      ∙ ap (λ (l : List Report). l ++ tells start readings (map said events) (said e)) (s.reports readings)
      ∙ tells_free start readings (map said events) (said e) (SeatAdded seat_id) is;
}

given_is : (before : List Said) (m : Said) → refusal before m ≡ None → item before m ≡ giving before m
unfolding item
given_is before m h = rw (h, item) refl

seat_told : (start v seat : ℕ) (ps : List (ℕ × KnownInterface)) (past : List Sent) → seat ≡ seat_id → NoneRefused (all_said past) (said_by (map (event.capability v seat) ps ++ (event.seat_done v seat ∷ []))) → Silent start (map event_of past) →
    Agrees start (map event_of (onto (map (event.capability v seat) ps ++ (event.seat_done v seat ∷ [])) past)) []
unfolding said
seat_told start v seat [] past same none s =
    seat_comes start (map event_of past) (event_of (event.seat_done v seat))
    (given_is (all_said past) (SeatDone seat) none.0 ∙ ap (λ (i : ℕ). let o : Option Giving = Some (Free (SeatAdded i)) in o) same) s
seat_told start v seat (p ∷ ps) past same none s =
    let m : Sent = event.capability v seat p in
    seat_told start v seat ps (m ∷ past) same none.1 (silent_on start (map event_of past) (event_of m) (item_other (all_said past) (SeatHas seat (name_of p.1)) refl) s)

new_then : (v seat next : ℕ) (ps : List (ℕ × KnownInterface)) (past : List Sent) → AreNew next (all_said past) → AreNew next (all_said (onto (map (event.capability v seat) ps ++ (event.seat_done v seat ∷ [])) past))
unfolding said
new_then v seat next [] past a = new_quiet next (all_said past) (SeatDone seat) (λ i. refl) a
new_then v seat next (p ∷ ps) past a = new_then v seat next ps (event.capability v seat p ∷ past) (new_quiet next (all_said past) (SeatHas seat (name_of p.1)) (λ i. refl) a)

silent_then : (v seat : ℕ) (ps : List (ℕ × KnownInterface)) (past : List Sent) → NonePings past → NonePings (onto (map (event.capability v seat) ps ++ (event.seat_done v seat ∷ [])) past)
silent_then v seat [] past q = (refl, q)
silent_then v seat (p ∷ ps) past q = silent_then v seat ps (event.capability v seat p ∷ past) (refl, q)

-- ---- the seat

first_serial : (start : ℕ) → start < 2 ^ 32 → start ≡ serial start []
unfolding serial total
first_serial start lt = omega (arith, lt)

first_next : next_device [] ≡ seat_id + 1
unfolding next_device total
first_next = omega arith

none_held : (number : ℕ) → is_held [] number ≡ true → ⊥
unfolding is_held added last_said
none_held number h = absurd cc

pub begins : (start : ℕ) (c left : ConnectionView) → IsFresh c → c.last_serial ≡ start → start < 2 ^ 32 → c.ctx.table.next_own ≡ seat_id → Makes (AddsSeat None all_capabilities) c left →
    Emits start [] left (onto (sent_by (AddsSeat None all_capabilities) c) [])
unfolding said slots
begins start c left fresh last small next made =
    let ms : List Sent = sent_by (AddsSeat None all_capabilities) c in
    let seat : SeatView = record { proxy = new_seat c; capabilities = all_capabilities; released = false } in
    let first : ℕ = c.ctx.table.next_own in
    let v : ℕ = seat_version c in
    let one = act_steady (AddsSeat None all_capabilities) c left (record { steady = tt; made = made }) [] (stands_first c fresh) in
    let m : Sent = event.seat c.proxy first v in
    let a : Agrees start (map event_of (onto ms [])) [] =
    seat_told start v first (offered c all_capabilities) (m ∷ []) next one.0.1 (silent_on start [] (event_of m) (item_other [] (SeatComes first) refl) (silent_first start)) in
    record {
      serial_is = ap (λ (l : ConnectionView). l.last_serial) made.rest ∙ last ∙ first_serial start small;
      next_is =
          let n = ap (λ (e : Endpoint). e.next_own) made.endpoint in
          let f = first_next in
          omega (arith, n, next, f);
      seat = record {
        seat = seat;
        only = ap (λ (l : ConnectionView). l.seats) made.rest ∙ ap (λ (ss : List SeatView). ss ++ (seat ∷ [])) fresh.seats;
        id = next;
        all = refl;
        alive = refl;
      };
      devices = λ number h. absurd (none_held number h);
      stands = subst (λ (l : List Said). StandsWith l left) (sym (said_onto ms [])) one.1;
      told = tells_of start [] (onto ms []) a;
      fresh = subst (λ (i : ℕ). AreNew i (all_said (onto ms []))) (sym (ap (λ (e : Endpoint). e.next_own) made.endpoint))
          (new_then v first (first + 1) (offered c all_capabilities) (m ∷ []) (new_one first [] (SeatComes first) (λ i. refl) (new_first first)));
      silent = silent_then v first (offered c all_capabilities) (m ∷ []) (refl, tt);
    }

-- ---- where nothing is sent

pub rests : (start : ℕ) (before : List Step) (c left : ConnectionView) (past : List Sent) → Emits start before c past → left ≡ record c { ctx = left.ctx } → left.ctx.table.next_own ≡ c.ctx.table.next_own →
    ((id : ℕ) → found left.ctx.table id ≡ found c.ctx.table id) → Emits start before left past
rests start before c left past x rest next same = record {
  serial_is = ap (λ (l : ConnectionView). l.last_serial) rest ∙ x.serial_is;
  next_is = next ∙ x.next_is;
  seat = seat_on c left (ap (λ (l : ConnectionView). l.seats) rest) x.seat;
  devices = λ number h. on (id_in (added before number)) (mask_in (added before number)) (x.devices number h);
  stands = (act_steady Rests c left (record {
    steady = tt;
    made = record {
      next = omega (arith, next);
      stays = λ id k d i. same id;
      no_seat = λ id h. ap is_a_seat (sym (same id)) ∙ h;
      seats = ap (λ (l : ConnectionView). l.seats) rest;
      devices = ap (λ (l : ConnectionView). l.devices) rest;
      proxy = ap (λ (l : ConnectionView). l.proxy) rest;
    };
  }) (all_said past) x.stands).1;
  told = x.told;
  fresh = subst (λ (i : ℕ). AreNew i (all_said past)) (sym next) x.fresh;
  silent = x.silent;
}
  where
    on : (id mask : ℕ) → HoldsDevice id mask c (all_said past) → HoldsDevice id mask left (all_said past)
    on id mask h = record {
      device = h.device;
      held = ap (λ (l : ConnectionView). find (is_device id) l.devices) rest ∙ h.held;
      seat = h.seat;
      interfaces = h.interfaces;
      there = found_on c.ctx.table left.ctx.table h.device.interfaces (λ n e. same n) h.there;
      told = h.told;
    }
