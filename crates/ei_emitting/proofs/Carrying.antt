-- A step by which a device tells something leaves what holds of the server.
use Rattle.std.proofs.Common.{◌≡◌, ℕ, ◌+◌, ◌%◌, ◌^◌, Bool, true, false, cond, eqb, List, [], ◌∷◌, map, Option, Some, refl, sym, ap, subst, ◌∙◌, arith}
use Rattle.std.specs.Prelude.{is_some, not, find, unwrap_or, codes}
use Rattle.std.specs.List.{list_any}
use Rattle.std.proofs.lemmas.Bool.{eq-eqb}
use Rattle.std.proofs.lemmas.Option.{same_Some}
use Rattle.ei_spec.specs.History.{last_said, occurs}
use Rattle.ei_spec.specs.Interface.{ObjectView}
use Rattle.ei_spec.specs.Value.{Word, Long}
use Rattle.ei_session.specs.Setup.{seat_id}
use Rattle.ei_session.specs.Devices.{interfaces_of}
use Rattle.ei_backend.specs.Table.{TableView, found}
use Rattle.ei_ends.specs.Sent.{Sent}
use Rattle.ei_ends.specs.Way.{onto}
use Rattle.ei_reported.specs.Said.{Told as Telling, Resumed, Paused, StartEmulating, StopEmulating, Frame as Framing, Said, DeviceTells, said}
use Rattle.ei_reported.specs.Standing.{device_added, seat_of}
use Rattle.ei_reported.specs.Reported.{Device, device_of, telling}
use Rattle.ei_reported.specs.Changes.{moves_device, brings}
use Rattle.ei_reported.proofs.AfterEachKind.{other_seat_of}
use Rattle.ei_told.specs.Told.{event_of, all_said}
use Rattle.ei_request.specs.Keys.{DeviceKey}
use Rattle.ei_request.specs.Held.{DeviceView, is_device, is_of_key, changed_first, untouched}
use Rattle.ei_request.specs.Connection.{ConnectionView, next_serial}
use Rattle.ei_acts.specs.Events as event
use Rattle.ei_acts.specs.Holding.{StandsWith}
use Rattle.ei_acts.specs.Acting.{Makes, sent_by, Resumes, Pauses, StartsEmulating, StopsEmulating, EndsFrame}
use Rattle.ei_acts.proofs.Acting.{act_steady}
use Rattle.ei_acts.proofs.Holds.{IsSameDevice}
use Rattle.ei_acts.proofs.Parts.{or_first, or_last}
use Rattle.ei_acts.proofs.Steadying.{untouched_same}
use Rattle.ei_emitting.specs.Emitted.{Step, Start, Stop, Pause, Resume, Frame, takes_ids, next_device, added, is_held, is_bad, id_in, mask_in, steps_on, serial, device_by, slot_with, slots_at, slots, emitted}
use Rattle.ei_emitting.specs.Emits.{AreNew, is_ping, HasSeat, AreFrom, AllFound, HoldsDevice, Tells, Emits, IsKeyOf}
use Rattle.ei_emitting.proofs.Agreeing.{Agrees, told}
use Rattle.ei_emitting.proofs.Fresh.{new_quiet}
use Rattle.ei_emitting.proofs.Histories.{next_more, serial_more}

-- ---- what was told

pub agrees_of : (start : ℕ) (before : List Step) (past : List Sent) → Tells start before past → Agrees start (map event_of past) (slots start before)
unfolding emitted
agrees_of start before past t = record { groups = t.groups; frames = t.frames; reports = t.reports }

pub tells_of : (start : ℕ) (before : List Step) (past : List Sent) → Agrees start (map event_of past) (slots start before) → Tells start before past
unfolding emitted
tells_of start before past a = record { groups = a.groups; frames = a.frames; reports = a.reports }

-- ---- what is held

pub found_on : (t u : TableView) (os : List ObjectView) → ((n : ℕ) → list_any (eqb n) (map (λ (o : ObjectView). o.id) os) ≡ true → found u n ≡ found t n) → AllFound t os → AllFound u os
found_on t u [] h a = tt
found_on t u (o ∷ os) h a = (
  h o.id (or_first (eqb o.id o.id) (list_any (eqb o.id) (map (λ (p : ObjectView). p.id) os)) (eq-eqb o.id o.id refl)) ∙ a.0,
  found_on t u os (λ n e. h n (or_last (eqb n o.id) (list_any (eqb n) (map (λ (p : ObjectView). p.id) os)) e)) a.1,
)

-- the same device is held with the same interfaces, which stay in the table
pub holds_on : (id mask : ℕ) (c left : ConnectionView) (s t : List Said) (h : HoldsDevice id mask c s) (e : DeviceView) → find (is_device id) left.devices ≡ Some e → IsSameDevice h.device e →
    ((n : ℕ) → list_any (eqb n) (map (λ (o : ObjectView). o.id) h.device.interfaces) ≡ true → found left.ctx.table n ≡ found c.ctx.table n) → seat_of t id ≡ seat_of s id → HoldsDevice id mask left t
holds_on id mask c left s t h e f same stay seat = record {
  device = e;
  held = f;
  seat = ap (λ (k : DeviceKey). k.seat.id) same.device ∙ h.seat;
  interfaces = subst (AreFrom (id + 1) (interfaces_of mask)) (sym same.interfaces) h.interfaces;
  there = subst (AllFound left.ctx.table) (sym same.interfaces) (found_on c.ctx.table left.ctx.table h.device.interfaces stay h.there);
  told = seat ∙ h.told;
}

pub seat_on : (c left : ConnectionView) → left.seats ≡ c.seats → HasSeat c → HasSeat left
seat_on c left e h = record { seat = h.seat; only = e ∙ h.only; id = h.id; all = h.all; alive = h.alive }

-- where a device is found it still is, with other touches
find_untouched : (test : DeviceView → Bool) (id : ℕ) (ds : List DeviceView) (d : DeviceView) → find (is_device id) ds ≡ Some d → (e : DeviceView) × (find (is_device id) (changed_first test untouched ds) ≡ Some e) × IsSameDevice d e
find_untouched test id [] d h = absurd cc
find_untouched test id (x ∷ ds) d h = by (test x) (is_device id x) refl h (find_untouched test id ds d)
  where
    by : (b p : Bool) → is_device id x ≡ p → cond p (Some x) (find (is_device id) ds) ≡ Some d →
        (find (is_device id) ds ≡ Some d → (e : DeviceView) × (find (is_device id) (changed_first test untouched ds) ≡ Some e) × IsSameDevice d e) →
        (e : DeviceView) × (find (is_device id) (cond b (untouched x ∷ ds) (x ∷ changed_first test untouched ds)) ≡ Some e) × IsSameDevice d e
    by true true e f next =
        (untouched x, ap (λ (q : Bool). cond q (Some (untouched x)) (find (is_device id) ds)) e, subst (λ (y : DeviceView). IsSameDevice y (untouched x)) (same_Some x d f) (untouched_same x))
    by true false e f next = (d, ap (λ (q : Bool). cond q (Some (untouched x)) (find (is_device id) ds)) e ∙ f, record { device = refl; interfaces = refl })
    by false true e f next =
        (x, ap (λ (q : Bool). cond q (Some x) (find (is_device id) (changed_first test untouched ds))) e, subst (λ (y : DeviceView). IsSameDevice y x) (same_Some x d f) (record { device = refl; interfaces = refl }))
    by false false e f next = let r = next f in (r.0, ap (λ (q : Bool). cond q (Some x) (find (is_device id) (changed_first test untouched ds))) e ∙ r.1, r.2)

-- the devices that are found are the same
abbrev pub SameFound : ConnectionView → ConnectionView → Type 0
SameFound c left = (id : ℕ) (d : DeviceView) → find (is_device id) c.devices ≡ Some d → (e : DeviceView) × (find (is_device id) left.devices ≡ Some e) × IsSameDevice d e

pub same_found : (c left : ConnectionView) → left.devices ≡ c.devices → SameFound c left
same_found c left e id d f = (d, ap (find (is_device id)) e ∙ f, record { device = refl; interfaces = refl })

-- ---- a device that is held

pub seen_as : (before : List Said) (id : ℕ) → seat_of before id ≡ Some seat_id → device_of before id ≡ device_by id
seen_as before id e = ap (λ (o : Option ℕ). let d : Device = record { seat = unwrap_or o 0; id = id } in d) e

pub is_added : (id mask : ℕ) (c : ConnectionView) (before : List Said) → StandsWith before c → HoldsDevice id mask c before → device_added before id ≡ true
is_added id mask c before s h = (s.stands.devices id (ap is_some h.held)).1

-- ---- a step that adds and removes nothing

-- it leaves which devices there are, and their ids
pub record IsCalm (before : List Step) (step : Step) : Type 0 where
  pub same_held : (number : ℕ) → is_held (step ∷ before) number ≡ is_held before number
  pub same_added : (number : ℕ) → added (step ∷ before) number ≡ added before number
  pub no_ids : takes_ids step ≡ 0

module _ (start : ℕ) (before : List Step) (c left : ConnectionView) (past : List Sent) (x : Emits start before c past) (step : Step) (calm : IsCalm before step) (m : Sent)
    (same : SameFound c left) (table : left.ctx.table ≡ c.ctx.table) (seats : left.seats ≡ c.seats) (moves : moves_device (said (event_of m)) ≡ false) (brings_none : (id : ℕ) → brings id (said (event_of m)) ≡ false) (no_ping : is_ping m ≡ false)
    (last : left.last_serial ≡ serial start (step ∷ before)) (stands : StandsWith (all_said (m ∷ past)) left) where
  next_same : left.ctx.table.next_own ≡ next_device (step ∷ before)
  next_same =
      let here = ap (λ (t : TableView). t.next_own) table ∙ x.next_is in
      let more = next_more before step in
      let none = calm.no_ids in
      omega (arith, here, more, none)

  devices_on : (number : ℕ) → is_held (step ∷ before) number ≡ true → HoldsDevice (id_in (added (step ∷ before) number)) (mask_in (added (step ∷ before) number)) left (all_said (m ∷ past))
  devices_on number h =
      let d : HoldsDevice (id_in (added before number)) (mask_in (added before number)) c (all_said past) = x.devices number (sym (calm.same_held number) ∙ h) in
      let f = same (id_in (added before number)) d.device d.held in
      let on : HoldsDevice (id_in (added before number)) (mask_in (added before number)) left (all_said (m ∷ past)) =
      holds_on (id_in (added before number)) (mask_in (added before number)) c left (all_said past) (all_said (m ∷ past)) d f.0 f.1 f.2 (λ n e. ap (λ (t : TableView). found t n) table)
      (other_seat_of (all_said past) (said (event_of m)) (id_in (added before number)) moves) in
      subst (λ (o : Option (ℕ × ℕ)). HoldsDevice (id_in o) (mask_in o) left (all_said (m ∷ past))) (sym (calm.same_added number)) on

  pub carried : Agrees start (map event_of (m ∷ past)) (slots start (step ∷ before)) → Emits start (step ∷ before) left (m ∷ past)
  carried a = record {
    serial_is = last;
    next_is = next_same;
    seat = seat_on c left seats x.seat;
    devices = devices_on;
    stands = stands;
    told = tells_of start (step ∷ before) (m ∷ past) a;
    fresh = subst (λ (n : ℕ). AreNew n (all_said (m ∷ past))) (sym (ap (λ (t : TableView). t.next_own) table)) (new_quiet c.ctx.table.next_own (all_said past) (said (event_of m)) brings_none x.fresh);
    silent = (no_ping, x.silent);
  }

-- ---- a step by which a device tells something

pub one_serial : (start : ℕ) (before : List Step) (step : Step) (last : ℕ) → last ≡ serial start before → steps_on before step ≡ 1 → next_serial last ≡ serial start (step ∷ before)
one_serial start before step last e one = ap next_serial e ∙ sym (serial_more start before step ∙ ap (λ (k : ℕ). (serial start before + k) % 2 ^ 32) one)

module _ (start : ℕ) (before : List Step) (c left : ConnectionView) (past : List Sent) (x : Emits start before c past) (number : ℕ) (held : is_held before number ≡ true) where
  abbrev it : ℕ
  it = id_in (added before number)

  pub tells_on : (step : Step) → IsCalm before step → (m : Sent) (t : Telling) → steps_on before step ≡ 1 →
      slots start (step ∷ before) ≡ slot_with (serial start (step ∷ before)) (Some (telling (device_by it) (serial start (step ∷ before)) t)) ∷ slots start before →
      said (event_of m) ≡ DeviceTells it (next_serial c.last_serial) t → SameFound c left → left.ctx.table ≡ c.ctx.table → left.seats ≡ c.seats → left.last_serial ≡ next_serial c.last_serial →
      is_ping m ≡ false → StandsWith (all_said (m ∷ past)) left → Emits start (step ∷ before) left (m ∷ past)
  tells_on step calm m t one slot is same table seats last ping stands =
      let n : ℕ = serial start (step ∷ before) in
      let next : next_serial c.last_serial ≡ n = one_serial start before step c.last_serial x.serial_is one in
      let d : HoldsDevice it (mask_in (added before number)) c (all_said past) = x.devices number held in
      let says : said (event_of m) ≡ DeviceTells it n t = is ∙ ap (λ (k : ℕ). DeviceTells it k t) next in
      let a : Agrees start (map event_of (m ∷ past)) (slot_with n (Some (telling (device_by it) n t)) ∷ slots start before) =
      told start (map event_of past) (slots start before) (event_of m) it n t says (is_added it (mask_in (added before number)) c (all_said past) x.stands d) (seen_as (all_said past) it d.told) (agrees_of start before past x.told) in
      carried start before c left past x step calm m same table seats (ap moves_device is) (λ id. ap (brings id) is) ping (last ∙ next) stands
      (subst (Agrees start (map event_of (m ∷ past))) (sym slot) a)

not_not : (b : Bool) → not b ≡ false → b ≡ true
not_not true h = refl
not_not false h = absurd cc

pub starts : (start : ℕ) (before : List Step) (c left : ConnectionView) (past : List Sent) (number sequence : ℕ) (key : DeviceKey) (device : ObjectView) → Emits start before c past →
    is_bad before (Start number sequence) ≡ false → IsKeyOf before number key → Makes (StartsEmulating key device sequence) c left →
    Emits start (Start number sequence ∷ before) left (onto (sent_by (StartsEmulating key device sequence) c) past)
unfolding said is_bad is_held added last_said occurs steps_on slots slots_at
starts start before c left past number sequence key device x bad k made =
    tells_on start before c left past x number (not_not (is_held before number) bad) (Start number sequence) (record { same_held = λ n. refl; same_added = λ n. refl; no_ids = refl })
    (event.to_device device.version device.id (codes "start_emulating") (Word (next_serial c.last_serial) ∷ Word sequence ∷ [])) (StartEmulating sequence) refl refl
    (ap (λ (i : ℕ). DeviceTells i (next_serial c.last_serial) (StartEmulating sequence)) (made.0.same ∙ k.device))
    (same_found c left (ap (λ (l : ConnectionView). l.devices) made.1)) (ap (λ (l : ConnectionView). l.ctx.table) made.1) (ap (λ (l : ConnectionView). l.seats) made.1) (ap (λ (l : ConnectionView). l.last_serial) made.1) refl
    (act_steady (StartsEmulating key device sequence) c left (record { steady = tt; made = made }) (all_said past) x.stands).1

pub stops : (start : ℕ) (before : List Step) (c left : ConnectionView) (past : List Sent) (number : ℕ) (key : DeviceKey) (device : ObjectView) → Emits start before c past →
    is_bad before (Stop number) ≡ false → IsKeyOf before number key → Makes (StopsEmulating key device) c left →
    Emits start (Stop number ∷ before) left (onto (sent_by (StopsEmulating key device) c) past)
unfolding said is_bad is_held added last_said occurs steps_on slots slots_at
stops start before c left past number key device x bad k made =
    tells_on start before c left past x number (not_not (is_held before number) bad) (Stop number) (record { same_held = λ n. refl; same_added = λ n. refl; no_ids = refl })
    (event.to_device device.version device.id (codes "stop_emulating") (Word (next_serial c.last_serial) ∷ [])) StopEmulating refl refl
    (ap (λ (i : ℕ). DeviceTells i (next_serial c.last_serial) StopEmulating) (made.0.same ∙ k.device))
    (same_found c left (ap (λ (l : ConnectionView). l.devices) made.1)) (ap (λ (l : ConnectionView). l.ctx.table) made.1) (ap (λ (l : ConnectionView). l.seats) made.1) (ap (λ (l : ConnectionView). l.last_serial) made.1) refl
    (act_steady (StopsEmulating key device) c left (record { steady = tt; made = made }) (all_said past) x.stands).1

pub resumes : (start : ℕ) (before : List Step) (c left : ConnectionView) (past : List Sent) (number : ℕ) (key : DeviceKey) (device : ObjectView) → Emits start before c past →
    is_bad before (Resume number) ≡ false → IsKeyOf before number key → Makes (Resumes key device) c left →
    Emits start (Resume number ∷ before) left (onto (sent_by (Resumes key device) c) past)
unfolding said is_bad is_held added last_said occurs steps_on slots slots_at
resumes start before c left past number key device x bad k made =
    tells_on start before c left past x number (not_not (is_held before number) bad) (Resume number) (record { same_held = λ n. refl; same_added = λ n. refl; no_ids = refl })
    (event.to_device device.version device.id (codes "resumed") (Word (next_serial c.last_serial) ∷ [])) Resumed refl refl
    (ap (λ (i : ℕ). DeviceTells i (next_serial c.last_serial) Resumed) (made.0.same ∙ k.device))
    (same_found c left (ap (λ (l : ConnectionView). l.devices) made.1)) (ap (λ (l : ConnectionView). l.ctx.table) made.1) (ap (λ (l : ConnectionView). l.seats) made.1) (ap (λ (l : ConnectionView). l.last_serial) made.1) refl
    (act_steady (Resumes key device) c left (record { steady = tt; made = made }) (all_said past) x.stands).1

pub frames : (start : ℕ) (before : List Step) (c left : ConnectionView) (past : List Sent) (number time : ℕ) (key : DeviceKey) (device : ObjectView) → Emits start before c past →
    is_bad before (Frame number time) ≡ false → IsKeyOf before number key → Makes (EndsFrame key device time) c left →
    Emits start (Frame number time ∷ before) left (onto (sent_by (EndsFrame key device time) c) past)
unfolding said is_bad is_held added last_said occurs steps_on slots slots_at
frames start before c left past number time key device x bad k made =
    tells_on start before c left past x number (not_not (is_held before number) bad) (Frame number time) (record { same_held = λ n. refl; same_added = λ n. refl; no_ids = refl })
    (event.to_device device.version device.id (codes "frame") (Word (next_serial c.last_serial) ∷ Long time ∷ [])) (Framing time) refl refl
    (ap (λ (i : ℕ). DeviceTells i (next_serial c.last_serial) (Framing time)) (made.0.same ∙ k.device))
    (same_found c left (ap (λ (l : ConnectionView). l.devices) made.1)) (ap (λ (l : ConnectionView). l.ctx.table) made.1) (ap (λ (l : ConnectionView). l.seats) made.1) (ap (λ (l : ConnectionView). l.last_serial) made.1) refl
    (act_steady (EndsFrame key device time) c left (record { steady = tt; made = made }) (all_said past) x.stands).1

pub pauses : (start : ℕ) (before : List Step) (c left : ConnectionView) (past : List Sent) (number : ℕ) (key : DeviceKey) (device : ObjectView) → Emits start before c past →
    is_bad before (Pause number) ≡ false → IsKeyOf before number key → Makes (Pauses key device) c left →
    Emits start (Pause number ∷ before) left (onto (sent_by (Pauses key device) c) past)
unfolding said is_bad is_held added last_said occurs steps_on slots slots_at
pauses start before c left past number key device x bad k made =
    tells_on start before c left past x number (not_not (is_held before number) bad) (Pause number) (record { same_held = λ n. refl; same_added = λ n. refl; no_ids = refl })
    (event.to_device device.version device.id (codes "paused") (Word (next_serial c.last_serial) ∷ [])) Paused refl refl
    (ap (λ (i : ℕ). DeviceTells i (next_serial c.last_serial) Paused) (made.0.same ∙ k.device))
    (λ id d f.
    let r = find_untouched (is_of_key key) id c.devices d f in
    (r.0, ap (λ (l : ConnectionView). find (is_device id) l.devices) made.1 ∙ r.1, r.2))
    (ap (λ (l : ConnectionView). l.ctx.table) made.1) (ap (λ (l : ConnectionView). l.seats) made.1) (ap (λ (l : ConnectionView). l.last_serial) made.1) refl
    (act_steady (Pauses key device) c left (record { steady = tt; made = made }) (all_said past) x.stands).1
