-- A step that removes a device leaves what holds of the server.
use Rattle.std.proofs.Common.{◌≡◌, ℕ, ◌+◌, ◌<◌, ◌≤◌, ◌%◌, ◌^◌, Bool, true, false, cond, eqb, ◌&&◌, ◌||◌, inl, inr, List, [], ◌∷◌, ◌++◌, map, length, Option, Some, None, refl, sym, ap, subst, ◌∙◌, arith}
use Rattle.std.specs.Prelude.{find, not, codes}
use Rattle.std.specs.List.{list_any}
use Rattle.std.specs.FinMap as finite
use Rattle.std.proofs.lemmas.Bool.{ne_eqb}
use Rattle.std.proofs.lemmas.List.{length-append, length-map}
use Rattle.ei_spec.specs.declared.interface.KnownInterface.{KnownInterface}
use Rattle.ei_spec.specs.declared.interface.KnownInterface.TheVariants as known
use Rattle.ei_spec.specs.History.{last_said}
use Rattle.ei_spec.specs.Groups.{Other, Slot, group, with_frame}
use Rattle.ei_spec.specs.Interface.{ObjectView}
use Rattle.ei_spec.specs.Rows.{row_named}
use Rattle.ei_spec.specs.Table.{table}
use Rattle.ei_spec.specs.Value.{Word}
use Rattle.ei_input.specs.declared.input_event.InputEvent.{InputEvent}
use Rattle.ei_session.specs.Setup.{seat_id}
use Rattle.ei_session.specs.Devices.{interfaces_of}
use Rattle.ei_session.specs.Inputs.{is_of_device}
use Rattle.ei_backend.specs.Endpoint.{Endpoint, endpoint_of}
use Rattle.ei_backend.specs.Table.{TableView, found}
use Rattle.ei_ends.specs.Sent.{Sent}
use Rattle.ei_ends.specs.Way.{onto}
use Rattle.ei_reported.specs.Event.{opcode_by}
use Rattle.ei_reported.specs.Said.{Said, DeviceGoes, Goes, said}
use Rattle.ei_reported.specs.Standing.{device_added, seat_of}
use Rattle.ei_reported.specs.Reported.{Device, Plain, Giving, DeviceRemoved, device_of, item, serial as told_serial}
use Rattle.ei_reported.specs.Changes.{moves_device, may_give, brings}
use Rattle.ei_reported.proofs.AfterEachKind.{other_seat_of, other_device_added, seat_of_goes}
use Rattle.ei_reported.proofs.ItemsAndSerials.{item_other, item_device_goes, serial_device_goes}
use Rattle.ei_steady.specs.Steady.{after}
use Rattle.ei_told.specs.Told.{event_of, all_said}
use Rattle.ei_request.specs.Keys.{DeviceKey}
use Rattle.ei_request.specs.Held.{is_device, is_of_key, gone_ids}
use Rattle.ei_request.specs.Connection.{ConnectionView, next_serial}
use Rattle.ei_request.specs.Sending as sending
use Rattle.ei_request.specs.Sending.{serial_after}
use Rattle.ei_acts.specs.Acting.{Makes, sent_by, RemovesDevice}
use Rattle.ei_acts.specs.Acts.{gone_as}
use Rattle.ei_acts.specs.Events as event
use Rattle.ei_acts.specs.Holding.{said_by, StandsWith}
use Rattle.ei_acts.specs.There.{IsThere, IsInTable, AllInterfacesThere}
use Rattle.ei_acts.proofs.Acting.{act_steady, said_onto}
use Rattle.ei_acts.proofs.GoingSteady.{next_all_left}
use Rattle.ei_acts.proofs.Parts.{none_in_both}
use Rattle.ei_acts.proofs.Staying.{all_left_same}
use Rattle.ei_acts.proofs.Steadying.{says_goes, destroyed_is}
use Rattle.ei_emitting.specs.Emitted.{Step, Remove, bits_of, added, is_held, is_bad, id_in, mask_in, steps_on, serial, device_by, slot_with, slots_at, slots}
use Rattle.ei_emitting.specs.Emits.{AreNew, is_connection, is_ping, NonePings, HoldsDevice, Emits, IsKeyOf}
use Rattle.ei_emitting.proofs.Agreeing.{Agrees, quiet, other}
use Rattle.ei_emitting.proofs.Carrying.{agrees_of, tells_of, holds_on, seat_on, seen_as, is_added}
use Rattle.ei_emitting.proofs.Finding.{found_id, key_found, not_of_key, find_without, in_table, ids_in, from_length, in_range, out_of_range}
use Rattle.ei_emitting.proofs.Fresh.{new_quiet}
use Rattle.ei_emitting.proofs.Histories.{next_more, serial_more, Apart, apart, held_added, held_removed}

-- ---- the serials of what goes

pub many_serials : (ids : List ℕ) (s : ℕ) → s < 2 ^ 32 → serial_after s ids ≡ (s + length ids) % 2 ^ 32
many_serials [] s lt = omega (arith, lt)
many_serials (id ∷ ids) s lt =
    let small : next_serial s < 2 ^ 32 = omega arith in
    let step : (next_serial s + length ids) % 2 ^ 32 ≡ (s + length (id ∷ ids)) % 2 ^ 32 = omega arith in
    many_serials ids (next_serial s) small ∙ step

serial_small : (start : ℕ) (before : List Step) → serial start before < 2 ^ 32
unfolding serial
serial_small start before = omega arith

-- ---- what is said of what goes

says_device_goes : (v id n : ℕ) → said (event_of (event.event_to known.Device v id (codes "destroyed") (Word n ∷ []))) ≡ DeviceGoes id n
unfolding said
says_device_goes v id n = refl

goes_one : (t : TableView) (id n : ℕ) (k : KnownInterface) → is_of_device k ≡ true → IsThere t id k → said (event_of (event.destroyed_as (found t id) id n)) ≡ Goes k id n
goes_one t id n k d h = ap (λ (m : Sent). said (event_of m)) (destroyed_is t id n k h) ∙ says_goes k h.object.version id n d

device_goes_one : (t : TableView) (id n : ℕ) → IsThere t id known.Device → said (event_of (event.destroyed_as (found t id) id n)) ≡ DeviceGoes id n
device_goes_one t id n h = ap (λ (m : Sent). said (event_of m)) (destroyed_is t id n known.Device h) ∙ says_device_goes h.object.version id n

no_ping_to : (k : KnownInterface) (opcode : ℕ) → is_of_device k ≡ true → (is_connection k && eqb opcode 3) ≡ false
no_ping_to known.Connection opcode h = absurd cc
no_ping_to k opcode h = refl

-- ---- what a client is told of a device that goes

module _ (start : ℕ) (t : TableView) (d : ℕ) (es : List (Slot InputEvent Plain)) (its : IsThere t d known.Device) where
  abbrev gone_slot : ℕ → Slot InputEvent Plain
  gone_slot n = slot_with n (Some (Other d (DeviceRemoved (device_by d))))

  pub device_goes : (os : List ObjectView) (s : ℕ) (past : List Sent) → AllInterfacesThere t os → device_added (all_said past) d ≡ true → seat_of (all_said past) d ≡ Some seat_id → Agrees start (map event_of past) es →
      Agrees start (map event_of (onto (gone_as (found t) s (ids_in os ++ (d ∷ []))) past)) (gone_slot (serial_after s (ids_in os ++ (d ∷ []))) ∷ es)
  device_goes [] s past there is_in seat a =
      let n : ℕ = next_serial s in
      let m : Sent = event.destroyed_as (found t d) d n in
      let says : said (event_of m) ≡ DeviceGoes d n = device_goes_one t d n its in
      let of : device_of (all_said past) d ≡ device_by d = seen_as (all_said past) d seat in
      let item_is : item (all_said past) (said (event_of m)) ≡ Some (Other d (DeviceRemoved (device_by d))) =
      ap (item (all_said past)) says ∙ item_device_goes (all_said past) d n
      ∙ ap (λ (b : Bool). let o : Option Giving = cond b (Some (Other d (DeviceRemoved (device_of (all_said past) d)))) None in o) is_in
      ∙ ap (λ (v : Device). let o : Option Giving = Some (Other d (DeviceRemoved v)) in o) of in
      let last : told_serial start (said (event_of m) ∷ all_said past) ≡ n = ap (λ (x : Said). told_serial start (x ∷ all_said past)) says ∙ serial_device_goes start (all_said past) d n in
      other start (map event_of past) es (event_of m) d n (DeviceRemoved (device_by d)) item_is of (λ time. ap (λ (k : ℕ). with_frame {Y = Plain} (group d es) d k time) last) a
  device_goes (o ∷ os) s past there is_in seat a =
      let n : ℕ = next_serial s in
      let m : Sent = event.destroyed_as (found t o.id) o.id n in
      let k : KnownInterface = there.0.interface in
      let says : said (event_of m) ≡ Goes k o.id n = goes_one t o.id n k there.0.of_device there.0.there in
      let moves : moves_device (said (event_of m)) ≡ false = ap moves_device says in
      device_goes os n (m ∷ past) there.1 (other_device_added (all_said past) (said (event_of m)) d moves ∙ is_in) (other_seat_of (all_said past) (said (event_of m)) d moves ∙ seat)
      (quiet start (map event_of past) es (event_of m) (item_other (all_said past) (said (event_of m)) (ap may_give says)) a)

  -- the seats of other devices stay
  pub seats_after : (os : List ObjectView) (s : ℕ) (past : List Sent) (id : ℕ) → AllInterfacesThere t os → seat_of (all_said (onto (gone_as (found t) s (ids_in os ++ (d ∷ []))) past)) id ≡ seat_of (all_said past) id
  seats_after [] s past id there =
      let n : ℕ = next_serial s in
      let m : Sent = event.destroyed_as (found t d) d n in
      ap (λ (x : Said). seat_of (x ∷ all_said past) id) (device_goes_one t d n its) ∙ seat_of_goes (all_said past) d n id
  seats_after (o ∷ os) s past id there =
      let n : ℕ = next_serial s in
      let m : Sent = event.destroyed_as (found t o.id) o.id n in
      let moves : moves_device (said (event_of m)) ≡ false = ap moves_device (goes_one t o.id n there.0.interface there.0.of_device there.0.there) in
      seats_after os n (m ∷ past) id there.1 ∙ other_seat_of (all_said past) (said (event_of m)) id moves

  -- it brings nothing, and is no ping
  pub new_after : (next : ℕ) (os : List ObjectView) (s : ℕ) (past : List Sent) → AllInterfacesThere t os → AreNew next (all_said past) → AreNew next (all_said (onto (gone_as (found t) s (ids_in os ++ (d ∷ []))) past))
  new_after next [] s past there a =
      let n : ℕ = next_serial s in
      new_quiet next (all_said past) (said (event_of (event.destroyed_as (found t d) d n))) (λ id. ap (brings id) (device_goes_one t d n its)) a
  new_after next (o ∷ os) s past there a =
      let n : ℕ = next_serial s in
      let m : Sent = event.destroyed_as (found t o.id) o.id n in
      new_after next os n (m ∷ past) there.1 (new_quiet next (all_said past) (said (event_of m)) (λ id. ap (brings id) (goes_one t o.id n there.0.interface there.0.of_device there.0.there)) a)

  pub silent_after : (os : List ObjectView) (s : ℕ) (past : List Sent) → AllInterfacesThere t os → NonePings past → NonePings (onto (gone_as (found t) s (ids_in os ++ (d ∷ []))) past)
  silent_after [] s past there p = (ap is_ping (destroyed_is t d (next_serial s) known.Device its), p)
  silent_after (o ∷ os) s past there p =
      let n : ℕ = next_serial s in
      let k : KnownInterface = there.0.interface in
      let no : is_ping (event.destroyed_as (found t o.id) o.id n) ≡ false = ap is_ping (destroyed_is t o.id n k there.0.there) ∙ no_ping_to k (opcode_by (row_named (codes "destroyed") (table true k))) there.0.of_device in
      silent_after os n (event.destroyed_as (found t o.id) o.id n ∷ past) there.1 (no, p)

-- ---- the step

not_not : (b : Bool) → not b ≡ false → b ≡ true
not_not true h = refl
not_not false h = absurd cc

module _ (start : ℕ) (before : List Step) (c left : ConnectionView) (past : List Sent) (number : ℕ) (key : DeviceKey) (x : Emits start before c past) (held : is_held before number ≡ true)
    (k : IsKeyOf before number key) (made : Makes (RemovesDevice key) c left) where
  abbrev id : ℕ
  id = id_in (added before number)

  abbrev mask : ℕ
  mask = mask_in (added before number)

  pub h : HoldsDevice id mask c (all_said past)
  h = x.devices number held

  abbrev os : List ObjectView
  os = h.device.interfaces

  abbrev ids : List ℕ
  ids = ids_in os ++ (id ∷ [])

  its_id : h.device.device.proxy.id ≡ id
  its_id = found_id id c.devices h.device h.held

  found_key : find (is_of_key key) c.devices ≡ Some h.device
  found_key = key_found key c.devices h.device (h.seat ∙ sym k.seat) (ap (λ (i : ℕ). find (is_device i) c.devices) k.device ∙ h.held)

  gone_is : gone_ids (find (is_of_key key) c.devices) ≡ ids
  gone_is = ap gone_ids found_key ∙ ap (λ (i : ℕ). ids_in os ++ (i ∷ [])) its_id

  in_it : IsInTable c.ctx.table h.device
  in_it = in_table c.ctx.table id c.devices h.device x.stands.there.devices h.held

  there : IsThere c.ctx.table id known.Device
  there = subst (λ (i : ℕ). IsThere c.ctx.table i known.Device) its_id in_it.device

  ids_length : length ids ≡ 1 + bits_of mask
  ids_length =
      let a = length-append (ids_in os) (id ∷ []) in
      let b = length-map os (λ (o : ObjectView). o.id) in
      let f = from_length (id + 1) (interfaces_of mask) os h.interfaces in
      omega (arith, a, b, f)

  serial_is : serial_after c.last_serial ids ≡ serial start (Remove number ∷ before)
  unfolding steps_on
  serial_is =
      ap (λ (n : ℕ). serial_after n ids) x.serial_is ∙ many_serials ids (serial start before) (serial_small start before)
      ∙ ap (λ (n : ℕ). (serial start before + n) % 2 ^ 32) ids_length ∙ sym (serial_more start before (Remove number))

  abbrev ms : List Sent
  ms = gone_as (found c.ctx.table) c.last_serial ids

  sent_is : sent_by (RemovesDevice key) c ≡ ms
  sent_is = ap (λ (l : List ℕ). gone_as (found c.ctx.table) c.last_serial l) gone_is

  told_all : Agrees start (map event_of (onto ms past)) (slot_with (serial start (Remove number ∷ before)) (Some (Other id (DeviceRemoved (device_by id)))) ∷ slots start before)
  told_all = subst (λ (n : ℕ). Agrees start (map event_of (onto ms past)) (slot_with n (Some (Other id (DeviceRemoved (device_by id)))) ∷ slots start before)) serial_is
      (device_goes start c.ctx.table id (slots start before) there os c.last_serial past in_it.interfaces (is_added id mask c (all_said past) x.stands h) h.told (agrees_of start before past x.told))

  next_same : left.ctx.table.next_own ≡ c.ctx.table.next_own
  next_same = ap (λ (p : Endpoint). p.next_own) made.endpoint ∙ next_all_left (endpoint_of c.ctx) c.last_serial (gone_ids (find (is_of_key key) c.devices))

  -- what is found of an id that doesn't go
  still : (n : ℕ) → list_any (eqb n) ids ≡ false → found left.ctx.table n ≡ found c.ctx.table n
  still n e =
      ap (λ (p : Endpoint). finite.get p.objects n) made.endpoint
      ∙ ap (λ (l : List ℕ). finite.get (sending.destroys_all (endpoint_of c.ctx) c.last_serial l).objects n) gone_is
      ∙ all_left_same (endpoint_of c.ctx) c.last_serial ids n e

  -- another device stays
  module _ (j : ℕ) (other_one : eqb number j ≡ false) (held_j : is_held before j ≡ true) where
    abbrev id_j : ℕ
    id_j = id_in (added before j)

    abbrev mask_j : ℕ
    mask_j = mask_in (added before j)

    g : HoldsDevice id_j mask_j c (all_said past)
    g = x.devices j held_j

    ranges : Apart (id, mask) (id_j, mask_j)
    ranges =
        let a = held_added before number held in
        let b = held_added before j held_j in
        let p : Apart a.0 b.0 = apart before number j a.0 b.0 other_one a.1 b.1 in
        let at : (o q : Option (ℕ × ℕ)) → Some a.0 ≡ o → Some b.0 ≡ q → Apart (id_in o, mask_in o) (id_in q, mask_in q) = λ o q e f. subst (λ (r : Option (ℕ × ℕ)). Apart (id_in o, mask_in o) (id_in r, mask_in r)) f (subst (λ (r : Option (ℕ × ℕ)). Apart (id_in r, mask_in r) b.0) e p) in
        at (added before number) (added before j) (sym a.1) (sym b.1)

    outside : (n : ℕ) → list_any (eqb n) (ids_in g.device.interfaces) ≡ true → list_any (eqb n) ids ≡ false
    outside n e =
        let r = in_range (id_j + 1) n (interfaces_of mask_j) g.device.interfaces g.interfaces e in
        none_in_both n (ids_in os) (id ∷ [])
        (out_of_range (id + 1) n (interfaces_of mask) os h.interfaces (λ q. by ranges r.0 r.1 q.0 q.1))
        (ap (λ (b : Bool). b || false) (ne_eqb n id (λ same. at ranges r.0 r.1 same)))
      where
        by : Apart (id, mask) (id_j, mask_j) → id_j + 1 ≤ n → n < id_j + 1 + length (interfaces_of mask_j) → id + 1 ≤ n → n < id + 1 + length (interfaces_of mask) → ⊥
        by (inl p) l u a b = omega (arith, p, l, u, a, b)
        by (inr p) l u a b = omega (arith, p, l, u, a, b)

        at : Apart (id, mask) (id_j, mask_j) → id_j + 1 ≤ n → n < id_j + 1 + length (interfaces_of mask_j) → n ≡ id → ⊥
        at (inl p) l u same = omega (arith, p, l, u, same)
        at (inr p) l u same = omega (arith, p, l, u, same)

    not_it : is_of_key key g.device ≡ false
    not_it =
        let i = found_id id_j c.devices g.device g.held in
        not_of_key key g.device (ne_eqb g.device.device.proxy.id key.proxy.id (λ same. by ranges (sym i ∙ same ∙ k.device)))
      where
        by : Apart (id, mask) (id_j, mask_j) → id_j ≡ id → ⊥
        by (inl p) same = omega (arith, p, same)
        by (inr p) same = omega (arith, p, same)

    stays : HoldsDevice id_j mask_j left (all_said (onto ms past))
    stays = holds_on id_j mask_j c left (all_said past) (all_said (onto ms past)) g g.device
        (ap (λ (l : ConnectionView). find (is_device id_j) l.devices) made.rest ∙ find_without (is_of_key key) id_j c.devices g.device g.held not_it)
        (record { device = refl; interfaces = refl }) (λ n e. still n (outside n e))
        (seats_after start c.ctx.table id (slots start before) there os c.last_serial past id_j in_it.interfaces)

  pub removed : Emits start (Remove number ∷ before) left (onto ms past)
  unfolding added last_said slots slots_at
  removed = record {
    serial_is = ap (λ (l : ConnectionView). l.last_serial) made.rest ∙ ap (serial_after c.last_serial) gone_is ∙ serial_is;
    next_is =
        let n = next_same in
        let here = x.next_is in
        let more = next_more before (Remove number) in
        omega (arith, n, here, more);
    seat = seat_on c left (ap (λ (l : ConnectionView). l.seats) made.rest) x.seat;
    devices = λ j e. let p = held_removed before number j e in stays j p.0 p.1;
    stands = subst (λ (l : List Said). StandsWith l left) (sym (said_onto ms past)) (subst (λ (l : List Sent). StandsWith (after (all_said past) (said_by l)) left) sent_is
        (act_steady (RemovesDevice key) c left (record { steady = tt; made = made }) (all_said past) x.stands).1);
    told = tells_of start (Remove number ∷ before) (onto ms past) told_all;
    fresh = subst (λ (i : ℕ). AreNew i (all_said (onto ms past))) (sym next_same) (new_after start c.ctx.table id (slots start before) there c.ctx.table.next_own os c.last_serial past in_it.interfaces x.fresh);
    silent = silent_after start c.ctx.table id (slots start before) there os c.last_serial past in_it.interfaces x.silent;
  }

pub removes : (start : ℕ) (before : List Step) (c left : ConnectionView) (past : List Sent) (number : ℕ) (key : DeviceKey) → Emits start before c past → is_bad before (Remove number) ≡ false →
    IsKeyOf before number key → Makes (RemovesDevice key) c left → Emits start (Remove number ∷ before) left (onto (sent_by (RemovesDevice key) c) past)
unfolding is_bad
removes start before c left past number key x bad k made =
    let held : is_held before number ≡ true = not_not (is_held before number) bad in
    subst (λ (l : List Sent). Emits start (Remove number ∷ before) left (onto l past)) (sym (sent_is start before c left past number key x held k made)) (removed start before c left past number key x held k made)
