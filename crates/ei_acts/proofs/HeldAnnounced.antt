-- What a connection holds was announced, and stays so at each act.
use Rattle.std.proofs.Common.{◌≡◌, ℕ, Bool, true, false, cond, eqb, List, [], ◌∷◌, ◌++◌, map, Option, Some, None, refl, sym, ap, subst, ◌∙◌}
use Rattle.std.specs.Prelude.{is_some, find, not}
use Rattle.std.proofs.lemmas.Bool.{and_parts, eqb-true}
use Rattle.std.specs.List.{filter}
use Rattle.ei_spec.specs.declared.interface.KnownInterface.{KnownInterface}
use Rattle.ei_spec.specs.declared.interface.KnownInterface.TheVariants as known
use Rattle.ei_spec.specs.Interface.{Interface, Known, Other, ObjectView}
use Rattle.ei_input.specs.declared.input_event.InputEvent.{InputEvent}
use Rattle.ei_session.specs.Meaning.{Meaning, Shakes, Syncs, Disconnects, Pongs, ReleasesSeat, Binds, RequestsDevice, Closes, Starts, Stops, Frames, Readies, Releases, Inputs}
use Rattle.ei_ends.specs.Sent.{Sent, New}
use Rattle.ei_ends.specs.Announced.{announced}
use Rattle.ei_ends.proofs.Known.{announced_more}
use Rattle.ei_ends.specs.Way.{onto, End, seen_by}
use Rattle.ei_request.specs.declared.event.EisRequest.{EisRequest}
use Rattle.ei_request.specs.Keys.{DeviceKey}
use Rattle.ei_request.specs.Held.{SeatView, DeviceView, is_device, is_seat, is_of_key, is_of_seat, has_interface, changed_first, without_first, without_interface, released, untouched, emptied, takes_input}
use Rattle.ei_request.specs.Held.{device_ids, gone_ids, all_device_ids, seat_ids, gone_with_seat, all_seat_ids}
use Rattle.ei_request.specs.Connection.{ConnectionView, holds_device}
use Rattle.ei_request.specs.Converter.{ConverterView}
use Rattle.ei_request.specs.Making.{granted_at, new_seat, new_device}
use Rattle.ei_request.specs.Removing.{devices_left}
use Rattle.ei_request.specs.Handling as handling
use Rattle.ei_acts.specs.Holding.{is_a_seat, is_seat_interface, is_destroyed, is_destroyed_as, may_go, AllGoAs}
use Rattle.ei_acts.specs.There.{IsThere}
use Rattle.ei_acts.specs.Sendable.{AnnouncesIt, announced_in, is_a_device, is_device_interface, DeviceGoes, AllDevicesGo, AllSeatsGo, HoldsAnnounced, IsEndOf}
use Rattle.ei_acts.specs.Acting as act
use Rattle.ei_acts.specs.Acting.{Act, Makes, IsFresh}
use Rattle.ei_acts.proofs.Holds.{IsSameDevice, input_same}
use Rattle.ei_acts.proofs.AnnouncedThere.{announced_id, table_announces, device_may}
use Rattle.ei_acts.proofs.AsAnnounced.{go_as_there}
use Rattle.ei_acts.proofs.Parts.{not_both}
use Rattle.ei_acts.proofs.Steadying.{untouched_same, emptied_same, seat_now}
use Rattle.ei_acts.proofs.DeviceSteady.{it_is_there}

-- ---- what goes

go_both : (objects : ℕ → Option ObjectView) (ids more : List ℕ) → AllGoAs objects ids → AllGoAs objects more → AllGoAs objects (ids ++ more)
go_both objects [] more h k = k
go_both objects (id ∷ ids) more h k = (h.0, go_both objects ids more h.1 k)

go_first : (objects : ℕ → Option ObjectView) (ids more : List ℕ) → AllGoAs objects (ids ++ more) → AllGoAs objects ids
go_first objects [] more h = tt
go_first objects (id ∷ ids) more h = (h.0, go_first objects ids more h.1)

go_last : (objects : ℕ → Option ObjectView) (ids more : List ℕ) → AllGoAs objects (ids ++ more) → AllGoAs objects more
go_last objects [] more h = h
go_last objects (id ∷ ids) more h = go_last objects ids more h.1

seat_may_go : (o : Option ObjectView) → is_a_seat o ≡ true → may_go o ≡ true
seat_may_go None h = absurd cc
seat_may_go (Some o) h = by o.interface h
  where
    by : (i : Interface) → is_seat_interface i ≡ true → is_destroyed_as i ≡ true
    by (Known known.Seat) g = refl
    by (Known k) g = absurd cc
    by (Other name) g = absurd cc

module _ (objects : ℕ → Option ObjectView) where
  devices_go : (ds : List DeviceView) → AllDevicesGo objects ds → AllGoAs objects (all_device_ids ds)
  devices_go [] h = tt
  devices_go (d ∷ ds) h = go_both objects (device_ids d) (all_device_ids ds) h.0.goes (devices_go ds h.1)

  filtered_go : (test : DeviceView → Bool) (ds : List DeviceView) → AllDevicesGo objects ds → AllDevicesGo objects (filter test ds)
  filtered_go test [] h = tt
  filtered_go test (d ∷ ds) h = by (test d) (filtered_go test ds h.1)
    where
      by : (b : Bool) → AllDevicesGo objects (filter test ds) → AllDevicesGo objects (cond b (d ∷ filter test ds) (filter test ds))
      by true next = (h.0, next)
      by false next = next

  found_goes : (test : DeviceView → Bool) (ds : List DeviceView) → AllDevicesGo objects ds → AllGoAs objects (gone_ids (find test ds))
  found_goes test [] h = tt
  found_goes test (d ∷ ds) h = by (test d) (found_goes test ds h.1)
    where
      by : (b : Bool) → AllGoAs objects (gone_ids (find test ds)) → AllGoAs objects (gone_ids (cond b (Some d) (find test ds)))
      by true next = h.0.goes
      by false next = next

  seat_goes : (ds : List DeviceView) (s : SeatView) → AllDevicesGo objects ds → is_a_seat (objects s.proxy.id) ≡ true → AllGoAs objects (seat_ids ds s)
  seat_goes ds s h k = go_both objects (all_device_ids (filter (is_of_seat s.proxy.id) ds)) (cond s.released [] (s.proxy.id ∷ [])) (devices_go (filter (is_of_seat s.proxy.id) ds) (filtered_go (is_of_seat s.proxy.id) ds h)) (by s.released)
    where
      by : (b : Bool) → AllGoAs objects (cond b [] (s.proxy.id ∷ []))
      by true = tt
      by false = (seat_may_go (objects s.proxy.id) k, tt)

  found_seat_goes : (ds : List DeviceView) (id : ℕ) (ss : List SeatView) → AllDevicesGo objects ds → AllSeatsGo objects ss → AllGoAs objects (gone_with_seat ds (find (is_seat id) ss))
  found_seat_goes ds id [] h k = tt
  found_seat_goes ds id (s ∷ ss) h k = by (is_seat id s) (found_seat_goes ds id ss h k.1)
    where
      by : (b : Bool) → AllGoAs objects (gone_with_seat ds (find (is_seat id) ss)) → AllGoAs objects (gone_with_seat ds (cond b (Some s) (find (is_seat id) ss)))
      by true next = seat_goes ds s h k.0
      by false next = next

  seats_go : (ds : List DeviceView) (ss : List SeatView) → AllDevicesGo objects ds → AllSeatsGo objects ss → AllGoAs objects (all_seat_ids ds ss)
  seats_go ds [] h k = tt
  seats_go ds (s ∷ ss) h k = go_both objects (seat_ids ds s) (all_seat_ids ds ss) (seat_goes ds s h k.0) (seats_go ds ss h k.1)

  -- ---- what changes, and what is left

  changed_go : (test : DeviceView → Bool) (change : DeviceView → DeviceView) → ((d : DeviceView) → DeviceGoes objects d → DeviceGoes objects (change d)) → (ds : List DeviceView) → AllDevicesGo objects ds → AllDevicesGo objects (changed_first test change ds)
  changed_go test change keeps [] h = tt
  changed_go test change keeps (d ∷ ds) h = by (test d) (changed_go test change keeps ds h.1)
    where
      by : (b : Bool) → AllDevicesGo objects (changed_first test change ds) → AllDevicesGo objects (cond b (change d ∷ ds) (d ∷ changed_first test change ds))
      by true next = (keeps d h.0, h.1)
      by false next = (h.0, next)

  same_goes : (d e : DeviceView) → IsSameDevice d e → DeviceGoes objects d → DeviceGoes objects e
  same_goes d e s h = record {
    goes = subst (λ (k : DeviceKey). AllGoAs objects (map (λ (o : ObjectView). o.id) e.interfaces ++ (k.proxy.id ∷ []))) (sym s.device)
        (subst (λ (os : List ObjectView). AllGoAs objects (map (λ (o : ObjectView). o.id) os ++ (d.device.proxy.id ∷ []))) (sym s.interfaces) h.goes);
    is_device = subst (λ (k : DeviceKey). is_a_device (objects k.proxy.id) ≡ true) (sym s.device) h.is_device;
  }

  left_go : (test : ObjectView → Bool) (os : List ObjectView) → AllGoAs objects (map (λ (o : ObjectView). o.id) os) → AllGoAs objects (map (λ (o : ObjectView). o.id) (without_first test os))
  left_go test [] h = tt
  left_go test (o ∷ os) h = by (test o) (left_go test os h.1)
    where
      by : (b : Bool) → AllGoAs objects (map (λ (p : ObjectView). p.id) (without_first test os)) → AllGoAs objects (map (λ (p : ObjectView). p.id) (cond b os (o ∷ without_first test os)))
      by true next = h.1
      by false next = (h.0, next)

  without_goes : (i : ℕ) (d : DeviceView) → DeviceGoes objects d → DeviceGoes objects (without_interface i d)
  without_goes i d h =
      let os : List ℕ = map (λ (o : ObjectView). o.id) d.interfaces in
      record {
        goes = go_both objects (map (λ (o : ObjectView). o.id) (without_first (λ (o : ObjectView). eqb o.id i) d.interfaces)) (d.device.proxy.id ∷ [])
            (left_go (λ (o : ObjectView). eqb o.id i) d.interfaces (go_first objects os (d.device.proxy.id ∷ []) h.goes)) (go_last objects os (d.device.proxy.id ∷ []) h.goes);
        is_device = h.is_device;
      }

  others_go : (test : DeviceView → Bool) (ds : List DeviceView) → AllDevicesGo objects ds → AllDevicesGo objects (without_first test ds)
  others_go test [] h = tt
  others_go test (d ∷ ds) h = by (test d) (others_go test ds h.1)
    where
      by : (b : Bool) → AllDevicesGo objects (without_first test ds) → AllDevicesGo objects (cond b ds (d ∷ without_first test ds))
      by true next = h.1
      by false next = (h.0, next)

  behind_go : (ds : List DeviceView) (d : DeviceView) → DeviceGoes objects d → AllDevicesGo objects ds → AllDevicesGo objects (ds ++ (d ∷ []))
  behind_go [] d k h = (k, tt)
  behind_go (x ∷ ds) d k h = (h.0, behind_go ds d k h.1)

  released_go : (id : ℕ) (ss : List SeatView) → AllSeatsGo objects ss → AllSeatsGo objects (changed_first (is_seat id) released ss)
  released_go id [] h = tt
  released_go id (s ∷ ss) h = by (is_seat id s) (released_go id ss h.1)
    where
      by : (b : Bool) → AllSeatsGo objects (changed_first (is_seat id) released ss) → AllSeatsGo objects (cond b (released s ∷ ss) (s ∷ changed_first (is_seat id) released ss))
      by true next = (h.0, h.1)
      by false next = (h.0, next)

  other_seats_go : (id : ℕ) (ss : List SeatView) → AllSeatsGo objects ss → AllSeatsGo objects (without_first (is_seat id) ss)
  other_seats_go id [] h = tt
  other_seats_go id (s ∷ ss) h = by (is_seat id s) (other_seats_go id ss h.1)
    where
      by : (b : Bool) → AllSeatsGo objects (without_first (is_seat id) ss) → AllSeatsGo objects (cond b ss (s ∷ without_first (is_seat id) ss))
      by true next = h.1
      by false next = (h.0, next)

  seat_behind_goes : (ss : List SeatView) (s : SeatView) → is_a_seat (objects s.proxy.id) ≡ true → AllSeatsGo objects ss → AllSeatsGo objects (ss ++ (s ∷ []))
  seat_behind_goes [] s k h = (k, tt)
  seat_behind_goes (x ∷ ss) s k h = (h.0, seat_behind_goes ss s k h.1)

-- ---- more messages

kept_one : (test : Option ObjectView → Bool) → test None ≡ false → (sent : List Sent) (m : Sent) (id : ℕ) → test (announced_in sent id) ≡ true → test (announced_in (m ∷ sent) id) ≡ true
kept_one test none sent m id h = by (announced true sent id) refl h
  where
    by : (o : Option New) → announced true sent id ≡ o → test (seen_by false o) ≡ true → test (seen_by false (announced true (m ∷ sent) id)) ≡ true
    by None e d = absurd (not_both (test None) d none)
    by (Some n) e d = ap (λ (a : Option New). test (seen_by false a)) (announced_more true m sent id n e) ∙ d

kept_onto : (test : Option ObjectView → Bool) → test None ≡ false → (ms sent : List Sent) (id : ℕ) → test (announced_in sent id) ≡ true → test (announced_in (onto ms sent) id) ≡ true
kept_onto test none [] sent id h = h
kept_onto test none (m ∷ ms) sent id h = kept_onto test none ms (m ∷ sent) id (kept_one test none sent m id h)

go_more : (ms sent : List Sent) (ids : List ℕ) → AllGoAs (announced_in sent) ids → AllGoAs (announced_in (onto ms sent)) ids
go_more ms sent [] h = tt
go_more ms sent (id ∷ ids) h = (kept_onto may_go refl ms sent id h.0, go_more ms sent ids h.1)

devices_more : (ms sent : List Sent) (ds : List DeviceView) → AllDevicesGo (announced_in sent) ds → AllDevicesGo (announced_in (onto ms sent)) ds
devices_more ms sent [] h = tt
devices_more ms sent (d ∷ ds) h = (record { goes = go_more ms sent (device_ids d) h.0.goes; is_device = kept_onto is_a_device refl ms sent d.device.proxy.id h.0.is_device }, devices_more ms sent ds h.1)

seats_more : (ms sent : List Sent) (ss : List SeatView) → AllSeatsGo (announced_in sent) ss → AllSeatsGo (announced_in (onto ms sent)) ss
seats_more ms sent [] h = tt
seats_more ms sent (s ∷ ss) h = (kept_onto is_a_seat refl ms sent s.proxy.id h.0, seats_more ms sent ss h.1)

pub held_more : (ms sent : List Sent) (c : ConnectionView) → HoldsAnnounced sent c → HoldsAnnounced (onto ms sent) c
held_more ms sent c h = record { devices = devices_more ms sent c.devices h.devices; seats = seats_more ms sent c.seats h.seats }

-- ---- at first

pub fresh_held : (sent : List Sent) (c : ConnectionView) → IsFresh c → HoldsAnnounced sent c
fresh_held sent c f = record { devices = subst (AllDevicesGo (announced_in sent)) (sym f.devices) tt; seats = subst (AllSeatsGo (announced_in sent)) (sym f.seats) tt }

-- ---- what is held goes as it was announced

pub held_device_goes : (sent : List Sent) (c : ConnectionView) (key : DeviceKey) → HoldsAnnounced sent c → AllGoAs (announced_in sent) (gone_ids (find (is_of_key key) c.devices))
held_device_goes sent c key h = found_goes (announced_in sent) (is_of_key key) c.devices h.devices

pub held_seat_goes : (sent : List Sent) (c : ConnectionView) (id : ℕ) → HoldsAnnounced sent c → AllGoAs (announced_in sent) (gone_with_seat c.devices (find (is_seat id) c.seats))
held_seat_goes sent c id h = found_seat_goes (announced_in sent) c.devices id c.seats h.devices h.seats

pub all_held_go : (sent : List Sent) (c : ConnectionView) → HoldsAnnounced sent c → AllGoAs (announced_in sent) (all_seat_ids c.devices c.seats)
all_held_go sent c h = seats_go (announced_in sent) c.devices c.seats h.devices h.seats

-- the object of a held device, and of a held seat, as it was announced
as_announced : (sent : List Sent) (id : ℕ) (k : KnownInterface) (test : Interface → Bool) → ((i : Interface) → test i ≡ true → i ≡ Known k) → (o : Option New) → announced true sent id ≡ o → (n : New) → o ≡ Some n → test n.interface ≡ true →
    (p : ObjectView) × (announced_in sent id ≡ Some p) × (p.id ≡ id) × AnnouncesIt sent k p
as_announced sent id k test is o e n f h =
    let its : n.id ≡ id = announced_id true sent id n (e ∙ f) in
    let p : ObjectView = record { id = n.id; interface = n.interface; version = n.version; client_side = false } in
    (p, ap (seen_by false) (e ∙ f), its, ap (announced true sent) its ∙ e ∙ f ∙ (let both : ◌≡◌ {A = Option New} (Some n) (Some (record { id = n.id; interface = Known k; version = n.version })) = rw (is n.interface h) refl in both))

device_only : (i : Interface) → is_device_interface i ≡ true → i ≡ Known known.Device
device_only (Known known.Device) h = refl
device_only (Known k) h = absurd cc
device_only (Other name) h = absurd cc

seat_only : (i : Interface) → is_seat_interface i ≡ true → i ≡ Known known.Seat
seat_only (Known known.Seat) h = refl
seat_only (Known k) h = absurd cc
seat_only (Other name) h = absurd cc

device_object : (sent : List Sent) (id : ℕ) → is_a_device (announced_in sent id) ≡ true → (p : ObjectView) × (announced_in sent id ≡ Some p) × (p.id ≡ id) × AnnouncesIt sent known.Device p
device_object sent id h = by (announced true sent id) refl h
  where
    by : (o : Option New) → announced true sent id ≡ o → is_a_device (seen_by false o) ≡ true → (p : ObjectView) × (announced_in sent id ≡ Some p) × (p.id ≡ id) × AnnouncesIt sent known.Device p
    by None e g = absurd cc
    by (Some n) e g = as_announced sent id known.Device is_device_interface device_only (Some n) e n refl g

seat_object : (sent : List Sent) (id : ℕ) → is_a_seat (announced_in sent id) ≡ true → (p : ObjectView) × (announced_in sent id ≡ Some p) × (p.id ≡ id) × AnnouncesIt sent known.Seat p
seat_object sent id h = by (announced true sent id) refl h
  where
    by : (o : Option New) → announced true sent id ≡ o → is_a_seat (seen_by false o) ≡ true → (p : ObjectView) × (announced_in sent id ≡ Some p) × (p.id ≡ id) × AnnouncesIt sent known.Seat p
    by None e g = absurd cc
    by (Some n) e g = as_announced sent id known.Seat is_seat_interface seat_only (Some n) e n refl g

first_device : (objects : ℕ → Option ObjectView) (key : DeviceKey) (ds : List DeviceView) → AllDevicesGo objects ds → is_some (find (is_of_key key) ds) ≡ true → is_a_device (objects key.proxy.id) ≡ true
first_device objects key [] h e = absurd cc
first_device objects key (d ∷ ds) h e = by (is_of_key key d) refl e (first_device objects key ds h.1)
  where
    by : (b : Bool) → is_of_key key d ≡ b → is_some (cond b (Some d) (find (is_of_key key) ds)) ≡ true → (is_some (find (is_of_key key) ds) ≡ true → is_a_device (objects key.proxy.id) ≡ true) → is_a_device (objects key.proxy.id) ≡ true
    by true f g next =
        let its : d.device.proxy.id ≡ key.proxy.id = eqb-true d.device.proxy.id key.proxy.id (and_parts (eqb d.device.seat.id key.seat.id) (eqb d.device.proxy.id key.proxy.id) f).1 in
        subst (λ (n : ℕ). is_a_device (objects n) ≡ true) its h.0.is_device
    by false f g next = next g

first_seat : (objects : ℕ → Option ObjectView) (id : ℕ) (ss : List SeatView) → AllSeatsGo objects ss → is_some (find (is_seat id) ss) ≡ true → is_a_seat (objects id) ≡ true
first_seat objects id [] h e = absurd cc
first_seat objects id (s ∷ ss) h e = by (is_seat id s) refl e (first_seat objects id ss h.1)
  where
    by : (b : Bool) → is_seat id s ≡ b → is_some (cond b (Some s) (find (is_seat id) ss)) ≡ true → (is_some (find (is_seat id) ss) ≡ true → is_a_seat (objects id) ≡ true) → is_a_seat (objects id) ≡ true
    by true f g next = subst (λ (n : ℕ). is_a_seat (objects n) ≡ true) (eqb-true s.proxy.id id f) h.0
    by false f g next = next g

pub held_device_object : (sent : List Sent) (c : ConnectionView) (key : DeviceKey) → HoldsAnnounced sent c → holds_device c key ≡ true → (o : ObjectView) × (announced_in sent key.proxy.id ≡ Some o) × (o.id ≡ key.proxy.id) × AnnouncesIt sent known.Device o
held_device_object sent c key h e = device_object sent key.proxy.id (first_device (announced_in sent) key c.devices h.devices e)

pub held_seat_object : (sent : List Sent) (c : ConnectionView) (id : ℕ) → HoldsAnnounced sent c → is_some (find (is_seat id) c.seats) ≡ true → (o : ObjectView) × (announced_in sent id ≡ Some o) × (o.id ≡ id) × AnnouncesIt sent known.Seat o
held_seat_object sent c id h e = seat_object sent id (first_seat (announced_in sent) id c.seats h.seats e)

-- what is in the table, as it was announced
there_announced : (x : End) (c : ConnectionView) → IsEndOf x c → (id : ℕ) (k : KnownInterface) → is_destroyed k ≡ true → (i : IsThere c.ctx.table id k) → (version : ℕ) × (announced_in x.sent id ≡ Some (record { id = id; interface = Known k; version = version; client_side = false }))
there_announced x c e id k d i =
    (i.object.version, ap (seen_by false) (table_announces x c e i.object k i.is (λ f. not_destroyed known.Handshake refl f) (λ f. not_destroyed known.Callback refl f) id i.there))
  where
    not_destroyed : (j : KnownInterface) → is_destroyed j ≡ false → k ≡ j → ⊥
    not_destroyed j f g = let both : true ≡ false = sym d ∙ ap is_destroyed g ∙ f in absurd cc

-- ---- each act

-- it holds what it held, but for what went
abbrev of_parts : (sent : List Sent) (new : ConnectionView) (ds : List DeviceView) (ss : List SeatView) → new.devices ≡ ds → new.seats ≡ ss → AllDevicesGo (announced_in sent) ds → AllSeatsGo (announced_in sent) ss → HoldsAnnounced sent new
of_parts sent new ds ss d s h k = record { devices = subst (AllDevicesGo (announced_in sent)) (sym d) h; seats = subst (AllSeatsGo (announced_in sent)) (sym s) k }

emptied_held : (sent : List Sent) (c : ConnectionView) (id : ℕ) → HoldsAnnounced sent c → HoldsAnnounced sent (handling.emptied_at c id)
emptied_held sent c id h = record { devices = changed_go (announced_in sent) (is_device id) emptied (λ d. same_goes (announced_in sent) d (emptied d) (emptied_same d)) c.devices h.devices; seats = h.seats }

closes_held : (sent : List Sent) (c : ConverterView) (id time : ℕ) (make : DeviceKey → EisRequest) (o : Option DeviceView) → HoldsAnnounced sent c.handle → HoldsAnnounced sent (handling.closes c id time make o).handle
closes_held sent c id time make None h = h
closes_held sent c id time make (Some d) h = emptied_held sent c.handle id h

hands_out_held : (sent : List Sent) (c : ConverterView) (id serial time : ℕ) (o : Option DeviceView) → HoldsAnnounced sent c.handle → HoldsAnnounced sent (handling.hands_out c id serial time o).handle
hands_out_held sent c id serial time None h = h
hands_out_held sent c id serial time (Some d) h = emptied_held sent c.handle id h

queues_held : (sent : List Sent) (c : ConverterView) (make : ObjectView → EisRequest) (o : Option SeatView) → HoldsAnnounced sent c.handle → HoldsAnnounced sent (handling.queues_of_seat c make o).handle
queues_held sent c make None h = h
queues_held sent c make (Some s) h = h

gives_up_held : (sent : List Sent) (c : ConnectionView) (id : ℕ) (o : Option DeviceView) → HoldsAnnounced sent c → HoldsAnnounced sent (handling.gives_up c id o)
gives_up_held sent c id None h = h
gives_up_held sent c id (Some d) h = record { devices = changed_go (announced_in sent) (has_interface id) (without_interface id) (without_goes (announced_in sent) id) c.devices h.devices; seats = h.seats }

hears_held : (sent : List Sent) (c : ConnectionView) (id : ℕ) (i : InputEvent) → HoldsAnnounced sent c → HoldsAnnounced sent (handling.hears c id i)
hears_held sent c id i h = record { devices = changed_go (announced_in sent) (has_interface id) (takes_input i) (λ d. same_goes (announced_in sent) d (takes_input i d) (input_same i d)) c.devices h.devices; seats = h.seats }

answer_held : (sent : List Sent) (c : ConverterView) (id : ℕ) (meaning : Meaning) (time : ℕ) → HoldsAnnounced sent c.handle → HoldsAnnounced sent (handling.handled c id meaning time).handle
answer_held sent c id (Shakes shake) time h = h
answer_held sent c id (Syncs callback version) time h = record { devices = h.devices; seats = h.seats }
answer_held sent c id Disconnects time h = h
answer_held sent c id (Pongs number) time h = h
answer_held sent c id ReleasesSeat time h = record { devices = h.devices; seats = released_go (announced_in sent) id c.handle.seats h.seats }
answer_held sent c id (Binds mask) time h = queues_held sent c (handling.bind_of mask) (find (is_seat id) c.handle.seats) h
answer_held sent c id (RequestsDevice mask) time h = queues_held sent c (handling.request_device_of mask) (find (is_seat id) c.handle.seats) h
answer_held sent c id Closes time h = closes_held sent c id time handling.closed_of (handling.device_in c id) h
answer_held sent c id (Starts serial sequence) time h = closes_held sent c id time (handling.start_of serial sequence) (handling.device_in c id) h
answer_held sent c id (Stops serial) time h = closes_held sent c id time (handling.stop_of serial) (handling.device_in c id) h
answer_held sent c id (Frames serial told) time h = hands_out_held sent c id serial told (handling.device_in c id) h
answer_held sent c id Readies time h = closes_held sent c id time handling.ready_of (handling.device_in c id) h
answer_held sent c id Releases time h = gives_up_held sent c.handle id (find (has_interface id) c.handle.devices) h
answer_held sent c id (Inputs i) time h = hears_held sent c.handle id i h

seats_left_go : (objects : ℕ → Option ObjectView) (id : ℕ) (ds : List DeviceView) (o : Option SeatView) → AllDevicesGo objects ds → AllDevicesGo objects (devices_left id ds o)
seats_left_go objects id ds None h = h
seats_left_go objects id ds (Some s) h = filtered_go objects (λ d. not (is_of_seat id d)) ds h

module _ (x : End) (old new : ConnectionView) (e : IsEndOf x new) (h : HoldsAnnounced x.sent old) where
  as_before : (made : ConnectionView) → new ≡ made → made.devices ≡ old.devices → made.seats ≡ old.seats → HoldsAnnounced x.sent new
  as_before made n d s = of_parts x.sent new old.devices old.seats (ap (λ (c : ConnectionView). c.devices) n ∙ d) (ap (λ (c : ConnectionView). c.seats) n ∙ s) h.devices h.seats

  pub act_held : (a : Act) → Makes a old new → HoldsAnnounced x.sent new
  act_held act.Rests m = of_parts x.sent new old.devices old.seats m.devices m.seats h.devices h.seats
  act_held (act.Resumes key device) m = as_before _ m.1 refl refl
  act_held (act.Pauses key device) m =
      of_parts x.sent new (changed_first (is_of_key key) untouched old.devices) old.seats (ap (λ (c : ConnectionView). c.devices) m.1) (ap (λ (c : ConnectionView). c.seats) m.1)
      (changed_go (announced_in x.sent) (is_of_key key) untouched (λ d. same_goes (announced_in x.sent) d (untouched d) (untouched_same d)) old.devices h.devices) h.seats
  act_held (act.StartsEmulating key device sequence) m = as_before _ m.1 refl refl
  act_held (act.StopsEmulating key device) m = as_before _ m.1 refl refl
  act_held (act.EndsFrame key device time) m = as_before _ m.1 refl refl
  act_held (act.SendsInput message) m = as_before _ m refl refl
  act_held (act.TellsMissing id) m = as_before _ m refl refl
  act_held (act.Answers id meaning time) m = subst (HoldsAnnounced x.sent) (sym m.1.1) (answer_held x.sent (record { handle = old; queue = m.1.0 }) id meaning time h)
  act_held (act.AddsSeat name given) m =
      let it : SeatView = record { proxy = new_seat old; capabilities = given; released = false } in
      let now = there_announced x new e old.ctx.table.next_own known.Seat refl (seat_now old new name given m) in
      of_parts x.sent new old.devices (old.seats ++ (it ∷ [])) (ap (λ (c : ConnectionView). c.devices) m.rest) (ap (λ (c : ConnectionView). c.seats) m.rest) h.devices (seat_behind_goes (announced_in x.sent) old.seats it (ap is_a_seat now.1) h.seats)
  act_held (act.AddsDevice key seat name kind wanted items) m =
      let it = it_is_there old new key name kind wanted items m.1 in
      let d : DeviceView = new_device _ old.negotiated key name (granted_at old key.id wanted) in
      let now = there_announced x new e old.ctx.table.next_own known.Device refl it.device in
      let goes : DeviceGoes (announced_in x.sent) d = record { goes = go_as_there x new (device_ids d) e (device_may new.ctx.table d it); is_device = ap is_a_device now.1 } in
      of_parts x.sent new (old.devices ++ (d ∷ [])) old.seats (ap (λ (c : ConnectionView). c.devices) m.1.rest) (ap (λ (c : ConnectionView). c.seats) m.1.rest) (behind_go (announced_in x.sent) old.devices d goes h.devices) h.seats
  act_held (act.RemovesDevice key) m =
      of_parts x.sent new (without_first (is_of_key key) old.devices) old.seats (ap (λ (c : ConnectionView). c.devices) m.rest) (ap (λ (c : ConnectionView). c.seats) m.rest) (others_go (announced_in x.sent) (is_of_key key) old.devices h.devices) h.seats
  act_held (act.RemovesSeat id) m =
      of_parts x.sent new (devices_left id old.devices (find (is_seat id) old.seats)) (without_first (is_seat id) old.seats) (ap (λ (c : ConnectionView). c.devices) m.rest) (ap (λ (c : ConnectionView). c.seats) m.rest)
      (seats_left_go (announced_in x.sent) id old.devices (find (is_seat id) old.seats) h.devices) (other_seats_go (announced_in x.sent) id old.seats h.seats)
  act_held (act.Disconnects reason text) m = of_parts x.sent new [] [] (ap (λ (c : ConnectionView). c.devices) m.rest) (ap (λ (c : ConnectionView). c.seats) m.rest) tt tt
