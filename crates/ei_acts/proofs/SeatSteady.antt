-- A client takes that a seat of a server goes, and that all go with the connection.
use Rattle.std.proofs.Common.{◌≡◌, ℕ, Bool, true, false, cond, eqb, ◌||◌, inr, List, [], ◌∷◌, ◌++◌, Option, Some, None, refl, sym, ap, subst, ◌∙◌, append-nil, append_assoc, arith}
use Rattle.std.specs.Prelude.{is_some, find, not}
use Rattle.std.specs.List.{list_any, filter}
use Rattle.std.specs.FinMap as finite
use Rattle.std.proofs.lemmas.Bool.{or_parts, eqb-true, eq-eqb}
use Rattle.std.proofs.lemmas.Option.{same_Some}
use Rattle.ei_spec.specs.declared.interface.KnownInterface.{KnownInterface}
use Rattle.ei_spec.specs.declared.interface.KnownInterface.TheVariants as known
use Rattle.ei_spec.specs.Interface.{ObjectView}
use Rattle.ei_types.specs.Enums.{reason_of}
use Rattle.ei_backend.specs.Table.{TableView, found}
use Rattle.ei_backend.specs.Endpoint.{Endpoint, endpoint_of}
use Rattle.ei_backend.proofs.Objects.{get_without}
use Rattle.ei_ends.specs.Sent.{Sent}
use Rattle.ei_reported.specs.Said.{Said, SeatGoes, Disconnects, said}
use Rattle.ei_steady.specs.Steady.{Held, Stands, GoesOn, NoneRefused, after, IsLess, GoingDevice, devices_go_events, without_devices}
use Rattle.ei_steady.specs.Steady as steady
use Rattle.ei_steady.proofs.StandsOn as stands_on
use Rattle.ei_steady.proofs.Going as going
use Rattle.ei_told.specs.Told.{event_of}
use Rattle.ei_request.specs.Held.{SeatView, DeviceView, is_device, is_seat, is_of_seat, all_device_ids, gone_with_seat, all_seat_ids, without_first, seat_ids as ids_with_seat}
use Rattle.ei_request.specs.Connection.{ConnectionView, next_serial}
use Rattle.ei_request.specs.Sending as sending
use Rattle.ei_request.specs.Removing.{TellsGone, RemovesSeat, devices_left}
use Rattle.ei_request.specs.Removing as removing
use Rattle.ei_acts.specs.Events as event
use Rattle.ei_acts.specs.Acts.{destroyed_all, gone, remove_seat, disconnected}
use Rattle.ei_acts.specs.Holding.{is_a_seat, held_by, said_by, StandsWith, KeepsSteady}
use Rattle.ei_acts.specs.There.{IdsDiffer, AllBelow, device_ids, seat_ids, IsThere, AllInTable, AllSeatsThere}
use Rattle.ei_acts.proofs.Parts.{not_both, any_in_both, different, eqb_turned, none_last, part_without, part_differ}
use Rattle.ei_acts.proofs.Holds.{owner, all_interfaces, id_found, interface_found}
use Rattle.ei_acts.proofs.Staying.{other_id, not_seat_of_device, all_filtered, without_seat_there}
use Rattle.ei_acts.proofs.Steadying.{destroyed_is}
use Rattle.ei_acts.proofs.Splitting.{AllOwn, all_owned_so, by_test}
use Rattle.ei_acts.proofs.GoingSteady.{later, device_goings, devices_go_then, says_seat_goes, all_held, all_kept_interface, all_kept_seat, seats_all_left, next_all_left, nothing_goes, without_none, left_there, devices_leave, seat_leaves}

-- ---- what went isn't there

none_stays : (e : Endpoint) (serial : ℕ) (ids : List ℕ) (id : ℕ) → finite.get e.objects id ≡ None → finite.get (sending.destroys_all e serial ids).objects id ≡ None
none_stays e serial [] id h = h
none_stays e serial (n ∷ ids) id h = none_stays (sending.destroys e n (next_serial serial)) (next_serial serial) ids id (get_without e.objects n id ∙ by (eqb id n))
  where
    by : (b : Bool) → cond b None (finite.get e.objects id) ≡ None
    by true = refl
    by false = h

gone_is_none : (e : Endpoint) (serial : ℕ) (ids : List ℕ) (id : ℕ) → list_any (eqb id) ids ≡ true → finite.get (sending.destroys_all e serial ids).objects id ≡ None
gone_is_none e serial [] id h = absurd cc
gone_is_none e serial (n ∷ ids) id h = by (eqb id n) refl h (gone_is_none (sending.destroys e n (next_serial serial)) (next_serial serial) ids id)
  where
    by : (b : Bool) → eqb id n ≡ b → (b || list_any (eqb id) ids) ≡ true → (list_any (eqb id) ids ≡ true → finite.get (sending.destroys_all (sending.destroys e n (next_serial serial)) (next_serial serial) ids).objects id ≡ None) →
        finite.get (sending.destroys_all (sending.destroys e n (next_serial serial)) (next_serial serial) ids).objects id ≡ None
    by true f g next = none_stays (sending.destroys e n (next_serial serial)) (next_serial serial) ids id (get_without e.objects n id ∙ ap (λ (b : Bool). cond b None (finite.get e.objects id)) f)
    by false f g next = next g

-- a seat that is still in the table is none of those that went
still_seat : (e : Endpoint) (serial : ℕ) (ids : List ℕ) (id : ℕ) → is_a_seat (finite.get (sending.destroys_all e serial ids).objects id) ≡ true → list_any (eqb id) ids ≡ false
still_seat e serial ids id h = by (list_any (eqb id) ids) refl
  where
    by : (b : Bool) → list_any (eqb id) ids ≡ b → b ≡ false
    by true f = absurd (not_both (is_a_seat (finite.get (sending.destroys_all e serial ids).objects id)) h (ap is_a_seat (gone_is_none e serial ids id f)))
    by false f = refl

-- ---- the seat that goes

find_passes : {X : Type 0} (test : X → Bool) (x : X) (xs : List X) → find test xs ≡ Some x → test x ≡ true
find_passes test x [] h = absurd cc
find_passes test x (y ∷ xs) h = by (test y) refl h (find_passes test x xs)
  where
    by : (b : Bool) → test y ≡ b → cond b (Some y) (find test xs) ≡ Some x → (find test xs ≡ Some x → test x ≡ true) → test x ≡ true
    by true e f next = subst (λ z. test z ≡ true) (same_Some y x f) e
    by false e f next = next f

seat_there : (t : TableView) (id : ℕ) (s : SeatView) (ss : List SeatView) → AllSeatsThere t ss → find (is_seat id) ss ≡ Some s → s.released ≡ false → IsThere t s.proxy.id known.Seat
seat_there t id s [] h e = absurd cc
seat_there t id s (x ∷ ss) h e = by (is_seat id x) e (seat_there t id s ss h.1)
  where
    by : (b : Bool) → cond b (Some x) (find (is_seat id) ss) ≡ Some s → (find (is_seat id) ss ≡ Some s → s.released ≡ false → IsThere t s.proxy.id known.Seat) → s.released ≡ false → IsThere t s.proxy.id known.Seat
    by true f next = subst (λ (y : SeatView). y.released ≡ false → IsThere t y.proxy.id known.Seat) (same_Some x s f) h.0
    by false f next = next f

seat_once : (id : ℕ) (ss : List SeatView) → IdsDiffer (seat_ids ss) → list_any (eqb id) (seat_ids (without_first (is_seat id) ss)) ≡ false
seat_once id [] d = refl
seat_once id (s ∷ ss) d = by (eqb s.proxy.id id) refl (seat_once id ss d.1)
  where
    by : (b : Bool) → eqb s.proxy.id id ≡ b → list_any (eqb id) (seat_ids (without_first (is_seat id) ss)) ≡ false → list_any (eqb id) (seat_ids (cond b ss (s ∷ without_first (is_seat id) ss))) ≡ false
    by true e next = subst (λ (k : ℕ). list_any (eqb k) (seat_ids ss) ≡ false) (eqb-true s.proxy.id id e) d.0
    by false e next = rw (eqb_turned id s.proxy.id ∙ e) next

below_without : (next id : ℕ) (ss : List SeatView) → AllBelow next (seat_ids ss) → AllBelow next (seat_ids (without_first (is_seat id) ss))
below_without next id [] h = tt
below_without next id (s ∷ ss) h = by (is_seat id s) (below_without next id ss h.1)
  where
    by : (b : Bool) → AllBelow next (seat_ids (without_first (is_seat id) ss)) → AllBelow next (seat_ids (cond b ss (s ∷ without_first (is_seat id) ss)))
    by true rest = h.1
    by false rest = (h.0, rest)

alone_differs : (t : TableView) (n id : ℕ) (k : KnownInterface) → IsThere t n k → IsThere t id known.Seat → (k ≡ known.Seat → ⊥) → list_any (eqb n) (id ∷ []) ≡ false
alone_differs t n id k i g apart = ap (λ (b : Bool). b || false) (other_id t n id k known.Seat i g apart)

seat_with_devices : (old new : ConnectionView) (id : ℕ) (released : Bool) (ids : List ℕ) → ids ≡ all_device_ids (filter (is_of_seat id) old.devices) ++ cond released [] (id ∷ []) → (released ≡ false → IsThere old.ctx.table id known.Seat) →
    TellsGone old ids (without_first (is_seat id) old.seats) (filter (λ d. not (is_of_seat id d)) old.devices) new → KeepsSteady (gone old ids) old new
seat_with_devices old new id true ids is there r before w =
    let leaves : List DeviceView = filter (is_of_seat id) old.devices in
    let stays : List DeviceView = filter (λ d. not (is_of_seat id d)) old.devices in
    let seats : List SeatView = without_first (is_seat id) old.seats in
    let going = all_filtered old.ctx.table (is_of_seat id) old.devices w.there.devices in
    let staying = all_filtered old.ctx.table (λ d. not (is_of_seat id d)) old.devices w.there.devices in
    let s = by_test (is_of_seat id) old.devices w.devices w.interfaces in
    let left = left_there old new ids [] leaves stays seats r s is going staying (λ n i. refl) (λ n i. refl) (λ n f. refl) (without_seat_there old.ctx.table id old.seats w.there.seats)
    (part_differ (seat_ids seats) (seat_ids old.seats) (part_without (is_seat id) (λ (x : SeatView). x.proxy.id) old.seats) w.there.seats_differ) (below_without old.ctx.table.next_own id old.seats w.there.seats_below) in
    devices_leave old new ids leaves stays seats r s going (is ∙ append-nil (all_device_ids leaves)) left before w
seat_with_devices old new id false ids is there r before w =
    let leaves : List DeviceView = filter (is_of_seat id) old.devices in
    let stays : List DeviceView = filter (λ d. not (is_of_seat id d)) old.devices in
    let seats : List SeatView = without_first (is_seat id) old.seats in
    let one = there refl in
    let going = all_filtered old.ctx.table (is_of_seat id) old.devices w.there.devices in
    let staying = all_filtered old.ctx.table (λ d. not (is_of_seat id d)) old.devices w.there.devices in
    let s = by_test (is_of_seat id) old.devices w.devices w.interfaces in
    let left = left_there old new ids (id ∷ []) leaves stays seats r s is going staying
    (λ n i. alone_differs old.ctx.table n id i.interface i.there one (not_seat_of_device i.interface i.of_device)) (λ n i. alone_differs old.ctx.table n id known.Device i one (λ e. absurd cc))
    (λ n f. ap (λ (b : Bool). b || false) (different n id (seat_ids seats) f (seat_once id old.seats w.there.seats_differ))) (without_seat_there old.ctx.table id old.seats w.there.seats)
    (part_differ (seat_ids seats) (seat_ids old.seats) (part_without (is_seat id) (λ (x : SeatView). x.proxy.id) old.seats) w.there.seats_differ) (below_without old.ctx.table.next_own id old.seats w.there.seats_below) in
    let among : list_any (eqb id) ids ≡ true = ap (list_any (eqb id)) is ∙ any_in_both id (all_device_ids leaves) (id ∷ []) (inr (ap (λ (b : Bool). b || false) (eq-eqb id id refl))) in
    let gone_it : is_a_seat (found new.ctx.table id) ≡ false = ap (λ (e : Endpoint). is_a_seat (finite.get e.objects id)) r.endpoint ∙ ap is_a_seat (gone_is_none (endpoint_of old.ctx) old.last_serial ids id among) in
    seat_leaves old new ids leaves stays seats r s going id one is gone_it left before w

pub seat_goes_steady : (old new : ConnectionView) (id : ℕ) → RemovesSeat old id new → KeepsSteady (remove_seat old id) old new
seat_goes_steady old new id r before w = by (find (is_seat id) old.seats) refl
  where
    by : (o : Option SeatView) → find (is_seat id) old.seats ≡ o → NoneRefused before (said_by (gone old (gone_with_seat old.devices (find (is_seat id) old.seats)))) × StandsWith (after before (said_by (gone old (gone_with_seat old.devices (find (is_seat id) old.seats))))) new
    by None e = subst (λ (o : Option SeatView). NoneRefused before (said_by (gone old (gone_with_seat old.devices o))) × StandsWith (after before (said_by (gone old (gone_with_seat old.devices o)))) new) (sym e)
        (nothing_goes old new (subst (λ (ss : List SeatView). TellsGone old [] ss old.devices new) (without_none (is_seat id) old.seats e)
        (subst (λ (o : Option SeatView). TellsGone old (gone_with_seat old.devices o) (without_first (is_seat id) old.seats) (devices_left id old.devices o) new) e r)) before w)
    by (Some s) e =
        let its : s.proxy.id ≡ id = eqb-true s.proxy.id id (find_passes (is_seat id) s old.seats e) in
        let is : gone_with_seat old.devices (find (is_seat id) old.seats) ≡ all_device_ids (filter (is_of_seat id) old.devices) ++ cond s.released [] (id ∷ []) =
        ap (gone_with_seat old.devices) e ∙ ap (λ (n : ℕ). all_device_ids (filter (is_of_seat n) old.devices) ++ cond s.released [] (n ∷ [])) its in
        seat_with_devices old new id s.released (gone_with_seat old.devices (find (is_seat id) old.seats)) is (λ f. subst (λ (n : ℕ). IsThere old.ctx.table n known.Seat) its (seat_there old.ctx.table id s old.seats w.there.seats e f))
        (subst (λ (ds : List DeviceView). TellsGone old (gone_with_seat old.devices (find (is_seat id) old.seats)) (without_first (is_seat id) old.seats) ds new) (ap (devices_left id old.devices) e) r) before w

-- ---- all seats

pub record Goes (before ms : List Said) (next : ℕ) (h : Held) (ids : List ℕ) : Type 0 where
  pub left : Held
  pub goes : GoesOn before ms next left
  pub seats : (id : ℕ) → h.seat id ≡ true → list_any (eqb id) ids ≡ false → left.seat id ≡ true

own_filtered : (owns : ℕ → Option ℕ) (test : DeviceView → Bool) (ds : List DeviceView) → AllOwn owns ds → AllOwn owns (filter test ds)
own_filtered owns test [] h = tt
own_filtered owns test (d ∷ ds) h = by (test d) (own_filtered owns test ds h.1)
  where
    by : (b : Bool) → AllOwn owns (filter test ds) → AllOwn owns (cond b (d ∷ filter test ds) (filter test ds))
    by true next = (h.0, next)
    by false next = next

filter_apart : (k j : ℕ) (ds : List DeviceView) → eqb k j ≡ false → filter (is_of_seat j) ds ≡ filter (is_of_seat j) (filter (λ d. not (is_of_seat k d)) ds)
filter_apart k j [] n = refl
filter_apart k j (d ∷ ds) n = by (is_of_seat k d) (is_of_seat j d) refl refl (filter_apart k j ds n)
  where
    by : (b c : Bool) → is_of_seat k d ≡ b → is_of_seat j d ≡ c → filter (is_of_seat j) ds ≡ filter (is_of_seat j) (filter (λ x. not (is_of_seat k x)) ds) →
        cond c (d ∷ filter (is_of_seat j) ds) (filter (is_of_seat j) ds) ≡ filter (is_of_seat j) (cond (not b) (d ∷ filter (λ x. not (is_of_seat k x)) ds) (filter (λ x. not (is_of_seat k x)) ds))
    by true true e f next = absurd (not_both (eqb k j) (eq-eqb k j (sym (eqb-true d.device.seat.id k e) ∙ eqb-true d.device.seat.id j f)) n)
    by true false e f next = next
    by false true e f next = ap (λ (l : List DeviceView). d ∷ l) next ∙ sym (ap (λ (b : Bool). cond b (d ∷ filter (is_of_seat j) (filter (λ x. not (is_of_seat k x)) ds)) (filter (is_of_seat j) (filter (λ x. not (is_of_seat k x)) ds))) f)
    by false false e f next = next ∙ sym (ap (λ (b : Bool). cond b (d ∷ filter (is_of_seat j) (filter (λ x. not (is_of_seat k x)) ds)) (filter (is_of_seat j) (filter (λ x. not (is_of_seat k x)) ds))) f)

rest_same : (k : ℕ) (ds : List DeviceView) (ss : List SeatView) → list_any (eqb k) (seat_ids ss) ≡ false → all_seat_ids ds ss ≡ all_seat_ids (filter (λ d. not (is_of_seat k d)) ds) ss
rest_same k ds [] h = refl
rest_same k ds (s ∷ ss) h =
    let parts = or_parts (eqb k s.proxy.id) (list_any (eqb k) (seat_ids ss)) h in
    ap (λ (l : List DeviceView). (all_device_ids l ++ cond s.released [] (s.proxy.id ∷ [])) ++ all_seat_ids ds ss) (filter_apart k s.proxy.id ds parts.0)
    ∙ ap (λ (l : List ℕ). ids_with_seat (filter (λ d. not (is_of_seat k d)) ds) s ++ l) (rest_same k ds ss parts.1)

-- a seat, unless it was released, and then what is behind it
unseated : (t : TableView) (s : SeatView) (released : Bool) → (released ≡ false → IsThere t s.proxy.id known.Seat) → (serial : ℕ) (rest : List ℕ) (before : List Said) (next : ℕ) (h : Held) → Stands before next h → (ids : List ℕ) →
    ((b : List Said) (n : ℕ) (k : Held) → Stands b next k → k.interface ≡ h.interface → Goes b (said_by (destroyed_all t n rest)) next k ids) → Goes before (said_by (destroyed_all t serial (cond released [] (s.proxy.id ∷ []) ++ rest))) next h (cond released [] (s.proxy.id ∷ []) ++ ids)
unseated t s true there serial rest before next h st ids more = more before serial h st refl
unseated t s false there serial rest before next h st ids more =
    let n : ℕ = next_serial serial in
    let id : ℕ = s.proxy.id in
    let one = there refl in
    let is : said (event_of (event.destroyed t id n)) ≡ SeatGoes id n = ap (λ (m : Sent). said (event_of m)) (destroyed_is t id n known.Seat one) ∙ says_seat_goes one.object.version id n in
    let g = subst (λ (x : Said). GoesOn before (x ∷ []) next (steady.without_seat id h)) (sym is) (stands_on.seat_goes before next id n h st) in
    let m : Said = said (event_of (event.destroyed t id n)) in
    let k = more (m ∷ before) n (steady.without_seat id h) g.stands refl in
    record {
      left = k.left;
      goes = stands_on.both before (m ∷ []) (said_by (destroyed_all t n rest)) next next (steady.without_seat id h) k.left g k.goes;
      seats = λ i e f. let parts = or_parts (eqb i id) (list_any (eqb i) ids) f in k.seats i (ap (λ (b : Bool). cond b false (h.seat i)) (eqb_turned id i ∙ parts.0) ∙ e) parts.1;
    }

pub all_seats_go : (t : TableView) (ss : List SeatView) (ds : List DeviceView) (serial : ℕ) (before : List Said) (next : ℕ) (h : Held) → Stands before next h → IdsDiffer (device_ids ds) → IdsDiffer (all_interfaces ds) → AllOwn h.interface ds →
    IdsDiffer (seat_ids ss) → AllInTable t ds → AllSeatsThere t ss → Goes before (said_by (destroyed_all t serial (all_seat_ids ds ss))) next h (all_seat_ids ds ss)
all_seats_go t [] ds serial before next h st ids interfaces own seats there seats_there = record { left = h; goes = record { taken = tt; stands = st }; seats = λ id e f. e }
all_seats_go t (s ∷ ss) ds serial before next h st ids interfaces own seats there seats_there =
    let k : ℕ = s.proxy.id in
    let leaves : List DeviceView = filter (is_of_seat k) ds in
    let stays : List DeviceView = filter (λ d. not (is_of_seat k d)) ds in
    let split = by_test (is_of_seat k) ds ids interfaces in
    let going_there = all_filtered t (is_of_seat k) ds there in
    let gs : List GoingDevice = device_goings t serial leaves going_there in
    let own_leaves = own_filtered h.interface (is_of_seat k) ds own in
    let held = all_held h t serial leaves going_there (part_differ (device_ids leaves) (device_ids ds) split.going_ids ids) (part_differ (all_interfaces leaves) (all_interfaces ds) split.going_interfaces interfaces) own_leaves in
    let h1 : Held = without_devices gs h in
    let first = going.devices_go before next h gs st held in
    let own_stays : AllOwn h1.interface stays = all_owned_so h.interface h1.interface stays (λ n device f g e.
    let o = interface_found n stays f in
    all_kept_interface h t serial leaves going_there n device (split.owners n o.0 o.1).1 (split.devices device (id_found device stays g)).1 e) (own_filtered h.interface (λ d. not (is_of_seat k d)) ds own) in
    let rest : List ℕ = all_seat_ids ds ss in
    let same = rest_same k ds ss seats.0 in
    let mid : ℕ = later serial (all_device_ids leaves) in
    let tail : List ℕ = cond s.released [] (k ∷ []) in
    let then = unseated t s s.released seats_there.0 mid rest (after before (devices_go_events gs)) next h1 first.stands rest (λ b n q sq eq.
    subst (λ (l : List ℕ). Goes b (said_by (destroyed_all t n l)) next q l) (sym same)
    (all_seats_go t ss stays n b next q sq (part_differ (device_ids stays) (device_ids ds) split.staying_ids ids) (part_differ (all_interfaces stays) (all_interfaces ds) split.staying_interfaces interfaces)
    (subst (λ (f : ℕ → Option ℕ). AllOwn f stays) (sym eq) own_stays) seats.1 (all_filtered t (λ d. not (is_of_seat k d)) ds there) seats_there.1)) in
    let says : said_by (destroyed_all t serial ((all_device_ids leaves ++ tail) ++ rest)) ≡ devices_go_events gs ++ said_by (destroyed_all t mid (tail ++ rest)) =
    ap (λ (l : List ℕ). said_by (destroyed_all t serial l)) (append_assoc (all_device_ids leaves) tail rest) ∙ devices_go_then t serial leaves going_there (tail ++ rest) in
    record {
      left = then.left;
      goes = subst (λ (l : List Said). GoesOn before l next then.left) (sym says) (stands_on.both before (devices_go_events gs) (said_by (destroyed_all t mid (tail ++ rest))) next next h1 then.left first then.goes);
      seats = λ i e f.
          let g : list_any (eqb i) (all_device_ids leaves ++ (tail ++ rest)) ≡ false = sym (ap (list_any (eqb i)) (append_assoc (all_device_ids leaves) tail rest)) ∙ f in
          then.seats i (all_kept_seat h t serial leaves going_there i ∙ e) (none_last i (all_device_ids leaves) (tail ++ rest) g);
    }

-- ---- the connection ends

pub said_both : (ms more : List Sent) → said_by (ms ++ more) ≡ said_by ms ++ said_by more
said_both [] more = refl
said_both (m ∷ ms) more = ap (λ (l : List Said). said (event_of m) ∷ l) (said_both ms more)

says_end : (o : ObjectView) (serial reason : ℕ) (text : Option (List ℕ)) → said (event_of (event.disconnected o serial reason text)) ≡ Disconnects serial (reason_of reason) text
unfolding said
says_end o serial reason None = refl
says_end o serial reason (Some t) = refl

filter_all : (ds : List DeviceView) → filter (λ d. true) ds ≡ ds
filter_all [] = refl
filter_all (d ∷ ds) = ap (λ (l : List DeviceView). d ∷ l) (filter_all ds)

pub disconnected_steady : (old new : ConnectionView) (reason : ℕ) (text : Option (List ℕ)) → removing.Disconnects old reason text new → KeepsSteady (disconnected old reason text) old new
disconnected_steady old new reason text d before w =
    let t : TableView = old.ctx.table in
    let next : ℕ = t.next_own in
    let ids : List ℕ = all_seat_ids old.devices old.seats in
    let serial : ℕ = sending.serial_after old.last_serial ids in
    let m : Sent = event.disconnected old.proxy serial reason text in
    let own : AllOwn (held_by old).interface old.devices = subst (AllOwn (held_by old).interface) (filter_all old.devices) (by_test (λ d. true) old.devices w.devices w.interfaces).own in
    let g = all_seats_go t old.seats old.devices old.last_serial before next (held_by old) w.stands w.devices w.interfaces own w.there.seats_differ w.there.devices w.there.seats in
    let ms : List Said = said_by (gone old ids) in
    let last = subst (λ (x : Said). GoesOn (after before ms) (x ∷ []) next g.left) (sym (says_end old.proxy serial reason text)) (stands_on.disconnected (after before ms) next serial g.left (reason_of reason) text g.goes.stands) in
    let all = subst (λ (l : List Said). GoesOn before l next g.left) (sym (said_both (gone old ids) (m ∷ []))) (stands_on.both before ms (said (event_of m) ∷ []) next next g.left g.left g.goes last) in
    let no_devices : new.devices ≡ [] = ap (λ (c : ConnectionView). c.devices) d.rest in
    let no_seats : new.seats ≡ [] = ap (λ (c : ConnectionView). c.seats) d.rest in
    let up : new.ctx.table.next_own ≡ next = ap (λ (e : Endpoint). e.next_own) d.endpoint ∙ next_all_left (endpoint_of old.ctx) old.last_serial ids in (
      all.taken,
      record {
        stands = stands_on.less (after before (said_by (disconnected old reason text))) next new.ctx.table.next_own (held_by new) g.left all.stands (record {
          seats = λ id h. let k = seat_before id h in g.seats id (seats_all_left (endpoint_of old.ctx) old.last_serial ids id k) (still_seat (endpoint_of old.ctx) old.last_serial ids id k);
          devices = λ id h. absurd (not_both (is_some (find (is_device id) new.devices)) h (ap (λ (ds : List DeviceView). is_some (find (is_device id) ds)) no_devices));
          interfaces = λ id device h. absurd (none_some device (sym (ap (owner id) no_devices) ∙ h));
        }) (omega (arith, up));
        devices = subst (λ (ds : List DeviceView). IdsDiffer (device_ids ds)) (sym no_devices) tt;
        interfaces = subst (λ (ds : List DeviceView). IdsDiffer (all_interfaces ds)) (sym no_devices) tt;
        there = record {
          devices = subst (AllInTable new.ctx.table) (sym no_devices) tt;
          seats = subst (AllSeatsThere new.ctx.table) (sym no_seats) tt;
          seats_differ = subst (λ (ss : List SeatView). IdsDiffer (seat_ids ss)) (sym no_seats) tt;
          seats_below = subst (λ (ss : List SeatView). AllBelow new.ctx.table.next_own (seat_ids ss)) (sym no_seats) tt;
        };
      },
    )
  where
    none_some : (a : ℕ) → ◌≡◌ {A = Option ℕ} None (Some a) → ⊥
    none_some a h = absurd cc

    seat_before : (id : ℕ) → is_a_seat (found new.ctx.table id) ≡ true → is_a_seat (finite.get (sending.destroys_all (endpoint_of old.ctx) old.last_serial (all_seat_ids old.devices old.seats)).objects id) ≡ true
    seat_before id h = by (eqb id old.proxy.id) (sym (ap (λ (e : Endpoint). is_a_seat (finite.get e.objects id)) d.endpoint ∙ ap is_a_seat (get_without (sending.destroys_all (endpoint_of old.ctx) old.last_serial (all_seat_ids old.devices old.seats)).objects old.proxy.id id)) ∙ h)
      where
        by : (b : Bool) → is_a_seat (cond b None (finite.get (sending.destroys_all (endpoint_of old.ctx) old.last_serial (all_seat_ids old.devices old.seats)).objects id)) ≡ true →
            is_a_seat (finite.get (sending.destroys_all (endpoint_of old.ctx) old.last_serial (all_seat_ids old.devices old.seats)).objects id) ≡ true
        by true f = absurd cc
        by false f = f
