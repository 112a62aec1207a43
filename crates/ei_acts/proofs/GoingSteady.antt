-- A client takes that devices and a seat of a server go, and it stands with what is left.
use Rattle.std.proofs.Common.{◌≡◌, ℕ, Bool, true, false, cond, eqb, List, [], ◌∷◌, ◌++◌, map, Option, Some, None, refl, sym, ap, subst, ◌∙◌, append-nil, append_assoc, arith}
use Rattle.std.specs.Prelude.{is_some, find, not, codes}
use Rattle.std.specs.List.{list_any, filter}
use Rattle.std.specs.FinMap as finite
use Rattle.std.proofs.lemmas.Bool.{or_parts, eqb-true}
use Rattle.ei_spec.specs.declared.interface.KnownInterface.TheVariants as known
use Rattle.ei_spec.specs.Interface.{ObjectView}
use Rattle.ei_spec.specs.Value.{Word}
use Rattle.ei_backend.specs.Table.{TableView, found}
use Rattle.ei_backend.specs.Endpoint.{Endpoint, endpoint_of}
use Rattle.ei_backend.proofs.Objects.{get_without}
use Rattle.ei_ends.specs.Sent.{Sent}
use Rattle.ei_reported.specs.Said.{Said, SeatGoes, DeviceGoes, Goes, said}
use Rattle.ei_steady.specs.Steady.{Held, Stands, GoesOn, NoneRefused, after, IsLess, Going, goes, AreHeld, without_all, GoingDevice, device_goes_events, devices_go_events, without_going, without_devices, AreHeldByAll, unless_its}
use Rattle.ei_steady.specs.Steady as steady
use Rattle.ei_steady.proofs.StandsOn.{less, seat_goes}
use Rattle.ei_steady.proofs.StandsOn as stands_on
use Rattle.ei_steady.proofs.Going as going
use Rattle.ei_told.specs.Told.{event_of}
use Rattle.ei_request.specs.Keys.{DeviceKey}
use Rattle.ei_request.specs.Held.{SeatView, DeviceView, is_device, is_of_key, device_ids as ids_with, gone_ids, all_device_ids, without_first}
use Rattle.ei_request.specs.Connection.{ConnectionView, next_serial}
use Rattle.ei_request.specs.Sending as sending
use Rattle.ei_request.specs.Removing.{TellsGone, RemovesDevice}
use Rattle.ei_acts.specs.Events as event
use Rattle.ei_acts.specs.Acts.{destroyed_all, gone, remove_device}
use Rattle.ei_acts.specs.Holding.{is_a_seat, held_by, said_by, StandsWith, KeepsSteady}
use Rattle.ei_acts.specs.There.{IdsDiffer, AllBelow, device_ids, interface_ids, seat_ids, IsThere, HasInterfaceThere, AllInterfacesThere, IsInTable, AllInTable, AllSeatsThere, HoldsThere}
use Rattle.ei_acts.proofs.Parts.{apart_from, none_in_both, not_both, eqb_turned, part_differ, differ_last, differ_first, none_last, none_first}
use Rattle.ei_acts.proofs.Holds.{owner, all_interfaces, id_found, interface_found}
use Rattle.ei_acts.proofs.Staying.{not_device_of_device, devices_stay, seats_stay, all_left_same, all_filtered, no_device, no_interface, none_of_all}
use Rattle.ei_acts.proofs.Steadying.{says_goes, destroyed_is}
use Rattle.ei_acts.proofs.Splitting.{EachOwned, AllOwn, owned_so, all_owned_so, Splits, by_test, one_goes}

-- ---- what is said of them

-- the last serial behind these ids
abbrev pub later : ℕ → List ℕ → ℕ
later serial ids = sending.serial_after serial ids

abbrev pub goings : (t : TableView) (serial : ℕ) (os : List ObjectView) → AllInterfacesThere t os → List Going
goings t serial [] h = []
goings t serial (o ∷ os) h = record { interface = h.0.interface; id = o.id; serial = next_serial serial } ∷ goings t (next_serial serial) os h.1

abbrev pub device_going : (t : TableView) (serial : ℕ) (d : DeviceView) → IsInTable t d → GoingDevice
device_going t serial d h = record { interfaces = goings t serial d.interfaces h.interfaces; id = d.device.proxy.id; serial = next_serial (later serial (interface_ids d)) }

abbrev pub device_goings : (t : TableView) (serial : ℕ) (ds : List DeviceView) → AllInTable t ds → List GoingDevice
device_goings t serial [] h = []
device_goings t serial (d ∷ ds) h = device_going t serial d h.0 ∷ device_goings t (later serial (ids_with d)) ds h.1

goes_then : (t : TableView) (serial : ℕ) (os : List ObjectView) (h : AllInterfacesThere t os) (more : List ℕ) → said_by (destroyed_all t serial (map (λ (o : ObjectView). o.id) os ++ more)) ≡ map goes (goings t serial os h) ++ said_by (destroyed_all t (later serial (map (λ (o : ObjectView). o.id) os)) more)
goes_then t serial [] h more = refl
goes_then t serial (o ∷ os) h more =
    let it = h.0 in
    let is : said (event_of (event.destroyed t o.id (next_serial serial))) ≡ Goes it.interface o.id (next_serial serial) = ap (λ (m : Sent). said (event_of m)) (destroyed_is t o.id (next_serial serial) it.interface it.there) ∙ says_goes it.interface it.there.object.version o.id (next_serial serial) it.of_device in
    ap (λ (x : Said). x ∷ said_by (destroyed_all t (next_serial serial) (map (λ (p : ObjectView). p.id) os ++ more))) is ∙ ap (λ (l : List Said). Goes it.interface o.id (next_serial serial) ∷ l) (goes_then t (next_serial serial) os h.1 more)

says_device_goes : (v id serial : ℕ) → said (event_of (event.event_to known.Device v id (codes "destroyed") (Word serial ∷ []))) ≡ DeviceGoes id serial
unfolding said
says_device_goes v id serial = refl

pub says_seat_goes : (v id serial : ℕ) → said (event_of (event.event_to known.Seat v id (codes "destroyed") (Word serial ∷ []))) ≡ SeatGoes id serial
unfolding said
says_seat_goes v id serial = refl

later_both : (serial : ℕ) (a b : List ℕ) → later serial (a ++ b) ≡ later (later serial a) b
later_both serial [] b = refl
later_both serial (x ∷ a) b = later_both (next_serial serial) a b

device_goes_then : (t : TableView) (serial : ℕ) (d : DeviceView) (h : IsInTable t d) (more : List ℕ) → said_by (destroyed_all t serial (ids_with d ++ more)) ≡ device_goes_events (device_going t serial d h) ++ said_by (destroyed_all t (later serial (ids_with d)) more)
device_goes_then t serial d h more =
    let ids : List ℕ = interface_ids d in
    let last : ℕ = next_serial (later serial ids) in
    let is : said (event_of (event.destroyed t d.device.proxy.id last)) ≡ DeviceGoes d.device.proxy.id last = ap (λ (m : Sent). said (event_of m)) (destroyed_is t d.device.proxy.id last known.Device h.device) ∙ says_device_goes h.device.object.version d.device.proxy.id last in
    ap (λ (l : List ℕ). said_by (destroyed_all t serial l)) (append_assoc ids (d.device.proxy.id ∷ []) more)
    ∙ goes_then t serial d.interfaces h.interfaces (d.device.proxy.id ∷ more)
    ∙ ap (λ (x : Said). map goes (goings t serial d.interfaces h.interfaces) ++ (x ∷ said_by (destroyed_all t last more))) is
    ∙ ap (λ (n : ℕ). map goes (goings t serial d.interfaces h.interfaces) ++ (DeviceGoes d.device.proxy.id last ∷ said_by (destroyed_all t n more))) (sym (later_both serial ids (d.device.proxy.id ∷ [])))
    ∙ sym (append_assoc (map goes (goings t serial d.interfaces h.interfaces)) (DeviceGoes d.device.proxy.id last ∷ []) (said_by (destroyed_all t (later serial (ids_with d)) more)))

pub devices_go_then : (t : TableView) (serial : ℕ) (ds : List DeviceView) (h : AllInTable t ds) (more : List ℕ) → said_by (destroyed_all t serial (all_device_ids ds ++ more)) ≡ devices_go_events (device_goings t serial ds h) ++ said_by (destroyed_all t (later serial (all_device_ids ds)) more)
devices_go_then t serial [] h more = refl
devices_go_then t serial (d ∷ ds) h more =
    let first : List Said = device_goes_events (device_going t serial d h.0) in
    let mid : ℕ = later serial (ids_with d) in
    ap (λ (l : List ℕ). said_by (destroyed_all t serial l)) (append_assoc (ids_with d) (all_device_ids ds) more)
    ∙ device_goes_then t serial d h.0 (all_device_ids ds ++ more)
    ∙ ap (λ (l : List Said). first ++ l) (devices_go_then t mid ds h.1 more)
    ∙ ap (λ (n : ℕ). first ++ (devices_go_events (device_goings t mid ds h.1) ++ said_by (destroyed_all t n more))) (sym (later_both serial (ids_with d) (all_device_ids ds)))
    ∙ sym (append_assoc first (devices_go_events (device_goings t mid ds h.1)) (said_by (destroyed_all t (later serial (ids_with d ++ all_device_ids ds)) more)))

-- ---- each is held when it goes

abbrev ids_of : List ObjectView → List ℕ
ids_of os = map (λ (o : ObjectView). o.id) os

are_held : (h : Held) (device : ℕ) (t : TableView) (serial : ℕ) (os : List ObjectView) (there : AllInterfacesThere t os) → IdsDiffer (ids_of os) → EachOwned h.interface device os → AreHeld h (goings t serial os there)
are_held h device t serial [] there d e = tt
are_held h device t serial (o ∷ os) there d e = (
  ap is_some e.0,
  are_held (steady.without_interface o.id h) device t (next_serial serial) os there.1 d.1 (owned_so h.interface (steady.without_interface o.id h).interface device os (λ n f g. still n f g) e.1),
)
  where
    still : (n : ℕ) → list_any (eqb n) (ids_of os) ≡ true → h.interface n ≡ Some device → cond (eqb o.id n) None (h.interface n) ≡ Some device
    still n f g = by (eqb o.id n) refl
      where
        by : (b : Bool) → eqb o.id n ≡ b → cond b None (h.interface n) ≡ Some device
        by true k = absurd (not_both (list_any (eqb n) (ids_of os)) f (subst (λ (m : ℕ). list_any (eqb m) (ids_of os) ≡ false) (eqb-true o.id n k) d.0))
        by false k = g

-- what is held of an id that none of these has
kept_all : (t : TableView) (serial : ℕ) (os : List ObjectView) (there : AllInterfacesThere t os) (h : Held) (n : ℕ) → list_any (eqb n) (ids_of os) ≡ false → (without_all h (goings t serial os there)).interface n ≡ h.interface n
kept_all t serial [] there h n none = refl
kept_all t serial (o ∷ os) there h n none =
    let parts = or_parts (eqb n o.id) (list_any (eqb n) (ids_of os)) none in
    kept_all t (next_serial serial) os there.1 (steady.without_interface o.id h) n parts.1
    ∙ ap (λ (b : Bool). cond b None (h.interface n)) (eqb_turned o.id n ∙ parts.0)

same_devices : (t : TableView) (serial : ℕ) (os : List ObjectView) (there : AllInterfacesThere t os) (h : Held) (n : ℕ) → (without_all h (goings t serial os there)).device n ≡ h.device n
same_devices t serial [] there h n = refl
same_devices t serial (o ∷ os) there h n = same_devices t (next_serial serial) os there.1 (steady.without_interface o.id h) n

same_seats : (t : TableView) (serial : ℕ) (os : List ObjectView) (there : AllInterfacesThere t os) (h : Held) (n : ℕ) → (without_all h (goings t serial os there)).seat n ≡ h.seat n
same_seats t serial [] there h n = refl
same_seats t serial (o ∷ os) there h n = same_seats t (next_serial serial) os there.1 (steady.without_interface o.id h) n

module _ (t : TableView) (serial : ℕ) (d : DeviceView) (there : IsInTable t d) (h : Held) where
  abbrev left : Held
  left = without_going (device_going t serial d there) h

  kept_interface : (n device : ℕ) → list_any (eqb n) (interface_ids d) ≡ false → eqb d.device.proxy.id device ≡ false → h.interface n ≡ Some device → left.interface n ≡ Some device
  kept_interface n device none other e =
      ap (unless_its d.device.proxy.id) (kept_all t serial d.interfaces there.interfaces h n none ∙ e) ∙ ap (λ (b : Bool). cond b None (Some device)) other

  kept_device : (n : ℕ) → eqb d.device.proxy.id n ≡ false → h.device n ≡ true → left.device n ≡ true
  kept_device n other e = ap (λ (b : Bool). cond b false ((without_all h (goings t serial d.interfaces there.interfaces)).device n)) other ∙ same_devices t serial d.interfaces there.interfaces h n ∙ e

  kept_seat : (n : ℕ) → left.seat n ≡ h.seat n
  kept_seat n = same_seats t serial d.interfaces there.interfaces h n

pub all_held : (h : Held) (t : TableView) (serial : ℕ) (ds : List DeviceView) (there : AllInTable t ds) → IdsDiffer (device_ids ds) → IdsDiffer (all_interfaces ds) → AllOwn h.interface ds → AreHeldByAll h (device_goings t serial ds there)
all_held h t serial [] there ids interfaces own = tt
all_held h t serial (d ∷ ds) there ids interfaces own = (
  are_held h d.device.proxy.id t serial d.interfaces there.0.interfaces (differ_first (interface_ids d) (all_interfaces ds) interfaces) own.0,
  all_held (left t serial d there.0 h) t (later serial (ids_with d)) ds there.1 ids.1 (differ_last (interface_ids d) (all_interfaces ds) interfaces) (all_owned_so h.interface (left t serial d there.0 h).interface ds still own.1),
)
  where
    still : (n device : ℕ) → list_any (eqb n) (all_interfaces ds) ≡ true → list_any (eqb device) (device_ids ds) ≡ true → h.interface n ≡ Some device → (left t serial d there.0 h).interface n ≡ Some device
    still n device f g e = kept_interface t serial d there.0 h n device (apart_from n (interface_ids d) (all_interfaces ds) interfaces f) (other device g) e
      where
        other : (k : ℕ) → list_any (eqb k) (device_ids ds) ≡ true → eqb d.device.proxy.id k ≡ false
        other k f = eqb_turned d.device.proxy.id k ∙ (or_parts (eqb k d.device.proxy.id) false (apart_from k (d.device.proxy.id ∷ []) (device_ids ds) ids f)).0

-- ---- what is held of the others

pub all_kept_interface : (h : Held) (t : TableView) (serial : ℕ) (ds : List DeviceView) (there : AllInTable t ds) (n device : ℕ) → list_any (eqb n) (all_interfaces ds) ≡ false → list_any (eqb device) (device_ids ds) ≡ false → h.interface n ≡ Some device →
    (without_devices (device_goings t serial ds there) h).interface n ≡ Some device
all_kept_interface h t serial [] there n device f g e = e
all_kept_interface h t serial (d ∷ ds) there n device f g e =
    let parts = or_parts (eqb device d.device.proxy.id) (list_any (eqb device) (device_ids ds)) g in
    all_kept_interface (left t serial d there.0 h) t (later serial (ids_with d)) ds there.1 n device (none_last n (interface_ids d) (all_interfaces ds) f) parts.1
    (kept_interface t serial d there.0 h n device (none_first n (interface_ids d) (all_interfaces ds) f) (eqb_turned d.device.proxy.id device ∙ parts.0) e)

all_kept_device : (h : Held) (t : TableView) (serial : ℕ) (ds : List DeviceView) (there : AllInTable t ds) (n : ℕ) → list_any (eqb n) (device_ids ds) ≡ false → h.device n ≡ true → (without_devices (device_goings t serial ds there) h).device n ≡ true
all_kept_device h t serial [] there n g e = e
all_kept_device h t serial (d ∷ ds) there n g e =
    let parts = or_parts (eqb n d.device.proxy.id) (list_any (eqb n) (device_ids ds)) g in
    all_kept_device (left t serial d there.0 h) t (later serial (ids_with d)) ds there.1 n parts.1 (kept_device t serial d there.0 h n (eqb_turned d.device.proxy.id n ∙ parts.0) e)

pub all_kept_seat : (h : Held) (t : TableView) (serial : ℕ) (ds : List DeviceView) (there : AllInTable t ds) (n : ℕ) → (without_devices (device_goings t serial ds there) h).seat n ≡ h.seat n
all_kept_seat h t serial [] there n = refl
all_kept_seat h t serial (d ∷ ds) there n = all_kept_seat (left t serial d there.0 h) t (later serial (ids_with d)) ds there.1 n ∙ kept_seat t serial d there.0 h n

-- no seat more in the table
pub seats_all_left : (e : Endpoint) (serial : ℕ) (ids : List ℕ) (id : ℕ) → is_a_seat (finite.get (sending.destroys_all e serial ids).objects id) ≡ true → is_a_seat (finite.get e.objects id) ≡ true
seats_all_left e serial [] id h = h
seats_all_left e serial (n ∷ ids) id h = by (eqb id n) (sym (ap is_a_seat (get_without e.objects n id)) ∙ seats_all_left (sending.destroys e n (next_serial serial)) (next_serial serial) ids id h)
  where
    by : (b : Bool) → is_a_seat (cond b None (finite.get e.objects id)) ≡ true → is_a_seat (finite.get e.objects id) ≡ true
    by true f = absurd cc
    by false f = f

pub next_all_left : (e : Endpoint) (serial : ℕ) (ids : List ℕ) → (sending.destroys_all e serial ids).next_own ≡ e.next_own
next_all_left e serial [] = refl
next_all_left e serial (n ∷ ids) = next_all_left (sending.destroys e n (next_serial serial)) (next_serial serial) ids

-- ---- devices go

-- the devices that stay, and all that goes
module _ (old new : ConnectionView) (ids : List ℕ) (leaves stays : List DeviceView) (seats : List SeatView) (r : TellsGone old ids seats stays new) (s : Splits old.devices leaves stays) where
  next_same : new.ctx.table.next_own ≡ old.ctx.table.next_own
  next_same = ap (λ (e : Endpoint). e.next_own) r.endpoint ∙ next_all_left (endpoint_of old.ctx) old.last_serial ids

  seats_less : (id : ℕ) → is_a_seat (found new.ctx.table id) ≡ true → is_a_seat (found old.ctx.table id) ≡ true
  seats_less id h = seats_all_left (endpoint_of old.ctx) old.last_serial ids id (ap (λ (e : Endpoint). is_a_seat (finite.get e.objects id)) (sym r.endpoint) ∙ h)

  devices_are : new.devices ≡ stays
  devices_are = ap (λ (c : ConnectionView). c.devices) r.rest

  -- what stays is held without what goes
  stays_less : (there : AllInTable old.ctx.table leaves) → IsLess (held_by new) (without_devices (device_goings old.ctx.table old.last_serial leaves there) (held_by old))
  stays_less there =
      let t : TableView = old.ctx.table in let serial : ℕ = old.last_serial in
      record {
        seats = λ id h. all_kept_seat (held_by old) t serial leaves there id ∙ seats_less id h;
        devices = λ id h. let q = s.devices id (ap (λ (ds : List DeviceView). is_some (find (is_device id) ds)) (sym devices_are) ∙ h) in all_kept_device (held_by old) t serial leaves there id q.1 q.0;
        interfaces = λ id device h. let q = s.owners id device (ap (owner id) (sym devices_are) ∙ h) in all_kept_interface (held_by old) t serial leaves there id device q.1 q.2 q.0;
      }

  -- and stands behind what is said of what goes
  still_stands : (before : List Said) (h : Held) → Stands before old.ctx.table.next_own h → IsLess (held_by new) h → (b : List Said) → StandsWith b old → HoldsThere new → StandsWith before new
  still_stands before h st is b w there = record {
    stands = let n = next_same in less before old.ctx.table.next_own new.ctx.table.next_own (held_by new) h st is (omega (arith, n));
    devices = subst (λ (ds : List DeviceView). IdsDiffer (device_ids ds)) (sym devices_are) (part_differ (device_ids stays) (device_ids old.devices) s.staying_ids w.devices);
    interfaces = subst (λ (ds : List DeviceView). IdsDiffer (all_interfaces ds)) (sym devices_are) (part_differ (all_interfaces stays) (all_interfaces old.devices) s.staying_interfaces w.interfaces);
    there = there;
  }

  -- the devices alone
  pub devices_leave : (there : AllInTable old.ctx.table leaves) → ids ≡ all_device_ids leaves → HoldsThere new → (before : List Said) → StandsWith before old → NoneRefused before (said_by (gone old ids)) × StandsWith (after before (said_by (gone old ids))) new
  devices_leave there is left_there before w =
      let t : TableView = old.ctx.table in let serial : ℕ = old.last_serial in
      let gs : List GoingDevice = device_goings t serial leaves there in
      let says : said_by (gone old ids) ≡ devices_go_events gs = ap (λ (l : List ℕ). said_by (destroyed_all t serial l)) (is ∙ sym (append-nil (all_device_ids leaves))) ∙ devices_go_then t serial leaves there [] ∙ append-nil (devices_go_events gs) in
      let held = all_held (held_by old) t serial leaves there (part_differ (device_ids leaves) (device_ids old.devices) s.going_ids w.devices) (part_differ (all_interfaces leaves) (all_interfaces old.devices) s.going_interfaces w.interfaces) s.own in
      let g = subst (λ (l : List Said). GoesOn before l old.ctx.table.next_own (without_devices gs (held_by old))) (sym says) (going.devices_go before old.ctx.table.next_own (held_by old) gs w.stands held) in
      (g.taken, still_stands (after before (said_by (gone old ids))) (without_devices gs (held_by old)) g.stands (stays_less there) before w left_there)

  -- the devices and then a seat, which isn't in the table any more
  pub seat_leaves : (there : AllInTable old.ctx.table leaves) (seat : ℕ) (one : IsThere old.ctx.table seat known.Seat) → ids ≡ all_device_ids leaves ++ (seat ∷ []) → is_a_seat (found new.ctx.table seat) ≡ false → HoldsThere new →
      (before : List Said) → StandsWith before old → NoneRefused before (said_by (gone old ids)) × StandsWith (after before (said_by (gone old ids))) new
  seat_leaves there seat one is gone_seat left_there before w =
      let t : TableView = old.ctx.table in let serial : ℕ = old.last_serial in
      let gs : List GoingDevice = device_goings t serial leaves there in
      let last : ℕ = next_serial (later serial (all_device_ids leaves)) in
      let end : said (event_of (event.destroyed t seat last)) ≡ SeatGoes seat last = ap (λ (m : Sent). said (event_of m)) (destroyed_is t seat last known.Seat one) ∙ says_seat_goes one.object.version seat last in
      let says : said_by (gone old ids) ≡ devices_go_events gs ++ (SeatGoes seat last ∷ []) = ap (λ (l : List ℕ). said_by (destroyed_all t serial l)) is ∙ devices_go_then t serial leaves there (seat ∷ []) ∙ ap (λ (x : Said). devices_go_events gs ++ (x ∷ [])) end in
      let held = all_held (held_by old) t serial leaves there (part_differ (device_ids leaves) (device_ids old.devices) s.going_ids w.devices) (part_differ (all_interfaces leaves) (all_interfaces old.devices) s.going_interfaces w.interfaces) s.own in
      let h : Held = without_devices gs (held_by old) in
      let first = going.devices_go before old.ctx.table.next_own (held_by old) gs w.stands held in
      let both = stands_on.both before (devices_go_events gs) (SeatGoes seat last ∷ []) old.ctx.table.next_own old.ctx.table.next_own h (steady.without_seat seat h) first (seat_goes (after before (devices_go_events gs)) old.ctx.table.next_own seat last h first.stands) in
      let g = subst (λ (l : List Said). GoesOn before l old.ctx.table.next_own (steady.without_seat seat h)) (sym says) both in
      let less_all = stays_less there in (
        g.taken,
        still_stands (after before (said_by (gone old ids))) (steady.without_seat seat h) g.stands (record {
          seats = λ id e. by id (eqb seat id) refl e (less_all.seats id e);
          devices = less_all.devices;
          interfaces = less_all.interfaces;
        }) before w left_there,
      )
    where
      by : (id : ℕ) (b : Bool) → eqb seat id ≡ b → is_a_seat (found new.ctx.table id) ≡ true → (without_devices (device_goings old.ctx.table old.last_serial leaves there) (held_by old)).seat id ≡ true →
          cond b false ((without_devices (device_goings old.ctx.table old.last_serial leaves there) (held_by old)).seat id) ≡ true
      by id true k e f = absurd (not_both (is_a_seat (found new.ctx.table id)) e (subst (λ (n : ℕ). is_a_seat (found new.ctx.table n) ≡ false) (eqb-true seat id k) gone_seat))
      by id false k e f = f

-- ---- the calls

pub nothing_goes : (old new : ConnectionView) → TellsGone old [] old.seats old.devices new → KeepsSteady [] old new
nothing_goes old new r before w = (
  tt,
  record {
    stands = let n = next_is in less before old.ctx.table.next_own new.ctx.table.next_own (held_by new) (held_by old) w.stands (record {
      seats = λ id h. ap is_a_seat (sym (found_is id)) ∙ h;
      devices = λ id h. ap (λ (ds : List DeviceView). is_some (find (is_device id) ds)) (sym are) ∙ h;
      interfaces = λ id device h. ap (owner id) (sym are) ∙ h;
    }) (omega (arith, n));
    devices = subst (λ (ds : List DeviceView). IdsDiffer (device_ids ds)) (sym are) w.devices;
    interfaces = subst (λ (ds : List DeviceView). IdsDiffer (all_interfaces ds)) (sym are) w.interfaces;
    there = record {
      devices = subst (AllInTable new.ctx.table) (sym are) (devices_stay old.ctx.table new.ctx.table old.devices (λ n f i. found_is n) (λ n f i. found_is n) w.there.devices);
      seats = subst (AllSeatsThere new.ctx.table) (sym seats_are) (seats_stay old.ctx.table new.ctx.table old.seats (λ n f i. found_is n) w.there.seats);
      seats_differ = subst (λ (ss : List SeatView). IdsDiffer (seat_ids ss)) (sym seats_are) w.there.seats_differ;
      seats_below = subst (λ (ss : List SeatView). AllBelow new.ctx.table.next_own (seat_ids ss)) (sym seats_are) (subst (λ (n : ℕ). AllBelow n (seat_ids old.seats)) (sym next_is) w.there.seats_below);
    };
  },
)
  where
    next_is : new.ctx.table.next_own ≡ old.ctx.table.next_own
    next_is = ap (λ (e : Endpoint). e.next_own) r.endpoint

    found_is : (id : ℕ) → found new.ctx.table id ≡ found old.ctx.table id
    found_is id = ap (λ (e : Endpoint). finite.get e.objects id) r.endpoint

    are : new.devices ≡ old.devices
    are = ap (λ (c : ConnectionView). c.devices) r.rest

    seats_are : new.seats ≡ old.seats
    seats_are = ap (λ (c : ConnectionView). c.seats) r.rest

pub without_none : {X : Type 0} (test : X → Bool) (xs : List X) → find test xs ≡ None → without_first test xs ≡ xs
without_none test [] h = refl
without_none test (x ∷ xs) h = by (test x) h (without_none test xs)
  where
    by : (b : Bool) → cond b (Some x) (find test xs) ≡ None → (find test xs ≡ None → without_first test xs ≡ xs) → cond b xs (x ∷ without_first test xs) ≡ x ∷ xs
    by true e next = absurd cc
    by false e next = ap (λ l. x ∷ l) (next e)

-- what is left is there
module _ (old new : ConnectionView) (ids tail : List ℕ) (leaves stays : List DeviceView) (seats : List SeatView) (r : TellsGone old ids seats stays new) (s : Splits old.devices leaves stays)
    (is : ids ≡ all_device_ids leaves ++ tail) (going : AllInTable old.ctx.table leaves) (staying : AllInTable old.ctx.table stays)
    (no_interface_goes : (n : ℕ) → HasInterfaceThere old.ctx.table n → list_any (eqb n) tail ≡ false) (no_device_goes : (n : ℕ) → IsThere old.ctx.table n known.Device → list_any (eqb n) tail ≡ false)
    (no_seat_goes : (n : ℕ) → list_any (eqb n) (seat_ids seats) ≡ true → list_any (eqb n) tail ≡ false) where
  same_where : (n : ℕ) → list_any (eqb n) (all_interfaces leaves) ≡ false → list_any (eqb n) (device_ids leaves) ≡ false → list_any (eqb n) tail ≡ false → found new.ctx.table n ≡ found old.ctx.table n
  same_where n f g h =
      let none : list_any (eqb n) ids ≡ false = ap (list_any (eqb n)) is ∙ none_in_both n (all_device_ids leaves) tail (none_of_all n leaves f g) h in
      ap (λ (e : Endpoint). finite.get e.objects n) r.endpoint ∙ all_left_same (endpoint_of old.ctx) old.last_serial ids n none

  pub left_there : AllSeatsThere old.ctx.table seats → IdsDiffer (seat_ids seats) → AllBelow old.ctx.table.next_own (seat_ids seats) → HoldsThere new
  left_there there differ below =
      let t : TableView = old.ctx.table in let u : TableView = new.ctx.table in
      let are : new.devices ≡ stays = ap (λ (c : ConnectionView). c.devices) r.rest in
      let seats_are : new.seats ≡ seats = ap (λ (c : ConnectionView). c.seats) r.rest in
      let next : u.next_own ≡ t.next_own = ap (λ (e : Endpoint). e.next_own) r.endpoint ∙ next_all_left (endpoint_of old.ctx) old.last_serial ids in
      record {
        devices = subst (AllInTable u) (sym are) (devices_stay t u stays
            (λ n f i. let o = interface_found n stays f in let q = s.owners n o.0 o.1 in same_where n q.1 (no_device t n i.interface leaves i.there (not_device_of_device i.interface i.of_device) going) (no_interface_goes n i))
            (λ n f i. let q = s.devices n (id_found n stays f) in same_where n (no_interface t n known.Device leaves i refl going) q.1 (no_device_goes n i)) staying);
        seats = subst (AllSeatsThere u) (sym seats_are) (seats_stay t u seats
            (λ n f i. same_where n (no_interface t n known.Seat leaves i refl going) (no_device t n known.Seat leaves i (λ e. absurd cc) going) (no_seat_goes n f)) there);
        seats_differ = subst (λ (ss : List SeatView). IdsDiffer (seat_ids ss)) (sym seats_are) differ;
        seats_below = subst (λ (ss : List SeatView). AllBelow u.next_own (seat_ids ss)) (sym seats_are) (subst (λ (n : ℕ). AllBelow n (seat_ids seats)) (sym next) below);
      }

pub device_goes_steady : (old new : ConnectionView) (key : DeviceKey) → RemovesDevice old key new → KeepsSteady (remove_device old key) old new
device_goes_steady old new key r before w = by (find (is_of_key key) old.devices) refl
  where
    by : (o : Option DeviceView) → find (is_of_key key) old.devices ≡ o → NoneRefused before (said_by (gone old (gone_ids (find (is_of_key key) old.devices)))) × StandsWith (after before (said_by (gone old (gone_ids (find (is_of_key key) old.devices))))) new
    by None e = subst (λ (o : Option DeviceView). NoneRefused before (said_by (gone old (gone_ids o))) × StandsWith (after before (said_by (gone old (gone_ids o)))) new) (sym e)
        (nothing_goes old new (subst (λ (ds : List DeviceView). TellsGone old [] old.seats ds new) (without_none (is_of_key key) old.devices e) (subst (λ (o : Option DeviceView). TellsGone old (gone_ids o) old.seats (without_first (is_of_key key) old.devices) new) e r)) before w)
    by (Some d) e =
        let one = one_goes key d old.devices w.devices e in
        let leaves : List DeviceView = filter (is_of_key key) old.devices in
        let stays : List DeviceView = without_first (is_of_key key) old.devices in
        let going = all_filtered old.ctx.table (is_of_key key) old.devices w.there.devices in
        let staying : AllInTable old.ctx.table stays = subst (AllInTable old.ctx.table) one.1 (all_filtered old.ctx.table (λ x. not (is_of_key key x)) old.devices w.there.devices) in
        let s = subst (λ (l : List DeviceView). Splits old.devices leaves l) one.1 (by_test (is_of_key key) old.devices w.devices w.interfaces) in
        let ids : List ℕ = gone_ids (find (is_of_key key) old.devices) in
        let ids_are : ids ≡ all_device_ids leaves = ap gone_ids e ∙ sym (append-nil (ids_with d)) ∙ ap all_device_ids (sym one.0) in
        let left = left_there old new ids [] leaves stays old.seats r s (ids_are ∙ sym (append-nil (all_device_ids leaves))) going staying (λ n i. refl) (λ n i. refl) (λ n f. refl) w.there.seats w.there.seats_differ w.there.seats_below in
        devices_leave old new ids leaves stays old.seats r s going ids_are left before w
