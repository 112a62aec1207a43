-- What a connection holds stays in its table, as other objects come and go.
use Rattle.std.proofs.Common.{◌≡◌, ℕ, Bool, true, false, cond, eqb, ◌||◌, inl, inr, List, [], ◌∷◌, map, Option, Some, None, refl, sym, ap, subst, ◌∙◌}
use Rattle.std.specs.List.{list_any, filter}
use Rattle.std.specs.FinMap as finite
use Rattle.std.proofs.lemmas.Bool.{or_parts, eqb-true, eq-eqb}
use Rattle.std.proofs.lemmas.Option.{same_Some}
use Rattle.ei_spec.specs.declared.interface.KnownInterface.{KnownInterface}
use Rattle.ei_spec.specs.declared.interface.KnownInterface.TheVariants as known
use Rattle.ei_spec.specs.Interface.{Interface, Known, ObjectView}
use Rattle.ei_session.specs.Inputs.{is_of_device}
use Rattle.ei_backend.specs.Table.{TableView, found, without}
use Rattle.ei_backend.specs.Endpoint.{Endpoint}
use Rattle.ei_backend.proofs.Objects.{get_without}
use Rattle.ei_request.specs.Held.{SeatView, DeviceView, is_seat, has_interface, changed_first, released, without_first, without_interface, device_ids as ids_with, all_device_ids}
use Rattle.ei_request.specs.Connection.{next_serial}
use Rattle.ei_request.specs.Sending as sending
use Rattle.ei_acts.specs.There.{IdsDiffer, device_ids, interface_ids, seat_ids, IsThere, HasInterfaceThere, AllInterfacesThere, AllInTable, AllSeatsThere}
use Rattle.ei_acts.proofs.Parts.{not_both, or_first, or_last, any_in_both, none_in_both, none_first as first, none_last as last, different}
use Rattle.ei_acts.proofs.Holds.{all_interfaces}

-- ---- one object

pub moved : (t u : TableView) (id : ℕ) (k : KnownInterface) → found u id ≡ found t id → IsThere t id k → IsThere u id k
moved t u id k e h = record { object = h.object; there = e ∙ h.there; is = h.is }

pub moved_interface : (t u : TableView) (id : ℕ) → found u id ≡ found t id → HasInterfaceThere t id → HasInterfaceThere u id
moved_interface t u id e h = record { interface = h.interface; of_device = h.of_device; there = moved t u id h.interface e h.there }

-- an id has one interface
same_interface : (t : TableView) (a b : ℕ) (k j : KnownInterface) → IsThere t a k → IsThere t b j → a ≡ b → ◌≡◌ {A = Interface} (Known k) (Known j)
same_interface t a b k j h g e =
    let objects : ◌≡◌ {A = Option ObjectView} (Some h.object) (Some g.object) = sym h.there ∙ ap (found t) e ∙ g.there in
    sym h.is ∙ ap (λ (o : ObjectView). o.interface) (same_Some h.object g.object objects) ∙ g.is

pub other_id : (t : TableView) (a b : ℕ) (k j : KnownInterface) → IsThere t a k → IsThere t b j → (k ≡ j → ⊥) → eqb a b ≡ false
other_id t a b k j h g apart = by (eqb a b) refl
  where
    by : (c : Bool) → eqb a b ≡ c → c ≡ false
    by true e =
        let same = same_interface t a b k j h g (eqb-true a b e) in
        let it : k ≡ j = cc in
        absurd (apart it)
    by false e = refl

pub not_seat_of_device : (k : KnownInterface) → is_of_device k ≡ true → k ≡ known.Seat → ⊥
not_seat_of_device k h e = not_both (is_of_device k) h (ap is_of_device e)

pub not_device_of_device : (k : KnownInterface) → is_of_device k ≡ true → k ≡ known.Device → ⊥
not_device_of_device k h e = not_both (is_of_device k) h (ap is_of_device e)

not_callback_of_device : (k : KnownInterface) → is_of_device k ≡ true → k ≡ known.Callback → ⊥
not_callback_of_device k h e = not_both (is_of_device k) h (ap is_of_device e)

-- ---- several

interfaces_stay : (t u : TableView) (os : List ObjectView) → ((id : ℕ) → list_any (eqb id) (map (λ (o : ObjectView). o.id) os) ≡ true → HasInterfaceThere t id → found u id ≡ found t id) → AllInterfacesThere t os → AllInterfacesThere u os
interfaces_stay t u [] f h = tt
interfaces_stay t u (o ∷ os) f h = (
  moved_interface t u o.id (f o.id (or_first (eqb o.id o.id) (list_any (eqb o.id) (map (λ (p : ObjectView). p.id) os)) (eq-eqb o.id o.id refl)) h.0) h.0,
  interfaces_stay t u os (λ id g. f id (or_last (eqb id o.id) (list_any (eqb id) (map (λ (p : ObjectView). p.id) os)) g)) h.1,
)

pub devices_stay : (t u : TableView) (ds : List DeviceView) → ((id : ℕ) → list_any (eqb id) (all_interfaces ds) ≡ true → HasInterfaceThere t id → found u id ≡ found t id) →
    ((id : ℕ) → list_any (eqb id) (device_ids ds) ≡ true → IsThere t id known.Device → found u id ≡ found t id) → AllInTable t ds → AllInTable u ds
devices_stay t u [] f g h = tt
devices_stay t u (d ∷ ds) f g h = (
  record {
    interfaces = interfaces_stay t u d.interfaces (λ id e. f id (any_in_both id (interface_ids d) (all_interfaces ds) (inl e))) h.0.interfaces;
    device = moved t u d.device.proxy.id known.Device (g d.device.proxy.id (or_first (eqb d.device.proxy.id d.device.proxy.id) (list_any (eqb d.device.proxy.id) (device_ids ds)) (eq-eqb d.device.proxy.id d.device.proxy.id refl)) h.0.device) h.0.device;
  },
  devices_stay t u ds (λ id e. f id (any_in_both id (interface_ids d) (all_interfaces ds) (inr e))) (λ id e. g id (or_last (eqb id d.device.proxy.id) (list_any (eqb id) (device_ids ds)) e)) h.1,
)

pub seats_stay : (t u : TableView) (ss : List SeatView) → ((id : ℕ) → list_any (eqb id) (seat_ids ss) ≡ true → IsThere t id known.Seat → found u id ≡ found t id) → AllSeatsThere t ss → AllSeatsThere u ss
seats_stay t u [] f h = tt
seats_stay t u (s ∷ ss) f h = (
  (λ e. let k = h.0 e in moved t u s.proxy.id known.Seat (f s.proxy.id (or_first (eqb s.proxy.id s.proxy.id) (list_any (eqb s.proxy.id) (seat_ids ss)) (eq-eqb s.proxy.id s.proxy.id refl)) k) k),
  seats_stay t u ss (λ id e. f id (or_last (eqb id s.proxy.id) (list_any (eqb id) (seat_ids ss)) e)) h.1,
)

-- ---- one that goes

pub left_same : (t : TableView) (n id : ℕ) → eqb id n ≡ false → found (without t n) id ≡ found t id
left_same t n id e = get_without t.objects n id ∙ ap (λ (b : Bool). cond b None (found t id)) e

-- where a callback goes all that is held stays
pub callback_goes : (t : TableView) (n : ℕ) (ds : List DeviceView) (ss : List SeatView) → IsThere t n known.Callback → AllInTable t ds → AllSeatsThere t ss → AllInTable (without t n) ds × AllSeatsThere (without t n) ss
callback_goes t n ds ss g h k = (
  devices_stay t (without t n) ds (λ id e i. left_same t n id (other_id t id n i.interface known.Callback i.there g (not_callback_of_device i.interface i.of_device)))
      (λ id e i. left_same t n id (other_id t id n known.Device known.Callback i g (λ apart. absurd cc))) h,
  seats_stay t (without t n) ss (λ id e i. left_same t n id (other_id t id n known.Seat known.Callback i g (λ apart. absurd cc))) k,
)

-- where a seat goes the devices stay
pub seat_goes_devices : (t : TableView) (n : ℕ) (ds : List DeviceView) → IsThere t n known.Seat → AllInTable t ds → AllInTable (without t n) ds
seat_goes_devices t n ds g h =
    devices_stay t (without t n) ds (λ id e i. left_same t n id (other_id t id n i.interface known.Seat i.there g (not_seat_of_device i.interface i.of_device)))
    (λ id e i. left_same t n id (other_id t id n known.Device known.Seat i g (λ apart. absurd cc))) h

-- and the other seats
pub seats_released : (t : TableView) (n : ℕ) (ss : List SeatView) → IdsDiffer (seat_ids ss) → AllSeatsThere t ss → AllSeatsThere (without t n) (changed_first (is_seat n) released ss)
seats_released t n [] d h = tt
seats_released t n (s ∷ ss) d h = by (eqb s.proxy.id n) refl (seats_released t n ss d.1 h.1)
  where
    by : (b : Bool) → eqb s.proxy.id n ≡ b → AllSeatsThere (without t n) (changed_first (is_seat n) released ss) → AllSeatsThere (without t n) (cond b (released s ∷ ss) (s ∷ changed_first (is_seat n) released ss))
    by true e next =
        let none : list_any (eqb n) (seat_ids ss) ≡ false = subst (λ (k : ℕ). list_any (eqb k) (seat_ids ss) ≡ false) (eqb-true s.proxy.id n e) d.0 in
        ((λ f. absurd cc), seats_stay t (without t n) ss (λ id g i. left_same t n id (different id n (seat_ids ss) g none)) h.1)
    by false e next = ((λ f. moved t (without t n) s.proxy.id known.Seat (left_same t n s.proxy.id e) (h.0 f)), next)

pub ids_released : (n : ℕ) (ss : List SeatView) → seat_ids (changed_first (is_seat n) released ss) ≡ seat_ids ss
ids_released n [] = refl
ids_released n (s ∷ ss) = by (is_seat n s) (ids_released n ss)
  where
    by : (b : Bool) → seat_ids (changed_first (is_seat n) released ss) ≡ seat_ids ss → seat_ids (cond b (released s ∷ ss) (s ∷ changed_first (is_seat n) released ss)) ≡ seat_ids (s ∷ ss)
    by true next = refl
    by false next = ap (λ (l : List ℕ). s.proxy.id ∷ l) next

-- where an interface goes the seats stay
pub interface_goes_seats : (t : TableView) (n : ℕ) (ss : List SeatView) → HasInterfaceThere t n → AllSeatsThere t ss → AllSeatsThere (without t n) ss
interface_goes_seats t n ss g k = seats_stay t (without t n) ss (λ id e i. left_same t n id (other_id t id n known.Seat g.interface i g.there (λ apart. not_seat_of_device g.interface g.of_device (sym apart)))) k

without_there : (t : TableView) (n : ℕ) (os : List ObjectView) → AllInterfacesThere t os → AllInterfacesThere t (without_first (λ (o : ObjectView). eqb o.id n) os)
without_there t n [] h = tt
without_there t n (o ∷ os) h = by (eqb o.id n) (without_there t n os h.1)
  where
    by : (b : Bool) → AllInterfacesThere t (without_first (λ (p : ObjectView). eqb p.id n) os) → AllInterfacesThere t (cond b os (o ∷ without_first (λ (p : ObjectView). eqb p.id n) os))
    by true next = h.1
    by false next = (h.0, next)

pub given_up_there : (t : TableView) (n : ℕ) (ds : List DeviceView) → AllInTable t ds → AllInTable t (changed_first (has_interface n) (without_interface n) ds)
given_up_there t n [] h = tt
given_up_there t n (d ∷ ds) h = by (has_interface n d) (given_up_there t n ds h.1)
  where
    by : (b : Bool) → AllInTable t (changed_first (has_interface n) (without_interface n) ds) → AllInTable t (cond b (without_interface n d ∷ ds) (d ∷ changed_first (has_interface n) (without_interface n) ds))
    by true next = (record { interfaces = without_there t n d.interfaces h.0.interfaces; device = h.0.device }, h.1)
    by false next = (h.0, next)

-- ---- several that go

pub all_left_same : (e : Endpoint) (serial : ℕ) (ids : List ℕ) (id : ℕ) → list_any (eqb id) ids ≡ false → finite.get (sending.destroys_all e serial ids).objects id ≡ finite.get e.objects id
all_left_same e serial [] id h = refl
all_left_same e serial (n ∷ ids) id h =
    let parts = or_parts (eqb id n) (list_any (eqb id) ids) h in
    all_left_same (sending.destroys e n (next_serial serial)) (next_serial serial) ids id parts.1
    ∙ get_without e.objects n id ∙ ap (λ (b : Bool). cond b None (finite.get e.objects id)) parts.0

pub all_filtered : (t : TableView) (test : DeviceView → Bool) (ds : List DeviceView) → AllInTable t ds → AllInTable t (filter test ds)
all_filtered t test [] h = tt
all_filtered t test (d ∷ ds) h = by (test d) (all_filtered t test ds h.1)
  where
    by : (b : Bool) → AllInTable t (filter test ds) → AllInTable t (cond b (d ∷ filter test ds) (filter test ds))
    by true next = (h.0, next)
    by false next = next

-- an id is not among devices, or their interfaces, where the table has it as another
pub no_device : (t : TableView) (n : ℕ) (k : KnownInterface) (ds : List DeviceView) → IsThere t n k → (k ≡ known.Device → ⊥) → AllInTable t ds → list_any (eqb n) (device_ids ds) ≡ false
no_device t n k [] i apart h = refl
no_device t n k (d ∷ ds) i apart h = rw (other_id t n d.device.proxy.id k known.Device i h.0.device apart) (no_device t n k ds i apart h.1)

not_among : (t : TableView) (n : ℕ) (k : KnownInterface) (os : List ObjectView) → IsThere t n k → is_of_device k ≡ false → AllInterfacesThere t os → list_any (eqb n) (map (λ (o : ObjectView). o.id) os) ≡ false
not_among t n k [] i apart h = refl
not_among t n k (o ∷ os) i apart h = rw (other_id t n o.id k h.0.interface i h.0.there (λ e. not_both (is_of_device h.0.interface) h.0.of_device (sym (ap is_of_device e) ∙ apart))) (not_among t n k os i apart h.1)

pub no_interface : (t : TableView) (n : ℕ) (k : KnownInterface) (ds : List DeviceView) → IsThere t n k → is_of_device k ≡ false → AllInTable t ds → list_any (eqb n) (all_interfaces ds) ≡ false
no_interface t n k [] i apart h = refl
no_interface t n k (d ∷ ds) i apart h = none_in_both n (interface_ids d) (all_interfaces ds) (not_among t n k d.interfaces i apart h.0.interfaces) (no_interface t n k ds i apart h.1)

-- nor among all that goes with them
pub none_of_all : (n : ℕ) (ds : List DeviceView) → list_any (eqb n) (all_interfaces ds) ≡ false → list_any (eqb n) (device_ids ds) ≡ false → list_any (eqb n) (all_device_ids ds) ≡ false
none_of_all n [] f g = refl
none_of_all n (d ∷ ds) f g =
    let own = or_parts (eqb n d.device.proxy.id) (list_any (eqb n) (device_ids ds)) g in
    none_in_both n (ids_with d) (all_device_ids ds) (none_in_both n (interface_ids d) (d.device.proxy.id ∷ []) (first n (interface_ids d) (all_interfaces ds) f) (ap (λ (b : Bool). b || false) own.0))
    (none_of_all n ds (last n (interface_ids d) (all_interfaces ds) f) own.1)

-- ---- seats that stay

pub without_seat_there : (t : TableView) (n : ℕ) (ss : List SeatView) → AllSeatsThere t ss → AllSeatsThere t (without_first (is_seat n) ss)
without_seat_there t n [] h = tt
without_seat_there t n (s ∷ ss) h = by (is_seat n s) (without_seat_there t n ss h.1)
  where
    by : (b : Bool) → AllSeatsThere t (without_first (is_seat n) ss) → AllSeatsThere t (cond b ss (s ∷ without_first (is_seat n) ss))
    by true next = h.1
    by false next = (h.0, next)
