-- A client takes a new device of a server, and it stands with what was held.
use Rattle.std.proofs.Common.{◌≡◌, ℕ, ◌+◌, ◌<◌, ◌≤◌, Bool, true, false, cond, eqb, ◌&&◌, ◌||◌, List, [], ◌∷◌, ◌++◌, map, length, Option, Some, None, refl, sym, ap, subst, ◌∙◌, append-nil, append_assoc, arith}
use Rattle.std.specs.Prelude.{is_some, find, nat_lt}
use Rattle.std.specs.List.{list_any, list_all, flat_map, filter_map}
use Rattle.std.specs.FinMap as finite
use Rattle.std.proofs.lemmas.Bool.{and_parts, eqb-true, eq-eqb, ne_eqb, lt-ltb, le-ltb}
use Rattle.std.proofs.lemmas.Option.{same_Some}
use Rattle.ei_spec.specs.declared.interface.KnownInterface.{KnownInterface}
use Rattle.ei_spec.specs.declared.interface.KnownInterface.TheVariants as known
use Rattle.ei_spec.specs.Interface.{ObjectView, Known, name_of}
use Rattle.ei_types.specs.Capability.{capabilities, has_bit, bits_of}
use Rattle.ei_types.specs.Enums.{device_type_number}
use Rattle.ei_types.specs.declared.capability.DeviceCapabilities.{DeviceCapabilities}
use Rattle.ei_types.specs.declared.enums.DeviceType.{DeviceType}
use Rattle.ei_session.specs.Inputs.{is_of_device}
use Rattle.ei_session.specs.Events.{interface_event}
use Rattle.ei_backend.specs.Table.{TableView, found}
use Rattle.ei_backend.specs.Endpoint.{Endpoint, endpoint_of}
use Rattle.ei_backend.proofs.Objects.{get_with}
use Rattle.ei_ends.specs.Sent.{Sent}
use Rattle.ei_reported.specs.Said.{Said, DeviceComes, DeviceHas, DeviceHasType, DeviceGets, Maps, said}
use Rattle.ei_steady.specs.Steady.{Held, Stands, GoesOn, NoneRefused, after, IsLess, Brought, NamesDiffer, brought_by, chosen, gets, name_if, Item, item_event, AreItems, device_events, with_device}
use Rattle.ei_steady.specs.Steady as steady
use Rattle.ei_steady.proofs.StandsOn.{less}
use Rattle.ei_steady.proofs.Comes as comes
use Rattle.ei_steady.proofs.Names.{names_differ}
use Rattle.ei_request.specs.declared.making.DeviceSetup.{DeviceSetup}
use Rattle.ei_request.specs.declared.making.DeviceSetup.TheVariants as setup
use Rattle.ei_request.specs.Held.{SeatView, DeviceView, is_device, is_seat, has_interface}
use Rattle.ei_request.specs.Connection.{ConnectionView, version_in}
use Rattle.ei_request.specs.Sending as sending
use Rattle.ei_request.specs.Making.{granted_by, granted_at, objects_of, object_of, is_one_of, announces_all, begins_device, new_device, AddsDevice}
use Rattle.ei_acts.specs.Events as event
use Rattle.ei_acts.specs.Acts.{named, device_version, interfaces_from, item, new_keyboard, add_device}
use Rattle.ei_acts.specs.Holding.{is_seat_interface, is_a_seat, device_id, held_by, said_by, StandsWith, KeepsSteady}
use Rattle.ei_acts.specs.There.{IdsDiffer, AllBelow, device_ids, interface_ids, seat_ids, AllInterfacesThere, IsInTable, AllInTable, AllSeatsThere, HoldsThere}
use Rattle.ei_acts.proofs.Parts.{not_both, differ_both}
use Rattle.ei_acts.proofs.Holds.{owner, all_interfaces, id_found, interface_found}
use Rattle.ei_acts.proofs.Staying.{devices_stay, seats_stay}
use Rattle.ei_acts.proofs.Steadying.{below, below_more, held_interface_below, held_device_below}

-- ---- what is said

-- an item that is told, and the keymap of a keyboard
abbrev items_of : Option ObjectView → List DeviceSetup → List Item
items_of keyboard [] = []
items_of keyboard (setup.Dimensions width height ∷ items) = steady.Plain ∷ items_of keyboard items
items_of keyboard (setup.RegionMappingId id ∷ items) = steady.Plain ∷ items_of keyboard items
items_of keyboard (setup.Region x y width hight scale ∷ items) = steady.Plain ∷ items_of keyboard items
items_of None (setup.Keymap kind size handle ∷ items) = items_of None items
items_of (Some k) (setup.Keymap kind size handle ∷ items) = steady.Mapped k.id ∷ items_of (Some k) items

says_items : (v device : ℕ) (keyboard : Option ObjectView) (items : List DeviceSetup) (more : List Sent) → said_by (flat_map (item v device keyboard) items ++ more) ≡ map (item_event device) (items_of keyboard items) ++ said_by more
unfolding said
says_items v device None [] more = refl
says_items v device (Some k) [] more = refl
says_items v device None (setup.Dimensions width height ∷ items) more = ap (λ (l : List Said). DeviceHas device ∷ l) (says_items v device None items more)
says_items v device (Some k) (setup.Dimensions width height ∷ items) more = ap (λ (l : List Said). DeviceHas device ∷ l) (says_items v device (Some k) items more)
says_items v device None (setup.RegionMappingId id ∷ items) more = ap (λ (l : List Said). DeviceHas device ∷ l) (says_items v device None items more)
says_items v device (Some k) (setup.RegionMappingId id ∷ items) more = ap (λ (l : List Said). DeviceHas device ∷ l) (says_items v device (Some k) items more)
says_items v device None (setup.Region x y width hight scale ∷ items) more = ap (λ (l : List Said). DeviceHas device ∷ l) (says_items v device None items more)
says_items v device (Some k) (setup.Region x y width hight scale ∷ items) more = ap (λ (l : List Said). DeviceHas device ∷ l) (says_items v device (Some k) items more)
says_items v device None (setup.Keymap kind size handle ∷ items) more = says_items v device None items more
says_items v device (Some k) (setup.Keymap kind size handle ∷ items) more = ap (λ (l : List Said). Maps k.id ∷ l) (says_items v device (Some k) items more)

says_interfaces : (c : ConnectionView) (device id : ℕ) (is : List KnownInterface) (more : List Sent) → said_by (interfaces_from c device id is ++ more) ≡ gets device id (brought_by (version_in c.negotiated) is) ++ said_by more
unfolding said
says_interfaces c device id [] more = refl
says_interfaces c device id (i ∷ is) more = ap (λ (l : List Said). DeviceGets device id (name_of i) (version_in c.negotiated i) ∷ l) (says_interfaces c device (id + 1) is more)

says_name : (v device : ℕ) (name : Option (List ℕ)) (more : List Sent) → said_by (named (event.device_name v device) name ++ more) ≡ name_if (is_some name) (DeviceHas device) ++ said_by more
unfolding said
says_name v device None more = refl
says_name v device (Some name) more = refl

says_device : (c : ConnectionView) (seat : ObjectView) (name : Option (List ℕ)) (kind : DeviceType) (interfaces : List KnownInterface) (items : List DeviceSetup) →
    said_by (add_device c seat name kind interfaces items) ≡ device_events seat.id c.ctx.table.next_own (is_some name) (brought_by (version_in c.negotiated) interfaces) (items_of (new_keyboard c seat name interfaces) items)
unfolding said
says_device c seat name kind interfaces items =
    let v : ℕ = device_version c in let device : ℕ = c.ctx.table.next_own in
    let keyboard : Option ObjectView = new_keyboard c seat name interfaces in
    let last : List Sent = flat_map (item v device keyboard) items ++ (event.device_done v device ∷ []) in
    let middle : List Sent = interfaces_from c device (device + 1) interfaces ++ last in
    ap (λ (l : List Said). DeviceComes seat.id device ∷ l) (says_name v device name (event.device_type v device (device_type_number kind) ∷ middle)
    ∙ ap (λ (l : List Said). name_if (is_some name) (DeviceHas device) ++ (DeviceHasType device ∷ l)) (says_interfaces c device (device + 1) interfaces last
    ∙ ap (λ (l : List Said). gets device (device + 1) (brought_by (version_in c.negotiated) interfaces) ++ l) (says_items v device keyboard items (event.device_done v device ∷ []))))

-- ---- the keyboard's id

lies : (e : Endpoint) (versions : KnownInterface → ℕ) (is : List KnownInterface) (k : ObjectView) → object_of known.Keyboard (objects_of e versions is) ≡ Some k → (e.next_own ≤ k.id) × (k.id < e.next_own + length is)
lies e versions [] k h = absurd cc
lies e versions (i ∷ is) k h = by (is_one_of known.Keyboard (sending.next_object e i (versions i))) h (lies (record e { next_own = e.next_own + 1 }) versions is k)
  where
    by : (b : Bool) → cond b (Some (sending.next_object e i (versions i))) (object_of known.Keyboard (objects_of (record e { next_own = e.next_own + 1 }) versions is)) ≡ Some k →
        (object_of known.Keyboard (objects_of (record e { next_own = e.next_own + 1 }) versions is) ≡ Some k → (e.next_own + 1 ≤ k.id) × (k.id < e.next_own + 1 + length is)) → (e.next_own ≤ k.id) × (k.id < e.next_own + length (i ∷ is))
    by true f next = let same : e.next_own ≡ k.id = ap (λ (o : ObjectView). o.id) (same_Some (sending.next_object e i (versions i)) k f) in (omega (arith, same), omega (arith, same))
    by false f next = let r = next f in let l = r.0 in let u = r.1 in (omega (arith, l), omega (arith, u))

are_items : (device end : ℕ) (keyboard : Option ObjectView) → ((k : ObjectView) → keyboard ≡ Some k → (device < k.id) × (k.id < end)) → (items : List DeviceSetup) → AreItems device end (items_of keyboard items)
are_items device end None h [] = tt
are_items device end (Some k) h [] = tt
are_items device end None h (setup.Dimensions width height ∷ items) = are_items device end None h items
are_items device end (Some k) h (setup.Dimensions width height ∷ items) = are_items device end (Some k) h items
are_items device end None h (setup.RegionMappingId id ∷ items) = are_items device end None h items
are_items device end (Some k) h (setup.RegionMappingId id ∷ items) = are_items device end (Some k) h items
are_items device end None h (setup.Region x y width hight scale ∷ items) = are_items device end None h items
are_items device end (Some k) h (setup.Region x y width hight scale ∷ items) = are_items device end (Some k) h items
are_items device end None h (setup.Keymap kind size handle ∷ items) = are_items device end None h items
are_items device end (Some k) h (setup.Keymap kind size handle ∷ items) = let r = h k refl in (r.0, r.1, are_items device end (Some k) h items)

brought_length : (versions : KnownInterface → ℕ) (is : List KnownInterface) → length (brought_by versions is) ≡ length is
brought_length versions [] = refl
brought_length versions (i ∷ is) = let next = brought_length versions is in omega (arith, next)

-- ---- the interfaces that are granted

granted_differ : (versions : KnownInterface → ℕ) (o : Option SeatView) (wanted : DeviceCapabilities) → NamesDiffer (brought_by versions (granted_by o wanted))
granted_differ versions None wanted = tt
granted_differ versions (Some s) wanted = names_differ versions (λ bit. has_bit (bits_of s.capabilities) bit && has_bit (bits_of wanted) bit)

all_of_devices : list_all (λ (c : ℕ × KnownInterface). is_of_device c.1) capabilities ≡ true
all_of_devices = refl

some_of_devices : (test : ℕ × KnownInterface → Bool) (cs : List (ℕ × KnownInterface)) → list_all (λ (c : ℕ × KnownInterface). is_of_device c.1) cs ≡ true → list_all is_of_device (filter_map (λ (c : ℕ × KnownInterface). cond (test c) (Some c.1) None) cs) ≡ true
some_of_devices test [] h = refl
some_of_devices test (c ∷ cs) h =
    let parts = and_parts (is_of_device c.1) (list_all (λ (d : ℕ × KnownInterface). is_of_device d.1) cs) h in
    by (test c) refl parts.0 (some_of_devices test cs parts.1)
  where
    by : (b : Bool) → test c ≡ b → is_of_device c.1 ≡ true → list_all is_of_device (filter_map (λ (d : ℕ × KnownInterface). cond (test d) (Some d.1) None) cs) ≡ true →
        list_all is_of_device (filter_map (λ (d : ℕ × KnownInterface). cond (test d) (Some d.1) None) (c ∷ cs)) ≡ true
    by true e is next = rw (e, is) next
    by false e is next = rw e next

granted_of_devices : (o : Option SeatView) (wanted : DeviceCapabilities) → list_all is_of_device (granted_by o wanted) ≡ true
granted_of_devices None wanted = refl
granted_of_devices (Some s) wanted = some_of_devices (λ c. has_bit (bits_of s.capabilities) c.0 && has_bit (bits_of wanted) c.0) capabilities all_of_devices

-- ---- no seat more

no_seat : (k : KnownInterface) → is_of_device k ≡ true → (o : ObjectView) → o.interface ≡ Known k → is_a_seat (Some o) ≡ false
no_seat known.Seat h o e = absurd cc
no_seat k h o e = ap is_seat_interface e

one_more : (e : Endpoint) (k : KnownInterface) (v id : ℕ) → is_of_device k ≡ true → is_a_seat (finite.get (finite.insert e.objects e.next_own (sending.next_object e k v)) id) ≡ true → is_a_seat (finite.get e.objects id) ≡ true
one_more e k v id h g = by (eqb id e.next_own) (sym (ap is_a_seat (get_with e.objects e.next_own id (sending.next_object e k v))) ∙ g)
  where
    by : (b : Bool) → is_a_seat (cond b (Some (sending.next_object e k v)) (finite.get e.objects id)) ≡ true → is_a_seat (finite.get e.objects id) ≡ true
    by true f = absurd (not_both (is_a_seat (Some (sending.next_object e k v))) f (no_seat k h (sending.next_object e k v) refl))
    by false f = f

seats_kept : (e : Endpoint) (versions : KnownInterface → ℕ) (device : ℕ) (is : List KnownInterface) → list_all is_of_device is ≡ true → (id : ℕ) → is_a_seat (finite.get (announces_all e versions device is).objects id) ≡ true → is_a_seat (finite.get e.objects id) ≡ true
seats_kept e versions device [] h id g = g
seats_kept e versions device (i ∷ is) h id g =
    let parts = and_parts (is_of_device i) (list_all is_of_device is) h in
    let more : Endpoint = sending.announces e (interface_event device e.next_own i (versions i)) i (versions i) in
    one_more e i (versions i) id parts.0 (seats_kept more versions device is parts.1 id g)

device_no_seat : (e : Endpoint) (v id : ℕ) → is_a_seat (finite.get (finite.insert e.objects e.next_own (sending.next_object e known.Device v)) id) ≡ true → is_a_seat (finite.get e.objects id) ≡ true
device_no_seat e v id g = by (eqb id e.next_own) (sym (ap is_a_seat (get_with e.objects e.next_own id (sending.next_object e known.Device v))) ∙ g)
  where
    by : (b : Bool) → is_a_seat (cond b (Some (sending.next_object e known.Device v)) (finite.get e.objects id)) ≡ true → is_a_seat (finite.get e.objects id) ≡ true
    by true f = absurd cc
    by false f = f

next_after : (e : Endpoint) (versions : KnownInterface → ℕ) (device : ℕ) (is : List KnownInterface) → (announces_all e versions device is).next_own ≡ e.next_own + length is
next_after e versions device [] = omega arith
next_after e versions device (i ∷ is) = let next = next_after (sending.announces e (interface_event device e.next_own i (versions i)) i (versions i)) versions device is in omega (arith, next)

-- ---- the ids of a new device's interfaces

has_new : (e : Endpoint) (versions : KnownInterface → ℕ) (is : List KnownInterface) (id : ℕ) → list_any (λ (o : ObjectView). eqb o.id id) (objects_of e versions is) ≡ true → (e.next_own ≤ id) × (id < e.next_own + length is)
has_new e versions [] id h = absurd cc
has_new e versions (i ∷ is) id h = by (eqb e.next_own id) refl h (has_new (record e { next_own = e.next_own + 1 }) versions is id)
  where
    by : (b : Bool) → eqb e.next_own id ≡ b → (b || list_any (λ (o : ObjectView). eqb o.id id) (objects_of (record e { next_own = e.next_own + 1 }) versions is)) ≡ true →
        (list_any (λ (o : ObjectView). eqb o.id id) (objects_of (record e { next_own = e.next_own + 1 }) versions is) ≡ true → (e.next_own + 1 ≤ id) × (id < e.next_own + 1 + length is)) → (e.next_own ≤ id) × (id < e.next_own + length (i ∷ is))
    by true f g next = let same : e.next_own ≡ id = eqb-true e.next_own id f in (omega (arith, same), omega (arith, same))
    by false f g next = let r = next g in let l = r.0 in let u = r.1 in (omega (arith, l), omega (arith, u))

abbrev ids_in : List ObjectView → List ℕ
ids_in os = map (λ (o : ObjectView). o.id) os

not_below : (e : Endpoint) (versions : KnownInterface → ℕ) (is : List KnownInterface) (id : ℕ) → id < e.next_own → list_any (eqb id) (ids_in (objects_of e versions is)) ≡ false
not_below e versions [] id lt = refl
not_below e versions (i ∷ is) id lt =
    let apart : eqb id e.next_own ≡ false = ne_eqb id e.next_own (λ same. omega (arith, lt, same)) in
    rw apart (not_below (record e { next_own = e.next_own + 1 }) versions is id (omega (arith, lt)))

new_differ : (e : Endpoint) (versions : KnownInterface → ℕ) (is : List KnownInterface) → IdsDiffer (ids_in (objects_of e versions is))
new_differ e versions [] = tt
new_differ e versions (i ∷ is) = (not_below (record e { next_own = e.next_own + 1 }) versions is e.next_own (omega arith), new_differ (record e { next_own = e.next_own + 1 }) versions is)

-- ---- one device behind the others

ids_behind : (ds : List DeviceView) (d : DeviceView) → device_ids (ds ++ (d ∷ [])) ≡ device_ids ds ++ (d.device.proxy.id ∷ [])
ids_behind [] d = refl
ids_behind (x ∷ ds) d = ap (λ (l : List ℕ). x.device.proxy.id ∷ l) (ids_behind ds d)

interfaces_behind : (ds : List DeviceView) (d : DeviceView) → all_interfaces (ds ++ (d ∷ [])) ≡ all_interfaces ds ++ interface_ids d
interfaces_behind [] d = append-nil (interface_ids d)
interfaces_behind (x ∷ ds) d = ap (λ (l : List ℕ). interface_ids x ++ l) (interfaces_behind ds d) ∙ sym (append_assoc (interface_ids x) (all_interfaces ds) (interface_ids d))

device_behind : (ds : List DeviceView) (d : DeviceView) (id : ℕ) → is_some (find (is_device id) (ds ++ (d ∷ []))) ≡ true → is_device id d ≡ false → is_some (find (is_device id) ds) ≡ true
device_behind [] d id h n = sym (ap (λ (b : Bool). is_some (cond b (Some d) None)) n) ∙ h
device_behind (x ∷ ds) d id h n = by (is_device id x) h (λ g. device_behind ds d id g n)
  where
    by : (b : Bool) → is_some (cond b (Some x) (find (is_device id) (ds ++ (d ∷ [])))) ≡ true → (is_some (find (is_device id) (ds ++ (d ∷ []))) ≡ true → is_some (find (is_device id) ds) ≡ true) → is_some (cond b (Some x) (find (is_device id) ds)) ≡ true
    by true f next = refl
    by false f next = next f

-- the owner is the one before, or else the last
abbrev last_owner : ℕ → DeviceView → Option ℕ → Option ℕ
last_owner id d (Some device) = Some device
last_owner id d None = cond (has_interface id d) (Some d.device.proxy.id) None

owner_behind : (ds : List DeviceView) (d : DeviceView) (id : ℕ) → owner id (ds ++ (d ∷ [])) ≡ last_owner id d (owner id ds)
owner_behind [] d id = by (has_interface id d)
  where
    by : (b : Bool) → device_id (cond b (Some d) None) ≡ cond b (Some d.device.proxy.id) None
    by true = refl
    by false = refl
owner_behind (x ∷ ds) d id = by (has_interface id x) (owner_behind ds d id)
  where
    by : (b : Bool) → owner id (ds ++ (d ∷ [])) ≡ last_owner id d (owner id ds) → device_id (cond b (Some x) (find (has_interface id) (ds ++ (d ∷ [])))) ≡ last_owner id d (device_id (cond b (Some x) (find (has_interface id) ds)))
    by true next = refl
    by false next = next

none_some : (a : ℕ) → ◌≡◌ {A = Option ℕ} None (Some a) → ⊥
none_some a h = absurd cc

-- ---- what is in the table then

table_old : (e : Endpoint) (versions : KnownInterface → ℕ) (device : ℕ) (is : List KnownInterface) (id : ℕ) → id < e.next_own → finite.get (announces_all e versions device is).objects id ≡ finite.get e.objects id
table_old e versions device [] id lt = refl
table_old e versions device (i ∷ is) id lt =
    let o : ObjectView = sending.next_object e i (versions i) in
    let more : id < e.next_own + 1 = omega (arith, lt) in
    table_old (sending.announces e (interface_event device e.next_own i (versions i)) i (versions i)) versions device is id more
    ∙ get_with e.objects e.next_own id o ∙ ap (λ (b : Bool). cond b (Some o) (finite.get e.objects id)) (ne_eqb id e.next_own (λ same. omega (arith, lt, same)))

new_interfaces_there : (e f : Endpoint) (versions : KnownInterface → ℕ) (device : ℕ) (is : List KnownInterface) (t : TableView) → f.next_own ≡ e.next_own → ((id : ℕ) → found t id ≡ finite.get (announces_all e versions device is).objects id) →
    list_all is_of_device is ≡ true → AllInterfacesThere t (objects_of f versions is)
new_interfaces_there e f versions device [] t same is_so h = tt
new_interfaces_there e f versions device (i ∷ is) t same is_so h =
    let parts = and_parts (is_of_device i) (list_all is_of_device is) h in
    let o : ObjectView = sending.next_object e i (versions i) in
    let g : Endpoint = sending.announces e (interface_event device e.next_own i (versions i)) i (versions i) in
    let less_one : f.next_own < e.next_own + 1 = omega (arith, same) in
    let there : found t f.next_own ≡ Some o = is_so f.next_own ∙ table_old g versions device is f.next_own less_one ∙ get_with e.objects e.next_own f.next_own o
    ∙ ap (λ (b : Bool). cond b (Some o) (finite.get e.objects f.next_own)) (eq-eqb f.next_own e.next_own same) in (
      record { interface = i; of_device = parts.0; there = record { object = o; there = there; is = refl } },
      new_interfaces_there g (record f { next_own = f.next_own + 1 }) versions device is t (ap (λ (n : ℕ). n + 1) same) is_so parts.1,
    )

devices_behind : (t : TableView) (ds : List DeviceView) (d : DeviceView) → IsInTable t d → AllInTable t ds → AllInTable t (ds ++ (d ∷ []))
devices_behind t [] d i h = (i, tt)
devices_behind t (x ∷ ds) d i h = (h.0, devices_behind t ds d i h.1)

-- ---- the new device

module _ (old new : ConnectionView) (seat : ObjectView) (name : Option (List ℕ)) (kind : DeviceType) (wanted : DeviceCapabilities) (items : List DeviceSetup)
    (a : AddsDevice old seat name kind (granted_at old seat.id wanted) items new) where
  abbrev next : ℕ
  next = old.ctx.table.next_own

  abbrev interfaces : List KnownInterface
  interfaces = granted_at old seat.id wanted

  abbrev versions : KnownInterface → ℕ
  versions = version_in old.negotiated

  abbrev end : ℕ
  end = next + 1 + length (brought_by versions interfaces)

  abbrev behind_it : Endpoint
  behind_it = record (endpoint_of old.ctx) { next_own = next + 1 }

  abbrev it : DeviceView
  it = new_device (endpoint_of old.ctx) old.negotiated seat name interfaces

  devices_are : new.devices ≡ old.devices ++ (it ∷ [])
  devices_are = ap (λ (c : ConnectionView). c.devices) a.rest

  end_is : end ≡ next + 1 + length interfaces
  end_is = let l = brought_length versions interfaces in omega (arith, l)

  next_is : new.ctx.table.next_own ≡ end
  next_is =
      let later : new.ctx.table.next_own ≡ next + 1 + length interfaces = ap (λ (e : Endpoint). e.next_own) a.endpoint ∙ next_after (begins_device (endpoint_of old.ctx) seat.id (device_version old) name kind) versions next interfaces in
      later ∙ sym end_is

  of_devices : list_all is_of_device interfaces ≡ true
  of_devices = granted_of_devices (find (is_seat seat.id) old.seats) wanted

  seats_are : (id : ℕ) → is_a_seat (found new.ctx.table id) ≡ true → is_a_seat (found old.ctx.table id) ≡ true
  seats_are id h =
      device_no_seat (endpoint_of old.ctx) (device_version old) id
      (seats_kept (begins_device (endpoint_of old.ctx) seat.id (device_version old) name kind) versions next interfaces of_devices id
      (ap (λ (e : Endpoint). is_a_seat (finite.get e.objects id)) (sym a.endpoint) ∙ h))

  device_there : (id : ℕ) → is_some (find (is_device id) new.devices) ≡ true → cond (eqb next id) true (is_some (find (is_device id) old.devices)) ≡ true
  device_there id h = by (eqb next id) refl (ap (λ (ds : List DeviceView). is_some (find (is_device id) ds)) (sym devices_are) ∙ h)
    where
      by : (b : Bool) → eqb next id ≡ b → is_some (find (is_device id) (old.devices ++ (it ∷ []))) ≡ true → cond b true (is_some (find (is_device id) old.devices)) ≡ true
      by true e f = refl
      by false e f = device_behind old.devices it id f e

  -- an interface of a device before it has a smaller id, and one of its own lies behind its id
  interface_there : (before : List Said) → Stands before next (held_by old) → (id device : ℕ) → owner id new.devices ≡ Some device → cond (nat_lt next id && nat_lt id end) (Some next) (owner id old.devices) ≡ Some device
  interface_there before st id device h = by (owner id old.devices) refl (sym (ap (owner id) devices_are ∙ owner_behind old.devices it id) ∙ h)
    where
      own : (b : Bool) → has_interface id it ≡ b → cond b (Some next) None ≡ Some device → cond (nat_lt next id && nat_lt id end) (Some next) None ≡ Some device
      own true e f =
          let r = has_new behind_it versions interfaces id e in
          let l : next + 1 ≤ id = r.0 in let u : id < next + 1 + length interfaces = r.1 in let l2 = end_is in
          let low : nat_lt next id ≡ true = lt-ltb next id (omega (arith, l)) in
          let high : nat_lt id end ≡ true = lt-ltb id end (omega (arith, u, l2)) in
          ap (λ (b : Bool). cond (b && nat_lt id end) (Some next) None) low ∙ ap (λ (b : Bool). cond b (Some next) None) high ∙ f
      own false e f = absurd (none_some device f)

      by : (o : Option ℕ) → owner id old.devices ≡ o → last_owner id it o ≡ Some device → cond (nat_lt next id && nat_lt id end) (Some next) o ≡ Some device
      by (Some d) e f =
          let below = (st.interfaces id d e).below in
          let low : nat_lt next id ≡ false = le-ltb next id (omega (arith, below)) in
          ap (λ (b : Bool). cond (b && nat_lt id end) (Some next) (Some d)) low ∙ f
      by None e f = own (has_interface id it) refl f

  ids_differ : (before : List Said) → Stands before next (held_by old) → IdsDiffer (device_ids old.devices) → IdsDiffer (device_ids new.devices)
  ids_differ before st d = subst IdsDiffer (sym (ap device_ids devices_are ∙ ids_behind old.devices it)) (differ_both (device_ids old.devices) (next ∷ []) d (refl, tt) apart)
    where
      apart : (n : ℕ) → list_any (eqb n) (device_ids old.devices) ≡ true → list_any (eqb n) (next ∷ []) ≡ false
      apart n h =
          let below = (st.devices n (id_found n old.devices h)).0 in
          ap (λ (b : Bool). b || false) (ne_eqb n next (λ same. omega (arith, below, same)))

  interfaces_differ : (before : List Said) → Stands before next (held_by old) → IdsDiffer (all_interfaces old.devices) → IdsDiffer (all_interfaces new.devices)
  interfaces_differ before st d = subst IdsDiffer (sym (ap all_interfaces devices_are ∙ interfaces_behind old.devices it)) (differ_both (all_interfaces old.devices) (interface_ids it) d (new_differ behind_it versions interfaces) apart)
    where
      apart : (n : ℕ) → list_any (eqb n) (all_interfaces old.devices) ≡ true → list_any (eqb n) (interface_ids it) ≡ false
      apart n h =
          let o = interface_found n old.devices h in
          let below = (st.interfaces n o.0 o.1).below in
          not_below behind_it versions interfaces n (omega (arith, below))

  found_is : (id : ℕ) → found new.ctx.table id ≡ finite.get (announces_all (begins_device (endpoint_of old.ctx) seat.id (device_version old) name kind) versions next interfaces).objects id
  found_is id = ap (λ (e : Endpoint). finite.get e.objects id) a.endpoint

  found_first : (id : ℕ) → id < next + 1 → found new.ctx.table id ≡ cond (eqb id next) (Some (sending.next_object (endpoint_of old.ctx) known.Device (device_version old))) (found old.ctx.table id)
  found_first id lt = found_is id ∙ table_old (begins_device (endpoint_of old.ctx) seat.id (device_version old) name kind) versions next interfaces id lt
      ∙ get_with old.ctx.table.objects next id (sending.next_object (endpoint_of old.ctx) known.Device (device_version old))

  still : (n : ℕ) → n < next → found new.ctx.table n ≡ found old.ctx.table n
  still n lt = found_first n (omega (arith, lt)) ∙ ap (λ (b : Bool). cond b (Some (sending.next_object (endpoint_of old.ctx) known.Device (device_version old))) (found old.ctx.table n)) (ne_eqb n next (λ same. omega (arith, lt, same)))

  pub it_is_there : IsInTable new.ctx.table it
  it_is_there = record {
    interfaces = new_interfaces_there (begins_device (endpoint_of old.ctx) seat.id (device_version old) name kind) behind_it versions next interfaces new.ctx.table refl found_is of_devices;
    device = record {
      object = sending.next_object (endpoint_of old.ctx) known.Device (device_version old);
      there = found_first next (omega arith) ∙ ap (λ (b : Bool). cond b (Some (sending.next_object (endpoint_of old.ctx) known.Device (device_version old))) (found old.ctx.table next)) (eq-eqb next next refl);
      is = refl;
    };
  }

  device_added_there : (before : List Said) → StandsWith before old → HoldsThere new
  device_added_there before s =
      let seats_same : new.seats ≡ old.seats = ap (λ (c : ConnectionView). c.seats) a.rest in
      let up = next_is in let e = end_is in
      record {
        devices = subst (AllInTable new.ctx.table) (sym devices_are) (devices_behind new.ctx.table old.devices it it_is_there
            (devices_stay old.ctx.table new.ctx.table old.devices (λ n f i. still n (held_interface_below before old s n f)) (λ n f i. still n (held_device_below before old s n f)) s.there.devices));
        seats = subst (AllSeatsThere new.ctx.table) (sym seats_same) (seats_stay old.ctx.table new.ctx.table old.seats (λ n f i. still n (below next n (seat_ids old.seats) s.there.seats_below f)) s.there.seats);
        seats_differ = subst (λ (ss : List SeatView). IdsDiffer (seat_ids ss)) (sym seats_same) s.there.seats_differ;
        seats_below = subst (λ (ss : List SeatView). AllBelow new.ctx.table.next_own (seat_ids ss)) (sym seats_same) (below_more next new.ctx.table.next_own (seat_ids old.seats) (omega (arith, up, e)) s.there.seats_below);
      }

  keyboard_lies : (k : ObjectView) → new_keyboard old seat name interfaces ≡ Some k → (next < k.id) × (k.id < end)
  keyboard_lies k h = let r = lies behind_it versions interfaces k h in let l = r.0 in let u = r.1 in let e = end_is in (omega (arith, l), omega (arith, u, e))

  pub device_comes_steady : is_a_seat (found old.ctx.table seat.id) ≡ true → KeepsSteady (add_device old seat name kind interfaces items) old new
  device_comes_steady alive before s =
      let keyboard : Option ObjectView = new_keyboard old seat name interfaces in
      let bs : List Brought = brought_by versions interfaces in
      let ms : List Sent = add_device old seat name kind interfaces items in
      let g = subst (λ (l : List Said). GoesOn before l end (with_device next end (held_by old))) (sym (says_device old seat name kind interfaces items))
      (comes.device_comes before next seat.id (held_by old) (is_some name) bs (items_of keyboard items) s.stands alive (granted_differ versions (find (is_seat seat.id) old.seats) wanted) (are_items next end keyboard keyboard_lies items)) in
      let up = next_is in (
        g.taken,
        record {
          stands = less (after before (said_by ms)) end new.ctx.table.next_own (held_by new) (with_device next end (held_by old)) g.stands (record {
            seats = seats_are;
            devices = device_there;
            interfaces = λ id device e. interface_there before s.stands id device e;
          }) (omega (arith, up));
          devices = ids_differ before s.stands s.devices;
          interfaces = interfaces_differ before s.stands s.interfaces;
          there = device_added_there before s;
        },
      )

-- the same, by an object that has the seat's id
pub device_of_seat_steady : (old new : ConnectionView) (key seat : ObjectView) (name : Option (List ℕ)) (kind : DeviceType) (wanted : DeviceCapabilities) (items : List DeviceSetup) → AddsDevice old key name kind (granted_at old key.id wanted) items new →
    seat.id ≡ key.id → is_a_seat (found old.ctx.table key.id) ≡ true → KeepsSteady (add_device old seat name kind (granted_at old key.id wanted) items) old new
device_of_seat_steady old new key seat name kind wanted items a same alive before s =
    let is : List KnownInterface = granted_at old key.id wanted in
    let says : said_by (add_device old key name kind is items) ≡ said_by (add_device old seat name kind is items) =
    says_device old key name kind is items
    ∙ ap (λ (id : ℕ). device_events id old.ctx.table.next_own (is_some name) (brought_by (version_in old.negotiated) is) (items_of (new_keyboard old key name is) items)) (sym same)
    ∙ sym (says_device old seat name kind is items) in
    subst (λ (l : List Said). NoneRefused before l × StandsWith (after before l) new) says (device_comes_steady old new key name kind wanted items a alive before s)
