-- What a connection holds, as devices change and interfaces go.
use Rattle.std.proofs.Common.{◌≡◌, ℕ, ◌≤◌, Bool, true, false, cond, eqb, ◌||◌, List, [], ◌∷◌, ◌++◌, map, Option, Some, None, refl, sym, ap, subst, ◌∙◌}
use Rattle.std.specs.Prelude.{is_some, find}
use Rattle.std.specs.List.{list_any, flat_map}
use Rattle.std.proofs.lemmas.Bool.{eqb-true}
use Rattle.ei_spec.specs.Interface.{ObjectView}
use Rattle.ei_spec.specs.declared.interface.KnownInterface.TheVariants as known
use Rattle.ei_backend.specs.Table.{TableView, found}
use Rattle.ei_input.specs.declared.input_event.InputEvent.{InputEvent}
use Rattle.ei_input.specs.declared.input_event.InputEvent.TheVariants.{TouchDown, TouchMotion, TouchUp, TouchCancel}
use Rattle.ei_reported.specs.Said.{Said}
use Rattle.ei_steady.proofs.StandsOn.{less}
use Rattle.ei_request.specs.Keys.{DeviceKey}
use Rattle.ei_request.specs.Held.{DeviceView, is_device, has_interface, has_touch, changed_first, without_first, without_interface, takes_input, with_input, without_touch}
use Rattle.ei_request.specs.Connection.{ConnectionView}
use Rattle.ei_acts.specs.Holding.{is_a_seat, device_id, held_by, StandsWith}
use Rattle.ei_acts.specs.There.{device_ids, IdsDiffer, interface_ids, IsThere, AllInterfacesThere, AllInTable, HoldsThere}
use Rattle.ei_acts.proofs.Parts.{eqb_turned, IsPart, part_same, part_both, part_without, differ_last, differ_first, differ_apart, none_first, none_last}

-- the device that has the interface
abbrev pub owner : ℕ → List DeviceView → Option ℕ
owner id ds = device_id (find (has_interface id) ds)

abbrev pub all_interfaces : List DeviceView → List ℕ
all_interfaces ds = flat_map interface_ids ds

-- ---- devices that change, but for their ids and their interfaces

pub record AreSame (ds es : List DeviceView) : Type 0 where
  pub ids : device_ids es ≡ device_ids ds
  pub interfaces : all_interfaces es ≡ all_interfaces ds
  pub devices : (id : ℕ) → is_some (find (is_device id) es) ≡ is_some (find (is_device id) ds)
  pub owners : (id : ℕ) → owner id es ≡ owner id ds
  pub in_table : (t : TableView) → AllInTable t ds → AllInTable t es

pub all_same : (ds : List DeviceView) → AreSame ds ds
all_same ds = record { ids = refl; interfaces = refl; devices = λ id. refl; owners = λ id. refl; in_table = λ t h. h }

-- it is the same device with the same interfaces
pub record IsSameDevice (d e : DeviceView) : Type 0 where
  pub device : e.device ≡ d.device
  pub interfaces : e.interfaces ≡ d.interfaces

some_either : (b c : Bool) (d e : DeviceView) (rest : Option DeviceView) → c ≡ b → is_some (cond c (Some e) rest) ≡ is_some (cond b (Some d) rest)
some_either b true d e rest h = ap (λ (x : Bool). is_some (cond x (Some d) rest)) h
some_either b false d e rest h = ap (λ (x : Bool). is_some (cond x (Some d) rest)) h

owner_either : (b c : Bool) (d e : DeviceView) (rest : Option DeviceView) → c ≡ b → e.device ≡ d.device → device_id (cond c (Some e) rest) ≡ device_id (cond b (Some d) rest)
owner_either b true d e rest h k = ap (λ (x : DeviceKey). Some x.proxy.id) k ∙ ap (λ (x : Bool). device_id (cond x (Some d) rest)) h
owner_either b false d e rest h k = ap (λ (x : Bool). device_id (cond x (Some d) rest)) h

first_same : (d e : DeviceView) (ds : List DeviceView) → IsSameDevice d e → AreSame (d ∷ ds) (e ∷ ds)
first_same d e ds s = record {
  ids = ap (λ (k : DeviceKey). k.proxy.id ∷ device_ids ds) s.device;
  interfaces = ap (λ (os : List ObjectView). map (λ (o : ObjectView). o.id) os ++ all_interfaces ds) s.interfaces;
  devices = λ id. some_either (is_device id d) (is_device id e) d e (find (is_device id) ds) (ap (λ (k : DeviceKey). eqb k.proxy.id id) s.device);
  owners = λ id. owner_either (has_interface id d) (has_interface id e) d e (find (has_interface id) ds) (ap (λ (os : List ObjectView). list_any (λ (o : ObjectView). eqb o.id id) os) s.interfaces) s.device;
  in_table = λ t h. (
    record {
      interfaces = subst (AllInterfacesThere t) (sym s.interfaces) h.0.interfaces;
      device = subst (λ (k : DeviceKey). IsThere t k.proxy.id known.Device) (sym s.device) h.0.device;
    },
    h.1,
  );
}

rest_same : (d : DeviceView) (ds es : List DeviceView) → AreSame ds es → AreSame (d ∷ ds) (d ∷ es)
rest_same d ds es s = record {
  ids = ap (λ (l : List ℕ). d.device.proxy.id ∷ l) s.ids;
  interfaces = ap (λ (l : List ℕ). interface_ids d ++ l) s.interfaces;
  devices = λ id. by (is_device id d) (find (is_device id) es) (find (is_device id) ds) (s.devices id);
  owners = λ id. its (has_interface id d) (find (has_interface id) es) (find (has_interface id) ds) (s.owners id);
  in_table = λ t h. (h.0, s.in_table t h.1);
}
  where
    by : (b : Bool) (r t : Option DeviceView) → is_some r ≡ is_some t → is_some (cond b (Some d) r) ≡ is_some (cond b (Some d) t)
    by true r t h = refl
    by false r t h = h

    its : (b : Bool) (r t : Option DeviceView) → device_id r ≡ device_id t → device_id (cond b (Some d) r) ≡ device_id (cond b (Some d) t)
    its true r t h = refl
    its false r t h = h

pub changed_same : (test : DeviceView → Bool) (change : DeviceView → DeviceView) → ((d : DeviceView) → IsSameDevice d (change d)) → (ds : List DeviceView) → AreSame ds (changed_first test change ds)
changed_same test change keeps [] = all_same []
changed_same test change keeps (d ∷ ds) = by (test d) (changed_same test change keeps ds)
  where
    by : (b : Bool) → AreSame ds (changed_first test change ds) → AreSame (d ∷ ds) (cond b (change d ∷ ds) (d ∷ changed_first test change ds))
    by true next = first_same d (change d) ds (keeps d)
    by false next = rest_same d ds (changed_first test change ds) next

pub input_same : (i : InputEvent) (d : DeviceView) → IsSameDevice d (takes_input i d)
input_same (TouchDown touch x y) d = record { device = refl; interfaces = refl }
input_same (TouchMotion touch x y) d = by (has_touch touch d)
  where
    by : (b : Bool) → IsSameDevice d (cond b (with_input (TouchMotion touch x y) d) d)
    by true = record { device = refl; interfaces = refl }
    by false = record { device = refl; interfaces = refl }
input_same (TouchUp touch) d = by (has_touch touch d)
  where
    by : (b : Bool) → IsSameDevice d (cond b (with_input (TouchUp touch) (without_touch touch d)) d)
    by true = record { device = refl; interfaces = refl }
    by false = record { device = refl; interfaces = refl }
input_same (TouchCancel touch) d = by (has_touch touch d)
  where
    by : (b : Bool) → IsSameDevice d (cond b (with_input (TouchCancel touch) (without_touch touch d)) d)
    by true = record { device = refl; interfaces = refl }
    by false = record { device = refl; interfaces = refl }
input_same i d = record { device = refl; interfaces = refl }

-- ---- a connection that holds no more

-- it holds the same devices, and no seat more, and all of it is there
pub record HoldsNoMore (old new : ConnectionView) : Type 0 where
  pub next : old.ctx.table.next_own ≤ new.ctx.table.next_own
  pub seats : (id : ℕ) → is_a_seat (found new.ctx.table id) ≡ true → is_a_seat (found old.ctx.table id) ≡ true
  pub devices : AreSame old.devices new.devices
  pub there : HoldsThere old → HoldsThere new

pub stands_on : (before : List Said) (old new : ConnectionView) → HoldsNoMore old new → StandsWith before old → StandsWith before new
stands_on before old new h s = record {
  stands = less before old.ctx.table.next_own new.ctx.table.next_own (held_by new) (held_by old) s.stands (record {
    seats = h.seats;
    devices = λ id e. sym (h.devices.devices id) ∙ e;
    interfaces = λ id device e. sym (h.devices.owners id) ∙ e;
  }) h.next;
  devices = subst IdsDiffer (sym h.devices.ids) s.devices;
  interfaces = subst IdsDiffer (sym h.devices.interfaces) s.interfaces;
  there = h.there s.there;
}

-- ---- an interface that goes

-- whether an id is among those of objects
pub has_by_ids : (id : ℕ) (os : List ObjectView) → list_any (λ (o : ObjectView). eqb o.id id) os ≡ list_any (eqb id) (map (λ (o : ObjectView). o.id) os)
has_by_ids id [] = refl
has_by_ids id (o ∷ os) = rw (eqb_turned o.id id) (ap (λ (b : Bool). eqb id o.id || b) (has_by_ids id os))

none_of_first : (n : ℕ) (a b : List ℕ) → list_any (eqb n) (a ++ b) ≡ false → (list_any (eqb n) a ≡ false) × (list_any (eqb n) b ≡ false)
none_of_first n a b h = (none_first n a b h, none_last n a b h)

-- an id that no device has
pub not_found : (id : ℕ) (ds : List DeviceView) → list_any (eqb id) (all_interfaces ds) ≡ false → find (has_interface id) ds ≡ None
not_found id [] h = refl
not_found id (d ∷ ds) h =
    let first = none_of_first id (interface_ids d) (all_interfaces ds) h in
    rw (has_by_ids id d.interfaces ∙ first.0) (not_found id ds first.1)

-- of those that differ each goes whole
gone_once : (i : ℕ) (os : List ObjectView) → IdsDiffer (map (λ (o : ObjectView). o.id) os) → list_any (λ (o : ObjectView). eqb o.id i) (without_first (λ (o : ObjectView). eqb o.id i) os) ≡ false
gone_once i [] h = refl
gone_once i (o ∷ os) h = by (eqb o.id i) refl (gone_once i os h.1)
  where
    by : (b : Bool) → eqb o.id i ≡ b → list_any (λ (p : ObjectView). eqb p.id i) (without_first (λ (p : ObjectView). eqb p.id i) os) ≡ false →
        list_any (λ (p : ObjectView). eqb p.id i) (cond b os (o ∷ without_first (λ (p : ObjectView). eqb p.id i) os)) ≡ false
    by true e next = has_by_ids i os ∙ subst (λ (k : ℕ). list_any (eqb k) (map (λ (p : ObjectView). p.id) os) ≡ false) (eqb-true o.id i e) h.0
    by false e next = rw e next

other_kept : (i j : ℕ) (os : List ObjectView) → eqb i j ≡ false → list_any (λ (o : ObjectView). eqb o.id j) (without_first (λ (o : ObjectView). eqb o.id i) os) ≡ list_any (λ (o : ObjectView). eqb o.id j) os
other_kept i j [] n = refl
other_kept i j (o ∷ os) n = by (eqb o.id i) refl (other_kept i j os n)
  where
    by : (b : Bool) → eqb o.id i ≡ b → list_any (λ (p : ObjectView). eqb p.id j) (without_first (λ (p : ObjectView). eqb p.id i) os) ≡ list_any (λ (p : ObjectView). eqb p.id j) os →
        list_any (λ (p : ObjectView). eqb p.id j) (cond b os (o ∷ without_first (λ (p : ObjectView). eqb p.id i) os)) ≡ list_any (λ (p : ObjectView). eqb p.id j) (o ∷ os)
    by true e next = sym (ap (λ (c : Bool). c || list_any (λ (p : ObjectView). eqb p.id j) os) (ap (λ (k : ℕ). eqb k j) (eqb-true o.id i e) ∙ n))
    by false e next = ap (λ (c : Bool). eqb o.id j || c) next

abbrev pub given_up : ℕ → List DeviceView → List DeviceView
given_up i ds = changed_first (has_interface i) (without_interface i) ds

pub owner_gone : (i : ℕ) (ds : List DeviceView) → IdsDiffer (all_interfaces ds) → owner i (given_up i ds) ≡ None
owner_gone i [] h = refl
owner_gone i (d ∷ ds) h = by (has_interface i d) refl (owner_gone i ds (differ_last (interface_ids d) (all_interfaces ds) h))
  where
    by : (b : Bool) → has_interface i d ≡ b → owner i (given_up i ds) ≡ None → owner i (cond b (without_interface i d ∷ ds) (d ∷ given_up i ds)) ≡ None
    by true e next =
        let away : has_interface i (without_interface i d) ≡ false = gone_once i d.interfaces (differ_first (interface_ids d) (all_interfaces ds) h) in
        let others = not_found i ds (differ_apart i (interface_ids d) (all_interfaces ds) h (sym (has_by_ids i d.interfaces) ∙ e)) in
        ap (λ (b : Bool). device_id (cond b (Some (without_interface i d)) (find (has_interface i) ds))) away ∙ ap device_id others
    by false e next = ap (λ (b : Bool). device_id (cond b (Some d) (find (has_interface i) (given_up i ds)))) e ∙ next

pub owner_kept : (i j : ℕ) (ds : List DeviceView) → eqb i j ≡ false → owner j (given_up i ds) ≡ owner j ds
owner_kept i j [] n = refl
owner_kept i j (d ∷ ds) n = by (has_interface i d) (owner_kept i j ds n)
  where
    by : (b : Bool) → owner j (given_up i ds) ≡ owner j ds → owner j (cond b (without_interface i d ∷ ds) (d ∷ given_up i ds)) ≡ owner j (d ∷ ds)
    by true next = owner_either (has_interface j d) (has_interface j (without_interface i d)) d (without_interface i d) (find (has_interface j) ds) (other_kept i j d.interfaces n) refl
    by false next = at (has_interface j d)
      where
        at : (c : Bool) → device_id (cond c (Some d) (find (has_interface j) (given_up i ds))) ≡ device_id (cond c (Some d) (find (has_interface j) ds))
        at true = refl
        at false = next

pub ids_given_up : (i : ℕ) (ds : List DeviceView) → device_ids (given_up i ds) ≡ device_ids ds
ids_given_up i [] = refl
ids_given_up i (d ∷ ds) = by (has_interface i d) (ids_given_up i ds)
  where
    by : (b : Bool) → device_ids (given_up i ds) ≡ device_ids ds → device_ids (cond b (without_interface i d ∷ ds) (d ∷ given_up i ds)) ≡ device_ids (d ∷ ds)
    by true next = refl
    by false next = ap (λ (l : List ℕ). d.device.proxy.id ∷ l) next

pub devices_given_up : (i id : ℕ) (ds : List DeviceView) → is_some (find (is_device id) (given_up i ds)) ≡ is_some (find (is_device id) ds)
devices_given_up i id [] = refl
devices_given_up i id (d ∷ ds) = by (has_interface i d) (devices_given_up i id ds)
  where
    by : (b : Bool) → is_some (find (is_device id) (given_up i ds)) ≡ is_some (find (is_device id) ds) → is_some (find (is_device id) (cond b (without_interface i d ∷ ds) (d ∷ given_up i ds))) ≡ is_some (find (is_device id) (d ∷ ds))
    by true next = some_either (is_device id d) (is_device id d) d (without_interface i d) (find (is_device id) ds) refl
    by false next = at (is_device id d)
      where
        at : (c : Bool) → is_some (cond c (Some d) (find (is_device id) (given_up i ds))) ≡ is_some (cond c (Some d) (find (is_device id) ds))
        at true = refl
        at false = next

pub part_given_up : (i : ℕ) (ds : List DeviceView) → IsPart (all_interfaces (given_up i ds)) (all_interfaces ds)
part_given_up i [] = refl
part_given_up i (d ∷ ds) = by (has_interface i d) (part_given_up i ds)
  where
    by : (b : Bool) → IsPart (all_interfaces (given_up i ds)) (all_interfaces ds) → IsPart (all_interfaces (cond b (without_interface i d ∷ ds) (d ∷ given_up i ds))) (all_interfaces (d ∷ ds))
    by true next = part_both (interface_ids (without_interface i d)) (interface_ids d) (all_interfaces ds) (all_interfaces ds) (part_without (λ (o : ObjectView). eqb o.id i) (λ (o : ObjectView). o.id) d.interfaces) (part_same (all_interfaces ds))
    by false next = part_both (interface_ids d) (interface_ids d) (all_interfaces (given_up i ds)) (all_interfaces ds) (part_same (interface_ids d)) next

-- ---- what is among them is found

-- an id that a device has is found
pub id_found : (n : ℕ) (ds : List DeviceView) → list_any (eqb n) (device_ids ds) ≡ true → is_some (find (is_device n) ds) ≡ true
id_found n [] h = absurd cc
id_found n (d ∷ ds) h = by (eqb n d.device.proxy.id) (eqb_turned d.device.proxy.id n) h (id_found n ds)
  where
    by : (b : Bool) → eqb d.device.proxy.id n ≡ b → (b || list_any (eqb n) (device_ids ds)) ≡ true → (list_any (eqb n) (device_ids ds) ≡ true → is_some (find (is_device n) ds) ≡ true) → is_some (find (is_device n) (d ∷ ds)) ≡ true
    by true e f next = ap (λ (c : Bool). is_some (cond c (Some d) (find (is_device n) ds))) e
    by false e f next = ap (λ (c : Bool). is_some (cond c (Some d) (find (is_device n) ds))) e ∙ next f

any_either : (n : ℕ) (a b : List ℕ) → list_any (eqb n) (a ++ b) ≡ (list_any (eqb n) a || list_any (eqb n) b)
any_either n [] b = refl
any_either n (x ∷ a) b = by (eqb n x) (any_either n a b)
  where
    by : (c : Bool) → list_any (eqb n) (a ++ b) ≡ (list_any (eqb n) a || list_any (eqb n) b) → (c || list_any (eqb n) (a ++ b)) ≡ ((c || list_any (eqb n) a) || list_any (eqb n) b)
    by true h = refl
    by false h = h

pub interface_found : (n : ℕ) (ds : List DeviceView) → list_any (eqb n) (all_interfaces ds) ≡ true → (device : ℕ) × (owner n ds ≡ Some device)
interface_found n [] h = absurd cc
interface_found n (d ∷ ds) h = by (list_any (eqb n) (interface_ids d)) (has_by_ids n d.interfaces) (sym (any_either n (interface_ids d) (all_interfaces ds)) ∙ h) (interface_found n ds)
  where
    by : (b : Bool) → has_interface n d ≡ b → (b || list_any (eqb n) (all_interfaces ds)) ≡ true → (list_any (eqb n) (all_interfaces ds) ≡ true → (device : ℕ) × (owner n ds ≡ Some device)) → (device : ℕ) × (owner n (d ∷ ds) ≡ Some device)
    by true e f next = (d.device.proxy.id, ap (λ (c : Bool). device_id (cond c (Some d) (find (has_interface n) ds))) e)
    by false e f next = let r = next f in (r.0, ap (λ (c : Bool). device_id (cond c (Some d) (find (has_interface n) ds))) e ∙ r.1)
