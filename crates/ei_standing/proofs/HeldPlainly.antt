-- What a plain message leaves of a converter that stands for a history.
use Rattle.std.proofs.Common.{◌≡◌, ◌≢◌, ℕ, ◌<◌, Bool, true, false, cond, ◌&&◌, eqb, List, [], ◌∷◌, length, Option, Some, None, refl, sym, ap, ◌∙◌, subst, arith}
use Rattle.std.specs.Prelude.{map, find, is_some, not, nat_eq, codes}
use Rattle.std.specs.Option.{option_map}
use Rattle.std.specs.List.{list_any, IsDistinct, AllByRecursion}
use Rattle.std.proofs.lemmas.Bool.{eqb-true}
use Rattle.std.proofs.lemmas.Bool.Decides.{nat_tests}
use Rattle.ei_spec.specs.declared.interface.KnownInterface.TheVariants as known
use Rattle.ei_spec.specs.Interface.{ObjectView}
use Rattle.ei_spec.specs.Message.{Raw}
use Rattle.ei_spec.specs.History.{each}
use Rattle.ei_spec.proofs.HistoryLaws.{occurs_before}
use Rattle.ei_spec.specs.Groups.{group, frames_made}
use Rattle.ei_backend.specs.Table.{TableView, found}
use Rattle.ei_session.specs.Setup.{Setup, seat_id}
use Rattle.ei_session.specs.Asked.{asks}
use Rattle.ei_session.specs.Handshake.{connected}
use Rattle.ei_session.specs.Devices.{seat_is_open}
use Rattle.ei_session.specs.Objects.{Entry, object, at_first, is_device as is_of_device, interfaces_left}
use Rattle.ei_session.specs.Touches.{is_down}
use Rattle.ei_session.specs.Refusals.{synced}
use Rattle.ei_session.specs.Requests.{slot}
use Rattle.ei_session.specs.NextIds.{next_own}
use Rattle.ei_session.specs.Kept.{Plainly}
use Rattle.ei_session.proofs.Choices.{none_some, some_is, not_both, not_true, and_false, turned}
use Rattle.ei_session.proofs.ObjectLaws.{object_is_introduced, device_above}
use Rattle.ei_session.proofs.ObjectShape as shape
use Rattle.ei_session.proofs.FirstObjects.{object_handshake}
use Rattle.ei_session.proofs.LeftInterfaces.{is_left, left_there, left_own}
use Rattle.ei_session.proofs.ReplyLaws.{not_synced}
use Rattle.ei_session.proofs.NextLaws.{own_connected, peer_other}
use Rattle.ei_session.proofs.SettledMapLaws.{connected_map}
use Rattle.ei_request.specs.Keys.{DeviceKey}
use Rattle.ei_request.specs.Held.{DeviceView, SeatView, is_device, has_interface}
use Rattle.ei_request.specs.Connection.{ConnectionView}
use Rattle.ei_request.specs.Converter.{ConverterView}
use Rattle.ei_standing.specs.Standing.{object_of, device_of, seat_held, was_named, IsDevice, IsHeldAt, RiseFrom, AreDevices, IsHeld}
use Rattle.ei_standing.proofs.RisingDevices.{all_found, all_of, find_same, find_nothing, find_mapped, rises_mapped}

-- ---- devices by their ids alone

any_id : (id : ℕ) (os : List ObjectView) → list_any (λ o. nat_eq o.id id) os ≡ list_any (nat_eq id) (map (λ o. o.id) os)
any_id id [] = refl
any_id id (o ∷ os) = rw (turned o.id id, any_id id os) refl

-- the interfaces that a held device has are those that its history left
pub has_left : (setup : Setup) (past : List Raw) (id d : ℕ) (v : DeviceView) → IsDevice setup past d v → has_interface id v ≡ list_any (nat_eq id) (interfaces_left past d)
has_left setup past id d v h = any_id id v.interfaces ∙ ap (list_any (nat_eq id)) h.interfaces

-- of the devices' interfaces and of no other object there is an owner, and it is the device of the history
module _ (setup : Setup) (past : List Raw) (ds : List DeviceView) (rise : RiseFrom 0 ds) (each_one : (id : ℕ) → IsHeldAt setup past id (find (is_device id) ds)) where
  own_id : (id : ℕ) (v : DeviceView) → IsDevice setup past id v → v.device.proxy.id ≡ id
  own_id id v h = ap (λ (x : DeviceKey). x.proxy.id) h.device

  pub all_held : AllByRecursion (λ v. IsDevice setup past v.device.proxy.id v) ds
  all_held = all_found (λ v. IsDevice setup past v.device.proxy.id v) ds 0 rise (λ id v e.
      let h : IsDevice setup past id v = subst (IsHeldAt setup past id) e (each_one id) in
      subst (λ (n : ℕ). IsDevice setup past n v) (sym (own_id id v h)) h)

  not_itself : (id d : ℕ) (e : Entry) → object past id ≡ Some e → e.device ≡ Some d → is_of_device e.interface ≡ false → id ≢ d
  not_itself id d e k p i same =
      let o = shape.object_owner past id e d k p in
      let it : o.entry ≡ e = some_is o.entry e (sym o.is ∙ ap (object past) (sym same) ∙ k) in
      not_both (is_of_device e.interface) (ap (λ (x : Entry). is_of_device x.interface) (sym it) ∙ ap is_of_device o.kind) i

  owner_by : (id d : ℕ) (e : Entry) → object past id ≡ Some e → e.device ≡ Some d → is_of_device e.interface ≡ false → (v : DeviceView) (b : Bool) → is_device d v ≡ b → IsDevice setup past v.device.proxy.id v → has_interface id v ≡ b
  owner_by id d e k p i v true t h =
      let same : v.device.proxy.id ≡ d = eqb-true v.device.proxy.id d t in
      has_left setup past id v.device.proxy.id v h ∙ ap (λ (x : ℕ). list_any (nat_eq id) (interfaces_left past x)) same ∙ is_left past id d e k p (not_itself id d e k p i)
  owner_by id d e k p i v false t h = not_true (has_interface id v) (λ yes.
      let of_it : e.device ≡ Some v.device.proxy.id = left_own past v.device.proxy.id id e (sym (has_left setup past id v.device.proxy.id v h) ∙ yes) k in
      let same : v.device.proxy.id ≡ d = some_is v.device.proxy.id d (sym of_it ∙ p) in
      not_both (is_device d v) (let here : nat_eq v.device.proxy.id d ≡ true = grind (arith, nat_tests) in here) t)

  owner_none : (id : ℕ) → object past id ≡ None → (v : DeviceView) → IsDevice setup past v.device.proxy.id v → has_interface id v ≡ false
  owner_none id k v h = not_true (has_interface id v) (λ yes.
      let w = left_there past v.device.proxy.id id (sym (has_left setup past id v.device.proxy.id v h) ∙ yes) in
      none_some w.entry (sym k ∙ w.is))

  pub are_devices : AreDevices setup past ds
  are_devices = record {
    rise = rise;
    each_one = each_one;
    owners = λ id d e k p i. find_same (has_interface id) (is_device d) ds (all_of (λ v. IsDevice setup past v.device.proxy.id v) (λ v. has_interface id v ≡ is_device d v)
        (λ v h. owner_by id d e k p i v (is_device d v) refl h) ds all_held);
    no_owner = λ id k. find_nothing (has_interface id) ds (all_of (λ v. IsDevice setup past v.device.proxy.id v) (λ v. has_interface id v ≡ false) (owner_none id k) ds all_held);
  }

-- ---- the devices after a plain message, each changed in what waits and what is down

-- what a device holds of the messages is what it holds of one more
pub record Follows (setup : Setup) (past : List Raw) (m : Raw) (id : ℕ) (w : DeviceView) : Type 0 where
  pub waiting : w.waiting ≡ group id (each (slot setup) (m ∷ past))
  pub touches : (touch : ℕ) → list_any (nat_eq touch) w.touches ≡ is_down (m ∷ past) id touch
  pub once : IsDistinct nat_eq w.touches

module _ (setup : Setup) (past : List Raw) (m : Raw) (plain : Plainly setup past m) (f : DeviceView → DeviceView)
    (same_device : (v : DeviceView) → (f v).device ≡ v.device) (same_name : (v : DeviceView) → (f v).name ≡ v.name) (same_interfaces : (v : DeviceView) → (f v).interfaces ≡ v.interfaces)
    (follows : (id : ℕ) (v : DeviceView) → IsDevice setup past id v → Follows setup past m id (f v)) where
  device_more : (id : ℕ) → device_of (m ∷ past) id ≡ device_of past id
  device_more id = rw (plain.versions.same_version known.Seat, plain.versions.same_version known.Device) refl

  held_more : (id : ℕ) (o : Option DeviceView) → IsHeldAt setup past id o → IsHeldAt setup (m ∷ past) id (option_map f o)
  held_more id None h = rw (plain.keeps.same_objects id) h
  held_more id (Some v) h =
      let then = follows id v h in
      record {
        there = rw (plain.keeps.same_objects id) h.there;
        device = same_device v ∙ h.device ∙ sym (device_more id);
        unnamed = same_name v ∙ h.unnamed;
        interfaces = ap (map (λ o. o.id)) (same_interfaces v) ∙ h.interfaces ∙ sym (plain.keeps.same_left id);
        objects = λ i o q. ap (option_map (object_of i)) (plain.keeps.same_objects i) ∙ h.objects i o (sym (ap (find (λ x. nat_eq x.id i)) (same_interfaces v)) ∙ q);
        waiting = then.waiting;
        touches = then.touches;
        once = then.once;
      }

  found_more : (id : ℕ) (ds : List DeviceView) → find (is_device id) (map f ds) ≡ option_map f (find (is_device id) ds)
  found_more id ds = find_mapped (is_device id) f (λ v. ap (λ (d : DeviceKey). nat_eq d.proxy.id id) (same_device v)) ds

  pub devices_more : (ds : List DeviceView) → AreDevices setup past ds → AreDevices setup (m ∷ past) (map f ds)
  devices_more ds h = are_devices setup (m ∷ past) (map f ds) (rises_mapped f (λ v. ap (λ (d : DeviceKey). d.proxy.id) (same_device v)) ds 0 h.rise)
      (λ id. subst (IsHeldAt setup (m ∷ past) id) (sym (found_more id ds)) (held_more id (find (is_device id) ds) (h.each_one id)))

-- where nothing that waits and no touch changes, the devices are the same
module _ (setup : Setup) (past : List Raw) (m : Raw) (plain : Plainly setup past m) (same_group : (id : ℕ) → group id (each (slot setup) (m ∷ past)) ≡ group id (each (slot setup) past))
    (same_down : (id touch : ℕ) → is_down (m ∷ past) id touch ≡ is_down past id touch) where
  pub follows_same : (id : ℕ) (v : DeviceView) → IsDevice setup past id v → Follows setup past m id v
  follows_same id v h = record {
    waiting = rw (same_group id) h.waiting;
    touches = λ touch. h.touches touch ∙ sym (same_down id touch);
    once = h.once;
  }

  all_same : (ds : List DeviceView) → map (λ v. v) ds ≡ ds
  all_same [] = refl
  all_same (v ∷ ds) = ap (λ (xs : List DeviceView). v ∷ xs) (all_same ds)

  pub devices_same : (ds : List DeviceView) → AreDevices setup past ds → AreDevices setup (m ∷ past) ds
  devices_same ds h = subst (AreDevices setup (m ∷ past)) (all_same ds) (devices_more setup past m plain (λ v. v) (λ v. refl) (λ v. refl) (λ v. refl) follows_same ds h)

-- ---- the rest after a plain message

-- what the history doesn't tell by devices is the same of two connections
pub record KeepsHandle (old new : ConnectionView) : Type 0 where
  pub table : new.ctx.table ≡ old.ctx.table
  pub closed : new.ctx.closed ≡ old.ctx.closed
  pub unsent_handles : new.ctx.unsent_handles ≡ old.ctx.unsent_handles
  pub proxy : new.proxy ≡ old.proxy
  pub name : new.name ≡ old.name
  pub negotiated : new.negotiated ≡ old.negotiated
  pub last_serial : new.last_serial ≡ old.last_serial
  pub seats : new.seats ≡ old.seats
  pub disconnected : new.disconnected ≡ old.disconnected

-- a connection is kept by itself, whatever becomes of its devices
pub keeps_itself : (old : ConnectionView) (ds : List DeviceView) → KeepsHandle old (record old { devices = ds })
keeps_itself old ds = record {
  table = refl;
  closed = refl;
  unsent_handles = refl;
  proxy = refl;
  name = refl;
  negotiated = refl;
  last_serial = refl;
  seats = refl;
  disconnected = refl;
}

-- the seat stays what it was where its object does
pub same_seat : (setup : Setup) (past : List Raw) (m : Raw) → Plainly setup past m → seat_held setup (m ∷ past) ≡ seat_held setup past
same_seat setup past m plain =
    let still : seat_is_open (m ∷ past) ≡ seat_is_open past = sym (shape.object_seat (m ∷ past)) ∙ ap is_some (plain.keeps.same_objects seat_id) ∙ shape.object_seat past in
    rw (plain.versions.same_version known.Seat, still) refl

same_own : (setup : Setup) (past : List Raw) (m : Raw) → Plainly setup past m → next_own (m ∷ past) ≡ next_own past
same_own setup past m plain = own_connected (m ∷ past) (plain.keeps.same_connected ∙ plain.on) ∙ plain.keeps.same_next ∙ sym (own_connected past plain.on)

pub held_plainly : (setup : Setup) (past : List Raw) (m : Raw) (old_readings readings : List ℕ) (c new : ConverterView) → Plainly setup past m → IsHeld setup past old_readings c → KeepsHandle c.handle new.handle →
    synced past m ≡ None → was_named (m ∷ past) ≡ was_named past → AreDevices setup (m ∷ past) new.handle.devices → length readings ≡ frames_made (each (slot setup) (m ∷ past)) →
    IsHeld setup (m ∷ past) readings new
held_plainly setup past m old_readings readings c new plain h same quiet unnamed devices frames = record {
  lawful = h.lawful;
  connected = plain.keeps.same_connected ∙ plain.on;
  server = ap (λ (t : TableView). t.client) same.table ∙ h.server;
  opened = same.closed ∙ h.opened;
  no_handles = same.unsent_handles ∙ h.no_handles;
  objects = λ id. ap (λ (t : TableView). found t id) same.table ∙ h.objects id ∙ ap (option_map (object_of id)) (sym (plain.keeps.same_objects id));
  own = ap (λ (t : TableView). t.next_own) same.table ∙ h.own ∙ sym (same_own setup past m plain);
  peer = ap (λ (t : TableView). t.next_peer) same.table ∙ h.peer ∙ sym (peer_other past m quiet);
  proxy = same.proxy ∙ h.proxy;
  name = ap is_some same.name ∙ h.name ∙ sym unnamed;
  versions = same.negotiated ∙ h.versions ∙ sym (connected_map past m plain.on);
  serial = same.last_serial ∙ h.serial ∙ sym plain.keeps.same_serial;
  seats = same.seats ∙ h.seats ∙ ap (λ (s : SeatView). s ∷ []) (sym (same_seat setup past m plain));
  devices = devices;
  going_on = same.disconnected ∙ h.going_on;
  frames = frames;
}

-- ---- what no request to what is there changes

-- after the finish object 0 is gone
pub not_zero : (past : List Raw) (id : ℕ) (e : Entry) → connected past ≡ true → object past id ≡ Some e → id ≢ 0
not_zero past id e on k zero_is =
    let none : object past 0 ≡ None = object_handshake past ∙ ap (λ (b : Bool). cond b None (at_first 0)) on in
    none_some e (sym none ∙ ap (object past) (sym zero_is) ∙ k)

-- a message of the handshake that tells a name
abbrev tells_name : List Raw → Raw → Bool
tells_name before m = not (connected before) && (eqb m.id 0 && asks known.Handshake (codes "name") m)

pub same_name : (past : List Raw) (m : Raw) → m.id ≢ 0 → was_named (m ∷ past) ≡ was_named past
same_name past m far =
    let other : eqb m.id 0 ≡ false = grind (arith, nat_tests, far) in
    occurs_before tells_name past m (rw other (and_false (not (connected past))))

-- a request to a device, or to an interface of one, announces no callback
pub device_synced : (past : List Raw) (m : Raw) (e : Entry) (d : ℕ) → object past m.id ≡ Some e → e.device ≡ Some d → synced past m ≡ None
device_synced past m e d k p =
    let above : seat_id < m.id = device_above past m.id e d (object_is_introduced past m.id e k) p in
    not_synced past m (λ same. omega (arith, above, same))
