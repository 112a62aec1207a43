-- What becomes of what is kept is what becomes of it in the definitions.
use Rattle.std.proofs.Common.{◌≡◌, ℕ, Bool, true, false, cond, not, List, [], ◌∷◌, ◌++◌, Option, Some, None, refl, sym, ap, ◌∙◌, append_assoc, append-nil}
use Rattle.std.specs.Prelude.{map, is_some, IfSome}
use Rattle.std.specs.Option.{option_map}
use Rattle.std.specs.FinMap.{get, remove}
use Rattle.ei_spec.specs.Interface.{ObjectView, bytes_of}
use Rattle.ei_spec.specs.Groups.{Plain as Given}
use Rattle.ei_types.specs.declared.capability.DeviceCapability.{DeviceCapability}
use Rattle.ei_types.specs.declared.enums.DeviceType.{DeviceType}
use Rattle.ei_input.specs.declared.input_event.InputEvent.{InputEvent}
use Rattle.ei_by_id.specs.ById.{kept}
use Rattle.ei_reported.specs.Said.{Told, Frame}
use Rattle.ei_reported.specs.Standing.{Offer, offer}
use Rattle.ei_reported.specs.Reported.{Report, Plain, Device, SeatAdded, SeatRemoved, DeviceAdded, DeviceRemoved, KeyboardModifiers}
use Rattle.ei_following.specs.Core as core
use Rattle.ei_following.specs.Core.{SeatCore, DeviceCore, Core}
use Rattle.ei_event.specs.Keys.{DeviceKey}
use Rattle.ei_event.specs.declared.event.EiEvent.{EiEvent}
use Rattle.ei_event.specs.declared.event.EiEvent.TheVariants as told
use Rattle.ei_event.specs.declared.ending.Ending.{Ending}
use Rattle.ei_event.specs.declared.ending.Ending.TheVariants as ending
use Rattle.ei_event.specs.Kept.{SeatView, DeviceView, InterfaceView, KeptView, with_seat, queues, drops, owner, owner_of, is_other}
use Rattle.ei_event.specs.Kept.{new_seat, masked_seat, whole_seat, pending_seat, added_seat, new_device, typed, whole, with_input}
use Rattle.ei_event.specs.Kept.{pending_device, added_device}
use Rattle.ei_event.specs.Core.{ids_of, report_of, seat_core, device_core, offer_of, core_of}
use Rattle.ei_event.specs.Handling.{describes_seat, masks_seat, completes_seat, seat_goodbye, loses_seat, gains_device, describes, describes_owner, gains_interface}
use Rattle.ei_event.specs.Handling.{whole_or_dropped, completes, group_events, keeps_serial, hands_out, frames, ended, ends, loses_device, hears, hears_at, ends_at}
use Rattle.ei_event.specs.Handles.{holder_at, loses_interface}
use Rattle.ei_heeding.proofs.Seen.{seen_put, seen_out, again, in_and_out, seen_without_of, seen_without_named, map_joined}
use Rattle.ei_heeding.proofs.Reports.{reports_group}
use Rattle.ei_heeding.specs.Placed.{IsPlaced}

abbrev seats_of : KeptView → ℕ → Option SeatCore
seats_of c id = option_map seat_core (get c.seats id)

abbrev devices_of : KeptView → ℕ → Option DeviceCore
devices_of c id = option_map device_core (get c.devices id)

abbrev interfaces_of : KeptView → ℕ → Option Offer
interfaces_of c id = option_map offer_of (get c.interfaces id)

-- one more event is queued
queued : (c : KeptView) (e : EiEvent) → map report_of (c.queue ++ e ∷ []) ≡ map report_of c.queue ++ report_of e ∷ []
queued c e = map_joined report_of c.queue (e ∷ [])

-- ---- seats

pub seat_comes_is : (c : KeptView) (id : ℕ) → core_of (with_seat c id new_seat) ≡ core.put_seat (core_of c) id false
seat_comes_is c id = ap (λ (f : ℕ → Option SeatCore). record (core_of c) { seats = f }) (seen_put seat_core c.seats id new_seat)

pub seat_described : (c : KeptView) (id : ℕ) (change : SeatView → SeatView) → ((s : SeatView) → seat_core (change s) ≡ seat_core s) →
    core_of (describes_seat c id change (pending_seat (get c.seats id))) ≡ core_of c
seat_described c id change same = by (get c.seats id) refl
  where
    by : (o : Option SeatView) → get c.seats id ≡ o → core_of (describes_seat c id change (pending_seat o)) ≡ core_of c
    by None e = refl
    by (Some s) e = at s.added
      where
        at : (a : Bool) → core_of (describes_seat c id change (cond a None (Some s))) ≡ core_of c
        at true = refl
        at false = ap (λ (f : ℕ → Option SeatCore). record (core_of c) { seats = f }) (seen_put seat_core c.seats id (change s)
            ∙ ap (λ (y : SeatCore). core.put (seats_of c) id y) (same s) ∙ again (seats_of c) id (seat_core s) (ap (option_map seat_core) e))

pub seat_masked : (c : KeptView) (id mask : ℕ) (o : Option DeviceCapability) → core_of (masks_seat c id mask o) ≡ core_of c
seat_masked c id mask None = refl
seat_masked c id mask (Some capability) = seat_described c id (masked_seat capability mask) (λ s. refl)

pub seat_done_is : (c : KeptView) (seat : ObjectView) → core_of (completes_seat c seat (pending_seat (get c.seats seat.id))) ≡ core.seat_is_done (core_of c) seat.id (seats_of c seat.id)
seat_done_is c seat = by (get c.seats seat.id)
  where
    by : (o : Option SeatView) → core_of (completes_seat c seat (pending_seat o)) ≡ core.seat_is_done (core_of c) seat.id (option_map seat_core o)
    by None = refl
    by (Some s) = at s.added
      where
        at : (a : Bool) → core_of (completes_seat c seat (cond a None (Some s))) ≡ cond a (core_of c) (core.queues (core.put_seat (core_of c) seat.id true) (Given (SeatAdded seat.id) ∷ []))
        at true = refl
        at false = λ i. record (core_of c) { seats = seen_put seat_core c.seats seat.id (whole_seat s) i; queue = queued c (told.SeatAdded (record { seat = seat })) i }

pub seat_goes_is : (c : KeptView) (seat : ObjectView) (serial : ℕ) → core_of (loses_seat c seat serial) ≡ core.seat_is_gone (core_of c) seat.id serial (core.added_seat (seats_of c seat.id))
seat_goes_is c seat serial = by (get c.seats seat.id)
  where
    silent : record (core_of c) { seats = λ q. option_map seat_core (get (remove c.seats seat.id) q); serial = serial; queue = map report_of (c.queue ++ []) } ≡
        record (core_of c) { seats = core.take_out (seats_of c) seat.id; serial = serial }
    silent = λ i. record (core_of c) { seats = seen_out seat_core c.seats seat.id i; serial = serial; queue = ap (map report_of) (append-nil c.queue) i }

    told_so : record (core_of c) { seats = λ q. option_map seat_core (get (remove c.seats seat.id) q); serial = serial; queue = map report_of (c.queue ++ told.SeatRemoved (record { seat = seat }) ∷ []) } ≡
        record (core_of c) { seats = core.take_out (seats_of c) seat.id; serial = serial; queue = map report_of c.queue ++ Given (SeatRemoved seat.id) ∷ [] }
    told_so = λ i. record (core_of c) { seats = seen_out seat_core c.seats seat.id i; serial = serial; queue = queued c (told.SeatRemoved (record { seat = seat })) i }

    by : (o : Option SeatView) → core_of (record c { seats = remove c.seats seat.id; serial = serial; queue = c.queue ++ seat_goodbye seat (added_seat o) }) ≡
        core.seat_is_gone (core_of c) seat.id serial (core.added_seat (option_map seat_core o))
    by None = silent
    by (Some s) = at s.added
      where
        at : (a : Bool) → core_of (record c { seats = remove c.seats seat.id; serial = serial; queue = c.queue ++ seat_goodbye seat (cond a (Some s) None) }) ≡
            core.seat_is_gone (core_of c) seat.id serial a
        at true = told_so
        at false = silent

-- ---- devices that come, and how they are described

pub device_comes_is : (c : KeptView) (seat device : ObjectView) →
    core_of (gains_device c (record { seat = seat; proxy = device }) (added_seat (get c.seats seat.id))) ≡
    cond (core.added_seat (seats_of c seat.id)) (core.put_device (core_of c) device.id (core.new_device seat.id)) (core_of c)
device_comes_is c seat device = by (get c.seats seat.id)
  where
    key : DeviceKey
    key = record { seat = seat; proxy = device }

    by : (o : Option SeatView) → core_of (gains_device c key (added_seat o)) ≡ cond (core.added_seat (option_map seat_core o)) (core.put_device (core_of c) device.id (core.new_device seat.id)) (core_of c)
    by None = refl
    by (Some s) = at s.added
      where
        at : (a : Bool) → core_of (gains_device c key (cond a (Some s) None)) ≡ cond a (core.put_device (core_of c) device.id (core.new_device seat.id)) (core_of c)
        at true = ap (λ (f : ℕ → Option DeviceCore). record (core_of c) { devices = f }) (seen_put device_core c.devices device.id (new_device key))
        at false = refl

pub device_described : (c : KeptView) (id : ℕ) (change : DeviceView → DeviceView) → ((d : DeviceView) → device_core (change d) ≡ device_core d) →
    core_of (describes c id change (pending_device (get c.devices id))) ≡ core_of c
device_described c id change same = by (get c.devices id) refl
  where
    by : (o : Option DeviceView) → get c.devices id ≡ o → core_of (describes c id change (pending_device o)) ≡ core_of c
    by None e = refl
    by (Some d) e = at d.added
      where
        at : (a : Bool) → core_of (describes c id change (cond a None (Some d))) ≡ core_of c
        at true = refl
        at false = ap (λ (f : ℕ → Option DeviceCore). record (core_of c) { devices = f }) (seen_put device_core c.devices id (change d)
            ∙ ap (λ (y : DeviceCore). core.put (devices_of c) id y) (same d) ∙ again (devices_of c) id (device_core d) (ap (option_map device_core) e))

pub owner_described : (c : KeptView) (change : DeviceView → DeviceView) → ((d : DeviceView) → device_core (change d) ≡ device_core d) → (o : Option ℕ) →
    core_of (describes_owner c change o) ≡ core_of c
owner_described c change same None = refl
owner_described c change same (Some id) = device_described c id change same

pub device_typed_is : (c : KeptView) (id : ℕ) (kind : DeviceType) → core_of (describes c id (typed kind) (pending_device (get c.devices id))) ≡ core.device_has_type (core_of c) id (devices_of c id)
device_typed_is c id kind = by (get c.devices id)
  where
    by : (o : Option DeviceView) → core_of (describes c id (typed kind) (pending_device o)) ≡ core.device_has_type (core_of c) id (option_map device_core o)
    by None = refl
    by (Some d) = at d.added
      where
        at : (a : Bool) → core_of (describes c id (typed kind) (cond a None (Some d))) ≡ cond a (core_of c) (core.put_device (core_of c) id (record (device_core d) { typed = true }))
        at true = refl
        at false = ap (λ (f : ℕ → Option DeviceCore). record (core_of c) { devices = f }) (seen_put device_core c.devices id (typed kind d))

pub device_gets_is : (c : KeptView) (id : ℕ) (object : ObjectView) → core_of (gains_interface c id object (pending_device (get c.devices id))) ≡
    cond (core.pending_device (devices_of c id)) (record (core_of c) { interfaces = core.put (core.without_named id (bytes_of object.interface) (interfaces_of c)) object.id (offer id (bytes_of object.interface) object.version) }) (core_of c)
device_gets_is c id object = by (get c.devices id)
  where
    name : List ℕ
    name = bytes_of object.interface

    with_it : Core
    with_it = record (core_of c) { interfaces = core.put (core.without_named id (bytes_of object.interface) (interfaces_of c)) object.id (offer id (bytes_of object.interface) object.version) }

    by : (o : Option DeviceView) → core_of (gains_interface c id object (pending_device o)) ≡ cond (core.pending_device (option_map device_core o)) with_it (core_of c)
    by None = refl
    by (Some d) = at d.added
      where
        at : (a : Bool) → core_of (gains_interface c id object (cond a None (Some d))) ≡ cond (not a) with_it (core_of c)
        at true = refl
        at false = ap (λ (f : ℕ → Option Offer). record (core_of c) { interfaces = f }) (seen_put offer_of (kept (is_other id (bytes_of object.interface)) c.interfaces) object.id (record { device = id; object = object })
            ∙ ap (λ (f : ℕ → Option Offer). core.put f object.id (offer id (bytes_of object.interface) object.version)) (seen_without_named c.interfaces id (bytes_of object.interface)))

-- ---- devices that are done, and that go

pub drops_is : (c : KeptView) (id : ℕ) → core_of (drops c id) ≡ core.drops (core_of c) id
drops_is c id = λ i. record (core_of c) { devices = seen_out device_core c.devices id i; interfaces = seen_without_of c.interfaces id i }

-- a device under its own id, by its ids
same_ids : (id : ℕ) (d : DeviceView) → d.device.proxy.id ≡ id → ids_of d.device ≡ core.key_of id (device_core d)
same_ids id d place = ap (λ (n : ℕ). record { seat = d.device.seat.id; id = n }) place

pub device_done_is : (c : KeptView) (id : ℕ) → IfSome (get c.devices id) (λ d. d.device.proxy.id ≡ id) →
    core_of (completes c id (pending_device (get c.devices id))) ≡ core.device_is_done (core_of c) id (devices_of c id)
device_done_is c id = by (get c.devices id)
  where
    by : (o : Option DeviceView) → IfSome o (λ d. d.device.proxy.id ≡ id) → core_of (completes c id (pending_device o)) ≡ core.device_is_done (core_of c) id (option_map device_core o)
    by None place = refl
    by (Some d) place = at d.added
      where
        added : Core
        added = core.queues (core.put_device (core_of c) id (record (device_core d) { added = true })) (Given (DeviceAdded (core.key_of id (device_core d))) ∷ [])

        kinds : (k : Option DeviceType) → core_of (whole_or_dropped c id d k) ≡ cond (is_some k) added (core.drops (core_of c) id)
        kinds None = drops_is c id
        kinds (Some kind) = λ i. record (core_of c) {
          devices = seen_put device_core c.devices id (whole d) i;
          queue = (queued c (told.DeviceAdded (record { device = d.device })) ∙ ap (λ (key : Device). map report_of c.queue ++ Given (DeviceAdded key) ∷ []) (same_ids id d place)) i;
        }

        at : (a : Bool) → core_of (completes c id (cond a None (Some d))) ≡ cond a (core_of c) (cond (is_some d.kind) added (core.drops (core_of c) id))
        at true = refl
        at false = kinds d.kind

-- what waits is handed out with a frame
handed_is : (c : KeptView) (id : ℕ) (d : DeviceView) (serial time : ℕ) → d.device.proxy.id ≡ id → core_of (hands_out c id d serial time) ≡ core.frames (core_of c) id (device_core d) serial time
handed_is c id d serial time place = λ i. record (core_of c) {
  devices = seen_put device_core c.devices id (record d { waiting = [] }) i;
  serial = serial;
  queue = (map_joined report_of c.queue (group_events d.device d.waiting serial time)
      ∙ ap (λ (rs : List Report). map report_of c.queue ++ rs) (reports_group d.device d.waiting serial time ∙ ap (λ (key : Device). core.group_given key d.waiting serial time) (same_ids id d place))) i;
}

-- and then an event
ended_is : (c : KeptView) (id : ℕ) (d : DeviceView) (serial time : ℕ) (e : EiEvent) (y : Plain) → d.device.proxy.id ≡ id → report_of e ≡ Given y →
    core_of (queues (hands_out c id d serial time) (e ∷ [])) ≡ core.closes (core_of c) id (device_core d) serial time y
ended_is c id d serial time e y place r =
    let k : Core = core.frames (core_of c) id (device_core d) serial time in
    ap (λ (q : List Report). record (core_of (hands_out c id d serial time)) { queue = q }) (queued (hands_out c id d serial time) e)
    ∙ ap (λ (x : Core). record x { queue = x.queue ++ report_of e ∷ [] }) (handed_is c id d serial time place)
    ∙ ap (λ (z : Report). record k { queue = k.queue ++ z ∷ [] }) r
    ∙ ap (λ (q : List Report). record k { queue = q }) (append_assoc (map report_of c.queue) (core.group_given (core.key_of id (device_core d)) d.waiting serial time) (Given y ∷ []))

pub frame_is : (c : KeptView) (id serial sent time : ℕ) → IfSome (get c.devices id) (λ d. d.device.proxy.id ≡ id) →
    core_of (frames c id serial sent (added_device (get c.devices id))) ≡ core.device_tells (core_of c) id serial (Frame sent) time (devices_of c id)
frame_is c id serial sent time = by (get c.devices id)
  where
    by : (o : Option DeviceView) → IfSome o (λ d. d.device.proxy.id ≡ id) → core_of (frames c id serial sent (added_device o)) ≡ core.device_tells (core_of c) id serial (Frame sent) time (option_map device_core o)
    by None place = refl
    by (Some d) place = at d.added
      where
        at : (a : Bool) → core_of (frames c id serial sent (cond a (Some d) None)) ≡ cond a (core.frames (core_of c) id (device_core d) serial sent) (record (core_of c) { serial = serial })
        at true = handed_is c id d serial sent place
        at false = refl

-- what a device tells that ends a group: `y` is what it gives of a device by its ids
pub tells_is : (c : KeptView) (id serial time : ℕ) (e : Ending) (t : Told) (y : Device → Plain) → ((key : DeviceKey) → report_of (ended e serial key) ≡ Given (y (ids_of key))) →
    ((d : DeviceCore) → core.told_by (core_of c) id d serial t time ≡ core.closes (core_of c) id d serial time (y (core.key_of id d))) →
    (o : Option DeviceView) → IfSome o (λ d. d.device.proxy.id ≡ id) →
    core_of (ends c id serial time e (added_device o)) ≡ core.device_tells (core_of c) id serial t time (option_map device_core o)
tells_is c id serial time e t y r by_kind None place = refl
tells_is c id serial time e t y r by_kind (Some d) place = at d.added
  where
    at : (a : Bool) → core_of (ends c id serial time e (cond a (Some d) None)) ≡ cond a (core.told_by (core_of c) id (device_core d) serial t time) (record (core_of c) { serial = serial })
    at true = ended_is c id d serial time (ended e serial d.device) (y (core.key_of id (device_core d))) place (r d.device ∙ ap (λ (key : Device). Given (y key)) (same_ids id d place)) ∙ sym (by_kind (device_core d))
    at false = refl

pub device_goes_is : (c : KeptView) (id serial time : ℕ) → IsPlaced c → core_of (loses_device c id serial time) ≡ core.device_is_gone (core_of c) id serial time (devices_of c id)
device_goes_is c id serial time placed = by (get c.devices id) (placed id)
  where
    by : (o : Option DeviceView) → IfSome o (λ d. d.device.proxy.id ≡ id) →
        core_of (drops (ends c id serial time ending.Destroyed (added_device o)) id) ≡ core.device_is_gone (core_of c) id serial time (option_map device_core o)
    by None place = drops_is (keeps_serial c serial) id
    by (Some d) place = at d.added
      where
        at : (a : Bool) → core_of (drops (ends c id serial time ending.Destroyed (cond a (Some d) None)) id) ≡
            cond a (record (core.drops (core_of c) id) { serial = serial; queue = map report_of c.queue ++ (core.group_given (core.key_of id (device_core d)) d.waiting serial time ++ Given (DeviceRemoved (core.key_of id (device_core d))) ∷ []) })
            (record (core.drops (core_of c) id) { serial = serial })
        at true = drops_is (queues (hands_out c id d serial time) (ended ending.Destroyed serial d.device ∷ [])) id
            ∙ ap (λ (k : Core). core.drops k id) (ended_is c id d serial time (ended ending.Destroyed serial d.device) (DeviceRemoved (core.key_of id (device_core d))) place (ap (λ (key : Device). Given (DeviceRemoved key)) (same_ids id d place)))
            ∙ ap (λ (f : ℕ → Option DeviceCore). record (core.drops (core.closes (core_of c) id (device_core d) serial time (DeviceRemoved (core.key_of id (device_core d)))) id) { devices = f })
            (in_and_out (devices_of c) id (core.emptied (device_core d)))
        at false = drops_is (keeps_serial c serial) id

-- ---- interfaces

pub hears_is : (c : KeptView) (id : ℕ) (i : InputEvent) → core_of (hears_at c i (owner c id)) ≡ core.input_comes (core_of c) i (core.holder_in (core_of c) id)
hears_is c id i = by (get c.interfaces id)
  where
    by : (o : Option InterfaceView) → core_of (hears_at c i (owner_of o)) ≡ core.input_comes (core_of c) i (core.holder_of (core_of c) (option_map offer_of o))
    by None = refl
    by (Some x) = device (get c.devices x.device) refl
      where
        device : (o : Option DeviceView) → get c.devices x.device ≡ o → core_of (hears c x.device i (added_device o)) ≡
            core.input_comes (core_of c) i (cond (core.added_device (option_map device_core o)) (Some x.device) None)
        device None e = refl
        device (Some d) e = at d.added
          where
            at : (a : Bool) → core_of (hears c x.device i (cond a (Some d) None)) ≡ core.input_comes (core_of c) i (cond a (Some x.device) None)
            at true = ap (λ (f : ℕ → Option DeviceCore). record (core_of c) { devices = f }) (seen_put device_core c.devices x.device (with_input i d))
                ∙ ap (λ (p : Option DeviceView). core.waits_on (core_of c) x.device i (option_map device_core p)) (sym e)
            at false = refl

pub modifies_is : (c : KeptView) (id serial time depressed locked latched group : ℕ) → IsPlaced c →
    core_of (ends_at c serial time (ending.Modifiers depressed locked latched group) (owner c id)) ≡
    core.modifies (core_of c) serial depressed locked latched group time (core.holder_in (core_of c) id)
modifies_is c id serial time depressed locked latched group placed = by (get c.interfaces id)
  where
    by : (o : Option InterfaceView) → core_of (ends_at c serial time (ending.Modifiers depressed locked latched group) (owner_of o)) ≡
        core.modifies (core_of c) serial depressed locked latched group time (core.holder_of (core_of c) (option_map offer_of o))
    by None = refl
    by (Some x) = device (get c.devices x.device) refl (placed x.device)
      where
        device : (o : Option DeviceView) → get c.devices x.device ≡ o → IfSome o (λ d. d.device.proxy.id ≡ x.device) →
            core_of (ends c x.device serial time (ending.Modifiers depressed locked latched group) (added_device o)) ≡
            core.modifies (core_of c) serial depressed locked latched group time (cond (core.added_device (option_map device_core o)) (Some x.device) None)
        device None e place = refl
        device (Some d) e place = at d.added
          where
            at : (a : Bool) → core_of (ends c x.device serial time (ending.Modifiers depressed locked latched group) (cond a (Some d) None)) ≡
                core.modifies (core_of c) serial depressed locked latched group time (cond a (Some x.device) None)
            at true = ended_is c x.device d serial time (ended (ending.Modifiers depressed locked latched group) serial d.device)
                (KeyboardModifiers (core.key_of x.device (device_core d)) serial depressed latched locked group) place
                (ap (λ (key : Device). Given (KeyboardModifiers key serial depressed latched locked group)) (same_ids x.device d place))
                ∙ ap (λ (p : Option DeviceView). core.modified_at (core_of c) x.device serial depressed locked latched group time (option_map device_core p)) (sym e)
            at false = refl

pub goes_is : (c : KeptView) (freely : Bool) (id serial : ℕ) → core_of (loses_interface c freely id serial (holder_at c (owner c id))) ≡
    cond (is_some (core.holder_in (core_of c) id)) (record (core_of c) { interfaces = core.take_out (interfaces_of c) id; serial = serial })
    (cond freely (record (core_of c) { serial = serial }) (core_of c))
goes_is c freely id serial = by (get c.interfaces id)
  where
    leaves : Core
    leaves = record (core_of c) { interfaces = core.take_out (interfaces_of c) id; serial = serial }

    taken : core_of (record c { interfaces = remove c.interfaces id; serial = serial }) ≡ record (core_of c) { interfaces = core.take_out (interfaces_of c) id; serial = serial }
    taken = ap (λ (f : ℕ → Option Offer). record (core_of c) { interfaces = f; serial = serial }) (seen_out offer_of c.interfaces id)

    stays : (b : Bool) → core_of (cond b (keeps_serial c serial) c) ≡ cond b (record (core_of c) { serial = serial }) (core_of c)
    stays true = refl
    stays false = refl

    by : (o : Option InterfaceView) → core_of (loses_interface c freely id serial (holder_at c (owner_of o))) ≡
        cond (is_some (core.holder_of (core_of c) (option_map offer_of o))) leaves (cond freely (record (core_of c) { serial = serial }) (core_of c))
    by None = stays freely
    by (Some x) = device (get c.devices x.device)
      where
        device : (o : Option DeviceView) → core_of (loses_interface c freely id serial (added_device o)) ≡
            cond (is_some (cond (core.added_device (option_map device_core o)) (Some x.device) None)) leaves (cond freely (record (core_of c) { serial = serial }) (core_of c))
        device None = stays freely
        device (Some d) = at d.added
          where
            at : (a : Bool) → core_of (loses_interface c freely id serial (cond a (Some d) None)) ≡
                cond (is_some (cond a (Some x.device) None)) leaves (cond freely (record (core_of c) { serial = serial }) (core_of c))
            at true = taken
            at false = stays freely
