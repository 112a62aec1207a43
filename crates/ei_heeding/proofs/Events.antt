-- Every event does to what is kept what it does in the definitions, and each device still stands under its own id.
use Rattle.std.proofs.Common.{◌≡◌, ℕ, Bool, true, false, cond, eqb, List, [], ◌∷◌, ◌++◌, Option, Some, None, refl, sym, ap, ◌∙◌, subst}
use Rattle.std.specs.Prelude.{IfSome}
use Rattle.std.specs.Ordering.{nat_cmp, eq_by_cmp}
use Rattle.std.specs.Cmp.{nat_cmp_total, unsigned_tied}
use Rattle.std.specs.FinMap.{FinMap, get, insert, remove, get-insert, get-remove}
use Rattle.std.proofs.lemmas.Bool.{eqb-true}
use Rattle.ei_types.specs.Capability.{capability_named}
use Rattle.ei_types.specs.declared.capability.DeviceCapability.{DeviceCapability}
use Rattle.ei_types.specs.declared.enums.DeviceType.{DeviceType}
use Rattle.ei_input.specs.declared.input_event.InputEvent.{InputEvent}
use Rattle.ei_input.specs.declared.input_event.InputEvent.TheVariants as input
use Rattle.ei_input.specs.Inputs.{scroll_end}
use Rattle.ei_client.specs.declared.event.Event.{Event as Typed}
use Rattle.ei_client.specs.declared.event.Event.TheVariants as event
use Rattle.ei_client.specs.declared.connection.Event.TheVariants as connection
use Rattle.ei_client.specs.declared.seat.Event.TheVariants as seat
use Rattle.ei_client.specs.declared.device.Event.TheVariants as device
use Rattle.ei_client.specs.declared.pointer.Event.TheVariants as pointer
use Rattle.ei_client.specs.declared.pointer_absolute.Event.TheVariants as pointer_absolute
use Rattle.ei_client.specs.declared.scroll.Event.TheVariants as scroll
use Rattle.ei_client.specs.declared.button.Event.TheVariants as button
use Rattle.ei_client.specs.declared.keyboard.Event.TheVariants as keyboard
use Rattle.ei_client.specs.declared.touchscreen.Event.TheVariants as touchscreen
use Rattle.ei_client.specs.declared.text.Event.TheVariants as text
use Rattle.ei_client.specs.declared.gesture.Event.TheVariants as gesture
use Rattle.ei_reported.specs.Said.{Resumed, Paused, StartEmulating, StopEmulating}
use Rattle.ei_reported.specs.Reported.{Report, DevicePaused, DeviceResumed, DeviceStartEmulating, DeviceStopEmulating}
use Rattle.ei_following.specs.Core as core
use Rattle.ei_event.specs.Keys.{DeviceKey}
use Rattle.ei_event.specs.declared.event.EiEvent.TheVariants as told
use Rattle.ei_event.specs.declared.ending.Ending.{Ending}
use Rattle.ei_event.specs.declared.ending.Ending.TheVariants as ending
use Rattle.ei_event.specs.Typed.{said_of}
use Rattle.ei_event.specs.Kept.{DeviceView, SeatView, KeptView, named_seat, named, typed, sized, mapped, with_region, keyed_by, owner}
use Rattle.ei_event.specs.Kept.{pending_seat, added_seat, pending_device, added_device, whole}
use Rattle.ei_event.specs.Core.{report_of, core_of}
use Rattle.ei_event.specs.Handling.{describes, describes_owner, gains_device, gains_interface, completes, whole_or_dropped, frames, ends, ends_at, hears, hears_at}
use Rattle.ei_event.specs.Handling.{completes_seat, describes_seat, masks_seat}
use Rattle.ei_event.specs.Handles.{after, loses_interface, holder_at}
use Rattle.ei_heeding.specs.Placed.{IsPlaced}
use Rattle.ei_heeding.proofs.Seen.{map_joined}
use Rattle.ei_heeding.proofs.Arms.{seat_comes_is, seat_described, seat_masked, seat_done_is, seat_goes_is, device_comes_is, device_described, owner_described}
use Rattle.ei_heeding.proofs.Arms.{device_typed_is, device_gets_is, device_done_is, frame_is, tells_is, device_goes_is, hears_is, modifies_is, goes_is}

pub after_is : (c : KeptView) (e : Typed) (time : ℕ) → IsPlaced c → core_of (after c e time) ≡ core.after (core_of c) (said_of e) time
after_is c (event.Handshake t m) time p = refl
after_is c (event.Connection t (connection.Disconnected n why text)) time p =
    ap (λ (q : List Report). record (core_of c) { queue = q }) (map_joined report_of c.queue (told.Disconnected (record { last_serial = n; reason = why; explanation = text }) ∷ []))
after_is c (event.Connection t (connection.Seat new)) time p = seat_comes_is c new.id
after_is c (event.Connection t (connection.InvalidObject n id)) time p = refl
after_is c (event.Connection t (connection.Ping ping)) time p = refl
after_is c (event.Callback t m) time p = refl
after_is c (event.Seat t (seat.Destroyed n)) time p = seat_goes_is c t n
after_is c (event.Seat t (seat.Name name)) time p = seat_described c t.id (named_seat name) (λ s. refl)
after_is c (event.Seat t (seat.Capability mask interface)) time p = seat_masked c t.id mask (capability_named interface)
after_is c (event.Seat t seat.Done) time p = seat_done_is c t
after_is c (event.Seat t (seat.Device new)) time p = device_comes_is c t new
after_is c (event.Device t (device.Destroyed n)) time p = device_goes_is c t.id n time p
after_is c (event.Device t (device.Name name)) time p = device_described c t.id (named name) (λ d. refl)
after_is c (event.Device t (device.DeviceType kind)) time p = device_typed_is c t.id kind
after_is c (event.Device t (device.Dimensions width height)) time p = device_described c t.id (sized width height) (λ d. refl)
after_is c (event.Device t (device.Region x y width height scale)) time p =
    device_described c t.id (with_region (record { x = x; y = y; width = width; height = height; scale = scale; mapping_id = None })) (λ d. refl)
after_is c (event.Device t (device.Interface new)) time p = device_gets_is c t.id new
after_is c (event.Device t device.Done) time p = device_done_is c t.id (p t.id)
after_is c (event.Device t (device.Resumed n)) time p = tells_is c t.id n time ending.Resumed Resumed (λ key. DeviceResumed key n) (λ key. refl) (λ d. refl) (get c.devices t.id) (p t.id)
after_is c (event.Device t (device.Paused n)) time p = tells_is c t.id n time ending.Paused Paused (λ key. DevicePaused key n) (λ key. refl) (λ d. refl) (get c.devices t.id) (p t.id)
after_is c (event.Device t (device.StartEmulating n sequence)) time p =
    tells_is c t.id n time (ending.StartEmulating sequence) (StartEmulating sequence) (λ key. DeviceStartEmulating key n sequence) (λ key. refl) (λ d. refl) (get c.devices t.id) (p t.id)
after_is c (event.Device t (device.StopEmulating n)) time p = tells_is c t.id n time ending.StopEmulating StopEmulating (λ key. DeviceStopEmulating key n) (λ key. refl) (λ d. refl) (get c.devices t.id) (p t.id)
after_is c (event.Device t (device.Frame n sent)) time p = frame_is c t.id n sent time (p t.id)
after_is c (event.Device t (device.RegionMappingId mapping)) time p = device_described c t.id (mapped mapping) (λ d. refl)
after_is c (event.Pointer t (pointer.Destroyed n)) time p = goes_is c false t.id n
after_is c (event.Pointer t (pointer.MotionRelative x y)) time p = hears_is c t.id (input.PointerMotion x y)
after_is c (event.PointerAbsolute t (pointer_absolute.Destroyed n)) time p = goes_is c false t.id n
after_is c (event.PointerAbsolute t (pointer_absolute.MotionAbsolute x y)) time p = hears_is c t.id (input.PointerMotionAbsolute x y)
after_is c (event.Scroll t (scroll.Destroyed n)) time p = goes_is c false t.id n
after_is c (event.Scroll t (scroll.Scroll x y)) time p = hears_is c t.id (input.ScrollDelta x y)
after_is c (event.Scroll t (scroll.ScrollDiscrete x y)) time p = hears_is c t.id (input.ScrollDiscrete x y)
after_is c (event.Scroll t (scroll.ScrollStop x y is_cancel)) time p = hears_is c t.id (scroll_end x y is_cancel)
after_is c (event.Button t (button.Destroyed n)) time p = goes_is c false t.id n
after_is c (event.Button t (button.Button code state)) time p = hears_is c t.id (input.Button code state)
after_is c (event.Keyboard t (keyboard.Destroyed n)) time p = goes_is c true t.id n
after_is c (event.Keyboard t (keyboard.Keymap kind size map)) time p = owner_described c (keyed_by (record { handle = map; size = size; type_ = kind })) (λ d. refl) (owner c t.id)
after_is c (event.Keyboard t (keyboard.Key key state)) time p = hears_is c t.id (input.KeyboardKey key state)
after_is c (event.Keyboard t (keyboard.Modifiers n depressed locked latched group)) time p = modifies_is c t.id n time depressed locked latched group p
after_is c (event.Touchscreen t (touchscreen.Destroyed n)) time p = goes_is c false t.id n
after_is c (event.Touchscreen t (touchscreen.Down touch x y)) time p = hears_is c t.id (input.TouchDown touch x y)
after_is c (event.Touchscreen t (touchscreen.Motion touch x y)) time p = hears_is c t.id (input.TouchMotion touch x y)
after_is c (event.Touchscreen t (touchscreen.Up touch)) time p = hears_is c t.id (input.TouchUp touch)
after_is c (event.Touchscreen t (touchscreen.Cancel touch)) time p = hears_is c t.id (input.TouchCancel touch)
after_is c (event.Text t (text.Destroyed n)) time p = goes_is c true t.id n
after_is c (event.Text t (text.Keysym keysym state)) time p = hears_is c t.id (input.TextKeysym keysym state)
after_is c (event.Text t (text.Utf8 letters)) time p = hears_is c t.id (input.TextUtf8 letters)
after_is c (event.Gesture t (gesture.Destroyed n)) time p = goes_is c false t.id n
after_is c (event.Gesture t (gesture.Swipe fingers x y)) time p = hears_is c t.id (input.GestureSwipe fingers x y)
after_is c (event.Gesture t (gesture.Pinch scale)) time p = hears_is c t.id (input.GesturePinch scale)

-- ---- each device under its own id

abbrev placed_in : FinMap nat_cmp DeviceView → Type 0
placed_in m = (id : ℕ) → IfSome (get m id) (λ d. d.device.proxy.id ≡ id)

placed_put : (m : FinMap nat_cmp DeviceView) (id : ℕ) (d : DeviceView) → placed_in m → d.device.proxy.id ≡ id → placed_in (insert m id d)
placed_put m id d p place = λ q. subst (λ (o : Option DeviceView). IfSome o (λ d. d.device.proxy.id ≡ q)) (sym (get-insert nat_cmp_total m id d q ∙ ap (λ (b : Bool). cond b (Some d) (get m q)) (unsigned_tied q id))) (by q (eqb q id) refl)
  where
    by : (q : ℕ) (b : Bool) → eqb q id ≡ b → IfSome (cond b (Some d) (get m q)) (λ d. d.device.proxy.id ≡ q)
    by q true e = place ∙ sym (eqb-true q id e)
    by q false e = p q

placed_out : (m : FinMap nat_cmp DeviceView) (id : ℕ) → placed_in m → placed_in (remove m id)
placed_out m id p = λ q. subst (λ (o : Option DeviceView). IfSome o (λ d. d.device.proxy.id ≡ q)) (sym (get-remove nat_cmp_total m id q)) (by q (eq_by_cmp nat_cmp q id))
  where
    by : (q : ℕ) (b : Bool) → IfSome (cond b None (get m q)) (λ d. d.device.proxy.id ≡ q)
    by q true = tt
    by q false = p q

placed_described : (c : KeptView) (id : ℕ) (change : DeviceView → DeviceView) → ((d : DeviceView) → (change d).device.proxy.id ≡ d.device.proxy.id) → IsPlaced c →
    IsPlaced (describes c id change (pending_device (get c.devices id)))
placed_described c id change same p = by (get c.devices id) (p id)
  where
    by : (o : Option DeviceView) → IfSome o (λ d. d.device.proxy.id ≡ id) → IsPlaced (describes c id change (pending_device o))
    by None place = p
    by (Some d) place = at d.added
      where
        at : (a : Bool) → IsPlaced (describes c id change (cond a None (Some d)))
        at true = p
        at false = placed_put c.devices id (change d) p (same d ∙ place)

placed_owner : (c : KeptView) (change : DeviceView → DeviceView) → ((d : DeviceView) → (change d).device.proxy.id ≡ d.device.proxy.id) → (o : Option ℕ) → IsPlaced c → IsPlaced (describes_owner c change o)
placed_owner c change same None p = p
placed_owner c change same (Some id) p = placed_described c id change same p

placed_ends : (c : KeptView) (id serial time : ℕ) (e : Ending) → IsPlaced c → IsPlaced (ends c id serial time e (added_device (get c.devices id)))
placed_ends c id serial time e p = by (get c.devices id) (p id)
  where
    by : (o : Option DeviceView) → IfSome o (λ d. d.device.proxy.id ≡ id) → IsPlaced (ends c id serial time e (added_device o))
    by None place = p
    by (Some d) place = at d.added
      where
        at : (a : Bool) → IsPlaced (ends c id serial time e (cond a (Some d) None))
        at true = placed_put c.devices id (record d { waiting = [] }) p place
        at false = p

placed_ends_at : (c : KeptView) (serial time : ℕ) (e : Ending) (o : Option ℕ) → IsPlaced c → IsPlaced (ends_at c serial time e o)
placed_ends_at c serial time e None p = p
placed_ends_at c serial time e (Some id) p = placed_ends c id serial time e p

placed_frames : (c : KeptView) (id serial sent : ℕ) → IsPlaced c → IsPlaced (frames c id serial sent (added_device (get c.devices id)))
placed_frames c id serial sent p = by (get c.devices id) (p id)
  where
    by : (o : Option DeviceView) → IfSome o (λ d. d.device.proxy.id ≡ id) → IsPlaced (frames c id serial sent (added_device o))
    by None place = p
    by (Some d) place = at d.added
      where
        at : (a : Bool) → IsPlaced (frames c id serial sent (cond a (Some d) None))
        at true = placed_put c.devices id (record d { waiting = [] }) p place
        at false = p

placed_hears : (c : KeptView) (i : InputEvent) (o : Option ℕ) → IsPlaced c → IsPlaced (hears_at c i o)
placed_hears c i None p = p
placed_hears c i (Some id) p = by (get c.devices id) (p id)
  where
    by : (o : Option DeviceView) → IfSome o (λ d. d.device.proxy.id ≡ id) → IsPlaced (hears c id i (added_device o))
    by None place = p
    by (Some d) place = at d.added
      where
        at : (a : Bool) → IsPlaced (hears c id i (cond a (Some d) None))
        at true = placed_put c.devices id (record d { waiting = d.waiting ++ i ∷ [] }) p place
        at false = p

placed_goes : (c : KeptView) (freely : Bool) (id serial : ℕ) (o : Option DeviceView) → IsPlaced c → IsPlaced (loses_interface c freely id serial o)
placed_goes c true id serial None p = p
placed_goes c false id serial None p = p
placed_goes c freely id serial (Some d) p = p

placed_comes : (c : KeptView) (key : DeviceKey) (o : Option SeatView) → IsPlaced c → IsPlaced (gains_device c key o)
placed_comes c key None p = p
placed_comes c key (Some s) p = placed_put c.devices key.proxy.id _ p refl

placed_gets : (c : KeptView) (id : ℕ) (object : _) (o : Option DeviceView) → IsPlaced c → IsPlaced (gains_interface c id object o)
placed_gets c id object None p = p
placed_gets c id object (Some d) p = p

placed_done : (c : KeptView) (id : ℕ) → IsPlaced c → IsPlaced (completes c id (pending_device (get c.devices id)))
placed_done c id p = by (get c.devices id) (p id)
  where
    by : (o : Option DeviceView) → IfSome o (λ d. d.device.proxy.id ≡ id) → IsPlaced (completes c id (pending_device o))
    by None place = p
    by (Some d) place = at d.added
      where
        kinds : (k : Option DeviceType) → IsPlaced (whole_or_dropped c id d k)
        kinds None = placed_out c.devices id p
        kinds (Some kind) = placed_put c.devices id (whole d) p place

        at : (a : Bool) → IsPlaced (completes c id (cond a None (Some d)))
        at true = p
        at false = kinds d.kind

placed_seat : (c : KeptView) (id : ℕ) (change : SeatView → SeatView) (o : Option SeatView) → IsPlaced c → IsPlaced (describes_seat c id change o)
placed_seat c id change None p = p
placed_seat c id change (Some s) p = p

placed_mask : (c : KeptView) (id mask : ℕ) (o : Option DeviceCapability) → IsPlaced c → IsPlaced (masks_seat c id mask o)
placed_mask c id mask None p = p
placed_mask c id mask (Some capability) p = placed_seat c id _ (pending_seat (get c.seats id)) p

placed_seat_done : (c : KeptView) (s : _) (o : Option SeatView) → IsPlaced c → IsPlaced (completes_seat c s o)
placed_seat_done c s None p = p
placed_seat_done c s (Some x) p = p

pub placed_after : (c : KeptView) (e : Typed) (time : ℕ) → IsPlaced c → IsPlaced (after c e time)
placed_after c (event.Handshake t m) time p = p
placed_after c (event.Connection t (connection.Disconnected n why text)) time p = p
placed_after c (event.Connection t (connection.Seat new)) time p = p
placed_after c (event.Connection t (connection.InvalidObject n id)) time p = p
placed_after c (event.Connection t (connection.Ping ping)) time p = p
placed_after c (event.Callback t m) time p = p
placed_after c (event.Seat t (seat.Destroyed n)) time p = p
placed_after c (event.Seat t (seat.Name name)) time p = placed_seat c t.id (named_seat name) (pending_seat (get c.seats t.id)) p
placed_after c (event.Seat t (seat.Capability mask interface)) time p = placed_mask c t.id mask (capability_named interface) p
placed_after c (event.Seat t seat.Done) time p = placed_seat_done c t (pending_seat (get c.seats t.id)) p
placed_after c (event.Seat t (seat.Device new)) time p = placed_comes c (record { seat = t; proxy = new }) (added_seat (get c.seats t.id)) p
placed_after c (event.Device t (device.Destroyed n)) time p = placed_out (ends c t.id n time ending.Destroyed (added_device (get c.devices t.id))).devices t.id (placed_ends c t.id n time ending.Destroyed p)
placed_after c (event.Device t (device.Name name)) time p = placed_described c t.id (named name) (λ d. refl) p
placed_after c (event.Device t (device.DeviceType kind)) time p = placed_described c t.id (typed kind) (λ d. refl) p
placed_after c (event.Device t (device.Dimensions width height)) time p = placed_described c t.id (sized width height) (λ d. refl) p
placed_after c (event.Device t (device.Region x y width height scale)) time p =
    placed_described c t.id (with_region (record { x = x; y = y; width = width; height = height; scale = scale; mapping_id = None })) (λ d. refl) p
placed_after c (event.Device t (device.Interface new)) time p = placed_gets c t.id new (pending_device (get c.devices t.id)) p
placed_after c (event.Device t device.Done) time p = placed_done c t.id p
placed_after c (event.Device t (device.Resumed n)) time p = placed_ends c t.id n time ending.Resumed p
placed_after c (event.Device t (device.Paused n)) time p = placed_ends c t.id n time ending.Paused p
placed_after c (event.Device t (device.StartEmulating n sequence)) time p = placed_ends c t.id n time (ending.StartEmulating sequence) p
placed_after c (event.Device t (device.StopEmulating n)) time p = placed_ends c t.id n time ending.StopEmulating p
placed_after c (event.Device t (device.Frame n sent)) time p = placed_frames c t.id n sent p
placed_after c (event.Device t (device.RegionMappingId mapping)) time p = placed_described c t.id (mapped mapping) (λ d. refl) p
placed_after c (event.Pointer t (pointer.Destroyed n)) time p = placed_goes c false t.id n (holder_at c (owner c t.id)) p
placed_after c (event.Pointer t (pointer.MotionRelative x y)) time p = placed_hears c (input.PointerMotion x y) (owner c t.id) p
placed_after c (event.PointerAbsolute t (pointer_absolute.Destroyed n)) time p = placed_goes c false t.id n (holder_at c (owner c t.id)) p
placed_after c (event.PointerAbsolute t (pointer_absolute.MotionAbsolute x y)) time p = placed_hears c (input.PointerMotionAbsolute x y) (owner c t.id) p
placed_after c (event.Scroll t (scroll.Destroyed n)) time p = placed_goes c false t.id n (holder_at c (owner c t.id)) p
placed_after c (event.Scroll t (scroll.Scroll x y)) time p = placed_hears c (input.ScrollDelta x y) (owner c t.id) p
placed_after c (event.Scroll t (scroll.ScrollDiscrete x y)) time p = placed_hears c (input.ScrollDiscrete x y) (owner c t.id) p
placed_after c (event.Scroll t (scroll.ScrollStop x y is_cancel)) time p = placed_hears c (scroll_end x y is_cancel) (owner c t.id) p
placed_after c (event.Button t (button.Destroyed n)) time p = placed_goes c false t.id n (holder_at c (owner c t.id)) p
placed_after c (event.Button t (button.Button code state)) time p = placed_hears c (input.Button code state) (owner c t.id) p
placed_after c (event.Keyboard t (keyboard.Destroyed n)) time p = placed_goes c true t.id n (holder_at c (owner c t.id)) p
placed_after c (event.Keyboard t (keyboard.Keymap kind size map)) time p = placed_owner c (keyed_by (record { handle = map; size = size; type_ = kind })) (λ d. refl) (owner c t.id) p
placed_after c (event.Keyboard t (keyboard.Key key state)) time p = placed_hears c (input.KeyboardKey key state) (owner c t.id) p
placed_after c (event.Keyboard t (keyboard.Modifiers n depressed locked latched group)) time p = placed_ends_at c n time (ending.Modifiers depressed locked latched group) (owner c t.id) p
placed_after c (event.Touchscreen t (touchscreen.Destroyed n)) time p = placed_goes c false t.id n (holder_at c (owner c t.id)) p
placed_after c (event.Touchscreen t (touchscreen.Down touch x y)) time p = placed_hears c (input.TouchDown touch x y) (owner c t.id) p
placed_after c (event.Touchscreen t (touchscreen.Motion touch x y)) time p = placed_hears c (input.TouchMotion touch x y) (owner c t.id) p
placed_after c (event.Touchscreen t (touchscreen.Up touch)) time p = placed_hears c (input.TouchUp touch) (owner c t.id) p
placed_after c (event.Touchscreen t (touchscreen.Cancel touch)) time p = placed_hears c (input.TouchCancel touch) (owner c t.id) p
placed_after c (event.Text t (text.Destroyed n)) time p = placed_goes c true t.id n (holder_at c (owner c t.id)) p
placed_after c (event.Text t (text.Keysym keysym state)) time p = placed_hears c (input.TextKeysym keysym state) (owner c t.id) p
placed_after c (event.Text t (text.Utf8 letters)) time p = placed_hears c (input.TextUtf8 letters) (owner c t.id) p
placed_after c (event.Gesture t (gesture.Destroyed n)) time p = placed_goes c false t.id n (holder_at c (owner c t.id)) p
placed_after c (event.Gesture t (gesture.Swipe fingers x y)) time p = placed_hears c (input.GestureSwipe fingers x y) (owner c t.id) p
placed_after c (event.Gesture t (gesture.Pinch scale)) time p = placed_hears c (input.GesturePinch scale) (owner c t.id) p
