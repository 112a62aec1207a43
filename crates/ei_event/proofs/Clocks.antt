-- When the clock is asked: for which inputs an event makes a frame.
use Rattle.std.proofs.Common.{◌≡◌, ℕ, Bool, true, false, cond, List, [], Option, Some, None, refl, sym, ap, ◌∙◌, subst}
use Rattle.std.specs.Prelude.{Result, Ok, Err}
use Rattle.std.specs.Option.{option_map}
use Rattle.std.specs.FinMap.{get}
use Rattle.ei_types.specs.declared.error.Error.{Error}
use Rattle.ei_input.specs.declared.input_event.InputEvent.{InputEvent}
use Rattle.ei_client.specs.declared.connection.Event.{Event as Connection}
use Rattle.ei_client.specs.declared.connection.Event.TheVariants as connection
use Rattle.ei_client.specs.declared.seat.Event.{Event as Seat}
use Rattle.ei_client.specs.declared.seat.Event.TheVariants as seat
use Rattle.ei_client.specs.declared.device.Event.{Event as Device}
use Rattle.ei_client.specs.declared.device.Event.TheVariants as device
use Rattle.ei_client.specs.declared.pointer.Event.{Event as Pointer}
use Rattle.ei_client.specs.declared.pointer.Event.TheVariants as pointer
use Rattle.ei_client.specs.declared.pointer_absolute.Event.{Event as PointerAbsolute}
use Rattle.ei_client.specs.declared.pointer_absolute.Event.TheVariants as pointer_absolute
use Rattle.ei_client.specs.declared.scroll.Event.{Event as Scroll}
use Rattle.ei_client.specs.declared.scroll.Event.TheVariants as scroll
use Rattle.ei_client.specs.declared.button.Event.{Event as Button}
use Rattle.ei_client.specs.declared.button.Event.TheVariants as button
use Rattle.ei_client.specs.declared.touchscreen.Event.{Event as Touchscreen}
use Rattle.ei_client.specs.declared.touchscreen.Event.TheVariants as touchscreen
use Rattle.ei_client.specs.declared.text.Event.{Event as Text}
use Rattle.ei_client.specs.declared.text.Event.TheVariants as text
use Rattle.ei_client.specs.declared.gesture.Event.{Event as Gesture}
use Rattle.ei_client.specs.declared.gesture.Event.TheVariants as gesture
use Rattle.ei_reported.specs.Said.{Told, Resumed, Paused, StartEmulating, StopEmulating, Frame, Said}
use Rattle.ei_following.specs.Core as core
use Rattle.ei_following.specs.Core.{Core, refused, closed_group}
use Rattle.ei_event.specs.declared.ending.Ending.{Ending}
use Rattle.ei_event.specs.declared.ending.Ending.TheVariants as ending
use Rattle.ei_event.specs.Typed.{connection_says, seat_says, device_says, pointer_says, pointer_absolute_says, scroll_says, button_says}
use Rattle.ei_event.specs.Typed.{touchscreen_says, text_says, gesture_says}
use Rattle.ei_event.specs.Kept.{DeviceView, InterfaceView, KeptView, added_device, owner_of}
use Rattle.ei_event.specs.Core.{device_core, offer_of, core_of}
use Rattle.ei_event.specs.Handles.{Ends, Asks, Does, describes_device, tells, waiting_on, holder_at}

-- ---- events that make no frame

pub connection_silent : (k : Core) (m : Connection) → closed_group k (connection_says m) ≡ []
connection_silent k (connection.Disconnected n why explanation) = refl
connection_silent k (connection.Seat new) = refl
connection_silent k (connection.InvalidObject n id) = refl
connection_silent k (connection.Ping ping) = refl

pub seat_silent : (k : Core) (id : ℕ) (m : Seat) → closed_group k (seat_says id m) ≡ []
seat_silent k id (seat.Destroyed n) = refl
seat_silent k id (seat.Name name) = refl
seat_silent k id (seat.Capability mask interface) = refl
seat_silent k id seat.Done = refl
seat_silent k id (seat.Device new) = refl

pub device_silent : (k : Core) (id : ℕ) (m : Device) → describes_device m ≡ true → closed_group k (device_says id m) ≡ []
device_silent k id (device.Name name) d = refl
device_silent k id (device.DeviceType kind) d = refl
device_silent k id (device.Dimensions width height) d = refl
device_silent k id (device.Region x y width height scale) d = refl
device_silent k id (device.Interface new) d = refl
device_silent k id device.Done d = refl
device_silent k id (device.RegionMappingId mapping) d = refl
device_silent k id (device.Destroyed n) d = absurd cc
device_silent k id (device.Resumed n) d = absurd cc
device_silent k id (device.Paused n) d = absurd cc
device_silent k id (device.StartEmulating n sequence) d = absurd cc
device_silent k id (device.StopEmulating n) d = absurd cc
device_silent k id (device.Frame n sent) d = absurd cc

pub pointer_silent : (k : Core) (id : ℕ) (m : Pointer) → closed_group k (pointer_says id m) ≡ []
pointer_silent k id (pointer.Destroyed n) = refl
pointer_silent k id (pointer.MotionRelative x y) = refl

pub pointer_absolute_silent : (k : Core) (id : ℕ) (m : PointerAbsolute) → closed_group k (pointer_absolute_says id m) ≡ []
pointer_absolute_silent k id (pointer_absolute.Destroyed n) = refl
pointer_absolute_silent k id (pointer_absolute.MotionAbsolute x y) = refl

pub scroll_silent : (k : Core) (id : ℕ) (m : Scroll) → closed_group k (scroll_says id m) ≡ []
scroll_silent k id (scroll.Destroyed n) = refl
scroll_silent k id (scroll.Scroll x y) = refl
scroll_silent k id (scroll.ScrollDiscrete x y) = refl
scroll_silent k id (scroll.ScrollStop x y is_cancel) = refl

pub button_silent : (k : Core) (id : ℕ) (m : Button) → closed_group k (button_says id m) ≡ []
button_silent k id (button.Destroyed n) = refl
button_silent k id (button.Button code state) = refl

pub touchscreen_silent : (k : Core) (id : ℕ) (m : Touchscreen) → closed_group k (touchscreen_says id m) ≡ []
touchscreen_silent k id (touchscreen.Destroyed n) = refl
touchscreen_silent k id (touchscreen.Down touch x y) = refl
touchscreen_silent k id (touchscreen.Motion touch x y) = refl
touchscreen_silent k id (touchscreen.Up touch) = refl
touchscreen_silent k id (touchscreen.Cancel touch) = refl

pub text_silent : (k : Core) (id : ℕ) (m : Text) → closed_group k (text_says id m) ≡ []
text_silent k id (text.Destroyed n) = refl
text_silent k id (text.Keysym keysym state) = refl
text_silent k id (text.Utf8 letters) = refl

pub gesture_silent : (k : Core) (id : ℕ) (m : Gesture) → closed_group k (gesture_says id m) ≡ []
gesture_silent k id (gesture.Destroyed n) = refl
gesture_silent k id (gesture.Swipe fingers x y) = refl
gesture_silent k id (gesture.Pinch scale) = refl

unread : (told : Option (List ℕ)) (result : Result (Unit {0}) Error) → Asks [] 0 told told result
unread told (Ok x) = refl
unread told (Err e) = refl

-- what makes no frame asks no clock
pub unclocked : (old new : KeptView) (said : Said) (left : ℕ → KeptView) (told : Option (List ℕ)) (result : Result (Unit {0}) Error) → closed_group (core_of old) said ≡ [] →
    Ends (refused (core_of old) said) old (left 0) result new → Does old said left told told result new
unclocked old new said left told result none e = record {
  time = 0;
  ends = e;
  clock = subst (λ (inputs : List InputEvent). Asks inputs 0 told told result) (sym none) (unread told result);
}

-- ---- events that may make one

told_keeps : (e : Ending) (t : Told) (xs : List InputEvent) → tells e ≡ Some t → core.of_told t xs ≡ xs
told_keeps e Resumed xs h = refl
told_keeps e Paused xs h = refl
told_keeps e (StartEmulating sequence) xs h = refl
told_keeps e StopEmulating xs h = refl
told_keeps ending.Resumed (Frame sent) xs h = absurd cc
told_keeps ending.Paused (Frame sent) xs h = absurd cc
told_keeps (ending.StartEmulating sequence) (Frame sent) xs h = absurd cc
told_keeps ending.StopEmulating (Frame sent) xs h = absurd cc
told_keeps (ending.Modifiers a b l g) (Frame sent) xs h = absurd cc
told_keeps ending.Destroyed (Frame sent) xs h = absurd cc

pub waiting_is : (o : Option DeviceView) → core.added_waiting (option_map device_core o) ≡ waiting_on (added_device o)
waiting_is None = refl
waiting_is (Some d) = at d.added
  where
    at : (a : Bool) → cond a d.waiting [] ≡ waiting_on (cond a (Some d) None)
    at true = refl
    at false = refl

pub told_waiting : (e : Ending) (t : Told) (o : Option DeviceView) → tells e ≡ Some t → core.closing_told t (option_map device_core o) ≡ waiting_on (added_device o)
told_waiting e t o h = told_keeps e t (core.added_waiting (option_map device_core o)) h ∙ waiting_is o

pub held_waiting : (c : KeptView) (i : Option InterfaceView) → core.waiting_at (core_of c) (core.holder_of (core_of c) (option_map offer_of i)) ≡ waiting_on (holder_at c (owner_of i))
held_waiting c None = refl
held_waiting c (Some i) = by (get c.devices i.device) refl
  where
    by : (o : Option DeviceView) → get c.devices i.device ≡ o →
        core.waiting_at (core_of c) (cond (core.added_device (option_map device_core o)) (Some i.device) None) ≡ waiting_on (added_device o)
    by None e = refl
    by (Some d) e = at d.added
      where
        at : (a : Bool) → core.waiting_at (core_of c) (cond a (Some i.device) None) ≡ waiting_on (cond a (Some d) None)
        at true = ap (λ (o : Option DeviceView). core.waiting_of (option_map device_core o)) e
        at false = refl
