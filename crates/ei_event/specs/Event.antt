-- The events that are handed out.
use Rattle.std.specs.Prelude.{ℕ, Option, Some, None}
use Rattle.ei_input.specs.declared.input_event.InputEvent.{InputEvent}
use Rattle.ei_input.specs.declared.input_event.InputEvent.TheVariants as input
use Rattle.ei_event.specs.Keys.{DeviceKey}
use Rattle.ei_event.specs.declared.event.EiEvent.{EiEvent}
use Rattle.ei_event.specs.declared.event.EiEvent.TheVariants as told

-- the device that an event is of, if it is of one
abbrev pub device_in : EiEvent → Option DeviceKey
device_in (told.Disconnected e) = None
device_in (told.SeatAdded e) = None
device_in (told.SeatRemoved e) = None
device_in (told.DeviceAdded e) = Some e.device
device_in (told.DeviceRemoved e) = Some e.device
device_in (told.DevicePaused e) = Some e.device
device_in (told.DeviceResumed e) = Some e.device
device_in (told.KeyboardModifiers e) = Some e.device
device_in (told.Frame e) = Some e.device
device_in (told.DeviceStartEmulating e) = Some e.device
device_in (told.DeviceStopEmulating e) = Some e.device
device_in (told.PointerMotion e) = Some e.device
device_in (told.PointerMotionAbsolute e) = Some e.device
device_in (told.Button e) = Some e.device
device_in (told.ScrollDelta e) = Some e.device
device_in (told.ScrollStop e) = Some e.device
device_in (told.ScrollCancel e) = Some e.device
device_in (told.ScrollDiscrete e) = Some e.device
device_in (told.KeyboardKey e) = Some e.device
device_in (told.TouchDown e) = Some e.device
device_in (told.TouchMotion e) = Some e.device
device_in (told.TouchUp e) = Some e.device
device_in (told.TouchCancel e) = Some e.device
device_in (told.TextKeysym e) = Some e.device
device_in (told.TextUtf8 e) = Some e.device
device_in (told.GestureSwipe e) = Some e.device
device_in (told.GesturePinch e) = Some e.device

-- the event that an input of a device becomes
abbrev pub timed : DeviceKey → ℕ → InputEvent → EiEvent
timed device time (input.PointerMotion dx dy) = told.PointerMotion (record { device = device; time = time; dx = dx; dy = dy })
timed device time (input.PointerMotionAbsolute dx_absolute dy_absolute) = told.PointerMotionAbsolute (record { device = device; time = time; dx_absolute = dx_absolute; dy_absolute = dy_absolute })
timed device time (input.Button button state) = told.Button (record { device = device; time = time; button = button; state = state })
timed device time (input.ScrollDelta dx dy) = told.ScrollDelta (record { device = device; time = time; dx = dx; dy = dy })
timed device time (input.ScrollStop x y) = told.ScrollStop (record { device = device; time = time; x = x; y = y })
timed device time (input.ScrollCancel x y) = told.ScrollCancel (record { device = device; time = time; x = x; y = y })
timed device time (input.ScrollDiscrete discrete_dx discrete_dy) = told.ScrollDiscrete (record { device = device; time = time; discrete_dx = discrete_dx; discrete_dy = discrete_dy })
timed device time (input.KeyboardKey key state) = told.KeyboardKey (record { device = device; time = time; key = key; state = state })
timed device time (input.TouchDown touch_id x y) = told.TouchDown (record { device = device; time = time; touch_id = touch_id; x = x; y = y })
timed device time (input.TouchMotion touch_id x y) = told.TouchMotion (record { device = device; time = time; touch_id = touch_id; x = x; y = y })
timed device time (input.TouchUp touch_id) = told.TouchUp (record { device = device; time = time; touch_id = touch_id })
timed device time (input.TouchCancel touch_id) = told.TouchCancel (record { device = device; time = time; touch_id = touch_id })
timed device time (input.TextKeysym keysym state) = told.TextKeysym (record { device = device; time = time; keysym = keysym; state = state })
timed device time (input.TextUtf8 text) = told.TextUtf8 (record { device = device; time = time; text = text })
timed device time (input.GestureSwipe fingers dx dy) = told.GestureSwipe (record { device = device; time = time; fingers = fingers; dx = dx; dy = dy })
timed device time (input.GesturePinch scale) = told.GesturePinch (record { device = device; time = time; scale = scale })
