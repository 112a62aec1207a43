-- The requests that are handed out.
use Rattle.std.specs.Prelude.{ℕ, Option, Some, None}
use Rattle.ei_input.specs.declared.input_event.InputEvent.{InputEvent}
use Rattle.ei_input.specs.declared.input_event.InputEvent.TheVariants as input
use Rattle.ei_request.specs.Keys.{DeviceKey}
use Rattle.ei_request.specs.declared.event.EisRequest.{EisRequest}
use Rattle.ei_request.specs.declared.event.EisRequest.TheVariants as asked

-- the device that a request is about, if it is about one
abbrev pub device_in : EisRequest → Option DeviceKey
device_in asked.Disconnect = None
device_in (asked.Bind r) = None
device_in (asked.RequestDevice r) = None
device_in (asked.DeviceClosed r) = Some r.device
device_in (asked.Frame r) = Some r.device
device_in (asked.Ready r) = Some r.device
device_in (asked.DeviceStartEmulating r) = Some r.device
device_in (asked.DeviceStopEmulating r) = Some r.device
device_in (asked.PointerMotion r) = Some r.device
device_in (asked.PointerMotionAbsolute r) = Some r.device
device_in (asked.Button r) = Some r.device
device_in (asked.ScrollDelta r) = Some r.device
device_in (asked.ScrollStop r) = Some r.device
device_in (asked.ScrollCancel r) = Some r.device
device_in (asked.ScrollDiscrete r) = Some r.device
device_in (asked.KeyboardKey r) = Some r.device
device_in (asked.TouchDown r) = Some r.device
device_in (asked.TouchMotion r) = Some r.device
device_in (asked.TouchUp r) = Some r.device
device_in (asked.TouchCancel r) = Some r.device
device_in (asked.TextKeysym r) = Some r.device
device_in (asked.TextUtf8 r) = Some r.device
device_in (asked.GestureSwipe r) = Some r.device
device_in (asked.GesturePinch r) = Some r.device

-- the request that an input of a device becomes
abbrev pub timed : DeviceKey → ℕ → InputEvent → EisRequest
timed device time (input.PointerMotion dx dy) = asked.PointerMotion (record { device = device; time = time; dx = dx; dy = dy })
timed device time (input.PointerMotionAbsolute dx_absolute dy_absolute) = asked.PointerMotionAbsolute (record {
  device = device;
  time = time;
  dx_absolute = dx_absolute;
  dy_absolute = dy_absolute;
})
timed device time (input.Button button state) = asked.Button (record { device = device; time = time; button = button; state = state })
timed device time (input.ScrollDelta dx dy) = asked.ScrollDelta (record { device = device; time = time; dx = dx; dy = dy })
timed device time (input.ScrollStop x y) = asked.ScrollStop (record { device = device; time = time; x = x; y = y })
timed device time (input.ScrollCancel x y) = asked.ScrollCancel (record { device = device; time = time; x = x; y = y })
timed device time (input.ScrollDiscrete discrete_dx discrete_dy) = asked.ScrollDiscrete (record {
  device = device;
  time = time;
  discrete_dx =
      discrete_dx;
  discrete_dy = discrete_dy;
})
timed device time (input.KeyboardKey key state) = asked.KeyboardKey (record { device = device; time = time; key = key; state = state })
timed device time (input.TouchDown touch_id x y) = asked.TouchDown (record { device = device; time = time; touch_id = touch_id; x = x; y = y })
timed device time (input.TouchMotion touch_id x y) = asked.TouchMotion (record { device = device; time = time; touch_id = touch_id; x = x; y = y })
timed device time (input.TouchUp touch_id) = asked.TouchUp (record { device = device; time = time; touch_id = touch_id })
timed device time (input.TouchCancel touch_id) = asked.TouchCancel (record { device = device; time = time; touch_id = touch_id })
timed device time (input.TextKeysym keysym state) = asked.TextKeysym (record { device = device; time = time; keysym = keysym; state = state })
timed device time (input.TextUtf8 text) = asked.TextUtf8 (record { device = device; time = time; text = text })
timed device time (input.GestureSwipe fingers dx dy) = asked.GestureSwipe (record { device = device; time = time; fingers = fingers; dx = dx; dy = dy })
timed device time (input.GesturePinch scale) = asked.GesturePinch (record { device = device; time = time; scale = scale })
