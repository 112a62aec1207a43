-- The line of a request.
use Rattle.std.specs.Prelude.{ℕ, ℤ, Bool, true, false, List, ◌++◌, codes, decimal}
use Rattle.std.specs.Fmt.{signed_decimal}
use Rattle.std.specs.List.{flat_map}
use Rattle.ei_spec.specs.Interface.{ObjectView}
use Rattle.ei_wire.specs.ArgText.{byte_hex, word_hex, number_hex}
use Rattle.ei_wire.specs.declared.arg.RawFloat.{RawFloat}
use Rattle.ei_types.specs.Capability.{bits_of}
use Rattle.ei_types.specs.declared.enums.ButtonState.{ButtonState}
use Rattle.ei_types.specs.declared.enums.ButtonState.TheVariants as button
use Rattle.ei_types.specs.declared.enums.KeyState.{KeyState}
use Rattle.ei_types.specs.declared.enums.KeyState.TheVariants as key
use Rattle.ei_request.specs.Keys.{DeviceKey}
use Rattle.ei_request.specs.declared.event.EisRequest.{EisRequest}
use Rattle.ei_request.specs.declared.event.EisRequest.TheVariants as request

-- ---- fields, each with a blank before it

-- the ids of a seat and of a device, in hexadecimal
abbrev pub seat_field : ObjectView → List ℕ
seat_field seat = codes " seat=" ++ number_hex seat.id

abbrev pub device_field : DeviceKey → List ℕ
device_field device = codes " device=" ++ number_hex device.proxy.id

-- a number in decimal, by the field's name
abbrev pub number_field : List ℕ → ℕ → List ℕ
number_field name n = codes " " ++ (name ++ (codes "=" ++ decimal n))

abbrev pub signed_field : List ℕ → ℤ → List ℕ
signed_field name n = codes " " ++ (name ++ (codes "=" ++ signed_decimal n))

-- a raw word as eight hexadecimal digits
abbrev pub word_field : List ℕ → RawFloat → List ℕ
word_field name word = codes " " ++ (name ++ (codes "=" ++ word_hex word.0))

-- whether it is so
abbrev pub truth : Bool → List ℕ
truth true = codes "true"
truth false = codes "false"

abbrev pub truth_field : List ℕ → Bool → List ℕ
truth_field name is = codes " " ++ (name ++ (codes "=" ++ truth is))

-- how a button and a key are
abbrev pub button_name : ButtonState → List ℕ
button_name button.Press = codes "press"
button_name button.Released = codes "released"

abbrev pub key_name : KeyState → List ℕ
key_name key.Press = codes "press"
key_name key.Released = codes "released"

abbrev pub state_field : List ℕ → List ℕ
state_field state = codes " state=" ++ state

-- bytes, each as two hexadecimal digits
abbrev pub all_hex : List ℕ → List ℕ
all_hex bytes = flat_map byte_hex bytes

abbrev pub bytes_field : List ℕ → List ℕ → List ℕ
bytes_field name bytes = codes " " ++ (name ++ (codes "=" ++ all_hex bytes))

-- the device and the time of an input
abbrev pub input_fields : DeviceKey → ℕ → List ℕ
input_fields device time = device_field device ++ number_field (codes "time") time

-- ---- lines

-- the line of a request, without its newline
abbrev pub request_text : EisRequest → List ℕ
request_text request.Disconnect = codes "disconnect"
request_text (request.Bind r) = codes "bind" ++ (seat_field r.seat ++ number_field (codes "capabilities") (bits_of r.capabilities))
request_text (request.RequestDevice r) = codes "request_device" ++ (seat_field r.seat ++ number_field (codes "capabilities") (bits_of r.capabilities))
request_text (request.DeviceClosed r) = codes "device_closed" ++ device_field r.device
request_text (request.Frame r) = codes "frame" ++ (device_field r.device ++ (number_field (codes "serial") r.last_serial ++ number_field (codes "time") r.time))
request_text (request.Ready r) = codes "ready" ++ device_field r.device
request_text (request.DeviceStartEmulating r) = codes "start_emulating" ++ (device_field r.device ++ (number_field (codes "serial") r.last_serial ++ number_field (codes "sequence") r.sequence))
request_text (request.DeviceStopEmulating r) = codes "stop_emulating" ++ (device_field r.device ++ number_field (codes "serial") r.last_serial)
request_text (request.PointerMotion r) = codes "pointer_motion" ++ (input_fields r.device r.time ++ (word_field (codes "dx") r.dx ++ word_field (codes "dy") r.dy))
request_text (request.PointerMotionAbsolute r) = codes "pointer_motion_absolute" ++ (input_fields r.device r.time ++ (word_field (codes "dx") r.dx_absolute ++ word_field (codes "dy") r.dy_absolute))
request_text (request.Button r) = codes "button" ++ (input_fields r.device r.time ++ (number_field (codes "button") r.button ++ state_field (button_name r.state)))
request_text (request.ScrollDelta r) = codes "scroll_delta" ++ (input_fields r.device r.time ++ (word_field (codes "dx") r.dx ++ word_field (codes "dy") r.dy))
request_text (request.ScrollStop r) = codes "scroll_stop" ++ (input_fields r.device r.time ++ (truth_field (codes "x") r.x ++ truth_field (codes "y") r.y))
request_text (request.ScrollCancel r) = codes "scroll_cancel" ++ (input_fields r.device r.time ++ (truth_field (codes "x") r.x ++ truth_field (codes "y") r.y))
request_text (request.ScrollDiscrete r) = codes "scroll_discrete" ++ (input_fields r.device r.time ++ (signed_field (codes "dx") r.discrete_dx ++ signed_field (codes "dy") r.discrete_dy))
request_text (request.KeyboardKey r) = codes "keyboard_key" ++ (input_fields r.device r.time ++ (number_field (codes "key") r.key ++ state_field (key_name r.state)))
request_text (request.TouchDown r) = codes "touch_down" ++ (input_fields r.device r.time ++ (number_field (codes "touch") r.touch_id ++ (word_field (codes "x") r.x ++ word_field (codes "y") r.y)))
request_text (request.TouchMotion r) = codes "touch_motion" ++ (input_fields r.device r.time ++ (number_field (codes "touch") r.touch_id ++ (word_field (codes "x") r.x ++ word_field (codes "y") r.y)))
request_text (request.TouchUp r) = codes "touch_up" ++ (input_fields r.device r.time ++ number_field (codes "touch") r.touch_id)
request_text (request.TouchCancel r) = codes "touch_cancel" ++ (input_fields r.device r.time ++ number_field (codes "touch") r.touch_id)
request_text (request.TextKeysym r) = codes "text_keysym" ++ (input_fields r.device r.time ++ (number_field (codes "keysym") r.keysym ++ state_field (key_name r.state)))
request_text (request.TextUtf8 r) = codes "text_utf8" ++ (input_fields r.device r.time ++ bytes_field (codes "text") r.text)
request_text (request.GestureSwipe r) = codes "gesture_swipe" ++ (input_fields r.device r.time ++ (number_field (codes "fingers") r.fingers ++ (word_field (codes "dx") r.dx ++ word_field (codes "dy") r.dy)))
request_text (request.GesturePinch r) = codes "gesture_pinch" ++ (input_fields r.device r.time ++ word_field (codes "scale") r.scale)
