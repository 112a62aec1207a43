-- What a request asks, by the ids of the seats and devices that it names: the versions of their objects don't count.
use Rattle.std.specs.Prelude.{ℕ, ◌==◌, if◌then◌else◌}
use Rattle.ei_spec.specs.Groups.{Timed, Framed, Plain as Given}
use Rattle.ei_types.specs.Capability.{bits_of}
use Rattle.ei_input.specs.declared.input_event.InputEvent.TheVariants as input
use Rattle.ei_session.specs.Setup.{seat_id}
use Rattle.ei_session.specs.Requests.{Request, Bind, RequestDevice, Ready, DeviceClosed, DeviceStartEmulating, DeviceStopEmulating, Disconnect}
use Rattle.ei_request.specs.Keys.{DeviceKey}
use Rattle.ei_request.specs.declared.event.EisRequest.{EisRequest}
use Rattle.ei_request.specs.declared.event.EisRequest.TheVariants as asked

-- the id of a device of the one seat; 0, which no device has, for a device of another seat
abbrev pub id_of : DeviceKey → ℕ
id_of d = if d.seat.id == seat_id then d.proxy.id else 0

abbrev pub asked_of : EisRequest → Request
asked_of asked.Disconnect = Given Disconnect
asked_of (asked.Bind r) = Given (Bind r.seat.id (bits_of r.capabilities))
asked_of (asked.RequestDevice r) = Given (RequestDevice r.seat.id (bits_of r.capabilities))
asked_of (asked.DeviceClosed r) = Given (DeviceClosed (id_of r.device))
asked_of (asked.Frame r) = Framed (id_of r.device) r.last_serial r.time
asked_of (asked.Ready r) = Given (Ready (id_of r.device))
asked_of (asked.DeviceStartEmulating r) = Given (DeviceStartEmulating (id_of r.device) r.last_serial r.sequence)
asked_of (asked.DeviceStopEmulating r) = Given (DeviceStopEmulating (id_of r.device) r.last_serial)
asked_of (asked.PointerMotion r) = Timed (id_of r.device) (input.PointerMotion r.dx r.dy) r.time
asked_of (asked.PointerMotionAbsolute r) = Timed (id_of r.device) (input.PointerMotionAbsolute r.dx_absolute r.dy_absolute) r.time
asked_of (asked.Button r) = Timed (id_of r.device) (input.Button r.button r.state) r.time
asked_of (asked.ScrollDelta r) = Timed (id_of r.device) (input.ScrollDelta r.dx r.dy) r.time
asked_of (asked.ScrollStop r) = Timed (id_of r.device) (input.ScrollStop r.x r.y) r.time
asked_of (asked.ScrollCancel r) = Timed (id_of r.device) (input.ScrollCancel r.x r.y) r.time
asked_of (asked.ScrollDiscrete r) = Timed (id_of r.device) (input.ScrollDiscrete r.discrete_dx r.discrete_dy) r.time
asked_of (asked.KeyboardKey r) = Timed (id_of r.device) (input.KeyboardKey r.key r.state) r.time
asked_of (asked.TouchDown r) = Timed (id_of r.device) (input.TouchDown r.touch_id r.x r.y) r.time
asked_of (asked.TouchMotion r) = Timed (id_of r.device) (input.TouchMotion r.touch_id r.x r.y) r.time
asked_of (asked.TouchUp r) = Timed (id_of r.device) (input.TouchUp r.touch_id) r.time
asked_of (asked.TouchCancel r) = Timed (id_of r.device) (input.TouchCancel r.touch_id) r.time
asked_of (asked.TextKeysym r) = Timed (id_of r.device) (input.TextKeysym r.keysym r.state) r.time
asked_of (asked.TextUtf8 r) = Timed (id_of r.device) (input.TextUtf8 r.text) r.time
asked_of (asked.GestureSwipe r) = Timed (id_of r.device) (input.GestureSwipe r.fingers r.dx r.dy) r.time
asked_of (asked.GesturePinch r) = Timed (id_of r.device) (input.GesturePinch r.scale) r.time
