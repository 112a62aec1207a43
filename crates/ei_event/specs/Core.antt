-- How the definitions see what a converter keeps.
use Rattle.std.specs.Prelude.{map, is_some}
use Rattle.std.specs.Option.{option_map}
use Rattle.std.specs.FinMap as finite
use Rattle.ei_spec.specs.Interface.{bytes_of}
use Rattle.ei_spec.specs.Groups.{Timed, Framed, Plain as Given}
use Rattle.ei_input.specs.declared.input_event.InputEvent.TheVariants as input
use Rattle.ei_reported.specs.Standing.{Offer, offer}
use Rattle.ei_reported.specs.Reported.{Device, Report, Disconnected, SeatAdded, SeatRemoved, DeviceAdded, DeviceRemoved, DevicePaused, DeviceResumed}
use Rattle.ei_reported.specs.Reported.{KeyboardModifiers, DeviceStartEmulating, DeviceStopEmulating}
use Rattle.ei_following.specs.Core.{SeatCore, DeviceCore, Core}
use Rattle.ei_event.specs.Keys.{DeviceKey}
use Rattle.ei_event.specs.declared.event.EiEvent.{EiEvent}
use Rattle.ei_event.specs.declared.event.EiEvent.TheVariants as told
use Rattle.ei_event.specs.Kept.{SeatView, DeviceView, InterfaceView, KeptView}

-- ---- an event that is handed out

-- a device, by its ids
abbrev pub ids_of : DeviceKey → Device
ids_of key = record { seat = key.seat.id; id = key.proxy.id }

abbrev pub report_of : EiEvent → Report
report_of (told.Disconnected e) = Given (Disconnected e.last_serial e.reason e.explanation)
report_of (told.SeatAdded e) = Given (SeatAdded e.seat.id)
report_of (told.SeatRemoved e) = Given (SeatRemoved e.seat.id)
report_of (told.DeviceAdded e) = Given (DeviceAdded (ids_of e.device))
report_of (told.DeviceRemoved e) = Given (DeviceRemoved (ids_of e.device))
report_of (told.DevicePaused e) = Given (DevicePaused (ids_of e.device) e.serial)
report_of (told.DeviceResumed e) = Given (DeviceResumed (ids_of e.device) e.serial)
report_of (told.KeyboardModifiers e) = Given (KeyboardModifiers (ids_of e.device) e.serial e.depressed e.latched e.locked e.group)
report_of (told.Frame e) = Framed (ids_of e.device) e.serial e.time
report_of (told.DeviceStartEmulating e) = Given (DeviceStartEmulating (ids_of e.device) e.serial e.sequence)
report_of (told.DeviceStopEmulating e) = Given (DeviceStopEmulating (ids_of e.device) e.serial)
report_of (told.PointerMotion e) = Timed (ids_of e.device) (input.PointerMotion e.dx e.dy) e.time
report_of (told.PointerMotionAbsolute e) = Timed (ids_of e.device) (input.PointerMotionAbsolute e.dx_absolute e.dy_absolute) e.time
report_of (told.Button e) = Timed (ids_of e.device) (input.Button e.button e.state) e.time
report_of (told.ScrollDelta e) = Timed (ids_of e.device) (input.ScrollDelta e.dx e.dy) e.time
report_of (told.ScrollStop e) = Timed (ids_of e.device) (input.ScrollStop e.x e.y) e.time
report_of (told.ScrollCancel e) = Timed (ids_of e.device) (input.ScrollCancel e.x e.y) e.time
report_of (told.ScrollDiscrete e) = Timed (ids_of e.device) (input.ScrollDiscrete e.discrete_dx e.discrete_dy) e.time
report_of (told.KeyboardKey e) = Timed (ids_of e.device) (input.KeyboardKey e.key e.state) e.time
report_of (told.TouchDown e) = Timed (ids_of e.device) (input.TouchDown e.touch_id e.x e.y) e.time
report_of (told.TouchMotion e) = Timed (ids_of e.device) (input.TouchMotion e.touch_id e.x e.y) e.time
report_of (told.TouchUp e) = Timed (ids_of e.device) (input.TouchUp e.touch_id) e.time
report_of (told.TouchCancel e) = Timed (ids_of e.device) (input.TouchCancel e.touch_id) e.time
report_of (told.TextKeysym e) = Timed (ids_of e.device) (input.TextKeysym e.keysym e.state) e.time
report_of (told.TextUtf8 e) = Timed (ids_of e.device) (input.TextUtf8 e.text) e.time
report_of (told.GestureSwipe e) = Timed (ids_of e.device) (input.GestureSwipe e.fingers e.dx e.dy) e.time
report_of (told.GesturePinch e) = Timed (ids_of e.device) (input.GesturePinch e.scale) e.time

-- ---- what is kept

abbrev pub seat_core : SeatView → SeatCore
seat_core s = record { added = s.added }

abbrev pub device_core : DeviceView → DeviceCore
device_core d = record { seat = d.device.seat.id; added = d.added; typed = is_some d.kind; waiting = d.waiting }

abbrev pub offer_of : InterfaceView → Offer
offer_of i = offer i.device (bytes_of i.object.interface) i.object.version

abbrev pub core_of : KeptView → Core
core_of c = record {
  seats = λ id. option_map seat_core (finite.get c.seats id);
  devices = λ id. option_map device_core (finite.get c.devices id);
  interfaces = λ id. option_map offer_of (finite.get c.interfaces id);
  serial = c.serial;
  queue = map report_of c.queue;
}
