-- The events of a server: target, opcode and arguments.
use Rattle.std.specs.Prelude.{ℕ, List, Option, None}
use Rattle.ei_spec.specs.Value.{Value}
use Rattle.ei_spec.specs.Interface.{Known, ObjectView}
use Rattle.ei_spec.specs.declared.interface.KnownInterface.{KnownInterface}
use Rattle.ei_spec.specs.declared.interface.KnownInterface.TheVariants as known
use Rattle.ei_client.specs.declared.event.Event.{Event}
use Rattle.ei_client.specs.declared.event.Event.TheVariants as event
use Rattle.ei_client.specs.Handshake as handshake
use Rattle.ei_client.specs.Connection as connection
use Rattle.ei_client.specs.Callback as callback
use Rattle.ei_client.specs.Seat as seat
use Rattle.ei_client.specs.Device as device
use Rattle.ei_client.specs.Pointer as pointer
use Rattle.ei_client.specs.PointerAbsolute as pointer_absolute
use Rattle.ei_client.specs.Scroll as scroll
use Rattle.ei_client.specs.Button as button
use Rattle.ei_client.specs.Keyboard as keyboard
use Rattle.ei_client.specs.Touchscreen as touchscreen
use Rattle.ei_client.specs.Text as text
use Rattle.ei_client.specs.Gesture as gesture

-- the object as one of the interface
abbrev pub as_one_of : KnownInterface → ObjectView → ObjectView
as_one_of interface o = record o { interface = Known interface }

-- the proxy's object, of the interface that the event is one of
abbrev pub target_of : Event → ObjectView
target_of (event.Handshake proxy m) = as_one_of known.Handshake proxy
target_of (event.Connection proxy m) = as_one_of known.Connection proxy
target_of (event.Callback proxy m) = as_one_of known.Callback proxy
target_of (event.Seat proxy m) = as_one_of known.Seat proxy
target_of (event.Device proxy m) = as_one_of known.Device proxy
target_of (event.Pointer proxy m) = as_one_of known.Pointer proxy
target_of (event.PointerAbsolute proxy m) = as_one_of known.PointerAbsolute proxy
target_of (event.Scroll proxy m) = as_one_of known.Scroll proxy
target_of (event.Button proxy m) = as_one_of known.Button proxy
target_of (event.Keyboard proxy m) = as_one_of known.Keyboard proxy
target_of (event.Touchscreen proxy m) = as_one_of known.Touchscreen proxy
target_of (event.Text proxy m) = as_one_of known.Text proxy
target_of (event.Gesture proxy m) = as_one_of known.Gesture proxy

-- the opcode
abbrev pub opcode_of : Event → ℕ
opcode_of (event.Handshake proxy m) = handshake.opcode_of m
opcode_of (event.Connection proxy m) = connection.opcode_of m
opcode_of (event.Callback proxy m) = callback.opcode_of m
opcode_of (event.Seat proxy m) = seat.opcode_of m
opcode_of (event.Device proxy m) = device.opcode_of m
opcode_of (event.Pointer proxy m) = pointer.opcode_of m
opcode_of (event.PointerAbsolute proxy m) = pointer_absolute.opcode_of m
opcode_of (event.Scroll proxy m) = scroll.opcode_of m
opcode_of (event.Button proxy m) = button.opcode_of m
opcode_of (event.Keyboard proxy m) = keyboard.opcode_of m
opcode_of (event.Touchscreen proxy m) = touchscreen.opcode_of m
opcode_of (event.Text proxy m) = text.opcode_of m
opcode_of (event.Gesture proxy m) = gesture.opcode_of m

-- the arguments
abbrev pub values_of : Event → List Value
values_of (event.Handshake proxy m) = handshake.values_of m
values_of (event.Connection proxy m) = connection.values_of m
values_of (event.Callback proxy m) = callback.values_of m
values_of (event.Seat proxy m) = seat.values_of m
values_of (event.Device proxy m) = device.values_of m
values_of (event.Pointer proxy m) = pointer.values_of m
values_of (event.PointerAbsolute proxy m) = pointer_absolute.values_of m
values_of (event.Scroll proxy m) = scroll.values_of m
values_of (event.Button proxy m) = button.values_of m
values_of (event.Keyboard proxy m) = keyboard.values_of m
values_of (event.Touchscreen proxy m) = touchscreen.values_of m
values_of (event.Text proxy m) = text.values_of m
values_of (event.Gesture proxy m) = gesture.values_of m

-- the object that the event announces
abbrev pub announced_of : Event → Option ObjectView
announced_of (event.Handshake proxy m) = handshake.announced_of m
announced_of (event.Connection proxy m) = connection.announced_of m
announced_of (event.Seat proxy m) = seat.announced_of m
announced_of (event.Device proxy m) = device.announced_of m
announced_of m = None
