-- The requests of a client: target, opcode and arguments.
use Rattle.std.specs.Prelude.{ℕ, List, Option, None}
use Rattle.ei_spec.specs.Value.{Value}
use Rattle.ei_spec.specs.Interface.{Known, ObjectView}
use Rattle.ei_spec.specs.declared.interface.KnownInterface.{KnownInterface}
use Rattle.ei_spec.specs.declared.interface.KnownInterface.TheVariants as known
use Rattle.ei_server.specs.declared.request.Request.{Request}
use Rattle.ei_server.specs.declared.request.Request.TheVariants as request
use Rattle.ei_server.specs.Handshake as handshake
use Rattle.ei_server.specs.Connection as connection
use Rattle.ei_server.specs.Pingpong as pingpong
use Rattle.ei_server.specs.Seat as seat
use Rattle.ei_server.specs.Device as device
use Rattle.ei_server.specs.Pointer as pointer
use Rattle.ei_server.specs.PointerAbsolute as pointer_absolute
use Rattle.ei_server.specs.Scroll as scroll
use Rattle.ei_server.specs.Button as button
use Rattle.ei_server.specs.Keyboard as keyboard
use Rattle.ei_server.specs.Touchscreen as touchscreen
use Rattle.ei_server.specs.Text as text
use Rattle.ei_server.specs.Gesture as gesture

-- the object as one of the interface
abbrev pub as_one_of : KnownInterface → ObjectView → ObjectView
as_one_of interface o = record o { interface = Known interface }

-- the proxy's object, of the interface that the request is one of
abbrev pub target_of : Request → ObjectView
target_of (request.Handshake proxy m) = as_one_of known.Handshake proxy
target_of (request.Connection proxy m) = as_one_of known.Connection proxy
target_of (request.Pingpong proxy m) = as_one_of known.Pingpong proxy
target_of (request.Seat proxy m) = as_one_of known.Seat proxy
target_of (request.Device proxy m) = as_one_of known.Device proxy
target_of (request.Pointer proxy m) = as_one_of known.Pointer proxy
target_of (request.PointerAbsolute proxy m) = as_one_of known.PointerAbsolute proxy
target_of (request.Scroll proxy m) = as_one_of known.Scroll proxy
target_of (request.Button proxy m) = as_one_of known.Button proxy
target_of (request.Keyboard proxy m) = as_one_of known.Keyboard proxy
target_of (request.Touchscreen proxy m) = as_one_of known.Touchscreen proxy
target_of (request.Text proxy m) = as_one_of known.Text proxy
target_of (request.Gesture proxy m) = as_one_of known.Gesture proxy

-- the opcode
abbrev pub opcode_of : Request → ℕ
opcode_of (request.Handshake proxy m) = handshake.opcode_of m
opcode_of (request.Connection proxy m) = connection.opcode_of m
opcode_of (request.Pingpong proxy m) = pingpong.opcode_of m
opcode_of (request.Seat proxy m) = seat.opcode_of m
opcode_of (request.Device proxy m) = device.opcode_of m
opcode_of (request.Pointer proxy m) = pointer.opcode_of m
opcode_of (request.PointerAbsolute proxy m) = pointer_absolute.opcode_of m
opcode_of (request.Scroll proxy m) = scroll.opcode_of m
opcode_of (request.Button proxy m) = button.opcode_of m
opcode_of (request.Keyboard proxy m) = keyboard.opcode_of m
opcode_of (request.Touchscreen proxy m) = touchscreen.opcode_of m
opcode_of (request.Text proxy m) = text.opcode_of m
opcode_of (request.Gesture proxy m) = gesture.opcode_of m

-- the arguments
abbrev pub values_of : Request → List Value
values_of (request.Handshake proxy m) = handshake.values_of m
values_of (request.Connection proxy m) = connection.values_of m
values_of (request.Pingpong proxy m) = pingpong.values_of m
values_of (request.Seat proxy m) = seat.values_of m
values_of (request.Device proxy m) = device.values_of m
values_of (request.Pointer proxy m) = pointer.values_of m
values_of (request.PointerAbsolute proxy m) = pointer_absolute.values_of m
values_of (request.Scroll proxy m) = scroll.values_of m
values_of (request.Button proxy m) = button.values_of m
values_of (request.Keyboard proxy m) = keyboard.values_of m
values_of (request.Touchscreen proxy m) = touchscreen.values_of m
values_of (request.Text proxy m) = text.values_of m
values_of (request.Gesture proxy m) = gesture.values_of m

-- the object that the request announces
abbrev pub announced_of : Request → Option ObjectView
announced_of (request.Connection proxy m) = connection.announced_of m
announced_of m = None
