-- What a typed event says, a line for each event.
use Rattle.std.specs.Prelude.{ℕ}
use Rattle.ei_spec.specs.Interface.{bytes_of}
use Rattle.ei_spec.specs.declared.interface.KnownInterface.{KnownInterface}
use Rattle.ei_spec.specs.declared.interface.KnownInterface.TheVariants as known
use Rattle.ei_client.specs.declared.event.Event.{Event as Typed}
use Rattle.ei_client.specs.declared.event.Event.TheVariants as event
use Rattle.ei_client.specs.declared.connection.Event.{Event as Connection}
use Rattle.ei_client.specs.declared.connection.Event.TheVariants as connection
use Rattle.ei_client.specs.declared.seat.Event.{Event as Seat}
use Rattle.ei_client.specs.declared.seat.Event.TheVariants as seat
use Rattle.ei_client.specs.declared.device.Event.{Event as Device}
use Rattle.ei_client.specs.declared.device.Event.TheVariants as device
use Rattle.ei_client.specs.declared.pointer.Event.{Event as Pointer}
use Rattle.ei_client.specs.declared.pointer.Event.TheVariants as pointer
use Rattle.ei_client.specs.declared.pointer_absolute.Event.{Event as PointerAbsolute}
use Rattle.ei_client.specs.declared.pointer_absolute.Event.TheVariants as pointer_absolute
use Rattle.ei_client.specs.declared.scroll.Event.{Event as Scroll}
use Rattle.ei_client.specs.declared.scroll.Event.TheVariants as scroll
use Rattle.ei_client.specs.declared.button.Event.{Event as Button}
use Rattle.ei_client.specs.declared.button.Event.TheVariants as button
use Rattle.ei_client.specs.declared.keyboard.Event.{Event as Keyboard}
use Rattle.ei_client.specs.declared.keyboard.Event.TheVariants as keyboard
use Rattle.ei_client.specs.declared.touchscreen.Event.{Event as Touchscreen}
use Rattle.ei_client.specs.declared.touchscreen.Event.TheVariants as touchscreen
use Rattle.ei_client.specs.declared.text.Event.{Event as Text}
use Rattle.ei_client.specs.declared.text.Event.TheVariants as text
use Rattle.ei_client.specs.declared.gesture.Event.{Event as Gesture}
use Rattle.ei_client.specs.declared.gesture.Event.TheVariants as gesture
use Rattle.ei_client.specs.Event.{target_of, opcode_of, values_of}
use Rattle.ei_types.specs.Enums.{IsReason}
use Rattle.ei_input.specs.declared.input_event.InputEvent.TheVariants as input
use Rattle.ei_input.specs.Inputs.{scroll_end}
use Rattle.ei_reported.specs.Event.{Event}
use Rattle.ei_reported.specs.Said.{Resumed, Paused, StartEmulating, StopEmulating, Frame}
use Rattle.ei_reported.specs.Said.{Said, Shakes, Aside, Disconnects, SeatComes, SeatHasName, SeatHas, SeatDone, SeatGoes, DeviceComes, DeviceHas}
use Rattle.ei_reported.specs.Said.{DeviceHasType, DeviceGets, DeviceDone, DeviceTells, DeviceGoes, Maps, Inputs, Modifies, Goes}

-- ---- an event of the code as the definitions have it

-- the interface that a typed event is one of
abbrev pub interface_heard : Typed → KnownInterface
interface_heard (event.Handshake proxy m) = known.Handshake
interface_heard (event.Connection proxy m) = known.Connection
interface_heard (event.Callback proxy m) = known.Callback
interface_heard (event.Seat proxy m) = known.Seat
interface_heard (event.Device proxy m) = known.Device
interface_heard (event.Pointer proxy m) = known.Pointer
interface_heard (event.PointerAbsolute proxy m) = known.PointerAbsolute
interface_heard (event.Scroll proxy m) = known.Scroll
interface_heard (event.Button proxy m) = known.Button
interface_heard (event.Keyboard proxy m) = known.Keyboard
interface_heard (event.Touchscreen proxy m) = known.Touchscreen
interface_heard (event.Text proxy m) = known.Text
interface_heard (event.Gesture proxy m) = known.Gesture

abbrev pub heard : Typed → Event
heard e = record { target = (target_of e).id; interface = interface_heard e; opcode = opcode_of e; values = values_of e }

-- ---- what it says

abbrev pub connection_says : Connection → Said
connection_says (connection.Disconnected last_serial reason explanation) = Disconnects last_serial reason explanation
connection_says (connection.Seat new) = SeatComes new.id
connection_says (connection.InvalidObject last_serial id) = Aside
connection_says (connection.Ping ping) = Aside

abbrev pub seat_says : ℕ → Seat → Said
seat_says id (seat.Destroyed serial) = SeatGoes id serial
seat_says id (seat.Name name) = SeatHasName id
seat_says id (seat.Capability mask interface) = SeatHas id interface
seat_says id seat.Done = SeatDone id
seat_says id (seat.Device new) = DeviceComes id new.id

abbrev pub device_says : ℕ → Device → Said
device_says id (device.Destroyed serial) = DeviceGoes id serial
device_says id (device.Name name) = DeviceHas id
device_says id (device.DeviceType kind) = DeviceHasType id
device_says id (device.Dimensions width height) = DeviceHas id
device_says id (device.Region x y width height scale) = DeviceHas id
device_says id (device.Interface new) = DeviceGets id new.id (bytes_of new.interface) new.version
device_says id device.Done = DeviceDone id
device_says id (device.Resumed serial) = DeviceTells id serial Resumed
device_says id (device.Paused serial) = DeviceTells id serial Paused
device_says id (device.StartEmulating serial sequence) = DeviceTells id serial (StartEmulating sequence)
device_says id (device.StopEmulating serial) = DeviceTells id serial StopEmulating
device_says id (device.Frame serial time) = DeviceTells id serial (Frame time)
device_says id (device.RegionMappingId mapping) = DeviceHas id

abbrev pub pointer_says : ℕ → Pointer → Said
pointer_says id (pointer.Destroyed serial) = Goes known.Pointer id serial
pointer_says id (pointer.MotionRelative x y) = Inputs id (input.PointerMotion x y)

abbrev pub pointer_absolute_says : ℕ → PointerAbsolute → Said
pointer_absolute_says id (pointer_absolute.Destroyed serial) = Goes known.PointerAbsolute id serial
pointer_absolute_says id (pointer_absolute.MotionAbsolute x y) = Inputs id (input.PointerMotionAbsolute x y)

abbrev pub scroll_says : ℕ → Scroll → Said
scroll_says id (scroll.Destroyed serial) = Goes known.Scroll id serial
scroll_says id (scroll.Scroll x y) = Inputs id (input.ScrollDelta x y)
scroll_says id (scroll.ScrollDiscrete x y) = Inputs id (input.ScrollDiscrete x y)
scroll_says id (scroll.ScrollStop x y is_cancel) = Inputs id (scroll_end x y is_cancel)

abbrev pub button_says : ℕ → Button → Said
button_says id (button.Destroyed serial) = Goes known.Button id serial
button_says id (button.Button code state) = Inputs id (input.Button code state)

abbrev pub keyboard_says : ℕ → Keyboard → Said
keyboard_says id (keyboard.Destroyed serial) = Goes known.Keyboard id serial
keyboard_says id (keyboard.Keymap kind size map) = Maps id
keyboard_says id (keyboard.Key key state) = Inputs id (input.KeyboardKey key state)
keyboard_says id (keyboard.Modifiers serial depressed locked latched group) = Modifies id serial depressed locked latched group

abbrev pub touchscreen_says : ℕ → Touchscreen → Said
touchscreen_says id (touchscreen.Destroyed serial) = Goes known.Touchscreen id serial
touchscreen_says id (touchscreen.Down touch x y) = Inputs id (input.TouchDown touch x y)
touchscreen_says id (touchscreen.Motion touch x y) = Inputs id (input.TouchMotion touch x y)
touchscreen_says id (touchscreen.Up touch) = Inputs id (input.TouchUp touch)
touchscreen_says id (touchscreen.Cancel touch) = Inputs id (input.TouchCancel touch)

abbrev pub text_says : ℕ → Text → Said
text_says id (text.Destroyed serial) = Goes known.Text id serial
text_says id (text.Keysym keysym state) = Inputs id (input.TextKeysym keysym state)
text_says id (text.Utf8 letters) = Inputs id (input.TextUtf8 letters)

abbrev pub gesture_says : ℕ → Gesture → Said
gesture_says id (gesture.Destroyed serial) = Goes known.Gesture id serial
gesture_says id (gesture.Swipe fingers x y) = Inputs id (input.GestureSwipe fingers x y)
gesture_says id (gesture.Pinch scale) = Inputs id (input.GesturePinch scale)

-- of any event
abbrev pub said_of : Typed → Said
said_of (event.Handshake proxy m) = Shakes
said_of (event.Connection proxy m) = connection_says m
said_of (event.Callback proxy m) = Aside
said_of (event.Seat proxy m) = seat_says proxy.id m
said_of (event.Device proxy m) = device_says proxy.id m
said_of (event.Pointer proxy m) = pointer_says proxy.id m
said_of (event.PointerAbsolute proxy m) = pointer_absolute_says proxy.id m
said_of (event.Scroll proxy m) = scroll_says proxy.id m
said_of (event.Button proxy m) = button_says proxy.id m
said_of (event.Keyboard proxy m) = keyboard_says proxy.id m
said_of (event.Touchscreen proxy m) = touchscreen_says proxy.id m
said_of (event.Text proxy m) = text_says proxy.id m
said_of (event.Gesture proxy m) = gesture_says proxy.id m

-- a reason of the table, or another number: as every event has that was read
abbrev pub IsLawfulReason : Typed → Type 0
IsLawfulReason (event.Connection proxy (connection.Disconnected last_serial reason explanation)) = IsReason reason
IsLawfulReason e = Unit {0}
