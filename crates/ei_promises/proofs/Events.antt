-- An event as it is stored, and what it says.
use Rattle.std.proofs.Common.{◌≡◌, true, Some, None, Option, refl}
use Rattle.ei_client.specs.declared.event.Event.{Event}
use Rattle.ei_client.specs.declared.event.Event.TheVariants as event
use Rattle.ei_client.specs.declared.handshake.Event.TheVariants as handshake
use Rattle.ei_client.specs.declared.connection.Event.TheVariants as connection
use Rattle.ei_client.specs.declared.callback.Event.TheVariants as callback
use Rattle.ei_client.specs.declared.seat.Event.TheVariants as seat
use Rattle.ei_client.specs.declared.device.Event.TheVariants as device
use Rattle.ei_client.specs.declared.pointer.Event.TheVariants as pointer
use Rattle.ei_client.specs.declared.pointer_absolute.Event.TheVariants as pointer_absolute
use Rattle.ei_client.specs.declared.scroll.Event.TheVariants as scroll
use Rattle.ei_client.specs.declared.button.Event.TheVariants as button
use Rattle.ei_client.specs.declared.keyboard.Event.TheVariants as keyboard
use Rattle.ei_client.specs.declared.touchscreen.Event.TheVariants as touchscreen
use Rattle.ei_client.specs.declared.text.Event.TheVariants as text
use Rattle.ei_client.specs.declared.gesture.Event.TheVariants as gesture
use Rattle.ei_client.specs.declared.handshake.Event.{Event as Told}
use Rattle.ei_client.specs.Event.{target_of, opcode_of, values_of}
use Rattle.ei_ends.specs.Sent.{Sent}
use Rattle.ei_greeting.specs.Shaking.{Shake, Begins, Tells, Connects}
use Rattle.ei_told.specs.Told.{event_of}
use Rattle.ei_shaking.specs.Heard.{event_shake}
use Rattle.ei_linked.specs.Stored.{sent_view, read_as}
use Rattle.ei_event.specs.Typed.{interface_heard, heard}

-- the message
abbrev pub message_of : Event → Sent
message_of e = record { target = (target_of e).id; interface = interface_heard e; version = (target_of e).version; opcode = opcode_of e; values = values_of e }

-- it is stored as it was read
pub stored_so : (e : Event) → sent_view (read_as true (target_of e) (opcode_of e) (values_of e)) ≡ message_of e
stored_so (event.Handshake proxy (handshake.HandshakeVersion version)) = refl
stored_so (event.Handshake proxy (handshake.InterfaceVersion name version)) = refl
stored_so (event.Handshake proxy (handshake.Connection serial connection)) = refl
stored_so (event.Connection proxy (connection.Disconnected last_serial reason None)) = refl
stored_so (event.Connection proxy (connection.Disconnected last_serial reason (Some t))) = refl
stored_so (event.Connection proxy (connection.Seat seat)) = refl
stored_so (event.Connection proxy (connection.InvalidObject last_serial invalid_id)) = refl
stored_so (event.Connection proxy (connection.Ping ping)) = refl
stored_so (event.Callback proxy (callback.Done callback_data)) = refl
stored_so (event.Seat proxy (seat.Destroyed serial)) = refl
stored_so (event.Seat proxy (seat.Name name)) = refl
stored_so (event.Seat proxy (seat.Capability mask interface)) = refl
stored_so (event.Seat proxy seat.Done) = refl
stored_so (event.Seat proxy (seat.Device device)) = refl
stored_so (event.Device proxy (device.Destroyed serial)) = refl
stored_so (event.Device proxy (device.Name name)) = refl
stored_so (event.Device proxy (device.DeviceType device_type)) = refl
stored_so (event.Device proxy (device.Dimensions width height)) = refl
stored_so (event.Device proxy (device.Region offset_x offset_y width hight scale)) = refl
stored_so (event.Device proxy (device.Interface object)) = refl
stored_so (event.Device proxy device.Done) = refl
stored_so (event.Device proxy (device.Resumed serial)) = refl
stored_so (event.Device proxy (device.Paused serial)) = refl
stored_so (event.Device proxy (device.StartEmulating serial sequence)) = refl
stored_so (event.Device proxy (device.StopEmulating serial)) = refl
stored_so (event.Device proxy (device.Frame serial timestamp)) = refl
stored_so (event.Device proxy (device.RegionMappingId mapping_id)) = refl
stored_so (event.Pointer proxy (pointer.Destroyed serial)) = refl
stored_so (event.Pointer proxy (pointer.MotionRelative x y)) = refl
stored_so (event.PointerAbsolute proxy (pointer_absolute.Destroyed serial)) = refl
stored_so (event.PointerAbsolute proxy (pointer_absolute.MotionAbsolute x y)) = refl
stored_so (event.Scroll proxy (scroll.Destroyed serial)) = refl
stored_so (event.Scroll proxy (scroll.Scroll x y)) = refl
stored_so (event.Scroll proxy (scroll.ScrollDiscrete x y)) = refl
stored_so (event.Scroll proxy (scroll.ScrollStop x y is_cancel)) = refl
stored_so (event.Button proxy (button.Destroyed serial)) = refl
stored_so (event.Button proxy (button.Button button state)) = refl
stored_so (event.Keyboard proxy (keyboard.Destroyed serial)) = refl
stored_so (event.Keyboard proxy (keyboard.Keymap keymap_type size keymap)) = refl
stored_so (event.Keyboard proxy (keyboard.Key key state)) = refl
stored_so (event.Keyboard proxy (keyboard.Modifiers serial depressed locked latched group)) = refl
stored_so (event.Touchscreen proxy (touchscreen.Destroyed serial)) = refl
stored_so (event.Touchscreen proxy (touchscreen.Down touchid x y)) = refl
stored_so (event.Touchscreen proxy (touchscreen.Motion touchid x y)) = refl
stored_so (event.Touchscreen proxy (touchscreen.Up touchid)) = refl
stored_so (event.Touchscreen proxy (touchscreen.Cancel touchid)) = refl
stored_so (event.Text proxy (text.Destroyed serial)) = refl
stored_so (event.Text proxy (text.Keysym keysym state)) = refl
stored_so (event.Text proxy (text.Utf8 text)) = refl
stored_so (event.Gesture proxy (gesture.Destroyed serial)) = refl
stored_so (event.Gesture proxy (gesture.Swipe fingers x y)) = refl
stored_so (event.Gesture proxy (gesture.Pinch scale)) = refl

-- it is heard as the message
pub heard_so : (e : Event) → heard e ≡ event_of (message_of e)
heard_so e = refl

-- what it says of the handshake: only an event of the handshake says anything
abbrev pub shake_of : Told → Shake
shake_of (handshake.HandshakeVersion version) = Begins
shake_of (handshake.InterfaceVersion name version) = Tells name version
shake_of (handshake.Connection serial connection) = Connects serial connection.id connection.version

abbrev pub said_by : Event → Option Shake
said_by (event.Handshake proxy m) = Some (shake_of m)
said_by e = None

pub says_shake : (e : Event) → event_shake (message_of e) ≡ said_by e
unfolding event_shake
says_shake (event.Handshake proxy (handshake.HandshakeVersion version)) = refl
says_shake (event.Handshake proxy (handshake.InterfaceVersion name version)) = refl
says_shake (event.Handshake proxy (handshake.Connection serial connection)) = refl
says_shake (event.Connection proxy m) = refl
says_shake (event.Callback proxy m) = refl
says_shake (event.Seat proxy m) = refl
says_shake (event.Device proxy m) = refl
says_shake (event.Pointer proxy m) = refl
says_shake (event.PointerAbsolute proxy m) = refl
says_shake (event.Scroll proxy m) = refl
says_shake (event.Button proxy m) = refl
says_shake (event.Keyboard proxy m) = refl
says_shake (event.Touchscreen proxy m) = refl
says_shake (event.Text proxy m) = refl
says_shake (event.Gesture proxy m) = refl
