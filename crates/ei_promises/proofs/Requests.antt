-- A request as it is stored, and what it says of the handshake.
use Rattle.std.proofs.Common.{◌≡◌, false, Option, Some, None, refl}
use Rattle.ei_server.specs.declared.request.Request.{Request}
use Rattle.ei_server.specs.declared.request.Request.TheVariants as request
use Rattle.ei_server.specs.declared.handshake.Request.TheVariants as handshake
use Rattle.ei_server.specs.declared.connection.Request.TheVariants as connection
use Rattle.ei_server.specs.declared.pingpong.Request.TheVariants as pingpong
use Rattle.ei_server.specs.declared.seat.Request.TheVariants as seat
use Rattle.ei_server.specs.declared.device.Request.TheVariants as device
use Rattle.ei_server.specs.declared.pointer.Request.TheVariants as pointer
use Rattle.ei_server.specs.declared.pointer_absolute.Request.TheVariants as pointer_absolute
use Rattle.ei_server.specs.declared.scroll.Request.TheVariants as scroll
use Rattle.ei_server.specs.declared.button.Request.TheVariants as button
use Rattle.ei_server.specs.declared.keyboard.Request.TheVariants as keyboard
use Rattle.ei_server.specs.declared.touchscreen.Request.TheVariants as touchscreen
use Rattle.ei_server.specs.declared.text.Request.TheVariants as text
use Rattle.ei_server.specs.declared.gesture.Request.TheVariants as gesture
use Rattle.ei_server.specs.Request.{target_of, opcode_of, values_of}
use Rattle.ei_session.specs.Meaning.{Shake}
use Rattle.ei_ends.specs.Sent.{Sent}
use Rattle.ei_shaking.specs.Heard.{shake}
use Rattle.ei_linked.specs.Stored.{sent_view, read_as}
use Rattle.ei_request.specs.Typed.{interface_asked, shake_of}

-- the message
abbrev pub message_of : Request → Sent
message_of r = record { target = (target_of r).id; interface = interface_asked r; version = (target_of r).version; opcode = opcode_of r; values = values_of r }

-- it is stored as it was read
pub stored_so : (r : Request) → sent_view (read_as false (target_of r) (opcode_of r) (values_of r)) ≡ message_of r
stored_so (request.Handshake proxy (handshake.HandshakeVersion version)) = refl
stored_so (request.Handshake proxy handshake.Finish) = refl
stored_so (request.Handshake proxy (handshake.ContextType context_type)) = refl
stored_so (request.Handshake proxy (handshake.Name name)) = refl
stored_so (request.Handshake proxy (handshake.InterfaceVersion name version)) = refl
stored_so (request.Connection proxy (connection.Sync callback)) = refl
stored_so (request.Connection proxy connection.Disconnect) = refl
stored_so (request.Pingpong proxy (pingpong.Done callback_data)) = refl
stored_so (request.Seat proxy seat.Release) = refl
stored_so (request.Seat proxy (seat.Bind capabilities)) = refl
stored_so (request.Seat proxy (seat.RequestDevice capabilities)) = refl
stored_so (request.Device proxy device.Release) = refl
stored_so (request.Device proxy (device.StartEmulating last_serial sequence)) = refl
stored_so (request.Device proxy (device.StopEmulating last_serial)) = refl
stored_so (request.Device proxy (device.Frame last_serial timestamp)) = refl
stored_so (request.Device proxy device.Ready) = refl
stored_so (request.Pointer proxy pointer.Release) = refl
stored_so (request.Pointer proxy (pointer.MotionRelative x y)) = refl
stored_so (request.PointerAbsolute proxy pointer_absolute.Release) = refl
stored_so (request.PointerAbsolute proxy (pointer_absolute.MotionAbsolute x y)) = refl
stored_so (request.Scroll proxy scroll.Release) = refl
stored_so (request.Scroll proxy (scroll.Scroll x y)) = refl
stored_so (request.Scroll proxy (scroll.ScrollDiscrete x y)) = refl
stored_so (request.Scroll proxy (scroll.ScrollStop x y is_cancel)) = refl
stored_so (request.Button proxy button.Release) = refl
stored_so (request.Button proxy (button.Button button state)) = refl
stored_so (request.Keyboard proxy keyboard.Release) = refl
stored_so (request.Keyboard proxy (keyboard.Key key state)) = refl
stored_so (request.Touchscreen proxy touchscreen.Release) = refl
stored_so (request.Touchscreen proxy (touchscreen.Down touchid x y)) = refl
stored_so (request.Touchscreen proxy (touchscreen.Motion touchid x y)) = refl
stored_so (request.Touchscreen proxy (touchscreen.Up touchid)) = refl
stored_so (request.Touchscreen proxy (touchscreen.Cancel touchid)) = refl
stored_so (request.Text proxy text.Release) = refl
stored_so (request.Text proxy (text.Keysym keysym state)) = refl
stored_so (request.Text proxy (text.Utf8 text)) = refl
stored_so (request.Gesture proxy gesture.Release) = refl
stored_so (request.Gesture proxy (gesture.Swipe fingers x y)) = refl
stored_so (request.Gesture proxy (gesture.Pinch scale)) = refl

-- what it says of the handshake: only a request of the handshake says anything
abbrev pub said_by : Request → Option Shake
said_by (request.Handshake proxy m) = Some (shake_of m)
said_by r = None

pub says_shake : (r : Request) → shake (message_of r) ≡ said_by r
unfolding shake
says_shake (request.Handshake proxy (handshake.HandshakeVersion version)) = refl
says_shake (request.Handshake proxy handshake.Finish) = refl
says_shake (request.Handshake proxy (handshake.ContextType context_type)) = refl
says_shake (request.Handshake proxy (handshake.Name name)) = refl
says_shake (request.Handshake proxy (handshake.InterfaceVersion name version)) = refl
says_shake (request.Connection proxy m) = refl
says_shake (request.Pingpong proxy m) = refl
says_shake (request.Seat proxy m) = refl
says_shake (request.Device proxy m) = refl
says_shake (request.Pointer proxy m) = refl
says_shake (request.PointerAbsolute proxy m) = refl
says_shake (request.Scroll proxy m) = refl
says_shake (request.Button proxy m) = refl
says_shake (request.Keyboard proxy m) = refl
says_shake (request.Touchscreen proxy m) = refl
says_shake (request.Text proxy m) = refl
says_shake (request.Gesture proxy m) = refl
