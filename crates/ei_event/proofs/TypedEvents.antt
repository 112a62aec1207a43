-- A typed event says what its message says.
use Rattle.std.proofs.Common.{◌≡◌, refl, Some, None}
use Rattle.ei_types.specs.declared.enums.ButtonState.TheVariants as button_state
use Rattle.ei_types.specs.declared.enums.KeyState.TheVariants as key_state
use Rattle.ei_client.specs.declared.event.Event.{Event as Typed}
use Rattle.ei_client.specs.declared.event.Event.TheVariants as event
use Rattle.ei_client.specs.declared.connection.Event.TheVariants as connection
use Rattle.ei_client.specs.declared.callback.Event.TheVariants as callback
use Rattle.ei_client.specs.declared.seat.Event.TheVariants as seat
use Rattle.ei_client.specs.declared.device.Event.TheVariants as device
use Rattle.ei_client.specs.declared.pointer.Event.TheVariants as pointer
use Rattle.ei_client.specs.declared.pointer_absolute.Event.TheVariants as pointer_absolute
use Rattle.ei_client.specs.declared.scroll.Event.TheVariants as scroll
use Rattle.ei_client.specs.declared.button.Event.TheVariants as button
use Rattle.ei_client.specs.declared.keyboard.Event.TheVariants as keyboard
use Rattle.ei_client.specs.declared.touchscreen.Event.TheVariants as touchscreen
use Rattle.ei_client.specs.declared.text.Event.TheVariants as text
use Rattle.ei_client.specs.declared.gesture.Event.TheVariants as gesture
use Rattle.ei_reported.specs.Said.{said}
use Rattle.ei_reported.proofs.StatesByNumber.{disconnected, without_text}
use Rattle.ei_event.specs.Typed.{heard, said_of, IsLawfulReason}

pub typed_says : (e : Typed) → IsLawfulReason e → said (heard e) ≡ said_of e
unfolding said
typed_says (event.Handshake proxy m) l = refl
typed_says (event.Connection proxy (connection.Disconnected last_serial why None)) l = without_text proxy.id last_serial why l
typed_says (event.Connection proxy (connection.Disconnected last_serial why (Some t))) l = disconnected proxy.id last_serial why t l
typed_says (event.Connection proxy (connection.Seat new)) l = refl
typed_says (event.Connection proxy (connection.InvalidObject last_serial id)) l = refl
typed_says (event.Connection proxy (connection.Ping ping)) l = refl
typed_says (event.Callback proxy (callback.Done number)) l = refl
typed_says (event.Seat proxy (seat.Destroyed serial)) l = refl
typed_says (event.Seat proxy (seat.Name name)) l = refl
typed_says (event.Seat proxy (seat.Capability mask interface)) l = refl
typed_says (event.Seat proxy seat.Done) l = refl
typed_says (event.Seat proxy (seat.Device new)) l = refl
typed_says (event.Device proxy (device.Destroyed serial)) l = refl
typed_says (event.Device proxy (device.Name name)) l = refl
typed_says (event.Device proxy (device.DeviceType kind)) l = refl
typed_says (event.Device proxy (device.Dimensions width height)) l = refl
typed_says (event.Device proxy (device.Region x y width height scale)) l = refl
typed_says (event.Device proxy (device.Interface new)) l = refl
typed_says (event.Device proxy device.Done) l = refl
typed_says (event.Device proxy (device.Resumed serial)) l = refl
typed_says (event.Device proxy (device.Paused serial)) l = refl
typed_says (event.Device proxy (device.StartEmulating serial sequence)) l = refl
typed_says (event.Device proxy (device.StopEmulating serial)) l = refl
typed_says (event.Device proxy (device.Frame serial time)) l = refl
typed_says (event.Device proxy (device.RegionMappingId mapping)) l = refl
typed_says (event.Pointer proxy (pointer.Destroyed serial)) l = refl
typed_says (event.Pointer proxy (pointer.MotionRelative x y)) l = refl
typed_says (event.PointerAbsolute proxy (pointer_absolute.Destroyed serial)) l = refl
typed_says (event.PointerAbsolute proxy (pointer_absolute.MotionAbsolute x y)) l = refl
typed_says (event.Scroll proxy (scroll.Destroyed serial)) l = refl
typed_says (event.Scroll proxy (scroll.Scroll x y)) l = refl
typed_says (event.Scroll proxy (scroll.ScrollDiscrete x y)) l = refl
typed_says (event.Scroll proxy (scroll.ScrollStop x y is_cancel)) l = refl
typed_says (event.Button proxy (button.Destroyed serial)) l = refl
typed_says (event.Button proxy (button.Button code button_state.Released)) l = refl
typed_says (event.Button proxy (button.Button code button_state.Press)) l = refl
typed_says (event.Keyboard proxy (keyboard.Destroyed serial)) l = refl
typed_says (event.Keyboard proxy (keyboard.Keymap kind size map)) l = refl
typed_says (event.Keyboard proxy (keyboard.Key key key_state.Released)) l = refl
typed_says (event.Keyboard proxy (keyboard.Key key key_state.Press)) l = refl
typed_says (event.Keyboard proxy (keyboard.Modifiers serial depressed locked latched group)) l = refl
typed_says (event.Touchscreen proxy (touchscreen.Destroyed serial)) l = refl
typed_says (event.Touchscreen proxy (touchscreen.Down touch x y)) l = refl
typed_says (event.Touchscreen proxy (touchscreen.Motion touch x y)) l = refl
typed_says (event.Touchscreen proxy (touchscreen.Up touch)) l = refl
typed_says (event.Touchscreen proxy (touchscreen.Cancel touch)) l = refl
typed_says (event.Text proxy (text.Destroyed serial)) l = refl
typed_says (event.Text proxy (text.Keysym keysym key_state.Released)) l = refl
typed_says (event.Text proxy (text.Keysym keysym key_state.Press)) l = refl
typed_says (event.Text proxy (text.Utf8 letters)) l = refl
typed_says (event.Gesture proxy (gesture.Destroyed serial)) l = refl
typed_says (event.Gesture proxy (gesture.Swipe fingers x y)) l = refl
typed_says (event.Gesture proxy (gesture.Pinch scale)) l = refl
