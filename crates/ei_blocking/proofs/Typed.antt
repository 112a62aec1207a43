-- What a typed event says in a handshake.
use Rattle.std.proofs.Common.{◌≡◌, Option, Some, None, refl}
use Rattle.ei_client.specs.declared.event.Event.{Event}
use Rattle.ei_client.specs.declared.event.Event.TheVariants as event
use Rattle.ei_client.specs.declared.handshake.Event.TheVariants as told
use Rattle.ei_client.specs.Event.{target_of, opcode_of, values_of}
use Rattle.ei_greeting.specs.Shaking.{Shake, Begins, Tells, Connects, shake_of}

abbrev pub shake_in : Event → Option Shake
shake_in (event.Handshake proxy (told.HandshakeVersion version)) = Some Begins
shake_in (event.Handshake proxy (told.InterfaceVersion name version)) = Some (Tells name version)
shake_in (event.Handshake proxy (told.Connection serial connection)) = Some (Connects serial connection.id connection.version)
shake_in other = None

pub says : (e : Event) → shake_of (target_of e).interface (opcode_of e) (values_of e) ≡ shake_in e
says (event.Handshake proxy (told.HandshakeVersion version)) = refl
says (event.Handshake proxy (told.InterfaceVersion name version)) = refl
says (event.Handshake proxy (told.Connection serial connection)) = refl
says (event.Connection proxy m) = refl
says (event.Callback proxy m) = refl
says (event.Seat proxy m) = refl
says (event.Device proxy m) = refl
says (event.Pointer proxy m) = refl
says (event.PointerAbsolute proxy m) = refl
says (event.Scroll proxy m) = refl
says (event.Button proxy m) = refl
says (event.Keyboard proxy m) = refl
says (event.Touchscreen proxy m) = refl
says (event.Text proxy m) = refl
says (event.Gesture proxy m) = refl
