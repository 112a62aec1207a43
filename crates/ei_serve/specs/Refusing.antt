-- The refusals of a session, as its errors tell them.
use Rattle.std.specs.Prelude.{◌≡◌, Option, Some, None}
use Rattle.std.specs.Option.{option_map}
use Rattle.ei_session.specs.Refusals.{Refusal, Parse, Handshake, InvalidInterfaceVersion, Request}
use Rattle.ei_session.specs.Served.{Answer, Refused}
use Rattle.ei_types.specs.declared.error.Error.{Error}
use Rattle.ei_types.specs.declared.error.Error.TheVariants as error
use Rattle.ei_types.specs.declared.error.HandshakeError.{HandshakeError}
use Rattle.ei_types.specs.declared.error.HandshakeError.TheVariants as handshake_error
use Rattle.ei_wire.specs.Gives.{fault_of}

-- each refusal of a handshake; a message of another interface doesn't come, since no other object is there
abbrev pub handshake_refusal : HandshakeError → Option Refusal
handshake_refusal handshake_error.NonHandshakeEvent = None
handshake_refusal e = Some (Handshake e)

-- the refusal that an error tells; none of an error that is no refusal of a message
abbrev pub refusal_of : Error → Option Refusal
refusal_of (error.Parse e) = option_map Parse (fault_of e)
refusal_of (error.Handshake e) = handshake_refusal e
refusal_of (error.InvalidInterfaceVersion interface version) = Some (InvalidInterfaceVersion interface.now version)
refusal_of (error.Request e) = Some (Request e)
refusal_of e = None

-- the session's answer is this refusal, where there is one
abbrev pub IsRefused : Option Refusal → Answer → Type 0
IsRefused None answer = ⊥
IsRefused (Some refusal) answer = answer ≡ Refused refusal
