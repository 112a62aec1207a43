-- The texts of the errors, with numbers in decimal.
use Rattle.std.specs.Prelude.{ℕ, List, ◌++◌, codes, decimal}
use Rattle.ei_wire.specs.Texts.{parse_error_text}
use Rattle.ei_types.specs.declared.error.EventError.{EventError}
use Rattle.ei_types.specs.declared.error.EventError.TheVariants as event
use Rattle.ei_types.specs.declared.error.RequestError.{RequestError}
use Rattle.ei_types.specs.declared.error.RequestError.TheVariants as request
use Rattle.ei_types.specs.declared.error.HandshakeError.{HandshakeError}
use Rattle.ei_types.specs.declared.error.HandshakeError.TheVariants as handshake
use Rattle.ei_types.specs.declared.error.Error.{Error}
use Rattle.ei_types.specs.declared.error.Error.TheVariants as error

-- what is wrong with an event
abbrev pub event_error_text : EventError → List ℕ
event_error_text event.DeviceEventBeforeDone = codes "device event before done"
event_error_text event.DeviceSetupEventAfterDone = codes "device setup event after done"
event_error_text event.SeatSetupEventAfterDone = codes "seat setup event after done"
event_error_text event.SeatEventBeforeDone = codes "seat event before done"
event_error_text event.NoDeviceType = codes "no device"
event_error_text event.UnexpectedHandshakeEvent = codes "unexpected handshake event"
event_error_text event.UnknownCapabilityInterface = codes "unknown interface in ei_seat.capability"

-- what is wrong with a request
abbrev pub request_error_text : RequestError → List ℕ
request_error_text request.InvalidCapabilities = codes "Invalid capabilities"
request_error_text request.DuplicatedTouchDown = codes "Touch down event for duplicated touch ID"
request_error_text request.TooManyTouches = codes "Too many simultaneous touch events"
request_error_text request.InvalidTextLength = codes "Empty or too long text string"

-- what is wrong with a handshake
abbrev pub handshake_error_text : HandshakeError → List ℕ
handshake_error_text (handshake.InvalidObject id) = codes "invalid object " ++ (decimal id ++ codes " during handshake")
handshake_error_text handshake.NonHandshakeEvent = codes "non-handshake event during handshake"
handshake_error_text handshake.MissingInterface = codes "missing required interface"
handshake_error_text handshake.DuplicateEvent = codes "duplicate event during handshake"

-- why a session stops
abbrev pub error_text : Error → List ℕ
error_text error.UnexpectedHandshakeEvent = codes "unexpected handshake event"
error_text (error.InvalidInterfaceVersion interface version) = codes "invalid version " ++ (decimal version ++ (codes " for interface '" ++ (interface.now ++ codes "'")))
error_text (error.Event e) = codes "event error: " ++ event_error_text e
error_text (error.Request e) = codes "request error: " ++ request_error_text e
error_text (error.Parse e) = codes "parse error: " ++ parse_error_text e
error_text (error.Handshake e) = codes "handshake error: " ++ handshake_error_text e
error_text error.UnexpectedEof = codes "IO error: unexpected EOF reading ei socket"
error_text error.ReadFault = codes "IO error: read fault"
error_text error.WriteFault = codes "IO error: write fault"
error_text error.HandleLimit = codes "too many unread handles"
error_text error.IdsExhausted = codes "no object id is left"
error_text error.MessageTooLong = codes "message too long"
error_text error.PieceLimit = codes "piece limit reached"
error_text error.NoMemory = codes "out of memory"
