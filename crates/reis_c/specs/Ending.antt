-- How a session ended, as C reads it.
use Rattle.std.specs.Prelude.{ℕ, List, Option, Some, None, Result, Ok, Err}
use Rattle.ei_wire.specs.declared.error.ParseError.{ParseError}
use Rattle.ei_wire.specs.declared.error.ParseError.TheVariants as parse
use Rattle.ei_types.specs.declared.error.Error.{Error}
use Rattle.ei_types.specs.declared.error.Error.TheVariants as error
use Rattle.ei_types.specs.declared.error.EventError.{EventError}
use Rattle.ei_types.specs.declared.error.EventError.TheVariants as event
use Rattle.ei_types.specs.declared.error.RequestError.{RequestError}
use Rattle.ei_types.specs.declared.error.RequestError.TheVariants as request
use Rattle.ei_types.specs.declared.error.HandshakeError.{HandshakeError}
use Rattle.ei_types.specs.declared.error.HandshakeError.TheVariants as handshake
use Rattle.ei_types.specs.Texts.{error_text}
use Rattle.ei_serve.specs.declared.session.Ended.{Ended}
use Rattle.ei_serve.specs.declared.session.Ended.TheVariants as ended
use Rattle.reis_eis.specs.declared.ending.Ending.{Ending}
use Rattle.reis_eis.specs.declared.ending.Ending.TheVariants as ending

-- the number of each error
abbrev pub parse_number : ParseError → ℕ
parse_number parse.EndOfMessage = 40
parse_number (parse.Utf8 place) = 41
parse_number (parse.InvalidId id) = 42
parse_number parse.NoFd = 43
parse_number (parse.InvalidOpcode interface opcode) = 44
parse_number (parse.InvalidVariant name value) = 45
parse_number (parse.InvalidInterface name) = 46
parse_number (parse.HeaderLength size) = 47
parse_number (parse.MessageLength size told) = 48
parse_number parse.InvalidNull = 49
parse_number parse.NoMemory = 50

abbrev pub event_number : EventError → ℕ
event_number event.DeviceEventBeforeDone = 60
event_number event.DeviceSetupEventAfterDone = 61
event_number event.SeatSetupEventAfterDone = 62
event_number event.SeatEventBeforeDone = 63
event_number event.NoDeviceType = 64
event_number event.UnexpectedHandshakeEvent = 65
event_number event.UnknownCapabilityInterface = 66

abbrev pub request_number : RequestError → ℕ
request_number request.InvalidCapabilities = 30
request_number request.DuplicatedTouchDown = 31
request_number request.TooManyTouches = 32
request_number request.InvalidTextLength = 33

abbrev pub handshake_number : HandshakeError → ℕ
handshake_number (handshake.InvalidObject id) = 20
handshake_number handshake.NonHandshakeEvent = 21
handshake_number handshake.MissingInterface = 22
handshake_number handshake.DuplicateEvent = 23

abbrev pub error_number : Error → ℕ
error_number error.UnexpectedHandshakeEvent = 16
error_number (error.InvalidInterfaceVersion name version) = 15
error_number (error.Event e) = event_number e
error_number (error.Request e) = request_number e
error_number (error.Parse e) = parse_number e
error_number (error.Handshake e) = handshake_number e
error_number error.UnexpectedEof = 10
error_number error.ReadFault = 17
error_number error.WriteFault = 18
error_number error.HandleLimit = 12
error_number error.IdsExhausted = 14
error_number error.MessageTooLong = 19
error_number error.PieceLimit = 11
error_number error.NoMemory = 13

-- the number of how a session ended, or of going on
abbrev pub end_number : Option (Result Ended Error) → ℕ
end_number None = 0
end_number (Some (Ok ended.Disconnect)) = 1
end_number (Some (Ok ended.End)) = 2
end_number (Some (Err e)) = error_number e

-- the number of how a connection ended, or of going on
abbrev pub ending_number : Option Ending → ℕ
ending_number None = 0
ending_number (Some ending.Disconnected) = 1
ending_number (Some ending.End) = 2
ending_number (Some ending.Told) = 3
ending_number (Some (ending.Refused e)) = error_number e

-- the text of the error that ended a session, if one did
abbrev pub end_text : Option (Result Ended Error) → Option (List ℕ)
end_text (Some (Err e)) = Some (error_text e)
end_text answer = None
