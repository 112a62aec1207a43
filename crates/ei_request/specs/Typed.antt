-- What a typed request asks for.
use Rattle.std.specs.Prelude.{Option, Some, None}
use Rattle.ei_spec.specs.declared.interface.KnownInterface.{KnownInterface}
use Rattle.ei_spec.specs.declared.interface.KnownInterface.TheVariants as known
use Rattle.ei_types.specs.Enums.{context_type_number}
use Rattle.ei_server.specs.declared.request.Request.{Request}
use Rattle.ei_server.specs.declared.request.Request.TheVariants as request
use Rattle.ei_server.specs.declared.handshake.Request.{Request as Handshake}
use Rattle.ei_server.specs.declared.handshake.Request.TheVariants as handshake
use Rattle.ei_server.specs.declared.connection.Request.{Request as Connection}
use Rattle.ei_server.specs.declared.connection.Request.TheVariants as connection
use Rattle.ei_server.specs.declared.pingpong.Request.{Request as Pingpong}
use Rattle.ei_server.specs.declared.pingpong.Request.TheVariants as pingpong
use Rattle.ei_server.specs.declared.seat.Request.{Request as Seat}
use Rattle.ei_server.specs.declared.seat.Request.TheVariants as seat
use Rattle.ei_server.specs.declared.device.Request.{Request as Device}
use Rattle.ei_server.specs.declared.device.Request.TheVariants as device
use Rattle.ei_server.specs.Request.{opcode_of, values_of}
use Rattle.ei_input.specs.declared.input_event.InputEvent.{InputEvent}
use Rattle.ei_session.specs.Inputs.{input_of}
use Rattle.ei_session.specs.Meaning.{Shake, Greets, Finishes, TellsContext, TellsName, TellsInterface}
use Rattle.ei_session.specs.Meaning.{Meaning, Shakes, Syncs, Disconnects, Pongs, ReleasesSeat, Binds, RequestsDevice, Closes, Starts, Stops, Frames}
use Rattle.ei_session.specs.Meaning.{Readies, Releases, Inputs}

-- ---- an interface of a device

-- the interface that a request is one of
abbrev pub interface_asked : Request → KnownInterface
interface_asked (request.Handshake proxy m) = known.Handshake
interface_asked (request.Connection proxy m) = known.Connection
interface_asked (request.Pingpong proxy m) = known.Pingpong
interface_asked (request.Seat proxy m) = known.Seat
interface_asked (request.Device proxy m) = known.Device
interface_asked (request.Pointer proxy m) = known.Pointer
interface_asked (request.PointerAbsolute proxy m) = known.PointerAbsolute
interface_asked (request.Scroll proxy m) = known.Scroll
interface_asked (request.Button proxy m) = known.Button
interface_asked (request.Keyboard proxy m) = known.Keyboard
interface_asked (request.Touchscreen proxy m) = known.Touchscreen
interface_asked (request.Text proxy m) = known.Text
interface_asked (request.Gesture proxy m) = known.Gesture

-- the input that a request to an interface of a device asks, by its row; none where it is the release
abbrev pub input_asked : Request → Option InputEvent
input_asked r = input_of (interface_asked r) (opcode_of r) (values_of r)

-- what it asks then
abbrev pub interface_meaning : Option InputEvent → Meaning
interface_meaning None = Releases
interface_meaning (Some i) = Inputs i

-- ---- any request

abbrev pub shake_of : Handshake → Shake
shake_of (handshake.HandshakeVersion version) = Greets version
shake_of handshake.Finish = Finishes
shake_of (handshake.ContextType kind) = TellsContext (context_type_number kind)
shake_of (handshake.Name name) = TellsName name
shake_of (handshake.InterfaceVersion name version) = TellsInterface name version

abbrev pub connection_meaning : Connection → Meaning
connection_meaning (connection.Sync callback) = Syncs callback.id callback.version
connection_meaning connection.Disconnect = Disconnects

abbrev pub ping_meaning : Pingpong → Meaning
ping_meaning (pingpong.Done number) = Pongs number

abbrev pub seat_meaning : Seat → Meaning
seat_meaning seat.Release = ReleasesSeat
seat_meaning (seat.Bind mask) = Binds mask
seat_meaning (seat.RequestDevice mask) = RequestsDevice mask

abbrev pub device_meaning : Device → Meaning
device_meaning device.Release = Closes
device_meaning (device.StartEmulating serial sequence) = Starts serial sequence
device_meaning (device.StopEmulating serial) = Stops serial
device_meaning (device.Frame serial time) = Frames serial time
device_meaning device.Ready = Readies

abbrev pub meaning_of : Request → Meaning
meaning_of (request.Handshake proxy m) = Shakes (shake_of m)
meaning_of (request.Connection proxy m) = connection_meaning m
meaning_of (request.Pingpong proxy m) = ping_meaning m
meaning_of (request.Seat proxy m) = seat_meaning m
meaning_of (request.Device proxy m) = device_meaning m
meaning_of r = interface_meaning (input_asked r)
