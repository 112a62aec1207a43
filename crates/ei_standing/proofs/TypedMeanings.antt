-- What a typed request asks is what its message asks.
use Rattle.std.proofs.Common.{◌≡◌, ℕ, true, List, [], Option, Some, None, refl, sym, ap, ◌∙◌}
use Rattle.ei_spec.specs.declared.interface.KnownInterface.{KnownInterface}
use Rattle.ei_spec.specs.declared.interface.KnownInterface.TheVariants as known
use Rattle.ei_spec.specs.Value.{Value}
use Rattle.ei_spec.specs.Message.{Raw}
use Rattle.ei_types.specs.Enums.{context_type_number}
use Rattle.ei_server.specs.declared.request.Request.{Request}
use Rattle.ei_server.specs.declared.request.Request.TheVariants as request
use Rattle.ei_server.specs.declared.handshake.Request.TheVariants as handshake
use Rattle.ei_server.specs.declared.connection.Request.TheVariants as connection
use Rattle.ei_server.specs.declared.pingpong.Request.TheVariants as pingpong
use Rattle.ei_server.specs.declared.seat.Request.TheVariants as seat
use Rattle.ei_server.specs.declared.device.Request.TheVariants as device
use Rattle.ei_server.specs.Request.{opcode_of, values_of}
use Rattle.ei_input.specs.declared.input_event.InputEvent.{InputEvent}
use Rattle.ei_session.specs.Arguments.{request_args}
use Rattle.ei_session.specs.Inputs.{is_of_device, input_of}
use Rattle.ei_session.specs.Meaning.{meaning, Releases, Inputs, Greeting, Finish, ContextType, Name, InterfaceVersion, Sync, Disconnect, Pong, SeatRelease, Bind}
use Rattle.ei_session.specs.Meaning.{RequestDevice, DeviceRelease, Start, Stop, Frame, Ready, Release, Input}
use Rattle.ei_session.proofs.AskedRows.{reads_as}
use Rattle.ei_session.proofs.DeviceInterfaces.{AsksSo, OfRelease, OfInput, asks_one, no_first_input}
use Rattle.ei_session.proofs.RowsMean.{asks_means}
use Rattle.ei_request.specs.Typed.{interface_asked, interface_meaning, meaning_of}

-- a request to an interface of a device asks its input, or else its release
interface_meant : (m : Raw) (k : KnownInterface) (values : List Value) → is_of_device k ≡ true → request_args k m ≡ Some values → meaning k m ≡ Some (interface_meaning (input_of k m.opcode values))
interface_meant m k values d a =
    let r = reads_as k m values a in
    by (asks_one k m.opcode r.row values d r.is_row r.held)
  where
    by : AsksSo k m.opcode values → meaning k m ≡ Some (interface_meaning (input_of k m.opcode values))
    by (OfRelease o e) =
        let none : input_of k m.opcode values ≡ None = ap (λ (n : ℕ). input_of k n values) o ∙ no_first_input k values in
        asks_means m k 0 [] Releases (Release k d) o (a ∙ ap (λ (vs : List Value). Some vs) e) ∙ ap (λ (i : Option InputEvent). Some (interface_meaning i)) (sym none)
    by (OfInput i h) = asks_means m k m.opcode values (Inputs i) (Input k m.opcode values i h) refl a ∙ ap (λ (j : Option InputEvent). Some (interface_meaning j)) (sym h)

-- the message of a typed request: its opcode and its arguments
pub record Spells (m : Raw) (r : Request) : Type 0 where
  pub opcode : m.opcode ≡ opcode_of r
  pub args : request_args (interface_asked r) m ≡ Some (values_of r)

pub meant : (m : Raw) (r : Request) → Spells m r → meaning (interface_asked r) m ≡ Some (meaning_of r)
meant m (request.Handshake proxy (handshake.HandshakeVersion version)) h = asks_means m known.Handshake 0 _ _ (Greeting version) h.opcode h.args
meant m (request.Handshake proxy handshake.Finish) h = asks_means m known.Handshake 1 _ _ Finish h.opcode h.args
meant m (request.Handshake proxy (handshake.ContextType kind)) h = asks_means m known.Handshake 2 _ _ (ContextType (context_type_number kind)) h.opcode h.args
meant m (request.Handshake proxy (handshake.Name name)) h = asks_means m known.Handshake 3 _ _ (Name name) h.opcode h.args
meant m (request.Handshake proxy (handshake.InterfaceVersion name version)) h = asks_means m known.Handshake 4 _ _ (InterfaceVersion name version) h.opcode h.args
meant m (request.Connection proxy (connection.Sync callback)) h = asks_means m known.Connection 0 _ _ (Sync callback.id callback.version) h.opcode h.args
meant m (request.Connection proxy connection.Disconnect) h = asks_means m known.Connection 1 _ _ Disconnect h.opcode h.args
meant m (request.Pingpong proxy (pingpong.Done number)) h = asks_means m known.Pingpong 0 _ _ (Pong number) h.opcode h.args
meant m (request.Seat proxy seat.Release) h = asks_means m known.Seat 0 _ _ SeatRelease h.opcode h.args
meant m (request.Seat proxy (seat.Bind mask)) h = asks_means m known.Seat 1 _ _ (Bind mask) h.opcode h.args
meant m (request.Seat proxy (seat.RequestDevice mask)) h = asks_means m known.Seat 2 _ _ (RequestDevice mask) h.opcode h.args
meant m (request.Device proxy device.Release) h = asks_means m known.Device 0 _ _ DeviceRelease h.opcode h.args
meant m (request.Device proxy (device.StartEmulating serial sequence)) h = asks_means m known.Device 1 _ _ (Start serial sequence) h.opcode h.args
meant m (request.Device proxy (device.StopEmulating serial)) h = asks_means m known.Device 2 _ _ (Stop serial) h.opcode h.args
meant m (request.Device proxy (device.Frame serial time)) h = asks_means m known.Device 3 _ _ (Frame serial time) h.opcode h.args
meant m (request.Device proxy device.Ready) h = asks_means m known.Device 4 _ _ Ready h.opcode h.args
meant m r h = interface_meant m (interface_asked r) (values_of r) refl h.args ∙ ap (λ (n : ℕ). Some (interface_meaning (input_of (interface_asked r) n (values_of r)))) h.opcode
