-- The arguments of a request by its name, where it is told what it asks.
use Rattle.std.proofs.Common.{◌≡◌, ℕ, true, false, List, [], ◌∷◌, Some, None, refl, sym, ap, ◌∙◌, subst}
use Rattle.std.specs.Prelude.{codes}
use Rattle.ei_spec.specs.declared.interface.KnownInterface.{KnownInterface}
use Rattle.ei_spec.specs.declared.interface.KnownInterface.TheVariants as known
use Rattle.ei_spec.specs.Value.{Value, Word, Long, Letters}
use Rattle.ei_spec.specs.Rows.{Row, row_named}
use Rattle.ei_spec.specs.Table.{table}
use Rattle.ei_spec.specs.Message.{Raw}
use Rattle.ei_session.specs.Arguments.{request_args}
use Rattle.ei_session.specs.Asked.{asked}
use Rattle.ei_session.specs.Inputs.{is_of_device}
use Rattle.ei_session.specs.Meaning.{Shake, Meaning, Greets, Finishes, TellsContext, TellsName, TellsInterface, Shakes, Syncs, Disconnects, Pongs, ReleasesSeat}
use Rattle.ei_session.specs.Meaning.{Binds, RequestsDevice, Closes, Starts, Stops, Frames, Readies, Releases, Inputs, Asks, Greeting, Finish, ContextType, Name}
use Rattle.ei_session.specs.Meaning.{InterfaceVersion, Sync, Disconnect, Pong, SeatRelease, Bind, RequestDevice, DeviceRelease, Start, Stop, Frame, Ready}
use Rattle.ei_session.specs.Meaning.{Release, Input, meaning}
use Rattle.ei_session.specs.Objects.{is_device}
use Rattle.ei_session.specs.ByMeaning.{of_interface}
use Rattle.ei_session.specs.Kept.{is_bare}
use Rattle.ei_session.proofs.Choices.{none_some, some_is}
use Rattle.ei_session.proofs.AskedRows.{asked_row}
use Rattle.ei_session.proofs.ReadsMean.{means_row}
use Rattle.ei_session.proofs.DeviceInterfaces.{of_device_is, input_of_device}

-- the interface, the opcode and the arguments of a row
record IsRow (k : KnownInterface) (n : ℕ) (values : List Value) (interface : KnownInterface) (opcode : ℕ) (args : List Value) : Type 0 where
  kind : k ≡ interface
  number : n ≡ opcode
  spelled : values ≡ args

is_row : (k : KnownInterface) (n : ℕ) (args : List Value) → IsRow k n args k n args
is_row k n args = record { kind = refl; number = refl; spelled = refl }

greeting_row : (k : KnownInterface) (n : ℕ) (values : List Value) (version : ℕ) → Asks k n values (Shakes (Greets version)) → IsRow k n values known.Handshake 0 (Word version ∷ [])
greeting_row k n values version (Greeting a) = is_row known.Handshake 0 (Word version ∷ [])

finish_row : (k : KnownInterface) (n : ℕ) (values : List Value) → Asks k n values (Shakes Finishes) → IsRow k n values known.Handshake 1 []
finish_row k n values Finish = is_row known.Handshake 1 []

context_type_row : (k : KnownInterface) (n : ℕ) (values : List Value) (context : ℕ) → Asks k n values (Shakes (TellsContext context)) → IsRow k n values known.Handshake 2 (Word context ∷ [])
context_type_row k n values context (ContextType a) = is_row known.Handshake 2 (Word context ∷ [])

name_row : (k : KnownInterface) (n : ℕ) (values : List Value) (letters : List ℕ) → Asks k n values (Shakes (TellsName letters)) → IsRow k n values known.Handshake 3 (Letters letters ∷ [])
name_row k n values letters (Name a) = is_row known.Handshake 3 (Letters letters ∷ [])

interface_version_row : (k : KnownInterface) (n : ℕ) (values : List Value) (letters : List ℕ) (version : ℕ) → Asks k n values (Shakes (TellsInterface letters version)) → IsRow k n values known.Handshake 4 (Letters letters ∷ Word version ∷ [])
interface_version_row k n values letters version (InterfaceVersion a b) = is_row known.Handshake 4 (Letters letters ∷ Word version ∷ [])

sync_row : (k : KnownInterface) (n : ℕ) (values : List Value) (callback version : ℕ) → Asks k n values (Syncs callback version) → IsRow k n values known.Connection 0 (Long callback ∷ Word version ∷ [])
sync_row k n values callback version (Sync a b) = is_row known.Connection 0 (Long callback ∷ Word version ∷ [])

disconnect_row : (k : KnownInterface) (n : ℕ) (values : List Value) → Asks k n values Disconnects → IsRow k n values known.Connection 1 []
disconnect_row k n values Disconnect = is_row known.Connection 1 []

pong_row : (k : KnownInterface) (n : ℕ) (values : List Value) (callback_data : ℕ) → Asks k n values (Pongs callback_data) → IsRow k n values known.Pingpong 0 (Long callback_data ∷ [])
pong_row k n values callback_data (Pong a) = is_row known.Pingpong 0 (Long callback_data ∷ [])

seat_release_row : (k : KnownInterface) (n : ℕ) (values : List Value) → Asks k n values ReleasesSeat → IsRow k n values known.Seat 0 []
seat_release_row k n values SeatRelease = is_row known.Seat 0 []

bind_row : (k : KnownInterface) (n : ℕ) (values : List Value) (mask : ℕ) → Asks k n values (Binds mask) → IsRow k n values known.Seat 1 (Long mask ∷ [])
bind_row k n values mask (Bind a) = is_row known.Seat 1 (Long mask ∷ [])

request_device_row : (k : KnownInterface) (n : ℕ) (values : List Value) (mask : ℕ) → Asks k n values (RequestsDevice mask) → IsRow k n values known.Seat 2 (Long mask ∷ [])
request_device_row k n values mask (RequestDevice a) = is_row known.Seat 2 (Long mask ∷ [])

device_release_row : (k : KnownInterface) (n : ℕ) (values : List Value) → Asks k n values Closes → IsRow k n values known.Device 0 []
device_release_row k n values DeviceRelease = is_row known.Device 0 []

start_row : (k : KnownInterface) (n : ℕ) (values : List Value) (serial sequence : ℕ) → Asks k n values (Starts serial sequence) → IsRow k n values known.Device 1 (Word serial ∷ Word sequence ∷ [])
start_row k n values serial sequence (Start a b) = is_row known.Device 1 (Word serial ∷ Word sequence ∷ [])

stop_row : (k : KnownInterface) (n : ℕ) (values : List Value) (serial : ℕ) → Asks k n values (Stops serial) → IsRow k n values known.Device 2 (Word serial ∷ [])
stop_row k n values serial (Stop a) = is_row known.Device 2 (Word serial ∷ [])

frame_row : (k : KnownInterface) (n : ℕ) (values : List Value) (serial time : ℕ) → Asks k n values (Frames serial time) → IsRow k n values known.Device 3 (Word serial ∷ Long time ∷ [])
frame_row k n values serial time (Frame a b) = is_row known.Device 3 (Word serial ∷ Long time ∷ [])

ready_row : (k : KnownInterface) (n : ℕ) (values : List Value) → Asks k n values Readies → IsRow k n values known.Device 4 []
ready_row k n values Ready = is_row known.Device 4 []

shake_kind : (k : KnownInterface) (n : ℕ) (values : List Value) (x : Shake) → Asks k n values (Shakes x) → k ≡ known.Handshake
shake_kind k n values (Greets version) a = (greeting_row k n values version a).kind
shake_kind k n values Finishes a = (finish_row k n values a).kind
shake_kind k n values (TellsContext context) a = (context_type_row k n values context a).kind
shake_kind k n values (TellsName letters) a = (name_row k n values letters a).kind
shake_kind k n values (TellsInterface letters version) a = (interface_version_row k n values letters version a).kind

-- the interface of which it is asked
interface_row : (k : KnownInterface) (n : ℕ) (values : List Value) (x : Meaning) (i : KnownInterface) → Asks k n values x → of_interface x ≡ Some i → k ≡ i
interface_row k n values (Shakes x) i a h = shake_kind k n values x a ∙ some_is known.Handshake i h
interface_row k n values (Syncs callback version) i a h = (sync_row k n values callback version a).kind ∙ some_is known.Connection i h
interface_row k n values Disconnects i a h = (disconnect_row k n values a).kind ∙ some_is known.Connection i h
interface_row k n values (Pongs callback_data) i a h = (pong_row k n values callback_data a).kind ∙ some_is known.Pingpong i h
interface_row k n values ReleasesSeat i a h = (seat_release_row k n values a).kind ∙ some_is known.Seat i h
interface_row k n values (Binds mask) i a h = (bind_row k n values mask a).kind ∙ some_is known.Seat i h
interface_row k n values (RequestsDevice mask) i a h = (request_device_row k n values mask a).kind ∙ some_is known.Seat i h
interface_row k n values Closes i a h = (device_release_row k n values a).kind ∙ some_is known.Device i h
interface_row k n values (Starts serial sequence) i a h = (start_row k n values serial sequence a).kind ∙ some_is known.Device i h
interface_row k n values (Stops serial) i a h = (stop_row k n values serial a).kind ∙ some_is known.Device i h
interface_row k n values (Frames serial time) i a h = (frame_row k n values serial time a).kind ∙ some_is known.Device i h
interface_row k n values Readies i a h = (ready_row k n values a).kind ∙ some_is known.Device i h
interface_row k n values Releases i a h = absurd (none_some i h)
interface_row k n values (Inputs input) i a h = absurd (none_some i h)

-- else it is one that a device can have
of_device_row : (k : KnownInterface) (n : ℕ) (values : List Value) (x : Meaning) → Asks k n values x → of_interface x ≡ None → is_of_device k ≡ true
of_device_row k n values x (Release j d) h = d
of_device_row k n values x (Input j i vs y e) h = input_of_device j i vs y e
of_device_row k n values x a h = absurd (none_some _ (sym h))

module _ (k : KnownInterface) (m : Raw) where
  by_row : (interface : KnownInterface) (opcode : ℕ) (args values : List Value) (name : List ℕ) (r : Row) → IsRow k m.opcode values interface opcode args → request_args k m ≡ Some values →
      row_named name (table false interface) ≡ Some (opcode, r) → asked interface name m ≡ Some args
  by_row interface opcode args values name r is a named = asked_row interface name opcode r m named is.number ∙ subst (λ (x : KnownInterface). request_args x m ≡ Some args) is.kind (a ∙ ap Some is.spelled)

  pub greeting_asked : (version : ℕ) → meaning k m ≡ Some (Shakes (Greets version)) → asked known.Handshake (codes "handshake_version") m ≡ Some (Word version ∷ [])
  greeting_asked version h = let w = means_row k m (Shakes (Greets version)) h in by_row known.Handshake 0 (Word version ∷ []) w.0 (codes "handshake_version") _ (greeting_row k m.opcode w.0 version w.1.1) w.1.0 refl

  pub finish_asked : meaning k m ≡ Some (Shakes Finishes) → asked known.Handshake (codes "finish") m ≡ Some []
  finish_asked h = let w = means_row k m (Shakes Finishes) h in by_row known.Handshake 1 [] w.0 (codes "finish") _ (finish_row k m.opcode w.0 w.1.1) w.1.0 refl

  pub context_type_asked : (context : ℕ) → meaning k m ≡ Some (Shakes (TellsContext context)) → asked known.Handshake (codes "context_type") m ≡ Some (Word context ∷ [])
  context_type_asked context h = let w = means_row k m (Shakes (TellsContext context)) h in by_row known.Handshake 2 (Word context ∷ []) w.0 (codes "context_type") _ (context_type_row k m.opcode w.0 context w.1.1) w.1.0 refl

  pub name_asked : (letters : List ℕ) → meaning k m ≡ Some (Shakes (TellsName letters)) → asked known.Handshake (codes "name") m ≡ Some (Letters letters ∷ [])
  name_asked letters h = let w = means_row k m (Shakes (TellsName letters)) h in by_row known.Handshake 3 (Letters letters ∷ []) w.0 (codes "name") _ (name_row k m.opcode w.0 letters w.1.1) w.1.0 refl

  pub interface_version_asked : (letters : List ℕ) (version : ℕ) → meaning k m ≡ Some (Shakes (TellsInterface letters version)) → asked known.Handshake (codes "interface_version") m ≡ Some (Letters letters ∷ Word version ∷ [])
  interface_version_asked letters version h = let w = means_row k m (Shakes (TellsInterface letters version)) h in by_row known.Handshake 4 (Letters letters ∷ Word version ∷ []) w.0 (codes "interface_version") _ (interface_version_row k m.opcode w.0 letters version w.1.1) w.1.0 refl

  pub sync_asked : (callback version : ℕ) → meaning k m ≡ Some (Syncs callback version) → asked known.Connection (codes "sync") m ≡ Some (Long callback ∷ Word version ∷ [])
  sync_asked callback version h = let w = means_row k m (Syncs callback version) h in by_row known.Connection 0 (Long callback ∷ Word version ∷ []) w.0 (codes "sync") _ (sync_row k m.opcode w.0 callback version w.1.1) w.1.0 refl

  pub disconnect_asked : meaning k m ≡ Some Disconnects → asked known.Connection (codes "disconnect") m ≡ Some []
  disconnect_asked h = let w = means_row k m Disconnects h in by_row known.Connection 1 [] w.0 (codes "disconnect") _ (disconnect_row k m.opcode w.0 w.1.1) w.1.0 refl

  pub pong_asked : (callback_data : ℕ) → meaning k m ≡ Some (Pongs callback_data) → asked known.Pingpong (codes "done") m ≡ Some (Long callback_data ∷ [])
  pong_asked callback_data h = let w = means_row k m (Pongs callback_data) h in by_row known.Pingpong 0 (Long callback_data ∷ []) w.0 (codes "done") _ (pong_row k m.opcode w.0 callback_data w.1.1) w.1.0 refl

  pub seat_release_asked : meaning k m ≡ Some ReleasesSeat → asked known.Seat (codes "release") m ≡ Some []
  seat_release_asked h = let w = means_row k m ReleasesSeat h in by_row known.Seat 0 [] w.0 (codes "release") _ (seat_release_row k m.opcode w.0 w.1.1) w.1.0 refl

  pub bind_asked : (mask : ℕ) → meaning k m ≡ Some (Binds mask) → asked known.Seat (codes "bind") m ≡ Some (Long mask ∷ [])
  bind_asked mask h = let w = means_row k m (Binds mask) h in by_row known.Seat 1 (Long mask ∷ []) w.0 (codes "bind") _ (bind_row k m.opcode w.0 mask w.1.1) w.1.0 refl

  pub request_device_asked : (mask : ℕ) → meaning k m ≡ Some (RequestsDevice mask) → asked known.Seat (codes "request_device") m ≡ Some (Long mask ∷ [])
  request_device_asked mask h = let w = means_row k m (RequestsDevice mask) h in by_row known.Seat 2 (Long mask ∷ []) w.0 (codes "request_device") _ (request_device_row k m.opcode w.0 mask w.1.1) w.1.0 refl

  pub device_release_asked : meaning k m ≡ Some Closes → asked known.Device (codes "release") m ≡ Some []
  device_release_asked h = let w = means_row k m Closes h in by_row known.Device 0 [] w.0 (codes "release") _ (device_release_row k m.opcode w.0 w.1.1) w.1.0 refl

  pub start_asked : (serial sequence : ℕ) → meaning k m ≡ Some (Starts serial sequence) → asked known.Device (codes "start_emulating") m ≡ Some (Word serial ∷ Word sequence ∷ [])
  start_asked serial sequence h = let w = means_row k m (Starts serial sequence) h in by_row known.Device 1 (Word serial ∷ Word sequence ∷ []) w.0 (codes "start_emulating") _ (start_row k m.opcode w.0 serial sequence w.1.1) w.1.0 refl

  pub stop_asked : (serial : ℕ) → meaning k m ≡ Some (Stops serial) → asked known.Device (codes "stop_emulating") m ≡ Some (Word serial ∷ [])
  stop_asked serial h = let w = means_row k m (Stops serial) h in by_row known.Device 2 (Word serial ∷ []) w.0 (codes "stop_emulating") _ (stop_row k m.opcode w.0 serial w.1.1) w.1.0 refl

  pub frame_asked : (serial time : ℕ) → meaning k m ≡ Some (Frames serial time) → asked known.Device (codes "frame") m ≡ Some (Word serial ∷ Long time ∷ [])
  frame_asked serial time h = let w = means_row k m (Frames serial time) h in by_row known.Device 3 (Word serial ∷ Long time ∷ []) w.0 (codes "frame") _ (frame_row k m.opcode w.0 serial time w.1.1) w.1.0 refl

  pub ready_asked : meaning k m ≡ Some Readies → asked known.Device (codes "ready") m ≡ Some []
  ready_asked h = let w = means_row k m Readies h in by_row known.Device 4 [] w.0 (codes "ready") _ (ready_row k m.opcode w.0 w.1.1) w.1.0 refl

  pub its_interface : (x : Meaning) (i : KnownInterface) → meaning k m ≡ Some x → of_interface x ≡ Some i → k ≡ i
  its_interface x i h o = let w = means_row k m x h in interface_row k m.opcode w.0 x i w.1.1 o

  pub its_kind : (x : Meaning) → meaning k m ≡ Some x → of_interface x ≡ None → (is_device k ≡ false) × (is_bare k ≡ false)
  its_kind x h o = let w = means_row k m x h in of_device_is k (of_device_row k m.opcode w.0 x w.1.1 o)
