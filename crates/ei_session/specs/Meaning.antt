-- What a request asks, told by the interface of its target, its opcode and its arguments.
use Rattle.std.specs.Prelude.{◌≡◌, ℕ, true, List, [], ◌∷◌, Option, Some, None, codes}
use Rattle.ei_spec.specs.declared.interface.KnownInterface.{KnownInterface}
use Rattle.ei_spec.specs.declared.interface.KnownInterface.TheVariants as known
use Rattle.ei_spec.specs.Value.{Value, Word, Long, Letters}
use Rattle.ei_spec.specs.Message.{Raw}
use Rattle.ei_session.specs.Asked.{asked, first, none, one, two, long, text}
use Rattle.ei_input.specs.declared.input_event.InputEvent.{InputEvent}
use Rattle.ei_session.specs.Inputs.{is_of_device, input_to, input_of}

-- what a message of the handshake says
pub data Shake : Type 0 where
  Greets : (version : ℕ) → Shake
  Finishes : Shake
  TellsContext : (context : ℕ) → Shake
  TellsName : (name : List ℕ) → Shake
  TellsInterface : (name : List ℕ) → (version : ℕ) → Shake

-- what a request asks: of the handshake, the connection, a ping, the seat, a device, or an interface of one
pub data Meaning : Type 0 where
  Shakes : (shake : Shake) → Meaning
  Syncs : (callback version : ℕ) → Meaning
  Disconnects : Meaning
  Pongs : (callback_data : ℕ) → Meaning
  ReleasesSeat : Meaning
  Binds : (mask : ℕ) → Meaning
  RequestsDevice : (mask : ℕ) → Meaning
  Closes : Meaning
  Starts : (last_serial sequence : ℕ) → Meaning
  Stops : (last_serial : ℕ) → Meaning
  Frames : (last_serial time : ℕ) → Meaning
  Readies : Meaning
  Releases : Meaning
  Inputs : (input : InputEvent) → Meaning

-- ---- by rows

-- a request to an object of the interface, of that opcode and with these arguments, asks that
pub data Asks : KnownInterface → ℕ → List Value → Meaning → Type 0 where
  Greeting : (version : ℕ) → Asks known.Handshake 0 (Word version ∷ []) (Shakes (Greets version))
  Finish : Asks known.Handshake 1 [] (Shakes Finishes)
  ContextType : (context : ℕ) → Asks known.Handshake 2 (Word context ∷ []) (Shakes (TellsContext context))
  Name : (name : List ℕ) → Asks known.Handshake 3 (Letters name ∷ []) (Shakes (TellsName name))
  InterfaceVersion : (name : List ℕ) → (version : ℕ) → Asks known.Handshake 4 (Letters name ∷ Word version ∷ []) (Shakes (TellsInterface name version))
  Sync : (callback version : ℕ) → Asks known.Connection 0 (Long callback ∷ Word version ∷ []) (Syncs callback version)
  Disconnect : Asks known.Connection 1 [] Disconnects
  Pong : (callback_data : ℕ) → Asks known.Pingpong 0 (Long callback_data ∷ []) (Pongs callback_data)
  SeatRelease : Asks known.Seat 0 [] ReleasesSeat
  Bind : (mask : ℕ) → Asks known.Seat 1 (Long mask ∷ []) (Binds mask)
  RequestDevice : (mask : ℕ) → Asks known.Seat 2 (Long mask ∷ []) (RequestsDevice mask)
  DeviceRelease : Asks known.Device 0 [] Closes
  Start : (last_serial sequence : ℕ) → Asks known.Device 1 (Word last_serial ∷ Word sequence ∷ []) (Starts last_serial sequence)
  Stop : (last_serial : ℕ) → Asks known.Device 2 (Word last_serial ∷ []) (Stops last_serial)
  Frame : (last_serial time : ℕ) → Asks known.Device 3 (Word last_serial ∷ Long time ∷ []) (Frames last_serial time)
  Ready : Asks known.Device 4 [] Readies
  Release : (k : KnownInterface) → is_of_device k ≡ true → Asks k 0 [] Releases
  Input : (k : KnownInterface) (n : ℕ) (values : List Value) (input : InputEvent) → input_of k n values ≡ Some input → Asks k n values (Inputs input)

-- ---- by names

-- a name and a version
abbrev pub telling : Option (List Value) → Option Shake
telling (Some (Letters name ∷ Word version ∷ [])) = Some (TellsInterface name version)
telling values = None

-- a message of the handshake, if it is one
abbrev pub shaking : Option Shake → Option Meaning
shaking None = None
shaking (Some shake) = Some (Shakes shake)

-- a callback and its version
abbrev pub syncing : Option (List Value) → Option Meaning
syncing (Some (Long callback ∷ Word version ∷ [])) = Some (Syncs callback version)
syncing values = None

-- a serial and a time
abbrev pub framing : Option (List Value) → Option Meaning
framing (Some (Word last_serial ∷ Long time ∷ [])) = Some (Frames last_serial time)
framing values = None

-- an input, if it is one
abbrev pub inputting : Option InputEvent → Option Meaning
inputting None = None
inputting (Some input) = Some (Inputs input)

-- what a message to the handshake says, by the names of the five
abbrev pub shake : Raw → Option Shake
shake m = first
    (one Greets (asked known.Handshake (codes "handshake_version") m)
    ∷ none Finishes (asked known.Handshake (codes "finish") m)
    ∷ one TellsContext (asked known.Handshake (codes "context_type") m)
    ∷ text TellsName (asked known.Handshake (codes "name") m)
    ∷ telling (asked known.Handshake (codes "interface_version") m)
    ∷ [])

-- what a message to an interface of a device asks
abbrev pub to_interface : KnownInterface → Raw → Option Meaning
to_interface interface m = first (none Releases (asked interface (codes "release") m) ∷ inputting (input_to interface m) ∷ [])

-- what a message to an object of the interface asks: of the requests by their names, the one that it is
unfoldable pub meaning : KnownInterface → Raw → Option Meaning
meaning known.Handshake m = shaking (shake m)
meaning known.Connection m = first
    (syncing (asked known.Connection (codes "sync") m)
    ∷ none Disconnects (asked known.Connection (codes "disconnect") m)
    ∷ [])
meaning known.Callback m = None
meaning known.Pingpong m = long Pongs (asked known.Pingpong (codes "done") m)
meaning known.Seat m = first
    (none ReleasesSeat (asked known.Seat (codes "release") m)
    ∷ long Binds (asked known.Seat (codes "bind") m)
    ∷ long RequestsDevice (asked known.Seat (codes "request_device") m)
    ∷ [])
meaning known.Device m = first
    (none Closes (asked known.Device (codes "release") m)
    ∷ two Starts (asked known.Device (codes "start_emulating") m)
    ∷ one Stops (asked known.Device (codes "stop_emulating") m)
    ∷ framing (asked known.Device (codes "frame") m)
    ∷ none Readies (asked known.Device (codes "ready") m)
    ∷ [])
meaning interface m = to_interface interface m
