-- What events say to a client.
use Rattle.std.specs.Prelude.{ℕ, List, [], ◌∷◌, Option, Some, None, unwrap_or, codes}
use Rattle.std.specs.Option.{option_map}
use Rattle.ei_spec.specs.declared.interface.KnownInterface.{KnownInterface}
use Rattle.ei_spec.specs.declared.interface.KnownInterface.TheVariants as known
use Rattle.ei_types.specs.declared.enums.DisconnectReason.{DisconnectReason}
use Rattle.ei_types.specs.Enums.{reason_of}
use Rattle.ei_spec.specs.Value.{Value, Word, Long, Letters, Null}
use Rattle.ei_spec.specs.FromValues.{first, none, whatever, one, two, new}
use Rattle.ei_input.specs.declared.input_event.InputEvent.{InputEvent}
use Rattle.ei_input.specs.Inputs.{input_by}
use Rattle.ei_reported.specs.Event.{Event, called}

-- what a device tells once it is added
pub data Told : Type 0 where
  Resumed : Told
  Paused : Told
  StartEmulating : (sequence : ℕ) → Told
  StopEmulating : Told
  Frame : (time : ℕ) → Told

-- what an event says
pub data Said : Type 0 where
  -- one of the handshake
  Shakes : Said
  -- a ping, an invalid object, or the end of a callback
  Aside : Said
  Disconnects : (last_serial : ℕ) → (why : DisconnectReason) → (explanation : Option (List ℕ)) → Said
  -- a seat: it comes, it is described, it has a capability, it is described whole, it goes
  SeatComes : (seat : ℕ) → Said
  SeatHasName : (seat : ℕ) → Said
  SeatHas : (seat : ℕ) → (name : List ℕ) → Said
  SeatDone : (seat : ℕ) → Said
  SeatGoes : (seat serial : ℕ) → Said
  -- a device of a seat: it comes, it is described, it has a type, an interface, it is described whole, tells, goes
  DeviceComes : (seat device : ℕ) → Said
  DeviceHas : (device : ℕ) → Said
  DeviceHasType : (device : ℕ) → Said
  DeviceGets : (device id : ℕ) → (name : List ℕ) → (version : ℕ) → Said
  DeviceDone : (device : ℕ) → Said
  DeviceTells : (device serial : ℕ) → (told : Told) → Said
  DeviceGoes : (device serial : ℕ) → Said
  -- an interface of a device: its keymap, an input, its modifiers, it goes
  Maps : (id : ℕ) → Said
  Inputs : (id : ℕ) → (input : InputEvent) → Said
  Modifies : (id serial depressed locked latched group : ℕ) → Said
  Goes : (interface : KnownInterface) → (id serial : ℕ) → Said

-- ---- by the arguments

-- the end of the connection: the last serial, the reason, and a text or none
abbrev pub disconnects : Option (List Value) → Option Said
disconnects (Some (Word serial ∷ Word number ∷ Null ∷ [])) = Some (Disconnects serial (reason_of number) None)
disconnects (Some (Word serial ∷ Word number ∷ Letters t ∷ [])) = Some (Disconnects serial (reason_of number) (Some t))
disconnects values = None

-- a capability of the seat, by the name of its interface
abbrev pub capability : ℕ → Option (List Value) → Option Said
capability seat (Some (Long mask ∷ Letters name ∷ [])) = Some (SeatHas seat name)
capability seat values = None

-- an interface of the device: its id, its name and its version
abbrev pub interface : ℕ → Option (List Value) → Option Said
interface device (Some (Long id ∷ Letters name ∷ Word version ∷ [])) = Some (DeviceGets device id name version)
interface device values = None

-- a frame of the device, with its serial and its time
abbrev pub frame : ℕ → Option (List Value) → Option Said
frame device (Some (Word serial ∷ Long time ∷ [])) = Some (DeviceTells device serial (Frame time))
frame device values = None

-- modifiers of the keyboard, in the order of the wire
abbrev pub modifiers : ℕ → Option (List Value) → Option Said
modifiers id (Some (Word serial ∷ Word depressed ∷ Word locked ∷ Word latched ∷ Word group ∷ [])) = Some (Modifies id serial depressed locked latched group)
modifiers id values = None

-- ---- by the interface and the name

-- what an event to an interface of a device says
abbrev pub said_to_interface : KnownInterface → Event → Option Said
said_to_interface interface e = first
    (one (Goes interface e.target) (called e (codes "destroyed"))
    ∷ whatever (Maps e.target) (called e (codes "keymap"))
    ∷ modifiers e.target (called e (codes "modifiers"))
    ∷ option_map (Inputs e.target) (input_by interface (called e))
    ∷ [])

-- what an event to an object of the interface says
abbrev pub said_to : KnownInterface → Event → Option Said
said_to known.Handshake e = Some Shakes
said_to known.Connection e = first
    (disconnects (called e (codes "disconnected"))
    ∷ new SeatComes (called e (codes "seat"))
    ∷ [])
said_to known.Callback e = None
said_to known.Pingpong e = None
said_to known.Seat e = first
    (one (SeatGoes e.target) (called e (codes "destroyed"))
    ∷ whatever (SeatHasName e.target) (called e (codes "name"))
    ∷ capability e.target (called e (codes "capability"))
    ∷ none (SeatDone e.target) (called e (codes "done"))
    ∷ new (DeviceComes e.target) (called e (codes "device"))
    ∷ [])
said_to known.Device e = first
    (one (DeviceGoes e.target) (called e (codes "destroyed"))
    ∷ whatever (DeviceHas e.target) (called e (codes "name"))
    ∷ whatever (DeviceHasType e.target) (called e (codes "device_type"))
    ∷ whatever (DeviceHas e.target) (called e (codes "dimensions"))
    ∷ whatever (DeviceHas e.target) (called e (codes "region"))
    ∷ interface e.target (called e (codes "interface"))
    ∷ none (DeviceDone e.target) (called e (codes "done"))
    ∷ one (λ serial. DeviceTells e.target serial Resumed) (called e (codes "resumed"))
    ∷ one (λ serial. DeviceTells e.target serial Paused) (called e (codes "paused"))
    ∷ two (λ serial sequence. DeviceTells e.target serial (StartEmulating sequence)) (called e (codes "start_emulating"))
    ∷ one (λ serial. DeviceTells e.target serial StopEmulating) (called e (codes "stop_emulating"))
    ∷ frame e.target (called e (codes "frame"))
    ∷ whatever (DeviceHas e.target) (called e (codes "region_mapping_id"))
    ∷ [])
said_to interface e = said_to_interface interface e

-- what an event says, where it is one of the table
unfoldable pub said : Event → Said
said e = unwrap_or (said_to e.interface e) Aside
