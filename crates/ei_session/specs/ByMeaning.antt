-- The definitions by what a request asks: its item, its refusal, and the words on the way to them.
use Rattle.std.specs.Prelude.{ℕ, Bool, true, false, List, Option, Some, None, ◌==◌, if◌then◌else◌, codes}
use Rattle.ei_spec.specs.declared.interface.KnownInterface.{KnownInterface}
use Rattle.ei_spec.specs.declared.interface.KnownInterface.TheVariants as known
use Rattle.ei_types.specs.declared.error.HandshakeError.TheVariants as handshake
use Rattle.ei_spec.specs.Interface.{name_of}
use Rattle.ei_spec.specs.Reading.{InvalidId}
use Rattle.ei_spec.specs.Message.{Raw}
use Rattle.ei_spec.specs.Groups.{Frame, Other, Free}
use Rattle.ei_session.specs.Setup.{Setup}
use Rattle.ei_session.specs.Handshake.{all_settled}
use Rattle.ei_input.specs.declared.input_event.InputEvent.{InputEvent}
use Rattle.ei_input.specs.declared.input_event.InputEvent.TheVariants as input_event
use Rattle.ei_session.specs.Meaning.{Shake, Finishes, TellsContext, TellsName, Meaning, Shakes, Syncs, Disconnects, Pongs, ReleasesSeat, Binds, RequestsDevice}
use Rattle.ei_session.specs.Meaning.{Closes, Starts, Stops, Frames, Readies, Releases, Inputs}
use Rattle.ei_session.specs.Objects.{Entry}
use Rattle.ei_session.specs.Touches.{of_device}
use Rattle.ei_session.specs.Refusals.{Refusal, Parse, Handshake, InvalidInterfaceVersion, may_give, came, bad_mask, bad_touch, bad_letters}
use Rattle.ei_session.specs.Requests.{Bind, RequestDevice, Ready, DeviceClosed, DeviceStartEmulating, DeviceStopEmulating, Disconnect, Asking, input_item}

-- the interface of which it is asked, where that is one alone; else it is one that a device can have
abbrev pub of_interface : Meaning → Option KnownInterface
of_interface (Shakes shake) = Some known.Handshake
of_interface (Syncs callback version) = Some known.Connection
of_interface Disconnects = Some known.Connection
of_interface (Pongs callback_data) = Some known.Pingpong
of_interface ReleasesSeat = Some known.Seat
of_interface (Binds mask) = Some known.Seat
of_interface (RequestsDevice mask) = Some known.Seat
of_interface Releases = None
of_interface (Inputs input) = None
of_interface asked = Some known.Device

-- whether the target is to go
abbrev pub releases : Option Meaning → Bool
releases (Some ReleasesSeat) = true
releases (Some Closes) = true
releases (Some Releases) = true
releases asked = false

-- the input that is asked
abbrev pub input_in : Option Meaning → Option InputEvent
input_in (Some (Inputs input)) = Some input
input_in asked = None

-- the mask of a device that is asked for
abbrev pub mask_in : Option Meaning → Option ℕ
mask_in (Some (Binds mask)) = Some mask
mask_in (Some (RequestsDevice mask)) = Some mask
mask_in asked = None

-- the callback that is announced
abbrev pub callback_in : Option Meaning → Option ℕ
callback_in (Some (Syncs callback version)) = Some callback
callback_in asked = None

-- whether the connection is to end
abbrev pub disconnects : Option Meaning → Bool
disconnects (Some Disconnects) = true
disconnects asked = false

-- whether the handshake is to end
abbrev pub finishes : Option Meaning → Bool
finishes (Some (Shakes Finishes)) = true
finishes asked = false

-- whether it tells what the client is
abbrev pub tells_context : Option Meaning → Bool
tells_context (Some (Shakes (TellsContext context))) = true
tells_context asked = false

-- whether it tells the client's name
abbrev pub tells_name : Option Meaning → Bool
tells_name (Some (Shakes (TellsName name))) = true
tells_name asked = false

-- what a request to the object of that id, or to an interface of that device, gives
abbrev pub item_for : List Raw → ℕ → Option ℕ → Option Meaning → Option Asking
item_for before id device (Some Disconnects) = Some (Free Disconnect)
item_for before id device (Some (Binds mask)) = Some (Free (Bind id mask))
item_for before id device (Some (RequestsDevice mask)) = Some (Free (RequestDevice id mask))
item_for before id (Some device) (Some Closes) = Some (Other device (DeviceClosed device))
item_for before id (Some device) (Some (Starts last_serial sequence)) = Some (Other device (DeviceStartEmulating device last_serial sequence))
item_for before id (Some device) (Some (Stops last_serial)) = Some (Other device (DeviceStopEmulating device last_serial))
item_for before id (Some device) (Some (Frames last_serial time)) = Some (Frame device last_serial time)
item_for before id (Some device) (Some Readies) = Some (Other device (Ready device))
item_for before id (Some device) (Some (Inputs input)) = input_item before (Some (record { device = device; input = input }))
item_for before id device asked = None

-- ---- refusals

-- a name or a context type that comes twice, or a finish without the required interfaces
abbrev pub shake_refusal : List Raw → Shake → Option Refusal
shake_refusal before Finishes = if all_settled before then None else Some (Handshake handshake.MissingInterface)
shake_refusal before (TellsContext context) = if came (codes "context_type") before then Some (Handshake handshake.DuplicateEvent) else None
shake_refusal before (TellsName name) = if came (codes "name") before then Some (Handshake handshake.DuplicateEvent) else None
shake_refusal before shake = None

-- a callback of an id that the client may not give, or of another version than 1
abbrev pub sync_refusal : List Raw → ℕ → ℕ → Option Refusal
sync_refusal before callback version =
    if may_give before callback
    then (if version == 1 then None else Some (InvalidInterfaceVersion (name_of known.Callback) version))
    else Some (Parse (InvalidId callback))

-- a touch that the device can't take, or a text that is too short or too long
abbrev pub input_refusal : List Raw → ℕ → Option ℕ → InputEvent → Option Refusal
input_refusal before version device (input_event.TextUtf8 letters) = bad_letters (Some letters)
input_refusal before version device input = bad_touch before version (of_device device (Some input))

-- why a request that reads, to such an object, is refused
abbrev pub refusal_for : Setup → List Raw → Entry → Meaning → Option Refusal
refusal_for setup before e (Shakes shake) = shake_refusal before shake
refusal_for setup before e (Syncs callback version) = sync_refusal before callback version
refusal_for setup before e (Binds mask) = bad_mask setup.capabilities (Some mask)
refusal_for setup before e (RequestsDevice mask) = bad_mask setup.capabilities (Some mask)
refusal_for setup before e (Inputs input) = input_refusal before e.version e.device input
refusal_for setup before e asked = None
