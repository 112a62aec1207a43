-- Which requests are refused, and why.
use Rattle.std.specs.Prelude.{◌≡◌, ℕ, List, length, Option, Some, None, IsSome, find, bit_and, ◌==◌, nat_eq, nat_le, nat_lt, ◌&&◌, ◌||◌, if◌then◌else◌}
use Rattle.std.specs.List.{list_any}
use Rattle.ei_spec.specs.declared.interface.KnownInterface.TheVariants as known
use Rattle.ei_spec.specs.Interface.{name_of}
use Rattle.ei_spec.specs.declared.limits.TheConstants.{MOST_TOUCHES, MOST_TEXT_BYTES}
use Rattle.ei_types.specs.Capability.{all_bits, bits_of}
use Rattle.ei_types.specs.declared.error.Error.{Error}
use Rattle.ei_types.specs.declared.error.Error.TheVariants as error
use Rattle.ei_types.specs.declared.error.RequestError.{RequestError}
use Rattle.ei_types.specs.declared.error.RequestError.TheVariants as request_error
use Rattle.ei_session.specs.Meaning.{Meaning, Shakes, Syncs, Binds, RequestsDevice, Inputs}
use Rattle.ei_input.specs.declared.input_event.InputEvent.{InputEvent}
use Rattle.ei_input.specs.declared.input_event.InputEvent.TheVariants.{TouchDown, TouchCancel, TextUtf8}
use Rattle.ei_request.specs.declared.input_error.InputError.{InputError}
use Rattle.ei_request.specs.declared.input_error.InputError.TheVariants as input_error
use Rattle.ei_request.specs.Held.{SeatView, DeviceView, is_seat, has_interface}
use Rattle.ei_request.specs.Connection.{ConnectionView}

-- why a request is refused: it is one of the handshake, it is of a version that its interface hasn't, or it is bad
pub data Reason : Type 0 where
  OfHandshake : Reason
  BadVersion : (interface : List ℕ) → (version : ℕ) → Reason
  Bad : (error : RequestError) → Reason

-- the reason that an error tells
abbrev pub reason_of : Error → Option Reason
reason_of error.UnexpectedHandshakeEvent = Some OfHandshake
reason_of (error.InvalidInterfaceVersion interface version) = Some (BadVersion interface.now version)
reason_of (error.Request e) = Some (Bad e)
reason_of e = None

-- a mask with a bit that is no capability's, or that of one which the seat wasn't given
abbrev pub mask_refusal : ℕ → Option SeatView → Option Reason
mask_refusal mask None = None
mask_refusal mask (Some s) = if nat_le mask all_bits && (bit_and (bits_of s.capabilities) mask == mask) then None else Some (Bad
    request_error.InvalidCapabilities)

-- a touch that goes down where sixteen are down, or where it is down
abbrev pub press_refusal : ℕ → List ℕ → Option Reason
press_refusal touch touches =
    if nat_le MOST_TOUCHES (length touches) then Some (Bad request_error.TooManyTouches)
    else (if list_any (nat_eq touch) touches then Some (Bad request_error.DuplicatedTouchDown) else None)

-- a touch that may not go down; one that an old touchscreen cancels; and a text of
-- no bytes, or of more than may be
abbrev pub input_refusal : ℕ → InputEvent → Option DeviceView → Option Reason
input_refusal version i None = None
input_refusal version (TouchDown touch x y) (Some d) = press_refusal touch d.touches
input_refusal version (TouchCancel touch) (Some d) = if nat_lt version 2 then Some (BadVersion (name_of known.Touchscreen) version) else None
input_refusal version (TextUtf8 letters) (Some d) = if (length letters == 0) || nat_lt MOST_TEXT_BYTES (length letters) then Some (Bad
    request_error.InvalidTextLength) else None
input_refusal version i (Some d) = None

-- the same of a request to an interface of a device: it is an input, or else the release, which is never refused
abbrev pub asked_refusal : ℕ → Option InputEvent → Option DeviceView → Option Reason
asked_refusal version None d = None
asked_refusal version (Some i) d = input_refusal version i d

-- a callback of another version than 1
abbrev pub sync_refusal : ℕ → Option Reason
sync_refusal version = if version == 1 then None else Some (BadVersion (name_of known.Callback) version)

-- why a request to the object of that id and version is refused, or nothing; what isn't held refuses nothing
abbrev pub refusal : ConnectionView → ℕ → ℕ → Meaning → Option Reason
refusal c id version (Shakes shake) = Some OfHandshake
refusal c id version (Syncs callback v) = sync_refusal v
refusal c id version (Binds mask) = mask_refusal mask (find (is_seat id) c.seats)
refusal c id version (RequestsDevice mask) = mask_refusal mask (find (is_seat id) c.seats)
refusal c id version (Inputs i) = asked_refusal version (Some i) (find (has_interface id) c.devices)
refusal c id version other = None

-- an error tells the reason, where there is one; where there is none it is want of memory
abbrev pub Tells : Option Reason → Error → Type 0
Tells reason error.NoMemory = reason ≡ None
Tells reason e = IsSome reason × (reason_of e ≡ reason)

-- the reason that an input's error tells of an interface of that version
abbrev pub input_reason : ℕ → InputError → Option Reason
input_reason version input_error.OldTouchscreen = Some (BadVersion (name_of known.Touchscreen) version)
input_reason version input_error.TooManyTouches = Some (Bad request_error.TooManyTouches)
input_reason version input_error.DuplicatedTouchDown = Some (Bad request_error.DuplicatedTouchDown)
input_reason version input_error.InvalidTextLength = Some (Bad request_error.InvalidTextLength)
input_reason version input_error.NoMemory = None

-- an input's error tells the reason, where there is one; where there is none it is want of memory
abbrev pub TellsOfInput : ℕ → Option Reason → InputError → Type 0
TellsOfInput version reason input_error.NoMemory = reason ≡ None
TellsOfInput version reason e = IsSome reason × (input_reason version e ≡ reason)
