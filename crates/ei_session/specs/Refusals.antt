-- Which messages a server refuses, and where its stream ends.
use Rattle.std.specs.Prelude.{ℕ, ◌+◌, Bool, true, false, not, ◌&&◌, ◌||◌, List, [], ◌∷◌, length, Option, Some, None, Result, Ok, Err, ◌==◌, nat_lt, nat_le}
use Rattle.std.specs.Prelude.{if◌then◌else◌, bit_and, codes}
use Rattle.ei_spec.specs.declared.interface.KnownInterface.{KnownInterface}
use Rattle.ei_spec.specs.declared.interface.KnownInterface.TheVariants as known
use Rattle.ei_types.specs.declared.error.HandshakeError.{HandshakeError}
use Rattle.ei_types.specs.declared.error.HandshakeError.TheVariants as handshake
use Rattle.ei_types.specs.declared.error.RequestError.{RequestError}
use Rattle.ei_types.specs.declared.error.RequestError.TheVariants as request
use Rattle.ei_spec.specs.Interface.{name_of, short_of}
use Rattle.ei_spec.specs.Value.{Value, Word, Long}
use Rattle.ei_spec.specs.Reading.{Fault, InvalidOpcode, InvalidId, MessageLength, Unread, ArgumentStop, all_at}
use Rattle.ei_spec.specs.Rows.{Row, Announces, Nothing, row_at, new_id}
use Rattle.ei_spec.specs.Table.{table}
use Rattle.ei_spec.specs.Message.{Raw, size}
use Rattle.ei_spec.specs.History.{occurs}
use Rattle.ei_spec.specs.Stream.{Verdict, Accepted, Final, Refused}
use Rattle.ei_session.specs.Setup.{Setup, connection_id}
use Rattle.ei_session.specs.Arguments.{body_of}
use Rattle.ei_session.specs.Asked.{asked, asks, first}
use Rattle.ei_session.specs.Handshake.{connected}
use Rattle.ei_session.specs.Handshake.{all_settled}
use Rattle.ei_input.specs.declared.input_event.InputEvent.{InputEvent}
use Rattle.ei_session.specs.Inputs.{DeviceInput, input_to}
use Rattle.ei_input.specs.declared.input_event.InputEvent.TheVariants as input_event
use Rattle.ei_session.specs.Devices.{asked_mask, exhausts}
use Rattle.ei_session.specs.Objects.{Entry, object}
use Rattle.ei_session.specs.Touches.{input, is_down, touches_down}
use Rattle.ei_spec.specs.declared.limits.TheConstants.{MOST_TOUCHES, MOST_TEXT_BYTES}

-- why a message is refused
pub data Refusal : Type 0 where
  Parse : (fault : Fault) → Refusal
  Handshake : (error : HandshakeError) → Refusal
  InvalidInterfaceVersion : (interface : List ℕ) → (version : ℕ) → Refusal
  Request : (error : RequestError) → Refusal

-- ---- what can't be read

abbrev pub Arguments : Type 0
Arguments = Result (List Value × Unread) ArgumentStop

-- the arguments that the body begins with, by the row of the message
abbrev pub arguments : Option Row → Raw → Arguments
arguments None m = Ok ([], body_of m)
arguments (Some row) m = all_at row.kinds (body_of m)

-- no message of the interface has the opcode
abbrev pub no_row : KnownInterface → Raw → Option Row → Option Refusal
no_row interface m None = Some (Parse (InvalidOpcode (short_of interface) m.opcode))
no_row interface m (Some row) = None

-- the first argument that isn't spelled
abbrev pub stuck : Arguments → Option Refusal
stuck (Ok x) = None
stuck (Err stop) = Some (Parse stop.0)

-- the id that a message announces
abbrev pub announced_by : Announces → List Value → Row → Option ℕ
announced_by Nothing values row = None
announced_by what values row = Some (new_id row.kinds values)

abbrev pub announced_id : Option Row → Arguments → Option ℕ
announced_id (Some row) (Ok x) = announced_by row.announces x.0 row
announced_id row arguments = None

abbrev pub callback_of : Option (List Value) → Option ℕ
callback_of (Some (Long id ∷ Word version ∷ [])) = Some id
callback_of values = None

-- the callback of a `sync`
unfoldable pub synced : List Raw → Raw → Option ℕ
synced before m = if connected before && (m.id == connection_id) then callback_of (asked known.Connection (codes "sync") m) else None

abbrev pub is_at_most : ℕ → Option ℕ → Bool
is_at_most id None = false
is_at_most id (Some callback) = nat_le id callback

-- whether a client may give the id: it is one of a client's, and above those of all earlier callbacks
unfoldable pub may_give : List Raw → ℕ → Bool
may_give before id = nat_lt 0 id && (nat_lt id connection_id && not (occurs (λ b x. is_at_most id (synced b x)) before))

-- a new id that the client may not give
abbrev pub bad_id : List Raw → Option ℕ → Option Refusal
bad_id before None = None
bad_id before (Some id) = if may_give before id then None else Some (Parse (InvalidId id))

-- bytes behind the last argument
abbrev pub left_over : Raw → Arguments → Option Refusal
left_over m (Err stop) = None
left_over m (Ok x) = if length x.1.bytes == 0 then None else Some (Parse (MessageLength (size m + length x.1.bytes) (size m)))

-- ---- what the state doesn't allow

-- whether such a request of the handshake came before
unfoldable pub came : List ℕ → List Raw → Bool
came name before = occurs (λ _ x. (x.id == 0) && asks known.Handshake name x) before

-- a name or a context type that comes twice, or a finish without the required interfaces
abbrev pub bad_handshake : List Raw → Raw → KnownInterface → Option Refusal
bad_handshake before m known.Handshake =
    if (asks known.Handshake (codes "name") m && came (codes "name") before) || (asks known.Handshake (codes "context_type") m && came (codes "context_type") before)
    then Some (Handshake handshake.DuplicateEvent)
    else (if asks known.Handshake (codes "finish") m && not (all_settled before) then Some (Handshake handshake.MissingInterface) else None)
bad_handshake before m interface = None

abbrev pub bad_callback : Option (List Value) → Option Refusal
bad_callback (Some (Long id ∷ Word version ∷ [])) = if version == 1 then None else Some (InvalidInterfaceVersion (name_of known.Callback) version)
bad_callback values = None

-- a callback of another version than 1
abbrev pub bad_sync : Raw → KnownInterface → Option Refusal
bad_sync m known.Connection = bad_callback (asked known.Connection (codes "sync") m)
bad_sync m interface = None

abbrev pub bad_mask : ℕ → Option ℕ → Option Refusal
bad_mask capabilities None = None
bad_mask capabilities (Some mask) = if bit_and mask capabilities == mask then None else Some (Request request.InvalidCapabilities)

-- a capability that the seat wasn't given
abbrev pub bad_capabilities : ℕ → Raw → KnownInterface → Option Refusal
bad_capabilities capabilities m known.Seat = bad_mask capabilities (asked_mask m)
bad_capabilities capabilities m interface = None

-- a touch that goes down where sixteen are down, or where it is down; or one that an old touchscreen cancels
abbrev pub bad_touch : List Raw → ℕ → Option DeviceInput → Option Refusal
bad_touch before version None = None
bad_touch before version (Some i) = elim i.input [
  | input_event.TouchDown touch x y ↦
      (if nat_le MOST_TOUCHES (length (touches_down before i.device)) then Some (Request request.TooManyTouches)
      else (if is_down before i.device touch then Some (Request request.DuplicatedTouchDown) else None))
  | input_event.TouchCancel touch ↦ (if nat_lt version 2 then Some (InvalidInterfaceVersion (name_of known.Touchscreen) version) else None)
  | _ ↦ None
]

abbrev pub bad_letters : Option (List ℕ) → Option Refusal
bad_letters None = None
bad_letters (Some letters) = if (length letters == 0) || nat_lt MOST_TEXT_BYTES (length letters) then Some (Request request.InvalidTextLength) else None

-- a text of no bytes, or of more than may be
abbrev pub unfit_text : Option InputEvent → Option Refusal
unfit_text (Some (input_event.TextUtf8 letters)) = bad_letters (Some letters)
unfit_text input = None

-- an input that is such a text
abbrev pub bad_text : Raw → KnownInterface → Option Refusal
bad_text m interface = unfit_text (input_to interface m)

-- ---- the verdict

-- the tests of a request to such an object, of this row and with these arguments, in their order
abbrev pub tests : Setup → List Raw → Raw → Entry → Option Row → Arguments → List (Option Refusal)
tests setup before m e row arguments =
    no_row e.interface m row
    ∷ stuck arguments
    ∷ bad_id before (announced_id row arguments)
    ∷ left_over m arguments
    ∷ bad_handshake before m e.interface
    ∷ bad_sync m e.interface
    ∷ bad_capabilities setup.capabilities m e.interface
    ∷ bad_touch before e.version (input before m)
    ∷ bad_text m e.interface
    ∷ []

-- why it is refused: the first that applies
abbrev pub refused_by : Setup → List Raw → Raw → Entry → Option Row → Arguments → Option Refusal
refused_by setup before m e row arguments = first (tests setup before m e row arguments)

abbrev pub refused_row : Setup → List Raw → Raw → Entry → Option Row → Option Refusal
refused_row setup before m e row = refused_by setup before m e row (arguments row m)

-- why a message to what is there is refused
abbrev pub refused_at : Setup → List Raw → Raw → Option Entry → Option Refusal
refused_at setup before m None = if connected before then None else Some (Handshake (handshake.InvalidObject m.id))
refused_at setup before m (Some e) = refused_row setup before m e (row_at m.opcode (table false e.interface))

-- why the message is refused, or nothing
unfoldable pub refusal : Setup → List Raw → Raw → Option Refusal
refusal setup before m = refused_at setup before m (object before m.id)

-- whether the client ends the connection
unfoldable pub is_disconnect : List Raw → Raw → Bool
is_disconnect before m = connected before && ((m.id == connection_id) && asks known.Connection (codes "disconnect") m)

abbrev pub verdict : Option Refusal → Bool → Verdict Refusal
verdict (Some e) last = Refused e
verdict None true = Final
verdict None false = Accepted

-- what becomes of a whole message: after a disconnect, or where the ids run out, nothing is looked at
unfoldable pub judge : Setup → List Raw → Raw → Verdict Refusal
judge setup before m = verdict (refusal setup before m) (is_disconnect before m || exhausts before m)
