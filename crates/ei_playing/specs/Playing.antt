-- How a record is played: the requests that its items are sent as, by the items before them, the newest first.
use Rattle.std.specs.Prelude.{ℕ, ◌+◌, Bool, true, false, List, [], ◌∷◌, ◌++◌, length, take, reverse, Option, unwrap_or, codes}
use Rattle.std.specs.List.{filter}
use Rattle.ei_spec.specs.declared.interface.KnownInterface.{KnownInterface}
use Rattle.ei_spec.specs.declared.interface.KnownInterface.TheVariants as known
use Rattle.ei_spec.specs.Value.{Value, Word, Long, Signed, Letters}
use Rattle.ei_spec.specs.Rows.{Row, row_named}
use Rattle.ei_spec.specs.Table.{table}
use Rattle.ei_spec.specs.Message.{Raw, message}
use Rattle.ei_spec.specs.History.{each}
use Rattle.ei_spec.specs.Groups.{Timed, Framed, Plain as Given}
use Rattle.ei_types.specs.Enums.{button_state_number, key_state_number}
use Rattle.ei_types.specs.Capability.{capability_list, index_of, interface_of, bit_of, has_bit}
use Rattle.ei_types.specs.declared.capability.DeviceCapability.{DeviceCapability}
use Rattle.ei_types.specs.declared.enums.ContextType.TheVariants as context
use Rattle.ei_input.specs.declared.input_event.InputEvent.{InputEvent}
use Rattle.ei_input.specs.declared.input_event.InputEvent.TheVariants as input_event
use Rattle.ei_backend.specs.Sends.{AreOfRow}
use Rattle.ei_session.specs.Setup.{connection_id}
use Rattle.ei_session.specs.Arguments.{opcode_of}
use Rattle.ei_session.specs.Requests.{Request, Bind, RequestDevice, Ready, DeviceClosed, DeviceStartEmulating, DeviceStopEmulating, Disconnect}
use Rattle.ei_record.specs.Replayable.{mask_before, capability_for}
use Rattle.ei_greeting.specs.Shaking.{Greeter, greeting}

-- ---- inputs

-- the interface that an input is told to
abbrev pub interface_for : InputEvent → KnownInterface
interface_for input = interface_of (capability_for input)

-- the name of the request that tells it
abbrev pub name_for : InputEvent → List ℕ
name_for (input_event.PointerMotion dx dy) = codes "motion_relative"
name_for (input_event.PointerMotionAbsolute dx dy) = codes "motion_absolute"
name_for (input_event.Button button state) = codes "button"
name_for (input_event.ScrollDelta dx dy) = codes "scroll"
name_for (input_event.ScrollStop x y) = codes "scroll_stop"
name_for (input_event.ScrollCancel x y) = codes "scroll_stop"
name_for (input_event.ScrollDiscrete dx dy) = codes "scroll_discrete"
name_for (input_event.KeyboardKey key state) = codes "key"
name_for (input_event.TouchDown touch x y) = codes "down"
name_for (input_event.TouchMotion touch x y) = codes "motion"
name_for (input_event.TouchUp touch) = codes "up"
name_for (input_event.TouchCancel touch) = codes "cancel"
name_for (input_event.TextKeysym keysym state) = codes "keysym"
name_for (input_event.TextUtf8 letters) = codes "utf8"
name_for (input_event.GestureSwipe fingers dx dy) = codes "swipe"
name_for (input_event.GesturePinch scale) = codes "pinch"

-- an axis that stops is 1
abbrev pub axis : Bool → ℕ
axis true = 1
axis false = 0

-- and its arguments
abbrev pub values_for : InputEvent → List Value
values_for (input_event.PointerMotion dx dy) = Word dx.0 ∷ Word dy.0 ∷ []
values_for (input_event.PointerMotionAbsolute dx dy) = Word dx.0 ∷ Word dy.0 ∷ []
values_for (input_event.Button button state) = Word button ∷ Word (button_state_number state) ∷ []
values_for (input_event.ScrollDelta dx dy) = Word dx.0 ∷ Word dy.0 ∷ []
values_for (input_event.ScrollStop x y) = Word (axis x) ∷ Word (axis y) ∷ Word 0 ∷ []
values_for (input_event.ScrollCancel x y) = Word (axis x) ∷ Word (axis y) ∷ Word 1 ∷ []
values_for (input_event.ScrollDiscrete dx dy) = Signed dx ∷ Signed dy ∷ []
values_for (input_event.KeyboardKey key state) = Word key ∷ Word (key_state_number state) ∷ []
values_for (input_event.TouchDown touch x y) = Word touch ∷ Word x.0 ∷ Word y.0 ∷ []
values_for (input_event.TouchMotion touch x y) = Word touch ∷ Word x.0 ∷ Word y.0 ∷ []
values_for (input_event.TouchUp touch) = Word touch ∷ []
values_for (input_event.TouchCancel touch) = Word touch ∷ []
values_for (input_event.TextKeysym keysym state) = Word keysym ∷ Word (key_state_number state) ∷ []
values_for (input_event.TextUtf8 letters) = Letters letters ∷ []
values_for (input_event.GestureSwipe fingers dx dy) = Word fingers ∷ Word dx.0 ∷ Word dy.0 ∷ []
values_for (input_event.GesturePinch scale) = Word scale.0 ∷ []

-- how many capabilities of a mask come before this one, by rising bit
abbrev pub capabilities_below : ℕ → DeviceCapability → ℕ
capabilities_below mask one = length (filter (λ c. has_bit mask (bit_of c)) (take (index_of one) capability_list))

-- the id of the interface of a capability: the interfaces of a device have the ids behind its own
abbrev pub interface_id : ℕ → ℕ → DeviceCapability → ℕ
interface_id device mask one = device + 1 + capabilities_below mask one

-- the mask of a device that was made
abbrev pub made_mask : List Request → ℕ → ℕ
made_mask before device = unwrap_or (mask_before before device) 0

-- ---- requests

-- a request by its name: to which object, of which interface, and with which arguments
pub record Call : Type 0 where
  pub interface : KnownInterface
  pub id : ℕ
  pub name : List ℕ
  pub values : List Value

abbrev pub call : KnownInterface → ℕ → List ℕ → List Value → Call
call interface id name values = record { interface = interface; id = id; name = name; values = values }

-- the id of the object that an item is sent to
abbrev pub target_id : List Request → Request → ℕ
target_id before (Timed device input time) = interface_id device (made_mask before device) (capability_for input)
target_id before (Framed device serial time) = device
target_id before (Given (Bind seat mask)) = seat
target_id before (Given (RequestDevice seat mask)) = seat
target_id before (Given (Ready device)) = device
target_id before (Given (DeviceClosed device)) = device
target_id before (Given (DeviceStartEmulating device serial sequence)) = device
target_id before (Given (DeviceStopEmulating device serial)) = device
target_id before (Given Disconnect) = connection_id

-- the request that an item is sent as to the object of that id
abbrev pub call_to : ℕ → Request → Call
call_to id (Timed device input time) = call (interface_for input) id (name_for input) (values_for input)
call_to id (Framed device serial time) = call known.Device id (codes "frame") (Word serial ∷ Long time ∷ [])
call_to id (Given (Bind seat mask)) = call known.Seat id (codes "bind") (Long mask ∷ [])
call_to id (Given (RequestDevice seat mask)) = call known.Seat id (codes "request_device") (Long mask ∷ [])
call_to id (Given (Ready device)) = call known.Device id (codes "ready") []
call_to id (Given (DeviceClosed device)) = call known.Device id (codes "release") []
call_to id (Given (DeviceStartEmulating device serial sequence)) = call known.Device id (codes "start_emulating") (Word serial ∷ Word sequence ∷ [])
call_to id (Given (DeviceStopEmulating device serial)) = call known.Device id (codes "stop_emulating") (Word serial ∷ [])
call_to id (Given Disconnect) = call known.Connection id (codes "disconnect") []

-- the request that an item is sent as, behind those before it
abbrev pub call_of : List Request → Request → Call
call_of before item = call_to (target_id before item) item

-- its row in the table of all messages
abbrev pub row_of : Call → Option (ℕ × Row)
row_of c = row_named c.name (table false c.interface)

-- its message
abbrev pub message_of : Call → Raw
message_of c = message c.id (opcode_of (row_of c)) c.values

-- a message can bear what the item says: its numbers are in their ranges, and its text is one
abbrev pub IsBorne : Request → Type 0
IsBorne item = AreOfRow (row_of (call_to 0 item)) (call_to 0 item).values

-- ---- messages

-- what the client tells of itself
abbrev pub player : Greeter
player = record { name = codes "replay"; kind = context.Sender }

-- the messages of its handshake, the newest first
unfoldable pub shaken : List Raw
shaken = reverse (greeting player 0)

-- the message that an item is played as
unfoldable pub played : List Request → Request → Raw
played before item = message_of (call_of before item)

-- all messages that the items are played as, those of the handshake before them; the newest first
unfoldable pub messages : List Request → List Raw
messages before = each played before ++ shaken
