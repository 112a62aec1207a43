-- What a server takes the message of an item for.
use Rattle.std.proofs.Common.{◌≡◌, ℕ, Bool, true, false, eqb, List, Option, Some, None, refl, ap, ◌∙◌}
use Rattle.std.specs.Prelude.{not}
use Rattle.ei_spec.specs.Rows.{Row}
use Rattle.ei_spec.specs.Groups.{Timed, Framed, Plain as Given}
use Rattle.ei_types.specs.declared.enums.ButtonState.TheVariants as button_state
use Rattle.ei_types.specs.declared.enums.KeyState.TheVariants as key_state
use Rattle.ei_input.specs.declared.input_event.InputEvent.{InputEvent}
use Rattle.ei_input.specs.declared.input_event.InputEvent.TheVariants as input_event
use Rattle.ei_backend.specs.Sends.{AreOfRow}
use Rattle.ei_session.specs.Arguments.{opcode_of, row_args, request_args}
use Rattle.ei_session.specs.Inputs.{input_of}
use Rattle.ei_session.specs.Meaning.{Meaning, Binds, RequestsDevice, Closes, Starts, Stops, Frames, Readies, Inputs, Disconnects, meaning}
use Rattle.ei_session.specs.Meaning as rows
use Rattle.ei_session.specs.Requests.{Request, Bind, RequestDevice, Ready, DeviceClosed, DeviceStartEmulating, DeviceStopEmulating, Disconnect}
use Rattle.ei_session.proofs.AskedRows.{named_row}
use Rattle.ei_session.proofs.ReadBack.{ArePlain, reads_back}
use Rattle.ei_session.proofs.RowsMean.{asks_means}
use Rattle.ei_record.specs.Replayable.{writes_badly}
use Rattle.ei_playing.specs.Playing.{interface_for, name_for, axis, values_for, Call, call_of, row_of, message_of, IsBorne}

-- ---- inputs

axis_is : (b : Bool) → not (eqb (axis b) 0) ≡ b
axis_is true = refl
axis_is false = refl

two_axes : (make : Bool → Bool → InputEvent) (x y : Bool) → Some (make (not (eqb (axis x) 0)) (not (eqb (axis y) 0))) ≡ Some (make x y)
two_axes make x y = rw (axis_is x, axis_is y) refl

input_asks : (i : InputEvent) → input_of (interface_for i) (opcode_of (row_of (record { interface = interface_for i; id = 0; name = name_for i; values = values_for i }))) (values_for i) ≡ Some i
input_asks (input_event.PointerMotion dx dy) = refl
input_asks (input_event.PointerMotionAbsolute dx dy) = refl
input_asks (input_event.Button button button_state.Released) = refl
input_asks (input_event.Button button button_state.Press) = refl
input_asks (input_event.ScrollDelta dx dy) = refl
input_asks (input_event.ScrollStop x y) = two_axes input_event.ScrollStop x y
input_asks (input_event.ScrollCancel x y) = two_axes input_event.ScrollCancel x y
input_asks (input_event.ScrollDiscrete dx dy) = refl
input_asks (input_event.KeyboardKey key key_state.Released) = refl
input_asks (input_event.KeyboardKey key key_state.Press) = refl
input_asks (input_event.TouchDown touch x y) = refl
input_asks (input_event.TouchMotion touch x y) = refl
input_asks (input_event.TouchUp touch) = refl
input_asks (input_event.TouchCancel touch) = refl
input_asks (input_event.TextKeysym keysym key_state.Released) = refl
input_asks (input_event.TextKeysym keysym key_state.Press) = refl
input_asks (input_event.TextUtf8 letters) = refl
input_asks (input_event.GestureSwipe fingers dx dy) = refl
input_asks (input_event.GesturePinch scale) = refl

-- ---- items

-- what an item asks
abbrev pub asked_by : Request → Meaning
asked_by (Timed device input time) = Inputs input
asked_by (Framed device serial time) = Frames serial time
asked_by (Given (Bind seat mask)) = Binds mask
asked_by (Given (RequestDevice seat mask)) = RequestsDevice mask
asked_by (Given (Ready device)) = Readies
asked_by (Given (DeviceClosed device)) = Closes
asked_by (Given (DeviceStartEmulating device serial sequence)) = Starts serial sequence
asked_by (Given (DeviceStopEmulating device serial)) = Stops serial
asked_by (Given Disconnect) = Disconnects

pub item_asks : (before : List Request) (item : Request) → rows.Asks (call_of before item).interface (opcode_of (row_of (call_of before item))) (call_of before item).values (asked_by item)
item_asks before (Timed device input time) = rows.Input (interface_for input) _ (values_for input) input (input_asks input)
item_asks before (Framed device serial time) = rows.Frame serial time
item_asks before (Given (Bind seat mask)) = rows.Bind mask
item_asks before (Given (RequestDevice seat mask)) = rows.RequestDevice mask
item_asks before (Given (Ready device)) = rows.Ready
item_asks before (Given (DeviceClosed device)) = rows.DeviceRelease
item_asks before (Given (DeviceStartEmulating device serial sequence)) = rows.Start serial sequence
item_asks before (Given (DeviceStopEmulating device serial)) = rows.Stop serial
item_asks before (Given Disconnect) = rows.Disconnect

-- an item's text is short
abbrev pub IsShort : Request → Type 0
IsShort (Timed device input time) = writes_badly input ≡ false
IsShort item = Unit {0}

-- what an item says doesn't hang on those before it
pub borne_anywhere : (before : List Request) (item : Request) → IsBorne item → AreOfRow (row_of (call_of before item)) (call_of before item).values
borne_anywhere before (Timed device input time) b = b
borne_anywhere before (Framed device serial time) b = b
borne_anywhere before (Given (Bind seat mask)) b = b
borne_anywhere before (Given (RequestDevice seat mask)) b = b
borne_anywhere before (Given (Ready device)) b = b
borne_anywhere before (Given (DeviceClosed device)) b = b
borne_anywhere before (Given (DeviceStartEmulating device serial sequence)) b = b
borne_anywhere before (Given (DeviceStopEmulating device serial)) b = b
borne_anywhere before (Given Disconnect) b = b

-- ---- read back

module _ (c : Call) (x : Meaning) (plain : ArePlain c.values) (asks : rows.Asks c.interface (opcode_of (row_of c)) c.values x) where
  read_row : (o : Option (ℕ × Row)) → row_of c ≡ o → AreOfRow o c.values → request_args c.interface (message_of c) ≡ Some c.values
  unfolding request_args
  read_row None e b = absurd b
  read_row (Some (n, r)) e b =
      let is : opcode_of (row_of c) ≡ n = ap opcode_of e in
      rw is (ap (λ (o : Option Row). row_args o (record { id = c.id; opcode = n; body = (message_of c).body })) (named_row c.interface c.name n r e) ∙ reads_back r c.id n c.values b plain)

  pub means : AreOfRow (row_of c) c.values → meaning c.interface (message_of c) ≡ Some x
  means b = asks_means (message_of c) c.interface (opcode_of (row_of c)) c.values x asks refl (read_row (row_of c) refl b)
