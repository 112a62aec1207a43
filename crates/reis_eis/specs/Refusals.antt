-- Which calls are refused, and why.
use Rattle.std.specs.Prelude.{◌≡◌, ℕ, ◌+◌, Bool, true, false, not, List, length, Option, Some, None, is_some, Result, Ok, Err, find, bit_and, ◌==◌, nat_le, nat_lt, ◌&&◌, if◌then◌else◌}
use Rattle.ei_spec.specs.declared.limits.TheConstants.{MOST_MESSAGE_BYTES, MOST_PIECE_BYTES, MOST_PIECE_HANDLES}
use Rattle.ei_spec.specs.declared.interface.KnownInterface.{KnownInterface}
use Rattle.ei_spec.specs.Interface.{ObjectView}
use Rattle.ei_spec.specs.Message.{size}
use Rattle.ei_wire.specs.declared.error.SendError.{SendError}
use Rattle.ei_wire.specs.declared.error.SendError.TheVariants as send_error
use Rattle.ei_types.specs.Capability.{bits_of, bit_of, has_bit}
use Rattle.ei_types.specs.declared.capability.DeviceCapabilities.{DeviceCapabilities}
use Rattle.ei_types.specs.declared.capability.DeviceCapability.TheVariants.{Keyboard}
use Rattle.ei_types.specs.declared.enums.ContextType.{ContextType}
use Rattle.ei_types.specs.declared.enums.ContextType.TheVariants as context
use Rattle.ei_input.specs.declared.input_event.InputEvent.{InputEvent}
use Rattle.ei_backend.specs.Table.{own_end}
use Rattle.ei_session.specs.Replies.{name_event}
use Rattle.ei_request.specs.Held.{SeatView, is_seat, is_device}
use Rattle.ei_request.specs.Connection.{ConnectionView}
use Rattle.ei_request.specs.Making.{is_long, is_long_name, is_long_description, granted_at, setup_handles}
use Rattle.ei_request.specs.Reading.{interface_in}
use Rattle.ei_request.specs.Sending.{disconnected_event}
use Rattle.ei_request.specs.declared.making.DeviceSetup.{DeviceSetup}
use Rattle.reis_eis.specs.declared.call_error.CallError.{CallError}
use Rattle.reis_eis.specs.declared.call_error.CallError.TheVariants as call_error
use Rattle.reis_eis.specs.Inputs.{told_by, message_to}

-- the error of a call that sends
abbrev pub of_send : SendError → CallError
of_send send_error.MessageTooLong = call_error.MessageTooLong
of_send send_error.IdsExhausted = call_error.IdsExhausted
of_send send_error.NoMemory = call_error.NoMemory

-- an error tells the reason, where there is one; where there is none it is want of memory
abbrev pub Tells : Option CallError → CallError → Type 0
Tells reason call_error.NoMemory = reason ≡ None
Tells reason e = reason ≡ Some e

-- the same, but that want of memory may come in place of any reason
abbrev pub TellsOrWants : Option CallError → CallError → Type 0
TellsOrWants reason call_error.NoMemory = Unit {0}
TellsOrWants reason e = reason ≡ Some e

-- the first of two reasons
abbrev pub first_reason : Option CallError → Option CallError → Option CallError
first_reason (Some e) later = Some e
first_reason None later = later

-- ---- what comes and goes

-- whether a piece of so many bytes and handles is taken, and else why not
abbrev pub feed_answer : Bool → ℕ → ℕ → Result Unit CallError
feed_answer over bytes handles =
    if over then Err call_error.Over
    else (if bytes == 0 then Err call_error.Empty
    else (if nat_lt MOST_PIECE_BYTES bytes then Err call_error.TooLong
    else (if nat_lt MOST_PIECE_HANDLES handles then Err call_error.TooManyHandles
    else Ok tt)))

-- whether the end of the input is taken
abbrev pub end_answer : Bool → Result Unit CallError
end_answer over = if over then Err call_error.Over else Ok tt

-- whether so many bytes wait
abbrev pub sent_answer : ℕ → ℕ → Result Unit CallError
sent_answer bytes waiting = if nat_lt waiting bytes then Err call_error.NotUnsent else Ok tt

-- ---- calls on a connection

-- a seat for which no id is left, or whose name is too long
abbrev pub adding_seat : Option (List ℕ) → ConnectionView → Option CallError
adding_seat name c =
    if nat_le (own_end c.ctx.table) c.ctx.table.next_own then Some call_error.IdsExhausted
    else (if is_long_name (name_event c.ctx.table.next_own) name then Some call_error.MessageTooLong else None)

-- a seat that isn't held
abbrev pub on_seat : ℕ → ConnectionView → Option CallError
on_seat id c = if is_some (find (is_seat id) c.seats) then None else Some call_error.Gone

-- a device that isn't held
abbrev pub on_device : ℕ → ConnectionView → Option CallError
on_device id c = if is_some (find (is_device id) c.devices) then None else Some call_error.Gone

-- whether a client receives
abbrev pub receives : ContextType → Bool
receives context.Receiver = true
receives context.Sender = false

-- a client that doesn't receive, or a device that isn't held
abbrev pub on_receiver : ℕ → ConnectionView → Option CallError
on_receiver id c = if receives c.context_type then on_device id c else Some call_error.WrongRole

-- the object of the interface that the device of that id has left, where it is held
abbrev pub object_at : KnownInterface → ℕ → ConnectionView → Option ObjectView
object_at interface id c = interface_in interface (find (is_device id) c.devices)

-- a device that isn't held, or that doesn't have the interface left
abbrev pub on_interface : KnownInterface → ℕ → ConnectionView → Option CallError
on_interface interface id c = first_reason (on_device id c) (if is_some (object_at interface id c) then None else Some call_error.Capabilities)

-- an input whose event is too long, as a text's may be
abbrev pub too_long : InputEvent → Option CallError
too_long input = if is_long (message_to (told_by input) 0) then Some call_error.MessageTooLong else None

-- an input to a client that doesn't receive, of a device that isn't held or lacks the interface, or one that is too long
abbrev pub sending : ℕ → InputEvent → ConnectionView → Option CallError
sending id input c =
    if receives c.context_type then first_reason (on_interface (told_by input).interface id c) (too_long input)
    else Some call_error.WrongRole

-- whether a device gets a keyboard, of these capabilities of its seat and these that are wanted
abbrev pub has_keyboard : DeviceCapabilities → DeviceCapabilities → Bool
has_keyboard given wanted = has_bit (bits_of given) (bit_of Keyboard) && has_bit (bits_of wanted) (bit_of Keyboard)

-- a device for which too few ids are left, or of which a text is too long
abbrev pub announcing : ConnectionView → Option (List ℕ) → ℕ → List DeviceSetup → Option CallError
announcing c name interfaces setup =
    if nat_lt (own_end c.ctx.table) (c.ctx.table.next_own + (interfaces + 1)) then Some call_error.IdsExhausted
    else (if is_long_description c.ctx.table.next_own name setup then Some call_error.MessageTooLong else None)

-- what a device may not be where its seat was given these capabilities: of one that it wasn't, with a keymap but no keyboard, or with keymaps
-- where more handles would wait than may
abbrev pub describing : DeviceCapabilities → DeviceCapabilities → ℕ → ℕ → Option CallError
describing given wanted keymaps waiting =
    if not (bit_and (bits_of given) (bits_of wanted) == bits_of wanted) then Some call_error.Capabilities
    else (if nat_lt 0 keymaps && not (has_keyboard given wanted) then Some call_error.NoKeyboard
    else (if nat_lt MOST_PIECE_HANDLES (waiting + keymaps) then Some call_error.TooManyHandles else None))

-- the same of a seat, where it is held
abbrev pub describing_at : Option SeatView → DeviceCapabilities → List DeviceSetup → ℕ → Option CallError
describing_at None wanted setup waiting = Some call_error.Gone
describing_at (Some s) wanted setup waiting = describing s.capabilities wanted (length (setup_handles setup)) waiting

-- a device of a seat that isn't held, or one that can't be described or announced so
abbrev pub adding_device : ℕ → Option (List ℕ) → DeviceCapabilities → List DeviceSetup → ConnectionView → Option CallError
adding_device seat name wanted setup c =
    first_reason (describing_at (find (is_seat seat) c.seats) wanted setup (length c.ctx.unsent_handles)) (announcing c name
    (length (granted_at c seat wanted)) setup)

-- a ping for which no id is left
abbrev pub pinging : ConnectionView → Option CallError
pinging c = if nat_le (own_end c.ctx.table) c.ctx.table.next_own then Some call_error.IdsExhausted else None

-- a connection whose client was told already that it ends, or a text that is too long
abbrev pub disconnecting : ℕ → Option (List ℕ) → ConnectionView → Option CallError
disconnecting reason text c =
    if c.disconnected then Some call_error.Over
    else (if nat_lt MOST_MESSAGE_BYTES (size (disconnected_event c.proxy.id 0 reason text)) then Some call_error.MessageTooLong else None)
