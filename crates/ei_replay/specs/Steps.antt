-- What an item does, as far as it matters for playing it back.
use Rattle.std.specs.Prelude.{ℕ, ◌<◌, ◌^◌, Bool, false, length, Option, Some, None, ◌==◌, ◌&&◌}
use Rattle.ei_spec.specs.Groups.{Timed, Framed, Plain as Given}
use Rattle.ei_input.specs.declared.input_event.InputEvent.{InputEvent}
use Rattle.ei_input.specs.declared.input_event.InputEvent.TheVariants as input_event
use Rattle.ei_session.specs.Requests.{Request, Bind, RequestDevice, Ready, DeviceClosed, DeviceStartEmulating, DeviceStopEmulating, Disconnect}
use Rattle.ei_record.specs.Replayable.{capability_for}
use Rattle.ei_replay.specs.declared.step.InputKind.{InputKind}
use Rattle.ei_replay.specs.declared.step.InputKind.TheVariants as input_kind
use Rattle.ei_replay.specs.declared.step.Step.{Step}
use Rattle.ei_replay.specs.declared.step.Step.TheVariants as step

-- what an input asks for besides its capability
abbrev pub kind_of : InputEvent → InputKind
kind_of (input_event.TouchDown touch x y) = input_kind.Down touch
kind_of (input_event.TouchMotion touch x y) = input_kind.Move touch
kind_of (input_event.TouchUp touch) = input_kind.Lift touch
kind_of (input_event.TouchCancel touch) = input_kind.Lift touch
kind_of (input_event.TextUtf8 letters) = input_kind.Text (length letters)
kind_of input = input_kind.Plain

-- what an item does
abbrev pub step_of : Request → Step
step_of (Timed device input time) = step.Input device time (capability_for input) (kind_of input)
step_of (Framed device serial time) = step.Frame device time
step_of (Given Disconnect) = step.End
step_of (Given (Bind seat mask)) = step.Ask seat (record { 0 = mask })
step_of (Given (RequestDevice seat mask)) = step.Ask seat (record { 0 = mask })
step_of (Given (DeviceClosed device)) = step.Close device
step_of (Given (Ready device)) = step.Name device
step_of (Given (DeviceStartEmulating device serial sequence)) = step.Name device
step_of (Given (DeviceStopEmulating device serial)) = step.Name device

-- whether the item behind an input is an input of the device or its frame, with this time
abbrev pub goes_with : ℕ → ℕ → Option Step → Bool
goes_with device time (Some (step.Input d t capability kind)) = d == device && t == time
goes_with device time (Some (step.Frame d t)) = d == device && t == time
goes_with device time next = false

-- the device of an input
abbrev pub input_device : Step → Option ℕ
input_device (step.Input device time capability kind) = Some device
input_device step = None

-- the id of the device that an item names is one of 64 bits
abbrev pub IsNamed : Step → Type 0
IsNamed (step.Name device) = device < 2 ^ 64
IsNamed (step.Close device) = device < 2 ^ 64
IsNamed (step.Frame device time) = device < 2 ^ 64
IsNamed (step.Input device time capability kind) = device < 2 ^ 64
IsNamed s = Unit {0}
