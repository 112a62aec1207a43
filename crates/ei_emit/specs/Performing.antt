-- What a pair's server is asked for to carry a step out, and what it does.
use Rattle.std.specs.Prelude.{◌≡◌, ℕ, Bool, true, false, List, [], Option, None, IsSome, find, Result, Ok, Err}
use Rattle.std.specs.Option.{option_map}
use Rattle.ei_spec.specs.Interface.{ObjectView}
use Rattle.ei_types.specs.declared.capability.DeviceCapabilities.{DeviceCapabilities}
use Rattle.ei_wire.specs.declared.error.NoMemory.{NoMemory}
use Rattle.ei_values.specs.declared.value.Value.{Value as Stored}
use Rattle.ei_request.specs.Keys.{DeviceKey}
use Rattle.ei_request.specs.Held.{is_seat}
use Rattle.ei_request.specs.Converter.{ConverterView as ServerConverter}
use Rattle.ei_promises.specs.declared.calls.ServerCall.{ServerCall}
use Rattle.ei_promises.specs.declared.calls.ServerCall.TheVariants as call
use Rattle.ei_promises.specs.declared.calls.Made.{Made}
use Rattle.ei_promises.specs.declared.calls.Made.TheVariants as made
use Rattle.ei_promises.specs.Pair.{Serves, PairView}
use Rattle.ei_promises.specs.Calling.{text_in, MeetsServer, DoesServer}
use Rattle.ei_pair.specs.Calls.{IsLongAt, SendsAt}
use Rattle.ei_emit.specs.declared.step.EmitStep.{EmitStep}
use Rattle.ei_emit.specs.declared.step.EmitStep.TheVariants as step
use Rattle.ei_emit.specs.Held.{held_at}
use Rattle.ei_emit.specs.Stands.{Script, EmitterView, StandsFor, Performs}

-- ---- one call

-- a server that serves may be asked for the call
pub record MayMake {H : Type 0} (asked : ServerCall) (p : PairView H) : Type 0 where
  pub whole : p.ends.spent ≡ false
  pub server : ServerConverter
  pub serves : p.server ≡ Serves server
  pub meets : MeetsServer asked p.ends server.handle

-- it made the call, and sent the messages of it
pub record HasMade {H : Type 0} (asked : ServerCall) (old : PairView H) (answer : Made) (new : PairView H) : Type 0 where
  pub server : ServerConverter
  pub serves : old.server ≡ Serves server
  pub does : DoesServer asked server old answer new
  pub sends : SendsAt (Serves server) asked old new

-- ---- the calls of the steps

-- whether a held device tells what the step says
abbrev pub is_told : EmitStep → Bool
is_told (step.Add capabilities) = false
is_told (step.Remove number) = false
is_told (step.Input number interface opcode values) = false
is_told other = true

-- the call by which it does
abbrev pub telling : List (Option DeviceKey) → EmitStep → Option ServerCall
telling devices (step.Start number sequence) = option_map (λ key. call.StartEmulating key sequence) (held_at devices number)
telling devices (step.Stop number) = option_map (λ key. call.StopEmulating key) (held_at devices number)
telling devices (step.Pause number) = option_map (λ key. call.Paused key) (held_at devices number)
telling devices (step.Resume number) = option_map (λ key. call.Resumed key) (held_at devices number)
telling devices (step.Frame number time) = option_map (λ key. call.Frame key time) (held_at devices number)
telling devices other = None

-- a server that serves holds the seat
pub record HoldsSeat {H : Type 0} (seat : ObjectView) (p : PairView H) : Type 0 where
  pub whole : p.ends.spent ≡ false
  pub server : ServerConverter
  pub serves : p.server ≡ Serves server
  pub held : IsSome (find (is_seat seat.id) server.handle.seats)

-- the call adds a device of the seat with these capabilities, without a name or a description
abbrev pub IsAddition : ObjectView → DeviceCapabilities → ServerCall → Type 0
IsAddition seat wanted (call.AddDevice key name kind capabilities setup) =
    (key ≡ seat) × (text_in (call.AddDevice key name kind capabilities setup) ≡ None) × (capabilities ≡ wanted) × (setup.now ≡ [])
IsAddition seat wanted other = ⊥

-- such a device was added, and is known by the key
pub record Adds {H : Type 0} (seat : ObjectView) (wanted : DeviceCapabilities) (key : DeviceKey) (old new : PairView H) : Type 0 where
  pub asked : ServerCall
  pub is : IsAddition seat wanted asked
  pub made : HasMade asked old (made.Device key) new

-- the call is an input of these values to the object
abbrev pub IsInputCall : ObjectView → ℕ → List Stored → ServerCall → Type 0
IsInputCall target opcode values (call.Input object code given) = (object ≡ target) × (code ≡ opcode) × (given.now ≡ values)
IsInputCall target opcode values other = ⊥

-- the input was sent: its message isn't too long
pub record SendsInput {H : Type 0} (target : ObjectView) (opcode : ℕ) (values : List Stored) (old new : PairView H) : Type 0 where
  pub asked : ServerCall
  pub is : IsInputCall target opcode values asked
  pub short : IsLongAt old.server asked → ⊥
  pub answer : Made
  pub made : HasMade asked old answer new

-- its message is too long
pub record IsLongInput {H : Type 0} (target : ObjectView) (opcode : ℕ) (values : List Stored) (p : PairView H) : Type 0 where
  pub asked : ServerCall
  pub is : IsInputCall target opcode values asked
  pub long : IsLongAt p.server asked

-- what became of an input
abbrev pub AnswersInput : {H : Type 0} → ObjectView → ℕ → List Stored → Result Bool NoMemory → PairView H → PairView H → Type 0
AnswersInput target opcode values (Ok true) old new = SendsInput target opcode values old new
AnswersInput target opcode values (Ok false) old new = IsLongInput target opcode values old
AnswersInput target opcode values (Err e) old new = Unit {0}

-- ---- a step

-- an emitter carried the step out, whatever it stands for
abbrev pub CarriesOut : {H : Type 0} → EmitStep → Result Bool NoMemory → EmitterView H → EmitterView H → Type 0
CarriesOut step result old new = (s : Script) → StandsFor s old → Performs s step result old new
