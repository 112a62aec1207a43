-- The history of a client's devices: what the program told of them, and the requests that passed, the newest first.
use Rattle.std.specs.Prelude.{ℕ, Bool, true, false, ◌&&◌, ◌==◌, if◌then◌else◌, List, [], ◌∷◌, Option, Some, None}
use Rattle.ei_types.specs.declared.enums.ContextType.{ContextType}
use Rattle.ei_request.specs.declared.event.EisRequest.{EisRequest}
use Rattle.reis_strict.specs.declared.act.Act.{Act}
use Rattle.reis_strict.specs.declared.act.Deed.{Deed}
use Rattle.reis_strict.specs.declared.act.Deed.TheVariants as deed
use Rattle.reis_strict.specs.declared.act.Switch.{Switch}
use Rattle.reis_strict.specs.declared.act.Kind.{Kind}
use Rattle.reis_strict.specs.declared.act.Kind.TheVariants as kind
use Rattle.reis_strict.specs.declared.device.State.{State}
use Rattle.reis_strict.specs.declared.device.State.TheVariants as state
use Rattle.reis_strict.specs.declared.verdict.Verdict.{Verdict}
use Rattle.reis_strict.specs.Acts.{act_of}
use Rattle.reis_strict.specs.Policy.{judged}

-- what was told: a device was resumed, paused or removed, or a request passed
pub data Told : Type 0 where
  WasResumed : (device : ℕ) → Told
  WasPaused : (device : ℕ) → Told
  WasRemoved : (device : ℕ) → Told
  Passed : (request : EisRequest) → Told

-- ---- the state of a device

-- behind a deed on the device
abbrev pub state_after : Deed → State → State
state_after deed.Start was = state.Emulating
state_after deed.Stop was = state.Resumed
state_after deed.Input was = was
state_after (deed.Turn s) was = was

-- behind what a request does
abbrev pub state_behind : ℕ → Option Act → State → State
state_behind device None was = was
state_behind device (Some act) was = if act.device == device then state_after act.deed was else was

-- A device is paused until it is resumed, and again once it is paused or gone.
abbrev pub state_of : ℕ → List Told → State
state_of device [] = state.Paused
state_of device (WasResumed d ∷ before) = if d == device then state.Resumed else state_of device before
state_of device (WasPaused d ∷ before) = if d == device then state.Paused else state_of device before
state_of device (WasRemoved d ∷ before) = if d == device then state.Paused else state_of device before
state_of device (Passed request ∷ before) = state_behind device (act_of request) (state_of device before)

-- ---- the keys and the buttons that are down on a device

abbrev pub same_kind : Kind → Kind → Bool
same_kind kind.Key kind.Key = true
same_kind kind.Button kind.Button = true
same_kind k l = false

-- whether it is the key or the button of this code
abbrev pub is_of : Kind → ℕ → Switch → Bool
is_of k code s = same_kind k s.kind && s.code == code

-- behind a deed on the device: where the client stops, nothing is down any more
abbrev pub down_after : Kind → ℕ → Deed → Bool → Bool
down_after k code deed.Start was = was
down_after k code deed.Stop was = false
down_after k code deed.Input was = was
down_after k code (deed.Turn s) was = if is_of k code s then s.down else was

abbrev pub down_behind : Kind → ℕ → ℕ → Option Act → Bool → Bool
down_behind k code device None was = was
down_behind k code device (Some act) was = if act.device == device then down_after k code act.deed was else was

-- The last press or release of it says whether it is down; nothing is, once the device is resumed, paused or gone.
abbrev pub is_down : ℕ → Kind → ℕ → List Told → Bool
is_down device k code [] = false
is_down device k code (WasResumed d ∷ before) = if d == device then false else is_down device k code before
is_down device k code (WasPaused d ∷ before) = if d == device then false else is_down device k code before
is_down device k code (WasRemoved d ∷ before) = if d == device then false else is_down device k code before
is_down device k code (Passed request ∷ before) = down_behind k code device (act_of request) (is_down device k code before)

-- ---- a request

-- what becomes of a request of a client of this role
abbrev pub verdict_of : ContextType → EisRequest → List Told → Verdict
verdict_of role request history =
    judged role (act_of request) (λ device. state_of device history) (λ device k code. is_down device k code history)
