-- What becomes of a request, by the state of its device and what is down on it.
use Rattle.std.specs.Prelude.{ℕ, Bool, true, false, Option, Some, None}
use Rattle.ei_types.specs.declared.enums.ContextType.{ContextType}
use Rattle.ei_types.specs.declared.enums.ContextType.TheVariants as role
use Rattle.reis_strict.specs.declared.act.Act.{Act}
use Rattle.reis_strict.specs.declared.act.Deed.{Deed}
use Rattle.reis_strict.specs.declared.act.Deed.TheVariants as deed
use Rattle.reis_strict.specs.declared.act.Kind.{Kind}
use Rattle.reis_strict.specs.declared.device.State.{State}
use Rattle.reis_strict.specs.declared.device.State.TheVariants as state
use Rattle.reis_strict.specs.declared.fault.Fault.TheVariants as fault
use Rattle.reis_strict.specs.declared.verdict.Verdict.{Verdict}
use Rattle.reis_strict.specs.declared.verdict.Verdict.TheVariants as verdict

-- a press (`true`) or a release of what is down or up: one that changes nothing is dropped
abbrev pub by_change : Bool → Bool → Verdict
by_change true true = verdict.Drop
by_change true false = verdict.Pass
by_change false true = verdict.Pass
by_change false false = verdict.Drop

-- A deed, by the state of the device and what is down on it: at a paused device the client may not know yet, so it is
-- dropped; what no race explains ends the client.
abbrev pub by_state : Deed → State → (Kind → ℕ → Bool) → Verdict
by_state act state.Paused is_down = verdict.Drop
by_state deed.Start state.Resumed is_down = verdict.Pass
by_state deed.Start state.Emulating is_down = verdict.End fault.StartedTwice
by_state deed.Stop state.Resumed is_down = verdict.End fault.NotStarted
by_state deed.Stop state.Emulating is_down = verdict.Pass
by_state deed.Input state.Resumed is_down = verdict.End fault.NotEmulating
by_state deed.Input state.Emulating is_down = verdict.Pass
by_state (deed.Turn s) state.Resumed is_down = verdict.End fault.NotEmulating
by_state (deed.Turn s) state.Emulating is_down = by_change s.down (is_down s.kind s.code)

-- what a client of this role asks, if it does something with the input of a device
abbrev pub judged : ContextType → Option Act → (ℕ → State) → (ℕ → Kind → ℕ → Bool) → Verdict
judged kind None state_of is_down = verdict.Pass
judged role.Receiver (Some act) state_of is_down = verdict.End fault.OfReceiver
judged role.Sender (Some act) state_of is_down = by_state act.deed (state_of act.device) (is_down act.device)
