-- What a run of steps does. A step is accepted where its call's condition is met and the call answers no refusal.
use Rattle.std.specs.Prelude.{◌≡◌, ◌≤◌, ◌<◌, ◌⊎◌, ℕ, true, false, List, [], ◌∷◌, take, slice_get, Option, Some, None, Result, Ok, Err}
use Rattle.ei_spec.specs.declared.interface.KnownInterface.{KnownInterface}
use Rattle.ei_spec.specs.declared.interface.KnownInterface.TheVariants as known
use Rattle.ei_wire.specs.declared.error.ReadError.{ReadError}
use Rattle.ei_wire.specs.declared.error.ReadError.TheVariants as read_error
use Rattle.ei_wire.specs.declared.error.SendError.{SendError}
use Rattle.ei_wire.specs.declared.error.SendError.TheVariants as send_error
use Rattle.ei_ends.specs.Sent.{New}
use Rattle.ei_values.specs.declared.value.Value.{Value as Stored}
use Rattle.ei_linked.specs.declared.record.Record.{Record}
use Rattle.ei_world.specs.declared.run.Step.{Step}
use Rattle.ei_world.specs.declared.run.Step.TheVariants as step
use Rattle.ei_world.specs.declared.run.WorldEnd.{WorldEnd}
use Rattle.ei_world.specs.declared.run.WorldEnd.TheVariants as world_end
use Rattle.ei_linked.specs.declared.side.Side.{Side}
use Rattle.ei_linked.specs.Stored.{as_known}
use Rattle.ei_linked.specs.Asked.{IsTooLong}
use Rattle.ei_linked.specs.TwoEnds.{WorldView, stored_of, MayAsk, met_at, asked_for, HasOwnId, TooManyHandles}
use Rattle.ei_linked.specs.TwoEnds.{called_world, flushed_world, delivered_world, limited_world, read_world, spent_world}

-- ---- the object that a step calls

-- the interface and the version that an object was announced with; what stands for none is asked for by no step
abbrev pub interface_met : Option New → KnownInterface
interface_met None = known.Handshake
interface_met (Some n) = as_known n.interface

abbrev pub version_met : Option New → ℕ
version_met None = 0
version_met (Some n) = n.version

-- the message that a side asks for to the object of that id
abbrev pub asked_at : Side → WorldView → ℕ → ℕ → List Stored → Record
asked_at side w id opcode values = asked_for side w id (interface_met (met_at side w id)) (version_met (met_at side w id)) opcode values

-- it may ask for it
abbrev pub MayAskAt : Side → WorldView → ℕ → ℕ → List Stored → Type 0
MayAskAt side w id opcode values = MayAsk side w id (interface_met (met_at side w id)) (version_met (met_at side w id)) opcode values

-- ---- a step

-- the condition of the step's call is met
abbrev pub Meets : Step → WorldView → Type 0
Meets (step.Call side id opcode values) w = MayAskAt side w id opcode values
Meets (step.Flush side) w = Unit {0}
Meets (step.Deliver side n) w = (0 < n) × (n ≤ 1536)
Meets (step.Read side) w = Unit {0}

-- the step's call, whose condition is met, isn't refused
abbrev pub Goes : Step → WorldView → Type 0
Goes (step.Call side id opcode values) w = HasOwnId side (asked_at side w id opcode values) w × (IsTooLong (asked_at side w id opcode values) → ⊥)
Goes (step.Flush side) w = Unit {0}
Goes (step.Deliver side n) w = ((stored_of side w).backend.closed ≡ false) × (TooManyHandles side n w → ⊥)
Goes (step.Read side) w = Unit {0}

-- a step is accepted
pub record Accepts (s : Step) (w : WorldView) : Type 0 where
  pub meets : Meets s w
  pub goes : Goes s w

-- what an accepted step does
abbrev pub after_step : Step → WorldView → WorldView
after_step (step.Call side id opcode values) w = called_world side (asked_at side w id opcode values) w
after_step (step.Flush side) w = flushed_world side w
after_step (step.Deliver side n) w = delivered_world side n w
after_step (step.Read side) w = read_world side w

-- the step's call refuses so; want of memory is no such refusal
abbrev pub Refuses : Step → WorldView → WorldEnd → Type 0
Refuses (step.Call side id opcode values) w (world_end.Send send_error.IdsExhausted) = HasOwnId side (asked_at side w id opcode values) w → ⊥
Refuses (step.Call side id opcode values) w (world_end.Send send_error.MessageTooLong) =
    HasOwnId side (asked_at side w id opcode values) w × IsTooLong (asked_at side w id opcode values)
Refuses (step.Deliver side n) w (world_end.Read read_error.UnexpectedEof) = (stored_of side w).backend.closed ≡ true
Refuses (step.Deliver side n) w (world_end.Read read_error.HandleLimit) = ((stored_of side w).backend.closed ≡ false) × TooManyHandles side n w
Refuses s w e = ⊥

-- what a refused step does: too many handles close the side, and else nothing changes
abbrev pub after_refused : Step → WorldEnd → WorldView → WorldView
after_refused (step.Deliver side n) (world_end.Read read_error.HandleLimit) w = limited_world side n w
after_refused s e w = w

-- what a step does that wants memory: nothing, but for a read that had taken a message
abbrev pub WantsMemory : Step → WorldView → WorldView → Type 0
WantsMemory (step.Read side) old new = (new ≡ old) ⊎ (new ≡ spent_world side old)
WantsMemory s old new = new ≡ old

-- ---- steps in turn

-- after these steps, the first first
abbrev pub after_steps : List Step → WorldView → WorldView
after_steps [] w = w
after_steps (s ∷ steps) w = after_steps steps (after_step s w)

-- each of them is accepted, after those before it
abbrev pub AllAccepted : List Step → WorldView → Type 0
AllAccepted [] w = Unit {0}
AllAccepted (s ∷ steps) w = Accepts s w × AllAccepted steps (after_step s w)

-- what a step of that number that isn't accepted ended with, and what it did
abbrev pub Stops : WorldEnd → Step → ℕ → WorldView → WorldView → Type 0
Stops (world_end.BadStep n) s place old new = (n ≡ place) × (Meets s old → ⊥) × (new ≡ old)
Stops world_end.NoMemory s place old new = Meets s old × WantsMemory s old new
Stops e s place old new = Meets s old × Refuses s old e × (new ≡ after_refused s e old)

-- what a step of that number answered, and what it did
abbrev pub Steps : Step → ℕ → Result (Unit {0}) WorldEnd → WorldView → WorldView → Type 0
Steps s place (Ok t) old new = Accepts s old × (new ≡ after_step s old)
Steps s place (Err e) old new = Stops e s place old new

-- the run ended so at this step: those before it are made
pub record EndsAt (steps : List Step) (place : ℕ) (s : Step) (e : WorldEnd) (old new : WorldView) : Type 0 where
  pub here : slice_get steps place ≡ Some s
  pub accepted : AllAccepted (take place steps) old
  pub stops : Stops e s place (after_steps (take place steps) old) new

-- what a run answered, and what it did: each step was accepted, or it ended at the first that wasn't
abbrev pub Runs : List Step → Result (Unit {0}) WorldEnd → WorldView → WorldView → Type 0
Runs steps (Ok t) old new = AllAccepted steps old × (new ≡ after_steps steps old)
Runs steps (Err e) old new = (place : ℕ) × (s : Step) × EndsAt steps place s e old new

-- ---- the ends of a run

-- what a run ends with where a call is refused
abbrev pub end_of_send : SendError → WorldEnd
end_of_send send_error.NoMemory = world_end.NoMemory
end_of_send e = world_end.Send e

-- and where a delivery is
abbrev pub end_of_read : ReadError → WorldEnd
end_of_read read_error.NoMemory = world_end.NoMemory
end_of_read e = world_end.Read e
