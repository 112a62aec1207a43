-- The steps of a script as the definitions have them, and which of them is bad.
use Rattle.std.specs.Prelude.{ℕ, Bool, true, false, not, ◌||◌, List, [], ◌∷◌, map, reverse, length, Option, Some, None, if◌then◌else◌}
use Rattle.ei_spec.specs.Rows.{Row, row_at}
use Rattle.ei_spec.specs.Table.{table}
use Rattle.ei_types.specs.Capability.{bits_of}
use Rattle.ei_values.specs.declared.value.Value.{Value as Stored}
use Rattle.ei_values.specs.Stored.{value_view, fits_row}
use Rattle.ei_emitting.specs.Emitted.{Step, Add, Remove, Start, Stop, Pause, Resume, Frame, Inputs, is_bad}
use Rattle.ei_emit.specs.declared.step.EmitStep.{EmitStep}
use Rattle.ei_emit.specs.declared.step.EmitStep.TheVariants as step

-- the step, with values as a message has them
abbrev pub step_of : EmitStep → Step
step_of (step.Add capabilities) = Add (bits_of capabilities)
step_of (step.Remove device) = Remove device
step_of (step.Start device sequence) = Start device sequence
step_of (step.Stop device) = Stop device
step_of (step.Pause device) = Pause device
step_of (step.Resume device) = Resume device
step_of (step.Frame device time) = Frame device time
step_of (step.Input device interface opcode values) = Inputs device interface opcode (map value_view values)

-- a history of these steps: the newest first
abbrev pub history : List EmitStep → List Step
history steps = reverse (map step_of steps)

-- ---- what is bad

-- whether values are of the kinds of the row, if there is one
abbrev pub fits_at : Option Row → List Stored → Bool
fits_at None values = false
fits_at (Some r) values = fits_row r.announces r.kinds values

-- whether the values of an input are of the kinds of its row: numbers of one size may be of two kinds
abbrev pub fits_step : EmitStep → Bool
fits_step (step.Input device interface opcode values) = fits_at (row_at opcode (table true interface)) values
fits_step other = true

-- whether the step can't be carried out behind those
abbrev pub is_bad_step : List Step → EmitStep → Bool
is_bad_step before s = not (fits_step s) || is_bad before (step_of s)

-- the place of the first that can't, of steps with the oldest first
abbrev pub first_bad_from : List Step → List EmitStep → Option ℕ
first_bad_from before [] = None
first_bad_from before (s ∷ later) = if is_bad_step before s then Some (length before) else first_bad_from (step_of s ∷ before) later

abbrev pub first_bad : List EmitStep → Option ℕ
first_bad steps = first_bad_from [] steps
