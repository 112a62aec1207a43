-- What the program's outside says.
use Rattle.std.specs.Prelude.{ℕ, List, Option}
use Rattle.ei_backend.specs.Outside.{SinkView, Rose}
use Rattle.reis_lines.specs.Input.{Fetched, InputView}
use Rattle.reis_lines.specs.Asking.{fetches_since}
use Rattle.reis_lines.specs.Given.{MetBadLine}
use Rattle.reis_lines.specs.InputText.{IsText}

-- What the input and the output say of themselves, and the readings that the clock has left, where it tells them.
pub record Outside : Type 0 where
  pub input : InputView
  pub output : SinkView
  pub readings : Option (List ℕ)

-- these, in this order
abbrev pub outside : InputView → SinkView → Option (List ℕ) → Outside
outside input output readings = record { input = input; output = output; readings = readings }

-- a text of the input, and what is left of it
abbrev pub IsTextOf : Outside → Outside → List ℕ → Option (List ℕ) → Type 0
IsTextOf before after = IsText (λ (v : InputView). v) before.input after.input

-- what the input answered from the first to the second
abbrev pub fetches_by : Outside → Outside → List Fetched
fetches_by before after = fetches_since (λ (v : InputView). v) before.input after.input

-- the bytes that the input gave have a first bad line, which is whole, and wasn't there with fewer answers; this is its number
abbrev pub MetLineOf : Outside → Outside → ℕ → Type 0
MetLineOf before after = MetBadLine (λ (v : InputView). v) before.input after.input

-- the input failed, and the output
abbrev pub InputRose : Outside → Outside → Type 0
InputRose before after = Rose before.input.faults after.input.faults

abbrev pub OutputRose : Outside → Outside → Type 0
OutputRose before after = Rose before.output.faults after.output.faults
