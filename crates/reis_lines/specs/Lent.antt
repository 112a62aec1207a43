-- What a call that was lent an input says of it.
use Rattle.std.specs.Prelude.{◌≡◌, ◌≤◌, ℕ, List, ◌++◌, Some}
use Rattle.reis_lines.specs.Asking.{given_in, fetches_since}
use Rattle.reis_lines.specs.Input.{InputView}
use Rattle.reis_lines.specs.Given.{given_since}

-- An input. It has given what it gave before, and then more, in answers behind those before; a text that it told is these bytes, and
-- then what is left. Its count of faults has not fallen, and it is a later one.
pub record LentInput {I : Type 0} (view : I → InputView) (later : I → I → Type 0) (old new : I) : Type 0 where
  pub gave : (view new).given ≡ (view old).given ++ given_since view old new
  pub answered : (view new).fetches ≡ (view old).fetches ++ fetches_since view old new
  pub parts : given_since view old new ≡ given_in (fetches_since view old new)
  pub told : (t : List ℕ) → (view old).left ≡ Some t → (rest : List ℕ) × ((view new).left ≡ Some rest) × (t ≡ given_since view old new ++ rest)
  pub input_faults : (view old).faults ≤ (view new).faults
  pub later_input : later old new
