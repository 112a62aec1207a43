-- The bytes that an input gave, whatever it tells of its text, and the bad line among them.
use Rattle.std.specs.Prelude.{◌≡◌, ◌<◌, ◌≤◌, ◌⊎◌, ℕ, ◌-◌, ◌^◌, min, nat_le, Bool, true, false, List, [], ◌++◌, length, take, drop, get_or, Option, Some, None}
use Rattle.std.specs.Prelude.{Result, Ok}
use Rattle.ei_backend.specs.Outside.{is_end}
use Rattle.reis_lines.specs.Input.{InputView}
use Rattle.reis_lines.specs.Asking.{given_in, says_end, last_is, fetches_since}
use Rattle.ei_backend.specs.declared.outside.Fault.{Fault}
use Rattle.reis_lines.specs.Text.{split, bad_line_of, whole_lines}
use Rattle.reis_lines.specs.declared.held.TheConstants.{LONGEST_LINE}

-- what was given came behind the bytes held
pub record GaveBehind (given_old given_new held_old held_new : List ℕ) : Type 0 where
  pub bytes : List ℕ
  pub gave : given_new ≡ given_old ++ bytes
  pub held : held_new ≡ held_old ++ bytes

-- whether a search for a line came to the end of the text: it found none, and no more bytes are held than a line may have
abbrev pub came_to_end : Result (Option ℕ) Fault → ℕ → Bool
came_to_end (Ok None) count = nat_le count LONGEST_LINE
came_to_end result count = false

-- the bytes that an input gave from one state to another
abbrev pub given_since : {I : Type 0} → (I → InputView) → I → I → List ℕ
given_since view old new = drop (length (view old).given) (view new).given

-- the line at a place, from 1
abbrev pub line_at : List ℕ → ℕ → List ℕ
line_at bytes place = get_or (split bytes) (place - 1) []

-- The first bad line of these bytes is at this place, from 1, and it is whole: a newline ends it, or it has more bytes than a
-- line may have, or nothing follows these bytes.
pub record HasBadLine (bytes : List ℕ) (ended : Bool) (place : ℕ) : Type 0 where
  pub first : bad_line_of bytes ≡ Some place
  pub whole : (place ≤ length (whole_lines bytes)) ⊎ ((LONGEST_LINE < length (line_at bytes place)) ⊎ (ended ≡ true))

-- The bytes that an input gave from one state to another have a first bad line, which is whole, and this is its number: its place,
-- up to the last value of 64 bits. Nothing follows where the input's last answer was its end. The line wasn't there with fewer of the
-- answers that the input gave: it was asked until it was, and no more.
pub record MetBadLine {I : Type 0} (view : I → InputView) (old new : I) (n : ℕ) : Type 0 where
  pub place : ℕ
  pub bad : HasBadLine (given_since view old new) (is_end (view new).last) place
  pub no_sooner : (k : ℕ) → k < length (fetches_since view old new) →
      HasBadLine (given_in (take k (fetches_since view old new))) (last_is says_end (take k (fetches_since view old new))) place → ⊥
  pub number : n ≡ min place (2 ^ 64 - 1)
