-- The serial of events.
use Rattle.std.specs.Prelude.{ℕ, ◌+◌, ◌%◌, ◌^◌, Bool, List, length, Option, Some, None, if◌then◌else◌}
use Rattle.ei_spec.specs.Message.{Raw}
use Rattle.ei_spec.specs.History.{total}
use Rattle.ei_session.specs.Setup.{Setup}
use Rattle.ei_session.specs.Devices.{made, exhausts}
use Rattle.ei_session.specs.Objects.{gone}

-- one for a device that is made
abbrev pub steps_of : Bool → Option ℕ → ℕ
steps_of exhausted None = 0
steps_of exhausted (Some mask) = if exhausted then 0 else 1

-- how many serials the position uses: one for a device that is made, and one for each object that goes
unfoldable pub steps : List Raw → Raw → ℕ
steps before m = steps_of (exhausts before m) (made before m) + length (gone before m)

-- the last serial that was used
unfoldable pub serial : Setup → List Raw → ℕ
serial setup before = (setup.serial + total steps before) % 2 ^ 32
