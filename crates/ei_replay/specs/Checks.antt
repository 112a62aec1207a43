-- What a test of a record answers.
use Rattle.std.specs.Prelude.{◌≡◌, List, Some, None, Result, Ok, Err}
use Rattle.ei_session.specs.Setup.{Setup}
use Rattle.ei_session.specs.Requests.{Request}
use Rattle.ei_record.specs.Replayable.{first_wrong}
use Rattle.ei_replay.specs.declared.error.ReplayError.{ReplayError}
use Rattle.ei_replay.specs.declared.error.ReplayError.TheVariants as replay_error

-- no item is wrong, or that of this place is the first; or memory ran out
abbrev pub Checks : {T : Type 0} → Setup → List Request → Result T ReplayError → Type 0
Checks setup items (Ok done) = first_wrong setup items ≡ None
Checks setup items (Err (replay_error.NotReplayable place)) = first_wrong setup items ≡ Some place
Checks setup items (Err replay_error.NoMemory) = Unit {0}
