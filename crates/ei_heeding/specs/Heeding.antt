-- A client's converter that follows a list of events: of the code's, that is, with what it keeps.
use Rattle.std.specs.Prelude.{◌≡◌, ℕ, List, ◌∷◌, ◌++◌, map, Option, Result, Ok, Err}
use Rattle.ei_types.specs.declared.error.Error.{Error}
use Rattle.ei_types.specs.declared.error.Error.TheVariants as error
use Rattle.ei_client.specs.declared.event.Event.{Event as Typed}
use Rattle.ei_reported.specs.Said.{Said}
use Rattle.ei_reported.specs.Reported.{tells}
use Rattle.ei_following.specs.Core.{closed_group, used_by}
use Rattle.ei_following.specs.Following.{Follows}
use Rattle.ei_event.specs.Typed.{said_of}
use Rattle.ei_event.specs.Kept.{KeptView}
use Rattle.ei_event.specs.Core.{report_of, core_of}
use Rattle.ei_event.specs.Handles.{Times}
use Rattle.ei_heeding.specs.Placed.{IsPlaced}

-- The converter follows these events, the newest first, after a handshake of this serial, with the readings of the clock so far.
pub record Heeds (start : ℕ) (before : List Said) (readings : List ℕ) (c : KeptView) : Type 0 where
  pub follows : Follows start before readings (core_of c)
  pub placed : IsPlaced c

-- It took one more event, also one that is refused: it follows the list with it, with the readings used, and it queued what the
-- event tells, for any readings that go on with these.
pub record HeedsOne (start : ℕ) (before : List Said) (e : Typed) (readings used : List ℕ) (c new : KeptView) : Type 0 where
  pub heeds : Heeds start (said_of e ∷ before) (readings ++ used) new
  pub queue : (later : List ℕ) → map report_of new.queue ≡ map report_of c.queue ++ tells start ((readings ++ used) ++ later) before (said_of e)

-- the event was taken, or refused for what it is
abbrev pub IsHeard : Result Unit Error → Type 0
IsHeard (Ok x) = Unit {0}
IsHeard (Err (error.Event why)) = Unit {0}
IsHeard (Err e) = ⊥

-- It took one more event with a reading of the clock where it made a frame: the clock's next one, of those that it told before and now
pub record HeedsBy (start : ℕ) (before : List Said) (e : Typed) (readings : List ℕ) (told now : Option (List ℕ)) (c new : KeptView) : Type 0 where
  pub time : ℕ
  pub one : HeedsOne start before e readings (used_by (closed_group (core_of c) (said_of e)) time) c new
  pub clock : Times (closed_group (core_of c) (said_of e)) time told now
