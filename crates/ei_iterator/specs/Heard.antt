-- What a client's converter follows behind more turns, and that its user is given just what the events report.
use Rattle.std.specs.Prelude.{◌≡◌, ℕ, List, [], ◌∷◌, ◌++◌, map, Some, Ok, Err}
use Rattle.ei_spec.specs.History.{joined}
use Rattle.ei_spec.specs.Piece.{Piece}
use Rattle.ei_types.specs.declared.error.Error.TheVariants as error
use Rattle.ei_client.specs.declared.event.Event.{Event}
use Rattle.ei_reported.specs.Said.{Said}
use Rattle.ei_reported.specs.Reported.{Report, tells}
use Rattle.ei_reported.specs.Changes.{NewIdsDiffer}
use Rattle.ei_following.specs.Core.{closed_group, used_by}
use Rattle.ei_event.specs.declared.event.EiEvent.{EiEvent}
use Rattle.ei_event.specs.Typed.{said_of}
use Rattle.ei_event.specs.Kept.{KeptView}
use Rattle.ei_event.specs.Core.{core_of, report_of}
use Rattle.ei_heeding.specs.Heeding.{Heeds}
use Rattle.ei_iterator.specs.Turns.{Standing, Turn, Hears, IsEvent, standing_at, pieces_of, AreTurns}
use Rattle.ei_iterator.specs.Nexts.{Answered}

-- ---- more events

-- the events that these turns took, the newest first
abbrev pub heard : List Turn → List Said
heard [] = []
heard (Hears e time ∷ before) = said_of e ∷ heard before
heard (t ∷ before) = heard before

-- the readings of the clock that their made frames have, the oldest first
abbrev pub readings_of : {H : Type 0} → Standing H → List Turn → List ℕ
readings_of s [] = []
readings_of s (Hears e time ∷ before) = readings_of s before ++ used_by (closed_group (core_of (standing_at s before).kept) (said_of e)) time
readings_of s (t ∷ before) = readings_of s before

-- what more events tell, behind those before
abbrev pub tells_more : ℕ → List ℕ → List Said → List Said → List Report
tells_more start readings before [] = []
tells_more start readings before (m ∷ more) = tells_more start readings before more ++ tells start readings (more ++ before) m

-- It took more events: it follows the longer list, with the readings used, and it queued what these events tell, for any readings that
-- go on with these.
pub record HeedsMore (start : ℕ) (before more : List Said) (readings used : List ℕ) (c new : KeptView) : Type 0 where
  pub heeds : Heeds start (more ++ before) (readings ++ used) new
  pub queue : (later : List ℕ) → map report_of new.queue ≡ map report_of c.queue ++ tells_more start ((readings ++ used) ++ later) before more

-- ---- the user's account

-- The converter follows these events, and what they tell, for any readings that go on with these, is what its user was given, and then
-- what is queued.
pub record Accounts (start : ℕ) (events : List Said) (readings : List ℕ) (given : List EiEvent) (c : KeptView) : Type 0 where
  pub heeds : Heeds start events readings c
  pub told : (later : List ℕ) → joined (tells start (readings ++ later)) events ≡ map report_of given ++ map report_of c.queue

-- the event that an answer gives
abbrev pub given_by : Answered → List EiEvent
given_by (Some (Ok event)) = event ∷ []
given_by result = []

-- what an answer refused: the event at the front, where the converter refused it
abbrev pub IsRefusedBy : {H : Type 0} → Answered → Standing H → List Said → Type 0
IsRefusedBy (Some (Err (error.Event why))) s refused = (e : Event) × IsEvent s e × (refused ≡ said_of e ∷ [])
IsRefusedBy result s refused = refused ≡ []

-- Over these pieces a call took the events of these turns, and maybe refused one more: where all new ids differ, the account goes on over
-- them with the event that was given.
pub record GoesOn {H : Type 0} (most : ℕ) (told : List Piece) (start : ℕ) (before : List Said) (readings : List ℕ) (given : List EiEvent) (s : Standing H) (result : Answered) (new : KeptView) : Type 0 where
  pub turns : List Turn
  pub are : AreTurns most s turns
  pub more : List Piece
  pub pieces_are : told ≡ pieces_of turns ++ more
  pub refused : List Said
  pub is_refused : IsRefusedBy result (standing_at s turns) refused
  pub accounts : NewIdsDiffer (refused ++ (heard turns ++ before)) →
      Accounts start (refused ++ (heard turns ++ before)) (readings ++ readings_of s turns) (given ++ given_by result) new
