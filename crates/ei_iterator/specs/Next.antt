-- What a client's next event is, over what is unread, what is queued, and the pieces that come.
use Rattle.std.specs.Prelude.{◌≡◌, ◌<◌, ◌+◌, ◌⊎◌, ℕ, true, false, List, [], ◌∷◌, ◌++◌, length, Some}
use Rattle.ei_spec.specs.Piece.{Piece}
use Rattle.ei_spec.specs.Reading.{Fault}
use Rattle.ei_types.specs.declared.error.EventError.{EventError}
use Rattle.ei_backend.specs.Backend.{Waits, Refused, closed_of}
use Rattle.ei_client.specs.declared.event.Event.{Event}
use Rattle.ei_greeting.specs.Opening.{overflows}
use Rattle.ei_event.specs.declared.event.EiEvent.{EiEvent}
use Rattle.ei_event.specs.Handles.{after}
use Rattle.ei_iterator.specs.Turns.{Standing, Turn, front_at, behind_front, IsEvent, refusal_at, IsIdle, standing_at, pieces_of, AreTurns}

-- why no event comes: what can't be read, or an event that the converter refuses
pub data Trouble : Type 0 where
  Parse : (fault : Fault) → Trouble
  BadEvent : (error : EventError) → Trouble

-- an event; no more events, for now; as many pieces came as may; one has too many handles; or a refusal
pub data Answer : Type 0 where
  Gives : (event : EiEvent) → Answer
  Ends PieceLimit HandleLimit : Answer
  Fails : (trouble : Trouble) → Answer

-- what is answered, what stands then, and how many pieces were taken
pub record Next (H : Type 0) : Type 0 where
  pub answer : Answer
  pub left : Standing H
  pub taken : ℕ

-- ---- how it comes

-- the oldest event leaves the queue
pub record GivesFirst {H : Type 0} (s : Standing H) (event : EiEvent) (left : Standing H) : Type 0 where
  pub others : List EiEvent
  pub queue : s.kept.queue ≡ event ∷ others
  pub left_is : left ≡ record s { kept = record s.kept { queue = others } }

-- the message at the front is refused, and taken out
pub record FailsAt {H : Type 0} (s : Standing H) (why : EventError) (left : Standing H) : Type 0 where
  pub event : Event
  pub is : IsEvent s event
  pub refuses : refusal_at s event ≡ Some why
  pub time : ℕ
  pub left_is : left ≡ record s { endpoint = behind_front s; kept = after s.kept event time }

abbrev pub FailsBy : {H : Type 0} → Standing H → Trouble → Standing H → Type 0
FailsBy s (Parse fault) left = (front_at s ≡ Refused fault) × (left ≡ record s { endpoint = behind_front s })
FailsBy s (BadEvent why) left = FailsAt s why left

-- a piece comes that has too many handles: it is dropped, and the endpoint closed
pub record Overflows {H : Type 0} (s : Standing H) (pieces : List Piece) (left : Standing H) : Type 0 where
  pub piece : Piece
  pub others : List Piece
  pub first : pieces ≡ piece ∷ others
  pub many : overflows s.endpoint piece ≡ true
  pub left_is : left ≡ record s { endpoint = closed_of s.endpoint }

-- behind any turns every whole message was read
abbrev pub IsRead : {H : Type 0} → List Turn → Standing H → Type 0
IsRead [] s = Unit {0}
IsRead (t ∷ before) s = front_at s ≡ Waits

-- What is answered where these turns led to this, and those pieces would come next. Where no event is queued and no message is whole
-- it ends at the limit, at the end of the pieces, on a closed endpoint and at a piece with too many handles.
abbrev pub Comes : {H : Type 0} → ℕ → List Turn → Standing H → List Piece → Answer → Standing H → ℕ → Type 0
Comes most turns s more (Gives event) left taken = IsRead turns s × GivesFirst s event left × (taken ≡ length (pieces_of turns))
Comes most turns s more Ends left taken = IsIdle s × (length (pieces_of turns) < most) × ((s.endpoint.closed ≡ true) ⊎ (more ≡ [])) × (left ≡ s) × (taken ≡ length (pieces_of turns))
Comes most turns s more PieceLimit left taken = IsIdle s × (length (pieces_of turns) ≡ most) × (left ≡ s) × (taken ≡ length (pieces_of turns))
Comes most turns s more HandleLimit left taken = IsIdle s × (length (pieces_of turns) < most) × (s.endpoint.closed ≡ false) × Overflows s more left × (taken ≡ length (pieces_of turns) + 1)
Comes most turns s more (Fails trouble) left taken = (turns ≡ [] → s.kept.queue ≡ []) × FailsBy s trouble left × (taken ≡ length (pieces_of turns))

-- Over these pieces, of which so many may be taken, the next event is this: every whole message is read, and only where none is left and
-- no event is queued a piece is taken.
pub record NextOver {H : Type 0} (most : ℕ) (s : Standing H) (pieces : List Piece) (turns : List Turn) (n : Next H) : Type 0 where
  pub turns_are : AreTurns most s turns
  pub more : List Piece
  pub pieces_are : pieces ≡ pieces_of turns ++ more
  pub comes : Comes most turns (standing_at s turns) more n.answer n.left n.taken
