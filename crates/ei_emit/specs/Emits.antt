-- What a script comes to that a server sends to a client.
use Rattle.std.specs.Prelude.{◌≡◌, ℕ, ◌<◌, false, List, [], ◌++◌, map, length, take, slice_index, Option, Some, None, Result, Ok, Err}
use Rattle.ei_ends.specs.Sent.{Sent}
use Rattle.ei_told.specs.Told.{event_of, after_connection, messages, NoneMissed}
use Rattle.ei_reported.specs.Reported.{Report, reported}
use Rattle.ei_linked.specs.declared.side.Side.TheVariants as side
use Rattle.ei_linked.specs.TwoEnds.{end_of}
use Rattle.ei_event.specs.declared.event.EiEvent.{EiEvent}
use Rattle.ei_event.specs.Core.{report_of}
use Rattle.ei_promises.specs.Pair.{PairView}
use Rattle.ei_emitting.specs.Emitted.{Step, emitted}
use Rattle.ei_emit.specs.declared.step.EmitStep.{EmitStep}
use Rattle.ei_emit.specs.declared.error.EmitError.{EmitError}
use Rattle.ei_emit.specs.declared.error.EmitError.TheVariants as error
use Rattle.ei_emit.specs.Steps.{history, first_bad}
use Rattle.ei_emit.specs.Heard.{Gave}
use Rattle.ei_emit.specs.Queued.{queue_in}

-- The client took, message by message, all that the server sent, and these events are what the messages behind the connection report,
-- for any readings that go on with these. No event waits there any more.
pub record IsReported {H : Type 0} (start : ℕ) (readings : List ℕ) (events : List EiEvent) (p : PairView H) : Type 0 where
  pub whole : p.ends.spent ≡ false
  pub all : messages (end_of side.Client p.ends).taken ≡ (end_of side.Server p.ends).sent
  pub none_missed : NoneMissed (end_of side.Client p.ends).taken
  pub said : List Sent
  pub behind : after_connection (end_of side.Server p.ends).sent ≡ Some said
  pub reports : (later : List ℕ) → reported start (readings ++ later) (map event_of said) ≡ map report_of events
  pub none_waits : queue_in p.client ≡ []

-- The events grew by what the client is told of the steps, the newest first, with readings that the clock gave, or any that go on with
-- these.
pub record EmitsAll (start : ℕ) (before : List Step) (told now : Option (List ℕ)) (old new : List EiEvent) : Type 0 where
  pub readings : List ℕ
  pub gave : Gave readings told now
  pub events : List EiEvent
  pub grew : new ≡ old ++ events
  pub emits : (later : List ℕ) → emitted start (readings ++ later) before ≡ map report_of events

-- so it is, and the pair bears it out
pub record EmitsWhole {H : Type 0} (start : ℕ) (before : List Step) (told now : Option (List ℕ)) (old new : List EiEvent) (p : PairView H) : Type 0 where
  pub emits : EmitsAll start before told now old new
  pub reported : IsReported start emits.readings emits.events p

-- the events grew by a front of that
pub record EmitsInPart (start : ℕ) (before : List Step) (told : Option (List ℕ)) (old new : List EiEvent) : Type 0 where
  pub readings : List ℕ
  pub are : (readings_told : List ℕ) → told ≡ Some readings_told → (k : ℕ) → k < length readings → slice_index readings k ≡ slice_index readings_told k
  pub events : List EiEvent
  pub grew : new ≡ old ++ events
  pub front : (later : List ℕ) → (rest : List Report) × (emitted start (readings ++ later) before ≡ map report_of events ++ rest)

-- All steps were carried out, where none is bad; else those before the first that is; or some of them, where memory ran out.
abbrev pub Answers : {H : Type 0} → ℕ → List EmitStep → Option (List ℕ) → Option (List ℕ) → List EiEvent → List EiEvent → Result (PairView H) EmitError → Type 0
Answers start steps told now old new (Ok p) = (first_bad steps ≡ None) × EmitsWhole start (history steps) told now old new p
Answers start steps told now old new (Err (error.BadStep place)) = (first_bad steps ≡ Some place) × EmitsAll start (history (take place steps)) told now old new
Answers start steps told now old new (Err error.NoMemory) = EmitsInPart start (history steps) told old new
