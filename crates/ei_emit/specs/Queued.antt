-- The events that wait at a client of a pair.
use Rattle.std.specs.Prelude.{◌≡◌, List, [], ◌∷◌, ◌++◌, Option, Some, None}
use Rattle.ei_event.specs.declared.event.EiEvent.{EiEvent}
use Rattle.ei_event.specs.Converter.{with_queue}
use Rattle.ei_promises.specs.Pair.{ClientStage, Asks, Follows}

abbrev pub queue_in : {H : Type 0} → ClientStage H → List EiEvent
queue_in (Asks h) = []
queue_in (Follows c) = c.kept.queue

-- the client once they were taken out
abbrev pub emptied : {H : Type 0} → ClientStage H → ClientStage H
emptied (Asks h) = Asks h
emptied (Follows c) = Follows (with_queue [] c)

-- the items with this one behind them, if there is one
abbrev pub with_item : {A : Type 0} → Option A → List A → List A
with_item None items = items
with_item (Some item) items = items ++ item ∷ []

-- the events grew by the first of those that waited
pub record GivesFront (queue old new : List EiEvent) : Type 0 where
  pub given : List EiEvent
  pub left : List EiEvent
  pub front : queue ≡ given ++ left
  pub grew : new ≡ old ++ given
