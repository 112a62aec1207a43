-- All that one side sent comes to the other, which takes it message by message.
use Rattle.std.specs.Prelude.{◌≡◌, ℕ, ◌+◌, ◌-◌, ◌⊎◌, true, false, List, [], ◌∷◌, length, Option, Ok}
use Rattle.ei_linked.specs.declared.side.Side.{Side}
use Rattle.ei_linked.specs.declared.side.Side.TheVariants as side
use Rattle.ei_linked.specs.TwoEnds.{WorldView, other_side, end_of, stored_of, waiting_for, Agrees, HasTakenAll}
use Rattle.ei_promises.specs.Pair.{PairView, with_ends}
use Rattle.ei_promises.specs.Stepping.{StepsServer, StepsClient}
use Rattle.ei_promises.specs.Keeping.{SameLists}
use Rattle.ei_pair.specs.Stepped.{IsKept}
use Rattle.ei_pair.specs.Done.{HasFirstIds}

-- a pair, and what the clock tells then
pub record Moment (H : Type 0) : Type 0 where
  pub pair : PairView H
  pub told : Option (List ℕ)

abbrev pub moment : {H : Type 0} → PairView H → Option (List ℕ) → Moment H
moment pair told = record { pair = pair; told = told }

-- ---- how it goes on

-- bytes came or went, and nothing else
pub record IsMoved {H : Type 0} (old new : PairView H) : Type 0 where
  pub same : SameLists old.ends new.ends
  pub kept : new ≡ with_ends new.ends old

-- whatever a handler answers
abbrev pub AnyAnswer : {H : Type 0} → H → ℕ → ℕ → Type 0
AnyAnswer handler value answer = Unit {0}

-- the side took its next message, which was handed on
abbrev pub Takes : {H : Type 0} → Side → Moment H → Moment H → Type 0
Takes side.Client old new = StepsClient AnyAnswer old.pair old.told new.told (Ok true) new.pair
Takes side.Server old new = StepsServer old.pair old.told new.told (Ok true) new.pair

-- bytes came or went, and then the side took a message or none; the pair keeps what it keeps at any time
pub record GoesOn {H : Type 0} (to : Side) (old new : Moment H) : Type 0 where
  pub moved : PairView H
  pub moves : IsMoved old.pair moved
  pub between : IsKept moved
  pub whole_between : moved.ends.spent ≡ false
  pub takes : Takes to (moment moved old.told) new ⊎ (new ≡ moment moved old.told)
  pub begins : HasFirstIds moved new.pair
  pub kept : IsKept new.pair
  pub whole : new.pair.ends.spent ≡ false

-- so from one moment to another, by those between, the newest first
abbrev pub GoesBy : {H : Type 0} → Side → List (Moment H) → Moment H → Moment H → Type 0
GoesBy to [] first last = last ≡ first
GoesBy to (m ∷ earlier) first last = GoesOn to m last × GoesBy to earlier first m

-- by some
pub record HasGone {H : Type 0} (to : Side) (old new : Moment H) : Type 0 where
  pub between : List (Moment H)
  pub goes : GoesBy to between old new

-- the side took all that the other sent
pub record IsCarried {H : Type 0} (to : Side) (old new : Moment H) : Type 0 where
  pub between : List (Moment H)
  pub goes : GoesBy to between old new
  pub all : HasTakenAll to new.pair.ends
  pub agrees : Agrees to new.pair.ends
  pub kept : IsKept new.pair
  pub whole : new.pair.ends.spent ≡ false

-- ---- what is left to be carried

-- nothing waits at a side to be sent
abbrev pub NoneUnsent : Side → WorldView → Type 0
NoneUnsent side w = (stored_of side w).backend.unsent ≡ []

-- the bytes that wait for the side, and the messages that it hasn't taken
abbrev pub left_for : Side → WorldView → ℕ
left_for to w = length (waiting_for to w).bytes + (length (end_of (other_side to) w).sent - length (end_of to w).taken)
