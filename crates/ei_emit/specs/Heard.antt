-- What a client that follows its server heard, and what its user was given.
use Rattle.std.specs.Prelude.{◌≡◌, ℕ, ◌<◌, List, ◌++◌, map, length, drop, slice_index, Option, Some}
use Rattle.ei_spec.specs.History.{joined}
use Rattle.ei_ends.specs.Sent.{Got}
use Rattle.ei_reported.specs.Said.{Said}
use Rattle.ei_reported.specs.Reported.{tells}
use Rattle.ei_reported.specs.Changes.{NewIdsDiffer}
use Rattle.ei_told.specs.Told.{all_said, messages}
use Rattle.ei_linked.specs.declared.side.Side.TheVariants as side
use Rattle.ei_linked.specs.TwoEnds.{end_of}
use Rattle.ei_event.specs.declared.event.EiEvent.{EiEvent}
use Rattle.ei_event.specs.Kept.{KeptView}
use Rattle.ei_event.specs.Core.{report_of}
use Rattle.ei_event.specs.Converter.{ConverterView as ClientConverter}
use Rattle.ei_heeding.specs.Heeding.{Heeds}
use Rattle.ei_promises.specs.Pair.{Follows}
use Rattle.ei_emitting.specs.Emits.{NonePings}
use Rattle.ei_emit.specs.Carried.{Moment}

-- ---- the clock

-- a clock that tells gave these readings: its first, and 0 behind its last; it has the others left
pub record Gave (used : List ℕ) (before now : Option (List ℕ)) : Type 0 where
  pub are : (told : List ℕ) → before ≡ Some told → (k : ℕ) → k < length used → slice_index used k ≡ slice_index told k
  pub left : (told : List ℕ) → before ≡ Some told → now ≡ Some (drop (length used) told)

-- ---- the user's account

-- The converter follows these events, and what they tell, for any readings that go on with these, is what its user was given, and
-- then what is queued.
pub record Accounts (start : ℕ) (events : List Said) (readings : List ℕ) (given : List EiEvent) (c : KeptView) : Type 0 where
  pub heeds : Heeds start events readings c
  pub told : (later : List ℕ) → joined (tells start (readings ++ later)) events ≡ map report_of given ++ map report_of c.queue

-- the account goes on over more events, with readings that the clock gave
pub record AccountsOn (start : ℕ) (events : List Said) (readings : List ℕ) (given : List EiEvent) (before now : Option (List ℕ)) (c : KeptView) : Type 0 where
  pub used : List ℕ
  pub gave : Gave used before now
  pub accounts : Accounts start events (readings ++ used) given c

-- it goes on so from any account, where the new ids differ
abbrev pub GoesOnOver : List Said → KeptView → KeptView → Option (List ℕ) → Option (List ℕ) → Type 0
GoesOnOver more old new before now = (start : ℕ) (events : List Said) (readings : List ℕ) (given : List EiEvent) →
    Accounts start events readings given old → NewIdsDiffer (more ++ events) → AccountsOn start (more ++ events) readings given before now new

-- ---- a client

-- A client that followed its server took these more, and its converter heard just what those of them say that are messages. It sent
-- nothing where none of these is a ping.
pub record Hears {H : Type 0} (f : ClientConverter H) (old new : Moment H) : Type 0 where
  pub left : ClientConverter H
  pub follows : new.pair.client ≡ Follows left
  pub gots : List Got
  pub taken : (end_of side.Client new.pair.ends).taken ≡ gots ++ (end_of side.Client old.pair.ends).taken
  pub hears : GoesOnOver (all_said (messages gots)) f.kept left.kept old.told new.told
  pub silent : NonePings (messages gots) → (end_of side.Client new.pair.ends).sent ≡ (end_of side.Client old.pair.ends).sent
