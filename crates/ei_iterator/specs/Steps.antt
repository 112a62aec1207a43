-- What becomes of one message more that a client's iterator reads, and of all that are whole.
use Rattle.std.specs.Prelude.{◌≡◌, ◌⊎◌, ◌<◌, ℕ, true, List, [], ◌∷◌, ◌++◌, length, Option, Some, None, Result, Ok, Err, IsSome}
use Rattle.ei_spec.specs.Reading.{Fault}
use Rattle.ei_types.specs.declared.error.Error.{Error}
use Rattle.ei_types.specs.declared.error.Error.TheVariants as error
use Rattle.ei_wire.specs.Gives.{fault_of}
use Rattle.ei_backend.specs.Backend.{BackendView, Waits, Message, next}
use Rattle.ei_client.specs.declared.event.Event.{Event}
use Rattle.ei_client.specs.Event.{target_of, opcode_of, values_of}
use Rattle.ei_iterator.specs.declared.messages.Read.{Read}
use Rattle.ei_iterator.specs.declared.messages.Read.TheVariants as read
use Rattle.ei_iterator.specs.Turns.{Standing, Turn, Hears, front_at, behind_front, standing_at, pieces_of, AreTurns}
use Rattle.ei_iterator.specs.Next.{Trouble, Parse, BadEvent, FailsBy}
use Rattle.ei_iterator.specs.Around.{Around, standing_of, StandsAs, Did, SendsAll, SendsSome}

-- ---- behind some turns

-- they were taken one after another, and it stands as behind them
pub record Ran {H : Type 0} (may : H → ℕ → ℕ → Type 0) (most : ℕ) (old : Around H) (turns : List Turn) (now : Around H) : Type 0 where
  pub began : old.converter.kept.queue ≡ []
  pub are : AreTurns most (standing_of old) turns
  pub stands : StandsAs (standing_at (standing_of old) turns) now
  pub did : Did may old turns now
  pub sends : SendsAll old turns now

-- and no more messages are whole
pub record RanOut {H : Type 0} (may : H → ℕ → ℕ → Type 0) (most : ℕ) (old : Around H) (turns : List Turn) (now : Around H) : Type 0 where
  pub ran : Ran may most old turns now
  pub waits : front_at (standing_at (standing_of old) turns) ≡ Waits

abbrev pub parse_trouble : Option Fault → Option Trouble
parse_trouble None = None
parse_trouble (Some f) = Some (Parse f)

-- the trouble that an error tells
abbrev pub trouble_of : Error → Option Trouble
trouble_of (error.Parse e) = parse_trouble (fault_of e)
trouble_of (error.Event why) = Some (BadEvent why)
trouble_of e = None

-- or the message behind them is refused
pub record Fails {H : Type 0} (may : H → ℕ → ℕ → Type 0) (most : ℕ) (old : Around H) (turns : List Turn) (e : Error) (now : Around H) : Type 0 where
  pub trouble : Trouble
  pub is : trouble_of e ≡ Some trouble
  pub began : old.converter.kept.queue ≡ []
  pub are : AreTurns most (standing_of old) turns
  pub left : Standing H
  pub so : FailsBy (standing_at (standing_of old) turns) trouble left
  pub stands : StandsAs left now
  pub did : Did may old turns now
  pub sends : SendsAll old turns now

-- it stands as behind them, or the message at the front was taken out and is lost
abbrev pub StandsOrLost : {H : Type 0} → Standing H → Around H → Type 0
StandsOrLost s now = StandsAs s now ⊎ StandsAs (record s { endpoint = behind_front s }) now

-- Or it was cut short, and stands so: a front of what answers their events went out, with all of it but at the newest one.
pub record CutsShort {H : Type 0} (may : H → ℕ → ℕ → Type 0) (most : ℕ) (old : Around H) (turns : List Turn) (Stands : Standing H → Around H → Type 0) (now : Around H) : Type 0 where
  pub are : AreTurns most (standing_of old) turns
  pub stands : Stands (standing_at (standing_of old) turns) now
  pub did : Did may old turns now
  pub sends : SendsSome old turns now

-- the newest of these turns is an event that was taken
abbrev pub IsBehindEvent : List Turn → Type 0
IsBehindEvent [] = ⊥
IsBehindEvent (Hears e time ∷ before) = Unit {0}
IsBehindEvent (t ∷ before) = ⊥

-- Or the sink failed. It is asked behind an event alone, which was taken just before; and of what is to be sent then some is unsent.
pub record FailsToSend {H : Type 0} (may : H → ℕ → ℕ → Type 0) (most : ℕ) (old : Around H) (turns : List Turn) (now : Around H) : Type 0 where
  pub event : IsBehindEvent turns
  pub cut : CutsShort may most old turns StandsAs now
  pub unsent : 0 < length now.endpoint.unsent

-- ---- messages

-- the event was read of this endpoint, and that was left
abbrev pub WasRead : BackendView → Event → BackendView → Type 0
WasRead before e left = next true before ≡ (Message (target_of e) (opcode_of e) (values_of e), left)

-- What became of the message at the front, that turn with the others. Where the sink failed it was taken, and what answers it is unsent in
-- part; where memory ran out as its event was handled it is lost.
abbrev pub ByOne : {H : Type 0} → (H → ℕ → ℕ → Type 0) → ℕ → Around H → Result Read Error → Around H → List Turn → Type 0
ByOne may most old (Ok read.Waiting) now turns = RanOut may most old turns now
ByOne may most old (Ok read.Taken) now turns = Ran may most old turns now
ByOne may most old (Err error.WriteFault) now turns = FailsToSend may most old turns now
ByOne may most old (Err error.NoMemory) now turns = CutsShort may most old turns StandsOrLost now
ByOne may most old (Err e) now turns = Fails may most old turns e now

-- what became of all messages that are whole
abbrev pub ByAll : {H : Type 0} → (H → ℕ → ℕ → Type 0) → ℕ → Around H → Result (Unit {0}) Error → Around H → List Turn → Type 0
ByAll may most old (Ok x) now turns = RanOut may most old turns now
ByAll may most old (Err error.WriteFault) now turns = FailsToSend may most old turns now
ByAll may most old (Err error.NoMemory) now turns = CutsShort may most old turns StandsOrLost now
ByAll may most old (Err e) now turns = Fails may most old turns e now

-- it is so behind these turns with others, in which no piece came
abbrev pub Behind : List Turn → (List Turn → Type 0) → Type 0
Behind turns P = (more : List Turn) × (pieces_of (more ++ turns) ≡ pieces_of turns) × P (more ++ turns)

-- an error that a message may bring
abbrev pub IsOfMessages : Error → Type 0
IsOfMessages error.WriteFault = Unit {0}
IsOfMessages error.NoMemory = Unit {0}
IsOfMessages e = IsSome (trouble_of e)
