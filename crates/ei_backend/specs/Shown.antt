-- The arguments of a message as they are shown: of an announced object its id alone.
use Rattle.std.specs.Prelude.{◌≡◌, ℕ, ℤ, ◌-◌, Bool, List, [], ◌∷◌, length, map, take, Option, Some, None}
use Rattle.ei_spec.specs.declared.handle.Handle.{Handle}
use Rattle.ei_spec.specs.Value.{Kind, Float, New, Value, Word, Long, Signed, SignedLong, Letters, Null, Fd}
use Rattle.ei_spec.specs.Interface.{Interface, Known, Other}
use Rattle.ei_spec.specs.declared.interface.KnownInterface.{KnownInterface}
use Rattle.ei_spec.specs.Rows.{Row, Announces, Nothing, Fixed, Named, row_at}
use Rattle.ei_spec.specs.Table.{table}
use Rattle.ei_wire.specs.declared.arg.Arg.{Arg}
use Rattle.ei_wire.specs.declared.arg.Arg.TheVariants as arg

-- an argument by its content
pub data Shown : Type 0 where
  Number : ℕ → Shown
  LongNumber : ℕ → Shown
  Integer : ℤ → Shown
  LongInteger : ℤ → Shown
  FloatWord : ℕ → Shown
  Descriptor : Handle → Shown
  Text : List ℕ → Shown
  NoText : Shown
  NewObject : ℕ → Shown
  Object : ℕ → Shown

-- what an argument shows
abbrev pub shown_of_arg : Arg → Shown
shown_of_arg (arg.Uint32 n) = Number n
shown_of_arg (arg.Int32 z) = Integer z
shown_of_arg (arg.Uint64 n) = LongNumber n
shown_of_arg (arg.Int64 z) = LongInteger z
shown_of_arg (arg.Float n) = FloatWord n
shown_of_arg (arg.Fd h) = Descriptor h
shown_of_arg (arg.String None) = NoText
shown_of_arg (arg.String (Some t)) = Text t.now
shown_of_arg (arg.NewId n) = NewObject n
shown_of_arg (arg.Id n) = Object n

-- a value as one of the kind is shown: a new id as the object of that id
abbrev pub shown_as : Kind → Value → Shown
shown_as Float (Word n) = FloatWord n
shown_as kind (Word n) = Number n
shown_as New (Long n) = Object n
shown_as kind (Long n) = LongNumber n
shown_as kind (Signed z) = Integer z
shown_as kind (SignedLong z) = LongInteger z
shown_as kind (Letters t) = Text t
shown_as kind Null = NoText
shown_as kind (Fd h) = Descriptor h

abbrev pub shown_all : List Kind → List Value → List Shown
shown_all (kind ∷ kinds) (value ∷ values) = shown_as kind value ∷ shown_all kinds values
shown_all kinds values = []

-- how many arguments at the end only describe the object that is announced: its version, and before it its name
abbrev pub described : Announces → ℕ
described Nothing = 0
described (Fixed k) = 1
described Named = 2

-- the arguments of a row as they are shown
abbrev pub shown_row : Option Row → List Value → List Shown
shown_row (Some r) values = take (length r.kinds - described r.announces) (shown_all r.kinds values)
shown_row None values = []

-- the arguments of a message of the opcode to an object of the interface
abbrev pub shown : Bool → Interface → ℕ → List Value → List Shown
shown events (Known k) opcode values = shown_row (row_at opcode (table events k)) values
shown events (Other n) opcode values = []

-- the arguments are those of such a message, as they are shown
abbrev pub Shows : Bool → KnownInterface → ℕ → List Value → List Arg → Type 0
Shows events interface opcode values args = map shown_of_arg args ≡ shown events (Known interface) opcode values
