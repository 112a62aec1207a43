-- What a function that reads says of what reading gives, and the values that arguments stand for.
use Rattle.std.specs.Prelude.{◌≡◌, ℕ, List, IsErr, IfOk, Option, Some, None, Result, Ok, Err}
use Rattle.ei_spec.specs.Interface.{known_of}
use Rattle.ei_spec.specs.Value.{Kind, Text, Nullable, Value, Word, Long, Signed, SignedLong, Letters, Null, Fd}
use Rattle.ei_spec.specs.Reading.{Fault, EndOfMessage, Utf8, InvalidId, NoFd, InvalidOpcode}
use Rattle.ei_spec.specs.Reading.{InvalidVariant, InvalidInterface, HeaderLength, MessageLength, InvalidNull}
use Rattle.ei_wire.specs.declared.arg.Arg.{Arg}
use Rattle.ei_wire.specs.declared.arg.Arg.TheVariants as arg
use Rattle.ei_wire.specs.declared.error.ParseError.{ParseError}
use Rattle.ei_wire.specs.declared.error.ParseError.TheVariants as error

-- the value that an argument stands for
abbrev pub value_of_arg : Arg → Value
value_of_arg (arg.Uint32 n) = Word n
value_of_arg (arg.Int32 z) = Signed z
value_of_arg (arg.Uint64 n) = Long n
value_of_arg (arg.Int64 z) = SignedLong z
value_of_arg (arg.Float n) = Word n
value_of_arg (arg.Fd h) = Fd h
value_of_arg (arg.String None) = Null
value_of_arg (arg.String (Some t)) = Letters t.now
value_of_arg (arg.NewId n) = Long n
value_of_arg (arg.Id n) = Long n

-- a function that ended with this error would have been reading this
abbrev pub Fails : {Y : Type 0} → ParseError → Result Y Fault → Type 0
Fails error.NoMemory read = Unit {0}
Fails error.EndOfMessage read = read ≡ Err EndOfMessage
Fails (error.Utf8 n) read = read ≡ Err (Utf8 n)
Fails (error.InvalidId n) read = read ≡ Err (InvalidId n)
Fails error.NoFd read = read ≡ Err NoFd
Fails (error.InvalidOpcode name n) read = read ≡ Err (InvalidOpcode name.now n)
Fails (error.InvalidVariant name n) read = read ≡ Err (InvalidVariant name.now n)
Fails (error.InvalidInterface name) read = read ≡ Err (InvalidInterface name)
Fails (error.HeaderLength n) read = read ≡ Err (HeaderLength n)
Fails (error.MessageLength n m) read = read ≡ Err (MessageLength n m)
Fails error.InvalidNull read = read ≡ Err InvalidNull

-- what a function returned, seen by view, is what reading gives, unless memory ran out
abbrev pub Gives : {X Y : Type 0} → (X → Y) → Result X ParseError → Result Y Fault → Type 0
Gives view (Ok x) read = read ≡ Ok (view x)
Gives view (Err e) read = Fails e read

-- the fault that an error stands for; none for want of memory
abbrev pub fault_of : ParseError → Option Fault
fault_of error.NoMemory = None
fault_of error.EndOfMessage = Some EndOfMessage
fault_of (error.Utf8 n) = Some (Utf8 n)
fault_of (error.InvalidId n) = Some (InvalidId n)
fault_of error.NoFd = Some NoFd
fault_of (error.InvalidOpcode name n) = Some (InvalidOpcode name.now n)
fault_of (error.InvalidVariant name n) = Some (InvalidVariant name.now n)
fault_of (error.InvalidInterface name) = Some (InvalidInterface name)
fault_of (error.HeaderLength n) = Some (HeaderLength n)
fault_of (error.MessageLength n m) = Some (MessageLength n m)
fault_of error.InvalidNull = Some InvalidNull

-- the error is a fault of what is read, and not want of memory
abbrev pub IsFault : ParseError → Type 0
IsFault error.NoMemory = ⊥
IsFault e = Unit {0}

-- where the error is want of memory, this holds
abbrev pub WhereFull : Type 0 → ParseError → Type 0
WhereFull P error.NoMemory = P
WhereFull P e = Unit {0}

-- a text that isn't the name of an interface
abbrev pub IsOtherText : List ℕ → Type 0
IsOtherText text = known_of text ≡ None

abbrev pub IsOther : Value → Type 0
IsOther (Letters text) = IsOtherText text
IsOther v = Unit {0}

-- only a text wants memory, and none that is the name of an interface
abbrev pub MayStop : {Rest : Type 0} → Kind → Result (Value × Rest) Fault → ParseError → Type 0
MayStop Text read e = WhereFull (IfOk read (λ x. IsOther x.0)) e
MayStop Nullable read e = WhereFull (IfOk read (λ x. IsOther x.0)) e
MayStop k read e = IsFault e

-- the shorter way takes nothing where reading refuses; and a text it may leave to the general way
abbrev pub Leaves : {Y : Type 0} → Kind → Result Y Fault → Type 0
Leaves Text read = Unit {0}
Leaves Nullable read = Unit {0}
Leaves kind read = IsErr read
