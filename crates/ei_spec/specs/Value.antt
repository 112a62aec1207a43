-- What arguments are, and their bytes.
use Rattle.std.specs.Prelude.{◌≡◌, ℕ, ◌<◌, ◌≤◌, ◌^◌, FitsSigned, true, nat_eq, ◌+◌, ◌-◌, ◌%◌, List, [], ◌∷◌, ◌++◌, length, replicate}
use Rattle.std.specs.Prelude.{ℤ}
use Rattle.std.specs.Int.{w32, w64, to_le_bytes, cast_unsigned}
use Rattle.std.specs.List.{list_any}
use Rattle.std.specs.Str.{is_utf8}
use Rattle.ei_spec.specs.declared.handle.Handle.{Handle as Descriptor}

-- what an argument may be
pub data Kind : Type 0 where
  U32 : Kind
  I32 : Kind
  U64 : Kind
  I64 : Kind
  Float : Kind
  Text : Kind
  Nullable : Kind
  Handle : Kind
  New : Kind
  -- an enum: its name and its values
  Choice : (type_name values : List ℕ) → Kind
  -- an enum with a value for every number
  OpenChoice : Kind

-- an argument without its kind
pub data Value : Type 0 where
  Word : ℕ → Value
  Long : ℕ → Value
  Signed : ℤ → Value
  SignedLong : ℤ → Value
  Letters : List ℕ → Value
  Null : Value
  Fd : Descriptor → Value

-- how many bytes follow n bytes up to the next multiple of 4
abbrev pub padding : ℕ → ℕ
padding n = (4 - n % 4) % 4

-- the bytes of a text: its length and one, the text, a closing byte and padding
abbrev pub text_bytes : List ℕ → List ℕ
text_bytes t = to_le_bytes w32 (length t + 1) ++ t ++ replicate (1 + padding (length t + 1)) 0

-- the bytes that a value is written as
abbrev pub written : Value → List ℕ
written (Word n) = to_le_bytes w32 n
written (Long n) = to_le_bytes w64 n
written (Signed z) = to_le_bytes w32 (cast_unsigned w32 z)
written (SignedLong z) = to_le_bytes w64 (cast_unsigned w64 z)
written (Letters t) = text_bytes t
written Null = to_le_bytes w32 0
written (Fd h) = []

-- the handles that go beside them
abbrev pub handles_of : Value → List Descriptor
handles_of (Fd h) = h ∷ []
handles_of v = []

-- the value is one of the kind
abbrev pub IsOf : Kind → Value → Type 0
IsOf U32 (Word n) = n < 2 ^ 32
IsOf I32 (Signed z) = FitsSigned w32 z
IsOf U64 (Long n) = n < 2 ^ 64
IsOf I64 (SignedLong z) = FitsSigned w64 z
IsOf Float (Word n) = n < 2 ^ 32
IsOf Text (Letters t) = is_utf8 t ≡ true
IsOf Nullable (Letters t) = is_utf8 t ≡ true
IsOf Nullable Null = Unit {0}
IsOf Handle (Fd h) = Unit {0}
IsOf New (Long n) = n < 2 ^ 64
IsOf (Choice type_name values) (Word n) = (n < 2 ^ 32) × (list_any (nat_eq n) values ≡ true)
IsOf OpenChoice (Word n) = n < 2 ^ 32
IsOf k v = ⊥

-- the value has a spelling: its text is no longer than a text may be
abbrev pub HasSpelling : Value → Type 0
HasSpelling (Letters t) = length t ≤ 4294967294
HasSpelling v = Unit {0}
