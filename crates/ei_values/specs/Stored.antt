-- The values of messages: as a call gives them, as they go out, and as they are stored.
use Rattle.std.specs.Prelude.{◌≡◌, ℕ, ◌<◌, ◌^◌, Bool, true, false, ◌&&◌, nat_eq, List, [], ◌∷◌, drop, FitsSigned, Option, Some, None}
use Rattle.std.specs.List.{list_any}
use Rattle.std.specs.Int.{w32}
use Rattle.std.specs.Str.{is_utf8}
use Rattle.ei_spec.specs.Interface.{name_of}
use Rattle.ei_spec.specs.Rows.{Announces, Named}
use Rattle.ei_spec.specs.Value.{Kind, U32, I32, U64, Float, Text, Nullable, Handle, New, Choice, OpenChoice}
use Rattle.ei_spec.specs.Value.{Value, Word, Long, Signed, SignedLong, Letters, Null, Fd}
use Rattle.ei_values.specs.declared.value.Value.{Value as Stored}
use Rattle.ei_values.specs.declared.value.Value.TheVariants as stored

-- values in their order
abbrev pub ValueList : Type 0
ValueList = List Stored

-- a value as a message has it, without its kind
abbrev pub value_view : Stored → Value
value_view (stored.Uint32 n) = Word n
value_view (stored.Int32 z) = Signed z
value_view (stored.Uint64 n) = Long n
value_view (stored.Float n) = Word n
value_view (stored.Text t) = Letters t
value_view stored.NullText = Null
value_view (stored.Handle h) = Fd h
value_view stored.New = Long 0
value_view (stored.NewInterface k) = Long 0

-- ---- what a call gives

-- a call may give the value where the row has the kind
abbrev pub fits_kind : Kind → Stored → Bool
fits_kind U32 (stored.Uint32 n) = true
fits_kind I32 (stored.Int32 z) = true
fits_kind U64 (stored.Uint64 n) = true
fits_kind Float (stored.Float n) = true
fits_kind Text (stored.Text t) = true
fits_kind Nullable (stored.Text t) = true
fits_kind Nullable stored.NullText = true
fits_kind Handle (stored.Handle h) = true
fits_kind New stored.New = true
fits_kind (Choice name values) (stored.Uint32 n) = list_any (nat_eq n) values
fits_kind OpenChoice (stored.Uint32 n) = true
fits_kind kind value = false

-- the values are of the kinds, one by one
abbrev pub all_fit : List Kind → List Stored → Bool
all_fit [] [] = true
all_fit (kind ∷ kinds) (value ∷ values) = fits_kind kind value && all_fit kinds values
all_fit kinds values = false

-- The same for a message that announces so: an object whose interface the message names is asked for by its interface, in the
-- place of id and name.
abbrev pub fits_row : Announces → List Kind → List Stored → Bool
fits_row Named kinds (stored.NewInterface k ∷ values) = all_fit (drop 2 kinds) values
fits_row Named kinds values = false
fits_row a kinds values = all_fit kinds values

-- a value as it goes out: a new id is the next own one, with the name of its interface where the call says that
abbrev pub fills : ℕ → Stored → List Stored
fills next stored.New = stored.Uint64 next ∷ []
fills next (stored.NewInterface k) = stored.Uint64 next ∷ stored.Text (name_of k) ∷ []
fills next value = value ∷ []

-- a number fits its bytes, and a text is one
abbrev pub IsLawful : Stored → Type 0
IsLawful (stored.Uint32 n) = n < 2 ^ 32
IsLawful (stored.Int32 z) = FitsSigned w32 z
IsLawful (stored.Uint64 n) = n < 2 ^ 64
IsLawful (stored.Float n) = n < 2 ^ 32
IsLawful (stored.Text t) = is_utf8 t ≡ true
IsLawful value = Unit {0}

-- each of them is so
abbrev pub AreLawful : List Stored → Type 0
AreLawful [] = Unit {0}
AreLawful (value ∷ values) = IsLawful value × AreLawful values

-- ---- what is stored

-- a word, where the row has the kind: a float's or a number
abbrev pub word_as : Kind → ℕ → Stored
word_as Float n = stored.Float n
word_as kind n = stored.Uint32 n

-- a value of a message that was read, where the row has the kind (no row has a signed number of 64 bits)
abbrev pub stored_as : Kind → Value → Stored
stored_as kind (Word n) = word_as kind n
stored_as kind (Long n) = stored.Uint64 n
stored_as kind (Signed z) = stored.Int32 z
stored_as kind (Letters t) = stored.Text t
stored_as kind Null = stored.NullText
stored_as kind (Fd h) = stored.Handle h
stored_as kind (SignedLong z) = stored.NullText

-- the values of a message of these kinds, one by one
abbrev pub all_stored : List Kind → List Value → List Stored
all_stored (kind ∷ kinds) (v ∷ vs) = stored_as kind v ∷ all_stored kinds vs
all_stored kinds vs = []

-- the number that a value is, where it is one of four bytes
abbrev pub word_in : Value → ℕ
word_in (Word n) = n
word_in v = 0

-- the number that a value is, where a new id stands
abbrev pub id_in : Kind → Value → Option ℕ
id_in New (Long n) = Some n
id_in kind v = None
