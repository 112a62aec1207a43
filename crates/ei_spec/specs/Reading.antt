-- Reading arguments from left to right, with the first fault that is met.
use Rattle.std.specs.Prelude.{ℕ, ◌+◌, ◌-◌, List, [], ◌∷◌, length, take, drop, Option, Some, None, Result, Ok, Err, nat_lt, nat_eq, ◌==◌, if◌then◌else◌}
use Rattle.std.specs.Prelude.{slice_get}
use Rattle.std.specs.List.{list_any}
use Rattle.std.specs.Int.{Width, w32, w64, byte_len, from_le_bytes, cast_signed}
use Rattle.std.specs.Str.{is_utf8}
use Rattle.std.specs.Str.Lossy.{utf8_valid_len}
use Rattle.ei_spec.specs.Value.{Kind, U32, I32, U64, I64, Float, Text, Nullable, Handle, New, Choice, OpenChoice, Value, Word, Long, Signed, SignedLong}
use Rattle.ei_spec.specs.Value.{Letters, Null, Fd, padding}
use Rattle.ei_spec.specs.declared.handle.Handle.{Handle as Descriptor}

-- why a message is refused
pub data Fault : Type 0 where
  EndOfMessage : Fault
  Utf8 : ℕ → Fault
  InvalidId : ℕ → Fault
  NoFd : Fault
  InvalidOpcode : List ℕ → ℕ → Fault
  InvalidVariant : List ℕ → ℕ → Fault
  InvalidInterface : List ℕ → Fault
  HeaderLength : ℕ → Fault
  MessageLength : ℕ → ℕ → Fault
  InvalidNull : Fault

infixl 10 ◌>>=◌
abbrev pub ◌>>=◌ : {A B : Type 0} → Result A Fault → (A → Result B Fault) → Result B Fault
(Ok x) >>= f = f x
(Err e) >>= f = Err e

-- what is left of a message: its bytes; and all handles, with how many of them are taken
pub record Unread : Type 0 where
  pub bytes : List ℕ
  pub handles : List Descriptor
  pub taken : ℕ

abbrev pub Read : Type 0
Read = Result (Value × Unread) Fault

-- the number at the front
abbrev pub number_at : Width → List ℕ → Result (ℕ × List ℕ) Fault
number_at w bytes = if nat_lt (length bytes) (byte_len w) then Err EndOfMessage
    else Ok (from_le_bytes w (take (byte_len w) bytes), drop (byte_len w) bytes)

-- the bytes as a text
abbrev pub utf8 : List ℕ → Result (List ℕ) Fault
utf8 bytes = if is_utf8 bytes then Ok bytes else Err (Utf8 (utf8_valid_len bytes))

-- the n bytes of a text, one closing byte and the padding
unfoldable pub letters_at : ℕ → List ℕ → Result (List ℕ × List ℕ) Fault
letters_at n bytes = if nat_lt (length bytes) n then Err EndOfMessage
    else (utf8 (take n bytes) >>= λ t. if nat_lt (length bytes) (n + 1 + padding (n + 1)) then Err EndOfMessage else Ok (t, drop (n + 1 + padding (n + 1)) bytes))

-- the text or the null at the front
unfoldable pub text_at : List ℕ → Result (Option (List ℕ) × List ℕ) Fault
text_at bytes = do
  n ← number_at w32 bytes
  if n.0 == 0 then Ok (None, n.1) else (letters_at (n.0 - 1) n.1 >>= λ t. Ok (Some t.0, t.1))

abbrev pub some_text : Option (List ℕ) → List ℕ → Result (List ℕ × List ℕ) Fault
some_text None rest = Err InvalidNull
some_text (Some t) rest = Ok (t, rest)

abbrev pub or_null : Option (List ℕ) → Value
or_null None = Null
or_null (Some t) = Letters t

-- one of the values of an enum
abbrev pub choice_at : List ℕ → List ℕ → List ℕ → Result (ℕ × List ℕ) Fault
choice_at name values bytes = number_at w32 bytes >>= λ n. if list_any (nat_eq n.0) values then Ok n else Err (InvalidVariant name n.0)

-- what is read of the bytes alone
abbrev pub of_bytes : {A : Type 0} → (A → Value) → Unread → Result (A × List ℕ) Fault → Read
of_bytes f s (Ok x) = Ok (f x.0, record { bytes = x.1; handles = s.handles; taken = s.taken })
of_bytes f s (Err e) = Err e

abbrev pub of_handle : Unread → Option Descriptor → Read
of_handle s None = Err NoFd
of_handle s (Some h) = Ok (Fd h, record { bytes = s.bytes; handles = s.handles; taken = s.taken + 1 })

-- a value of the kind at the front, and what is left behind it
abbrev pub read : Kind → Unread → Read
read U32 s = of_bytes Word s (number_at w32 s.bytes)
read I32 s = of_bytes (λ n. Signed (cast_signed w32 n)) s (number_at w32 s.bytes)
read U64 s = of_bytes Long s (number_at w64 s.bytes)
read I64 s = of_bytes (λ n. SignedLong (cast_signed w64 n)) s (number_at w64 s.bytes)
read New s = of_bytes Long s (number_at w64 s.bytes)
read Float s = of_bytes Word s (number_at w32 s.bytes)
read Text s = of_bytes Letters s (text_at s.bytes >>= λ t. some_text t.0 t.1)
read Nullable s = of_bytes or_null s (text_at s.bytes)
read Handle s = of_handle s (slice_get s.handles s.taken)
read (Choice name values) s = of_bytes Word s (choice_at name values s.bytes)
read OpenChoice s = of_bytes Word s (number_at w32 s.bytes)

-- a refusal, and how many handles were taken before it
abbrev pub ArgumentStop : Type 0
ArgumentStop = Fault × ℕ

infixl 10 ◌then◌
abbrev pub ◌then◌ : {A B : Type 0} → Result A ArgumentStop → (A → Result B ArgumentStop) → Result B ArgumentStop
(Ok x) then f = f x
(Err e) then f = Err e

-- a step: a refusal keeps the handles that were taken before
abbrev pub stopping : {A : Type 0} → ℕ → Result A Fault → Result A ArgumentStop
stopping n (Ok x) = Ok x
stopping n (Err f) = Err (f, n)

-- a value of each kind, one after another
abbrev pub all_at : List Kind → Unread → Result (List Value × Unread) ArgumentStop
all_at [] s = Ok ([], s)
all_at (k ∷ ks) s = stopping s.taken (read k s) then λ x. all_at ks x.1 then λ xs. Ok (x.0 ∷ xs.0, xs.1)
