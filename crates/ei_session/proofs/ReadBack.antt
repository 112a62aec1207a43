-- What is written by a row is read by it.
use Rattle.std.proofs.Common.{◌≡◌, ℕ, ◌+◌, List, [], ◌∷◌, length, flat_map, Some, refl}
use Rattle.ei_spec.specs.Value.{Kind, Value, Word, Long, Signed, SignedLong, Letters, Null, Fd, written, handles_of, HasSpelling}
use Rattle.ei_spec.specs.Spelling.{IsNext, AllBegin}
use Rattle.ei_spec.specs.Reading.{Unread}
use Rattle.ei_spec.specs.Rows.{Row}
use Rattle.ei_spec.specs.Message.{message}
use Rattle.ei_spec.proofs.KindLaws.{Spells-written}
use Rattle.ei_spec.proofs.RowLaws.{all_again}
use Rattle.ei_session.specs.Arguments.{whole, row_args}
use Rattle.ei_spec.specs.Arguments.{AreOf}

-- the value is no handle, and has a spelling
abbrev pub IsPlain : Value → Type 0
IsPlain (Fd h) = ⊥
IsPlain v = HasSpelling v

abbrev pub ArePlain : List Value → Type 0
ArePlain [] = Unit {0}
ArePlain (v ∷ vs) = IsPlain v × ArePlain vs

abbrev left : List ℕ → Unread
left bytes = record { bytes = bytes; handles = []; taken = 0 }

spelled : (v : Value) → IsPlain v → HasSpelling v
spelled (Word n) p = tt
spelled (Long n) p = tt
spelled (Signed n) p = tt
spelled (SignedLong n) p = tt
spelled (Letters t) p = p
spelled Null p = tt
spelled (Fd h) p = absurd p

is_next : (v : Value) → IsPlain v → IsNext v [] 0
is_next (Word n) p = tt
is_next (Long n) p = tt
is_next (Signed n) p = tt
is_next (SignedLong n) p = tt
is_next (Letters t) p = tt
is_next Null p = tt
is_next (Fd h) p = absurd p

none_taken : (v : Value) → IsPlain v → 0 ≡ 0 + length (handles_of v)
none_taken (Word n) p = refl
none_taken (Long n) p = refl
none_taken (Signed n) p = refl
none_taken (SignedLong n) p = refl
none_taken (Letters t) p = refl
none_taken Null p = refl
none_taken (Fd h) p = absurd p

all_begin : (kinds : List Kind) (values : List Value) → AreOf kinds values → ArePlain values → AllBegin kinds values (left (flat_map written values)) (left [])
all_begin [] [] o p = refl
all_begin [] (v ∷ vs) o p = absurd o
all_begin (k ∷ ks) [] o p = absurd o
all_begin (k ∷ ks) (v ∷ vs) o p = (
  left (flat_map written vs),
  record { of = o.0; short = spelled v p.0; text = written v; spelled = Spells-written v; parts = refl; next = is_next v p.0; same = refl; taken = none_taken v p.0 },
  all_begin ks vs o.1 p.1,
)

pub reads_back : (row : Row) (id opcode : ℕ) (values : List Value) → AreOf row.kinds values → ArePlain values → row_args (Some row) (message id opcode values) ≡ Some values
unfolding row_args whole
reads_back row id opcode values o p = rw (all_again row.kinds values _ _ (all_begin row.kinds values o p)) refl
