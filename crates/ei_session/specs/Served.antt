-- What a session over some pieces handles and answers.
use Rattle.std.specs.Prelude.{ℕ, zero, suc, ◌+◌, ◌-◌, ◌≡◌, Bool, true, false, not, ◌||◌, List, [], ◌∷◌, take, length, Option, Some, None, nat_lt, if◌then◌else◌}
use Rattle.ei_spec.specs.Reading.{HeaderLength as LengthFault}
use Rattle.ei_spec.specs.Message.{Raw}
use Rattle.ei_spec.specs.Stream.{Stop, Waiting, Ended, HeaderLength, Refusal as RefusedStop, Reading, read}
use Rattle.ei_spec.specs.Piece.{Piece, stream, handle_count}
use Rattle.ei_session.specs.Setup.{Setup}
use Rattle.ei_session.specs.Handshake.{connected}
use Rattle.ei_session.specs.Devices.{exhausts}
use Rattle.ei_session.specs.Refusals.{Refusal, Parse, refusal, judge}
use Rattle.ei_spec.specs.declared.limits.TheConstants.{MOST_UNREAD_HANDLES}

-- the reading of a stream from its start
unfoldable pub reading_of : Setup → List ℕ → Reading Refusal
reading_of setup bytes = read (judge setup) [] bytes

-- the messages of a stream, the newest first
abbrev pub accepted : Setup → List ℕ → List Raw
accepted setup bytes = (reading_of setup bytes).past

-- none of the messages is refused
unfoldable pub AreUnrefused : Setup → List Raw → Type 0
AreUnrefused setup [] = Unit {0}
AreUnrefused setup (m ∷ before) = (refusal setup before m ≡ None) × AreUnrefused setup before

-- how a session ends
pub data Answer : Type 0 where
  Disconnect End UnexpectedEof IdsExhausted PieceLimit HandleLimit : Answer
  Refused : (refusal : Refusal) → Answer

-- whether the ids ran out with the last message
abbrev pub ran_out : List Raw → Bool
ran_out [] = false
ran_out (m ∷ before) = exhausts before m

-- the answer where reading stopped so after these messages, and nothing more comes
abbrev pub answer_of : Stop Refusal → List Raw → Answer
answer_of Waiting past = if connected past then End else UnexpectedEof
answer_of Ended past = if ran_out past then IdsExhausted else Disconnect
answer_of (HeaderLength n) past = Refused (Parse (LengthFault n))
answer_of (RefusedStop e) past = Refused e

-- the stream ended by a disconnect, or all that came was taken and the connection stands
abbrev pub IsGood : Answer → Type 0
IsGood Disconnect = Unit {0}
IsGood End = Unit {0}
IsGood answer = ⊥

-- the answer of a reading
abbrev pub answer_at : Reading Refusal → Answer
answer_at r = answer_of r.stop r.past

abbrev pub IsValidReading : Reading Refusal → Type 0
IsValidReading r = IsGood (answer_at r)

abbrev pub IsValid : Setup → List ℕ → Type 0
IsValid setup bytes = IsValidReading (reading_of setup bytes)

-- ---- over pieces

-- whether the first k pieces have more handles than may be unread
unfoldable pub too_many_handles : List Piece → ℕ → Bool
too_many_handles pieces k = nat_lt MOST_UNREAD_HANDLES (handle_count (take k pieces))

-- the least of the n numbers from k on that passes
unfoldable pub least : (ℕ → Bool) → ℕ → ℕ → Option ℕ
least test k zero = None
least test k (suc n) = elim (test k) [ true ↦ Some k | false ↦ least test (k + 1) n ]

-- the reading of the first k pieces
unfoldable pub read_first : Setup → List Piece → ℕ → Reading Refusal
read_first setup pieces k = reading_of setup (stream (take k pieces))

abbrev pub is_waiting : Stop Refusal → Bool
is_waiting Waiting = true
is_waiting stop = false

-- whether the session is over with piece k
unfoldable pub is_over : Setup → List Piece → ℕ → Bool
is_over setup pieces k = nat_lt setup.pieces k || (too_many_handles pieces k || not (is_waiting (read_first setup pieces k).stop))

-- the messages handled, the newest first, and the answer
pub record Outcome : Type 0 where
  pub handled : List Raw
  pub answer : Answer

-- the outcome where the session is over with piece m
unfoldable pub over_at : Setup → List Piece → ℕ → Outcome
over_at setup pieces m =
    if nat_lt setup.pieces m then record { handled = (read_first setup pieces (m - 1)).past; answer = PieceLimit }
    else (if too_many_handles pieces m then record { handled = (read_first setup pieces (m - 1)).past; answer = HandleLimit }
    else record { handled = (read_first setup pieces m).past; answer = answer_at (read_first setup pieces m) })

-- the outcome where the pieces end before it is over
abbrev pub at_end : List Raw → Outcome
at_end past = record { handled = past; answer = answer_of Waiting past }

-- the outcome of a session over these pieces
unfoldable pub session : Setup → List Piece → Outcome
session setup pieces = elim (least (is_over setup pieces) 1 (length pieces)) [
  | Some m ↦ over_at setup pieces m
  | None ↦ at_end (read_first setup pieces (length pieces)).past
]
