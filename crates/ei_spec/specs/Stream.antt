-- The messages of a stream, and where and why reading it stops.
use Rattle.std.specs.Prelude.{◌≡◌, ℕ, zero, suc, List, [], ◌∷◌, ◌++◌, length}
use Rattle.ei_spec.specs.Message.{Raw, IsLawful, bytes_of, Short, Unlawful, Whole, front}

-- what becomes of a whole message, given the messages before it
pub data Verdict (E : Type 0) : Type 0 where
  Accepted Final : Verdict E
  Refused : (e : E) → Verdict E

pub data Stop (E : Type 0) : Type 0 where
  Waiting Ended : Stop E
  HeaderLength : (size : ℕ) → Stop E
  Refusal : (e : E) → Stop E

-- the messages accepted, the newest first; the bytes that follow them; and why they are no more
pub record Reading (E : Type 0) : Type 0 where
  pub past : List Raw
  pub rest : List ℕ
  pub stop : Stop E

abbrev pub reading : {E : Type 0} → List Raw → List ℕ → Stop E → Reading E
reading past rest stop = record { past = past; rest = rest; stop = stop }

unfoldable pub read_within : {E : Type 0} → (List Raw → Raw → Verdict E) → ℕ → List Raw → List ℕ → Reading E
read_within judge zero past bytes = reading past bytes Waiting
read_within judge (suc fuel) past bytes = elim (front bytes) [
  | Short ↦ reading past bytes Waiting
  | Unlawful n ↦ reading past bytes (HeaderLength n)
  | Whole m rest ↦ elim (judge past m) [
    | Accepted ↦ read_within judge fuel (m ∷ past) rest
    | Final ↦ reading (m ∷ past) rest Ended
    | Refused e ↦ reading past bytes (Refusal e)
  ]
]

-- Reading goes on after the messages in past. Each message takes bytes, so there are no more of them than bytes.
unfoldable pub read : {E : Type 0} → (List Raw → Raw → Verdict E) → List Raw → List ℕ → Reading E
read judge past bytes = read_within judge (suc (length bytes)) past bytes

-- more bytes come
unfoldable pub go_on : {E : Type 0} → (List Raw → Raw → Verdict E) → Reading E → List ℕ → Reading E
go_on judge r more = elim r.stop [
  | Waiting ↦ read judge r.past (r.rest ++ more)
  | Ended ↦ record r { rest = r.rest ++ more }
  | HeaderLength n ↦ record r { rest = r.rest ++ more }
  | Refusal e ↦ record r { rest = r.rest ++ more }
]

-- ---- the same as a relation

-- the bytes of messages, of which the newest stands first
unfoldable pub stream_of : List Raw → List ℕ
stream_of [] = []
stream_of (m ∷ past) = stream_of past ++ bytes_of m

-- each is lawful and accepted, and none is the last
unfoldable pub AreOpen : {E : Type 0} → (List Raw → Raw → Verdict E) → List Raw → Type 0
AreOpen judge [] = Unit {0}
AreOpen judge (m ∷ past) = IsLawful m × (judge past m ≡ Accepted) × AreOpen judge past

-- why no more messages than these were accepted
unfoldable pub StopsSo : {E : Type 0} → (List Raw → Raw → Verdict E) → Stop E → List Raw → List ℕ → Type 0
StopsSo judge Waiting past rest = AreOpen judge past × (front rest ≡ Short)
StopsSo judge Ended [] rest = ⊥
StopsSo judge Ended (m ∷ past) rest = IsLawful m × (judge past m ≡ Final) × AreOpen judge past
StopsSo judge (HeaderLength n) past rest = AreOpen judge past × (front rest ≡ Unlawful n)
StopsSo judge (Refusal e) past rest = AreOpen judge past × ((m : Raw) × (after : List ℕ) × (front rest ≡ Whole m after) × (judge past m ≡ Refused e))

-- The stream is the bytes of these messages and the rest, and they are all that can be accepted.
pub record IsReading {E : Type 0} (judge : List Raw → Raw → Verdict E) (stream : List ℕ) (r : Reading E) : Type 0 where
  pub bytes : stream ≡ stream_of r.past ++ r.rest
  pub stops : StopsSo judge r.stop r.past r.rest
