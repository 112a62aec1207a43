-- What goes out to a sink of messages that are sent one after another, each flushed before the next one is made.
use Rattle.std.specs.Prelude.{◌≡◌, ◌≤◌, ℕ, List, [], ◌∷◌, ◌++◌, length, Option, Some}
use Rattle.std.specs.List.{All}
use Rattle.ei_spec.specs.Piece.{Piece}
use Rattle.ei_backend.specs.Outgoing.{HasBytes, IsLeftOf, nothing, sent_front, unsent_after}
use Rattle.ei_backend.specs.Outside.{SinkView, with_more}

-- the bytes that are made before each flush are a list, the newest first; all of them, in their order
abbrev pub all_of : List (List ℕ) → List ℕ
all_of [] = []
all_of (made ∷ before) = all_of before ++ made

-- all that is to be sent then, behind what waited
abbrev pub to_send : Piece → List (List ℕ) → Piece
to_send waiting parts = record { bytes = waiting.bytes ++ all_of parts; handles = waiting.handles }

-- what is to be sent at one flush: at the first also what waited
abbrev pub sent_at : Piece → List (List ℕ) → List ℕ → Piece
sent_at waiting [] made = record { bytes = waiting.bytes ++ made; handles = waiting.handles }
sent_at waiting (last ∷ before) made = record { bytes = made; handles = [] }

-- ---- each put

-- what is put is left of what is to be sent at one of these flushes: at least one byte
pub record IsLeftOfOne (waiting : Piece) (parts : List (List ℕ)) (put : Piece) : Type 0 where
  pub before : List (List ℕ)
  pub made : List ℕ
  pub more : List (List ℕ)
  pub is_one : parts ≡ more ++ made ∷ before
  pub left : IsLeftOf (sent_at waiting before made) put

-- where a sink told what was put to it, it was put what was left of one of them at each call
pub record PutsOne (waiting : Piece) (parts : List (List ℕ)) (puts : List Piece) (new : Option (List Piece)) : Type 0 where
  pub more : List Piece
  pub grown : new ≡ Some (puts ++ more)
  pub each : All (IsLeftOfOne waiting parts) more

abbrev pub Puts : Piece → List (List ℕ) → Option (List Piece) → Option (List Piece) → Type 0
Puts waiting parts old new = (puts : List Piece) → old ≡ Some puts → PutsOne waiting parts puts new

-- ---- all of it

-- A sink that told what it held has all of it behind that, and nothing is unsent. What is sent at one flush was put for itself, and no
-- handle went out without a byte.
pub record Sent (waiting : Piece) (parts : List (List ℕ)) (old new : SinkView) (after : Piece) : Type 0 where
  pub told : (held : Piece) → old.taken ≡ Some held → new.taken ≡ Some (with_more (to_send waiting parts).bytes waiting.handles held)
  pub unsent : after ≡ nothing
  pub puts : Puts waiting parts old.puts new.puts
  pub bytes : HasBytes (to_send waiting parts).bytes waiting.handles

-- where nothing was flushed the sink is as before, and what waited waits; else all was sent
abbrev pub SentAll : Piece → List (List ℕ) → SinkView → SinkView → Piece → Type 0
SentAll waiting [] old new unsent = (new ≡ old) × (unsent ≡ waiting)
SentAll waiting (made ∷ before) old new unsent = Sent waiting (made ∷ before) old new unsent

-- ---- a front of it

-- so many of its bytes went out, and the rest is unsent: nothing is lost
pub record SentFront (waiting : Piece) (parts : List (List ℕ)) (n : ℕ) (old new : SinkView) (after : Piece) : Type 0 where
  pub told : (held : Piece) → old.taken ≡ Some held → new.taken ≡ Some (sent_front n (to_send waiting parts) held)
  pub unsent : after ≡ unsent_after n (to_send waiting parts)
  pub puts : Puts waiting parts old.puts new.puts

-- so many bytes at least are sent once these flushes are done
abbrev pub sent_bytes : Piece → List (List ℕ) → ℕ
sent_bytes waiting [] = 0
sent_bytes waiting (made ∷ before) = length (to_send waiting (made ∷ before)).bytes

-- those before the newest one
abbrev pub but_newest : List (List ℕ) → List (List ℕ)
but_newest [] = []
but_newest (made ∷ before) = before

-- a front of it went out, with all that is to be sent at the flushes before the newest one
pub record SentSome (waiting : Piece) (parts : List (List ℕ)) (old new : SinkView) (after : Piece) : Type 0 where
  pub n : ℕ
  pub front : SentFront waiting parts n old new after
  pub least : sent_bytes waiting (but_newest parts) ≤ n
