-- What a client sends in a handshake, and what a sink has of it.
use Rattle.std.specs.Prelude.{◌≡◌, ℕ, List, [], ◌∷◌, ◌++◌, length, Option, Some}
use Rattle.std.specs.List.{All}
use Rattle.ei_spec.specs.Message.{Raw, all_bytes}
use Rattle.ei_spec.specs.Piece.{Piece}
use Rattle.ei_backend.specs.Table.{found}
use Rattle.ei_backend.specs.Backend.{BackendView, unsent_of}
use Rattle.ei_backend.specs.Outgoing.{HasBytes, IsLeftOf, nothing, sent_front, unsent_after}
use Rattle.ei_backend.specs.Outside.{SinkView, with_more}
use Rattle.ei_greeting.specs.Shaking.{Greeter, answers, answer_to, shake}

-- what is to be sent once these messages of the endpoint were handled: what was unsent, and what answers them
abbrev pub to_send : Greeter → BackendView → List Raw → Piece
to_send g b past = record { bytes = b.unsent ++ all_bytes (answers g (found b.table) b past); handles = b.unsent_handles }

-- what answers one message
abbrev pub answer_bytes : Greeter → BackendView → Raw → List ℕ
answer_bytes g b m = all_bytes (answer_to g (found b.table m.id) (shake (found b.table) b m))

-- what is sent at a message that comes behind these: what answers it, and at the first also what was unsent
abbrev pub sent_at : Greeter → BackendView → List Raw → Raw → Piece
sent_at g b [] m = record { bytes = b.unsent ++ answer_bytes g b m; handles = b.unsent_handles }
sent_at g b (last ∷ before) m = record { bytes = answer_bytes g b m; handles = [] }

-- ---- each put

-- what is put is left of what is sent at one of these messages: at least one byte
pub record IsLeftOfAnswer (g : Greeter) (b : BackendView) (past : List Raw) (put : Piece) : Type 0 where
  pub before : List Raw
  pub m : Raw
  pub more : List Raw
  pub is_one : past ≡ more ++ m ∷ before
  pub left : IsLeftOf (sent_at g b before m) put

-- where a sink told what was put to it, it was put what was left of one answer at each call
pub record PutsOne (g : Greeter) (b : BackendView) (past : List Raw) (puts : List Piece) (new : Option (List Piece)) : Type 0 where
  pub more : List Piece
  pub grown : new ≡ Some (puts ++ more)
  pub each : All (IsLeftOfAnswer g b past) more

abbrev pub PutsAnswers : Greeter → BackendView → List Raw → Option (List Piece) → Option (List Piece) → Type 0
PutsAnswers g b past old new = (puts : List Piece) → old ≡ Some puts → PutsOne g b past puts new

-- ---- all of it

-- A sink that told what it held has all of that behind it, and nothing is unsent. Each answer was put for itself, and no handle went
-- out without a byte.
pub record Sent (g : Greeter) (b : BackendView) (past : List Raw) (old new : SinkView) (now : BackendView) : Type 0 where
  pub told : (held : Piece) → old.taken ≡ Some held → new.taken ≡ Some (with_more (to_send g b past).bytes b.unsent_handles held)
  pub unsent : unsent_of now ≡ nothing
  pub puts : PutsAnswers g b past old.puts new.puts
  pub bytes : HasBytes (to_send g b past).bytes b.unsent_handles

-- where no message was handled the sink is as before, and what was unsent is; else all was sent
abbrev pub SentAll : Greeter → BackendView → List Raw → SinkView → SinkView → BackendView → Type 0
SentAll g b [] old new now = (new ≡ old) × (unsent_of now ≡ unsent_of b)
SentAll g b (m ∷ past) old new now = Sent g b (m ∷ past) old new now

-- ---- a front of it

-- so many of its bytes went out, and the rest is unsent: nothing is lost
pub record SentFront (g : Greeter) (b : BackendView) (past : List Raw) (n : ℕ) (old new : SinkView) (now : BackendView) : Type 0 where
  pub told : (held : Piece) → old.taken ≡ Some held → new.taken ≡ Some (sent_front n (to_send g b past) held)
  pub unsent : unsent_of now ≡ unsent_after n (to_send g b past)
  pub puts : PutsAnswers g b past old.puts new.puts

-- so many bytes at least are sent once these messages were handled
abbrev pub sent_bytes : Greeter → BackendView → List Raw → ℕ
sent_bytes g b [] = 0
sent_bytes g b (m ∷ past) = length (to_send g b (m ∷ past)).bytes
