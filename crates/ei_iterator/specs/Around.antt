-- A client's endpoint and converter with the sink and the clock that are lent to them, and what is so of them behind some turns.
use Rattle.std.specs.Prelude.{◌≡◌, ℕ, List, [], ◌∷◌, Option, Some, None, Ok, codes}
use Rattle.ei_spec.specs.Interface.{ObjectView}
use Rattle.ei_spec.specs.Message.{message, bytes_of}
use Rattle.ei_spec.specs.Value.{Long}
use Rattle.ei_backend.specs.Backend.{BackendView, unsent_of}
use Rattle.ei_backend.specs.Outside.{SinkView}
use Rattle.ei_client.specs.Pingpong.{request}
use Rattle.ei_following.specs.Core.{closed_group}
use Rattle.ei_reported.specs.Event.{opcode_by}
use Rattle.ei_handler.specs.declared.receipt.Receipt.{Receipt}
use Rattle.ei_event.specs.Typed.{said_of}
use Rattle.ei_event.specs.Core.{core_of}
use Rattle.ei_event.specs.Handles.{Times}
use Rattle.ei_event.specs.Converter.{ConverterView, ping_in, callback_in, Receives}
use Rattle.ei_blocking.specs.Still.{still}
use Rattle.ei_iterator.specs.Turns.{Standing, Turn, Hears, standing_at}
use Rattle.ei_iterator.specs.Sending.{SentAll, SentSome}

-- the endpoint, the converter, what the sink says of itself, and the readings that the clock has left, if it tells them
pub record Around (H : Type 0) : Type 0 where
  pub endpoint : BackendView
  pub converter : ConverterView H
  pub sink : SinkView
  pub readings : Option (List ℕ)

abbrev pub around : {H : Type 0} → BackendView → ConverterView H → SinkView → Option (List ℕ) → Around H
around endpoint converter sink readings = record { endpoint = endpoint; converter = converter; sink = sink; readings = readings }

abbrev pub standing_of : {H : Type 0} → Around H → Standing H
standing_of a = record { endpoint = a.endpoint; kept = a.converter.kept; waiting = a.converter.waiting }

-- ---- what is sent

-- what answers the ping that an event announces: `done` with 0
abbrev pub pong : Option ObjectView → List ℕ
pong None = []
pong (Some ping) = bytes_of (message ping.id (opcode_by (request (codes "done"))) (Long 0 ∷ []))

-- what is made to be sent at each event that is taken, before it is flushed
abbrev pub answers_to : List Turn → List (List ℕ)
answers_to [] = []
answers_to (Hears e time ∷ before) = pong (ping_in e) ∷ answers_to before
answers_to (t ∷ before) = answers_to before

-- ---- what a clock told, and which handlers were called

-- each frame that was made has the clock's next reading
abbrev pub HasRead : {H : Type 0} → Standing H → List Turn → Option (List ℕ) → Option (List ℕ) → Type 0
HasRead s [] before now = now ≡ before
HasRead s (Hears e time ∷ turns) before now = (then : Option (List ℕ)) × HasRead s turns before then × Times (closed_group (core_of (standing_at s turns).kept) (said_of e)) time then now
HasRead s (t ∷ turns) before now = HasRead s turns before now

-- each callback that ended has a receipt, where a handler waited for it
abbrev pub HasCalled : {H : Type 0} → (H → ℕ → ℕ → Type 0) → Standing H → List Turn → (old new : List Receipt) → Type 0
HasCalled may s [] old new = new ≡ old
HasCalled may s (Hears e time ∷ turns) old new = (then : List Receipt) × HasCalled may s turns old then × Receives may (callback_in e) (Ok tt) (standing_at s turns).waiting then new
HasCalled may s (t ∷ turns) old new = HasCalled may s turns old new

-- ---- all of it

-- the endpoint, whatever memory it has made ready and whatever is unsent, and the converter, but for the receipts, are this
pub record StandsAs {H : Type 0} (s : Standing H) (now : Around H) : Type 0 where
  pub endpoint : still now.endpoint ≡ still s.endpoint
  pub kept : now.converter.kept ≡ s.kept
  pub waiting : now.converter.waiting ≡ s.waiting

-- for these turns the clock was read, and the handlers were called
pub record Did {H : Type 0} (may : H → ℕ → ℕ → Type 0) (old : Around H) (turns : List Turn) (now : Around H) : Type 0 where
  pub reads : HasRead (standing_of old) turns old.readings now.readings
  pub calls : HasCalled may (standing_of old) turns old.converter.receipts now.converter.receipts

-- what answers their events was sent, each answer for itself, behind what was unsent
abbrev pub SendsAll : {H : Type 0} → Around H → List Turn → Around H → Type 0
SendsAll old turns now = SentAll (unsent_of old.endpoint) (answers_to turns) old.sink now.sink (unsent_of now.endpoint)

-- or a front of it, with all of it but at the newest event
abbrev pub SendsSome : {H : Type 0} → Around H → List Turn → Around H → Type 0
SendsSome old turns now = SentSome (unsent_of old.endpoint) (answers_to turns) old.sink now.sink (unsent_of now.endpoint)
