-- What becomes of the message at the front.
use Rattle.std.specs.Prelude.{◌≡◌, ◌⊎◌, ℕ, ◌<◌, Bool, true, false, [], Option, Some, None, Result, Ok, Err}
use Rattle.ei_types.specs.declared.error.Error.{Error}
use Rattle.ei_types.specs.declared.error.Error.TheVariants as error
use Rattle.ei_types.specs.declared.error.HandshakeError.TheVariants as handshake_error
use Rattle.ei_backend.specs.Backend.{BackendView, next, removed, Answers}
use Rattle.ei_backend.specs.declared.message.PendingRequestResult.{PendingRequestResult}
use Rattle.ei_backend.specs.declared.message.PendingRequestResult.TheVariants as pending
use Rattle.ei_server.specs.declared.request.Request.{Request}
use Rattle.ei_server.specs.Request.{target_of, opcode_of, values_of}
use Rattle.ei_session.specs.Meaning.{Meaning, Disconnects, Pongs, ReleasesSeat}
use Rattle.ei_handshake.specs.Handshaker.{Handles}
use Rattle.ei_handshake.specs.declared.server.EisHandshakeResp.{EisHandshakeResp}
use Rattle.ei_request.specs.Connection.{new_connection}
use Rattle.ei_request.specs.Converter.{ConverterView}
use Rattle.ei_request.specs.Handling.{handled}
use Rattle.ei_request.specs.Refusing.{refusal, Tells}
use Rattle.ei_request.specs.Sending.{no_object_event, says}
use Rattle.ei_request.specs.Typed.{meaning_of}
use Rattle.reis_eis.specs.declared.ending.Ending.TheVariants as ending
use Rattle.reis_eis.specs.declared.notice.Notice.{Notice}
use Rattle.reis_eis.specs.declared.notice.Notice.TheVariants as notice
use Rattle.reis_eis.specs.declared.step.Step.{Step}
use Rattle.reis_eis.specs.declared.step.Step.TheVariants as step
use Rattle.reis_eis.specs.declared.shaking.Shaking.{Shaking}
use Rattle.reis_eis.specs.declared.shaking.Shaken.{Shaken}
use Rattle.reis_eis.specs.declared.shaking.Shaken.TheVariants as shaken
use Rattle.reis_eis.specs.declared.phase.Phase.{Phase}
use Rattle.reis_eis.specs.declared.phase.Phase.TheVariants as phase
use Rattle.reis_eis.specs.Words.{shaking_with, with_ctx}

-- the connection ends so
abbrev pub refused : Error → Step
refused e = step.Ended (ending.Refused e)

-- a message was taken by it
abbrev pub IsHandled : Step → Type 0
IsHandled step.Handled = Unit {0}
IsHandled (step.Noted told) = Unit {0}
IsHandled s = ⊥

-- there is room for the notice that it tells
abbrev pub HasRoomFor : Step → ℕ → Type 0
HasRoomFor (step.Noted told) room = 0 < room
HasRoomFor s room = Unit {0}

-- memory ran out, and nothing changed
abbrev pub RunsOut : {V : Type 0} → Step → V → V → Type 0
RunsOut s old new = (s ≡ refused error.NoMemory) × (new ≡ old)

-- ---- behind the handshake

-- the connection has one message more to send: no object has the id
abbrev pub tells_no_object : ConverterView → ℕ → ConverterView
tells_no_object c id = with_ctx c (says c.handle.ctx (no_object_event c.handle.proxy.id c.handle.last_serial id))

-- the client is told so, or memory runs out
abbrev pub TellsNoObject : ConverterView → ℕ → Step → ConverterView → Type 0
TellsNoObject c id step.Handled new = new ≡ tells_no_object c id
TellsNoObject c id s new = RunsOut s c new

-- whether the client disconnects
abbrev pub ends : Meaning → Bool
ends Disconnects = true
ends other = false

-- what a request to the object of that id tells, if it tells something
abbrev pub notice_of : ℕ → Meaning → Option Notice
notice_of id (Pongs callback_data) = Some (notice.Pong id callback_data)
notice_of id ReleasesSeat = Some (notice.SeatReleased id)
notice_of id other = None

-- what a request does: what the converter does with it; and a ping that is answered is gone by that
abbrev pub done_by : ConverterView → ℕ → Meaning → ℕ → ConverterView
done_by c id (Pongs callback_data) time = with_ctx c (removed c.handle.ctx id)
done_by c id m time = handled c id m time

-- The request is taken: nothing refuses it, and what it asks is done. A frame that this makes bears the time.
pub record TakesAt (time : ℕ) (old : ConverterView) (r : Request) (new : ConverterView) : Type 0 where
  pub accepted : refusal old.handle (target_of r).id (target_of r).version (meaning_of r) ≡ None
  pub does : new ≡ done_by old (target_of r).id (meaning_of r) time

-- The request is refused: the error says why, and nothing changes.
pub record RefusesAsked (e : Error) (old : ConverterView) (r : Request) (new : ConverterView) : Type 0 where
  pub why : Tells (refusal old.handle (target_of r).id (target_of r).version (meaning_of r)) e
  pub same : new ≡ old

-- what becomes of a request of the client
abbrev pub Obeys : ℕ → ConverterView → Request → Step → ConverterView → Type 0
Obeys time old r step.Handled new =
    (ends (meaning_of r) ≡ false) × (notice_of (target_of r).id (meaning_of r) ≡ None) × TakesAt time old r new
Obeys time old r (step.Noted told) new = (notice_of (target_of r).id (meaning_of r) ≡ Some told) × TakesAt time old r new
Obeys time old r (step.Ended ending.Disconnected) new = (ends (meaning_of r) ≡ true) × TakesAt time old r new
Obeys time old r (step.Ended (ending.Refused e)) new = RefusesAsked e old r new
Obeys time old r s new = ⊥

-- what becomes of what was read
abbrev pub DoesRead : ℕ → ConverterView → Option (PendingRequestResult Request) → Step → ConverterView → Type 0
DoesRead time c None s new = (s ≡ step.Waiting) × (new ≡ c)
DoesRead time c (Some (pending.ParseError e)) s new = (s ≡ refused (error.Parse e)) × (new ≡ c)
DoesRead time c (Some (pending.InvalidObject id)) s new = TellsNoObject c id s new
DoesRead time c (Some (pending.Request r)) s new = Obeys time c r s new

-- The message at the front is read, and done.
pub record ReadsAndDoes (time : ℕ) (old : ConverterView) (s : Step) (new : ConverterView) : Type 0 where
  pub said : Option (PendingRequestResult Request)
  pub ctx : BackendView
  pub reads : Answers target_of opcode_of values_of said ctx (next false old.handle.ctx)
  pub does : DoesRead time (with_ctx old ctx) said s new

-- the same, or memory runs out for it
abbrev pub Converses : ℕ → ConverterView → Step → ConverterView → Type 0
Converses time old s new = ReadsAndDoes time old s new ⊎ RunsOut s old new

-- ---- during the handshake

-- the handshake goes on, or it failed
abbrev pub failed : Error → Shaken
failed e = shaken.Still (refused e)

-- what a handshaker's answer makes of it
abbrev pub shaken_by : Result (Option EisHandshakeResp) Error → Shaken
shaken_by (Ok None) = shaken.Still step.Handled
shaken_by (Ok (Some resp)) = shaken.Done resp
shaken_by (Err e) = failed e

-- a message was taken by it
abbrev pub IsGone : Shaken → Type 0
IsGone (shaken.Still step.Handled) = Unit {0}
IsGone (shaken.Done resp) = Unit {0}
IsGone s = ⊥

-- The handshaker does with the request what it answers.
pub record Asks (old : Shaking) (r : Request) (s : Shaken) (new : Shaking) : Type 0 where
  pub answer : Result (Option EisHandshakeResp) Error
  pub handles : Handles old.handshaker old.context r answer new.handshaker new.context
  pub shaken : s ≡ shaken_by answer
  pub serial : new.initial_serial ≡ old.initial_serial

-- what becomes of what was read
abbrev pub ShakesRead : Shaking → Option (PendingRequestResult Request) → Shaken → Shaking → Type 0
ShakesRead h None s new = (s ≡ shaken.Still step.Waiting) × (new ≡ h)
ShakesRead h (Some (pending.ParseError e)) s new = (s ≡ failed (error.Parse e)) × (new ≡ h)
ShakesRead h (Some (pending.InvalidObject id)) s new = (s ≡ failed (error.Handshake (handshake_error.InvalidObject id))) × (new ≡ h)
ShakesRead h (Some (pending.Request r)) s new = Asks h r s new

-- The message at the front is read, and the handshake goes on by it.
pub record ReadsAndShakes (old : Shaking) (s : Shaken) (new : Shaking) : Type 0 where
  pub said : Option (PendingRequestResult Request)
  pub ctx : BackendView
  pub reads : Answers target_of opcode_of values_of said ctx (next false old.context)
  pub does : ShakesRead (shaking_with old ctx) said s new

-- the same, or memory runs out for it
abbrev pub Shakes : Shaking → Shaken → Shaking → Type 0
Shakes old s new = ReadsAndShakes old s new ⊎ ((s ≡ failed error.NoMemory) × (new ≡ old))

-- ---- in any phase

-- the connection behind a handshake that is done
abbrev pub connected_by : Shaking → EisHandshakeResp → ConverterView
connected_by h resp = record { handle = new_connection h.context resp h.initial_serial; queue = [] }

-- the phase behind it
abbrev pub connected_in : EisHandshakeResp → Phase → Phase
connected_in resp (phase.Shaking h) = phase.Standing (connected_by h resp)
connected_in resp p = phase.Between

-- the phase behind what a handshake came to
abbrev pub GoesOver : Shaken → Shaking → Step → Phase → Type 0
GoesOver (shaken.Still x) h s new = (s ≡ x) × (new ≡ phase.Shaking h)
GoesOver (shaken.Done resp) h s new = (s ≡ step.Handled) × (new ≡ phase.Standing (connected_by h resp))

-- A message of the handshake was handled.
pub record ShakesOn (old : Shaking) (s : Step) (new : Phase) : Type 0 where
  pub came : Shaken
  pub after : Shaking
  pub shakes : Shakes old came after
  pub goes : GoesOver came after s new

-- A message behind the handshake was handled.
pub record ConversesOn (time : ℕ) (old : ConverterView) (s : Step) (new : Phase) : Type 0 where
  pub after : ConverterView
  pub converses : Converses time old s after
  pub is : new ≡ phase.Standing after

-- what becomes of the message at the front; where none is whole, nothing
abbrev pub Steps : ℕ → Phase → Step → Phase → Type 0
Steps time (phase.Shaking h) s new = ShakesOn h s new
Steps time (phase.Standing c) s new = ConversesOn time c s new
Steps time phase.Between s new = (s ≡ step.Waiting) × (new ≡ phase.Between)
