-- What a program of the fixed policy does with a connection, by its calls.
use Rattle.std.specs.Prelude.{◌≡◌, ◌==◌, ℕ, Bool, true, false, List, [], ◌∷◌, ◌++◌, length, Option, Some, None}
use Rattle.ei_spec.specs.Message.{Raw, Short, Whole, front}
use Rattle.ei_spec.specs.Piece.{Piece}
use Rattle.ei_backend.specs.Outgoing.{unsent_after}
use Rattle.ei_input.specs.Queue.{first_of, rest_of}
use Rattle.ei_types.specs.Capability.{bits_of}
use Rattle.ei_types.specs.declared.capability.DeviceCapabilities.{DeviceCapabilities}
use Rattle.ei_types.specs.declared.enums.DeviceType.TheVariants.{Virtual}
use Rattle.ei_session.specs.Setup.{Setup}
use Rattle.ei_request.specs.Handling.{set_of}
use Rattle.ei_request.specs.declared.event.EisRequest.{EisRequest}
use Rattle.ei_request.specs.declared.event.EisRequest.TheVariants as asked
use Rattle.reis_eis.specs.declared.call_error.CallError.TheVariants as call_error
use Rattle.reis_eis.specs.declared.ending.Ending.{Ending}
use Rattle.reis_eis.specs.declared.ending.Ending.TheVariants as ending
use Rattle.reis_eis.specs.declared.phase.Phase.{Phase}
use Rattle.reis_eis.specs.declared.phase.Phase.TheVariants as phase
use Rattle.reis_eis.specs.View.{EisView}
use Rattle.reis_eis.specs.Words.{context_in, unread_of, unsent_in, queue_in, with_queue}
use Rattle.reis_eis.specs.Starting.{with_unsent_in}
use Rattle.reis_eis.specs.Refusals.{adding_device}
use Rattle.reis_eis.specs.Feeding.{Feeds}
use Rattle.reis_eis.specs.Acting.{AddsSeatAs, AddsDeviceAs, Resumes, RemovesDeviceAt, ActsOn, refusal}

-- ---- behind the handshake

-- it adds a seat of the setup's capabilities, without a name
pub record AddsTheSeat (setup : Setup) (old new : EisView) : Type 0 where
  pub id : ℕ
  pub adds : ActsOn (AddsSeatAs id None (set_of setup.capabilities)) old new

-- where the piece ended the handshake, and else nothing
abbrev pub AddsSeatBehind : Setup → Phase → Phase → EisView → EisView → Type 0
AddsSeatBehind setup (phase.Shaking before) (phase.Standing now) old new = AddsTheSeat setup old new
AddsSeatBehind setup before now old new = new ≡ old

-- ---- behind a request

-- a virtual device of what is wanted is added to the seat, without a name, and resumed; neither call is refused
pub record AddsAndResumes (seat : ℕ) (wanted : DeviceCapabilities) (old new : EisView) : Type 0 where
  pub id : ℕ
  pub added : EisView
  pub accepted : refusal (adding_device seat None wanted []) old ≡ None
  pub adds : ActsOn (AddsDeviceAs id seat None Virtual wanted []) old added
  pub resumes : ActsOn (Resumes id) added new

-- where some capability is wanted
abbrev pub AddsWanted : Bool → ℕ → DeviceCapabilities → EisView → EisView → Type 0
AddsWanted true seat wanted old new = new ≡ old
AddsWanted false seat wanted old new = AddsAndResumes seat wanted old new

-- what it does behind a request: what `serve` does
abbrev pub Does : EisRequest → EisView → EisView → Type 0
Does (asked.Bind r) old new = AddsWanted (bits_of r.capabilities == 0) r.seat.id r.capabilities old new
Does (asked.RequestDevice r) old new = AddsWanted (bits_of r.capabilities == 0) r.seat.id r.capabilities old new
Does (asked.DeviceClosed r) old new = ActsOn (RemovesDeviceAt r.device.proxy.id) old new
Does other old new = new ≡ old

-- the connection whose first request was taken out
abbrev pub taken_from : EisView → EisView
taken_from e = record e { phase = with_queue e.phase (rest_of (queue_in e.phase)) }

-- it takes these requests out, one after another until none waits, and acts behind each
abbrev pub TakesOut : List EisRequest → EisView → EisView → Type 0
TakesOut [] old new = (first_of (queue_in old.phase) ≡ None) × (new ≡ old)
TakesOut (r ∷ rs) old new =
    (first_of (queue_in old.phase) ≡ Some r) × ((done : EisView) × Does r (taken_from old) done × TakesOut rs done new)

-- the call of the device that a request wants is refused, since too few ids are left
abbrev pub LacksWanted : Bool → ℕ → DeviceCapabilities → EisView → Type 0
LacksWanted true seat wanted e = ⊥
LacksWanted false seat wanted e = refusal (adding_device seat None wanted []) e ≡ Some call_error.IdsExhausted

abbrev pub LacksIds : EisRequest → EisView → Type 0
LacksIds (asked.Bind r) e = LacksWanted (bits_of r.capabilities == 0) r.seat.id r.capabilities e
LacksIds (asked.RequestDevice r) e = LacksWanted (bits_of r.capabilities == 0) r.seat.id r.capabilities e
LacksIds r e = ⊥

-- it takes requests out so up to one for whose device too few ids are left
abbrev pub TakesOutTo : List EisRequest → EisView → Type 0
TakesOutTo [] old = ⊥
TakesOutTo (r ∷ []) old = (first_of (queue_in old.phase) ≡ Some r) × LacksIds r (taken_from old)
TakesOutTo (r ∷ s ∷ rs) old =
    (first_of (queue_in old.phase) ≡ Some r)
    × ((done : EisView) × Does r (taken_from old) done × TakesOutTo (s ∷ rs) done)

-- ---- a turn

-- a piece that comes from the client, and the time, in microseconds
pub record Came : Type 0 where
  pub piece : Piece
  pub time : ℕ

-- the bytes that are unread once the piece came
abbrev pub unread_with : EisView → Came → List ℕ
unread_with e c = unread_of (context_in e.phase) ++ c.piece.bytes

-- of these bytes at most one message is whole, and no whole message follows it
abbrev pub HasOneAtMost : List ℕ → Type 0
HasOneAtMost bytes = (m : Raw) (after : List ℕ) → front bytes ≡ Whole m after → front after ≡ Short

-- A turn: a piece is handed in, the seat is added where that ended the handshake, and all requests are taken out,
-- acting behind each.
pub record Turns (setup : Setup) (c : Came) (old : EisView) (handed : List EisRequest) (new : EisView) : Type 0 where
  pub fed : EisView
  pub feeds : Feeds c.piece c.time old fed
  pub seated : EisView
  pub seats : AddsSeatBehind setup old.phase fed.phase fed seated
  pub takes : TakesOut handed seated new

-- A turn in which the ids run out: the client is let go, and nothing more is written.
pub record GivesUp (c : Came) (old : EisView) (handed : List EisRequest) : Type 0 where
  pub fed : EisView
  pub feeds : Feeds c.piece c.time old fed
  pub takes : TakesOutTo handed fed

-- all that waits is written, and the connection is told so
pub record WritesAll (written : List ℕ) (old new : EisView) : Type 0 where
  pub all : written ≡ (unsent_in old.phase).bytes
  pub told : new ≡ with_unsent_in old (unsent_after (length written) (unsent_in old.phase))

-- behind a turn; a client whose message was refused is let go, and nothing more is written
abbrev pub WritesBehind : Option Ending → List ℕ → EisView → EisView → Type 0
WritesBehind (Some (ending.Refused e)) written old new = (written ≡ []) × (new ≡ old)
WritesBehind how written old new = WritesAll written old new
