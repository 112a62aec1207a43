-- What is sent for an item, and what a server is told by it.
use Rattle.std.specs.Prelude.{◌≡◌, ℕ, ◌<◌, ◌⊎◌, true, List, [], ◌∷◌, ◌++◌, Option, Some, None, Result, Ok, Err, if◌then◌else◌, ◌==◌}
use Rattle.ei_spec.specs.declared.interface.KnownInterface.TheVariants as known
use Rattle.ei_spec.specs.Interface.{ObjectView, Known}
use Rattle.ei_spec.specs.Piece.{Piece}
use Rattle.ei_types.specs.Capability.{bits_of}
use Rattle.ei_types.specs.declared.error.Error.{Error}
use Rattle.ei_backend.specs.Backend.{BackendView, after_row}
use Rattle.ei_session.specs.Setup.{Setup, connection_id}
use Rattle.ei_session.specs.Devices.{interfaces_of}
use Rattle.ei_request.specs.declared.event.EisRequest.{EisRequest}
use Rattle.ei_serve.specs.declared.session.Turn.{Turn}
use Rattle.ei_serve.specs.declared.state.SessionState.{SessionState}
use Rattle.ei_serve.specs.Around.{Around}
use Rattle.ei_serve.specs.Steps.{bytes_only}
use Rattle.ei_serve.specs.Turning.{Turns}
use Rattle.ei_playing.specs.Playing.{Call, row_of, interface_id}
use Rattle.ei_player.specs.Objects.{Announces}
use Rattle.ei_replay.specs.Made.{MadeView}
use Rattle.ei_replay.specs.Played.{open_device}
use Rattle.ei_replay.specs.declared.played.Played.{Played}
use Rattle.ei_replay.specs.declared.step.Step.{Step}
use Rattle.ei_replay.specs.declared.step.Step.TheVariants as step
use Rattle.ei_replay.specs.declared.error.ReplayError.{ReplayError}
use Rattle.ei_replay.specs.declared.error.ReplayError.TheVariants as replay_error

-- ---- one request

-- an object of that id; of the target of a request nothing else counts
abbrev pub named : ℕ → ObjectView
named id = record { id = id; interface = Known known.Handshake; version = 1; client_side = true }

-- the endpoint after the request was sent
abbrev pub after_call : Call → BackendView → BackendView
after_call c b = after_row (row_of c) (named c.id) c.values b

-- ---- where it goes

-- the mask of a device that is there
abbrev pub mask_in : Option MadeView → ℕ
mask_in None = 0
mask_in (Some m) = m.mask

-- the id of the object that an item is sent to, by what the items before it came to
abbrev pub target_at : Played → Step → ℕ
target_at p step.End = connection_id
target_at p (step.Ask seat mask) = seat
target_at p (step.Name device) = device
target_at p (step.Close device) = device
target_at p (step.Frame device time) = device
target_at p (step.Input device time capability kind) = interface_id device (mask_in (open_device p device)) capability

-- there are ids behind that of the device of an input
abbrev pub HasIdsBehind : Step → Type 0
HasIdsBehind (step.Input device time capability kind) = device < 18446744073709551607
HasIdsBehind s = Unit {0}

-- the device that an item makes was announced, if it makes one
abbrev pub AnnouncesAt : Option ℕ → ℕ → BackendView → BackendView → Type 0
AnnouncesAt None mask old new = new ≡ old
AnnouncesAt (Some id) mask old new = Announces id (interfaces_of mask) old new

abbrev pub AnnouncesMade : Option ℕ → Step → BackendView → BackendView → Type 0
AnnouncesMade next (step.Ask seat mask) old new = AnnouncesAt (if bits_of mask == 0 then None else next) (bits_of mask) old new
AnnouncesMade next s old new = new ≡ old

-- ---- the server's turn

-- a setup of so many pieces as there can be
abbrev pub of_most_pieces : Setup → Setup
of_most_pieces s = record { serial = s.serial; capabilities = s.capabilities; pieces = 4294967295 }

-- what a turn over one piece of these bytes answered, and what was handed out
pub record Turned (setup : Setup) (pieces : List Piece) (times bytes : List ℕ) (answer : Result Turn Error) (s : SessionState) (out_old out_new : List EisRequest) : Type 0 where
  pub before : Around
  pub after : Around
  pub turns : Turns setup pieces times answer s before after
  pub one : before.source.left ≡ Some (bytes_only bytes ∷ [])
  pub out_was : before.out ≡ out_old
  pub out_is : after.out ≡ out_new

-- the bytes were told, and the session took its turn; or memory ran out, before that or in it
abbrev pub Delivers : Setup → List Piece → List ℕ → List ℕ → Result (Unit {0}) ReplayError → SessionState → List ℕ → List ℕ → List EisRequest → List EisRequest → Type 0
Delivers setup pieces times bytes (Ok done) s stream_old stream_new out_old out_new =
    (stream_new ≡ stream_old ++ bytes) × ((t : Turn) × Turned setup pieces times bytes (Ok t) s out_old out_new)
Delivers setup pieces times bytes (Err replay_error.NoMemory) s stream_old stream_new out_old out_new =
    ((stream_new ≡ stream_old) × (out_new ≡ out_old))
    ⊎ ((stream_new ≡ stream_old ++ bytes) × ((out_new ≡ out_old) ⊎ ((e : Error) × Turned setup pieces times bytes (Err e) s out_old out_new)))
Delivers setup pieces times bytes (Err (replay_error.NotReplayable place)) s stream_old stream_new out_old out_new = ⊥
