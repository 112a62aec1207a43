-- What was fed to a server.
use Rattle.std.specs.Prelude.{ℕ, ◌-◌, List, [], ◌∷◌, replicate}
use Rattle.ei_spec.specs.declared.handle.Handle.{Handle}
use Rattle.ei_spec.specs.Message.{Raw}
use Rattle.ei_spec.specs.Piece.{Piece}
use Rattle.ei_spec.specs.History.{each, joined}
use Rattle.ei_spec.specs.Groups.{frames_made}
use Rattle.ei_session.specs.Setup.{Setup}
use Rattle.ei_session.specs.Requests.{slot}
use Rattle.ei_session.specs.Served.{session}
use Rattle.ei_serve.specs.Taking.{with_next}

-- a piece, and the time that was handed in with it
pub record Fed : Type 0 where
  pub piece : Piece
  pub time : ℕ

abbrev pub fed_of : List ℕ → List Handle → ℕ → Fed
fed_of bytes handles time = record { piece = record { bytes = bytes; handles = handles }; time = time }

-- The pieces in their order: what was fed is a history, the newest first.
abbrev pub pieces_of : List Fed → List Piece
pieces_of [] = []
pieces_of (f ∷ before) = with_next (pieces_of before) f.piece

-- the messages that a session over these pieces handles, the newest first
unfoldable pub handled : Setup → List Fed → List Raw
handled setup fed = (session setup (pieces_of fed)).handled

-- how many frames these messages make
unfoldable pub frames : Setup → List Raw → ℕ
frames setup messages = frames_made (each (slot setup) messages)

-- the time of a piece, once for each frame that it makes
abbrev pub readings_with : Setup → List Fed → Fed → List ℕ
readings_with setup before f = replicate (frames setup (handled setup (f ∷ before)) - frames setup (handled setup before)) f.time

-- the readings of the clock: each frame that is made takes the time of the piece that makes it
unfoldable pub readings_of : Setup → List Fed → List ℕ
readings_of setup fed = joined (readings_with setup) fed
