-- What is said of a record that is played.
use Rattle.std.specs.Prelude.{◌≡◌, ℕ, List, reverse}
use Rattle.ei_spec.specs.Stream.{stream_of}
use Rattle.ei_session.specs.Setup.{Setup}
use Rattle.ei_session.specs.Requests.{Request, framed}
use Rattle.ei_session.specs.Served.{accepted}
use Rattle.ei_playing.specs.Playing.{messages}

-- the bytes that the items are played as, the oldest first
unfoldable pub played_bytes : List Request → List ℕ
played_bytes items = stream_of (messages (reverse items))

-- The bytes are those of the messages that are accepted of them, and these give the items, whatever the clock told.
pub record Plays (setup : Setup) (bytes : List ℕ) (items : List Request) : Type 0 where
  pub whole : bytes ≡ stream_of (accepted setup bytes)
  pub requests : (readings : List ℕ) → framed setup readings (accepted setup bytes) ≡ items
