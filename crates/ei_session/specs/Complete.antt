-- Pieces that make a good end sure.
use Rattle.std.specs.Prelude.{ℕ, ◌≤◌, Bool, false, not, List, take, length, unwrap_or}
use Rattle.ei_spec.specs.Message.{Raw}
use Rattle.ei_spec.specs.Stream.{Stop, Ended}
use Rattle.ei_spec.specs.Piece.{Piece, stream, handle_count}
use Rattle.ei_session.specs.Setup.{Setup}
use Rattle.ei_session.specs.Refusals.{Refusal}
use Rattle.ei_session.specs.Served.{ran_out, least, read_first, IsValid}
use Rattle.ei_spec.specs.declared.limits.TheConstants.{MOST_UNREAD_HANDLES}

-- whether reading stopped so at a disconnect of the client
abbrev pub is_left : Stop Refusal → List Raw → Bool
is_left Ended past = not (ran_out past)
is_left stop past = false

-- whether the first k pieces joined stop at a disconnect
unfoldable pub disconnects : Setup → List Piece → ℕ → Bool
disconnects setup pieces k = is_left (read_first setup pieces k).stop (read_first setup pieces k).past

-- the least number of pieces which joined stop at a disconnect, or the number of all pieces where there is none
unfoldable pub needed : Setup → List Piece → ℕ
needed setup pieces = unwrap_or (least (disconnects setup pieces) 1 (length pieces)) (length pieces)

-- The pieces that are needed are valid when joined, no more than the setup takes, and come with no more handles than may be unread.
pub record AreComplete (setup : Setup) (pieces : List Piece) : Type 0 where
  pub valid : IsValid setup (stream (take (needed setup pieces) pieces))
  pub few : needed setup pieces ≤ setup.pieces
  pub handles : handle_count (take (needed setup pieces) pieces) ≤ MOST_UNREAD_HANDLES
