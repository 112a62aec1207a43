-- The lines that were taken of what an input gave, and what waits behind them.
use Rattle.std.specs.Prelude.{◌≡◌, ◌<◌, ◌≤◌, ℕ, false, List, ◌++◌, length, take, map}
use Rattle.ei_spec.specs.Piece.{Piece}
use Rattle.reis_lines.specs.Text.{before_newline, Spell}
use Rattle.reis_lines.specs.Asking.{given_in, says_end, last_is}
use Rattle.reis_lines.specs.HexSource.{WantsLine, joined_lines}
use Rattle.reis_lines.specs.Input.{Fetched}
use Rattle.reis_lines.specs.declared.held.TheConstants.{ROOM}

-- What was given in these answers are the lines that spell these pieces, and behind them the bytes that wait: no more than a line's
-- buffer has room for. Each answer was asked for where no line was there behind the first of these lines, and no end was answered before.
pub record GaveLines (fetches : List Fetched) (pieces : List Piece) (waiting : List ℕ) : Type 0 where
  pub lines : List (List ℕ)
  pub same : given_in fetches ≡ joined_lines lines ++ waiting
  pub spelled : Spell (map before_newline lines) pieces
  pub room : length waiting ≤ ROOM
  pub open_yet : (k : ℕ) → k < length fetches → last_is says_end (take k fetches) ≡ false
  pub needed : (k : ℕ) → k < length fetches → WantsLine (given_in (take k fetches)) lines
