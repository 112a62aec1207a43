-- What a server is started with.
use Rattle.std.specs.Prelude.{ℕ}
use Rattle.ei_spec.specs.declared.limits.TheConstants.{FIRST_SERVER_ID}

-- the serial of the connection, the bits of the seat's capabilities, and the most pieces that are taken
pub record Setup : Type 0 where
  pub serial : ℕ
  pub capabilities : ℕ
  pub pieces : ℕ

-- the first id that the server gives: the connection
abbrev pub connection_id : ℕ
connection_id = FIRST_SERVER_ID

-- the id of the one seat
abbrev pub seat_id : ℕ
seat_id = 0xff00000000000001
