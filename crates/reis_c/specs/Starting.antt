-- What a caller starts a session with.
use Rattle.std.specs.Prelude.{ℕ, ◌==◌, Bool, true, false}
use Rattle.ei_session.specs.Setup.{Setup}
use Rattle.reis_c.specs.Numbers.{NO_LIMIT}

-- how many pieces a session takes: without a limit 18446744073709551615
abbrev pub limit_of : Bool → ℕ → ℕ
limit_of true pieces = 18446744073709551615
limit_of false pieces = pieces

-- a setup with these capabilities, and so many pieces, or no limit of them
abbrev pub setup_for : ℕ → ℕ → ℕ → Setup
setup_for serial capabilities pieces = record { serial = serial; capabilities = capabilities; pieces = limit_of (pieces == NO_LIMIT) pieces }
