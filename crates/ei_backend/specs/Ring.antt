-- How the ring of unread bytes grows.
use Rattle.std.specs.Prelude.{ℕ, zero, suc, ◌+◌, ◌*◌, nat_lt, if◌then◌else◌}
use Rattle.ei_spec.specs.declared.limits.TheConstants.{MOST_PIECE_BYTES}

-- the bytes that a new ring holds
abbrev pub first_capacity : ℕ
first_capacity = 131072

-- the first of capacity, its double, the double of that and so on that is at least wanted, after at most k doublings
unfoldable pub doubled : ℕ → ℕ → ℕ → ℕ
doubled zero wanted capacity = capacity
doubled (suc k) wanted capacity = if nat_lt capacity wanted then doubled k wanted (2 * capacity) else capacity

-- what a ring of that capacity, with n bytes in it, holds once room was made for one more piece
unfoldable pub grown : ℕ → ℕ → ℕ
grown n capacity = if nat_lt capacity (n + MOST_PIECE_BYTES) then doubled n (n + MOST_PIECE_BYTES) first_capacity else capacity
