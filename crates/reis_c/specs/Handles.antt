-- Handles as numbers.
use Rattle.std.specs.Prelude.{ℕ}
use Rattle.ei_spec.specs.declared.handle.Handle.{Handle}

-- the handle of a number
abbrev pub handle_of : ℕ → Handle
handle_of n = record { 0 = n }
