-- The pieces in which bytes and handles come.
use Rattle.std.specs.Prelude.{ℕ, List, length}
use Rattle.std.specs.List.{flat_map, sum_by}
use Rattle.ei_spec.specs.declared.handle.Handle.{Handle}

-- bytes, and the handles that come with them
pub record Piece : Type 0 where
  pub bytes : List ℕ
  pub handles : List Handle

-- the bytes of pieces, one after another
unfoldable pub stream : List Piece → List ℕ
stream pieces = flat_map (λ p. p.bytes) pieces

-- how many handles come with pieces
unfoldable pub handle_count : List Piece → ℕ
handle_count pieces = sum_by (λ p. length p.handles) pieces
