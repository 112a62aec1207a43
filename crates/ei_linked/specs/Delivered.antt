-- What a delivery does, and a source of one piece.
use Rattle.std.specs.Prelude.{◌≡◌, ℕ, ◌<◌, ◌≤◌, ◌+◌, ◌-◌, ◌^◌, Bool, true, false, List, [], ◌∷◌, length, min, Some, Result, Ok, Err}
use Rattle.ei_spec.specs.Piece.{Piece}
use Rattle.ei_spec.specs.declared.limits.TheConstants.{MOST_UNREAD_HANDLES}
use Rattle.ei_wire.specs.declared.error.ReadError.{ReadError}
use Rattle.ei_wire.specs.declared.error.ReadError.TheVariants as read_error
use Rattle.ei_backend.specs.declared.outside.LastAnswer.{LastAnswer}
use Rattle.ei_backend.specs.Outside.{SourceView}
use Rattle.ei_backend.specs.Backend.{BackendView, with_piece, with_ring, closed_of}
use Rattle.ei_ends.specs.Steps.{handed, left_over}
use Rattle.ei_linked.specs.Stored.{StoredEnd, with_endpoint}

-- what a source of one piece has left and gave, and what it answered last
pub record PortionView : Type 0 where
  pub left : List Piece
  pub given : List Piece
  pub last : LastAnswer

-- before it was asked, and after it gave the piece
abbrev pub portion : Bool → Piece → LastAnswer → PortionView
portion false piece last = record { left = piece ∷ []; given = []; last = last }
portion true piece last = record { left = []; given = piece ∷ []; last = last }

-- what it says of itself: it never fails, and doesn't count how often it is asked
abbrev pub seen_portion : PortionView → SourceView
seen_portion p = record { left = Some p.left; given = p.given; faults = 0; asked = 2 ^ 64 - 1; last = p.last }

-- an end once so many bytes of what waits were delivered, or nothing where none does
abbrev pub delivered_end : ℕ → List ℕ → Piece → StoredEnd → StoredEnd
delivered_end n [] link x = x
delivered_end n (b ∷ bytes) link x = with_endpoint (with_piece (handed n link) x.backend) x

-- and what is left of what waits
abbrev pub rest_of : ℕ → List ℕ → Piece → Piece
rest_of n [] link = link
rest_of n (b ∷ bytes) link = left_over n link

-- with the handles of a delivery of so many bytes more would be unread than may be
abbrev pub OverflowsAt : ℕ → List ℕ → Piece → BackendView → Type 0
OverflowsAt n [] link b = ⊥
OverflowsAt n (x ∷ bytes) link b = MOST_UNREAD_HANDLES < length b.handles + length (handed n link).handles

-- the end that a delivery closed: its piece is lost
abbrev pub limited_end : StoredEnd → StoredEnd
limited_end x = with_endpoint (closed_of (with_ring x.backend)) x

-- what a delivery of so many bytes answered, and what it did
abbrev pub Delivers : ℕ → Result ℕ ReadError → StoredEnd → Piece → StoredEnd → Piece → Type 0
Delivers n (Ok k) x link y left = (x.backend.closed ≡ false) × (k ≡ min n (length link.bytes)) × (OverflowsAt n link.bytes link x.backend → ⊥)
    × (y ≡ delivered_end n link.bytes link x) × (left ≡ rest_of n link.bytes link)
Delivers n (Err read_error.UnexpectedEof) x link y left = (x.backend.closed ≡ true) × (y ≡ x) × (left ≡ link)
Delivers n (Err read_error.HandleLimit) x link y left = (x.backend.closed ≡ false) × OverflowsAt n link.bytes link x.backend
    × (y ≡ limited_end x) × (left ≡ left_over n link)
Delivers n (Err read_error.NoMemory) x link y left = (x.backend.closed ≡ false) × (y ≡ x) × (left ≡ link)
Delivers n (Err read_error.ReadFault) x link y left = ⊥

-- a piece left the link
abbrev pub moves : Result ℕ ReadError → Bool
moves (Ok n) = true
moves (Err read_error.HandleLimit) = true
moves (Err e) = false

-- what a piece did to an open endpoint
abbrev pub TakesIn : Piece → Result ℕ ReadError → BackendView → BackendView → Type 0
TakesIn p (Ok n) old new = (n ≡ length p.bytes) × (length old.handles + length p.handles ≤ MOST_UNREAD_HANDLES) × (new ≡ with_piece p old)
TakesIn p (Err read_error.HandleLimit) old new = (MOST_UNREAD_HANDLES < length old.handles + length p.handles) × (new ≡ closed_of (with_ring old))
TakesIn p (Err read_error.NoMemory) old new = new ≡ old
TakesIn p (Err e) old new = ⊥
