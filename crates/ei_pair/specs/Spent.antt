-- A call spent a pair: what it wrote or took isn't stored for want of memory. What holds beside the lists.
use Rattle.std.specs.Prelude.{◌≡◌, true}
use Rattle.ei_linked.specs.declared.side.Side.{Side}
use Rattle.ei_linked.specs.TwoEnds.{other_side, stored_of}
use Rattle.ei_promises.specs.Pair.{PairView, wanted}
use Rattle.ei_promises.specs.Stepping.{IsSpent}

-- a side that was closed is closed still
abbrev pub StaysClosed : {H : Type 0} → Side → PairView H → PairView H → Type 0
StaysClosed side old new = (stored_of side old.ends).backend.closed ≡ true → (stored_of side new.ends).backend.closed ≡ true

-- A call of the server or the client spent the pair. Whether a step of a side wanted memory is as it was, and whether the server was
-- steady: the call was refused.
pub record SpendsAtCall {H : Type 0} (old new : PairView H) : Type 0 where
  pub lists : IsSpent old new
  pub wants : (side : Side) → wanted side new ≡ wanted side old
  pub steady : new.steady ≡ old.steady
  pub closed : (side : Side) → StaysClosed side old new

-- a step of the side spent the pair: it wanted memory, and of the other side that is as it was
pub record SpendsAtStep {H : Type 0} (side : Side) (old new : PairView H) : Type 0 where
  pub lists : IsSpent old new
  pub wants : wanted side new ≡ true
  pub other : wanted (other_side side) new ≡ wanted (other_side side) old
  pub steady : new.steady ≡ old.steady
  pub closed : (end : Side) → StaysClosed end old new
