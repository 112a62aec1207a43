-- What is pending, what is added, and so what is refused.
use Rattle.std.proofs.Common.{◌≡◌, Bool, true, false, cond, not, Option, Some, None, refl}
use Rattle.std.specs.Prelude.{is_some}
use Rattle.std.specs.Option.{option_map}
use Rattle.ei_types.specs.declared.error.EventError.{EventError}
use Rattle.ei_reported.specs.Reported.{unless}
use Rattle.ei_following.specs.Core as core
use Rattle.ei_event.specs.Kept.{SeatView, DeviceView, pending_seat, added_seat, pending_device, added_device}
use Rattle.ei_event.specs.Core.{seat_core, device_core}

pub none_of : {A : Type 0} (o : Option A) → is_some o ≡ false → o ≡ None
none_of None e = refl
none_of (Some x) e = absurd cc

-- ---- seats

pub no_pending_seat : (o : Option SeatView) (why : EventError) → pending_seat o ≡ None → unless (core.pending_seat (option_map seat_core o)) why ≡ Some why
no_pending_seat None why e = refl
no_pending_seat (Some s) why e = at s.added e
  where
    at : (a : Bool) → ◌≡◌ {A = Option SeatView} (cond a None (Some s)) None → unless (not a) why ≡ Some why
    at true e = refl
    at false e = absurd cc

pub a_pending_seat : (o : Option SeatView) (s : SeatView) (why : EventError) → pending_seat o ≡ Some s → unless (core.pending_seat (option_map seat_core o)) why ≡ None
a_pending_seat None s why e = absurd cc
a_pending_seat (Some x) s why e = at x.added e
  where
    at : (a : Bool) → cond a None (Some x) ≡ Some s → unless (not a) why ≡ None
    at true e = absurd cc
    at false e = refl

pub pending_seat_is : (o : Option SeatView) → core.pending_seat (option_map seat_core o) ≡ is_some (pending_seat o)
pending_seat_is None = refl
pending_seat_is (Some s) = at s.added
  where
    at : (a : Bool) → not a ≡ is_some (cond a None (Some s))
    at true = refl
    at false = refl

pub added_seat_is : (o : Option SeatView) → core.added_seat (option_map seat_core o) ≡ is_some (added_seat o)
added_seat_is None = refl
added_seat_is (Some s) = at s.added
  where
    at : (a : Bool) → a ≡ is_some (cond a (Some s) None)
    at true = refl
    at false = refl

-- ---- devices

pub pending_device_is : (o : Option DeviceView) → core.pending_device (option_map device_core o) ≡ is_some (pending_device o)
pending_device_is None = refl
pending_device_is (Some d) = at d.added
  where
    at : (a : Bool) → not a ≡ is_some (cond a None (Some d))
    at true = refl
    at false = refl

pub added_device_is : (o : Option DeviceView) → core.added_device (option_map device_core o) ≡ is_some (added_device o)
added_device_is None = refl
added_device_is (Some d) = at d.added
  where
    at : (a : Bool) → a ≡ is_some (cond a (Some d) None)
    at true = refl
    at false = refl
