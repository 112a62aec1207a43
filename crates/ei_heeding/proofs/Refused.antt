-- A refused event makes no frame.
use Rattle.std.proofs.Common.{◌≡◌, ℕ, Bool, true, false, cond, [], Option, Some, None, refl}
use Rattle.std.specs.Prelude.{is_some}
use Rattle.ei_types.specs.declared.error.EventError.{EventError}
use Rattle.ei_types.specs.declared.error.EventError.TheVariants as event
use Rattle.ei_reported.specs.Said.{Told, Resumed, Paused, StartEmulating, StopEmulating, Frame}
use Rattle.ei_reported.specs.Said.{Said, DeviceTells, DeviceGoes, Modifies}
use Rattle.ei_reported.specs.Reported.{unless}
use Rattle.ei_following.specs.Core.{DeviceCore, Core, refused, closed_group, of_told, closing_told, added_device, waiting_at, device_in, holder_in}

none_of_told : (t : Told) → of_told t [] ≡ []
none_of_told Resumed = refl
none_of_told Paused = refl
none_of_told (StartEmulating sequence) = refl
none_of_told StopEmulating = refl
none_of_told (Frame time) = refl

tells_nothing : (t : Told) (o : Option DeviceCore) (why : EventError) → unless (added_device o) event.DeviceEventBeforeDone ≡ Some why → closing_told t o ≡ []
tells_nothing t None why e = none_of_told t
tells_nothing t (Some d) why e = at d.added e
  where
    at : (a : Bool) → unless a event.DeviceEventBeforeDone ≡ Some why → of_told t (cond a d.waiting []) ≡ []
    at true e = absurd cc
    at false e = none_of_told t

none_waits_at : (c : Core) (o : Option ℕ) (why : EventError) → unless (is_some o) event.DeviceEventBeforeDone ≡ Some why → waiting_at c o ≡ []
none_waits_at c None why e = refl
none_waits_at c (Some id) why e = absurd cc

pub closes_nothing : (c : Core) (m : Said) (why : EventError) → refused c m ≡ Some why → closed_group c m ≡ []
closes_nothing c (DeviceTells device serial t) why e = tells_nothing t (device_in c device) why e
closes_nothing c (DeviceGoes device serial) why e = absurd cc
closes_nothing c (Modifies id serial depressed locked latched group) why e = none_waits_at c (holder_in c id) why e
closes_nothing c m why e = refl
