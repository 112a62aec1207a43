-- Refusals that rest on two tests.
use Rattle.std.proofs.Common.{◌≡◌, ℕ, Bool, true, false, not, ◌||◌, cond, List, [], ◌∷◌, Some, None, refl}
use Rattle.std.specs.Prelude.{is_some}
use Rattle.ei_spec.specs.declared.interface.KnownInterface.{KnownInterface}
use Rattle.ei_types.specs.declared.error.EventError.{EventError}
use Rattle.ei_types.specs.declared.error.EventError.TheVariants as error
use Rattle.ei_types.specs.Capability.{capability_named}
use Rattle.ei_spec.specs.FromValues.{first}
use Rattle.ei_reported.specs.Said.{Said, SeatHas, DeviceDone, Goes}
use Rattle.ei_reported.specs.Standing.{seat_pending, device_pending, device_typed, holder}
use Rattle.ei_reported.specs.Reported.{goes_freely, unless, refusal}

-- one test after another
in_order : (a b : Bool) (x y : EventError) → first (unless a x ∷ unless b y ∷ []) ≡ cond (not a) (Some x) (cond b None (Some y))
in_order true true x y = refl
in_order true false x y = refl
in_order false b x y = refl

pub refused_capability : (before : List Said) (seat : ℕ) (name : List ℕ) → refusal before (SeatHas seat name) ≡
    cond (not (seat_pending before seat)) (Some error.SeatSetupEventAfterDone) (cond (is_some (capability_named name)) None (Some error.UnknownCapabilityInterface))
refused_capability before seat name = in_order (seat_pending before seat) (is_some (capability_named name)) error.SeatSetupEventAfterDone error.UnknownCapabilityInterface

pub refused_device_done : (before : List Said) (device : ℕ) → refusal before (DeviceDone device) ≡
    cond (not (device_pending before device)) (Some error.DeviceSetupEventAfterDone) (cond (device_typed before device) None (Some error.NoDeviceType))
refused_device_done before device = in_order (device_pending before device) (device_typed before device) error.DeviceSetupEventAfterDone error.NoDeviceType

either : (a b : Bool) (x : EventError) → cond a None (unless b x) ≡ cond (a || b) None (Some x)
either true b x = refl
either false b x = refl

pub refused_goes : (before : List Said) (interface : KnownInterface) (id serial : ℕ) → refusal before (Goes interface id serial) ≡
    cond (goes_freely interface || is_some (holder before id)) None (Some error.DeviceEventBeforeDone)
refused_goes before interface id serial = either (goes_freely interface) (is_some (holder before id)) error.DeviceEventBeforeDone
