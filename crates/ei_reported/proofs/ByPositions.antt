-- What stands, told by positions.
use Rattle.std.proofs.Common.{◌≡◌, ℕ, true, ◌&&◌, ◌||◌, not, cond, eqb, List, Some, None, refl}
use Rattle.std.specs.Prelude.{◌↔◌, is_some}
use Rattle.std.specs.Str.{bytes_eq}
use Rattle.ei_spec.specs.declared.interface.KnownInterface.{KnownInterface}
use Rattle.ei_spec.specs.History.{HasLasted}
use Rattle.ei_spec.proofs.LastsLaws.{found, shown}
use Rattle.ei_reported.specs.Said.{Said, DeviceComes, DeviceGets, DeviceDone, DeviceGoes, Goes}
use Rattle.ei_reported.specs.Standing.{seat_comes, seat_done, seat_goes, device_typed_by, device_done, device_goes, adds_seat, device_comes}
use Rattle.ei_reported.specs.Standing.{completes}
use Rattle.ei_reported.specs.Standing.{Offer, offer, offers, takes, is_held, seat_pending, seat_added, device_pending, device_typed, device_added}
use Rattle.ei_reported.proofs.AfterEachKind.{adds, comes_at, completes_is, gets_at, named_at, done_takes_at, goes_at}

pub seat_pending_by : (before : List Said) (seat : ℕ) → (seat_pending before seat ≡ true) ↔ HasLasted (λ b m. seat_comes seat m) (λ b m. seat_done seat m || seat_goes seat m) before
unfolding seat_pending
seat_pending_by before seat = (found (λ b m. seat_comes seat m) (λ b m. seat_done seat m || seat_goes seat m) before, shown (λ b m. seat_comes seat m) (λ b m. seat_done seat m || seat_goes seat m) before)

pub seat_added_by : (before : List Said) (seat : ℕ) → (seat_added before seat ≡ true) ↔ HasLasted (adds_seat seat) (λ b m. seat_goes seat m) before
unfolding seat_added
seat_added_by before seat = (found (adds_seat seat) (λ b m. seat_goes seat m) before, shown (adds_seat seat) (λ b m. seat_goes seat m) before)

pub device_pending_by : (before : List Said) (d : ℕ) → (device_pending before d ≡ true) ↔ HasLasted (device_comes d) (λ b m. device_done d m || device_goes d m) before
unfolding device_pending
device_pending_by before d = (found (device_comes d) (λ b m. device_done d m || device_goes d m) before, shown (device_comes d) (λ b m. device_done d m || device_goes d m) before)

pub device_typed_at : (before : List Said) (d : ℕ) → (device_typed before d ≡ true) ↔ HasLasted (λ b m. device_typed_by d m) (device_comes d) before
unfolding device_typed
device_typed_at before d = (found (λ b m. device_typed_by d m) (device_comes d) before, shown (λ b m. device_typed_by d m) (device_comes d) before)

pub device_added_by : (before : List Said) (d : ℕ) → (device_added before d ≡ true) ↔ HasLasted (completes true d) (λ b m. device_goes d m) before
unfolding device_added
device_added_by before d = (found (completes true d) (λ b m. device_goes d m) before, shown (completes true d) (λ b m. device_goes d m) before)

pub is_held_by : (before : List Said) (id : ℕ) (o : Offer) → (is_held id o before ≡ true) ↔ HasLasted (λ b m. is_some (offers id b m)) (takes id o) before
unfolding is_held
is_held_by before id o = (found (λ b m. is_some (offers id b m)) (takes id o) before, shown (λ b m. is_some (offers id b m)) (takes id o) before)

-- ---- what starts and ends

pub adds_seat_is : (before : List Said) (m : Said) (seat : ℕ) → adds_seat seat before m ≡ (seat_done seat m && seat_pending before seat)
adds_seat_is before m seat = adds before seat m

pub completes_typed : (before : List Said) (m : Said) (device : ℕ) → completes true device before m ≡ (device_done device m && (device_pending before device && device_typed before device))
completes_typed before m device = completes_is true before device m

pub device_comes_is : (before : List Said) (seat d device : ℕ) → device_comes device before (DeviceComes seat d) ≡ (eqb d device && seat_added before seat)
device_comes_is before seat d device = comes_at before seat d device (eqb d device) refl

pub offers_is : (before : List Said) (d i : ℕ) (name : List ℕ) (version id : ℕ) → offers id before (DeviceGets d i name version) ≡ cond (eqb i id && device_pending before d) (Some (offer d name version)) None
offers_is before d i name version id = gets_at before d i name version id (eqb i id) (device_pending before d) refl refl

pub takes_another : (before : List Said) (d i : ℕ) (name : List ℕ) (version id : ℕ) (o : Offer) → takes id o before (DeviceGets d i name version) ≡ ((eqb d o.device && bytes_eq name o.name) && device_pending before d)
takes_another before d i name version id o = named_at before d i name version id o (eqb d o.device && bytes_eq name o.name) (device_pending before d) refl refl

pub takes_device_goes : (before : List Said) (d serial id : ℕ) (o : Offer) → takes id o before (DeviceGoes d serial) ≡ eqb d o.device
unfolding takes
takes_device_goes before d serial id o = refl

pub takes_dropped : (before : List Said) (d id : ℕ) (o : Offer) → takes id o before (DeviceDone d) ≡ (eqb d o.device && (device_pending before d && not (device_typed before d)))
takes_dropped before d id o = done_takes_at before d id o (eqb d o.device) (device_pending before d) refl refl

pub takes_goes : (before : List Said) (k : KnownInterface) (i serial id : ℕ) (o : Offer) → takes id o before (Goes k i serial) ≡ (eqb i id && device_added before o.device)
takes_goes before k i serial id o = goes_at before k i serial id o (eqb i id) refl
