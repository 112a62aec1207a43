-- The keymaps of a description, by their handles.
use Rattle.std.proofs.Common.{◌≡◌, List, [], ◌∷◌, length, refl, arith}
use Rattle.std.specs.Prelude.{nat_lt, cond}
use Rattle.std.specs.List.{count_by}
use Rattle.std.proofs.lemmas.List.Sums.{sum_by-cons}
use Rattle.ei_request.specs.Making.{setup_handle, setup_handles}
use Rattle.ei_request.specs.declared.making.DeviceSetup.{DeviceSetup}
use Rattle.ei_request.specs.declared.making.DeviceSetup.TheVariants as setup

-- each has one handle, and nothing else has any
pub counted : (items : List DeviceSetup) → count_by (λ item. nat_lt 0 (length (setup_handle item))) items ≡ length (setup_handles items)
counted [] = refl
counted (setup.Dimensions w h ∷ items) = omega (arith, counted items, sum_by-cons (λ (item : DeviceSetup). cond (nat_lt 0 (length (setup_handle item))) 1 0) (setup.Dimensions w h) items)
counted (setup.RegionMappingId i ∷ items) = omega (arith, counted items, sum_by-cons (λ (item : DeviceSetup). cond (nat_lt 0 (length (setup_handle item))) 1 0) (setup.RegionMappingId i) items)
counted (setup.Region x y w h s ∷ items) = omega (arith, counted items, sum_by-cons (λ (item : DeviceSetup). cond (nat_lt 0 (length (setup_handle item))) 1 0) (setup.Region x y w h s) items)
counted (setup.Keymap k s h ∷ items) = omega (arith, counted items, sum_by-cons (λ (item : DeviceSetup). cond (nat_lt 0 (length (setup_handle item))) 1 0) (setup.Keymap k s h) items)
