-- The keys by which a caller names a seat and a device: their objects, told apart by their ids.
use Rattle.std.specs.Prelude.{ℕ, Bool, List, ◌++◌, nat_eq, codes, decimal, refl}
use Rattle.std.specs.Cmp.{IsEquivalence, and_equiv, on_equiv, nat_eq_equiv}
use Rattle.std.specs.Ordering.{on, eq_of_both}
use Rattle.std.specs.Coded.{Coded, code_by, coded×}
use Rattle.ei_spec.specs.Interface.{ObjectView}
use Rattle.ei_backend.specs.Codes.{object_code}

-- a device, with the seat that it is of
pub record DeviceKey : Type 0 where
  pub seat : ObjectView
  pub proxy : ObjectView

abbrev pub device_key_code : Coded DeviceKey
device_key_code = code_by (ObjectView × ObjectView) (coded× object_code object_code) (λ d. (d.seat, d.proxy)) (λ p. record {
  seat = p.0;
  proxy = p.1;
}) (λ _. refl)

-- seats are told apart by their ids
abbrev pub same_seat : ObjectView → ObjectView → Bool
same_seat = on (λ s. s.id) nat_eq

-- devices by those of the seat and of themselves
abbrev pub same_device : DeviceKey → DeviceKey → Bool
same_device = eq_of_both (on (λ d. d.seat.id) nat_eq) (on (λ d. d.proxy.id) nat_eq)

-- both are equivalences
pub same_seat_equiv : IsEquivalence same_seat
same_seat_equiv = on_equiv (λ s. s.id) nat_eq_equiv

pub same_device_equiv : IsEquivalence same_device
same_device_equiv = and_equiv (on_equiv (λ d. d.seat.id) nat_eq_equiv) (on_equiv (λ d. d.proxy.id) nat_eq_equiv)

-- how a seat and a device are shown, as `Seat(5)`
abbrev pub seat_text : ObjectView → List ℕ
seat_text s = codes "Seat(" ++ decimal s.id ++ codes ")"

abbrev pub device_text : DeviceKey → List ℕ
device_text d = codes "Device(" ++ decimal d.proxy.id ++ codes ")"
