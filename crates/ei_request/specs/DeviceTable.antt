-- The devices of a connection, each under a number, and which number an id has.
use Rattle.std.specs.Prelude.{◌≡◌, ℕ, ◌+◌, ◌<◌, ◌≤◌, ◌^◌, Bool, true, false, List, [], ◌∷◌, ◌++◌, map, length, Option, Some, None, if◌then◌else◌, not, refl}
use Rattle.std.specs.Coded.{Coded, code_by, coded×, coded_ℕ, coded_list}
use Rattle.ei_keyed.specs.Keyed.{keyed, without_key, RiseWithin}
use Rattle.ei_request.specs.Held.{DeviceView, device_code, is_device, is_of_key, is_of_seat, has_interface}
use Rattle.ei_request.specs.declared.device_table.Sought.{Sought}
use Rattle.ei_request.specs.declared.device_table.Sought.TheVariants.{Device, Key, Interface}

-- the devices, how many more there is room for, for how many more ids, and how many devices there have been
pub record TableView : Type 0 where
  pub items : List DeviceView
  pub room : ℕ
  pub id_room : ℕ
  pub next : ℕ

abbrev pub table_code : Coded TableView
table_code = code_by (List DeviceView × (ℕ × (ℕ × ℕ))) (coded× (coded_list device_code) (coded× coded_ℕ (coded× coded_ℕ coded_ℕ)))
    (λ d. (d.items, (d.room, (d.id_room, d.next)))) (λ p. record { items = p.0; room = p.1.0; id_room = p.1.1.0; next = p.1.1.1 }) (λ _. refl)

-- there is room for a device, and for so many ids
pub record HasRoom (ids : ℕ) (t : TableView) : Type 0 where
  pub place : 0 < t.room
  pub places : ids ≤ t.id_room
  pub number : t.next + 1 < 2 ^ 64

-- ---- what is sought

-- whether it is the device that is sought
abbrev pub fits : Sought → DeviceView → Bool
fits (Device id) = is_device id
fits (Key key) = is_of_key key.now
fits (Interface id) = has_interface id

-- the id by which it is looked up
abbrev pub sought_id : Sought → ℕ
sought_id (Device id) = id
sought_id (Key key) = key.now.proxy.id
sought_id (Interface id) = id

-- whether there is a device that passes the test
abbrev pub fits_in : (DeviceView → Bool) → Option DeviceView → Bool
fits_in test None = false
fits_in test (Some d) = test d

-- ---- under numbers

-- the numbers rise
abbrev pub Numbered : List (ℕ × DeviceView) → Type 0
Numbered hs = (next : ℕ) × RiseWithin 0 next hs

-- the devices
abbrev pub values : List (ℕ × DeviceView) → List DeviceView
values hs = map (λ x. x.1) hs

-- the number of the first that passes the test
abbrev pub number_of : (DeviceView → Bool) → List (ℕ × DeviceView) → Option ℕ
number_of test [] = None
number_of test (x ∷ xs) = if test x.1 then Some x.0 else number_of test xs

-- the devices after a write: the first that passes the test is this one
abbrev pub with_first : (DeviceView → Bool) → List (ℕ × DeviceView) → DeviceView → List (ℕ × DeviceView)
with_first test [] device = []
with_first test (x ∷ xs) device = if test x.1 then (x.0, device) ∷ xs else x ∷ with_first test xs device

-- ---- which number an id has

-- the ids of a device: its own, and those of the interfaces that it has left
abbrev pub own_ids : DeviceView → List ℕ
own_ids d = d.device.proxy.id ∷ map (λ o. o.id) d.interfaces

-- these ids, each with the number
abbrev pub numbered : ℕ → List ℕ → List (ℕ × ℕ)
numbered number ids = map (λ id. (id, number)) ids

-- the ids of all devices, each with its device's number
abbrev pub ids_of : List (ℕ × DeviceView) → List (ℕ × ℕ)
ids_of [] = []
ids_of (x ∷ xs) = numbered x.0 (own_ids x.1) ++ ids_of xs

-- these ids were found with the number, one after another, and taken out
abbrev pub Forgets : ℕ → List ℕ → List (ℕ × ℕ) → List (ℕ × ℕ) → Type 0
Forgets number [] old new = new ≡ old
Forgets number (id ∷ ids) old new = (keyed id old ≡ Some number) × Forgets number ids (without_key id old) new

-- the ids of the device of that number were
abbrev pub ForgetsDevice : ℕ → List (ℕ × DeviceView) → List (ℕ × ℕ) → List (ℕ × ℕ) → Type 0
ForgetsDevice number hs old new = (d : DeviceView) × (keyed number hs ≡ Some d) × Forgets number (own_ids d) old new

-- whether the number is that of a device which isn't of the seat
abbrev pub stays : ℕ → Option DeviceView → Bool
stays seat None = false
stays seat (Some d) = not (is_of_seat seat d)

-- the numbers rise, and the ids are those of the devices, where they are said to be
pub record IsTable (hs : List (ℕ × DeviceView)) (ids : List (ℕ × ℕ)) (next : ℕ) (exact : Bool) : Type 0 where
  pub numbers : RiseWithin 0 next hs
  pub known : exact ≡ true → ids ≡ ids_of hs
