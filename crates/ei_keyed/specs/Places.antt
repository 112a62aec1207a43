-- How `Keyed` keeps its values: in places, of which some were taken out. No public clause cites this module.
use Rattle.std.specs.Prelude.{◌≡◌, ℕ, ◌<◌, Bool, true, ◌&&◌, List, [], ◌∷◌, length, Option, Some, None, is_some, position, ◌==◌, if◌then◌else◌, refl}
use Rattle.std.specs.List.{HoldsAt}
use Rattle.std.specs.Coded.{Coded, code_by, coded×, coded_ℕ, coded_list, coded_option}
use Rattle.ei_keyed.specs.Keyed.{RiseFrom}

-- the places, and how many more there is room for
pub record PlacesView (V : Type 0) : Type 0 where
  pub places : List (ℕ × Option V)
  pub room : ℕ

-- they are stored as the pair of its fields
abbrev pub places_code : {V : Type 0} → Coded V → Coded (PlacesView V)
places_code {V} code = code_by (List (ℕ × Option V) × ℕ) (coded× (coded_list (coded× coded_ℕ (coded_option code))) coded_ℕ) (λ k. (k.places, k.room))
    (λ p. record { places = p.0; room = p.1 }) (λ _. refl)

module _ {V : Type 0} where
  -- the entries of a place, in front of others: one, or none where the value was taken out
  abbrev pub with_place : ℕ → Option V → List (ℕ × V) → List (ℕ × V)
  with_place key None items = items
  with_place key (Some value) items = (key, value) ∷ items

  -- the entries: the places that have a value
  abbrev pub live : List (ℕ × Option V) → List (ℕ × V)
  live [] = []
  live (x ∷ xs) = with_place x.0 x.1 (live xs)

  -- whether the place has a value, and this key
  abbrev pub is_of_key : ℕ → ℕ × Option V → Bool
  is_of_key key x = (key == x.0) && is_some x.1

  -- the place is the first that has a value and this key
  abbrev pub IsPlace : ℕ → List (ℕ × Option V) → ℕ → Type 0
  IsPlace key xs at = position (is_of_key key) xs ≡ Some at

  -- the place has this key
  pub record HasKey (key : ℕ) (xs : List (ℕ × Option V)) (at : ℕ) : Type 0 where
    pub within : at < length xs
    pub has : HoldsAt (λ x. x.0 ≡ key) xs at

  -- so many places have a value, and the keys rise where they are said to
  pub record IsKept (xs : List (ℕ × Option V)) (count : ℕ) (rising : Bool) : Type 0 where
    pub counted : count ≡ length (live xs)
    pub rises : rising ≡ true → RiseFrom 0 xs

  -- the places after a write: the first that has a value and this key has this value
  abbrev pub with_written : ℕ → List (ℕ × Option V) → V → List (ℕ × Option V)
  with_written key [] value = []
  with_written key (x ∷ xs) value = if is_of_key key x then (key, Some value) ∷ xs else x ∷ with_written key xs value
