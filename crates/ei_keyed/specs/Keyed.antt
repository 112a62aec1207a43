-- Values by keys, in the order in which they were put in.
use Rattle.std.specs.Prelude.{◌≡◌, Bool, ℕ, ◌+◌, ◌≤◌, List, [], ◌∷◌, Option, Some, None, ◌==◌, if◌then◌else◌, refl}
use Rattle.std.specs.Fn.{FnReturnsAt}
use Rattle.std.specs.Borrow.{Bor}
use denote.Param.Members.{Shared}
use Rattle.std.specs.Coded.{Coded, code_by, coded×, coded_ℕ, coded_list}

-- the keys and their values, and how many more there is room for
pub record KeyedView (V : Type 0) : Type 0 where
  pub items : List (ℕ × V)
  pub room : ℕ

-- it is stored as the pair of its fields
abbrev pub keyed_code : {V : Type 0} → Coded V → Coded (KeyedView V)
keyed_code {V} code = code_by (List (ℕ × V) × ℕ) (coded× (coded_list (coded× coded_ℕ code)) coded_ℕ) (λ k. (k.items, k.room))
    (λ p. record { items = p.0; room = p.1 }) (λ _. refl)

module _ {V : Type 0} where
  -- the value of a key: that of the first entry which has it
  abbrev pub keyed : ℕ → List (ℕ × V) → Option V
  keyed key [] = None
  keyed key (x ∷ xs) = if key == x.0 then Some x.1 else keyed key xs

  -- the entries after a write: the first of the key has this value
  abbrev pub with_value : ℕ → List (ℕ × V) → V → List (ℕ × V)
  with_value key [] value = []
  with_value key (x ∷ xs) value = if key == x.0 then (key, value) ∷ xs else x ∷ with_value key xs value

  -- the entries without the first of the key
  abbrev pub without_key : ℕ → List (ℕ × V) → List (ℕ × V)
  without_key key [] = []
  without_key key (x ∷ xs) = if key == x.0 then xs else x ∷ without_key key xs

  -- the keys rise, from one number on
  abbrev pub RiseFrom : ℕ → List (ℕ × V) → Type 0
  RiseFrom from [] = Unit {0}
  RiseFrom from (x ∷ xs) = (from ≤ x.0) × RiseFrom (x.0 + 1) xs

  -- the keys rise, from one number on and below another
  abbrev pub RiseWithin : ℕ → ℕ → List (ℕ × V) → Type 0
  RiseWithin from end [] = from ≤ end
  RiseWithin from end (x ∷ xs) = (from ≤ x.0) × RiseWithin (x.0 + 1) end xs

  -- the closure answers by the value alone, and so
  abbrev pub Decides : {F : Type 0} → Shared F (Bor V × Unit {0}) Bool → (V → Bool) → F → Type 0
  Decides g kept test = (value : V) (answer : Bool) → FnReturnsAt g test value answer → answer ≡ kept value
