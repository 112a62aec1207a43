-- No request takes a handle, and few messages announce an object.
use Rattle.std.proofs.Common.{◌≡◌, ℕ, Bool, true, false, eqb, ◌||◌, List, [], ◌∷◌, Some, refl, sym, ◌∙◌, inl, inr}
use Rattle.std.specs.List.{list_all}
use Rattle.std.proofs.lemmas.Bool.{or_cases, and_parts}
use Rattle.ei_spec.specs.declared.interface.KnownInterface.{KnownInterface}
use Rattle.ei_spec.specs.declared.interface.KnownInterface.TheVariants as known
use Rattle.ei_spec.specs.Value.{Kind, Handle}
use Rattle.ei_spec.specs.Rows.{Row, Announces, Nothing, Fixed, Named, row_at}
use Rattle.ei_spec.specs.Interface.{the_interfaces}
use Rattle.ei_spec.specs.Table.{table}
use Rattle.ei_spec.proofs.EachInterface.{each_row, of_each_row}
use Rattle.ei_spec.proofs.Handleless.{IsNoHandle, AreNoHandles}

-- ---- handles

abbrev is_no_handle : Kind → Bool
is_no_handle Handle = false
is_no_handle kind = true

no_handle : (kind : Kind) → is_no_handle kind ≡ true → IsNoHandle kind
no_handle Handle e = absurd cc
no_handle kind e = tt

no_handles : (kinds : List Kind) → list_all is_no_handle kinds ≡ true → AreNoHandles kinds
no_handles [] e = tt
no_handles (kind ∷ kinds) e = let parts = and_parts (is_no_handle kind) (list_all is_no_handle kinds) e in (no_handle kind parts.0, no_handles kinds parts.1)

pub takes_no_handle : (k : KnownInterface) (n : ℕ) (r : Row) → row_at n (table false k) ≡ Some r → AreNoHandles r.kinds
takes_no_handle k n r e = no_handles r.kinds (of_each_row (λ k n r. list_all is_no_handle r.kinds) false refl k n r e)

-- ---- announcements

-- whether the message of this end, interface and opcode announces an object
abbrev pub announces_at : Bool → KnownInterface → ℕ → Bool
announces_at false known.Connection n = eqb n 0
announces_at true known.Handshake n = eqb n 2
announces_at true known.Connection n = eqb n 1 || eqb n 3
announces_at true known.Seat n = eqb n 4
announces_at true known.Device n = eqb n 5
announces_at events k n = false

abbrev pub is_nothing : Announces → Bool
is_nothing Nothing = true
is_nothing _ = false

pub nothing_is : (a : Announces) → is_nothing a ≡ true → a ≡ Nothing
nothing_is Nothing e = refl
nothing_is (Fixed k) e = absurd cc
nothing_is Named e = absurd cc

abbrev is_told : Bool → KnownInterface → ℕ → Row → Bool
is_told events k n r = announces_at events k n || is_nothing r.announces

all_told : (events : Bool) → list_all (each_row (is_told events) events) the_interfaces ≡ true
all_told false = refl
all_told true = refl

pub quiet_row : (events : Bool) (k : KnownInterface) (n : ℕ) (r : Row) → announces_at events k n ≡ false → row_at n (table events k) ≡ Some r → r.announces ≡ Nothing
quiet_row events k n r quiet e = elim (or_cases _ _ (of_each_row (is_told events) events (all_told events) k n r e)) [
  | inl loud ↦ absurd (let both : true ≡ false = sym loud ∙ quiet in cc)
  | inr nothing ↦ nothing_is r.announces nothing
]
