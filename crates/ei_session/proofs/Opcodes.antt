-- The opcodes that requests of a name have.
use Rattle.std.proofs.Common.{◌≡◌, ℕ, Bool, true, false, cond, eqb, List, [], ◌∷◌, Option, Some, None, refl, ap, ◌∙◌, ◌⊎◌, arith, inl, inr}
use Rattle.std.specs.Prelude.{is_some, codes}
use Rattle.std.proofs.lemmas.Bool.{eqb-true}
use Rattle.ei_spec.specs.declared.interface.KnownInterface.{KnownInterface}
use Rattle.ei_spec.specs.Value.{Value}
use Rattle.ei_spec.specs.Rows.{Row, row_named}
use Rattle.ei_spec.specs.Table.{table}
use Rattle.ei_spec.specs.Message.{Raw}
use Rattle.ei_session.specs.Arguments.{row_args}
use Rattle.ei_session.specs.Asked.{args_by, asked, asks, first, long}
use Rattle.ei_session.specs.Devices.{asked_mask}
use Rattle.ei_session.proofs.Choices.{none_some}
use Rattle.ei_spec.proofs.EachInterface.{of_each}

-- the opcode of a message that is of this row
pub opcode_of : (n : ℕ) (r : Row) (m : Raw) → is_some (args_by (Some (n, r)) m) ≡ true → m.opcode ≡ n
opcode_of n r m h = by_test (eqb m.opcode n) refl h
  where
    by_test : (b : Bool) → eqb m.opcode n ≡ b → is_some (cond b (row_args (Some r) m) None) ≡ true → m.opcode ≡ n
    by_test true e h = eqb-true m.opcode n e
    by_test false e h = absurd cc

pub args_opcode : (n : ℕ) (r : Row) (m : Raw) (args : List Value) → args_by (Some (n, r)) m ≡ Some args → m.opcode ≡ n
args_opcode n r m args h = opcode_of n r m (ap is_some h)

abbrev is_first : Option (ℕ × Row) → Bool
is_first None = true
is_first (Some row) = eqb row.0 0

-- a release has opcode 0
pub release_opcode : (k : KnownInterface) (m : Raw) → asks k (codes "release") m ≡ true → m.opcode ≡ 0
unfolding asks asked
release_opcode k m h = by (row_named (codes "release") (table false k)) (of_each (λ (i : KnownInterface). is_first (row_named (codes "release") (table false i))) refl k) h
  where
    by : (o : Option (ℕ × Row)) → is_first o ≡ true → is_some (args_by o m) ≡ true → m.opcode ≡ 0
    by None t h = absurd cc
    by (Some row) t h = opcode_of row.0 row.1 m h ∙ eqb-true row.0 0 t

first_two : (a b : Option ℕ) (x : ℕ) → first (a ∷ b ∷ []) ≡ Some x → (is_some a ≡ true) ⊎ (is_some b ≡ true)
first_two (Some a) b x h = inl refl
first_two None (Some b) x h = inr refl
first_two None None x h = absurd (none_some x h)

long_some : (args : Option (List Value)) → is_some (long (λ (mask : ℕ). mask) args) ≡ true → is_some args ≡ true
long_some None h = absurd cc
long_some (Some args) h = refl

-- a `bind` or `request_device` has opcode 1 or 2
pub mask_opcode : (m : Raw) (mask : ℕ) → asked_mask m ≡ Some mask → (m.opcode ≡ 1) ⊎ (m.opcode ≡ 2)
unfolding asked_mask asked
mask_opcode m mask h =
    elim (first_two _ _ mask h) [
      | inl a ↦ inl (opcode_of 1 _ m (long_some _ a))
      | inr b ↦ inr (opcode_of 2 _ m (long_some _ b))
    ]

-- and so it is no release
pub mask_no_release : (m : Raw) (mask : ℕ) (k : KnownInterface) → asked_mask m ≡ Some mask → asks k (codes "release") m ≡ false
mask_no_release m mask k h = by_test (asks k (codes "release") m) refl
  where
    by_test : (b : Bool) → asks k (codes "release") m ≡ b → asks k (codes "release") m ≡ false
    by_test true e = let o = release_opcode k m e in absurd (elim (mask_opcode m mask h) [ inl a ↦ omega (arith, a, o) | inr b ↦ omega (arith, b, o) ])
    by_test false e = e
