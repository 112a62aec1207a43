-- Which input is bad.
use Rattle.std.proofs.Common.{◌≡◌, ℕ, ◌+◌, Bool, true, false, eqb, leb, ◌&&◌, List, length, inl, inr, refl, ap}
use Rattle.std.specs.Prelude.{not, is_some}
use Rattle.std.specs.List.{flat_map}
use Rattle.ei_spec.specs.declared.interface.KnownInterface.{KnownInterface}
use Rattle.ei_spec.specs.declared.limits.TheConstants.{MOST_MESSAGE_BYTES}
use Rattle.ei_spec.specs.Interface.{about}
use Rattle.ei_spec.specs.Rows.{row_at}
use Rattle.ei_spec.specs.Table.{table}
use Rattle.ei_spec.specs.Value.{Value, written}
use Rattle.ei_emitting.specs.Emitted.{Step, Inputs, added, is_held, is_bad, has_by, can_send, row_fits, input_of, mask_in}
use Rattle.ei_emit.specs.Targets.{may_be_input}
use Rattle.ei_emit.proofs.Fitting.{no_input}

first_false : (a b : Bool) → a ≡ false → (a && b) ≡ false
first_false a b e = ap (λ (x : Bool). x && b) e

last_false : (a b : Bool) → b ≡ false → (a && b) ≡ false
last_false true b e = e
last_false false b e = refl

both_true : (a b : Bool) → a ≡ true → b ≡ true → (a && b) ≡ true
both_true true b e f = f
both_true false b e f = absurd cc

module _ (before : List Step) (number : ℕ) (k : KnownInterface) (opcode : ℕ) (values : List Value) where
  abbrev mask : ℕ
  mask = mask_in (added before number)

  abbrev short : Bool
  short = leb (16 + length (flat_map written values)) MOST_MESSAGE_BYTES

  abbrev row : Bool
  row = row_fits (row_at opcode (table true k)) values

  abbrev some : Bool
  some = is_some (input_of k opcode values)

  pub unheld : is_held before number ≡ false → is_bad before (Inputs number k opcode values) ≡ true
  unfolding is_bad
  unheld e = ap not (first_false (is_held before number) (can_send mask k opcode values) e)

  pub cannot : can_send mask k opcode values ≡ false → is_bad before (Inputs number k opcode values) ≡ true
  unfolding is_bad
  cannot e = ap not (last_false (is_held before number) (can_send mask k opcode values) e)

  pub lacks : has_by mask (about k).bit ≡ false → is_bad before (Inputs number k opcode values) ≡ true
  lacks e = cannot (first_false (has_by mask (about k).bit) (not (eqb opcode 0) && (some && (row && short))) e)

  behind : (not (eqb opcode 0) && (some && (row && short))) ≡ false → is_bad before (Inputs number k opcode values) ≡ true
  behind e = cannot (last_false (has_by mask (about k).bit) (not (eqb opcode 0) && (some && (row && short))) e)

  pub no_event : may_be_input k opcode ≡ false → is_bad before (Inputs number k opcode values) ≡ true
  no_event e = elim (no_input k opcode values e) [
    | inl p ↦ behind (first_false (not (eqb opcode 0)) (some && (row && short)) (ap not p))
    | inr p ↦ behind (last_false (not (eqb opcode 0)) (some && (row && short)) (first_false some (row && short) p))
  ]

  pub too_long : short ≡ false → is_bad before (Inputs number k opcode values) ≡ true
  too_long e = behind (last_false (not (eqb opcode 0)) (some && (row && short)) (last_false some (row && short) (last_false row short e)))

  pub good : is_held before number ≡ true → has_by mask (about k).bit ≡ true → eqb opcode 0 ≡ false → some ≡ true → row ≡ true → short ≡ true → is_bad before (Inputs number k opcode values) ≡ false
  unfolding is_bad
  good held has one s r l =
      ap not (both_true (is_held before number) (can_send mask k opcode values) held
      (both_true (has_by mask (about k).bit) (not (eqb opcode 0) && (some && (row && short))) has
      (both_true (not (eqb opcode 0)) (some && (row && short)) (ap not one) (both_true some (row && short) s (both_true row short r l)))))
