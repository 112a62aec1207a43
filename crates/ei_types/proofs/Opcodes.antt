-- The row of an opcode is the one at that place.
use Rattle.std.proofs.Common.{◌≡◌, ℕ, ◌+◌, Bool, false, eqb, List, [], ◌∷◌, length, Option, Some, None, map, zero, suc, refl, ap, ◌∙◌, sym, arith, inl, inr}
use Rattle.std.proofs.lemmas.Bool.{eq-eqb}
use Rattle.std.proofs.lemmas.Bool.Decides.{eqb_tells}
use Rattle.std.specs.Prelude.{slice_get}
use Rattle.std.specs.Option.{option_map}
use Rattle.std.specs.List.{range_with_len}
use Rattle.std.proofs.lemmas.Option.{slice_get-map}
use Rattle.ei_spec.specs.declared.interface.KnownInterface.{KnownInterface}
use Rattle.ei_spec.specs.Rows.{Row, row_at}
use Rattle.ei_spec.specs.Table.{table, names}
use Rattle.ei_spec.proofs.TableLaws.{in_order}
use Rattle.ei_types.specs.Operations.{name_at}

differs : (a b : ℕ) → (a ≡ b → ⊥) → eqb a b ≡ false
differs a b ne = elim (eqb_tells a b) [ inl same ↦ absurd (ne same.1) | inr other ↦ other.0 ]

row_of : (start opcode k : ℕ) (rows : List (ℕ × Row)) → map (λ (r : ℕ × Row). r.0) rows ≡ range_with_len start (length rows) → opcode ≡ start + k → row_at opcode rows ≡ option_map (λ (r : ℕ × Row). r.1) (slice_get rows k)
row_of start opcode k [] e at = refl
row_of start opcode zero (r ∷ rs) e at =
    let here : r.0 ≡ start = cc in rw (eq-eqb opcode r.0 (omega arith)) refl
row_of start opcode (suc k) (r ∷ rs) e at =
    let here : r.0 ≡ start = cc in
    let rest : map (λ (x : ℕ × Row). x.0) rs ≡ range_with_len (start + 1) (length rs) = cc in
    rw (differs opcode r.0 (λ same. omega arith)) (row_of (start + 1) opcode k rs rest (omega arith))

name_in : (o : Option (ℕ × Row)) → option_map (λ (r : Row). r.name) (option_map (λ (r : ℕ × Row). r.1) o) ≡ option_map (λ (r : ℕ × Row). r.1.name) o
name_in None = refl
name_in (Some r) = refl

pub name_of_place : (events : Bool) (interface : KnownInterface) (opcode : ℕ) → name_at events interface opcode ≡ slice_get (names events interface) opcode
name_of_place events interface opcode =
    ap (option_map (λ (r : Row). r.name)) (row_of 0 opcode opcode (table events interface) (in_order events interface) (omega arith))
    ∙ name_in (slice_get (table events interface) opcode)
    ∙ sym (slice_get-map (λ (r : ℕ × Row). r.1.name) (table events interface) opcode)
