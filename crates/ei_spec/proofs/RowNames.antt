-- A row that is found by its name is the row of its opcode.
use Rattle.std.proofs.Common.{◌≡◌, ℕ, ◌+◌, ◌<◌, ◌≤◌, Bool, true, false, cond, List, [], ◌∷◌, length, map, Option, Some, refl, sym, ap, ◌∙◌, inl, inr, arith}
use Rattle.std.proofs.Common.{leb}
use Rattle.std.specs.List.{range_with_len, list_all}
use Rattle.std.specs.Str.{bytes_eq}
use Rattle.std.proofs.lemmas.Bool.{leb-true}
use Rattle.std.proofs.lemmas.Bool.Decides.{eqb_tells}
use Rattle.ei_spec.specs.declared.interface.KnownInterface.{KnownInterface}
use Rattle.ei_spec.specs.declared.limits.TheConstants.{MOST_OPCODES}
use Rattle.ei_spec.specs.Interface.{the_interfaces}
use Rattle.ei_spec.specs.Rows.{Row, row_at, row_named}
use Rattle.ei_spec.specs.Table.{table}
use Rattle.ei_spec.proofs.EachInterface.{of_each}
use Rattle.ei_spec.proofs.TableLaws.{in_order}

-- the opcodes rise by one from n on
abbrev Rises : ℕ → List (ℕ × Row) → Type 0
Rises n [] = Unit {0}
Rises n (x ∷ xs) = (x.0 ≡ n) × Rises (n + 1) xs

rises : (n : ℕ) (rows : List (ℕ × Row)) → map (λ r. r.0) rows ≡ range_with_len n (length rows) → Rises n rows
rises n [] e = tt
rises n (x ∷ xs) e = (cc, rises (n + 1) xs cc)

at_head : (x : ℕ × Row) (xs : List (ℕ × Row)) (opcode : ℕ) → opcode ≡ x.0 → row_at opcode (x ∷ xs) ≡ Some x.1
at_head x xs opcode e = elim (eqb_tells opcode x.0) [ inl h ↦ rw h.0 refl | inr h ↦ absurd (h.1 e) ]

past_head : (x : ℕ × Row) (xs : List (ℕ × Row)) (opcode : ℕ) → x.0 < opcode → row_at opcode (x ∷ xs) ≡ row_at opcode xs
past_head x xs opcode le = elim (eqb_tells opcode x.0) [ inl h ↦ absurd (let e : opcode ≡ x.0 = h.1 in omega (arith, le, e)) | inr h ↦ rw h.0 refl ]

-- the row of its opcode, which is one of those from n on
abbrev IsAt : ℕ → List (ℕ × Row) → ℕ × Row → Type 0
IsAt n rows r = (n ≤ r.0) × (r.0 < n + length rows) × (row_at r.0 rows ≡ Some r.1)

by_name_at : (b : Bool) (rest : Option (ℕ × Row)) (n : ℕ) (x : ℕ × Row) (xs : List (ℕ × Row)) (r : ℕ × Row) → x.0 ≡ n → cond b (Some x) rest ≡ Some r → (rest ≡ Some r → IsAt (n + 1) xs r) → IsAt n (x ∷ xs) r
by_name_at true rest n x xs r e is after =
    let same : x ≡ r = cc in
    let opcode : r.0 ≡ x.0 = ap (λ y. y.0) (sym same) in
    (omega (arith, e, opcode), omega (arith, e, opcode), at_head x xs r.0 opcode ∙ ap (λ y. Some y.1) same)
by_name_at false rest n x xs r e is after =
    let there = after is in
    (omega (arith, there.0), omega (arith, there.1), past_head x xs r.0 (omega (arith, e, there.0)) ∙ there.2)

by_name : (name : List ℕ) (rows : List (ℕ × Row)) (n : ℕ) (r : ℕ × Row) → Rises n rows → row_named name rows ≡ Some r → IsAt n rows r
by_name name [] n r up is = absurd cc
by_name name (x ∷ xs) n r up is = by_name_at (bytes_eq name x.1.name) (row_named name xs) n x xs r up.0 is (by_name name xs (n + 1) r up.1)

few : (events : Bool) (interface : KnownInterface) → length (table events interface) ≤ MOST_OPCODES
few events interface = leb-true _ MOST_OPCODES (of_each (λ (i : KnownInterface). leb (length (table events i)) MOST_OPCODES) (computed events) interface)
  where
    computed : (events : Bool) → list_all (λ (i : KnownInterface). leb (length (table events i)) MOST_OPCODES) the_interfaces ≡ true
    computed false = refl
    computed true = refl

pub row_of_name : (events : Bool) (interface : KnownInterface) (name : List ℕ) (r : ℕ × Row) → row_named name (table events interface) ≡ Some r → (r.0 < MOST_OPCODES) × (row_at r.0 (table events interface) ≡ Some r.1)
row_of_name events interface name r is =
    let there = by_name name (table events interface) 0 r (rises 0 (table events interface) (in_order events interface)) is in
    (omega (arith, there.1, few events interface), there.2)
