-- A message of the table has at most one handle. With one it announces nothing, and has at least 24 bytes.
use Rattle.std.proofs.Common.{◌≡◌, ℕ, ◌+◌, ◌≤◌, Bool, true, false, eqb, leb, ◌&&◌, ◌||◌, ◌⊎◌, inl, inr, List, [], ◌∷◌, ◌++◌, length, Some, refl}
use Rattle.std.proofs.Common.{◌∙◌, length-append, arith}
use Rattle.std.specs.Prelude.{replicate}
use Rattle.std.specs.Int.{w32, to_le_bytes}
use Rattle.std.specs.List.{flat_map, list_all}
use Rattle.std.proofs.lemmas.Bool.{eqb-true, leb-true, or_cases, and_parts}
use Rattle.ei_spec.specs.declared.interface.KnownInterface.{KnownInterface}
use Rattle.ei_spec.specs.Value.{Kind, U32, I32, U64, I64, Float, Text, Nullable, Handle, New, Choice, OpenChoice, Value, Word, Long, Signed, SignedLong}
use Rattle.ei_spec.specs.Value.{Letters, Null, Fd, IsOf, written, handles_of, padding}
use Rattle.ei_spec.specs.Rows.{Row, Nothing, row_at}
use Rattle.ei_spec.specs.Interface.{the_interfaces}
use Rattle.ei_spec.specs.Table.{table}
use Rattle.ei_spec.specs.Arguments.{AreOf, HasFewHandles}
use Rattle.ei_spec.proofs.EachInterface.{each_row, of_each_row}
use Rattle.ei_spec.proofs.QuietRows.{is_nothing, nothing_is}

abbrev handles_as : Kind → ℕ
handles_as Handle = 1
handles_as _ = 0

abbrev bytes_as : Kind → ℕ
bytes_as U64 = 8
bytes_as I64 = 8
bytes_as New = 8
bytes_as Handle = 0
bytes_as _ = 4

abbrev handles_by : List Kind → ℕ
handles_by [] = 0
handles_by (k ∷ ks) = handles_as k + handles_by ks

abbrev bytes_by : List Kind → ℕ
bytes_by [] = 0
bytes_by (k ∷ ks) = bytes_as k + bytes_by ks

abbrev few : Row → Bool
few r = eqb (handles_by r.kinds) 0 || (eqb (handles_by r.kinds) 1 && (is_nothing r.announces && leb 8 (bytes_by r.kinds)))

-- ---- values

one_handle : (k : Kind) (v : Value) → IsOf k v → length (handles_of v) ≡ handles_as k
one_handle U32 (Word x) h = refl
one_handle U32 v h = absurd h
one_handle I32 (Signed x) h = refl
one_handle I32 v h = absurd h
one_handle U64 (Long x) h = refl
one_handle U64 v h = absurd h
one_handle I64 (SignedLong x) h = refl
one_handle I64 v h = absurd h
one_handle Float (Word x) h = refl
one_handle Float v h = absurd h
one_handle Text (Letters x) h = refl
one_handle Text v h = absurd h
one_handle Nullable (Letters x) h = refl
one_handle Nullable Null h = refl
one_handle Nullable v h = absurd h
one_handle Handle (Fd x) h = refl
one_handle Handle v h = absurd h
one_handle New (Long x) h = refl
one_handle New v h = absurd h
one_handle (Choice n vs) (Word x) h = refl
one_handle (Choice n vs) v h = absurd h
one_handle OpenChoice (Word x) h = refl
one_handle OpenChoice v h = absurd h

text_long : (t : List ℕ) → 4 ≤ length (written (Letters t))
text_long t =
    let start : List ℕ = to_le_bytes w32 (length t + 1) in
    let tail : List ℕ = replicate (1 + padding (length t + 1)) 0 in
    omega (arith, length-append (start ++ t) tail, length-append start t)

some_bytes : (k : Kind) (v : Value) → IsOf k v → bytes_as k ≤ length (written v)
some_bytes U32 (Word x) h = omega arith
some_bytes U32 v h = absurd h
some_bytes I32 (Signed x) h = omega arith
some_bytes I32 v h = absurd h
some_bytes U64 (Long x) h = omega arith
some_bytes U64 v h = absurd h
some_bytes I64 (SignedLong x) h = omega arith
some_bytes I64 v h = absurd h
some_bytes Float (Word x) h = omega arith
some_bytes Float v h = absurd h
some_bytes Text (Letters x) h = text_long x
some_bytes Text v h = absurd h
some_bytes Nullable (Letters x) h = text_long x
some_bytes Nullable Null h = omega arith
some_bytes Nullable v h = absurd h
some_bytes Handle (Fd x) h = omega arith
some_bytes Handle v h = absurd h
some_bytes New (Long x) h = omega arith
some_bytes New v h = absurd h
some_bytes (Choice n vs) (Word x) h = omega arith
some_bytes (Choice n vs) v h = absurd h
some_bytes OpenChoice (Word x) h = omega arith
some_bytes OpenChoice v h = absurd h

all_handles : (ks : List Kind) (vs : List Value) → AreOf ks vs → length (flat_map handles_of vs) ≡ handles_by ks
all_handles [] [] h = refl
all_handles [] (v ∷ vs) h = absurd h
all_handles (k ∷ ks) [] h = absurd h
all_handles (k ∷ ks) (v ∷ vs) h = omega (arith, length-append (handles_of v) (flat_map handles_of vs), one_handle k v h.0, all_handles ks vs h.1)

all_bytes : (ks : List Kind) (vs : List Value) → AreOf ks vs → bytes_by ks ≤ length (flat_map written vs)
all_bytes [] [] h = omega arith
all_bytes [] (v ∷ vs) h = absurd h
all_bytes (k ∷ ks) [] h = absurd h
all_bytes (k ∷ ks) (v ∷ vs) h = omega (arith, length-append (written v) (flat_map written vs), some_bytes k v h.0, all_bytes ks vs h.1)

-- ---- a message

few_cases : (r : Row) → few r ≡ true → (handles_by r.kinds ≡ 0) ⊎ ((handles_by r.kinds ≡ 1) × (r.announces ≡ Nothing) × (8 ≤ bytes_by r.kinds))
few_cases r e = elim (or_cases _ _ e) [
  | inl p ↦ inl (eqb-true _ 0 p)
  | inr p ↦
      let a = and_parts (eqb (handles_by r.kinds) 1) (is_nothing r.announces && leb 8 (bytes_by r.kinds)) p in
      let b = and_parts (is_nothing r.announces) (leb 8 (bytes_by r.kinds)) a.1 in
      inr (eqb-true _ 1 a.0, nothing_is r.announces b.0, leb-true 8 (bytes_by r.kinds) b.1)
]

few_row : (events : Bool) (interface : KnownInterface) (opcode : ℕ) (r : Row) → row_at opcode (table events interface) ≡ Some r → few r ≡ true
few_row events interface opcode r e = of_each_row (λ k n r. few r) events (computed events) interface opcode r e
  where
    computed : (events : Bool) → list_all (each_row (λ k n r. few r) events) the_interfaces ≡ true
    computed false = refl
    computed true = refl

pub few_handles : (events : Bool) (interface : KnownInterface) (opcode : ℕ) (r : Row) (values : List Value) → row_at opcode (table events interface) ≡ Some r → AreOf r.kinds values → HasFewHandles values
few_handles events interface opcode r values row are =
    let hs = all_handles r.kinds values are in
    let bs = all_bytes r.kinds values are in
    elim (few_cases r (few_row events interface opcode r row)) [
      | inl p ↦ record { one = omega (arith, hs, p); long = omega (arith, hs, p) }
      | inr p ↦ record { one = omega (arith, hs, p.0); long = omega (arith, hs, p.0, bs, p.2) }
    ]

-- what announces an object has no handle
pub new_or_handle : (events : Bool) (interface : KnownInterface) (opcode : ℕ) (r : Row) (values : List Value) → row_at opcode (table events interface) ≡ Some r → AreOf r.kinds values → (length (flat_map handles_of values) ≡ 0) ⊎ (r.announces ≡ Nothing)
new_or_handle events interface opcode r values row are = elim (few_cases r (few_row events interface opcode r row)) [
  | inl p ↦ inl (all_handles r.kinds values are ∙ p)
  | inr p ↦ inr p.1
]
