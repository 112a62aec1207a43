-- A message without a text isn't too long.
use Rattle.std.proofs.Common.{◌≡◌, ℕ, ◌*◌, ◌≤◌, Bool, true, false, leb, ◌||◌, List, [], ◌∷◌, length, Some, refl}
use Rattle.std.proofs.Common.{length-append, arith}
use Rattle.std.specs.List.{flat_map, list_all, list_any}
use Rattle.std.proofs.lemmas.Bool.{leb-true, or_parts}
use Rattle.ei_spec.specs.declared.interface.KnownInterface.{KnownInterface}
use Rattle.ei_spec.specs.Interface.{the_interfaces}
use Rattle.ei_spec.specs.Value.{Kind, U32, I32, U64, I64, Float, Text, Nullable, Handle, New, Choice, OpenChoice, Value, Word, Long, Signed, SignedLong}
use Rattle.ei_spec.specs.Value.{Fd, IsOf, written}
use Rattle.ei_spec.specs.Rows.{Row, row_at}
use Rattle.ei_spec.specs.Table.{table}
use Rattle.ei_spec.specs.Arguments.{AreOf}
use Rattle.ei_spec.specs.Message.{message, size}
use Rattle.ei_spec.proofs.EachInterface.{each_row, of_each_row}
use Rattle.ei_backend.specs.Message.{is_text}

-- ---- the rows

abbrev few : Row → Bool
few r = list_any is_text r.kinds || leb (length r.kinds) 8

all_few : (events : Bool) → list_all (each_row (λ k n r. few r) events) the_interfaces ≡ true
all_few false = refl
all_few true = refl

-- ---- the values

short_one : (k : Kind) (v : Value) → is_text k ≡ false → IsOf k v → length (written v) ≤ 8
short_one U32 (Word x) n h = omega arith
short_one U32 v n h = absurd h
short_one I32 (Signed x) n h = omega arith
short_one I32 v n h = absurd h
short_one U64 (Long x) n h = omega arith
short_one U64 v n h = absurd h
short_one I64 (SignedLong x) n h = omega arith
short_one I64 v n h = absurd h
short_one Float (Word x) n h = omega arith
short_one Float v n h = absurd h
short_one Text v n h = absurd cc
short_one Nullable v n h = absurd cc
short_one Handle (Fd x) n h = omega arith
short_one Handle v n h = absurd h
short_one New (Long x) n h = omega arith
short_one New v n h = absurd h
short_one (Choice t vs) (Word x) n h = omega arith
short_one (Choice t vs) v n h = absurd h
short_one OpenChoice (Word x) n h = omega arith
short_one OpenChoice v n h = absurd h

short_all : (kinds : List Kind) (values : List Value) → list_any is_text kinds ≡ false → AreOf kinds values → length (flat_map written values) ≤ 8 * length kinds
short_all [] [] n h = omega arith
short_all [] (v ∷ vs) n h = absurd h
short_all (k ∷ ks) [] n h = absurd h
short_all (k ∷ ks) (v ∷ vs) n h =
    let parts = or_parts (is_text k) (list_any is_text ks) n in
    omega (arith, short_one k v parts.0 h.0, short_all ks vs parts.1 h.1, length-append (written v) (flat_map written vs))

short_by : (b : Bool) (kinds : List Kind) (values : List Value) (id opcode : ℕ) → list_any is_text kinds ≡ b → (b || leb (length kinds) 8) ≡ true → AreOf kinds values → (b ≡ true → size (message id opcode values) ≤ 1048576) → size (message id opcode values) ≤ 1048576
short_by true kinds values id opcode e f are short = short refl
short_by false kinds values id opcode e f are short = omega (arith, leb-true (length kinds) 8 f, short_all kinds values e are)

pub short_row : (events : Bool) (interface : KnownInterface) (r : ℕ × Row) (id : ℕ) (values : List Value) → row_at r.0 (table events interface) ≡ Some r.1 → AreOf r.1.kinds values → (list_any is_text r.1.kinds ≡ true → size (message id r.0 values) ≤ 1048576) →
    size (message id r.0 values) ≤ 1048576
short_row events interface r id values row are short =
    short_by (list_any is_text r.1.kinds) r.1.kinds values id r.0 refl (of_each_row (λ k n r. few r) events (all_few events) interface r.0 r.1 row) are short
