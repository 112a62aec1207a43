-- Numbers of four and eight bytes, written and read.
use Rattle.std.proofs.Common.{◌≡◌, ℕ, ◌+◌, ◌^◌, ◌<◌, List, length, take, drop, refl, arith, inl, inr}
use Rattle.std.proofs.lemmas.Bool.{cases_lt}
use Rattle.std.proofs.lemmas.List.{length-take, get_or-drop, get_or-take, get_or_past}
use Rattle.std.proofs.lemmas.Nat.{le_bytes_4, le_bytes_8, from_le_bytes-to_le_bytes_4, from_le_bytes-to_le_bytes_8}
use Rattle.ei_spec.specs.Message.{le4, le8, of_le4, of_le8, IsBytes}

pub len4 : (n : ℕ) → length (le4 n) ≡ 4
unfolding le4
len4 n = refl

pub len8 : (n : ℕ) → length (le8 n) ≡ 8
unfolding le8
len8 n = refl

pub back4 : (n : ℕ) → n < 2 ^ 32 → of_le4 (le4 n) ≡ n
unfolding le4 of_le4
back4 n lt = from_le_bytes-to_le_bytes_4 n lt

pub back8 : (n : ℕ) → n < 2 ^ 64 → of_le8 (le8 n) ≡ n
unfolding le8 of_le8
back8 n lt = from_le_bytes-to_le_bytes_8 n lt

pub IsBytes-drop : (n : ℕ) (bytes : List ℕ) → IsBytes bytes → IsBytes (drop n bytes)
IsBytes-drop n bytes h i = rw get_or-drop (h (n + i))

pub IsBytes-take : (n : ℕ) (bytes : List ℕ) → IsBytes bytes → IsBytes (take n bytes)
IsBytes-take n bytes h i =
    elim (cases_lt i n) [
      | inl lt ↦ rw (get_or-take n bytes i 0 lt) (h i)
      | inr le ↦ rw (get_or_past (take n bytes) i 0 (omega (arith, length-take n bytes))) (omega arith)
    ]

pub to4 : (bytes : List ℕ) → length bytes ≡ 4 → IsBytes bytes → le4 (of_le4 bytes) ≡ bytes
unfolding le4 of_le4
to4 bytes len h = le_bytes_4 bytes _ len h refl

pub below4 : (bytes : List ℕ) → IsBytes bytes → of_le4 bytes < 2 ^ 32
unfolding of_le4
below4 bytes h = omega (arith, h 0, h 1, h 2, h 3)

pub to8 : (bytes : List ℕ) → length bytes ≡ 8 → IsBytes bytes → le8 (of_le8 bytes) ≡ bytes
unfolding le8 of_le8
to8 bytes len h = le_bytes_8 bytes _ len h refl

pub below8 : (bytes : List ℕ) → IsBytes bytes → of_le8 bytes < 2 ^ 64
unfolding of_le8
below8 bytes h = omega (arith, h 0, h 1, h 2, h 3, h 4, h 5, h 6, h 7)
