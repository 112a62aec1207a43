-- What more bytes make of the message at the front.
use Rattle.std.proofs.Common.{◌≡◌, ℕ, ◌<◌, ◌≤◌, List, ◌++◌, length, take, drop, refl, ap, ◌∙◌, arith}
use Rattle.std.proofs.lemmas.Bool.{lt-ltb, le-ltb}
use Rattle.std.proofs.lemmas.List.{take-append-le, drop-append-le, length-append, length-drop}
use Rattle.ei_spec.specs.Message.{Short, of_le4, size_at, front}
use Rattle.ei_backend.specs.Front.{IsNeeded}

size_more : (bytes more : List ℕ) → 16 ≤ length bytes → size_at (bytes ++ more) ≡ size_at bytes
size_more bytes more le =
    let a : drop 8 (bytes ++ more) ≡ drop 8 bytes ++ more = drop-append-le 8 bytes more (omega arith) in
    let b : take 4 (drop 8 bytes ++ more) ≡ take 4 (drop 8 bytes) = take-append-le 4 (drop 8 bytes) more (omega (arith, length-drop 8 bytes)) in
    ap (λ (x : List ℕ). of_le4 (take 4 x)) a ∙ ap of_le4 b

-- the header says how many bytes are needed
short_at : (bytes : List ℕ) → 16 ≤ length bytes → 16 ≤ size_at bytes → size_at bytes ≤ 1048576 → length bytes < size_at bytes → front bytes ≡ Short
unfolding front
short_at bytes header low high less = rw (le-ltb (length bytes) 16 header, le-ltb (size_at bytes) 16 low, le-ltb 1048576 (size_at bytes) high, lt-ltb (length bytes) (size_at bytes) less) refl

pub is_needed : (bytes : List ℕ) (n : ℕ) → size_at bytes ≡ n → 16 ≤ length bytes → 16 ≤ n → n ≤ 1048576 → length bytes < n → IsNeeded bytes n
is_needed bytes n is header low high less = record {
  missing = less;
  short = λ more few.
      let s = size_more bytes more header in
      let l = length-append bytes more in
      short_at (bytes ++ more) (omega (arith, l)) (omega (arith, s, is)) (omega (arith, s, is)) (omega (arith, s, is, l));
}
