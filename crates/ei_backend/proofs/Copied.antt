-- The first bytes of two slices, copied one behind the other.
use Rattle.std.proofs.Common.{◌≡◌, ℕ, ◌+◌, ◌-◌, ◌≤◌, ◌⊎◌, inl, inr, List, ◌++◌, length, take, sym, ap, subst, ◌∙◌, arith}
use Rattle.std.specs.Prelude.{min}
use Rattle.std.proofs.lemmas.List.{length-append, take-append-le, length-take-le, append_assoc, append-nil}
use Rattle.std.proofs.lemmas.Bool.Decides.{leb_tells}
use Rattle.std.proofs.Math.Seq.{take-length, take-append_seam, take-append-add}

seam : (n : ℕ) (xs ys : List ℕ) → length xs ≡ n → take n (xs ++ ys) ≡ xs
seam n xs ys len = subst (λ (k : ℕ). take k (xs ++ ys) ≡ xs) len (take-append_seam xs ys)

taken : (first second : List ℕ) (f s : ℕ) → f ≤ length first → (f ≡ length first) ⊎ (s ≡ 0) → take f first ++ take s second ≡ take (f + s) (first ++ second)
taken first second f s le (inl all) = rw all (ap (λ (l : List ℕ). l ++ take s second) (take-length first) ∙ sym (take-append-add first second s))
taken first second f s le (inr none) = let same : f + 0 ≡ f = omega arith in rw (none, same) (append-nil (take f first) ∙ sym (take-append-le f first second le))

all_or_none : (a b c f s : ℕ) → f ≡ min a c → s ≡ min b (c - f) → (f ≡ a) ⊎ (s ≡ 0)
all_or_none a b c f s is then = elim (leb_tells a c) [
  | inl l ↦ inl (omega (arith, is, l.1))
  | inr r ↦ inr (omega (arith, is, then, r.1))
]

pub copied : (first second x y behind more : List ℕ) (f s room : ℕ) → f ≡ min (length first) room → s ≡ min (length second) (room - f) → x ≡ take f first → y ≡ take s second →
    take (f + s) (take f (x ++ behind) ++ (y ++ more)) ≡ take (f + s) (first ++ second)
copied first second x y behind more f s room is then first_is second_is =
    let le : f ≤ length first = omega (arith, is) in
    let le_second : s ≤ length second = omega (arith, then) in
    let len : length x ≡ f = ap (λ (l : List ℕ). length l) first_is ∙ length-take-le f first le in
    let len_second : length y ≡ s = ap (λ (l : List ℕ). length l) second_is ∙ length-take-le s second le_second in
    let both : length (x ++ y) ≡ f + s = omega (arith, length-append x y, len, len_second) in
    ap (λ (l : List ℕ). take (f + s) (l ++ (y ++ more))) (seam f x behind len) ∙ ap (λ (l : List ℕ). take (f + s) l) (sym (append_assoc x y more)) ∙ seam (f + s) (x ++ y) more both
    ∙ ap (λ (l : List ℕ). l ++ y) first_is ∙ ap (λ (l : List ℕ). take f first ++ l) second_is ∙ taken first second f s le (all_or_none (length first) (length second) room f s is then)
