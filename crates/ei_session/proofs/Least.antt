-- The least number, as a loop finds it.
use Rattle.std.proofs.Common.{◌≡◌, ℕ, zero, suc, ◌+◌, ◌<◌, ◌≤◌, Bool, true, false, Some, None, refl, ap, ◌∙◌, arith, inl, inr}
use Rattle.std.proofs.lemmas.Bool.{cases_lt}
use Rattle.ei_session.specs.Served.{least}

pub least_none : (test : ℕ → Bool) (k n : ℕ) → ((j : ℕ) → k ≤ j → j < k + n → test j ≡ false) → least test k n ≡ None
unfolding least
least_none test k zero h = refl
least_none test k (suc n) h = rw (h k (omega arith) (omega arith), least) (least_none test (k + 1) n (λ j a b. h j (omega arith) (omega arith)))

-- the search from k on, where m is the first
least_from : (test : ℕ → Bool) (m : ℕ) → test m ≡ true → (n k : ℕ) → k ≤ m → m < k + n → ((j : ℕ) → k ≤ j → j < m → test j ≡ false) → least test k n ≡ Some m
unfolding least
least_from test m passes zero k low high h = absurd (omega arith)
least_from test m passes (suc n) k low high h =
    elim (cases_lt k m) [
      | inl lt ↦ rw (h k (omega arith) lt, least) (least_from test m passes n (k + 1) (omega arith) (omega arith) (λ j a b. h j (omega arith) b))
      | inr ge ↦ let e : k ≡ m = omega arith in let t : test k ≡ true = ap test e ∙ passes in rw (t, least) (ap Some e)
    ]

pub least_some : (test : ℕ → Bool) (k n m : ℕ) → k ≤ m → m < k + n → ((j : ℕ) → k ≤ j → j < m → test j ≡ false) → test m ≡ true → least test k n ≡ Some m
least_some test k n m low high h passes = least_from test m passes n k low high h
